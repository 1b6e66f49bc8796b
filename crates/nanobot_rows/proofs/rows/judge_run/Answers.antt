use Rattle.std.proofs.Common.{◌≡◌, refl, rules, subst, Err}
use Rattle.nano_spec.proofs.Opening.{legal_is}
use Rattle.nano_spec.specs.declared.system.Profile.{Profile}
use Rattle.nanobot_words.specs.Parsing.{side_of}
use Rattle.nanobot_words.specs.Rows.{run}
use Rattle.vox_depot.specs.Causes.{Rose}
use Rattle.plan_choice.specs.Planners.{byte_limit}
use Rattle.nanobot_rows.proofs.Paying.{run_untouched, run_within}
use Rattle.nanobot_rows.specs.Answer.{AnswerOf, ModelsOf, OfRun, TraceOf, Upon, profile_of}
use Rattle.nanobot_rows.specs.Reading.{EndsUnstored, reply_of}
use Rattle.nanobot_rows.specs.Touching.{IsWithinFile}
use Rattle.nanobot_rows.proofs.Replies.{one_named, says_found, says_stops}
use Rattle.nanobot_rows.proofs.rows.judge_run.Goals as goal

pub returns-in_err-source-clause-ends : goal.returns-in_err-source-clause-ends
returns-in_err-source-clause-ends g c =
    let is : c.from_residual.result ≡ Err c.in_err-source.field-0.0 = search rules in
    rw is (says_stops (ModelsOf (side_of c.args.source) (side_of c.args.target)) (AnswerOf (run c.args.round (side_of c.args.source) (side_of c.args.target) c.args.trace.now)) reply_of (λ files end h. (Err end, h, refl)) _ _ c.in_err-source.field-0.0 (c.in_err-source.ensures {u = tt}).reads)

pub returns-in_err-source-clause-within : goal.returns-in_err-source-clause-within
returns-in_err-source-clause-within g c = λ _. run_untouched c.args.round _ (side_of c.args.source) (side_of c.args.target) c.args.trace.now c.every_run_has_work.ensures.run _ _ refl

pub returns-clause-ends : goal.returns-clause-ends
returns-clause-ends g c =
    let source = c.in_ok-source.source in
    let target = c.in_ok-source.target in
    let judged = subst (λ (p : Profile). EndsUnstored (Upon (TraceOf byte_limit c.args.trace.now) (OfRun p source target)) (g.D.Depot.files c.load_models.new.depot) (Rose (g.D.Depot.faults c.load_models.new.depot) (g.D.Depot.faults c.run_trace.new.depot)) c.run_trace.result) c.profile_of-profile.ensures.value c.run_trace.ensures.ends in
    says_found (ModelsOf (side_of c.args.source) (side_of c.args.target)) (λ models. Upon (TraceOf byte_limit c.args.trace.now) (OfRun (profile_of c.args.round) models.0 models.1)) reply_of (source, target) _ _ _ _ _ c.run_trace.result
    (c.in_ok-source.ensures {u = tt}).reads c.load_models.ensures.only_reads.files c.load_models.ensures.only_reads.later judged

pub returns-clause-within : goal.returns-clause-within
returns-clause-within g c = λ no_memory.
    let within = subst (λ (p : Profile). IsWithinFile p c.in_ok-source.source (g.D.Depot.files c.load_models.new.depot) c.args.trace.now c.args.steps.now c.run_trace.new.steps) c.profile_of-profile.ensures.value (c.run_trace.ensures.within no_memory) in
    run_within c.args.round _ (side_of c.args.source) (side_of c.args.target) c.args.trace.now (one_named _ _ c.requires.some) c.in_ok-source.source c.in_ok-source.target _ _ _ (c.in_ok-source.ensures {u = tt}).reads c.load_models.ensures.only_reads.files within

pub run_trace-requires-clause-grounded : goal.run_trace-requires-clause-grounded
run_trace-requires-clause-grounded g c = (legal_is c.in_ok-source.source (c.in_ok-source.ensures {u = tt}).source).1
