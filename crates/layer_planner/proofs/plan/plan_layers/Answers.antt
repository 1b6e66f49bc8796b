use Rattle.std.proofs.Common.{sym, ◌∙◌, ap, subst, arith}
use Rattle.std.proofs.lemmas.Result.{IfOk-weaker}
use Rattle.nano_spec.specs.Legal.{IsLegal}
use Rattle.nano_spec.specs.Matrix.{Matrix, is_full}
use Rattle.nano_spec.specs.Profile.{full_profile}
use Rattle.plan_tape.proofs.Closing.{accepted_to, few_made}
use Rattle.plan_tape.proofs.LegalModels.{empty_is_void}
use Rattle.plan_tape.proofs.Lowest.{not_same}
use Rattle.layer_planner.proofs.plan.plan_layers.Goals as goal

pub rebuild-requires-clause-nothing : goal.rebuild-requires-clause-nothing
rebuild-requires-clause-nothing c = λ d l. ap (λ (m : Matrix). is_full m d) c.in_ok-nothing.ensures.value ∙ empty_is_void c.resolution.result d

pub close-requires-clause-legal : goal.close-requires-clause-legal
close-requires-clause-legal c = subst IsLegal (sym c.in_ok-rebuild.ensures.rebuilt.matrix) c.requires.target

pub returns-clause-accepted : goal.returns-clause-accepted
returns-clause-accepted c =
    let tape_after_rebuild = c.rebuild.new.tape in
    let rebuilt = c.in_ok-rebuild.ensures.rebuilt in
    let source = c.in_ok-rebuild.ensures.source ∙ (c.in_ok-tape.ensures.source ∙ c.in_ok-copy-2.ensures.value) in
    accepted_to c.close.result tape_after_rebuild.source c.args.source.now tape_after_rebuild.matrix c.args.target.now tape_after_rebuild.profile full_profile source (λ q. ap (λ (m : Matrix). is_full m q) rebuilt.matrix) rebuilt.ready.full c.close.ensures.accepted

pub returns-clause-bytes : goal.returns-clause-bytes
returns-clause-bytes c = IfOk-weaker c.close.result _ _ (λ plan e. let bytes_are = c.in_ok-rebuild.ensures.rebuilt.bytes_are in let same = c.requires.same in rw same (omega (arith, e, bytes_are))) c.close.ensures.bytes

pub returns-clause-few : goal.returns-clause-few
returns-clause-few c = few_made c.close.result c.args.source.now full_profile _ 1 (let none = c.in_ok-rebuild.ensures.rebuilt.ready.unsplit in omega (arith, none)) c.close.ensures.fissions

pub returns-clause-halt_alone : goal.returns-clause-halt_alone
returns-clause-halt_alone c = λ e. absurd (not_same c.args.source.now c.args.target.now _ c.in-Some.ensures.found e)

pub returns-in_default-clause-accepted : goal.returns-in_default-clause-accepted
returns-in_default-clause-accepted c =
    accepted_to c.halt_alone.result c.in_ok-copy.field-0 c.args.source.now c.in_ok-copy.field-0 c.args.target.now c.full.result full_profile c.in_ok-copy.ensures.value (λ q. ap (λ (m : Matrix). is_full m q) (c.in_ok-copy.ensures.value ∙ c.in_default.ensures.none)) c.full.ensures c.halt_alone.ensures.accepted
