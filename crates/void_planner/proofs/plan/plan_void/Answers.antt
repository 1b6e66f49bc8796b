use Rattle.std.proofs.Common.{◌≡◌, ◌∙◌, ◌+◌, ◌≤◌, ℕ, ap, sym, subst, arith, lit≤, Bool, true, false}
use Rattle.std.specs.Prelude.{IfOk}
use Rattle.std.proofs.lemmas.Result.{IfOk-weaker}
use Rattle.nano_spec.specs.declared.system.Profile.{Profile}
use Rattle.nano_spec.specs.Legal.{IsLegal}
use Rattle.nano_spec.specs.Matrix.{Matrix, empty}
use Rattle.nano_spec.specs.Profile.{full_profile}
use Rattle.plan_tape.specs.Fissions.{fissions}
use Rattle.plan_tape.specs.Reaches.{HasAtMost}
use Rattle.plan_tape.proofs.Closing.{accepted_to, few_made}
use Rattle.plan_tape.proofs.LegalModels.{empty_is_void, void_is_legal}
use Rattle.void_planner.specs.Phases.{IsVoidModel}
use Rattle.void_planner.specs.Bounds.{most_void_steps}
use Rattle.void_planner.proofs.Legality.{has_room}
use Rattle.void_planner.proofs.Openings.{steps_fit, steps_home, void_all_over, voiding_fits}
use Rattle.void_planner.proofs.plan.plan_void.Goals as goal

not_both : (b : Bool) → b ≡ true → b ≡ false → ⊥
not_both b e f = let impossible = sym e ∙ f in cc

-- ---- a Halt alone

pub returns-then-is_empty-clause-accepted : goal.returns-then-is_empty-clause-accepted
returns-then-is_empty-clause-accepted c =
    let void : IsVoidModel c.in_ok-copy.field-0 = subst IsVoidModel (sym c.in_ok-copy.ensures.value) (c.is_empty.ensures.void c.if-is_empty.true) in
    accepted_to c.halt_alone.result c.in_ok-copy.field-0 c.args.source.now c.in_ok-copy.field-0 (empty c.args.source.now.resolution) c.full.result full_profile c.in_ok-copy.ensures.value (λ q. void q ∙ sym (empty_is_void c.args.source.now.resolution q)) c.full.ensures c.halt_alone.ensures.accepted

one_step : (steps r : ℕ) → steps ≡ 1 → steps ≤ most_void_steps r
one_step steps r e = omega arith

pub returns-then-is_empty-clause-steps : goal.returns-then-is_empty-clause-steps
returns-then-is_empty-clause-steps c = IfOk-weaker c.halt_alone.result _ _ (λ plan e. one_step plan.steps c.args.source.now.resolution e) c.halt_alone.ensures.steps

pub returns-then-is_empty-clause-few : goal.returns-then-is_empty-clause-few
returns-then-is_empty-clause-few c =
    subst (λ (k : Profile). IfOk c.halt_alone.result (λ plan. HasAtMost c.args.source.now k plan.commands 4)) c.full.ensures
    (subst (λ (m : Matrix). IfOk c.halt_alone.result (λ plan. HasAtMost m c.full.result plan.commands 4)) c.in_ok-copy.ensures.value
    (IfOk-weaker c.halt_alone.result _ _ (λ plan few. few 4 (lit≤ tt)) c.halt_alone.ensures.few))

pub returns-then-is_empty-clause-halt_alone : goal.returns-then-is_empty-clause-halt_alone
returns-then-is_empty-clause-halt_alone c = λ _. c.halt_alone.ensures.commands

-- ---- four bots

pub rise-requires : goal.rise-requires
rise-requires c = subst IsLegal (sym c.in_ok-copy-2.ensures.value) c.requires

wide : (m : Matrix) (empty : Bool) → IsLegal m → (IsVoidModel m → empty ≡ true) → empty ≡ false → 2 ≤ m.resolution
wide m empty legal all not_all = has_room m legal (λ v. not_both empty (all v) not_all)

pub spread-requires-clause-some : goal.spread-requires-clause-some
spread-requires-clause-some c = subst (λ (m : Matrix). 2 ≤ m.resolution) (sym (c.in_ok-tape.ensures.source ∙ c.in_ok-copy-2.ensures.value)) (wide c.args.source.now c.is_empty.result c.requires c.is_empty.ensures.full c.if-is_empty.false)

pub void_all-requires-clause-limit : goal.void_all-requires-clause-limit
void_all-requires-clause-limit c =
    let same = c.in_ok-spread.ensures.spread.matrix ∙ (c.in_ok-spread.ensures.source ∙ (c.in_ok-tape.ensures.source ∙ c.in_ok-copy-2.ensures.value)) in
    voiding_fits c.spread.new.tape c.args.source.now c.in_ok-spread.ensures.spread same (wide c.args.source.now c.is_empty.result c.requires c.is_empty.ensures.full c.if-is_empty.false) c.recall.ensures.whole.most

pub close-requires-clause-legal : goal.close-requires-clause-legal
close-requires-clause-legal c = void_is_legal c.gather.new.tape.matrix (void_all_over c.gather.new.tape.matrix c.in_ok-gather.ensures.gathered.void)

pub close-requires-clause-clear : goal.close-requires-clause-clear
close-requires-clause-clear c = λ q l. c.in_ok-gather.ensures.gathered.void q (omega arith)

pub close-requires-clause-limit : goal.close-requires-clause-limit
close-requires-clause-limit c =
    let same = c.in_ok-spread.ensures.spread.matrix ∙ (c.in_ok-spread.ensures.source ∙ (c.in_ok-tape.ensures.source ∙ c.in_ok-copy-2.ensures.value)) in
    let home = steps_home c.spread.new.tape c.void_all.new.tape c.gather.new.tape c.args.source.now c.in_ok-spread.ensures.spread same (wide c.args.source.now c.is_empty.result c.requires c.is_empty.ensures.full c.if-is_empty.false) c.in_ok-void_all.ensures.clears c.in_ok-gather.ensures.gathered in
    omega (arith, home, steps_fit c.args.source.now.resolution c.recall.ensures.whole.most)

pub returns-clause-accepted : goal.returns-clause-accepted
returns-clause-accepted c =
    let tape_after_gather = c.gather.new.tape in
    let gather_ensured = c.in_ok-gather.ensures in
    let source = gather_ensured.source ∙ (c.in_ok-void_all.ensures.clears.source ∙ (c.in_ok-spread.ensures.source ∙ (c.in_ok-tape.ensures.source ∙ c.in_ok-copy-2.ensures.value))) in
    accepted_to c.close.result tape_after_gather.source c.args.source.now tape_after_gather.matrix (empty c.args.source.now.resolution) tape_after_gather.profile full_profile source (λ q. void_all_over tape_after_gather.matrix gather_ensured.gathered.void q ∙ sym (empty_is_void c.args.source.now.resolution q)) gather_ensured.gathered.full c.close.ensures.accepted

pub returns-clause-steps : goal.returns-clause-steps
returns-clause-steps c =
    let same = c.in_ok-spread.ensures.spread.matrix ∙ (c.in_ok-spread.ensures.source ∙ (c.in_ok-tape.ensures.source ∙ c.in_ok-copy-2.ensures.value)) in
    let home = steps_home c.spread.new.tape c.void_all.new.tape c.gather.new.tape c.args.source.now c.in_ok-spread.ensures.spread same (wide c.args.source.now c.is_empty.result c.requires c.is_empty.ensures.full c.if-is_empty.false) c.in_ok-void_all.ensures.clears c.in_ok-gather.ensures.gathered in
    IfOk-weaker c.close.result _ _ (λ plan e. omega (arith, e, home)) c.close.ensures.steps

pub returns-clause-few : goal.returns-clause-few
returns-clause-few c =
    let three : fissions c.gather.new.tape ≡ 3 = c.in_ok-gather.ensures.fissions ∙ (c.in_ok-void_all.ensures.clears.fissions_are ∙ (c.in_ok-spread.ensures.fissions ∙ ap (λ n. n + 3) c.in_ok-tape.ensures.risen.unsplit)) in
    few_made c.close.result c.args.source.now full_profile (fissions c.gather.new.tape) 4 (omega (arith, three)) c.close.ensures.fissions

pub returns-clause-halt_alone : goal.returns-clause-halt_alone
returns-clause-halt_alone c = λ same. absurd (not_both c.is_empty.result (c.is_empty.ensures.full (subst IsVoidModel (sym same) (empty_is_void c.args.source.now.resolution))) c.if-is_empty.false)
