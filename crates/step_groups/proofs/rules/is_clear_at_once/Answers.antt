use Rattle.std.proofs.Common.{arith, ◌+◌, ◌≤◌, cond, subst, ◌≡◌, ◌∙◌, refl, sym, Bool, true, false, not}
use Rattle.vox_geom.specs.Region.{corners}
use Rattle.vox_planes.proofs.Ends.{none_above}
use Rattle.step_groups.proofs.ClearSteps.{clear_step, ordered_corners, step_size}
use Rattle.step_groups.proofs.rules.is_clear_at_once.Goals as goal

void : (b : Bool) → not b ≡ true → b ≡ false
void true t = cc
void false t = refl

pub returns-then-is_void_from-clause-clear : goal.returns-then-is_void_from-clause-clear
returns-then-is_void_from-clause-clear g c = λ _.
    none_above c.args.planes.now (corners c.args.from c.args.to) (ordered_corners c.args.from c.args.to) (λ d from. c.is_void_from.ensures.void c.if-is_void_from.true d (omega (arith, c.min.ensures, from)))

pub returns-clause-clear : goal.returns-clause-clear
returns-clause-clear g c = λ t.
    clear_step c.args.from c.args.to c.args.d c.requires.sum (sym c.mlen.ensures ∙ c.if-mlen-ne1.false) c.args.planes.now
    (sym c.full_at.ensures.value ∙ c.if-full_at.false) (sym c.full_at-2.ensures.value ∙ void c.full_at-2.result t)

pub returns-clause-touches : goal.returns-clause-touches
returns-clause-touches g c =
    let two = step_size c.args.from c.args.to c.args.d c.requires.sum (sym c.mlen.ensures ∙ c.if-mlen-ne1.false) in
    let unread : c.is_void_from.new.steps ≤ c.args.steps.now + 0 = subst (λ (known : Bool). c.is_void_from.new.steps ≤ c.args.steps.now + cond known 1 0) c.if-is_void_from.false c.is_void_from.ensures.touches in
    omega (arith, two, unread, c.full_at.ensures.touches, c.full_at-2.ensures.touches)
