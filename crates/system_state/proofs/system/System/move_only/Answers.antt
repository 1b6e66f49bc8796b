use Rattle.std.proofs.Common.{sym, ◌∙◌, ap, subst, length}
use Rattle.vox_geom.specs.Space.{IsInSpace}
use Rattle.nano_spec.specs.State.{State}
use Rattle.system_state.proofs.Parts.{only_within}
use Rattle.system_state.proofs.system.System.move_only.Goals as goal

pub invariant_of-self : goal.invariant_of-self
invariant_of-self c = (
  only_within c.self.inside.matrix.resolution c.self.inside.crew c.move_only.new.self c.args.c
      (ap (λ (s : State). length s.bots) c.self.view_is ∙ c.requires.one)
      (subst (λ (s : State). IsInSpace s.matrix.resolution c.args.c) (sym c.self.view_is) c.requires.within)
      c.move_only.ensures,
  c.self.invariant.1,
)
