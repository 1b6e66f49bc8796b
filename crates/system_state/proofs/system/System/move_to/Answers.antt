use Rattle.std.proofs.Common.{sym, subst}
use Rattle.vox_geom.specs.Space.{IsInSpace}
use Rattle.nano_spec.specs.State.{State}
use Rattle.bot_crew.specs.Crew.{IsActive}
use Rattle.system_state.proofs.Parts.{moved_within}
use Rattle.system_state.proofs.system.System.move_to.Goals as goal

pub invariant_of-self : goal.invariant_of-self
invariant_of-self c = (
  moved_within c.self.inside.matrix.resolution c.self.inside.crew c.move_to.new.self c.args.bid c.args.c c.self.invariant.0
      (subst (λ (s : State). IsInSpace s.matrix.resolution c.args.c) (sym c.self.view_is) c.requires.within)
      (subst (λ (s : State). IsActive s.bots c.args.bid) (sym c.self.view_is) c.requires.active)
      c.move_to.ensures.moved,
  c.self.invariant.1,
)
