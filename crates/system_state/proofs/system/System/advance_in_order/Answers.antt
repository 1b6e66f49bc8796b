use Rattle.std.proofs.Common.{ℕ, List, sym, subst}
use Rattle.std.specs.Prelude.{IsPermutation}
use Rattle.nano_spec.specs.Act.{acts}
use Rattle.nano_spec.specs.Group.{leaders}
use Rattle.system_state.proofs.Arranged.{leaders_are}
use Rattle.system_state.proofs.system.System.advance_in_order.Goals as goal

pub arrange-requires : goal.arrange-requires
arrange-requires g c =
    let all = acts c.args.self.now.bots c.args.commands.now in
    subst (λ (bids : List ℕ). IsPermutation bids c.args.order.now) (sym (leaders_are all (leaders all) c.args.turns.now c.requires.turns)) c.requires.order
