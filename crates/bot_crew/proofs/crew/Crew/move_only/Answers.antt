use Rattle.bot_crew.proofs.Results.{OnlyMoved, only_moved}
use Rattle.bot_crew.proofs.crew.Crew.move_only.Goals as goal

done : (c : goal.After-self-1) → OnlyMoved c.self.inside.bots.items c.args.self.now c.deref_mut.result.now c.args.c
done c = only_moved c.self.inside.bots.items c.args.self.now c.deref_mut.result.now c.args.c c.self.view_is c.deref_mut.ensures.value c.self.invariant c.requires

pub invariant_of-self : goal.invariant_of-self
invariant_of-self c = (done c).0

pub returns : goal.returns
returns c = (done c).1
