use Rattle.std.proofs.Common.{◌<◌, length, sym, subst}
use Rattle.bot_crew.specs.Crew.{IsActive}
use Rattle.bot_crew.proofs.Results.{MoveResult, at_place, move_result, place_is}
use Rattle.bot_crew.proofs.crew.Crew.move_to.Goals as goal

pub bounds-deref_mut-place : goal.bounds-deref_mut-place
bounds-deref_mut-place c =
    let place = place_is c.self.inside.bots.items c.deref.result.now c.args.bid c.place_among-place.result c.deref.ensures.0 c.place_among-place.ensures.within c.place_among-place.ensures.before c.place_among-place.ensures.from in
    subst (λ v. c.place_among-place.result < length v) (sym c.deref_mut.ensures.value) (at_place c.self.inside.bots.items c.self.invariant c.args.bid c.place_among-place.result place (subst (λ v. IsActive v c.args.bid) (sym c.self.view_is) c.requires.active))

done : (c : goal.After-self-1) → MoveResult c.self.inside.bots.items c.args.self.now c.deref_mut.result.now c.args.bid
    c.place_among-place.result c.args.c
done c =
    let place = place_is c.self.inside.bots.items c.deref.result.now c.args.bid c.place_among-place.result c.deref.ensures.0 c.place_among-place.ensures.within c.place_among-place.ensures.before c.place_among-place.ensures.from in
    move_result c.self.inside.bots.items c.args.self.now c.deref_mut.result.now c.args.bid c.place_among-place.result c.args.c c.self.view_is c.deref_mut.ensures.value c.self.invariant place c.requires.active c.requires.free

pub invariant_of-self : goal.invariant_of-self
invariant_of-self c = (done c).0

pub returns : goal.returns
returns c = record { moved = (done c).1 }
