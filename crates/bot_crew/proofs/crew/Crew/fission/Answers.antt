use Rattle.std.proofs.Common.{arith, ◌<◌, ◌+◌, ◌≤◌, ◌≡◌, length, sym, subst, get_or}
use Rattle.std.specs.Prelude.{IfSome, [], ◌∷◌}
use Rattle.vox_geom.specs.Point.{point}
use Rattle.nano_spec.specs.Bots.{newborn, parent}
use Rattle.nano_spec.specs.State.{seed_list}
use Rattle.bot_crew.specs.Crew.{IsActive, IsCrew, bot_of, replaced}
use Rattle.bot_crew.proofs.Results.{IsSplit, SplitResult, at_place, bots_seeded, nobody, of_bot, place_is, split_result}
use Rattle.bot_crew.proofs.crew.Crew.fission.Goals as goal

pub bounds-deref-old : goal.bounds-deref-old
bounds-deref-old c =
    let place = place_is c.self.inside.bots.items c.deref.result.now c.args.bid c.place_of-old.result c.deref.ensures.0 c.place_of-old.ensures.within c.place_of-old.ensures.before c.place_of-old.ensures.from in
    subst (λ v. c.place_of-old.result < length v) (sym c.deref-2.ensures.0) (at_place c.self.inside.bots.items c.self.invariant c.args.bid c.place_of-old.result place (subst (λ v. IsActive v c.args.bid) (sym c.self.view_is) c.requires.active))

pub split_seeds-seeds-requires : goal.split_seeds-seeds-requires
split_seeds-seeds-requires c =
    let place = place_is c.self.inside.bots.items c.deref.result.now c.args.bid c.place_of-old.result c.deref.ensures.0 c.place_of-old.ensures.within c.place_of-old.ensures.before c.place_of-old.ensures.from in
    subst (λ v. c.args.m + 1 ≤ length (seed_list (get_or v c.place_of-old.result nobody).seeds)) (sym c.deref-2.ensures.0)
    (of_bot c.self.inside.bots.items c.self.invariant c.args.bid c.place_of-old.result place (subst (λ v. IsActive v c.args.bid) (sym c.self.view_is) c.requires.active) (λ b. c.args.m + 1 ≤ length (seed_list b.seeds)) nobody
    (subst (λ v. IfSome (bot_of v c.args.bid) (λ b. c.args.m + 1 ≤ length (seed_list b.seeds))) (sym c.self.view_is) c.requires.seeds))

pub bounds-deref_mut-old : goal.bounds-deref_mut-old
bounds-deref_mut-old c =
    let place = place_is c.self.inside.bots.items c.deref.result.now c.args.bid c.place_of-old.result c.deref.ensures.0 c.place_of-old.ensures.within c.place_of-old.ensures.before c.place_of-old.ensures.from in
    subst (λ v. c.place_of-old.result < length v) (sym c.deref_mut.ensures.value) (at_place c.self.inside.bots.items c.self.invariant c.args.bid c.place_of-old.result place (subst (λ v. IsActive v c.args.bid) (sym c.self.view_is) c.requires.active))

pub insert-requires : goal.insert-requires
insert-requires c =
    let place = place_is c.self.inside.bots.items c.deref.result.now c.args.bid c.place_of-old.result c.deref.ensures.0 c.place_of-old.ensures.within c.place_of-old.ensures.before c.place_of-old.ensures.from in
    let split : IsSplit (get_or c.self.inside.bots.items c.place_of-old.result nobody) c.args.m c.split_seeds-seeds.result.bid c.split_seeds-seeds.result.taken c.split_seeds-seeds.result.kept =
    subst (λ v. IsSplit (get_or v c.place_of-old.result nobody) c.args.m c.split_seeds-seeds.result.bid c.split_seeds-seeds.result.taken c.split_seeds-seeds.result.kept) c.deref-2.ensures.0 (record { bid = c.split_seeds-seeds.ensures.bid; taken = c.split_seeds-seeds.ensures.taken; kept = c.split_seeds-seeds.ensures.kept }) in
    let later = place_is (bots_seeded c.self.inside.bots.items c.deref_mut.result.now c.place_of-old.result c.split_seeds-seeds.result.kept) c.deref-3.result.now c.split_seeds-seeds.result.bid c.place_of-new.result c.deref-3.ensures.0 c.place_of-new.ensures.within c.place_of-new.ensures.before c.place_of-new.ensures.from in
    let done = split_result c.self.inside.bots.items c.args.self.now c.deref_mut.result.now c.args.bid c.place_of-old.result c.args.c c.args.m c.split_seeds-seeds.result.bid c.split_seeds-seeds.result.taken c.split_seeds-seeds.result.kept c.place_of-new.result c.self.view_is c.deref_mut.ensures.value c.self.invariant place c.requires.active c.requires.free c.requires.seeds split later in
    (omega arith, (later.within, done.0))

done : (c : goal.After-insert) → SplitResult c.self.inside.bots.items c.args.self.now c.deref_mut.result.now c.args.bid
    c.place_of-old.result c.args.c c.args.m c.split_seeds-seeds.result.bid c.split_seeds-seeds.result.taken
    c.split_seeds-seeds.result.kept c.place_of-new.result
done c =
    let place = place_is c.self.inside.bots.items c.deref.result.now c.args.bid c.place_of-old.result c.deref.ensures.0 c.place_of-old.ensures.within c.place_of-old.ensures.before c.place_of-old.ensures.from in
    let split : IsSplit (get_or c.self.inside.bots.items c.place_of-old.result nobody) c.args.m c.split_seeds-seeds.result.bid c.split_seeds-seeds.result.taken c.split_seeds-seeds.result.kept =
    subst (λ v. IsSplit (get_or v c.place_of-old.result nobody) c.args.m c.split_seeds-seeds.result.bid c.split_seeds-seeds.result.taken c.split_seeds-seeds.result.kept) c.deref-2.ensures.0 (record { bid = c.split_seeds-seeds.ensures.bid; taken = c.split_seeds-seeds.ensures.taken; kept = c.split_seeds-seeds.ensures.kept }) in
    let later = place_is (bots_seeded c.self.inside.bots.items c.deref_mut.result.now c.place_of-old.result c.split_seeds-seeds.result.kept) c.deref-3.result.now c.split_seeds-seeds.result.bid c.place_of-new.result c.deref-3.ensures.0 c.place_of-new.ensures.within c.place_of-new.ensures.before c.place_of-new.ensures.from in
    split_result c.self.inside.bots.items c.args.self.now c.deref_mut.result.now c.args.bid c.place_of-old.result c.args.c c.args.m c.split_seeds-seeds.result.bid c.split_seeds-seeds.result.taken c.split_seeds-seeds.result.kept c.place_of-new.result c.self.view_is c.deref_mut.ensures.value c.self.invariant place c.requires.active c.requires.free c.requires.seeds split later

pub invariant_of-self : goal.invariant_of-self
invariant_of-self c = subst (λ v. IsCrew v) (sym c.insert.ensures.items) (done c).1

pub returns : goal.returns
returns c =
    record { split = subst (λ v. IfSome (bot_of c.args.self.now c.args.bid) (λ b. v ≡ replaced c.args.self.now (c.args.bid ∷ []) (parent b c.args.m ∷ newborn b (point c.args.c) c.args.m ∷ []))) (sym c.insert.ensures.items) (done c).2 }
