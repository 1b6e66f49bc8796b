use Rattle.std.proofs.Common.{arith, ◌<◌, ◌≡◌, ◌∙◌, length, sym, subst, get_or}
use Rattle.std.specs.List.{remove}
use Rattle.bot_crew.specs.Crew.{IsActive}
use Rattle.bot_crew.proofs.Places.{IsPlace}
use Rattle.bot_crew.proofs.Results.{FusionResult, at_place, at_rest, fusion_result, nobody, place_is, seeds_of_both}
use Rattle.bot_crew.proofs.crew.Crew.fusion.Goals as goal

pub remove-other-requires : goal.remove-other-requires
remove-other-requires c =
    let place = place_is c.self.inside.bots.items c.deref.result.now c.args.secondary c.place_of-end.result c.deref.ensures.0 c.place_of-end.ensures.within c.place_of-end.ensures.before c.place_of-end.ensures.from in
    (omega arith, at_place c.self.inside.bots.items c.self.invariant c.args.secondary c.place_of-end.result place (subst (λ v. IsActive v c.args.secondary) (sym c.self.view_is) c.requires.secondary))

pub bounds-deref-place : goal.bounds-deref-place
bounds-deref-place c =
    let place = place_is c.self.inside.bots.items c.deref.result.now c.args.secondary c.place_of-end.result c.deref.ensures.0 c.place_of-end.ensures.within c.place_of-end.ensures.before c.place_of-end.ensures.from in
    let later : IsPlace (remove c.self.inside.bots.items c.place_of-end.result) c.args.primary c.place_of-place.result = subst (λ v. IsPlace v c.args.primary c.place_of-place.result) c.remove-other.ensures.items (place_is c.remove-other.new.self.items c.deref-2.result.now c.args.primary c.place_of-place.result c.deref-2.ensures.0 c.place_of-place.ensures.within c.place_of-place.ensures.before c.place_of-place.ensures.from) in
    subst (λ v. c.place_of-place.result < length v) (sym (c.deref-3.ensures.0 ∙ c.remove-other.ensures.items)) (at_rest c.self.inside.bots.items c.self.invariant c.args.primary c.args.secondary c.place_of-end.result place (subst (λ v. IsActive v c.args.primary) (sym c.self.view_is) c.requires.primary) (subst (λ v. IsActive v c.args.secondary) (sym c.self.view_is) c.requires.secondary) c.requires.two c.place_of-place.result later)

pub bounds-deref_mut-place : goal.bounds-deref_mut-place
bounds-deref_mut-place c =
    let place = place_is c.self.inside.bots.items c.deref.result.now c.args.secondary c.place_of-end.result c.deref.ensures.0 c.place_of-end.ensures.within c.place_of-end.ensures.before c.place_of-end.ensures.from in
    let later : IsPlace (remove c.self.inside.bots.items c.place_of-end.result) c.args.primary c.place_of-place.result = subst (λ v. IsPlace v c.args.primary c.place_of-place.result) c.remove-other.ensures.items (place_is c.remove-other.new.self.items c.deref-2.result.now c.args.primary c.place_of-place.result c.deref-2.ensures.0 c.place_of-place.ensures.within c.place_of-place.ensures.before c.place_of-place.ensures.from) in
    subst (λ v. c.place_of-place.result < length v) (sym (c.deref_mut.ensures.value ∙ c.remove-other.ensures.items)) (at_rest c.self.inside.bots.items c.self.invariant c.args.primary c.args.secondary c.place_of-end.result place (subst (λ v. IsActive v c.args.primary) (sym c.self.view_is) c.requires.primary) (subst (λ v. IsActive v c.args.secondary) (sym c.self.view_is) c.requires.secondary) c.requires.two c.place_of-place.result later)

done : (c : goal.After-self-1) → FusionResult c.self.inside.bots.items c.args.self.now c.remove-other.new.self.items
    c.deref_mut.result.now c.args.primary c.args.secondary c.place_of-place.result c.unite.result
done c =
    let place = place_is c.self.inside.bots.items c.deref.result.now c.args.secondary c.place_of-end.result c.deref.ensures.0 c.place_of-end.ensures.within c.place_of-end.ensures.before c.place_of-end.ensures.from in
    let later : IsPlace (remove c.self.inside.bots.items c.place_of-end.result) c.args.primary c.place_of-place.result = subst (λ v. IsPlace v c.args.primary c.place_of-place.result) c.remove-other.ensures.items (place_is c.remove-other.new.self.items c.deref-2.result.now c.args.primary c.place_of-place.result c.deref-2.ensures.0 c.place_of-place.ensures.within c.place_of-place.ensures.before c.place_of-place.ensures.from) in
    let there : IsPlace c.remove-other.new.self.items c.args.primary c.place_of-place.result = subst (λ v. IsPlace v c.args.primary c.place_of-place.result) (sym c.remove-other.ensures.items) later in
    let union : c.unite.result ≡ seeds_of_both (get_or c.remove-other.new.self.items c.place_of-place.result nobody) c.remove-other.result = subst (λ v. c.unite.result ≡ seeds_of_both (get_or v c.place_of-place.result nobody) c.remove-other.result) c.deref-3.ensures.0 c.unite.ensures in
    fusion_result c.self.inside.bots.items c.args.self.now c.remove-other.new.self.items c.deref_mut.result.now c.args.primary c.args.secondary c.place_of-end.result c.place_of-place.result c.remove-other.result c.unite.result c.self.view_is c.remove-other.ensures.items c.deref_mut.ensures.value c.self.invariant place c.remove-other.ensures.value there c.requires.primary c.requires.secondary c.requires.two union

pub invariant_of-self : goal.invariant_of-self
invariant_of-self c = (done c).0

pub returns : goal.returns
returns c = record { fused = (done c).1 }
