use Rattle.std.proofs.Common.{rules, ◌≡◌, ◌∙◌, ◌&&◌, true, refl, sym, ap, subst, [], ◌∷◌, w64, to_z, of_z}
use Rattle.std.specs.Prelude.{IsSome, IsTrue, Option, ◌+ℤ◌, ℤ}
use Rattle.vox_geom.specs.declared.coordinate.Coord.{Coord}
use Rattle.vox_geom.specs.declared.difference.Diff.{Diff}
use Rattle.vox_geom.specs.Point.{Point, point, plus}
use Rattle.vox_geom.specs.Space.{IsInSpace, coordinate, in_space}
use Rattle.vox_geom.proofs.Truths.{first_of_two, second_of_two}
use Rattle.nano_spec.specs.declared.commands.Command.TheVariants.{LMove}
use Rattle.nano_spec.specs.declared.system.Bot.{Bot}
use Rattle.nano_spec.specs.Bots.{moved}
use Rattle.nano_spec.specs.State.{State}
use Rattle.bot_crew.specs.Crew.{replaced}
use Rattle.vox_planes.specs.Voxel.{IsWhole}
use Rattle.system_state.specs.Bounds.{IsWithin}
use Rattle.system_state.specs.Effects.{IsFreeFor, MayTake}
use Rattle.system_state.proofs.Still.{bots_moved_twice, gone, moved_twice}
use Rattle.system_state.proofs.system.System.take_moves.Goals as goal

pub target-middle-requires-clause-from : goal.target-middle-requires-clause-from
target-middle-requires-clause-from c =
    let state : State = c.args.self.now in
    let may : MayTake state.matrix.resolution state.bots c.args.bot 0 (LMove c.args.d c.args.e) = c.requires.may 0 in
    let same : c.resolution-resolution.result ≡ c.args.self.now.matrix.resolution = c.resolution-resolution.ensures.value ∙ ap (λ (t : State). t.matrix.resolution) c.self.view_is in
    subst (λ r. IsInSpace r c.args.bot.pos) (sym same) may.within

pub target-middle-requires-clause-within : goal.target-middle-requires-clause-within
target-middle-requires-clause-within c =
    let state : State = c.args.self.now in
    let may : MayTake state.matrix.resolution state.bots c.args.bot 0 (LMove c.args.d c.args.e) = c.requires.may 0 in
    let same : c.resolution-resolution.result ≡ c.args.self.now.matrix.resolution = c.resolution-resolution.ensures.value ∙ ap (λ (t : State). t.matrix.resolution) c.self.view_is in
    let resolution = state.matrix.resolution in
    let reached : Point = point c.args.bot.pos in
    subst (λ n. IsTrue (in_space n (plus reached c.diff.result))) (sym same)
    (subst (λ (d : Diff). IsTrue (in_space resolution (plus reached d))) (sym c.diff.ensures.value)
    (first_of_two (in_space resolution (plus reached c.args.d)) (in_space resolution (plus (plus reached c.args.d) c.args.e) && true) may.stays))

pub target-to-requires-clause-within : goal.target-to-requires-clause-within
target-to-requires-clause-within c =
    let state : State = c.args.self.now in
    let may : MayTake state.matrix.resolution state.bots c.args.bot 0 (LMove c.args.d c.args.e) = c.requires.may 0 in
    let same : c.resolution-resolution.result ≡ c.args.self.now.matrix.resolution = c.resolution-resolution.ensures.value ∙ ap (λ (t : State). t.matrix.resolution) c.self.view_is in
    let middle : point c.target-middle.result ≡ plus (point c.args.bot.pos) c.args.d = c.target-middle.ensures.sum ∙ ap (plus (point c.args.bot.pos)) c.diff.ensures.value in
    let resolution = state.matrix.resolution in
    let reached : Point = point c.args.bot.pos in
    let place_reached : Point = plus (plus reached c.args.d) c.args.e in
    let there : plus (point c.target-middle.result) c.diff-2.result ≡ place_reached = λ i. plus (middle i) (c.diff-2.ensures.value i) in
    subst (λ n. IsTrue (in_space n (plus (point c.target-middle.result) c.diff-2.result))) (sym same)
    (subst (λ (w : Point). IsTrue (in_space resolution w)) (sym there)
    (first_of_two (in_space resolution place_reached) true (second_of_two (in_space resolution (plus reached c.args.d)) (in_space resolution place_reached && true) may.stays)))

pub move_to-requires-clause-active : goal.move_to-requires-clause-active
move_to-requires-clause-active c =
    let state : State = c.args.self.now in
    let may : MayTake state.matrix.resolution state.bots c.args.bot 0 (LMove c.args.d c.args.e) = c.requires.may 0 in
    subst (λ (o : Option Bot). IsSome o) (sym may.active) refl

pub move_to-requires-clause-free : goal.move_to-requires-clause-free
move_to-requires-clause-free c =
    let state : State = c.args.self.now in
    let may : MayTake state.matrix.resolution state.bots c.args.bot 0 (LMove c.args.d c.args.e) = c.requires.may 0 in
    let middle : point c.target-middle.result ≡ plus (point c.args.bot.pos) c.args.d = c.target-middle.ensures.sum ∙ ap (plus (point c.args.bot.pos)) c.diff.ensures.value in
    let sum : plus (point c.target-middle.result) c.diff-2.result ≡ plus (plus (point c.args.bot.pos) c.args.d) c.args.e = λ i. plus (middle i) (c.diff-2.ensures.value i) in
    let there = c.target-to.ensures.value ∙ ap coordinate sum in
    subst (λ (to : Coord). IsFreeFor state.bots c.args.bot to) (sym there) may.needs

pub move_to-requires-clause-within : goal.move_to-requires-clause-within
move_to-requires-clause-within c =
    let same : c.resolution-resolution.result ≡ c.args.self.now.matrix.resolution = c.resolution-resolution.ensures.value ∙ ap (λ (t : State). t.matrix.resolution) c.self.view_is in
    subst (λ r. IsInSpace r c.target-to.result) same c.target-to.ensures.stays

pub pay-requires-clause-payable : goal.pay-requires-clause-payable
pay-requires-clause-payable c =
    let state : State = c.args.self.now in
    let may : MayTake state.matrix.resolution state.bots c.args.bot 0 (LMove c.args.d c.args.e) = c.requires.may 0 in
    subst (λ (t : State). IsWithin 9000000000000000000 t.energy) (sym (gone state c.move_to.new.self c.args.bot c.target-to.result may.active c.move_to.ensures.moved)) c.requires.payable

pub pay-requires-clause-small : goal.pay-requires-clause-small
pay-requires-clause-small c =
    let same : to_z w64 (of_z w64 c.cost_of_moves.result) ≡ c.cost_of_moves.result = search rules in
    subst (λ (z : ℤ). IsWithin 357492 z) (sym same) c.cost_of_moves.ensures.small

pub returns-clause-value : goal.returns-clause-value
returns-clause-value c = λ partner.
    let state : State = c.args.self.now in
    let may : MayTake state.matrix.resolution state.bots c.args.bot 0 (LMove c.args.d c.args.e) = c.requires.may 0 in
    let same : to_z w64 (of_z w64 c.cost_of_moves.result) ≡ c.cost_of_moves.result = search rules in
    let whole : IsWhole state.matrix = subst (λ (t : State). IsWhole t.matrix) c.self.view_is c.resolution-resolution.ensures.whole in
    let bots = bots_moved_twice state.bots c.args.bot partner c.args.d c.args.e c.diff.result c.diff-2.result c.target-middle.result c.target-to.result c.diff.ensures.value c.diff-2.ensures.value c.target-middle.ensures.sum c.target-to.ensures.sum in
    c.pay.ensures.value
    ∙ (ap (λ (t : State). record t { energy = t.energy +ℤ to_z w64 (of_z w64 c.cost_of_moves.result) }) (gone state c.move_to.new.self c.args.bot c.target-to.result may.active c.move_to.ensures.moved)
    ∙ moved_twice state (replaced state.bots (c.args.bot.bid ∷ []) (moved c.args.bot (point c.target-to.result) ∷ [])) (state.energy +ℤ to_z w64 (of_z w64 c.cost_of_moves.result)) c.args.bot partner c.args.d c.args.e whole.voxels bots (ap (λ z. state.energy +ℤ z) (same ∙ c.cost_of_moves.ensures.value)))

pub returns-clause-within : goal.returns-clause-within
returns-clause-within c = λ k h.
    let state : State = c.args.self.now in
    let may : MayTake state.matrix.resolution state.bots c.args.bot 0 (LMove c.args.d c.args.e) = c.requires.may 0 in
    c.pay.ensures.within k (subst (λ (t : State). IsWithin k t.energy) (sym (gone state c.move_to.new.self c.args.bot c.target-to.result may.active c.move_to.ensures.moved)) h)
