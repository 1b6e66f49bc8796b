use Rattle.std.proofs.Common.{rules, ◌≡◌, ◌∙◌, refl, sym, ap, subst, [], ◌∷◌, w64, to_z, of_z}
use Rattle.std.specs.Prelude.{IsSome, IsTrue, Option, ◌+ℤ◌, ℤ}
use Rattle.vox_geom.specs.declared.coordinate.Coord.{Coord}
use Rattle.vox_geom.specs.declared.difference.Diff.{Diff}
use Rattle.vox_geom.specs.Point.{point, plus}
use Rattle.vox_geom.specs.Space.{IsInSpace, coordinate, in_space}
use Rattle.vox_geom.proofs.Truths.{first_of_two}
use Rattle.nano_spec.specs.declared.commands.Command.TheVariants.{SMove}
use Rattle.nano_spec.specs.declared.system.Bot.{Bot}
use Rattle.nano_spec.specs.Bots.{moved}
use Rattle.nano_spec.specs.State.{State}
use Rattle.bot_crew.specs.Crew.{replaced}
use Rattle.vox_planes.specs.Voxel.{IsWhole}
use Rattle.system_state.specs.Bounds.{IsWithin}
use Rattle.system_state.specs.Effects.{IsFreeFor, MayTake}
use Rattle.system_state.proofs.Still.{bots_moved, gone, moved_straight}
use Rattle.system_state.proofs.system.System.take_move.Goals as goal

pub target-to-requires-clause-from : goal.target-to-requires-clause-from
target-to-requires-clause-from c =
    let state : State = c.args.self.now in
    let may : MayTake state.matrix.resolution state.bots c.args.bot 0 (SMove c.args.d) = c.requires.may 0 in
    let same : c.resolution.result ≡ c.args.self.now.matrix.resolution = c.resolution.ensures.value ∙ ap (λ (t : State). t.matrix.resolution) c.self.view_is in
    subst (λ r. IsInSpace r c.args.bot.pos) (sym same) may.within

pub target-to-requires-clause-within : goal.target-to-requires-clause-within
target-to-requires-clause-within c =
    let state : State = c.args.self.now in
    let may : MayTake state.matrix.resolution state.bots c.args.bot 0 (SMove c.args.d) = c.requires.may 0 in
    let same : c.resolution.result ≡ c.args.self.now.matrix.resolution = c.resolution.ensures.value ∙ ap (λ (t : State). t.matrix.resolution) c.self.view_is in
    subst (λ r. IsTrue (in_space r (plus (point c.args.bot.pos) c.diff.result))) (sym same)
    (subst (λ (d : Diff). IsTrue (in_space state.matrix.resolution (plus (point c.args.bot.pos) d))) (sym c.diff.ensures.value)
    (first_of_two (in_space state.matrix.resolution (plus (point c.args.bot.pos) c.args.d)) _ may.stays))

pub move_to-requires-clause-active : goal.move_to-requires-clause-active
move_to-requires-clause-active c =
    let state : State = c.args.self.now in
    let may : MayTake state.matrix.resolution state.bots c.args.bot 0 (SMove c.args.d) = c.requires.may 0 in
    subst (λ (o : Option Bot). IsSome o) (sym may.active) refl

pub move_to-requires-clause-free : goal.move_to-requires-clause-free
move_to-requires-clause-free c =
    let state : State = c.args.self.now in
    let may : MayTake state.matrix.resolution state.bots c.args.bot 0 (SMove c.args.d) = c.requires.may 0 in
    let there = c.target-to.ensures.value ∙ ap (λ (d : Diff). coordinate (plus (point c.args.bot.pos) d)) c.diff.ensures.value in
    subst (λ (to : Coord). IsFreeFor state.bots c.args.bot to) (sym there) may.needs

pub move_to-requires-clause-within : goal.move_to-requires-clause-within
move_to-requires-clause-within c =
    let same : c.resolution.result ≡ c.args.self.now.matrix.resolution = c.resolution.ensures.value ∙ ap (λ (t : State). t.matrix.resolution) c.self.view_is in
    subst (λ r. IsInSpace r c.target-to.result) same c.target-to.ensures.stays

pub pay-requires-clause-payable : goal.pay-requires-clause-payable
pay-requires-clause-payable c =
    let state : State = c.args.self.now in
    let may : MayTake state.matrix.resolution state.bots c.args.bot 0 (SMove c.args.d) = c.requires.may 0 in
    subst (λ (t : State). IsWithin 9000000000000000000 t.energy) (sym (gone state c.move_to.new.self c.args.bot c.target-to.result may.active c.move_to.ensures.moved)) c.requires.payable

pub pay-requires-clause-small : goal.pay-requires-clause-small
pay-requires-clause-small c =
    let same : to_z w64 (of_z w64 c.cost_of_move.result) ≡ c.cost_of_move.result = search rules in
    subst (λ (z : ℤ). IsWithin 357492 z) (sym same) c.cost_of_move.ensures.small

pub returns-clause-value : goal.returns-clause-value
returns-clause-value c = λ partner.
    let state : State = c.args.self.now in
    let may : MayTake state.matrix.resolution state.bots c.args.bot 0 (SMove c.args.d) = c.requires.may 0 in
    let same : to_z w64 (of_z w64 c.cost_of_move.result) ≡ c.cost_of_move.result = search rules in
    let whole : IsWhole state.matrix = subst (λ (t : State). IsWhole t.matrix) c.self.view_is c.resolution.ensures.whole in
    let bots = bots_moved state.bots c.args.bot partner c.args.d c.diff.result c.target-to.result c.diff.ensures.value c.target-to.ensures.sum in
    c.pay.ensures.value
    ∙ (ap (λ (t : State). record t { energy = t.energy +ℤ to_z w64 (of_z w64 c.cost_of_move.result) }) (gone state c.move_to.new.self c.args.bot c.target-to.result may.active c.move_to.ensures.moved)
    ∙ moved_straight state (replaced state.bots (c.args.bot.bid ∷ []) (moved c.args.bot (point c.target-to.result) ∷ [])) (state.energy +ℤ to_z w64 (of_z w64 c.cost_of_move.result)) c.args.bot partner c.args.d whole.voxels bots (ap (λ z. state.energy +ℤ z) (same ∙ c.cost_of_move.ensures.value)))

pub returns-clause-within : goal.returns-clause-within
returns-clause-within c = λ k h.
    let state : State = c.args.self.now in
    let may : MayTake state.matrix.resolution state.bots c.args.bot 0 (SMove c.args.d) = c.requires.may 0 in
    c.pay.ensures.within k (subst (λ (t : State). IsWithin k t.energy) (sym (gone state c.move_to.new.self c.args.bot c.target-to.result may.active c.move_to.ensures.moved)) h)
