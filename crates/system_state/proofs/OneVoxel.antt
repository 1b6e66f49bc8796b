-- The turn of a bot that fills or voids one voxel.
use Rattle.std.proofs.Common.{◌≡◌, ℕ, ◌≤◌, sym, ◌∙◌, ap, arith, length, Bool, true, false, cond, ◌||◌}
use Rattle.std.specs.Prelude.{ℤ, pos, negsuc, ◌+ℤ◌, IsTrue, count_by, filter}
use Rattle.std.proofs.lemmas.List.Sums.{length-filter}
use Rattle.vox_geom.specs.declared.coordinate.Coord.{Coord}
use Rattle.vox_geom.specs.declared.difference.Diff.{Diff}
use Rattle.vox_geom.specs.Point.{point, plus}
use Rattle.vox_geom.specs.Region.{is_within, just}
use Rattle.vox_geom.specs.Space.{coordinate, coordinates, in_space}
use Rattle.vox_geom.proofs.Truths.{first_of_two, or_false}
use Rattle.nano_spec.specs.declared.commands.Command.TheVariants.{Fill, Void}
use Rattle.nano_spec.specs.declared.system.Bot.{Bot}
use Rattle.nano_spec.specs.Act.{stays_in_space}
use Rattle.nano_spec.specs.Matrix.{Matrix, is_full}
use Rattle.nano_spec.specs.State.{State}
use Rattle.step_groups.specs.Judging.{act, edit_of}
use Rattle.vox_planes.specs.Voxel.{with_voxel}
use Rattle.system_state.specs.Effects.{after_turn}
use Rattle.system_state.specs.Painting.{met_count}
use Rattle.system_state.specs.Edited.{edit_cost}
use Rattle.system_state.proofs.OnlyBot.{cost_is, fill_cost, matrix_filled, matrix_voided, of_point, one_only, void_cost}

pub names_in_space : (r : ℕ) (b : Bot) (d : Diff) (full : Bool) → IsTrue (stays_in_space r (act b (edit_of full d)))
    → in_space r (plus (point b.pos) d) ≡ true
names_in_space r b d true h = first_of_two (in_space r (plus (point b.pos) d)) true h
names_in_space r b d false h = first_of_two (in_space r (plus (point b.pos) d)) true h

-- one voxel is edited
one_there : (m : Matrix) (b : Bot) (d : Diff) → in_space m.resolution (plus (point b.pos) d) ≡ true
    → 1 ≤ count_by (λ c. is_within (just (plus (point b.pos) d)) (point c) || false) (coordinates m.resolution)
one_there m b d i =
    let point_facts = of_point m.resolution (plus (point b.pos) d) i in
    let there : Coord = coordinate (plus (point b.pos) d) in
    let length_is : length (filter (λ c. is_within (just (plus (point b.pos) d)) (point c) || false) (coordinates m.resolution)) ≡ 1 =
    (λ j. length (filter (λ c. or_false (is_within (just (sym point_facts.0 j)) (point c)) j) (coordinates m.resolution))) ∙ ap length (one_only m.resolution there point_facts.1) in
    let filtered_length = length-filter (λ c. is_within (just (plus (point b.pos) d)) (point c) || false) (coordinates m.resolution) in
    omega (arith, filtered_length, length_is)

pub one_met : (m : Matrix) (b : Bot) (d : Diff) (full : Bool) → in_space m.resolution (plus (point b.pos) d) ≡ true
    → 1 ≤ met_count m b (edit_of full d)
one_met m b d true i = one_there m b d i
one_met m b d false i = one_there m b d i

-- the state after the turn
pub edited_turn : (s : State) (b : Bot) (partner : ℕ) (d : Diff) (full : Bool) (at : Coord) (energy : ℤ)
    → in_space s.matrix.resolution (plus (point b.pos) d) ≡ true → at ≡ coordinate (plus (point b.pos) d)
    → energy ≡ s.energy +ℤ edit_cost full (is_full s.matrix at)
    → record s { matrix = with_voxel s.matrix at full; energy = energy } ≡ after_turn s b partner (edit_of full d)
edited_turn s b partner d true at energy i e paid =
    let matrix = ap (λ (c : Coord). with_voxel s.matrix c true) e ∙ sym (matrix_filled s.matrix b d i) in
    let cost = paid ∙ (ap (λ (c : Coord). s.energy +ℤ cond (is_full s.matrix c) (pos 6) (pos 12)) e ∙ ap (λ z. s.energy +ℤ z) (sym (fill_cost s.matrix b d i) ∙ cost_is s.matrix b (Fill d))) in
    λ j. record { matrix = matrix j; harmonics = s.harmonics; bots = s.bots; energy = cost j; profile = s.profile }
edited_turn s b partner d false at energy i e paid =
    let matrix = ap (λ (c : Coord). with_voxel s.matrix c false) e ∙ sym (matrix_voided s.matrix b d i) in
    let cost = paid ∙ (ap (λ (c : Coord). s.energy +ℤ cond (is_full s.matrix c) (negsuc 11) (pos 3)) e ∙ ap (λ z. s.energy +ℤ z) (sym (void_cost s.matrix b d i) ∙ cost_is s.matrix b (Void d))) in
    λ j. record { matrix = matrix j; harmonics = s.harmonics; bots = s.bots; energy = cost j; profile = s.profile }
