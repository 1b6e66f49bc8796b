-- The number of differences from a target under the changes of a note.
use Rattle.std.proofs.Common.{◌≡◌, ℕ, ◌+◌, ◌-◌, ◌*◌, ◌≤◌, refl, sym, ◌∙◌, ap, subst, inl, inr, arith, List, [], ◌∷◌, Bool, true, false, cond, not, ◌&&◌, ◌||◌, length, count_by, mul-le-mul}
use Rattle.std.specs.Prelude.{filter, Option, Some, None}
use Rattle.std.specs.List.{list_any}
use Rattle.std.proofs.lemmas.List.Sums.{length-filter, sum_by-cons}
use Rattle.vox_geom.specs.declared.coordinate.Coord.{Coord}
use Rattle.vox_geom.specs.Space.{IsInSpace, coordinates}
use Rattle.vox_geom.proofs.Truths.{both_true, first_of_two, second_of_two}
use Rattle.nano_spec.specs.declared.commands.Command.{Command}
use Rattle.nano_spec.specs.declared.system.Bot.{Bot}
use Rattle.nano_spec.specs.Act.{acts}
use Rattle.nano_spec.specs.Matrix.{Matrix, all_of, differ_at, is_full}
use Rattle.nano_spec.specs.Model.{volume}
use Rattle.nano_spec.specs.Next.{Goes, Next}
use Rattle.nano_spec.specs.State.{State}
use Rattle.nano_spec.specs.Step.{matrix_after}
use Rattle.nano_spec.proofs.Accepted.{accepted_step}
use Rattle.system_state.specs.Painting.{is_cell}
use Rattle.step_order.proofs.Lists.{In, filter_in, filter_same, in_filter, not_both}
use Rattle.step_order.proofs.Voxels.{coordinates_within, in_coordinates}
use Rattle.step_machine.specs.Edits.{is_edit}
use Rattle.step_machine.specs.Undoing.{HaveChanged, matrix_before}
use Rattle.step_machine.specs.declared.undo.Undo.{Undo}
use Rattle.step_machine.proofs.Apart.{Apart, apart_coordinates, apart_filter}
use Rattle.step_machine.proofs.Sizes.{no_more}
use Rattle.step_machine.proofs.Taking.{among, of_among}
use Rattle.vox_planes.proofs.Totals.{one_if}
use Rattle.kept_machine.specs.declared.aim.KeptTarget.{KeptTarget}
use Rattle.kept_machine.specs.Aiming.{IsTargetCounted, became_right, became_wrong}
use Rattle.kept_machine.specs.Calls.{difference_count}
use Rattle.kept_machine.proofs.Changing.{apart_of, few_changed, filled_is, full_before, stays, voided_is}
use Rattle.kept_machine.proofs.Differences.{all_below, few_below}

-- ---- counting

-- the elements of a list that pass a test and those that do not are all
pub with_others : (p : Coord → Bool) (cells : List Coord)
    → count_by p cells + count_by (λ c. not (p c)) cells ≡ length cells
with_others p [] = refl
with_others p (c ∷ cells) =
    let passed : count_by p (c ∷ cells) ≡ one_if (p c) + count_by p cells = sum_by-cons (λ d. one_if (p d)) c cells in
    let failed : count_by (λ d. not (p d)) (c ∷ cells) ≡ one_if (not (p c)) + count_by (λ d. not (p d)) cells = sum_by-cons (λ d. one_if (not (p d))) c cells in
    let one : one_if (p c) + one_if (not (p c)) ≡ 1 = either (p c) in
    let others = with_others p cells in
    omega (arith, passed, failed, one, others)
  where
    either : (b : Bool) → one_if b + one_if (not b) ≡ 1
    either true = refl
    either false = refl

-- if three tests pass as often as three others at each coordinate, they do so over all of them
module _ (a b c : Coord → Bool) (d e f : Coord → Bool) where
  as_often : (cells : List Coord) → ((x : Coord) → In x cells
      → one_if (a x) + (one_if (b x) + one_if (c x)) ≡ one_if (d x) + (one_if (e x) + one_if (f x)))
      → count_by a cells + (count_by b cells + count_by c cells)
      ≡ count_by d cells + (count_by e cells + count_by f cells)
  as_often [] h = refl
  as_often (x ∷ cells) h =
      let one = h x (inl refl) in
      let others = as_often cells (λ y i. h y (inr i)) in
      let of_a : count_by a (x ∷ cells) ≡ one_if (a x) + count_by a cells = sum_by-cons (λ y. one_if (a y)) x cells in
      let of_b : count_by b (x ∷ cells) ≡ one_if (b x) + count_by b cells = sum_by-cons (λ y. one_if (b y)) x cells in
      let of_c : count_by c (x ∷ cells) ≡ one_if (c x) + count_by c cells = sum_by-cons (λ y. one_if (c y)) x cells in
      let of_d : count_by d (x ∷ cells) ≡ one_if (d x) + count_by d cells = sum_by-cons (λ y. one_if (d y)) x cells in
      let of_e : count_by e (x ∷ cells) ≡ one_if (e x) + count_by e cells = sum_by-cons (λ y. one_if (e y)) x cells in
      let of_f : count_by f (x ∷ cells) ≡ one_if (f x) + count_by f cells = sum_by-cons (λ y. one_if (f y)) x cells in
      omega (arith, one, others, of_a, of_b, of_c, of_d, of_e, of_f)

-- a list of different coordinates in space counts like all its coordinates
counted_among : (r : ℕ) (cells : List Coord) (p : Coord → Bool) → Apart cells
    → ((c : Coord) → In c cells → IsInSpace r c)
    → count_by p cells ≡ count_by (λ c. is_cell cells c && p c) (coordinates r)
counted_among r cells p apart within =
    let listed = length-filter p cells in
    let all = length-filter (λ c. is_cell cells c && p c) (coordinates r) in
    let no_longer = no_more (filter p cells) (filter (λ c. is_cell cells c && p c) (coordinates r)) (apart_filter p cells apart) in_all in
    let no_shorter = no_more (filter (λ c. is_cell cells c && p c) (coordinates r)) (filter p cells) (apart_filter (λ c. is_cell cells c && p c) (coordinates r) (apart_coordinates r)) in_cells in
    omega (arith, listed, all, no_longer, no_shorter)
  where
    in_all : (c : Coord) → In c (filter p cells) → In c (filter (λ d. is_cell cells d && p d) (coordinates r))
    in_all c i =
        let found = filter_in p c cells i in
        in_filter (λ d. is_cell cells d && p d) c (coordinates r) (in_coordinates r c (within c found.0)) (both_true (is_cell cells c) (p c) (among cells c found.0) found.1)

    in_cells : (c : Coord) → In c (filter (λ d. is_cell cells d && p d) (coordinates r)) → In c (filter p cells)
    in_cells c i =
        let found = filter_in (λ d. is_cell cells d && p d) c (coordinates r) i in
        in_filter p c cells (of_among cells c (first_of_two (is_cell cells c) (p c) found.1)) (second_of_two (is_cell cells c) (p c) found.1)

-- ---- the differences before and after a step

-- a voxel that became full or void was right if it is wrong now, and wrong if it is right now
one_voxel : (v f m t : Bool) → (v ≡ true → m ≡ false) → (f ≡ true → m ≡ true)
    → one_if ((cond v true (cond f false m) && not t) || (t && not (cond v true (cond f false m))))
    + (one_if (f && not t) + one_if (v && t))
    ≡ one_if ((m && not t) || (t && not m)) + (one_if (f && t) + one_if (v && not t))
one_voxel true true m t h k = absurd (not_both (k refl) (h refl))
one_voxel true false true t h k = absurd (not_both refl (h refl))
one_voxel true false false true h k = refl
one_voxel true false false false h k = refl
one_voxel false true false t h k = absurd (not_both (k refl) refl)
one_voxel false true true true h k = refl
one_voxel false true true false h k = refl
one_voxel false false true true h k = refl
one_voxel false false true false h k = refl
one_voxel false false false true h k = refl
one_voxel false false false false h k = refl

module _ (m t : Matrix) (undo : Undo) (h : HaveChanged m undo) where
  pub balance : difference_count (matrix_before m undo.filled.items undo.voided.items) t + became_wrong t undo
      ≡ difference_count m t + became_right t undo
  balance =
      let filled_apart = apart_of undo.filled.items h.filled_differ in
      let voided_apart = apart_of undo.voided.items h.voided_differ in
      let filled_in : (c : Coord) → In c undo.filled.items → IsInSpace m.resolution c = λ c i. (filled_is m undo h c i).0 in
      let voided_in : (c : Coord) → In c undo.voided.items → IsInSpace m.resolution c = λ c i. (voided_is m undo h c i).0 in
      let filled_right = counted_among m.resolution undo.filled.items (is_full t) filled_apart filled_in in
      let filled_wrong = counted_among m.resolution undo.filled.items (λ c. not (is_full t c)) filled_apart filled_in in
      let voided_right = counted_among m.resolution undo.voided.items (λ c. not (is_full t c)) voided_apart voided_in in
      let voided_wrong = counted_among m.resolution undo.voided.items (is_full t) voided_apart voided_in in
      let all_voxels = as_often (differ_at before t) (λ c. is_cell undo.filled.items c && not (is_full t c)) (λ c. is_cell undo.voided.items c && is_full t c) (differ_at m t) (λ c. is_cell undo.filled.items c && is_full t c) (λ c. is_cell undo.voided.items c && not (is_full t c)) (all_of m) each in
      omega (arith, filled_right, filled_wrong, voided_right, voided_wrong, all_voxels)
    where
      before : Matrix
      before = matrix_before m undo.filled.items undo.voided.items

      each : (c : Coord) → In c (all_of m) → one_if (differ_at before t c)
          + (one_if (is_cell undo.filled.items c && not (is_full t c))
          + one_if (is_cell undo.voided.items c && is_full t c)) ≡ one_if (differ_at m t c)
          + (one_if (is_cell undo.filled.items c && is_full t c)
          + one_if (is_cell undo.voided.items c && not (is_full t c)))
      each c i =
          ap (λ b. one_if ((b && not (is_full t c)) || (is_full t c && not b)) + (one_if (is_cell undo.filled.items c && not (is_full t c)) + one_if (is_cell undo.voided.items c && is_full t c)))
          (full_before m undo h c (coordinates_within m.resolution c i))
          ∙ one_voxel (is_cell undo.voided.items c) (is_cell undo.filled.items c) (is_full m c) (is_full t c)
          (λ e. (voided_is m undo h c (of_among undo.voided.items c e)).1) (λ e. (filled_is m undo h c (of_among undo.filled.items c e)).1)

-- a bound on the number of differing voxels
pub few_differ : (m t : Matrix) → m.resolution ≤ 400 → difference_count m t ≤ 64000000
few_differ m t small =
    let below = few_below m t (volume m.resolution) in
    let all = all_below m t in
    let cube : m.resolution * m.resolution * m.resolution ≤ 400 * 400 * 400 = mul-le-mul (mul-le-mul small small) small in
    omega (arith, below, all, cube)

-- ---- the two counts of a note's voxels

module _ (m : Matrix) (undo : Undo) (filled voided : List Coord) (filled_are : filled ≡ undo.filled.items) (voided_are : voided ≡ undo.voided.items) where
  pub few_voxels : HaveChanged m undo → m.resolution ≤ 400 → length filled + length voided ≤ 64000000
  few_voxels h small = few_changed m undo h (length filled) (length voided) small (ap length filled_are) (ap length voided_are)

  pub right_and_wrong : (t : Matrix) (filled_full voided_full : ℕ) → filled_full ≡ count_by (is_full t) filled
      → voided_full ≡ count_by (is_full t) voided
      → (filled_full + (length voided - voided_full) ≡ became_right t undo)
      × (length filled - filled_full + voided_full ≡ became_wrong t undo)
      × (became_right t undo + became_wrong t undo ≡ length filled + length voided)
  right_and_wrong t filled_full voided_full filled_is_full voided_is_full =
      let filled_rest = with_others (is_full t) filled in
      let voided_rest = with_others (is_full t) voided in
      let filled_now : count_by (is_full t) filled ≡ count_by (is_full t) undo.filled.items = ap (count_by (is_full t)) filled_are in
      let voided_now : count_by (is_full t) voided ≡ count_by (is_full t) undo.voided.items = ap (count_by (is_full t)) voided_are in
      let filled_void : count_by (λ c. not (is_full t c)) filled ≡ count_by (λ c. not (is_full t c)) undo.filled.items = ap (count_by (λ c. not (is_full t c))) filled_are in
      let voided_void : count_by (λ c. not (is_full t c)) voided ≡ count_by (λ c. not (is_full t c)) undo.voided.items = ap (count_by (λ c. not (is_full t c))) voided_are in (
        omega (arith, filled_is_full, voided_is_full, voided_rest, filled_now, voided_void),
        omega (arith, filled_is_full, voided_is_full, filled_rest, voided_now, filled_void),
        omega (arith, filled_rest, voided_rest, filled_now, voided_now, filled_void, voided_void),
      )

-- ---- the count before and after

-- a count can be updated by the voxels of a note, and is then the other one
abbrev ComesTo : Matrix → KeptTarget → ℕ → ℕ → Type 0
ComesTo new aim more less =
    (aim.differences + more ≤ 128000000) × (less ≤ aim.differences + more)
    × (new.resolution ≡ aim.target.resolution) × (aim.differences + more - less ≡ difference_count new aim.target)

module _ (m : Matrix) (undo : Undo) (h : HaveChanged m undo) (small : m.resolution ≤ 400) (old : Option KeptTarget) (aim : KeptTarget) (is : old ≡ Some aim) (right wrong : ℕ)
    (right_is : right ≡ became_right aim.target undo) (wrong_is : wrong ≡ became_wrong aim.target undo) (few : right + wrong ≤ 64000000) where
  pub counted_after : IsTargetCounted (matrix_before m undo.filled.items undo.voided.items) old
      → ComesTo m aim wrong right
  counted_after aimed =
      let here : IsTargetCounted (matrix_before m undo.filled.items undo.voided.items) (Some aim) = subst (IsTargetCounted (matrix_before m undo.filled.items undo.voided.items)) is aimed in
      let both = balance m aim.target undo h in
      let count = here.1 in
      let most = few_differ (matrix_before m undo.filled.items undo.voided.items) aim.target small in
      (omega (arith, count, most, few), omega (arith, both, count, right_is, wrong_is), here.0, omega (arith, both, count, right_is, wrong_is))

  pub counted_before : IsTargetCounted m old
      → ComesTo (matrix_before m undo.filled.items undo.voided.items) aim right wrong
  counted_before aimed =
      let here : IsTargetCounted m (Some aim) = subst (IsTargetCounted m) is aimed in
      let both = balance m aim.target undo h in
      let count = here.1 in
      let most = few_differ m aim.target small in
      (omega (arith, count, most, few), omega (arith, both, count, right_is, wrong_is), here.0, omega (arith, both, count, right_is, wrong_is))

-- ---- steps that change no voxel

module _ (m t : Matrix) (bots : List Bot) (commands : List Command) (none : list_any is_edit commands ≡ false) where
  differences_stay : difference_count (matrix_after m (acts bots commands)) t ≡ difference_count m t
  differences_stay =
      let same_listed : filter (differ_at (matrix_after m (acts bots commands)) t) (all_of m) ≡ filter (differ_at m t) (all_of m) =
      filter_same (differ_at (matrix_after m (acts bots commands)) t) (differ_at m t) (all_of m)
      (λ c i. ap (λ b. (b && not (is_full t c)) || (is_full t c && not b)) (stays m bots commands none c (coordinates_within m.resolution c i))) in
      let counted_then = length-filter (differ_at (matrix_after m (acts bots commands)) t) (all_of m) in
      let counted_now = length-filter (differ_at m t) (all_of m) in
      let same_length = ap length same_listed in
      omega (arith, counted_then, counted_now, same_length)

pub still_aimed : (v w : State) (commands : List Command) (step : ℕ) → list_any is_edit commands ≡ false
    → Next v commands step (Goes w) → (aim : Option KeptTarget) → IsTargetCounted v.matrix aim
    → IsTargetCounted w.matrix aim
still_aimed v w commands step none goes None aimed = tt
still_aimed v w commands step none goes (Some aim) aimed =
    let accepted = accepted_step v w commands step goes in
    (ap (λ (s : State). s.matrix.resolution) accepted.is ∙ aimed.0, aimed.1 ∙ (sym (differences_stay v.matrix aim.target v.bots commands none) ∙ ap (λ (s : State). difference_count s.matrix aim.target) (sym accepted.is)))
