-- The price of a region is a price for each void and for each full voxel in it.
use Rattle.std.proofs.Common.{◌≡◌, ℕ, ◌+◌, refl, sym, ◌∙◌, arith, Bool, true, false, cond, ◌&&◌, not, List, [], ◌∷◌, map}
use Rattle.std.specs.Prelude.{IsFalse, pos, negsuc, ◌+ℤ◌, count_by, filter}
use Rattle.std.proofs.lemmas.Int.{ints}
use Rattle.std.proofs.lemmas.List.Sums.{sum_by-cons}
use Rattle.vox_geom.specs.declared.coordinate.Coord.{Coord}
use Rattle.vox_geom.specs.Point.{Point, point, plus}
use Rattle.vox_geom.specs.Region.{Span, between, is_within, just}
use Rattle.vox_geom.proofs.Truths.{or_false}
use Rattle.nano_spec.specs.declared.commands.Command.{Command}
use Rattle.nano_spec.specs.declared.commands.Command.TheVariants.{Halt, Wait, Flip, SMove, LMove, FusionP, FusionS, Fission, Fill, Void, GFill, GVoid}
use Rattle.nano_spec.specs.Energy.{filling, group_cost, total, voiding}
use Rattle.nano_spec.specs.Matrix.{Matrix, is_full, all_of}
use Rattle.energy_sum.specs.Costs.{cost_of, filling_cost, met_full_count, is_met, is_secondary, void_count, voiding_cost}

pub count-cons : {A : Type 0} (p : A → Bool) (x : A) (xs : List A)
    → count_by p (x ∷ xs) ≡ cond (p x) 1 0 + count_by p xs
count-cons p x xs = sum_by-cons (λ y. cond (p y) 1 0) x xs

full_voided : (v g : ℕ) → negsuc 11 +ℤ voiding_cost v g ≡ voiding_cost (0 + v) (1 + g)
full_voided v g = omega (arith, ints)

void_voided : (v g : ℕ) → pos 3 +ℤ voiding_cost v g ≡ voiding_cost (1 + v) (0 + g)
void_voided v g = omega (arith, ints)

none_voided : (v g : ℕ) → voiding_cost v g ≡ voiding_cost (0 + v) (0 + g)
none_voided v g = omega (arith, ints)

module _ (m : Matrix) (within : Coord → Bool) where
  -- the void and the full voxels among some coordinates
  abbrev pub voids : List Coord → ℕ
  voids xs = count_by (λ c. within c && not (is_full m c)) xs

  abbrev pub fulls : List Coord → ℕ
  fulls xs = count_by (λ c. within c && is_full m c) xs

  one_filled : (p f : Bool) (x : Coord) (ys : List Coord) (v g : ℕ) → is_full m x ≡ f
      → total (map (λ c. cond (is_full m c) (pos 6) (pos 12)) ys) ≡ filling_cost v g
      → total (map (λ c. cond (is_full m c) (pos 6) (pos 12)) (cond p (x ∷ ys) ys))
      ≡ filling_cost (cond (p && not f) 1 0 + v) (cond (p && f) 1 0 + g)
  one_filled true true x ys v g e h = rw (e, h) (omega (arith, ints))
  one_filled true false x ys v g e h = rw (e, h) (omega (arith, ints))
  one_filled false f x ys v g e h = h ∙ omega (arith, ints)

  filled_total : (xs : List Coord)
      → total (map (λ c. cond (is_full m c) (pos 6) (pos 12)) (filter within xs)) ≡ filling_cost (voids xs) (fulls xs)
  filled_total [] = refl
  filled_total (x ∷ xs) =
      one_filled (within x) (is_full m x) x (filter within xs) (voids xs) (fulls xs) refl (filled_total xs)
      ∙ (λ i. filling_cost (sym (count-cons (λ c. within c && not (is_full m c)) x xs) i) (sym (count-cons (λ c. within c && is_full m c) x xs) i))

  one_voided : (p f : Bool) (x : Coord) (ys : List Coord) (v g : ℕ) → is_full m x ≡ f
      → total (map (λ c. cond (is_full m c) (negsuc 11) (pos 3)) ys) ≡ voiding_cost v g
      → total (map (λ c. cond (is_full m c) (negsuc 11) (pos 3)) (cond p (x ∷ ys) ys))
      ≡ voiding_cost (cond (p && not f) 1 0 + v) (cond (p && f) 1 0 + g)
  one_voided true true x ys v g e h = rw (e, h) (full_voided v g)
  one_voided true false x ys v g e h = rw (e, h) (void_voided v g)
  one_voided false f x ys v g e h = h ∙ none_voided v g

  voided_total : (xs : List Coord) → total (map (λ c. cond (is_full m c) (negsuc 11) (pos 3)) (filter within xs))
      ≡ voiding_cost (voids xs) (fulls xs)
  voided_total [] = refl
  voided_total (x ∷ xs) =
      one_voided (within x) (is_full m x) x (filter within xs) (voids xs) (fulls xs) refl (voided_total xs)
      ∙ (λ i. voiding_cost (sym (count-cons (λ c. within c && not (is_full m c)) x xs) i) (sym (count-cons (λ c. within c && is_full m c) x xs) i))

  -- the void and the full coordinates are all
  one_each : (p f : Bool) (v g n : ℕ) → v + g ≡ n
      → (cond (p && not f) 1 0 + v) + (cond (p && f) 1 0 + g) ≡ cond p 1 0 + n
  one_each true true v g n h = omega arith
  one_each true false v g n h = omega arith
  one_each false f v g n h = omega arith

  pub voids-and-fulls : (xs : List Coord) → voids xs + fulls xs ≡ count_by within xs
  voids-and-fulls [] = refl
  voids-and-fulls (x ∷ xs) =
      (λ i. count-cons (λ c. within c && not (is_full m c)) x xs i + count-cons (λ c. within c && is_full m c) x xs i)
      ∙ (one_each (within x) (is_full m x) (voids xs) (fulls xs) (count_by within xs) (voids-and-fulls xs) ∙ sym (count-cons within x xs))

-- to fill or to void a region costs by its void and its full voxels
pub filling-is : (m : Matrix) (s : Span) → filling m s
    ≡ filling_cost (voids m (λ c. is_within s (point c)) (all_of m)) (fulls m (λ c. is_within s (point c)) (all_of m))
filling-is m s = filled_total m (λ c. is_within s (point c)) (all_of m)

pub voiding-is : (m : Matrix) (s : Span) → voiding m s
    ≡ voiding_cost (voids m (λ c. is_within s (point c)) (all_of m)) (fulls m (λ c. is_within s (point c)) (all_of m))
voiding-is m s = voided_total m (λ c. is_within s (point c)) (all_of m)

-- the voxels that are met in one region alone
pub voids-one : (m : Matrix) (s : Span) → count_by (λ c. is_met (s ∷ []) c && not (is_full m c)) (all_of m)
    ≡ voids m (λ c. is_within s (point c)) (all_of m)
voids-one m s = λ i. count_by (λ c. or_false (is_within s (point c)) i && not (is_full m c)) (all_of m)

pub fulls-one : (m : Matrix) (s : Span)
    → count_by (λ c. is_met (s ∷ []) c && is_full m c) (all_of m) ≡ fulls m (λ c. is_within s (point c)) (all_of m)
fulls-one m s = λ i. count_by (λ c. or_false (is_within s (point c)) i && is_full m c) (all_of m)

-- the price of the region that a command fills or voids is its cost by the voxels that it meets there
pub filling-met : (m : Matrix) (s : Span) (v f : ℕ)
    → v ≡ count_by (λ c. is_met (s ∷ []) c && not (is_full m c)) (all_of m)
    → f ≡ count_by (λ c. is_met (s ∷ []) c && is_full m c) (all_of m) → filling_cost v f ≡ filling m s
filling-met m s v f h k = (λ i. filling_cost ((h ∙ voids-one m s) i) ((k ∙ fulls-one m s) i)) ∙ sym (filling-is m s)

pub voiding-met : (m : Matrix) (s : Span) (v f : ℕ)
    → v ≡ count_by (λ c. is_met (s ∷ []) c && not (is_full m c)) (all_of m)
    → f ≡ count_by (λ c. is_met (s ∷ []) c && is_full m c) (all_of m) → voiding_cost v f ≡ voiding m s
voiding-met m s v f h k = (λ i. voiding_cost ((h ∙ voids-one m s) i) ((k ∙ fulls-one m s) i)) ∙ sym (voiding-is m s)

-- the cost of any command but a secondary's is that of its group
pub cost_is_of_group : (command : Command) (v f : ℕ) (m : Matrix) (p : Point) → IsFalse (is_secondary command)
    → v ≡ void_count m p command → f ≡ met_full_count m p command → cost_of command v f ≡ group_cost m p command
cost_is_of_group Halt v f m p n h k = refl
cost_is_of_group Wait v f m p n h k = refl
cost_is_of_group Flip v f m p n h k = refl
cost_is_of_group (SMove d) v f m p n h k = refl
cost_is_of_group (LMove d e) v f m p n h k = refl
cost_is_of_group (FusionP d) v f m p n h k = refl
cost_is_of_group (FusionS d) v f m p n h k = cc
cost_is_of_group (Fission d a) v f m p n h k = refl
cost_is_of_group (Fill d) v f m p n h k = filling-met m (just (plus p d)) v f h k
cost_is_of_group (Void d) v f m p n h k = voiding-met m (just (plus p d)) v f h k
cost_is_of_group (GFill d e) v f m p n h k = filling-met m (between (plus p d) (plus (plus p d) e)) v f h k
cost_is_of_group (GVoid d e) v f m p n h k = voiding-met m (between (plus p d) (plus (plus p d) e)) v f h k
