-- Lines along an axis: their bits, and the search for the first full coordinate of a region that is a line.
use Rattle.std.proofs.Common.{◌≡◌, ℕ, zero, suc, ◌+◌, ◌-◌, ◌*◌, ◌/◌, ◌<◌, ◌≤◌, refl, sym, ◌∙◌, ap, subst, arith, Bool, true, false, cond, List, ◌++◌, append-nil, length, filter, find, Option, Some, None, inl, inr}
use Rattle.std.specs.Prelude.{◌⊎◌}
use Rattle.std.specs.Option.{option_or}
use Rattle.std.proofs.Math.Nat.{mul-le-mul}
use Rattle.std.proofs.lemmas.Bool.{cases_lt}
use Rattle.vox_geom.specs.declared.coordinate.Coord.{Coord}
use Rattle.vox_geom.specs.Region.{Corners, IsOrdered}
use Rattle.vox_geom.specs.Space.{IsInSpace, coordinates, place}
use Rattle.nano_spec.specs.Matrix.{Matrix, all_of, is_full}
use Rattle.vox_planes.specs.Bits.{AreClear, IsFirstBit}
use Rattle.vox_planes.specs.Layers.{bit_index, is_set, layer_words, layered}
use Rattle.vox_planes.specs.Walk.{coordinates_from, passes_in, row, row_start}
use Rattle.vox_planes.proofs.Bits.{in_layer}
use Rattle.vox_planes.proofs.Voxels.{is_full-layered}
use Rattle.vox_planes.proofs.Walks.{filter-end, filter-next_wall, filter-start, filter-step, find-end, find-next_wall, find-start, find-step, row-end, row-more}

-- ---- equally spaced bits

pub free_more : (ws : List ℕ) (from apart n at : ℕ) → AreClear ws from apart n → at ≡ from + n * apart
    → is_set ws at ≡ false → AreClear ws from apart (n + 1)
free_more ws from apart n at f e h = record { free = λ k l. by k l (cases_lt k n) }
  where
    by : (k : ℕ) → k < n + 1 → ((k < n) ⊎ (n ≤ k)) → is_set ws (from + k * apart) ≡ false
    by k l (inl m) = f.free k m
    by k l (inr m) =
        let same : k ≡ n = omega arith in
        ap (λ v. is_set ws (from + v * apart)) same ∙ (ap (is_set ws) (sym e) ∙ h)

-- ---- a search that goes on at the next of n coordinates

record IsLine (test : Coord → Bool) (at : ℕ → Coord) (walk : ℕ → Option Coord) (count : ℕ) : Type 0 where
  pub next : (n : ℕ) → n < count → walk n ≡ cond (test (at n)) (Some (at n)) (walk (n + 1))
  pub ended : walk count ≡ None

not_before : (test : Coord → Bool) (at : ℕ → Coord) (walk : ℕ → Option Coord) (count : ℕ) → IsLine test at walk count
    → (n : ℕ) → n ≤ count → ((k : ℕ) → k < n → test (at k) ≡ false) → walk 0 ≡ walk n
not_before test at walk count w zero l free = refl
not_before test at walk count w (suc n) l free =
    let sum_is : n + 1 ≡ suc n = omega arith in
    not_before test at walk count w n (omega arith) (λ k m. free k (omega arith))
    ∙ (w.next n (omega arith)
    ∙ (ap (λ b. cond b (Some (at n)) (walk (n + 1))) (free n (omega arith)) ∙ ap walk sum_is))

first_of : (test : Coord → Bool) (at : ℕ → Coord) (walk : ℕ → Option Coord) (count : ℕ) → IsLine test at walk count
    → (n : ℕ) → n < count → ((k : ℕ) → k < n → test (at k) ≡ false) → test (at n) ≡ true → walk 0 ≡ Some (at n)
first_of test at walk count w n l free here =
    not_before test at walk count w n (omega arith) free
    ∙ (w.next n l ∙ ap (λ b. cond b (Some (at n)) (walk (n + 1))) here)

none_of : (test : Coord → Bool) (at : ℕ → Coord) (walk : ℕ → Option Coord) (count : ℕ) → IsLine test at walk count
    → ((k : ℕ) → k < count → test (at k) ≡ false) → walk 0 ≡ None
none_of test at walk count w free = not_before test at walk count w count (omega arith) free ∙ w.ended

-- ---- the lines of a region

-- the coordinate of a line along x, or along y, with this number
abbrev pub along_x : Corners → ℕ → Coord
along_x k n = record { x = k.low.x + n; y = k.low.y; z = k.low.z }

abbrev pub along_y : Corners → ℕ → Coord
along_y k n = record { x = k.low.x; y = k.low.y + n; z = k.low.z }

or_one : (b : Bool) (c : Coord) (o : Option Coord) → option_or (cond b (Some c) None) o ≡ cond b (Some c) o
or_one true c o = refl
or_one false c o = refl

or_none : (o : Option Coord) → option_or o None ≡ o
or_none (Some c) = refl
or_none None = refl

one_of_row : (test : Coord → Bool) (c : Coord) (last : ℕ) → c.z ≡ last
    → find test (row c last) ≡ cond (test c) (Some c) None
one_of_row test c last e =
    ap (find test) (row-more c last (omega arith))
    ∙ ap (λ o. cond (test c) (Some c) o) (ap (find test) (row-end (record { x = c.x; y = c.y; z = c.z + 1 }) last (omega arith)))

module _ (r : ℕ) (k : Corners) (test : Coord → Bool) (o : IsOrdered k) (s : IsInSpace r k.high) where
  -- a row of one coordinate
  one_more : k.low.z ≡ k.high.z → (x y : ℕ) → k.low.x ≤ x → x ≤ k.high.x → k.low.y ≤ y → y ≤ k.high.y
      → find (passes_in k test) (coordinates_from r (place r (row_start k x y))) ≡ cond (test (row_start k x y))
      (Some (row_start k x y)) (find (passes_in k test) (coordinates_from r (place r (row_start k x (y + 1)))))
  one_more z x y xl xh yl yh =
      sym (find-step r k test o s x y xl xh yl yh)
      ∙ (ap (λ f. option_or f (find (passes_in k test) (coordinates_from r (place r (row_start k x (y + 1)))))) (one_of_row test (row_start k x y) k.high.z z)
      ∙ or_one (test (row_start k x y)) (row_start k x y) (find (passes_in k test) (coordinates_from r (place r (row_start k x (y + 1))))))

  is_line_x : k.low.y ≡ k.high.y → k.low.z ≡ k.high.z → IsLine test (along_x k)
      (λ n. find (passes_in k test) (coordinates_from r (place r (row_start k (k.low.x + n) k.low.y))))
      (k.high.x + 1 - k.low.x)
  is_line_x y z = record {
    next = λ n l.
        let sum_is : k.low.x + n + 1 ≡ k.low.x + (n + 1) = omega arith in
        one_more z (k.low.x + n) k.low.y (omega arith) (omega arith) (omega arith) (omega (arith, o.y))
        ∙ ap (λ f. cond (test (along_x k n)) (Some (along_x k n)) f)
        (ap (λ v. find (passes_in k test) (coordinates_from r (place r (row_start k (k.low.x + n) (v + 1))))) y
        ∙ (find-next_wall r k test o s (k.low.x + n)
        ∙ ap (λ v. find (passes_in k test) (coordinates_from r (place r (row_start k v k.low.y)))) sum_is));
    ended =
        let sum_is : k.low.x + (k.high.x + 1 - k.low.x) ≡ k.high.x + 1 = omega (arith, o.x) in
        ap (λ v. find (passes_in k test) (coordinates_from r (place r (row_start k v k.low.y)))) sum_is ∙ find-end r k test o s;
  }

  is_line_y : k.low.x ≡ k.high.x → k.low.z ≡ k.high.z → IsLine test (along_y k)
      (λ n. find (passes_in k test) (coordinates_from r (place r (row_start k k.low.x (k.low.y + n)))))
      (k.high.y + 1 - k.low.y)
  is_line_y x z = record {
    next = λ n l.
        let sum_is : k.low.y + n + 1 ≡ k.low.y + (n + 1) = omega arith in
        one_more z k.low.x (k.low.y + n) (omega arith) (omega (arith, o.x)) (omega arith) (omega arith)
        ∙ ap (λ f. cond (test (along_y k n)) (Some (along_y k n)) f)
        (ap (λ v. find (passes_in k test) (coordinates_from r (place r (row_start k k.low.x v)))) sum_is);
    ended =
        let sum_is : k.low.y + (k.high.y + 1 - k.low.y) ≡ k.high.y + 1 = omega (arith, o.y) in
        ap (λ v. find (passes_in k test) (coordinates_from r (place r (row_start k k.low.x v)))) sum_is
        ∙ (find-next_wall r k test o s k.low.x
        ∙ (ap (λ v. find (passes_in k test) (coordinates_from r (place r (row_start k (v + 1) k.low.y)))) x ∙ find-end r k test o s));
  }

  start_x : find (passes_in k test) (coordinates r)
      ≡ find (passes_in k test) (coordinates_from r (place r (row_start k (k.low.x + 0) k.low.y)))
  start_x =
      let x_is : k.low.x ≡ k.low.x + 0 = omega arith in
      find-start r k test o s ∙ ap (λ v. find (passes_in k test) (coordinates_from r (place r (row_start k v k.low.y)))) x_is

  start_y : find (passes_in k test) (coordinates r)
      ≡ find (passes_in k test) (coordinates_from r (place r (row_start k k.low.x (k.low.y + 0))))
  start_y =
      let y_is : k.low.y ≡ k.low.y + 0 = omega arith in
      find-start r k test o s ∙ ap (λ v. find (passes_in k test) (coordinates_from r (place r (row_start k k.low.x v)))) y_is

  -- a region that is a row
  pub row_alone : k.low.x ≡ k.high.x → k.low.y ≡ k.high.y
      → find test (row k.low k.high.z) ≡ find (passes_in k test) (coordinates r)
  row_alone x y =
      let ended =
      ap (λ v. find (passes_in k test) (coordinates_from r (place r (row_start k k.low.x (v + 1))))) y
      ∙ (find-next_wall r k test o s k.low.x
      ∙ (ap (λ v. find (passes_in k test) (coordinates_from r (place r (row_start k (v + 1) k.low.y)))) x ∙ find-end r k test o s)) in
      sym (find-start r k test o s
      ∙ (sym (find-step r k test o s k.low.x k.low.y (omega arith) (omega (arith, o.x)) (omega arith) (omega (arith, o.y)))
      ∙ (ap (λ f. option_or (find test (row k.low k.high.z)) f) ended
      ∙ or_none (find test (row k.low k.high.z)))))

  -- the list of the coordinates that pass
  pub row_listed : k.low.x ≡ k.high.x → k.low.y ≡ k.high.y
      → filter test (row k.low k.high.z) ≡ filter (passes_in k test) (coordinates r)
  row_listed x y =
      let ended =
      ap (λ v. filter (passes_in k test) (coordinates_from r (place r (row_start k k.low.x (v + 1))))) y
      ∙ (filter-next_wall r k test o s k.low.x
      ∙ (ap (λ v. filter (passes_in k test) (coordinates_from r (place r (row_start k (v + 1) k.low.y)))) x ∙ filter-end r k test o s)) in
      sym (filter-start r k test o s
      ∙ (sym (filter-step r k test o s k.low.x k.low.y (omega arith) (omega (arith, o.x)) (omega arith) (omega (arith, o.y)))
      ∙ (ap (λ f. filter test (row k.low k.high.z) ++ f) ended
      ∙ append-nil (filter test (row k.low k.high.z)))))

-- ---- lines by their bits

-- the bits of a line, the first of them at the index of the least coordinate
module _ (r : ℕ) (ws : List ℕ) (m : Matrix) (k : Corners) (e : layered r ws ≡ m) (o : IsOrdered k) (s : IsInSpace r k.high) where
  in_x : k.low.y ≡ k.high.y → k.low.z ≡ k.high.z → (n : ℕ) → n < k.high.x + 1 - k.low.x → IsInSpace r (along_x k n)
  in_x y z n l = record { x = omega (arith, s.x); y = omega (arith, s.y); z = omega (arith, s.z) }

  in_y : k.low.x ≡ k.high.x → k.low.z ≡ k.high.z → (n : ℕ) → n < k.high.y + 1 - k.low.y → IsInSpace r (along_y k n)
  in_y x z n l = record { x = omega (arith, s.x); y = omega (arith, s.y); z = omega (arith, s.z) }

  -- the words have these bits
  index_within : (c : Coord) → IsInSpace r c → (bit_index r c) / 64 < r * layer_words r
  index_within c h =
      let layer = in_layer r c h in
      let below : (c.y + 1) * layer_words r ≤ r * layer_words r = mul-le-mul (let h_along_y = h.y in omega arith) (omega arith) in
      omega arith

  pub within_x : k.low.y ≡ k.high.y → k.low.z ≡ k.high.z → (words : List ℕ) (first apart : ℕ) → words ≡ ws
      → first ≡ bit_index r k.low → apart ≡ r → length ws ≡ r * layer_words r → (n : ℕ) → n < k.high.x + 1 - k.low.x
      → (first + n * apart) / 64 < length words
  within_x y z words first apart ew ef ea el n l =
      let same_bit_index : bit_index r (along_x k n) ≡ bit_index r k.low + n * r = omega arith in
      subst (λ (v : ℕ). v / 64 < length words) (same_bit_index ∙ (λ j. sym ef j + n * sym ea j)) (subst (λ (v : ℕ). bit_index r (along_x k n) / 64 < v) (sym (ap length ew ∙ el)) (index_within (along_x k n) (in_x y z n l)))

  pub within_y : k.low.x ≡ k.high.x → k.low.z ≡ k.high.z → (words : List ℕ) (first apart : ℕ) → words ≡ ws
      → first ≡ bit_index r k.low → apart ≡ layer_words r * 64 → length ws ≡ r * layer_words r → (n : ℕ)
      → n < k.high.y + 1 - k.low.y → (first + n * apart) / 64 < length words
  within_y x z words first apart ew ef ea el n l =
      let same_bit_index : bit_index r (along_y k n) ≡ bit_index r k.low + n * (layer_words r * 64) = omega arith in
      subst (λ (v : ℕ). v / 64 < length words) (same_bit_index ∙ (λ j. sym ef j + n * sym ea j)) (subst (λ (v : ℕ). bit_index r (along_y k n) / 64 < v) (sym (ap length ew ∙ el)) (index_within (along_y k n) (in_y x z n l)))

  voxel_x : k.low.y ≡ k.high.y → k.low.z ≡ k.high.z → (n : ℕ) → n < k.high.x + 1 - k.low.x
      → is_full (layered r ws) (along_x k n) ≡ is_set ws (bit_index r k.low + n * r)
  voxel_x y z n l =
      let same_bit_index : bit_index r (along_x k n) ≡ bit_index r k.low + n * r = omega arith in
      is_full-layered r ws (along_x k n) (in_x y z n l) ∙ ap (is_set ws) same_bit_index

  voxel_y : k.low.x ≡ k.high.x → k.low.z ≡ k.high.z → (n : ℕ) → n < k.high.y + 1 - k.low.y
      → is_full (layered r ws) (along_y k n) ≡ is_set ws (bit_index r k.low + n * (layer_words r * 64))
  voxel_y x z n l =
      let same_bit_index : bit_index r (along_y k n) ≡ bit_index r k.low + n * (layer_words r * 64) = omega arith in
      is_full-layered r ws (along_y k n) (in_y x z n l) ∙ ap (is_set ws) same_bit_index

  pub found_x : k.low.y ≡ k.high.y → k.low.z ≡ k.high.z → (n : ℕ) → n < k.high.x + 1 - k.low.x
      → IsFirstBit ws (bit_index r k.low) r n → Some (along_x k n) ≡ find (passes_in k (is_full m)) (all_of m)
  found_x y z n l f =
      sym (ap (λ (v : Matrix). find (passes_in k (is_full v)) (all_of v)) (sym e)
      ∙ (start_x r k (is_full (layered r ws)) o s
      ∙ first_of (is_full (layered r ws)) (along_x k) _ _ (is_line_x r k (is_full (layered r ws)) o s y z) n l (λ j h. voxel_x y z j (omega arith) ∙ (f.before).free j h) (voxel_x y z n l ∙ f.here)))

  pub none_x : k.low.y ≡ k.high.y → k.low.z ≡ k.high.z → AreClear ws (bit_index r k.low) r (k.high.x + 1 - k.low.x)
      → None ≡ find (passes_in k (is_full m)) (all_of m)
  none_x y z f =
      sym (ap (λ (v : Matrix). find (passes_in k (is_full v)) (all_of v)) (sym e)
      ∙ (start_x r k (is_full (layered r ws)) o s
      ∙ none_of (is_full (layered r ws)) (along_x k) _ _ (is_line_x r k (is_full (layered r ws)) o s y z) (λ j h. voxel_x y z j h ∙ f.free j h)))

  pub found_y : k.low.x ≡ k.high.x → k.low.z ≡ k.high.z → (n : ℕ) → n < k.high.y + 1 - k.low.y
      → IsFirstBit ws (bit_index r k.low) (layer_words r * 64) n
      → Some (along_y k n) ≡ find (passes_in k (is_full m)) (all_of m)
  found_y x z n l f =
      sym (ap (λ (v : Matrix). find (passes_in k (is_full v)) (all_of v)) (sym e)
      ∙ (start_y r k (is_full (layered r ws)) o s
      ∙ first_of (is_full (layered r ws)) (along_y k) _ _ (is_line_y r k (is_full (layered r ws)) o s x z) n l (λ j h. voxel_y x z j (omega arith) ∙ (f.before).free j h) (voxel_y x z n l ∙ f.here)))

  pub none_y : k.low.x ≡ k.high.x → k.low.z ≡ k.high.z
      → AreClear ws (bit_index r k.low) (layer_words r * 64) (k.high.y + 1 - k.low.y)
      → None ≡ find (passes_in k (is_full m)) (all_of m)
  none_y x z f =
      sym (ap (λ (v : Matrix). find (passes_in k (is_full v)) (all_of v)) (sym e)
      ∙ (start_y r k (is_full (layered r ws)) o s
      ∙ none_of (is_full (layered r ws)) (along_y k) _ _ (is_line_y r k (is_full (layered r ws)) o s x z) (λ j h. voxel_y x z j h ∙ f.free j h)))

-- the effect of `next_apart`, for the words as they are kept
pub first_as : (ws us : List ℕ) (from s apart a n : ℕ) → ws ≡ us → from ≡ s → apart ≡ a → IsFirstBit ws from apart n
    → IsFirstBit us s a n
first_as ws us from s apart a n ew es ea f = subst (λ (v : List ℕ). IsFirstBit v s a n) ew (subst (λ (v : ℕ). IsFirstBit ws v a n) es (subst (λ (v : ℕ). IsFirstBit ws from v n) ea f))

pub all_as : (ws us : List ℕ) (from s apart a n m : ℕ) → ws ≡ us → from ≡ s → apart ≡ a → n ≡ m
    → AreClear ws from apart n → AreClear us s a m
all_as ws us from s apart a n m ew es ea en f = subst (λ (v : List ℕ). AreClear v s a m) ew (subst (λ (v : ℕ). AreClear ws v a m) es (subst (λ (v : ℕ). AreClear ws from v m) ea (subst (λ (v : ℕ). AreClear ws from apart v) en f)))
