-- Areas of a matrix that are made full or void, part by part.
use Rattle.std.proofs.Common.{◌≡◌, ℕ, ◌+◌, ◌-◌, ◌*◌, ◌^◌, ◌<◌, ◌≤◌, refl, sym, ◌∙◌, ap, subst, arith, Bool, true, false, cond, not, ◌&&◌, ◌||◌, ◌==◌, List, length, pos, get_or}
use Rattle.std.specs.Prelude.{count_by}
use Rattle.std.proofs.lemmas.Bool.Decides.{nat_tests}
use Rattle.std.proofs.lemmas.List.{ext_get_or}
use Rattle.std.proofs.lemmas.List.Sums.{length-filter}
use Rattle.std.proofs.lemmas.Nat.Bits.{bit_at_ones, bit_at-zero}
use Rattle.vox_geom.specs.declared.coordinate.Coord.{Coord}
use Rattle.vox_geom.specs.Point.{point}
use Rattle.vox_geom.specs.Region.{Corners, IsOrdered, is_between, is_within, size, span}
use Rattle.vox_geom.specs.Space.{IsInSpace, coordinate_at, coordinates, place}
use Rattle.vox_geom.proofs.Firsts.{at_in_space, place_below}
use Rattle.vox_geom.proofs.Places.{coordinate_at-place, place-coordinate_at}
use Rattle.vox_geom.proofs.Truths.{no_first_of_three, no_second as last_no, no_second_of_three, twice_chosen}
use Rattle.vox_geom.proofs.Points.{in_space_is}
use Rattle.nano_spec.specs.Matrix.{Matrix, is_full, matrix_where}
use Rattle.nano_spec.specs.Model.{bit}
use Rattle.vox_planes.specs.Bits.{has_value}
use Rattle.vox_planes.specs.Layers.{IsLayered, bit_index, is_set, layered}
use Rattle.vox_planes.specs.Painting.{IsPainted, is_in_layer, is_in_layers, is_in_row, is_up_to}
use Rattle.vox_planes.specs.Voxel.{IsWhole, is_state}
use Rattle.vox_planes.specs.Walk.{at, layer_size, passes_in, row, row_start}
use Rattle.vox_planes.proofs.Bits.{one_bit}
use Rattle.vox_planes.proofs.Chunks.{ArePutBits}
use Rattle.vox_planes.proofs.Filled.{AreFilled, others_total}
use Rattle.vox_planes.proofs.Placed.{none_of_these, put_layered}
use Rattle.vox_planes.proofs.Lines.{row_listed}
use Rattle.vox_planes.proofs.Totals.{counted, one_if, total, total-plus, total-same}
use Rattle.vox_planes.proofs.Voxels.{get_or-where, is_full-layered, is_full-where, length-where, same_where}
use Rattle.vox_planes.proofs.Walks.{size-walls}

-- ---- sums over the coordinates of a matrix

-- two counts that make a third one at each coordinate
count_both : (r : ℕ) (f g h : Coord → Bool) → ((c : Coord) → IsInSpace r c → one_if (h c) ≡ one_if (f c) + one_if (g c))
    → count_by h (coordinates r) ≡ count_by f (coordinates r) + count_by g (coordinates r)
count_both r f g h each =
    let at_each : ℕ → Coord = λ k. coordinate_at r (0 + k) in
    counted h (coordinate_at r) (r * r * r) 0
    ∙ (total-same (r * r * r) (λ k. one_if (h (coordinate_at r (0 + k)))) (λ k. one_if (f (coordinate_at r (0 + k))) + one_if (g (coordinate_at r (0 + k)))) (λ k l. each (coordinate_at r (0 + k)) (at_in_space r (0 + k) (omega arith)))
    ∙ (total-plus (r * r * r) (λ k. one_if (f (coordinate_at r (0 + k)))) (λ k. one_if (g (coordinate_at r (0 + k))))
    ∙ (λ i. sym (counted f (coordinate_at r) (r * r * r) 0) i + sym (counted g (coordinate_at r) (r * r * r) 0) i)))

count_none : (r : ℕ) (f : Coord → Bool) → ((c : Coord) → IsInSpace r c → f c ≡ false) → count_by f (coordinates r) ≡ 0
count_none r f none =
    let twice : count_by f (coordinates r) ≡ count_by f (coordinates r) + count_by f (coordinates r) = count_both r f f f (λ c i. zero_each (f c) (none c i)) in
    omega arith
  where
    zero_each : (b : Bool) → b ≡ false → one_if b ≡ one_if b + one_if b
    zero_each true e = cc
    zero_each false e = refl

-- ---- one area after another

-- a whole matrix is that of its voxels
itself : (m : Matrix) → IsWhole m → m ≡ matrix_where m.resolution (λ d. is_full m d)
itself m w =
    let same : m.voxels ≡ (matrix_where m.resolution (λ d. is_full m d)).voxels = ext_get_or false m.voxels (matrix_where m.resolution (λ d. is_full m d)).voxels (w.voxels ∙ sym (length-where m.resolution (λ d. is_full m d))) (λ k l. voxel k (subst (λ (n : ℕ). k < n) w.voxels l)) in
    λ i. record { resolution = m.resolution; voxels = same i }
  where
    voxel : (k : ℕ) → k < m.resolution * m.resolution * m.resolution
        → get_or m.voxels k false ≡ get_or (matrix_where m.resolution (λ d. is_full m d)).voxels k false
    voxel k l = sym (get_or-where m.resolution (λ d. is_full m d) k l
        ∙ (ap (λ b. b && get_or m.voxels (place m.resolution (coordinate_at m.resolution k)) false) (in_space_is m.resolution (coordinate_at m.resolution k) (at_in_space m.resolution k l))
        ∙ ap (λ p. get_or m.voxels p false) (place-coordinate_at m.resolution k)))

pub painted_none : (m : Matrix) (area : Coord → Bool) (full : Bool) → IsWhole m → ((d : Coord) → area d ≡ false)
    → IsPainted m m area full 0
painted_none m area full w none = record {
  value = itself m w ∙ same_where m.resolution (λ d. is_full m d) (λ d. cond (area d) full (is_full m d)) (λ d i. sym (ap (λ b. cond b full (is_full m d)) (none d)));
  count = sym (count_none m.resolution (λ c. is_state m (not full) c && area c) (λ d i. last_no (is_state m (not full) d) (area d) (none d)));
}

once_counted : (a b full old : Bool) → one_if (has_value (not full) old && (a || b))
    ≡ one_if (has_value (not full) old && a) + one_if (has_value (not full) (cond a full old) && b)
once_counted true true true true = refl
once_counted true true true false = refl
once_counted true true false true = refl
once_counted true true false false = refl
once_counted true false true true = refl
once_counted true false true false = refl
once_counted true false false true = refl
once_counted true false false false = refl
once_counted false true true true = refl
once_counted false true true false = refl
once_counted false true false true = refl
once_counted false true false false = refl
once_counted false false true true = refl
once_counted false false true false = refl
once_counted false false false true = refl
once_counted false false false false = refl

pub painted_more : (old mid new : Matrix) (f g h : Coord → Bool) (full : Bool) (a b : ℕ) → IsPainted old mid f full a
    → IsPainted mid new g full b → ((d : Coord) → h d ≡ (f d || g d)) → IsPainted old new h full (a + b)
painted_more old mid new f g h full a b p q joins = subst (λ (t : Coord → Bool). IsPainted old new t full (a + b)) (λ i d. sym (joins d) i) both
  where
    r : ℕ
    r = old.resolution

    now : (d : Coord) → IsInSpace old.resolution d → is_full mid d ≡ cond (f d) full (is_full old d)
    now d i = ap (λ (m : Matrix). is_full m d) p.value ∙ is_full-where old.resolution (λ e. cond (f e) full (is_full old e)) d i

    side : mid.resolution ≡ old.resolution
    side = ap (λ (m : Matrix). m.resolution) p.value

    both : IsPainted old new (λ d. f d || g d) full (a + b)
    both = record {
      value =
          q.value
          ∙ (ap (λ n. matrix_where n (λ d. cond (g d) full (is_full mid d))) side
          ∙ same_where old.resolution (λ d. cond (g d) full (is_full mid d)) (λ d. cond (f d || g d) full (is_full old d)) (λ d i. ap (λ b. cond (g d) full b) (now d i) ∙ twice_chosen (f d) (g d) full (is_full old d)));
      count =
          (λ i. p.count i + (q.count ∙ ap (λ n. count_by (λ c. is_state mid (not full) c && g c) (coordinates n)) side) i)
          ∙ sym (count_both old.resolution (λ c. is_state old (not full) c && f c) (λ c. is_state mid (not full) c && g c) (λ c. is_state old (not full) c && (f c || g c)) (λ d i.
          once_counted (f d) (g d) full (is_full old d)
          ∙ ap (λ b. one_if (is_state old (not full) d && f d) + one_if (has_value (not full) b && g d)) (sym (now d i))));
    }

-- ---- boxes

join_axis : (a b c v : ℕ) → a ≤ b → b ≤ c → is_up_to a c v ≡ (is_up_to a b v || is_up_to b c v)
join_axis a b c v l m = grind (arith, nat_tests)

no_axis : (a v : ℕ) → is_up_to a a v ≡ false
no_axis a v = grind (arith, nat_tests)

axis_is : (a b v : ℕ) → a ≤ b → is_up_to a (b + 1) v ≡ is_between (pos a) (pos b) (pos v)
axis_is a b v l = grind (arith, nat_tests)

either_first : (p q y z : Bool) → ((p || q) && y && z) ≡ ((p && y && z) || (q && y && z))
either_first true true true true = refl
either_first true true true false = refl
either_first true true false z = refl
either_first true false true true = refl
either_first true false true false = refl
either_first true false false z = refl
either_first false q y z = refl

either_second : (x p q z : Bool) → (x && (p || q) && z) ≡ ((x && p && z) || (x && q && z))
either_second true true true true = refl
either_second true true true false = refl
either_second true true false true = refl
either_second true true false false = refl
either_second true false q z = refl
either_second false p q z = refl

pub layer_none : (k : Corners) (y : ℕ) (d : Coord) → is_in_layer k y k.low.x d ≡ false
layer_none k y d = no_first_of_three (is_up_to k.low.x k.low.x d.x) (is_up_to y (y + 1) d.y) (is_up_to k.low.z (k.high.z + 1) d.z) (no_axis k.low.x d.x)

pub layer_more : (k : Corners) (y x : ℕ) → k.low.x ≤ x → (d : Coord)
    → is_in_layer k y (x + 1) d ≡ (is_in_layer k y x d || is_in_row (row_start k x y) k.high.z d)
layer_more k y x l d =
    ap (λ b. b && is_up_to y (y + 1) d.y && is_up_to k.low.z (k.high.z + 1) d.z) (join_axis k.low.x x (x + 1) d.x l (omega arith))
    ∙ either_first (is_up_to k.low.x x d.x) (is_up_to x (x + 1) d.x) (is_up_to y (y + 1) d.y) (is_up_to k.low.z (k.high.z + 1) d.z)

pub layers_none : (k : Corners) (d : Coord) → is_in_layers k k.low.y d ≡ false
layers_none k d = no_second_of_three (is_up_to k.low.x (k.high.x + 1) d.x) (is_up_to k.low.y k.low.y d.y) (is_up_to k.low.z (k.high.z + 1) d.z) (no_axis k.low.y d.y)

pub layers_more : (k : Corners) (y : ℕ) → k.low.y ≤ y → (d : Coord)
    → is_in_layers k (y + 1) d ≡ (is_in_layers k y d || is_in_layer k y (k.high.x + 1) d)
layers_more k y l d =
    ap (λ b. is_up_to k.low.x (k.high.x + 1) d.x && b && is_up_to k.low.z (k.high.z + 1) d.z) (join_axis k.low.y y (y + 1) d.y l (omega arith))
    ∙ either_second (is_up_to k.low.x (k.high.x + 1) d.x) (is_up_to k.low.y y d.y) (is_up_to y (y + 1) d.y) (is_up_to k.low.z (k.high.z + 1) d.z)

-- all layers are the region
layers_are : (k : Corners) → IsOrdered k → (d : Coord) → is_in_layers k (k.high.y + 1) d ≡ is_within (span k) (point d)
layers_are k o d = λ i. axis_is k.low.x k.high.x d.x o.x i && axis_is k.low.y k.high.y d.y o.y i && axis_is k.low.z k.high.z d.z o.z i

pub painted_all : (old new : Matrix) (k : Corners) (full : Bool) (n : ℕ) → IsOrdered k
    → IsPainted old new (is_in_layers k (k.high.y + 1)) full n
    → IsPainted old new (λ d. is_within (span k) (point d)) full n
painted_all old new k full n o p = subst (λ (t : Coord → Bool). IsPainted old new t full n) (λ i d. layers_are k o d i) p

-- ---- a row, by its bits

-- the row as a region
abbrev row_of : Coord → ℕ → Corners
row_of first last = record { low = first; high = at first last }

row_count : (test : Coord → Bool) (c : Coord) (last : ℕ)
    → count_by test (row c last) ≡ total (last + 1 - c.z) (λ j. one_if (test (at c (c.z + j))))
unfolding row
row_count test c last = counted test (at c) (last + 1 - c.z) c.z

module _ (r : ℕ) (first : Coord) (last : ℕ) (old new : List ℕ) (full : Bool) (n : ℕ) (within : IsInSpace r first) (order : first.z ≤ last) (end : last < r) (h : AreFilled old new (bit_index r first) (last + 1 - first.z) full n) where
  in_row : (k : ℕ) → k < last + 1 - first.z → IsInSpace r (at first (first.z + k))
  in_row k l = record { x = within.x; y = within.y; z = omega arith }

  on : (k : ℕ) → bit_index r (at first (first.z + k)) ≡ bit_index r first + k
  on k = omega arith

  here_or_not : (d : Coord) → IsInSpace r d
      → is_set new (bit_index r d) ≡ cond (is_in_row first last d) full (is_set old (bit_index r d))
  here_or_not d i = by (is_in_row first last d) refl
    where
      parts : is_in_row first last d ≡ true → (d.x ≡ first.x) × (d.y ≡ first.y) × (first.z ≤ d.z) × (d.z < last + 1)
      parts t = grind (arith, nat_tests)

      mine : (k : ℕ) → k < last + 1 - first.z → is_in_row first last (at first (first.z + k)) ≡ true
      mine k l = grind (arith, nat_tests)

      by : (b : Bool) → is_in_row first last d ≡ b
          → is_set new (bit_index r d) ≡ cond b full (is_set old (bit_index r d))
      by true t =
          let parts_here = parts t in
          let d_is : d ≡ at first (first.z + (d.z - first.z)) = (λ j. record { x = parts_here.0 j; y = parts_here.1 j; z = (let z_is : d.z ≡ first.z + (d.z - first.z) = omega arith in z_is) j }) in
          ap (is_set new) (ap (bit_index r) d_is ∙ on (d.z - first.z)) ∙ h.here (d.z - first.z) (omega arith)
      by false f = h.others (bit_index r d) (none_of_these (bit_index r first) (last + 1 - first.z) (bit_index r d) (λ k l e. other k l (one_bit r d (at first (first.z + k)) i (in_row k l) (e ∙ sym (on k)))))
        where
          other : (k : ℕ) → k < last + 1 - first.z → d ≡ at first (first.z + k) → ⊥
          other k l e = let in_row_holds : is_in_row first last d ≡ true = ap (is_in_row first last) e ∙ mine k l in cc

  row_others : n ≡ count_by (λ c. is_state (layered r old) (not full) c && is_in_row first last c) (coordinates r)
  row_others =
      let test : Coord → Bool = is_state (layered r old) (not full) in
      let corners : Corners = row_of first last in
      let ordered : IsOrdered corners = record { x = omega arith; y = omega arith; z = order } in
      let in_space : IsInSpace r corners.high = record { x = within.x; y = within.y; z = end } in
      let area : (λ c. is_state (layered r old) (not full) c && is_in_row first last c) ≡ passes_in corners test = (λ i c. test c && layers_are corners ordered c i) in
      h.changed
      ∙ (others_total old (bit_index r first) (last + 1 - first.z) full
      ∙ (total-same (last + 1 - first.z) _ (λ j. one_if (is_state (layered r old) (not full) (at first (first.z + j)))) (λ j l.
      ap one_if (ap (has_value (not full)) (ap (is_set old) (sym (on j)) ∙ sym (is_full-layered r old (at first (first.z + j)) (in_row j l)))))
      ∙ (sym (row_count (is_state (layered r old) (not full)) first last)
      ∙ (sym (length-filter (is_state (layered r old) (not full)) (row first last))
      ∙ (ap length (row_listed r corners test ordered in_space refl refl)
      ∙ (length-filter (passes_in corners test) (coordinates r)
      ∙ ap (λ t. count_by t (coordinates r)) (sym area)))))))

  pub row_painted : IsPainted (layered r old) (layered r new) (is_in_row first last) full n
  row_painted = record {
    value = same_where r (λ d. is_set new (bit_index r d)) (λ d. cond (is_in_row first last d) full (is_full (layered r old) d)) (λ d i.
        here_or_not d i ∙ ap (λ b. cond (is_in_row first last d) full b) (sym (is_full-layered r old d i)));
    count = row_others;
  }

  pub row_kept : length new ≡ length old → IsLayered r old → IsLayered r new
  row_kept same w =
      let back : coordinate_at r (place r first) ≡ first = coordinate_at-place r first within in
      let last_in : IsInSpace r (at first last) = record { x = within.x; y = within.y; z = end } in
      let below : place r (at first last) < r * r * r = place_below r (at first last) last_in in
      put_layered r old new (place r first) (last + 1 - first.z) (ones full) (omega arith) (subst (λ (c : Coord). c.z + (last + 1 - first.z) ≤ r) (sym back) (omega arith))
      (subst (λ (c : Coord). ArePutBits old new (bit_index r c) (last + 1 - first.z) (ones full)) (sym back) (record { here = λ k l. h.here k l ∙ sym (ones_bit full k l); others = h.others })) same w
    where
      ones : Bool → ℕ
      ones b = cond b (2 ^ (last + 1 - first.z) - 1) 0

      ones_bit : (b : Bool) (k : ℕ) → k < last + 1 - first.z → bit (ones b) k ≡ b
      ones_bit true k l = ap (λ d. d == 1) (bit_at_ones (last + 1 - first.z) k l)
      ones_bit false k l = ap (λ d. d == 1) (bit_at-zero k)

-- ---- how many coordinates a region has, layer by layer

pub size-layers : (k : Corners) → IsOrdered k → size (span k) ≡ (k.high.y + 1 - k.low.y) * layer_size k
size-layers k o = size-walls k o ∙ omega arith

-- ---- one more row, and one more layer

pub row_joined : (old mid new : Matrix) (k : Corners) (low high : Coord) (y x : ℕ) (full : Bool) (a b : ℕ) → low ≡ k.low
    → high ≡ k.high → k.low.x ≤ x → IsPainted old mid (is_in_layer k y x) full a
    → IsPainted mid new (is_in_row (record { x = x; y = y; z = low.z }) high.z) full b
    → IsPainted old new (is_in_layer k y (x + 1)) full (a + b)
row_joined old mid new k low high y x full a b el eh l p q = painted_more old mid new (is_in_layer k y x) (is_in_row (row_start k x y) k.high.z) (is_in_layer k y (x + 1)) full a b p (subst (λ (t : Coord → Bool). IsPainted mid new t full b) (λ i. is_in_row (record { x = x; y = y; z = (el i).z }) (eh i).z) q) (layer_more k y x l)

pub layer_joined : (old mid new : Matrix) (k : Corners) (y : ℕ) (full : Bool) (a b : ℕ) → k.low.y ≤ y
    → IsPainted old mid (is_in_layers k y) full a → IsPainted mid new (is_in_layer k y (k.high.x + 1)) full b
    → IsPainted old new (is_in_layers k (y + 1)) full (a + b)
layer_joined old mid new k y full a b l p q = painted_more old mid new (is_in_layers k y) (is_in_layer k y (k.high.x + 1)) (is_in_layers k (y + 1)) full a b p q (layers_more k y l)
