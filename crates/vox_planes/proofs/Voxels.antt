-- The voxels of a matrix by a test or by words, and of one with a voxel changed.
use Rattle.std.proofs.Common.{◌≡◌, ◌≢◌, ℕ, zero, suc, ◌+◌, ◌*◌, ◌/◌, ◌%◌, ◌<◌, ◌≤◌, zero-add, refl, sym, ◌∙◌, ap, subst, arith, Bool, true, false, cond, ◌&&◌, List, length, get_or, replicate, inl, inr}
use Rattle.std.specs.Prelude.{IsFalse, pos, ◌⊎◌}
use Rattle.std.proofs.Math.Arith.{digits_lt}
use Rattle.std.proofs.lemmas.Bool.{cases_lt}
use Rattle.std.proofs.lemmas.List.{length-map, get_or-map, get_or-replicate, length-replicate, ext_get_or, get_or_past}
use Rattle.std.proofs.lemmas.Nat.{same_from_place}
use Rattle.std.proofs.lemmas.Nat.Bits.{bit_at-zero}
use Rattle.vox_geom.specs.declared.coordinate.Coord.{Coord}
use Rattle.vox_geom.specs.declared.TheConstants.{MOST_R}
use Rattle.vox_geom.specs.Point.{point, same_point, same_number}
use Rattle.vox_geom.specs.Space.{IsInSpace, in_space, place, coordinate_at, coordinates, numbers_from, numbers_below}
use Rattle.vox_geom.proofs.Places.{coordinate_at-place}
use Rattle.vox_geom.proofs.Firsts.{at_in_space, place_below}
use Rattle.vox_geom.proofs.Truths.{parts_of_three}
use Rattle.vox_geom.proofs.Points.{in_space_is, numbers_are_same, point_itself, space_by_test}
use Rattle.nano_spec.specs.Matrix.{empty, is_full, matrix_where}
use Rattle.nano_spec.specs.Model.{bit}
use Rattle.vox_planes.specs.Layers.{IsLayered, bit_index, is_set, layer_words, layered}
use Rattle.vox_planes.specs.Places.{voxel_at}
use Rattle.vox_planes.specs.Voxel.{IsWhole, with_voxel}
use Rattle.vox_planes.proofs.Bits.{in_layer, one_bit}

-- ---- matrices by a test

length-numbers : (n a : ℕ) → length (numbers_from a n) ≡ n
length-numbers zero a = refl
length-numbers (suc n) a = ap suc (length-numbers n (a + 1))

pub get_or-numbers : (n a k d : ℕ) → k < n → get_or (numbers_from a n) k d ≡ a + k
get_or-numbers zero a k d h = absurd (omega arith)
get_or-numbers (suc n) a zero d h = omega arith
get_or-numbers (suc n) a (suc k) d h = omega (arith, get_or-numbers n (a + 1) k d (omega arith))

pub length-where : (r : ℕ) (test : Coord → Bool) → length (matrix_where r test).voxels ≡ r * r * r
length-where r test = length-map (coordinates r) test ∙ (length-map (numbers_below (r * r * r)) (coordinate_at r) ∙ length-numbers (r * r * r) 0)

pub get_or-where : (r : ℕ) (test : Coord → Bool) (k : ℕ) → k < r * r * r
    → get_or (matrix_where r test).voxels k false ≡ test (coordinate_at r k)
get_or-where r test k h =
    let ln : length (numbers_below (r * r * r)) ≡ r * r * r = length-numbers (r * r * r) 0 in
    let lc : length (coordinates r) ≡ r * r * r = length-map (numbers_below (r * r * r)) (coordinate_at r) ∙ ln in
    get_or-map test (coordinates r) k (coordinate_at r 0) false (omega arith)
    ∙ (ap test (get_or-map (coordinate_at r) (numbers_below (r * r * r)) k 0 (coordinate_at r 0) (omega arith))
    ∙ ap (λ v. test (coordinate_at r v)) (get_or-numbers (r * r * r) 0 k 0 h ∙ zero-add k))

-- a voxel of the matrix by a test
pub is_full-where : (r : ℕ) (test : Coord → Bool) (c : Coord) → IsInSpace r c → is_full (matrix_where r test) c ≡ test c
is_full-where r test c h =
    ap (λ s. s && get_or (matrix_where r test).voxels (place r c) false) (in_space_is r c h)
    ∙ (get_or-where r test (place r c) (place_below r c h) ∙ ap test (coordinate_at-place r c h))

-- tests that agree in space make one matrix
pub same_where : (r : ℕ) (f g : Coord → Bool) → ((c : Coord) → IsInSpace r c → f c ≡ g c)
    → matrix_where r f ≡ matrix_where r g
same_where r f g h =
    let same : (matrix_where r f).voxels ≡ (matrix_where r g).voxels = ext_get_or false (matrix_where r f).voxels (matrix_where r g).voxels (length-where r f ∙ sym (length-where r g)) (λ k l. voxel k (subst (λ (n : ℕ). k < n) (length-where r f) l)) in
    λ i. record { resolution = r; voxels = same i }
  where
    voxel : (k : ℕ) → k < r * r * r
        → get_or (matrix_where r f).voxels k false ≡ get_or (matrix_where r g).voxels k false
    voxel k l = get_or-where r f k l ∙ (h (coordinate_at r k) (at_in_space r k l) ∙ sym (get_or-where r g k l))

-- ---- matrices by words

pub layered_whole : (r : ℕ) (ws : List ℕ) → IsLayered r ws → IsWhole (layered r ws)
layered_whole r ws h = record { some = h.some; most = h.most; voxels = length-where r (λ c. is_set ws (bit_index r c)) }

pub is_full-layered : (r : ℕ) (ws : List ℕ) (c : Coord) → IsInSpace r c
    → is_full (layered r ws) c ≡ is_set ws (bit_index r c)
is_full-layered r ws c h = is_full-where r (λ d. is_set ws (bit_index r d)) c h

-- no bit of words of 0 is 1
pub none_set : (n i : ℕ) → IsFalse (is_set (replicate n 0) i)
unfolding is_set
none_set n i = by (cases_lt (i / 64) n)
  where
    void : (w : ℕ) → w ≡ 0 → bit w (i % 64) ≡ false
    void w e = rw (e, bit_at-zero (i % 64)) refl

    by : ((i / 64 < n) ⊎ (n ≤ i / 64)) → bit (get_or (replicate n 0) (i / 64) 0) (i % 64) ≡ false
    by (inl h) = void (get_or (replicate n 0) (i / 64) 0) (get_or-replicate n (i / 64) 0 0 h)
    by (inr h) = void (get_or (replicate n 0) (i / 64) 0) (get_or_past (replicate n 0) (i / 64) 0 (omega (arith, length-replicate {A = ℕ} n 0)))

pub IsLayered-zeros : (r : ℕ) → 1 ≤ r → r ≤ MOST_R → IsLayered r (replicate (r * layer_words r) 0)
IsLayered-zeros r some most = record { some = some; most = most; whole = length-replicate (r * layer_words r) 0; unused = λ y i h k l. none_set (r * layer_words r) (y * layer_words r * 64 + i) }

pub layered-zeros : (r : ℕ) → layered r (replicate (r * layer_words r) 0) ≡ empty r
layered-zeros r = same_where r (λ c. is_set (replicate (r * layer_words r) 0) (bit_index r c)) (λ _. false) (λ c h. none_set (r * layer_words r) (bit_index r c))

-- ---- one voxel changed

pub same_point-is : (c d : Coord) → same_point (point c) (point d) ≡ true → c ≡ d
same_point-is c d h =
    let parts = parts_of_three (same_number (pos c.x) (pos d.x)) (same_number (pos c.y) (pos d.y)) (same_number (pos c.z) (pos d.z)) h in
    let same_x = numbers_are_same c.x d.x parts.0 in
    let same_y = numbers_are_same c.y d.y parts.1 in
    let same_z = numbers_are_same c.z d.z parts.2 in
    λ i. record { x = same_x i; y = same_y i; z = same_z i }

-- words of which one bit was changed
pub record IsChanged (old new : List ℕ) (i : ℕ) (b : Bool) : Type 0 where
  pub same_length : length new ≡ length old
  pub here : is_set new i ≡ b
  pub others : (j : ℕ) → j ≢ i → is_set new j ≡ is_set old j

pub IsLayered-changed : (r : ℕ) (old new : List ℕ) (c : Coord) (b : Bool) → IsLayered r old → IsInSpace r c
    → IsChanged old new (bit_index r c) b → IsLayered r new
IsLayered-changed r old new c b w h k = record {
  some = w.some;
  most = w.most;
  whole = k.same_length ∙ w.whole;
  unused = λ y i l m n. k.others (y * layer_words r * 64 + i) (λ e. outside y i l m n e) ∙ w.unused y i l m n;
}
  where
    outside : (y i : ℕ) → y < r → r * r ≤ i → i < layer_words r * 64 → y * layer_words r * 64 + i ≡ bit_index r c → ⊥
    outside y i l m n e =
        let inside : c.x * r + c.z < r * r = digits_lt h.x h.z in
        let same = same_from_place y i c.y (c.x * r + c.z) (layer_words r * 64) n (in_layer r c h) (omega (arith, e)) in
        omega (arith, same.1)

changed_at : (r : ℕ) (old new : List ℕ) (c : Coord) (b : Bool) → IsInSpace r c → IsChanged old new (bit_index r c) b
    → (d : Coord) → IsInSpace r d
    → is_set new (bit_index r d) ≡ cond (same_point (point d) (point c)) b (is_set old (bit_index r d))
changed_at r old new c b h k d i = by (same_point (point d) (point c)) refl
  where
    by : (t : Bool) → same_point (point d) (point c) ≡ t
        → is_set new (bit_index r d) ≡ cond t b (is_set old (bit_index r d))
    by true t = ap (λ e. is_set new (bit_index r e)) (same_point-is d c t) ∙ k.here
    by false t = k.others (bit_index r d) (λ e. differs (one_bit r d c i h e))
      where
        differs : d ≡ c → ⊥
        differs e = let same_point_is = ap (λ v. same_point (point v) (point c)) e ∙ point_itself c in cc

pub layered-changed : (r : ℕ) (old new : List ℕ) (c : Coord) (b : Bool) → IsInSpace r c
    → IsChanged old new (bit_index r c) b → layered r new ≡ with_voxel (layered r old) c b
layered-changed r old new c b h k = same_where r (λ d. is_set new (bit_index r d)) (λ d. cond (same_point (point d) (point c)) b (is_full (layered r old) d)) (λ d i.
    changed_at r old new c b h k d i ∙ ap (λ v. cond (same_point (point d) (point c)) b v) (sym (is_full-layered r old d i)))

pub full_here : (r : ℕ) (old new : List ℕ) (c : Coord) (b : Bool) → IsInSpace r c → IsChanged old new (bit_index r c) b
    → is_full (layered r new) c ≡ b
full_here r old new c b h k = is_full-layered r new c h ∙ k.here

pub full_others : (r : ℕ) (old new : List ℕ) (c : Coord) (b : Bool) → IsInSpace r c
    → IsChanged old new (bit_index r c) b → (d : Coord) → d ≢ c → is_full (layered r new) d ≡ is_full (layered r old) d
full_others r old new c b h k d n = by (in_space r (point d)) refl
  where
    by : (s : Bool) → in_space r (point d) ≡ s → is_full (layered r new) d ≡ is_full (layered r old) d
    by false s = ap (λ t. t && get_or (layered r new).voxels (place r d) false) s ∙ sym (ap (λ t. t && get_or (layered r old).voxels (place r d) false) s)
    by true s =
        let is_in_space : IsInSpace r d = space_by_test r d s in
        is_full-layered r new d is_in_space ∙ (k.others (bit_index r d) (λ e. n (one_bit r d c is_in_space h e)) ∙ sym (is_full-layered r old d is_in_space))

-- the effect of `set_bit`, for the words before and after the call
pub changed_by : (r : ℕ) (c : Coord) (old old' new new' : List ℕ) (i : ℕ) (b : Bool) → old' ≡ old → new ≡ new'
    → length new ≡ length old → i ≡ bit_index r c → is_set new i ≡ b → ((j : ℕ) → j ≢ i → is_set new j ≡ is_set old' j)
    → IsChanged old new' (bit_index r c) b
changed_by r c old old' new new' i b eo en el ei h k =
    subst (λ (n : ℕ). IsChanged old new' n b) ei (subst (λ (w : List ℕ). IsChanged old w i b) en (record { same_length = el; here = h; others = λ j n. k j n ∙ ap (λ w. is_set w j) eo }))

-- the empty model has no full voxel
pub void_at : (r p : ℕ) → voxel_at (empty r) p ≡ false
void_at r p = by (cases_lt p (r * r * r))
  where
    by : ((p < r * r * r) ⊎ (r * r * r ≤ p)) → voxel_at (empty r) p ≡ false
    by (inl l) = get_or-where r (λ _. false) p l
    by (inr l) = get_or_past (empty r).voxels p false (omega (arith, length-where r (λ _. false)))
