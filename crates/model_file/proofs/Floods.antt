-- The steps of a search from the floor.
use Rattle.std.proofs.Common.{◌≡◌, ℕ, zero, suc, ◌+◌, ◌-◌, ◌*◌, ◌/◌, ◌%◌, ◌^◌, ◌<◌, ◌≤◌, refl, sym, ◌∙◌, ap, subst, arith, Bool, true, false, cond, not, ◌&&◌, ◌==◌, List, [], ◌∷◌, ◌++◌, length, min, inl, inr}
use Rattle.std.specs.Prelude.{IsTrue, ◌⊎◌, Contains}
use Rattle.std.specs.Int.{trailing_zeros, w64}
use Rattle.std.proofs.lemmas.Bool.{cases_lt}
use Rattle.std.proofs.lemmas.Bool.Decides.{nat_tests}
use Rattle.std.proofs.lemmas.List.{length-append}
use Rattle.std.proofs.lemmas.List.Elements.{Contains-append_left, Contains-push, Contains-push_cases}
use Rattle.std.proofs.lemmas.Nat.Bits.{bit_at-trailing_zeros, bit_at_above}
use native.Mathlib.Decide.{ℕ_discrete}
use Rattle.vox_geom.specs.declared.coordinate.Coord.{Coord}
use Rattle.vox_geom.specs.declared.TheConstants.{MOST_R}
use Rattle.vox_geom.specs.Point.{point}
use Rattle.vox_geom.specs.Space.{IsInSpace, coordinate_at, in_space, place}
use Rattle.vox_geom.proofs.Places.{coordinate_at-place}
use Rattle.vox_geom.proofs.Truths.{anything_by, first_of_two as left}
use Rattle.vox_geom.proofs.Points.{space_by_test}
use Rattle.vox_geom.proofs.Firsts.{place_below}
use Rattle.nano_spec.specs.Matrix.{Matrix, is_full}
use Rattle.nano_spec.specs.Model.{bit}
use Rattle.vox_planes.specs.Places.{is_from, is_marked}
use Rattle.vox_planes.specs.Walk.{at}
use Rattle.model_file.specs.declared.flood.Flood.{Flood}
use Rattle.model_file.specs.declared.flood.Stretch.{Stretch}
use Rattle.model_file.proofs.Stretches.{moved, near_above, near_after, near_before, near_below, near_left, near_moved, near_right, one_less, word_less}
use Rattle.model_file.specs.Flood.{HasFound, IsAmong, IsBeside, IsStart, IsTaken, TakesOut, full_of, passing}

-- ---- how many are full

passing-same : (f g : ℕ → Bool) (n : ℕ) → ((k : ℕ) → k < n → f k ≡ g k) → passing f n ≡ passing g n
unfolding passing
passing-same f g zero h = refl
passing-same f g (suc n) h = λ i. passing-same f g n (λ k l. h k (omega arith)) i + cond (h n (omega arith) i) 1 0

worth : (a b : Bool) → (a ≡ false → b ≡ false) → cond {A = ℕ} b 1 0 ≤ cond {A = ℕ} a 1 0
worth true true h = omega arith
worth true false h = omega arith
worth false true h = let e = h refl in cc
worth false false h = omega arith

passing-most : (f g : ℕ → Bool) (n : ℕ) → ((k : ℕ) → k < n → f k ≡ false → g k ≡ false) → passing g n ≤ passing f n
unfolding passing
passing-most f g zero h = omega arith
passing-most f g (suc n) h =
    let rest = passing-most f g n (λ k l. h k (omega arith)) in
    let here = worth (f n) (g n) (h n (omega arith)) in
    omega arith

passing-less : (f g : ℕ → Bool) (n q : ℕ) → q < n → f q ≡ true → g q ≡ false
    → ((k : ℕ) → k < n → f k ≡ false → g k ≡ false) → passing g n + 1 ≤ passing f n
unfolding passing
passing-less f g zero q l t u h = absurd (omega arith)
passing-less f g (suc n) q l t u h = by (ℕ_discrete n q) (λ (m : q < n). passing-less f g n q m t u (λ k a. h k (omega arith)))
  where
    by : Dec (n ≡ q) → (q < n → passing g n + 1 ≤ passing f n)
        → passing g n + cond (g n) 1 0 + 1 ≤ passing f n + cond (f n) 1 0
    by (yes e) later =
        let one : cond {A = ℕ} (f n) 1 0 ≡ 1 = ap (λ (b : Bool). cond {A = ℕ} b 1 0) (ap f e ∙ t) in
        let none : cond {A = ℕ} (g n) 1 0 ≡ 0 = ap (λ (b : Bool). cond {A = ℕ} b 1 0) (ap g e ∙ u) in
        let most : passing g n ≤ passing f n = passing-most f g n (λ k m. h k (omega arith)) in
        omega arith
    by (no ne) later =
        let less : q < n = omega arith in
        let rest : passing g n + 1 ≤ passing f n = later less in
        let here : cond {A = ℕ} (g n) 1 0 ≤ cond {A = ℕ} (f n) 1 0 = worth (f n) (g n) (h n (omega arith)) in
        omega arith

full_of-same : (r : ℕ) (m n : Matrix) → ((d : Coord) → is_full n d ≡ is_full m d) → full_of r n ≡ full_of r m
unfolding full_of
full_of-same r m n h = passing-same (λ p. is_full n (coordinate_at r p)) (λ p. is_full m (coordinate_at r p)) (r * r * r) (λ k l. h (coordinate_at r k))

full_of-less : (r : ℕ) (m n : Matrix) (c : Coord) → IsInSpace r c → is_full m c ≡ true → is_full n c ≡ false
    → ((d : Coord) → is_full m d ≡ false → is_full n d ≡ false) → full_of r n + 1 ≤ full_of r m
unfolding full_of
full_of-less r m n c within before after others =
    passing-less (λ p. is_full m (coordinate_at r p)) (λ p. is_full n (coordinate_at r p)) (r * r * r) (place r c) (place_below r c within)
    (ap (is_full m) (coordinate_at-place r c within) ∙ before)
    (ap (is_full n) (coordinate_at-place r c within) ∙ after)
    (λ k l. others (coordinate_at r k))

-- ---- parts of a search

pub full_within : (m : Matrix) (c : Coord) → IsTrue (is_full m c) → IsInSpace m.resolution c
full_within m c h = space_by_test m.resolution c (left (in_space m.resolution (point c)) _ h)

pub has_same : (a b : Flood) → b.found.items ≡ a.found.items → (d : Coord) → HasFound a d → HasFound b d
has_same a b e d h = record { stretch = h.stretch; is_found = subst (λ (xs : List Stretch). Contains xs h.stretch) (sym e) h.is_found; among = h.among }

pub has_more : (a b : Flood) (s : Stretch) → b.found.items ≡ a.found.items ++ s ∷ [] → (d : Coord) → HasFound a d
    → HasFound b d
has_more a b s e d h = record { stretch = h.stretch; is_found = subst (λ (xs : List Stretch). Contains xs h.stretch) (sym e) (Contains-append_left a.found.items (s ∷ []) h.stretch h.is_found); among = h.among }

pub has_last : (a b : Flood) (s : Stretch) → b.found.items ≡ a.found.items ++ s ∷ [] → (d : Coord) → IsAmong s d
    → HasFound b d
has_last a b s e d h = record { stretch = s; is_found = subst (λ (xs : List Stretch). Contains xs s) (sym e) (Contains-push a.found.items s); among = h }

pub has_cases : (a b : Flood) (s : Stretch) → b.found.items ≡ a.found.items ++ s ∷ [] → (d : Coord) → HasFound b d
    → HasFound a d ⊎ IsAmong s d
has_cases a b s e d h = of (Contains-push_cases a.found.items s h.stretch (subst (λ (xs : List Stretch). Contains xs h.stretch) e h.is_found))
  where
    of : (Contains a.found.items h.stretch ⊎ (s ≡ h.stretch)) → HasFound a d ⊎ IsAmong s d
    of (inl k) = inl (record { stretch = h.stretch; is_found = k; among = h.among })
    of (inr q) = inr (subst (λ (t : Stretch). IsAmong t d) (sym q) h.among)

-- nothing was removed
pub takes_none : (near : Coord → Type 0) (a b : Flood) → b.remaining.resolution ≡ a.remaining.resolution
    → ((d : Coord) → is_full b.remaining d ≡ is_full a.remaining d) → b.found.items ≡ a.found.items → TakesOut near a b
takes_none near a b r same found = record {
  resolution = r;
  fewer = λ d f. same d ∙ f;
  taken = λ d t. anything_by (is_full a.remaining d) t.before (sym (same d) ∙ t.after);
  kept = has_same a b found;
  found = λ d h. inl (has_same b a (sym found) d h);
  starts = λ s k. inl (subst (λ (xs : List Stretch). Contains xs s) found k);
  weighs = (
      let full : full_of b.remaining.resolution b.remaining ≡ full_of a.remaining.resolution a.remaining = ap (λ n. full_of n b.remaining) r ∙ full_of-same a.remaining.resolution a.remaining b.remaining same in
      let size : length b.found.items ≡ length a.found.items = ap length found in
      omega arith
      );
}

-- ---- voxels of a row

parts_of : (first : Coord) (count bits : ℕ) (d : Coord) → is_marked first count bits d ≡ true
    → (d.x ≡ first.x) × (d.y ≡ first.y) × (first.z ≤ d.z) × (d.z < first.z + count) × (bit bits (d.z - first.z) ≡ true)
parts_of first count bits d h = by ((d.x == first.x) && (d.y == first.y) && is_from first.z count d.z) refl h
  where
    row : ((d.x == first.x) && (d.y == first.y) && is_from first.z count d.z) ≡ true
        → (d.x ≡ first.x) × (d.y ≡ first.y) × (first.z ≤ d.z) × (d.z < first.z + count)
    row t = grind (arith, nat_tests)

    by : (b : Bool) → ((d.x == first.x) && (d.y == first.y) && is_from first.z count d.z) ≡ b
        → (b && bit bits (d.z - first.z)) ≡ true → (d.x ≡ first.x) × (d.y ≡ first.y) × (first.z ≤ d.z)
        × (d.z < first.z + count) × (bit bits (d.z - first.z) ≡ true)
    by true t k = let row_here = row t in (row_here.0, row_here.1, row_here.2, row_here.3, k)
    by false t k = cc

marked_by : (first : Coord) (count bits : ℕ) (d : Coord) → d.x ≡ first.x → d.y ≡ first.y → first.z ≤ d.z
    → d.z < first.z + count → bit bits (d.z - first.z) ≡ true → is_marked first count bits d ≡ true
marked_by first count bits d x y l u b = ap (λ t. t && bit bits (d.z - first.z)) row ∙ b
  where
    row : ((d.x == first.x) && (d.y == first.y) && is_from first.z count d.z) ≡ true
    row = grind (arith, nat_tests)

was_marked : (full now marked : Bool) → full ≡ true → now ≡ (full && not marked) → now ≡ false → marked ≡ true
was_marked true now true f e n = refl
was_marked true now false f e n = cc
was_marked false now marked f e n = cc

pub both_true : (a b : Bool) → (a && b) ≡ true → (a ≡ true) × (b ≡ true)
both_true true b h = (refl, h)
both_true false b h = cc

-- a bit of a word that has that many bits
pub below_count : (n count k : ℕ) → n < 2 ^ count → bit n k ≡ true → k < count
below_count n count k l b = by (cases_lt k count)
  where
    by : ((k < count) ⊎ (count ≤ k)) → k < count
    by (inl h) = h
    by (inr h) = let not_bit : bit n k ≡ false = ap (λ d. d == 1) (bit_at_above n count k l h) in cc

-- the coordinate of a row at a component
pub its_place : (first d : Coord) → d.x ≡ first.x → d.y ≡ first.y → first.z ≤ d.z
    → at first (first.z + (d.z - first.z)) ≡ d
its_place first d x y l = λ i. record { x = x' i; y = y' i; z = z' i }
  where
    x' : first.x ≡ d.x
    x' = sym x

    y' : first.y ≡ d.y
    y' = sym y

    z' : first.z + (d.z - first.z) ≡ d.z
    z' = omega arith

module _ (a b : Flood) (first : Coord) (count bits taken : ℕ) (r : b.remaining.resolution ≡ a.remaining.resolution) (few : count ≤ 64)
    (was : (k : ℕ) → k < count → bit taken k ≡ (bit bits k && is_full a.remaining (at first (first.z + k))))
    (left : (d : Coord) → is_full b.remaining d ≡ (is_full a.remaining d && not (is_marked first count bits d))) where
  pub fewer_in_row : (d : Coord) → is_full a.remaining d ≡ false → is_full b.remaining d ≡ false
  fewer_in_row d f = left d ∙ ap (λ t. t && not (is_marked first count bits d)) f

  -- a voxel of the row is among the removed ones if and only if it is in the segment and was full
  taken_bit : (d : Coord) → d.x ≡ first.x → d.y ≡ first.y → first.z ≤ d.z → d.z < first.z + count
      → bit taken (d.z - first.z) ≡ (bit bits (d.z - first.z) && is_full a.remaining d)
  taken_bit d x y l u = was (d.z - first.z) (omega arith) ∙ ap (λ c. bit bits (d.z - first.z) && is_full a.remaining c) (its_place first d x y l)

  pub row_gone : (d : Coord) → d.x ≡ first.x → d.y ≡ first.y → first.z ≤ d.z → d.z < first.z + count
      → bit bits (d.z - first.z) ≡ true → is_full b.remaining d ≡ false
  row_gone d x y l u h = left d ∙ (ap (λ t. is_full a.remaining d && not t) (marked_by first count bits d x y l u h) ∙ none (is_full a.remaining d))
    where
      none : (t : Bool) → (t && false) ≡ false
      none true = refl
      none false = refl

  -- if none was removed, all stay
  pub row_same : taken ≡ 0 → (d : Coord) → is_full b.remaining d ≡ is_full a.remaining d
  row_same z d = left d ∙ by (is_full a.remaining d) (is_marked first count bits d) refl refl
    where
      void : (k : ℕ) → bit taken k ≡ false
      void k = ap (λ n. bit n k) z ∙ ap (λ d. d == 1) (bit_at_above 0 0 k (omega arith) (omega arith))

      by : (f t : Bool) → is_full a.remaining d ≡ f → is_marked first count bits d ≡ t → (f && not t) ≡ f
      by false t e k = refl
      by true false e k = refl
      by true true e k =
          let parts = parts_of first count bits d k in
          let bit_taken = taken_bit d parts.0 parts.1 parts.2 parts.3 in
          let void_here = void (d.z - first.z) in
          let both_hold : (bit bits (d.z - first.z) && is_full a.remaining d) ≡ true = (λ i. parts.4 i && e i) in
          cc

  row_parts : (d : Coord) → IsTaken a.remaining b.remaining d → (d.x ≡ first.x) × (d.y ≡ first.y) × (first.z ≤ d.z)
      × (d.z < first.z + count) × (bit bits (d.z - first.z) ≡ true)
  row_parts d t = parts_of first count bits d (was_marked (is_full a.remaining d) (is_full b.remaining d) (is_marked first count bits d) t.before (left d) t.after)

  -- a voxel that was removed is among those of the segment
  pub row_asked : (d : Coord) → IsTaken a.remaining b.remaining d → IsAmong (record { first = first; bits = bits }) d
  row_asked d t =
      let parts_of_row = row_parts d t in
      record { x = parts_of_row.0; y = parts_of_row.1; from = parts_of_row.2; to = omega (arith, parts_of_row.3); here = parts_of_row.4 }

  pub row_taken : (d : Coord) → IsTaken a.remaining b.remaining d → IsAmong (record { first = first; bits = taken }) d
  row_taken d t = let parts_of_row = row_parts d t in record { x = parts_of_row.0; y = parts_of_row.1; from = parts_of_row.2; to = omega (arith, parts_of_row.3); here = taken_bit d parts_of_row.0 parts_of_row.1 parts_of_row.2 parts_of_row.3 ∙ (λ i. parts_of_row.4 i && t.before i) }

  pub row_was : taken < 2 ^ count → (d : Coord) → IsAmong (record { first = first; bits = taken }) d
      → IsTaken a.remaining b.remaining d
  row_was below d h =
      let difference_below : d.z - first.z < count = below_count taken count (d.z - first.z) below h.here in
      let from = h.from in
      let below_z : d.z < first.z + count = omega arith in
      let both = both_true (bit bits (d.z - first.z)) (is_full a.remaining d) (sym (taken_bit d h.x h.y h.from below_z) ∙ h.here) in
      record { before = both.1; after = row_gone d h.x h.y h.from below_z both.0 }

  pub row_lighter : taken < 2 ^ count → (taken ≡ 0 → ⊥) → taken < 2 ^ 64
      → full_of a.remaining.resolution b.remaining + 1 ≤ full_of a.remaining.resolution a.remaining
  row_lighter below some fits =
      let lowest_bit = bit_at-trailing_zeros w64 taken (positive taken some) fits in
      let here : bit taken (trailing_zeros w64 taken) ≡ true = ap (λ d. d == 1) lowest_bit.1 in
      let back : first.z + trailing_zeros w64 taken - first.z ≡ trailing_zeros w64 taken = omega arith in
      let row_was_here = row_was below (at first (first.z + trailing_zeros w64 taken)) (record { x = refl; y = refl; from = omega arith; to = (let l = lowest_bit.0 in omega arith); here = ap (bit taken) back ∙ here }) in
      full_of-less a.remaining.resolution a.remaining b.remaining (at first (first.z + trailing_zeros w64 taken)) (full_within a.remaining (at first (first.z + trailing_zeros w64 taken)) row_was_here.before) row_was_here.before row_was_here.after fewer_in_row
    where
      positive : (n : ℕ) → (n ≡ 0 → ⊥) → 0 < n
      positive zero h = absurd (h refl)
      positive (suc n) h = omega arith

  pub takes_row : IsInSpace a.remaining.resolution first → first.z % 64 ≡ 0 → taken < 2 ^ count → (taken ≡ 0 → ⊥)
      → taken < 2 ^ 64 → b.found.items ≡ a.found.items ++ record { first = first; bits = taken } ∷ []
      → TakesOut (IsAmong (record { first = first; bits = bits })) a b
  takes_row within each below some fits items = record {
    resolution = r;
    fewer = fewer_in_row;
    taken = λ d t. (row_asked d t, has_last a b (record { first = first; bits = taken }) items d (row_taken d t));
    kept = has_more a b (record { first = first; bits = taken }) items;
    found = λ d h. known d (has_cases a b (record { first = first; bits = taken }) items d h);
    starts = λ s k. start s (Contains-push_cases a.found.items (record { first = first; bits = taken }) s (subst (λ (xs : List Stretch). Contains xs s) items k));
    weighs = (
        let size : length b.found.items ≡ length a.found.items + 1 = ap length items ∙ length-append a.found.items (record { first = first; bits = taken } ∷ []) in
        let full : full_of b.remaining.resolution b.remaining ≡ full_of a.remaining.resolution b.remaining = ap (λ n. full_of n b.remaining) r in
        let less = row_lighter below some fits in
        omega arith
        );
  }
    where
      known : (d : Coord) → (HasFound a d ⊎ IsAmong (record { first = first; bits = taken }) d)
          → HasFound a d ⊎ IsTaken a.remaining b.remaining d
      known d (inl h) = inl h
      known d (inr h) = inr (row_was below d h)

      start : (s : Stretch)
          → (Contains a.found.items s ⊎ ((let stretch : Stretch = record { first = first; bits = taken } in stretch) ≡ s))
          → Contains a.found.items s ⊎ (IsInSpace a.remaining.resolution s.first × (s.first.z % 64 ≡ 0))
      start s (inl k) = inl k
      start s (inr e) = inr (subst (λ (t : Stretch). IsInSpace a.remaining.resolution t.first × (t.first.z % 64 ≡ 0)) e (within, each))

-- ---- one part after another

pub takes_then : (near : Coord → Type 0) (a b c : Flood) → TakesOut near a b → TakesOut near b c → TakesOut near a c
takes_then near a b c h k = record {
  resolution = k.resolution ∙ h.resolution;
  fewer = λ d f. k.fewer d (h.fewer d f);
  taken = λ d t. taken d t (is_full b.remaining d) refl;
  kept = λ d m. k.kept d (h.kept d m);
  found = λ d m. of d (k.found d m);
  starts = λ s m. start s (k.starts s m);
  weighs = (let its_weighs = k.weighs in let weighs = h.weighs in omega arith);
}
  where
    taken : (d : Coord) → IsTaken a.remaining c.remaining d → (f : Bool) → is_full b.remaining d ≡ f
        → near d × HasFound c d
    taken d t true e = k.taken d (record { before = e; after = t.after })
    taken d t false e = let at = h.taken d (record { before = t.before; after = e }) in (at.0, k.kept d at.1)

    earlier : (d : Coord) → IsTaken b.remaining c.remaining d → (f : Bool) → is_full a.remaining d ≡ f
        → IsTaken a.remaining c.remaining d
    earlier d t true e = record { before = e; after = t.after }
    earlier d t false e = anything_by (is_full b.remaining d) t.before (h.fewer d e)

    of : (d : Coord) → (HasFound b d ⊎ IsTaken b.remaining c.remaining d)
        → HasFound a d ⊎ IsTaken a.remaining c.remaining d
    of d (inr t) = inr (earlier d t (is_full a.remaining d) refl)
    of d (inl m) = by (h.found d m)
      where
        by : (HasFound a d ⊎ IsTaken a.remaining b.remaining d) → HasFound a d ⊎ IsTaken a.remaining c.remaining d
        by (inl m) = inl m
        by (inr t) = inr (record { before = t.before; after = k.fewer d t.after })

    start : (s : Stretch)
        → (Contains b.found.items s ⊎ (IsInSpace b.remaining.resolution s.first × (s.first.z % 64 ≡ 0)))
        → Contains a.found.items s ⊎ (IsInSpace a.remaining.resolution s.first × (s.first.z % 64 ≡ 0))
    start s (inl m) = h.starts s m
    start s (inr m) = inr (subst (λ (n : ℕ). IsInSpace n s.first × (s.first.z % 64 ≡ 0)) h.resolution m)

-- a coordinate that is near by a narrower word is near by a wider one
pub takes_wider : (near far : Coord → Type 0) (a b : Flood)
    → ((d : Coord) → IsTrue (is_full a.remaining d) → near d → far d) → TakesOut near a b → TakesOut far a b
takes_wider near far a b wider h = record {
  resolution = h.resolution;
  fewer = h.fewer;
  taken = λ d t. let at = h.taken d t in (wider d t.before at.0, at.1);
  kept = h.kept;
  found = h.found;
  starts = h.starts;
  weighs = h.weighs;
}

-- ---- voxels that do not remain

pub void_by : (m : Matrix) (d : Coord) → (IsInSpace m.resolution d → ⊥) → is_full m d ≡ false
void_by m d out = by (is_full m d) refl
  where
    by : (f : Bool) → is_full m d ≡ f → f ≡ false
    by false e = refl
    by true e = absurd (out (full_within m d e))

-- no voxel of a segment remains after its row was removed
pub gone_row : (a b : Flood) (first : Coord) (count bits taken : ℕ)
    (r : b.remaining.resolution ≡ a.remaining.resolution) (few : count ≤ 64)
    (was : (k : ℕ) → k < count → bit taken k ≡ (bit bits k && is_full a.remaining (at first (first.z + k))))
    (left : (d : Coord) → is_full b.remaining d ≡ (is_full a.remaining d && not (is_marked first count bits d)))
    → count ≡ min (a.remaining.resolution - first.z) 64 → (d : Coord)
    → IsAmong (record { first = first; bits = bits }) d → is_full b.remaining d ≡ false
gone_row a b first count bits taken r few was left size d h = by (cases_lt d.z (first.z + count))
  where
    by : ((d.z < first.z + count) ⊎ (first.z + count ≤ d.z)) → is_full b.remaining d ≡ false
    by (inl l) = row_gone a b first count bits taken r few was left d h.x h.y h.from l h.here
    by (inr l) = void_by b.remaining d (λ i. let along_z = i.z in let up_to = h.to in let from = h.from in absurd (omega arith))

-- ---- around a segment

-- a segment next to another was removed
pub takes_beside : (a b : Flood) (s t : Stretch) → TakesOut (IsAmong t) a b
    → ((d : Coord) → IsInSpace a.remaining.resolution d → IsAmong t d → IsBeside s d) → TakesOut (IsBeside s) a b
takes_beside a b s t h near = takes_wider (IsAmong t) (IsBeside s) a b (λ d f k. near d (full_within a.remaining d f) k) h

-- the seven segments next to one were removed
pub takes_around : (a b c d e f g h : Flood) (s : Stretch) → IsStart MOST_R s → a.remaining.resolution ≤ MOST_R
    → s.bits < 2 ^ 64 → TakesOut
    (IsAmong (record { first = record { x = s.first.x + 1; y = s.first.y; z = s.first.z }; bits = s.bits })) a b
    → TakesOut
    (IsAmong (record { first = record { x = one_less s.first.x; y = s.first.y; z = s.first.z }; bits = s.bits })) b c
    → TakesOut (IsAmong (record { first = record { x = s.first.x; y = s.first.y + 1; z = s.first.z }; bits = s.bits }))
    c d → TakesOut
    (IsAmong (record { first = record { x = s.first.x; y = one_less s.first.y; z = s.first.z }; bits = s.bits })) d e
    → TakesOut (IsAmong (record { first = s.first; bits = moved s.bits })) e f → TakesOut
    (IsAmong (record { first = record { x = s.first.x; y = s.first.y; z = s.first.z + 64 }; bits = s.bits / 2 ^ 63 })) f
    g → TakesOut (IsAmong
    (record { first = record { x = s.first.x; y = s.first.y; z = word_less s.first.z }; bits = s.bits * 2 ^ 63 % 2 ^ 64 }))
    g h → TakesOut (IsBeside s) a h
takes_around a b c d e f g h s start most fits h1 h2 h3 h4 h5 h6 h7 =
    let b_most : b.remaining.resolution ≤ MOST_R = rw h1.resolution most in
    let c_most : c.remaining.resolution ≤ MOST_R = rw h2.resolution b_most in
    let d_most : d.remaining.resolution ≤ MOST_R = rw h3.resolution c_most in
    let e_most : e.remaining.resolution ≤ MOST_R = rw h4.resolution d_most in
    let f_most : f.remaining.resolution ≤ MOST_R = rw h5.resolution e_most in
    let g_most : g.remaining.resolution ≤ MOST_R = rw h6.resolution f_most in
    let near : Coord → Type 0 = IsBeside s in
    takes_then near a b h (takes_beside a b s (record { first = record { x = s.first.x + 1; y = s.first.y; z = s.first.z }; bits = s.bits }) h1 (near_right s a.remaining.resolution start most fits))
    (takes_then near b c h (takes_beside b c s (record { first = record { x = one_less s.first.x; y = s.first.y; z = s.first.z }; bits = s.bits }) h2 (near_left s b.remaining.resolution start b_most fits))
    (takes_then near c d h (takes_beside c d s (record { first = record { x = s.first.x; y = s.first.y + 1; z = s.first.z }; bits = s.bits }) h3 (near_above s c.remaining.resolution start c_most fits))
    (takes_then near d e h (takes_beside d e s (record { first = record { x = s.first.x; y = one_less s.first.y; z = s.first.z }; bits = s.bits }) h4 (near_below s d.remaining.resolution start d_most fits))
    (takes_then near e f h (takes_beside e f s (record { first = s.first; bits = moved s.bits }) h5 (near_moved s e.remaining.resolution start e_most fits))
    (takes_then near f g h (takes_beside f g s (record { first = record { x = s.first.x; y = s.first.y; z = s.first.z + 64 }; bits = s.bits / 2 ^ 63 }) h6 (near_after s f.remaining.resolution start f_most fits))
    (takes_beside g h s (record { first = record { x = s.first.x; y = s.first.y; z = word_less s.first.z }; bits = s.bits * 2 ^ 63 % 2 ^ 64 }) h7 (near_before s g.remaining.resolution start g_most fits)))))))
