-- How a search from the floor proceeds, and its result at the end.
use Rattle.std.proofs.Common.{◌≡◌, ℕ, zero, suc, not, ◌&&◌, bit_or, max, ◌+◌, ◌-◌, ◌%◌, ◌^◌, ◌<◌, ◌≤◌, refl, sym, ◌∙◌, ap, subst, arith, Bool, true, false, ◌==◌, List, [], ◌∷◌, ◌++◌, length, inl, inr}
use Rattle.std.specs.Prelude.{IsTrue, ◌⊎◌, All, Contains, find, Option, Some, None, cond}
use Rattle.std.specs.Int.{bit_at}
use Rattle.std.proofs.lemmas.Nat.Bits.{bit_at-lt, bit_at_or}
use Rattle.std.proofs.lemmas.Bool.Decides.{nat_tests}
use Rattle.std.proofs.lemmas.List.Elements.{All-contains, All-contains_itself, All-weaker}
use Rattle.vox_geom.specs.declared.coordinate.Coord.{Coord}
use Rattle.vox_geom.specs.declared.TheConstants.{MOST_R}
use Rattle.vox_geom.specs.Point.{are_adjacent}
use Rattle.vox_geom.specs.Space.{IsInSpace}
use Rattle.nano_spec.specs.First.{FirstFailing}
use Rattle.nano_spec.specs.Grounded.{FirstUngrounded, Grounded}
use Rattle.nano_spec.specs.Matrix.{Matrix, all_of, is_full}
use Rattle.nano_spec.specs.Model.{bit}
use Rattle.vox_planes.specs.Places.{is_marked}
use Rattle.vox_planes.specs.Walk.{at}
use Rattle.nano_spec.proofs.Grounding.{ungrounded_by}
use Rattle.nano_spec.proofs.ForgeLegal.{one_more}
use Rattle.model_file.specs.declared.flood.Flood.{Flood}
use Rattle.model_file.specs.declared.flood.Stretch.{Stretch}
use Rattle.vox_geom.proofs.Adjacent.{adjacent-sym}
use Rattle.vox_geom.proofs.Truths.{anything_by, true_by_false}
use Rattle.vox_geom.proofs.Points.{coordinate_by_test}
use Rattle.model_file.proofs.Stretches.{is_one, moved, near_moved, one_of}
use Rattle.model_file.proofs.Floods.{fewer_in_row, full_within, row_asked, row_taken, row_was, has_cases, has_last, has_more, has_same}
use Rattle.model_file.specs.Flood.{HasFound, IsAmong, IsBeside, IsFlood, IsStart, IsTaken, TakesOut}

-- a segment of the frontier is expanded
pub flood_more : (m : Matrix) (s popped new : Flood) (p : Stretch) → IsFlood m s → popped.remaining ≡ s.remaining
    → s.found.items ≡ popped.found.items ++ p ∷ [] → TakesOut (IsBeside p) popped new
    → ((d : Coord) → IsBeside p d → is_full new.remaining d ≡ false) → IsFlood m new
flood_more m s popped new p fl same items t gone = record {
  resolution = t.resolution ∙ (ap (λ (l : Matrix). l.resolution) same ∙ fl.resolution);
  fewer = λ d f. less d (fl.fewer d f);
  grounded = λ d k. grounded d k (is_full s.remaining d) refl;
  found = λ d k. found d (t.found d k);
  looked = λ a b k n f. looked a b k n f (is_full s.remaining a) refl;
  floor = λ d e. less d (fl.floor d e);
}
  where
    less : (d : Coord) → is_full s.remaining d ≡ false → is_full new.remaining d ≡ false
    less d f = t.fewer d (ap (λ (l : Matrix). is_full l d) same ∙ f)

    here : (c : Coord) → IsAmong p c → IsTaken m s.remaining c
    here c h = fl.found c (has_last popped s p items c h)

    now : (d : Coord) → is_full s.remaining d ≡ true → is_full new.remaining d ≡ false
        → IsTaken popped.remaining new.remaining d
    now d e f = record { before = ap (λ (l : Matrix). is_full l d) same ∙ e; after = f }

    reached : (d : Coord) → IsTrue (is_full m d) → IsBeside p d → Grounded m d
    reached d f h = one_more m d h.one f (adjacent-sym h.one d h.adjacent) (fl.grounded h.one (here h.one h.among))

    grounded : (d : Coord) → IsTaken m new.remaining d → (b : Bool) → is_full s.remaining d ≡ b → Grounded m d
    grounded d k false e = fl.grounded d (record { before = k.before; after = e })
    grounded d k true e = reached d k.before (t.taken d (now d e k.after)).0

    found : (d : Coord) → (HasFound popped d ⊎ IsTaken popped.remaining new.remaining d) → IsTaken m new.remaining d
    found d (inl k) = let was = fl.found d (has_more popped s p items d k) in record { before = was.before; after = less d was.after }
    found d (inr k) = record {
      before = true_by_false (is_full m d) (is_full s.remaining d) (fl.fewer d) (sym (ap (λ (l : Matrix). is_full l d) same) ∙ k.before);
      after = k.after;
    }

    looked : (a b : Coord) → IsTaken m new.remaining a → IsTrue (are_adjacent a b) → IsTrue (is_full new.remaining b)
        → (f : Bool) → is_full s.remaining a ≡ f → HasFound new a
    looked a b k n f true e = (t.taken a (now a e k.after)).1
    looked a b k n f false e = of (has_cases popped s p items a (fl.looked a b (record { before = k.before; after = e }) n (true_by_false (is_full s.remaining b) (is_full new.remaining b) (less b) f)))
      where
        of : (HasFound popped a ⊎ IsAmong p a) → HasFound new a
        of (inl h) = t.kept a h
        of (inr h) = anything_by (is_full new.remaining b) f (gone b (record { one = a; among = h; adjacent = n }))

-- segments of the frontier begin at each 64th coordinate
pub found_starts : (near : Coord → Type 0) (popped new : Flood)
    → All (IsStart popped.remaining.resolution) popped.found.items → TakesOut near popped new
    → All (IsStart popped.remaining.resolution) new.found.items
found_starts near popped new starts t = All-weaker (Contains new.found.items) (IsStart popped.remaining.resolution) (λ s k. by s (t.starts s k)) new.found.items (All-contains_itself new.found.items)
  where
    by : (s : Stretch)
        → (Contains popped.found.items s ⊎ (IsInSpace popped.remaining.resolution s.first × (s.first.z % 64 ≡ 0)))
        → IsStart popped.remaining.resolution s
    by s (inl k) = All-contains (IsStart popped.remaining.resolution) popped.found.items s starts k
    by s (inr k) = record { within = k.0; each = k.1 }

-- a segment is widened by its neighbors in its own word
module _ (popped new : Flood) (p : Stretch) (count more : ℕ) (r : new.remaining.resolution ≡ popped.remaining.resolution) (few : count ≤ 64)
    (was : (k : ℕ) → k < count → bit more k ≡ (bit (moved p.bits) k && is_full popped.remaining (at p.first (p.first.z + k))))
    (cut : (d : Coord) → is_full new.remaining d ≡ (is_full popped.remaining d && not (is_marked p.first count (moved p.bits) d)))
    (below_all : more < 2 ^ count) (items : new.found.items ≡ popped.found.items ++ record { first = p.first; bits = bit_or p.bits more } ∷ []) where
  wide : Stretch
  wide = record { first = p.first; bits = bit_or p.bits more }

  or_left : (k : ℕ) → bit p.bits k ≡ true → bit (bit_or p.bits more) k ≡ true
  or_left k h = let bit_is : bit_at p.bits k ≡ 1 = one_of (bit_at p.bits k) h in let bit_below = bit_at-lt more k in is_one (bit_at (bit_or p.bits more) k) (bit_at_or p.bits more k ∙ omega arith)

  or_right : (k : ℕ) → bit more k ≡ true → bit (bit_or p.bits more) k ≡ true
  or_right k h = let bit_is : bit_at more k ≡ 1 = one_of (bit_at more k) h in let bit_below = bit_at-lt p.bits k in is_one (bit_at (bit_or p.bits more) k) (bit_at_or p.bits more k ∙ omega arith)

  or_either : (k : ℕ) → bit (bit_or p.bits more) k ≡ true → (bit p.bits k ≡ true) ⊎ (bit more k ≡ true)
  or_either k h = by (bit_at p.bits k) (bit_at-lt p.bits k) refl
    where
      all : max (bit_at p.bits k) (bit_at more k) ≡ 1
      all = sym (bit_at_or p.bits more k) ∙ one_of (bit_at (bit_or p.bits more) k) h

      by : (d : ℕ) → d < 2 → bit_at p.bits k ≡ d → (bit p.bits k ≡ true) ⊎ (bit more k ≡ true)
      by zero l e = let max_is : max (bit_at p.bits k) (bit_at more k) ≡ 1 = all in inr (is_one (bit_at more k) (omega arith))
      by (suc zero) l e = inl (is_one (bit_at p.bits k) e)
      by (suc (suc d)) l e = absurd (omega arith)

  widened : (d : Coord) → IsAmong p d → IsAmong (record { first = p.first; bits = bit_or p.bits more }) d
  widened d h = record { x = h.x; y = h.y; from = h.from; to = h.to; here = or_left (d.z - p.first.z) h.here }

  added : (d : Coord) → IsAmong (record { first = p.first; bits = more }) d
      → IsAmong (record { first = p.first; bits = bit_or p.bits more }) d
  added d h = record { x = h.x; y = h.y; from = h.from; to = h.to; here = or_right (d.z - p.first.z) h.here }

  either : (d : Coord) → IsAmong (record { first = p.first; bits = bit_or p.bits more }) d
      → IsAmong p d ⊎ IsAmong (record { first = p.first; bits = more }) d
  either d h = by (or_either (d.z - p.first.z) h.here)
    where
      by : ((bit p.bits (d.z - p.first.z) ≡ true) ⊎ (bit more (d.z - p.first.z) ≡ true))
          → IsAmong p d ⊎ IsAmong (record { first = p.first; bits = more }) d
      by (inl b) = inl (record { x = h.x; y = h.y; from = h.from; to = h.to; here = b })
      by (inr b) = inr (record { x = h.x; y = h.y; from = h.from; to = h.to; here = b })

  pub flood_wider : (m : Matrix) (s : Flood) → IsStart MOST_R p → popped.remaining.resolution ≤ MOST_R → p.bits < 2 ^ 64
      → IsFlood m s → popped.remaining ≡ s.remaining → s.found.items ≡ popped.found.items ++ p ∷ [] → IsFlood m new
  flood_wider m s start most fits fl same held = record {
    resolution = r ∙ (ap (λ (l : Matrix). l.resolution) same ∙ fl.resolution);
    fewer = λ d f. less d (fl.fewer d f);
    grounded = λ d k. grounded d k (is_full s.remaining d) refl;
    found = λ d k. found d (has_cases popped new (record { first = p.first; bits = bit_or p.bits more }) items d k);
    looked = λ a b k n f. looked a b k n f (is_full s.remaining a) refl;
    floor = λ d e. less d (fl.floor d e);
  }
    where
      less : (d : Coord) → is_full s.remaining d ≡ false → is_full new.remaining d ≡ false
      less d f = fewer_in_row popped new p.first count (moved p.bits) more r few was cut d (ap (λ (l : Matrix). is_full l d) same ∙ f)

      here : (c : Coord) → IsAmong p c → IsTaken m s.remaining c
      here c h = fl.found c (has_last popped s p held c h)

      now : (d : Coord) → is_full s.remaining d ≡ true → is_full new.remaining d ≡ false
          → IsTaken popped.remaining new.remaining d
      now d e f = record { before = ap (λ (l : Matrix). is_full l d) same ∙ e; after = f }

      reached : (d : Coord) → IsTrue (is_full m d) → IsBeside p d → Grounded m d
      reached d f h = one_more m d h.one f (adjacent-sym h.one d h.adjacent) (fl.grounded h.one (here h.one h.among))

      grounded : (d : Coord) → IsTaken m new.remaining d → (b : Bool) → is_full s.remaining d ≡ b → Grounded m d
      grounded d k false e = fl.grounded d (record { before = k.before; after = e })
      grounded d k true e =
          let now_here = now d e k.after in
          reached d k.before (near_moved p popped.remaining.resolution start most fits d (full_within popped.remaining d now_here.before) (row_asked popped new p.first count (moved p.bits) more r few was cut d now_here))

      was_full : (d : Coord) → IsTrue (is_full popped.remaining d) → IsTrue (is_full m d)
      was_full d t = true_by_false (is_full m d) (is_full s.remaining d) (fl.fewer d) (sym (ap (λ (l : Matrix). is_full l d) same) ∙ t)

      found : (d : Coord) → (HasFound popped d ⊎ IsAmong (record { first = p.first; bits = bit_or p.bits more }) d)
          → IsTaken m new.remaining d
      found d (inl k) = let found = fl.found d (has_more popped s p held d k) in record { before = found.before; after = less d found.after }
      found d (inr k) = by (either d k)
        where
          by : (IsAmong p d ⊎ IsAmong (record { first = p.first; bits = more }) d) → IsTaken m new.remaining d
          by (inl h) = let found_here = here d h in record { before = found_here.before; after = less d found_here.after }
          by (inr h) = let row_was_here = row_was popped new p.first count (moved p.bits) more r few was cut below_all d h in record { before = was_full d row_was_here.before; after = row_was_here.after }

      looked : (a b : Coord) → IsTaken m new.remaining a → IsTrue (are_adjacent a b) → IsTrue (is_full new.remaining b)
          → (f : Bool) → is_full s.remaining a ≡ f → HasFound new a
      looked a b k n f true e = has_last popped new (record { first = p.first; bits = bit_or p.bits more }) items a (added a (row_taken popped new p.first count (moved p.bits) more r few was cut a (now a e k.after)))
      looked a b k n f false e = of (has_cases popped s p held a (fl.looked a b (record { before = k.before; after = e }) n (true_by_false (is_full s.remaining b) (is_full new.remaining b) (less b) f)))
        where
          of : (HasFound popped a ⊎ IsAmong p a) → HasFound new a
          of (inl h) = has_more popped new (record { first = p.first; bits = bit_or p.bits more }) items a h
          of (inr h) = has_last popped new (record { first = p.first; bits = bit_or p.bits more }) items a (widened a h)

pub in_none : (f : Flood) (d : Coord) → f.found.items ≡ [] → HasFound f d → ⊥
in_none f d e h = let length_is : length f.found.items ≡ 0 = ap length e in let is_found = h.is_found in omega (arith, is_found.1)

-- ---- the end

-- the remaining voxels are not grounded
left_floats : (m : Matrix) (f : Flood) → IsFlood m f → f.found.items ≡ [] → (c : Coord) → IsTrue (is_full f.remaining c)
    → Grounded m c → ⊥
left_floats m f fl none c t =
    ungrounded_by m (is_full f.remaining) (λ a b i g n. stays a b i g n (is_full f.remaining b) refl, λ a i e. anything_by (is_full f.remaining a) i (fl.floor a (zero_of a.y e))) c t
    (λ a b s i. subst (λ (v : Coord). IsTrue (is_full f.remaining v)) (coordinate_by_test a b s) i)
  where
    zero_of : (y : ℕ) → IsTrue (y == 0) → y ≡ 0
    zero_of y e = grind (arith, nat_tests)

    stays : (a b : Coord) → IsTrue (is_full f.remaining a) → IsTrue (is_full m b) → IsTrue (are_adjacent a b)
        → (v : Bool) → is_full f.remaining b ≡ v → IsTrue (is_full f.remaining b)
    stays a b i g n true e = e
    stays a b i g n false e = absurd (in_none f b none (fl.looked b a (record { before = g; after = e }) (adjacent-sym a b n) i))

pub first_failing : {A : Type 0} (P : A → Type 0) (test : A → Bool) → ((a : A) → test a ≡ true → P a → ⊥)
    → ((a : A) → test a ≡ false → P a) → (xs : List A) → FirstFailing P xs (find test xs)
first_failing P test bad good [] = tt
first_failing {A = A} P test bad good (a ∷ xs) = by (test a) refl (find test xs) (first_failing P test bad good xs)
  where
    by : (b : Bool) → test a ≡ b → (o : Option A) → FirstFailing P xs o → FirstFailing P (a ∷ xs) (cond b (Some a) o)
    by true e o h = inl (bad a e, refl)
    by false e None h = (good a e, h)
    by false e (Some c) h = inr (good a e, h)

-- the least remaining voxel is the least that is not grounded
pub left_is_ungrounded : (m : Matrix) (f : Flood) (test : Coord → Bool) → IsFlood m f → f.found.items ≡ []
    → ((c : Coord) → test c ≡ true → IsTrue (is_full f.remaining c))
    → ((c : Coord) → IsTrue (is_full f.remaining c) → test c ≡ true) → FirstUngrounded m (find test (all_of m))
left_is_ungrounded m f test fl none sound complete =
    first_failing (λ c. IsTrue (is_full m c) → Grounded m c) test bad good (all_of m)
  where
    bad : (c : Coord) → test c ≡ true → (IsTrue (is_full m c) → Grounded m c) → ⊥
    bad c e g = let full : IsTrue (is_full f.remaining c) = sound c e in left_floats m f fl none c full (g (true_by_false (is_full m c) (is_full f.remaining c) (fl.fewer c) full))

    good : (c : Coord) → test c ≡ false → IsTrue (is_full m c) → Grounded m c
    good c e t = by (is_full f.remaining c) refl
      where
        by : (v : Bool) → is_full f.remaining c ≡ v → Grounded m c
        by true v = anything_by (test c) (complete c v) e
        by false v = fl.grounded c (record { before = t; after = v })

-- the state of a search is only its frontier and the remaining voxels
pub flood_same : (m : Matrix) (a b : Flood) → b.remaining ≡ a.remaining → b.found.items ≡ a.found.items → IsFlood m a
    → IsFlood m b
flood_same m a b same items fl = record {
  resolution = ap (λ (l : Matrix). l.resolution) same ∙ fl.resolution;
  fewer = λ d f. ap (λ (l : Matrix). is_full l d) same ∙ fl.fewer d f;
  grounded = λ d k. fl.grounded d (was d k);
  found = λ d k. let found = fl.found d (has_same b a (sym items) d k) in record { before = found.before; after = ap (λ (l : Matrix). is_full l d) same ∙ found.after };
  looked = λ d e k n f. has_same a b items d (fl.looked d e (was d k) n (sym (ap (λ (l : Matrix). is_full l e) same) ∙ f));
  floor = λ d e. ap (λ (l : Matrix). is_full l d) same ∙ fl.floor d e;
}
  where
    was : (d : Coord) → IsTaken m b.remaining d → IsTaken m a.remaining d
    was d k = record { before = k.before; after = sym (ap (λ (l : Matrix). is_full l d) same) ∙ k.after }
