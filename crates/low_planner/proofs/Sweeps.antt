-- The steps of a sweep.
use Rattle.std.proofs.Common.{◌≡◌, ℕ, ◌≤◌, ◌⊎◌, inl, inr, refl, sym, ◌∙◌, ap, subst, arith, List, [], ◌∷◌, ◌++◌, Bool, true, false, length, find, Option}
use Rattle.std.specs.Prelude.{IsTrue, Contains}
use Rattle.std.proofs.lemmas.List.Elements.{Contains-append_left, Contains-push, Contains-push_cases}
use Rattle.vox_geom.specs.declared.coordinate.Coord.{Coord}
use Rattle.vox_geom.specs.Least.{LeastOf}
use Rattle.vox_geom.specs.Space.{IsInSpace, coordinates}
use Rattle.vox_geom.proofs.Firsts.{first_is}
use Rattle.vox_geom.proofs.Truths.{anything_by, true_by_false}
use Rattle.vox_geom.proofs.Points.{same_or_not}
use Rattle.nano_spec.specs.Matrix.{Matrix, all_of, is_full}
use Rattle.model_file.proofs.Spreads.{first_failing}
use Rattle.low_planner.specs.declared.sweep.Sweep.{Sweep}
use Rattle.low_planner.specs.Supported.{FirstUnsupported, IsSupported, rests}
use Rattle.low_planner.specs.Sweep.{AreAllSwept, AreSwept, AreBesideInLayer, IsSweep, IsTrail, IsVisited, TakesVoxel}
use Rattle.low_planner.proofs.Beside.{beside-sym}
use Rattle.low_planner.proofs.Paths.{in_part}

pub in_none : {X : Type 0} (xs : List X) (x : X) → xs ≡ [] → Contains xs x → ⊥
in_none xs x e h = let length_is : length xs ≡ 0 = ap length e in omega (arith, h.1)

-- ---- a new start

pub moved : (m : Matrix) (s t : Sweep) (c : Coord) → t.remaining ≡ s.remaining → t.trail.items ≡ s.trail.items
    → t.at ≡ c → IsSweep m s → s.trail.items ≡ [] → AreSwept m s.remaining c → s.at.y ≤ c.y → IsInSpace m.resolution c
    → IsSweep m t
moved m s t c er et ea h none swept up within = record {
  resolution = ap (λ (l : Matrix). l.resolution) er ∙ h.resolution;
  fewer = λ d f. ap (λ (l : Matrix). is_full l d) er ∙ h.fewer d f;
  supported = λ d k. h.supported d (was d k);
  closed = λ a b k n f. subst (λ (xs : List Coord). Contains xs a) (sym et) (h.closed a b (was a k) n (sym (ap (λ (l : Matrix). is_full l b) er) ∙ f));
  ahead = λ d k. let ahead = h.ahead d (was d k) in let same_y = ap (λ (q : Coord). q.y) ea in omega arith;
  swept = subst (λ (q : Coord). AreSwept m t.remaining q) (sym ea) (subst (λ (l : Matrix). AreSwept m l c) (sym er) swept);
  place = subst (λ (q : Coord). IsInSpace m.resolution q) (sym ea) within;
  trail = subst (λ (xs : List Coord). IsTrail t.at xs) (sym (et ∙ none)) tt;
  on_trail = λ d k. absurd (in_none t.trail.items d (et ∙ none) k);
}
  where
    was : (d : Coord) → IsVisited m t.remaining d → IsVisited m s.remaining d
    was d k = record { before = k.before; after = sym (ap (λ (l : Matrix). is_full l d) er) ∙ k.after }

-- ---- a voxel more

module _ (m : Matrix) (s t : Sweep) (c : Coord) (h : IsSweep m s) (k : TakesVoxel s t c) (at : t.at ≡ s.at) (supported : IsSupported m c) (level : c.y ≡ s.at.y) (trail : IsTrail t.at t.trail.items) where
  was_full : IsTrue (is_full m c)
  was_full = true_by_false (is_full m c) (is_full s.remaining c) (h.fewer c) k.loses.before

  visited_now : IsVisited m t.remaining c
  visited_now = record { before = was_full; after = k.loses.after }

  fewer_now : (d : Coord) → is_full s.remaining d ≡ false → is_full t.remaining d ≡ false
  fewer_now d f = by (same_or_not d c)
    where
      by : (d ≡ c) ⊎ (d ≡ c → ⊥) → is_full t.remaining d ≡ false
      by (inl e) = ap (is_full t.remaining) e ∙ k.loses.after
      by (inr n) = k.loses.others d n ∙ f

  -- a voxel that is visited now is the new one, or was visited before
  visited_cases : (d : Coord) → IsVisited m t.remaining d → (d ≡ c) ⊎ IsVisited m s.remaining d
  visited_cases d v = by (same_or_not d c)
    where
      by : (d ≡ c) ⊎ (d ≡ c → ⊥) → (d ≡ c) ⊎ IsVisited m s.remaining d
      by (inl e) = inl e
      by (inr n) = inr (record { before = v.before; after = sym (k.loses.others d n) ∙ v.after })

  up : t.at.y ≡ s.at.y
  up = ap (λ (q : Coord). q.y) at

  on_it : Contains t.trail.items c
  on_it = subst (λ (xs : List Coord). Contains xs c) (sym k.trail) (Contains-push s.trail.items c)

  stays_on : (d : Coord) → Contains s.trail.items d → Contains t.trail.items d
  stays_on d i = subst (λ (xs : List Coord). Contains xs d) (sym k.trail) (Contains-append_left s.trail.items (c ∷ []) d i)

  left_before : (d : Coord) → IsTrue (is_full t.remaining d) → IsTrue (is_full s.remaining d)
  left_before d f = true_by_false (is_full s.remaining d) (is_full t.remaining d) (fewer_now d) f

  pub taken : IsSweep m t
  taken = record {
    resolution = k.loses.resolution ∙ h.resolution;
    fewer = λ d f. fewer_now d (h.fewer d f);
    supported = λ d v. of d (visited_cases d v);
    closed = λ a b v n f. near a b n f (visited_cases a v);
    ahead = λ d v. low d (visited_cases d v);
    swept = subst (λ (q : Coord). AreSwept m t.remaining q) (sym at) (record { layers = λ d l r. fewer_now d (h.swept.layers d l r); rows = λ d e l r. fewer_now d (h.swept.rows d e l r); cells = λ d e f l r. fewer_now d (h.swept.cells d e f l r) });
    place = subst (λ (q : Coord). IsInSpace m.resolution q) (sym at) h.place;
    trail = trail;
    on_trail = λ d i. member d (Contains-push_cases s.trail.items c d (subst (λ (xs : List Coord). Contains xs d) k.trail i));
  }
    where
      of : (d : Coord) → (d ≡ c) ⊎ IsVisited m s.remaining d → IsSupported m d
      of d (inl e) = subst (IsSupported m) (sym e) supported
      of d (inr v) = h.supported d v

      near : (a b : Coord) → AreBesideInLayer a b → IsTrue (is_full t.remaining b) → (a ≡ c) ⊎ IsVisited m s.remaining a
          → Contains t.trail.items a
      near a b n f (inl e) = subst (λ (q : Coord). Contains t.trail.items q) (sym e) on_it
      near a b n f (inr v) = stays_on a (h.closed a b v n (left_before b f))

      low : (d : Coord) → (d ≡ c) ⊎ IsVisited m s.remaining d → d.y ≤ t.at.y
      low d (inl e) = let same_y = ap (λ (q : Coord). q.y) e in let up_here = up in omega arith
      low d (inr v) = let ahead = h.ahead d v in let up_here = up in omega arith

      member : (d : Coord) → (Contains s.trail.items d ⊎ (c ≡ d)) → IsVisited m t.remaining d × (d.y ≡ t.at.y)
      member d (inl i) = let on_trail = h.on_trail d i in (record { before = on_trail.0.before; after = fewer_now d on_trail.0.after }, on_trail.1 ∙ sym up)
      member d (inr e) = subst (λ (q : Coord). IsVisited m t.remaining q × (q.y ≡ t.at.y)) e (visited_now, level ∙ sym up)

-- ---- a voxel less on the trail

pub popped : (m : Matrix) (s t : Sweep) (last : Coord) → IsSweep m s → t.remaining ≡ s.remaining → t.at ≡ s.at
    → s.trail.items ≡ t.trail.items ++ last ∷ []
    → ((d : Coord) → AreBesideInLayer last d → is_full s.remaining d ≡ false) → IsTrail s.at t.trail.items → IsSweep m t
popped m s t last h er ea ends alone trail = record {
  resolution = ap (λ (l : Matrix). l.resolution) er ∙ h.resolution;
  fewer = λ d f. ap (λ (l : Matrix). is_full l d) er ∙ h.fewer d f;
  supported = λ d k. h.supported d (was d k);
  closed = λ a b k n f. let full : IsTrue (is_full s.remaining b) = sym (ap (λ (l : Matrix). is_full l b) er) ∙ f in near a b n full (Contains-push_cases t.trail.items last a (subst (λ (xs : List Coord). Contains xs a) ends (h.closed a b (was a k) n full)));
  ahead = λ d k. let ahead = h.ahead d (was d k) in let same_y = ap (λ (q : Coord). q.y) ea in omega arith;
  swept = subst (λ (q : Coord). AreSwept m t.remaining q) (sym ea) (subst (λ (l : Matrix). AreSwept m l s.at) (sym er) h.swept);
  place = subst (λ (q : Coord). IsInSpace m.resolution q) (sym ea) h.place;
  trail = subst (λ (q : Coord). IsTrail q t.trail.items) (sym ea) trail;
  on_trail = λ d i. let on_trail = h.on_trail d (subst (λ (xs : List Coord). Contains xs d) (sym ends) (Contains-append_left t.trail.items (last ∷ []) d i)) in (record { before = on_trail.0.before; after = ap (λ (l : Matrix). is_full l d) er ∙ on_trail.0.after }, on_trail.1 ∙ sym (ap (λ (q : Coord). q.y) ea));
}
  where
    was : (d : Coord) → IsVisited m t.remaining d → IsVisited m s.remaining d
    was d k = record { before = k.before; after = sym (ap (λ (l : Matrix). is_full l d) er) ∙ k.after }

    near : (a b : Coord) → AreBesideInLayer a b → IsTrue (is_full s.remaining b)
        → (Contains t.trail.items a ⊎ (last ≡ a)) → Contains t.trail.items a
    near a b n g (inl i) = i
    near a b n g (inr e) = anything_by (is_full s.remaining b) g (alone b (subst (λ (q : Coord). AreBesideInLayer q b) (sym e) n))

-- ---- voxels not visited

-- a layer of which all that rests was visited, and none is on the trail, has no voxel of a supported part that was not
-- visited
pub none_left : (m : Matrix) (s : Sweep) (y : ℕ) → IsSweep m s
    → ((c : Coord) → c.y ≡ y → IsTrue (rests m c) → is_full s.remaining c ≡ false)
    → ((c : Coord) → c.y ≡ y → Contains s.trail.items c → ⊥) → (c : Coord) → IsSupported m c → c.y ≡ y
    → is_full s.remaining c ≡ false
none_left m s y h rest off = in_part m (λ a. a.y ≡ y → is_full s.remaining a ≡ false) (λ a f r e. rest a e r) more
  where
    more : (a b : Coord) → IsTrue (is_full m a) → IsTrue (is_full m b) → AreBesideInLayer a b
        → (b.y ≡ y → is_full s.remaining b ≡ false) → a.y ≡ y → is_full s.remaining a ≡ false
    more a b f g n later e = by (is_full s.remaining a) refl
      where
        at : b.y ≡ y
        at = n.level ∙ e

        by : (v : Bool) → is_full s.remaining a ≡ v → v ≡ false
        by false w = refl
        by true w = absurd (off b at (h.closed b a (record { before = g; after = later at }) (beside-sym a b n) w))

-- the least voxel that was not visited is the least of all unsupported parts
pub left_is_unsupported : (m : Matrix) (s : Sweep) (o : Option Coord) → IsSweep m s → s.trail.items ≡ []
    → AreAllSwept m s.remaining → LeastOf s.remaining.resolution (is_full s.remaining) o → FirstUnsupported m o
left_is_unsupported m s o h none all least =
    subst (FirstUnsupported m) (ap (λ r. find (is_full s.remaining) (coordinates r)) (sym h.resolution) ∙ first_is s.remaining.resolution (is_full s.remaining) o least)
    (first_failing (λ c. IsTrue (is_full m c) → IsSupported m c) (is_full s.remaining) bad good (all_of m))
  where
    bad : (c : Coord) → is_full s.remaining c ≡ true → (IsTrue (is_full m c) → IsSupported m c) → ⊥
    bad c e g = anything_by (is_full s.remaining c) e (none_left m s c.y h (λ d l r. all d r) (λ d l i. in_none s.trail.items d none i) c (g (true_by_false (is_full m c) (is_full s.remaining c) (h.fewer c) e)) refl)

    good : (c : Coord) → is_full s.remaining c ≡ false → IsTrue (is_full m c) → IsSupported m c
    good c e f = h.supported c (record { before = f; after = e })
