-- A tape along a sweep: the built voxels are the visited ones.
use Rattle.std.proofs.Common.{◌≡◌, ◌⊎◌, inl, inr, ℕ, zero, suc, ◌+◌, ◌-◌, ◌*◌, ◌<◌, ◌≤◌, refl, sym, ◌∙◌, ap, subst, arith, List, [], ◌∷◌, ◌++◌, Bool, true, false, not, ◌&&◌, ◌||◌, ◌==◌, length, map}
use Rattle.std.specs.Prelude.{IsTrue, None, Contains, count_by}
use Rattle.std.proofs.lemmas.List.{length-append, same_from_push}
use Rattle.std.proofs.lemmas.List.Elements.{All-nil, Contains-push}
use Rattle.std.proofs.lemmas.List.Sums.{count_by-le-length}
use Rattle.vox_geom.specs.declared.coordinate.Coord.{Coord}
use Rattle.vox_geom.specs.Space.{IsInSpace, coordinate_at, coordinates, numbers_from}
use Rattle.nano_spec.specs.Legal.{IsLegal}
use Rattle.nano_spec.specs.Matrix.{Matrix, empty, is_full, full_count}
use Rattle.nano_spec.specs.Profile.{light_profile}
use Rattle.nano_spec.specs.State.{origin}
use Rattle.vox_planes.specs.Voxel.{with_voxel}
use Rattle.plan_tape.specs.Leg.{distance, moves_to}
use Rattle.plan_tape.specs.Progress.{TapeState, spot, starting, IsVoidFrom}
use Rattle.low_planner.specs.declared.sweep.Sweep.{Sweep}
use Rattle.low_planner.specs.Build.{CanFill, CanGoAbove, IsBuilt, IsCarried, IsFinished, Works, above}
use Rattle.low_planner.specs.Commands.{IsEmpty, IsPlain}
use Rattle.low_planner.specs.Supported.{FirstUnsupported}
use Rattle.low_planner.specs.Sweep.{BeginsPart, EndsSweep, TurnsBack, GoesOn, IsSweep, IsTrail, IsVisited, LosesVoxel, reach}
use Rattle.low_planner.proofs.Beside.{adjacent_below, beside-sym}
use Rattle.low_planner.proofs.Counts.{one_less}
use Rattle.low_planner.proofs.Grounds.{is_supported, set_here, set_other}
use Rattle.low_planner.proofs.Sweeps.{in_none, none_left}
use Rattle.vox_geom.specs.Point.{below}
use Rattle.vox_geom.proofs.Truths.{anything_by, true_by_false}
use Rattle.vox_geom.proofs.Tests.{positive_by_test, zero_by_test}
use Rattle.vox_geom.proofs.Sums.{most_cube}
use Rattle.vox_geom.proofs.Points.{same_or_not}
use Rattle.low_planner.proofs.Reach.{above_in_space, moves_paid, one_move, reach_most}
use Rattle.plan_tape.proofs.ClearWays.{moves_most}
use Rattle.plan_tape.proofs.LegalModels.{empty_is_void, full_within}

-- ---- the most voxels

pub length_all : {X : Type 0} (f : ℕ → X) (n a : ℕ) → length (map f (numbers_from a n)) ≡ n
length_all f zero a = refl
length_all f (suc n) a = let length_is : length (map f (numbers_from (a + 1) n)) ≡ n = length_all f n (a + 1) in ap suc length_is

pub full_most : (m : Matrix) → full_count m ≤ m.resolution * m.resolution * m.resolution
full_most m =
    let resolution = m.resolution in
    let most : count_by (is_full m) (coordinates resolution) ≤ length (coordinates resolution) = count_by-le-length (is_full m) (coordinates resolution) in
    let size : length (coordinates resolution) ≡ resolution * resolution * resolution = length_all (coordinate_at resolution) (resolution * resolution * resolution) 0 in
    omega arith

-- ---- the trail

pub ends_or_none : {X : Type 0} (xs : List X) → (xs ≡ []) ⊎ ((most : List X) × (last : X) × (xs ≡ most ++ last ∷ []))
ends_or_none [] = inl refl
ends_or_none {X} (x ∷ xs) = inr (by (ends_or_none xs))
  where
    by : (xs ≡ []) ⊎ ((most : List X) × (last : X) × (xs ≡ most ++ last ∷ []))
        → (most : List X) × (last : X) × (x ∷ xs ≡ most ++ last ∷ [])
    by (inl e) = ([], x, ap (λ (ys : List X). x ∷ ys) e)
    by (inr h) = (x ∷ h.0, h.1, ap (λ (ys : List X). x ∷ ys) h.2)

none_ends : {X : Type 0} (xs most : List X) (last : X) → xs ≡ [] → xs ≡ most ++ last ∷ [] → ⊥
none_ends xs most last e f = let length_is = ap length e in let same_length = ap length f ∙ length-append most (last ∷ []) in omega arith

last_is : {X : Type 0} (xs most more : List X) (a b : X) → xs ≡ most ++ a ∷ [] → xs ≡ more ++ b ∷ [] → a ≡ b
last_is xs most more a b e f = (same_from_push most more a b (sym e ∙ f)).1

-- ---- the built voxels

module _ (m : Matrix) (s : Sweep) (p : TapeState) (h : IsSweep m s) (b : IsBuilt m s p) where
  built_is_visited : (d : Coord) → IsTrue (is_full p.matrix d) → IsVisited m s.remaining d
  built_is_visited d f = by (is_full m d) (is_full s.remaining d) refl refl (sym (b.made d) ∙ f)
    where
      by : (x y : Bool) → is_full m d ≡ x → is_full s.remaining d ≡ y → (x && not y) ≡ true → IsVisited m s.remaining d
      by true false e g t = record { before = e; after = g }
      by true true e g t = cc
      by false y e g t = cc

  visited_is_built : (d : Coord) → IsVisited m s.remaining d → IsTrue (is_full p.matrix d)
  visited_is_built d v = b.made d ∙ (λ i. v.before i && not (v.after i))

  -- above the layer that the sweep is in nothing is built
  void_above : (y : ℕ) → s.at.y < y → IsVoidFrom p.matrix y
  void_above y l d k = by (is_full p.matrix d) refl
    where
      by : (x : Bool) → is_full p.matrix d ≡ x → x ≡ false
      by false e = refl
      by true e = let ahead = h.ahead d (built_is_visited d e) in absurd (omega arith)

  on_trail_is : (most : List Coord) (last : Coord) → s.trail.items ≡ most ++ last ∷ []
      → IsVisited m s.remaining last × (last.y ≡ s.at.y)
  on_trail_is most last e = h.on_trail last (subst (λ (xs : List Coord). Contains xs last) (sym e) (Contains-push most last))

  pub void_here : IsVoidFrom p.matrix (spot p.bots).y
  void_here = by (ends_or_none s.trail.items)
    where
      by : (s.trail.items ≡ []) ⊎ ((most : List Coord) × (last : Coord) × (s.trail.items ≡ most ++ last ∷ []))
          → IsVoidFrom p.matrix (spot p.bots).y
      by (inl e) = λ d l. (b.first e).nothing d (omega arith)
      by (inr e) =
          let at = ap (λ (q : Coord). q.y) (b.spot_is e.0 e.1 e.2) in
          let level = (on_trail_is e.0 e.1 e.2).1 in
          void_above (spot p.bots).y (omega arith)

  pub spot_in_space : IsLegal m → IsInSpace m.resolution (spot p.bots)
  spot_in_space legal = by (ends_or_none s.trail.items)
    where
      by : (s.trail.items ≡ []) ⊎ ((most : List Coord) × (last : Coord) × (s.trail.items ≡ most ++ last ∷ []))
          → IsInSpace m.resolution (spot p.bots)
      by (inl e) = subst (IsInSpace m.resolution) ((b.first e).at ∙ sym (b.first e).spot_is) h.place
      by (inr e) = subst (IsInSpace m.resolution) (sym (b.spot_is e.0 e.1 e.2)) (above_in_space m e.1 legal (on_trail_is e.0 e.1 e.2).0.before)

  few_steps : m.resolution ≤ 400 → p.steps ≤ 300000000
  few_steps most =
      let full = full_most m in
      let size = most_cube m.resolution most in
      let way = reach_most m.resolution s.at h.place in
      let few = b.few in
      omega arith

  -- the bot may go to the coordinate above a voxel of the model that is not below the layer that the sweep is in
  pub can_go : IsLegal m → m.resolution ≤ 400 → (c : Coord) → IsTrue (is_full m c) → s.at.y ≤ c.y → CanGoAbove p c
  can_go legal most c full up =
      let above_it = above_in_space m c legal full in
      let steps = few_steps most in
      let moves = moves_most m.resolution (spot p.bots) (above c) most (spot_in_space legal) above_it in
      record {
        working = b.working;
        within = subst (λ (r : ℕ). IsInSpace r (above c)) (sym b.resolution) above_it;
        here = void_here;
        there = void_above (c.y + 1) (omega arith);
        limit = omega arith;
      }

  full_at_visit : (c : Coord) → IsTrue (is_full s.remaining c) → IsTrue (is_full m c)
  full_at_visit c f = true_by_false (is_full m c) (is_full s.remaining c) (h.fewer c) f

-- ---- a voxel more is built

module _ (m : Matrix) (s t : Sweep) (p q : TapeState) (h : IsSweep m s) (b : IsBuilt m s p) (c : Coord) (count : ℕ) (l : LosesVoxel s.remaining t.remaining c) (w : Works p q (above c) (with_voxel p.matrix c true) count) where
  full_there : IsTrue (is_full m c)
  full_there = full_at_visit m s p h b c l.before

  made_now : (d : Coord) → is_full q.matrix d ≡ (is_full m d && not (is_full t.remaining d))
  made_now d = ap (λ (k : Matrix). is_full k d) w.matrix ∙ by (same_or_not d c)
    where
      by : (d ≡ c) ⊎ (d ≡ c → ⊥) → is_full (with_voxel p.matrix c true) d ≡ (is_full m d && not (is_full t.remaining d))
      by (inl e) =
          ap (is_full (with_voxel p.matrix c true)) e
          ∙ (set_here p.matrix c true (subst (λ (r : ℕ). IsInSpace r c) (sym b.resolution) (full_within m c full_there))
          ∙ sym ((λ i. is_full m (e i) && not (is_full t.remaining (e i))) ∙ (λ i. full_there i && not (l.after i))))
      by (inr n) = set_other p.matrix c d true n ∙ (b.made d ∙ ap (λ v. is_full m d && not v) (sym (l.others d n)))

  pub built_more : (xs : List Coord) → t.trail.items ≡ xs ++ c ∷ []
      → 15 * q.steps + 60 * full_count t.remaining + 15 * (length t.trail.items - 1)
      ≤ 60 * full_count m + reach m.resolution t.at → IsBuilt m t q
  built_more xs ends few = record {
    source = w.source ∙ b.source;
    working = w.working;
    resolution = ap (λ (k : Matrix). k.resolution) w.matrix ∙ b.resolution;
    made = made_now;
    spot_is = λ most last e. w.there ∙ ap above (last_is t.trail.items xs most c last ends e);
    first = λ e. absurd (none_ends t.trail.items xs c e ends);
    plain = w.plain b.plain;
    idle = λ v. absurd (anything_by (is_full m c) full_there (v c));
    few = few;
  }

-- ---- the first voxel of a part

module _ (m : Matrix) (s t : Sweep) (p : TapeState) (h : IsSweep m s) (g : IsSweep m t) (b : IsBuilt m s p) (c : Coord) (v : BeginsPart m s t c) where
  -- if it rests on a full voxel, that one was visited
  rested : FirstUnsupported m None → IsCarried p.matrix c
  rested supported = by (c.y == 0) refl v.resting
    where
      lower : 0 < c.y → below c ≡ c → ⊥
      lower l e = let same_y = ap (λ (q : Coord). q.y) e in omega arith

      high : t.at.y ≡ c.y
      high = ap (λ (q : Coord). q.y) v.at

      visited : 0 < c.y → IsTrue (is_full m (below c)) → is_full s.remaining (below c) ≡ false
      visited l f =
          sym (v.loses.others (below c) (lower l))
          ∙ none_left m t (c.y - 1) g (λ d e r. g.swept.layers d (let high_here = high in omega arith) r) (λ d e i. let on_trail = (g.on_trail d i).1 in let high_here = high in omega arith) (below c) (is_supported m (below c) supported f) refl

      by : (z : Bool) → (c.y == 0) ≡ z → IsTrue (z || is_full m (below c)) → IsCarried p.matrix c
      by true e r = inl (zero_by_test c.y e)
      by false e r = inr (below c, visited_is_built m s p h b (below c) (record { before = r; after = visited (positive_by_test c.y e) r }), adjacent_below c (below c) refl refl (let is_positive = positive_by_test c.y e in omega arith))

  pub can_begin : IsLegal m → m.resolution ≤ 400 → FirstUnsupported m None → CanFill p c
  can_begin legal most supported = record { can_go = can_go m s p h b legal most c (full_at_visit m s p h b c v.loses.before) v.up; carried = rested supported }

  -- the path there is paid by the part between both coordinates along the rows, and by the voxel
  paid : 15 * moves_to (spot p.bots) (above c) ≤ distance s.at c + 43
  paid = by (ends_or_none s.trail.items)
    where
      by : (s.trail.items ≡ []) ⊎ ((most : List Coord) × (last : Coord) × (s.trail.items ≡ most ++ last ∷ []))
          → 15 * moves_to (spot p.bots) (above c) ≤ distance s.at c + 43
      by (inl e) =
          let same : spot p.bots ≡ s.at = (b.first e).spot_is ∙ sym (b.first e).at in
          let moves : 15 * moves_to (spot p.bots) (above c) ≤ distance s.at (above c) + 42 = subst (λ (q : Coord). 15 * moves_to q (above c) ≤ distance s.at (above c) + 42) (sym same) (moves_paid s.at (above c)) in
          let step : distance s.at (above c) ≤ distance s.at c + 1 = omega arith in
          omega arith
      by (inr e) =
          let first = only_one s.trail.items e.0 e.1 e.2 h.trail v.short in
          let same : spot p.bots ≡ above s.at = b.spot_is e.0 e.1 e.2 ∙ ap above first in
          let moves : 15 * moves_to (spot p.bots) (above c) ≤ distance (above s.at) (above c) + 42 = subst (λ (q : Coord). 15 * moves_to q (above c) ≤ distance (above s.at) (above c) + 42) (sym same) (moves_paid (above s.at) (above c)) in
          let step : distance (above s.at) (above c) ≡ distance s.at c = omega arith in
          omega arith
        where
          only_one : (xs most : List Coord) (last : Coord) → xs ≡ most ++ last ∷ [] → IsTrail s.at xs → length xs ≤ 1
              → last ≡ s.at
          only_one xs [] last e k l = let trail : IsTrail s.at (last ∷ []) = subst (IsTrail s.at) e k in trail.0
          only_one xs (x ∷ most) last e k l = let length_is = ap length e ∙ length-append (x ∷ most) (last ∷ []) in absurd (omega arith)

  pub built_first : (q : TapeState)
      → Works p q (above c) (with_voxel p.matrix c true) (moves_to (spot p.bots) (above c) + 1) → IsBuilt m t q
  built_first q w =
      let moves = paid in
      let few = b.few in
      let near = v.near in
      let short = v.short in
      let steps = w.steps in
      let less = one_less s.remaining t.remaining c v.loses in
      let size : length t.trail.items ≡ 1 = ap length v.trail in
      let at : reach m.resolution t.at ≡ reach m.resolution c = ap (reach m.resolution) v.at in
      built_more m s t p q h b c (moves_to (spot p.bots) (above c) + 1) v.loses w [] v.trail (omega arith)

-- ---- a neighbor of the last voxel

module _ (m : Matrix) (s t : Sweep) (p : TapeState) (h : IsSweep m s) (b : IsBuilt m s p) (c : Coord) (v : GoesOn s t c) where
  pub can_go_on : IsLegal m → m.resolution ≤ 400 → CanFill p c
  can_go_on legal most =
      let last = on_trail_is m s p h b v.most v.last v.ends in
      let level = v.beside.level in
      record {
        can_go = can_go m s p h b legal most c (full_at_visit m s p h b c v.takes.loses.before) (let l = last.1 in omega arith);
        carried = inr (v.last, visited_is_built m s p h b v.last last.0, (beside-sym v.last c v.beside).adjacent);
      }

  pub built_onward : (q : TapeState)
      → Works p q (above c) (with_voxel p.matrix c true) (moves_to (spot p.bots) (above c) + 1) → IsBuilt m t q
  built_onward q w =
      let one : moves_to (spot p.bots) (above c) ≡ 1 = ap (λ (k : Coord). moves_to k (above c)) (b.spot_is v.most v.last v.ends) ∙ one_move v.last c v.beside in
      let few = b.few in
      let steps = w.steps in
      let less = one_less s.remaining t.remaining c v.takes.loses in
      let was : length s.trail.items ≡ length v.most + 1 = ap length v.ends ∙ length-append v.most (v.last ∷ []) in
      let size : length t.trail.items ≡ length s.trail.items + 1 = ap length v.takes.trail ∙ length-append s.trail.items (c ∷ []) in
      let at : reach m.resolution t.at ≡ reach m.resolution s.at = ap (reach m.resolution) v.at in
      built_more m s t p q h b c (moves_to (spot p.bots) (above c) + 1) v.takes.loses w s.trail.items v.takes.trail (omega arith)

-- ---- back on the trail

module _ (m : Matrix) (s t : Sweep) (p : TapeState) (h : IsSweep m s) (g : IsSweep m t) (b : IsBuilt m s p) (c : Coord) (v : TurnsBack s t c) where
  back_is : IsVisited m t.remaining c × (c.y ≡ t.at.y)
  back_is = g.on_trail c (subst (λ (xs : List Coord). Contains xs c) (sym v.ends) (Contains-push v.most c))

  pub can_go_back : IsLegal m → m.resolution ≤ 400 → CanGoAbove p c
  can_go_back legal most = can_go m s p h b legal most c back_is.0.before (let l = back_is.1 in let same_y = ap (λ (q : Coord). q.y) v.at in omega arith)

  pub built_back : (q : TapeState) → Works p q (above c) p.matrix (moves_to (spot p.bots) (above c)) → IsBuilt m t q
  built_back q w =
      let one : moves_to (spot p.bots) (above c) ≡ 1 = ap (λ (k : Coord). moves_to k (above c)) (b.spot_is (v.most ++ c ∷ []) v.last v.ended) ∙ one_move v.last c (beside-sym c v.last v.beside) in
      let few = b.few in
      let steps = w.steps in
      let left : full_count t.remaining ≡ full_count s.remaining = ap full_count v.remaining in
      let size : length t.trail.items ≡ length v.most + 1 = ap length v.ends ∙ length-append v.most (c ∷ []) in
      let was : length s.trail.items ≡ length v.most + 1 + 1 = ap length v.ended ∙ (length-append (v.most ++ c ∷ []) (v.last ∷ []) ∙ ap (λ n. n + 1) (length-append v.most (c ∷ []))) in
      let at : reach m.resolution t.at ≡ reach m.resolution s.at = ap (reach m.resolution) v.at in
      record {
        source = w.source ∙ b.source;
        working = w.working;
        resolution = ap (λ (k : Matrix). k.resolution) w.matrix ∙ b.resolution;
        made = λ d. ap (λ (k : Matrix). is_full k d) w.matrix ∙ (b.made d ∙ ap (λ (k : Matrix). is_full m d && not (is_full k d)) (sym v.remaining));
        spot_is = λ most last e. w.there ∙ ap above (last_is t.trail.items v.most most c last v.ends e);
        first = λ e. absurd (none_ends t.trail.items v.most c e v.ends);
        plain = w.plain b.plain;
        idle = λ z. absurd (anything_by (is_full m c) back_is.0.before (z c));
        few = omega arith;
      }

-- ---- the start and the end

pub built_start : (m : Matrix) (s : Sweep) (p : TapeState) → s.remaining ≡ m → s.trail.items ≡ [] → s.at ≡ origin
    → p ≡ starting (empty m.resolution) light_profile → IsBuilt m s p
built_start m s p er et ea ep = subst (IsBuilt m s) (sym ep) (record {
  source = refl;
  working = record { alone = refl; low = refl; light = refl };
  resolution = refl;
  made = λ d. empty_is_void m.resolution d ∙ sym (ap (λ (k : Matrix). is_full m d && not (is_full k d)) er ∙ nothing (is_full m d));
  spot_is = λ most last e. absurd (none_ends s.trail.items most last et e);
  first = λ e. record { spot_is = refl; at = ea; nothing = λ d l. empty_is_void m.resolution d };
  plain = All-nil IsPlain;
  idle = λ z. refl;
  few = (let full : full_count s.remaining ≡ full_count m = ap full_count er in let size = ap length et in omega arith);
})
  where
    nothing : (b : Bool) → (b && not b) ≡ false
    nothing true = refl
    nothing false = refl

pub finished : (m : Matrix) (s t : Sweep) (p : TapeState) → IsLegal m → FirstUnsupported m None → IsSweep m s
    → IsSweep m t → IsBuilt m s p → EndsSweep m s t → IsFinished m p
finished m s t p legal supported h g b v = record {
  source = b.source;
  working = b.working;
  resolution = b.resolution;
  made = λ d. b.made d ∙ by d (is_full m d) refl;
  placed = spot_in_space m s p h b legal;
  here = void_here m s p h b;
  plain = b.plain;
  idle = b.idle;
  origin_is = λ z. (b.first (no_trail z (ends_or_none s.trail.items))).spot_is;
  few = (let few = b.few in let way = reach_most m.resolution s.at h.place in omega arith);
}
  where
    gone : (d : Coord) → IsTrue (is_full m d) → is_full s.remaining d ≡ false
    gone d f = ap (λ (k : Matrix). is_full k d) (sym v.remaining) ∙ none_left m t d.y g (λ c e r. v.all c r) (λ c e i. in_none t.trail.items c v.none i) d (is_supported m d supported f) refl

    by : (d : Coord) (x : Bool) → is_full m d ≡ x → (x && not (is_full s.remaining d)) ≡ x
    by d true e = ap not (gone d e)
    by d false e = refl

    no_trail : IsEmpty m
        → (s.trail.items ≡ []) ⊎ ((most : List Coord) × (last : Coord) × (s.trail.items ≡ most ++ last ∷ []))
        → s.trail.items ≡ []
    no_trail z (inl e) = e
    no_trail z (inr e) = absurd (anything_by (is_full m e.1) (on_trail_is m s p h b e.0 e.1 e.2).0.before (z e.1))

-- the path home and the Halt have their steps
pub steps_home : (m : Matrix) (p : TapeState) → m.resolution ≤ 400 → IsFinished m p
    → p.steps + moves_to (spot p.bots) origin ≤ 300000100
steps_home m p most h =
    let full = full_most m in
    let size = most_cube m.resolution most in
    let few = h.few in
    let placed_x = h.placed.x in
    let moves = moves_most m.resolution (spot p.bots) origin most h.placed (record { x = omega arith; y = omega arith; z = omega arith }) in
    omega arith
