-- A search begins at the neighbors of the voxels that are removed already: the supported columns.
use Rattle.std.proofs.Common.{◌≡◌, ℕ, zero, suc, not, ◌&&◌, ◌+◌, ◌-◌, ◌^◌, ◌<◌, ◌≤◌, refl, sym, ◌∙◌, ap, arith, Bool, true, false, ◌==◌, [], min, inl, inr}
use Rattle.std.specs.Prelude.{IsTrue, ◌⊎◌}
use Rattle.std.specs.Int.{bit_not, w64}
use Rattle.std.proofs.lemmas.Nat.Bits.{bit_at_above}
use Rattle.std.proofs.lemmas.Bool.{cases_lt}
use Rattle.vox_geom.specs.declared.coordinate.Coord.{Coord}
use Rattle.vox_geom.specs.Point.{are_adjacent}
use Rattle.vox_geom.specs.Space.{IsInSpace}
use Rattle.vox_geom.proofs.Adjacent.{Side, above, adjacent-sym, adjacent_by, ahead, behind, below, left, right, side_of}
use Rattle.vox_geom.proofs.Truths.{anything_by, not_is_true, true_by_false}
use Rattle.nano_spec.specs.Grounded.{Grounded}
use Rattle.nano_spec.specs.Matrix.{Matrix, is_full}
use Rattle.nano_spec.specs.Model.{bit}
use Rattle.nano_spec.proofs.ForgeLegal.{on_floor, one_more}
use Rattle.vox_planes.specs.Heap.{is_full_up_to, is_stacked}
use Rattle.vox_planes.specs.Walk.{at}
use Rattle.vox_planes.proofs.Placed.{full_bit}
use Rattle.vox_planes.proofs.TakenBits.{not_bit}
use Rattle.model_file.specs.declared.flood.Flood.{Flood}
use Rattle.model_file.specs.Flood.{AreOut, HasFound, IsAmong, IsBegun, IsBeside, IsFlood, IsNextTo, IsTaken, LooksAround, TakesOut}
use Rattle.model_file.proofs.Floods.{below_count, both_true, full_within, its_place, takes_none, takes_then, takes_wider, void_by}
use Rattle.model_file.proofs.Spreads.{in_none}

-- ---- supported columns are grounded

stacked_grounded : (m : Matrix) (c : Coord) (y : ℕ) → is_full_up_to m c y ≡ true
    → Grounded m (record { x = c.x; y = y; z = c.z })
stacked_grounded m c zero h = on_floor m (record { x = c.x; y = 0; z = c.z }) h refl
stacked_grounded m c (suc y) h =
    let parts = both_true (is_full_up_to m c y) (is_full m (record { x = c.x; y = suc y; z = c.z })) h in
    one_more m (record { x = c.x; y = suc y; z = c.z }) (record { x = c.x; y = y; z = c.z }) parts.1
    (adjacent_by (record { x = c.x; y = suc y; z = c.z }) (record { x = c.x; y = y; z = c.z }) (omega arith)) (stacked_grounded m c y parts.0)

module _ (m : Matrix) (start : Flood) (left : (c : Coord) → is_full start.remaining c ≡ (is_full m c && not (is_stacked m c))) where
  stacked_if : (full now stacked : Bool) → full ≡ true → now ≡ false → now ≡ (full && not stacked) → stacked ≡ true
  stacked_if true now true f n e = refl
  stacked_if true now false f n e = cc
  stacked_if false now stacked f n e = cc

  pub begun_dropped : start.remaining.resolution ≡ m.resolution → IsBegun m start
  begun_dropped same = record {
    resolution = same;
    fewer = λ c f. left c ∙ ap (λ b. b && not (is_stacked m c)) f;
    grounded = λ c t. stacked_grounded m c c.y (stacked_if (is_full m c) (is_full start.remaining c) (is_stacked m c) t.before t.after (left c));
  }

  never : (b : Bool) → (b && not b) ≡ false
  never true = refl
  never false = refl

  pub floor_dropped : (c : Coord) → c.y ≡ 0 → is_full start.remaining c ≡ false
  floor_dropped c e = left c ∙ (ap (λ y. is_full m c && not (is_full_up_to m c y)) e ∙ (ap (λ y. is_full m c && not (is_full m (record { x = c.x; y = y; z = c.z }))) (sym e) ∙ never (is_full m c)))

-- ---- one part after another

pub begun_still : (m : Matrix) (a b : Flood) → IsBegun m a → TakesOut (Grounded m) a b → IsBegun m b
begun_still m a b h t = record {
  resolution = t.resolution ∙ h.resolution;
  fewer = λ c f. t.fewer c (h.fewer c f);
  grounded = λ c k. grounded c k (is_full a.remaining c) refl;
}
  where
    grounded : (c : Coord) → IsTaken m b.remaining c → (f : Bool) → is_full a.remaining c ≡ f → Grounded m c
    grounded c k true e = (t.taken c (record { before = e; after = k.after })).0
    grounded c k false e = h.grounded c (record { before = k.before; after = e })

-- of an area in which no removed voxel has a remaining neighbor
pub looks_none : (m : Matrix) (area : Coord → Type 0) (a : Flood)
    → ((c d : Coord) → area c → IsTaken m a.remaining c → IsTrue (are_adjacent c d) → is_full a.remaining d ≡ false)
    → LooksAround m area a a
looks_none m area a bare = record { takes = takes_none (Grounded m) a a refl (λ d. refl) refl; bare = bare }

-- a coordinate next to another lies in its layer or in an adjacent one
pub near_layers : (a b : Coord) → IsTrue (are_adjacent a b) → (a.y ≤ b.y + 1) × (b.y ≤ a.y + 1)
near_layers a b h = by (side_of a b h)
  where
    by : Side a b → (a.y ≤ b.y + 1) × (b.y ≤ a.y + 1)
    by (right e f g) = (omega arith, omega arith)
    by (above e f g) = (omega arith, omega arith)
    by (ahead e f g) = (omega arith, omega arith)
    by (left e f g) = (omega arith, omega arith)
    by (below e f g) = (omega arith, omega arith)
    by (behind e f g) = (omega arith, omega arith)

-- of a layer if no voxel remains in it and in the adjacent ones
pub looks_bare_layer : (m : Matrix) (a : Flood) (y : ℕ)
    → ((d : Coord) → y ≤ d.y + 1 → d.y ≤ y + 1 → is_full a.remaining d ≡ false) → LooksAround m (λ d. d.y ≡ y) a a
looks_bare_layer m a y bare = looks_none m (λ d. d.y ≡ y) a (λ c d area t n.
    let near = near_layers c d n in
    bare d (omega (arith, near.0)) (omega (arith, near.1)))

pub looks_then : (m : Matrix) (one two both : Coord → Type 0) (a b c : Flood)
    → ((d : Coord) → IsInSpace m.resolution d → both d → one d ⊎ two d) → LooksAround m one a b → LooksAround m two b c
    → LooksAround m both a c
looks_then m one two both a b c joined h k = record {
  takes = (let its_takes = h.takes in let takes = k.takes in takes_then (Grounded m) a b c its_takes takes);
  bare = λ e d area t n. by e d t n (joined e (full_within m e t.before) area);
}
  where
    by : (e d : Coord) → IsTaken m a.remaining e → IsTrue (are_adjacent e d) → (one e ⊎ two e)
        → is_full c.remaining d ≡ false
    by e d t n (inl l) = let takes = k.takes in takes.fewer d (h.bare e d l t n)
    by e d t n (inr l) = let takes = h.takes in k.bare e d l (record { before = t.before; after = takes.fewer e t.after }) n

pub looks_wider : (m : Matrix) (one all : Coord → Type 0) (a b : Flood)
    → ((d : Coord) → IsInSpace m.resolution d → all d → one d) → LooksAround m one a b → LooksAround m all a b
looks_wider m one all a b wider h = record {
  takes = h.takes;
  bare = λ c d area t n. h.bare c d (wider c (full_within m c t.before) area) t n;
}

-- ---- a segment

module _ (m left : Matrix) (first : Coord) (count own bits : ℕ) (few : count ≤ 64) (size : count ≡ min (m.resolution - first.z) 64)
    (mine : (k : ℕ) → k < count → bit own k ≡ (bit (2 ^ 64 - 1) k && is_full left (at first (first.z + k)))) (fits : own < 2 ^ 64)
    (outs : (k : ℕ) → k < count → bit bits k ≡ (bit (bit_not w64 own) k && is_full m (at first (first.z + k)))) (below : bits < 2 ^ count) where
  own_is : (c : Coord) → c.x ≡ first.x → c.y ≡ first.y → first.z ≤ c.z → c.z - first.z < count
      → bit own (c.z - first.z) ≡ is_full left c
  own_is c x y l u =
      mine (c.z - first.z) u
      ∙ ((λ i. full_bit (c.z - first.z) (omega arith) i && is_full left (its_place first c x y l i)))

  out_is : (c : Coord) → c.x ≡ first.x → c.y ≡ first.y → first.z ≤ c.z → c.z - first.z < count
      → bit bits (c.z - first.z) ≡ (not (is_full left c) && is_full m c)
  out_is c x y l u =
      outs (c.z - first.z) u
      ∙ (λ i. (not_bit own (c.z - first.z) fits (omega arith) ∙ ap not (own_is c x y l u)) i && is_full m (its_place first c x y l i))

  pub outs_are : AreOut m left first bits
  outs_are = record {
    out = λ c a.
        let difference_below : c.z - first.z < count = below_count bits count (c.z - first.z) below a.here in
        let both = both_true (not (is_full left c)) (is_full m c) (sym (out_is c a.x a.y a.from difference_below) ∙ a.here) in
        record { before = both.1; after = not_is_true (is_full left c) both.0 };
    all = λ c a t.
        let within = full_within m c t.before in
        let high = within.z in
        let from = a.from in
        let to = a.to in
        let difference_below : c.z - first.z < count = omega arith in
        record { x = a.x; y = a.y; from = a.from; to = a.to; here = out_is c a.x a.y a.from difference_below ∙ (λ i. not (t.after i) && t.before i) };
  }

-- no neighbor of the removed voxels remains
pub looks_bare : (m : Matrix) (a : Flood) (first : Coord) (bits : ℕ) → AreOut m a.remaining first bits
    → ((d : Coord) → IsBeside (record { first = first; bits = bits }) d → is_full a.remaining d ≡ false)
    → LooksAround m (IsNextTo first) a a
looks_bare m a first bits o none = looks_none m (IsNextTo first) a (λ c d area t n. none d (record { one = c; among = o.all c area t; adjacent = n }))

-- the remaining neighbors of the voxels were removed
pub looks_taken : (m : Matrix) (a b : Flood) (first : Coord) (bits : ℕ) → IsBegun m a → AreOut m a.remaining first bits
    → TakesOut (IsBeside (record { first = first; bits = bits })) a b
    → ((d : Coord) → IsBeside (record { first = first; bits = bits }) d → is_full b.remaining d ≡ false)
    → LooksAround m (IsNextTo first) a b
looks_taken m a b first bits h o t none = record {
  takes = takes_wider (IsBeside (record { first = first; bits = bits })) (Grounded m) a b
      (λ d f k. one_more m d k.one (true_by_false (is_full m d) (is_full a.remaining d) (h.fewer d) f) (adjacent-sym k.one d k.adjacent) (h.grounded k.one (let out = o.out k.one k.among in out))) t;
  bare = λ c d area u n. none d (record { one = c; among = o.all c area u; adjacent = n });
}

-- ---- a segment of which nothing remains

pub none_left : (m : Matrix) (first : Coord) (count bits : ℕ) → count ≤ 64 → count ≡ min (m.resolution - first.z) 64 →
    ((k : ℕ) → k < count → bit 0 k ≡ (bit bits k && is_full m (at first (first.z + k)))) →
    (d : Coord) → IsAmong (record { first = first; bits = bits }) d → is_full m d ≡ false
none_left m first count bits few size h d a = by (cases_lt d.z (first.z + count))
  where
    lost : (b f : Bool) → b ≡ true → false ≡ (b && f) → f ≡ false
    lost true false e g = refl
    lost true true e g = cc
    lost false f e g = cc

    void : (k : ℕ) → bit 0 k ≡ false
    void k = ap (λ d. d == 1) (bit_at_above 0 0 k (omega arith) (omega arith))

    by : ((d.z < first.z + count) ⊎ (first.z + count ≤ d.z)) → is_full m d ≡ false
    by (inl l) =
        let from = a.from in
        let difference_below : d.z - first.z < count = omega arith in
        lost (bit bits (d.z - first.z)) (is_full m d) a.here
        (sym (void (d.z - first.z)) ∙ (h (d.z - first.z) difference_below ∙ ap (λ c. bit bits (d.z - first.z) && is_full m c) (its_place first d a.x a.y a.from)))
    by (inr l) = void_by m d (λ i. let along_z = i.z in let up_to = a.to in let from = a.from in absurd (omega arith))

-- the word of the remaining voxels has no bit
pub nothing_left : (m : Matrix) (first : Coord) (bits : ℕ) → bits ≡ 0 → (d : Coord)
    → IsAmong (record { first = first; bits = bits }) d → is_full m d ≡ false
nothing_left m first bits e d a =
    let bit_clear_z : bit bits (d.z - first.z) ≡ false = ap (λ n. bit n (d.z - first.z)) e ∙ ap (λ d. d == 1) (bit_at_above 0 0 (d.z - first.z) (omega arith) (omega arith)) in
    let here = a.here in
    cc

-- ---- the search has begun

pub flood_begun : (m : Matrix) (start begun : Flood) → start.found.items ≡ [] → IsBegun m start
    → ((c : Coord) → c.y ≡ 0 → is_full start.remaining c ≡ false) → LooksAround m (λ _. Unit {0}) start begun
    → IsFlood m begun
flood_begun m start begun none h floor looks = record {
  resolution = now.resolution;
  fewer = now.fewer;
  grounded = now.grounded;
  found = λ c k. let takes = looks.takes in found c (takes.found c k);
  looked = λ a b k n f. looked a b k n f (is_full start.remaining a) refl;
  floor = λ c e. let takes = looks.takes in takes.fewer c (floor c e);
}
  where
    now : IsBegun m begun
    now = begun_still m start begun h looks.takes

    found : (c : Coord) → (HasFound start c ⊎ IsTaken start.remaining begun.remaining c) → IsTaken m begun.remaining c
    found c (inl k) = absurd (in_none start c none k)
    found c (inr k) = record { before = true_by_false (is_full m c) (is_full start.remaining c) (h.fewer c) k.before; after = k.after }

    looked : (a b : Coord) → IsTaken m begun.remaining a → IsTrue (are_adjacent a b)
        → IsTrue (is_full begun.remaining b) → (f : Bool) → is_full start.remaining a ≡ f → HasFound begun a
    looked a b k n f true e = let takes = looks.takes in (takes.taken a (record { before = e; after = k.after })).1
    looked a b k n f false e = anything_by (is_full begun.remaining b) f (looks.bare a b tt (record { before = k.before; after = e }) n)
