-- The voxels of an area become void or are deferred, part by part.
use Rattle.std.proofs.Common.{◌≡◌, ℕ, ◌+◌, ◌-◌, ◌*◌, ◌%◌, ◌<◌, ◌≤◌, ◌⊎◌, inl, inr, refl, sym, ◌∙◌, ap, subst, arith, List, [], ◌∷◌, ◌++◌, length, length-append, None}
use Rattle.std.specs.List.{Contains}
use Rattle.std.proofs.lemmas.Bool.{cases_eq, cases_lt}
use Rattle.std.proofs.lemmas.List.Elements.{Contains-append_left, Contains-push, Contains-push_cases}
use Rattle.vox_geom.specs.declared.coordinate.Coord.{Coord}
use Rattle.vox_geom.specs.Region.{Corners, IsOrdered}
use Rattle.vox_geom.specs.Space.{IsInSpace}
use Rattle.vox_planes.specs.Walk.{row_size, wall_size}
use Rattle.vox_planes.proofs.Walks.{is_of, of_is}
use Rattle.support_forest.specs.Grid.{Grid, slot_of, word_at}
use Rattle.support_forest.specs.Losing.{CanRemove, HaveRemoved}
use Rattle.support_forest.specs.Regions.{AreVoided, HaveVoided, IsInRegion, IsInRow, IsInWall, IsInWalls}
use Rattle.support_forest.specs.Segments.{AreCleared, LieInRow, further, whole_row_start}
use Rattle.support_forest.specs.Words.{AreExact}
use Rattle.support_forest.proofs.Each.{changed_since, differ_more, no_member, none_differ}
use Rattle.support_forest.proofs.Segments.{row_has, row_slot, row_space}
use Rattle.support_forest.proofs.Writes.{reads_none}

-- the voxels are void as they are
pub voided_already : (g : Grid) (area : Coord → Type 0) (n : ℕ) (rest : List Coord) → AreExact g.resolution (word_at g)
    → ((c : Coord) → area c → word_at g c ≡ 0) → AreVoided g g area n rest rest
voided_already g area n rest e z = record {
  resolution = refl;
  exact = e;
  each = λ c. inl refl;
  done = λ c a. inl (z c a);
  kept = λ c h. h;
  listed = λ c h. inl h;
  differ = λ d a. d;
  few = omega arith;
}

-- the voxel is listed
pub voided_listed : (g : Grid) (area : Coord → Type 0) (rest more : List Coord) (x : Coord)
    → AreExact g.resolution (word_at g) → 0 < word_at g x → area x → ((c : Coord) → area c → c ≡ x)
    → more ≡ rest ++ x ∷ [] → AreVoided g g area 1 rest more
voided_listed g area rest more x e f a only m = subst (λ (xs : List Coord). AreVoided g g area 1 rest xs) (sym m) (record {
  resolution = refl;
  exact = e;
  each = λ c. inl refl;
  done = λ c b. inr (subst (λ (d : Coord). Contains (rest ++ x ∷ []) d) (sym (only c b)) (Contains-push rest x));
  kept = λ c h. Contains-append_left rest (x ∷ []) c h;
  listed = λ c h. elim (Contains-push_cases rest x c h) [
    | inl o ↦ inl o
    | inr o ↦ inr (subst (λ (d : Coord). area d) o a, subst (λ (d : Coord). 0 < word_at g d) o f, refl)
  ];
  differ = λ d b. differ_more rest x d (λ c h o. b c h (subst (λ (p : Coord). area p) (sym o) a));
  few = let same_length : length (rest ++ x ∷ []) ≡ length rest + 1 = length-append rest (x ∷ []) in omega arith;
})

-- an area after another, disjoint from it
pub voided_more : (old mid new : Grid) (A B C : Coord → Type 0) (a b n : ℕ) (rest more most : List Coord)
    → AreVoided old mid A a rest more → AreVoided mid new B b more most → ((c : Coord) → A c → B c → ⊥)
    → ((c : Coord) → C c → A c ⊎ B c) → ((c : Coord) → A c → C c) → ((c : Coord) → B c → C c) → n ≡ a + b
    → AreVoided old new C n rest most
voided_more old mid new A B C a b n rest more most p q apart parts left right e = record {
  resolution = q.resolution ∙ p.resolution;
  exact = q.exact;
  each = λ c. elim (q.each c) [
    | inl s ↦ elim (p.each c) [ inl t ↦ inl (s ∙ t) | inr t ↦ inr (s ∙ t.0, left c t.1) ]
    | inr s ↦ inr (s.0, right c s.1)
  ];
  done = λ c h. elim (parts c h) [
    | inl s ↦ elim (p.done c s) [ inl t ↦ inl (still c t) | inr t ↦ inr (q.kept c t) ]
    | inr s ↦ q.done c s
  ];
  kept = λ c h. q.kept c (p.kept c h);
  listed = λ c h. elim (q.listed c h) [
    | inl s ↦ elim (p.listed c s) [
      | inl t ↦ inl t
      | inr t ↦ inr (left c t.0, t.1, elim (q.each c) [ inl u ↦ u ∙ t.2 | inr u ↦ absurd (apart c t.0 u.1) ])
    ]
    | inr s ↦ elim (p.each c) [
      | inl t ↦ inr (right c s.0, omega (arith, s.1, t), s.2 ∙ t)
      | inr t ↦ absurd (omega (arith, t.0, s.1))
    ]
  ];
  differ = λ d f. q.differ (p.differ d (λ c h s. f c h (left c s))) (λ c h s. elim (p.listed c h) [ inl t ↦ f c t (right c s) | inr t ↦ apart c t.0 s ]);
  few = omega (arith, p.few, q.few);
}
  where
    still : (c : Coord) → word_at mid c ≡ 0 → word_at new c ≡ 0
    still c z = elim (q.each c) [ inl s ↦ s ∙ z | inr s ↦ s.0 ]

-- ---- a row of a brick

row_is : (first c : Coord) (n : ℕ) → IsInRow first n c → c ≡ further first (c.z - first.z)
row_is first c n h = let same_x : c.x ≡ first.x = h.0 in let same_y : c.y ≡ first.y = h.1 in let z_is : c.z ≡ first.z + (c.z - first.z) = omega arith in λ j. record { x = same_x j; y = same_y j; z = z_is j }

pub row_cleared_is : (old new : Grid) (first : Coord) (n : ℕ) (rest : List Coord) (before after : ℕ)
    → AreCleared old new first 0 n before after → AreVoided old new (IsInRow first n) n rest rest
row_cleared_is old new first n rest before after a = record {
  resolution = a.resolution;
  exact = a.exact;
  each = λ c. elim (in_row c) [ inl h ↦ inr (gone c h, h) | inr h ↦ inl (a.kept c (λ j b m e. h (by c j m e))) ];
  done = λ c h. inl (gone c h);
  kept = λ c h. h;
  listed = λ c h. inl h;
  differ = λ d f. d;
  few = omega arith;
}
  where
    gone : (c : Coord) → IsInRow first n c → word_at new c ≡ 0
    gone c h = ap (word_at new) (row_is first c n h) ∙ a.gone (c.z - first.z) (omega arith) (omega arith)

    by : (c : Coord) (j : ℕ) → j < n → c ≡ further first j → IsInRow first n c
    by c j m e =
        let same_x : c.x ≡ first.x = ap (λ (p : Coord). p.x) e in
        let same_y : c.y ≡ first.y = ap (λ (p : Coord). p.y) e in
        let z_is : c.z ≡ first.z + j = ap (λ (p : Coord). p.z) e in
        (same_x, same_y, omega arith, omega arith)

    in_row : (c : Coord) → IsInRow first n c ⊎ (IsInRow first n c → ⊥)
    in_row c = elim (cases_eq c.x first.x) [
      | inl x ↦ elim (cases_eq c.y first.y) [
        | inl y ↦ elim (cases_lt c.z first.z) [
          | inl z ↦ inr (λ h. omega arith)
          | inr z ↦ elim (cases_lt c.z (first.z + n)) [ inl l ↦ inl (x, y, omega arith, l) | inr l ↦ inr (λ h. omega arith) ]
        ]
        | inr y ↦ inr (λ h. y h.1)
      ]
      | inr x ↦ inr (λ h. x h.0)
    ]

-- ---- all of the area is void or deferred, and the deferred voxels are removed

pub can_remove_rest : (old now : Grid) (area : Coord → Type 0) (n : ℕ) (rest more : List Coord) → rest ≡ []
    → AreVoided old now area n rest more → CanRemove now more
can_remove_rest old now area n rest more e p = record {
  differ = p.differ (none_differ rest e) (λ c h a. no_member rest c e h);
  exact = p.exact;
  full = λ c h. elim (p.listed c h) [ inl o ↦ absurd (no_member rest c e o) | inr o ↦ omega (arith, o.1, o.2) ];
}

pub voided_and_removed : (old now new : Grid) (area : Coord → Type 0) (n : ℕ) (rest more : List Coord)
    (before steps after : ℕ) → rest ≡ [] → AreVoided old now area n rest more → steps ≤ before + 40 * n
    → HaveRemoved now new more 56 steps after → HaveVoided old new area n before after
voided_and_removed old now new area n rest more before steps after e p t h = record {
  resolution = h.resolution ∙ p.resolution;
  exact = h.exact;
  full = λ c f. let full = h.full c f in elim (p.each c) [ inl s ↦ omega arith | inr s ↦ absurd (omega (arith, s.0)) ];
  voided = λ c a. elim (p.done c a) [ inl z ↦ void c z | inr g ↦ h.voided c g ];
  kept = λ c f. elim (p.each c) [ inl s ↦ elim (h.kept c (omega arith)) [ inl g ↦ inl g | inr g ↦ elim (p.listed c g) [ inl o ↦ absurd (no_member rest c e o) | inr o ↦ inr o.0 ] ] | inr s ↦ inr s.1 ];
  cost = let length_is : length rest ≡ 0 = ap length e in omega (arith, h.cost, p.few, t, changed_since old now new p.resolution (λ c. elim (p.each c) [ inl s ↦ inl s | inr s ↦ inr s.0 ]) h.full);
}
  where
    void : (c : Coord) → word_at now c ≡ 0 → word_at new c ≡ 0
    void c z = elim (cases_lt 0 (word_at new c)) [ inl g ↦ let full = h.full c g in absurd (omega arith) | inr g ↦ omega arith ]

-- ---- parts of a row, rows of a wall, walls of a region

-- the coordinate of a row at a component z
abbrev pub row_at : Coord → ℕ → Coord
row_at c z = record { x = c.x; y = c.y; z = z }

-- one voxel of a part, before those that were handled
pub one_before_row : (g : Grid) (first : Coord) (left n : ℕ) (rest more most : List Coord) → left + 1 ≤ n
    → AreVoided g g (IsInRow (further first (left + 1)) (n - (left + 1))) (n - (left + 1)) rest more
    → AreVoided g g (IsInRow (further first left) 1) 1 more most
    → AreVoided g g (IsInRow (further first left) (n - left)) (n - left) rest most
one_before_row g first left n rest more most l p q =
    voided_more g g g (IsInRow (further first (left + 1)) (n - (left + 1))) (IsInRow (further first left) 1) (IsInRow (further first left) (n - left)) (n - (left + 1)) 1 (n - left) rest more most p q
    (λ c a b. omega arith)
    (λ c h. elim (cases_lt c.z (first.z + (left + 1))) [ inl z ↦ inr (h.0, h.1, h.2, omega arith) | inr z ↦ inl (h.0, h.1, omega arith, omega arith) ])
    (λ c a. (a.0, a.1, omega arith, omega arith))
    (λ c b. (b.0, b.1, omega arith, omega arith))
    (omega arith)

-- a part of a row, before those that were handled
pub part_before_row : (old now new : Grid) (first : Coord) (left part end : ℕ) (rest more most : List Coord)
    → left + part ≤ end
    → AreVoided old now (IsInRow (row_at first (left + part)) (end - (left + part))) (end - (left + part)) rest more
    → AreVoided now new (IsInRow (row_at first left) part) part more most
    → AreVoided old new (IsInRow (row_at first left) (end - left)) (end - left) rest most
part_before_row old now new first left part end rest more most l p q =
    voided_more old now new (IsInRow (row_at first (left + part)) (end - (left + part))) (IsInRow (row_at first left) part) (IsInRow (row_at first left) (end - left)) (end - (left + part)) part (end - left) rest more most p q
    (λ c a b. omega arith)
    (λ c h. elim (cases_lt c.z (left + part)) [ inl z ↦ inr (h.0, h.1, h.2, omega arith) | inr z ↦ inl (h.0, h.1, omega arith, omega arith) ])
    (λ c a. (a.0, a.1, omega arith, omega arith))
    (λ c b. (b.0, b.1, omega arith, omega arith))
    (omega arith)

one_more_of : (high y n : ℕ) → y ≤ high → (high + 1 - y) * n ≡ (high + 1 - (y + 1)) * n + n
one_more_of high y n l = let same_high : high + 1 - y ≡ high + 1 - (y + 1) + 1 = omega arith in ap (λ (k : ℕ). k * n) same_high ∙ grind arith

-- a row under those of the wall
pub row_before_wall : (old now new : Grid) (k : Corners) (x y : ℕ) (rest more most : List Coord) → k.low.y ≤ y
    → y ≤ k.high.y → k.low.z ≤ k.high.z
    → AreVoided old now (IsInWall k x (y + 1)) ((k.high.y + 1 - (y + 1)) * row_size k) rest more
    → AreVoided now new (IsInRow (record { x = x; y = y; z = k.low.z }) (k.high.z + 1 - k.low.z))
    (k.high.z + 1 - k.low.z) more most → AreVoided old new (IsInWall k x y) ((k.high.y + 1 - y) * row_size k) rest most
row_before_wall old now new k x y rest more most l h z p q =
    voided_more old now new (IsInWall k x (y + 1)) (IsInRow (record { x = x; y = y; z = k.low.z }) (k.high.z + 1 - k.low.z)) (IsInWall k x y) ((k.high.y + 1 - (y + 1)) * row_size k) (row_size k) ((k.high.y + 1 - y) * row_size k) rest more most p q
    (λ c a b. omega arith)
    (λ c g. elim (cases_lt c.y (y + 1)) [ inl m ↦ inr (g.0, omega arith, g.3, omega arith) | inr m ↦ inl (g.0, omega arith, g.2, g.3, g.4) ])
    (λ c a. (a.0, omega arith, a.2, a.3, a.4))
    (λ c b. (b.0, omega arith, omega arith, b.2, omega arith))
    (one_more_of k.high.y y (row_size k) h)

-- a wall before those of the region
pub wall_before_region : (old now new : Grid) (k : Corners) (x : ℕ) (rest more most : List Coord) → x ≤ k.high.x
    → AreVoided old now (IsInWalls k (x + 1)) ((k.high.x + 1 - (x + 1)) * wall_size k) rest more
    → AreVoided now new (IsInWall k x k.low.y) (wall_size k) more most
    → AreVoided old new (IsInWalls k x) ((k.high.x + 1 - x) * wall_size k) rest most
wall_before_region old now new k x rest more most h p q =
    voided_more old now new (IsInWalls k (x + 1)) (IsInWall k x k.low.y) (IsInWalls k x) ((k.high.x + 1 - (x + 1)) * wall_size k) (wall_size k) ((k.high.x + 1 - x) * wall_size k) rest more most p q
    (λ c a b. omega arith)
    (λ c g. elim (cases_lt c.x (x + 1)) [ inl m ↦ inr (omega arith, g.2, g.3, g.4, g.5) | inr m ↦ inl (omega arith, g.1, g.2, g.3, g.4, g.5) ])
    (λ c a. (omega arith, a.1, a.2, a.3, a.4, a.5))
    (λ c b. (omega arith, omega arith, b.1, b.2, b.3, b.4))
    (one_more_of k.high.x x (wall_size k) h)

-- steps that a row or a wall adds
pub more_steps : (high y n before steps after : ℕ) → y ≤ high → steps ≤ before + 40 * ((high + 1 - (y + 1)) * n)
    → after ≤ steps + 40 * n → after ≤ before + 40 * ((high + 1 - y) * n)
more_steps high y n before steps after h s t = let one_more = one_more_of high y n h in omega (arith, one_more)

-- ---- the region

-- the area of all walls is the region
pub walls_are_region : (old new : Grid) (k : Corners) (n : ℕ) (rest more : List Coord) → IsOrdered k
    → AreVoided old new (IsInWalls k k.low.x) n rest more → AreVoided old new (IsInRegion k) n rest more
walls_are_region old new k n rest more o p = record {
  resolution = p.resolution;
  exact = p.exact;
  each = λ c. elim (p.each c) [ inl s ↦ inl s | inr s ↦ inr (s.0, there c s.1) ];
  done = λ c h. p.done c (here c h);
  kept = p.kept;
  listed = λ c h. elim (p.listed c h) [ inl s ↦ inl s | inr s ↦ inr (there c s.0, s.1, s.2) ];
  differ = λ d f. p.differ d (λ c h a. f c h (there c a));
  few = p.few;
}
  where
    here : (c : Coord) → IsInRegion k c → IsInWalls k k.low.x c
    here c h =
        let lies_within = is_of k c o h in
        (lies_within.x_low, lies_within.x_high, lies_within.y_low, lies_within.y_high, lies_within.z_low, lies_within.z_high)

    there : (c : Coord) → IsInWalls k k.low.x c → IsInRegion k c
    there c h = of_is k c (record { x_low = h.0; x_high = h.1; y_low = h.2; y_high = h.3; z_low = h.4; z_high = h.5 })

-- a row between the corners, as they were read
pub row_of_region : (now new : Grid) (k : Corners) (low high : Coord) (x y : ℕ) (more most : List Coord) → low ≡ k.low
    → high ≡ k.high → AreVoided now new (IsInRow (record { x = x; y = y; z = low.z }) (high.z + 1 - low.z))
    (high.z + 1 - low.z) more most
    → AreVoided now new (IsInRow (record { x = x; y = y; z = k.low.z }) (k.high.z + 1 - k.low.z))
    (k.high.z + 1 - k.low.z) more most
row_of_region now new k low high x y more most e f p =
    subst (λ (h : Coord). AreVoided now new (IsInRow (record { x = x; y = y; z = k.low.z }) (h.z + 1 - k.low.z)) (h.z + 1 - k.low.z) more most) f
    (subst (λ (l : Coord). AreVoided now new (IsInRow (record { x = x; y = y; z = l.z }) (high.z + 1 - l.z)) (high.z + 1 - l.z) more most) e p)

-- a part of a row lies in the row of a brick
pub part_in_row : (old now : Grid) (first : Coord) (left part end : ℕ) → now.resolution ≡ old.resolution
    → IsInSpace old.resolution first → left + part ≤ end → end ≤ old.resolution → left % 8 + part ≤ 8
    → left < old.resolution → LieInRow now (row_at first left) part
part_in_row old now first left part end e s l m r b = record {
  within = record { x = omega (arith, e, s.x); y = omega (arith, e, s.y); z = omega (arith, e) };
  last = omega (arith, e);
  row = r;
}

-- all words of a row of a brick without a slot are 0
pub row_none : (g : Grid) (first c : Coord) (n : ℕ) → LieInRow g first n → None ≡ slot_of g first → IsInRow first n c
    → word_at g c ≡ 0
row_none g first c n r e h =
    let below_n : c.z - first.z < n = omega arith in
    ap (word_at g) (row_is first c n h) ∙ sym (reads_none g (further first (c.z - first.z)) (row_space g first n (c.z - first.z) r below_n) (row_slot g first n (c.z - first.z) None r below_n e))

-- ---- the ends of the loops

pub row_one : (x c : Coord) → IsInRow x 1 c → c ≡ x
row_one x c h = let same_x : c.x ≡ x.x = h.0 in let same_y : c.y ≡ x.y = h.1 in let same_z : c.z ≡ x.z = omega arith in λ j. record { x = same_x j; y = same_y j; z = same_z j }

-- all of a part was handled
pub part_at : (old now : Grid) (first : Coord) (left n : ℕ) (rest more : List Coord) → left ≡ 0
    → AreVoided old now (IsInRow (further first left) (n - left)) (n - left) rest more
    → AreVoided old now (IsInRow first n) n rest more
part_at old now first left n rest more e p =
    let sum_is : first.z + left ≡ first.z = omega arith in
    let here : further first left ≡ first = λ j. record { x = first.x; y = first.y; z = sum_is j } in
    let difference_is : n - left ≡ n = omega arith in
    subst (λ (k : ℕ). AreVoided old now (IsInRow first k) k rest more) difference_is (subst (λ (x : Coord). AreVoided old now (IsInRow x (n - left)) (n - left) rest more) here p)

-- all of a row was handled
pub whole_row_at : (old now : Grid) (first : Coord) (left end : ℕ) (rest more : List Coord) → left ≡ first.z
    → AreVoided old now (IsInRow (row_at first left) (end - left)) (end - left) rest more
    → AreVoided old now (IsInRow first (end - first.z)) (end - first.z) rest more
whole_row_at old now first left end rest more e p = subst (λ (k : ℕ). AreVoided old now (IsInRow (row_at first k) (end - k)) (end - k) rest more) e p

-- a part of a row is void if the whole row is
pub part_void : (g : Grid) (first c : Coord) (n : ℕ) → first.z % 8 + n ≤ 8
    → ((k : ℕ) → k < 8 → word_at g (further (whole_row_start first) k) ≡ 0) → IsInRow first n c → word_at g c ≡ 0
part_void g first c n r z h =
    let below_n : c.z - first.z < n = omega arith in
    ap (word_at g) (row_is first c n h ∙ row_has first (c.z - first.z)) ∙ z (first.z % 8 + (c.z - first.z)) (omega arith)
