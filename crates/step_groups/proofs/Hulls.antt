-- Bounding boxes of boxes.
use Rattle.std.proofs.Common.{◌≡◌, ℕ, zero, suc, ◌+◌, ◌-◌, ◌<◌, ◌≤◌, refl, ap, sym, ◌∙◌, subst, arith, Bool, true, false, ◌&&◌, ◌||◌, List, [], ◌∷◌, ◌++◌, take, drop, length, get_or, None, pos}
use Rattle.std.specs.Prelude.{IsTrue}
use Rattle.std.proofs.lemmas.Bool.Decides.{nat_tests}
use Rattle.vox_geom.specs.declared.coordinate.Coord.{Coord}
use Rattle.vox_geom.specs.Point.{Point, point}
use Rattle.vox_geom.specs.Region.{Corners, IsOrdered, between, is_between, is_within, span}
use Rattle.vox_geom.proofs.Truths.{both_true, first_of_two, second_of_two}
use Rattle.nano_spec.specs.Act.{Act}
use Rattle.nano_spec.specs.First.{first_value}
use Rattle.nano_spec.specs.Matrix.{Matrix}
use Rattle.nano_spec.specs.Rules.{judge_pairs}
use Rattle.step_groups.specs.Boxes.{IsHull, in_boxes}
use Rattle.step_groups.specs.Groups.{AreGroups, AreHulls}
use Rattle.step_groups.specs.declared.groups.Group.{Group}
use Rattle.step_groups.proofs.Shared.{any-push, take_one}
use Rattle.step_groups.proofs.Lists.{to_end}

-- a wider interval of numbers
wider : (a b l h v : ℕ) → a ≤ b → l ≤ a → b ≤ h → IsTrue (is_between (pos a) (pos b) (pos v))
    → IsTrue (is_between (pos l) (pos h) (pos v))
wider a b l h v o i j t = grind (arith, nat_tests)

-- a box between coordinates that bound another box contains it
pub widened : (a k : Corners) (l h : Coord) → IsOrdered a → l.x ≤ a.low.x → l.y ≤ a.low.y → l.z ≤ a.low.z
    → a.high.x ≤ h.x → a.high.y ≤ h.y → a.high.z ≤ h.z
    → ((p : Point) → is_within (span k) p ≡ is_within (between (point l) (point h)) p) → (c : Coord)
    → IsTrue (is_within (span a) (point c)) → IsTrue (is_within (span k) (point c))
widened a k l h o lx ly lz hx hy hz covers c t =
    let between_x : Bool = is_between (pos a.low.x) (pos a.high.x) (pos c.x) in
    let between_y : Bool = is_between (pos a.low.y) (pos a.high.y) (pos c.y) in
    let between_z : Bool = is_between (pos a.low.z) (pos a.high.z) (pos c.z) in
    let wx : IsTrue (is_between (pos l.x) (pos h.x) (pos c.x)) = wider a.low.x a.high.x l.x h.x c.x o.x lx hx (first_of_two between_x between_y (first_of_two (between_x && between_y) between_z t)) in
    let wy : IsTrue (is_between (pos l.y) (pos h.y) (pos c.y)) = wider a.low.y a.high.y l.y h.y c.y o.y ly hy (second_of_two between_x between_y (first_of_two (between_x && between_y) between_z t)) in
    let wz : IsTrue (is_between (pos l.z) (pos h.z) (pos c.z)) = wider a.low.z a.high.z l.z h.z c.z o.z lz hz (second_of_two (between_x && between_y) between_z t) in
    covers (point c)
    ∙ both_true (is_between (pos l.x) (pos h.x) (pos c.x) && is_between (pos l.y) (pos h.y) (pos c.y)) (is_between (pos l.z) (pos h.z) (pos c.z)) (both_true (is_between (pos l.x) (pos h.x) (pos c.x)) (is_between (pos l.y) (pos h.y) (pos c.y)) wx wy) wz

one_of : (a b c : Bool) → IsTrue (a || b) → (IsTrue a → IsTrue c) → (IsTrue b → IsTrue c) → IsTrue c
one_of true b c t h k = h refl
one_of false b c t h k = k t

-- one more box
pub more_around : (boxes : List Corners) (j : ℕ) (k all next : Corners) → j < length boxes → k ≡ get_or boxes j k
    → IsHull all (take j boxes)
    → ((c : Coord) → IsTrue (is_within (span all) (point c)) → IsTrue (is_within (span next) (point c)))
    → ((c : Coord) → IsTrue (is_within (span k) (point c)) → IsTrue (is_within (span next) (point c)))
    → IsHull next (take (j + 1) boxes)
more_around boxes j k all next lt e h f g c t =
    one_of (in_boxes (take j boxes) c) (is_within (span k) (point c)) (is_within (span next) (point c))
    (sym (ap (λ xs. in_boxes xs c) (take_one boxes j k lt e) ∙ any-push (λ l. is_within (span l) (point c)) (take j boxes) k) ∙ t)
    (λ i. f c (h c i)) (g c)

-- ---- the bounding boxes of the groups, by index

pub hull_at : (hulls : List Corners) (groups : List Group) (j : ℕ) (k : Corners) (g : Group) → AreHulls hulls groups
    → j < length groups → k ≡ get_or hulls j k → g ≡ get_or groups j g → IsHull k g.boxes.items
hull_at [] [] j k g h lt e f = absurd (omega arith)
hull_at [] (x ∷ groups) j k g h lt e f = absurd h
hull_at (y ∷ hulls) [] j k g h lt e f = absurd h
hull_at (y ∷ hulls) (x ∷ groups) zero k g h lt e f = subst (λ (v : Corners). IsHull v g.boxes.items) (sym e) (subst (λ (v : Group). IsHull y v.boxes.items) (sym f) h.0)
hull_at (y ∷ hulls) (x ∷ groups) (suc j) k g h lt e f = hull_at hulls groups j k g h.1 (omega arith) e f

after : (hulls : List Corners) (groups : List Group) (j : ℕ) → AreHulls hulls groups
    → AreHulls (drop j hulls) (drop j groups)
after hulls groups zero h = h
after [] [] (suc j) h = h
after [] (x ∷ groups) (suc j) h = absurd h
after (y ∷ hulls) [] (suc j) h = absurd h
after (y ∷ hulls) (x ∷ groups) (suc j) h = after hulls groups j h.1

pub rest_hulls : (hulls : List Corners) (groups : List Group) (j : ℕ) → AreHulls hulls groups
    → AreHulls (take (length hulls - j) (drop j hulls)) (take (length groups - j) (drop j groups))
rest_hulls hulls groups j h =
    subst (λ (ks : List Corners). AreHulls ks (take (length groups - j) (drop j groups))) (sym (to_end hulls j))
    (subst (λ (gs : List Group). AreHulls (drop j hulls) gs) (sym (to_end groups j)) (after hulls groups j h))

pub one_more : (hulls : List Corners) (groups : List Group) (k : Corners) (g : Group) → AreHulls hulls groups
    → IsHull k g.boxes.items → AreHulls (hulls ++ k ∷ []) (groups ++ g ∷ [])
one_more [] [] k g h i = (i, tt)
one_more [] (x ∷ groups) k g h i = absurd h
one_more (y ∷ hulls) [] k g h i = absurd h
one_more (y ∷ hulls) (x ∷ groups) k g h i = (h.0, one_more hulls groups k g h.1 i)

-- one group interferes with none
pub one_pair : (m : Matrix) (all : List Act) (step : ℕ) (leaders : List Act) (groups : List Group)
    → AreGroups m.resolution all leaders groups → length groups < 2
    → None ≡ first_value (judge_pairs m all step leaders)
one_pair m all step [] groups h lt = refl
one_pair m all step (a ∷ []) groups h lt = refl
one_pair m all step (a ∷ b ∷ leaders) [] h lt = absurd h
one_pair m all step (a ∷ b ∷ leaders) (g ∷ []) h lt = absurd h.1
one_pair m all step (a ∷ b ∷ leaders) (g ∷ f ∷ groups) h lt = absurd (omega arith)
