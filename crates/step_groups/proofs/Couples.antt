-- The groups of leaders, by index.
use Rattle.std.proofs.Common.{◌≡◌, ℕ, zero, suc, ◌+◌, ◌<◌, ◌≤◌, refl, ap, sym, ◌∙◌, arith, List, [], ◌∷◌, ◌++◌, ◌-◌, take, drop, length, get_or, map, Option, Some, None, ◌&&◌, subst}
use Rattle.vox_geom.specs.declared.coordinate.Coord.{Coord}
use Rattle.vox_geom.specs.Point.{point}
use Rattle.vox_geom.specs.Region.{Corners}
use Rattle.nano_spec.specs.declared.outcomes.Broken.{Broken}
use Rattle.nano_spec.specs.declared.outcomes.Rule.TheVariants.{Interference}
use Rattle.nano_spec.specs.Act.{Act}
use Rattle.nano_spec.specs.First.{first_value}
use Rattle.nano_spec.specs.Matrix.{Matrix}
use Rattle.nano_spec.specs.Rules.{broken_by, clash, judge_pairs}
use Rattle.nano_spec.specs.Volatile.{is_volatile}
use Rattle.step_groups.specs.Boxes.{AreBoxesIn, in_boxes}
use Rattle.vox_geom.specs.Least.{LeastOf}
use Rattle.step_groups.specs.Groups.{IsGroup, AreGroups, judge_with}
use Rattle.step_groups.specs.declared.groups.Group.{Group}
use Rattle.vox_geom.proofs.Firsts.{first_is}
use Rattle.step_groups.proofs.Shared.{least_same}
use Rattle.step_groups.proofs.Lists.{to_end}

-- the leader at an index
pub record Place (r : ℕ) (all leaders : List Act) (j : ℕ) (g : Group) : Type 0 where
  pub leader : Act
  pub here : drop j leaders ≡ leader ∷ drop (j + 1) leaders
  pub group : IsGroup r all leader g

pub place : (r : ℕ) (all leaders : List Act) (groups : List Group) (j : ℕ) (g : Group) → AreGroups r all leaders groups
    → j < length groups → g ≡ get_or groups j g → Place r all leaders j g
place r all [] [] j g h lt e = absurd (omega arith)
place r all [] (f ∷ groups) j g h lt e = absurd h
place r all (a ∷ leaders) [] j g h lt e = absurd h
place r all (a ∷ leaders) (f ∷ groups) zero g h lt e = record { leader = a; here = refl; group = subst (λ (x : Group). IsGroup r all a x) (sym e) h.0 }
place r all (a ∷ leaders) (f ∷ groups) (suc j) g h lt e =
    let place_here : Place r all leaders j g = place r all leaders groups j g h.1 (omega arith) e in
    let successor_is : suc (j + 1) ≡ suc j + 1 = omega arith in
    record { leader = place_here.leader; here = place_here.here ∙ ap (λ k. place_here.leader ∷ drop k (a ∷ leaders)) successor_is; group = place_here.group }

pub past : (r : ℕ) (all leaders : List Act) (groups : List Group) (j : ℕ) → AreGroups r all leaders groups
    → length groups ≤ j → drop j leaders ≡ []
past r all [] [] zero h le = refl
past r all [] [] (suc j) h le = refl
past r all [] (f ∷ groups) j h le = absurd h
past r all (a ∷ leaders) [] j h le = absurd h
past r all (a ∷ leaders) (f ∷ groups) zero h le = absurd (omega arith)
past r all (a ∷ leaders) (f ∷ groups) (suc j) h le = past r all leaders groups j h.1 (omega arith)

pub rest : (r : ℕ) (all leaders : List Act) (groups : List Group) (j : ℕ) → AreGroups r all leaders groups
    → AreGroups r all (drop j leaders) (drop j groups)
rest r all leaders groups zero h = h
rest r all [] [] (suc j) h = h
rest r all [] (f ∷ groups) (suc j) h = absurd h
rest r all (a ∷ leaders) [] (suc j) h = absurd h
rest r all (a ∷ leaders) (f ∷ groups) (suc j) h = rest r all leaders groups j h.1

pub rest_slice : (r : ℕ) (all leaders : List Act) (groups : List Group) (j : ℕ) → AreGroups r all leaders groups
    → AreGroups r all (drop j leaders) (take (length groups - j) (drop j groups))
rest_slice r all leaders groups j h =
    subst (λ (gs : List Group). AreGroups r all (drop j leaders) gs) (sym (to_end groups j)) (rest r all leaders groups j h)

-- the interference of two leaders, by the boxes of their groups
pub clash_is : (m : Matrix) (all : List Act) (a b : Act) (g h : Group) (o : Option Coord) → IsGroup m.resolution all a g
    → IsGroup m.resolution all b h → LeastOf m.resolution (λ c. in_boxes g.boxes.items c && in_boxes h.boxes.items c) o
    → clash m all a b ≡ o
clash_is m all a b g h o p q l =
    first_is m.resolution (λ c. is_volatile all a (point c) && is_volatile all b (point c)) o
    (least_same m.resolution (λ c. in_boxes g.boxes.items c && in_boxes h.boxes.items c) (λ c. is_volatile all a (point c) && is_volatile all b (point c)) o (λ c i. p.boxes c i && q.boxes c i) l)

-- a turn of the inner loop
pub turn_hit : (m : Matrix) (all : List Act) (step : ℕ) (a : Act) (more : List Act) (j : ℕ) (g h : Group) (at : Coord)
    → IsGroup m.resolution all a g → (p : Place m.resolution all more j h)
    → LeastOf m.resolution (λ c. in_boxes g.boxes.items c && in_boxes h.boxes.items c) (Some at)
    → Some (record { step = step; bid = g.leader; rule = Interference; at = at })
    ≡ judge_with m all step a (drop j more)
turn_hit m all step a more j g h at ga p l =
    sym (
    ap (judge_with m all step a) p.here
    ∙ (ap (λ o. first_value (broken_by step Interference a.bot.bid o ∷ map (λ b. broken_by step Interference a.bot.bid (clash m all a b)) (drop (j + 1) more))) (clash_is m all a p.leader g h (Some at) ga p.group l)
    ∙ ap (λ bid. Some (record { step = step; bid = bid; rule = Interference; at = at })) (sym ga.leader)))

pub turn_miss : (m : Matrix) (all : List Act) (step : ℕ) (a : Act) (more : List Act) (j : ℕ) (g h : Group)
    → IsGroup m.resolution all a g → (p : Place m.resolution all more j h)
    → LeastOf m.resolution (λ c. in_boxes g.boxes.items c && in_boxes h.boxes.items c) None
    → judge_with m all step a (drop j more) ≡ judge_with m all step a (drop (j + 1) more)
turn_miss m all step a more j g h ga p l =
    ap (judge_with m all step a) p.here
    ∙ ap (λ o. first_value (broken_by step Interference a.bot.bid o ∷ map (λ b. broken_by step Interference a.bot.bid (clash m all a b)) (drop (j + 1) more))) (clash_is m all a p.leader g h None ga p.group l)

-- the coordinates shared by the slices of boxes
pub of_slices : (r : ℕ) (g h : Group) (xs ys : List Corners) (o : Option Coord) → xs ≡ g.boxes.items
    → ys ≡ h.boxes.items → AreBoxesIn r g.boxes.items
    → (AreBoxesIn r xs → LeastOf r (λ c. in_boxes xs c && in_boxes ys c) o)
    → LeastOf r (λ c. in_boxes g.boxes.items c && in_boxes h.boxes.items c) o
of_slices r g h xs ys o e f b l =
    subst (λ (zs : List Corners). LeastOf r (λ c. in_boxes zs c && in_boxes h.boxes.items c) o) e
    (subst (λ (zs : List Corners). LeastOf r (λ c. in_boxes xs c && in_boxes zs c) o) f (l (subst (λ (zs : List Corners). AreBoxesIn r zs) (sym e) b)))

-- the pairs of the first leader come first
first_hit : (xs ys : List (Option Broken)) (b : Broken) → first_value xs ≡ Some b → first_value (xs ++ ys) ≡ Some b
first_hit [] ys b e = cc
first_hit (Some c ∷ xs) ys b e = e
first_hit (None ∷ xs) ys b e = first_hit xs ys b e

first_miss : (xs ys : List (Option Broken)) → first_value xs ≡ None → first_value (xs ++ ys) ≡ first_value ys
first_miss [] ys e = refl
first_miss (Some c ∷ xs) ys e = cc
first_miss (None ∷ xs) ys e = first_miss xs ys e

pub pairs_hit : (m : Matrix) (all : List Act) (step : ℕ) (a : Act) (more : List Act) (b : Broken)
    → judge_with m all step a more ≡ Some b → first_value (judge_pairs m all step (a ∷ more)) ≡ Some b
pairs_hit m all step a more b e = first_hit (map (λ b. broken_by step Interference a.bot.bid (clash m all a b)) more) (judge_pairs m all step more) b e

pub pairs_miss : (m : Matrix) (all : List Act) (step : ℕ) (a : Act) (more : List Act)
    → judge_with m all step a more ≡ None
    → first_value (judge_pairs m all step (a ∷ more)) ≡ first_value (judge_pairs m all step more)
pairs_miss m all step a more e = first_miss (map (λ b. broken_by step Interference a.bot.bid (clash m all a b)) more) (judge_pairs m all step more) e
