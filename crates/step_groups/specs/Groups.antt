-- The groups of a step (docs/FORMATS.md, "Groups").
use Rattle.std.specs.Prelude.{◌≡◌, ℕ, ◌≤◌, ◌||◌, List, [], ◌∷◌, length, map, Option, All, IsTrue}
use Rattle.vox_geom.specs.declared.coordinate.Coord.{Coord}
use Rattle.vox_geom.specs.Point.{point}
use Rattle.vox_geom.specs.Region.{Corners, corners}
use Rattle.nano_spec.specs.declared.outcomes.Broken.{Broken}
use Rattle.nano_spec.specs.declared.outcomes.Rule.TheVariants.{Interference}
use Rattle.nano_spec.specs.Act.{Act, stays_in_space}
use Rattle.nano_spec.specs.First.{first_value}
use Rattle.nano_spec.specs.Group.{leaders, members}
use Rattle.nano_spec.specs.Matrix.{Matrix}
use Rattle.nano_spec.specs.Rules.{broken_by, clash}
use Rattle.nano_spec.specs.Volatile.{is_volatile}
use Rattle.step_groups.specs.Boxes.{AreBoxesIn, IsHull, in_boxes}
use Rattle.step_groups.specs.declared.groups.Group.{Group}

-- the bid of a bot
abbrev pub bid_of : Act → ℕ
bid_of a = a.bot.bid

-- the box of a bot's position
abbrev pub box_of_bot : Act → Corners
box_of_bot a = corners a.bot.pos a.bot.pos

-- the group that this bot leads: its members are those of the definition, and its boxes are in space and cover all that is
-- volatile for it
pub record IsGroup (r : ℕ) (all : List Act) (a : Act) (g : Group) : Type 0 where
  pub leader : g.leader ≡ a.bot.bid
  pub members : g.members.items ≡ map bid_of (members all a)
  pub boxes : (c : Coord) → in_boxes g.boxes.items c ≡ is_volatile all a (point c)
  pub within : AreBoxesIn r g.boxes.items

-- the groups of these leaders, in their order
abbrev pub AreGroups : ℕ → List Act → List Act → List Group → Type 0
AreGroups r all [] [] = Unit {0}
AreGroups r all [] (g ∷ groups) = ⊥
AreGroups r all (a ∷ leaders) [] = ⊥
AreGroups r all (a ∷ leaders) (g ∷ groups) = IsGroup r all a g × AreGroups r all leaders groups

-- each box bounds the boxes of one of the groups, in their order
abbrev pub AreHulls : List Corners → List Group → Type 0
AreHulls [] [] = Unit {0}
AreHulls [] (g ∷ groups) = ⊥
AreHulls (k ∷ hulls) [] = ⊥
AreHulls (k ∷ hulls) (g ∷ groups) = IsHull k g.boxes.items × AreHulls hulls groups

-- the first group of these leaders that the group interferes with
abbrev pub judge_with : Matrix → List Act → ℕ → Act → List Act → Option Broken
judge_with m all step a more = first_value (map (λ b. broken_by step Interference a.bot.bid (clash m all a b)) more)

-- a consequence of the rules of single bots: each command stays in space, and no group has more than 8 members
pub record AreJudged (r : ℕ) (all : List Act) : Type 0 where
  pub stays : All (λ a. IsTrue (stays_in_space r a)) all
  pub few : All (λ a. length (members all a) ≤ 8) all

-- each of the bots is a group of its own
pub record AreLone (all : List Act) : Type 0 where
  pub leads : leaders all ≡ all
  pub alone : All (λ a. members all a ≡ a ∷ []) all
