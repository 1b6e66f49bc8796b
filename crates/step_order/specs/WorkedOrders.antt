-- Worked examples of orders: if a rule is broken the order of the groups matters, and if none is it does not.
use Rattle.std.specs.Prelude.{◌≡◌, ℕ, pos, List, [], ◌∷◌, Some, None}
use Rattle.nano_spec.specs.declared.commands.Command.{Command}
use Rattle.nano_spec.specs.declared.commands.Command.TheVariants.{SMove, Fill, Fission}
use Rattle.nano_spec.specs.declared.outcomes.Rule.TheVariants.{Interference}
use Rattle.nano_spec.specs.declared.system.Bot.{Bot}
use Rattle.nano_spec.specs.declared.system.Harmonics.TheVariants.{Low}
use Rattle.nano_spec.specs.Act.{acts}
use Rattle.nano_spec.specs.Matrix.{empty}
use Rattle.nano_spec.specs.Profile.{full_profile}
use Rattle.nano_spec.specs.Rules.{broken}
use Rattle.nano_spec.specs.State.{IsReady, State}
use Rattle.nano_spec.specs.Step.{after}
use Rattle.nano_spec.specs.Worked.{diff, below_zero}
use Rattle.nano_spec.specs.Serial.{leader_bids, serial}
use Rattle.step_order.specs.Apart.{LieApart}
use Rattle.vox_geom.specs.Point.{coord, point}
use Rattle.vox_geom.specs.Region.{Span, between}

-- two bots in an empty space of resolution 3, of which the first has the seeds 5, 6 and 7
abbrev pub worked_bot : Bot
worked_bot = record { bid = 1; pos = coord 0 0 0; seeds = 224 }

abbrev pub second_bot : Bot
second_bot = record { bid = 2; pos = coord 0 0 2; seeds = 0 }

abbrev pub two_bots : State
two_bots =
    record
    { matrix = empty 3; harmonics = Low; bots = worked_bot ∷ second_bot ∷ []; energy = pos 0; profile = full_profile }

-- the first fills (0,0,1), and the second goes there: the groups interfere. In the order of their bids the second finds
-- a blocked path, and in the other it does not
abbrev pub into_one_place : List Command
into_one_place = Fill (diff (pos 0) (pos 0) (pos 1)) ∷ SMove (diff (pos 0) (pos 0) (below_zero 1)) ∷ []

abbrev pub OrderMatters : Type 0
OrderMatters =
    (broken two_bots into_one_place 1 ≡ Some (record { step = 1; bid = 1; rule = Interference; at = coord 0 0 1 }))
    × (serial two_bots into_one_place (1 ∷ 2 ∷ []) ≡ None)
    × (serial two_bots into_one_place (2 ∷ 1 ∷ []) ≡ Some (after two_bots into_one_place))

-- the first splits, and the second fills a voxel: no rule is broken, and either order ends in one state
abbrev pub apart : List Command
apart = Fission (diff (pos 0) (pos 1) (pos 0)) 1 ∷ Fill (diff (pos 1) (pos 0) (pos 0)) ∷ []

abbrev pub OrderIsFree : Type 0
OrderIsFree =
    IsReady two_bots
    × (broken two_bots apart 1 ≡ None)
    × (leader_bids (acts two_bots.bots apart) ≡ 1 ∷ 2 ∷ [])
    × (serial two_bots apart (1 ∷ 2 ∷ []) ≡ Some (after two_bots apart))
    × (serial two_bots apart (2 ∷ 1 ∷ []) ≡ Some (after two_bots apart))

-- a region along x
abbrev pub along_x : ℕ → ℕ → Span
along_x from to = between (point (coord from 0 0)) (point (coord to 0 0))

-- regions of which neither ends before the other begins, whichever end is given first
pub record RegionsThatMeet : Type 0 where
  pub crossing : LieApart (along_x 0 3) (along_x 1 5) → ⊥
  pub with_ends_that_fall : LieApart (along_x 3 0) (along_x 5 1) → ⊥
  pub the_other_first : LieApart (along_x 5 1) (along_x 0 3) → ⊥
  pub with_one_end_that_falls : LieApart (along_x 3 0) (along_x 2 5) → ⊥
  pub at_one_coordinate : LieApart (along_x 0 2) (along_x 2 4) → ⊥
  pub within : LieApart (along_x 0 5) (along_x 3 2) → ⊥
