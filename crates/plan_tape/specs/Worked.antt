-- Worked examples of commands that exceed a number of bots.
use Rattle.std.specs.Prelude.{pos, List, [], ◌∷◌, ◌++◌}
use Rattle.nano_spec.specs.declared.commands.Command.{Command}
use Rattle.nano_spec.specs.declared.commands.Command.TheVariants.{Halt, FusionP, FusionS, Fission}
use Rattle.nano_spec.specs.Matrix.{empty}
use Rattle.nano_spec.specs.Profile.{full_profile}
use Rattle.nano_spec.specs.Worked.{below_zero, diff}
use Rattle.plan_tape.specs.Reaches.{HasAtMost}

-- a bot makes another
abbrev pub divides : List Command
divides = Fission (diff (pos 0) (pos 0) (pos 1)) 0 ∷ []

-- the two fuse again, and the remaining one halts
abbrev pub fuses_and_halts : List Command
fuses_and_halts =
    FusionP (diff (pos 0) (pos 0) (pos 1)) ∷ FusionS (diff (pos 0) (pos 0) (below_zero 1)) ∷ Halt ∷ []

-- the bound holds at every step count, not just at the end, when no bot is left (the law `fissions_bound_the_bots` gives the
-- bound)
pub record WorkedCrews : Type 0 where
  pub not_one_at_most : HasAtMost (empty 3) full_profile (divides ++ fuses_and_halts) 1 → ⊥
  pub not_none_at_most : HasAtMost (empty 3) full_profile (Halt ∷ []) 0 → ⊥
