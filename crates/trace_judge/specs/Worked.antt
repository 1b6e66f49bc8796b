-- Worked examples of the touches that the work of a run pays for.
use Rattle.std.specs.Prelude.{pos, List, [], ◌∷◌}
use Rattle.nano_spec.specs.declared.commands.Command.{Command}
use Rattle.nano_spec.specs.declared.commands.Command.TheVariants.{Fission}
use Rattle.nano_spec.specs.Matrix.{empty}
use Rattle.nano_spec.specs.Profile.{full_profile}
use Rattle.nano_spec.specs.Worked.{diff}
use Rattle.trace_judge.specs.Payment.{IsWithinWorkOfRun}

-- a Fission that is refused because it lacks seeds, whose work is 2
abbrev pub refused_fission : List Command
refused_fission = Fission (diff (pos 0) (pos 0) (pos 1)) 39 ∷ []

-- from 5 touches on a hundred for each of 27 voxels, and for each unit of the work
pub record WorkedTouches : Type 0 where
  pub within_the_work : IsWithinWorkOfRun (empty 3) refused_fission full_profile 5 2905
  pub one_touch_more : IsWithinWorkOfRun (empty 3) refused_fission full_profile 5 2906 → ⊥
