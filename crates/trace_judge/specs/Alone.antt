-- The run of an only bot, and the effect of one more command on it.
use Rattle.std.specs.Prelude.{◌≡◌, ℕ, false, [], length, None}
use Rattle.nano_spec.specs.declared.commands.Command.{Command}
use Rattle.nano_spec.specs.declared.system.Harmonics.TheVariants.{Low}
use Rattle.nano_spec.specs.Grounded.{FirstUngrounded}
use Rattle.run_progress.specs.Progress as progress
use Rattle.run_progress.specs.Progress.{Pushes}
use Rattle.trace_judge.specs.Course.{Course}
use Rattle.trace_judge.specs.Payment.{Touches}

-- the run continues with one bot, no command is pending, and each full voxel is grounded if the harmonics require it
pub record RunsAlone (c : Course) : Type 0 where
  pub stands : c.spent ≡ false
  pub runs : c.progress.mark ≡ progress.Running
  pub none : c.progress.pending ≡ []
  pub one : length c.progress.state.bots ≡ 1
  pub held : c.progress.state.harmonics ≡ Low → FirstUngrounded c.progress.state.matrix None

-- a run has taken one more command, with these counts of touches before and after
pub record HasPushed (old : Course) (command : Command) (new : Course) (began ended : ℕ) : Type 0 where
  pub progress : Pushes old.progress command new.progress
  pub stands : new.spent ≡ false
  pub resolution : new.progress.state.matrix.resolution ≡ old.progress.state.matrix.resolution
  pub touches : Touches old.progress new.progress command began ended
