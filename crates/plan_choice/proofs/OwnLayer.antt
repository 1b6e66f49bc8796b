-- The plan that the layer planner is proved to make is one of those that are promised of it.
use Rattle.std.proofs.Common.{◌≡◌, ◌+◌, ◌*◌, ◌≤◌, ℕ, arith, length}
use Rattle.std.specs.Prelude.{[], ◌∷◌}
use Rattle.nano_spec.specs.declared.commands.Command.TheVariants.{Halt}
use Rattle.nano_spec.specs.Cutting.{AreCommands}
use Rattle.nano_spec.specs.Matrix.{Matrix}
use Rattle.nano_spec.specs.Model.{volume}
use Rattle.nano_spec.specs.Profile.{full_profile}
use Rattle.nano_spec.specs.Spelling.{spellings}
use Rattle.plan_tape.specs.declared.tape.Plan.{Plan}
use Rattle.plan_tape.specs.Progress.{IsAccepted}
use Rattle.plan_tape.specs.Reaches.{HasAtMost}
use Rattle.plan_choice.specs.Planners.{IsLayerPlan}

pub eight_each : (r size : ℕ) → size ≤ 8 * r * r * r + 200 → size ≤ 8 * volume r + 200
eight_each r size h = omega (arith, h)

pub own_layer : (source target : Matrix) (plan : Plan) → AreCommands plan.commands
    → IsAccepted source target plan.commands full_profile plan.energy plan.steps
    → length (spellings plan.commands) ≤ 8 * source.resolution * source.resolution * source.resolution + 200
    → HasAtMost source full_profile plan.commands 1 → (source ≡ target → plan.commands ≡ Halt ∷ [])
    → IsLayerPlan source target plan.commands plan.energy plan.steps
own_layer source target plan commands accepted bytes few halt = record {
  plan = record {
    are_commands = commands;
    accepted = accepted;
    few_bots = few;
    halt_alone = halt;
  };
  bytes = eight_each source.resolution (length (spellings plan.commands)) bytes;
}
