-- Commands that bytes spell, and the outcome of a step of them.
use Rattle.std.proofs.Common.{◌≡◌, ℕ, List, ◌∷◌, ◌∙◌}
use Rattle.nano_spec.specs.declared.commands.Command.{Command}
use Rattle.nano_spec.specs.Cutting.{Cutting}
use Rattle.kept_machine.specs.Kept.{Kept}
use Rattle.machine_c.specs.declared.stepping.StepAnswer.{StepAnswer}
use Rattle.machine_c.specs.declared.stepping.StepAnswer.TheVariants.{Made, Refused, Unread}
use Rattle.machine_c.specs.Calls.{StepComesTo, ComesTo}

pub comes_to : (old new : Kept) (bytes : List ℕ) (commands : List Command) (answer : StepAnswer)
    → Cutting bytes commands → StepComesTo old commands new answer → ComesTo old bytes new answer
comes_to old new bytes commands (Made ok) cut tries = (commands, cut, tries)
comes_to old new bytes commands (Refused fault) cut tries = (commands, cut, tries)
comes_to old new bytes commands (Unread fault) cut tries = absurd tries
