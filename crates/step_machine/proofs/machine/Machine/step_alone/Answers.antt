use Rattle.std.proofs.Common.{refl}
use Rattle.step_machine.proofs.Ends.{is_declined}
use Rattle.step_machine.proofs.machine.Machine.step_alone.Goals as goal

pub returns-then-not-is_alone-clause-tried : goal.returns-then-not-is_alone-clause-tried
returns-then-not-is_alone-clause-tried g c = is_declined refl refl

pub returns-then-not-is_alone-clause-one : goal.returns-then-not-is_alone-clause-one
returns-then-not-is_alone-clause-one g c = λ n. absurd (n refl)
