-- A handle with a machine, and its parts, own the same as a box of the machine.
use mir.Syntax.{impl, tnil, dnil}
use mathlib.Core.List.{[]}
use denote.RattleType.{RattleType}
use denote.Signature.{Slot, plain}
use Rattle.std_alloc.proofs.BoxSteps.Form.{Bx}
use Rattle.std_heap.specs.contracts.Global as Heap
use Rattle.std_heap.specs.contracts.GlobalAllocator.TheImpl.{ghosts, dict}
use Rattle.std_heap.proofs.Global.TheLaws as heap
use Rattle.kept_machine.specs.contracts.kept.KeptMachine as Machine
use Rattle.kept_machine.proofs.kept.KeptMachine.TheLaws as machine
use Rattle.machine_c.specs.contracts.parts.Parts as Parts
use Rattle.machine_c.specs.contracts.handle.Handle as Handle

abbrev pub E : Bx
E = record { row = Machine.the_row; laws = machine.the_row_laws; al = record { row = Heap.the_row; laws = heap.the_row_laws; g = ghosts; d = dict; drops = impl [] tnil dnil } }

abbrev pub PartsRow : RattleType
PartsRow = Parts.the_row Machine.the_row Heap.the_row ghosts

abbrev pub FromParts : Slot 0
FromParts = plain (λ _. PartsRow)

abbrev pub FromHandle : Slot 0
FromHandle = plain (λ _. Handle.the_row)

abbrev pub FromGlobal : Slot 0
FromGlobal = plain (λ _. Heap.the_row)
