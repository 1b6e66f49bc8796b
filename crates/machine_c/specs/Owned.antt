-- The ownership of a handle.
use Rattle.std.specs.Prelude.{◌≡◌}
use Rattle.kept_machine.specs.Kept.{Kept}
use base.Fml.{Fml, ftrue, fex}
use denote.RawPtr.{Ptr, null_ptr}
use Rattle.std.specs.declared.option.Option.{Option}
use Rattle.std.specs.declared.option.Option.TheVariants.{None, Some}
use Rattle.std.specs.Box.Ownership.{box_owns}
use Rattle.std.specs.Global.{Global}
use Rattle.std_heap.specs.contracts.GlobalAllocator.TheImpl.{ghosts}
use Rattle.kept_machine.specs.contracts.kept.KeptMachine.{the_row}

-- a machine on the heap, and the right to free it, or null
abbrev pub handle_owns : Global → Ptr → Option Kept → Fml
handle_owns alloc p None = fex (p ≡ null_ptr) (λ _. ftrue)
handle_owns alloc p (Some x) = box_owns (ghosts.dealloc_token alloc) the_row p x
