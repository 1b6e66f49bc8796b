-- Traces that grow and shrink at their end.
use Rattle.std.proofs.Common.{◌≡◌, ◌-◌, refl, ◌∙◌, ap, arith, List, [], ◌∷◌, ◌++◌, length, length-append, take}
use Rattle.std.specs.Prelude.{Option, Some, None}
use Rattle.nano_spec.specs.declared.commands.Command.{Command}
use Rattle.kept_machine.specs.Kept.{trace_with, trace_without}

take_front : (xs ys : List Command) → take (length xs) (xs ++ ys) ≡ xs
take_front [] ys = refl
take_front (x ∷ xs) ys = ap (λ (zs : List Command). x ∷ zs) (take_front xs ys)

-- the added commands are removed
pub as_before : (trace : Option (List Command)) (commands : List Command)
    → trace_without (trace_with trace commands) (length commands) ≡ trace
as_before None commands = refl
as_before (Some made) commands =
    let less : length (made ++ commands) - length commands ≡ length made = omega (arith, length-append made commands) in
    ap Some (ap (λ n. take n (made ++ commands)) less ∙ take_front made commands)
