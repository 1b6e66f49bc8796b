use Rattle.std.proofs.Common.{◌≡◌, drop, map}
use Rattle.std.specs.Prelude.{slice_index_or}
use Rattle.nano_spec.specs.declared.system.Bot.{Bot}
use Rattle.step_groups.specs.Numbers.{with_number}
use Rattle.system_state.proofs.turns.first_numbered.Given as goal

abbrev pub invariant-loop-i : goal.invariant-loop-i
invariant-loop-i l =
    slice_index_or (map (λ (b : Bot). b.bid) (with_number l.number (drop l.i l.bots) (drop l.i l.numbers))) 0 0
    ≡ slice_index_or (map (λ (b : Bot). b.bid) (with_number l.number l.bots l.numbers)) 0 0
