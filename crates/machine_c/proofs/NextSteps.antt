-- The commands of the next step, cut from the front of bytes.
use Rattle.std.proofs.Common.{◌≡◌, ℕ, ◌≤◌, ◌<◌, refl, sym, ◌∙◌, ap, inl, inr, arith, List, [], length, take, drop}
use Rattle.std.proofs.lemmas.List.{drop_all, take-append-drop, take_at}
use Rattle.nano_spec.specs.declared.commands.Command.{Command}
use Rattle.nano_spec.specs.Cutting.{BeginsSpelling, Cutting}
use Rattle.nano_spec.specs.Spelling.{spellings}
use Rattle.trace_codec.specs.declared.fault.TraceFault.TheVariants.{Refused}
use Rattle.trace_codec.specs.declared.fault.TraceRefusal.TheVariants.{Bad, Cut}
use Rattle.trace_codec.specs.One.{IsNoCommand}
use Rattle.trace_codec.proofs.WholeTraces.{HasCut, ends_in_command, is_refused, left_from}
use Rattle.machine_c.specs.Playing.{IsNextStep, IsUnread}

-- no command is cut yet
pub none_cut : (bytes : List ℕ) → HasCut bytes [] 0
none_cut bytes = record { are_commands = tt; bytes_are = refl; start_is = refl; within = omega arith }

cut_off : (bytes : List ℕ) (commands : List Command) (size : ℕ) → HasCut bytes commands size
    → Cutting (take size bytes) commands
cut_off bytes commands size h = (
  h.are_commands,
  ap (take size) h.bytes_are ∙ take_at (spellings commands) (drop size bytes) size (sym h.start_is),
)

-- each bot has its command
pub each_has_one : (bytes : List ℕ) (commands : List Command) (size active : ℕ) → HasCut bytes commands size
    → length commands ≤ active → active ≤ length commands → IsNextStep bytes active (take size bytes) commands
each_has_one bytes commands size active h few all = record {
  cut = cut_off bytes commands size h;
  few = few;
  rest = drop size bytes;
  follows = sym (take-append-drop size bytes);
  whole = inl (omega (arith, few, all));
}

-- the bytes end before
pub bytes_end : (bytes : List ℕ) (commands : List Command) (size active : ℕ) → HasCut bytes commands size
    → length commands ≤ active → size ≡ length bytes → IsNextStep bytes active (take size bytes) commands
bytes_end bytes commands size active h few all = record {
  cut = cut_off bytes commands size h;
  few = few;
  rest = drop size bytes;
  follows = sym (take-append-drop size bytes);
  whole = inr (drop_all size bytes (omega (arith, all)));
}

-- a command is cut, or bad, before
pub cut_before : (bytes : List ℕ) (commands : List Command) (size active : ℕ) → HasCut bytes commands size
    → size < length bytes → length commands < active → BeginsSpelling (left_from bytes size)
    → IsUnread bytes active (Refused (Cut size))
cut_before bytes commands size active h within few begins =
    (ends_in_command bytes commands size h within begins, commands, cut_off bytes commands size h, few)

pub bad_before : (bytes : List ℕ) (commands : List Command) (size active : ℕ) → HasCut bytes commands size
    → length commands < active → IsNoCommand (left_from bytes size) → IsUnread bytes active (Refused (Bad size))
bad_before bytes commands size active h few is_none =
    (is_refused bytes commands size h is_none, commands, cut_off bytes commands size h, few)
