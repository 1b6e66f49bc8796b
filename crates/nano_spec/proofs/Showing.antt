-- Proves a worked example of a run by computing it.
use Rattle.std.proofs.Common.{◌≡◌, ℕ, zero, suc, List, [], ◌∷◌, length}
use Rattle.std.specs.Prelude.{Some, None, Result, Ok, Err, IsTrue}
use Rattle.std.specs.List.{list_all}
use Rattle.vox_geom.proofs.Truths.{first_of_two, second_of_two}
use Rattle.nano_spec.specs.declared.commands.Command.{Command}
use Rattle.nano_spec.specs.declared.outcomes.Verdict.{Verdict}
use Rattle.nano_spec.specs.declared.system.Profile.{Profile}
use Rattle.nano_spec.specs.Command.{is_command}
use Rattle.nano_spec.specs.Cutting.{AreCommands}
use Rattle.nano_spec.specs.Matrix.{Matrix, empty}
use Rattle.nano_spec.specs.Model.{NoModel, model}
use Rattle.nano_spec.specs.Spelling.{spellings}
use Rattle.nano_spec.specs.State.{opening}
use Rattle.nano_spec.specs.Worked.{Runs}
use Rattle.nano_spec.proofs.Decoder.{decoded}
use Rattle.nano_spec.proofs.Simulation.{simulated, run_by, legality, legality_is}

pub are_commands : (cs : List Command) → IsTrue (list_all is_command cs) → AreCommands cs
are_commands [] h = tt
are_commands (c ∷ cs) h = (first_of_two (is_command c) (list_all is_command cs) h, are_commands cs (second_of_two (is_command c) (list_all is_command cs) h))

-- the matrix of a model; a refused model has an empty one
abbrev pub matrix_in : Result Matrix NoModel → Matrix
matrix_in (Ok m) = m
matrix_in (Err e) = empty 1

-- the commands that the bytes begin with, at most `fuel` of them
abbrev pub commands_in : ℕ → List ℕ → List Command
commands_in zero bytes = []
commands_in (suc fuel) bytes = elim (decoded bytes) [ Some g ↦ g.0 ∷ commands_in fuel g.1 | None ↦ [] ]

-- the verdict of a run of fewer than `fuel` steps, with paths to the floor of at most six coordinates
pub shown :
    {profile : Profile} {source target trace : List ℕ} {verdict : Verdict} (fuel : ℕ)
    → model source ≡ Ok (matrix_in (model source))
    → model target ≡ Ok (matrix_in (model target))
    → legality 6 (matrix_in (model source)) ≡ Some None
    → legality 6 (matrix_in (model target)) ≡ Some None
    → IsTrue (list_all is_command (commands_in (length trace) trace))
    → trace ≡ spellings (commands_in (length trace) trace)
    → simulated 6 fuel (matrix_in (model target)) (opening (matrix_in (model source)) profile) (commands_in (length trace) trace) 0 ≡ Some verdict
    → Runs profile source target trace verdict
shown {profile = profile} {source = source} {target = target} {trace = trace} {verdict = verdict} fuel s t ls lt c e v = record {
  from = matrix_in (model source);
  to = matrix_in (model target);
  commands = commands_in (length trace) trace;
  source_is = s;
  target_is = t;
  from_is_legal = legality_is 6 (matrix_in (model source)) None ls;
  to_is_legal = legality_is 6 (matrix_in (model target)) None lt;
  trace_is = (are_commands (commands_in (length trace) trace) c, e);
  verdict_is = run_by 6 fuel (matrix_in (model target)) (opening (matrix_in (model source)) profile) (commands_in (length trace) trace) 0 verdict v;
}
