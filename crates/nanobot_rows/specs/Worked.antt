-- Worked examples of the output: statuses and lines, limits, and bounds of plans (docs/FORMATS.md, "Printed lines").
use Rattle.std.specs.Prelude.{◌≡◌, ℕ, ◌+◌, ◌*◌, ◌^◌, ◌<◌, ◌≤◌, pos, negsuc, List, [], ◌∷◌, codes, map, length, Some, None, Ok, Err}
use Rattle.vox_geom.specs.declared.coordinate.Coord.{Coord}
use Rattle.vox_geom.specs.Point.{coord}
use Rattle.vox_geom.specs.Space.{numbers_below}
use Rattle.nano_spec.specs.declared.commands.Command.{Command}
use Rattle.nano_spec.specs.declared.outcomes.Rule.TheVariants.{HaltLow, Ungrounded, Forbidden}
use Rattle.nano_spec.specs.Cutting.{Decoding}
use Rattle.nano_spec.specs.Matrix.{Matrix, empty, full_count}
use Rattle.nano_spec.specs.Reading.{read}
use Rattle.nano_spec.specs.Worked.{voxels_at}
use Rattle.model_file.specs.declared.fault.ModelRefusal.TheVariants as model
use Rattle.trace_text.specs.declared.fault.TextRefusal.TheVariants as text
use Rattle.vox_depot.specs.Files.{Files, content}
use Rattle.step_debugger.specs.Session.{DebugLine}
use Rattle.group_planner.specs.Bounds as group
use Rattle.group_planner.specs.Rows.{rows, runs}
use Rattle.low_planner.specs.Supported.{FirstUnsupported}
use Rattle.swarm_planner.specs.Bounds.{width}
use Rattle.void_planner.specs.Bounds as void
use Rattle.nanobot_rows.specs.declared.report.Report.{Report}
use Rattle.nanobot_rows.specs.declared.report.Report.TheVariants as report
use Rattle.nanobot_rows.specs.declared.report.Who.TheVariants as who
use Rattle.nanobot_rows.specs.declared.status.Status.TheVariants as is
use Rattle.plan_choice.specs.Planners.{byte_limit}
use Rattle.nanobot_rows.specs.Answer.{AnswerOf, CanPlan, ModelOf, OfSession, Reply, ScriptOf, TextOf, dis_limit, script_limit, StoresPlan, Upon, facts_of}
use Rattle.nanobot_rows.specs.Report.{code_of, report_line, status_of}
use Rattle.nanobot_words.specs.declared.planner.Planner.TheVariants.{Group, Low}
use Rattle.nanobot_words.specs.Rows.{debug}

-- the exit status and the line of a report
abbrev pub told : Report → ℕ × List ℕ
told r = (code_of (status_of r), report_line r)

-- the output of each command if it succeeds, and of each refusal
pub record WorkedLines : Type 0 where
  pub a_run : told (report.Accepted (pos 1077) 39) ≡ (0, codes "ok energy 1077 steps 39\n")
  pub a_run_that_gains : told (report.Accepted (negsuc 11) 2) ≡ (0, codes "ok energy -12 steps 2\n")
  pub a_model : told (report.Legal 20 388) ≡ (0, codes "legal resolution 20 full 388\n")
  pub a_trace : told (report.Stored 4 6) ≡ (0, codes "commands 4 bytes 6\n")
  pub a_forged_model : told (report.Forged 20 1150) ≡ (0, codes "model resolution 20 full 1150\n")
  pub a_plan :
      told (report.Planned (pos 5000) 30 119 285) ≡ (0, codes "plan energy 5000 steps 30 commands 119 bytes 285\n")
  pub an_exercise :
      told (report.Exercised 7 3 1 (record { energy = pos 900; steps = 8 }) (record { energy = pos 700; steps = 6 }))
      ≡ (0, codes "exercise number 7 resolution 3 full 1 layer energy 900 steps 8 group energy 700 steps 6\n")
  pub a_broken_rule : told (report.Broken (record { step = 783; bid = 1; rule = HaltLow; at = coord 0 0 10 }))
      ≡ (1, codes "broken 4 HaltLow step 783 bid 1 at 0 0 10\n")
  pub a_floating_voxel : told (report.Broken (record { step = 2; bid = 0; rule = Ungrounded; at = coord 1 2 3 }))
      ≡ (1, codes "broken 12 Ungrounded step 2 bid 0 at 1 2 3\n")
  pub a_forbidden_command : told (report.Broken (record { step = 1; bid = 40; rule = Forbidden; at = coord 0 0 0 }))
      ≡ (1, codes "broken 15 Forbidden step 1 bid 40 at 0 0 0\n")
  pub no_byte : told (report.Model who.Model model.NoByte) ≡ (3, codes "model 1 NoByte\n")
  pub a_resolution : told (report.Model who.Source (model.Resolution 251)) ≡ (3, codes "source 2 Resolution 251\n")
  pub too_few_bytes : told (report.Model who.Target (model.Short 5 4)) ≡ (3, codes "target 3 Short want 5 have 4\n")
  pub too_many_bytes : told (report.Model who.Model (model.Long 5)) ≡ (3, codes "model 4 Long want 5\n")
  pub outside_the_box :
      told (report.Model who.Model (model.Border (coord 0 1 2))) ≡ (3, codes "model 6 Border at 0 1 2\n")
  pub a_floating_model :
      told (report.Model who.Source (model.Floating (coord 1 1 12))) ≡ (3, codes "source 7 Floating at 1 1 12\n")
  pub a_wide_head : told (report.Model who.Model (model.WideHead 2)) ≡ (3, codes "model 8 WideHead have 2\n")
  pub a_wide_resolution :
      told (report.Model who.Model (model.WideResolution 401)) ≡ (3, codes "model 9 WideResolution 401\n")
  pub a_wide_run : told (report.Model who.Model (model.WideRun 1)) ≡ (3, codes "model 10 WideRun index 1\n")
  pub too_few_wide_runs :
      told (report.Model who.Model (model.WideShort 100)) ≡ (3, codes "model 11 WideShort have 100\n")
  pub bytes_after_the_runs : told (report.Model who.Target model.WideLong) ≡ (3, codes "target 12 WideLong\n")
  pub two_resolutions : told (report.Resolutions 20 3) ≡ (3, codes "resolutions 20 3\n")
  pub a_long_group_plan : told (report.GroupLong 300 20) ≡ (3, codes "group plan too long runs 300 rows 20\n")
  pub a_bad_byte : told (report.TraceBad 17) ≡ (4, codes "trace bad at 17\n")
  pub a_cut_command : told (report.TraceCut 0) ≡ (4, codes "trace cut at 0\n")
  pub a_long_trace : told (report.TraceLong 50) ≡ (4, codes "trace longer than 50\n")
  pub a_high_byte : told (report.Text (text.NotAscii 1)) ≡ (8, codes "text 1 NotAscii line 1\n")
  pub a_word : told (report.Text (text.UnknownWord 10)) ≡ (8, codes "text 2 UnknownWord line 10\n")
  pub a_shape : told (report.Text (text.Shape 2)) ≡ (8, codes "text 3 Shape line 2\n")
  pub a_range : told (report.Text (text.Range 3)) ≡ (8, codes "text 4 Range line 3\n")
  pub a_long_text : told (report.TextLong 60) ≡ (8, codes "text longer than 60\n")
  pub an_unsupported_part : told (report.Unsupported (coord 1 20 3)) ≡ (9, codes "unsupported at 1 20 3\n")

-- the exit status of each status
pub record WorkedStatuses : Type 0 where
  pub exit_statuses : map code_of (is.Done ∷ is.Broken ∷ is.Words ∷ is.Model ∷ is.Trace ∷ is.Depot ∷ is.Sink ∷ is.Memory
      ∷ is.Text ∷ is.Unsupported ∷ []) ≡ numbers_below 10

-- the maximum lengths in bytes
pub record WorkedLimits : Type 0 where
  pub of_a_run_a_text_and_a_plan : byte_limit ≡ 2 ^ 30
  pub of_a_printed_trace : dis_limit ≡ 50 * 1000 * 1000
  pub of_a_script : script_limit ≡ 2 ^ 16

-- bounds of plans
pub record WorkedBounds : Type 0 where
  pub strips : (width 2 ≡ 1) × (width 3 ≡ 1) × (width 22 ≡ 1) × (width 23 ≡ 2) × (width 250 ≡ 13)
  pub full_voxels : full_count (voxels_at 3 (coord 1 0 0 ∷ coord 1 0 2 ∷ coord 2 0 0 ∷ [])) ≡ 3
  pub rows_of_voxels : rows (voxels_at 3 (coord 1 0 0 ∷ coord 1 0 2 ∷ coord 2 0 0 ∷ [])) ≡ 2
  pub runs_of_voxels : runs (voxels_at 3 (coord 1 0 0 ∷ coord 1 0 2 ∷ coord 2 0 0 ∷ [])) ≡ 3
  pub group_steps : group.most_group_steps (empty 3) (voxels_at 4 (coord 1 0 0 ∷ coord 1 0 2 ∷ coord 2 0 0 ∷ [])) ≡ 1344
  pub group_bytes : group.most_bytes (empty 3) (voxels_at 4 (coord 1 0 0 ∷ coord 1 0 2 ∷ coord 2 0 0 ∷ [])) ≡ 5388
  pub void_steps :
      (void.most_void_steps 31 ≡ 696) × (void.most_void_steps 32 ≡ 1480) × (void.most_void_steps 250 ≡ 164200)

-- inputs of the maximum length are answered, and a group plan that may be too long is refused with its runs and rows, as is
-- a low plan with its unsupported part
pub record WorkedLengths : Type 0 where
  pub of_a_text : (files : Files) (name bytes : List ℕ) (commands : List Command) → content files name ≡ Some bytes
      → length bytes ≤ 2 ^ 30 → read bytes ≡ Ok commands → TextOf name files (Ok commands)
  pub of_a_trace_of_a_session : (files : Files) (source trace script bytes : List ℕ) (m : Matrix)
      (commands : List Command) (lines : List DebugLine) (reply : Reply) → ModelOf who.Source source files (Ok m)
      → content files trace ≡ Some bytes → length bytes ≤ 50 * 1000 * 1000 → Decoding bytes (Ok commands)
      → ScriptOf m.resolution script files (Ok lines) → OfSession m commands lines files reply
      → AnswerOf (debug source trace script) files reply
  pub of_a_group_plan : (files : Files) (source target : Matrix) → group.most_bytes source target ≤ 2 ^ 30
      → CanPlan Group source target files (Ok tt)
  pub of_too_long_a_group_plan : (files : Files) (source target : Matrix) → 2 ^ 30 < group.most_bytes source target
      → CanPlan Group source target files
      (Err (is.Model, report_line (report.GroupLong (runs source + runs target) (rows source + rows target))))
  pub of_a_plan_that_is_too_long : (files : Files) (name : List ℕ) (source target : Matrix)
      → 2 ^ 30 < group.most_bytes source target → Upon (CanPlan Group source target)
      (λ _. StoresPlan (facts_of Group) name source target) files (record {
        status = is.Model;
        line = report_line (report.GroupLong (runs source + runs target) (rows source + rows target));
        after = files;
      })
  pub of_a_low_plan : (files : Files) (source target : Matrix) → FirstUnsupported target None
      → CanPlan Low source target files (Ok tt)
  pub of_an_unsupported_part : (files : Files) (source target : Matrix) (at : Coord)
      → FirstUnsupported target (Some at)
      → CanPlan Low source target files (Err (is.Unsupported, report_line (report.Unsupported at)))
