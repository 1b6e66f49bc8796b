-- The status and the line of each report.
use Rattle.std.specs.Prelude.{codes, ◌⊎◌, ℕ, List}
use mathlib.Core.Logic.{inl, inr}
use Rattle.nano_spec.specs.declared.outcomes.Verdict.{Verdict}
use Rattle.nano_spec.specs.declared.outcomes.Verdict.TheVariants as verdict
use Rattle.nano_spec.specs.Cutting.{BadAt, CutAt}
use Rattle.nano_spec.specs.Legal.{NotLegal}
use Rattle.nano_spec.specs.Model.{NoModel}
use Rattle.nano_spec.specs.Reading.{FaultyLine}
use Rattle.model_file.specs.Fault.{why_refused}
use Rattle.trace_text.specs.Text.{faulty_line}
use Rattle.debug_script.specs.Broken.{broken_line}
use Rattle.nanobot_rows.specs.declared.status.Status.{Status}
use Rattle.nanobot_rows.specs.declared.status.Status.TheVariants as is
use Rattle.nanobot_rows.specs.declared.report.Report.{Report}
use Rattle.nanobot_rows.specs.declared.report.Report.TheVariants as report
use Rattle.nanobot_rows.specs.declared.report.Who.{Who}
use Rattle.nanobot_rows.specs.Lines.{accepted_line, exercised_line, forged_line, group_long_line, legal_line, no_model_line, not_legal_line, planned_line, resolutions_line, stored_line, text_line, long_line, trace_line, long_line, unsupported_line}

-- the number of a status, which is the exit status of the program
abbrev pub code_of : Status → ℕ
code_of is.Done = 0
code_of is.Broken = 1
code_of is.Words = 2
code_of is.Model = 3
code_of is.Trace = 4
code_of is.Depot = 5
code_of is.Sink = 6
code_of is.Memory = 7
code_of is.Text = 8
code_of is.Unsupported = 9

-- the status of a report
abbrev pub status_of : Report → Status
status_of (report.Accepted energy steps) = is.Done
status_of (report.Legal resolution full) = is.Done
status_of (report.Stored commands bytes) = is.Done
status_of (report.Forged resolution full) = is.Done
status_of (report.Planned energy steps commands bytes) = is.Done
status_of (report.Broken broken) = is.Broken
status_of (report.Model who refusal) = is.Model
status_of (report.Resolutions source target) = is.Model
status_of (report.GroupLong runs rows) = is.Model
status_of (report.TraceBad offset) = is.Trace
status_of (report.TraceCut offset) = is.Trace
status_of (report.TraceLong limit) = is.Trace
status_of (report.Text refusal) = is.Text
status_of (report.TextLong limit) = is.Text
status_of (report.Unsupported at) = is.Unsupported
status_of (report.Exercised number resolution full layer group) = is.Done

-- the line of a model that is refused, for one reason or the other
abbrev pub refused_line : Who → NoModel ⊎ NotLegal → List ℕ
refused_line who (inl why) = no_model_line who why
refused_line who (inr why) = not_legal_line who why

-- the line of a faulty line
abbrev pub faulty_text_line : FaultyLine → List ℕ
faulty_text_line faulty = text_line faulty.fault faulty.line

-- the line of a report
abbrev pub report_line : Report → List ℕ
report_line (report.Accepted energy steps) = accepted_line energy steps
report_line (report.Legal resolution full) = legal_line resolution full
report_line (report.Stored commands bytes) = stored_line commands bytes
report_line (report.Forged resolution full) = forged_line resolution full
report_line (report.Planned energy steps commands bytes) = planned_line energy steps commands bytes
report_line (report.Broken broken) = broken_line broken
report_line (report.Model who refusal) = refused_line who (why_refused refusal)
report_line (report.Resolutions source target) = resolutions_line source target
report_line (report.TraceBad offset) = trace_line (BadAt offset)
report_line (report.TraceCut offset) = trace_line (CutAt offset)
report_line (report.TraceLong limit) = long_line (codes "trace") limit
report_line (report.Text refusal) = faulty_text_line (faulty_line refusal)
report_line (report.TextLong limit) = long_line (codes "text") limit
report_line (report.GroupLong runs rows) = group_long_line runs rows
report_line (report.Unsupported at) = unsupported_line at
report_line (report.Exercised number resolution full layer group) =
    exercised_line number resolution full layer group

-- the report of a verdict
abbrev pub of_verdict : Verdict → Report
of_verdict (verdict.Accepted energy steps) = report.Accepted energy steps
of_verdict (verdict.Refused broken) = report.Broken broken
