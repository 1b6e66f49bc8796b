use Rattle.std.proofs.Common.{drop}
use Rattle.nano_spec.specs.Profile.{full_profile}
use Rattle.step_debugger.specs.Session.{opened}
use Rattle.debug_script.specs.Calls.{lines_are}
use Rattle.debug_script.proofs.Printed.{IsPrinting}
use Rattle.debug_script.proofs.print.print_session.Given as goal

abbrev pub invariant-loop-line : goal.invariant-loop-line
invariant-loop-line g l = IsPrinting l.fn.commands (lines_are l.script) (opened l.fn.source full_profile) (lines_are (drop l.line-index l.script)) l.debugger l.text.items
