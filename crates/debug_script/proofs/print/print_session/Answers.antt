use Rattle.std.proofs.Common.{List, arith, subst}
use Rattle.std.proofs.lemmas.List.{drop_all}
use Rattle.nano_spec.specs.Profile.{full_profile}
use Rattle.step_debugger.specs.Session.{opened}
use Rattle.debug_script.specs.Calls.{lines_are}
use Rattle.debug_script.specs.declared.line.ScriptLine.{ScriptLine}
use Rattle.debug_script.proofs.Printed.{IsPrinting, all_printed, line_printed, next_line, started}
use Rattle.debug_script.proofs.print.print_session.Goals as goal

pub loop-line-init : goal.loop-line-init
loop-line-init g c = started _ _ _ _ _ (rw c.full.ensures at (c.in_ok-debugger.ensures {u = tt})) c.new-text.ensures.items

pub loop-line-preserved : goal.loop-line-preserved
loop-line-preserved g c =
    line_printed _ _ _ _ _ _ _ _ _ _ (next_line c.args.script.now c.loop-line.line-index _ (omega (arith, c.loop-line-test.true, c.loop-line.auto.line-index-end))) c.loop-line.invariant (c.in_ok-tell.ensures {u = tt})

pub returns : goal.returns
returns g c =
    all_printed _ _ _ c.loop-line.debugger _
    (subst (λ (left : List ScriptLine). IsPrinting c.args.commands (lines_are c.args.script.now) (opened c.args.source full_profile) (lines_are left) c.loop-line.debugger c.loop-line.text.items)
    (drop_all c.loop-line.line-index c.args.script.now (omega (arith, c.loop-line-test.false, c.loop-line.auto.line-index-end))) c.loop-line.invariant)
