use Rattle.std.proofs.Common.{◌≡◌, arith, ap}
use Rattle.nano_spec.specs.Model.{volume}
use Rattle.trace_judge.proofs.Judging.{judged_within, judging_begun, judging_on}
use Rattle.trace_judge.proofs.Works.{run_work}
use Rattle.trace_judge.proofs.runner.judge_by.Goals as goal

pub loop-command-init : goal.loop-command-init
loop-command-init g c =
    judging_begun c.args.source c.args.profile c.args.commands.now c.in_ok-runner.runner c.start.new.steps c.in_ok-runner.ensures.progress c.in_ok-runner.ensures.stands

pub loop-command-preserved : goal.loop-command-preserved
loop-command-preserved g c =
    let pushed = c.in_ok-push_next.ensures.pushed in
    judging_on c.args.source c.args.profile c.args.commands.now c.loop-command.command-index c.loop-command.runner c.push_next.new.runner c.command-item.result c.start.new.steps c.loop-command.steps c.push_next.new.steps
    c.loop-command-test.true c.command-item.is c.loop-command.invariant pushed.progress c.push_next.ensures.steps pushed.resolution pushed.stands pushed.touches

pub returns-clause-touches : goal.returns-clause-touches
returns-clause-touches g c =
    let work = run_work c.args.source c.args.commands.now c.args.profile in
    let within = judged_within c.args.source c.args.profile c.args.commands.now c.loop-command.command-index c.loop-command.runner c.start.new.steps c.loop-command.steps work.0 c.loop-command.invariant work.1 in
    let first = c.in_ok-runner.ensures.touches in
    let last = c.finish.ensures.touches in
    let same : volume c.args.source.resolution ≡ volume c.args.target.now.resolution = ap volume c.requires.resolution in
    (work.0, work.1, omega (arith, within, first, last, same))
