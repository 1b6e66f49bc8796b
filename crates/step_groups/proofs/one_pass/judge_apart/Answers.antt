use Rattle.std.proofs.Common.{arith, get_or}
use Rattle.std.proofs.lemmas.Grind.{common_steps}
use Rattle.std.proofs.lemmas.List.{get_or_default}
use Rattle.step_groups.specs.Judging.{act, touches_of}
use Rattle.step_groups.proofs.Mates.{blank, take_more}
use Rattle.step_groups.proofs.Outlining.{outline_more}
use Rattle.step_groups.proofs.Touching.{sum_at}
use Rattle.step_groups.proofs.one_pass.judge_apart.Goals as goal

pub returns-in-Some-clause-touches : goal.returns-in-Some-clause-touches
returns-in-Some-clause-touches g c =
    let bots = c.args.step.now.bots.now in
    let i = c.loop-i.i in
    let sum_here = sum_at (touches_of c.args.step.now.planes.now) bots c.args.step.now.commands.now i (get_or bots i blank) c.index-commands-i.result c.loop-i-test.true c.requires.step.lengths (get_or_default bots i blank (get_or bots i blank) c.loop-i-test.true) c.index-commands-i.is in
    omega (arith, sum_here, c.judge_next.ensures.touches, c.loop-i.invariant.touches)

pub loop-i-preserved : goal.loop-i-preserved
loop-i-preserved g c =
    let bots = c.args.step.now.bots.now in
    let i = c.loop-i.i in
    let bot = get_or bots i blank in
    let command = c.index-commands-i.result in
    let sum_here = sum_at (touches_of c.args.step.now.planes.now) bots c.args.step.now.commands.now i bot command c.loop-i-test.true c.requires.step.lengths (get_or_default bots i blank bot c.loop-i-test.true) c.index-commands-i.is in
    record {
      value = grind (arith, common_steps);
      touches = omega (arith, sum_here, c.judge_next.ensures.touches, c.loop-i.invariant.touches);
      outline = outline_more _ _ (act bot command) c.loop-i.outline c.judge_next.new.outline c.loop-i.invariant.outline
          (take_more bots c.args.step.now.commands.now i bot command c.loop-i-test.true c.requires.step.lengths (get_or_default bots i blank bot c.loop-i-test.true) c.index-commands-i.is)
          c.in_default.ensures.outline;
    }
