use Rattle.std.proofs.Common.{arith, get_or}
use Rattle.std.proofs.lemmas.List.{get_or_default}
use Rattle.step_groups.specs.Judging.{act}
use Rattle.step_groups.proofs.Lone.{boxed_more}
use Rattle.step_groups.proofs.Mates.{blank, take_more}
use Rattle.step_groups.proofs.Pushed.{stays_here}
use Rattle.step_groups.proofs.apart.are_apart.Goals as goal

pub own_hull-hull-requires-clause-stays : goal.own_hull-hull-requires-clause-stays
own_hull-hull-requires-clause-stays c =
    let bots = c.args.bots.now in
    let i = c.loop-i.i in
    stays_here c.args.planes.now.resolution bots c.args.commands.now i (get_or bots i blank) c.index-commands-i.result c.loop-i-test.true c.requires.lengths (get_or_default bots i blank (get_or bots i blank) c.loop-i-test.true) c.index-commands-i.is c.requires.stays

pub loop-i-preserved : goal.loop-i-preserved
loop-i-preserved c =
    let bots = c.args.bots.now in
    let i = c.loop-i.i in
    let bot = get_or bots i blank in
    let command = c.index-commands-i.result in
    record {
      boxed = boxed_more _ _ (act bot command) c.loop-i.hulls.items c.push.new.self.items c.as_slice.result.now c.as_slice-in-loop-i.result.now c.loop-i.all c.with_box-all.result c.own_hull-hull.result
          c.loop-i.invariant.boxed
          (take_more bots c.args.commands.now i bot command c.loop-i-test.true c.requires.lengths (get_or_default bots i blank bot c.loop-i-test.true) c.index-commands-i.is)
          c.push.ensures.items c.as_slice.ensures.value c.as_slice-in-loop-i.ensures.value c.own_hull-hull.ensures
          (c.is_apart.ensures c.if-not-is_apart.false) c.with_box-all.ensures;
      len = let push_len = c.push.ensures.len in let len_so_far = c.loop-i.invariant.len in omega arith;
    }
