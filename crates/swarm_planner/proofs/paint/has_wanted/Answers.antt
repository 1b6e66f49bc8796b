use Rattle.std.proofs.Common.{◌≡◌, ◌+◌, ◌-◌, ◌≤◌, ◌<◌, true, false, sym, ◌∙◌, ap, arith}
use Rattle.swarm_planner.specs.Strips.{count, last, bot_row}
use Rattle.swarm_planner.specs.Bounds.{width}
use Rattle.swarm_planner.specs.Building.{are_wanted}
use Rattle.swarm_planner.proofs.Building.{none_left, wanted_by, wanted_here, wanted_later}
use Rattle.swarm_planner.proofs.Rows.{few, narrow}
use Rattle.swarm_planner.proofs.paint.has_wanted.Goals as goal
use Rattle.vox_geom.specs.Point.{coord}

pub returns-then-is_wanted : goal.returns-then-is_wanted
returns-then-is_wanted c =
    let matrix = c.args.tape.now.matrix in
    let size = c.resolution-r.ensures.value ∙ c.requires.same in
    let below_count : c.loop-strip._strip < count matrix.resolution = let end_is = c.strip_count-strip-end.ensures ∙ ap count size in let goes_on = c.loop-strip-test.true in omega arith in
    sym (sym c.loop-strip.invariant.left ∙ wanted_here matrix c.args.target.now (width matrix.resolution) (last matrix.resolution) (count matrix.resolution) c.loop-strip._strip (coord c.loop-strip.x c.args.to.y c.args.to.z) below_count
    (wanted_by c.matrix.result.now matrix c.args.target.now c.is_wanted.result true c.min.result c.loop-strip.x c.resolution-r.result matrix.resolution c.args.to.y c.args.to.z c.is_wanted.ensures c.if-is_wanted.true c.matrix.ensures.value c.min.ensures size))

pub loop-strip-preserved : goal.loop-strip-preserved
loop-strip-preserved c =
    let matrix = c.args.tape.now.matrix in
    let size = c.resolution-r.ensures.value ∙ c.requires.same in
    let below_count : c.loop-strip._strip < count matrix.resolution = let end_is = c.strip_count-strip-end.ensures ∙ ap count size in let goes_on = c.loop-strip-test.true in omega arith in
    let wide : c.strip_width-x.result ≡ width matrix.resolution = c.strip_width-x.ensures ∙ ap width size in
    record {
      left =
          (λ j. are_wanted matrix c.args.target.now (bot_row (width matrix.resolution) (last matrix.resolution) (count matrix.resolution - (c.loop-strip._strip + 1)) (coord (c.loop-strip.x + wide j) c.args.to.y c.args.to.z)))
          ∙ (wanted_later matrix c.args.target.now (width matrix.resolution) (last matrix.resolution) (count matrix.resolution) c.loop-strip._strip (coord c.loop-strip.x c.args.to.y c.args.to.z) below_count
          (wanted_by c.matrix.result.now matrix c.args.target.now c.is_wanted.result false c.min.result c.loop-strip.x c.resolution-r.result matrix.resolution c.args.to.y c.args.to.z c.is_wanted.ensures c.if-is_wanted.false c.matrix.ensures.value c.min.ensures size)
          ∙ c.loop-strip.invariant.left);
      bound = let bound_so_far = c.loop-strip.invariant.bound in let is_narrow = narrow matrix.resolution c.requires.leads.most in omega arith;
    }

pub overflow_add-x : goal.overflow_add-x
overflow_add-x c =
    let matrix = c.args.tape.now.matrix in
    let size = c.resolution-r.ensures.value ∙ c.requires.same in
    let bound = c.loop-strip.invariant.bound in
    let end_is : c.strip_count-strip-end.result ≡ count matrix.resolution = c.strip_count-strip-end.ensures ∙ ap count size in
    let goes_on = c.loop-strip-test.true in
    let wide : c.strip_width-x.result ≡ width matrix.resolution = c.strip_width-x.ensures ∙ ap width size in
    let is_narrow = narrow matrix.resolution c.requires.leads.most in
    let few_enough = few matrix.resolution c.requires.leads.some in
    let wide_required = c.requires.leads.wide in
    omega (arith, bound, end_is, goes_on, wide, is_narrow, few_enough, wide_required)

pub returns : goal.returns
returns c =
    let matrix = c.args.tape.now.matrix in
    let size = c.resolution-r.ensures.value ∙ c.requires.same in
    let at_most_strip : count matrix.resolution ≤ c.loop-strip._strip = let end_is = c.strip_count-strip-end.ensures ∙ ap count size in let at_end = c.loop-strip-test.false in omega arith in
    sym (sym c.loop-strip.invariant.left ∙ none_left matrix c.args.target.now (width matrix.resolution) (last matrix.resolution) (count matrix.resolution) c.loop-strip._strip (coord c.loop-strip.x c.args.to.y c.args.to.z) at_most_strip)
