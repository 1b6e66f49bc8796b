use Rattle.std.proofs.lemmas.Result.{on_ok_weaker}
use Rattle.group_planner.proofs.Found.{cut_at_start}
use Rattle.group_planner.proofs.Stamps.{stamps_line_back}
use Rattle.group_planner.proofs.sweep.write_line.Goals as goal

pub write_runs_back-requires-clause-cut : goal.write_runs_back-requires-clause-cut
write_runs_back-requires-clause-cut c = cut_at_start c.args.model.now c.args.x c.args.y

pub returns-then-is_nearer_to_last-clause-stamps : goal.returns-then-is_nearer_to_last-clause-stamps
returns-then-is_nearer_to_last-clause-stamps c =
    on_ok_weaker c.write_runs_back.result
    (λ g. stamps_line_back c.args.tape.now c.write_runs_back.new.tape c.args.model.now c.args.full c.args.x c.args.y g)
    c.write_runs_back.ensures.stamps
