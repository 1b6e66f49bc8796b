-- The command that a value of the code represents.
use Rattle.std.specs.Prelude.{ℕ, List, Option, Some, None}
use Rattle.nanobot_words.specs.declared.row.Row as code
use Rattle.nanobot_words.specs.declared.row.Row.TheVariants.{Asm, Check, Debug, Dis, Exercise, Make, Plan, Run}
use Rattle.nanobot_words.specs.declared.row.Side as sides
use Rattle.nanobot_words.specs.declared.row.Side.TheVariants.{Empty, Named}
use Rattle.nanobot_words.specs.Rows.{Row, asm, check, debug, dis, exercise, make, plan, run}

abbrev pub side_of : sides.Side → Option (List ℕ)
side_of Empty = None
side_of (Named name) = Some name.now

abbrev pub row_of : code.Row → Row
row_of (Check model) = check model.now
row_of (Run round source target trace) = run round (side_of source) (side_of target) trace.now
row_of (Asm text trace) = asm text.now trace.now
row_of (Dis trace text) = dis trace.now text.now
row_of (Make number resolution model) = make number resolution model.now
row_of (Plan planner source target trace) = plan planner (side_of source) (side_of target) trace.now
row_of (Exercise number resolution) = exercise number resolution
row_of (Debug source trace script) = debug source.now trace.now script.now
