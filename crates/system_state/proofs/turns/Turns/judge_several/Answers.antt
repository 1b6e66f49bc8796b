use Rattle.std.proofs.Common.{◌∙◌}
use Rattle.step_groups.proofs.Telling.{as_many_numbers}
use Rattle.system_state.proofs.turns.Turns.judge_several.Goals as goal

pub list_turns-requires-clause-lengths : goal.list_turns-requires-clause-lengths
list_turns-requires-clause-lengths g c = as_many_numbers c.args.step.now.bots.now c.args.step.now.commands.now c.as_slice.result.now c.requires.lengths (c.as_slice.ensures.value ∙ c.number_groups-numbers.ensures)
