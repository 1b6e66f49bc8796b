use Rattle.nano_spec.specs.Act.{acts}
use Rattle.step_order.proofs.Facts.{good_is}
use Rattle.step_order.proofs.Order.{at_first}
use Rattle.step_order.proofs.Turns.{all_taken, bots_met, places_met, rules_met, turn_taken}
use Rattle.step_order.proofs.laws.groups_take_turns.Goals as goal

pub returns-clause-first : goal.returns-clause-first
returns-clause-first c = λ s commands step ready keep. at_first s (acts s.bots commands) (good_is s commands step ready keep) ready.whole

pub returns-clause-bots : goal.returns-clause-bots
returns-clause-bots c = bots_met

pub returns-clause-rules : goal.returns-clause-rules
returns-clause-rules c = rules_met

pub returns-clause-places : goal.returns-clause-places
returns-clause-places c = places_met

pub returns-clause-next : goal.returns-clause-next
returns-clause-next c = turn_taken

pub returns-clause-last : goal.returns-clause-last
returns-clause-last c = all_taken
