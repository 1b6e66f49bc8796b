use Rattle.std.proofs.Common.{◌∙◌, ap, map, sym, List}
use Rattle.std.specs.Prelude.{slice_index_or}
use Rattle.vox_geom.proofs.Tests.{test_unequal}
use Rattle.nano_spec.specs.declared.system.Bot.{Bot}
use Rattle.step_groups.proofs.Telling.{bot_without}
use Rattle.system_state.proofs.turns.first_numbered.Goals as goal

pub loop-i-preserved : goal.loop-i-preserved
loop-i-preserved c =
    ap (λ (bots : List Bot). slice_index_or (map (λ (b : Bot). b.bid) bots) 0 0)
    (sym (bot_without c.args.number c.args.bots.now c.args.numbers.now c.loop-i.i c.loop-i-test.true c.requires (test_unequal _ _ c.if-numbers-i.false)))
    ∙ c.loop-i.invariant
