use Rattle.std.proofs.Common.{length, ◌≡◌, ◌*◌, ◌∙◌, ap, pos, List, [], ◌∷◌, of_z, to_z, w64, rules}
use Rattle.std.specs.Prelude.{◌+ℤ◌}
use Rattle.vox_geom.specs.Difference.{mlen}
use Rattle.vox_geom.specs.Point.{point}
use Rattle.nano_spec.specs.declared.system.Bot.{Bot}
use Rattle.nano_spec.specs.Bots.{moved}
use Rattle.nano_spec.specs.Energy.{upkeep}
use Rattle.nano_spec.specs.State.{State}
use Rattle.system_state.proofs.OnlyMove.{moved_on}
use Rattle.system_state.proofs.system.System.move_at_once.Goals as goal

pub returns-clause-moved : goal.returns-clause-moved
returns-clause-moved g c = λ _.
    let state : State = c.args.self.now in
    let bot : Bot = c.only_bot-bot.result in
    let there : List Bot = moved bot (point c.in-Some.to) ∷ [] in
    let same : to_z w64 (of_z w64 c.cost_of_move.result) ≡ c.cost_of_move.result = search rules in
    let payment : c.pay.new.self ≡ record state { energy = (state.energy +ℤ upkeep state) +ℤ pos (2 * mlen c.args.d) } =
    c.pay.ensures.value
    ∙ (ap (λ (t : State). record t { energy = t.energy +ℤ to_z w64 (of_z w64 c.cost_of_move.result) }) c.pay_upkeep_of.ensures.value
    ∙ ap (λ z. record state { energy = (state.energy +ℤ upkeep state) +ℤ z }) (same ∙ c.cost_of_move.ensures.value)) in
    let gone : c.move_only.new.self ≡ record c.pay.new.self { bots = there } =
    c.move_only.ensures bot (ap (λ (t : State). t.bots) payment ∙ c.only_bot-bot.ensures.only) in
    gone ∙ (ap (λ (t : State). record t { bots = there }) payment ∙ moved_on state bot c.args.d c.in-Some.to c.only_bot-bot.ensures.only c.recall.ensures.whole c.in-Some.ensures.sum)

pub returns-clause-one : goal.returns-clause-one
returns-clause-one g c = λ _.
    let state : State = c.args.self.now in
    let bot : Bot = c.only_bot-bot.result in
    let there : List Bot = moved bot (point c.in-Some.to) ∷ [] in
    let same : to_z w64 (of_z w64 c.cost_of_move.result) ≡ c.cost_of_move.result = search rules in
    let payment : c.pay.new.self ≡ record state { energy = (state.energy +ℤ upkeep state) +ℤ pos (2 * mlen c.args.d) } =
    c.pay.ensures.value
    ∙ (ap (λ (t : State). record t { energy = t.energy +ℤ to_z w64 (of_z w64 c.cost_of_move.result) }) c.pay_upkeep_of.ensures.value
    ∙ ap (λ z. record state { energy = (state.energy +ℤ upkeep state) +ℤ z }) (same ∙ c.cost_of_move.ensures.value)) in
    let gone : c.move_only.new.self ≡ record c.pay.new.self { bots = there } =
    c.move_only.ensures bot (ap (λ (t : State). t.bots) payment ∙ c.only_bot-bot.ensures.only) in
    ap (λ (t : State). length t.bots) gone
