use Rattle.std.proofs.Common.{◌≡◌, ◌<◌, ◌∙◌, ap, arith, length, subst, sym}
use Rattle.std.specs.Prelude.{IsTrue}
use Rattle.nano_spec.specs.Act.{acts, stays_in_space}
use Rattle.nano_spec.specs.Group.{leaders}
use Rattle.nano_spec.specs.Matrix.{Matrix}
use Rattle.step_machine.specs.Settling.{IsOnlyRegion, IsVoidedRegion}
use Rattle.step_machine.proofs.Acting.{leader_stays}
use Rattle.step_machine.proofs.OneRegion.{if_some, only_leader}
use Rattle.step_machine.proofs.Turning.{among_bots, among_commands, as_many, turned, turned_leads, turned_rest}
use Rattle.step_machine.proofs.one_region.only_region.Goals as goal

pub bounds-bots-place : goal.bounds-bots-place
bounds-bots-place c =
    among_bots c.args.system.now c.args.commands.now c.bots-bots.result.now c.args.turns.now c.list-list.result.now 0 c.from-place.result (c.bots-bots.ensures.value ∙ c.crew.ensures.value) c.list-list.ensures c.requires.turns (omega arith) c.from-place.ensures

pub bounds-commands-place : goal.bounds-commands-place
bounds-commands-place c =
    among_commands c.args.system.now c.args.commands.now c.bots-bots.result.now c.args.turns.now c.list-list.result.now 0 c.from-place.result (c.bots-bots.ensures.value ∙ c.crew.ensures.value) c.list-list.ensures c.requires.turns (omega arith) c.from-place.ensures

pub voided_region-requires-clause-stays : goal.voided_region-requires-clause-stays
voided_region-requires-clause-stays c =
    let leads_turned = turned_leads c.args.system.now c.args.commands.now c.bots-bots.result.now c.args.turns.now c.list-list.result.now 0 c.from-place.result (c.bots-bots.ensures.value ∙ c.crew.ensures.value) c.list-list.ensures c.requires.turns (omega arith) c.from-place.ensures c.index-commands-place.result c.index-commands-place.is in
    subst (λ m. IsTrue (stays_in_space m.resolution (turned c.args.system.now c.args.commands.now c.bots-bots.result.now c.args.turns.now c.list-list.result.now 0 c.from-place.result (c.bots-bots.ensures.value ∙ c.crew.ensures.value) c.list-list.ensures c.requires.turns (omega arith) c.from-place.ensures c.index-commands-place.result c.index-commands-place.is))) (sym c.matrix-matrix.ensures.value)
    (leader_stays c.args.system.now c.args.commands.now c.requires.judged.0 c.crew.ensures.ready c.requires.judged.1 _ leads_turned)

pub returns : goal.returns
returns c =
    let same = c.bots-bots.ensures.value ∙ c.crew.ensures.value in
    let below : 0 < length c.list-list.result.now = omega arith in
    let leader = turned c.args.system.now c.args.commands.now c.bots-bots.result.now c.args.turns.now c.list-list.result.now 0 c.from-place.result same c.list-list.ensures c.requires.turns below c.from-place.ensures c.index-commands-place.result c.index-commands-place.is in
    let rest_turned = turned_rest c.args.system.now c.args.commands.now c.bots-bots.result.now c.args.turns.now c.list-list.result.now 0 c.from-place.result same c.list-list.ensures c.requires.turns below c.from-place.ensures c.index-commands-place.result c.index-commands-place.is in
    let same_length = as_many (acts c.args.system.now.bots c.args.commands.now) (leaders (acts c.args.system.now.bots c.args.commands.now)) c.args.turns.now c.requires.turns in
    let length_is = ap length c.list-list.ensures in
    let one : length (leaders (acts c.args.system.now.bots c.args.commands.now)) ≡ 1 = omega arith in
    if_some c.voided_region.result (IsVoidedRegion c.matrix-matrix.result.now leader) (IsOnlyRegion c.args.system.now c.args.commands.now)
    (λ k v. record {
      leader = leader;
      only = only_leader (leaders (acts c.args.system.now.bots c.args.commands.now)) leader rest_turned one;
      voids = subst (λ (m : Matrix). IsVoidedRegion m leader k) c.matrix-matrix.ensures.value v;
    })
    c.voided_region.ensures
