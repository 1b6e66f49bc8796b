use Rattle.std.proofs.Common.{◌≡◌, ℕ, List, subst, rules, length, take}
use Rattle.std.specs.Prelude.{Err}
use Rattle.nano_spec.specs.declared.commands.Command.{Command}
use Rattle.kept_machine.specs.Calls.{IsMade, Tries}
use Rattle.kept_machine.specs.Kept.{Kept}
use Rattle.machine_c.specs.Playing.{IsNextStep, IsUnread}
use Rattle.machine_c.proofs.Played.{stays_so}
use Rattle.machine_c.proofs.playing.play_step.Goals as goal

pub returns-in-Ok-step-clause-made : goal.returns-in-Ok-step-clause-made
returns-in-Ok-step-clause-made c =
    let same : c.as_slice.result.now ≡ c.cut_step.new.commands.items = c.as_slice.ensures.value in
    let next = c.in-Ok.ensures.next in (
      c.in-Ok.ensures.within,
      c.in-Ok-step.field-0,
      (c.cut_step.new.commands.items, next.cut, subst (λ (cs : List Command). IsMade c.args.machine.now cs c.step.new.self c.in-Ok-step.field-0) same c.in-Ok-step.ensures),
    )

pub returns-in-Err-step-clause-stays : goal.returns-in-Err-step-clause-stays
returns-in-Err-step-clause-stays c =
    stays_so c.args.machine.now c.step.new.self c.as_slice.result.now c.in-Err-step.fault c.in-Err-step.ensures

pub returns-in-Err-step-clause-stops : goal.returns-in-Err-step-clause-stops
returns-in-Err-step-clause-stops c =
    let same : c.as_slice.result.now ≡ c.cut_step.new.commands.items = c.as_slice.ensures.value in
    let stays = stays_so c.args.machine.now c.step.new.self c.as_slice.result.now c.in-Err-step.fault c.in-Err-step.ensures in
    let bots : c.from.result ≡ length c.args.machine.now.state.bots = search rules in (
      take c.in-Ok.size c.args.bytes.now,
      c.cut_step.new.commands.items,
      subst (λ (n : ℕ). IsNextStep c.args.bytes.now n (take c.in-Ok.size c.args.bytes.now) c.cut_step.new.commands.items) bots c.in-Ok.ensures.next,
      subst (λ (k : Kept). Tries c.args.machine.now c.cut_step.new.commands.items k (Err c.in-Err-step.fault)) stays
          (subst (λ (cs : List Command). Tries c.args.machine.now cs c.step.new.self (Err c.in-Err-step.fault)) same c.in-Err-step.ensures),
    )

pub returns-in-Err-clause-stops : goal.returns-in-Err-clause-stops
returns-in-Err-clause-stops c =
    let bots : c.from.result ≡ length c.args.machine.now.state.bots = search rules in
    subst (λ (n : ℕ). IsUnread c.args.bytes.now n c.in-Err.fault) bots c.in-Err.ensures.unread
