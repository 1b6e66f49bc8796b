-- The only bot is still alone after a step by a frequent command.
use Rattle.std.proofs.Common.{◌≡◌, ℕ, ◌+◌, refl, ◌∙◌, ap, subst, sym, List, [], ◌∷◌, Bool, true, false, length}
use Rattle.std.specs.Prelude.{None}
use Rattle.vox_geom.specs.declared.difference.Diff.{Diff}
use Rattle.nano_spec.specs.declared.commands.Command.{Command}
use Rattle.nano_spec.specs.declared.commands.Command.TheVariants.{SMove}
use Rattle.nano_spec.specs.declared.system.Bot.{Bot}
use Rattle.nano_spec.specs.declared.system.Harmonics.TheVariants.{Low}
use Rattle.nano_spec.specs.Act.{acts}
use Rattle.nano_spec.specs.Bots.{bots_after}
use Rattle.nano_spec.specs.Grounded.{FirstUngrounded}
use Rattle.nano_spec.specs.State.{State}
use Rattle.nano_spec.specs.Step.{after}
use Rattle.nano_spec.proofs.Accepted.{accepted_step}
use Rattle.step_groups.specs.Judging.{edit_of}
use Rattle.step_machine.specs.Alone.{IsSolo}
use Rattle.step_machine.specs.Situation.{Situation}
use Rattle.step_machine.specs.Stepped.{Stepped, answer_of}
use Rattle.step_machine.specs.declared.machine.StepFault.{StepFault}
use Rattle.step_machine.proofs.Still.{only_bot}

-- the command leaves one bot, whatever the bot is
abbrev LeavesOne : Command → Type 0
LeavesOne command = (b : Bot) → length (bots_after (acts (b ∷ []) (command ∷ []))) ≡ 1

move_leaves_one : (d : Diff) → LeavesOne (SMove d)
move_leaves_one d b = refl

edit_leaves_one : (full : Bool) (d : Diff) → LeavesOne (edit_of full d)
edit_leaves_one true d b = refl
edit_leaves_one false d b = refl

alone_after : (command : Command) → LeavesOne command → (old new : Situation) (fault : StepFault) (began ended : ℕ)
    → length old.state.bots ≡ 1 → Stepped old new (command ∷ []) (answer_of true new.state fault) began ended
    → IsSolo new
alone_after command leaves old new fault began ended one s =
    let goes = accepted_step old.state new.state (command ∷ []) (old.steps + 1) s.goes in
    let only = only_bot old.state.bots one in
    let bots : length (after old.state (command ∷ [])).bots ≡ 1 = ap (λ (bots : List Bot). length (bots_after (acts bots (command ∷ [])))) only.1 ∙ leaves only.0 in
    record {
      stands = s.stands.1;
      one = ap (λ (t : State). length t.bots) goes.is ∙ bots;
      held = subst (λ (t : State). t.harmonics ≡ Low → FirstUngrounded t.matrix None) (sym goes.is) goes.grounded;
    }

pub alone_after_move : (d : Diff) (old new : Situation) (fault : StepFault) (began ended : ℕ)
    → length old.state.bots ≡ 1 → Stepped old new (SMove d ∷ []) (answer_of true new.state fault) began ended
    → IsSolo new
alone_after_move d = alone_after (SMove d) (move_leaves_one d)

pub alone_after_edit : (full : Bool) (d : Diff) (old new : Situation) (fault : StepFault) (began ended : ℕ)
    → length old.state.bots ≡ 1 → Stepped old new (edit_of full d ∷ []) (answer_of true new.state fault) began ended
    → IsSolo new
alone_after_edit full d = alone_after (edit_of full d) (edit_leaves_one full d)
