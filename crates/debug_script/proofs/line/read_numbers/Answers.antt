use Rattle.std.proofs.Common.{refl, codes, ◌∷◌, subst, sym, Err}
use Rattle.debug_script.specs.Calls.{IsReadBy, script_letters}
use Rattle.debug_script.specs.Script.{PartsSay, line_parts}
use Rattle.debug_script.specs.declared.word.ScriptWord.{ScriptWord}
use Rattle.trace_text.specs.declared.fault.TextRefusal.TheVariants.{Shape}
use Rattle.debug_script.proofs.Forms.{has_shape_fault, no_back, no_bots, no_step, parts_some}
use Rattle.debug_script.proofs.line.read_numbers.Goals as goal

pub returns-in-Group : goal.returns-in-Group
returns-in-Group c = rw c.in-Group.is (c.read_group.ensures c.args.resolution)

pub returns-in-Step : goal.returns-in-Step
returns-in-Step c =
    subst (λ (w : ScriptWord). IsReadBy (PartsSay c.args.resolution (script_letters w ∷ line_parts c.args.rest.now)) c.args.number (Err (Shape c.args.number))) (sym c.in-Step.is)
    (has_shape_fault c.args.resolution c.args.number (codes "step" ∷ line_parts c.args.rest.now) refl (no_step (line_parts c.args.rest.now) (parts_some c.args.rest.now)))

pub returns-in-Back : goal.returns-in-Back
returns-in-Back c =
    subst (λ (w : ScriptWord). IsReadBy (PartsSay c.args.resolution (script_letters w ∷ line_parts c.args.rest.now)) c.args.number (Err (Shape c.args.number))) (sym c.in-Back.is)
    (has_shape_fault c.args.resolution c.args.number (codes "back" ∷ line_parts c.args.rest.now) refl (no_back (line_parts c.args.rest.now) (parts_some c.args.rest.now)))

pub returns-in-Bots : goal.returns-in-Bots
returns-in-Bots c =
    subst (λ (w : ScriptWord). IsReadBy (PartsSay c.args.resolution (script_letters w ∷ line_parts c.args.rest.now)) c.args.number (Err (Shape c.args.number))) (sym c.in-Bots.is)
    (has_shape_fault c.args.resolution c.args.number (codes "bots" ∷ line_parts c.args.rest.now) refl (no_bots (line_parts c.args.rest.now) (parts_some c.args.rest.now)))
