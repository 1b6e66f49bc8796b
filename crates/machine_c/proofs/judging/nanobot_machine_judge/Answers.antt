use Rattle.std.proofs.Common.{◌≡◌, ◌∙◌, ap, sym, subst, rules}
use Rattle.std.specs.Prelude.{Option, Some}
use Rattle.kept_machine.specs.Kept.{Kept}
use Rattle.machine_c.specs.Judging.{IsJudged, judged_told}
use Rattle.machine_c.proofs.judging.nanobot_machine_judge.Goals as goal

pub returns-clause-told : goal.returns-clause-told
returns-clause-told c =
    let held : c.args.handle.now.machine ≡ Some c.deref_mut.result.now = search rules in
    let seen : c.deref.result.now ≡ c.deref_mut.result.now = search rules in
    subst (λ (h : Option Kept). IsJudged h c.args.commands.now c.args.told.now c.told_of.result c.status.result) (sym held)
    (c.judge_by-answer.result, c.judge_by-answer.ensures.answer, c.told_of.ensures ∙ ap (λ (k : Kept). judged_told k c.judge_by-answer.result) seen, c.status.ensures)
