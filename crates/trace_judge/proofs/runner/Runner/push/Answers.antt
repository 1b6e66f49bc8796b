use Rattle.std.proofs.Common.{rules, ◌∙◌, ◌+◌, ◌++◌, [], ◌∷◌, refl, ap, subst, true, false}
use Rattle.std.specs.Prelude.{Err}
use Rattle.nano_spec.specs.Next.{Breaks, Goes}
use Rattle.run_progress.specs.Progress as progress
use Rattle.run_progress.specs.Progress.{Pushes}
use Rattle.step_machine.specs.Stepped.{Stepped}
use Rattle.step_machine.specs.declared.machine.StepFault.TheVariants as fault
use Rattle.trace_judge.specs.Course.{Course, course_of, mark_by, searched_by}
use Rattle.trace_judge.proofs.Running.{ended_on, halted_mark, made, made_on, running_mark, waits_on}
use Rattle.trace_judge.proofs.Works.{untouched_within}
use Rattle.trace_judge.proofs.runner.Runner.push.Goals as goal

pub returns-in-Refused-clause-progress : goal.returns-in-Refused-clause-progress
returns-in-Refused-clause-progress g c =
    let seen : Course = course_of c.self.inside.machine c.self.inside.pending c.self.inside.mark in
    subst (λ (v : Course). Pushes v.progress c.args.command (record seen.progress { mark = mark_by c.next_mark-mark.result })) c.self.view_is (c.next_mark-mark.ensures.pushes seen.progress c.args.command refl)

pub returns-in-Refused-clause-touches : goal.returns-in-Refused-clause-touches
returns-in-Refused-clause-touches g c =
    let progress_given = c.args.self.now.progress in
    untouched_within progress_given.state (progress_given.pending ++ c.args.command ∷ []) (progress_given.steps + 1) (searched_by (mark_by c.next_mark-mark.result) progress_given.state.matrix) c.args.steps.now c.args.steps.now refl

pub returns-in-Waits-clause-touches : goal.returns-in-Waits-clause-touches
returns-in-Waits-clause-touches g c =
    let progress_given = c.args.self.now.progress in
    untouched_within progress_given.state (progress_given.pending ++ c.args.command ∷ []) (progress_given.steps + 1) (searched_by (mark_by c.self.inside.mark) progress_given.state.matrix) c.args.steps.now c.take.new.steps (c.in-Waits.ensures.untouched refl)

pub returns-in-Made-clause-progress : goal.returns-in-Made-clause-progress
returns-in-Made-clause-progress g c =
    let stepped = c.in-Made.ensures.stepped in
    made c.self.inside.machine c.self.inside.pending c.self.inside.mark c.args.self.now c.self.view_is c.in-Running.is
    c.args.command (Goes c.take.new.machine.state) _ (c.in-Made.ensures.full (λ x. cc)) stepped.goes
    (λ i. record { state = c.take.new.machine.state; steps = stepped.counted i; pending = c.in-Made.ensures.cleared i; mark = (ap mark_by c.in-Running.is ∙ running_mark c.take.new.machine.state.bots false stepped.halted refl) i })

pub returns-in-Halted-clause-progress : goal.returns-in-Halted-clause-progress
returns-in-Halted-clause-progress g c =
    let stepped = c.in-Halted.ensures.stepped in
    made c.self.inside.machine c.self.inside.pending c.self.inside.mark c.args.self.now c.self.view_is c.in-Running.is
    c.args.command (Goes c.take.new.machine.state) _ (c.in-Halted.ensures.full (λ x. cc)) stepped.goes
    (λ i. record { state = c.take.new.machine.state; steps = stepped.counted i; pending = c.in-Halted.ensures.cleared i; mark = halted_mark c.take.new.machine.state.bots true stepped.halted refl i })

pub returns-in-Broken-clause-progress : goal.returns-in-Broken-clause-progress
returns-in-Broken-clause-progress g c =
    let stepped : Stepped c.self.inside.machine c.take.new.machine (c.self.inside.pending ++ c.args.command ∷ []) (Err (fault.Broken c.in-Broken.broken)) c.args.steps.now c.take.new.steps = search rules in
    made c.self.inside.machine c.self.inside.pending c.self.inside.mark c.args.self.now c.self.view_is c.in-Running.is
    c.args.command (Breaks c.in-Broken.broken) _ (c.in-Refused-take.ensures.full (λ x. cc)) stepped.breaks.1
    (λ i. record { state = stepped.stays.0 i; steps = stepped.stays.1 i; pending = c.in-Refused-take.ensures.kept refl i; mark = progress.Refused c.in-Broken.broken })

pub invariant_of-self : goal.invariant_of-self
invariant_of-self g c = ended_on c.self.inside.machine c.self.inside.pending c.next_mark-mark.result c.next_mark-mark.ensures.ended

pub invariant_of-self-in-Waits : goal.invariant_of-self-in-Waits
invariant_of-self-in-Waits g c = waits_on c.self.inside.machine c.take.new.machine c.self.inside.pending c.take.new.pending c.args.command c.self.inside.mark (c.in-Waits.ensures.stays refl) (c.in-Waits.ensures.joins refl) (c.in-Waits.ensures.lacks refl) c.in-Running.is

pub invariant_of-self-in-Made : goal.invariant_of-self-in-Made
invariant_of-self-in-Made g c = made_on c.take.new.machine c.take.new.pending c.self.inside.mark c.in-Made.ensures.cleared c.in-Made.ensures.stepped.halted c.in-Running.is

pub invariant_of-self-in-Halted : goal.invariant_of-self-in-Halted
invariant_of-self-in-Halted g c = tt

pub invariant_of-self-in-Broken : goal.invariant_of-self-in-Broken
invariant_of-self-in-Broken g c = tt
