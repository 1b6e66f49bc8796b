use Rattle.kept_machine.proofs.Steps.{opened_is_kept}
use Rattle.kept_machine.proofs.kept.KeptMachine.start.Goals as goal

pub invariant_of-result : goal.invariant_of-result
invariant_of-result c = (
  opened_is_kept c.args.source c.args.profile c.args.room c.in_ok-machine.machine c.in_ok-machine.notes c.in_ok-machine.ensures.machine c.in_ok-machine.ensures.notes
      (c.opening_is_well_formed.ensures c.args.source c.args.profile c.in_ok-machine.ensures.legal),
  tt,
)
