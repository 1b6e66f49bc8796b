use Rattle.std.proofs.Common.{◌≡◌, ◌∙◌, rules, to_z, of_z, w64}
use Rattle.step_machine.proofs.Standing.{may_stand}
use Rattle.step_machine.proofs.machine.Machine.anew.Goals as goal

pub at-requires : goal.at-requires
at-requires g c =
    let same : to_z w64 (of_z w64 c.energy.result) ≡ c.energy.result = search rules in
    may_stand c.args.self.now.state c.args.self.now.steps c.in_ok-matrix.matrix c.copy-2.result c.harmonics.result _ c.profile.result c.steps_done.result
    (c.in_ok-matrix.ensures.value ∙ c.matrix.ensures.value) (c.copy-2.ensures ∙ c.crew.ensures.value) c.harmonics.ensures (same ∙ c.energy.ensures.value) c.profile.ensures.value c.steps_done.ensures.value
    c.requires c.crew.ensures.ready c.profile.ensures.seeds c.steps_done.ensures.most c.energy.ensures.paid
