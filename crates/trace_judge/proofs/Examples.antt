-- The worked examples of touches.
use Rattle.std.proofs.Common.{◌≡◌, ◌+◌, ◌*◌, ◌≤◌, arith}
use Rattle.nano_spec.specs.Matrix.{empty}
use Rattle.nano_spec.specs.Profile.{full_profile}
use Rattle.nano_spec.proofs.Others.{worked_work}
use Rattle.nano_spec.proofs.Works.{Work-unique}
use Rattle.trace_judge.specs.Worked.{WorkedTouches, refused_fission}

pub worked_touches : WorkedTouches
worked_touches = record {
  within_the_work = (2, worked_work.work_of_a_refused_fission, omega arith);
  one_touch_more = λ h. let work_is : h.0 ≡ 2 = Work-unique (empty 3) refused_fission full_profile h.0 2 h.1 worked_work.work_of_a_refused_fission in let within : 2906 ≤ 5 + 100 * (27 + h.0) = h.2 in omega arith;
}
