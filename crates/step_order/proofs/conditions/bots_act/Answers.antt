use Rattle.std.proofs.Common.{◌≡◌, false}
use Rattle.nano_spec.specs.Act.{Act, acts, is_flip}
use Rattle.step_order.proofs.Acted.{bots_gone, harmonics_stay, primary_becomes, secondary_goes, voxels_stay}
use Rattle.step_order.proofs.Facts.{apart_is, up}
use Rattle.step_order.proofs.Faultless.{all_by}
use Rattle.step_order.proofs.Judgements.{all_bots, contained}
use Rattle.step_order.proofs.Voxels.{full_where}
use Rattle.step_order.proofs.conditions.bots_act.Goals as goal

pub returns-clause-voxels : goal.returns-clause-voxels
returns-clause-voxels c = λ s commands q within. full_where s.matrix.resolution _ q within

pub returns-clause-still : goal.returns-clause-still
returns-clause-still c = λ s commands ready leave. voxels_stay s.matrix (acts s.bots commands) ready.whole leave

pub returns-clause-gone : goal.returns-clause-gone
returns-clause-gone c = λ s commands ready lengths stay. bots_gone (acts s.bots commands) (up s (acts s.bots commands) ready (all_bots s.bots commands lengths)) stay

pub returns-clause-primary : goal.returns-clause-primary
returns-clause-primary c = λ s commands a b ready lengths i j pair. primary_becomes (acts s.bots commands) (apart_is s (acts s.bots commands) ready (all_bots s.bots commands lengths)) a b (contained (acts s.bots commands) b j) pair

pub returns-clause-secondary : goal.returns-clause-secondary
returns-clause-secondary c = secondary_goes

pub returns-clause-harmonics : goal.returns-clause-harmonics
returns-clause-harmonics c = λ s commands none. harmonics_stay s.harmonics (acts s.bots commands) (λ a i. all_by (λ (x : Act). is_flip x.command ≡ false) (acts s.bots commands) a none i)
