use Rattle.step_debugger.specs.Session.{opened}
use Rattle.debug_script.proofs.Unique.{one_printing}
use Rattle.debug_script.proofs.laws.one_text.Goals as goal

pub returns : goal.returns
returns c = λ source profile commands script a b h k. one_printing c.one_answer.ensures commands script (opened source profile) a b h k
