use Rattle.kept_machine.proofs.Histories.{runs_through, story}
use Rattle.kept_machine.proofs.laws.a_trace_leads_to_its_machine.Goals as goal

pub returns : goal.returns
returns c = λ source profile k made led kept. runs_through source profile k made (story source profile k led) kept
