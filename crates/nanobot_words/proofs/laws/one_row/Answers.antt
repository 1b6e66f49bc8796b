use Rattle.nanobot_words.proofs.OneRow.{row_once}
use Rattle.nanobot_words.proofs.laws.one_row.Goals as goal

pub returns : goal.returns
returns c = row_once
