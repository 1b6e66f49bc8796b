use Rattle.debug_script.proofs.Forms.{more_parts}
use Rattle.debug_script.proofs.line.one_number.Goals as goal

pub returns-in-Some : goal.returns-in-Some
returns-in-Some c = λ n few e. let cut_part_ensured = rw c.in-Some.is at c.cut_part.ensures in more_parts c.args.rest.now _ c.in-Some.field-0.now n cut_part_ensured e
