use Rattle.std.proofs.Common.{sym}
use Rattle.nanobot_c.proofs.Named.{holds_none, holds_source, holds_target, holds_trace}
use Rattle.nanobot_c.proofs.lent.Lent.file.Goals as goal

pub returns-in-s : goal.returns-in-s
returns-in-s c = sym (holds_source _ _ _ c.args.name.now c.in-s.is)

pub returns-in-t : goal.returns-in-t
returns-in-t c = sym (holds_target _ _ _ c.args.name.now c.in-t.is)

pub returns-in-b : goal.returns-in-b
returns-in-b c = sym (holds_trace _ _ _ c.args.name.now c.in-b.is)

pub returns-in_default : goal.returns-in_default
returns-in_default c = sym (holds_none _ _ _ c.args.name.now c.in_default.not-s c.in_default.not-t c.in_default.not-b)
