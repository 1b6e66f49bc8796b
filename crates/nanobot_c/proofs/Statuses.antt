-- Statuses by their numbers.
use Rattle.std.proofs.Common.{◌≡◌, refl, subst, arith}
use Rattle.nanobot_rows.specs.declared.effect.Message.{Message}
use Rattle.nanobot_rows.specs.declared.effect.Message.TheVariants as message
use Rattle.nanobot_rows.specs.declared.report.Report.{Report}
use Rattle.nanobot_rows.specs.declared.status.Status.{Status}
use Rattle.nanobot_rows.specs.declared.status.Status.TheVariants as is
use Rattle.nanobot_rows.specs.Effects.{status_by}
use Rattle.nanobot_rows.specs.Report.{code_of, status_of}
use Rattle.nanobot_app.specs.Outcome.{IsAnswer}
use Rattle.nanobot_app.proofs.Outcomes.{is_answer}
use Rattle.nanobot_c.specs.Given.{IsDone, IsMemory}

pub done_is : (s : Status) → IsDone (code_of s) → s ≡ is.Done
done_is is.Done e = refl
done_is is.Broken e = absurd (omega arith)
done_is is.Words e = absurd (omega arith)
done_is is.Model e = absurd (omega arith)
done_is is.Trace e = absurd (omega arith)
done_is is.Depot e = absurd (omega arith)
done_is is.Sink e = absurd (omega arith)
done_is is.Memory e = absurd (omega arith)
done_is is.Text e = absurd (omega arith)
done_is is.Unsupported e = absurd (omega arith)

memory_is : (s : Status) → IsMemory (code_of s) → s ≡ is.Memory
memory_is is.Done e = absurd (omega arith)
memory_is is.Broken e = absurd (omega arith)
memory_is is.Words e = absurd (omega arith)
memory_is is.Model e = absurd (omega arith)
memory_is is.Trace e = absurd (omega arith)
memory_is is.Depot e = absurd (omega arith)
memory_is is.Sink e = absurd (omega arith)
memory_is is.Memory e = refl
memory_is is.Text e = absurd (omega arith)
memory_is is.Unsupported e = absurd (omega arith)

-- no report and no message has the status of out of memory
pub report_is_none : (r : Report) → IsMemory (code_of (status_of r)) → ⊥
report_is_none r e = subst IsAnswer (memory_is (status_of r) e) (is_answer r)

pub message_is_none : (m : Message) → IsMemory (code_of (status_by m)) → ⊥
message_is_none (message.Line report) e = report_is_none report e
message_is_none (message.Session lines) e = absurd (omega arith)
