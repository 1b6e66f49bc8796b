use Rattle.std.proofs.Common.{◌≡◌, Bool, subst, sym, Err}
use Rattle.std.specs.Prelude.{MatchBool, Result}
use Rattle.nano_spec.specs.Line.{Fault, NotAscii}
use Rattle.step_debugger.specs.Session.{DebugLine}
use Rattle.debug_script.specs.Calls.{IsReadBy}
use Rattle.debug_script.specs.Script.{PartsSay, line_parts}
use Rattle.trace_text.proofs.Contents.{no_high}
use Rattle.debug_script.proofs.line.read_line.Goals as goal

pub returns : goal.returns
returns c =
    let ascii = rw c.if-not-is_ascii.false at c.is_ascii.ensures.cases in
    subst (λ (b : Bool). IsReadBy (λ (a : Result DebugLine Fault). MatchBool b (a ≡ Err NotAscii) (PartsSay c.args.resolution (line_parts c.args.line.now) a)) c.args.number c.read_parts.result) (sym (no_high c.args.line.now ascii)) c.read_parts.ensures
