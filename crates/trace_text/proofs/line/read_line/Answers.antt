use Rattle.std.proofs.Common.{rules}
use Rattle.std.specs.Prelude.{IsAscii}
use Rattle.trace_text.specs.Text.{word_is}
use Rattle.trace_text.proofs.Contents.{HasParts, no_high, says, skipped, unknown}
use Rattle.trace_text.proofs.line.read_line.Goals as goal

pub returns-then-is_empty : goal.returns-then-is_empty
returns-then-is_empty c =
    let low : IsAscii c.args.line.now = search rules in
    let parts : HasParts c.args.line.now c.content.result.now c.skip_blanks.new.self.bytes.now = record { low = no_high c.args.line.now low; middle_is = c.content.ensures; rest_is = c.skip_blanks.ensures.bytes } in
    skipped c.args.line.now c.content.result.now c.skip_blanks.new.self.bytes.now parts c.if-is_empty.ensures

pub returns-in-Ok : goal.returns-in-Ok
returns-in-Ok c =
    let low : IsAscii c.args.line.now = search rules in
    let parts : HasParts c.args.line.now c.content.result.now c.skip_blanks.new.self.bytes.now = record { low = no_high c.args.line.now low; middle_is = c.content.ensures; rest_is = c.skip_blanks.ensures.bytes } in
    says c.args.line.now c.content.result.now c.skip_blanks.new.self.bytes.now c.letters.result.now c.letters.new.self.bytes.now (word_is c.in-Some.word) _ parts c.if-is_empty.ensures c.letters.ensures.value c.letters.ensures.after c.in-Some.ensures c.in-Ok.ensures

pub returns-in-Err : goal.returns-in-Err
returns-in-Err c =
    let low : IsAscii c.args.line.now = search rules in
    let parts : HasParts c.args.line.now c.content.result.now c.skip_blanks.new.self.bytes.now = record { low = no_high c.args.line.now low; middle_is = c.content.ensures; rest_is = c.skip_blanks.ensures.bytes } in
    says c.args.line.now c.content.result.now c.skip_blanks.new.self.bytes.now c.letters.result.now c.letters.new.self.bytes.now (word_is c.in-Some.word) _ parts c.if-is_empty.ensures c.letters.ensures.value c.letters.ensures.after c.in-Some.ensures c.in-Err.ensures

pub returns-in-None : goal.returns-in-None
returns-in-None c =
    let low : IsAscii c.args.line.now = search rules in
    let parts : HasParts c.args.line.now c.content.result.now c.skip_blanks.new.self.bytes.now = record { low = no_high c.args.line.now low; middle_is = c.content.ensures; rest_is = c.skip_blanks.ensures.bytes } in
    unknown c.args.line.now c.content.result.now c.skip_blanks.new.self.bytes.now c.letters.result.now parts c.if-is_empty.ensures c.letters.ensures.value c.in-None.ensures
