use Rattle.std.proofs.Common.{◌≡◌, [], ◌∷◌, ◌++◌, length, rules, Err, Global}
use Rattle.trace_text.specs.declared.fault.TextFault.TheVariants.{Refused}
use Rattle.debug_script.proofs.Reading.{all_read, line_read, line_refused}
use Rattle.debug_script.proofs.read.read_script.Goals as goal

pub returns-in_err-said : goal.returns-in_err-said
returns-in_err-said c =
    let is : c.from_residual.result ≡ Err (Refused c.in_err-said.field-0.0) = search rules in
    rw is (line_refused c.args.resolution c.args.bytes.now c.loop-left.script.items c.loop-left.left.now c.loop-left.number c.loop-left.invariant c.cut_line.result.0.now c.cut_line.result.1.now c.cut_line.ensures.lines Global c.in_err-said.field-0.0 (c.in_err-said.ensures {u = tt}))

pub loop-left-preserved : goal.loop-left-preserved
loop-left-preserved c =
    let now : c.push.new.self.items ≡ c.loop-left.script.items ++ c.in_ok-said.said ∷ [] = search rules in
    line_read c.args.resolution c.args.bytes.now c.loop-left.script.items c.loop-left.left.now c.loop-left.number c.loop-left.invariant c.cut_line.result.0.now c.cut_line.result.1.now c.cut_line.ensures.lines c.in_ok-said.said _ c.cut_line.ensures.shorter now (c.in_ok-said.ensures {u = tt})

pub returns : goal.returns
returns c =
    let none : length c.loop-left.left.now ≡ 0 = search rules in
    all_read c.args.resolution c.args.bytes.now c.loop-left.script c.loop-left.left.now c.loop-left.number c.loop-left.invariant none
