use Rattle.std.proofs.Common.{◌≡◌, ◌-◌, ◌≤◌, ℕ, List, length, take, drop, subst, arith, length-drop}
use Rattle.std.proofs.lemmas.List.{take_all}
use Rattle.nanobot_rows.specs.Taking.{Takes}
use Rattle.nanobot_rows.proofs.TakenBytes.{takes_next}
use Rattle.nanobot_rows.proofs.trace_run.TraceRun.feed.Goals as goal

pub loop-at-preserved : goal.loop-at-preserved
loop-at-preserved g c =
    let piece = c.args.piece.now in
    let at = c.loop-at.at in
    let at_here = c.in_ok-at.field-0 in
    let size : length (drop at piece) ≡ length piece - at = length-drop at piece in
    -- the rest of the piece is returned whole
    let whole : take (length piece - at) (drop at piece) ≡ drop at piece = take_all (length piece - at) (drop at piece) (omega (arith, size)) in
    let within : at_here ≤ length (drop at piece) = subst (λ (b : List ℕ). at_here ≤ length b) whole c.in_ok-at.ensures.within in
    let next = subst (λ (b : List ℕ). Takes c.loop-at.self (take at_here b) c.advance.new.self c.loop-at.steps c.advance.new.steps) whole c.in_ok-at.ensures.takes in (
      omega (arith, within, size, c.loop-at.invariant.0),
      takes_next c.args.self.now c.loop-at.self c.advance.new.self piece at at_here c.args.steps.now c.loop-at.steps c.advance.new.steps c.loop-at.invariant.1 next,
    )
