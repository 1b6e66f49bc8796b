use Rattle.std.proofs.Common.{◌≡◌, ◌∙◌, ap, arith, [], ◌∷◌, ◌++◌, append_assoc, length-append}
use Rattle.nano_spec.specs.declared.commands.Command.TheVariants.{SMove}
use Rattle.plan_tape.proofs.Legs.{no_more_moves, one_more_move}
use Rattle.plan_tape.proofs.axis.push_leg.Goals as goal

pub loop-at-preserved : goal.loop-at-preserved
loop-at-preserved c =
    let loop_so_far = c.loop-at.invariant.so_far in
    let towards = c.towards.result in
    let more = length-append loop_so_far.0 (SMove towards ∷ []) in
    let count = c.next_stop-next.ensures.count in
    record {
      so_far = (
        loop_so_far.0 ++ SMove towards ∷ [],
        c.push_reserved.ensures.items ∙ (ap (λ xs. xs ++ SMove towards ∷ []) loop_so_far.1 ∙ append_assoc c.args.commands.now.items loop_so_far.0 (SMove towards ∷ [])),
        one_more_move c.args.axis c.args.from c.loop-at.at c.next_stop-next.result c.args.to loop_so_far.0 towards c.towards.ensures (record { onward = c.next_stop-next.ensures.onward; near = let near_of_next = c.next_stop-next.ensures.near in omega arith }) loop_so_far.2,
        let all = loop_so_far.3 in omega arith,
      );
      len = let len = c.loop-at.invariant.len in let one = c.push_reserved.ensures.len in omega arith;
      capacity = c.push_reserved.ensures.capacity ∙ c.loop-at.invariant.capacity;
      within = let onward_of_next = c.next_stop-next.ensures.onward in let within_so_far = c.loop-at.invariant.within in let to_required = c.requires.to in omega arith;
    }

pub returns-clause-leg : goal.returns-clause-leg
returns-clause-leg c =
    let so_far = c.loop-at.invariant.so_far in
    let same : c.loop-at.at ≡ c.args.to = omega arith in
    (so_far.0, no_more_moves c.args.axis c.args.from c.loop-at.at c.args.to so_far.0 same so_far.2 so_far.3, so_far.1)
