use Rattle.std.proofs.Common.{ℕ, ◌+◌, List, [], refl, arith, sym, ap, subst}
use Rattle.std.specs.Ordering.{nat_cmp}
use Rattle.std.specs.FinMap.{len-empty}
use Rattle.brick_arena.specs.Arena.{chain, live_slots, IsArena}
use Rattle.brick_arena.proofs.Bricks.new.Goals as goal

empty_arena : IsArena [] 0 0 0
unfolding chain live_slots
empty_arena = record {
  chunks = λ k lt. absurd (omega arith);
  room = omega arith;
  limit = omega arith;
  below = λ s e. cc;
  distinct = tt;
  blank = λ p past. refl;
  count = sym (ap (λ n. n + 0) (len-empty nat_cmp (List ℕ)));
}

pub invariant_of-result : goal.invariant_of-result
invariant_of-result c = subst (λ cs. IsArena cs 0 0 0) (sym c.new.ensures.items) empty_arena

pub returns : goal.returns
unfolding live_slots
returns c = refl
