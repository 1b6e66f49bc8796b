use Rattle.std.proofs.Common.{◌+◌, ◌∙◌, ℕ, get_or, set, length-set, sym, subst, arith, below_more}
use Rattle.std.proofs.lemmas.List.{get_or-set_same, get_or-set_other}
use Rattle.brick_arena.specs.Slots.{IsLive, words_of}
use Rattle.support_forest.proofs.Store.{still_live}
use Rattle.voxel_tests.proofs.bricks.seventy.Goals as goal

pub loop-k-preserved : goal.loop-k-preserved
loop-k-preserved g c =
    let slot = c.in_ok-slot.slot in
    let stays = λ (q : ℕ) (live : IsLive c.taken.new.bricks q).
    subst (λ v. IsLive v q) (sym c.set_word.ensures.value) (still_live c.taken.new.bricks slot (set (words_of c.taken.new.bricks slot) 511 (slot + 1)) q live) in (
      length-set c.loop-k.slots c.loop-k.k slot ∙ c.loop-k.invariant.0,
      below_more (λ j. IsLive c.set_word.new.self (get_or (set c.loop-k.slots c.loop-k.k slot) j 0)) c.loop-k.k
          (λ j lt. subst (IsLive c.set_word.new.self) (sym (get_or-set_other c.loop-k.slots c.loop-k.k j slot 0 (λ e. absurd (omega (arith, e, lt)))))
          (stays (get_or c.loop-k.slots j 0) (c.in_ok-slot.ensures.others (get_or c.loop-k.slots j 0) (c.loop-k.invariant.1 j lt))))
          (subst (IsLive c.set_word.new.self) (sym (get_or-set_same c.loop-k.slots c.loop-k.k slot 0 (omega (arith, c.loop-k.invariant.0)))) (stays slot c.in_ok-slot.ensures.live)),
    )
