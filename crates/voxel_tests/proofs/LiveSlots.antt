-- The live slots after a write, or after a slot is freed.
use Rattle.std.proofs.Common.{◌≡◌, ℕ, cond, None, is_some, ap, ◌∙◌}
use Rattle.std.proofs.lemmas.Bool.{ne_eqb}
use Rattle.std.specs.Cmp.{nat_cmp_total, unsigned_tied}
use Rattle.std.specs.FinMap.{get, remove, get-remove}
use Rattle.brick_arena.specs.Slots.{Slots, IsLive}

pub live-remove : (v : Slots) (s q : ℕ) → (q ≡ s → ⊥) → IsLive v q → IsLive (remove v s) q
live-remove v s q ne live = ap is_some (get-remove nat_cmp_total v s q ∙ ap (λ b. cond b None (get v q)) (unsigned_tied q s ∙ ne_eqb q s ne)) ∙ live
