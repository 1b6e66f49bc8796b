-- Properties of the state after a change of one part.
use Rattle.std.proofs.Common.{◌≡◌, ℕ, zero, suc, ◌<◌, refl, sym, subst, arith, length, inl, inr, List, [], ◌∷◌, get_or}
use Rattle.std.specs.Prelude.{All, Option, Some, None, IfSome, IsSome}
use Rattle.vox_geom.specs.declared.coordinate.Coord.{Coord}
use Rattle.vox_geom.specs.Point.{point}
use Rattle.vox_geom.specs.Space.{IsInSpace}
use Rattle.nano_spec.specs.declared.system.Bot.{Bot}
use Rattle.nano_spec.specs.Bots.{moved}
use Rattle.step_order.proofs.Lists.{In, place_in}
use Rattle.bot_crew.specs.Crew.{IsActive, bot_of, replaced}
use Rattle.system_state.proofs.Bots.{all_replaced, in_all}

-- the bots are in space after one of them moved
pub moved_within : (r : ℕ) (bots now : List Bot) (bid : ℕ) (c : Coord) → All (λ b. IsInSpace r b.pos) bots
    → IsInSpace r c → IsActive bots bid
    → IfSome (bot_of bots bid) (λ b. now ≡ replaced bots (bid ∷ []) (moved b (point c) ∷ []))
    → All (λ b. IsInSpace r b.pos) now
moved_within r bots now bid c within there active is = by (bot_of bots bid) active is
  where
    only : (n : Bot) → IsInSpace r n.pos → (b : Bot) → In b (n ∷ []) → IsInSpace r b.pos
    only n w b (inl e) = subst (λ (a : Bot). IsInSpace r a.pos) (sym e) w
    only n w b (inr i) = absurd i

    by : (o : Option Bot) → IsSome o → IfSome o (λ b. now ≡ replaced bots (bid ∷ []) (moved b (point c) ∷ []))
        → All (λ b. IsInSpace r b.pos) now
    by None a e = cc
    by (Some b) a e = subst (λ (bs : List Bot). All (λ x. IsInSpace r x.pos) bs) (sym e)
        (λ k d l. all_replaced (λ (x : Bot). IsInSpace r x.pos) bots (bid ∷ []) (moved b (point c) ∷ []) (in_all r bots within) (only (moved b (point c)) there) (get_or (replaced bots (bid ∷ []) (moved b (point c) ∷ [])) k d) (place_in d (replaced bots (bid ∷ []) (moved b (point c) ∷ [])) k l))

-- and after the only one moved
pub only_within : (r : ℕ) (bots now : List Bot) (c : Coord) → length bots ≡ 1 → IsInSpace r c
    → ((b : Bot) → bots ≡ b ∷ [] → now ≡ moved b (point c) ∷ []) → All (λ b. IsInSpace r b.pos) now
only_within r [] now c one there is = absurd (omega (arith, one))
only_within r (a ∷ b ∷ bots) now c one there is = absurd (omega (arith, one))
only_within r (a ∷ []) now c one there is = subst (λ (bs : List Bot). All (λ b. IsInSpace r b.pos) bs) (sym (is a refl)) (λ k d l. only k d l)
  where
    only : (k : ℕ) (d : Bot) → k < 1 → IsInSpace r (get_or (moved a (point c) ∷ []) k d).pos
    only zero d l = there
    only (suc k) d l = absurd (omega (arith, l))
