-- Room for two bots.
use Rattle.std.proofs.Common.{◌≡◌, ℕ, ◌≤◌, refl, sym, ◌∙◌, arith, Bool, true, false}
use Rattle.nano_spec.specs.Legal.{IsLegal}
use Rattle.nano_spec.specs.Matrix.{Matrix, is_full}
use Rattle.plan_tape.specs.Lowest.{IsLowest}
use Rattle.plan_tape.proofs.LegalModels.{full_in_box}

-- if two legal models differ, there is room for two bots
pub room_for_two : (m n : Matrix) (y : ℕ) → IsLegal m → IsLegal n → m.resolution ≡ n.resolution → IsLowest m n y
    → 2 ≤ m.resolution
room_for_two m n y hm hn e h = by (is_full m h.at) (is_full n h.at) refl refl
  where
    by : (s t : Bool) → is_full m h.at ≡ s → is_full n h.at ≡ t → 2 ≤ m.resolution
    by true t f g = let in_box = full_in_box m h.at hm f in let along_x = in_box.x in let end = in_box.x_end in omega arith
    by false true f g = let in_box = full_in_box n h.at hn g in let along_x = in_box.x in let end = in_box.x_end in omega arith
    by false false f g = absurd (h.differ (f ∙ sym g))
