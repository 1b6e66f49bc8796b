use Rattle.std.proofs.Common.{◌≡◌, inl, inr, ◌⊎◌, true, false}
use Rattle.vox_geom.specs.declared.coordinate.Coord.{Coord}
use Rattle.vox_geom.specs.Point.{point}
use Rattle.nano_spec.specs.Act.{Act, acts}
use Rattle.nano_spec.specs.Group.{are_together}
use Rattle.nano_spec.specs.Volatile.{is_volatile_of}
use Rattle.step_order.proofs.Judgements.{Agree, containing, unbroken_by}
use Rattle.step_order.proofs.Lists.{not_both, true_or_false}
use Rattle.step_order.proofs.conditions.nothing_is_broken.Goals as goal

agree : (a b : Act) → (are_together a b ≡ true) ⊎ (are_together a b ≡ false)
    → (are_together a b ≡ false → (c : Coord) → is_volatile_of (point c) a ≡ true → is_volatile_of (point c) b ≡ false)
    → Agree a b
agree a b (inl t) h = inl t
agree a b (inr f) h = inr (λ c v w. not_both w (h f c v))

pub returns : goal.returns
returns c = λ s commands step ready lengths faultless clear. unbroken_by s commands step ready lengths
    (λ a rule i. faultless a rule (containing (acts s.bots commands) a i))
    (λ a b i j. agree a b (true_or_false (are_together a b)) (clear a b (containing (acts s.bots commands) a i) (containing (acts s.bots commands) b j)))
