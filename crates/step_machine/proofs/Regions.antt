-- The region that a command fills or voids, and its coordinates.
use Rattle.std.proofs.Common.{◌≡◌, ℕ, refl, sym, ◌∙◌, ap, List, [], ◌∷◌, Bool, true, false, cond, ◌||◌, not}
use Rattle.std.specs.Bool.{beq}
use Rattle.std.specs.List.{list_any}
use Rattle.vox_geom.specs.declared.coordinate.Coord.{Coord}
use Rattle.vox_geom.specs.Point.{point}
use Rattle.vox_geom.specs.Region.{Span, is_within, span}
use Rattle.nano_spec.specs.declared.commands.Command.{Command}
use Rattle.nano_spec.specs.declared.commands.Command.TheVariants.{Fill, Void, GFill, GVoid}
use Rattle.nano_spec.specs.declared.system.Bot.{Bot}
use Rattle.nano_spec.specs.Act.{Act, filled, voided}
use Rattle.step_order.proofs.Lists.{not_both}
use Rattle.system_state.specs.declared.edited.EditedRegion.{EditedRegion}
use Rattle.system_state.specs.Edited.{IsIdle, IsEditedRegion}
use Rattle.step_machine.specs.Edits.{is_change, is_edited}
use Rattle.step_groups.specs.Judging.{act}

or_false : (b : Bool) → b ≡ (b || false)
or_false true = refl
or_false false = refl

one : (s : Span) (spans : List Span) (c : Coord) → spans ≡ s ∷ []
    → is_within s (point c) ≡ list_any (λ t. is_within t (point c)) spans
one s spans c e = or_false (is_within s (point c)) ∙ ap (λ ts. list_any (λ t. is_within t (point c)) ts) (sym e)

none : (spans : List Span) (c : Coord) → spans ≡ [] → false ≡ list_any (λ t. is_within t (point c)) spans
none spans c e = ap (λ ts. list_any (λ t. is_within t (point c)) ts) (sym e)

-- the region is edited, unless it is already as it should be
pub edits_region : (r : ℕ) (b : Bot) (k : Command) (w : EditedRegion) (full : Bool) → IsEditedRegion r b k w
    → beq w.full full ≡ false → (c : Coord) → is_within (span w.region) (point c) ≡ is_edited full (act b k) c
edits_region r b k w full h e c = h.covers (point c) ∙ by w.full full h.filled h.voided e
  where
    by : (f full : Bool) → filled (point b.pos) k ≡ cond f (h.named ∷ []) []
        → voided (point b.pos) k ≡ cond f [] (h.named ∷ []) → beq f full ≡ false
        → is_within h.named (point c) ≡ is_edited full (act b k) c
    by true true p q e = cc
    by true false p q e = one h.named (filled (point b.pos) k) c p
    by false true p q e = one h.named (voided (point b.pos) k) c q
    by false false p q e = cc

-- nothing else is edited
pub edits_nothing : (r : ℕ) (b : Bot) (k : Command) (w : EditedRegion) (full : Bool) → IsEditedRegion r b k w
    → beq w.full full ≡ true → (c : Coord) → false ≡ is_edited full (act b k) c
edits_nothing r b k w full h e c = by w.full full h.filled h.voided e
  where
    by : (f full : Bool) → filled (point b.pos) k ≡ cond f (h.named ∷ []) []
        → voided (point b.pos) k ≡ cond f [] (h.named ∷ []) → beq f full ≡ true → false ≡ is_edited full (act b k) c
    by true true p q e = none (voided (point b.pos) k) c q
    by true false p q e = cc
    by false true p q e = cc
    by false false p q e = none (filled (point b.pos) k) c p

-- a command that does not change so edits nothing so
pub not_change : (b : Bot) (k : Command) (full : Bool) → is_change full k ≡ false → (c : Coord)
    → false ≡ is_edited full (act b k) c
not_change b (Fill d) true h c = refl
not_change b (Fill d) false h c = cc
not_change b (Void d) true h c = cc
not_change b (Void d) false h c = refl
not_change b (GFill d f) true h c = refl
not_change b (GFill d f) false h c = cc
not_change b (GVoid d f) true h c = cc
not_change b (GVoid d f) false h c = refl
not_change b k true h c = refl
not_change b k false h c = refl

pub idle_edits_nothing : (b : Bot) (k : Command) (full : Bool) → IsIdle b k → (c : Coord)
    → false ≡ is_edited full (act b k) c
idle_edits_nothing b k true h c = none (voided (point b.pos) k) c h.voided
idle_edits_nothing b k false h c = none (filled (point b.pos) k) c h.filled

-- ---- an act voids or fills

-- whether the command voids something
abbrev pub empties : Command → Bool
empties (Void d) = true
empties (GVoid d f) = true
empties _ = false

-- a command that voids fills nothing, and the other way round
pub other_edit : (b : Bot) (command : Command) (c : Coord) → is_edited (not (empties command)) (act b command) c ≡ false
other_edit b (Fill d) c = refl
other_edit b (Void d) c = refl
other_edit b (GFill d f) c = refl
other_edit b (GVoid d f) c = refl
other_edit b k c = refl

-- no coordinate is both voided and filled by one act
pub one_edit : (a : Act) (c : Coord) → is_edited true a c ≡ true → is_edited false a c ≡ true → ⊥
one_edit a c v f = by (empties a.command) (other_edit a.bot a.command c)
  where
    by : (b : Bool) → is_edited (not b) a c ≡ false → ⊥
    by true e = not_both f e
    by false e = not_both v e
