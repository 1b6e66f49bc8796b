-- The matrix after a list of edits.
use Rattle.std.proofs.Common.{◌≡◌, zero, suc, inl, inr, refl, sym, ◌∙◌, ap, arith, Bool, true, false, ◌&&◌, ◌||◌, not, List, [], ◌∷◌}
use Rattle.std.specs.List.{Contains}
use Rattle.std.proofs.lemmas.Bool.{false≢true}
use Rattle.vox_geom.specs.declared.coordinate.Coord.{Coord}
use Rattle.vox_geom.specs.Point.{point, same_point}
use Rattle.vox_geom.proofs.Truths.{one_of_two, or_by_first, or_by_second, same_truth}
use Rattle.vox_geom.proofs.Points.{coordinate_by_test}
use Rattle.nano_spec.specs.Matrix.{Matrix, is_full}
use Rattle.support_forest.specs.Edits.{Edit, adds, removes, AreEdited, is_among, is_left}
use Rattle.support_forest.specs.ForestView.{AreAdded, AreRemoved}
use Rattle.support_forest.proofs.Counts.{later}
use Rattle.support_forest.proofs.Levels.{same_point_itself}

and_not : (a b : Bool) → a ≡ true → (b ≡ true → ⊥) → (a && not b) ≡ true
and_not true true h n = absurd (n refl)
and_not true false h n = refl
and_not false b h n = cc

and_first : (a b : Bool) → (a && not b) ≡ true → a ≡ true
and_first true b h = refl
and_first false b h = h

and_second : (a b : Bool) → (a && not b) ≡ true → b ≡ true → ⊥
and_second true b h e = false≢true (sym (ap not e) ∙ h)
and_second false b h e = cc

among_is : (c : Coord) (cells : List Coord) → is_among c cells ≡ true → Contains cells c
among_is c [] h = cc
among_is c (d ∷ more) h = elim (one_of_two (same_point (point c) (point d)) (is_among c more) h) [
  | inl e ↦ (0, omega arith, sym (coordinate_by_test c d e))
  | inr e ↦ later d c more (among_is c more e)
]

is_among_all : (c : Coord) (cells : List Coord) → Contains cells c → is_among c cells ≡ true
is_among_all c [] (k, l, e) = absurd (omega arith)
is_among_all c (d ∷ more) (zero, l, e) = or_by_first (same_point (point c) (point d)) (is_among c more) (ap (λ (x : Coord). same_point (point c) (point x)) e ∙ same_point_itself c)
is_among_all c (d ∷ more) (suc k, l, e) = or_by_second (same_point (point c) (point d)) (is_among c more) (is_among_all c more (k, omega arith, e))

full_added : (old new : Matrix) (cells : List Coord) (c : Coord) → AreAdded old new cells
    → is_full new c ≡ (is_full old c || is_among c cells)
full_added old new cells c a = same_truth (is_full new c) (is_full old c || is_among c cells)
    (λ h. elim (a.full c h) [ inl o ↦ or_by_first (is_full old c) (is_among c cells) o | inr m ↦ or_by_second (is_full old c) (is_among c cells) (is_among_all c cells m) ])
    (λ h. elim (one_of_two (is_full old c) (is_among c cells) h) [ inl o ↦ a.kept c o | inr m ↦ a.added c (among_is c cells m) ])

full_removed : (old new : Matrix) (cells : List Coord) (c : Coord) → AreRemoved old new cells
    → is_full new c ≡ (is_full old c && not (is_among c cells))
full_removed old new cells c a = same_truth (is_full new c) (is_full old c && not (is_among c cells))
    (λ h. and_not (is_full old c) (is_among c cells) (a.full c h) (λ m. false≢true (sym (a.gone c (among_is c cells m)) ∙ h)))
    (λ h. elim (a.kept c (and_first (is_full old c) (is_among c cells) h)) [ inl n ↦ n | inr m ↦ absurd (and_second (is_full old c) (is_among c cells) h (is_among_all c cells m)) ])

pub left_by : (edits : List Edit) (old new : Matrix) (c : Coord) → AreEdited old edits new
    → is_full new c ≡ is_left edits c (is_full old c)
left_by [] old new c e = ap (λ (m : Matrix). is_full m c) e
left_by (adds cells ∷ more) old new c e = left_by more e.0 new c e.2 ∙ ap (is_left more c) (full_added old e.0 cells c e.1)
left_by (removes cells ∷ more) old new c e = left_by more e.0 new c e.2 ∙ ap (is_left more c) (full_removed old e.0 cells c e.1)

pub same_resolution : (edits : List Edit) (old new : Matrix) → AreEdited old edits new → new.resolution ≡ old.resolution
same_resolution [] old new e = ap (λ (m : Matrix). m.resolution) e
same_resolution (adds cells ∷ more) old new e = same_resolution more e.0 new e.2 ∙ e.1.resolution
same_resolution (removes cells ∷ more) old new e = same_resolution more e.0 new e.2 ∙ e.1.resolution
