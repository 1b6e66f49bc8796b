-- Notes one after another, and their points.
use Rattle.std.proofs.Common.{◌≡◌, ℕ, zero, suc, ◌-◌, refl, sym, ◌∙◌, ap, subst, arith, List, [], ◌∷◌, ◌++◌, length, take, drop}
use Rattle.std.specs.Prelude.{Some, slice_get}
use Rattle.step_machine.specs.declared.undo.Undo.{Undo}
use Rattle.step_debugger.specs.Session.{SessionPoint, latest}
use Rattle.step_debugger.specs.Debugging.{earliest, point_before, points_of}
use Rattle.step_debugger.specs.Kept.{LeadTo, LeadsTo}

pub points_many : (p : SessionPoint) (notes : List Undo) → length (points_of p notes) ≡ length notes
points_many p [] = refl
points_many p (u ∷ notes) = ap suc (points_many p notes)

-- ---- one more note

pub earliest_more : (p : SessionPoint) (notes : List Undo) (u : Undo)
    → earliest p (notes ++ u ∷ []) ≡ earliest (point_before p u) notes
earliest_more p [] u = refl
earliest_more p (n ∷ notes) u = ap (λ (q : SessionPoint). point_before q n) (earliest_more p notes u)

pub points_more : (p : SessionPoint) (notes : List Undo) (u : Undo)
    → points_of p (notes ++ u ∷ []) ≡ points_of (point_before p u) notes ++ point_before p u ∷ []
points_more p [] u = refl
points_more p (n ∷ notes) u = λ i. point_before (earliest_more p notes u i) n ∷ points_more p notes u i

pub lead_more : (p : SessionPoint) (notes : List Undo) (u : Undo) → LeadTo (point_before p u) notes → LeadsTo p u
    → LeadTo p (notes ++ u ∷ [])
lead_more p [] u h l = (l, tt)
lead_more p (n ∷ notes) u h l = (subst (λ (q : SessionPoint). LeadsTo q n) (sym (earliest_more p notes u)) h.0, lead_more p notes u h.1 l)

pub lead_less : (p : SessionPoint) (notes : List Undo) (u : Undo) → LeadTo p (notes ++ u ∷ [])
    → LeadsTo p u × LeadTo (point_before p u) notes
lead_less p [] u h = (h.0, tt)
lead_less p (n ∷ notes) u h = let leads_less = lead_less p notes u h.1 in (leads_less.0, (subst (λ (q : SessionPoint). LeadsTo q n) (earliest_more p notes u) h.0, leads_less.1))

-- ---- without the oldest

pub points_drop : (p : SessionPoint) (k : ℕ) (notes : List Undo)
    → points_of p (drop k notes) ≡ drop k (points_of p notes)
points_drop p zero notes = refl
points_drop p (suc k) [] = refl
points_drop p (suc k) (n ∷ notes) = points_drop p k notes

pub lead_drop : (p : SessionPoint) (k : ℕ) (notes : List Undo) → LeadTo p notes → LeadTo p (drop k notes)
lead_drop p zero notes h = h
lead_drop p (suc k) [] h = tt
lead_drop p (suc k) (n ∷ notes) h = lead_drop p k notes h.1

pub points_latest : (p : SessionPoint) (k : ℕ) (notes : List Undo)
    → points_of p (latest k notes) ≡ latest k (points_of p notes)
points_latest p k notes = points_drop p (length notes - k) notes ∙ ap (λ n. drop (n - k) (points_of p notes)) (sym (points_many p notes))

-- ---- the last

pub last_split : {X : Type 0} (xs : List X) (x : X) → slice_get xs (length xs - 1) ≡ Some x
    → xs ≡ take (length xs - 1) xs ++ x ∷ []
last_split [] x h = cc
last_split (y ∷ []) x h = let y_is_x : y ≡ x = cc in ap (λ z. z ∷ []) y_is_x
last_split {X} (y ∷ z ∷ xs) x h =
    let less : length (y ∷ z ∷ xs) - 1 ≡ suc (length (z ∷ xs) - 1) = omega arith in
    ap (λ (ys : List X). y ∷ ys) (last_split (z ∷ xs) x (subst (λ (n : ℕ). slice_get (y ∷ z ∷ xs) n ≡ Some x) less h)) ∙ ap (λ n. take n (y ∷ z ∷ xs) ++ x ∷ []) (sym less)
