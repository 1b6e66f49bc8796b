-- The files that a tree of texts holds.
use Rattle.std.proofs.Common.{◌≡◌, ℕ, Bool, true, false, cond, List, [], ◌∷◌, map, Option, Some, option_map, String, Vec, string_bytes, refl, sym, ap, ◌∙◌}
use Rattle.std.specs.BTreeMap.{BTreeMap, IsEmpty, get_by_text, is_at, Updates}
use Rattle.std.specs.Map.{lookup}
use Rattle.std.specs.FinMap as finite
use Rattle.std.specs.Ordering.{nat_cmp, is_eq}
use Rattle.std.proofs.lemmas.Cmp.{nat_list_cmp_total}
use Rattle.std.specs.Cmp.Lexicographic.{slice_cmp, nat_list_eq_equiv}
use Rattle.std.specs.Str.{bytes_eq}
use Rattle.std.specs.String.{string_cmp}
use Rattle.std.proofs.lemmas.Map.Text.{is_eq-slice_cmp, btree_map_updates_text}
use Rattle.vox_depot.specs.Memory.{files_of}
use Rattle.vox_depot.specs.Files.{content}

abbrev entries_of : {Y Z : Type 0} → List (String Y × Vec ℕ Z) → List (List ℕ × List ℕ)
entries_of es = map (λ e. (string_bytes e.0, e.1.items)) es

find-entries_of : {Y Z : Type 0} (q : List ℕ) (es : List (String Y × Vec ℕ Z))
    → finite.find (slice_cmp nat_cmp) q (entries_of es)
    ≡ option_map (λ v. v.items) (lookup (is_at (λ k. slice_cmp nat_cmp q (string_bytes k))) es)
find-entries_of q [] = refl
find-entries_of q (e ∷ es) = by (λ v. v.items) (is_eq (slice_cmp nat_cmp q (string_bytes e.0))) e.1 _ _ (find-entries_of q es)
  where
    by : {A B : Type 0} (f : A → B) (b : Bool) (v : A) (x : Option B) (y : Option A) → x ≡ option_map f y
        → cond b (Some (f v)) x ≡ option_map f (cond b (Some v) y)
    by f true v x y h = refl
    by f false v x y h = h

pub content-files_of : {Y Z : Type 0} (m : BTreeMap (String Y) (Vec ℕ Z)) (q : List ℕ)
    → content (files_of m) q ≡ option_map (λ v. v.items) (get_by_text m q)
unfolding files_of
content-files_of m q = finite.get-from_entries nat_list_cmp_total (entries_of m.entries) q ∙ find-entries_of q m.entries

pub files_of-empty : {Y Z : Type 0} (m : BTreeMap (String Y) (Vec ℕ Z)) → IsEmpty m → files_of m ≡ finite.empty
unfolding files_of
files_of-empty m none = ap (λ es. finite.from_entries (entries_of es)) none

pub files_of-insert : {Y Z : Type 0} (m n : BTreeMap (String Y) (Vec ℕ Z)) (k : String Y) (v : Vec ℕ Z)
    → Updates string_cmp m n k (Some v) → files_of n ≡ finite.insert (files_of m) (string_bytes k) v.items
files_of-insert m n k v updates =
    finite.same_map nat_list_cmp_total (finite.slice_cmp-IsAntisymmetric finite.nat_cmp-IsAntisymmetric) (files_of n) (finite.insert (files_of m) (string_bytes k) v.items) (λ q.
    content-files_of n q ∙ ap (option_map (λ v. v.items)) (btree_map_updates_text (string_bytes k) m n (Some v) updates q) ∙ at q (bytes_eq (string_bytes k) q)
    ∙ ap (λ b. cond b (Some v.items) (content (files_of m) q)) (nat_list_eq_equiv.symm (string_bytes k) q ∙ sym (is_eq-slice_cmp q (string_bytes k)))
    ∙ sym (finite.get-insert nat_list_cmp_total (files_of m) (string_bytes k) v.items q))
  where
    at : (q : List ℕ) (b : Bool)
        → option_map (λ v. v.items) (cond b (Some v) (get_by_text m q)) ≡ cond b (Some v.items) (content (files_of m) q)
    at q true = refl
    at q false = sym (content-files_of m q)

pub files_of-same : {Y Z : Type 0} (m n : BTreeMap (String Y) (Vec ℕ Z)) → n.entries ≡ m.entries
    → files_of n ≡ files_of m
unfolding files_of
files_of-same m n same = ap (λ es. finite.from_entries (entries_of es)) same
