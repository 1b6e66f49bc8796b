-- The contents of the lent files.
use Rattle.std.proofs.Common.{◌≡◌, ℕ, List, Bool, true, false, cond, refl, sym, ap, ◌∙◌, subst}
use Rattle.std.specs.Prelude.{IfSome, Option, Some, None}
use Rattle.std.specs.FinMap.{empty, insert, get-empty, get-insert}
use Rattle.std.specs.Str.{bytes_eq}
use Rattle.std.proofs.lemmas.Cmp.{nat_list_cmp_total}
use Rattle.std.proofs.lemmas.Map.Text.{is_eq-slice_cmp}
use Rattle.std.proofs.lemmas.Slice.Eq.{bytes_eq-Decides}
use Rattle.vox_depot.specs.Files.{Files, content}
use Rattle.nanobot_c.specs.Lent.{lent, plan_name, source_name, target_name, trace_name}

tied : (files : Files) (key bytes name : List ℕ) (b : Bool) → bytes_eq name key ≡ b
    → content (insert files key bytes) name ≡ cond b (Some bytes) (content files name)
tied files key bytes name b e = get-insert nat_list_cmp_total files key bytes name ∙ ap (λ t. cond t (Some bytes) (content files name)) (is_eq-slice_cmp name key ∙ e)

-- a file that was stored has its bytes
pub own_content : (files : Files) (key bytes : List ℕ) → content (insert files key bytes) key ≡ Some bytes
own_content files key bytes = tied files key bytes key true ((bytes_eq-Decides key key).1 refl)

differ : (name key : List ℕ) → (name ≡ key → ⊥) → bytes_eq name key ≡ false
differ name key other = by (bytes_eq name key) refl
  where
    by : (b : Bool) → bytes_eq name key ≡ b → bytes_eq name key ≡ false
    by true e = absurd (other ((bytes_eq-Decides name key).0 e))
    by false e = e

module _ (source target trace : List ℕ) where
  -- the bytes of the file of a name, by the tests of the name
  held : (name : List ℕ) (s t b : Bool) → bytes_eq name source_name ≡ s → bytes_eq name target_name ≡ t
      → bytes_eq name trace_name ≡ b
      → content (lent source target trace) name ≡ cond b (Some trace) (cond t (Some target) (cond s (Some source) None))
  held name s t b s_is t_is b_is =
      tied (insert (insert empty source_name source) target_name target) trace_name trace name b b_is
      ∙ ap (cond b (Some trace)) (tied (insert empty source_name source) target_name target name t t_is ∙ ap (cond t (Some target)) (tied empty source_name source name s s_is ∙ ap (cond s (Some source)) (get-empty _ name)))

  pub holds_source : (name : List ℕ) → name ≡ source_name → content (lent source target trace) name ≡ Some source
  holds_source name e = subst (λ n. content (lent source target trace) n ≡ Some source) (sym e) (held source_name true false false refl refl refl)

  pub holds_target : (name : List ℕ) → name ≡ target_name → content (lent source target trace) name ≡ Some target
  holds_target name e = subst (λ n. content (lent source target trace) n ≡ Some target) (sym e) (held target_name false true false refl refl refl)

  pub holds_trace : (name : List ℕ) → name ≡ trace_name → content (lent source target trace) name ≡ Some trace
  holds_trace name e = subst (λ n. content (lent source target trace) n ≡ Some trace) (sym e) (held trace_name false false true refl refl refl)

  pub holds_none : (name : List ℕ) → (name ≡ source_name → ⊥) → (name ≡ target_name → ⊥) → (name ≡ trace_name → ⊥)
      → content (lent source target trace) name ≡ None
  holds_none name s t b = held name false false false (differ name source_name s) (differ name target_name t) (differ name trace_name b)

  pub holds_no_plan : (name : List ℕ) → Some plan_name ≡ Some name → content (lent source target trace) name ≡ None
  holds_no_plan name e = subst (λ (o : Option (List ℕ)). IfSome o (λ n. content (lent source target trace) n ≡ None)) e (held plan_name false false false refl refl refl)
