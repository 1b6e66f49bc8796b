-- The machine values of a handle. Assumes `Logic`.
use Rattle.std.proofs.Common.{◌≡◌, ℕ, List, [], ◌∷◌, ◌++◌, refl, subst, lit<}
use mathlib.Core.Bool.{◌&&◌}
use lib.Dec.{T}
use seplogic.Ra.Ura.{Ura}
use mir.Raw.{raw as bare}
use mir.Val.{Val, vnull, vstruct, vcons, vnil, of_list, has_ty, WT}
use base.Logic.{guard_i}
use base.Fml.{ftrue}
use types.Logic.{Logic, sem}
use types.Kit.{Item, Goal, Seq, Step, step, ‵, given, ◌$◌, move, drop, fsplit, fjoin, fpick, fpack, feq_i, feq_l, use1, learn}
use contract.Monad.{fact_use}
use denote.RattleType.{Valss}
use denote.Builtin.{RawPtr}
use denote.RawPtr.{Ptr, block_ptr, null_ptr, ptr_val, Testable}
use denote.Steps.{nothing}
use denote.Struct.Struct.{within}
use denote.Struct.Owning.{shape}
use Rattle.core.proofs.alloc.Calls.{Fits, token, handle_tells, α}
use Rattle.std_alloc.proofs.BoxSteps.Form.{B, P, τ, word, handle, owning}
use Rattle.std_alloc.proofs.BoxSteps.Steps.{box_out, box_in}
use Rattle.std_alloc.proofs.ResultValues.{and_tt}
use Rattle.std_heap.proofs.GlobalToken.{dealloc_token-Testable}
use Rattle.std.specs.declared.option.Option.{Option}
use Rattle.std.specs.declared.option.Option.TheVariants.{None, Some}
use Rattle.std.specs.Global.{Global}
use Rattle.machine_c.specs.contracts.handle.Handle as Handle
use Rattle.kept_machine.specs.Kept.{Kept}
use Rattle.machine_c.proofs.AsBox.{E}

-- the machine value of a handle with no machine
abbrev pub bare_word : Val → Val
bare_word hv = vstruct (vcons vnull (vcons hv vnil))

pub bare_typed : (hv : Val) → Fits E.al hv → T (has_ty (α E.al) hv && mathlib.Core.Bool.true) × WT (bare_word hv)
bare_typed hv fa = (and_tt (has_ty (α E.al) hv) fa.0, (record { fits = lit< tt }, (fa.1, tt)))

module _ {M : Type 1} {𝓤 : Ura M} {𝓛 : Logic 𝓤} {K : Type 0} {Γ : List (Item 𝓤)} {G : Goal 𝓤 𝓛.H} where
  -- a handle by value: it has no machine and its pointer is null, or it is a box
  pub handle_out : K → (p : Ptr) (a : Global) (t : Option Kept) (vs : List Val)
      → ((hv : Val) → t ≡ None → vs ≡ bare_word hv ∷ [] → Fits E.al hv → Seq K 𝓛 (‵ (handle E a hv) ∷ Γ) G)
      → ((x : Kept) (b o : ℕ) (hv : Val) → t ≡ Some x → Testable (block_ptr b o) → vs ≡ word E hv b o ∷ []
      → Fits E.al hv
      → Seq K 𝓛 (‵ ((B E).own_val (record { ptr = block_ptr b o; alloc = a; value = x }) (word E hv b o ∷ [])) ∷ Γ) G)
      → Seq K 𝓛 (‵ (Handle.the_row.own_val (record { at = p; alloc = a; machine = t }) vs) ∷ Γ) G
  handle_out k p a None vs none one =
      fsplit k $ fpick k (λ vss. fsplit k $ feq_l k (λ ev. fsplit k $ feq_l k (λ ep. fsplit k $ handle_tells E.al k a vss.1.0 (λ hv ea fa. move k (1 ∷ []) $ drop k $ move k (1 ∷ []) $
      fpick k (λ is. drop k $ none hv refl
      (subst (λ (q : Ptr). vs ≡ vstruct (of_list (ptr_val q ∷ hv ∷ [])) ∷ []) is
      (subst (λ (ws : List Val). vs ≡ vstruct (of_list (ptr_val p ∷ (ws ++ []))) ∷ []) ea (subst (λ (ps : List Val). vs ≡ vstruct (of_list (ps ++ (vss.1.0 ++ []))) ∷ []) ep ev))) fa)))))
  handle_out k p a (Some x) vs none one =
      box_out E k (record { ptr = p; alloc = a; value = x }) vs (λ b o hv e ws fa. move k (1 ∷ []) $
      use1 𝓛 (given (Testable (block_ptr b o)) (‵ (token E.al a (bare (τ E)) (block_ptr b o))))
      (fact_use 𝓤 (Testable (block_ptr b o)) (dealloc_token-Testable 𝓛 a (bare (τ E)) (block_ptr b o)) (guard_i 𝓤 (Testable (block_ptr b o)) (sem 𝓛 (token E.al a (bare (τ E)) (block_ptr b o))))) $
      learn k (λ t. move k (1 ∷ []) $ box_in E k (record { ptr = block_ptr b o; alloc = a; value = x }) b o x refl refl $ one x b o hv refl t ws fa))

  pub bare_in : K → (a : Global) (hv : Val) → Step K 𝓛
      (‵ (Handle.the_row.own_val (record { at = null_ptr; alloc = a; machine = None }) (bare_word hv ∷ [])) ∷ Γ) G
      (‵ (handle E a hv) ∷ Γ) G
  bare_in k a hv = step (λ s. nothing k $ fpack k (null_ptr ≡ null_ptr) (λ _. ftrue) refl $
      nothing k $ move k (2 ∷ 0 ∷ []) $ fjoin k $ feq_i k (List Val) (vnull ∷ []) (ptr_val null_ptr ∷ []) refl $ fjoin k $
      feq_i k (List Val) (bare_word hv ∷ []) (bare_word hv ∷ []) refl $ fjoin k $
      fpack k (Valss (RawPtr ∷ P E ∷ [])) (within (shape (owning E)) (null_ptr, (a, tt)) (bare_word hv ∷ [])) (vnull ∷ [], (hv ∷ [], tt)) $ fjoin k $ s)
