-- Consecutive offsets of a chunk are taken out as room for an array, and put back with one word in each. Assumes
-- `Logic`.
use mathlib.Core.Path.{◌≡◌, refl, sym, ap, subst, ◌∙◌}
use Prim.Native.Nat.{ℕ, zero, suc, ◌+◌, ◌*◌, ◌-◌, ◌^◌, ◌<◌, ◌≤◌}
use native.Mathlib.Omega.{arith}
use mathlib.Core.List.{List, [], ◌∷◌, ◌++◌}
use lib.Dec.{T}
use lib.ListN.{length, take, drop, get_or, replicate, take-append-drop, length-take, length-drop, length-append, length-replicate}
use seplogic.Ra.Ura.{Ura}
use base.Fraction.{full_share}
use mir.Syntax.{ty_int, ty_array, w32}
use mir.Val.{Val, vint, vstruct, of_list, all_n, has_ty, WTs}
use prog.Align.{both}
use prog.Model.{elems}
use base.Logic.{ent, sep, emp, via, mono∗, id⊢}
use base.Fml.{Fml, fsep, froom, fat}
use types.Logic.{Logic, sem}
use types.Kit.{‵, ◌⊛◌, ◌$◌, ◌∵◌, !, qed, move, use1, use2, split, fsplit, fjoin, rewrite, done}
use denote.Plain.{uint_in}
use Rattle.std.specs.Prelude.{Option, Some, None}
use Rattle.std.proofs.lemmas.List.{get_or-append_right, get_or_append_left, get_or-replicate, get_or-take, get_or-drop}
use Rattle.brick_arena.specs.Chunks.{SetsRange}
use Rattle.brick_arena.specs.Ownership.{word_places}
use Rattle.brick_arena.proofs.Places.{cut, glue, to_room}

-- the machine value of a word n times
abbrev pub line : ℕ → ℕ → List Val
line n w = replicate n (vint w32 w)

pub typed_line : (n w : ℕ) → w < 2 ^ 32
    → T (all_n (has_ty (ty_int w32)) n (of_list (line n w))) × WTs (of_list (line n w))
typed_line zero w f = (tt, tt)
typed_line (suc n) w f =
    (both (has_ty (ty_int w32) (vint w32 w)) (all_n (has_ty (ty_int w32)) n (of_list (line n w))) tt (typed_line n w f).0, (record { fits = f }, (typed_line n w f).1))

-- the offsets with the word in n of them from the i-th on
abbrev pub lined : ℕ → ℕ → List (Option ℕ) → ℕ → List (Option ℕ)
lined n w cs i = take i cs ++ (replicate n (Some w) ++ drop n (drop i cs))

module _ {M : Type 1} {𝓤 : Ura M} (𝓛 : Logic 𝓤) (b : ℕ) where
  open 𝓛 use {H}

  of_line : (n w o : ℕ)
      → ent 𝓤 (elems 𝓤 H full_share (ty_int w32) b o (line n w)) (sem 𝓛 (word_places b o (replicate n (Some w))))
  of_line zero w o = id⊢ 𝓤 (emp 𝓤)
  of_line (suc n) w o = mono∗ 𝓤 (uint_in 𝓛 full_share w32 w b o) (of_line n w (o + 4))

  module _ (n o : ℕ) (cs : List (Option ℕ)) (i : ℕ) where
    -- the offsets without the n from the i-th on
    abbrev pub Around : Fml
    Around = fsep (word_places b o (take i cs)) (word_places b (n * 4 + (i * 4 + o)) (drop n (drop i cs)))

    before : i ≤ length cs → i * 4 + o ≡ length (take i cs) * 4 + o
    before le = let long : i ≡ length (take i cs) = omega (arith, length-take i cs) in ap (λ k. k * 4 + o) long

    abbrev mid : List (Option ℕ)
    mid = take n (drop i cs)

    abbrev rest : List (Option ℕ)
    rest = drop n (drop i cs)

    pub line_out : i + n ≤ length cs
        → ent 𝓤 (sem 𝓛 (word_places b o cs)) (sep 𝓤 (H.room (ty_array (ty_int w32) n) b (i * 4 + o)) (sem 𝓛 Around))
    line_out lt =
        let long : length mid ≡ n = omega (arith, length-take n (drop i cs), length-drop i cs) in
        qed 𝓛 (‵ (word_places b o cs) ∷ []) ∵
        rewrite ! 0 (λ (l : List (Option ℕ)). ‵ (word_places b o l)) (sym (take-append-drop i cs) ∙ ap (λ l. take i cs ++ l) (sym (take-append-drop n (drop i cs)))) refl $
        use1 𝓛 (‵ (word_places b o (take i cs)) ⊛ ‵ (word_places b (i * 4 + o) (mid ++ rest))) (cut 𝓛 b (take i cs) (mid ++ rest) o (i * 4 + o) (before (omega arith))) $ split ! $ move ! (1 ∷ []) $
        use1 𝓛 (‵ (word_places b (i * 4 + o) mid) ⊛ ‵ (word_places b (n * 4 + (i * 4 + o)) rest)) (cut 𝓛 b mid rest (i * 4 + o) (n * 4 + (i * 4 + o)) (ap (λ k. k * 4 + (i * 4 + o)) (sym long))) $ split ! $
        use1 𝓛 (‵ (froom (ty_array (ty_int w32) n) b (i * 4 + o))) (subst (λ (k : ℕ). ent 𝓤 (sem 𝓛 (word_places b (i * 4 + o) mid)) (H.room (ty_array (ty_int w32) k) b (i * 4 + o))) long (to_room 𝓛 b mid (i * 4 + o))) $
        move ! (2 ∷ 1 ∷ []) $ fjoin ! $ move ! (1 ∷ []) $ done !

    pub line_in : (w : ℕ) → i + n ≤ length cs → ent 𝓤
        (sep 𝓤 (H.at full_share (ty_array (ty_int w32) n) b (i * 4 + o) (vstruct (of_list (line n w)))) (sem 𝓛 Around))
        (sem 𝓛 (word_places b o (lined n w cs i)))
    line_in w lt =
        let zs : List (Option ℕ) = replicate n (Some w) in
        qed 𝓛 (‵ (fat full_share (ty_array (ty_int w32) n) b (i * 4 + o) (vstruct (of_list (line n w)))) ∷ ‵ Around ∷ []) ∵
        use1 𝓛 (‵ (word_places b (i * 4 + o) zs)) (via 𝓤 (elems 𝓤 H full_share (ty_int w32) b (i * 4 + o) (line n w)) (𝓛.laws.at_elems full_share (ty_int w32) n b (i * 4 + o) (line n w)) (of_line n w (i * 4 + o))) $
        move ! (1 ∷ []) $ fsplit ! $ move ! (2 ∷ 1 ∷ []) $
        use2 𝓛 (‵ (word_places b (i * 4 + o) (zs ++ rest))) (glue 𝓛 b zs rest (i * 4 + o) (n * 4 + (i * 4 + o)) (ap (λ k. k * 4 + (i * 4 + o)) (sym (length-replicate n (Some w))))) $
        move ! (1 ∷ []) $ use2 𝓛 (‵ (word_places b o (lined n w cs i))) (glue 𝓛 b (take i cs) (zs ++ rest) o (i * 4 + o) (before (omega arith))) $ done !

pub length-lined : (n w : ℕ) (cs : List (Option ℕ)) (i : ℕ) → i + n ≤ length cs → length (lined n w cs i) ≡ length cs
length-lined n w cs i lt =
    omega (arith, length-append (take i cs) (replicate n (Some w) ++ drop n (drop i cs)), length-append (replicate n (Some w)) (drop n (drop i cs)), length-replicate {A = Option ℕ} n (Some w), length-take i cs, length-drop n (drop i cs), length-drop i cs)

pub lined-range : (n w : ℕ) (cs : List (Option ℕ)) (i : ℕ) → i + n ≤ length cs
    → SetsRange (Some w) None cs (lined n w cs i) i (i + n)
lined-range n w cs i lt =
    let zs : List (Option ℕ) = replicate n (Some w) in
    let rest = drop n (drop i cs) in
    let front : length (take i cs) ≡ i = omega (arith, length-take i cs) in
    record {
      same_length = length-lined n w cs i lt;
      inside = λ k from to.
          get_or-append_right (take i cs) (zs ++ rest) i k None front from
          ∙ get_or_append_left zs rest None (k - i) (omega (arith, from, to, length-replicate {A = Option ℕ} n (Some w)))
          ∙ get_or-replicate n (k - i) (Some w) None (omega (arith, from, to));
      below = λ k to. get_or_append_left (take i cs) (zs ++ rest) None k (omega (arith, front, to)) ∙ get_or-take i cs k None to;
      above = λ k from.
          let sum_is : i + (n + (k - i - n)) ≡ k = omega (arith, from) in
          get_or-append_right (take i cs) (zs ++ rest) i k None front (omega (arith, from))
          ∙ get_or-append_right zs rest n (k - i) None (length-replicate n (Some w)) (omega (arith, from))
          ∙ get_or-drop n (drop i cs) (k - i - n) None ∙ get_or-drop i cs (n + (k - i - n)) None ∙ ap (λ j. get_or cs j None) sum_is;
    }
