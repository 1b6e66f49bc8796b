-- Arguments are at most one command.
use Rattle.std.proofs.Common.{◌≡◌, ℕ, List, [], ◌∷◌, Option, codes, decimal, refl, arith, sym, ap, ◌∙◌, subst}
use Rattle.std.specs.Str.{bytes_eq}
use Rattle.std.specs.Prelude.{All, IsFalse, IsTrue}
use Rattle.std.proofs.lemmas.Fmt.{decimal_injective}
use Rattle.nanobot_words.specs.declared.planner.Planner.{Planner}
use Rattle.nanobot_words.specs.declared.row.Round.TheVariants.{Full, Light}
use Rattle.nanobot_words.specs.Rows.{Row, asm, check, debug, dis, exercise, make, plan, run, planner_word, row_words, side_word, CanForge, IsName, IsRow, with_side}
use Rattle.nanobot_words.proofs.Parsed.{first_named, same_planner, same_side, second_named, trace_last}

-- the first word
abbrev first_word : List (List ℕ) → List ℕ
first_word [] = []
first_word (w ∷ ws) = w

-- rows whose first words differ are written otherwise
other_heads : (row row' : Row) → IsTrue (bytes_eq (first_word (row_words row)) (first_word (row_words row)))
    → IsFalse (bytes_eq (first_word (row_words row)) (first_word (row_words row'))) → row_words row ≡ row_words row' → ⊥
other_heads row row' same other e = let bytes_equal = subst (λ ws. IsTrue (bytes_eq (first_word (row_words row)) (first_word ws))) e same in cc

check_check : (m m' : List ℕ) → row_words (check m) ≡ row_words (check m') → check m ≡ check m'
check_check m m' e = cc

same_asm : (x b x' b' : List ℕ) → row_words (asm x b) ≡ row_words (asm x' b') → asm x b ≡ asm x' b'
same_asm x b x' b' e = cc

same_dis : (b x b' x' : List ℕ) → row_words (dis b x) ≡ row_words (dis b' x') → dis b x ≡ dis b' x'
same_dis b x b' x' e = cc

-- a source, a target and a trace are those of their words
same_operands : (f : Option (List ℕ) → Option (List ℕ) → List ℕ → Row) (s t s' t' : Option (List ℕ)) (b b' : List ℕ)
    → All IsName (with_side s (with_side t (b ∷ []))) → All IsName (with_side s' (with_side t' (b' ∷ [])))
    → side_word s ≡ side_word s' → side_word t ≡ side_word t' → b ≡ b' → f s t b ≡ f s' t' b'
same_operands f s t s' t' b b' h h' es et eb =
    let ps = same_side s s' (first_named s t b h) (first_named s' t' b' h') es in
    let pt = same_side t t' (second_named s t b h) (second_named s' t' b' h') et in
    λ i. f (ps i) (pt i) (eb i)

-- a number and a resolution are those of their words
same_numbers : (n r n' r' : ℕ) → CanForge n r → CanForge n' r' → decimal n ≡ decimal n' → decimal r ≡ decimal r'
    → (n ≡ n') × (r ≡ r')
same_numbers n r n' r' a b en er = (decimal_injective n n' (omega arith) (omega arith) en, decimal_injective r r' (omega arith) (omega arith) er)

same_debug : (s b x s' b' x' : List ℕ) → row_words (debug s b x) ≡ row_words (debug s' b' x')
    → debug s b x ≡ debug s' b' x'
same_debug s b x s' b' x' e = cc

full_light : (s t s' t' : Option (List ℕ)) (b b' : List ℕ) → row_words (run Full s t b) ≡ row_words (run Light s' t' b')
    → ⊥
full_light s t s' t' b b' e = cc

pub row_once : (words : List (List ℕ)) (row row' : Row) → IsRow words row → IsRow words row' → row ≡ row'
row_once words (check m) (check m') h h' = check_check m m' (sym h.written ∙ h'.written)
row_once words (run Full s t b) (run Full s' t' b') h h' =
    let same_codes : codes "run" ∷ side_word s ∷ side_word t ∷ b ∷ [] ≡ codes "run" ∷ side_word s' ∷ side_word t' ∷ b' ∷ [] = sym h.written ∙ h'.written in
    same_operands (run Full) s t s' t' b b' h.named h'.named (cc) (cc) (cc)
row_once words (run Light s t b) (run Light s' t' b') h h' =
    let same_codes : codes "run" ∷ codes "light" ∷ side_word s ∷ side_word t ∷ b ∷ [] ≡ codes "run" ∷ codes "light" ∷ side_word s' ∷ side_word t' ∷ b' ∷ [] = sym h.written ∙ h'.written in
    same_operands (run Light) s t s' t' b b' h.named h'.named (cc) (cc) (cc)
row_once words (run Full s t b) (run Light s' t' b') h h' = absurd (full_light s t s' t' b b' (sym h.written ∙ h'.written))
row_once words (run Light s t b) (run Full s' t' b') h h' = absurd (full_light s' t' s t b' b (sym h'.written ∙ h.written))
row_once words (asm x b) (asm x' b') h h' = same_asm x b x' b' (sym h.written ∙ h'.written)
row_once words (dis b x) (dis b' x') h h' = same_dis b x b' x' (sym h.written ∙ h'.written)
row_once words (make n r m) (make n' r' m') h h' =
    let same_codes : codes "make" ∷ decimal n ∷ decimal r ∷ m ∷ [] ≡ codes "make" ∷ decimal n' ∷ decimal r' ∷ m' ∷ [] = sym h.written ∙ h'.written in
    let em : m ≡ m' = cc in
    let same = same_numbers n r n' r' h.of_table h'.of_table (cc) (cc) in
    λ i. make (same.0 i) (same.1 i) (em i)
row_once words (plan p s t b) (plan p' s' t' b') h h' =
    let same_codes : codes "plan" ∷ planner_word p ∷ side_word s ∷ side_word t ∷ b ∷ [] ≡ codes "plan" ∷ planner_word p' ∷ side_word s' ∷ side_word t' ∷ b' ∷ [] = sym h.written ∙ h'.written in
    ap (λ (planner : Planner). plan planner s t b) (same_planner p p' (cc)) ∙ same_operands (plan p') s t s' t' b b' (trace_last s t b h.named) (trace_last s' t' b' h'.named) (cc) (cc) (cc)
row_once words (exercise n r) (exercise n' r') h h' =
    let same_codes : codes "exercise" ∷ decimal n ∷ decimal r ∷ [] ≡ codes "exercise" ∷ decimal n' ∷ decimal r' ∷ [] = sym h.written ∙ h'.written in
    let same = same_numbers n r n' r' h.of_table h'.of_table (cc) (cc) in
    λ i. exercise (same.0 i) (same.1 i)
row_once words (debug s b x) (debug s' b' x') h h' = same_debug s b x s' b' x' (sym h.written ∙ h'.written)
row_once words row row' h h' = absurd (other_heads row row' refl refl (sym h.written ∙ h'.written))
