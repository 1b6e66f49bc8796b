-- Eight bytes as the bits of one word.
use Rattle.std.proofs.Common.{◌≡◌, ℕ, zero, suc, ◌+◌, ◌*◌, ◌/◌, ◌%◌, ◌<◌, ◌^◌, ◌==◌, sym, ◌∙◌, ap, arith, List, [], ◌∷◌}
use Rattle.std.specs.Prelude.{slice_index}
use Rattle.std.specs.Int.{from_le_bytes, w64}
use Rattle.std.proofs.Math.Nat.{div-div-eq-div-mul}
use Rattle.std.proofs.lemmas.Nat.{pow-add}
use Rattle.nano_spec.specs.Model.{bit}
use Rattle.model_file.specs.Words.{IsWordOf}

bit_beyond : (n j i : ℕ) → bit n (j + i) ≡ bit (n / 2 ^ j) i
bit_beyond n j i = ap (λ d. d % 2 == 1) (ap (λ d. n / d) (pow-add 2 j i) ∙ sym (div-div-eq-div-mul n (2 ^ j) (2 ^ i)))

-- a byte of a number has its lowest bits
byte_bit : (n i : ℕ) → i < 8 → n % 256 / 2 ^ i % 2 ≡ n / 2 ^ i % 2
byte_bit n zero l = omega arith
byte_bit n (suc zero) l = omega arith
byte_bit n (suc (suc zero)) l = omega arith
byte_bit n (suc (suc (suc zero))) l = omega arith
byte_bit n (suc (suc (suc (suc zero)))) l = omega arith
byte_bit n (suc (suc (suc (suc (suc zero))))) l = omega arith
byte_bit n (suc (suc (suc (suc (suc (suc zero)))))) l = omega arith
byte_bit n (suc (suc (suc (suc (suc (suc (suc zero))))))) l = omega arith
byte_bit n (suc (suc (suc (suc (suc (suc (suc (suc i)))))))) l = absurd (omega arith)

-- the bytes of a word, lowest first
bytes_of : (bytes : List ℕ) (at n : ℕ) → ((k : ℕ) → slice_index bytes k < 256) → n ≡ from_le_bytes w64
    (slice_index bytes at ∷ slice_index bytes (at + 1) ∷ slice_index bytes (at + 2) ∷ slice_index bytes (at + 3)
    ∷ slice_index bytes (at + 4) ∷ slice_index bytes (at + 5) ∷ slice_index bytes (at + 6) ∷ slice_index bytes (at + 7)
    ∷ []) → (j : ℕ) → j < 8 → n / 2 ^ (8 * j) % 256 ≡ slice_index bytes (at + j)
bytes_of bytes at n small e = by (small at) (small (at + 1)) (small (at + 2)) (small (at + 3)) (small (at + 4)) (small (at + 5)) (small (at + 6)) (small (at + 7))
  where
    by : slice_index bytes at < 256 → slice_index bytes (at + 1) < 256 → slice_index bytes (at + 2) < 256
        → slice_index bytes (at + 3) < 256 → slice_index bytes (at + 4) < 256 → slice_index bytes (at + 5) < 256
        → slice_index bytes (at + 6) < 256 → slice_index bytes (at + 7) < 256 → (j : ℕ) → j < 8
        → n / 2 ^ (8 * j) % 256 ≡ slice_index bytes (at + j)
    by a b c d f g h i zero l = let quotient_is : n / 1 % 256 ≡ slice_index bytes at = omega (arith, e) in quotient_is ∙ ap (slice_index bytes) (let at_is : at ≡ at + 0 = omega arith in at_is)
    by a b c d f g h i (suc zero) l = omega (arith, e)
    by a b c d f g h i (suc (suc zero)) l = omega (arith, e)
    by a b c d f g h i (suc (suc (suc zero))) l = omega (arith, e)
    by a b c d f g h i (suc (suc (suc (suc zero)))) l = omega (arith, e)
    by a b c d f g h i (suc (suc (suc (suc (suc zero))))) l = omega (arith, e)
    by a b c d f g h i (suc (suc (suc (suc (suc (suc zero)))))) l = omega (arith, e)
    by a b c d f g h i (suc (suc (suc (suc (suc (suc (suc zero))))))) l = omega (arith, e)
    by a b c d f g h i (suc (suc (suc (suc (suc (suc (suc (suc j)))))))) l = absurd (omega arith)

pub word_of : (bytes : List ℕ) (at n : ℕ) → ((k : ℕ) → slice_index bytes k < 256) → n ≡ from_le_bytes w64
    (slice_index bytes at ∷ slice_index bytes (at + 1) ∷ slice_index bytes (at + 2) ∷ slice_index bytes (at + 3)
    ∷ slice_index bytes (at + 4) ∷ slice_index bytes (at + 5) ∷ slice_index bytes (at + 6) ∷ slice_index bytes (at + 7)
    ∷ []) → IsWordOf bytes at n
word_of bytes at n small e i l =
    let whole : i ≡ 8 * (i / 8) + i % 8 = omega arith in
    ap (bit n) whole
    ∙ (bit_beyond n (8 * (i / 8)) (i % 8)
    ∙ (sym (ap (λ d. d == 1) (byte_bit (n / 2 ^ (8 * (i / 8))) (i % 8) (omega arith)))
    ∙ ap (λ b. bit b (i % 8)) (bytes_of bytes at n small e (i / 8) (omega arith))))
