-- Relations between truth values that are joined.
use Rattle.std.proofs.Common.{◌≡◌, ◌⊎◌, inl, inr, refl, sym, Bool, true, false, cond, ◌&&◌, not}
use Rattle.std.specs.Prelude.{◌||◌}

-- ---- both

pub and_false : (a : Bool) → (a && false) ≡ false
and_false true = refl
and_false false = refl

pub and_true : (a : Bool) → (a && true) ≡ a
and_true true = refl
and_true false = refl

pub and_by_second : (a b : Bool) → b ≡ true → (a && b) ≡ a
and_by_second true b e = e
and_by_second false b e = refl

pub both_true : (a b : Bool) → a ≡ true → b ≡ true → (a && b) ≡ true
both_true a b e f = rw (e, f) refl

pub first_of_two : (a b : Bool) → (a && b) ≡ true → a ≡ true
first_of_two true b h = refl
first_of_two false b h = h

pub second_of_two : (a b : Bool) → (a && b) ≡ true → b ≡ true
second_of_two true b h = h
second_of_two false b h = cc

pub no_first : (a b : Bool) → a ≡ false → (a && b) ≡ false
no_first a b e = rw e refl

pub no_second : (a b : Bool) → b ≡ false → (a && b) ≡ false
no_second true b e = e
no_second false b e = refl

pub second_by_and_not : (a b : Bool) → (a && not b) ≡ false → a ≡ true → b ≡ true
second_by_and_not true true h e = refl
second_by_and_not true false h e = cc
second_by_and_not false b h e = cc

-- ---- all three

pub three_true : (a b c : Bool) → a ≡ true → b ≡ true → c ≡ true → (a && b && c) ≡ true
three_true a b c e f g = rw (e, f, g) refl

pub parts_of_three : (a b c : Bool) → (a && b && c) ≡ true → (a ≡ true) × (b ≡ true) × (c ≡ true)
parts_of_three true true true e = (refl, refl, refl)
parts_of_three true true false e = cc
parts_of_three true false c e = cc
parts_of_three false b c e = cc

pub first_of_three : (a b c : Bool) → (a && b && c) ≡ true → a ≡ true
first_of_three a b c e = (parts_of_three a b c e).0

pub second_of_three : (a b c : Bool) → (a && b && c) ≡ true → b ≡ true
second_of_three a b c e = (parts_of_three a b c e).1

pub no_first_of_three : (a b c : Bool) → a ≡ false → (a && b && c) ≡ false
no_first_of_three a b c e = rw e refl

pub no_second_of_three : (a b c : Bool) → b ≡ false → (a && b && c) ≡ false
no_second_of_three true b c e = rw e refl
no_second_of_three false b c e = refl

-- ---- one or the other

pub or_false : (a : Bool) → (a || false) ≡ a
or_false true = refl
or_false false = refl

pub or_by_first : (a b : Bool) → a ≡ true → (a || b) ≡ true
or_by_first a b e = rw e refl

pub or_by_second : (a b : Bool) → b ≡ true → (a || b) ≡ true
or_by_second true b e = refl
or_by_second false b e = e

pub one_of_two : (a b : Bool) → (a || b) ≡ true → (a ≡ true) ⊎ (b ≡ true)
one_of_two true b h = inl refl
one_of_two false b h = inr h

pub none_of_two : (a b : Bool) → (a || b) ≡ false → (a ≡ false) × (b ≡ false)
none_of_two false b h = (refl, h)
none_of_two true b h = cc

pub or_swapped : (a b : Bool) → (a || b) ≡ (b || a)
or_swapped true true = refl
or_swapped true false = refl
or_swapped false true = refl
or_swapped false false = refl

pub or_of_and : (a b c : Bool) → ((a && c) || (b && c)) ≡ ((a || b) && c)
or_of_and true b true = refl
or_of_and true true false = refl
or_of_and true false false = refl
or_of_and false b c = refl

pub implied : (a b : Bool) → (not a || b) ≡ true → a ≡ true → b ≡ true
implied true b h e = h
implied false b h e = cc

-- ---- the opposite

pub not_is_true : (a : Bool) → not a ≡ true → a ≡ false
not_is_true false h = refl
not_is_true true h = cc

pub not_is_false : (a : Bool) → not a ≡ false → a ≡ true
not_is_false true e = refl
not_is_false false e = cc

pub false_by : (a : Bool) → (a ≡ true → ⊥) → a ≡ false
false_by true h = absurd (h refl)
false_by false h = refl

pub true_and_false : (a : Bool) → a ≡ true → a ≡ false → ⊥
true_and_false a t f = cc

pub false_and_true : (a : Bool) → a ≡ false → a ≡ true → ⊥
false_and_true a f t = cc

pub anything_by : {A : Type 0} (a : Bool) → a ≡ true → a ≡ false → A
anything_by a t f = cc

pub true_by_false : (a b : Bool) → (a ≡ false → b ≡ false) → b ≡ true → a ≡ true
true_by_false true b h t = refl
true_by_false false b h t = anything_by b t (h refl)

-- ---- two that are the same

pub same_truth : (a b : Bool) → (a ≡ true → b ≡ true) → (b ≡ true → a ≡ true) → a ≡ b
same_truth true b f g = sym (f refl)
same_truth false true f g = g refl
same_truth false false f g = refl

pub twice_chosen : (a b full old : Bool) → cond b full (cond a full old) ≡ cond (a || b) full old
twice_chosen true true full old = refl
twice_chosen true false full old = refl
twice_chosen false b full old = refl
