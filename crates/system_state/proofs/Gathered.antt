-- The turns are those of the groups, one after another.
use Rattle.std.proofs.Common.{◌≡◌, ℕ, zero, suc, ◌+◌, ◌<◌, ◌≤◌, refl, sym, ◌∙◌, ap, subst, arith, inl, inr, List, [], ◌∷◌, ◌++◌, Bool, true, false, cond, length, take, get_or}
use Rattle.std.specs.Prelude.{All, Some, filter, map, slice_get, slice_index_or}
use Rattle.nano_spec.specs.declared.commands.Command.{Command}
use Rattle.nano_spec.specs.declared.system.Bot.{Bot}
use Rattle.nano_spec.specs.Act.{Act, acts}
use Rattle.nano_spec.specs.Group.{is_leader, leaders, members}
use Rattle.step_groups.specs.Groups.{bid_of}
use Rattle.step_order.proofs.Lists.{In}
use Rattle.system_state.specs.declared.turns.Turn.{Turn}
use Rattle.step_groups.proofs.Joined.{all_in}
use Rattle.system_state.specs.Turns.{AreTurns, IsTurn}

-- ---- one more turn

pub turn_more : (all leaders : List Act) (turns : List Turn) (a : Act) (t : Turn) → AreTurns all leaders turns
    → IsTurn all a t → AreTurns all (leaders ++ a ∷ []) (turns ++ t ∷ [])
turn_more all [] [] a t h k = (k, tt)
turn_more all [] (x ∷ turns) a t h k = absurd h
turn_more all (b ∷ leaders) [] a t h k = absurd h
turn_more all (b ∷ leaders) (x ∷ turns) a t h k = (h.0, turn_more all leaders turns a t h.1 k)

pub take_whole : {X : Type 0} (n : ℕ) (xs : List X) → length xs ≤ n → take n xs ≡ xs
take_whole zero [] l = refl
take_whole zero (x ∷ xs) l = absurd (omega arith)
take_whole (suc n) [] l = refl
take_whole {X} (suc n) (x ∷ xs) l = ap (λ (ys : List X). x ∷ ys) (take_whole n xs (omega arith))

-- at most as many leaders as bots
pub leaders_most : (all : List Act) → length (leaders all) ≤ length all
leaders_most all = fewer (is_leader all) all
  where
    fewer : (p : Act → Bool) (xs : List Act) → length (filter p xs) ≤ length xs
    fewer p [] = omega arith
    fewer p (x ∷ xs) = by (p x) (fewer p xs)
      where
        by : (b : Bool) → length (filter p xs) ≤ length xs
            → length (cond b (x ∷ filter p xs) (filter p xs)) ≤ length (x ∷ xs)
        by true h = omega arith
        by false h = omega arith

pub acts_most : (bots : List Bot) (commands : List Command) → length (acts bots commands) ≤ length bots
acts_most [] commands = omega arith
acts_most (b ∷ bots) [] = omega arith
acts_most (b ∷ bots) (c ∷ commands) = let acts_bound = acts_most bots commands in omega arith

-- ---- bots each of which is a group of its own

-- the act at an index
act_here : (bots : List Bot) (commands : List Command) (i : ℕ) (b : Bot) → length commands ≡ length bots
    → i < length bots → b ≡ get_or bots i b → (a : Act) × (a.bot.bid ≡ b.bid)
    × (slice_get (acts bots commands) i ≡ Some a) × In a (acts bots commands)
    × (take (i + 1) (acts bots commands) ≡ take i (acts bots commands) ++ a ∷ [])
act_here [] commands i b e l h = absurd (omega arith)
act_here (x ∷ bots) [] i b e l h = absurd (omega arith)
act_here (x ∷ bots) (k ∷ commands) zero b e l h = (record { bot = x; command = k }, ap (λ (y : Bot). y.bid) (sym h), refl, inl refl, refl)
act_here (x ∷ bots) (k ∷ commands) (suc i) b e l h =
    let act_is = act_here bots commands i b (omega arith) (omega arith) h in
    (act_is.0, act_is.1, act_is.2, inr act_is.3, ap (λ n. take n (acts (x ∷ bots) (k ∷ commands))) (let sum_is : suc i + 1 ≡ suc (i + 1) = omega arith in sum_is) ∙ ap (λ (xs : List Act). record { bot = x; command = k } ∷ xs) act_is.4)

pub lone_turn_more : (bots : List Bot) (commands : List Command) (turns : List Turn) (i : ℕ) (b : Bot)
    → length commands ≡ length bots → i < length bots → b ≡ get_or bots i b
    → All (λ a. members (acts bots commands) a ≡ a ∷ []) (acts bots commands)
    → AreTurns (acts bots commands) (take i (acts bots commands)) turns → AreTurns (acts bots commands)
    (take (i + 1) (acts bots commands)) (turns ++ record { leader = b.bid; place = i; partner = 0 } ∷ [])
lone_turn_more bots commands turns i b e l h alone so_far =
    let all = acts bots commands in
    let act_is = act_here bots commands i b e l h in
    let mates : members all act_is.0 ≡ act_is.0 ∷ [] = all_in (λ (a : Act). members all a ≡ a ∷ []) act_is.0 all alone act_is.3 in
    subst (λ (xs : List Act). AreTurns all xs (turns ++ record { leader = b.bid; place = i; partner = 0 } ∷ [])) (sym act_is.4)
    (turn_more all (take i all) turns act_is.0 (record { leader = b.bid; place = i; partner = 0 }) so_far (record {
      leader = sym act_is.1;
      place = act_is.2;
      partner = ap (λ ms. slice_index_or (map bid_of ms) 1 0) (sym mates);
    }))
