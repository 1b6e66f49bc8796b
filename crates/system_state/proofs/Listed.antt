-- The turns of the leaders up to an index, with one more bot.
use Rattle.std.proofs.Common.{◌≡◌, ℕ, zero, suc, ◌+◌, ◌-◌, ◌<◌, refl, ap, sym, ◌∙◌, subst, arith, Bool, false, true, not, cond, List, [], ◌∷◌, ◌++◌, filter, length, map, take, drop, get_or}
use Rattle.std.specs.Prelude.{AllPairs, Some, slice_get, slice_index_or}
use Rattle.std.specs.List.{list_any}
use Rattle.vox_geom.proofs.Sums.{append_none}
use Rattle.nano_spec.specs.declared.commands.Command.{Command}
use Rattle.nano_spec.specs.declared.system.Bot.{Bot}
use Rattle.nano_spec.specs.Act.{Act, acts}
use Rattle.nano_spec.specs.Group.{are_together, is_leader, members}
use Rattle.step_order.proofs.Facts.{Rising, rising_is}
use Rattle.step_order.proofs.Judgements.{all_bots}
use Rattle.step_groups.specs.Judging.{act}
use Rattle.step_groups.specs.Numbers.{with_number}
use Rattle.step_groups.proofs.Joined.{with_leader}
use Rattle.step_groups.proofs.Mates.{group, leads, split_at, take_more}
use Rattle.step_groups.proofs.Telling.{of_bots}
use Rattle.system_state.specs.declared.turns.Turn.{Turn}
use Rattle.system_state.specs.Turns.{AreTurns, first_mate}
use Rattle.system_state.proofs.Gathered.{turn_more}
use Rattle.step_groups.specs.Groups.{bid_of}

-- the act of a bot and its command at an index
act_there : (bots : List Bot) (commands : List Command) (i : ℕ) (b : Bot) (k : Command) → i < length bots
    → length commands ≡ length bots → b ≡ get_or bots i b → k ≡ get_or commands i k
    → slice_get (acts bots commands) i ≡ Some (act b k)
act_there [] commands i b k h e f g = absurd (omega arith)
act_there (x ∷ bots) [] i b k h e f g = absurd (omega arith)
act_there (x ∷ bots) (y ∷ commands) zero b k h e f g = λ n. Some (act (sym f n) (sym g n))
act_there (x ∷ bots) (y ∷ commands) (suc i) b k h e f g = act_there bots commands i b k (omega arith) (omega arith) f g

module _ (bots : List Bot) (commands : List Command) (i : ℕ) (b : Bot) (k : Command) (lt : i < length bots) (lengths : length commands ≡ length bots) (bi : b ≡ get_or bots i b) (ki : k ≡ get_or commands i k) (rising : AllPairs (λ a b. a.bid < b.bid) bots) where
  abbrev all : List Act
  all = acts bots commands

  abbrev xs : List Act
  xs = acts (take i bots) (take i commands)

  abbrev ys : List Act
  ys = acts (drop (i + 1) bots) (drop (i + 1) commands)

  abbrev more : List Act
  more = acts (take (i + 1) bots) (take (i + 1) commands)

  whole : acts bots commands ≡ xs ++ act b k ∷ ys
  whole = split_at bots commands i b k lt lengths bi ki

  up : Rising (map (λ (x : Act). x.bot) (xs ++ act b k ∷ ys))
  up = subst (λ (zs : List Act). Rising (map (λ (x : Act). x.bot) zs)) whole (subst (λ (bs : List Bot). Rising bs) (sym (all_bots bots commands lengths)) (rising_is bots rising))

  leads_here : is_leader (acts bots commands) (act b k) ≡ not (list_any (are_together (act b k)) xs)
  leads_here = ap (λ (zs : List Act). is_leader zs (act b k)) whole ∙ leads xs ys (act b k) up

  leaders_are : (t : Bool) → list_any (are_together (act b k)) xs ≡ t
      → filter (is_leader all) more ≡ filter (is_leader all) xs ++ cond (not t) (act b k ∷ []) []
  leaders_are t e = ap (filter (is_leader all)) (take_more bots commands i b k lt lengths bi ki) ∙ with_leader all xs (act b k) (not t) (leads_here ∙ ap not e)

  -- a bot with a member of its group before it leads no group
  pub no_turn_more : (turns : List Turn)
      → list_any (are_together (act b k)) (acts (take i bots) (take i commands)) ≡ true → AreTurns (acts bots commands)
      (filter (is_leader (acts bots commands)) (acts (take i bots) (take i commands))) turns
      → AreTurns (acts bots commands)
      (filter (is_leader (acts bots commands)) (acts (take (i + 1) bots) (take (i + 1) commands))) turns
  no_turn_more turns e h = subst (λ (ls : List Act). AreTurns all ls turns) (sym (leaders_are true e ∙ append_none (filter (is_leader all) xs))) h

  -- a bot without one leads the group of those after it
  pub leader_more : (turns next : List Turn) (partner : ℕ)
      → next ≡ turns ++ record { leader = b.bid; place = i; partner = partner } ∷ []
      → list_any (are_together (act b k)) (acts (take i bots) (take i commands)) ≡ false
      → partner ≡ first_mate (act b k) (acts (drop (i + 1) bots) (drop (i + 1) commands))
      → AreTurns (acts bots commands)
      (filter (is_leader (acts bots commands)) (acts (take i bots) (take i commands))) turns
      → AreTurns (acts bots commands)
      (filter (is_leader (acts bots commands)) (acts (take (i + 1) bots) (take (i + 1) commands))) next
  leader_more turns next partner f e second h =
      let turn : Turn = record { leader = b.bid; place = i; partner = partner } in
      let mates : members all (act b k) ≡ act b k ∷ filter (are_together (act b k)) ys = ap (λ (zs : List Act). members zs (act b k)) whole ∙ group xs ys (act b k) up e in
      subst (λ (ts : List Turn). AreTurns all (filter (is_leader all) more) ts) (sym f)
      (subst (λ (ls : List Act). AreTurns all ls (turns ++ turn ∷ [])) (sym (leaders_are false e))
      (turn_more all (filter (is_leader all) xs) turns (act b k) turn h (record {
        leader = refl;
        place = act_there bots commands i b k lt lengths bi ki;
        partner = second ∙ ap (λ (ms : List Act). slice_index_or (map bid_of ms) 1 0) (sym mates);
      })))

  -- by the group indices of the bots after it
  pub numbered_more : (turns next : List Turn) (numbers : List ℕ) (n partner : ℕ)
      → next ≡ turns ++ record { leader = b.bid; place = i; partner = partner } ∷ []
      → list_any (are_together (act b k)) (acts (take i bots) (take i commands)) ≡ false → with_number n
      (take (length bots - (i + 1)) (drop (i + 1) bots)) (take (length numbers - (i + 1)) (drop (i + 1) numbers))
      ≡ map (λ (x : Act). x.bot) (filter (are_together (act b k)) (acts (drop (i + 1) bots) (drop (i + 1) commands)))
      → partner ≡ slice_index_or (map (λ (x : Bot). x.bid) (with_number n
      (take (length bots - (i + 1)) (drop (i + 1) bots)) (take (length numbers - (i + 1)) (drop (i + 1) numbers)))) 0 0
      → AreTurns (acts bots commands) (filter (is_leader (acts bots commands)) (acts (take i bots) (take i commands)))
      turns → AreTurns (acts bots commands)
      (filter (is_leader (acts bots commands)) (acts (take (i + 1) bots) (take (i + 1) commands))) next
  numbered_more turns next numbers n partner f e tell second h =
      leader_more turns next partner f e (second ∙ ap (λ bids. slice_index_or bids 0 0) (ap (map (λ (x : Bot). x.bid)) tell ∙ of_bots (λ (x : Bot). x.bid) (filter (are_together (act b k)) ys))) h
