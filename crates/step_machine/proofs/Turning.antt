-- The groups of a step, turn by turn.
use Rattle.std.proofs.Common.{◌≡◌, ℕ, zero, suc, ◌+◌, ◌<◌, ◌≤◌, refl, sym, ◌∙◌, ap, arith, inl, inr, List, [], ◌∷◌, ◌++◌, Bool, length, get_or, drop, subst, append_assoc}
use Rattle.std.specs.Prelude.{Some, slice_get, slice_index_or}
use Rattle.std.proofs.lemmas.List.{append-nil, drop_all}
use Rattle.std.proofs.lemmas.List.Sums.{sum_by-cons}
use Rattle.nano_spec.specs.Group.{leaders}
use Rattle.nano_spec.specs.State.{State, origin}
use Rattle.nano_spec.specs.declared.commands.Command.{Command}
use Rattle.nano_spec.specs.declared.system.Bot.{Bot}
use Rattle.nano_spec.specs.Act.{Act, acts}
use Rattle.nano_spec.specs.Matrix.{Matrix}
use Rattle.vox_planes.specs.Changes.{Changes}
use Rattle.step_order.proofs.Lists.{In}
use Rattle.step_machine.specs.Edits.{cells_of, cells_of_all, edit_count, edits_total}
use Rattle.system_state.specs.Turns.{AreTurns, IsTurn}
use Rattle.system_state.specs.declared.turns.Turn.{Turn}
use Rattle.step_groups.specs.Judging.{act}

-- the voxels of the first i leaders were appended
pub record IsListing (m : Matrix) (full : Bool) (ls : List Act) (i : ℕ) (old new : Changes) (before after : ℕ) : Type 0 where
  pub items : new.items ++ cells_of_all m full (drop i ls) ≡ old.items ++ cells_of_all m full ls
  pub room : old.spare + length old.items ≤ new.spare + length new.items
  pub spare : old.spare + edits_total m full (drop i ls) ≤ new.spare + edits_total m full ls
  pub touches : after + edits_total m full (drop i ls) ≤ before + edits_total m full ls

pub turn_at : (all ls : List Act) (ts : List Turn) (i : ℕ) (d : Turn) → AreTurns all ls ts → i < length ts
    → (a : Act) × IsTurn all a (get_or ts i d) × (drop i ls ≡ a ∷ drop (i + 1) ls) × In a ls
turn_at all [] [] i d h k = absurd (omega arith)
turn_at all [] (t ∷ ts) i d h k = absurd h
turn_at all (a ∷ ls) [] i d h k = absurd h
turn_at all (a ∷ ls) (t ∷ ts) zero d h k = (a, h.0, refl, inl refl)
turn_at all (a ∷ ls) (t ∷ ts) (suc i) d h k = let turn = turn_at all ls ts i d h.1 (omega arith) in (turn.0, turn.1, turn.2 ∙ ap (λ k. turn.0 ∷ drop k (a ∷ ls)) (let successor_is : suc (i + 1) ≡ suc i + 1 = omega arith in successor_is), inr turn.3)

-- the act of a turn: its bot and its command have the turn's index
pub record IsHere (bots : List Bot) (commands : List Command) (ls : List Act) (i : ℕ) (t : Turn) : Type 0 where
  pub act : Act
  pub among_bots : t.place < length bots
  pub among_commands : t.place < length commands
  pub bot : (d : Bot) → get_or bots t.place d ≡ act.bot
  pub command : (d : Command) → get_or commands t.place d ≡ act.command
  pub rest : drop i ls ≡ act ∷ drop (i + 1) ls
  pub leads : In act ls

act_at : (bots : List Bot) (commands : List Command) (k : ℕ) (a : Act) → slice_get (acts bots commands) k ≡ Some a
    → (k < length bots) × (k < length commands) × ((d : Bot) → get_or bots k d ≡ a.bot)
    × ((d : Command) → get_or commands k d ≡ a.command)
act_at [] commands k a h = cc
act_at (b ∷ bots) [] k a h = cc
act_at (b ∷ bots) (c ∷ commands) zero a h = (omega arith, omega arith, (λ d. let is_a : record { bot = b; command = c } ≡ a = cc in ap (λ (x : Act). x.bot) is_a), (λ d. let is_a : record { bot = b; command = c } ≡ a = cc in ap (λ (x : Act). x.command) is_a))
act_at (b ∷ bots) (c ∷ commands) (suc k) a h = let act_there = act_at bots commands k a h in (omega arith, omega arith, act_there.2, act_there.3)

pub here : (bots : List Bot) (commands : List Command) (ls : List Act) (ts : List Turn) (i : ℕ) (t : Turn)
    → AreTurns (acts bots commands) ls ts → i < length ts → t ≡ get_or ts i t → IsHere bots commands ls i t
here bots commands ls ts i t h k e =
    let turn = turn_at (acts bots commands) ls ts i t h k in
    let element_is : slice_get (acts bots commands) t.place ≡ Some turn.0 = ap (λ (u : Turn). slice_get (acts bots commands) u.place) e ∙ turn.1.place in
    let act_there = act_at bots commands t.place turn.0 element_is in
    record { act = turn.0; among_bots = act_there.0; among_commands = act_there.1; bot = act_there.2; command = act_there.3; rest = turn.2; leads = turn.3 }

-- the turn returned by a read past the end
abbrev pub no_turn : Turn
no_turn = record { leader = 0; place = 0; partner = 0 }

-- the bot returned by a read past the end
abbrev pub no_bot : Bot
no_bot = record { bid = 0; pos = origin; seeds = 0 }

module _ (s : State) (commands : List Command) (bots : List Bot) (turns list : List Turn) (i k : ℕ) (same : bots ≡ s.bots) (listed : list ≡ turns) (are : AreTurns (acts s.bots commands) (leaders (acts s.bots commands)) turns) (below : i < length list) (place : k ≡ (get_or list i no_turn).place) where
  here_is : IsHere s.bots commands (leaders (acts s.bots commands)) i (get_or turns i no_turn)
  here_is = here s.bots commands (leaders (acts s.bots commands)) turns i (get_or turns i no_turn) are (let length_is = ap length listed in omega arith) (default turns i)
    where
      default : (ts : List Turn) (j : ℕ) → get_or ts j no_turn ≡ get_or ts j (get_or ts j no_turn)
      default [] j = refl
      default (t ∷ ts) zero = refl
      default (t ∷ ts) (suc j) = default ts j

  place_is : k ≡ (get_or turns i no_turn).place
  place_is = place ∙ ap (λ (ts : List Turn). (get_or ts i no_turn).place) listed

  pub among_bots : k < length bots
  among_bots = let among_bots = here_is.among_bots in let length_is = ap length same in omega (arith, among_bots, length_is, place_is)

  pub among_commands : k < length commands
  among_commands = let among_commands = here_is.among_commands in omega (arith, among_commands, place_is)

  module _ (command : Command) (read : command ≡ get_or commands k command) where
    -- the act of the turn
    abbrev pub turned : Act
    turned = act (slice_index_or bots k no_bot) command

    turned_is : turned ≡ here_is.act
    turned_is =
        let element_is : get_or bots k no_bot ≡ here_is.act.bot = (λ j. get_or (same j) (place_is j) no_bot) ∙ here_is.bot no_bot in
        let command_is : command ≡ here_is.act.command = read ∙ (ap (λ n. get_or commands n command) place_is ∙ here_is.command command) in
        λ j. record { bot = element_is j; command = command_is j }

    pub turned_leads : In turned (leaders (acts s.bots commands))
    turned_leads = subst (λ (a : Act). In a (leaders (acts s.bots commands))) (sym turned_is) here_is.leads

    pub turned_rest : drop i (leaders (acts s.bots commands)) ≡ turned ∷ drop (i + 1) (leaders (acts s.bots commands))
    turned_rest = here_is.rest ∙ ap (λ a. a ∷ drop (i + 1) (leaders (acts s.bots commands))) (sym turned_is)

-- ---- the voxels that one more turn lists

totals : (m : Matrix) (full : Bool) (a : Act) (ls : List Act)
    → edits_total m full (a ∷ ls) ≡ edit_count m full a + edits_total m full ls
totals m full a ls = sum_by-cons (edit_count m full) a ls

module _ (m k : Matrix) (same : k ≡ m) (full : Bool) (ls : List Act) (i : ℕ) (a : Act) (rest : drop i ls ≡ a ∷ drop (i + 1) ls) (old mid : Changes) (before middle : ℕ) (h : IsListing m full ls i old mid before middle) where
  count : edits_total m full (drop i ls) ≡ edit_count k full a + edits_total m full (drop (i + 1) ls)
  count = ap (edits_total m full) rest ∙ (totals m full a (drop (i + 1) ls) ∙ ap (λ n. edit_count n full a + edits_total m full (drop (i + 1) ls)) (sym same))

  pub room_for : edits_total m full ls ≤ old.spare → edit_count k full a ≤ mid.spare
  room_for r = omega (arith, h.spare, r, count)

  pub listing_more : (new : Changes) (after : ℕ) → new.items ≡ mid.items ++ cells_of k full a
      → mid.spare + length mid.items ≤ new.spare + length new.items → mid.spare ≤ new.spare + edit_count k full a
      → after ≤ middle + edit_count k full a → IsListing m full ls (i + 1) old new before after
  listing_more new after items room spare touches =
      let cells : cells_of_all m full (drop i ls) ≡ cells_of k full a ++ cells_of_all m full (drop (i + 1) ls) = ap (cells_of_all m full) rest ∙ ap (λ n. cells_of n full a ++ cells_of_all m full (drop (i + 1) ls)) (sym same) in
      record {
        items = ap (λ xs. xs ++ cells_of_all m full (drop (i + 1) ls)) items ∙ (append_assoc mid.items (cells_of k full a) (cells_of_all m full (drop (i + 1) ls)) ∙ (ap (λ xs. mid.items ++ xs) (sym cells) ∙ h.items));
        room = omega (arith, h.room, room);
        spare = omega (arith, h.spare, count, spare);
        touches = omega (arith, h.touches, count, touches);
      }

pub listing_all : (m : Matrix) (full : Bool) (ls : List Act) (i : ℕ) (old new : Changes) (before after : ℕ)
    → IsListing m full ls i old new before after → length ls ≤ i → new.items ≡ old.items ++ cells_of_all m full ls
listing_all m full ls i old new before after h e = sym (append-nil new.items) ∙ (ap (λ xs. new.items ++ cells_of_all m full xs) (sym (drop_all i ls e)) ∙ h.items)

pub as_many : (all ls : List Act) (ts : List Turn) → AreTurns all ls ts → length ls ≡ length ts
as_many all [] [] h = refl
as_many all [] (t ∷ ts) h = absurd h
as_many all (a ∷ ls) [] h = absurd h
as_many all (a ∷ ls) (t ∷ ts) h = ap suc (as_many all ls ts h.1)
