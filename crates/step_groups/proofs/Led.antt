-- The bids of the leaders up to an index, with one more bot.
use Rattle.std.proofs.Common.{◌≡◌, ℕ, ◌+◌, ◌<◌, ap, sym, ◌∙◌, subst, Bool, false, true, not, cond, List, [], ◌∷◌, ◌++◌, filter, length, map, take, drop, get_or}
use Rattle.std.specs.Prelude.{AllPairs}
use Rattle.std.specs.List.{list_any}
use Rattle.std.proofs.lemmas.List.{map-append}
use Rattle.vox_geom.proofs.Sums.{append_none}
use Rattle.nano_spec.specs.declared.commands.Command.{Command}
use Rattle.nano_spec.specs.declared.system.Bot.{Bot}
use Rattle.nano_spec.specs.Act.{Act, acts}
use Rattle.nano_spec.specs.Group.{are_together, is_leader}
use Rattle.step_order.proofs.Facts.{Rising, rising_is}
use Rattle.step_order.proofs.Judgements.{all_bots}
use Rattle.step_groups.specs.Groups.{bid_of}
use Rattle.step_groups.specs.Judging.{act}
use Rattle.step_groups.proofs.Joined.{with_leader}
use Rattle.step_groups.proofs.Mates.{leads, split_at, take_more}

-- the bids of the leaders among the bots before an index
abbrev pub led : List Bot → List Command → ℕ → List ℕ
led bots commands i = map bid_of (filter (is_leader (acts bots commands)) (acts (take i bots) (take i commands)))

module _ (bots : List Bot) (commands : List Command) (i : ℕ) (b : Bot) (k : Command) (lt : i < length bots) (lengths : length commands ≡ length bots) (bi : b ≡ get_or bots i b) (ki : k ≡ get_or commands i k) (rising : AllPairs (λ a b. a.bid < b.bid) bots) where
  abbrev xs : List Act
  xs = acts (take i bots) (take i commands)

  abbrev ys : List Act
  ys = acts (drop (i + 1) bots) (drop (i + 1) commands)

  whole : acts bots commands ≡ xs ++ act b k ∷ ys
  whole = split_at bots commands i b k lt lengths bi ki

  up : Rising (map (λ (x : Act). x.bot) (xs ++ act b k ∷ ys))
  up = subst (λ (zs : List Act). Rising (map (λ (x : Act). x.bot) zs)) whole (subst (λ (bs : List Bot). Rising bs) (sym (all_bots bots commands lengths)) (rising_is bots rising))

  leads_here : is_leader (acts bots commands) (act b k) ≡ not (list_any (are_together (act b k)) xs)
  leads_here = ap (λ (zs : List Act). is_leader zs (act b k)) whole ∙ leads xs ys (act b k) up

  one_more : (t : Bool) → list_any (are_together (act b k)) (acts (take i bots) (take i commands)) ≡ t
      → led bots commands (i + 1) ≡ led bots commands i ++ map bid_of (cond (not t) (act b k ∷ []) [])
  one_more t e =
      ap (λ (zs : List Act). map bid_of (filter (is_leader (acts bots commands)) zs)) (take_more bots commands i b k lt lengths bi ki)
      ∙ (ap (map bid_of) (with_leader (acts bots commands) xs (act b k) (not t) (leads_here ∙ ap not e))
      ∙ map-append bid_of (filter (is_leader (acts bots commands)) xs) (cond (not t) (act b k ∷ []) []))

  -- a bot with a member of its group before it leads no group
  pub follows : list_any (are_together (act b k)) (acts (take i bots) (take i commands)) ≡ true
      → led bots commands (i + 1) ≡ led bots commands i
  follows e = one_more true e ∙ append_none (led bots commands i)

  -- a bot without one leads a group
  pub leads_one : list_any (are_together (act b k)) (acts (take i bots) (take i commands)) ≡ false
      → led bots commands (i + 1) ≡ led bots commands i ++ b.bid ∷ []
  leads_one e = one_more false e
