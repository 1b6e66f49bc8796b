-- The groups of a step act one after another: the state that each finds, and the state that it leaves.
use Rattle.std.proofs.Common.{◌≡◌, ℕ, ◌+◌, ◌≤◌, ◌≢◌, refl, sym, ◌∙◌, ap, subst, arith, inl, inr, List, [], ◌∷◌, ◌++◌, Bool, true, false, cond}
use Rattle.std.specs.Prelude.{None, flat_map, sum_by, IsPermutation, IsTrue, IsFalse}
use Rattle.std.specs.List.{Contains}
use Rattle.std.proofs.lemmas.List.Sums.{sum_by-append}
use Rattle.std.proofs.lemmas.List.Sorted.{IsPermutation-sym, sum_by-IsPermutation}
use Rattle.vox_geom.specs.declared.coordinate.Coord.{Coord}
use Rattle.vox_geom.specs.Point.{point}
use Rattle.vox_geom.specs.Space.{IsInSpace}
use Rattle.vox_geom.proofs.Truths.{false_by}
use Rattle.nano_spec.specs.declared.commands.Command.{Command}
use Rattle.nano_spec.specs.declared.system.Bot.{Bot}
use Rattle.nano_spec.specs.Act.{Act, acts}
use Rattle.nano_spec.specs.Bots.{successors}
use Rattle.nano_spec.specs.Group.{leaders, members}
use Rattle.nano_spec.specs.Rules.{broken}
use Rattle.nano_spec.specs.State.{IsReady, State}
use Rattle.nano_spec.specs.Step.{after_acts}
use Rattle.nano_spec.specs.Serial.{after_group, group_in, keeps_rules}
use Rattle.nano_spec.specs.Volatile.{is_volatile}
use Rattle.step_order.specs.SomeGroups.{after_some, became, is_taken}
use Rattle.step_order.proofs.After.{one_act}
use Rattle.step_order.proofs.Crews.{group_met, kept, order_in}
use Rattle.step_order.proofs.Effects.{IsNext}
use Rattle.step_order.proofs.Ends.{Stands, stands}
use Rattle.step_order.proofs.Facts.{IsGood, good_is}
use Rattle.step_order.proofs.Groups.{differ_acts, differ_filter}
use Rattle.step_order.proofs.Judged.{rules_kept}
use Rattle.step_order.proofs.Lists.{In, filter_in, flat_in, in_left, in_right, place_in}
use Rattle.step_order.proofs.Order.{AreLeaders, AreOrdered, at_last, group_step, in_any_order, listed, next_is, of_onto, onto, onto_sum}
use Rattle.step_order.proofs.Sums.{hit, one_hit_most}
use Rattle.step_order.proofs.Together.{with_itself}

pub held : {X : Type 0} (x : X) (xs : List X) → Contains xs x → In x xs
held {X} x xs h = subst (λ (y : X). In y xs) h.2 (place_in x xs h.0 h.1)

-- all leaders in some order
pub in_order : (all order : List Act) → IsPermutation (leaders all) order → AreLeaders all order
in_order all order perm = record {
  only = λ a i. listed (leaders all) order perm a i;
  each = λ a i. listed order (leaders all) (IsPermutation-sym (leaders all) order perm) a i;
  sums = λ f. sum_by-IsPermutation f (leaders all) order perm;
}

one_onto : (l : Act) (before done : List Act) → onto (before ++ l ∷ []) done ≡ l ∷ onto before done
unfolding onto
one_onto l [] done = refl
one_onto l (x ∷ before) done = one_onto l before (x ∷ done)

moved_over : (l : Act) (before rest : List Act) → (before ++ l ∷ []) ++ rest ≡ before ++ l ∷ rest
moved_over l [] rest = refl
moved_over l (x ∷ before) rest = ap (λ (xs : List Act). x ∷ xs) (moved_over l before rest)

module _ (s : State) (all : List Act) (good : IsGood s all) (before rest : List Act) (l : Act) (perm : AreLeaders all (before ++ l ∷ rest)) where
  half_way : AreOrdered s all good (l ∷ rest) (onto before [])
  half_way = record {
    coming = λ a i. perm.only a (in_right a before (l ∷ rest) i);
    gone = λ a i. perm.only a (in_left a before (l ∷ rest) (of_onto before a i));
    once = λ k.
        let hits = hit (λ (a : Act). a.bot.bid) k in
        let sum_by_append_here : sum_by hits (before ++ l ∷ rest) ≡ sum_by hits before + sum_by hits (l ∷ rest) = sum_by-append hits before (l ∷ rest) in
        let sums : sum_by hits (before ++ l ∷ rest) ≡ sum_by hits (leaders all) = perm.sums hits in
        let sum_to_1 : sum_by hits (leaders all) ≤ 1 = one_hit_most (λ (a : Act). a.bot.bid) k (leaders all) (differ_filter (λ (a : Act). a.bot.bid) _ all (differ_acts all good.rising)) in
        let same_sum : sum_by hits (onto before []) ≡ sum_by hits before + sum_by hits [] = onto_sum hits before [] in
        let sum_is : sum_by hits [] ≡ 0 = refl in
        omega arith;
  }

  next : IsNext all (onto before []) l
  next = next_is s all good l rest (onto before []) half_way

  so_far : after_some s all (onto before []) ≡ after_some s all before
  so_far = in_any_order s all good before (l ∷ rest) perm

  pub meets : group_in (after_some s all before) all l ≡ members all l
  meets = subst (λ (t : State). group_in t all l ≡ members all l) so_far (group_met s all good (onto before []) l next)

  pub keeps : keeps_rules (after_some s all before) (members all l) ≡ true
  keeps = subst (λ (t : State). keeps_rules t (members all l) ≡ true) so_far
      (ap (keeps_rules (after_some s all (onto before []))) (sym (group_met s all good (onto before []) l next)) ∙ rules_kept s all good (onto before []) l next)

  pub leaves : after_group (after_some s all before) (members all l) ≡ after_some s all (before ++ l ∷ [])
  leaves =
      ap (λ (t : State). after_group t (members all l)) (sym so_far)
      ∙ (group_step s all good (onto before []) l next
      ∙ (ap (after_some s all) (sym (one_onto l before []))
      ∙ in_any_order s all good (before ++ l ∷ []) rest (subst (λ (xs : List Act). AreLeaders all xs) (sym (moved_over l before rest)) perm)))

  -- a bot at a position that a successor of the leader takes is the leader's
  pub stands_apart : (x y : Bot) → In x (successors (members all l) l l.command) → In y (after_some s all before).bots
      → x.pos ≡ y.pos → y ≡ l.bot
  stands_apart x y i j e = by (subst (λ (bots : List Bot). In y bots) (sym (ap (λ (t : State). t.bots) so_far)) j)
    where
      leads : In l all
      leads = (filter_in _ l all (perm.only l (in_right l before (l ∷ rest) (inl refl)))).0

      stood : (b : Act) (t : Bool) → In y (cond t (successors all b b.command) (b.bot ∷ [])) → Stands b b.command y
      stood b true k = stands all b b.command y k
      stood b false (inl f) = inl (ap (λ (z : Bot). z.pos) f)
      stood b false (inr k) = absurd k

      own : In y (l.bot ∷ []) → y ≡ l.bot
      own (inl f) = f
      own (inr k) = absurd k

      by : In y (after_some s all (onto before [])).bots → y ≡ l.bot
      by k =
          let origin = flat_in (became all (onto before [])) y all (order_in (flat_map (became all (onto before [])) all) y k) in
          let same = one_act s all good l origin.0 x y leads origin.1 (stands (members all l) l l.command x i) (stood origin.0 (is_taken (onto before []) origin.0) origin.2) e in
          own (subst (λ (bots : List Bot). In y bots) (kept s all good (onto before []) l next l leads (with_itself l)) (subst (λ (b : Act). In y (became all (onto before []) b)) (sym same) origin.2))

-- the same for the commands of a step that breaks no rule
module _ (s : State) (commands : List Command) (step : ℕ) (ready : IsReady s) (keep : broken s commands step ≡ None) where
  pub bots_met : (before rest : List Act) (l : Act)
      → IsPermutation (leaders (acts s.bots commands)) (before ++ l ∷ rest)
      → group_in (after_some s (acts s.bots commands) before) (acts s.bots commands) l
      ≡ members (acts s.bots commands) l
  bots_met before rest l perm = meets s (acts s.bots commands) (good_is s commands step ready keep) before rest l (in_order (acts s.bots commands) (before ++ l ∷ rest) perm)

  pub rules_met : (before rest : List Act) (l : Act)
      → IsPermutation (leaders (acts s.bots commands)) (before ++ l ∷ rest)
      → IsTrue (keeps_rules (after_some s (acts s.bots commands) before) (members (acts s.bots commands) l))
  rules_met before rest l perm = keeps s (acts s.bots commands) (good_is s commands step ready keep) before rest l (in_order (acts s.bots commands) (before ++ l ∷ rest) perm)

  pub places_met : (before rest : List Act) (l : Act)
      → IsPermutation (leaders (acts s.bots commands)) (before ++ l ∷ rest) → (x y : Bot)
      → Contains (successors (members (acts s.bots commands) l) l l.command) x
      → Contains (after_some s (acts s.bots commands) before).bots y → x.pos ≡ y.pos → y ≡ l.bot
  places_met before rest l perm x y i j e = stands_apart s (acts s.bots commands) (good_is s commands step ready keep) before rest l (in_order (acts s.bots commands) (before ++ l ∷ rest) perm) x y (held x _ i) (held y _ j) e

  pub turn_taken : (before rest : List Act) (l : Act)
      → IsPermutation (leaders (acts s.bots commands)) (before ++ l ∷ rest)
      → after_group (after_some s (acts s.bots commands) before) (members (acts s.bots commands) l)
      ≡ after_some s (acts s.bots commands) (before ++ l ∷ [])
  turn_taken before rest l perm = leaves s (acts s.bots commands) (good_is s commands step ready keep) before rest l (in_order (acts s.bots commands) (before ++ l ∷ rest) perm)

  pub all_taken : (order : List Act) → IsPermutation (leaders (acts s.bots commands)) order
      → after_some s (acts s.bots commands) order ≡ after_acts s (acts s.bots commands)
  all_taken order perm = at_last s (acts s.bots commands) (good_is s commands step ready keep) order (in_order (acts s.bots commands) order perm)

  pub apart_are : (l d : Act) (c : Coord) → Contains (leaders (acts s.bots commands)) l
      → Contains (leaders (acts s.bots commands)) d → l ≢ d → IsInSpace s.matrix.resolution c
      → IsTrue (is_volatile (acts s.bots commands) l (point c))
      → IsFalse (is_volatile (acts s.bots commands) d (point c))
  apart_are l d c i j ne w v = false_by (is_volatile (acts s.bots commands) d (point c)) (λ u. (good_is s commands step ready keep).clear l d (held l (leaders (acts s.bots commands)) i) (held d (leaders (acts s.bots commands)) j) ne c w v u)
