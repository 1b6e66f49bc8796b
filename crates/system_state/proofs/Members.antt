-- The members of a leader's group: itself alone, itself and its partner, or the members of a group command.
use Rattle.std.proofs.Common.{◌≡◌, ℕ, ◌<◌, ◌≤◌, refl, sym, ◌∙◌, ap, arith, inl, inr, ◌⊎◌, List, [], ◌∷◌, Bool, true, false, cond, ◌&&◌, ◌==◌, eq-eqb, map, not}
use Rattle.std.specs.Prelude.{filter, nat_le}
use Rattle.std.specs.List.{list_any}
use Rattle.std.proofs.lemmas.Bool.Decides.{Decides-eqb}
use Rattle.vox_geom.specs.Point.{Point}
use Rattle.vox_geom.proofs.Truths.{one_of_two}
use Rattle.vox_geom.proofs.Tests.{at_most_by_test}
use Rattle.nano_spec.specs.declared.commands.Command.{Command}
use Rattle.nano_spec.specs.declared.commands.Command.TheVariants.{FusionP, GFill, GVoid}
use Rattle.nano_spec.specs.declared.outcomes.Rule.TheVariants.{Partner}
use Rattle.nano_spec.specs.Act.{Act, is_fusion, position}
use Rattle.nano_spec.specs.Group.{are_partners, are_together, fuse, is_leader, is_pair, leaders, members, share_region}
use Rattle.nano_spec.specs.State.{State}
use Rattle.nano_spec.proofs.Light.{here_false}
use Rattle.step_groups.specs.Judging.{is_alone}
use Rattle.step_groups.proofs.Alone.{alone_members}
use Rattle.step_order.proofs.Facts.{IsGood, Rising}
use Rattle.step_order.proofs.Groups.{differ_acts, filter_only}
use Rattle.step_order.proofs.Lists.{In, all_in, any_in, filter_in, in_filter, in_map, not_both}
use Rattle.step_order.proofs.Together.{Together, itself, partners, shares, is_together, one_partner, together_is}
use Rattle.step_order.proofs.Kin.{not_itself}
use Rattle.step_order.proofs.JudgedRules.{partner_is_judged}

-- two bots of a group command
abbrev pub is_group : Command → Bool
is_group (GFill d f) = true
is_group (GVoid d f) = true
is_group _ = false

-- ---- a filter that passes two

two_pass : (p : Act → Bool) (l b : Act) (xs : List Act) → Rising (map (λ (a : Act). a.bot) xs) → l.bot.bid < b.bot.bid
    → In l xs → In b xs → p l ≡ true → p b ≡ true → ((a : Act) → In a xs → p a ≡ true → (a ≡ l) ⊎ (a ≡ b))
    → filter p xs ≡ l ∷ b ∷ []
two_pass p l b [] up less i j e f h = absurd i
two_pass p l b (x ∷ xs) up less (inl i) j e f h = on (p x) refl
  where
    here : In b (x ∷ xs) → In b xs
    here (inl k) = absurd (let same_bid : b.bot.bid ≡ l.bot.bid = ap (λ (a : Act). a.bot.bid) (k ∙ sym i) in omega arith)
    here (inr k) = k

    only : (a : Act) → In a xs → p a ≡ true → a ≡ b
    only a k g = of (h a (inr k) g)
      where
        of : (a ≡ l) ⊎ (a ≡ b) → a ≡ b
        of (inr s) = s
        of (inl s) = absurd (let below_bid : x.bot.bid < a.bot.bid = up.0 a.bot (in_map (λ (c : Act). c.bot) a xs k) in let same_bid : a.bot.bid ≡ x.bot.bid = ap (λ (c : Act). c.bot.bid) (s ∙ i) in omega arith)

    on : (t : Bool) → p x ≡ t → cond t (x ∷ filter p xs) (filter p xs) ≡ l ∷ b ∷ []
    on true g = λ k. sym i k ∷ filter_only (λ (a : Act). a.bot.bid) p b xs (differ_acts xs up.1) (here j) f only k
    on false g = absurd (not_both (ap p (sym i) ∙ e) g)
two_pass p l b (x ∷ xs) up less (inr i) (inl j) e f h =
    absurd (let below_bid : x.bot.bid < l.bot.bid = up.0 l.bot (in_map (λ (c : Act). c.bot) l xs i) in let same_bid : b.bot.bid ≡ x.bot.bid = ap (λ (c : Act). c.bot.bid) j in omega arith)
two_pass p l b (x ∷ xs) up less (inr i) (inr j) e f h = on (p x) refl (two_pass p l b xs up.1 less i j e f (λ a k q. h a (inr k) q))
  where
    neither : (x ≡ l) ⊎ (x ≡ b) → ⊥
    neither (inl s) = let below_bid : x.bot.bid < l.bot.bid = up.0 l.bot (in_map (λ (c : Act). c.bot) l xs i) in let same_bid : x.bot.bid ≡ l.bot.bid = ap (λ (c : Act). c.bot.bid) s in omega arith
    neither (inr s) = let below_bid : x.bot.bid < b.bot.bid = up.0 b.bot (in_map (λ (c : Act). c.bot) b xs j) in let same_bid : x.bot.bid ≡ b.bot.bid = ap (λ (c : Act). c.bot.bid) s in omega arith

    on : (t : Bool) → p x ≡ t → filter p xs ≡ l ∷ b ∷ [] → cond t (x ∷ filter p xs) (filter p xs) ≡ l ∷ b ∷ []
    on true g ih = absurd (neither (h x (inl refl) g))
    on false g ih = ih

-- ---- fusions

no_share : (p : Point) (c : Command) (q : Point) (e : Command) → is_fusion c ≡ true → share_region p c q e ≡ true → ⊥
no_share p (GFill d f) q e h k = cc
no_share p (GVoid d f) q e h k = cc
no_share p c q e h k = cc

less : (a b : ℕ) → a ≤ b → (a ≡ b → ⊥) → a < b
less a b h n = grind arith

module _ (s : State) (all : List Act) (good : IsGood s all) (l : Act) (leads : In l (leaders all)) where
  pub leader_in : In l all
  leader_in = (filter_in (is_leader all) l all leads).0

  least : (a : Act) → In a (members all l) → l.bot.bid ≤ a.bot.bid
  least a i = at_most_by_test l.bot.bid a.bot.bid (all_in (λ b. nat_le l.bot.bid b.bot.bid) a (members all l) (filter_in (is_leader all) l all leads).1 i)

  pub alone_is : is_alone l.command ≡ true → members all l ≡ l ∷ []
  alone_is h = alone_members all l h ∙ filter_only (λ (a : Act). a.bot.bid) (λ b. l.bot.bid == b.bot.bid) l all (differ_acts all good.rising) leader_in (eq-eqb l.bot.bid l.bot.bid refl)
      (λ a i e. good.apart.bids a l i leader_in (sym ((Decides-eqb l.bot.bid a.bot.bid).0 e)))

  -- the leader of a fusion and its partner
  pub couple : is_fusion l.command ≡ true
      → (b : Act) × (are_partners l b ≡ true) × (l.bot.bid < b.bot.bid) × (members all l ≡ l ∷ b ∷ [])
  couple h =
      let witness = any_in (are_partners l) all partner_is in
      (witness.0, witness.2, before witness.0 witness.1 witness.2, two_pass (are_together l) l witness.0 all good.rising (before witness.0 witness.1 witness.2) leader_in witness.1 (is_together l l (itself refl)) (is_together l witness.0 (partners witness.2)) (λ a i e. which witness.0 witness.1 witness.2 a i (together_is l a e)))
    where
      stays : not (list_any (are_partners l) all) ≡ false → list_any (are_partners l) all ≡ true
      stays e = back (list_any (are_partners l) all) e
        where
          back : (b : Bool) → not b ≡ false → b ≡ true
          back true e = refl
          back false e = cc

      partner_is : list_any (are_partners l) all ≡ true
      partner_is = stays (sym (ap (λ b. b && not (list_any (are_partners l) all)) h) ∙ here_false l (is_fusion l.command && not (list_any (are_partners l) all)) (good.keeps l Partner leader_in partner_is_judged))

      apart : (b : Act) → In b all → are_partners l b ≡ true → l.bot.bid ≡ b.bot.bid → ⊥
      apart b i e k = same (one_of_two (is_pair l l) (is_pair l l) (ap (are_partners l) (good.apart.bids l b leader_in i k) ∙ e))
        where
          same : (is_pair l l ≡ true) ⊎ (is_pair l l ≡ true) → ⊥
          same (inl f) = not_itself (position l) l.command f
          same (inr f) = not_itself (position l) l.command f

      before : (b : Act) → In b all → are_partners l b ≡ true → l.bot.bid < b.bot.bid
      before b i e = less l.bot.bid b.bot.bid (least b (in_filter (are_together l) b all i (is_together l b (partners e)))) (apart b i e)

      which : (b : Act) → In b all → are_partners l b ≡ true → (a : Act) → In a all → Together l a → (a ≡ l) ⊎ (a ≡ b)
      which b i e a j (itself k) = inl (good.apart.bids a l j leader_in (sym k))
      which b i e a j (partners k) = inr (good.apart.places a b j i (one_partner a l b k e))
      which b i e a j (shares k) = absurd (no_share (position l) l.command (position a) a.command h k)

  -- the members of a group command
  pub shared : is_group l.command ≡ true → (a : Act) → In a (members all l)
      → (a ≡ l) ⊎ (share_region (position l) l.command (position a) a.command ≡ true)
  shared h a i = by (together_is l a k.1)
    where
      k : In a all × (are_together l a ≡ true)
      k = filter_in (are_together l) a all i

      no_fusion : (p : Point) (c : Command) (q : Point) (e : Command) → is_group c ≡ true
          → (fuse p c q e ≡ true) ⊎ (fuse q e p c ≡ true) → ⊥
      no_fusion p (FusionP d) q e h u = cc
      no_fusion p (GFill d f) q e h (inl u) = cc
      no_fusion p (GVoid d f) q e h (inl u) = cc
      no_fusion p (GFill d f) q (FusionP e) h (inr u) = cc
      no_fusion p (GVoid d f) q (FusionP e) h (inr u) = cc
      no_fusion p (GFill d f) q e h (inr u) = cc
      no_fusion p (GVoid d f) q e h (inr u) = cc
      no_fusion p c q e h u = cc

      by : Together l a → (a ≡ l) ⊎ (share_region (position l) l.command (position a) a.command ≡ true)
      by (itself e) = inl (good.apart.bids a l k.0 leader_in (sym e))
      by (partners e) = absurd (no_fusion (position l) l.command (position a) a.command h (one_of_two (is_pair l a) (is_pair a l) e))
      by (shares e) = inr e
