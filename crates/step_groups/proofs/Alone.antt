-- A bot whose command needs no partners is a group of its own.
use Rattle.std.proofs.Common.{◌≡◌, ℕ, refl, ap, sym, ◌∙◌, subst, arith, inl, inr, Bool, true, false, ◌&&◌, ◌||◌, ◌==◌, cond, List, [], ◌∷◌, filter, length}
use Rattle.std.specs.Prelude.{All, IsTrue, nat_le}
use Rattle.std.specs.List.{list_all}
use Rattle.std.proofs.lemmas.Bool.Decides.{nat_tests}
use Rattle.nano_spec.specs.declared.system.Bot.{Bot}
use Rattle.vox_geom.specs.Point.{Point}
use Rattle.vox_geom.proofs.Tests.{test_itself}
use Rattle.nano_spec.specs.declared.commands.Command.{Command}
use Rattle.nano_spec.specs.declared.commands.Command.TheVariants.{FusionP, FusionS, GFill, GVoid}
use Rattle.nano_spec.specs.Act.{Act, acts, position}
use Rattle.nano_spec.specs.Group.{fuse, share_region, are_together, are_partners, members, leaders}
use Rattle.step_order.proofs.Lists.{In, place_in}
use Rattle.step_groups.specs.Judging.{is_alone}

no_fuse : (p : Point) (k : Command) (q : Point) (l : Command) → IsTrue (is_alone k) → fuse p k q l ≡ false
no_fuse p (FusionP d) q l h = cc
no_fuse p k q l h = refl

-- only a FusionS is fused with
no_fuse_with : (p : Point) (d : Command) (q : Point) (k : Command) → IsTrue (is_alone k) → fuse p d q k ≡ false
no_fuse_with p (FusionP d) q (FusionS e) h = cc
no_fuse_with p (FusionP d) q k h = refl
no_fuse_with p d q k h = refl

no_region : (p : Point) (k : Command) (q : Point) (l : Command) → IsTrue (is_alone k) → share_region p k q l ≡ false
no_region p (GFill d f) q l h = cc
no_region p (GVoid d f) q l h = cc
no_region p k q l h = refl

or-false : (b : Bool) → ((b || (false || false)) || false) ≡ b
or-false true = refl
or-false false = refl

-- such a bot is a member of its own group alone
pub together_by_bid : (a b : Act) → IsTrue (is_alone a.command) → are_together a b ≡ (a.bot.bid == b.bot.bid)
together_by_bid a b h =
    (λ i. ((a.bot.bid == b.bot.bid) || (no_fuse (position a) a.command (position b) b.command h i || no_fuse_with (position b) b.command (position a) a.command h i)) || no_region (position a) a.command (position b) b.command h i)
    ∙ or-false (a.bot.bid == b.bot.bid)

-- so its group is itself, if its bid is unique
pub alone_members : (all : List Act) (a : Act) → IsTrue (is_alone a.command)
    → members all a ≡ filter (λ b. a.bot.bid == b.bot.bid) all
alone_members all a h = ap (λ t. filter t all) (λ i b. together_by_bid a b h i)

least : (n : ℕ) → nat_le n n ≡ true
least n = grind (arith, nat_tests)

-- a single bot is its group
pub single_members : (b : Bot) (k : Command)
    → members (record { bot = b; command = k } ∷ []) (record { bot = b; command = k })
    ≡ record { bot = b; command = k } ∷ []
single_members b k =
    let act : Act = record { bot = b; command = k } in
    ap (λ t. cond ((t || are_partners act act) || share_region (position act) k (position act) k) (act ∷ []) []) (test_itself b.bid)

pub single_leaders : (b : Bot) (k : Command)
    → leaders (record { bot = b; command = k } ∷ []) ≡ record { bot = b; command = k } ∷ []
single_leaders b k =
    let act : Act = record { bot = b; command = k } in
    ap (λ ms. cond (list_all (λ c. nat_le b.bid c.bot.bid) ms) (act ∷ []) []) (single_members b k)
    ∙ ap (λ t. cond (t && true) (act ∷ []) []) (least b.bid)

-- the bot leads, and its group is the bot
pub single_leads : (bots : List Bot) (commands : List Command) → length bots ≡ 1 → length commands ≡ length bots
    → leaders (acts bots commands) ≡ acts bots commands
single_leads [] commands e f = absurd (omega arith)
single_leads (b ∷ []) [] e f = absurd (omega arith)
single_leads (b ∷ []) (k ∷ []) e f = single_leaders b k
single_leads (b ∷ []) (k ∷ l ∷ commands) e f = absurd (omega arith)
single_leads (b ∷ d ∷ bots) commands e f = absurd (omega arith)

pub single_group : (bots : List Bot) (commands : List Command) → length bots ≡ 1 → length commands ≡ length bots
    → All (λ a. members (acts bots commands) a ≡ a ∷ []) (acts bots commands)
single_group [] commands e f = absurd (omega arith)
single_group (b ∷ []) [] e f = absurd (omega arith)
single_group (b ∷ []) (k ∷ []) e f = λ j d lt. only _ (place_in d (acts (b ∷ []) (k ∷ [])) j lt)
  where
    only : (a : Act) → In a (acts (b ∷ []) (k ∷ [])) → members (acts (b ∷ []) (k ∷ [])) a ≡ a ∷ []
    only a (inl g) = subst (λ (x : Act). members (acts (b ∷ []) (k ∷ [])) x ≡ x ∷ []) (sym g) (single_members b k)
    only a (inr g) = absurd g
single_group (b ∷ []) (k ∷ l ∷ commands) e f = absurd (omega arith)
single_group (b ∷ d ∷ bots) commands e f = absurd (omega arith)
