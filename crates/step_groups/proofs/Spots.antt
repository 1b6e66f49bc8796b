-- The volatile coordinates of two bots of one group: the position of each, and for a group command the one region.
use Rattle.std.proofs.Common.{◌≡◌, refl, sym, ◌∙◌, inl, inr, ◌⊎◌, Bool, true, false, ◌||◌}
use Rattle.std.specs.List.{list_any}
use Rattle.vox_geom.specs.Point.{Point, plus}
use Rattle.vox_geom.specs.Region.{between, is_within, just}
use Rattle.vox_geom.proofs.Truths.{one_of_two, or_by_first, or_false}
use Rattle.nano_spec.specs.declared.commands.Command.{Command}
use Rattle.nano_spec.specs.declared.commands.Command.TheVariants.{FusionP, FusionS, GFill, GVoid}
use Rattle.nano_spec.specs.Act.{Act, position}
use Rattle.nano_spec.specs.Group.{are_partners, fuse, is_pair, share_region}
use Rattle.nano_spec.specs.Volatile.{is_volatile_of, volatile_regions}
use Rattle.step_order.proofs.Faultless.{within_as}

abbrev within_any : Point → Command → Point → Bool
within_any q e x = list_any (λ s. is_within s x) (volatile_regions q e)

-- the halves of a fusion make their positions volatile
primary : (p : Point) (c : Command) (q : Point) (e : Command) (x : Point) → fuse p c q e ≡ true
    → within_any p c x ≡ is_within (just p) x
primary p (FusionP d) q e x h = or_false (is_within (just p) x)
primary p c q e x h = cc

secondary : (p : Point) (c : Command) (q : Point) (e : Command) (x : Point) → fuse p c q e ≡ true
    → within_any q e x ≡ is_within (just q) x
secondary p (FusionP d) q (FusionS e) x h = or_false (is_within (just q) x)
secondary p (FusionP d) q e x h = cc
secondary p c q e x h = cc

partner : (a b : Act) (x : Point) → are_partners a b ≡ true → is_volatile_of x b ≡ is_within (just (position b)) x
partner a b x h = by (one_of_two (is_pair a b) (is_pair b a) h)
  where
    by : (is_pair a b ≡ true) ⊎ (is_pair b a ≡ true) → is_volatile_of x b ≡ is_within (just (position b)) x
    by (inl e) = secondary (position a) a.command (position b) b.command x e
    by (inr e) = primary (position b) b.command (position a) a.command x e

pub of_partner : (a b : Act) (x : Point) → are_partners a b ≡ true → is_volatile_of x b ≡ true
    → is_within (just (position b)) x ≡ true
of_partner a b x h v = sym (partner a b x h) ∙ v

pub spot_of_partner : (a b : Act) (x : Point) → are_partners a b ≡ true → is_within (just (position b)) x ≡ true
    → is_volatile_of x b ≡ true
spot_of_partner a b x h v = partner a b x h ∙ v

-- members of a group command share the region
in_region : (here there region other : Bool) → region ≡ other → (there || (other || false)) ≡ true
    → ((here || (region || false)) || there) ≡ true
in_region true there region other e h = refl
in_region false there true other e h = refl
in_region false true false other e h = refl
in_region false false false true e h = cc
in_region false false false false e h = h

pub of_sharer : (p : Point) (c : Command) (q : Point) (e : Command) (x : Point) → share_region p c q e ≡ true
    → within_any q e x ≡ true → (within_any p c x || is_within (just q) x) ≡ true
of_sharer p (GFill d f) q (GFill e g) x h v = in_region (is_within (just p) x) (is_within (just q) x) (is_within (between (plus p d) (plus (plus p d) f)) x) (is_within (between (plus q e) (plus (plus q e) g)) x) (within_as (between (plus p d) (plus (plus p d) f)) (between (plus q e) (plus (plus q e) g)) x h) v
of_sharer p (GVoid d f) q (GVoid e g) x h v = in_region (is_within (just p) x) (is_within (just q) x) (is_within (between (plus p d) (plus (plus p d) f)) x) (is_within (between (plus q e) (plus (plus q e) g)) x) (within_as (between (plus p d) (plus (plus p d) f)) (between (plus q e) (plus (plus q e) g)) x h) v
of_sharer p c q e x h v = cc

pub spot_of_sharer : (p : Point) (c : Command) (q : Point) (e : Command) (x : Point) → share_region p c q e ≡ true
    → is_within (just q) x ≡ true → within_any q e x ≡ true
spot_of_sharer p (GFill d f) q (GFill e g) x h v = or_by_first (is_within (just q) x) (is_within (between (plus q e) (plus (plus q e) g)) x || false) v
spot_of_sharer p (GVoid d f) q (GVoid e g) x h v = or_by_first (is_within (just q) x) (is_within (between (plus q e) (plus (plus q e) g)) x || false) v
spot_of_sharer p c q e x h v = cc
