-- Turns that change no voxel.
use Rattle.std.proofs.Common.{◌≡◌, ◌+◌, ◌*◌, ◌∙◌, arith, refl, ap, subst, length, List, [], ◌∷◌, pos}
use Rattle.std.specs.Prelude.{ℕ, ℤ, ◌+ℤ◌, IfSome, Option, Some}
use Rattle.std.proofs.lemmas.Int.{ints}
use Rattle.vox_geom.specs.declared.coordinate.Coord.{Coord}
use Rattle.vox_geom.specs.declared.difference.Diff.{Diff}
use Rattle.vox_geom.specs.Difference.{mlen}
use Rattle.vox_geom.specs.Point.{Point, point, plus}
use Rattle.nano_spec.specs.declared.commands.Command.TheVariants.{LMove, SMove, Wait}
use Rattle.nano_spec.specs.declared.system.Bot.{Bot}
use Rattle.nano_spec.specs.Bots.{moved}
use Rattle.nano_spec.specs.State.{State}
use Rattle.bot_crew.specs.Crew.{bot_of, replaced}
use Rattle.system_state.specs.Effects.{after_turn, bots_after_turn}
use Rattle.system_state.proofs.Spans.{after_none}

nothing_more : (z : ℤ) → z ≡ z +ℤ pos 0
nothing_more z = omega (arith, ints)

-- the turn of a bot that waits
pub waited : (s : State) (bot : Bot) (partner : ℕ)
    → length s.matrix.voxels ≡ s.matrix.resolution * s.matrix.resolution * s.matrix.resolution
    → s ≡ after_turn s bot partner Wait
waited s bot partner whole = λ i. record { matrix = after_none s.matrix bot Wait whole refl refl i; harmonics = s.harmonics; bots = s.bots; energy = nothing_more s.energy i; profile = s.profile }

-- the state after the bot moved to a coordinate
pub gone : (s new : State) (bot : Bot) (to : Coord) → bot_of s.bots bot.bid ≡ Some bot → IfSome (bot_of s.bots bot.bid)
    (λ (b : Bot). new ≡ record s { bots = replaced s.bots (bot.bid ∷ []) (moved b (point to) ∷ []) })
    → new ≡ record s { bots = replaced s.bots (bot.bid ∷ []) (moved bot (point to) ∷ []) }
gone s new bot to active h = subst (λ (o : Option Bot). IfSome o (λ (b : Bot). new ≡ record s { bots = replaced s.bots (bot.bid ∷ []) (moved b (point to) ∷ []) })) active h

-- the bots after a straight move
pub bots_moved : (bots : List Bot) (bot : Bot) (partner : ℕ) (d e : Diff) (to : Coord) → e ≡ d
    → point to ≡ plus (point bot.pos) e
    → replaced bots (bot.bid ∷ []) (moved bot (point to) ∷ []) ≡ bots_after_turn bots bot partner (SMove d)
bots_moved bots bot partner d e to same sum = ap (λ (p : Point). replaced bots (bot.bid ∷ []) (moved bot p ∷ [])) (sum ∙ ap (plus (point bot.pos)) same)

-- the state after a straight move
pub moved_straight : (s : State) (new : List Bot) (energy : ℤ) (bot : Bot) (partner : ℕ) (d : Diff)
    → length s.matrix.voxels ≡ s.matrix.resolution * s.matrix.resolution * s.matrix.resolution
    → new ≡ bots_after_turn s.bots bot partner (SMove d) → energy ≡ s.energy +ℤ pos (2 * mlen d)
    → record s { bots = new; energy = energy } ≡ after_turn s bot partner (SMove d)
moved_straight s new energy bot partner d whole bots paid = λ i. record { matrix = after_none s.matrix bot (SMove d) whole refl refl i; harmonics = s.harmonics; bots = bots i; energy = paid i; profile = s.profile }

-- the bots after two moves
pub bots_moved_twice : (bots : List Bot) (bot : Bot) (partner : ℕ) (d e f g : Diff) (middle to : Coord) → f ≡ d → g ≡ e
    → point middle ≡ plus (point bot.pos) f → point to ≡ plus (point middle) g
    → replaced bots (bot.bid ∷ []) (moved bot (point to) ∷ []) ≡ bots_after_turn bots bot partner (LMove d e)
bots_moved_twice bots bot partner d e f g middle to first second half whole =
    ap (λ (p : Point). replaced bots (bot.bid ∷ []) (moved bot p ∷ [])) (whole ∙ (λ i. plus ((half ∙ ap (plus (point bot.pos)) first) i) (second i)))

-- the state after two moves
pub moved_twice : (s : State) (new : List Bot) (energy : ℤ) (bot : Bot) (partner : ℕ) (d e : Diff)
    → length s.matrix.voxels ≡ s.matrix.resolution * s.matrix.resolution * s.matrix.resolution
    → new ≡ bots_after_turn s.bots bot partner (LMove d e) → energy ≡ s.energy +ℤ pos (2 * (mlen d + 2 + mlen e))
    → record s { bots = new; energy = energy } ≡ after_turn s bot partner (LMove d e)
moved_twice s new energy bot partner d e whole bots paid = λ i. record { matrix = after_none s.matrix bot (LMove d e) whole refl refl i; harmonics = s.harmonics; bots = bots i; energy = paid i; profile = s.profile }
