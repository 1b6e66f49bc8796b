-- The rules of single bots, bot by bot (docs/FORMATS.md, "Rules").
use Rattle.std.specs.Prelude.{◌≡◌, ℕ, ◌*◌, ◌^◌, ◌==◌, Bool, true, false, ◌&&◌, ◌||◌, not, cond, pos, List, [], ◌∷◌, length, flat_map, count_by, Option, Some, None, Result}
use Rattle.std.specs.Result.{result_err}
use Rattle.std.specs.Option.{option_or}
use Rattle.vox_geom.specs.declared.difference.Diff.{Diff}
use Rattle.vox_geom.specs.Point.{Point, point, plus}
use Rattle.nano_spec.specs.declared.commands.Command.{Command}
use Rattle.nano_spec.specs.declared.commands.Command.TheVariants.{Fill, FusionP, FusionS, GFill, GVoid, LMove, SMove, Void, Wait}
use Rattle.nano_spec.specs.declared.outcomes.Broken.{Broken}
use Rattle.nano_spec.specs.declared.outcomes.Rule.{Rule}
use Rattle.nano_spec.specs.declared.outcomes.Rule.TheVariants.{HaltAlone, HaltOrigin, HaltLow, OutOfSpace, Blocked, Seeds, InRegion, Partner, GroupShape}
use Rattle.nano_spec.specs.declared.system.Bot.{Bot}
use Rattle.nano_spec.specs.declared.system.Harmonics.{Harmonics}
use Rattle.nano_spec.specs.declared.system.Profile.{Profile}
use Rattle.nano_spec.specs.Act.{Act, position, stays_in_space}
use Rattle.nano_spec.specs.First.{first_value}
use Rattle.nano_spec.specs.Matrix.{Matrix, all_of}
use Rattle.nano_spec.specs.Rules.{corners_of, judge_by, repeats, rules_of_bots}
use Rattle.nano_spec.specs.State.{State}
use Rattle.nano_spec.specs.Volatile.{is_volatile_of}

-- a bot and its command
abbrev pub act : Bot → Command → Act
act bot command = record { bot = bot; command = command }

-- the first of the rules that a bot breaks
abbrev pub first_fault : State → List Act → ℕ → Act → List Rule → Option Broken
first_fault s all step a rules = first_value (judge_by rules s all step a)

-- the rule that is broken, if one is
abbrev pub rule_broken : {T : Type 0} → Result T Broken → Option Broken
rule_broken judged = result_err judged

-- the command that fills the voxel at a difference (true), or voids it (false)
abbrev pub edit_of : Bool → Diff → Command
edit_of true d = Fill d
edit_of false d = Void d

-- the command that fills the region between two corners with other bots (true), or voids it (false)
abbrev pub group_edit_of : Bool → Diff → Diff → Command
group_edit_of true d f = GFill d f
group_edit_of false d f = GVoid d f

-- the first rule that a bot breaks
abbrev pub judge_bot : State → List Act → ℕ → Act → Option Broken
judge_bot s all step a = first_fault s all step a rules_of_bots

-- the rules after the one on the profile
abbrev pub later_rules : List Rule
later_rules = HaltAlone ∷ HaltOrigin ∷ HaltLow ∷ OutOfSpace ∷ Blocked ∷ Seeds ∷ InRegion ∷ Partner ∷ GroupShape ∷ []

-- the first rule after the one on the profile that a bot breaks, whatever the rest of the state beyond the matrix and the other
-- acts
abbrev pub IsLaterFault : Matrix → ℕ → Act → Option Broken → Type 0
IsLaterFault m step a fault =
    (s : State) (all : List Act) → fault ≡ first_fault (record s { matrix = m }) all step a later_rules

-- the state at the start of a step, as far as the rules read it: without the energy
abbrev pub start_of : Matrix → Harmonics → Profile → List Bot → State
start_of m harmonics profile bots =
    record { matrix = m; harmonics = harmonics; bots = bots; energy = pos 0; profile = profile }

-- the first rule that one of these bots breaks
abbrev pub judge_each : State → List Act → ℕ → List Act → Option Broken
judge_each s all step [] = None
judge_each s all step (a ∷ more) = option_or (judge_bot s all step a) (judge_each s all step more)

-- the corners that group commands of these bots name
abbrev pub corner_list : List Act → List Point
corner_list xs = flat_map (λ b. corners_of (position b) b.command) xs

-- whether a group has a wrong number of members for its region's dimension, or two members at one corner
abbrev pub are_misshapen : List Act → ℕ → Bool
are_misshapen members dimension = not (length members == 2 ^ dimension) || repeats (corner_list members)

-- the point that the difference leads to, if there is one
abbrev pub at_corner : Point → Option Diff → List Point
at_corner p None = []
at_corner p (Some d) = plus p d ∷ []

-- whether the command needs no other bot: such a bot is a group of its own
abbrev pub is_alone : Command → Bool
is_alone (FusionP d) = false
is_alone (FusionS d) = false
is_alone (GFill d f) = false
is_alone (GVoid d f) = false
is_alone _ = true

-- whether the command is rare among many bots: no wait, no move, no fill and no void of one voxel
abbrev pub is_rare : Command → Bool
is_rare Wait = false
is_rare (SMove d) = false
is_rare (LMove d e) = false
is_rare (Fill d) = false
is_rare (Void d) = false
is_rare _ = true

-- the number of touches that the judgement of a bot may take: only commands that need no other bot read voxels
abbrev pub touches_of : Matrix → Act → ℕ
touches_of m a =
    cond (is_alone a.command && stays_in_space m.resolution a)
    (2 * count_by (λ c. is_volatile_of (point c) a) (all_of m)) 0
