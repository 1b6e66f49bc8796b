-- The rules of a step and their order: the first broken one is reported (task description, section on commands; the
-- order is this project's own: docs/FORMATS.md, "Rules").
use Rattle.std.specs.Prelude.{ℕ, ◌^◌, Bool, false, cond, ◌&&◌, ◌||◌, not, nat_lt, nat_le, ◌==◌, List, [], ◌∷◌, ◌++◌, length, map, flat_map, find, slice_get, Option, Some, None, option_map}
use Rattle.std.specs.List.{list_any}
use Rattle.vox_geom.specs.declared.coordinate.Coord.{Coord}
use Rattle.vox_geom.specs.Point.{Point, point, plus, same_point}
use Rattle.vox_geom.specs.Region.{Span, dimension, is_within}
use Rattle.nano_spec.specs.declared.commands.Command.{Command}
use Rattle.nano_spec.specs.declared.commands.Command.TheVariants.{Fission, GFill, GVoid}
use Rattle.nano_spec.specs.declared.outcomes.Broken.{Broken}
use Rattle.nano_spec.specs.declared.outcomes.Rule.{Rule}
use Rattle.nano_spec.specs.declared.outcomes.Rule.TheVariants.{TraceEnds, HaltAlone, HaltOrigin, HaltLow, OutOfSpace, Blocked, Seeds, InRegion, Partner, GroupShape, Interference, Forbidden}
use Rattle.nano_spec.specs.Act.{Act, acts, position, stays_in_space, ways, group_regions, is_halt, is_fusion}
use Rattle.nano_spec.specs.First.{first_value}
use Rattle.nano_spec.specs.Group.{are_partners, members, leaders}
use Rattle.nano_spec.specs.Matrix.{Matrix, is_full, all_of}
use Rattle.nano_spec.specs.Profile.{is_allowed}
use Rattle.nano_spec.specs.State.{State, is_high, origin, seed_list}
use Rattle.nano_spec.specs.Volatile.{is_volatile}

-- the bot's position, if the test shows that a rule is broken
abbrev pub here : Act → Bool → Option Coord
here a is_broken = cond is_broken (Some a.bot.pos) None

-- whether a Fission of m needs more seeds than there are
abbrev pub lacks_seeds : List ℕ → Command → Bool
lacks_seeds seeds (Fission d m) = nat_le (length seeds) m
lacks_seeds seeds _ = false

-- the corner of a group command that its bot is near to: the one that its near difference leads to
abbrev pub corners_of : Point → Command → List Point
corners_of p (GFill d f) = plus p d ∷ []
corners_of p (GVoid d f) = plus p d ∷ []
corners_of p _ = []

-- whether a point occurs twice in a list
abbrev pub repeats : List Point → Bool
repeats [] = false
repeats (p ∷ more) = list_any (same_point p) more || repeats more

-- whether the bots that fill or void a region together are not as many as it has corners, or two of them are at one
-- corner
abbrev pub fit_badly : List Act → Span → Bool
fit_badly group region =
    not (length group == 2 ^ dimension region) || repeats (flat_map (λ b. corners_of (position b) b.command) group)

-- whether the bot has a group command whose members do not fit its region
abbrev pub is_misshapen : List Act → Act → Bool
is_misshapen all a = list_any (λ region. fit_badly (members all a) region) (group_regions (position a) a.command)

-- the coordinate at which a bot breaks a rule of single bots, if it does
abbrev pub fault : State → List Act → Act → Rule → Option Coord
fault s all a Forbidden = here a (not (is_allowed s.profile a.command))
fault s all a HaltAlone = here a (is_halt a.command && nat_lt 1 (length s.bots))
fault s all a HaltOrigin = here a (is_halt a.command && not (same_point (position a) (point origin)))
fault s all a HaltLow = here a (is_halt a.command && is_high s.harmonics)
fault s all a OutOfSpace = here a (not (stays_in_space s.matrix.resolution a))
fault s all a Blocked =
    find (λ c. is_full s.matrix c && list_any (λ w. is_within w (point c)) (ways (position a) a.command))
    (all_of s.matrix)
fault s all a Seeds = here a (lacks_seeds (seed_list a.bot.seeds) a.command)
fault s all a InRegion = here a (list_any (λ w. is_within w (position a)) (group_regions (position a) a.command))
fault s all a Partner = here a (is_fusion a.command && not (list_any (are_partners a) all))
fault s all a GroupShape = here a (is_misshapen all a)
fault s all a _ = None

-- the rules that are judged for each bot, in their order
abbrev pub rules_of_bots : List Rule
rules_of_bots =
    Forbidden ∷ HaltAlone ∷ HaltOrigin ∷ HaltLow ∷ OutOfSpace ∷ Blocked ∷ Seeds ∷ InRegion ∷ Partner ∷ GroupShape ∷ []

-- the rule as broken by the bot of this bid, if there is a coordinate at which it is
abbrev pub broken_by : ℕ → Rule → ℕ → Option Coord → Option Broken
broken_by step rule bid at = option_map (λ c. record { step = step; bid = bid; rule = rule; at = c }) at

-- the trace ends within the step: at the bot that comes after those with a command
abbrev pub judge_trace : State → List Command → ℕ → Option Broken
judge_trace s commands step =
    option_map (λ bot. record { step = step; bid = bot.bid; rule = TraceEnds; at = bot.pos })
    (slice_get s.bots (length commands))

-- one bot by these rules, in their order
abbrev pub judge_by : List Rule → State → List Act → ℕ → Act → List (Option Broken)
judge_by rules s all step a = map (λ rule. broken_by step rule a.bot.bid (fault s all a rule)) rules

-- the bots in rising order, and for each the rules in their order
abbrev pub judge_bots : State → List Act → ℕ → List (Option Broken)
judge_bots s all step = flat_map (judge_by rules_of_bots s all step) all

-- the least coordinate that is volatile for the groups of both leaders
abbrev pub clash : Matrix → List Act → Act → Act → Option Coord
clash m all a b = find (λ c. is_volatile all a (point c) && is_volatile all b (point c)) (all_of m)

-- each leader with each greater one, in their order
abbrev pub judge_pairs : Matrix → List Act → ℕ → List Act → List (Option Broken)
judge_pairs m all step [] = []
judge_pairs m all step (a ∷ more) =
    map (λ b. broken_by step Interference a.bot.bid (clash m all a b)) more ++ judge_pairs m all step more

-- all judgements of a step, in their order
abbrev pub judgements : State → List Command → List Act → ℕ → List (Option Broken)
judgements s commands all step =
    judge_trace s commands step ∷ (judge_bots s all step ++ judge_pairs s.matrix all step (leaders all))

-- the first rule that the commands break in the step, if they do
abbrev pub broken : State → List Command → ℕ → Option Broken
broken s commands step = first_value (judgements s commands (acts s.bots commands) step)
