-- The numbers and the names of the rules (this project's own: docs/FORMATS.md, "Rules").
use Rattle.std.specs.Prelude.{ℕ, List, codes}
use Rattle.nano_spec.specs.declared.outcomes.Rule.{Rule}
use Rattle.nano_spec.specs.declared.outcomes.Rule.TheVariants.{TraceEnds, HaltAlone, HaltOrigin, HaltLow, OutOfSpace, Blocked, Seeds, InRegion, Partner, GroupShape, Interference, Ungrounded, AfterHalt, WrongResult, Forbidden}

-- each rule with its number and its name, as both are printed
abbrev pub numbered : Rule → ℕ × List ℕ
numbered TraceEnds = (1, codes "TraceEnds")
numbered HaltAlone = (2, codes "HaltAlone")
numbered HaltOrigin = (3, codes "HaltOrigin")
numbered HaltLow = (4, codes "HaltLow")
numbered OutOfSpace = (5, codes "OutOfSpace")
numbered Blocked = (6, codes "Blocked")
numbered Seeds = (7, codes "Seeds")
numbered InRegion = (8, codes "InRegion")
numbered Partner = (9, codes "Partner")
numbered GroupShape = (10, codes "GroupShape")
numbered Interference = (11, codes "Interference")
numbered Ungrounded = (12, codes "Ungrounded")
numbered AfterHalt = (13, codes "AfterHalt")
numbered WrongResult = (14, codes "WrongResult")
numbered Forbidden = (15, codes "Forbidden")

-- the number of a rule
abbrev pub rule_number : Rule → ℕ
rule_number rule = (numbered rule).0

-- the name of a rule
abbrev pub name_of : Rule → List ℕ
name_of rule = (numbered rule).1
