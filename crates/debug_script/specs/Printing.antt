-- The printed form of a session's reports (docs/FORMATS.md, "Sessions").
use Rattle.std.specs.Prelude.{ℕ, cond, List, [], ◌∷◌, flat_map, length, codes, decimal, Some, None}
use Rattle.std.specs.Fmt.{signed_decimal}
use Rattle.std.specs.List.{concat}
use Rattle.nano_spec.specs.declared.system.Bot.{Bot}
use Rattle.nano_spec.specs.State.{seed_list}
use Rattle.step_debugger.specs.Session as session
use Rattle.step_debugger.specs.Session.{DebugReport}
use Rattle.debug_script.specs.Broken.{broken_line, as_line, printed_place}

-- the line of an active bot
abbrev pub bot_line : Bot → List ℕ
bot_line b =
    as_line (codes "bot " ∷ decimal b.bid ∷ codes " at " ∷ printed_place b.pos ∷ codes " seeds "
    ∷ decimal (length (seed_list b.seeds)) ∷ [])

-- the lines of a report
abbrev pub printed_report : DebugReport → List ℕ
printed_report session.Ended = codes "ended\n"
printed_report (session.Refused b) = broken_line b
printed_report (session.Made steps energy halted) =
    concat (codes "step " ∷ decimal steps ∷ codes " energy " ∷ signed_decimal energy
    ∷ cond halted (codes " halted\n") (codes "\n") ∷ [])
printed_report (session.NoLeader bid) = as_line (codes "no leader " ∷ decimal bid ∷ [])
printed_report (session.Begun bid step) = as_line (codes "group " ∷ decimal bid ∷ codes " of step " ∷ decimal step ∷ [])
printed_report session.NoHistory = codes "no history\n"
printed_report (session.Returned steps energy) =
    as_line (codes "back to step " ∷ decimal steps ∷ codes " energy " ∷ signed_decimal energy ∷ [])
printed_report (session.Crew bots) = flat_map bot_line bots
printed_report (session.IsVoid c) = as_line (codes "voxel " ∷ printed_place c ∷ codes " void" ∷ [])
printed_report (session.IsFull c (Some level)) =
    as_line (codes "voxel " ∷ printed_place c ∷ codes " full level " ∷ decimal level ∷ [])
printed_report (session.IsFull c None) = as_line (codes "voxel " ∷ printed_place c ∷ codes " full floating" ∷ [])
