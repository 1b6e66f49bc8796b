-- The results of calls, in numbers.
use Rattle.std.specs.Prelude.{ℕ}
use Rattle.vox_geom.specs.declared.coordinate.Coord.{Coord}
use Rattle.nano_spec.specs.declared.outcomes.Broken.{Broken}
use Rattle.nano_spec.specs.declared.system.Bot.{Bot}
use Rattle.nano_spec.specs.Rule.{rule_number}
use Rattle.model_file.specs.declared.fault.ModelFault.{ModelFault}
use Rattle.model_file.specs.declared.fault.ModelFault.TheVariants as fault
use Rattle.model_file.specs.declared.fault.ModelRefusal.{ModelRefusal}
use Rattle.model_file.specs.declared.fault.ModelRefusal.TheVariants.{NoByte, Resolution, Short, Long, Border, Floating, WideHead, WideResolution, WideRun, WideShort, WideLong}
use Rattle.machine_c.specs.declared.reports.BotReport.{BotReport}
use Rattle.machine_c.specs.declared.reports.BrokenReport.{BrokenReport}
use Rattle.machine_c.specs.declared.reports.ModelReport.{ModelReport}

-- a broken rule
abbrev pub broken_told : Broken → BrokenReport
broken_told b = record { rule = rule_number b.rule; step = b.step; bid = b.bid; x = b.at.x; y = b.at.y; z = b.at.z }

-- no broken rule
abbrev pub none_broken : BrokenReport
none_broken = record { rule = 0; step = 0; bid = 0; x = 0; y = 0; z = 0 }

-- a bot
abbrev pub bot_told : Bot → BotReport
bot_told b = record { seeds = b.seeds; bid = b.bid; x = b.pos.x; y = b.pos.y; z = b.pos.z }

-- a refusal with numbers, and one with a voxel
abbrev pub number_refusal : ℕ → ℕ → ℕ → ModelReport
number_refusal number want have = record { number = number; want = want; have = have; x = 0; y = 0; z = 0 }

abbrev pub voxel_refusal : ℕ → Coord → ModelReport
voxel_refusal number at = record { number = number; want = 0; have = 0; x = at.x; y = at.y; z = at.z }

-- a refusal of a model: the required number of bytes, the actual number (the resolution, bytes or voxels, or the index of a
-- run), the voxel
abbrev pub model_told : ModelRefusal → ModelReport
model_told NoByte = number_refusal 1 0 0
model_told (Resolution r) = number_refusal 2 0 r
model_told (Short want have) = number_refusal 3 want have
model_told (Long want) = number_refusal 4 want 0
model_told (Border at) = voxel_refusal 6 at
model_told (Floating at) = voxel_refusal 7 at
model_told (WideHead have) = number_refusal 8 0 have
model_told (WideResolution r) = number_refusal 9 0 r
model_told (WideRun index) = number_refusal 10 0 index
model_told (WideShort have) = number_refusal 11 0 have
model_told WideLong = number_refusal 12 0 0

-- the same if memory may have run out, which is no refusal
abbrev pub fault_told : ModelFault → ModelReport
fault_told (fault.Refused refusal) = model_told refusal
fault_told fault.Memory = number_refusal 0 0 0
