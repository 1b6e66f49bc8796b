-- The effect of the loop for a single bot on the next bytes of its trace.
use Rattle.std.specs.Prelude.{◌≡◌, ℕ, ◌≤◌, List, length, take, true}
use Rattle.trace_codec.specs.Decoder.{IsBetween}
use Rattle.trace_judge.specs.Alone.{RunsAlone}
use Rattle.nanobot_rows.specs.Reading.{RunState}
use Rattle.nanobot_rows.specs.Taking.{Takes}
use Rattle.nanobot_rows.specs.declared.trace_run.alone.Went.{Went}

-- the run is that of a single bot, and the next byte begins a command
pub record IsAtCommand (s : RunState) : Type 0 where
  pub alone : RunsAlone s.run
  pub between : IsBetween s.decoder

-- a run consumes the first n bytes of a piece, or none
pub record TakesUpTo (old : RunState) (piece : List ℕ) (n : ℕ) (new : RunState) (began ended : ℕ) : Type 0 where
  pub within : n ≤ length piece
  pub takes : Takes old (take n piece) new began ended

-- the loop for a single bot consumes this many bytes, and at least one if it reports that the bot is still alone
pub record WentOn (old : RunState) (piece : List ℕ) (went : Went) (new : RunState) (began ended : ℕ) : Type 0 where
  pub takes : TakesUpTo old piece went.used new began ended
  pub some : went.alone ≡ true → 1 ≤ went.used
  pub still : went.alone ≡ true → IsAtCommand new
