-- A run of a trace that is fetched piece by piece.
use Rattle.std.proofs.Common.{codes, ◌≡◌, ℕ, ◌+◌, ◌<◌, ◌≤◌, List, [], ◌++◌, length, take, drop, refl, sym, ap, ◌∙◌, subst, arith, length-take, length-drop}
use Rattle.std.specs.Prelude.{Option, Some, Ok, Err, IfSome}
use Rattle.std.proofs.lemmas.List.{take_all}
use Rattle.std.proofs.Math.Seq.{take-add}
use Rattle.nano_spec.specs.declared.system.Profile.{Profile}
use Rattle.nano_spec.specs.Matrix.{Matrix}
use Rattle.vox_depot.specs.Files.{Files, IfTold, IsPiece, content}
use Rattle.vox_depot.proofs.Loading.{from_told}
use Rattle.nanobot_rows.specs.declared.report.Report.{Report}
use Rattle.nanobot_rows.specs.declared.report.Report.TheVariants.{TraceLong}
use Rattle.nanobot_rows.specs.declared.status.Status.{Status}
use Rattle.nanobot_rows.specs.declared.status.Status.TheVariants as is
use Rattle.plan_choice.specs.Planners.{byte_limit}
use Rattle.nanobot_rows.specs.Answer.{OfRun, TraceOf, Upon}
use Rattle.nanobot_rows.specs.Lines.{long_line}
use Rattle.nanobot_rows.specs.Reading.{AnswerOfBytes, HasRun, RunState, reply_of}
use Rattle.nanobot_rows.proofs.Loads.{exceeds, fits}
use Rattle.nanobot_rows.proofs.Told.{with_file}

-- if the file is known, its first bytes were consumed
pub record IsUnderway (told : Option Files) (name : List ℕ) (source : Matrix) (profile : Profile) (at : ℕ) (run : RunState) : Type 0 where
  pub front : (files : Files) (file : List ℕ) → told ≡ Some files → content files name ≡ Some file
      → (at ≤ length file) × HasRun source profile (take at file) run

pub underway : (told : Option Files) (name : List ℕ) (source : Matrix) (profile : Profile) (run : RunState)
    → HasRun source profile [] run → IsUnderway told name source profile 0 run
underway told name source profile run h = record { front = λ files file t c. (omega arith, h) }

-- the bytes that a piece has
pub piece_has : (file buf : List ℕ) (at n : ℕ) → n ≤ length buf → IsPiece file at n buf → at ≤ length file
    → at + n ≤ length file
piece_has file buf at n fits p h =
    let length_is = ap length p.same in
    let length_taken = length-take n buf in
    let taken_length = length-take n (drop at file) in
    let length_dropped = length-drop at file in
    omega (arith, length_is, length_taken, taken_length, length_dropped)

module _ (told : Option Files) (name : List ℕ) (source : Matrix) (profile : Profile) (at n : ℕ) (buf : List ℕ) (run : RunState)
    (so_far : IsUnderway told name source profile at run) (piece : IfTold told name (λ file. IsPiece file at n buf)) (room_is : n ≤ length buf) where
  -- the piece was fed
  pub underway_next : (next : RunState)
      → ((bytes : List ℕ) → HasRun source profile bytes run → HasRun source profile (bytes ++ take n buf) next)
      → IsUnderway told name source profile (at + n) next
  underway_next next fed = record {
    front = λ files file t c.
        let is_piece : IsPiece file at n buf = from_told told name _ piece files file t c in
        let old = so_far.front files file t c in
        let joined : take at file ++ take n buf ≡ take (at + n) file = ap (λ b. take at file ++ b) is_piece.same ∙ sym (take-add at n file) in
        (piece_has file buf at n room_is is_piece old.0, subst (λ (b : List ℕ). HasRun source profile b next) joined (fed (take at file) old.1));
  }

  -- no byte came: the trace is whole
  pub underway_end : (target : Matrix) (report : Report) → 0 < length buf → n ≡ 0 → at ≤ 1073741824 → ((bytes : List ℕ)
      → HasRun source profile bytes run → (files : Files)
      → AnswerOfBytes profile source target bytes files (reply_of files report)) → IfSome told
      (λ files. Upon (TraceOf byte_limit name) (OfRun profile source target) files (reply_of files report))
  underway_end target report room none within done =
      with_file told name _ piece (λ files file t c p.
      let old = so_far.front files file t c in
      let end = p.ends none room in
      let all : take at file ≡ file = take_all at file end in
      let answer = subst (λ (b : List ℕ). AnswerOfBytes profile source target b files (reply_of files report)) all (done (take at file) old.1 files) in
      (answer.0, (Ok file, fits files name file byte_limit is.Trace (long_line (codes "trace") byte_limit) c (omega (arith, end, within)), answer.1), answer.2))

  -- a byte past the limit came
  pub underway_long : (target : Matrix) → 1073741824 < at + n → IfSome told (λ files.
      Upon (TraceOf byte_limit name) (OfRun profile source target) files (reply_of files (TraceLong 1073741824)))
  underway_long target past =
      with_file told name _ piece (λ files file t c p.
      let old = so_far.front files file t c in
      let size = piece_has file buf at n room_is p old.0 in
      let end : Status × List ℕ = (is.Trace, long_line (codes "trace") byte_limit) in
      (Err end, (Err end, exceeds files name file byte_limit is.Trace (long_line (codes "trace") byte_limit) c (omega (arith, size, past)), refl), refl))
