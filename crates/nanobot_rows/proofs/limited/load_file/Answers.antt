use Rattle.std.proofs.Common.{◌≡◌, Err, arith, refl, rules}
use Rattle.vox_depot.specs.Causes.{Rose}
use Rattle.nanobot_rows.specs.Reading.{of_load}
use Rattle.nanobot_rows.specs.Report.{report_line, status_of}
use Rattle.nanobot_rows.proofs.Loads.{file_not_loaded, is_whole, too_long}
use Rattle.nanobot_rows.proofs.limited.load_file.Goals as goal

pub returns-in_err-bytes-clause-reads : goal.returns-in_err-bytes-clause-reads
returns-in_err-bytes-clause-reads g c =
    let is : c.from_residual.result ≡ Err (of_load c.in_err-bytes.field-0.0) = search rules in
    rw is (file_not_loaded c.args.limit (status_of c.args.too_long) (report_line c.args.too_long) (g.D.Depot.files c.args.depot.now) c.args.name.now (Rose (g.D.Depot.faults c.args.depot.now) (g.D.Depot.faults c.load.new.depot)) c.in_err-bytes.field-0.0
    (λ e. search rules) (λ e. search rules))

pub returns-then-len-limit-clause-reads : goal.returns-then-len-limit-clause-reads
returns-then-len-limit-clause-reads g c = too_long _ _ c.in_ok-bytes.bytes.items c.args.limit _ _ _ refl c.in_ok-bytes.ensures.bytes (omega (arith, c.if-len-limit.true, c.len.ensures))

pub returns-clause-reads : goal.returns-clause-reads
returns-clause-reads g c = is_whole _ _ c.in_ok-bytes.bytes.items c.args.limit _ _ _ refl c.in_ok-bytes.ensures.bytes (omega (arith, c.if-len-limit.false, c.len.ensures))
