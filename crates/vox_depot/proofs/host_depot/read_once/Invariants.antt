-- An interrupted read took nothing.
use Rattle.std.specs.Io.KnownBytes.{Keeps}
use Rattle.vox_depot.proofs.host_depot.read_once.Given as goal

abbrev pub invariant-turns : goal.invariant-turns
invariant-turns g l = Keeps (g.F.Read.remaining l.fn.file) (g.F.Read.remaining l.file)
