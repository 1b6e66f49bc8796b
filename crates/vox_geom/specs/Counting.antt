-- Ledgers that touches are counted in.
use Rattle.std.specs.Prelude.{◌≡◌, ◌<◌, ℕ}
use Rattle.std.specs.declared.sync.ledger.Blank.{Blank}

-- the blank is that of the ledger with this number, which has `all` parts, at least one
pub record IsBlankOf (blank : Blank) (number all : ℕ) : Type 0 where
  pub name : blank.name ≡ number
  pub parts : blank.parts ≡ all
  pub some : 0 < all
