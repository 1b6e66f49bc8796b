-- The width of the strips of a swarm's bots, which bounds its steps (docs/FORMATS.md, "Printed lines").
use Rattle.std.specs.Prelude.{ℕ, ◌+◌, ◌/◌, max}

-- the number of columns of the widest strip
abbrev pub width : ℕ → ℕ
width r = max 1 ((r + 17) / 20)
