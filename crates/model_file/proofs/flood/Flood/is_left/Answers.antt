use Rattle.std.proofs.Common.{◌≡◌, ◌-◌, ◌≤◌, ℕ, false, not, eqb, ap, sym, ◌∙◌, arith, min}
use Rattle.std.proofs.lemmas.Bool.Decides.{nat_tests}
use Rattle.nano_spec.specs.Model.{bit}
use Rattle.model_file.proofs.Beginnings.{none_left, nothing_left}
use Rattle.model_file.proofs.flood.Flood.is_left.Goals as goal

pub returns-then-bits-eq0 : goal.returns-then-bits-eq0
returns-then-bits-eq0 g c = λ _. nothing_left c.args.self.now.remaining c.args.first c.args.bits c.if-bits-eq0.true

pub returns : goal.returns
returns g c = λ e.
    let few : c.min-count.result ≤ 64 = omega (arith, c.min-count.ensures) in
    let size : c.min-count.result ≡ min (c.args.self.now.remaining.resolution - c.args.first.z) 64 = omega (arith, c.min-count.ensures, c.from.ensures, c.resolution-r.ensures.value) in
    let none : c.peek_row.result ≡ 0 = zero_of c.peek_row.result e in
    none_left c.args.self.now.remaining c.args.first c.min-count.result c.args.bits few size
    (λ k l. ap (λ n. bit n k) (sym none) ∙ c.peek_row.ensures.full k l)
  where
    zero_of : (n : ℕ) → not (eqb n 0) ≡ false → n ≡ 0
    zero_of n h = grind (arith, nat_tests)
