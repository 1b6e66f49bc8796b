use Rattle.std.proofs.Common.{◌≡◌, ◌≢◌, ℕ, ◌+◌, ◌≤◌, ◌<◌, ◌∙◌, [], ◌∷◌, ◌++◌, List, sym, ap, subst, arith, rules, length, length-append}
use Rattle.nano_spec.specs.declared.commands.Command.{Command}
use Rattle.trace_codec.proofs.WholeTraces.{HasCut, cut_more}
use Rattle.machine_c.proofs.NextSteps.{bad_before, bytes_end, cut_before, each_has_one, none_cut}
use Rattle.machine_c.proofs.playing.cut_step.Goals as goal

pub loop-count-init : goal.loop-count-init
loop-count-init c =
    let none : c.clear.new.self.items ≡ [] = search rules in
    subst (λ (cs : List Command). HasCut c.args.bytes.now cs 0 × (0 ≡ length cs) × (0 ≤ c.args.active)) (sym none) (none_cut c.args.bytes.now, omega arith, omega arith)

pub loop-count-preserved : goal.loop-count-preserved
loop-count-preserved c =
    let added : c.add.new.commands.items ≡ c.loop-count.commands.items ++ c.in-Got.command ∷ [] = c.in_ok-add-in-Got.ensures in
    let sum : c.loop-count.size + c.from-size.result ≡ c.loop-count.size + c.in-Got.len = ap (λ n. c.loop-count.size + n) c.from-size.ensures in
    let many = c.loop-count.invariant.1 in
    let below = c.loop-count-test.true in
    let longer : c.loop-count.count + 1 ≡ length (c.loop-count.commands.items ++ c.in-Got.command ∷ []) = omega (arith, many, length-append c.loop-count.commands.items (c.in-Got.command ∷ [])) in (
      subst (λ (n : ℕ). HasCut c.args.bytes.now c.add.new.commands.items n) (sym sum)
          (subst (λ (cs : List Command). HasCut c.args.bytes.now cs (c.loop-count.size + c.in-Got.len)) (sym added)
          (cut_more c.args.bytes.now c.loop-count.commands.items c.loop-count.size c.in-Got.command c.in-Got.len c.loop-count.invariant.0 c.in-Got.ensures.answer)),
      longer ∙ ap length (sym added),
      omega (arith, below),
    )

pub returns-then-size-bytes-clause-within : goal.returns-then-size-bytes-clause-within
returns-then-size-bytes-clause-within c = let cut = c.loop-count.invariant.0 in cut.within

pub returns-then-size-bytes-clause-next : goal.returns-then-size-bytes-clause-next
returns-then-size-bytes-clause-next c =
    let many = c.loop-count.invariant.1 in
    let most = c.loop-count.invariant.2 in
    bytes_end c.args.bytes.now c.loop-count.commands.items c.loop-count.size c.args.active c.loop-count.invariant.0 (omega (arith, many, most)) c.if-size-bytes.true

pub returns-in-More-clause-unread : goal.returns-in-More-clause-unread
returns-in-More-clause-unread c =
    let many = c.loop-count.invariant.1 in
    let below = c.loop-count-test.true in
    let cut = c.loop-count.invariant.0 in
    let within = cut.within in
    let not_all = c.if-size-bytes.false in
    cut_before c.args.bytes.now c.loop-count.commands.items c.loop-count.size c.args.active cut (inside c.loop-count.size (length c.args.bytes.now) within not_all) (omega (arith, many, below)) c.in-More.ensures.answer
  where
    inside : (n k : ℕ) → n ≤ k → n ≢ k → n < k
    inside n k h d = omega (arith, h, d)

pub returns-in-Bad-clause-unread : goal.returns-in-Bad-clause-unread
returns-in-Bad-clause-unread c =
    let many = c.loop-count.invariant.1 in
    let below = c.loop-count-test.true in
    bad_before c.args.bytes.now c.loop-count.commands.items c.loop-count.size c.args.active c.loop-count.invariant.0 (omega (arith, many, below)) c.in-Bad.ensures.answer

pub returns-clause-next : goal.returns-clause-next
returns-clause-next c =
    let many = c.loop-count.invariant.1 in
    let most = c.loop-count.invariant.2 in
    let all = c.loop-count-test.false in
    each_has_one c.args.bytes.now c.loop-count.commands.items c.loop-count.size c.args.active c.loop-count.invariant.0 (omega (arith, many, most)) (omega (arith, many, all))
