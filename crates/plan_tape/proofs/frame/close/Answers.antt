use Rattle.std.proofs.Common.{refl, ◌∙◌, ap, subst, inl, length, arith}
use Rattle.nano_spec.specs.declared.commands.Command.TheVariants.{Flip, Halt}
use Rattle.nano_spec.specs.declared.system.Profile.{Profile}
use Rattle.nano_spec.specs.Matrix.{Matrix, is_full}
use Rattle.nano_spec.specs.State.{origin}
use Rattle.plan_tape.specs.Progress.{IsAccepted, spot}
use Rattle.plan_tape.proofs.Bytes.{bytes_of}
use Rattle.plan_tape.proofs.ClearWays.{ways_home}
use Rattle.plan_tape.proofs.Fissions.{fissions_is, moves_make_none, write_makes_none}
use Rattle.plan_tape.proofs.LegalModels.{grounded_at}
use Rattle.plan_tape.proofs.Lengths.{legs_length, push_length}
use Rattle.plan_tape.proofs.frame.close.Goals as goal

pub go-requires-clause-ways : goal.go-requires-clause-ways
go-requires-clause-ways c = ways_home c.args.tape.matrix (spot c.args.tape.bots) origin c.requires.legal (inl c.requires.clear) refl

pub flip-requires-clause-held : goal.flip-requires-clause-held
flip-requires-clause-held c = λ low. grounded_at c.go.new.self.matrix c.args.tape.matrix c.in_ok-go.ensures.ok.matrix c.requires.legal

pub returns-clause-accepted : goal.returns-clause-accepted
returns-clause-accepted c = λ target alike.
    let go_ok = c.in_ok-go.ensures.ok in
    let flip_ok = c.in_ok-flip.ensures.ok in
    let halt_ok = c.in_ok-halt.ensures.ok in
    subst (λ (k : Profile). IsAccepted c.args.tape.source target c.finish.result.commands k c.finish.result.energy c.finish.result.steps) (halt_ok.profile ∙ (flip_ok.profile ∙ go_ok.profile))
    (subst (λ (m : Matrix). IsAccepted m target c.finish.result.commands c.halt.new.self.profile c.finish.result.energy c.finish.result.steps) (halt_ok.source ∙ (flip_ok.source ∙ go_ok.source))
    (c.finish.ensures.accepted target (λ q. ap (λ (m : Matrix). is_full m q) (halt_ok.matrix ∙ (flip_ok.matrix ∙ go_ok.matrix)) ∙ alike q)))

pub returns-clause-commands : goal.returns-clause-commands
returns-clause-commands c =
    let went = legs_length c.args.tape c.go.new.self origin c.in_ok-go.ensures.ok in
    let flipped = push_length c.go.new.self.commands c.flip.new.self.commands _ c.in_ok-flip.ensures.ok.commands in
    let halted = push_length c.flip.new.self.commands c.halt.new.self.commands _ c.in_ok-halt.ensures.ok.commands in
    let all = ap length c.finish.ensures.commands in
    omega (arith, went, flipped, halted, all)

pub returns-clause-bytes : goal.returns-clause-bytes
returns-clause-bytes c =
    let went = c.in_ok-go.ensures.ok.bytes_are in
    let flipped = c.in_ok-flip.ensures.ok.bytes_are in
    let halted = c.in_ok-halt.ensures.ok.bytes_are in
    let all = bytes_of c.halt.new.self c.finish.result.commands c.finish.ensures.commands in
    omega (arith, went, flipped, halted, all)

pub returns-clause-fissions : goal.returns-clause-fissions
returns-clause-fissions c =
    fissions_is c.halt.new.self c.finish.result.commands c.finish.ensures.commands
    ∙ (write_makes_none c.flip.new.self c.halt.new.self Halt c.in_ok-halt.ensures.ok.commands refl
    ∙ (write_makes_none c.go.new.self c.flip.new.self Flip c.in_ok-flip.ensures.ok.commands refl
    ∙ moves_make_none c.args.tape c.go.new.self origin c.in_ok-go.ensures.ok))
