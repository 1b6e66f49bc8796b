use Rattle.std.proofs.Common.{◌≡◌, ◌-◌, refl, sym, ◌∙◌, ap, subst, length, inr, arith}
use Rattle.vox_geom.specs.declared.coordinate.Coord.{Coord}
use Rattle.vox_geom.specs.Point.{coord}
use Rattle.vox_geom.specs.Space.{IsInSpace}
use Rattle.nano_spec.specs.declared.commands.Command.TheVariants.{Flip}
use Rattle.nano_spec.specs.Matrix.{Matrix}
use Rattle.nano_spec.specs.Profile.{full_profile}
use Rattle.nano_spec.specs.State.{origin}
use Rattle.nano_spec.specs.Step.{flipped}
use Rattle.plan_tape.specs.Leg.{moves_to}
use Rattle.plan_tape.specs.Progress.{IsVoidFrom, TapeState, bots_at, spot, top}
use Rattle.plan_tape.proofs.Bytes.{bytes-starting}
use Rattle.plan_tape.proofs.ClearWays.{ways_home_at}
use Rattle.plan_tape.proofs.Fissions.{fissions_none, moves_make_none, write_makes_none}
use Rattle.plan_tape.proofs.LegalModels.{void_at_top}
use Rattle.plan_tape.proofs.Lengths.{legs_length, push_length}
use Rattle.plan_tape.proofs.frame.rise.Goals as goal

pub go-requires-clause-ways : goal.go-requires-clause-ways
go-requires-clause-ways c =
    let flip_ok = c.in_ok-flip.ensures.ok in
    let tape_ensured = c.in_ok-tape.ensures in
    ways_home_at c.flip.new.self.matrix c.args.source (spot c.flip.new.self.bots) origin _ (flip_ok.matrix ∙ ap (λ (t : TapeState). t.matrix) tape_ensured) (ap spot (flip_ok.bots_are ∙ ap (λ (t : TapeState). t.bots) tape_ensured)) c.requires (inr refl) refl

pub returns-clause-risen : goal.returns-clause-risen
returns-clause-risen c =
    let start = c.in_ok-tape.tape in
    let self_after_flip = c.flip.new.self in
    let flip_ok = c.in_ok-flip.ensures.ok in
    let tape_ensured = c.in_ok-tape.ensures in
    let go_ok = c.in_ok-go.ensures.ok in
    let to = coord 0 (c.resolution-r.result - 1) 0 in
    let source : c.go.new.self.source ≡ c.args.source = go_ok.source ∙ (flip_ok.source ∙ ap (λ (x : TapeState). x.source) tape_ensured) in
    let there : to ≡ top c.go.new.self.source = ap (λ n. coord 0 (n - 1) 0) c.resolution-r.ensures.value ∙ ap top (sym source) in
    let first = flip_ok.bots_are ∙ ap (λ (x : TapeState). x.bots) tape_ensured in
    let matrix : c.go.new.self.matrix ≡ c.go.new.self.source = go_ok.matrix ∙ (flip_ok.matrix ∙ (ap (λ (x : TapeState). x.matrix) tape_ensured ∙ sym source)) in
    let way : moves_to (spot self_after_flip.bots) to ≡ moves_to origin (top c.go.new.self.source) = (λ i. moves_to (spot (first i)) (there i)) in
    let no_steps : start.steps ≡ 0 = ap (λ (x : TapeState). x.steps) tape_ensured in
    let no_commands : length start.commands ≡ 0 = ap (λ (x : TapeState). length x.commands) tape_ensured in
    let no_bytes = bytes-starting start c.args.source full_profile tape_ensured in
    let flip_steps = flip_ok.steps in
    let flip_bytes = flip_ok.bytes_are in
    let flip_length = push_length start.commands self_after_flip.commands _ flip_ok.commands in
    let go_steps = go_ok.steps in
    let go_bytes = go_ok.bytes_are in
    let go_length = legs_length self_after_flip c.go.new.self to go_ok in
    record {
      matrix = matrix;
      harmonics = go_ok.harmonics ∙ (flip_ok.harmonics ∙ ap (λ (x : TapeState). flipped x.harmonics) tape_ensured);
      profile = go_ok.profile ∙ (flip_ok.profile ∙ ap (λ (x : TapeState). x.profile) tape_ensured);
      bots_are = go_ok.bots ∙ (λ i. bots_at (first i) (there i));
      unsplit = moves_make_none self_after_flip c.go.new.self to go_ok ∙ (write_makes_none start self_after_flip Flip flip_ok.commands refl ∙ fissions_none start (ap (λ (x : TapeState). x.commands) tape_ensured));
      placed = subst (λ (q : Coord). IsInSpace c.go.new.self.matrix.resolution q) (sym (go_ok.there ∙ there)) (let resolution_is = ap (λ (k : Matrix). k.resolution) matrix in let same_resolution = ap (λ (k : Matrix). k.resolution) source in let some = c.resolution-r.ensures.whole.some in record { x = omega (arith, resolution_is, same_resolution, some); y = omega (arith, resolution_is, same_resolution, some); z = omega (arith, resolution_is, same_resolution, some) });
      clear = subst (λ (k : Matrix). IsVoidFrom k (spot c.go.new.self.bots).y) (sym matrix) (subst (λ (q : Coord). IsVoidFrom c.go.new.self.source q.y) (sym (go_ok.there ∙ there)) (subst (λ (k : Matrix). IsVoidFrom k (k.resolution - 1)) (sym source) (void_at_top c.args.source c.requires)));
      steps = omega (arith, way, no_steps, flip_steps, go_steps);
      commands = omega (arith, no_steps, flip_steps, go_steps, no_commands, flip_length, go_length);
      bytes_are = omega (arith, way, no_bytes, flip_bytes, go_bytes);
    }
