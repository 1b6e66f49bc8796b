use Rattle.std.proofs.Common.{◌≡◌, refl, sym, ◌∙◌, ap, subst, arith, min, List, [], ◌∷◌}
use Rattle.nano_spec.specs.declared.system.Bot.{Bot}
use Rattle.nano_spec.specs.Matrix.{Matrix}
use Rattle.nano_spec.specs.Profile.{light_profile}
use Rattle.nano_spec.specs.State.{first_bot}
use Rattle.nano_spec.specs.Step.{flipped}
use Rattle.plan_tape.specs.Leg.{moves_to}
use Rattle.plan_tape.specs.Progress.{TapeState, bots_at, spot, IsVoidFrom}
use Rattle.swarm_planner.specs.Lineup.{seeds_after}
use Rattle.swarm_planner.specs.Strips.{last}
use Rattle.swarm_planner.proofs.plan.open.Goals as goal
use Rattle.vox_geom.specs.Point.{coord}
use Rattle.plan_tape.proofs.LegalModels.{void_is_grounded}

pub start_as-requires-clause-grounded : goal.start_as-requires-clause-grounded
start_as-requires-clause-grounded c = void_is_grounded c.args.nothing (λ q. c.requires.void q (omega arith))

pub returns : goal.returns
returns c =
    let flip_ok = c.in_ok-flip.ensures.ok in
    let go_ok = c.in_ok-go.ensures.ok in
    let tape_ensured = c.in_ok-tape.ensures in
    let matrix : c.go.new.self.matrix ≡ c.args.nothing = go_ok.matrix ∙ (flip_ok.matrix ∙ ap (λ (x : TapeState). x.matrix) tape_ensured) in
    let resolution = c.args.nothing.resolution in
    let size : c.go.new.self.matrix.resolution ≡ resolution = ap (λ (k : Matrix). k.resolution) matrix in
    let some_required = c.requires.some in
    let most = c.recall.ensures.whole.most in
    let first : c.flip.new.self.bots ≡ first_bot light_profile ∷ [] = flip_ok.bots_are ∙ (ap (λ (x : TapeState). x.bots) tape_ensured ∙ ap (λ k. first_bot k ∷ []) c.light.ensures) in
    let one : min 1 (last c.go.new.self.matrix.resolution) ≡ 1 = omega (arith, size, some_required) in
    let there : bots_at (first_bot light_profile ∷ []) (coord 1 1 0) ≡ record { bid = 1; pos = coord 1 1 0; seeds = seeds_after 1 } ∷ [] = refl in
    let steps : moves_to (spot c.flip.new.self.bots) (coord 1 1 0) ≡ 2 = ap (λ (bots : List Bot). moves_to (spot bots) (coord 1 1 0)) first in
    let none : c.in_ok-tape.tape.steps ≡ 0 = ap (λ (x : TapeState). x.steps) tape_ensured in
    let its_steps = flip_ok.steps in
    let steps_here = go_ok.steps in
    record {
      source = go_ok.source ∙ (flip_ok.source ∙ ap (λ (x : TapeState). x.source) tape_ensured);
      matrix = matrix;
      spread = record {
        swarm = record {
          high = go_ok.harmonics ∙ (flip_ok.harmonics ∙ ap (λ (x : TapeState). flipped x.harmonics) tape_ensured);
          light = go_ok.profile ∙ (flip_ok.profile ∙ (ap (λ (x : TapeState). x.profile) tape_ensured ∙ c.light.ensures));
        };
        some = omega (arith, size, some_required);
        most = omega (arith, size, most);
        void = subst (λ (k : Matrix). IsVoidFrom k 0) (sym matrix) c.requires.void;
        bots_are = go_ok.bots ∙ (ap (λ bots. bots_at bots (coord 1 1 0)) first ∙ (there ∙ (λ i. record { bid = 1; pos = coord (sym one i) 1 0; seeds = seeds_after 1 } ∷ [])));
      };
      steps_are = omega (arith, steps, none, its_steps, steps_here);
    }
