use Rattle.std.proofs.Common.{◌≡◌, ◌≤◌, refl, sym, ◌∙◌, ap, subst, length, take, List}
use Rattle.std.specs.List.{AllByRecursion}
use Rattle.std.proofs.lemmas.Result.{on_ok_weaker}
use Rattle.vox_geom.specs.Space.{IsInSpace}
use Rattle.nano_spec.specs.declared.system.Bot.{Bot}
use Rattle.nano_spec.specs.Act.{acts}
use Rattle.nano_spec.specs.Matrix.{Matrix}
use Rattle.plan_tape.specs.Crowd.{AllStep, with_fills}
use Rattle.plan_tape.specs.Progress.{TapeState, state_of}
use Rattle.plan_tape.proofs.Crowds.{held_under_high}
use Rattle.swarm_planner.specs.Building.{fills}
use Rattle.swarm_planner.proofs.Filling.{bots_within, fills_are_free, fills_length, has_filled, only_fills}
use Rattle.swarm_planner.proofs.steps.fill_below.Goals as goal

-- the commands in terms of the tape's fields
are : (p : TapeState) (m goal : Matrix) (bots : List Bot) → m ≡ p.matrix → bots ≡ p.bots
    → fills m goal bots ≡ fills p.matrix goal p.bots
are p m goal bots em eb = λ i. fills (em i) goal (eb i)

within : (m n : Matrix) (bots old : List Bot) → m ≡ n → bots ≡ old
    → AllByRecursion (λ b. IsInSpace n.resolution b.pos × (1 ≤ b.pos.y)) old
    → AllByRecursion (λ b. IsInSpace m.resolution b.pos × (1 ≤ b.pos.y)) bots
within m n bots old em eb h = subst (λ (k : Matrix). AllByRecursion (λ b. IsInSpace k.resolution b.pos × (1 ≤ b.pos.y)) bots) (sym em) (subst (λ (bs : List Bot). AllByRecursion (λ b. IsInSpace n.resolution b.pos × (1 ≤ b.pos.y)) bs) (sym eb) h)

pub fills-commands-requires-clause-within : goal.fills-commands-requires-clause-within
fills-commands-requires-clause-within c =
    let tape = c.args.tape.now in
    within c.matrix.result.now tape.matrix c.bots-bots.result.now tape.bots c.matrix.ensures.value (c.bots-bots.ensures.value ∙ c.crew.ensures.value) (bots_within tape c.requires.swarm c.requires.row c.requires.up)

pub fill_all-requires-clause-commands : goal.fill_all-requires-clause-commands
fill_all-requires-clause-commands c =
    let tape = c.args.tape.now in
    ap length (c.fills-commands.ensures ∙ are tape c.matrix.result.now c.args.target.now c.bots-bots.result.now c.matrix.ensures.value (c.bots-bots.ensures.value ∙ c.crew.ensures.value)) ∙ fills_length tape.matrix c.args.target.now tape.bots

pub fill_all-requires-clause-fills : goal.fill_all-requires-clause-fills
fill_all-requires-clause-fills c =
    let tape = c.args.tape.now in
    only_fills tape c.requires.swarm c.requires.row c.requires.up c.args.target.now (take (length c.bots-bots.result.now) c.fills-commands.result)
    (c.fills-commands.ensures ∙ are tape c.matrix.result.now c.args.target.now c.bots-bots.result.now c.matrix.ensures.value (c.bots-bots.ensures.value ∙ c.crew.ensures.value))

pub fill_all-requires-clause-free : goal.fill_all-requires-clause-free
fill_all-requires-clause-free c =
    let tape = c.args.tape.now in
    fills_are_free tape c.requires.swarm c.requires.row c.requires.up c.args.target.now (take (length c.bots-bots.result.now) c.fills-commands.result)
    (c.fills-commands.ensures ∙ are tape c.matrix.result.now c.args.target.now c.bots-bots.result.now c.matrix.ensures.value (c.bots-bots.ensures.value ∙ c.crew.ensures.value))

pub fill_all-requires-clause-held : goal.fill_all-requires-clause-held
fill_all-requires-clause-held c =
    let tape = c.args.tape.now in
    held_under_high (record (state_of tape) { matrix = with_fills tape.matrix (acts tape.bots (take (length c.bots-bots.result.now) c.fills-commands.result)) }) tape.harmonics refl c.requires.swarm.high

pub returns : goal.returns
returns c =
    let tape = c.args.tape.now in
    let commands = take (length c.bots-bots.result.now) c.fills-commands.result in
    let commands_are = c.fills-commands.ensures ∙ are tape c.matrix.result.now c.args.target.now c.bots-bots.result.now c.matrix.ensures.value (c.bots-bots.ensures.value ∙ c.crew.ensures.value) in
    on_ok_weaker c.fill_all.result
    (λ (s : AllStep tape c.fill_all.new.self commands (with_fills tape.matrix (acts tape.bots commands)) tape.harmonics tape.bots).
    has_filled tape c.requires.swarm c.requires.row c.requires.up c.args.target.now commands commands_are c.fill_all.new.self c.requires.same s)
    c.fill_all.ensures.ok
