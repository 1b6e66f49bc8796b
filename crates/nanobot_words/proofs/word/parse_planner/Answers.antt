use Rattle.std.proofs.Common.{◌≡◌, sym}
use Rattle.nanobot_words.specs.declared.planner.Planner.{Planner}
use Rattle.nanobot_words.specs.declared.planner.Planner.TheVariants.{Layer, Group, Crew, Void, Low, Swarm}
use Rattle.nanobot_words.specs.Rows.{planner_word}
use Rattle.nanobot_words.proofs.word.parse_planner.Goals as goal

pub returns-in_default : goal.returns-in_default
returns-in_default c = λ planner is. elim planner as (λ (p : Planner). planner_word p ≡ c.args.word.now → ⊥) [
  | Layer ↦ λ e. c.in_default.not-layer (sym e)
  | Group ↦ λ e. c.in_default.not-group (sym e)
  | Crew ↦ λ e. c.in_default.not-crew (sym e)
  | Void ↦ λ e. c.in_default.not-void (sym e)
  | Low ↦ λ e. c.in_default.not-low (sym e)
  | Swarm ↦ λ e. c.in_default.not-swarm (sym e)
] is
