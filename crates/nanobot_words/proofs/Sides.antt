-- The sides that planners accept.
use Rattle.std.specs.Prelude.{ℕ, List, Option, Some, None}
use Rattle.nanobot_words.specs.declared.planner.Planner.{Planner}
use Rattle.nanobot_words.specs.declared.planner.Planner.TheVariants.{Layer, Group, Crew, Void, Low, Swarm}
use Rattle.nanobot_words.specs.Rows.{HasName, TakesSides}

-- a planner accepts at least one side that is a named file
pub takes_a_name : (p : Planner) (s t : Option (List ℕ)) → TakesSides p s t → HasName s t
takes_a_name Layer s t h = h
takes_a_name Group s t h = h
takes_a_name Crew s t h = h
takes_a_name Void (Some s) None h = tt
takes_a_name Low None (Some t) h = tt
takes_a_name Swarm None (Some t) h = tt
takes_a_name Void None t h = absurd h
takes_a_name Void (Some s) (Some t) h = absurd h
takes_a_name Low (Some s) t h = tt
takes_a_name Low None None h = absurd h
takes_a_name Swarm (Some s) t h = tt
takes_a_name Swarm None None h = absurd h
