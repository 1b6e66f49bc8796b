use Rattle.std.proofs.Common.{arith, refl}
use Rattle.support_forest.proofs.Across.{across_below, no_word, word_there}
use Rattle.support_forest.proofs.toward.word_across.Goals as goal

pub word_at_index-requires : goal.word_at_index-requires
word_at_index-requires g c = let below = across_below _ _ g.row.D _ c.in-Some.ensures.across in let bricks = c.recall.ensures.store.bricks in omega arith

pub returns-in-Some : goal.returns-in-Some
returns-in-Some g c = record {
  word = word_there _ _ g.row.D _ _ c.requires.inside.space c.in-Some.ensures.across c.word_at_index.ensures.value;
  touch = c.word_at_index.ensures.touch;
}

pub returns-in-None : goal.returns-in-None
returns-in-None g c = record { word = no_word c.args.cells.now _ g.row.D _ c.requires.inside.space c.in-None.ensures.across refl; touch = omega arith }
