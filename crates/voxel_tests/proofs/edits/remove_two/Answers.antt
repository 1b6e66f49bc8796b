use Rattle.voxel_tests.proofs.OneOrTwo.{may_remove_two}
use Rattle.voxel_tests.proofs.edits.remove_two.Goals as goal

pub remove-requires : goal.remove-requires
remove-requires g c = λ stands. may_remove_two _ c.args.a c.args.b _ _ c.apart.ensures c.word_of-first.ensures c.word_of-second.ensures c.full.ensures c.full-2.ensures
