use Rattle.machine_c.proofs.Played.{bad_byte_within}
use Rattle.machine_c.proofs.playing.nanobot_machine_play.Goals as goal

pub bad_byte-requires : goal.bad_byte-requires
bad_byte-requires c =
    bad_byte_within c.deref_mut.result.now c.args.trace.now c.args.most c.play-played.new.machine c.play-played.result c.play-played.ensures
