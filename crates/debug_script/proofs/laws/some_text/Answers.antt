use Rattle.nano_spec.specs.State.{opening}
use Rattle.debug_script.proofs.SomeText.{some_printing}
use Rattle.debug_script.proofs.laws.some_text.Goals as goal

pub returns : goal.returns
returns c = λ source profile commands script some whole are.
    some_printing commands are c.stays_ready.ensures.ready c.some_groups.ensures.state script
    (record { state = opening source profile; steps = 0; taken = 0 }) (c.opening_is_ready.ensures source profile some whole)
