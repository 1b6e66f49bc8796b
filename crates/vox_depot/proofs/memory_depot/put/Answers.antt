use Rattle.vox_depot.proofs.Trees.{files_of-insert, files_of-same}
use Rattle.vox_depot.proofs.Results.{on_err}
use Rattle.vox_depot.proofs.memory_depot.put.Goals as goal

pub returns-in_err-insert-clause-err : goal.returns-in_err-insert-clause-err
returns-in_err-insert-clause-err c =
    on_err _ (files_of-same c.args.files.now c.insert.new.self c.in_err-insert.ensures.err)

pub returns-clause-ok : goal.returns-clause-ok
returns-clause-ok c =
    let value = c.in_ok-value.ensures.items_if_clones_equal (λ x y e. e) in
    let put = files_of-insert c.args.files.now c.insert.new.self c.in_ok-key.key c.in_ok-value.value c.in_ok-insert.ensures.updates in
    rw (c.in_ok-key.ensures.ok, value) at put
