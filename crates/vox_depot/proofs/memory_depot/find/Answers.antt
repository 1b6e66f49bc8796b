use Rattle.std.proofs.Common.{ap, sym, ◌∙◌, option_map, Some, Vec, Global, ℕ}
use Rattle.vox_depot.proofs.Trees.{content-files_of}
use Rattle.vox_depot.proofs.memory_depot.find.Goals as goal

pub returns-in-Some : goal.returns-in-Some
returns-in-Some c =
    let items : Vec ℕ Global → _ = λ v. v.items in
    ap Some c.as_slice.ensures.value ∙ ap (option_map items) c.in-Some.ensures.value ∙ sym (content-files_of c.args.files.now c.args.name.now)

pub returns-in-None : goal.returns-in-None
returns-in-None c =
    let items : Vec ℕ Global → _ = λ v. v.items in
    ap (option_map items) c.in-None.ensures.value ∙ sym (content-files_of c.args.files.now c.args.name.now)
