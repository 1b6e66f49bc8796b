use Rattle.std.proofs.Common.{◌≡◌, ◌||◌, ◌^◌, ◌∙◌, ap, length, not, sym}
use Rattle.vox_geom.proofs.Tests.{test_equal, test_unequal}
use Rattle.nano_spec.specs.Act.{acts}
use Rattle.nano_spec.specs.Rules.{repeats}
use Rattle.step_groups.specs.Judging.{corner_list}
use Rattle.step_groups.specs.Numbers.{with_number}
use Rattle.step_groups.proofs.Telling.{acts_length, as_many}
use Rattle.step_groups.proofs.shapes.is_misshapen.Goals as goal

pub returns-then-count_members-corner_count : goal.returns-then-count_members-corner_count
returns-then-count_members-corner_count c =
    let all = acts c.args.bots.now c.args.commands.now in
    let members = with_number c.args.number all c.args.numbers.now in
    let count : length members ≡ c.count_members.result = as_many c.args.number all c.args.numbers.now (acts_length c.args.bots.now c.args.commands.now c.requires.lengths ∙ sym c.requires.numbers) ∙ sym c.count_members.ensures in
    let unlike = test_unequal (length members) (2 ^ c.args.dimension) (λ e. c.if-count_members-corner_count.true (sym count ∙ (e ∙ sym c.corner_count.ensures))) in
    sym (ap (λ t. not t || repeats (corner_list members)) unlike)

pub returns-else-count_members-corner_count : goal.returns-else-count_members-corner_count
returns-else-count_members-corner_count c =
    let all = acts c.args.bots.now c.args.commands.now in
    let members = with_number c.args.number all c.args.numbers.now in
    let count : length members ≡ c.count_members.result = as_many c.args.number all c.args.numbers.now (acts_length c.args.bots.now c.args.commands.now c.requires.lengths ∙ sym c.requires.numbers) ∙ sym c.count_members.ensures in
    let like = test_equal (length members) (2 ^ c.args.dimension) (count ∙ (c.if-count_members-corner_count.false ∙ c.corner_count.ensures)) in
    c.has_repeats.ensures ∙ sym (ap (λ t. not t || repeats (corner_list members)) like)
