use Rattle.std.proofs.Common.{◌≡◌, ℕ, ◌+◌, ◌-◌, ◌*◌, ◌∙◌, ap, arith, subst, sym}
use Rattle.std.specs.Prelude.{MatchOption}
use Rattle.support_forest.specs.Grid.{side}
use Rattle.support_forest.specs.FillingOne.{IsIndexAcross, NoneToward}
use Rattle.support_forest.specs.Indices.{voxel_in}
use Rattle.support_forest.proofs.Across.{across_far, across_left, across_near, across_over, across_right, across_under, match_so, no_left, no_near, no_under, square_of_bricks}
use Rattle.support_forest.proofs.Store.{few_bricks}
use Rattle.support_forest.proofs.Voxels.{digit_x, digit_y, digit_z, index_small}
use Rattle.support_forest.proofs.toward.index_across.Goals as goal

pub overflow_add-index : goal.overflow_add-index
overflow_add-index g c = let small = index_small c.args.cells.now.resolution c.args.index c.recall.ensures.few c.requires.within in omega arith

pub returns-in-1-clause-across : goal.returns-in-1-clause-across
returns-in-1-clause-across g c =
    let r = c.args.cells.now.resolution in
    let direction : g.row.D ≡ 1 = (let case_is = c.in-1.is in omega arith) in
    let row : c.from-row.result ≡ side r = c.from-row.ensures ∙ c.side.ensures.value in
    let wall : c.from-row.result * c.from-row.result ≡ side r * side r = ap (λ (k : ℕ). k * k) row in
    subst (λ (d : ℕ). MatchOption c.index_less.result (NoneToward r (voxel_in c.args.cells.now c.args.index) d) (IsIndexAcross r (voxel_in c.args.cells.now c.args.index) d)) (sym direction)
    (match_so c.index_less.result _ _ _ _ (no_left r c.args.index (c.from-row.result * c.from-row.result) wall c.requires.within (c.requires.last.left direction))
    (λ next is. across_left r c.args.index (c.from-row.result * c.from-row.result) next wall c.requires.within (c.requires.last.left direction) is) c.index_less.ensures)

pub overflow_sub-result : goal.overflow_sub-result
overflow_sub-result g c =
    let direction : g.row.D ≡ 2 = (let case_is = c.in-2.is in omega arith) in
    let last = c.requires.last.right direction in
    let digit = digit_x (side c.args.cells.now.resolution) c.args.index in
    omega arith

pub overflow_add-result : goal.overflow_add-result
overflow_add-result g c =
    let row : c.from-row.result ≡ side c.args.cells.now.resolution = c.from-row.ensures ∙ c.side.ensures.value in
    let wall : c.from-row.result * c.from-row.result ≡ side c.args.cells.now.resolution * side c.args.cells.now.resolution = ap (λ (k : ℕ). k * k) row in
    let square = square_of_bricks (side c.args.cells.now.resolution) (few_bricks c.args.cells.now.resolution c.recall.ensures.few) in
    let small = index_small c.args.cells.now.resolution c.args.index c.recall.ensures.few c.requires.within in
    omega arith

pub returns-in-2-clause-across : goal.returns-in-2-clause-across
returns-in-2-clause-across g c =
    let r = c.args.cells.now.resolution in
    let direction : g.row.D ≡ 2 = (let case_is = c.in-2.is in omega arith) in
    let row : c.from-row.result ≡ side r = c.from-row.ensures ∙ c.side.ensures.value in
    let wall : c.from-row.result * c.from-row.result ≡ side r * side r = ap (λ (k : ℕ). k * k) row in
    let last = c.requires.last.right direction in
    let digit = digit_x (side r) c.args.index in
    subst (λ (d : ℕ). IsIndexAcross r (voxel_in c.args.cells.now c.args.index) d (c.args.index - 56 + 512 * (c.from-row.result * c.from-row.result))) (sym direction)
    (across_right r c.args.index (c.from-row.result * c.from-row.result) (c.args.index - 56 + 512 * (c.from-row.result * c.from-row.result)) wall c.requires.within last (omega arith))

pub returns-in-2-clause-line : goal.returns-in-2-clause-line
returns-in-2-clause-line g c = λ few.
    let direction : g.row.D ≡ 2 = (let case_is = c.in-2.is in omega arith) in
    let last = c.requires.last.right direction in
    let digit = digit_x (side c.args.cells.now.resolution) c.args.index in
    omega arith

pub overflow_add-index-in-3 : goal.overflow_add-index-in-3
overflow_add-index-in-3 g c = let small = index_small c.args.cells.now.resolution c.args.index c.recall.ensures.few c.requires.within in omega arith

pub returns-in-3-clause-across : goal.returns-in-3-clause-across
returns-in-3-clause-across g c =
    let r = c.args.cells.now.resolution in
    let direction : g.row.D ≡ 3 = (let case_is = c.in-3.is in omega arith) in
    let row : c.from-row.result ≡ side r = c.from-row.ensures ∙ c.side.ensures.value in
    subst (λ (d : ℕ). MatchOption c.index_less-in-3.result (NoneToward r (voxel_in c.args.cells.now c.args.index) d) (IsIndexAcross r (voxel_in c.args.cells.now c.args.index) d)) (sym direction)
    (match_so c.index_less-in-3.result _ _ _ _ (no_under r c.args.index c.from-row.result row c.requires.within (c.requires.last.under direction))
    (λ next is. across_under r c.args.index c.from-row.result next row c.requires.within (c.requires.last.under direction) is) c.index_less-in-3.ensures)

pub overflow_sub-result-in-4 : goal.overflow_sub-result-in-4
overflow_sub-result-in-4 g c =
    let direction : g.row.D ≡ 4 = (let case_is = c.in-4.is in omega arith) in
    let last = c.requires.last.over direction in
    let digit = digit_y (side c.args.cells.now.resolution) c.args.index in
    omega arith

pub overflow_add-result-in-4 : goal.overflow_add-result-in-4
overflow_add-result-in-4 g c =
    let row : c.from-row.result ≡ side c.args.cells.now.resolution = c.from-row.ensures ∙ c.side.ensures.value in
    let few = few_bricks c.args.cells.now.resolution c.recall.ensures.few in
    let small = index_small c.args.cells.now.resolution c.args.index c.recall.ensures.few c.requires.within in
    omega arith

pub returns-in-4-clause-across : goal.returns-in-4-clause-across
returns-in-4-clause-across g c =
    let r = c.args.cells.now.resolution in
    let direction : g.row.D ≡ 4 = (let case_is = c.in-4.is in omega arith) in
    let row : c.from-row.result ≡ side r = c.from-row.ensures ∙ c.side.ensures.value in
    let last = c.requires.last.over direction in
    let digit = digit_y (side r) c.args.index in
    subst (λ (d : ℕ). IsIndexAcross r (voxel_in c.args.cells.now c.args.index) d (c.args.index - 448 + 512 * c.from-row.result)) (sym direction)
    (across_over r c.args.index c.from-row.result (c.args.index - 448 + 512 * c.from-row.result) row c.requires.within last (omega arith))

pub returns-in-4-clause-line : goal.returns-in-4-clause-line
returns-in-4-clause-line g c = λ few.
    let direction : g.row.D ≡ 4 = (let case_is = c.in-4.is in omega arith) in
    let last = c.requires.last.over direction in
    let digit = digit_y (side c.args.cells.now.resolution) c.args.index in
    omega arith

pub overflow_add-index-in-5 : goal.overflow_add-index-in-5
overflow_add-index-in-5 g c = let small = index_small c.args.cells.now.resolution c.args.index c.recall.ensures.few c.requires.within in omega arith

pub returns-in-5-clause-across : goal.returns-in-5-clause-across
returns-in-5-clause-across g c =
    let r = c.args.cells.now.resolution in
    let direction : g.row.D ≡ 5 = (let case_is = c.in-5.is in omega arith) in
    subst (λ (d : ℕ). MatchOption c.index_less-in-5.result (NoneToward r (voxel_in c.args.cells.now c.args.index) d) (IsIndexAcross r (voxel_in c.args.cells.now c.args.index) d)) (sym direction)
    (match_so c.index_less-in-5.result _ _ _ _ (no_near r c.args.index c.requires.within (c.requires.last.near direction))
    (λ next is. across_near r c.args.index next c.requires.within (c.requires.last.near direction) is) c.index_less-in-5.ensures)

pub overflow_sub-result-in_default : goal.overflow_sub-result-in_default
overflow_sub-result-in_default g c =
    let direction : g.row.D ≡ 6 = (let in_default = c.in_default in let direction_required = c.requires.direction in grind arith) in
    let last = c.requires.last.far direction in
    let digit = digit_z (side c.args.cells.now.resolution) c.args.index in
    omega arith

pub overflow_add-result-in_default : goal.overflow_add-result-in_default
overflow_add-result-in_default g c = let small = index_small c.args.cells.now.resolution c.args.index c.recall.ensures.few c.requires.within in omega arith

pub returns-in_default-clause-across : goal.returns-in_default-clause-across
returns-in_default-clause-across g c =
    let r = c.args.cells.now.resolution in
    let direction : g.row.D ≡ 6 = (let in_default = c.in_default in let direction_required = c.requires.direction in grind arith) in
    let last = c.requires.last.far direction in
    let digit = digit_z (side r) c.args.index in
    subst (λ (d : ℕ). IsIndexAcross r (voxel_in c.args.cells.now c.args.index) d (c.args.index - 7 + 512)) (sym direction)
    (across_far r c.args.index (c.args.index - 7 + 512) c.requires.within last (omega arith))
