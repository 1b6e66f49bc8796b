use Rattle.std.proofs.Common.{◌≡◌, arith}
use Rattle.support_forest.proofs.Across.{match_so}
use Rattle.support_forest.proofs.Within.{last_far, last_left, last_near, last_over, last_right, last_under, offset_far, offset_left, offset_near, offset_over, offset_right, offset_under}
use Rattle.support_forest.proofs.toward.offset_toward.Goals as goal

pub returns-in-1 : goal.returns-in-1
returns-in-1 g c = λ side.
    let direction : g.row.D ≡ 1 = (let case_is = c.in-1.is in omega arith) in
    match_so c.offset_below.result _ _ _ _ (last_left side c.args.index g.row.D direction) (λ i h. offset_left side c.args.index g.row.D c.args.at i direction c.requires.own h.0 h.1) c.offset_below.ensures

pub returns-in-2 : goal.returns-in-2
returns-in-2 g c = λ side.
    let direction : g.row.D ≡ 2 = (let case_is = c.in-2.is in omega arith) in
    match_so c.offset_above.result _ _ _ _ (last_right side c.args.index g.row.D direction) (λ i h. offset_right side c.args.index g.row.D c.args.at i direction h.0 h.1) c.offset_above.ensures

pub returns-in-3 : goal.returns-in-3
returns-in-3 g c = λ side.
    let direction : g.row.D ≡ 3 = (let case_is = c.in-3.is in omega arith) in
    match_so c.offset_below-in-3.result _ _ _ _ (last_under side c.args.index g.row.D direction) (λ i h. offset_under side c.args.index g.row.D c.args.at i direction c.requires.own h.0 h.1) c.offset_below-in-3.ensures

pub returns-in-4 : goal.returns-in-4
returns-in-4 g c = λ side.
    let direction : g.row.D ≡ 4 = (let case_is = c.in-4.is in omega arith) in
    match_so c.offset_above-in-4.result _ _ _ _ (last_over side c.args.index g.row.D direction) (λ i h. offset_over side c.args.index g.row.D c.args.at i direction h.0 h.1) c.offset_above-in-4.ensures

pub returns-in-5 : goal.returns-in-5
returns-in-5 g c = λ side.
    let direction : g.row.D ≡ 5 = (let case_is = c.in-5.is in omega arith) in
    match_so c.offset_below-in-5.result _ _ _ _ (last_near side c.args.index g.row.D direction) (λ i h. offset_near side c.args.index g.row.D c.args.at i direction c.requires.own h.0 h.1) c.offset_below-in-5.ensures

pub returns-in_default : goal.returns-in_default
returns-in_default g c = λ side.
    let direction : g.row.D ≡ 6 = (let in_default = c.in_default in let direction_required = c.requires.direction in grind arith) in
    match_so c.offset_above-in_default.result _ _ _ _ (last_far side c.args.index g.row.D direction) (λ i h. offset_far side c.args.index g.row.D c.args.at i direction h.0 h.1) c.offset_above-in_default.ensures
