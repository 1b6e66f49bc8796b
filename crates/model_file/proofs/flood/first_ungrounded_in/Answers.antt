use Rattle.std.proofs.Common.{ℕ, Option, sym, subst, All, []}
use Rattle.std.proofs.lemmas.List.Elements.{All-same, All-nil}
use Rattle.vox_geom.specs.declared.coordinate.Coord.{Coord}
use Rattle.vox_geom.specs.Least.{LeastOf}
use Rattle.vox_geom.proofs.Firsts.{first_is}
use Rattle.nano_spec.specs.Grounded.{FirstUngrounded, Grounded}
use Rattle.nano_spec.specs.Matrix.{is_full}
use Rattle.model_file.specs.declared.flood.Flood.{Flood}
use Rattle.model_file.specs.Flood.{IsStart}
use Rattle.model_file.proofs.Beginnings.{begun_dropped, floor_dropped, flood_begun}
use Rattle.model_file.proofs.Heaps.{grounded_without_overhangs}
use Rattle.model_file.proofs.Spreads.{found_starts, left_is_ungrounded}
use Rattle.model_file.proofs.flood.first_ungrounded_in.Goals as goal

pub take_beside_all-requires-clause-begun : goal.take_beside_all-requires-clause-begun
take_beside_all-requires-clause-begun g c =
    let start : Flood = record { remaining = c.drop_heap.new.self; found = c.new.result } in
    begun_dropped c.args.planes.now start c.drop_heap.ensures.left c.drop_heap.ensures.resolution

pub spread-requires-clause-starts : goal.spread-requires-clause-starts
spread-requires-clause-starts g c =
    let start : Flood = record { remaining = c.drop_heap.new.self; found = c.new.result } in
    let looks = c.in_ok-take_beside_all.ensures in
    let takes = looks.takes in
    subst (λ (n : ℕ). All (IsStart n) c.take_beside_all.new.self.found.items) (sym takes.resolution)
    (found_starts (Grounded c.args.planes.now) start c.take_beside_all.new.self (All-same (IsStart c.drop_heap.new.self.resolution) c.new.result.items [] c.new.ensures.items (All-nil (IsStart c.drop_heap.new.self.resolution))) takes)

pub returns : goal.returns
returns g c =
    let start : Flood = record { remaining = c.drop_heap.new.self; found = c.new.result } in
    let planes = c.args.planes.now in
    let begun = flood_begun planes start c.take_beside_all.new.self c.new.ensures.items (begun_dropped planes start c.drop_heap.ensures.left c.drop_heap.ensures.resolution)
    (floor_dropped planes start c.drop_heap.ensures.left) c.in_ok-take_beside_all.ensures in
    let done = c.in_ok-spread.ensures.reaches planes begun in
    let left = c.spread.new.self.remaining in
    let least = subst (λ (r : ℕ). LeastOf r (is_full left) c.least_full.result) done.resolution c.least_full.ensures in
    subst (λ (o : Option Coord). FirstUngrounded planes o) (first_is planes.resolution (is_full left) c.least_full.result least)
    (left_is_ungrounded planes c.spread.new.self (is_full left) done c.in_ok-spread.ensures.all (λ d t. t) (λ d t. t))

pub returns-then-has_no_overhangs : goal.returns-then-has_no_overhangs
returns-then-has_no_overhangs g c = grounded_without_overhangs c.args.planes.now (c.has_no_overhangs.ensures.heap c.if-has_no_overhangs.true)
