use Rattle.std.proofs.Common.{ℕ, refl, sym, ◌∙◌, subst, All}
use Rattle.std.proofs.lemmas.List.{append-nil}
use Rattle.std.proofs.lemmas.List.Elements.{All-pop}
use Rattle.model_file.specs.Flood.{IsStart}
use Rattle.model_file.proofs.Spreads.{flood_same}
use Rattle.model_file.proofs.flood.Flood.spread.Goals as goal

pub loop-stretch-preserved : goal.loop-stretch-preserved
loop-stretch-preserved g c =
    let rest = All-pop (IsStart c.loop-stretch.self.remaining.resolution) c.loop-stretch.self.found.items c.pop.new.self.items c.pop.result c.pop.ensures.items c.loop-stretch.invariant.starts in
    let resolution = c.in_ok-look_around.ensures.resolution in
    record {
      most = rw resolution c.loop-stretch.invariant.most;
      starts = subst (λ (n : ℕ). All (IsStart n) c.look_around.new.self.found.items) (sym resolution) (c.in_ok-look_around.ensures.starts rest.0);
      reaches = λ m h. c.in_ok-look_around.ensures.reaches m c.loop-stretch.self (c.loop-stretch.invariant.reaches m h) refl c.in-Some.ensures.items;
    }

pub returns-clause-reaches : goal.returns-clause-reaches
returns-clause-reaches g c = λ m h. flood_same m c.loop-stretch.self (record { remaining = c.loop-stretch.self.remaining; found = c.pop.new.self }) refl (sym (c.in_default.ensures.items ∙ append-nil c.pop.new.self.items)) (c.loop-stretch.invariant.reaches m h)
