-- The index of a neighbor that is relaxed, and the candidates of a list.
use Rattle.std.proofs.Common.{◌≡◌, ℕ, ◌<◌, ◌≤◌, sym, ◌∙◌, ap, subst, arith, List}
use Rattle.std.specs.List.{Contains}
use Rattle.std.proofs.lemmas.List.{get_or-map, length-map}
use Rattle.vox_geom.specs.declared.coordinate.Coord.{Coord}
use Rattle.vox_geom.specs.Space.{IsInSpace}
use Rattle.support_forest.specs.declared.offer.IndexOffer.{IndexOffer}
use Rattle.support_forest.specs.Access.{LieInSpace}
use Rattle.support_forest.specs.Candidates.{Candidate}
use Rattle.support_forest.specs.Directions.{Toward}
use Rattle.support_forest.specs.Grid.{Grid, word_at}
use Rattle.support_forest.specs.Offers.{candidate_at, candidates_at}
use Rattle.support_forest.specs.FillingOne.{IsWordToward}
use Rattle.support_forest.specs.Indices.{IsBrickBeside, IsIndexNext, voxel_of}
use Rattle.support_forest.specs.Spreading.{CanSpread}
use Rattle.support_forest.specs.Waiting.{Waiting}

-- a listed item is listed as a candidate
pub listed_offer : (s : ℕ) (offers : List IndexOffer) (y : IndexOffer) → Contains offers y
    → Contains (candidates_at s offers) (candidate_at s y)
listed_offer s offers y h =
    (h.0, omega (arith, h.1, length-map offers (λ (o : IndexOffer). candidate_at s o)), get_or-map (λ (o : IndexOffer). candidate_at s o) offers h.0 y (candidate_at s y) h.1 ∙ ap (λ (o : IndexOffer). candidate_at s o) h.2)

-- no candidate of the list is higher
pub no_higher : (s most : ℕ) (offers : List IndexOffer)
    → ((f : Candidate) → Contains (candidates_at s offers) f → f.height ≤ most) → (y : IndexOffer) → Contains offers y
    → y.height ≤ most
no_higher s most offers h y k = h (candidate_at s y) (listed_offer s offers y k)

-- the voxel being expanded lies in space, and so do all full ones
pub lies_in_hand : (now : Grid) (q : Waiting) (x : Candidate) (d steps : ℕ) → CanSpread now q x d steps
    → LieInSpace now x.at
lies_in_hand now q x d steps can = record {
  within = subst (λ (r : ℕ). IsInSpace r x.at) (sym can.is.same.resolution) can.is.here.1;
  space = λ c f. subst (λ (r : ℕ). IsInSpace r c) (sym can.is.same.resolution) (can.is.settling.space c f);
}

-- ---- the neighbor at the next index: it is full

pub next_toward : (s p d next : ℕ) → (b : IsBrickBeside s p d) → IsIndexNext s p d next
    → Toward d (voxel_of s p) (voxel_of s next)
next_toward s p d next b n = subst (λ (q : Coord). Toward d (voxel_of s p) q) (sym (n b.there b.toward b.within)) b.toward

pub next_word : (w : Coord → ℕ) (s p d word next : ℕ) → IsWordToward w (voxel_of s p) d word → IsBrickBeside s p d
    → IsIndexNext s p d next → w (voxel_of s next) ≡ word
next_word w s p d word next k b n = k.each (voxel_of s next) (next_toward s p d next b n)

pub next_inside : (g : Grid) (s p d word next : ℕ) → LieInSpace g (voxel_of s p)
    → IsWordToward (word_at g) (voxel_of s p) d word → IsBrickBeside s p d → IsIndexNext s p d next → 0 < word
    → IsInSpace g.resolution (voxel_of s next)
next_inside g s p d word next inside k b n some =
    inside.space (voxel_of s next) (let same = next_word (word_at g) s p d word next k b n in omega arith)
