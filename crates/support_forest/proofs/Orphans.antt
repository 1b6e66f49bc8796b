-- The voxels of the lists of indices that a removal keeps.
use Rattle.std.proofs.Common.{◌≡◌, ℕ, ◌*◌, ◌/◌, ◌<◌, ◌≤◌, sym, ◌∙◌, ap, subst, arith, List, [], ◌∷◌, ◌++◌, length}
use Rattle.std.specs.Prelude.{slice_index_or}
use Rattle.std.proofs.lemmas.List.{get_or-map, length-map, map-append}
use Rattle.vox_geom.specs.declared.coordinate.Coord.{Coord}
use Rattle.vox_geom.specs.Space.{IsInSpace}
use Rattle.support_forest.specs.declared.orphan.OrphanIndex.{OrphanIndex}
use Rattle.support_forest.specs.Access.{LieInSpace}
use Rattle.support_forest.specs.Directions.{Toward}
use Rattle.support_forest.specs.Grid.{Grid, brick, side, word_at}
use Rattle.support_forest.specs.Losing.{ListsToward}
use Rattle.support_forest.specs.Offers.{orphan_at, orphans_at, listed_voxels}
use Rattle.support_forest.specs.FillingOne.{IsWordToward}
use Rattle.support_forest.specs.Indices.{IsBrickBeside, IsIndexNext, voxel_of}
use Rattle.support_forest.proofs.Removing.{lists_one}
use Rattle.support_forest.proofs.Store.{brick_inside, few_bricks}
use Rattle.support_forest.proofs.Voxels.{number_below}

-- ---- the lists

-- the list with one more behind
pub orphans_more : (s : ℕ) (queue new : List OrphanIndex) (x : OrphanIndex) → new ≡ queue ++ x ∷ []
    → orphans_at s new ≡ orphans_at s queue ++ orphan_at s x ∷ []
orphans_more s queue new x e = ap (λ (l : List OrphanIndex). orphans_at s l) e ∙ map-append (λ (o : OrphanIndex). orphan_at s o) queue (x ∷ [])

pub orphans_length : (s : ℕ) (queue : List OrphanIndex) → length (orphans_at s queue) ≡ length queue
orphans_length s queue = length-map queue (λ (o : OrphanIndex). orphan_at s o)

-- the orphan at an index
pub orphan_below : (s : ℕ) (queue : List OrphanIndex) (i : ℕ) → i < length queue → i < length (orphans_at s queue)
orphan_below s queue i l = omega (arith, orphans_length s queue)

pub orphan_here : (s : ℕ) (queue : List OrphanIndex) (i : ℕ) (x : OrphanIndex) → i < length queue
    → x ≡ slice_index_or queue i x → orphan_at s x ≡ slice_index_or (orphans_at s queue) i (orphan_at s x)
orphan_here s queue i x l e =
    ap (λ (o : OrphanIndex). orphan_at s o) e ∙ sym (get_or-map (λ (o : OrphanIndex). orphan_at s o) queue i x (orphan_at s x) l)

pub no_voxels : (s : ℕ) (indices : List ℕ) → indices ≡ [] → listed_voxels s indices ≡ []
no_voxels s indices e = ap (λ (l : List ℕ). listed_voxels s l) e

-- ---- the neighbor that is listed

pub few_sides : (r s : ℕ) → s ≡ side r → r ≤ 400 → s ≤ 51
few_sides r s e h = let few = few_bricks r h in omega arith

pub index_below : (r s p : ℕ) → s ≡ side r → IsInSpace r (voxel_of s p) → p / 512 < s * s * s
index_below r s p e h =
    subst (λ (k : ℕ). p / 512 < k * k * k) (sym e) (number_below r p (subst (λ (k : ℕ). IsInSpace r (voxel_of k p)) e h))

-- a full neighbor lies in a brick of the table
pub neighbour : (g : Grid) (s p d word : ℕ) → s ≡ side g.resolution → LieInSpace g (voxel_of s p)
    → IsWordToward (word_at g) (voxel_of s p) d word → 0 < word → IsBrickBeside s p d
neighbour g s p d word e h k some =
    let there = k.some some in
    let full : 0 < word_at g there.0 = let same_word = k.each there.0 there.1 in omega arith in
    record {
      there = there.0;
      toward = there.1;
      within = subst (λ (n : ℕ). IsInSpace n (brick there.0)) (sym e) (brick_inside g.resolution there.0 (h.space there.0 full));
    }

pub lists_index : (w : Coord → ℕ) (s p above d toward word next : ℕ) (queue new : List OrphanIndex)
    → IsWordToward w (voxel_of s p) d word → 0 < word → IsBrickBeside s p d → IsIndexNext s p d next
    → new ≡ queue ++ record { index = next; height = above } ∷ []
    → ListsToward w (voxel_of s p) above d toward (orphans_at s queue) (orphans_at s new)
lists_index w s p above d toward word next queue new k some b n e =
    let next_is : voxel_of s next ≡ b.there = n b.there b.toward b.within in
    lists_one w (voxel_of s p) (voxel_of s next) above d toward word (orphans_at s queue) (orphans_at s new) k some
    (subst (λ (q : Coord). Toward d (voxel_of s p) q) (sym next_is) b.toward)
    (orphans_more s queue new (record { index = next; height = above }) e)

-- ---- if the side is that of a store

pub voxels_same : (s r : ℕ) (indices list : List ℕ) → s ≡ side r → list ≡ indices
    → listed_voxels s indices ≡ listed_voxels (side r) list
voxels_same s r indices list e f =
    ap (λ (k : ℕ). listed_voxels k indices) e ∙ ap (λ (l : List ℕ). listed_voxels (side r) l) (sym f)
