use Rattle.std.proofs.Common.{◌≡◌, ◌+◌, ◌-◌, ◌*◌, ◌<◌, ◌≤◌, ◌++◌, ◌∷◌, [], ℕ, sym, ◌∙◌, ap, arith, rules, get_or, false, Bool, length, List, min}
use Rattle.std.proofs.lemmas.List.{get_or_past}
use Rattle.nano_spec.specs.Model.{volume}
use Rattle.model_file.proofs.FirstForms.{byte_of, byte_pushed}
use Rattle.model_file.proofs.first_form.write_first.Goals as goal

-- no voxel is behind those that are left
past : (voxels : List Bool) (places k i count : ℕ) → length voxels ≡ places → count ≡ min (places - 8 * k) 8 → count ≤ i
    → i < 8 → get_or voxels (8 * k + i) false ≡ false
past voxels places k i count e ec l u = get_or_past voxels (8 * k + i) false (omega arith)

pub loop-k-preserved : goal.loop-k-preserved
loop-k-preserved g c =
    let planes = c.args.planes.now in
    let resolution_whole = c.resolution-r.ensures.whole in
    let places : c.volume-places.result ≡ volume planes.resolution = c.volume-places.ensures ∙ ap volume c.resolution-r.ensures.value in
    let pushed : c.push-in-loop-k.new.self.items ≡ c.loop-k.bytes.items ++ c.places-byte.result ∷ [] = search rules in
    byte_pushed planes.resolution planes.voxels c.loop-k.k c.loop-k.bytes.items c.push-in-loop-k.new.self.items c.places-byte.result c.loop-k.invariant pushed
    (byte_of planes.voxels c.loop-k.k c.min.result c.places-byte.result (omega (arith, c.min.ensures)) c.places-byte.ensures.below c.places-byte.ensures.bits
    (λ i l u. past planes.voxels c.volume-places.result c.loop-k.k i c.min.result (resolution_whole.voxels ∙ sym places) c.min.ensures l u))
