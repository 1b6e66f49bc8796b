-- Tiles, strips and layers, one after another.
use Rattle.std.proofs.Common.{◌≡◌, ℕ, zero, suc, ◌+◌, ◌-◌, ◌*◌, ◌/◌, ◌<◌, ◌≤◌, refl, sym, ◌∙◌, ap, subst, inl, inr, ◌⊎◌, arith, Bool, true, false, not, mul-le-mul}
use Rattle.vox_geom.specs.declared.coordinate.Coord.{Coord}
use Rattle.nano_spec.specs.Matrix.{Matrix, is_full}
use Rattle.step_order.specs.Acting.{with_region}
use Rattle.plan_tape.specs.Leg.{moves, moves_to}
use Rattle.plan_tape.specs.Progress.{TapeState, spot, IsVoidFrom}
use Rattle.void_planner.specs.Square.{AreFewer, CanVoidLayers, Clears, FourGo, FourVoid, IsRectangle, voiding_steps, steps_to, strip_steps}
use Rattle.void_planner.specs.Tiles.{IsVoidBefore, IsVoidStrip, IsVoidTile, edge, far_of, place_of, tile, turned}
use Rattle.void_planner.specs.Bounds.{tiles_of}
use Rattle.void_planner.proofs.Regions.{region_fewer, tile_void}
use Rattle.vox_geom.specs.Point.{coord}
use Rattle.vox_geom.proofs.Sums.{one_layer_less}
use Rattle.plan_tape.proofs.LegalModels.{void_by_space}
use Rattle.plan_tape.proofs.ClearWays.{moves_on, no_moves}

-- ---- tapes

-- some more
pub clears_more : (a b c : TapeState) (p q s : Coord) (k n most : ℕ) → Clears a b p q k → Clears b c q s n
    → k + n ≤ most → Clears a c p s most
clears_more a b c p q s k n most h g l = record {
  source = g.source ∙ h.source;
  resolution = g.resolution ∙ h.resolution;
  fewer = λ d v. g.fewer d (h.fewer d v);
  square = subst (λ r. IsRectangle c (far_of r) (far_of r)) h.resolution g.square;
  fissions_are = g.fissions_are ∙ h.fissions_are;
  steps_are = let its_steps_are = h.steps_are in let steps_are = g.steps_are in omega arith;
}

-- the path to another coordinate
pub clears_to : (a b : TapeState) (p q s : Coord) (k n most : ℕ) → Clears a b p q k → moves_to q s ≤ n → k + n ≤ most
    → Clears a b p s most
clears_to a b p q s k n most h l m = record {
  source = h.source;
  resolution = h.resolution;
  fewer = h.fewer;
  square = h.square;
  fissions_are = h.fissions_are;
  steps_are = let steps_are = h.steps_are in let onward = moves_on (spot b.bots) q s in omega arith;
}

-- the four can continue after they have voided
pub clears_on : (a b : TapeState) (p q : Coord) (k y : ℕ) → CanVoidLayers a y → Clears a b p q k → CanVoidLayers b y
clears_on a b p q k y c h = record {
  square = subst (λ r. IsRectangle b (far_of r) (far_of r)) (sym h.resolution) h.square;
  within = let within = c.within in let resolution = h.resolution in omega arith;
  above = λ d l. h.fewer d (c.above d l);
}

-- ---- a tile

-- the four have gone above a tile and voided it
pub tile_cleared : (a b c : TapeState) (x y z far : ℕ) → far ≡ far_of b.matrix.resolution
    → FourGo a b (far_of a.matrix.resolution) (far_of a.matrix.resolution) (coord x (y + 1) z)
    (moves_to (spot a.bots) (coord x (y + 1) z))
    → FourVoid b c far (tile far (coord (spot b.bots).x ((spot b.bots).y - 1) (spot b.bots).z))
    (with_region b.matrix (tile far (coord (spot b.bots).x ((spot b.bots).y - 1) (spot b.bots).z)) false)
    → Clears a c (coord x (y + 1) z) (coord x (y + 1) z) 1 × IsVoidTile c.matrix (far_of a.matrix.resolution) x y z
tile_cleared a b c x y z far ef g v =
    let corner = coord x (y + 1) z in
    let er : far ≡ far_of a.matrix.resolution = ef ∙ ap (λ (m : Matrix). far_of m.resolution) g.matrix in
    let down : y + 1 - 1 ≡ y = omega arith in
    let em : c.matrix ≡ with_region a.matrix (tile (far_of a.matrix.resolution) (coord x y z)) false =
    v.matrix ∙ ((λ i. with_region (g.matrix i) (tile (er i) (coord (g.there i).x ((g.there i).y - 1) (g.there i).z)) false) ∙ ap (λ n. with_region a.matrix (tile (far_of a.matrix.resolution) (coord x n z)) false) down) in
    let there : spot c.bots ≡ corner = v.there ∙ g.there in
    let none : moves_to (spot c.bots) corner ≡ 0 = ap (λ (s : Coord). moves_to s corner) there ∙ no_moves corner in (
      record {
        source = v.source ∙ g.source;
        resolution = ap (λ (m : Matrix). m.resolution) em;
        fewer = λ d w. ap (λ (m : Matrix). is_full m d) em ∙ region_fewer a.matrix (tile (far_of a.matrix.resolution) (coord x y z)) d w;
        square = subst (λ f. IsRectangle c f f) er v.rectangle;
        fissions_are = v.fissions_are ∙ g.fissions_are;
        steps_are = let its_steps = g.steps in let steps = v.steps in omega arith;
      },
      subst (λ (m : Matrix). IsVoidTile m (far_of a.matrix.resolution) x y z) (sym em) (tile_void a.matrix (far_of a.matrix.resolution) x y z),
    )

-- ---- tiles that are taken forth or back

-- the next tile begins at most three moves further
next_forth : (r k : ℕ) → moves (place_of r (k - 1)) (place_of r k) ≤ 3
next_forth r k = omega arith

next_back : (r n k : ℕ) → moves (place_of r (n - 1 - (k - 1))) (place_of r (n - 1 - k)) ≤ 3
next_back r n k = omega arith

pub next_turned : (r n : ℕ) (back : Bool) (k : ℕ)
    → moves (place_of r (turned n back (k - 1))) (place_of r (turned n back k)) ≤ 3
next_turned r n true k = next_back r n k
next_turned r n false k = next_forth r k

-- each one is taken once
twice : (n : ℕ) (back : Bool) (j : ℕ) → j < n → turned n back (turned n back j) ≡ j
twice n true j h = let difference_is : n - 1 - (n - 1 - j) ≡ j = omega arith in difference_is
twice n false j h = refl

turned_below : (n : ℕ) (back : Bool) (j : ℕ) → j < n → turned n back j < n
turned_below n true j h = let below_n : n - 1 - j < n = omega arith in below_n
turned_below n false j h = h

-- a position is in the tile of its number
in_tile : (r z : ℕ) → z < r → (z / 31 < tiles_of r) × (place_of r (z / 31) ≤ z) × (z ≤ place_of r (z / 31) + far_of r)
in_tile r z h = (omega arith, omega arith, omega arith)

pub less_or_not : (a b : ℕ) → (a < b) ⊎ (b ≤ a)
less_or_not a b = grind arith

-- a fact of all tiles taken before holds of them and the next one
taken_more : (P Q : ℕ → Type 0) (k : ℕ) → ((i : ℕ) → P i → Q i) → ((i : ℕ) → i < k → P i) → Q k → (i : ℕ) → i < k + 1
    → Q i
taken_more P Q k f h q i l = by (less_or_not i k)
  where
    by : (i < k) ⊎ (k ≤ i) → Q i
    by (inl m) = f i (h i m)
    by (inr m) = let k_is : k ≡ i = omega arith in subst Q k_is q

-- a fact of all taken tiles holds of each
each_taken : (P : ℕ → Type 0) (n : ℕ) (back : Bool) → ((i : ℕ) → i < n → P (turned n back i)) → (j : ℕ) → j < n → P j
each_taken P n back h j l = subst P (twice n back j l) (h (turned n back j) (turned_below n back j l))

-- ---- a strip

-- the first k tiles of a strip that is taken forth or back are void
abbrev pub AreVoidTiles : Matrix → ℕ → Bool → ℕ → ℕ → ℕ → Type 0
AreVoidTiles m r back x y k = (i : ℕ) → i < k → IsVoidTile m (far_of r) x y (place_of r (turned (tiles_of r) back i))

-- one tile more
pub tiles_more : (a b : Matrix) (r : ℕ) (back : Bool) (x y k : ℕ) → AreFewer b a → AreVoidTiles a r back x y k
    → IsVoidTile b (far_of r) x y (place_of r (turned (tiles_of r) back k)) → AreVoidTiles b r back x y (k + 1)
tiles_more a b r back x y k fewer h t =
    taken_more (λ i. IsVoidTile a (far_of r) x y (place_of r (turned (tiles_of r) back i))) (λ i. IsVoidTile b (far_of r) x y (place_of r (turned (tiles_of r) back i))) k
    (λ i v c p q e f g. fewer c (v c p q e f g)) h t

pub strip_on : (a b c : TapeState) (r : ℕ) (back : Bool) (x y k : ℕ) → Clears a b (coord x (y + 1) (edge r back))
    (coord x (y + 1) (place_of r (turned (tiles_of r) back (k - 1)))) (4 * k)
    → Clears b c (coord x (y + 1) (place_of r (turned (tiles_of r) back k)))
    (coord x (y + 1) (place_of r (turned (tiles_of r) back k))) 1 → Clears a c (coord x (y + 1) (edge r back))
    (coord x (y + 1) (place_of r (turned (tiles_of r) back (k + 1 - 1)))) (4 * (k + 1))
strip_on a b c r back x y k p q =
    let start = coord x (y + 1) (edge r back) in
    let corner = coord x (y + 1) (place_of r (turned (tiles_of r) back (k - 1))) in
    let corner_here = coord x (y + 1) (place_of r (turned (tiles_of r) back k)) in
    let way : moves_to corner corner_here ≤ 3 = let next_near = next_turned r (tiles_of r) back k in omega arith in
    let here : k ≡ k + 1 - 1 = omega arith in
    subst (λ v. Clears a c start (coord x (y + 1) (place_of r (turned (tiles_of r) back v))) (4 * (k + 1))) here
    (clears_more a b c start corner_here corner_here (4 * k + 3) 1 (4 * (k + 1)) (clears_to a b start corner corner_here (4 * k) 3 (4 * k + 3) p way (omega arith)) q (omega arith))

pub strip_void : (m : Matrix) (r : ℕ) (back : Bool) (x y : ℕ) → AreVoidTiles m r back x y (tiles_of r)
    → IsVoidStrip m (far_of r) x y r
strip_void m r back x y h = λ c u v w l.
    let within_tile = in_tile r c.z l in
    each_taken (λ j. IsVoidTile m (far_of r) x y (place_of r j)) (tiles_of r) back h (c.z / 31) within_tile.0 c u v w within_tile.1 within_tile.2

-- ---- a layer

-- the first k strips of a layer that is taken forth or back are void
abbrev pub AreVoidStrips : Matrix → ℕ → Bool → ℕ → ℕ → Type 0
AreVoidStrips m r turn y k = (i : ℕ) → i < k → IsVoidStrip m (far_of r) (place_of r (turned (tiles_of r) turn i)) y r

pub strips_more : (a b : Matrix) (r : ℕ) (turn : Bool) (y k : ℕ) → AreFewer b a → AreVoidStrips a r turn y k
    → IsVoidStrip b (far_of r) (place_of r (turned (tiles_of r) turn k)) y r → AreVoidStrips b r turn y (k + 1)
strips_more a b r turn y k fewer h t =
    taken_more (λ i. IsVoidStrip a (far_of r) (place_of r (turned (tiles_of r) turn i)) y r) (λ i. IsVoidStrip b (far_of r) (place_of r (turned (tiles_of r) turn i)) y r) k
    (λ i v c p q e f. fewer c (v c p q e f)) h t

pub layer_void : (m : Matrix) (r : ℕ) (turn : Bool) (y : ℕ) → m.resolution ≡ r → AreVoidStrips m r turn y (tiles_of r)
    → IsVoidBefore m r y
layer_void m r turn y e h = λ c l w.
    let within_tile = in_tile r c.x l in
    void_by_space m c (λ i. each_taken (λ j. IsVoidStrip m (far_of r) (place_of r j) y r) (tiles_of r) turn h (c.x / 31) within_tile.0 c within_tile.1 within_tile.2 w (let along_z = i.z in omega arith))

-- the next strip is within the steps of all
pub layer_limit : (a b : TapeState) (r : ℕ) (turn first now : Bool) (y k limit : ℕ) → k < tiles_of r
    → Clears a b (coord (edge r turn) (y + 1) (edge r first))
    (coord (place_of r (turned (tiles_of r) turn (k - 1))) (y + 1) (edge r now)) (strip_steps r * k)
    → steps_to a (coord (edge r turn) (y + 1) (edge r first)) + strip_steps r * tiles_of r < limit
    → steps_to b (coord (place_of r (turned (tiles_of r) turn k)) (y + 1) (edge r now)) + 4 * tiles_of r < limit
layer_limit a b r turn first now y k limit h p q =
    let corner = coord (place_of r (turned (tiles_of r) turn (k - 1))) (y + 1) (edge r now) in
    let corner_here = coord (place_of r (turned (tiles_of r) turn k)) (y + 1) (edge r now) in
    let way : moves_to corner corner_here ≤ 3 = let next_near = next_turned r (tiles_of r) turn k in omega arith in
    let on = moves_on (spot b.bots) corner corner_here in
    let all : strip_steps r * (k + 1) ≤ strip_steps r * tiles_of r = mul-le-mul (omega arith) (omega arith) in
    within (steps_to a (coord (edge r turn) (y + 1) (edge r first))) b.steps (moves_to (spot b.bots) corner) (moves_to (spot b.bots) corner_here) (moves_to corner corner_here) (tiles_of r) k (strip_steps r * tiles_of r) limit p.steps_are on way all q
  where
    within : (s b u t w n k m limit : ℕ) → b + u ≤ s + (4 * n + 3) * k → t ≤ u + w → w ≤ 3 → (4 * n + 3) * (k + 1) ≤ m
        → s + m < limit → b + t + 4 * n < limit
    within s b u t w n k m limit e f g h q = let product_is : (4 * n + 3) * (k + 1) ≡ (4 * n + 3) * k + (4 * n + 3) = omega arith in omega arith

-- one strip more, and the path to it
pub layer_on : (a b c : TapeState) (r : ℕ) (turn first now : Bool) (y k : ℕ)
    → Clears a b (coord (edge r turn) (y + 1) (edge r first))
    (coord (place_of r (turned (tiles_of r) turn (k - 1))) (y + 1) (edge r now)) (strip_steps r * k)
    → Clears b c (coord (place_of r (turned (tiles_of r) turn k)) (y + 1) (edge r now))
    (coord (place_of r (turned (tiles_of r) turn k)) (y + 1) (edge r (not now))) (4 * tiles_of r)
    → Clears a c (coord (edge r turn) (y + 1) (edge r first))
    (coord (place_of r (turned (tiles_of r) turn (k + 1 - 1))) (y + 1) (edge r (not now))) (strip_steps r * (k + 1))
layer_on a b c r turn first now y k p q =
    let start = coord (edge r turn) (y + 1) (edge r first) in
    let corner = coord (place_of r (turned (tiles_of r) turn (k - 1))) (y + 1) (edge r now) in
    let corner_here = coord (place_of r (turned (tiles_of r) turn k)) (y + 1) (edge r now) in
    let way : moves_to corner corner_here ≤ 3 = let next_near = next_turned r (tiles_of r) turn k in omega arith in
    let more : strip_steps r * (k + 1) ≡ strip_steps r * k + (4 * tiles_of r + 3) = one_more (strip_steps r) k in
    let here : k ≡ k + 1 - 1 = omega arith in
    subst (λ v. Clears a c start (coord (place_of r (turned (tiles_of r) turn v)) (y + 1) (edge r (not now))) (strip_steps r * (k + 1))) here
    (clears_more a b c start corner_here (coord (place_of r (turned (tiles_of r) turn k)) (y + 1) (edge r (not now))) (strip_steps r * k + 3) (4 * tiles_of r) (strip_steps r * (k + 1))
    (clears_to a b start corner corner_here (strip_steps r * k) 3 (strip_steps r * k + 3) p way (omega arith)) q (omega arith))
  where
    one_more : (n k : ℕ) → n * (k + 1) ≡ n * k + n
    one_more n k = omega arith

-- ---- all layers

-- the steps of a layer and of the path to the one below
abbrev pub fro_steps : ℕ → ℕ
fro_steps r = strip_steps r * tiles_of r + 1

-- one layer more, above which all is void
pub layers_on : (a b c : TapeState) (r y : ℕ) (turn back next : Bool) → 0 < y → y < r
    → Clears a b (coord 0 (r - 1) 0) (coord (edge r turn) y (edge r back)) ((r - 1 - y) * fro_steps r)
    → Clears b c (coord (edge r turn) (y - 1 + 1) (edge r back)) (coord (edge r (not turn)) (y - 1 + 1) (edge r next))
    (strip_steps r * tiles_of r)
    → Clears a c (coord 0 (r - 1) 0) (coord (edge r (not turn)) (y - 1) (edge r next)) ((r - 1 - (y - 1)) * fro_steps r)
layers_on a b c r y turn back next h l p q =
    let up : y - 1 + 1 ≡ y = omega arith in
    let layer = subst (λ v. Clears b c (coord (edge r turn) v (edge r back)) (coord (edge r (not turn)) v (edge r next)) (strip_steps r * tiles_of r)) up q in
    let under = coord (edge r (not turn)) (y - 1) (edge r next) in
    let way : moves_to (coord (edge r (not turn)) y (edge r next)) under ≤ 1 = one_down (edge r (not turn)) y (edge r next) in
    let down = clears_to b c (coord (edge r turn) y (edge r back)) (coord (edge r (not turn)) y (edge r next)) under (strip_steps r * tiles_of r) 1 (fro_steps r) layer way (omega arith) in
    clears_more a b c (coord 0 (r - 1) 0) (coord (edge r turn) y (edge r back)) under ((r - 1 - y) * fro_steps r) (fro_steps r) ((r - 1 - (y - 1)) * fro_steps r) p down (one_layer_less r y (fro_steps r) h l)
  where
    one_down : (x y z : ℕ) → moves_to (coord x y z) (coord x (y - 1) z) ≤ 1
    one_down x y z = omega arith

-- ---- the path back to the origin

edge_near : (r : ℕ) (back : Bool) → moves (edge r back) 0 ≤ 3 * tiles_of r
edge_near r true = omega arith
edge_near r false = omega arith

nine : (n : ℕ) → 9 * n ≤ 4 * (n * n) + 7
nine zero = omega arith
nine (suc zero) = omega arith
nine (suc (suc zero)) = omega arith
nine (suc (suc (suc k))) = let at_most_k : 3 * suc (suc (suc k)) ≤ suc (suc (suc k)) * suc (suc (suc k)) = mul-le-mul (omega arith) (omega arith) in omega (arith, at_most_k)

squares : (n : ℕ) → (4 * n + 3) * n ≡ 4 * (n * n) + 3 * n
squares n = omega arith

-- a layer's steps leave room for a path back
with_way : (n : ℕ) → ((4 * n + 3) * n + 1) + 6 * n ≤ 8 * (n * n) + 8
with_way n = let squares_here = squares n in let nine_here = nine n in omega arith

times : (m n w l : ℕ) → 1 ≤ m → n + w ≤ l → m * n + w ≤ m * l
times m n w l h k =
    let all : m * (n + w) ≤ m * l = mul-le-mul (omega arith) k in
    let one : 1 * w ≤ m * w = mul-le-mul h (omega arith) in
    omega (arith, all, one)

-- the layers before and the next one are within the steps of all
all_but : (m k n l : ℕ) → m + 1 ≤ k → n ≤ l → m * n + n ≤ k * l
all_but m k n l h g = let all : (m + 1) * n ≤ k * l = mul-le-mul h g in omega (arith, all)

pub layers_limit : (a b : TapeState) (r y : ℕ) (turn back : Bool) (limit : ℕ) → 0 < y → y < r
    → Clears a b (coord 0 (r - 1) 0) (coord (edge r turn) y (edge r back)) ((r - 1 - y) * fro_steps r)
    → steps_to a (coord 0 (r - 1) 0) + (r - 1) * voiding_steps r < limit
    → steps_to b (coord (edge r turn) (y - 1 + 1) (edge r back)) + strip_steps r * tiles_of r < limit
layers_limit a b r y turn back limit h l p q =
    let up : y - 1 + 1 ≡ y = omega arith in
    let most = all_but (r - 1 - y) (r - 1) (fro_steps r) (voiding_steps r) (omega arith) (let with_way_here = with_way (tiles_of r) in omega (arith, with_way_here)) in
    subst (λ v. steps_to b (coord (edge r turn) v (edge r back)) + strip_steps r * tiles_of r < limit) (sym up) (within (steps_to a (coord 0 (r - 1) 0)) (steps_to b (coord (edge r turn) y (edge r back))) ((r - 1 - y) * fro_steps r) (strip_steps r * tiles_of r) ((r - 1) * voiding_steps r) limit p.steps_are most q)
  where
    within : (s t m n k limit : ℕ) → t ≤ s + m → m + (n + 1) ≤ k → s + k < limit → t + n < limit
    within s t m n k limit e f g = omega arith

-- once all layers are void, the path to the origin is within the steps of the layers
pub layers_all : (a b : TapeState) (r y : ℕ) (turn back : Bool) → 2 ≤ r → y ≡ 0
    → Clears a b (coord 0 (r - 1) 0) (coord (edge r turn) y (edge r back)) ((r - 1 - y) * fro_steps r)
    → Clears a b (coord 0 (r - 1) 0) (coord 0 0 0) ((r - 1) * voiding_steps r)
layers_all a b r y turn back some e p =
    let low = subst (λ v. Clears a b (coord 0 (r - 1) 0) (coord (edge r turn) v (edge r back)) ((r - 1 - v) * fro_steps r)) e p in
    let way : moves_to (coord (edge r turn) 0 (edge r back)) (coord 0 0 0) ≤ 6 * tiles_of r = let near_edge = edge_near r turn in let near_edge_here = edge_near r back in omega arith in
    clears_to a b (coord 0 (r - 1) 0) (coord (edge r turn) 0 (edge r back)) (coord 0 0 0) ((r - 1 - 0) * fro_steps r) (6 * tiles_of r) ((r - 1) * voiding_steps r) low way
    (subst (λ v. v * fro_steps r + 6 * tiles_of r ≤ (r - 1) * voiding_steps r) (let difference_is : r - 1 ≡ r - 1 - 0 = omega arith in difference_is) (times (r - 1) (fro_steps r) (6 * tiles_of r) (voiding_steps r) (omega arith) (with_way (tiles_of r))))

-- with the layer below all is void from there on
pub void_more : (a b : Matrix) (y : ℕ) → 0 < y → AreFewer b a → IsVoidFrom a y → IsVoidBefore b b.resolution (y - 1)
    → IsVoidFrom b (y - 1)
void_more a b y h fewer v w = λ c l. by c l (less_or_not c.y y)
  where
    by : (c : Coord) → y - 1 ≤ c.y → (c.y < y) ⊎ (y ≤ c.y) → is_full b c ≡ false
    by c l (inl m) = void_by_space b c (λ i. w c i.x (omega arith))
    by c l (inr m) = fewer c (v c m)
