-- Rows of positions.
use Rattle.std.proofs.Common.{◌≡◌, ℕ, zero, suc, ◌+◌, ◌-◌, ◌*◌, ◌/◌, ◌<◌, ◌≤◌, refl, sym, ◌∙◌, ap, arith, max, min, List, [], ◌∷◌, length, add-one}
use Rattle.std.proofs.lemmas.Nat.{div_below}
use Rattle.std.proofs.Math.Nat.{mul-div-le}
use Rattle.vox_geom.specs.declared.coordinate.Coord.{Coord}
use Rattle.vox_geom.specs.Space.{IsInSpace}
use Rattle.nano_spec.specs.declared.system.Bot.{Bot}
use Rattle.plan_tape.specs.declared.axis.Axis.{Axis}
use Rattle.plan_tape.specs.declared.axis.Axis.TheVariants.{X, Y, Z}
use Rattle.plan_tape.specs.Leg.{component_of, gap}
use Rattle.plan_tape.specs.Progress.{spot}
use Rattle.swarm_planner.specs.Strips.{count, held, last, next, bot_row, strip_row}
use Rattle.swarm_planner.specs.Bounds.{width}
use Rattle.swarm_planner.specs.Crew.{AreAlong, AreLed, AreNear, MayLead, lead, led, places, row_led}

-- ---- the number and the width of strips

pub narrow : (r : ℕ) → r ≤ 400 → width r ≤ 20
narrow r h = omega arith

pub wide : (r : ℕ) → 3 ≤ r → width r ≤ last r
wide r h = omega arith

pub many_columns : (r : ℕ) → 3 ≤ r → r - 2 ≤ 20 * width r
many_columns r h = omega arith

strip_some : (r : ℕ) → 1 ≤ width r
strip_some r = omega arith

pub few : (r : ℕ) → 3 ≤ r → (r - 3) / width r < 20
few r h = let columns_bound = many_columns r h in let strip_positive = strip_some r in div_below (r - 3) (width r) 20 (omega arith) (omega arith)

-- ---- rows

pub length-row : (w l n : ℕ) (c : Coord) → length (bot_row w l n c) ≡ n
length-row w l zero c = refl
length-row w l (suc n) c = ap suc (length-row w l n (next w c))

pub length-places : (bots : List Bot) → length (places bots) ≡ length bots
length-places [] = refl
length-places (b ∷ bots) = ap suc (length-places bots)

pub row_led-is : (axis : Axis) (w l : ℕ) (bots : List Bot) (c : Coord)
    → row_led axis w l bots c ≡ led axis bots (bot_row w l (length bots) c)
row_led-is axis w l [] c = refl
row_led-is axis w l (b ∷ bots) c = ap (λ ks. lead axis b.pos (held l c) ∷ ks) (row_led-is axis w l bots (next w c))

-- ---- a row that moves along an axis

-- two positions at the head of n strips, of which the first begins at a column
pub record Leads (r h : ℕ) (axis : Axis) (w l n low start : ℕ) (c d : Coord) : Type 0 where
  pub begins : low ≤ start
  pub line : AreAlong axis c d
  pub near : gap (component_of axis c) (component_of axis d) ≤ 15
  pub from : start ≤ c.x
  pub from_end : c.x < start + w
  pub to : start ≤ d.x
  pub to_end : d.x < start + w
  pub room : start + w * n ≤ l + w
  pub within : l < r
  pub y : c.y < r
  pub z : c.z < r
  pub to_y : d.y < r
  pub to_z : d.z < r
  pub high : h ≤ c.y
  pub high_to : h ≤ d.y

line_held : (axis : Axis) (l : ℕ) (c d : Coord) → AreAlong axis c d → AreAlong axis (held l c) (held l d)
line_held X l c d h = h
line_held Y l c d h = (ap (λ v. min v l) h.0, h.1)
line_held Z l c d h = (ap (λ v. min v l) h.0, h.1)

line_next : (axis : Axis) (w : ℕ) (c d : Coord) → AreAlong axis c d → AreAlong axis (next w c) (next w d)
line_next X w c d h = h
line_next Y w c d h = (ap (λ v. v + w) h.0, h.1)
line_next Z w c d h = (ap (λ v. v + w) h.0, h.1)

near_held : (axis : Axis) (l : ℕ) (c d : Coord) → gap (component_of axis c) (component_of axis d) ≤ 15
    → gap (component_of axis (held l c)) (component_of axis (held l d)) ≤ 15
near_held X l c d h = omega arith
near_held Y l c d h = h
near_held Z l c d h = h

near_next : (axis : Axis) (w : ℕ) (c d : Coord) → gap (component_of axis c) (component_of axis d) ≤ 15
    → gap (component_of axis (next w c)) (component_of axis (next w d)) ≤ 15
near_next X w c d h = omega arith
near_next Y w c d h = h
near_next Z w c d h = h

more_room : (start w n l : ℕ) → start + w * suc n ≤ l + w → (start ≤ l) × (start + w + w * n ≤ l + w)
more_room start w n l h = (omega arith, omega arith)

module _ (r h : ℕ) (axis : Axis) (w l : ℕ) where
  pub row_are_led : (n low start : ℕ) (c d : Coord) → Leads r h axis w l n low start c d
      → AreLed r h axis low (bot_row w l n c) (bot_row w l n d)
  row_are_led zero low start c d k = tt
  row_are_led (suc n) low start c d k =
      let room_for_more = more_room start w n l k.room in
      let begins : start ≤ l = room_for_more.0 in
      let its_begins = k.begins in
      let its_from = k.from in
      let its_from_end = k.from_end in
      let up_to = k.to in
      let its_to_end = k.to_end in
      let its_within = k.within in (
        record {
          line = line_held axis l c d k.line;
          near = near_held axis l c d k.near;
          from = record { x = omega arith; y = k.y; z = k.z };
          to = record { x = omega arith; y = k.to_y; z = k.to_z };
          high_from = k.high;
          high_to = k.high_to;
          low_from = omega arith;
          low_to = omega arith;
        },
        row_are_led n (max (min c.x l) (min d.x l) + 1) (start + w) (next w c) (next w d) (record {
          begins = omega arith;
          line = line_next axis w c d k.line;
          near = near_next axis w c d k.near;
          from = omega arith;
          from_end = omega arith;
          to = omega arith;
          to_end = omega arith;
          room = room_for_more.1;
          within = its_within;
          y = k.y;
          z = k.z;
          to_y = k.to_y;
          to_z = k.to_z;
          high = k.high;
          high_to = k.high_to;
        }),
      )

-- ---- the row of all strips

pub led_row : (r h : ℕ) (axis : Axis) (c d : Coord) → MayLead r c → MayLead r d → AreAlong axis c d
    → gap (component_of axis c) (component_of axis d) ≤ 15 → h ≤ c.y → h ≤ d.y
    → AreLed r h axis 1 (strip_row r c) (strip_row r d)
led_row r h axis c d a b line near high high_to =
    let some_there = a.some in
    let most = a.most in
    let its_first = a.first in
    let first = b.first in
    let its_wide = a.wide in
    let wide_here = b.wide in
    row_are_led r h axis (width r) (last r) (count r) 1 1 c d (record {
      begins = omega arith;
      line = line;
      near = near;
      from = its_first;
      from_end = omega arith;
      to = first;
      to_end = omega arith;
      room = let quotient_bound = mul-div-le (r - 3) (width r) in omega arith;
      within = omega arith;
      y = a.y;
      z = a.z;
      to_y = b.y;
      to_z = b.z;
      high = high;
      high_to = high_to;
    })

pub row_begins : (r : ℕ) (c : Coord)
    → strip_row r c ≡ held (last r) c ∷ bot_row (width r) (last r) ((r - 3) / width r) (next (width r) c)
row_begins r c = ap (λ n. bot_row (width r) (last r) n c) (add-one ((r - 3) / width r))

first_of_bots : (bots : List Bot) (c : Coord) (cs : List Coord) → places bots ≡ c ∷ cs → spot bots ≡ c
first_of_bots [] c cs e = cc
first_of_bots (b ∷ bots) c cs e = ap first e
  where
    first : List Coord → Coord
    first [] = c
    first (d ∷ ds) = d

held_is : (r : ℕ) (c : Coord) → MayLead r c → held (last r) c ≡ c
held_is r c h =
    let some_there = h.some in
    let its_wide = h.wide in
    let min_is : min c.x (last r) ≡ c.x = omega arith in
    λ i. record { x = min_is i; y = c.y; z = c.z }

pub spot_of_row : (r : ℕ) (bots : List Bot) (c : Coord) → MayLead r c → places bots ≡ strip_row r c → spot bots ≡ c
spot_of_row r bots c h e = first_of_bots bots (held (last r) c) _ (e ∙ row_begins r c) ∙ held_is r c h

pub length_of_row : (r : ℕ) (bots : List Bot) (c : Coord) → places bots ≡ strip_row r c → length bots ≡ count r
length_of_row r bots c e = sym (length-places bots) ∙ (ap length e ∙ length-row (width r) (last r) (count r) c)

-- ---- short moves

pub near_by : (r h : ℕ) (axis : Axis) (w l low : ℕ) (bots : List Bot) (c : Coord) → r ≤ 400
    → AreLed r h axis low (places bots) (bot_row w l (length bots) c) → AreNear axis w l bots c
near_by r h axis w l low [] c m k = tt
near_by r h axis w l low (b ∷ bots) c m k = (record { from = below axis b.pos k.0.from; to = below axis (held l c) k.0.to; near = k.0.near }, near_by r h axis w l (max b.pos.x (min c.x l) + 1) bots (next w c) m k.1)
  where
    below : (x : Axis) (q : Coord) → IsInSpace r q → component_of x q ≤ 400
    below X q i = let along_x = i.x in omega arith
    below Y q i = let along_y = i.y in omega arith
    below Z q i = let along_z = i.z in omega arith
