-- A row of bots that fuse one after another.
use Rattle.std.proofs.Common.{◌≡◌, ℕ, zero, suc, ◌+◌, ◌-◌, ◌<◌, ◌≤◌, refl, sym, ◌∙◌, ap, subst, arith, min, List, [], ◌∷◌, length, get_or}
use Rattle.std.proofs.Math.Nat.{mul-div-le}
use Rattle.vox_geom.specs.declared.coordinate.Coord.{Coord}
use Rattle.nano_spec.specs.declared.system.Bot.{Bot}
use Rattle.nano_spec.specs.Matrix.{Matrix}
use Rattle.plan_tape.specs.Leg.{gap}
use Rattle.plan_tape.specs.Progress.{TapeState, spot, IsVoidFrom}
use Rattle.swarm_planner.specs.Crew.{CrewGoes, InRow, IsSwarm, MayLead, RowGoes, places}
use Rattle.swarm_planner.specs.Lineup.{AreLined, Gathers, InLine, HasGathered, Regroups, free_column, without_last, last_column, sent}
use Rattle.swarm_planner.specs.Strips.{count, held, last, next, bot_row, strip_row}
use Rattle.swarm_planner.specs.Bounds.{width}
use Rattle.swarm_planner.proofs.Lines.{fused-sent}
use Rattle.swarm_planner.proofs.Rows.{length-places, length-row, narrow}
use Rattle.swarm_planner.proofs.Sending.{line_of, places_on, row_lined}
use Rattle.vox_geom.specs.Point.{coord}

-- ---- rows without their last position

pub fused-row : (w l n : ℕ) (c : Coord) → without_last (bot_row w l (suc n) c) ≡ bot_row w l n c
fused-row w l zero c = refl
fused-row w l (suc n) c = ap (λ cs. held l c ∷ cs) (fused-row w l n (next w c))

length-fused : (cs : List Coord) → 0 < length cs → suc (length (without_last cs)) ≡ length cs
length-fused [] h = absurd (omega arith)
length-fused (c ∷ []) h = refl
length-fused (c ∷ d ∷ more) h = ap suc (length-fused (d ∷ more) (omega arith))

fused_lined : (r y z low : ℕ) (cs : List Coord) → AreLined r y z low cs → AreLined r y z low (without_last cs)
fused_lined r y z low [] k = tt
fused_lined r y z low (c ∷ []) k = tt
fused_lined r y z low (c ∷ d ∷ more) k = (k.0, fused_lined r y z (c.x + 1) (d ∷ more) k.1)

-- the last position of a row is at most a width past the one before it
pub row_gap : (w l n low : ℕ) (c : Coord) → 1 ≤ w
    → gap (last_column (bot_row w l (suc (suc n)) c)) (free_column low (bot_row w l (suc (suc n)) c)) ≤ w
row_gap w l zero low c h = omega arith
row_gap w l (suc n) low c h = row_gap w l n (min c.x l + 1) (next w c) h

-- ---- one bot less

-- the column past the last bot but one, by its index
pub free_at : (bots : List Bot) (low : ℕ) (b : Bot) → 1 < length bots
    → (get_or bots (length bots - 2) b).pos.x + 1 ≡ free_column low (places bots)
free_at [] low d h = absurd (omega arith)
free_at (b ∷ []) low d h = absurd (omega arith)
free_at (b ∷ c ∷ []) low d h = refl
free_at (b ∷ c ∷ k ∷ more) low d h =
    let same_length : length (b ∷ c ∷ k ∷ more) - 2 ≡ suc (length (c ∷ k ∷ more) - 2) = omega arith in
    ap (λ i. (get_or (b ∷ c ∷ k ∷ more) i d).pos.x + 1) same_length ∙ free_at (c ∷ k ∷ more) (b.pos.x + 1) d (omega arith)

pub gathers : (a b c : TapeState) (x m : ℕ) → InLine a → 2 ≤ length a.bots → x ≡ free_column 1 (places a.bots)
    → CrewGoes a b (sent (places a.bots) x) m → InLine b → Regroups b c → places c.bots ≡ without_last (places b.bots)
    → Gathers a c (m + 1)
gathers a b c x m line two e g on r f =
    let there = places_on a b line x m g in
    let size = ap (λ (k : Matrix). k.resolution) r.matrix in
    let all : places c.bots ≡ without_last (places a.bots) = f ∙ (ap without_last there ∙ fused-sent x (places a.bots)) in
    let as_many_places = length-places a.bots in
    let fused_length = length-fused (places a.bots) (omega arith) in
    let same = ap length all in
    let most = on.most in
    let on_y = on.y in
    let on_z = on.z in
    record {
      source = r.source ∙ g.source;
      matrix = r.matrix ∙ g.matrix;
      line = line_of c (spot b.bots).y (spot b.bots).z r.swarm (omega arith) (omega arith) (omega arith) (omega arith)
          (subst (λ q. AreLined q (spot b.bots).y (spot b.bots).z 1 (places c.bots)) (sym size) (subst (λ (cs : List Coord). AreLined b.matrix.resolution (spot b.bots).y (spot b.bots).z 1 cs) (sym f) (fused_lined b.matrix.resolution (spot b.bots).y (spot b.bots).z 1 (places b.bots) on.lined)))
          (subst (λ (q : Matrix). IsVoidFrom q (spot b.bots).y) (sym r.matrix) on.void);
      places_are = all;
      steps_are = let steps_are = g.steps_are in let steps = r.steps in omega arith;
    }

-- ---- the row of all strips

pub row_in_line : (p : TapeState) → IsSwarm p → InRow p → IsVoidFrom p.matrix (spot p.bots).y → InLine p
row_in_line p swarm bot_row void =
    let leads = bot_row.leads in
    let resolution = p.matrix.resolution in
    let leads_some = leads.some in
    let first = leads.first in
    let wide = leads.wide in
    let quotient_bound = mul-div-le (resolution - 3) (width resolution) in
    let length_is = ap length bot_row.places_are in
    let row_length = length-row (width resolution) (last resolution) (count resolution) (spot p.bots) in
    line_of p (spot p.bots).y (spot p.bots).z swarm (omega arith) leads.most leads.y leads.z
    (subst (λ (cs : List Coord). AreLined resolution (spot p.bots).y (spot p.bots).z 1 cs) (sym bot_row.places_are) (row_lined resolution (width resolution) (last resolution) (count resolution) 1 1 (spot p.bots) (record { begins = omega arith; from = first; from_end = omega arith; room = omega arith; within = omega arith })))
    void

-- n bots of the row are left, after at most this many steps
pub record AreLeft (old new : TapeState) (c : Coord) (n most : ℕ) : Type 0 where
  pub source : new.source ≡ old.source
  pub matrix : new.matrix ≡ old.matrix
  pub line : InLine new
  pub places_are : places new.bots ≡ bot_row (width old.matrix.resolution) (last old.matrix.resolution) n c
  pub steps_are : new.steps ≤ old.steps + most

pub all_left : (a b : TapeState) (to : Coord) (most : ℕ) → RowGoes a b to most → IsVoidFrom a.matrix to.y
    → AreLeft a b to (count a.matrix.resolution) most
all_left a b to most g void =
    let size = ap (λ (m : Matrix). m.resolution) g.matrix in
    record {
      source = g.source;
      matrix = g.matrix;
      line = row_in_line b g.swarm g.row (subst (λ (m : Matrix). IsVoidFrom m (spot b.bots).y) (sym g.matrix) (subst (λ (q : Coord). IsVoidFrom a.matrix q.y) (sym g.there) void));
      places_are = g.row.places_are ∙ (λ i. strip_row (size i) (g.there i));
      steps_are = g.steps_are;
    }

pub left_as : (a b : TapeState) (c d : Coord) (n k m most : ℕ) → AreLeft a b c n m → c ≡ d → n ≡ k → m ≤ most
    → AreLeft a b d k most
left_as a b c d n k m most h ec en l = record {
  source = h.source;
  matrix = h.matrix;
  line = h.line;
  places_are = h.places_are ∙ (λ i. bot_row (width a.matrix.resolution) (last a.matrix.resolution) (en i) (ec i));
  steps_are = let steps_are = h.steps_are in omega arith;
}

-- as long as two are left, there is one to fuse
pub two_left : (a b : TapeState) (c : Coord) (n m : ℕ) → AreLeft a b c n m → length b.bots ≡ n
two_left a b c n m h = sym (length-places b.bots) ∙ (ap length h.places_are ∙ length-row (width a.matrix.resolution) (last a.matrix.resolution) n c)

pub near_left : (a b : TapeState) (c : Coord) (n m : ℕ) → AreLeft a b c (suc (suc n)) m
    → gap (last_column (places b.bots)) (free_column 1 (places b.bots)) ≤ width a.matrix.resolution
near_left a b c n m h =
    let same_gap : gap (last_column (places b.bots)) (free_column 1 (places b.bots)) ≡ gap (last_column (bot_row (width a.matrix.resolution) (last a.matrix.resolution) (suc (suc n)) c)) (free_column 1 (bot_row (width a.matrix.resolution) (last a.matrix.resolution) (suc (suc n)) c)) = ap (λ cs. gap (last_column cs) (free_column 1 cs)) h.places_are in
    let gap_bound = row_gap (width a.matrix.resolution) (last a.matrix.resolution) n 1 c (omega arith) in
    omega (arith, same_gap, gap_bound)

pub one_less : (a b c : TapeState) (to : Coord) (n m most : ℕ) → AreLeft a b to (suc (suc n)) m
    → Gathers b c (gap (last_column (places b.bots)) (free_column 1 (places b.bots)) + 1) → a.matrix.resolution ≤ 400
    → m + 21 ≤ most → AreLeft a c to (suc n) most
one_less a b c to n m most h g fits l =
    let width_here = width a.matrix.resolution in
    let gap_bound = row_gap width_here (last a.matrix.resolution) n 1 to (omega arith) in
    let same_gap : gap (last_column (places b.bots)) (free_column 1 (places b.bots)) ≡ gap (last_column (bot_row width_here (last a.matrix.resolution) (suc (suc n)) to)) (free_column 1 (bot_row width_here (last a.matrix.resolution) (suc (suc n)) to)) = ap (λ cs. gap (last_column cs) (free_column 1 cs)) h.places_are in
    let is_narrow = narrow a.matrix.resolution fits in
    record {
      source = g.source ∙ h.source;
      matrix = g.matrix ∙ h.matrix;
      line = g.line;
      places_are = g.places_are ∙ (ap without_last h.places_are ∙ fused-row width_here (last a.matrix.resolution) (suc n) to);
      steps_are = let its_steps_are = h.steps_are in let steps_are = g.steps_are in omega (arith, its_steps_are, steps_are, gap_bound, same_gap, is_narrow, l);
    }

first_of : (bots : List Bot) (c : Coord) → places bots ≡ c ∷ [] → (length bots ≡ 1) × (spot bots ≡ c)
first_of [] c e = let length_is = ap length e in absurd (omega arith)
first_of (b ∷ bots) c e = (sym (length-places (b ∷ bots)) ∙ ap length e, ap head e)
  where
    head : List Coord → Coord
    head [] = c
    head (d ∷ ds) = d

pub is_gathered : (a b : TapeState) (to : Coord) (n most : ℕ) → AreLeft a b to n most → n ≡ 1
    → MayLead a.matrix.resolution to → to ≡ coord (spot a.bots).x (spot a.bots).y 0 → HasGathered a b most
is_gathered a b to n most h e lead at =
    let resolution = a.matrix.resolution in
    let lead_some = lead.some in
    let wide = lead.wide in
    let min_is : min to.x (last resolution) ≡ to.x = omega arith in
    let here : held (last resolution) to ≡ to = λ i. record { x = min_is i; y = to.y; z = to.z } in
    let one = first_of b.bots (held (last resolution) to) (h.places_are ∙ ap (λ k. bot_row (width resolution) (last resolution) k to) e) in
    record {
      source = h.source;
      matrix = h.matrix;
      swarm = h.line.swarm;
      alone = one.0;
      there = one.1 ∙ (here ∙ at);
      steps_are = h.steps_are;
    }
