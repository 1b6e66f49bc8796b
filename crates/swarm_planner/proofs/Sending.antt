-- A line of bots whose last moves on, and the line after a step.
use Rattle.std.proofs.Common.{◌≡◌, ℕ, zero, suc, ◌+◌, ◌-◌, ◌*◌, ◌/◌, ◌<◌, ◌≤◌, refl, sym, ◌∙◌, ap, subst, inl, inr, arith, min, List, [], ◌∷◌, length, mul-le-mul}
use Rattle.std.proofs.Math.Nat.{mul-div-le}
use Rattle.vox_geom.specs.declared.coordinate.Coord.{Coord}
use Rattle.nano_spec.specs.declared.system.Bot.{Bot}
use Rattle.nano_spec.specs.Matrix.{Matrix}
use Rattle.plan_tape.specs.Leg.{IsOnward, gap}
use Rattle.plan_tape.specs.Progress.{TapeState, spot, IsVoidFrom}
use Rattle.swarm_planner.specs.Crew.{CrewGoes, IsSwarm, placed, places}
use Rattle.swarm_planner.specs.Lineup.{AreLined, InLine, IsSpreadOver, Regroups, SpreadsOver, free_column, last_column, lined_up, sent, split}
use Rattle.swarm_planner.specs.Strips.{count, held, last, next, bot_row}
use Rattle.swarm_planner.specs.Bounds.{width}
use Rattle.swarm_planner.proofs.Lines.{length-sent, sent-sent, sent_lined, sent_more, sent_there, split_lined}
use Rattle.swarm_planner.proofs.Rows.{length-places, length-row}
use Rattle.swarm_planner.proofs.Splitting.{places-lined_up}
use Rattle.vox_geom.specs.Point.{coord}

-- ---- bots at positions

pub placed_there : (bots : List Bot) → placed bots (places bots) ≡ bots
placed_there [] = refl
placed_there (b ∷ bots) = ap (λ bs. b ∷ bs) (placed_there bots)

pub placed-placed : (bots : List Bot) (cs ds : List Coord) → length cs ≡ length bots
    → placed (placed bots cs) ds ≡ placed bots ds
placed-placed [] cs ds h = refl
placed-placed (b ∷ bots) [] ds h = absurd (omega arith)
placed-placed (b ∷ bots) (c ∷ cs) [] h = refl
placed-placed (b ∷ bots) (c ∷ cs) (d ∷ ds) h = ap (λ bs. record { bid = b.bid; pos = d; seeds = b.seeds } ∷ bs) (placed-placed bots cs ds (omega arith))

pub places_of_placed : (bots : List Bot) (cs : List Coord) → length cs ≡ length bots → places (placed bots cs) ≡ cs
places_of_placed [] [] h = refl
places_of_placed [] (c ∷ cs) h = absurd (omega arith)
places_of_placed (b ∷ bots) [] h = absurd (omega arith)
places_of_placed (b ∷ bots) (c ∷ cs) h = ap (λ ds. c ∷ ds) (places_of_placed bots cs (omega arith))

pub placed-lined_up : (bid : ℕ) (cs ds : List Coord) → length ds ≡ length cs
    → placed (lined_up bid cs) ds ≡ lined_up bid ds
placed-lined_up bid [] [] h = refl
placed-lined_up bid [] (d ∷ ds) h = absurd (omega arith)
placed-lined_up bid (c ∷ []) [] h = absurd (omega arith)
placed-lined_up bid (c ∷ []) (d ∷ []) h = refl
placed-lined_up bid (c ∷ []) (d ∷ e ∷ ds) h = absurd (omega arith)
placed-lined_up bid (c ∷ k ∷ cs) [] h = absurd (omega arith)
placed-lined_up bid (c ∷ k ∷ cs) (d ∷ []) h = absurd (omega arith)
placed-lined_up bid (c ∷ k ∷ cs) (d ∷ e ∷ ds) h = ap (λ bs. record { bid = bid; pos = d; seeds = 0 } ∷ bs) (placed-lined_up (bid + 1) (k ∷ cs) (e ∷ ds) (omega arith))

-- ---- a line without moves

level : (r y z low : ℕ) (bots : List Bot) → AreLined r y z low (places bots) → 0 < length bots
    → ((spot bots).y ≡ y) × ((spot bots).z ≡ z)
level r y z low [] k h = absurd (omega arith)
level r y z low (b ∷ bots) k h = (k.0.height, k.0.depth)

-- if the positions are in a line, so is the tape
pub line_of : (p : TapeState) (y z : ℕ) → IsSwarm p → 0 < length (places p.bots) → p.matrix.resolution ≤ 400
    → y < p.matrix.resolution → z < p.matrix.resolution → AreLined p.matrix.resolution y z 1 (places p.bots)
    → IsVoidFrom p.matrix y → InLine p
line_of p y z swarm some most hy hz k void =
    let as_many_places = length-places p.bots in
    let at = level p.matrix.resolution y z 1 p.bots k (omega arith) in
    let ey = at.0 in
    let ez = at.1 in
    record {
      swarm = swarm;
      some = omega arith;
      most = most;
      lined = subst (λ v. AreLined p.matrix.resolution v (spot p.bots).z 1 (places p.bots)) (sym ey) (subst (λ v. AreLined p.matrix.resolution y v 1 (places p.bots)) (sym ez) k);
      y = omega arith;
      z = omega arith;
      void = subst (λ v. IsVoidFrom p.matrix v) (sym ey) void;
    }

-- ---- the last bot moves on

module _ (a b : TapeState) (line : InLine a) (x m : ℕ) (goes : CrewGoes a b (sent (places a.bots) x) m) where
  pub places_on : places b.bots ≡ sent (places a.bots) x
  places_on = ap places goes.bots_are ∙ places_of_placed a.bots (sent (places a.bots) x) (length-sent (places a.bots) x ∙ length-places a.bots)

  pub line_on : free_column 1 (places a.bots) ≤ x → x < a.matrix.resolution → InLine b
  line_on free within =
      let size = ap (λ (k : Matrix). k.resolution) goes.matrix in
      let as_many_places = length-places a.bots in
      let sent_length = length-sent (places a.bots) x in
      let some = line.some in
      let length_is = ap length places_on in
      let line_y = line.y in
      let line_z = line.z in
      let most = line.most in
      line_of b (spot a.bots).y (spot a.bots).z goes.swarm (omega arith) (omega arith) (omega arith) (omega arith)
      (subst (λ r. AreLined r (spot a.bots).y (spot a.bots).z 1 (places b.bots)) (sym size) (subst (λ (cs : List Coord). AreLined a.matrix.resolution (spot a.bots).y (spot a.bots).z 1 cs) (sym places_on) (sent_lined a.matrix.resolution (spot a.bots).y (spot a.bots).z 1 x (places a.bots) line.lined free within)))
      (subst (λ (k : Matrix). IsVoidFrom k (spot a.bots).y) (sym goes.matrix) line.void)

pub goes_nowhere : (p : TapeState) (x : ℕ) → InLine p → x ≡ last_column (places p.bots)
    → (CrewGoes p p (sent (places p.bots) x) (gap (last_column (places p.bots)) x))
    × (places p.bots ≡ sent (places p.bots) x)
goes_nowhere p x line e =
    let stays : sent (places p.bots) x ≡ places p.bots = ap (sent (places p.bots)) e ∙ sent_there (places p.bots) in (
      record {
        source = refl;
        matrix = refl;
        swarm = line.swarm;
        bots_are = sym (ap (placed p.bots) stays ∙ placed_there p.bots);
        steps_are = omega arith;
      },
      sym stays,
    )

pub goes_more : (a b c : TapeState) (u v m n most : ℕ) → CrewGoes a b (sent (places a.bots) u) m
    → places b.bots ≡ sent (places a.bots) u → CrewGoes b c (sent (places b.bots) v) n → m + n ≤ most
    → CrewGoes a c (sent (places a.bots) v) most
goes_more a b c u v m n most g e h l =
    let onto : sent (places b.bots) v ≡ sent (places a.bots) v = ap (λ cs. sent cs v) e ∙ sent-sent u v (places a.bots) in
    record {
      source = h.source ∙ g.source;
      matrix = h.matrix ∙ g.matrix;
      swarm = h.swarm;
      bots_are = h.bots_are ∙ ((λ i. placed (g.bots_are i) (onto i)) ∙ placed-placed a.bots (sent (places a.bots) u) (sent (places a.bots) v) (length-sent (places a.bots) u ∙ length-places a.bots));
      steps_are = let its_steps_are = g.steps_are in let steps_are = h.steps_are in omega arith;
    }

pub longer : (a t n o : ℕ) → gap a t + gap t o ≡ gap a o → IsOnward t n o
    → (gap a n + gap n o ≡ gap a o) × (gap a t + 1 ≤ gap a n)
longer a t n o e (inl h) = let l = h.0 in let m = h.1 in (omega arith, omega arith)
longer a t n o e (inr h) = let l = h.0 in let m = h.1 in (omega arith, omega arith)

pub between_free : (f t n o : ℕ) → f ≤ t → f ≤ o → IsOnward t n o → f ≤ n
between_free f t n o h k (inl l) = let a = l.0 in let b = l.1 in omega arith
between_free f t n o h k (inr l) = let a = l.0 in let b = l.1 in omega arith

pub below_both : (t n o b : ℕ) → t < b → o < b → IsOnward t n o → n < b
below_both t n o b h k (inl l) = let a = l.1 in omega arith
below_both t n o b h k (inr l) = let a = l.1 in omega arith

pub onward_differs : (t n o : ℕ) → IsOnward t n o → t ≡ n → ⊥
onward_differs t n o (inl l) e = let a = l.0 in omega arith
onward_differs t n o (inr l) e = let a = l.1 in omega arith

-- ---- rows in a line

-- strips of which the first begins at a column, and the position at their head
pub record Stands (r w l n low start : ℕ) (c : Coord) : Type 0 where
  pub begins : low ≤ start
  pub from : start ≤ c.x
  pub from_end : c.x < start + w
  pub room : start + w * n ≤ l + w
  pub within : l < r

pub row_lined : (r w l n low start : ℕ) (c : Coord) → Stands r w l n low start c
    → AreLined r c.y c.z low (bot_row w l n c)
row_lined r w l zero low start c k = tt
row_lined r w l (suc n) low start c k =
    let room : start + w * suc n ≤ l + w = k.room in
    let fits : start ≤ l = omega arith in
    let its_begins = k.begins in
    let its_from = k.from in
    let its_from_end = k.from_end in
    let its_within = k.within in
    (record { within = omega arith; past = omega arith; height = refl; depth = refl }, row_lined r w l n (min c.x l + 1) (start + w) (next w c) (record { begins = omega arith; from = omega arith; from_end = omega arith; room = omega arith; within = its_within }))

-- the last of n + 1 positions
pub last-row : (w l n : ℕ) (c : Coord) → c.x + w * n ≤ l → last_column (bot_row w l (suc n) c) ≡ c.x + w * n
last-row w l zero c h = omega arith
last-row w l (suc n) c h = last-row w l n (next w c) (let sum_is : c.x + w * suc n ≡ c.x + w + w * n = omega arith in omega arith) ∙ (let sum_is : c.x + w * suc n ≡ c.x + w + w * n = omega arith in omega arith)

split_more : (c : Coord) (cs : List Coord) → 0 < length cs → split (c ∷ cs) ≡ c ∷ split cs
split_more c [] h = absurd (omega arith)
split_more c (d ∷ ds) h = refl

some_split : (cs : List Coord) → 0 < length cs → 0 < length (split cs)
some_split [] h = h
some_split (c ∷ []) h = omega arith
some_split (c ∷ d ∷ more) h = omega arith

pub free-split : (low : ℕ) (cs : List Coord) → 0 < length cs → free_column low (split cs) ≡ last_column cs + 1
free-split low [] h = absurd (omega arith)
free-split low (c ∷ []) h = refl
free-split low (c ∷ d ∷ more) h = free_more low c (split (d ∷ more)) (some_split (d ∷ more) (omega arith)) ∙ free-split (c.x + 1) (d ∷ more) (omega arith)
  where
    free_more : (low : ℕ) (c : Coord) (cs : List Coord) → 0 < length cs
        → free_column low (c ∷ cs) ≡ free_column (c.x + 1) cs
    free_more low c [] h = absurd (omega arith)
    free_more low c (d ∷ more) h = refl

pub last-split : (cs : List Coord) → 0 < length cs → last_column (split cs) ≡ last_column cs + 1
last-split [] h = absurd (omega arith)
last-split (c ∷ []) h = refl
last-split (c ∷ d ∷ more) h = last_more c (split (d ∷ more)) (some_split (d ∷ more) (omega arith)) ∙ last-split (d ∷ more) (omega arith)
  where
    last_more : (c : Coord) (cs : List Coord) → 0 < length cs → last_column (c ∷ cs) ≡ last_column cs
    last_more c [] h = absurd (omega arith)
    last_more c (d ∷ more) h = refl

-- the row with one more position
pub row_grows : (w l n x : ℕ) (c : Coord) → x ≡ c.x + w * suc n → x ≤ l
    → sent (split (bot_row w l (suc n) c)) x ≡ bot_row w l (suc (suc n)) c
row_grows w l zero x c e h =
    let x_is : x ≡ min (c.x + w) l = omega arith in
    λ i. held l c ∷ coord (x_is i) c.y c.z ∷ []
row_grows w l (suc n) x c e h =
    ap (λ cs. sent cs x) (split_more (held l c) (bot_row w l (suc n) (next w c)) (omega arith))
    ∙ (sent_more (held l c) (split (bot_row w l (suc n) (next w c))) x (some_split (bot_row w l (suc n) (next w c)) (omega arith))
    ∙ ap (λ cs. held l c ∷ cs) (row_grows w l n x (next w c) (let sum_is : c.x + w * suc (suc n) ≡ c.x + w + w * suc n = omega arith in omega arith) h))

-- ---- one more strip

pub strip_start : (r n : ℕ) → 3 ≤ r → n < count r → 1 + width r * n ≤ last r
strip_start r n s h =
    let quotient_bound = mul-div-le (r - 3) (width r) in
    let same : width r ≤ width r = omega arith in
    let fewer : n ≤ (r - 3) / width r = omega arith in
    let at_most_width : width r * n ≤ width r * ((r - 3) / width r) = mul-le-mul same fewer in
    omega arith

-- the positions of the first n + 1 strips
abbrev pub starts : ℕ → ℕ → List Coord
starts r n = bot_row (width r) (last r) n (coord 1 1 0)

module _ (p : TapeState) (n : ℕ) (spread : IsSpreadOver p (suc n)) (more : suc n < count p.matrix.resolution) where
  pub spread_places : places p.bots ≡ starts p.matrix.resolution (suc n)
  spread_places = ap places spread.bots_are ∙ places-lined_up 1 (starts p.matrix.resolution (suc n))

  room : 1 + width p.matrix.resolution * suc n ≤ last p.matrix.resolution
  room = strip_start p.matrix.resolution (suc n) spread.some more

  pub spread_length : length p.bots ≡ suc n
  spread_length = sym (length-places p.bots) ∙ (ap length spread_places ∙ length-row (width p.matrix.resolution) (last p.matrix.resolution) (suc n) (coord 1 1 0))

  spread_lined : AreLined p.matrix.resolution 1 0 1 (starts p.matrix.resolution (suc n))
  spread_lined = row_lined p.matrix.resolution (width p.matrix.resolution) (last p.matrix.resolution) (suc n) 1 1 (coord 1 1 0) (let spread_some = spread.some in record { begins = omega arith; from = omega arith; from_end = omega arith; room = let room_enough = room in omega arith; within = omega arith })

  pub spread_line : InLine p
  spread_line =
      let spread_some = spread.some in
      let length_is = ap length spread_places in
      let row_length = length-row (width p.matrix.resolution) (last p.matrix.resolution) (suc n) (coord 1 1 0) in
      line_of p 1 0 spread.swarm (omega arith) spread.most (omega arith) (omega arith) (subst (λ (cs : List Coord). AreLined p.matrix.resolution 1 0 1 cs) (sym spread_places) spread_lined) (λ c h. spread.void c (omega arith))

  pub spread_last : last_column (places p.bots) ≡ 1 + width p.matrix.resolution * n
  spread_last = ap last_column spread_places ∙ last-row (width p.matrix.resolution) (last p.matrix.resolution) n (coord 1 1 0) (let room_enough = room in let same_width : width p.matrix.resolution * suc n ≡ width p.matrix.resolution * n + width p.matrix.resolution = omega arith in omega arith)

  pub spread_room : last_column (places p.bots) + width p.matrix.resolution ≤ last p.matrix.resolution
  spread_room = let last_spread = spread_last in let room_enough = room in let same_width : width p.matrix.resolution * suc n ≡ width p.matrix.resolution * n + width p.matrix.resolution = omega arith in omega arith

  module _ (q : TapeState) (g : Regroups p q) (bots : q.bots ≡ lined_up 1 (split (places p.bots))) where
    size : q.matrix.resolution ≡ p.matrix.resolution
    size = ap (λ (m : Matrix). m.resolution) g.matrix

    pub born_places : places q.bots ≡ split (places p.bots)
    born_places = ap places bots ∙ places-lined_up 1 (split (places p.bots))

    some : 0 < length (places p.bots)
    some = let as_many_places = length-places p.bots in let length_spread = spread_length in omega arith

    pub born_line : InLine q
    born_line =
        let spread_some = spread.some in
        let most = spread.most in
        let same_size = size in
        let room_left = spread_room in
        let split_some = some_split (places p.bots) some in
        let length_is = ap length born_places in
        line_of q 1 0 g.swarm (omega arith) (omega arith) (omega arith) (omega arith)
        (subst (λ (cs : List Coord). AreLined q.matrix.resolution 1 0 1 cs) (sym born_places) (subst (λ r. AreLined r 1 0 1 (split (places p.bots))) (sym size) (split_lined p.matrix.resolution 1 0 1 (places p.bots) (subst (λ (cs : List Coord). AreLined p.matrix.resolution 1 0 1 cs) (sym spread_places) spread_lined) (omega arith))))
        (subst (λ (k : Matrix). IsVoidFrom k 1) (sym g.matrix) (λ c i. spread.void c (omega arith)))

    pub born_free : free_column 1 (places q.bots) ≡ last_column (places p.bots) + 1
    born_free = ap (free_column 1) born_places ∙ free-split 1 (places p.bots) some

    pub born_last : last_column (places q.bots) ≡ last_column (places p.bots) + 1
    born_last = ap last_column born_places ∙ last-split (places p.bots) some

    pub spreads : (t : TapeState) (x m : ℕ) → x ≡ last_column (places p.bots) + width p.matrix.resolution
        → CrewGoes q t (sent (places q.bots) x) m → m ≤ 19 → SpreadsOver p t (suc (suc n)) 20
    spreads t x m ex h few_steps =
        let same : t.matrix ≡ p.matrix = h.matrix ∙ g.matrix in
        let wide = ap (λ (k : Matrix). k.resolution) same in
        let to : x ≡ 1 + width p.matrix.resolution * suc n = let last_spread = spread_last in let same_width : width p.matrix.resolution * suc n ≡ width p.matrix.resolution * n + width p.matrix.resolution = omega arith in omega arith in
        let there : sent (split (places p.bots)) x ≡ starts p.matrix.resolution (suc (suc n)) = ap (λ cs. sent (split cs) x) spread_places ∙ row_grows (width p.matrix.resolution) (last p.matrix.resolution) n x (coord 1 1 0) to (let room_enough = room in omega arith) in
        let at : t.bots ≡ lined_up 1 (starts p.matrix.resolution (suc (suc n))) =
        h.bots_are
        ∙ ((λ i. placed (bots i) (sent (born_places i) x))
        ∙ (placed-lined_up 1 (split (places p.bots)) (sent (split (places p.bots)) x) (length-sent (split (places p.bots)) x)
        ∙ ap (lined_up 1) there)) in
        record {
          source = h.source ∙ g.source;
          matrix = same;
          spread = record {
            swarm = h.swarm;
            some = let spread_some = spread.some in omega arith;
            most = let most = spread.most in omega arith;
            void = subst (λ (k : Matrix). IsVoidFrom k 0) (sym same) spread.void;
            bots_are = at ∙ ap (λ r. lined_up 1 (starts r (suc (suc n)))) (sym wide);
          };
          steps_are = let steps_are = h.steps_are in let steps = g.steps in omega arith;
        }
