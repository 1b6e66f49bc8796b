-- The effect of a move of all bots.
use Rattle.std.proofs.Common.{◌≡◌, ℕ, ◌-◌, ◌≤◌, sym, ◌∙◌, ap, subst, arith, List, length}
use Rattle.vox_geom.specs.declared.coordinate.Coord.{Coord}
use Rattle.nano_spec.specs.declared.commands.Command.{Command}
use Rattle.nano_spec.specs.declared.system.Bot.{Bot}
use Rattle.nano_spec.specs.Matrix.{Matrix}
use Rattle.plan_tape.specs.declared.axis.Axis.{Axis}
use Rattle.plan_tape.specs.Crowd.{AllStep, CanMoveAll, bots_gone}
use Rattle.plan_tape.specs.Leg.{component_of, gap}
use Rattle.plan_tape.specs.Progress.{TapeState, spot, IsVoidFrom}
use Rattle.swarm_planner.specs.Strips.{last, bot_row as row_at, strip_row}
use Rattle.swarm_planner.specs.Bounds.{width}
use Rattle.swarm_planner.specs.Crew.{AreAlong, AreLed, AreNear, CrewGoes, InRow, IsSwarm, MayLead, RowGoes, led, places, row_led}
use Rattle.swarm_planner.proofs.Leading.{all_can, gone_there, led_length, places-placed, ways_apart}
use Rattle.swarm_planner.proofs.Rows.{led_row, length_of_row, near_by, row_led-is, spot_of_row}

module _ (p : TapeState) (swarm : IsSwarm p) (h : ℕ) (void : IsVoidFrom p.matrix h) (axis : Axis) (cs : List Coord) (low : ℕ) (k : AreLed p.matrix.resolution h axis low (places p.bots) cs) where
  pub can_move : CanMoveAll p (led axis p.bots cs)
  can_move = record { each = all_can p swarm.light h void axis p.bots cs low k; apart = ways_apart p.matrix.resolution h axis p.bots cs low k }

  pub goes_by : (q : TapeState)
      → AllStep p q (led axis p.bots cs) p.matrix p.harmonics (bots_gone p.bots (led axis p.bots cs))
      → CrewGoes p q cs 1
  goes_by q s = record {
    source = s.source;
    matrix = s.matrix;
    swarm = record { high = s.harmonics ∙ swarm.high; light = s.profile ∙ swarm.light };
    bots_are = s.bots_are ∙ gone_there p.matrix.resolution h axis p.bots cs low k;
    steps_are = let steps = s.steps in omega arith;
  }

-- ---- the row of all strips

-- the commands in terms of the tape's fields
pub same_way : (p : TapeState) (axis : Axis) (to : Coord) (r w : ℕ) (bots : List Bot) → r ≡ p.matrix.resolution
    → w ≡ width r → bots ≡ p.bots
    → row_led axis w (r - 2) bots to ≡ row_led axis (width p.matrix.resolution) (last p.matrix.resolution) p.bots to
same_way p axis to r w bots er ew eb = let w_is : w ≡ width p.matrix.resolution = ew ∙ ap width er in λ i. row_led axis (w_is i) (er i - 2) (eb i) to

pub near_way : (p : TapeState) (axis : Axis) (to : Coord) (r w : ℕ) (bots : List Bot) → r ≡ p.matrix.resolution
    → w ≡ width r → bots ≡ p.bots → AreNear axis (width p.matrix.resolution) (last p.matrix.resolution) p.bots to
    → AreNear axis w (r - 2) bots to
near_way p axis to r w bots er ew eb h =
    let w_is : w ≡ width p.matrix.resolution = ew ∙ ap width er in
    subst (λ n. AreNear axis n (r - 2) bots to) (sym w_is) (subst (λ n. AreNear axis (width p.matrix.resolution) (n - 2) bots to) (sym er) (subst (λ (bs : List Bot). AreNear axis (width p.matrix.resolution) (last p.matrix.resolution) bs to) (sym eb) h))

module _ (p : TapeState) (swarm : IsSwarm p) (row : InRow p) (void : IsVoidFrom p.matrix (spot p.bots).y) (axis : Axis) (to : Coord) (leads : MayLead p.matrix.resolution to) (line : AreAlong axis (spot p.bots) to) (near : gap (component_of axis (spot p.bots)) (component_of axis to) ≤ 15) (up : (spot p.bots).y ≤ to.y) where
  all_led : AreLed p.matrix.resolution (spot p.bots).y axis 1 (places p.bots) (strip_row p.matrix.resolution to)
  all_led = subst (λ (cs : List Coord). AreLed p.matrix.resolution (spot p.bots).y axis 1 cs (strip_row p.matrix.resolution to)) (sym row.places_are) (led_row p.matrix.resolution (spot p.bots).y axis (spot p.bots) to row.leads leads line near (omega arith) up)

  as_led : row_led axis (width p.matrix.resolution) (last p.matrix.resolution) p.bots to
      ≡ led axis p.bots (strip_row p.matrix.resolution to)
  as_led =
      row_led-is axis (width p.matrix.resolution) (last p.matrix.resolution) p.bots to
      ∙ ap (λ n. led axis p.bots (row_at (width p.matrix.resolution) (last p.matrix.resolution) n to)) (length_of_row p.matrix.resolution p.bots (spot p.bots) row.places_are)

  pub row_near : AreNear axis (width p.matrix.resolution) (last p.matrix.resolution) p.bots to
  row_near = near_by p.matrix.resolution (spot p.bots).y axis (width p.matrix.resolution) (last p.matrix.resolution) 1 p.bots to row.leads.most
      (subst (λ n. AreLed p.matrix.resolution (spot p.bots).y axis 1 (places p.bots) (row_at (width p.matrix.resolution) (last p.matrix.resolution) n to)) (sym (length_of_row p.matrix.resolution p.bots (spot p.bots) row.places_are)) all_led)

  pub row_can : (commands : List Command)
      → commands ≡ row_led axis (width p.matrix.resolution) (last p.matrix.resolution) p.bots to → CanMoveAll p commands
  row_can commands e = subst (λ (ks : List Command). CanMoveAll p ks) (sym (e ∙ as_led)) (can_move p swarm (spot p.bots).y void axis (strip_row p.matrix.resolution to) 1 all_led)

  pub row_length : (commands : List Command)
      → commands ≡ row_led axis (width p.matrix.resolution) (last p.matrix.resolution) p.bots to
      → length commands ≡ length p.bots
  row_length commands e = ap length (e ∙ as_led) ∙ led_length p.matrix.resolution (spot p.bots).y axis p.bots (strip_row p.matrix.resolution to) 1 all_led

  pub row_goes : (q : TapeState) (commands : List Command)
      → commands ≡ row_led axis (width p.matrix.resolution) (last p.matrix.resolution) p.bots to
      → AllStep p q commands p.matrix p.harmonics (bots_gone p.bots commands) → RowGoes p q to 1
  row_goes q commands e s =
      let crew_goes = goes_by p swarm (spot p.bots).y void axis (strip_row p.matrix.resolution to) 1 all_led q (subst (λ (ks : List Command). AllStep p q ks p.matrix p.harmonics (bots_gone p.bots ks)) (e ∙ as_led) s) in
      let size = ap (λ (m : Matrix). m.resolution) crew_goes.matrix in
      let there : places q.bots ≡ strip_row p.matrix.resolution to = ap places crew_goes.bots_are ∙ places-placed p.matrix.resolution (spot p.bots).y axis p.bots (strip_row p.matrix.resolution to) 1 all_led in
      let at : spot q.bots ≡ to = spot_of_row p.matrix.resolution q.bots to leads there in
      record {
        source = crew_goes.source;
        matrix = crew_goes.matrix;
        swarm = crew_goes.swarm;
        row = record {
          places_are = there ∙ (λ i. strip_row (sym size i) (sym at i));
          leads = subst (λ r. MayLead r (spot q.bots)) (sym size) (subst (λ (c : Coord). MayLead p.matrix.resolution c) (sym at) leads);
        };
        there = at;
        steps_are = crew_goes.steps_are;
      }
