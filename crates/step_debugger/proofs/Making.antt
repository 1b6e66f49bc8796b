-- An attempt at the next step.
use Rattle.std.proofs.Common.{◌==◌, ◌≡◌, ℕ, ◌+◌, ◌-◌, ◌≤◌, refl, sym, ◌∙◌, ap, subst, arith, List, [], ◌∷◌, ◌++◌, Bool, true, false, length, take, drop, length-drop, length-take}
use Rattle.std.specs.Prelude.{◌↔◌, All, Ok}
use Rattle.std.proofs.lemmas.Bool.Decides.{nat_tests}
use Rattle.circular_buffer.specs.Buffer.{Buffer, keep_last}
use Rattle.nano_spec.specs.declared.commands.Command.{Command}
use Rattle.nano_spec.specs.declared.outcomes.Broken.{Broken}
use Rattle.nano_spec.specs.declared.outcomes.Rule.{Rule}
use Rattle.nano_spec.specs.declared.outcomes.Rule.TheVariants.{Ungrounded}
use Rattle.nano_spec.specs.declared.system.Bot.{Bot}
use Rattle.nano_spec.specs.Next.{Breaks, Goes, Next}
use Rattle.nano_spec.specs.State.{IsReady, IsWellFormed, State}
use Rattle.vox_geom.specs.Space.{IsInSpace}
use Rattle.step_machine.specs.Restoring.{IsNotMade, IsTakenBackAfter}
use Rattle.step_machine.specs.Situation.{Situation, searched_for}
use Rattle.step_machine.specs.Stepped.{IsWithinWork, Stepped}
use Rattle.step_machine.specs.Undoing.{MayUndo, state_before}
use Rattle.step_machine.specs.declared.machine.StepOk.{StepOk}
use Rattle.step_machine.specs.declared.machine.StepFault.TheVariants as fault
use Rattle.step_machine.specs.declared.undo.Undo.{Undo}
use Rattle.step_debugger.specs.Session.{Made, SessionPoint, Refused, Session, TriesStep, dropped, latest, made, most_past, next_commands, refused}
use Rattle.step_debugger.specs.Debugging.{Debugging, debugging_of, point_before, point_of, points_of}
use Rattle.step_debugger.specs.Kept.{Begin, Fit, IsKept, LeadTo, LeadsTo}
use Rattle.step_debugger.specs.Touches.{IsRefusedWithin, IsWithinWorkOf}
use Rattle.step_debugger.proofs.Notes.{lead_drop, lead_more, points_latest, points_more}
use Rattle.step_debugger.proofs.Returning.{fit}

take_long : (n : ℕ) (xs : List Command) → length (take n xs) ≡ n → n ≤ length xs
take_long n xs e = let length_taken = length-take n xs in omega (arith, length_taken)

halted_is : (b : Bool) (bots : List Bot) → (b ≡ true ↔ bots ≡ []) → b ≡ (length bots == 0)
halted_is b [] h = h.1 refl
halted_is false (x ∷ bots) h = let some : 1 ≤ length (x ∷ bots) = omega arith in grind (arith, nat_tests)
halted_is true (x ∷ bots) h = let list_empty : x ∷ bots ≡ [] = h.0 refl in cc

pub refused_other : (rule : Rule) (s : Session) → (rule ≡ Ungrounded → ⊥) → refused rule s ≡ s
refused_other Ungrounded s h = absurd (h refl)
refused_other rule s h = refl

pub refused_last : (rule : Rule) (s : Session) → rule ≡ Ungrounded → refused rule s ≡ dropped s
refused_last rule s e = ap (λ (r : Rule). refused r s) e

module _ (v : Situation) (notes : Buffer Undo) (commands : List Command) (taken : ℕ) (begun left : List ℕ) (bots : List Bot) (d : Debugging)
    (e : debugging_of v notes.items commands taken begun ≡ d) (kept : IsKept v notes commands taken begun left bots) (stands : d.spent ≡ false) where
  pub here : Fit (point_of v taken) notes.items commands begun left bots
  here = fit v notes commands taken begun left bots d e kept stands

  pub within : taken ≤ length commands
  within = here.taken

  pub formed : IsWellFormed v.state
  formed = here.well_formed

  module _ (n : ℕ) (next : List Command) (count : n ≡ length v.state.bots) (next_is : next ≡ take n (drop taken commands)) where
    next_here : next ≡ next_commands commands (point_of v taken)
    next_here = next_is ∙ ap (λ k. take k (drop taken commands)) count

    pub all_given : length (next_commands d.commands d.session.point) ≡ length d.session.point.state.bots
        → length next ≡ length v.state.bots
    all_given h = ap length next_here ∙ subst (λ (x : Debugging). length (next_commands x.commands x.session.point) ≡ length x.session.point.state.bots) (sym e) h

    pub some_bots : 1 ≤ length d.session.point.state.bots → 1 ≤ length v.state.bots
    some_bots h = subst (λ (x : Debugging). 1 ≤ length x.session.point.state.bots) (sym e) h

    module _ (all : length next ≡ length v.state.bots) (some : 1 ≤ length v.state.bots) where
      pub taken_most : taken + n ≤ length commands
      taken_most =
          let long_enough = take_long n (drop taken commands) (sym (ap length next_is) ∙ (all ∙ sym count)) in
          let length_dropped = length-drop taken commands in
          let some_here = some in
          let count_here = count in
          let within_here = within in
          omega (arith, long_enough, length_dropped, some_here, count_here, within_here)

      -- the step was made
      module _ (w : Situation) (undo : Undo) (ok : StepOk) (began ended : ℕ) (stepped : Stepped v w next (Ok ok) began ended) (before : state_before w.state undo ≡ v.state) (counted : undo.steps ≡ v.steps) (may : IsWellFormed v.state → MayUndo w.state undo)
          (rest : Buffer Undo) (pushed : rest ≡ record { items = keep_last notes.capacity (notes.items ++ undo ∷ []); capacity = notes.capacity }) where
        crew_is : length undo.crew ≡ n
        crew_is = ap (λ (s : State). length s.bots) before ∙ sym count

        point_is : point_before (point_of w (taken + n)) undo ≡ point_of v taken
        point_is = λ i. record { state = before i; steps = counted i; taken = less i }
          where
            less : taken + n - length undo.crew ≡ taken
            less = let crew_count = crew_is in omega (arith, crew_count)

        leads : LeadsTo (point_of w (taken + n)) undo
        leads = record {
          may = may formed;
          counted = let stepped_counted = stepped.counted in omega (arith, stepped_counted, counted);
          some = let crew_count = crew_is in let count_here = count in let some_here = some in omega (arith, crew_count, count_here, some_here);
          taken = let crew_count = crew_is in let here_counted = here.counted in omega (arith, crew_count, here_counted, counted);
        }

        latest_is : rest.items ≡ latest most_past (notes.items ++ undo ∷ [])
        latest_is = ap (λ (b : Buffer Undo). b.items) pushed ∙ ap (λ k. latest k (notes.items ++ undo ∷ [])) kept.capacity

        leads_all : LeadTo (point_of w (taken + n)) rest.items
        leads_all =
            subst (λ (us : List Undo). LeadTo (point_of w (taken + n)) us) (sym latest_is)
            (lead_drop (point_of w (taken + n)) (length (notes.items ++ undo ∷ []) - most_past) (notes.items ++ undo ∷ [])
            (lead_more (point_of w (taken + n)) notes.items undo (subst (λ (q : SessionPoint). LeadTo q notes.items) (sym point_is) here.notes_lead) leads))

        begins : (now : List ℕ) → now ≡ [] → (standing : List Bot) → standing ≡ w.state.bots
            → Begin commands (point_of w (taken + n)) now left standing
        begins [] f standing g = g
        begins (x ∷ now) f standing g = cc

        pub kept_made : (now : List ℕ) → now ≡ [] → (standing : List Bot) → standing ≡ w.state.bots → IsReady w.state
            → IsKept w rest commands (taken + n) now left standing
        kept_made now f standing g ready = record {
          few = kept.few;
          capacity = ap (λ (b : Buffer Undo). b.capacity) pushed ∙ kept.capacity;
          fit = λ _. record {
            well_formed = stepped.well_formed formed;
            counted = let stepped_counted = stepped.counted in let here_counted = here.counted in let count_here = count in let some_here = some in omega (arith, stepped_counted, here_counted, count_here, some_here);
            taken = taken_most;
            notes_lead = leads_all;
            begin = begins now f standing g;
            within = subst (λ (bs : List Bot). All (λ b. IsInSpace w.state.matrix.resolution b.pos) bs) (sym g) ready.within;
          };
        }

        past_is : points_of (point_of w (taken + n)) rest.items
            ≡ latest most_past (points_of (point_of v taken) notes.items ++ point_of v taken ∷ [])
        past_is =
            ap (points_of (point_of w (taken + n))) latest_is
            ∙ (points_latest (point_of w (taken + n)) most_past (notes.items ++ undo ∷ [])
            ∙ ap (latest most_past) (points_more (point_of w (taken + n)) notes.items undo ∙ (λ i. points_of (point_is i) notes.items ++ point_is i ∷ [])))

        session_is : (now : List ℕ) → now ≡ [] → (debugging_of w rest.items commands (taken + n) now).session
            ≡ made (debugging_of v notes.items commands taken begun).session w.state
        session_is now f = λ i. record { point = record { state = w.state; steps = stepped.counted i; taken = taken + count i }; past = past_is i; begun = f i }

        pub step_within : IsWithinWorkOf 100 d.commands d.session.point began ended
        step_within = subst (λ (x : Debugging). IsWithinWorkOf 100 x.commands x.session.point began ended) e (subst (λ (xs : List Command). IsWithinWork v.state xs (v.steps + 1) began ended) next_here stepped.touches)

        pub session_made : (now : List ℕ) → now ≡ [] → TriesStep d.commands d.session
            (debugging_of w rest.items commands (taken + n) now).session (Made w.steps ok.energy ok.halted)
        session_made now f = subst (λ (x : Debugging). TriesStep x.commands x.session (debugging_of w rest.items commands (taken + n) now).session (Made w.steps ok.energy ok.halted)) e (
          Goes w.state,
          subst (λ (xs : List Command). Next v.state xs (v.steps + 1) (Goes w.state)) next_here stepped.goes,
          (session_is now f, λ i. Made (stepped.counted i) (stepped.energy i) (halted_is ok.halted w.state.bots stepped.halted i)),
        )

      -- the step was refused
      module _ (w : Situation) (b : Broken) (began ended : ℕ) (refusal : IsNotMade v w next (fault.Broken b) began ended) where
        point_stays : point_of w taken ≡ point_of v taken
        point_stays = ap (λ (x : Situation). point_of x taken) refusal.broken

        breaks : Next v.state (next_commands commands (point_of v taken)) (v.steps + 1) (Breaks b)
        breaks = subst (λ (xs : List Command). Next v.state xs (v.steps + 1) (Breaks b)) next_here refusal.stepped.breaks.1

        -- the touches of its judgement, and of its undo
        pub refused_within : IsRefusedWithin 100 d.commands d.session.point b began ended
        refused_within = subst (λ (x : Debugging). IsRefusedWithin 100 x.commands x.session.point b began ended) e (record {
          judged = refusal.judged;
          within = subst (λ (xs : List Command). IsWithinWork v.state xs (v.steps + 1) (began + searched_for b.rule v.state.matrix) refusal.judged) next_here refusal.stepped.touches_broken;
          back = subst (λ (xs : List Command). IsTakenBackAfter b.rule v.state xs refusal.judged ended) next_here refusal.back;
        })

        -- the session, with these groups begun
        session_with : (now : List ℕ) → (debugging_of w notes.items commands taken now).session
            ≡ record (debugging_of v notes.items commands taken begun).session { begun = now }
        session_with now = λ i. record { point = point_stays i; past = points_of (point_stays i) notes.items; begun = now }

        -- by a rule that is judged at its start
        pub session_refused : (b.rule ≡ Ungrounded → ⊥)
            → TriesStep d.commands d.session (debugging_of w notes.items commands taken begun).session (Refused b)
        session_refused other = subst (λ (x : Debugging). TriesStep x.commands x.session (debugging_of w notes.items commands taken begun).session (Refused b)) e (
          Breaks b,
          breaks,
          (session_with begun ∙ sym (refused_other b.rule (debugging_of v notes.items commands taken begun).session other), refl),
        )

        -- by the rule of grounding, which drops the begun groups
        module _ (now : List ℕ) (none : now ≡ []) where
          begins_dropped : (xs : List ℕ) → xs ≡ [] → (standing : List Bot) → standing ≡ w.state.bots
              → Begin commands (point_of w taken) xs left standing
          begins_dropped [] f standing g = g
          begins_dropped (x ∷ xs) f standing g = cc

          pub kept_dropped : (standing : List Bot) → standing ≡ w.state.bots → IsReady w.state
              → IsKept w notes commands taken now left standing
          kept_dropped standing g ready = record {
            few = kept.few;
            capacity = kept.capacity;
            fit = λ _. record {
              well_formed = subst (λ (q : SessionPoint). IsWellFormed q.state) (sym point_stays) here.well_formed;
              counted = subst (λ (q : SessionPoint). q.steps ≤ q.taken) (sym point_stays) here.counted;
              taken = here.taken;
              notes_lead = subst (λ (q : SessionPoint). LeadTo q notes.items) (sym point_stays) here.notes_lead;
              begin = begins_dropped now none standing g;
              within = subst (λ (bs : List Bot). All (λ b. IsInSpace w.state.matrix.resolution b.pos) bs) (sym g) ready.within;
            };
          }

          pub session_ungrounded : b.rule ≡ Ungrounded
              → TriesStep d.commands d.session (debugging_of w notes.items commands taken now).session (Refused b)
          session_ungrounded rule = subst (λ (x : Debugging). TriesStep x.commands x.session (debugging_of w notes.items commands taken now).session (Refused b)) e (
            Breaks b,
            breaks,
            (session_with now ∙ ((λ i. record (debugging_of v notes.items commands taken begun).session { begun = none i }) ∙ sym (refused_last b.rule (debugging_of v notes.items commands taken begun).session rule)), refl),
          )
