-- The last step is undone.
use Rattle.std.proofs.Common.{◌≡◌, ℕ, ◌-◌, ◌≤◌, ◌==◌, refl, sym, ◌∙◌, ap, subst, arith, List, [], ◌∷◌, ◌++◌, Bool, true, false, length, take}
use Rattle.std.specs.Prelude.{All, Some}
use Rattle.std.proofs.lemmas.Bool.Decides.{nat_tests}
use Rattle.circular_buffer.specs.Buffer.{Buffer, last_item}
use Rattle.nano_spec.specs.declared.commands.Command.{Command}
use Rattle.nano_spec.specs.declared.system.Bot.{Bot}
use Rattle.vox_geom.specs.Space.{IsInSpace}
use Rattle.step_machine.specs.Situation.{Situation}
use Rattle.step_machine.specs.Undoing.{IsUndoneBy, MayUndo, state_before}
use Rattle.step_machine.specs.declared.undo.Undo.{Undo}
use Rattle.step_debugger.specs.Session.{GoesBack, IsBack, SessionPoint, DebugReport, Session, is_returned}
use Rattle.step_debugger.specs.Debugging.{Debugging, debugging_of, point_before, point_of, points_of}
use Rattle.step_debugger.specs.Kept.{Begin, Fit, IsKept, LeadTo, LeadsTo}
use Rattle.step_debugger.specs.Touches.{IsTouchedBack}
use Rattle.step_debugger.proofs.Notes.{last_split, lead_less, points_more}
use Rattle.step_debugger.proofs.TouchedBack.{touched_back}

-- if the past has a last point
takes_back : (past earlier : List SessionPoint) (last : SessionPoint) (s t : Session) (report : DebugReport)
    → past ≡ earlier ++ last ∷ [] → IsBack s t report → GoesBack [] past s t report
takes_back (p ∷ past) earlier last s t report e h = h
takes_back [] [] last s t report e h = cc
takes_back [] (p ∷ earlier) last s t report e h = cc

-- nothing is begun if the list reports that it is empty
pub none_begun : (begun : List ℕ) (empty : Bool) → empty ≡ (length begun == 0) → empty ≡ true → begun ≡ []
none_begun [] empty e h = refl
none_begun (x ∷ begun) empty e h = absurd no_zero
  where
    no_zero : ⊥
    no_zero = let some_length : 1 ≤ length (x ∷ begun) = omega arith in let length_is_zero : (length (x ∷ begun) == 0) ≡ true = sym e ∙ h in grind (arith, nat_tests)

module _ (v : Situation) (notes : Buffer Undo) (commands : List Command) (taken : ℕ) (begun left : List ℕ) (bots : List Bot) (d : Debugging)
    (e : debugging_of v notes.items commands taken begun ≡ d) (kept : IsKept v notes commands taken begun left bots) (stands : d.spent ≡ false) where
  pub unspent : v.spent ≡ false
  unspent = ap (λ (x : Debugging). x.spent) e ∙ stands

  pub fit : Fit (point_of v taken) notes.items commands begun left bots
  fit = kept.fit unspent

  module _ (none : begun ≡ []) (undo : Undo) (last : last_item notes.items ≡ Some undo) where
    split : notes.items ≡ take (length notes.items - 1) notes.items ++ undo ∷ []
    split = last_split notes.items undo last

    leads : LeadsTo (point_of v taken) undo
        × LeadTo (point_before (point_of v taken) undo) (take (length notes.items - 1) notes.items)
    leads = lead_less (point_of v taken) (take (length notes.items - 1) notes.items) undo (subst (λ (us : List Undo). LeadTo (point_of v taken) us) split fit.notes_lead)

    pub may_go_back : MayUndo v.state undo
    may_go_back = leads.0.may

    pub fewer_taken : (n : ℕ) → n ≡ length undo.crew → n ≤ taken
    fewer_taken n c = let leads_taken = leads.0.taken in omega (arith, leads_taken)

    module _ (w : Situation) (n : ℕ) (is : w ≡ record { state = state_before v.state undo; steps = undo.steps; spent = false }) (count : n ≡ length undo.crew) (rest : Buffer Undo) (popped : rest ≡ record { items = take (length notes.items - 1) notes.items; capacity = notes.capacity }) where
      point_is : point_before (point_of v taken) undo ≡ point_of w (taken - n)
      point_is = λ i. record { state = sym (ap (λ (x : Situation). x.state) is) i; steps = sym (ap (λ (x : Situation). x.steps) is) i; taken = taken - sym count i }

      begins : (b : List ℕ) → b ≡ [] → (now : List Bot) → now ≡ (point_before (point_of v taken) undo).state.bots
          → Begin commands (point_before (point_of v taken) undo) b left now
      begins [] f now g = g
      begins (x ∷ b) f now g = cc

      pub kept_back : (now : List Bot) → now ≡ w.state.bots → IsKept w rest commands (taken - n) begun left now
      kept_back now g = record {
        few = kept.few;
        capacity = ap (λ (b : Buffer Undo). b.capacity) popped ∙ kept.capacity;
        fit = λ _. subst (λ (q : SessionPoint). Fit q rest.items commands begun left now) point_is (subst (λ (us : List Undo). Fit (point_before (point_of v taken) undo) us commands begun left now) (sym (ap (λ (b : Buffer Undo). b.items) popped)) (record {
          well_formed = leads.0.may.before.well_formed;
          counted = let leads_taken = leads.0.taken in omega (arith, leads_taken);
          taken = let fit_taken = fit.taken in omega (arith, fit_taken);
          notes_lead = leads.1;
          begin = begins begun none now (g ∙ ap (λ (x : Situation). x.state.bots) is);
          within = subst (λ (bs : List Bot). All (λ b. IsInSpace v.state.matrix.resolution b.pos) bs) (sym (g ∙ ap (λ (x : Situation). x.state.bots) is)) leads.0.may.before.within;
        }));
      }

      past_is : points_of (point_of v taken) notes.items
          ≡ points_of (point_of w (taken - n)) rest.items ++ point_of w (taken - n) ∷ []
      past_is =
          ap (points_of (point_of v taken)) split
          ∙ (points_more (point_of v taken) (take (length notes.items - 1) notes.items) undo
          ∙ ((λ i. points_of (point_is i) (take (length notes.items - 1) notes.items) ++ point_is i ∷ [])
          ∙ ap (λ (us : List Undo). points_of (point_of w (taken - n)) us ++ point_of w (taken - n) ∷ []) (sym (ap (λ (b : Buffer Undo). b.items) popped))))

      goes_back : (b : List ℕ) → b ≡ [] → GoesBack b (debugging_of v notes.items commands taken b).session.past
          (debugging_of v notes.items commands taken b).session
          (debugging_of w rest.items commands (taken - n) b).session (is_returned (point_of w (taken - n)))
      goes_back (x ∷ b) f = cc
      goes_back [] f =
          takes_back (points_of (point_of v taken) notes.items) (points_of (point_of w (taken - n)) rest.items) (point_of w (taken - n)) _ _ _ past_is
          (record { earlier = points_of (point_of w (taken - n)) rest.items; last = point_of w (taken - n); past = past_is; session = refl; report_is = refl })

      pub session_back :
          GoesBack d.session.begun d.session.past d.session (debugging_of w rest.items commands (taken - n) begun).session (is_returned (point_of w (taken - n)))
      session_back = subst (λ (x : Debugging). GoesBack x.session.begun x.session.past x.session (debugging_of w rest.items commands (taken - n) begun).session (is_returned (point_of w (taken - n)))) e (goes_back begun none)

      pub touches_back : (began ended : ℕ) → IsUndoneBy v.state.matrix undo.filled.items undo.voided.items began ended
          → IsTouchedBack d.session.point.state.matrix w.state.matrix began ended
      touches_back began ended paid =
          subst (λ (x : Debugging). IsTouchedBack x.session.point.state.matrix w.state.matrix began ended) e
          (subst (λ (x : Situation). IsTouchedBack v.state.matrix x.state.matrix began ended) (sym is) (touched_back v.state.matrix undo leads.0.may.voxels began ended paid))
