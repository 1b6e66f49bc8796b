-- `into_box` moves the two fields out, and `from_raw` makes a box of them and of their ownership.
use Rattle.std.proofs.Common.{◌≡◌, List, [], ◌∷◌, ◌++◌, refl, sym, ap, subst}
use mir.MapTy.{inst_fn}
use mir.Syntax.{Fn}
use mir.Val.{Val, vptr}
use base.Logic.{SProp, ent, id⊢}
use base.Fml.{ftrue, fsep, flft}
use prog.Wp.{WpFn}
use contract.BorrowLft.{◌⊑◌}
use contract.Monad.{fact}
use contract.Running.{tables}
use types.Kit.{Item, ‵, raw, ◌⊛◌, some, later, at_ret, ◌$◌, ◌∵◌, !, qed, by, move, keep, drop, use1, join, split, split3, pick, rewrite, fsplit, fjoin, feq_i, suffices, await}
use types.Part.{whole, sub}
use types.Run.{stop, fld, no_more, and_then, of_opd, returns, enter, first, blocks, exec}
use types.ByLocal.{alloc_all, pass_all, free_all, look_at, get, get_in, sets, lands_last, env}
use denote.Exit.{no}
use denote.Param.{layout}
use denote.RattleType.{RattleType}
use denote.RawPtr.{block_ptr}
use denote.Signature.{plain}
use denote.Steps.{nothing, only}
use denote.Triple.Call.{calls_at_last}
use denote.Triple.Clauses.{Ended}
use denote.Triple.Spec.{triple_of}
use denote.Triple.Walked.{Stays, stay_dropped, walk_of}
use Rattle.core.proofs.alloc.Calls.{Goes-blank}
use Rattle.core.proofs.alloc.Shapes.{after}
use Rattle.core.proofs.atomic.Steps.{fm}
use Rattle.core.proofs.cell.Inside.{Good}
use Rattle.std_alloc.proofs.BoxSteps.Form.{Bx, D, R, P, B, args, word, box_typed}
use Rattle.std_alloc.proofs.BoxSteps.Steps.{box_out, box_in}
use Rattle.std.proofs.raw_atomic.Walks.{proved_at, leaves}
use Rattle.std_alloc.specs.contracts.boxed.Box.from_raw as callee
use Rattle.std_alloc.proofs.boxed.Box.from_raw.Met.{met}
use Rattle.machine_c.specs.contracts.parts.Parts as parts
use Rattle.machine_c.specs.contracts.parts.Parts.into_box.{ended, clauses}
use Rattle.machine_c.specs.contracts.parts.Parts.into_box.Key.{name as #self}
use Rattle.machine_c.proofs.parts.Parts.into_box.Statement.{statement}
use Rattle.machine_c.proofs.parts.Parts.into_box.Code as code

pub into_box_spec : {M : Type 1} → statement M
into_box_spec 𝓤 𝓛 𝓜 𝓡 wired X Z LX LZ g d dd allocator glue =
    let the_box : Bx = record { row = X; laws = LX; al = record { row = Z; laws = LZ; g = g; d = d; drops = dd } } in
    let H = 𝓛.H in let all_tables = tables 𝓤 H 𝓜 𝓡 𝓡.env in
    let end_of_walk : Ended = ended X Z g d dd in let the_clauses = clauses X Z g d dd 𝓛 𝓜.mem 𝓡.returns in
    let From : RattleType = parts.the_row (R the_box) (P the_box) g in
    let stays : Stays end_of_walk.signature.params end_of_walk.kept = (stay_dropped (plain (λ _. From)) no, tt) in
    let fn : Fn = inst_fn (args the_box) code.function in
    let triple_of_here = triple_of 𝓛 (callee.signature X Z g d dd) (callee.spec X Z g d dd 𝓛 𝓜.mem 𝓡.returns) in
    proved_at 𝓛 end_of_walk stays the_clauses 𝓜 𝓡 (Goes-blank 𝓛 2 (plain (λ _. From)) no (λ κs x f. tt), tt) (#self (args the_box)) fn (code.unfolded 𝓤 H 𝓜 𝓡 wired (X, (Z, tt)) d dd) (λ z are.
    let κs = z.0.0 in let qs = z.0.1 in let its_alloc = z.0.3.0.alloc in let its_value = z.0.3.0.value in
    let Post : Val → SProp 𝓤 = (walk_of 𝓛 end_of_walk stays the_clauses).post z in let Run : List Val → SProp 𝓤 = λ ws. WpFn 𝓤 H all_tables.C all_tables.Λ fn ws Post in
    let of_parts : D the_box = record { ptr = z.0.3.0.ptr; alloc = its_alloc; value = its_value } in
    let toks : Item 𝓤 = ‵ (flft κs.0 qs.0) ⊛ ‵ (flft κs.1.0 qs.1.0) ⊛ ‵ ftrue in
    let in_x : Item 𝓤 = raw (fact 𝓤 (κs.0 ⊑ X.lives)) in let in_a : Item 𝓤 = raw (fact 𝓤 (κs.1.0 ⊑ Z.lives)) in
    -- the parts own the same as a box of them: the value in its block, the token by which the block is freed, and the
    -- allocator
    qed 𝓛 ((toks ⊛ ‵ (fsep ((B the_box).own_val of_parts z.0.4.0) ftrue)) ∷ (in_x ⊛ in_a ⊛ ‵ ftrue) ∷ []) ∵ split ! $ move ! (1 ∷ []) $ fsplit ! $
    box_out the_box ! of_parts z.0.4.0 (λ b o hv at ws fits. fjoin ! $
    let word_value : Val = word the_box hv b o in
    let ghost : triple_of_here.Ghost = ((κs, qs, tt, (its_alloc, (block_ptr b o, tt)), (hv ∷ [], (vptr b o ∷ [], tt))), its_value) in
    suffices ! (Run (word_value ∷ [])) (subst (λ (us : List Val). ent 𝓤 (Run (word_value ∷ [])) (Run us)) (sym (λ i. ws i ++ [])) (id⊢ 𝓤 (Run (word_value ∷ [])))) $
    enter ! all_tables.C all_tables.Λ fn (word_value ∷ []) Post $ alloc_all ! (λ ls. pass_all ! refl (box_typed the_box hv b o fits, tt) $ let Ev = env fn.locals ls in
    sets ! (of_opd ! (get_in ! (fld ! refl (stop !)) (sub ! 0 refl (whole !)))) refl (tt, tt) $
    sets ! (of_opd ! (get_in ! (fld ! refl (stop !)) (sub ! 1 refl (whole !)))) refl fits $
    first ! $ blocks ! $ sets ! (of_opd ! (get ! refl)) refl fits $
    -- the precondition of the call
    move ! (4 ∷ []) $ split3 ! $ move ! (2 ∷ []) $ drop ! $ move ! (1 ∷ 2 ∷ []) $ join ! $ move ! (1 ∷ 0 ∷ []) $ join ! $
    move ! (2 ∷ []) $ feq_i ! (List Val) (vptr b o ∷ []) (vptr b o ∷ []) refl $ fjoin ! $ move ! (2 ∷ 0 ∷ []) $ fjoin ! $ move ! (2 ∷ 0 ∷ []) $ join ! $ join ! $ use1 𝓛 (raw (triple_of_here.pre ghost)) (id⊢ 𝓤 _) $
    calls_at_last ! (fm 𝓛 𝓜 𝓡) triple_of_here (met 𝓤 𝓛 𝓜 𝓡 (code.calls-std_alloc::boxed::Box::from_raw 𝓡.env wired) X Z LX LZ g d dd allocator glue) ghost (and_then ! (get ! refl) (and_then ! (get ! refl) (no_more !))) (λ u.
    -- its box is the result
    use1 𝓛 (later (some (λ (r : D the_box). (toks ⊛ ‵ ((B the_box).own_val r (u ∷ []))) ⊛ some (λ (_ : Unit {0} × (Unit {0} × Unit {0})). ‵ (fsep ftrue (fsep ftrue ftrue)) ⊛ (raw (fact 𝓤 (r.value ≡ its_value)) ⊛ raw (fact 𝓤 (r.alloc ≡ its_alloc))))))) (id⊢ 𝓤 (triple_of_here.post ghost u)) $
    await ! tt $ pick ! (λ r. split ! $ move ! (1 ∷ []) $ pick ! (λ _. split3 ! $ drop ! $ move ! (2 ∷ []) $ split ! $ move ! (1 ∷ []) $
    box_out the_box ! r (u ∷ []) (λ b' o' hw at' us fits'. box_in the_box ! r b' o' r.value at' refl $ rewrite ! 0 (λ (vs : List Val). ‵ ((B the_box).own_val r vs)) (sym us) refl $
    let good : Good (layout (B the_box)) u = subst (Good (layout (B the_box))) (sym (ap only us)) (box_typed the_box hw b' o' fits') in
    lands_last ! refl good $ exec ! all_tables.C all_tables.Λ Ev (after 3 fn.body) (at_ret Ev Post) $ sets ! (of_opd ! (get ! refl)) refl good $ nothing ! $ nothing ! $ fjoin ! $
    returns ! (look_at ! 0 refl) $ free_all ! refl $ keep ! (2 ∷ 0 ∷ 1 ∷ 3 ∷ []) $ by ! (leaves 𝓛 end_of_walk stays the_clauses z u r ((tt, (tt, tt)), tt) (tt, tt)))))))))
