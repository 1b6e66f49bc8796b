-- `of`: `into_raw_with_allocator` takes the box apart, and the parts own the same.
use Rattle.std.proofs.Common.{◌≡◌, List, [], ◌∷◌, ◌++◌, refl, sym, ap, ◌∙◌, subst}
use mir.MapTy.{inst_fn}
use mir.Raw.{raw as bare}
use mir.Syntax.{Fn, Args, a_type, dcons, dnil}
use mir.Val.{Val, vstruct, of_list}
use base.Logic.{SProp, ent, id⊢, never, fst∗}
use base.Fml.{ftrue, fsep, flft}
use prog.Wp.{WpFn}
use contract.BorrowLft.{◌⊑◌}
use contract.Monad.{fact}
use contract.Running.{tables}
use types.Logic.{sem}
use types.Kit.{Item, ‵, raw, ◌⊛◌, some, later, ◌$◌, ◌∵◌, !, qed, move, drop, use1, join, split, split3, pick, rewrite, fsplit, fjoin, fpick, feq_l, suffices, await, done}
use types.Part.{whole, sub, agg}
use types.Run.{stop, fld, no_more, and_then, of_opd, returns, enter}
use types.ByLocal.{alloc_all, pass_all, free_all, look_at, get, get_in, sets, lands_as}
use denote.Builtin.{RawPtr}
use denote.Exit.{no}
use denote.Param.{bounded}
use denote.RattleType.{RattleType}
use denote.RawPtr.{Ptr, block_ptr, null_ptr, ptr_val, in_a_block}
use denote.Signature.{plain}
use denote.Steps.{heard, nothing, only}
use denote.Struct.Tuple.{Tuple}
use denote.Triple.Call.{calls_at}
use denote.Triple.Clauses.{Ended}
use denote.Triple.Spec.{triple_of}
use denote.Triple.Walked.{says, Stays, stay_dropped, walk_of, ends_at}
use Rattle.core.proofs.alloc.Calls.{token, handle_tells, Goes-blank}
use Rattle.core.proofs.atomic.Steps.{fm}
use Rattle.std_alloc.specs.Box.Ownership.{box_owns}
use Rattle.std_alloc.proofs.BoxSteps.Form.{Bx, D, τ, R, P, B, word, box_typed}
use Rattle.std_alloc.proofs.BoxSteps.Steps.{box_out, box_in}
use Rattle.std.proofs.raw_atomic.Walks.{proved_at}
use Rattle.std_alloc.specs.contracts.boxed.Box.into_raw_with_allocator as callee
use Rattle.std_alloc.proofs.boxed.Box.into_raw_with_allocator.Met.{met}
use Rattle.machine_c.specs.contracts.parts.Parts as parts
use Rattle.machine_c.specs.contracts.parts.Parts.of.{ended, clauses}
use Rattle.machine_c.specs.contracts.parts.Parts.of.Key.{name as #self}
use Rattle.machine_c.proofs.parts.Parts.of.Statement.{statement}
use Rattle.machine_c.proofs.parts.Parts.of.Code as code

pub of_spec : {M : Type 1} → statement M
of_spec 𝓤 𝓛 𝓜 𝓡 wired X Z LX LZ g d dd dx allocator glue glued =
    let the_box : Bx = record { row = X; laws = LX; al = record { row = Z; laws = LZ; g = g; d = d; drops = dd } } in
    let H = 𝓛.H in let all_tables = tables 𝓤 H 𝓜 𝓡 𝓡.env in
    let end_of_walk : Ended = ended X Z g d dd dx in let the_clauses = clauses X Z g d dd dx 𝓛 𝓜.mem 𝓡.returns in
    let To : RattleType = parts.the_row (R the_box) (P the_box) g in
    let stays : Stays end_of_walk.signature.params end_of_walk.kept = (stay_dropped (plain (λ _. B the_box)) no, tt) in
    let passed : Args = bounded (a_type ∷ a_type ∷ []) (X, (Z, tt)) (dcons d (dcons dd (dcons dx dnil))) in
    let fn : Fn = inst_fn passed code.function in
    let triple_of_here = triple_of 𝓛 (callee.signature X Z g d dd dx) (callee.spec X Z g d dd dx 𝓛 𝓜.mem 𝓡.returns) in
    proved_at 𝓛 end_of_walk stays the_clauses 𝓜 𝓡 (Goes-blank 𝓛 2 (plain (λ _. B the_box)) no (λ κs x f. tt), tt) (#self passed) fn (code.unfolded 𝓤 H 𝓜 𝓡 wired (X, (Z, tt)) d dd dx) (λ z are.
    let κs = z.0.0 in let qs = z.0.1 in let argument = z.0.3.0 in let its_alloc = argument.alloc in
    let Post : Val → SProp 𝓤 = (walk_of 𝓛 end_of_walk stays the_clauses).post z in let Run : List Val → SProp 𝓤 = λ ws. WpFn 𝓤 H all_tables.C all_tables.Λ fn ws Post in
    let toks : Item 𝓤 = ‵ (flft κs.0 qs.0) ⊛ ‵ (flft κs.1.0 qs.1.0) ⊛ ‵ ftrue in
    let lives : Item 𝓤 = raw (fact 𝓤 (κs.0 ⊑ X.lives)) ⊛ raw (fact 𝓤 (κs.1.0 ⊑ Z.lives)) ⊛ ‵ ftrue in
    qed 𝓛 ((toks ⊛ ‵ (fsep ((B the_box).own_val argument z.0.4.0) ftrue)) ∷ lives ∷ []) ∵ split ! $ move ! (1 ∷ []) $ fsplit ! $
    box_out the_box ! argument z.0.4.0 (λ b o hv at ws fits. box_in the_box ! argument b o argument.value at refl $
    let word_value : Val = word the_box hv b o in
    let ghost : triple_of_here.Ghost = ((κs, qs, tt, (argument, tt), (word_value ∷ [], tt)), tt) in
    fjoin ! $ move ! (1 ∷ 0 ∷ []) $ join ! $ join ! $ use1 𝓛 (raw (triple_of_here.pre ghost)) (id⊢ 𝓤 _) $
    suffices ! (Run (word_value ∷ [])) (subst (λ (us : List Val). ent 𝓤 (Run (word_value ∷ [])) (Run us)) (sym (λ i. ws i ++ [])) (id⊢ 𝓤 (Run (word_value ∷ [])))) $
    enter ! all_tables.C all_tables.Λ fn (word_value ∷ []) Post $ alloc_all ! (λ ls. pass_all ! refl (box_typed the_box hv b o fits, tt) $ sets ! (of_opd ! (get ! refl)) refl (box_typed the_box hv b o fits) $
    calls_at ! (fm 𝓛 𝓜 𝓡) triple_of_here (met 𝓤 𝓛 𝓜 𝓡 (code.calls-std_alloc::boxed::Box::into_raw_with_allocator 𝓡.env wired) X Z LX LZ g d dd dx allocator glue glued) ghost (and_then ! (get ! refl) (no_more !)) (λ u.
    -- the pair of the pointer and the allocator, and the box's ownership
    use1 𝓛 (later (some (λ (r : Ptr × Z.Denot). (toks ⊛ ‵ ((Tuple (RawPtr ∷ P the_box ∷ [])).own_val r (u ∷ []))) ⊛ some (λ (_ : (Unit {0} × (Unit {0} × Unit {0})) × Unit {0}). ‵ (fsep (fsep ftrue (fsep ftrue ftrue)) ftrue) ⊛ (raw (fact 𝓤 (r.1 ≡ its_alloc)) ⊛ ‵ (box_owns (token the_box.al its_alloc) (R the_box) r.0 argument.value)))))) (id⊢ 𝓤 _) $
    await ! tt $ pick ! (λ r. split ! $ move ! (1 ∷ []) $ pick ! (λ _. split3 ! $ drop ! $ heard ! (r.1 ≡ its_alloc) (λ same.
    in_a_block ! r.0 (λ p. box_owns (token the_box.al its_alloc) (R the_box) p argument.value) (fst∗ 𝓤 (never 𝓤) (sem 𝓛 (token the_box.al its_alloc (bare (τ the_box)) null_ptr))) (λ b' o' at'.
    move ! (1 ∷ []) $ split ! $ move ! (1 ∷ []) $ fpick ! (λ vss. fsplit ! $ feq_l ! (λ eu. fsplit ! $ feq_l ! (λ ep. fsplit ! $
    rewrite ! 0 (λ (s : Z.Denot). ‵ (Z.own_val s vss.1.0)) same refl $ handle_tells the_box.al ! its_alloc vss.1.0 (λ hw eh fits'.
    let w' : Val = word the_box hw b' o' in let good = box_typed the_box hw b' o' fits' in
    let as_box : D the_box = record { ptr = block_ptr b' o'; alloc = its_alloc; value = argument.value } in
    let made : To.Denot = record { ptr = block_ptr b' o'; alloc = its_alloc; value = argument.value } in
    lands_as ! (ap only (eu ∙ (λ j. vstruct (of_list ((ep ∙ ap (λ (p : Ptr). ptr_val p ∷ []) at') j ++ (eh j ++ []))) ∷ []))) refl good $
    sets ! (of_opd ! (get_in ! (fld ! refl (stop !)) (sub ! 0 refl (whole !)))) refl (tt, tt) $
    sets ! (of_opd ! (get_in ! (fld ! refl (stop !)) (sub ! 1 refl (whole !)))) refl fits' $
    sets ! (of_opd ! (get ! refl)) refl fits' $ sets ! (agg ! (and_then ! (get ! refl) (and_then ! (get ! refl) (no_more !)))) refl good $
    returns ! (look_at ! 0 refl) $ free_all ! refl $
    move ! (3 ∷ []) $ fsplit ! $ box_in the_box ! as_box b' o' argument.value refl refl $ use1 𝓛 (‵ (To.own_val made (w' ∷ []))) (id⊢ 𝓤 _) $ move ! (1 ∷ []) $ drop ! $
    suffices ! _ (ends_at 𝓛 end_of_walk stays the_clauses z w' made ((tt, (tt, tt)), tt) (tt, tt)) $ says ! refl $
    nothing ! $ nothing ! $ fjoin ! $ join ! $ move ! (1 ∷ 0 ∷ []) $ join ! $ done !))))))))))))
