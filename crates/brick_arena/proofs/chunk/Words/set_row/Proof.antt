-- `set_row` writes a word over the content of eight offsets. Assumes `Logic`.
use Rattle.std.proofs.Common.{ℕ, ◌+◌, ◌*◌, ◌^◌, ◌<◌, ◌≤◌, List, [], ◌∷◌, refl, sym, ap, ◌∙◌, arith, w32, w64, length}
use Rattle.std.proofs.raw_atomic.Walks.{proved}
use Rattle.std.proofs.VecSteps.Shapes.{after}
use base.Fraction.{full_share}
use base.Logic.{id⊢}
use base.Fml.{ftrue, flft, froom}
use mir.Syntax.{ty_int, ty_array, named}
use mir.Val.{Val, vunit, vptr}
use contract.Monad.{fact}
use contract.Running.{tables}
use types.Kit.{‵, raw, ◌⊛◌, at_ret, ◌$◌, ◌∵◌, !, qed, move, keep, use1, use2, split, join, fsplit, fsplit3, fjoin, fjoin3, feq_i, rewrite, suffices, frame, done}
use types.Part.{whole, sub, look_in, rep}
use types.Run.{enter, of_opd, lit, unit_lit, bin, load, init, stop, fld, assigns_last, first, blocks, exec, returns}
use types.ByLocal.{alloc_all, pass_all, free_all, look_at, get, through, sets, env}
use denote.Builtin.{u32, usize}
use denote.Exit.{yes}
use denote.Laws.{shows}
use denote.Memory.{cell_at}
use denote.Plain.{uint_vals, uint_Tells}
use denote.RattleType.{owns}
use denote.RawPtr.{Ptr, in_a_block}
use denote.Ref.{MutRef, mut_vals, mut_Tells}
use denote.Signature.{plain}
use denote.Steps.{nothing, opens, closes, peeks, heard}
use denote.Triple.Walked.{Stays, walk_of, says, stay_ref, stay_dropped, Goes-ref, Goes-dropped, ends_at}
use Rattle.brick_arena.specs.Ownership.{word_places, words_own}
use Rattle.brick_arena.proofs.Lines.{typed_line, lined, length-lined, Around, line_out, line_in, lined-range}
use Rattle.brick_arena.specs.contracts.chunk.Words.set_row as f
use Rattle.brick_arena.proofs.chunk.Words.set_row.Statement.{statement}
use Rattle.brick_arena.proofs.chunk.Words.set_row.Code as code
use Rattle.brick_arena.specs.contracts.chunk.Words.{the_row as R}
use Rattle.brick_arena.proofs.chunk.Words.TheLaws.{lowers}

abbrev stayed : Stays f.ended.signature.params f.ended.kept
stayed = (stay_ref (0 ∷ []) tt (plain (λ _. R)), (stay_dropped (plain (λ _. usize)) yes, (stay_dropped (plain (λ _. u32)) yes, tt)))

pub set_row_spec : {M : Type 1} → statement M
set_row_spec 𝓤 𝓛 𝓜 𝓡 wired =
    let contract_here = f.clauses 𝓛 𝓜.mem 𝓡.returns in let walk = walk_of 𝓛 f.ended stayed contract_here in let all_tables = tables 𝓤 𝓛.H 𝓜 𝓡 𝓡.env in
    proved 𝓛 f.ended stayed contract_here 𝓜 𝓡 (Goes-ref 𝓛 1 0 tt (plain (λ _. R)), (Goes-dropped 𝓛 1 (plain (λ _. usize)) yes (λ κs x w. refl), (Goes-dropped 𝓛 1 (plain (λ _. u32)) yes (λ κs x w. refl), tt)))
    f.Key.name code.function (code.unfolded 𝓤 𝓛.H 𝓜 𝓡 wired)
    (λ κs. (mut_vals, (uint_vals w64, (uint_vals w32, tt)))) (λ κs. (mut_Tells (named 0) κs.0 R, (uint_Tells w64, (uint_Tells w32, tt)))) (λ κs qs bounds a g are.
    let block = a.0.ref_ptr.0 in let offset = a.0.ref_ptr.1 in let held = a.0.now in let i : ℕ = a.1.0 in let w : ℕ = a.1.1.0 in
    let fi : i < 2 ^ 64 = are.1.0.1 in let fw : w < 2 ^ 32 = are.1.1.0.1 in let typed = typed_line 8 w fw in
    let ghost : walk.Ghost = ((κs, qs, bounds, a, (mut_vals a.0, (uint_vals w64 i, (uint_vals w32 w, tt)))), tt) in
    qed 𝓛 (((‵ (flft κs.0 qs.0) ⊛ ‵ ftrue) ⊛ ‵ (owns (MutRef (named 0) κs.0 R ∷ usize ∷ u32 ∷ []) a ghost.0.4)) ∷ raw (fact 𝓤 (i + 8 ≤ 32768)) ∷ []) ∵
    move ! (1 ∷ []) $ heard ! (i + 8 ≤ 32768) (λ li.
    let lt : i + 8 ≤ length held.words = omega (arith, held.count) in let far : i * 4 < 2 ^ 64 = omega arith in
    let new = record held { words = lined 8 w held.words i; count = length-lined 8 w held.words i lt ∙ held.count } in
    split ! $ split ! $ move ! (2 ∷ []) $ fsplit ! $ keep ! (0 ∷ 2 ∷ []) $
    enter ! _ _ _ _ _ $ alloc_all ! (λ l. pass_all ! refl ((tt, tt), ((tt, record { fits = fi }), ((tt, record { fits = fw }), tt))) $
    fsplit3 ! $ move ! (1 ∷ 2 ∷ 3 ∷ []) $ opens ! tt R block offset (λ us.
    move ! (1 ∷ []) $ peeks ! R _ (shows 𝓛 R) held us (λ is. fsplit ! $ move ! (1 ∷ []) $
    in_a_block ! held.at (λ p. words_own p held.words) (id⊢ 𝓤 _) (λ b' o' e.
    let word = lowers.val_is held us is ∙ ap (λ (p : Ptr). lowers.lowered (record held { at = p }) ∷ []) e in
    let Cell = λ (ws : List Val). ‵ (cell_at full_share R.mir ws block offset) in
    rewrite ! 2 Cell word refl $
    use1 𝓛 (‵ (froom (ty_array (ty_int w32) 8) b' (i * 4 + o')) ⊛ ‵ (Around 𝓛 b' 8 o' held.words i)) (line_out 𝓛 b' 8 o' held.words i lt) $ split ! $
    -- [the room; the other offsets; what the fields own; the struct's cell; the open borrow, in three entries]
    first ! $ blocks ! $
    sets ! (of_opd ! (load ! (through ! refl (fld ! refl (stop !))) (look_in ! 3 (sub ! 0 refl (whole !))))) refl (tt, tt) $
    sets ! (bin ! (get ! refl) (lit ! tt) (record { fits = far })) refl (tt, record { fits = far }) $
    sets ! (bin ! (get ! refl) (get ! refl) tt) refl (tt, tt) $
    sets ! (of_opd ! (get ! refl)) refl (tt, tt) $
    sets ! (rep ! 8 (get ! refl)) refl typed $
    assigns_last ! (of_opd ! (get ! refl)) (through ! refl (stop !)) (init ! 0 refl typed) $
    exec ! all_tables.C all_tables.Λ (env code.Mir.locals l) (after 1 (code.function).body) (at_ret _ (walk.post ghost)) $
    sets ! (of_opd ! (unit_lit !)) refl (tt, tt) $
    use2 𝓛 (‵ (word_places b' o' new.words)) (line_in 𝓛 b' 8 o' held.words i w lt) $
    rewrite ! 0 (λ (p : Ptr). ‵ (words_own p new.words)) (sym e) refl $ rewrite ! 2 Cell (sym word) refl $
    move ! (1 ∷ []) $ fjoin ! $ move ! (1 ∷ []) $ closes ! tt R new us block offset $
    returns ! (look_at ! 0 refl) $ free_all ! refl $ keep ! (0 ∷ 1 ∷ 2 ∷ []) $ feq_i ! (List Val) (vunit ∷ []) (vunit ∷ []) refl $ move ! (1 ∷ 2 ∷ 3 ∷ 0 ∷ []) $
    suffices ! _ (ends_at 𝓛 f.ended stayed contract_here ghost vunit tt (new, (tt, (tt, tt))) (tt, (tt, (tt, tt)))) $ says ! (lined-range 8 w held.words i lt, refl) $
    nothing ! $ move ! (3 ∷ 0 ∷ []) $ join ! $ frame ! $ feq_i ! (List Val) (vptr block offset ∷ []) (vptr block offset ∷ []) refl $ fjoin3 ! $
    nothing ! $ nothing ! $ fjoin ! $ nothing ! $ fjoin ! $ move ! (1 ∷ 0 ∷ []) $ fjoin ! $ done !))))))
