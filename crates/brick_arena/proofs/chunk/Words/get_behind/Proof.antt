-- `get_behind` reads a word through a `&`, by two steps from the first. Assumes `Logic`.
use Rattle.std.proofs.Common.{◌≡◌, ℕ, ◌+◌, ◌*◌, ◌^◌, ◌<◌, List, [], ◌∷◌, refl, arith, w32, w64, Option, Some, None, length, get_or}
use Rattle.std.proofs.raw_atomic.Walks.{proved}
use Rattle.std.proofs.VecSteps.Shapes.{after}
use base.Logic.{id⊢}
use base.Fml.{ftrue, flft}
use mir.Syntax.{named}
use mir.Val.{Val, vint}
use contract.Monad.{fact}
use contract.Running.{tables}
use types.Kit.{‵, raw, ◌⊛◌, at_ret, ◌$◌, ◌∵◌, !, qed, move, keep, drop, use1, split, join, fsplit, fjoin, feq_i, flt_i, rewrite, suffices, frame, done}
use types.Run.{enter, look, of_opd, lit, bin, load, stop, fld, first, blocks, exec, returns}
use types.ByLocal.{alloc_all, pass_all, free_all, look_at, get, through, sets, sets_last, env}
use denote.Builtin.{usize, RefOf}
use denote.Exit.{yes}
use denote.Opens.{hide, unhide}
use denote.Plain.{uint_vals, uint_Tells}
use denote.RattleType.{owns}
use denote.RawPtr.{in_a_block}
use denote.Ref.{ShrRef, shr_vals, shr_Tells}
use denote.Signature.{plain}
use denote.Steps.{nothing, heard}
use denote.Triple.Walked.{Stays, walk_of, says, stay_dropped, Goes-dropped, ends_at}
use Rattle.core.proofs.slots.Lent.{pointer_in, pointer_out}
use Rattle.brick_arena.specs.Ownership.{place_lent, words_lent, IsFilled}
use Rattle.brick_arena.proofs.Places.{some_within, place_seen}
use Rattle.brick_arena.proofs.Looked.{u32_in, u32_out}
use Rattle.brick_arena.specs.contracts.chunk.Words.get_behind as f
use Rattle.brick_arena.proofs.chunk.Words.get_behind.Statement.{statement}
use Rattle.brick_arena.proofs.chunk.Words.get_behind.Code as code
use Rattle.brick_arena.specs.contracts.chunk.Words.{the_row as R}

abbrev stayed : Stays f.ended.signature.params f.ended.kept
stayed = (stay_dropped (RefOf (0 ∷ []) tt (plain (λ _. R)) (λ _. tt)) yes, (stay_dropped (plain (λ _. usize)) yes, (stay_dropped (plain (λ _. usize)) yes, tt)))

pub get_behind_spec : {M : Type 1} → statement M
get_behind_spec 𝓤 𝓛 𝓜 𝓡 wired =
    let contract_here = f.clauses 𝓛 𝓜.mem 𝓡.returns in let walk = walk_of 𝓛 f.ended stayed contract_here in let all_tables = tables 𝓤 𝓛.H 𝓜 𝓡 𝓡.env in
    proved 𝓛 f.ended stayed contract_here 𝓜 𝓡 (Goes-dropped 𝓛 1 (RefOf (0 ∷ []) tt (plain (λ _. R)) (λ _. tt)) yes (λ κs x w. refl), (Goes-dropped 𝓛 1 (plain (λ _. usize)) yes (λ κs x w. refl), (Goes-dropped 𝓛 1 (plain (λ _. usize)) yes (λ κs x w. refl), tt)))
    f.Key.name code.function (code.unfolded 𝓤 𝓛.H 𝓜 𝓡 wired)
    (λ κs. (shr_vals, (uint_vals w64, (uint_vals w64, tt)))) (λ κs. (shr_Tells (named 0) κs.0 R, (uint_Tells w64, (uint_Tells w64, tt)))) (λ κs qs bounds a g are.
    let block = a.0.ref_ptr.0 in let offset = a.0.ref_ptr.1 in let held = a.0.now in let i : ℕ = a.1.0 in let k : ℕ = a.1.1.0 in let lifetime = κs.0 in
    let fi : i < 2 ^ 64 = are.1.0.1 in let fk : k < 2 ^ 64 = are.1.1.0.1 in
    let ghost : walk.Ghost = ((κs, qs, bounds, a, (shr_vals a.0, (uint_vals w64 i, (uint_vals w64 k, tt)))), tt) in
    qed 𝓛 (((‵ (flft lifetime qs.0) ⊛ ‵ ftrue) ⊛ ‵ (owns (ShrRef (named 0) lifetime R ∷ usize ∷ usize ∷ []) a ghost.0.4)) ∷ raw (fact 𝓤 (IsFilled held.words (i + k))) ∷ []) ∵
    move ! (1 ∷ []) $ heard ! (IsFilled held.words (i + k)) (λ filled.
    let w : ℕ = filled.0 in let lt : i + k < length held.words = some_within held.words (i + k) w filled.1 in let li : i + k < 32768 = omega (arith, held.count) in
    let far : i * 4 < 2 ^ 64 = omega arith in let farther : k * 4 < 2 ^ 64 = omega arith in
    split ! $ split ! $ move ! (2 ∷ []) $ fsplit ! $ fsplit ! $ drop ! $ unhide ! $ fsplit ! $ fsplit ! $ fsplit ! $ keep ! (0 ∷ 3 ∷ 5 ∷ []) $ hide ! $ move ! (1 ∷ []) $
    in_a_block ! held.at (λ p. words_lent p held.words lifetime) (id⊢ 𝓤 _) (λ b' o' e.
    let at : ℕ = k * 4 + (i * 4 + o') in let same : (i + k) * 4 + o' ≡ at = omega arith in
    use1 𝓛 (‵ (place_lent b' ((i + k) * 4 + o') (get_or held.words (i + k) None) lifetime)) (place_seen 𝓛 b' lifetime o' held.words (i + k) lt) $
    rewrite ! 0 (λ (c : Option ℕ). ‵ (place_lent b' ((i + k) * 4 + o') c lifetime)) filled.1 refl $
    rewrite ! 0 (λ (n : ℕ). ‵ (place_lent b' n (Some w) lifetime)) same refl $ hide ! $ move ! (1 ∷ 2 ∷ []) $
    -- [a `&` to the pointer; the token; a `&` to the word]
    enter ! _ _ _ _ _ $ alloc_all ! (λ l. pass_all ! refl ((tt, tt), ((tt, record { fits = fi }), ((tt, record { fits = fk }), tt))) $
    first ! $ blocks ! $ pointer_in ! tt held.at b' o' e block (offset + 0) (λ q'.
    sets ! (of_opd ! (load ! (through ! refl (fld ! refl (stop !))) (look ! 0 refl))) refl (tt, tt) $
    pointer_out ! tt held.at b' o' e block (offset + 0) $
    sets ! (bin ! (get ! refl) (lit ! tt) (record { fits = far })) refl (tt, record { fits = far }) $
    sets ! (bin ! (get ! refl) (get ! refl) tt) refl (tt, tt) $
    sets ! (bin ! (get ! refl) (lit ! tt) (record { fits = farther })) refl (tt, record { fits = farther }) $
    sets ! (bin ! (get ! refl) (get ! refl) tt) refl (tt, tt) $
    move ! (1 ∷ 0 ∷ []) $ u32_in ! tt w b' at (λ q'' fw.
    sets_last ! (of_opd ! (load ! (through ! refl (stop !)) (look ! 0 refl))) refl (tt, record { fits = fw }) $
    exec ! all_tables.C all_tables.Λ (env code.Mir.locals l) (after 1 (code.function).body) (at_ret _ (walk.post ghost)) $
    u32_out ! tt w b' at fw $
    sets ! (of_opd ! (get ! refl)) refl (tt, record { fits = fw }) $
    returns ! (look_at ! 0 refl) $ free_all ! refl $ keep ! (0 ∷ []) $
    flt_i ! w (2 ^ 32) fw $ feq_i ! (List Val) (vint w32 w ∷ []) (vint w32 w ∷ []) refl $ fjoin ! $ move ! (1 ∷ 0 ∷ []) $
    suffices ! _ (ends_at 𝓛 f.ended stayed contract_here ghost (vint w32 w) w (tt, (tt, (tt, tt))) (tt, (tt, (tt, tt)))) $ says ! filled.1 $
    nothing ! $ move ! (1 ∷ 0 ∷ []) $ join ! $ frame ! $ nothing ! $ nothing ! $ fjoin ! $ nothing ! $ fjoin ! $ nothing ! $ fjoin ! $ done !))))))
