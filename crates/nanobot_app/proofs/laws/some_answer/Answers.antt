use Rattle.std.proofs.Common.{inl, refl}
use Rattle.nanobot_rows.specs.Answer.{profile_of}
use Rattle.nanobot_app.proofs.Answered.{asm_answered, check_answered, debug_answered, dis_answered, run_answered}
use Rattle.nanobot_app.proofs.laws.some_answer.Goals as goal

pub returns-clause-no_row : goal.returns-clause-no_row
returns-clause-no_row c = λ words files none. (_, inl (none, refl))

pub returns-clause-check : goal.returns-clause-check
returns-clause-check c = λ model files.
    (check_answered model).some (record { some = c.a_model_is_whole.ensures.some; whole = c.a_model_is_whole.ensures.whole; scripts = c.some_script.ensures; texts = c.some_text.ensures }) tt files

pub returns-clause-run : goal.returns-clause-run
returns-clause-run c = λ round source target trace files has.
    (run_answered (profile_of round) source target trace).some
    (record { some = c.a_model_is_whole.ensures.some; whole = c.a_model_is_whole.ensures.whole; scripts = c.some_script.ensures; texts = c.some_text.ensures }) has files

pub returns-clause-asm : goal.returns-clause-asm
returns-clause-asm c = λ text trace files.
    (asm_answered text trace).some (record { some = c.a_model_is_whole.ensures.some; whole = c.a_model_is_whole.ensures.whole; scripts = c.some_script.ensures; texts = c.some_text.ensures }) tt files

pub returns-clause-dis : goal.returns-clause-dis
returns-clause-dis c = λ trace text files.
    (dis_answered trace text).some (record { some = c.a_model_is_whole.ensures.some; whole = c.a_model_is_whole.ensures.whole; scripts = c.some_script.ensures; texts = c.some_text.ensures }) tt files

pub returns-clause-make : goal.returns-clause-make
returns-clause-make c = λ number resolution model files. (_, refl)

pub returns-clause-debug : goal.returns-clause-debug
returns-clause-debug c = λ source trace script files.
    (debug_answered source trace script).some (record { some = c.a_model_is_whole.ensures.some; whole = c.a_model_is_whole.ensures.whole; scripts = c.some_script.ensures; texts = c.some_text.ensures }) tt files
