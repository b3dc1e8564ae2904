use Rattle.std.proofs.Common.{◌∙◌, sym, ap, ℕ, ◌+◌, ◌-◌, ◌++◌, arith}
use Rattle.std.specs.Prelude.{codes, Result}
use Rattle.spim_memory.specs.Memory.{segments, bytes_of}
use Rattle.spim_memory.specs.declared.fault.MemFault.{MemFault}
use Rattle.spim_debug.specs.Notes.{loaded_text}
use Rattle.spim_debug.proofs.WordsInMemory.{word_on, word_last}
use Rattle.spim_debug.proofs.notes.push_words.Goals as goal

-- the last word is none
pub returns-in-Err : goal.returns-in-Err
returns-in-Err c =
    let l = c.loop-done in
    let says = c.as_bytes.ensures.value ∙ c.as_str.ensures.value ∙ c.loaded_note.ensures ∙ ap (λ (r : Result ℕ MemFault). codes " " ++ loaded_text r) c.in-Err.is in
    word_last (segments c.args.memory.now) (bytes_of c.args.memory.now) l.at (c.args.count - l._done) (c.args.count - (l._done + 1)) c.in-Err.field-0 _ _ _
    (omega (arith, c.loop-done-test.true)) (sym c.load_word-loaded.ensures ∙ c.in-Err.is) c.in_ok-extend_from_slice.ensures.items says ∙ l.invariant

-- one more word
pub loop-done-preserved : goal.loop-done-preserved
loop-done-preserved c =
    let l = c.loop-done in
    let says = c.as_bytes.ensures.value ∙ c.as_str.ensures.value ∙ c.loaded_note.ensures ∙ ap (λ (r : Result ℕ MemFault). codes " " ++ loaded_text r) c.in-Ok.is in
    word_on (segments c.args.memory.now) (bytes_of c.args.memory.now) l.at (c.args.count - l._done) (c.args.count - (l._done + 1)) c.in-Ok.field-0 _ _ _
    (omega (arith, c.loop-done-test.true)) (sym c.load_word-loaded.ensures ∙ c.in-Ok.is) c.in_ok-extend_from_slice.ensures.items says ∙ l.invariant
