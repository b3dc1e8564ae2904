-- The note (message) of the debugger that shows words in memory is written word by word, and stops at the first word that cannot be loaded.
use Rattle.std.proofs.Common.{◌≡◌, ◌∙◌, sym, ap, ℕ, suc, ◌+◌, List, ◌++◌, append_assoc}
use Rattle.std.specs.Prelude.{codes, Result, Ok, Err}
use Rattle.mips_isa.specs.Bytes.{Bytes, Segments}
use Rattle.mips_isa.specs.Machine.{wrap}
use Rattle.spim_memory.specs.declared.fault.MemFault.{MemFault}
use Rattle.spim_debug.specs.Notes.{loaded, loaded_text, and_later, words_text}

-- the other words come behind a word
pub word_on : (b : Segments) (m : Bytes) (a n k value : ℕ) (note note' text : List ℕ) → n ≡ suc k → loaded b m a ≡ Ok value
    → note' ≡ note ++ text → text ≡ codes " " ++ loaded_text (Ok value)
    → note' ++ words_text b m (wrap (a + 4)) k ≡ note ++ words_text b m a n
word_on b m a n k value note note' text more is behind says =
    let later : List ℕ = words_text b m (wrap (a + 4)) k in
    ap (λ (t : List ℕ). t ++ later) (behind ∙ ap (λ (t : List ℕ). note ++ t) says)
    ∙ append_assoc note (codes " " ++ loaded_text (Ok value)) later
    ∙ ap (λ (t : List ℕ). note ++ t) (append_assoc (codes " ") (loaded_text (Ok value)) later)
    ∙ ap (λ (r : Result ℕ MemFault). note ++ and_later r later) (sym is)
    ∙ ap (λ (count : ℕ). note ++ words_text b m a count) (sym more)

-- one that may not be loaded is the last
pub word_last : (b : Segments) (m : Bytes) (a n k : ℕ) (fault : MemFault) (note note' text : List ℕ) → n ≡ suc k → loaded b m a ≡ Err fault
    → note' ≡ note ++ text → text ≡ codes " " ++ loaded_text (Err fault) → note' ≡ note ++ words_text b m a n
word_last b m a n k fault note note' text more is behind says =
    behind ∙ ap (λ (t : List ℕ). note ++ t) says
    ∙ ap (λ (r : Result ℕ MemFault). note ++ and_later r (words_text b m (wrap (a + 4)) k)) (sym is)
    ∙ ap (λ (count : ℕ). note ++ words_text b m a count) (sym more)
