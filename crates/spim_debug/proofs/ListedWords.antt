-- The debugger's command that lists instructions takes the machine words of the text segment from an address on, and writes one note (message) for each of
-- them.
use Rattle.std.proofs.Common.{◌≡◌, ◌∙◌, sym, ap, ℕ, ◌+◌, ◌-◌, ◌/◌, ◌<◌, ◌≤◌, List, ◌∷◌, length, take, drop, get_or, arith}
use Rattle.std.specs.Prelude.{min}
use Rattle.std.proofs.lemmas.List.{at_drop_more, take_min, take_rest, length-drop}
use Rattle.mips_isa.specs.declared.address_map.TheConstants.{TEXT_START, MOST_TEXT_WORDS}
use Rattle.spim_cpu.specs.Advancing.{word_index}
use Rattle.spim_debug.specs.Notes.{listed, listed_from, words_from}
use Rattle.spim_debug.specs.Debugging.{IsTextAddress}

-- the index of the word at an address of a text
pub index_of : (text : List ℕ) (a : ℕ) → length text ≤ MOST_TEXT_WORDS → IsTextAddress text a → word_index a ≡ (a - TEXT_START) / 4
index_of text a few is = omega (arith, few, is.within, is.address)

-- so many words of a text from an address on, as far as it goes
pub words_are : (text : List ℕ) (a n i count bound : ℕ) → length text ≤ MOST_TEXT_WORDS → IsTextAddress text a → i ≡ word_index a → count ≡ min n bound → bound ≡ length text - i
    → take count (take (length text - i) (drop i text)) ≡ words_from text a n
words_are text a n i count bound few is at same most =
    let all : bound ≡ length (drop i text) = most ∙ sym (length-drop i text) in
    ap (λ (k : ℕ). take k (take (length text - i) (drop i text))) (same ∙ ap (λ (k : ℕ). min n k) all)
    ∙ ap (λ (words : List ℕ). take (min n (length (drop i text))) words) (take_rest text i)
    ∙ take_min n (drop i text) ∙ ap (λ (k : ℕ). take n (drop k text)) (at ∙ index_of text a few is)

-- the note of a word stands before those of the words after it
pub listed_at : (a : ℕ) (words : List ℕ) (i : ℕ) → i < length words → listed_from a (drop i words) ≡ listed a (get_or words i 0) ∷ listed_from (a + 4) (drop (i + 1) words)
listed_at a words i inside = at_drop_more (λ (ws : List ℕ). listed_from a ws) words i 0 inside
