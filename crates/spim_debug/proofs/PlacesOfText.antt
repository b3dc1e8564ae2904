-- If labels name only machine words of the text segment, each label or address that a debugger script may use has the address of a word there.
use Rattle.std.proofs.Common.{◌≡◌, refl, arith, ℕ, ◌+◌, ◌-◌, ◌*◌, ◌/◌, ◌<◌, Bool, true, false, List, length}
use Rattle.std.specs.Prelude.{if◌then◌else◌, Option, Some, None, IfSome}
use Rattle.std.proofs.lemmas.Bool.Decides.{nat_tests}
use Rattle.mips_isa.specs.declared.address_map.TheConstants.{TEXT_START}
use Rattle.mips_text.specs.Names.{is_name}
use Rattle.spim_debug.specs.Debugging.{IsTextAddress}
use Rattle.mips_asm.specs.TextLabels.{has_word}
use Rattle.spim_debug.specs.Scripts.{address_in, word_at, place_in}
use Rattle.spim_debug.proofs.CommandsForText.{NamesWords}

-- an address that passes the test for a word is the address of one
has_its_word : (text : List ℕ) (a : ℕ) → has_word (TEXT_START + 4 * length text) a ≡ true → IsTextAddress text a
has_its_word text a e =
    let within : (a - TEXT_START) / 4 < length text = grind (arith, nat_tests) in
    let address : a ≡ TEXT_START + 4 * ((a - TEXT_START) / 4) = grind (arith, nat_tests) in
    record { index = (a - TEXT_START) / 4; within = within; address = address }

word_there : (text : List ℕ) (o : Option ℕ) → IfSome (word_at (TEXT_START + 4 * length text) o) (IsTextAddress text)
word_there text None = tt
word_there text (Some a) = by (has_word (TEXT_START + 4 * length text) a) refl
  where
    by : (b : Bool) → has_word (TEXT_START + 4 * length text) a ≡ b → IfSome (if b then Some a else None) (IsTextAddress text)
    by false e = tt
    by true e = has_its_word text a e

pub places_name_words : (text : List ℕ) (label : List ℕ → Option ℕ) → NamesWords text label → NamesWords text (place_in (TEXT_START + 4 * length text) label)
places_name_words text label h word = by (is_name word)
  where
    by : (b : Bool) → IfSome (if b then label word else word_at (TEXT_START + 4 * length text) (address_in word)) (IsTextAddress text)
    by true = h word
    by false = word_there text (address_in word)
