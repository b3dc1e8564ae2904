-- A load of a half word or word returns the number that the machine's memory has at the address, or the reason why the load is refused.
use Rattle.std.proofs.Common.{◌≡◌, ◌∙◌, ap, sym, ℕ, ◌+◌, ◌-◌, ◌*◌, ◌/◌, ◌%◌, ◌^◌, ◌<◌, ◌≤◌, List, length, true, false, None, Some, arith}
use Rattle.std.specs.Prelude.{Result, Ok, Err}
use Rattle.spim_memory.specs.declared.fault.MemFault.{MemFault}
use Rattle.mips_isa.specs.declared.address_map.TheConstants.{TEXT_START, DATA_START, HEAP_START, STACK_END}
use Rattle.mips_isa.specs.Bytes.{half, word, readable}
use Rattle.mips_isa.specs.Machine.{word_of_text}
use Rattle.spim_memory.specs.Memory.{MemoryParts, IsMemory, segments, bytes_of, accessed}
use Rattle.spim_memory.specs.Places.{IsPlace, IsTextFrom}
use Rattle.spim_memory.specs.declared.memory.Place.TheVariants.{StaticBytes, Heap, Stack}
use Rattle.spim_memory.proofs.LoadingBytes.{reads_static, reads_heap, reads_stack, reads_half, reads_word, half_of_text, word_of_bytes}
use Rattle.spim_memory.specs.Zeros.{two_at, four_at}

-- a memory by another name
pub same_memory : (p m : MemoryParts) → p ≡ m → IsMemory p → IsMemory m
same_memory p m e h = rw (sym e) h

pub half_of_static : (m : MemoryParts) (l : List ℕ) (a i v : ℕ) → IsMemory m → a % 2 ≡ 0 → IsPlace m a (Some (StaticBytes i)) → l ≡ m.static_bytes → v ≡ two_at l i → Ok v ≡ accessed 2 (readable (segments m) a 2) a (half (bytes_of m) a)
half_of_static m l a i v is even at same value =
    let within : i + 2 ≤ length m.static_bytes = omega (arith, at.0, at.1, even, is.static_words, is.static_bytes) in
    let may : readable (segments m) a 2 ≡ true = grind (arith, at.0, within, is.static_bytes) in
    let number : v ≡ two_at m.static_bytes i = value ∙ ap (λ bytes. two_at bytes i) same in
    let found : v ≡ half (bytes_of m) a =
    number ∙ sym (reads_half (bytes_of m) DATA_START m.static_bytes (reads_static m is.static_bytes) i within) ∙ ap (λ place. half (bytes_of m) place) (sym at.0) in
    rw (even, may) (ap Ok found)

pub half_of_heap : (m : MemoryParts) (l : List ℕ) (a i v : ℕ) → IsMemory m → a % 2 ≡ 0 → IsPlace m a (Some (Heap i)) → l ≡ m.heap → v ≡ two_at l i → Ok v ≡ accessed 2 (readable (segments m) a 2) a (half (bytes_of m) a)
half_of_heap m l a i v is even at same value =
    let within : i + 2 ≤ length m.heap = omega (arith, at.0, at.1, even, is.heap_words, is.heap) in
    let may : readable (segments m) a 2 ≡ true = grind (arith, at.0, within, is.heap) in
    let number : v ≡ two_at m.heap i = value ∙ ap (λ bytes. two_at bytes i) same in
    let found : v ≡ half (bytes_of m) a =
    number ∙ sym (reads_half (bytes_of m) HEAP_START m.heap (reads_heap m is.heap is.stack) i within) ∙ ap (λ place. half (bytes_of m) place) (sym at.0) in
    rw (even, may) (ap Ok found)

pub half_of_stack : (m : MemoryParts) (l : List ℕ) (a i v : ℕ) → IsMemory m → a % 2 ≡ 0 → IsPlace m a (Some (Stack i)) → l ≡ m.stack → v ≡ two_at l i → Ok v ≡ accessed 2 (readable (segments m) a 2) a (half (bytes_of m) a)
half_of_stack m l a i v is even at same value =
    let within : i + 2 ≤ length m.stack = omega (arith, at.0, at.1, even, is.stack_words, is.stack) in
    let may : readable (segments m) a 2 ≡ true = grind (arith, at.0, within, is.stack) in
    let number : v ≡ two_at m.stack i = value ∙ ap (λ bytes. two_at bytes i) same in
    let found : v ≡ half (bytes_of m) a =
    number ∙ sym (reads_half (bytes_of m) (STACK_END - length m.stack) m.stack (reads_stack m is.stack) i within) ∙ ap (λ place. half (bytes_of m) place) (sym at.0) in
    rw (even, may) (ap Ok found)

pub word_of_static : (m : MemoryParts) (l : List ℕ) (a i v : ℕ) → IsMemory m → a % 4 ≡ 0 → IsPlace m a (Some (StaticBytes i)) → l ≡ m.static_bytes → v ≡ four_at l i → Ok v ≡ accessed 4 (readable (segments m) a 4) a (word (bytes_of m) a)
word_of_static m l a i v is even at same value =
    let within : i + 4 ≤ length m.static_bytes = omega (arith, at.0, at.1, even, is.static_words, is.static_bytes) in
    let may : readable (segments m) a 4 ≡ true = grind (arith, at.0, within, is.static_bytes) in
    let number : v ≡ four_at m.static_bytes i = value ∙ ap (λ bytes. four_at bytes i) same in
    let found : v ≡ word (bytes_of m) a =
    number ∙ sym (reads_word (bytes_of m) DATA_START m.static_bytes (reads_static m is.static_bytes) i within) ∙ ap (λ place. word (bytes_of m) place) (sym at.0) in
    rw (even, may) (ap Ok found)

pub word_of_heap : (m : MemoryParts) (l : List ℕ) (a i v : ℕ) → IsMemory m → a % 4 ≡ 0 → IsPlace m a (Some (Heap i)) → l ≡ m.heap → v ≡ four_at l i → Ok v ≡ accessed 4 (readable (segments m) a 4) a (word (bytes_of m) a)
word_of_heap m l a i v is even at same value =
    let within : i + 4 ≤ length m.heap = omega (arith, at.0, at.1, even, is.heap_words, is.heap) in
    let may : readable (segments m) a 4 ≡ true = grind (arith, at.0, within, is.heap) in
    let number : v ≡ four_at m.heap i = value ∙ ap (λ bytes. four_at bytes i) same in
    let found : v ≡ word (bytes_of m) a =
    number ∙ sym (reads_word (bytes_of m) HEAP_START m.heap (reads_heap m is.heap is.stack) i within) ∙ ap (λ place. word (bytes_of m) place) (sym at.0) in
    rw (even, may) (ap Ok found)

pub word_of_stack : (m : MemoryParts) (l : List ℕ) (a i v : ℕ) → IsMemory m → a % 4 ≡ 0 → IsPlace m a (Some (Stack i)) → l ≡ m.stack → v ≡ four_at l i → Ok v ≡ accessed 4 (readable (segments m) a 4) a (word (bytes_of m) a)
word_of_stack m l a i v is even at same value =
    let within : i + 4 ≤ length m.stack = omega (arith, at.0, at.1, even, is.stack_words, is.stack) in
    let may : readable (segments m) a 4 ≡ true = grind (arith, at.0, within, is.stack) in
    let number : v ≡ four_at m.stack i = value ∙ ap (λ bytes. four_at bytes i) same in
    let found : v ≡ word (bytes_of m) a =
    number ∙ sym (reads_word (bytes_of m) (STACK_END - length m.stack) m.stack (reads_stack m is.stack) i within) ∙ ap (λ place. word (bytes_of m) place) (sym at.0) in
    rw (even, may) (ap Ok found)

-- a half of the text
pub loaded_half : (m : MemoryParts) (a rest : ℕ) → IsMemory m → a % 2 ≡ 0 → IsTextFrom m a (Ok rest) → Ok (rest % 65536) ≡ accessed 2 (readable (segments m) a 2) a (half (bytes_of m) a)
loaded_half m a rest is even at =
    let from : TEXT_START ≤ a = grind (arith, at.0) in
    let to : a < TEXT_START + 4 * length m.text = grind (arith, at.0) in
    let may : readable (segments m) a 2 ≡ true = grind (arith, from, to, even) in
    let found : rest % 65536 ≡ half (bytes_of m) a = ap (λ n. n % 65536) at.1 ∙ sym (half_of_text m a is.text to from even at.2) in
    rw (even, may) (ap Ok found)

-- a word of the text
word_found : (m : MemoryParts) (a rest : ℕ) → IsMemory m → a % 4 ≡ 0 → IsTextFrom m a (Ok rest) → Ok rest ≡ accessed 4 (readable (segments m) a 4) a (word (bytes_of m) a)
word_found m a rest is even at =
    let from : TEXT_START ≤ a = grind (arith, at.0) in
    let to : a < TEXT_START + 4 * length m.text = grind (arith, at.0) in
    let may : readable (segments m) a 4 ≡ true = grind (arith, from, to, even) in
    let whole : word_of_text m.text a / 2 ^ (8 * (a % 4)) ≡ word_of_text m.text a = rw even (omega arith) in
    let found : rest ≡ word (bytes_of m) a = at.1 ∙ whole ∙ sym (word_of_bytes m a is.text to from even at.2) in
    rw (even, may) (ap Ok found)

-- a word of the text, or no word
pub loaded_word : (m : MemoryParts) (a : ℕ) (result : Result ℕ MemFault) → IsMemory m → a % 4 ≡ 0 → IsPlace m a None → IsTextFrom m a result → result ≡ accessed 4 (readable (segments m) a 4) a (word (bytes_of m) a)
loaded_word m a (Ok rest) is even out at = word_found m a rest is even at
loaded_word m a (Err fault) is even out at =
    let may : readable (segments m) a 4 ≡ false = grind (arith, out, at.0) in
    rw (even, may) (ap Err at.1)
