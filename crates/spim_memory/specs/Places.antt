-- `IsPlace` gives the segment, and the offset in it, of the byte at an address; `set_two` and `set_four` store a half word and a word in a list of bytes.
use Rattle.std.specs.Prelude.{◌≡◌, ℕ, ◌+◌, ◌-◌, ◌*◌, ◌/◌, ◌%◌, ◌^◌, ◌<◌, true, false, Option, None, Some, Result, Ok, Err, List, ◌++◌, length, replicate, slice_set}
use Rattle.mips_isa.specs.declared.address_map.TheConstants.{TEXT_START, DATA_START, HEAP_START, STACK_END}
use Rattle.mips_isa.specs.Bytes.{lies, writable}
use Rattle.mips_isa.specs.Machine.{word_of_text}
use Rattle.spim_memory.specs.Memory.{MemoryParts, segments}
use Rattle.spim_memory.specs.declared.fault.MemFault.{MemFault}
use Rattle.spim_memory.specs.declared.fault.MemFault.TheVariants.{BadAddress}
use Rattle.spim_memory.specs.declared.memory.Place.{Place}
use Rattle.spim_memory.specs.declared.memory.Place.TheVariants.{StaticBytes, Heap, Stack}

-- the byte at an address is at this place, or may not be stored
abbrev pub IsPlace : MemoryParts → ℕ → Option Place → Type 0
IsPlace m a None = writable (segments m) a 1 ≡ false
IsPlace m a (Some (StaticBytes offset)) = (a ≡ DATA_START + offset) × (offset < length m.static_bytes)
IsPlace m a (Some (Heap offset)) = (a ≡ HEAP_START + offset) × (offset < length m.heap)
IsPlace m a (Some (Stack offset)) = (a ≡ STACK_END - length m.stack + offset) × (offset < length m.stack)

-- the word of the text that has the byte at an address, if there is one
abbrev pub IsTextWord : MemoryParts → ℕ → Option ℕ → Type 0
IsTextWord m a None = lies TEXT_START (segments m).text_end a 1 ≡ false
IsTextWord m a (Some word) = (lies TEXT_START (segments m).text_end a 1 ≡ true) × (word ≡ word_of_text m.text a) × (word < 2 ^ 32)

-- the word of the text without its bytes before the address, or the fault if the address is not in the text
abbrev pub IsTextFrom : MemoryParts → ℕ → Result ℕ MemFault → Type 0
IsTextFrom m a (Ok rest) =
    (lies TEXT_START (segments m).text_end a 1 ≡ true) × (rest ≡ word_of_text m.text a / 2 ^ (8 * (a % 4))) × (word_of_text m.text a < 2 ^ 32)
IsTextFrom m a (Err fault) = (lies TEXT_START (segments m).text_end a 1 ≡ false) × (fault ≡ BadAddress a)

-- a list with the bytes of a half from an index on
abbrev pub set_two : List ℕ → ℕ → ℕ → List ℕ
set_two bytes i v = slice_set (slice_set bytes i (v % 256)) (i + 1) (v / 256 % 256)

-- a list with the bytes of a word from an index on
abbrev pub set_four : List ℕ → ℕ → ℕ → List ℕ
set_four bytes i v =
    slice_set (slice_set (slice_set (slice_set bytes i (v % 256)) (i + 1) (v / 256 % 256)) (i + 2) (v / 65536 % 256)) (i + 3) (v / 16777216 % 256)

-- a list of bytes with zeros after it up to a whole word
abbrev pub whole_words : List ℕ → List ℕ
whole_words bytes = bytes ++ replicate ((length bytes + 3) / 4 * 4 - length bytes) 0
