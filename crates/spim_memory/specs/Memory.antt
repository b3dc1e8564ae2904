-- `MemoryParts` is the simulator's memory as contracts see it: the words of the text, and the bytes of data, heap and stack. `bytes_of` and `segments`
-- convert it to the memory and the segments of the machine's definition.
use Rattle.std.specs.Prelude.{◌≡◌, ℕ, ◌+◌, ◌-◌, ◌*◌, ◌/◌, ◌%◌, ◌^◌, ◌≤◌, ◌==◌, nat_lt, not, Bool, if◌then◌else◌, List, length, get_or, Result, Ok, Err}
use Rattle.mips_isa.specs.declared.address_map.TheConstants.{TEXT_START, DATA_START, HEAP_START, STACK_END, MOST_TEXT_WORDS, MOST_DATA_BYTES}
use Rattle.mips_isa.specs.Bytes.{Bytes, Segments, byte_of_word}
use Rattle.spim_memory.specs.declared.fault.MemFault.{MemFault}
use Rattle.spim_memory.specs.declared.fault.MemFault.TheVariants.{Unaligned, BadAddress}

pub record MemoryParts : Type 0 where
  pub text : List ℕ
  pub static_bytes : List ℕ
  pub heap : List ℕ
  pub stack : List ℕ

abbrev pub segments : MemoryParts → Segments
segments m = record {
  text_end = TEXT_START + 4 * length m.text;
  data_end = DATA_START + length m.static_bytes;
  heap_end = HEAP_START + length m.heap;
  stack_low = STACK_END - length m.stack;
}

-- No segment reaches the next one, and each is made of words.
pub record IsMemory (m : MemoryParts) : Type 0 where
  pub text : length m.text ≤ MOST_TEXT_WORDS
  pub static_bytes : length m.static_bytes ≤ MOST_DATA_BYTES
  pub heap : length m.heap ≤ 2 ^ 28
  pub stack : length m.stack ≤ 2 ^ 26
  pub static_words : length m.static_bytes % 4 ≡ 0
  pub heap_words : length m.heap % 4 ≡ 0
  pub stack_words : length m.stack % 4 ≡ 0

-- The byte at an address. Between the segments and after the stack there is 0, and below the text its first byte, none of which
-- may be loaded.
abbrev pub bytes_of : MemoryParts → Bytes
bytes_of m = λ a.
    if nat_lt a DATA_START then byte_of_word (get_or m.text ((a - TEXT_START) / 4) 0) ((a - TEXT_START) % 4)
    else (if nat_lt a HEAP_START then get_or m.static_bytes (a - DATA_START) 0
    else (if nat_lt a (STACK_END - length m.stack) then get_or m.heap (a - HEAP_START) 0
    else get_or m.stack (a - (STACK_END - length m.stack)) 0))

-- the result of an access of this size at a: v, or why it is refused
abbrev pub accessed : {V : Type 0} → ℕ → Bool → ℕ → V → Result V MemFault
accessed size may a v =
    if not (a % size == 0) then Err (Unaligned a) else (if not may then Err (BadAddress a) else Ok v)

-- Sizes of heap and stack, in bytes: multiples of 1,024 from 4,096 on, up to 256 MiB and 64 MiB.
pub record IsLimits (heap stack : ℕ) : Type 0 where
  pub heap_unit : heap % 1024 ≡ 0
  pub heap_least : 4096 ≤ heap
  pub heap_most : heap ≤ 2 ^ 28
  pub stack_unit : stack % 1024 ≡ 0
  pub stack_least : 4096 ≤ stack
  pub stack_most : stack ≤ 2 ^ 26
