-- A half word or word that is read from a segment or from the text has the value of the two or four bytes there in the machine's memory, lowest byte first.
use Rattle.std.proofs.Common.{◌≡◌, ◌∙◌, ℕ, ◌+◌, ◌-◌, ◌*◌, ◌/◌, ◌%◌, ◌^◌, ◌<◌, ◌≤◌, List, length, get_or, true, inl, inr, ◌⊎◌, refl, arith}
use Rattle.std.specs.Prelude.{nat_lt}
use Rattle.mips_isa.specs.declared.address_map.TheConstants.{TEXT_START, DATA_START, HEAP_START, STACK_END}
use Rattle.mips_isa.specs.Bytes.{Bytes, half, word, byte_of_word}
use Rattle.spim_memory.specs.Memory.{MemoryParts, bytes_of}

-- a list of n numbers, from this address on, is seen by its bytes
abbrev pub Reads : Bytes → ℕ → List ℕ → Type 0
Reads seen first l = (i : ℕ) → i < length l → seen (first + i) ≡ get_or l i 0

pub reads_static : (m : MemoryParts) → length m.static_bytes ≤ 268435456 → Reads (bytes_of m) DATA_START m.static_bytes
reads_static m h i within = grind arith

pub reads_heap : (m : MemoryParts) → length m.heap ≤ 268435456 → length m.stack ≤ 67108864 → Reads (bytes_of m) HEAP_START m.heap
reads_heap m h k i within = grind arith

pub reads_stack : (m : MemoryParts) → length m.stack ≤ 67108864 → Reads (bytes_of m) (STACK_END - length m.stack) m.stack
reads_stack m h i within = grind arith

-- a half of a segment
pub reads_half : (seen : Bytes) (first : ℕ) (l : List ℕ) → Reads seen first l → (i : ℕ) → i + 2 ≤ length l → half seen (first + i) ≡ get_or l i 0 + 256 * get_or l (i + 1) 0
unfolding half
reads_half seen first l one i within =
    let next : first + i + 1 ≡ first + (i + 1) = omega arith in
    rw (next, one i (omega arith), one (i + 1) (omega arith)) refl

-- a word of a segment
pub reads_word : (seen : Bytes) (first : ℕ) (l : List ℕ) → Reads seen first l → (i : ℕ) → i + 4 ≤ length l → word seen (first + i) ≡ get_or l i 0 + 256 * get_or l (i + 1) 0 + 65536 * get_or l (i + 2) 0 + 16777216 * get_or l (i + 3) 0
unfolding word
reads_word seen first l one i within =
    let next1 : first + i + 1 ≡ first + (i + 1) = omega arith in
    let next2 : first + i + 2 ≡ first + (i + 2) = omega arith in
    let next3 : first + i + 3 ≡ first + (i + 3) = omega arith in
    rw (next1, next2, next3, one i (omega arith), one (i + 1) (omega arith), one (i + 2) (omega arith), one (i + 3) (omega arith)) refl

-- a byte of a word of the text
byte_of_text : (m : MemoryParts) (a k w : ℕ) → length m.text ≤ 66060288 → a + 4 ≤ TEXT_START + 4 * length m.text → TEXT_START ≤ a → a % 4 ≡ 0 → k < 4 → get_or m.text ((a - TEXT_START) / 4) 0 ≡ w → bytes_of m (a + k) ≡ byte_of_word w k
byte_of_text m a k w most to from even small is =
    let index : (a + k - TEXT_START) / 4 ≡ (a - TEXT_START) / 4 = omega arith in
    let offset : (a + k - TEXT_START) % 4 ≡ k = omega arith in
    let in_text : nat_lt (a + k) DATA_START ≡ true = grind arith in
    rw (in_text, index, offset, is) refl

first_of_text : (m : MemoryParts) (a w : ℕ) → length m.text ≤ 66060288 → a < TEXT_START + 4 * length m.text → TEXT_START ≤ a → a % 4 ≡ 0 → get_or m.text ((a - TEXT_START) / 4) 0 ≡ w → bytes_of m a ≡ w % 256
first_of_text m a w most to from even is =
    let offset : (a - TEXT_START) % 4 ≡ 0 = omega arith in
    let in_text : nat_lt a DATA_START ≡ true = grind arith in
    rw (in_text, offset, is) refl

third_of_text : (m : MemoryParts) (a w : ℕ) → length m.text ≤ 66060288 → a < TEXT_START + 4 * length m.text → TEXT_START ≤ a → a % 4 ≡ 2 → get_or m.text ((a - TEXT_START) / 4) 0 ≡ w → bytes_of m a ≡ w / 65536 % 256
third_of_text m a w most to from even is =
    let offset : (a - TEXT_START) % 4 ≡ 2 = omega arith in
    let in_text : nat_lt a DATA_START ≡ true = grind arith in
    rw (in_text, offset, is) refl

fourth_of_text : (m : MemoryParts) (a w : ℕ) → length m.text ≤ 66060288 → a < TEXT_START + 4 * length m.text → TEXT_START ≤ a → a % 4 ≡ 2 → get_or m.text ((a - TEXT_START) / 4) 0 ≡ w → bytes_of m (a + 1) ≡ w / 16777216 % 256
fourth_of_text m a w most to from even is =
    let index : (a + 1 - TEXT_START) / 4 ≡ (a - TEXT_START) / 4 = omega arith in
    let offset : (a + 1 - TEXT_START) % 4 ≡ 3 = omega arith in
    let in_text : nat_lt (a + 1) DATA_START ≡ true = grind arith in
    rw (in_text, index, offset, is) refl

-- the bytes of a word of the text, from one of them on
half_of_text_at : (m : MemoryParts) (a k w : ℕ) → length m.text ≤ 66060288 → a < TEXT_START + 4 * length m.text → TEXT_START ≤ a → a % 4 ≡ k → (k ≡ 0) ⊎ (k ≡ 2) → get_or m.text ((a - TEXT_START) / 4) 0 ≡ w → w < 4294967296 → half (bytes_of m) a ≡ w / 2 ^ (8 * k) % 65536
unfolding half
half_of_text_at m a k w most to from off (inl even) is small =
    let zero_off : a % 4 ≡ 0 = off ∙ even in
    let b0 : bytes_of m a ≡ w % 256 = first_of_text m a w most to from zero_off is in
    let b1 : bytes_of m (a + 1) ≡ w / 256 % 256 = byte_of_text m a 1 w most (omega arith) from zero_off (omega arith) is in
    rw (b0, b1, even) (omega (arith, small))
half_of_text_at m a k w most to from off (inr odd) is small =
    let two_off : a % 4 ≡ 2 = off ∙ odd in
    let b2 : bytes_of m a ≡ w / 65536 % 256 = third_of_text m a w most to from two_off is in
    let b3 : bytes_of m (a + 1) ≡ w / 16777216 % 256 = fourth_of_text m a w most to from two_off is in
    rw (b2, b3, odd) (omega (arith, small))

pub half_of_text : (m : MemoryParts) (a : ℕ) → length m.text ≤ 66060288 → a < TEXT_START + 4 * length m.text → TEXT_START ≤ a → a % 2 ≡ 0 → get_or m.text ((a - TEXT_START) / 4) 0 < 4294967296 → half (bytes_of m) a ≡ get_or m.text ((a - TEXT_START) / 4) 0 / 2 ^ (8 * (a % 4)) % 65536
unfolding half
half_of_text m a most to from even small = half_of_text_at m a (a % 4) (get_or m.text ((a - TEXT_START) / 4) 0) most to from refl (grind arith) refl small

pub word_of_bytes : (m : MemoryParts) (a : ℕ) → length m.text ≤ 66060288 → a < TEXT_START + 4 * length m.text → TEXT_START ≤ a → a % 4 ≡ 0 → get_or m.text ((a - TEXT_START) / 4) 0 < 4294967296 → word (bytes_of m) a ≡ get_or m.text ((a - TEXT_START) / 4) 0
unfolding word
word_of_bytes m a most to from even small =
    let w = get_or m.text ((a - TEXT_START) / 4) 0 in
    let b0 : bytes_of m a ≡ w % 256 = first_of_text m a w most to from even refl in
    let b1 : bytes_of m (a + 1) ≡ w / 256 % 256 = byte_of_text m a 1 w most (omega arith) from even (omega arith) refl in
    let b2 : bytes_of m (a + 2) ≡ w / 65536 % 256 = byte_of_text m a 2 w most (omega arith) from even (omega arith) refl in
    let b3 : bytes_of m (a + 3) ≡ w / 16777216 % 256 = byte_of_text m a 3 w most (omega arith) from even (omega arith) refl in
    rw (b0, b1, b2, b3) (omega (arith, small))
