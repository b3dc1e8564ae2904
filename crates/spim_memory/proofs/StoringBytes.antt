-- If a byte is written into the list of bytes of a segment, the machine's memory changes at the corresponding address only.
use Rattle.std.proofs.Common.{◌≡◌, ◌∙◌, refl, sym, ap, ℕ, ◌+◌, ◌-◌, ◌/◌, ◌%◌, ◌<◌, ◌≤◌, cond, List, length, slice_set, Vec, Global, arith}
use Rattle.std.specs.Vec.{with_items}
use Rattle.std.specs.Prelude.{nat_lt, ◌==◌}
use Rattle.std.proofs.Math.Path.{fun_ext}
use Rattle.std.proofs.lemmas.List.{length-set, with_items_is}
use Rattle.mips_isa.specs.declared.address_map.TheConstants.{DATA_START, HEAP_START, STACK_END}
use Rattle.mips_isa.specs.Bytes.{Bytes, set_byte, set_half, set_word}
use Rattle.spim_memory.specs.Memory.{bytes_of}
use Rattle.spim_memory.specs.Places.{set_two, set_four}
use Rattle.lists.proofs.ItemsAt.{get_set}

-- the place of one byte among the segments
at_static : (q i v text here rest : ℕ) → i < 268435456 → cond (nat_lt q DATA_START) text (cond (nat_lt q HEAP_START) (cond (q - DATA_START == i) v here) rest) ≡ cond (q == DATA_START + i) v (cond (nat_lt q DATA_START) text (cond (nat_lt q HEAP_START) here rest))
at_static q i v text here rest h = grind arith

at_heap : (q i v low text before here rest : ℕ) → HEAP_START + i < low → cond (nat_lt q DATA_START) text (cond (nat_lt q HEAP_START) before (cond (nat_lt q low) (cond (q - HEAP_START == i) v here) rest)) ≡ cond (q == HEAP_START + i) v (cond (nat_lt q DATA_START) text (cond (nat_lt q HEAP_START) before (cond (nat_lt q low) here rest)))
at_heap q i v low text before here rest h = grind arith

at_stack : (q i v low text before heap here : ℕ) → HEAP_START ≤ low → cond (nat_lt q DATA_START) text (cond (nat_lt q HEAP_START) before (cond (nat_lt q low) heap (cond (q - low == i) v here))) ≡ cond (q == low + i) v (cond (nat_lt q DATA_START) text (cond (nat_lt q HEAP_START) before (cond (nat_lt q low) heap here)))
at_stack q i v low text before heap here h = grind arith

-- A list of n numbers, from this address on, is seen by its bytes: one that is written is written there.
abbrev pub Writes : (List ℕ → Bytes) → ℕ → ℕ → Type 0
Writes seen first n = (l : List ℕ) (i v : ℕ) → length l ≡ n → i < n → seen (slice_set l i v) ≡ set_byte (seen l) (first + i) v

-- a byte of the data
pub writes_static : (t h s : List ℕ) (n : ℕ) → n ≤ 268435456 → Writes (λ d. bytes_of (record { text = t; static_bytes = d; heap = h; stack = s })) DATA_START n
writes_static t h s n most d i v size within =
    fun_ext (λ q. rw (get_set d i v (q - DATA_START) (omega arith)) (at_static q i v _ _ _ (omega arith)))

-- a byte of the heap
pub writes_heap : (t d s : List ℕ) (n : ℕ) → n ≤ 268435456 → length s ≤ 67108864 → Writes (λ h. bytes_of (record { text = t; static_bytes = d; heap = h; stack = s })) HEAP_START n
writes_heap t d s n most least h i v size within =
    fun_ext (λ q. rw (get_set h i v (q - HEAP_START) (omega arith)) (at_heap q i v (STACK_END - length s) _ _ _ _ (omega arith)))

-- a byte of the stack
pub writes_stack : (t d h : List ℕ) (n : ℕ) → n ≤ 67108864 → Writes (λ s. bytes_of (record { text = t; static_bytes = d; heap = h; stack = s })) (STACK_END - n) n
writes_stack t d h n most s i v size within =
    fun_ext (λ q. rw (length-set s i v) (rw size (rw (get_set s i v (q - (STACK_END - n)) (omega arith)) (at_stack q i v (STACK_END - n) _ _ _ _ (omega arith)))))

-- a half
pub writes_two : (seen : List ℕ → Bytes) (first n : ℕ) → Writes seen first n → (l : List ℕ) (i v : ℕ) → length l ≡ n → i + 2 ≤ n → seen (set_two l i v) ≡ set_half (seen l) (first + i) v
unfolding set_half
writes_two seen first n one l i v size within =
    let l1 = slice_set l i (v % 256) in
    let next : first + i + 1 ≡ first + (i + 1) = omega arith in
    rw next
    (one l1 (i + 1) (v / 256 % 256) (length-set l i (v % 256) ∙ size) (omega arith)
    ∙ ap (λ m. set_byte m (first + (i + 1)) (v / 256 % 256)) (one l i (v % 256) size (omega arith)))

-- a word
pub writes_four : (seen : List ℕ → Bytes) (first n : ℕ) → Writes seen first n → (l : List ℕ) (i v : ℕ) → length l ≡ n → i + 4 ≤ n → seen (set_four l i v) ≡ set_word (seen l) (first + i) v
unfolding set_word
writes_four seen first n one l i v size within =
    let l1 = slice_set l i (v % 256) in
    let l2 = slice_set l1 (i + 1) (v / 256 % 256) in
    let l3 = slice_set l2 (i + 2) (v / 65536 % 256) in
    let size1 = length-set l i (v % 256) ∙ size in
    let size2 = length-set l1 (i + 1) (v / 256 % 256) ∙ size1 in
    let size3 = length-set l2 (i + 2) (v / 65536 % 256) ∙ size2 in
    let next1 : first + i + 1 ≡ first + (i + 1) = omega arith in
    let next2 : first + i + 2 ≡ first + (i + 2) = omega arith in
    let next3 : first + i + 3 ≡ first + (i + 3) = omega arith in
    rw (next1, next2, next3)
    (one l3 (i + 3) (v / 16777216 % 256) size3 (omega arith)
    ∙ ap (λ m. set_byte m (first + (i + 3)) (v / 16777216 % 256)) (one l2 (i + 2) (v / 65536 % 256) size2 (omega arith)
    ∙ ap (λ m. set_byte m (first + (i + 2)) (v / 65536 % 256)) (one l1 (i + 1) (v / 256 % 256) size1 (omega arith)
    ∙ ap (λ m. set_byte m (first + (i + 1)) (v / 256 % 256)) (one l i (v % 256) size (omega arith)))))

-- a byte, a half or a word that is written into a list is stored at its address
pub stored_byte : (seen : List ℕ → Bytes) (first : ℕ) (l new : List ℕ) (before : Bytes) (a i v : ℕ) → Writes seen first (length l) → seen l ≡ before → a ≡ first + i → i < length l → new ≡ slice_set l i v → seen new ≡ set_byte before a v
stored_byte seen first l new before a i v one was place within is = rw (sym was, place, is) (one l i v refl within)

pub stored_half : (seen : List ℕ → Bytes) (first : ℕ) (l new : List ℕ) (before : Bytes) (a i v : ℕ) → Writes seen first (length l) → seen l ≡ before → a ≡ first + i → i + 2 ≤ length l → new ≡ set_two l i v → seen new ≡ set_half before a v
stored_half seen first l new before a i v one was place within is =
    rw (sym was, place, is) (writes_two seen first (length l) one l i v refl within)

pub stored_word : (seen : List ℕ → Bytes) (first : ℕ) (l new : List ℕ) (before : Bytes) (a i v : ℕ) → Writes seen first (length l) → seen l ≡ before → a ≡ first + i → i + 4 ≤ length l → new ≡ set_four l i v → seen new ≡ set_word before a v
stored_word seen first l new before a i v one was place within is =
    rw (sym was, place, is) (writes_four seen first (length l) one l i v refl within)

-- the contents of a vector after its slice was written
pub written : (v : Vec ℕ Global) (l new want : List ℕ) → l ≡ v.items → new ≡ want → length want ≡ length l → (with_items v new).items ≡ want
written v l new want same is size = with_items_is v new (ap length is ∙ size ∙ ap length same ∙ sym v.ok.0) ∙ is

pub length_two : (l : List ℕ) (i v : ℕ) → length (set_two l i v) ≡ length l
length_two l i v = length-set (slice_set l i (v % 256)) (i + 1) (v / 256 % 256) ∙ length-set l i (v % 256)

pub length_four : (l : List ℕ) (i v : ℕ) → length (set_four l i v) ≡ length l
length_four l i v =
    length-set _ (i + 3) (v / 16777216 % 256) ∙ length-set _ (i + 2) (v / 65536 % 256) ∙ length-set _ (i + 1) (v / 256 % 256) ∙ length-set l i (v % 256)
