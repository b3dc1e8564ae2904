-- A new memory holds the bytes of the image (the executable program) from which it is made, and zeros elsewhere.
use Rattle.std.proofs.Common.{◌≡◌, ◌∙◌, ap, ℕ, ◌+◌, ◌-◌, ◌*◌, ◌/◌, List, length, get_or, ◌++◌, replicate, arith}
use Rattle.std.proofs.Math.Path.{fun_ext}
use Rattle.std.proofs.Math.ListN.{get_or-append, get_or-eq_default}
use Rattle.std.proofs.Math.Seq.{get_or-append_right}
use Rattle.std.proofs.lemmas.List.{length-replicate, length-append}
use Rattle.mips_isa.specs.ImageBounds.{ImageParts, IsImage}
use Rattle.mips_isa.specs.declared.address_map.TheConstants.{DATA_START, HEAP_START, STACK_END}
use Rattle.mips_isa.specs.Bytes.{bytes_of_image}
use Rattle.spim_memory.specs.Memory.{bytes_of, IsMemory, IsLimits}
use Rattle.spim_memory.specs.Places.{whole_words}
use Rattle.lists.proofs.ItemsAt.{get_zeros}

-- zeros after a list change nothing
padded : (l : List ℕ) (n i : ℕ) → get_or (l ++ replicate n 0) i 0 ≡ get_or l i 0
padded l n i = grind (arith, get_zeros, get_or-append, get_or-append_right, get_or-eq_default)

-- the bytes of a memory of such lists
made_of_zeros : (i : ImageParts) (pad heap stack : ℕ) → bytes_of (record { text = i.text; static_bytes = i.bytes ++ replicate pad 0; heap = replicate heap 0; stack = replicate stack 0 }) ≡ bytes_of_image i
made_of_zeros i pad heap stack = fun_ext (λ q. rw (padded i.bytes pad (q - DATA_START), get_zeros heap (q - HEAP_START), get_zeros stack (q - (STACK_END - length (replicate {A = ℕ} stack 0)))) (grind arith))

-- the bytes of a memory that is made
pub made : (i : ImageParts) (t d h s : List ℕ) (heap stack : ℕ) → t ≡ i.text → d ≡ whole_words i.bytes → h ≡ replicate heap 0 → s ≡ replicate stack 0 → bytes_of (record { text = t; static_bytes = d; heap = h; stack = s }) ≡ bytes_of_image i
made i t d h s heap stack e f g k = rw (e, f, g, k) (made_of_zeros i _ heap stack)

-- a list with zeros up to a whole word is made of words
whole_length : (l : List ℕ) → length (whole_words l) ≡ (length l + 3) / 4 * 4
whole_length l = grind (arith, length-append, length-replicate)

-- the bounds of a memory that is made
pub made_within : (i : ImageParts) (t d h s : List ℕ) (heap stack : ℕ) → IsImage i → IsLimits heap stack → t ≡ i.text → d ≡ whole_words i.bytes → h ≡ replicate heap 0 → s ≡ replicate stack 0 → IsMemory (record { text = t; static_bytes = d; heap = h; stack = s })
made_within i t d h s heap stack is limits e f g k =
    let text : length t ≡ length i.text = ap length e in
    let bytes : length d ≡ (length i.bytes + 3) / 4 * 4 = ap length f ∙ whole_length i.bytes in
    let heap_is : length h ≡ heap = ap length g ∙ length-replicate heap 0 in
    let stack_is : length s ≡ stack = ap length k ∙ length-replicate stack 0 in
    record {
      text = omega (arith, text, is.text);
      static_bytes = omega (arith, bytes, is.bytes);
      heap = omega (arith, heap_is, limits.heap_most);
      stack = omega (arith, stack_is, limits.stack_most);
      static_words = omega (arith, bytes);
      heap_words = omega (arith, heap_is, limits.heap_unit);
      stack_words = omega (arith, stack_is, limits.stack_unit);
    }
