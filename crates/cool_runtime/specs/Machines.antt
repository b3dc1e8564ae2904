-- `At` describes the state of a machine before and after a piece of compiled code: its registers (`Pointers`), its memory, and its input and output
-- (`Console`).
use Rattle.std.specs.Prelude.{ℕ, zero, suc, ◌*◌, ◌/◌, ◌+◌, ◌-◌, ◌%◌, ◌^◌, ◌<◌, ◌≤◌, ◌≡◌, List, [], ◌∷◌, ◌++◌, Bool, true, false, ◌==◌, if◌then◌else◌}
use Rattle.mips_isa.specs.declared.address_map.TheConstants.{HEAP_START, STACK_END}
use Rattle.mips_isa.specs.declared.register.TheConstants.{ZERO, A0, T1, T2, T3, T4, T5, T6, T7, S0, S6, S7, GP, SP, FP, RA}
use Rattle.mips_isa.specs.Bytes.{Bytes, word, set_byte, set_word}
use Rattle.mips_isa.specs.Calls.{State, Taken}
use Rattle.cool_runtime.specs.Reaches.{World}
use Rattle.cool_runtime.specs.Labels.{int_table, string_table}
use Rattle.cool_runtime.specs.Contents.{words_of_bytes}

-- the input left, whether its end was answered, and the output
pub record Console : Type 0 where
  pub input : List ℕ
  pub ended : Bool
  pub output : List ℕ

-- The registers that code relies on: pc, the next free address of the heap, the stack, the frame, self, the result, and the return address.
pub record Pointers : Type 0 where
  pub pc : ℕ
  pub gp : ℕ
  pub sp : ℕ
  pub fp : ℕ
  pub self : ℕ
  pub acc : ℕ
  pub ra : ℕ

-- the registers have these numbers, which keep the limits
pub record Numbers (w : World) (p : Pointers) (s : State) : Type 0 where
  pub pc_is : s.core.pc ≡ p.pc
  pub zero_is : s.core.registers ZERO ≡ 0
  pub acc_is : s.core.registers A0 ≡ p.acc
  pub self_is : s.core.registers S0 ≡ p.self
  pub low_is : s.core.registers S6 ≡ w.segments.stack_low
  pub end_is : s.core.registers S7 ≡ w.segments.heap_end
  pub gp_is : s.core.registers GP ≡ p.gp
  pub sp_is : s.core.registers SP ≡ p.sp
  pub fp_is : s.core.registers FP ≡ p.fp
  pub ra_is : s.core.registers RA ≡ p.ra
  pub acc_fits : p.acc < 2 ^ 32
  pub gp_from : HEAP_START ≤ p.gp
  pub gp_to : p.gp ≤ w.segments.heap_end
  pub gp_even : p.gp % 4 ≡ 0
  pub sp_from : w.segments.stack_low ≤ p.sp
  pub sp_to : p.sp ≤ STACK_END
  pub sp_even : p.sp % 4 ≡ 0

-- the machine has these registers, this memory and this console
pub record At (w : World) (p : Pointers) (m : Bytes) (c : Console) (s : State) : Type 0 where
  pub numbers : Numbers w p s
  pub memory_is : s.core.memory ≡ m
  pub input_is : s.input ≡ c.input
  pub ended_is : s.ended ≡ c.ended
  pub output_is : s.output ≡ c.output

-- The contents of the temporary registers.
pub record Temporaries : Type 0 where
  pub t1 : ℕ
  pub t2 : ℕ
  pub t3 : ℕ
  pub t4 : ℕ
  pub t5 : ℕ
  pub t6 : ℕ
  pub t7 : ℕ

-- the machine has these registers, memory and console, and these numbers are in the registers from $t1 to $t7
pub record Holding (w : World) (p : Pointers) (m : Bytes) (c : Console) (t : Temporaries) (s : State) : Type 0 where
  pub at : At w p m c s
  pub t1_is : s.core.registers T1 ≡ t.t1
  pub t2_is : s.core.registers T2 ≡ t.t2
  pub t3_is : s.core.registers T3 ≡ t.t3
  pub t4_is : s.core.registers T4 ≡ t.t4
  pub t5_is : s.core.registers T5 ≡ t.t5
  pub t6_is : s.core.registers T6 ≡ t.t6
  pub t7_is : s.core.registers T7 ≡ t.t7

-- the console after bytes were written
abbrev pub wrote : Console → List ℕ → Console
wrote c bytes = record c { output = c.output ++ bytes }

-- the console after bytes were taken
abbrev pub got : Console → Taken → Console
got c t = record c { input = t.rest; ended = t.ended }

-- the memory with the head of an object and its first attribute after an address
unfoldable pub with_head : Bytes → ℕ → ℕ → ℕ → ℕ → ℕ → Bytes
with_head m a tag size table v = set_word (set_word (set_word (set_word (set_word m a (2 ^ 32 - 1)) (a + 4) tag) (a + 8) size) (a + 12) table) (a + 16) v

-- the memory with the object of an Int after an address
abbrev pub with_int : Bytes → ℕ → ℕ → ℕ → ℕ → Bytes
with_int m a tag table v = with_head m a tag 4 table v

-- the memory with the length and the head of a String of so many bytes after an address
abbrev pub with_string_head : World → Bytes → ℕ → ℕ → Bytes
with_string_head w m a n = with_head (with_int m a w.tags.int (w.place int_table) n) (a + 20) w.tags.string (4 + words_of_bytes n) (w.place string_table) (a + 4)

-- the same, with zeros in its last word
abbrev pub with_string : World → Bytes → ℕ → ℕ → Bytes
with_string w m a n = set_word (with_string_head w m a n) (a + 40 + 4 * (n / 4)) 0

-- the memory where so many bytes were copied
abbrev pub copied_bytes : Bytes → ℕ → ℕ → ℕ → Bytes
copied_bytes m from to zero = m
copied_bytes m from to (suc n) = copied_bytes (set_byte m to (m from % 256)) (from + 1) (to + 1) n

-- the memory where so many words were copied
abbrev pub copied : Bytes → ℕ → ℕ → ℕ → Bytes
copied m from to zero = m
copied m from to (suc n) = copied (set_word m to (word m from)) (from + 4) (to + 4) n

-- the memory with a copy of the object of so many words at an address
abbrev pub with_copy : Bytes → ℕ → ℕ → ℕ → Bytes
with_copy m gp a size = copied (set_word m gp (2 ^ 32 - 1)) a (gp + 4) size

-- A line of the input: the bytes other than 0 up to a newline, or up to the end.
abbrev pub line_of : List ℕ → Taken
line_of [] = record { got = []; rest = []; ended = true }
line_of (b ∷ input) =
    if b == 0 then line_of input
    else (if b == 10 then record { got = []; rest = input; ended = false }
    else (let t : Taken = line_of input in record t { got = b ∷ t.got }))

-- the line that `in_string` gives; where the end was answered, it is not asked for again
abbrev pub line_asked : Bool → List ℕ → Taken
line_asked ended input = if ended then record { got = []; rest = input; ended = true } else line_of input

-- the memory with two Strings joined after gp
abbrev pub with_joined : World → Bytes → ℕ → ℕ → ℕ → ℕ → ℕ → Bytes
with_joined w m gp a b la lb = copied_bytes (copied_bytes (with_string w m gp (la + lb)) (a + 16) (gp + 40) la) (b + 16) (gp + 40 + la) lb

-- the memory with so many bytes of a String, from a position on, after gp
abbrev pub with_cut : World → Bytes → ℕ → ℕ → ℕ → ℕ → Bytes
with_cut w m gp a i l = copied_bytes (with_string w m gp l) (a + 16 + i) (gp + 40) l

-- The memory where bytes were stored from an address on: so many bytes of its word are after the first one, and a word that is
-- full has a word of zeros after it.
abbrev pub filled : Bytes → ℕ → ℕ → List ℕ → Bytes
filled m a left [] = m
filled m a zero (b ∷ rest) = filled (set_word (set_byte m a b) (a + 1) 0) (a + 1) 3 rest
filled m a (suc left) (b ∷ rest) = filled (set_byte m a b) (a + 1) left rest

-- the memory with a text after gp, and zeros after it, up to a full word
abbrev pub with_text : Bytes → ℕ → List ℕ → Bytes
with_text m gp bytes = filled (set_word m (gp + 40) 0) (gp + 40) 3 bytes

-- the end of a run: what was written, and what is left of the input
pub record EndsWith (c : Console) (bytes : List ℕ) (s : State) : Type 0 where
  pub output_is : s.output ≡ c.output ++ bytes
  pub input_is : s.input ≡ c.input

-- the state after a call returns: pc is its return address, the stack and the frame are as before
pub record Returned (w : World) (p : Pointers) (c : Console) (s : State) : Type 0 where
  pub gp : ℕ
  pub acc : ℕ
  pub memory : Bytes
  pub at : At w (record p { pc = p.ra; gp = gp; acc = acc }) memory c s
