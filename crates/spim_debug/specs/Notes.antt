-- The texts of the notes (messages) that the debugger writes after each command, by the state of the run. They are described in `docs/debugger.md`, Notes.
use Rattle.std.specs.Prelude.{◌≡◌, refl, ℕ, zero, suc, ◌+◌, ◌-◌, ◌/◌, List, [], ◌∷◌, ◌++◌, length, flat_map, take, drop, codes, decimal, Option, Some, None, Result, Ok, Err}
use Rattle.std.specs.Int.{w32, to_be_bytes}
use Rattle.std.specs.List.{range_with_len}
use Rattle.std.specs.Fmt as decimals
use Rattle.hex.specs.Hex.{encode_lower, encode_with}
use Rattle.mips_isa.specs.declared.address_map.TheConstants.{TEXT_START}
use Rattle.mips_isa.specs.declared.instr.Instr.{Instr}
use Rattle.mips_isa.specs.Bytes.{Bytes, Segments, readable, word}
use Rattle.mips_isa.specs.Machine.{Core, wrap}
use Rattle.mips_isa.specs.Calls.{State, Outcome, Running, Exited, Trapped}
use Rattle.mips_isa.specs.Decoding.{decoded}
use Rattle.mips_text.specs.Printing.{plain_text}
use Rattle.spim_memory.specs.Memory.{accessed}
use Rattle.spim_memory.specs.declared.fault.MemFault.{MemFault}
use Rattle.spim_memory.specs.declared.fault.MemFault.TheVariants.{Unaligned, BadAddress}
use Rattle.spim_debug.specs.declared.script.DebugCommand.{DebugCommand}
use Rattle.spim_debug.specs.declared.script.DebugCommand.TheVariants.{Break, Delete, Step, Run, Regs, Out, Show, Words, List as ListWords}
use Rattle.spim_debug.specs.ByteCounts.{counted}
use Rattle.spim_debug.specs.Moves.{Debuggee, Progress, outcome, moves}

-- eight hexadecimal digits
abbrev pub digits : ℕ → List ℕ
digits a = encode_lower (to_be_bytes w32 a)

-- a word, or an address
abbrev pub word_text : ℕ → List ℕ
word_text a = codes "0x" ++ digits a

-- the address of the run, or that it has ended, after so many instructions
abbrev pub at_note : ℕ → ℕ → List ℕ
at_note pc n = codes "at " ++ (word_text pc ++ (codes " after " ++ (decimal n ++ codes "\n")))

abbrev pub ended_note : ℕ → List ℕ
ended_note n = codes "ended after " ++ (decimal n ++ codes "\n")

abbrev pub place_note : Outcome → ℕ → List ℕ
place_note (Running s) n = at_note s.core.pc n
place_note (Exited code s) n = ended_note n
place_note (Trapped trap s) n = ended_note n

-- pc, and the 32 registers in order
abbrev pub spaced : ℕ → List ℕ
spaced n = codes " " ++ digits n

abbrev pub registers_note : Core → List ℕ
registers_note c = codes "regs" ++ (spaced c.pc ++ (flat_map (λ k. spaced (c.registers k)) (range_with_len 0 32) ++ codes "\n"))

-- the number of bytes of output, by their count
abbrev pub counted_note : ℕ → List ℕ
counted_note n = codes "out " ++ (decimal n ++ codes "\n")

abbrev pub output_note : List ℕ → List ℕ
output_note output = counted_note (counted (length output))

-- the word at an address, or why it may not be loaded
abbrev pub loaded_text : Result ℕ MemFault → List ℕ
loaded_text (Ok n) = word_text n
loaded_text (Err (BadAddress a)) = codes "bad address"
loaded_text (Err (Unaligned a)) = codes "unaligned address"

abbrev pub loaded : Segments → Bytes → ℕ → Result ℕ MemFault
loaded b m a = accessed 4 (readable b a 4) a (word m a)

abbrev pub memory_note : Segments → Bytes → ℕ → List ℕ
memory_note b m a = word_text a ++ (codes ": " ++ (loaded_text (loaded b m a) ++ codes "\n"))

-- a word after a space, and what follows it; the first that may not be loaded is the last
abbrev pub and_later : Result ℕ MemFault → List ℕ → List ℕ
and_later (Ok n) later = codes " " ++ (loaded_text (Ok n) ++ later)
and_later (Err fault) later = codes " " ++ loaded_text (Err fault)

-- so many words from an address on, which has 32 bits
abbrev pub words_text : Segments → Bytes → ℕ → ℕ → List ℕ
words_text b m a zero = []
words_text b m a (suc n) = and_later (loaded b m a) (words_text b m (wrap (a + 4)) n)

abbrev pub words_note : Segments → Bytes → ℕ → ℕ → List ℕ
words_note b m a n = word_text a ++ (codes ":" ++ (words_text b m a n ++ codes "\n"))

-- the instruction of a word
abbrev pub instruction_text : Option Instr → List ℕ
instruction_text None = codes "no instruction"
instruction_text (Some i) = plain_text i

abbrev pub listed : ℕ → ℕ → List ℕ
listed a w = word_text a ++ (codes ": " ++ (instruction_text (decoded w) ++ codes "\n"))

-- a note for each of the words from an address on
abbrev pub listed_from : ℕ → List ℕ → List (List ℕ)
listed_from a [] = []
listed_from a (w ∷ words) = listed a w ∷ listed_from (a + 4) words

-- so many words of a text, from an address on, as far as the text goes
abbrev pub words_from : List ℕ → ℕ → ℕ → List ℕ
words_from text a n = take n (drop ((a - TEXT_START) / 4) text)

-- the state of a run, or the one that its end left
abbrev pub state_in : Outcome → State
state_in (Running s) = s
state_in (Exited code s) = s
state_in (Trapped trap s) = s

-- the notes of a command, after which so many instructions are executed
abbrev pub notes : Debuggee → DebugCommand → ℕ → List (List ℕ)
notes d (Break a) n = []
notes d (Delete a) n = []
notes d (Step most) n = place_note (outcome d n) n ∷ []
notes d Run n = place_note (outcome d n) n ∷ []
notes d Regs n = registers_note (state_in (outcome d n)).core ∷ []
notes d Out n = output_note (state_in (outcome d n)).output ∷ []
notes d (Show a) n = memory_note d.segments (state_in (outcome d n)).core.memory a ∷ []
notes d (Words a many) n = words_note d.segments (state_in (outcome d n)).core.memory a many ∷ []
notes d (ListWords a most) n = listed_from a (words_from d.text a most)

-- the notes of commands, from here on
abbrev pub all_notes : Debuggee → List DebugCommand → Progress → List (List ℕ)
all_notes d [] p = []
all_notes d (command ∷ rest) p = notes d command (moves d command p).executed ++ all_notes d rest (moves d command p)

-- worked examples
where_it_is : word_text 0x0040000a ≡ codes "0x0040000a"
unfolding encode_with
where_it_is = refl

a_listed_word : listed 0x00400000 0x3c041000 ≡ codes "0x00400000: lui $a0, 4096\n"
unfolding encode_with decoded decimals.digits
a_listed_word = refl

no_word_there : memory_note (record { text_end = 0x00400004; data_end = 0x10000000; heap_end = 0x20000000; stack_low = 0x7fff0000 }) (λ a. 0) 0x00400005
    ≡ codes "0x00400005: unaligned address\n"
unfolding encode_with
no_word_there = refl

three_bytes : output_note (72 ∷ 105 ∷ 10 ∷ []) ≡ codes "out 3\n"
unfolding decimals.digits
three_bytes = refl

abbrev some_segments : Segments
some_segments = record { text_end = 0x00400004; data_end = 0x10000008; heap_end = 0x20000000; stack_low = 0x7fff0000 }

two_words : words_note some_segments (λ a. 0) 0x10000000 2 ≡ codes "0x10000000: 0x00000000 0x00000000\n"
unfolding encode_with word
two_words = refl

third_is_none : words_note some_segments (λ a. 0) 0x10000000 4 ≡ codes "0x10000000: 0x00000000 0x00000000 bad address\n"
unfolding encode_with word
third_is_none = refl

first_is_none : words_note some_segments (λ a. 0) 0x10000002 2 ≡ codes "0x10000002: unaligned address\n"
unfolding encode_with word
first_is_none = refl
