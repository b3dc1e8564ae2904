-- `Acted` and `Goes` define the execution of instructions one after another: `Acted` relates one operation of the simulator to the machine's definition, and
-- `Goes` says that n instructions lead from one state to another.
use Rattle.std.specs.Prelude.{◌≡◌, refl, ℕ, zero, suc, ◌+◌, ◌-◌, ◌*◌, ◌/◌, ◌%◌, ◌^◌, nat_lt, not, ◌||◌, Bool, true, false, List, [], ◌∷◌, get_or, Option, Some, None, Result, Ok, Err}
use Rattle.mips_isa.specs.declared.address_map.TheConstants.{TEXT_START}
use Rattle.mips_isa.specs.Bytes.{Segments}
use Rattle.mips_isa.specs.Machine.{Core, Next, On, Call, Stop, step}
use Rattle.spim_cpu.specs.Cpu.{CpuParts, core_of}
use Rattle.spim_cpu.specs.declared.step.Step.{Step}
use Rattle.spim_cpu.specs.declared.step.Step.TheVariants as answer

-- the state with another pc
abbrev pub at : ℕ → Core → Core
at pc s = record s { pc = pc }

-- An operation at pc did what the definition does next: it returns the next pc, or that it is a call or traps, and then it changes nothing. The
-- processor's own pc stays.
abbrev pub Acted : ℕ → Next → Result ℕ Step → CpuParts → CpuParts → Type 0
Acted pc next (Ok after) old new = next ≡ On (at after (core_of new))
Acted pc next (Err answer.Next) old new = ⊥
Acted pc next (Err answer.Call) old new = (next ≡ Call (at (pc + 4) (core_of old))) × (new ≡ old)
Acted pc next (Err (answer.Trap t)) old new = (next ≡ Stop t) × (new ≡ old)

-- So many instructions lead from a state to a state; none of them is a system call or traps, and none stands at a break address.
abbrev pub Goes : (ℕ → Bool) → List ℕ → Segments → ℕ → Core → Core → Type 0
Goes breaks text b zero s t = t ≡ s
Goes breaks text b (suc n) s t = (before : Core) × Goes breaks text b n s before × (breaks before.pc ≡ false) × (step text b before ≡ On t)

-- The index of the word at an address of the text: the offset from the text's start, in 32 bits, turned to the right by two.
abbrev pub word_index : ℕ → ℕ
word_index a = (a + 2 ^ 32 - TEXT_START) % 2 ^ 32 / 4 + (a + 2 ^ 32 - TEXT_START) % 2 ^ 32 % 4 * 2 ^ 30

second_word : word_index 0x00400004 ≡ 1
second_word = refl

no_word : word_index 0x00400006 ≡ 0x80000001
no_word = refl

-- whether the word at an address has a mark that is set, of the marks of the words from the first one on
abbrev pub is_marked : List Bool → ℕ → Bool
is_marked marks a = get_or marks (word_index a) false

second_marked : is_marked (false ∷ true ∷ []) 0x00400004 ≡ true
second_marked = refl

none_marked : is_marked (false ∷ true ∷ []) 0x00400008 ≡ false
none_marked = refl

-- whether the word at an address has a mark that is set, of marks or none
abbrev pub has_mark : Option (List Bool) → ℕ → Bool
has_mark None a = false
has_mark (Some marks) a = is_marked marks a

-- a number that is no address of 32 bits
abbrev pub is_past : ℕ → Bool
is_past a = not (nat_lt a (2 ^ 32))

-- such a number, or an address whose word has a mark that is set
abbrev pub is_stop : List Bool → ℕ → Bool
is_stop marks a = is_past a || is_marked marks a
