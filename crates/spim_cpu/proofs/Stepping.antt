-- If the processor executes a decoded operation, it makes the next step of the machine's definition.
use Rattle.std.proofs.Common.{◌≡◌, ◌∙◌, refl, sym, ap, subst, ℕ, ◌+◌, ◌-◌, ◌*◌, ◌/◌, ◌%◌, ◌<◌, ◌≤◌, Bool, true, false, List, length, get_or, arith}
use Rattle.std.specs.Prelude.{Option, Ok, Err, IfSome, ◌==◌, if◌then◌else◌, not}
use Rattle.mips_isa.specs.declared.instr.Instr.{Instr}
use Rattle.mips_isa.specs.declared.address_map.TheConstants.{TEXT_START, DATA_START}
use Rattle.mips_isa.specs.Bytes.{Segments, lies}
use Rattle.mips_isa.specs.declared.trap.TrapKind.TheVariants as kind
use Rattle.mips_isa.specs.Words.{InRange}
use Rattle.mips_isa.specs.Decoding.{decoded}
use Rattle.mips_isa.specs.Machine.{Core, Next, On, Call, Stop, act_or_none, word_of_text, step}
use Rattle.spim_memory.specs.Memory.{MemoryParts, segments, accessed}
use Rattle.spim_memory.specs.Operations.{instr_of, AreOf}
use Rattle.spim_memory.specs.declared.operation.Operation.{Operation}
use Rattle.spim_memory.specs.declared.fault.MemFault.{MemFault}
use Rattle.spim_memory.specs.declared.fault.MemFault.TheVariants.{Unaligned, BadAddress}
use Rattle.spim_memory.proofs.DecodedInRange.{in_range}
use Rattle.spim_cpu.specs.Cpu.{CpuParts, core_of, Stepped}
use Rattle.spim_cpu.specs.Advancing.{at, word_index}
use Rattle.spim_cpu.specs.declared.step.Step.TheVariants as answer

-- an access that returns a value was not refused
not_refused : {X : Type 0} (even may : Bool) (e f : MemFault) (x y : X) (g h n : Next) → (if not even then Err e else (if not may then Err f else Ok x)) ≡ Ok y → (x ≡ y) × ((if not even then g else (if not may then h else n)) ≡ n)
not_refused true true e f x y g h n is = (cc, refl)
not_refused true false e f x y g h n is = absurd cc
not_refused false may e f x y g h n is = absurd cc

-- the instruction that was found is the one that is executed
fetched : (text : List ℕ) (b : Segments) (s : Core) (o : Option Instr) → accessed 4 (lies TEXT_START b.text_end s.pc 4) s.pc (decoded (word_of_text text s.pc)) ≡ Ok o → step text b s ≡ act_or_none b o s
fetched text b s o found =
    let both = not_refused (s.pc % 4 == 0) (lies TEXT_START b.text_end s.pc 4) (Unaligned s.pc) (BadAddress s.pc) (decoded (word_of_text text s.pc)) o (Stop (record { kind = kind.Unaligned; address = s.pc; pc = s.pc })) (Stop (record { kind = kind.BadAddress; address = s.pc; pc = s.pc })) (act_or_none b (decoded (word_of_text text s.pc)) s) found in
    both.1 ∙ ap (λ i. act_or_none b i s) both.0

-- the step at pc, by what was found in a memory that is the processor's
pub next_step : (now : CpuParts) (m : MemoryParts) (o : Option Instr) (pc : ℕ) (n : Next) → m ≡ now.memory → pc ≡ now.pc → accessed 4 (lies TEXT_START (segments m).text_end pc 4) pc (decoded (word_of_text m.text pc)) ≡ Ok o
    → act_or_none (segments now.memory) o (at pc (core_of now)) ≡ n → step now.memory.text (segments now.memory) (core_of now) ≡ n
next_step now m o pc n same_memory same found acts =
    let here = subst (λ (q : MemoryParts). accessed 4 (lies TEXT_START (segments q).text_end pc 4) pc (decoded (word_of_text q.text pc)) ≡ Ok o) same_memory found in
    sym (ap (λ a. step now.memory.text (segments now.memory) (at a (core_of now))) same) ∙ fetched now.memory.text (segments now.memory) (at pc (core_of now)) o here ∙ acts

-- the operation at the address of a word is that of the word
operation_is : (text : List ℕ) (all : List Operation) (pc i : ℕ) (op : Operation) → AreOf all text → length all ≤ 66060288 → pc < 4294967296 → i ≡ word_index pc
    → i < length all → ((e : Operation) → op ≡ get_or all i e) → (i < length text) × (instr_of op ≡ decoded (word_of_text text pc))
operation_is text all pc i op are few fits is within found =
    let here = are i op within in
    let index : i ≡ (pc - TEXT_START) / 4 = omega (arith, is, within, few, fits) in
    (here.0, ap instr_of (found op) ∙ here.1 ∙ ap (λ k. decoded (get_or text k 0)) index)

-- the step at the address of a word
pub steps_by : (m : MemoryParts) (t : List ℕ) (all : List Operation) (pc i : ℕ) (s : Core) (op : Operation) → AreOf all t → t ≡ m.text → length all ≤ 66060288 → pc < 4294967296 → i ≡ word_index pc
    → i < length all → ((e : Operation) → op ≡ get_or all i e) → step m.text (segments m) (at pc s) ≡ act_or_none (segments m) (instr_of op) (at pc s)
steps_by m t all pc i s op are same few fits is within found =
    let here = operation_is m.text all pc i op (subst (λ (words : List ℕ). AreOf all words) same are) few fits is within found in
    let even : pc % 4 ≡ 0 = omega (arith, is, within, few, fits) in
    let from : TEXT_START ≤ pc = omega (arith, is, within, few, fits) in
    let to : pc + 4 ≤ TEXT_START + 4 * length m.text = omega (arith, here.0, is, within, few, fits) in
    let may : lies TEXT_START (TEXT_START + 4 * length m.text) pc 4 ≡ true = grind (arith, from, to) in
    rw (even, may) (ap (λ o. act_or_none (segments m) o (at pc s)) (sym here.1))

-- its operation is in range, and its address in the text
pub operation_in_range : (t : List ℕ) (all : List Operation) (pc i : ℕ) (op : Operation) → AreOf all t → length all ≤ 66060288 → pc < 4294967296 → i ≡ word_index pc
    → i < length all → ((e : Operation) → op ≡ get_or all i e) → IfSome (instr_of op) InRange
operation_in_range t all pc i op are few fits is within found =
    in_range (word_of_text t pc) (instr_of op) (operation_is t all pc i op are few fits is within found).1

pub in_text : (all : List Operation) (pc i : ℕ) → length all ≤ 66060288 → pc < 4294967296 → i ≡ word_index pc → i < length all → pc < DATA_START
in_text all pc i few fits is within = omega (arith, is, within, few, fits)

-- the definition's next step, for an operation that leads on, and for one that is a call
led_on : (n : Next) (core : Core) (old new : CpuParts) → n ≡ On core → core_of new ≡ core → Stepped n answer.Next old new
led_on (On other) core old new is same =
    let eq : other ≡ core = cc in
    same ∙ sym eq
led_on (Call other) core old new is same = absurd cc
led_on (Stop trap) core old new is same = absurd cc

called : (n : Next) (core : Core) (old new : CpuParts) → n ≡ Call core → core_of new ≡ core → Stepped n answer.Call old new
called (Call other) core old new is same =
    let eq : other ≡ core = cc in
    same ∙ sym eq
called (On other) core old new is same = absurd cc
called (Stop trap) core old new is same = absurd cc

-- a step to the pc that an operation returns
pub stepped_on : (n : Next) (after : ℕ) (old new : CpuParts) (l : List ℕ) (hi lo pc : ℕ) (m : MemoryParts)
    → record { registers = l; hi = hi; lo = lo; pc = pc; memory = m } ≡ new → n ≡ On (at after (core_of new)) → Stepped n answer.Next old (record { registers = l; hi = hi; lo = lo; pc = after; memory = m })
stepped_on n after old new l hi lo pc m same is =
    led_on n (at after (core_of new)) old (record { registers = l; hi = hi; lo = lo; pc = after; memory = m }) is (ap (λ (c : CpuParts). at after (core_of c)) same)

-- a system call
pub stepped_call : (n : Next) (old new : CpuParts) (l : List ℕ) (hi lo pc : ℕ) (m : MemoryParts)
    → record { registers = l; hi = hi; lo = lo; pc = pc; memory = m } ≡ new → new ≡ old → (after : ℕ) → pc ≡ after → n ≡ Call (at (after + 4) (core_of old)) → Stepped n answer.Call old (record { registers = l; hi = hi; lo = lo; pc = pc + 4; memory = m })
stepped_call n old new l hi lo pc m same kept after is_pc is =
    called n (at (after + 4) (core_of old)) old (record { registers = l; hi = hi; lo = lo; pc = pc + 4; memory = m }) is
    (ap (λ k. at (k + 4) (core_of (record { registers = l; hi = hi; lo = lo; pc = pc; memory = m }))) is_pc ∙ ap (λ (c : CpuParts). at (after + 4) (core_of c)) (same ∙ kept))
