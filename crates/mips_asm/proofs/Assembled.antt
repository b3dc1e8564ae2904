-- Lemmas on the second pass, one line after another: the words and bytes that a statement adds to text and data, the position after it, and its error if it has
-- one.
use Rattle.std.proofs.Common.{◌≡◌, refl, sym, ◌∙◌, ap, ℕ, suc, ◌+◌, ◌-◌, ◌*◌, ◌/◌, ◌%◌, ◌≤◌, ◌||◌, not, is_some, ℤ, nat_lt, List, [], ◌∷◌, ◌++◌, length, flat_map, replicate, Bool, true, false, Option, Some, None, if◌then◌else◌, arith, lit≤}
use Rattle.std.proofs.lemmas.List.{append_assoc, length-append, length-map, length-replicate}
use Rattle.std.proofs.Math.Nat.{mul_comm}
use Rattle.std.proofs.lemmas.Nat.{pow_pos}
use Rattle.mips_isa.specs.declared.place.Place.{Place}
use Rattle.mips_isa.specs.declared.place.Segment.{Segment}
use Rattle.mips_isa.specs.declared.place.Segment.TheVariants.{Text, Data}
use Rattle.mips_isa.specs.declared.line.OrderOp.{OrderOp}
use Rattle.mips_isa.specs.declared.line.OrderOp.TheVariants.{Bgt, Bge, Blt, Ble}
use Rattle.mips_isa.specs.declared.asm_fault.AsmKind.{AsmKind}
use Rattle.mips_isa.specs.declared.asm_fault.AsmKind.TheVariants.{A5, A6, A7, A8, A9}
use Rattle.mips_isa.specs.declared.asm_fault.AsmFault.{AsmFault}
use Rattle.mips_isa.specs.declared.address_map.TheConstants.{TEXT_START}
use Rattle.mips_isa.specs.Words.{word_of, bits_of}
use Rattle.mips_isa.specs.Lines as statements
use Rattle.mips_isa.specs.Lines.{Name, WordItem, Line, AreInRange, AsmInstr, ToTwo, ToOne, ToJump, La, B, BranchZero, BranchOrder, DataItem, Word, Byte, Ascii, Asciiz, Space, AsmDirective, ToText, Align, Statement, Empty, Instruction, Directive}
use Rattle.mips_isa.specs.Assembly as assembly
use Rattle.mips_isa.specs.Assembly.{Need, need, Position, start_position, up, after_need, after_line, padding, words_of_instruction, need_of_data, need_of_directive, expansion, instructions, order_branch, bytes_of_data, item_bytes, item_value, four_bytes, address_or_zero, text_from, bytes_from, is_too_large, is_wrong, any_twice, defining_fault, fault_or, first_pass, second_pass, using_fault, any_without_place, used, reaches, instruction_reaches, names_of_instruction, offset, branch_reaches, jump_reaches}
use Rattle.mips_asm.specs.Completing.{segment_after_need}
use Rattle.mips_asm.specs.TextWords.{words_needed}
use Rattle.mips_asm.specs.SecondPasses.{Assembled, filled}
use Rattle.mips_asm.specs.Parts.{instruction_fault, statement_fault, target_fault, found, words_of_statement, bytes_of_statement, zeros}
use Rattle.std.proofs.lemmas.Bool.{or_parts, ltb-false}

-- The words and bytes that a statement adds

abbrev pub bytes_needed : Need → ℕ
bytes_needed assembly.Nothing = 0
bytes_needed (assembly.Words n) = 0
bytes_needed (assembly.Item unit size) = size
bytes_needed (assembly.Switch segment) = 0
bytes_needed (assembly.Padding unit) = 0

length_of_order : (op : OrderOp) (rs rt : ℕ) (imm : ℤ) → length (order_branch op rs rt imm) ≡ 2
length_of_order Bgt rs rt imm = refl
length_of_order Bge rs rt imm = refl
length_of_order Blt rs rt imm = refl
length_of_order Ble rs rt imm = refl

length_of_expansion : (address : Name → ℕ) (at : ℕ) (i : AsmInstr) → length (expansion address at i) ≡ words_of_instruction i
length_of_expansion address at (BranchOrder op rs rt target) = length_of_order op rs rt (offset (at + 4) (address target))
length_of_expansion address at _ = refl

pub length_of_instructions : (address : Name → ℕ) (at : ℕ) (s : Statement) → length (instructions address at s) ≡ words_needed (need s)
length_of_instructions address at Empty = refl
length_of_instructions address at (Instruction i) = length_of_expansion address at i
length_of_instructions address at (statements.Data item) = of_data item
  where
    of_data : (item : DataItem) → 0 ≡ words_needed (need_of_data item)
    of_data (Word list) = refl
    of_data _ = refl
length_of_instructions address at (Directive directive) = of_directive directive
  where
    of_directive : (directive : AsmDirective) → 0 ≡ words_needed (need_of_directive directive)
    of_directive ToText = refl
    of_directive _ = refl

length_of_words : (address : Name → ℕ) (list : List WordItem) → length (flat_map (λ item. four_bytes (item_value address item)) list) ≡ 4 * length list
length_of_words address [] = refl
length_of_words address (item ∷ rest) = omega (arith, length_of_words address rest)

length_of_data : (address : Name → ℕ) (item : DataItem) → length (bytes_of_data address item) ≡ bytes_needed (need_of_data item)
length_of_data address (Word list) = length_of_words address list
length_of_data address (Byte list) = length-map list (λ n. bits_of n % 256)
length_of_data address (Ascii bytes) = refl
length_of_data address (Asciiz bytes) = length-append bytes (0 ∷ [])
length_of_data address (Space n) = length-replicate n 0

pub length_of_item : (address : Name → ℕ) (s : Statement) → length (item_bytes address s) ≡ bytes_needed (need s)
length_of_item address Empty = refl
length_of_item address (Instruction i) = refl
length_of_item address (statements.Data item) = length_of_data address item
length_of_item address (Directive directive) = of_directive directive
  where
    of_directive : (directive : AsmDirective) → 0 ≡ bytes_needed (need_of_directive directive)
    of_directive ToText = refl
    of_directive _ = refl

-- units are not 0

abbrev pub HasUnit : Need → Type 0
HasUnit assembly.Nothing = Unit {0}
HasUnit (assembly.Words n) = Unit {0}
HasUnit (assembly.Item unit size) = 1 ≤ unit
HasUnit (assembly.Switch segment) = Unit {0}
HasUnit (assembly.Padding unit) = 1 ≤ unit

unit_of_data : (item : DataItem) → HasUnit (need_of_data item)
unit_of_data (Word list) = lit≤ tt
unit_of_data _ = lit≤ tt

unit_of_directive : (directive : AsmDirective) → HasUnit (need_of_directive directive)
unit_of_directive (Align n) = omega (arith, pow_pos n)
unit_of_directive _ = tt

pub unit_of : (s : Statement) → HasUnit (need s)
unit_of Empty = tt
unit_of (Instruction i) = tt
unit_of (statements.Data item) = unit_of_data item
unit_of (Directive directive) = unit_of_directive directive

pub up_from : (unit n : ℕ) → 1 ≤ unit → n ≤ up unit n
up_from unit n h = omega (arith, mul_comm ((n + (unit - 1)) / unit) unit)

up_in_parts : (unit n size : ℕ) → 1 ≤ unit → up unit n + size ≡ n + (up unit n - n + size)
up_in_parts unit n size h = let from = up_from unit n h in omega arith

-- the position after a need

same_position : (w x b c : ℕ) (g : Segment) → w ≡ x → b ≡ c → filled w b g ≡ filled x c g
same_position w x b c g e f = cc

padding_after : (unit w b : ℕ) (g : Segment) → 1 ≤ unit → after_need (assembly.Padding unit) (filled w b g) ≡ filled (w + 0) (b + (zeros (assembly.Padding unit) g b + 0)) g
padding_after unit w b Text h = same_position _ _ _ _ Text (omega arith) (omega arith)
padding_after unit w b Data h = let from = up_from unit b h in same_position _ _ _ _ Data (omega arith) (omega arith)

position_after : (n : Need) (w b : ℕ) (g : Segment) → HasUnit n → after_need n (filled w b g) ≡ filled (w + words_needed n) (b + (zeros n g b + bytes_needed n)) (segment_after_need n g)
position_after assembly.Nothing w b g h = same_position _ _ _ _ g (omega arith) (omega arith)
position_after (assembly.Words n) w b g h = same_position _ _ _ _ g refl (omega arith)
position_after (assembly.Item unit size) w b g h = same_position _ _ _ _ g (omega arith) (up_in_parts unit b size h)
position_after (assembly.Switch segment) w b g h = same_position _ _ _ _ segment (omega arith) (omega arith)
position_after (assembly.Padding unit) w b g h = padding_after unit w b g h

padding_is : (n : Need) (w b : ℕ) (g : Segment) → padding n (filled w b g) ≡ zeros n g b
padding_is assembly.Nothing w b g = refl
padding_is (assembly.Words n) w b g = refl
padding_is (assembly.Item unit size) w b g = refl
padding_is (assembly.Switch segment) w b g = refl
padding_is (assembly.Padding unit) w b g = refl

-- the position after what a statement adds
statement_after : (place : Name → Option Place) (s : Statement) (text bytes : List ℕ) (g : Segment) → filled (length (text ++ words_of_statement place (length text) s)) (length (bytes ++ bytes_of_statement place g (length bytes) s)) (segment_after_need (need s) g) ≡ after_need (need s) (filled (length text) (length bytes) g)
statement_after place s text bytes g =
    let address : Name → ℕ = λ name. address_or_zero (place name) in
    let at : ℕ = TEXT_START + 4 * length text in
    let words : length (text ++ words_of_statement place (length text) s) ≡ length text + words_needed (need s) =
    length-append text (words_of_statement place (length text) s)
    ∙ ap (λ n. length text + n) (length-map (instructions address at s) word_of ∙ length_of_instructions address at s) in
    let item : length (bytes_of_statement place g (length bytes) s) ≡ zeros (need s) g (length bytes) + bytes_needed (need s) =
    length-append (replicate (zeros (need s) g (length bytes)) 0) (item_bytes address s)
    ∙ ap (λ n. n + length (item_bytes address s)) (length-replicate (zeros (need s) g (length bytes)) 0)
    ∙ ap (λ n. zeros (need s) g (length bytes) + n) (length_of_item address s) in
    let added : length (bytes ++ bytes_of_statement place g (length bytes) s) ≡ length bytes + (zeros (need s) g (length bytes) + bytes_needed (need s)) =
    length-append bytes (bytes_of_statement place g (length bytes) s) ∙ ap (λ n. length bytes + n) item in
    same_position _ _ _ _ (segment_after_need (need s) g) words added ∙ sym (position_after (need s) (length text) (length bytes) g (unit_of s))

-- The fault of a statement is that of its instruction's target, or of its item of data

chosen : (b : Bool) → (if not b then Some A7 else None) ≡ (if b then None else Some A7)
chosen true = refl
chosen false = refl

one_target : (at : ℕ) (i : AsmInstr) (o : Option Place) (test : Option Place → Bool) → ((p : Place) → instruction_reaches (λ name. Some p) at i ≡ test (Some p)) → (if (not (is_some o) || false) then Some A6 else (if not (test o) then Some A7 else None)) ≡ target_fault at i (found o)
one_target at i None test e = refl
one_target at i (Some p) test e = chosen (test (Some p)) ∙ ap (λ b. if b then None else Some A7) (sym (e p))

instruction_using : (place : Name → Option Place) (at : ℕ) (i : AsmInstr) → (if any_without_place place (names_of_instruction i) then Some A6 else (if not (instruction_reaches place at i) then Some A7 else None)) ≡ instruction_fault place at i
instruction_using place at (ToTwo op rs rt target) = one_target at (ToTwo op rs rt target) (place target) (branch_reaches at) (λ p. refl)
instruction_using place at (ToOne op rs target) = one_target at (ToOne op rs target) (place target) (branch_reaches at) (λ p. refl)
instruction_using place at (ToJump op target) = one_target at (ToJump op target) (place target) jump_reaches (λ p. refl)
instruction_using place at (La rd label) = one_target at (La rd label) (place label) (λ o. true) (λ p. refl)
instruction_using place at (B target) = one_target at (B target) (place target) (branch_reaches at) (λ p. refl)
instruction_using place at (BranchZero op rs target) = one_target at (BranchZero op rs target) (place target) (branch_reaches at) (λ p. refl)
instruction_using place at (BranchOrder op rs rt target) = one_target at (BranchOrder op rs rt target) (place target) (branch_reaches (at + 4)) (λ p. refl)
instruction_using place at _ = refl

pub using_is : (place : Name → Option Place) (words : ℕ) (s : Statement) → (if any_without_place place (used s) then Some A6 else (if not (reaches place (TEXT_START + 4 * words) s) then Some A7 else None)) ≡ statement_fault place words s
using_is place words Empty = refl
using_is place words (Instruction i) = instruction_using place (TEXT_START + 4 * words) i
using_is place words (statements.Data item) = refl
using_is place words (Directive directive) = refl

-- The absence of a fault

no_kind : (n : ℕ) (kind : Option AsmKind) (other : Option AsmFault) → fault_or n kind other ≡ None → kind ≡ None
no_kind n None other e = refl
no_kind n (Some kind) other e = cc

no_other : (n : ℕ) (kind : Option AsmKind) (other : Option AsmFault) → fault_or n kind other ≡ None → other ≡ None
no_other n None other e = e
no_other n (Some kind) other e = cc

last_test : (a b c : Bool) → (if a then Some A8 else (if b then Some A5 else (if c then Some A9 else None))) ≡ None → c ≡ false
last_test true b c e = cc
last_test false true c e = cc
last_test false false true e = cc
last_test false false false e = refl

small : (p : Position) → is_too_large p ≡ false → (p.words ≤ 66060288) × (p.bytes ≤ 268435456)
small p e =
    let both = or_parts (nat_lt 66060288 p.words) (nat_lt 268435456 p.bytes) e in
    (ltb-false 66060288 p.words both.0, ltb-false 268435456 p.bytes both.1)

-- Lines, one after another

-- none is assembled yet
pub none_assembled : (place : Name → Option Place) (all : List Line) → AreInRange all → first_pass [] start_position 1 all ≡ None → Assembled place all all 1 [] [] Text
none_assembled place all ranges first = record {
  ranges = ranges;
  seen = [];
  from = 1;
  first = first;
  fault = refl;
  text_is = refl;
  bytes_is = refl;
  words_fit = lit≤ tt;
  bytes_fit = lit≤ tt;
}

-- one line further
line_further : (place : Name → Option Place) (all : List Line) (line : Line) (rest : List Line) (number : ℕ) (text bytes : List ℕ) (g : Segment) → Assembled place all (line ∷ rest) number text bytes g → statement_fault place (length text) line.statement ≡ None → Assembled place all rest (suc number) (text ++ words_of_statement place (length text) line.statement) (bytes ++ bytes_of_statement place g (length bytes) line.statement) (segment_after_need (need line.statement) g)
line_further place all line rest number text bytes g left none =
    let address : Name → ℕ = λ name. address_or_zero (place name) in
    let s : Statement = line.statement in
    let p : Position = filled (length text) (length bytes) g in
    let words : List ℕ = words_of_statement place (length text) s in
    let item : List ℕ = bytes_of_statement place g (length bytes) s in
    let q : Position = filled (length (text ++ words)) (length (bytes ++ item)) (segment_after_need (need s) g) in
    let here : q ≡ after_line line p = statement_after place s text bytes g in
    let defined : defining_fault left.seen p line ≡ None = no_kind left.from (defining_fault left.seen p line) _ left.first in
    let fits : is_too_large (after_line line p) ≡ false = last_test (is_wrong (need s) g) (any_twice left.seen line.labels) (is_too_large (after_line line p)) defined in
    let sizes = small q (ap is_too_large here ∙ fits) in
    let using : using_fault place p line ≡ None = using_is place (length text) s ∙ none in
    record {
      ranges = left.ranges.1;
      seen = left.seen ++ line.labels;
      from = suc left.from;
      first = ap (λ r. first_pass (left.seen ++ line.labels) r (suc left.from) rest) here ∙ no_other left.from (defining_fault left.seen p line) _ left.first;
      fault =
          ap (λ r. second_pass place r (suc number) rest) here
          ∙ sym (ap (λ k. fault_or number k (second_pass place (after_line line p) (suc number) rest)) using)
          ∙ left.fault;
      text_is =
          append_assoc text words (text_from address q rest)
          ∙ ap (λ r. text ++ (words ++ text_from address r rest)) here
          ∙ left.text_is;
      bytes_is =
          append_assoc bytes item (bytes_from address q rest)
          ∙ ap (λ r. bytes ++ (item ++ bytes_from address r rest)) here
          ∙ ap (λ list. bytes ++ list) (append_assoc (replicate (zeros (need s) g (length bytes)) 0) (item_bytes address s) (bytes_from address (after_line line p) rest))
          ∙ ap (λ n. bytes ++ (replicate n 0 ++ (item_bytes address s ++ bytes_from address (after_line line p) rest))) (sym (padding_is (need s) (length text) (length bytes) g))
          ∙ left.bytes_is;
      words_fit = sizes.0;
      bytes_fit = sizes.1;
    }

-- the same, for a text and bytes that are equal to those
pub one_further : (place : Name → Option Place) (all : List Line) (line : Line) (rest : List Line) (number : ℕ) (text bytes : List ℕ) (g : Segment) (longer_text longer_bytes : List ℕ) (open_now : Segment) → Assembled place all (line ∷ rest) number text bytes g → statement_fault place (length text) line.statement ≡ None → longer_text ≡ text ++ words_of_statement place (length text) line.statement → longer_bytes ≡ bytes ++ bytes_of_statement place g (length bytes) line.statement → open_now ≡ segment_after_need (need line.statement) g → Assembled place all rest (suc number) longer_text longer_bytes open_now
one_further place all line rest number text bytes g longer_text longer_bytes open_now left none a b c =
    rw (a, b, c) (line_further place all line rest number text bytes g left none)
