-- The assembly lines generated for an accepted program can be printed, and parsing the printed text gives the same lines.
use Rattle.std.proofs.Common.{◌≡◌, ℕ, zero, suc, List, [], ◌∷◌, length, subst, sym, arith, Contains}
use Rattle.std.specs.List.{AllByRecursion}
use Rattle.mips_isa.specs.Lines as statements
use Rattle.mips_isa.specs.Lines.{Name, Line, WordItem, Number, Address, AsmInstr, Plain, ToTwo, ToOne, ToJump, La, Li, Move, Neg, Nop, B, BranchZero, BranchOrder, Mul, DataItem, Word, Byte, Ascii, Asciiz, Space, AsmDirective, ToText, ToData, Globl, Align, Statement, IsItem, IsDataInRange, IsDirectiveInRange, IsInstructionInRange, IsInRange}
use Rattle.mips_isa.specs.Assembly.{directive_line, names_of_instruction, names_of_items}
use Rattle.mips_text.specs.Printable.{ArePrintable, IsName, IsPrintable, IsPrintableData, IsPrintableDirective, IsPrintableStatement}
use Rattle.mips_text.specs.Printing.{printed}
use Rattle.mips_text.specs.Reading.{Reads}
use Rattle.mips_text.proofs.PrintedLines.{printed_is_read}
use Rattle.cool_classes.specs.Chains.{Class}
use Rattle.cool_faults.specs.Verdicts.{IsAccepted}
use Rattle.cool_rules.specs.Fits.{Fits}
use Rattle.cool_emit.specs.Programs.{program_text, program_data, program_lines, IsBuildable}
use Rattle.cool_emit.specs.SoundLines.{IsText, IsTextInstruction, IsData, IsDataItem, IsDataWord, IsDataDirective, AreText, AreData, labels_of}
use Rattle.cool_emit.proofs.ProgramsAreSound.{programs_sound}
use Rattle.cool_simulation.specs.Theorem.{AreFileNames}
use Rattle.cool_simulation.proofs.theorem.FilledWords.{IsFilled, IsFilledItem, AreFilled, data_filled}
use Rattle.cool_simulation.proofs.theorem.NamedCode.{AreNamed, text_named}
use Rattle.cool_simulation.proofs.theorem.NamedData.{data_named, program_named}
use Rattle.lists.proofs.AllItems.{all_append, all_left, all_right}

-- a property of all names holds for one that is among them
all_there : (P : Name → Type 0) (names : List Name) (name : Name) → AllByRecursion P names → Contains names name → P name
all_there P [] name all (k, l, e) = absurd (omega arith)
all_there P (x ∷ names) name all (zero, l, e) = subst P e all.0
all_there P (x ∷ names) name all (suc k, l, e) = all_there P names name all.1 (k, omega arith, e)

module _ (target known : Name → Type 0) (targets : (name : Name) → target name → IsName name) (knowns : (name : Name) → known name → IsName name) where
  -- an instruction of text
  instruction_printable : (i : AsmInstr) → IsTextInstruction target known i → AllByRecursion IsName (names_of_instruction i) × IsInstructionInRange i
  instruction_printable (Plain i) h = (tt, h)
  instruction_printable (ToJump op name) h = ((targets name h, tt), tt)
  instruction_printable (La rd name) h = ((knowns name h.1, tt), h.0)
  instruction_printable (Li rd value) h = (tt, h)
  instruction_printable (Move rd rs) h = (tt, h)
  instruction_printable (ToTwo op rs rt name) h = absurd h
  instruction_printable (ToOne op rs name) h = absurd h
  instruction_printable (Neg rd rs) h = absurd h
  instruction_printable Nop h = absurd h
  instruction_printable (B name) h = absurd h
  instruction_printable (BranchZero op rs name) h = absurd h
  instruction_printable (BranchOrder op rs rt name) h = absurd h
  instruction_printable (Mul rd rs rt) h = absurd h

  -- a statement of text
  text_printable : (s : Statement) → IsText target known s → IsPrintableStatement s × IsInRange s
  text_printable statements.Empty h = (tt, tt)
  text_printable (statements.Instruction i) h = instruction_printable i h
  text_printable (statements.Data item) h = absurd h
  text_printable (statements.Directive directive) h = absurd h

  -- words of data
  words_printable : (items : List WordItem) → AllByRecursion (IsDataWord known) items → AllByRecursion IsName (names_of_items items) × AllByRecursion IsItem items
  words_printable [] h = (tt, tt)
  words_printable (Number n ∷ items) h = let rest = words_printable items h.1 in (rest.0, (h.0, rest.1))
  words_printable (Address name ∷ items) h = let rest = words_printable items h.1 in ((knowns name h.0, rest.0), (tt, rest.1))

  -- an item and a directive of data
  item_printable : (item : DataItem) → IsDataItem known item → IsFilledItem item → IsPrintableData item × IsDataInRange item
  item_printable (Word items) h some = let both = words_printable items h in ((some, both.0), both.1)
  item_printable (Asciiz bytes) h some = (tt, tt)
  item_printable (Byte items) h some = absurd h
  item_printable (Ascii bytes) h some = absurd h
  item_printable (Space n) h some = absurd h

  directive_printable : (d : AsmDirective) → IsDataDirective d → IsPrintableDirective d × IsDirectiveInRange d
  directive_printable (Align n) h = (tt, omega arith)
  directive_printable ToText h = absurd h
  directive_printable ToData h = absurd h
  directive_printable (Globl name) h = absurd h

  -- a statement of data
  data_printable : (s : Statement) → IsData known s → IsFilled s → IsPrintableStatement s × IsInRange s
  data_printable statements.Empty h some = (tt, tt)
  data_printable (statements.Instruction i) h some = absurd h
  data_printable (statements.Data item) h some = item_printable item h some
  data_printable (statements.Directive directive) h some = directive_printable directive h

  -- lines of text and of data, whose labels are names

  lines_of_text : (lines : List Line) → AreText target known lines → AreNamed lines → ArePrintable lines
  lines_of_text [] h named = tt
  lines_of_text (line ∷ lines) h named =
      let both = text_printable line.statement h.0 in
      (record { labels = all_left IsName line.labels (labels_of lines) named; names = both.0; ranges = both.1 }, lines_of_text lines h.1 (all_right IsName line.labels (labels_of lines) named))

  lines_of_data : (lines : List Line) → AreData known lines → AreFilled lines → AreNamed lines → ArePrintable lines
  lines_of_data [] h some named = tt
  lines_of_data (line ∷ lines) h some named =
      let both = data_printable line.statement h.0 some.0 in
      (record { labels = all_left IsName line.labels (labels_of lines) named; names = both.0; ranges = both.1 }, lines_of_data lines h.1 some.1 (all_right IsName line.labels (labels_of lines) named))

-- the lines of a program that is typed and keeps the limits can be printed
pub buildable_printable : (p : List Class) (names : List (List ℕ)) → IsBuildable p names → ArePrintable (program_lines p names)
buildable_printable p names b =
    let sound = programs_sound p names b in
    let text = program_text p names in
    let items = program_data p names in
    let targets : (name : Name) → Contains (labels_of text) name → IsName name = λ name there. all_there IsName (labels_of text) name (text_named p names b) there in
    let knowns : (name : Name) → Contains (labels_of (program_lines p names)) name → IsName name = λ name there. all_there IsName (labels_of (program_lines p names)) name (program_named p names b) there in
    all_append IsPrintable text (directive_line ToData ∷ items)
    (lines_of_text (Contains (labels_of text)) (Contains (labels_of (program_lines p names))) targets knowns text sound.text_lines (text_named p names b)) (
      record { labels = tt; names = tt; ranges = tt },
      lines_of_data (Contains (labels_of text)) (Contains (labels_of (program_lines p names))) targets knowns items sound.data_lines (data_filled p names b) (data_named p names b),
    )

-- the lines of the program that files are, under names of at most 4,096 bytes, can be printed
pub programs_printable : (files names : List (List ℕ)) (p : List Class) → AreFileNames names → length names ≡ length files → IsAccepted files p → ArePrintable (program_lines p names)
programs_printable files names p named same is =
    buildable_printable p names (record { fits = subst (Fits p) (sym same) is.fits; typed = is.typed; names = named.1 })

-- their printed text is read as these lines
pub programs_read : (files names : List (List ℕ)) (p : List Class) → AreFileNames names → length names ≡ length files → IsAccepted files p → Reads (printed (program_lines p names)) (program_lines p names)
programs_read files names p named same is = printed_is_read (program_lines p names) (programs_printable files names p named same is)
