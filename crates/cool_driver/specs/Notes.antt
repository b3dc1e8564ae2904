-- The texts of the messages that `cool` writes to standard error. `shown` replaces those bytes of a file name that a terminal would interpret as control codes.
use Rattle.std.specs.{Prelude.{◌≡◌, refl, ℕ, List, [], ◌++◌, map, codes, decimal}, List.{concat}}
use Rattle.std.specs.Fmt as decimals
use Rattle.cool_faults.specs.{declared.fault.Fault.{Fault}, Shown.{shown}, Texts.{fault_line}}
use Rattle.mips_isa.specs.{declared.trap.Trap.{Trap}, declared.trap.TrapKind.{TrapKind}}
use Rattle.mips_isa.specs.{declared.trap.TrapKind.TheVariants.{BadAddress, Unaligned, Overflow, NoInstruction, BadCall}, declared.asm_fault.AsmKind.{AsmKind}}
use Rattle.mips_isa.specs.{declared.asm_fault.AsmKind.TheVariants.{A1, A2, A3, A4, A5, A6, A7, A8, A9}, declared.asm_fault.AsmFault.{AsmFault}}
use Rattle.spim_debug.specs.{declared.script.ScriptKind.{ScriptKind}, declared.script.ScriptKind.TheVariants.{B1, B2}, declared.script.ScriptFault.{ScriptFault}, Notes.{digits}}
use Rattle.cool_session.specs.{declared.ending.Ending.{Ending}, declared.ending.Ending.TheVariants.{Over, BadCommand, EndsInFile, TooLarge}}
use Rattle.mips_image.specs.{declared.image_error.ImageError.{ImageError}, declared.image_error.ImageError.TheVariants.{Memory, I1, I2, I3, I4, I5}}

-- a line for each fault of the files of these names
abbrev pub refused_note : List (List ℕ) → List Fault → List ℕ
refused_note names faults = concat (map (fault_line names) faults)

abbrev pub usage_note : List ℕ
usage_note = codes "cool: bad command line\n"

abbrev pub missing_note : List ℕ → List ℕ
missing_note name = codes "cool: " ++ (shown name ++ codes ": missing\n")

abbrev pub unread_note : List ℕ → List ℕ
unread_note name = codes "cool: " ++ (shown name ++ codes ": read failed\n")

abbrev pub too_many_note : List ℕ
too_many_note = codes "cool: too many files\n"

abbrev pub too_large_note : List ℕ
too_large_note = codes "cool: files too large\n"

abbrev pub heap_limit_note : List ℕ
heap_limit_note = codes "cool: heap limit\n"

abbrev pub stack_limit_note : List ℕ
stack_limit_note = codes "cool: stack limit\n"

abbrev pub step_limit_note : List ℕ
step_limit_note = codes "cool: step limit\n"

abbrev pub read_fault_note : List ℕ
read_fault_note = codes "cool: read fault\n"

-- the text of an image fault; empty if memory ran out
abbrev pub image_fault : ImageError → List ℕ
image_fault I1 = codes "I1: wrong magic\n"
image_fault I2 = codes "I2: unknown version\n"
image_fault I3 = codes "I3: too short\n"
image_fault I4 = codes "I4: sizes out of range\n"
image_fault I5 = codes "I5: bytes after the end\n"
image_fault Memory = []

abbrev pub image_note : List ℕ → ImageError → List ℕ
image_note name fault = shown name ++ (codes ": " ++ image_fault fault)

-- a fault of assembly
abbrev pub asm_words : AsmKind → List ℕ
asm_words A1 = codes "A1: unknown word"
asm_words A2 = codes "A2: wrong operand"
asm_words A3 = codes "A3: number out of range"
asm_words A4 = codes "A4: unknown directive"
asm_words A5 = codes "A5: label defined twice"
asm_words A6 = codes "A6: label not defined"
asm_words A7 = codes "A7: branch too far"
asm_words A8 = codes "A8: wrong segment"
asm_words A9 = codes "A9: segment too large"

abbrev pub asm_note : List ℕ → AsmFault → List ℕ
asm_note name fault = shown name ++ (codes ":" ++ (decimal fault.line ++ (codes ": " ++ (asm_words fault.kind ++ codes "\n"))))

-- the first fault of a script
abbrev pub script_words : ScriptKind → List ℕ
script_words B1 = codes "B1: bad script line"
script_words B2 = codes "B2: unknown label"

abbrev pub script_note : List ℕ → ScriptFault → List ℕ
script_note name fault = shown name ++ (codes ":" ++ (decimal fault.line ++ (codes ": " ++ (script_words fault.kind ++ codes "\n"))))

-- a worked example
label_in_line_3 : script_note (codes "steps.txt") (record { kind = B2; line = 3 }) ≡ codes "steps.txt:3: B2: unknown label\n"
unfolding decimals.digits shown
label_in_line_3 = refl

-- the command of a session with this number, and what is wrong with it
abbrev pub command_note : ℕ → List ℕ → List ℕ
command_note number words = codes "session:" ++ (decimal number ++ (codes ": " ++ (words ++ codes "\n")))

-- the end of a session
abbrev pub ending_note : Ending → List ℕ
ending_note Over = []
ending_note (BadCommand number) = command_note number (codes "B3: bad command")
ending_note (EndsInFile number) = command_note number (codes "B4: input ends in a file")
ending_note (TooLarge number) = command_note number (codes "B5: session too large")

-- a worked example
second_command : ending_note (TooLarge 2) ≡ codes "session:2: B5: session too large\n"
unfolding decimals.digits
second_command = refl

abbrev pub trap_words : TrapKind → List ℕ
trap_words BadAddress = codes "bad address"
trap_words Unaligned = codes "unaligned address"
trap_words Overflow = codes "overflow"
trap_words NoInstruction = codes "no instruction"
trap_words BadCall = codes "bad call"

abbrev pub trap_note : Trap → List ℕ
trap_note t = codes "trap: " ++ (trap_words t.kind ++ (codes " at 0x" ++ (digits t.address ++ (codes ", pc 0x" ++ (digits t.pc ++ codes "\n")))))
