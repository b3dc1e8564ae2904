-- The second pass of the assembler returns the image (the executable program) that the definition gives after the last line, or the definition's first error.
use Rattle.std.proofs.Common.{◌≡◌, sym, ◌∙◌, ap, subst, ℕ, suc, ◌+◌, List, [], ◌∷◌, ◌<◌, add-one, length, Bool, true, false, Option, Some, None, Result, Ok, Err, if◌then◌else◌, arith}
use Rattle.std.proofs.lemmas.List.{append-nil}
use Rattle.std.specs.Result.{OnOk, IfOk, IfErr}
use Rattle.mips_isa.specs.declared.place.Place.{Place}
use Rattle.mips_isa.specs.declared.place.Segment.{Segment}
use Rattle.mips_isa.specs.declared.place.Segment.TheVariants.{Text, Data}
use Rattle.mips_isa.specs.declared.asm_fault.AsmKind.{AsmKind}
use Rattle.mips_isa.specs.declared.asm_fault.AsmFault.{AsmFault}
use Rattle.mips_isa.specs.declared.asm_fault.AsmError.{AsmError}
use Rattle.mips_isa.specs.declared.asm_fault.AsmError.TheVariants.{Memory, Fault}
use Rattle.mips_isa.specs.ImageBounds.{ImageParts}
use Rattle.mips_isa.specs.Lines.{Name, Line}
use Rattle.mips_isa.specs.Assembly.{Position, start_position, start_name, after_line, place_in, place_from, place_of, has, address_or_zero, text_from, bytes_from, fault_or, second_pass}
use Rattle.mips_asm.specs.Parts.{statement_fault, last_fault, IsError, IsWordPlace, IsImageOrFault}
use Rattle.mips_asm.specs.SecondPasses.{Assembled, filled}
use Rattle.mips_asm.proofs.Assembled.{using_is}

-- a label in text is the address of a word

one_of_two : (b : Bool) (o p : Option Place) → IsWordPlace o → IsWordPlace p → IsWordPlace (if b then o else p)
one_of_two true o p h k = h
one_of_two false o p h k = k

word_place_in : (g : Segment) (p : Position) (lines : List Line) → IsWordPlace (Some (place_in g p lines))
word_place_in Text p lines = λ e. (omega arith, omega arith)
word_place_in Data p lines = λ e. cc

word_place_from : (p : Position) (lines : List Line) (name : Name) → IsWordPlace (place_from p lines name)
word_place_from p [] name = tt
word_place_from p (line ∷ rest) name =
    one_of_two (has line.labels name) (Some (place_in p.segment p (line ∷ rest))) (place_from (after_line line p) rest name) (word_place_in p.segment p (line ∷ rest)) (word_place_from (after_line line p) rest name)

-- the place of a label of lines, where these are their places
pub word_place : (place : Name → Option Place) (all : List Line) (name : Name) → place ≡ place_of all → IsWordPlace (place name)
word_place place all name e =
    let P : (Name → Option Place) → Type 0 = λ f. IsWordPlace (f name) in
    subst P (sym e) (word_place_from start_position all name)

-- a fault of a line

other_or : (n : ℕ) (kind : Option AsmKind) (other : Option AsmFault) (fault : AsmFault) → fault_or n kind None ≡ Some fault → fault_or n kind other ≡ Some fault
other_or n None other fault e = cc
other_or n (Some kind) other fault e = e

pub fault_at_line : (place : Name → Option Place) (all : List Line) (line : Line) (rest : List Line) (number : ℕ) (text bytes : List ℕ) (g : Segment) (e : AsmError) → place ≡ place_of all → Assembled place all (line ∷ rest) number text bytes g → IsError number (statement_fault place (length text) line.statement) e → IsImageOrFault all (Err e)
fault_at_line place all line rest number text bytes g Memory are left h = tt
fault_at_line place all line rest number text bytes g (Fault fault) are left h =
    let p : Position = filled (length text) (length bytes) g in
    let other : Option AsmFault = second_pass place (after_line line p) (suc number) rest in
    let P : (Name → Option Place) → Type 0 = λ f. second_pass f start_position 1 all ≡ Some fault in
    subst P are (
    sym left.fault
    ∙ ap (λ k. fault_or number k other) (using_is place (length text) line.statement)
    ∙ other_or number (statement_fault place (length text) line.statement) other fault h)

-- a fault after the last line
pub fault_at_end : (place : Name → Option Place) (all : List Line) (number : ℕ) (text bytes : List ℕ) (g : Segment) (e : AsmError) → place ≡ place_of all → Assembled place all [] number text bytes g → IsError number (last_fault place (length text)) e → IsImageOrFault all (Err e)
fault_at_end place all number text bytes g Memory are left h = tt
fault_at_end place all number text bytes g (Fault fault) are left h =
    let P : (Name → Option Place) → Type 0 = λ f. second_pass f start_position 1 all ≡ Some fault in
    subst P are (sym left.fault ∙ h)

-- the image after the last line
pub image_at_end : (place : Name → Option Place) (all : List Line) (number : ℕ) (text bytes : List ℕ) (g : Segment) (image : ImageParts) → place ≡ place_of all → Assembled place all [] number text bytes g → last_fault place (length text) ≡ None → image ≡ record { entry = address_or_zero (place start_name); text = text; bytes = bytes } → IsImageOrFault all (Ok image)
image_at_end place all number text bytes g image are left none is =
    let parts : (Name → Option Place) → ImageParts = λ f. record {
      entry = address_or_zero (f start_name);
      text = text_from (λ name. address_or_zero (f name)) start_position all;
      bytes = bytes_from (λ name. address_or_zero (f name)) start_position all;
    } in
    let P : (Name → Option Place) → Type 0 = λ f. second_pass f start_position 1 all ≡ None in
    let passed : second_pass (place_of all) start_position 1 all ≡ None = subst P are (sym left.fault ∙ ap (λ k. fault_or number k None) none) in
    let text_is : text ≡ text_from (λ name. address_or_zero (place name)) start_position all = sym (append-nil text) ∙ left.text_is in
    let bytes_is : bytes ≡ bytes_from (λ name. address_or_zero (place name)) start_position all = sym (append-nil bytes) ∙ left.bytes_is in
    let same : image ≡ parts place = is ∙ ap (λ list. record { entry = address_or_zero (place start_name); text = list; bytes = bytes }) text_is ∙ ap (λ list. record { entry = address_or_zero (place start_name); text = text_from (λ name. address_or_zero (place name)) start_position all; bytes = list }) bytes_is in
    (passed, same ∙ ap parts are)

-- the result of the second pass after the last line
pub answer_at_end : (place : Name → Option Place) (all : List Line) (number : ℕ) (text bytes : List ℕ) (g : Segment) (result : Result ImageParts AsmError) → place ≡ place_of all → Assembled place all [] number text bytes g → OnOk result (last_fault place (length text) ≡ None) → IfOk result (λ image. image ≡ record { entry = address_or_zero (place start_name); text = text; bytes = bytes }) → IfErr result (IsError number (last_fault place (length text))) → IsImageOrFault all result
answer_at_end place all number text bytes g (Ok image) are left none is error = image_at_end place all number text bytes g image are left none is
answer_at_end place all number text bytes g (Err e) are left none is error = fault_at_end place all number text bytes g e are left error
