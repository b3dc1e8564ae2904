-- Lemmas on the invariant of the second pass (`IsLeft`, which says that the remaining lines lead to the result of all lines): at a line without an error, at
-- one with an error, and after an error.
use Rattle.std.specs.Prelude.{◌≡◌, ℕ, ◌+◌, List, [], ◌∷◌, ◌++◌, length, Option, Some, None, is_some, Bool, true, false, if◌then◌else◌, Result, Ok, Err, OnOk}
use Rattle.std.proofs.Common.{ap, sym, ◌∙◌, subst, add-one}
use Rattle.mips_isa.specs.declared.place.Place.{Place}
use Rattle.mips_isa.specs.declared.place.Segment.TheVariants.{Text}
use Rattle.mips_isa.specs.declared.asm_fault.AsmFault.{AsmFault}
use Rattle.mips_isa.specs.declared.asm_fault.AsmError.{AsmError}
use Rattle.mips_isa.specs.declared.asm_fault.AsmError.TheVariants.{Memory, Fault}
use Rattle.mips_isa.specs.ImageBounds.{ImageParts}
use Rattle.mips_isa.specs.Lines.{Name, Line, lines_of, AreInRange}
use Rattle.mips_isa.specs.Assembly.{need, start_position, place_of, completed, first_pass, second_pass, first_or, fault_of, fault_of_all, image_of_all, added_lines, Assembles}
use Rattle.mips_asm.specs.declared.second_pass.Assembly.{Assembly}
use Rattle.mips_asm.specs.declared.second_pass.SecondPass.{SecondPass}
use Rattle.mips_asm.specs.declared.first_pass.FirstPass.{FirstPass}
use Rattle.mips_asm.specs.Passes.{shown, is_lacking, FindsLabels}
use Rattle.mips_asm.specs.FirstPasses.{HasTaken}
use Rattle.mips_asm.specs.Completing.{segment_after_need}
use Rattle.mips_asm.specs.Parts.{IsError, statement_fault, words_of_statement, bytes_of_statement, IsImageOrFault}
use Rattle.mips_asm.specs.Places.{places_of}
use Rattle.mips_asm.specs.SecondPasses.{Assembled, LeftBy, IsLeft, HasLeft, Begins}
use Rattle.mips_asm.proofs.Assembled.{none_assembled, one_further}
use Rattle.mips_asm.proofs.AllAssembled.{fault_at_line}
use Rattle.mips_asm.proofs.PlacesOfMarks.{completed_fault}
use Rattle.lists.proofs.Options.{none_is}

-- the lines that are left without a fault
pub left_here : (place : Name → Option Place) (all rest : List Line) (a : Assembly) → a.fault ≡ None → IsLeft place all rest a
    → Assembled place all rest a.number a.output.text.items a.output.bytes.items a.output.segment
left_here place all rest a none left = subst (λ (fault : Option AsmFault). LeftBy fault place all rest a) none left.state

-- no fault, by a test
pub left_now : (place : Name → Option Place) (all rest : List Line) (a : Assembly) → is_some a.fault ≡ false → IsLeft place all rest a
    → Assembled place all rest a.number a.output.text.items a.output.bytes.items a.output.segment
left_now place all rest a none left = left_here place all rest a (none_is a.fault none) left

-- a line after a fault
pub left_at_fault : (place : Name → Option Place) (all rest : List Line) (line : Line) (a : Assembly) → is_some a.fault ≡ true
    → IsLeft place all (line ∷ rest) a → IsLeft place all rest a
left_at_fault place all rest line a some left = record { places = left.places; state = by a.fault some left.state }
  where
    by : (fault : Option AsmFault) → is_some fault ≡ true → LeftBy fault place all (line ∷ rest) a → LeftBy fault place all rest a
    by None e d = cc
    by (Some fault) e d = d

-- a line without a fault
pub left_more : (place : Name → Option Place) (all rest : List Line) (line : Line) (old new : Assembly) → is_some old.fault ≡ false → new.fault ≡ old.fault
    → new.number ≡ old.number + 1 → statement_fault place (length old.output.text.items) line.statement ≡ None
    → new.output.text.items ≡ old.output.text.items ++ words_of_statement place (length old.output.text.items) line.statement
    → new.output.bytes.items ≡ old.output.bytes.items ++ bytes_of_statement place old.output.segment (length old.output.bytes.items) line.statement
    → new.output.segment ≡ segment_after_need (need line.statement) old.output.segment
    → IsLeft place all (line ∷ rest) old → IsLeft place all rest new
left_more place all rest line old new none same number checked text bytes segment left =
    let next = one_further place all line rest _ _ _ _ _ _ _ (left_now place all (line ∷ rest) old none left) checked text bytes segment in
    record {
      places = left.places;
      state =
          subst (λ (fault : Option AsmFault). LeftBy fault place all rest new) (sym (same ∙ none_is old.fault none))
          (subst (λ (n : ℕ). Assembled place all rest n new.output.text.items new.output.bytes.items new.output.segment)
          (sym (number ∙ add-one old.number)) next);
    }

-- a line with a fault
pub left_at_line : (place : Name → Option Place) (all rest : List Line) (line : Line) (old new : Assembly) (fault : AsmFault) → is_some old.fault ≡ false
    → new.fault ≡ Some fault → IsError old.number (statement_fault place (length old.output.text.items) line.statement) (Fault fault)
    → IsLeft place all (line ∷ rest) old → IsLeft place all rest new
left_at_line place all rest line old new fault none here error left = record {
  places = left.places;
  state =
      subst (λ (found : Option AsmFault). LeftBy found place all rest new) (sym here)
      (fault_at_line place all line rest _ _ _ _ (Fault fault) left.places (left_now place all (line ∷ rest) old none left) error);
}

-- The second pass begins with all lines.
pub begins : (pass : SecondPass) (lines : List Line) → completed lines ≡ lines ++ lines_of pass.added.items → AreInRange lines
    → AreInRange (lines_of pass.added.items) → first_pass [] start_position 1 (lines ++ lines_of pass.added.items) ≡ None
    → places_of pass.labels ≡ place_of (lines ++ lines_of pass.added.items)
    → pass.assembly.fault ≡ None → pass.assembly.number ≡ 1 → pass.assembly.output.text.items ≡ [] → pass.assembly.output.bytes.items ≡ []
    → pass.assembly.output.segment ≡ Text → HasLeft pass lines lines
begins pass lines complete own added fine places none number text bytes segment =
    let all = lines ++ lines_of pass.added.items in
    let place = places_of pass.labels in
    record {
      completing = complete;
      ranges = added;
      fine = fine;
      left = record {
        places = places;
        state =
            subst (λ (fault : Option AsmFault). LeftBy fault place all all pass.assembly) (sym none)
            (rw (number, text, bytes, segment) (none_assembled place all (both lines own) fine));
      };
    }
  where
    both : (xs : List Line) → AreInRange xs → AreInRange (xs ++ lines_of pass.added.items)
    both [] h = added
    both (x ∷ xs) h = (h.0, both xs h.1)

-- The result of the second pass over completed lines is that of assembling.
pub ends : (lines all : List Line) (result : Result ImageParts AsmError) → completed lines ≡ all → first_pass [] start_position 1 all ≡ None
    → IsImageOrFault all result → Assembles lines result
ends lines all result same fine h = by result h
  where
    none : fault_of lines ≡ second_pass (place_of all) start_position 1 all
    none = ap fault_of_all same ∙ ap (λ (o : Option AsmFault). first_or o (second_pass (place_of all) start_position 1 all)) fine

    by : (r : Result ImageParts AsmError) → IsImageOrFault all r → Assembles lines r
    by (Ok image) k = (none ∙ k.0, k.1 ∙ ap image_of_all (sym same))
    by (Err Memory) k = tt
    by (Err (Fault fault)) k = none ∙ k

-- The first pass ends with a fault.
pub begins_at_fault : (pass : FirstPass) (lines added : List Line) (b : Bool) → added ≡ (if b then added_lines else []) → HasTaken pass lines
    → b ≡ is_lacking (shown pass.table.entries) → (e : AsmError) → FindsLabels (lines ++ added) (Err e)
    → (result : Result SecondPass AsmError) → result ≡ Err e → Begins lines result
begins_at_fault pass lines added b added_is taken same Memory h result is = subst (λ (r : Result SecondPass AsmError). Begins lines r) (sym is) tt
begins_at_fault pass lines added b added_is taken same (Fault fault) h result is =
    subst (λ (r : Result SecondPass AsmError). Begins lines r) (sym is)
    (ap (λ (o : Option AsmFault). first_or o (second_pass (place_of (completed lines)) start_position 1 (completed lines)))
    (completed_fault lines added b added_is pass taken same fault h))

-- if P implies Q, then `OnOk r P` implies `OnOk r Q`
pub after_ok : {E P Q : Type 0} (r : Result Unit E) → (P → Q) → OnOk r P → OnOk r Q
after_ok (Ok done) f h = f h
after_ok (Err e) f h = tt
