-- `IsAnswerOf` defines the answer of `cool_explain` on files: the explanations of their compile-time errors, or else their warnings, in the chosen output
-- format, and whether there are errors.
use Rattle.std.specs.Prelude.{◌≡◌, ◌≢◌, ℕ, List, [], codes, Bool, true, false}
use Rattle.cool_mend.specs.declared.explanation.Explained.{Explained}
use Rattle.cool_mend.specs.declared.explanation.Explanation.{Explanation}
use Rattle.cool_mend.specs.AfterFixes.{AreAfterFixes, begun}
use Rattle.cool_mend.specs.Explanations.{AreExplained}
use Rattle.cool_mend.specs.Noticed.{AreNoticed}
use Rattle.cool_sources.specs.Tasks.{TaskSpec}
use Rattle.cool_sources.specs.declared.answer.Answer.{Answer}
use Rattle.cool_explanations.specs.Lines.{lines_of}
use Rattle.cool_explanations.specs.Texts.{text_of}
use Rattle.cool_explanations.specs.declared.form.Form.{Form}
use Rattle.cool_explanations.specs.declared.form.Form.TheVariants.{Text, Lines}

-- the answer for files of these names, in this form
abbrev pub form_text : Form → List (List ℕ) → List (List ℕ) → Explained → List ℕ
form_text Text names contents told = text_of names contents told
form_text Lines names contents told = lines_of contents told

-- The text on files of these bytes: an explanation of each of their faults and of those after fixes, or if they have none the first notices that are due.
pub record IsTold (contents : List (List ℕ)) (told : Explained) : Type 0 where
  pub explained : AreExplained contents told.explanations.items
  pub after : AreAfterFixes (begun contents told.explanations.items) told.after_fixes.items
  pub noticed : told.explanations.items ≡ [] → AreNoticed contents told.notices.items
  pub quiet : told.notices.items ≢ [] → told.explanations.items ≡ []

-- whether explanations explain a fault
abbrev pub HasFaults : Bool → List Explanation → Type 0
HasFaults true all = all ≢ []
HasFaults false all = all ≡ []

-- the answer for files of these bytes, in this form
pub record IsAnswerOf (form : Form) (names contents : List (List ℕ)) (answer : Answer) : Type 0 where
  pub told : Explained
  pub is : IsTold contents told
  pub faults : HasFaults answer.faulty told.explanations.items
  pub text : answer.text.items ≡ form_text form names contents told
  pub no_note : answer.note.now ≡ []

-- the task of a form: all names are accepted
abbrev pub spec_of : Form → TaskSpec
spec_of form = record { program = codes "cool_explain"; accepts = λ (names : List (List ℕ)). true; is_answer = IsAnswerOf form }
