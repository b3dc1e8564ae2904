-- `IsAnswerOf` defines the answer of `cool_editor` on files: the lines of the output format (names, code, tokens or syntax trees), or a message if the
-- files have none.
use Rattle.std.specs.Prelude.{◌≡◌, ◌⊎◌, ℕ, List, [], ◌∷◌, ◌++◌, length, map, codes, nat_le, Bool, true, false, Option, Some, None}
use Rattle.std.specs.List.{list_all}
use Rattle.std.specs.Global.{Vec}
use Rattle.cool_syntax.specs.declared.token.Token.{Token}
use Rattle.cool_syntax.specs.declared.file_tree.FileTree.{FileTree}
use Rattle.cool_syntax.specs.Grammar.{Parses}
use Rattle.cool_lexer.specs.declared.lexer.Lexed.{Lexed}
use Rattle.cool_classes.specs.Definitions.{definitions}
use Rattle.cool_classes.specs.Chains.{Class}
use Rattle.cool_emit.specs.TableLines.{table_text}
use Rattle.cool_emit.specs.declared.TheConstants.{MOST_FILE_NAME}
use Rattle.cool_faults.specs.Verdicts.{IsAccepted, IsRefused as IsRefusedFor}
use Rattle.cool_faults.specs.declared.fault.Fault.{Fault}
use Rattle.cool_faults.specs.declared.fault.Untyped.{Untyped}
use Rattle.cool_faults.specs.Untyped.{IsRefusedEarly, IsUntyped}
use Rattle.cool_names.specs.declared.mark.Mark.{Mark}
use Rattle.cool_names.specs.Programs.{program_marks}
use Rattle.cool_names.specs.WrittenNames.{names_in, spot_of}
use Rattle.cool_sources.specs.Tasks.{TaskSpec}
use Rattle.cool_sources.specs.declared.answer.Answer.{Answer}
use Rattle.cool_listings.specs.EachFile.{IsOfEach}
use Rattle.cool_listings.specs.Lines.{mark_lines}
use Rattle.cool_listings.specs.TokenLines.{AreTokensOf}
use Rattle.cool_listings.specs.TreeLines.{IsTreesText}
use Rattle.cool_listings.specs.declared.form.Form.{Form}
use Rattle.cool_listings.specs.declared.form.Form.TheVariants.{Marks, Code, Tokens, Trees}

-- the tokens of each file are the tree that has its place
abbrev pub AreTrees : List Lexed → List FileTree → Type 0
AreTrees [] [] = Unit {0}
AreTrees [] (tree ∷ trees) = ⊥
AreTrees (lexed ∷ files) [] = ⊥
AreTrees (lexed ∷ files) (tree ∷ trees) = Parses lexed.tokens.items tree.classes × AreTrees files trees

-- the tokens of files, one file after the other
abbrev pub tokens_of : List Lexed → List Token
tokens_of [] = []
tokens_of (file ∷ files) = file.tokens.items ++ tokens_of files

-- the marks of files: those of their class table and of the definitions of their trees, which stand at the names of the files and at nothing else
pub record AreMarks (files : List (List ℕ)) (marks : List Mark) : Type 0 where
  pub untyped : Untyped
  pub is : IsUntyped files untyped
  pub are : marks ≡ program_marks untyped.classes (definitions is.trees)
  pub named : map spot_of marks ≡ names_in (tokens_of untyped.lexed.items)

-- no class table: a phase before typing finds faults
abbrev pub AreNoTable : List (List ℕ) → Type 0
AreNoTable files = (faults : List Fault) × IsRefusedEarly files faults

abbrev pub IsAnswer : List (List ℕ) → Option (Vec Mark) → Type 0
IsAnswer files (Some marks) = AreMarks files marks.items
IsAnswer files None = AreNoTable files

-- these bytes are what is written of files of these names in a form: the lines of their marks, of the table of the program that they are, of their
-- tokens, or of their trees
abbrev pub IsWritten : Form → List (List ℕ) → List (List ℕ) → List ℕ → Type 0
IsWritten Marks names contents text = (marks : List Mark) × AreMarks contents marks × (text ≡ mark_lines marks)
IsWritten Tokens names contents text = IsOfEach AreTokensOf 0 contents text
IsWritten Trees names contents text = IsTreesText contents text
IsWritten Code names contents text = (p : List Class) × IsAccepted contents p × (text ≡ table_text p names)

-- why nothing is: they are no class table, or no program
abbrev pub HaveNone : Form → List (List ℕ) → Type 0
HaveNone Marks contents = AreNoTable contents
HaveNone Tokens contents = ⊥
HaveNone Trees contents = ⊥
HaveNone Code contents = (faults : List Fault) × IsRefusedFor contents faults

-- the text that is written for files, or nothing
abbrev pub IsTextOf : Form → List (List ℕ) → List (List ℕ) → Option (Vec ℕ) → Type 0
IsTextOf form names contents (Some text) = IsWritten form names contents text.items
IsTextOf form names contents None = HaveNone form contents

-- names fit a form: those of a program whose code is told are as short as a build wants them
abbrev pub fit : Form → List (List ℕ) → Bool
fit Marks names = true
fit Tokens names = true
fit Trees names = true
fit Code names = list_all (λ (name : List ℕ). nat_le (length name) MOST_FILE_NAME) names

-- the note of files of which nothing is written
abbrev pub refusal_note : Form → List ℕ
refusal_note Marks = codes "cool_editor: no class table\n"
refusal_note Code = codes "cool_editor: not a program\n"
refusal_note Tokens = []
refusal_note Trees = []

-- The answer is the text of the files, without a note.
pub record IsListing (form : Form) (names contents : List (List ℕ)) (answer : Answer) : Type 0 where
  pub faultless : answer.faulty ≡ false
  pub is : IsWritten form names contents answer.text.items
  pub no_note : answer.note.now ≡ []

-- The files have no text in this form, and the note says so.
pub record IsRefusal (form : Form) (contents : List (List ℕ)) (answer : Answer) : Type 0 where
  pub faulty : answer.faulty ≡ true
  pub none : HaveNone form contents
  pub no_text : answer.text.items ≡ []
  pub note : answer.note.now ≡ refusal_note form

-- the answer on files of these names and bytes
abbrev pub IsAnswerOf : Form → List (List ℕ) → List (List ℕ) → Answer → Type 0
IsAnswerOf form names contents answer = IsListing form names contents answer ⊎ IsRefusal form contents answer

-- the task of a form
abbrev pub spec_of : Form → TaskSpec
spec_of form = record { program = codes "cool_editor"; accepts = fit form; is_answer = IsAnswerOf form }
