-- `form_asked` and `names_asked` are the output format and the file names that command-line arguments ask for: after `--lines` the lines for other
-- programs, and otherwise the text for people. Arguments that are not a valid command line ask for the text of no file.
use Rattle.std.specs.Prelude.{◌≡◌, refl, ℕ, List, [], ◌∷◌, Bool, true, false, Option, Some, None, codes}
use Rattle.cool_sources.specs.CommandLine.{call_of}
use Rattle.cool_explanations.specs.declared.form.Form.{Form}
use Rattle.cool_explanations.specs.declared.form.Form.TheVariants.{Text, Lines}

abbrev pub form_of : Option (Bool × List (List ℕ)) → Form
form_of None = Text
form_of (Some (true, names)) = Lines
form_of (Some (false, names)) = Text

abbrev pub names_of : Option (Bool × List (List ℕ)) → List (List ℕ)
names_of None = []
names_of (Some (other, names)) = names

abbrev pub form_asked : List (List ℕ) → Form
form_asked words = form_of (call_of (codes "--lines") words)

abbrev pub names_asked : List (List ℕ) → List (List ℕ)
names_asked words = names_of (call_of (codes "--lines") words)

-- Worked examples.
asks_for_lines : (form_asked (codes "--lines" ∷ codes "a.cl" ∷ []) ≡ Lines) × (names_asked (codes "--lines" ∷ codes "a.cl" ∷ []) ≡ codes "a.cl" ∷ [])
asks_for_lines = (refl, refl)

asks_for_text : (form_asked (codes "a.cl" ∷ []) ≡ Text) × (names_asked (codes "a.cl" ∷ []) ≡ codes "a.cl" ∷ [])
asks_for_text = (refl, refl)

asks_for_nothing : names_asked (codes "--code" ∷ codes "a.cl" ∷ []) ≡ []
asks_for_nothing = refl
