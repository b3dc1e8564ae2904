-- `form_asked` and `names_asked` are the output format and the file names that arguments ask for: the format that the first argument names, if it is an
-- option, and otherwise the marks (occurrences of names). Arguments that are not a valid command line ask for the marks of no file.
use Rattle.std.specs.Prelude.{◌≡◌, refl, ℕ, List, [], ◌∷◌, Option, Some, None, Bool, true, false, codes, if◌then◌else◌}
use Rattle.std.specs.Str.{bytes_eq}
use Rattle.cool_sources.specs.CommandLine.{call_of}
use Rattle.cool_listings.specs.declared.form.Form.{Form}
use Rattle.cool_listings.specs.declared.form.Form.TheVariants.{Marks, Code, Tokens, Trees}

-- the option that chooses a form; the marks have none
abbrev pub option_of : Form → List ℕ
option_of Marks = []
option_of Code = codes "--code"
option_of Tokens = codes "--tokens"
option_of Trees = codes "--trees"

-- the only form besides the marks that these arguments can ask for
abbrev pub other_form : List (List ℕ) → Form
other_form [] = Code
other_form (word ∷ words) = if bytes_eq word (option_of Tokens) then Tokens else (if bytes_eq word (option_of Trees) then Trees else Code)

abbrev pub form_of : Form → Option (Bool × List (List ℕ)) → Form
form_of form None = Marks
form_of form (Some (true, names)) = form
form_of form (Some (false, names)) = Marks

abbrev pub names_of : Option (Bool × List (List ℕ)) → List (List ℕ)
names_of None = []
names_of (Some (other, names)) = names

-- the call that the arguments are, with the option of that form
abbrev pub call_asked : List (List ℕ) → Option (Bool × List (List ℕ))
call_asked words = call_of (option_of (other_form words)) words

abbrev pub form_asked : List (List ℕ) → Form
form_asked words = form_of (other_form words) (call_asked words)

abbrev pub names_asked : List (List ℕ) → List (List ℕ)
names_asked words = names_of (call_asked words)

-- Worked examples: each option, no option, another one, and two.
asks_for_code : (form_asked (codes "--code" ∷ codes "a.cl" ∷ []) ≡ Code) × (names_asked (codes "--code" ∷ codes "a.cl" ∷ []) ≡ codes "a.cl" ∷ [])
asks_for_code = (refl, refl)

asks_for_tokens : (form_asked (codes "--tokens" ∷ codes "a.cl" ∷ []) ≡ Tokens) × (names_asked (codes "--tokens" ∷ codes "a.cl" ∷ []) ≡ codes "a.cl" ∷ [])
asks_for_tokens = (refl, refl)

asks_for_trees : (form_asked (codes "--trees" ∷ codes "a.cl" ∷ codes "b.cl" ∷ []) ≡ Trees)
    × (names_asked (codes "--trees" ∷ codes "a.cl" ∷ codes "b.cl" ∷ []) ≡ codes "a.cl" ∷ codes "b.cl" ∷ [])
asks_for_trees = (refl, refl)

asks_for_marks : (form_asked (codes "a.cl" ∷ []) ≡ Marks) × (names_asked (codes "a.cl" ∷ []) ≡ codes "a.cl" ∷ [])
asks_for_marks = (refl, refl)

asks_for_a_name : (form_asked (codes "--" ∷ codes "--trees" ∷ []) ≡ Marks) × (names_asked (codes "--" ∷ codes "--trees" ∷ []) ≡ codes "--trees" ∷ [])
asks_for_a_name = (refl, refl)

asks_for_nothing : (form_asked (codes "--lines" ∷ codes "a.cl" ∷ []) ≡ Marks) × (names_asked (codes "--lines" ∷ codes "a.cl" ∷ []) ≡ [])
asks_for_nothing = (refl, refl)

asks_for_two : (form_asked (codes "--tokens" ∷ codes "--trees" ∷ codes "a.cl" ∷ []) ≡ Marks) × (names_asked (codes "--tokens" ∷ codes "--trees" ∷ codes "a.cl" ∷ []) ≡ [])
asks_for_two = (refl, refl)
