-- `facts` says in words what is known of a compile-time error: the token that was found there, the types that do not fit, the methods of a class, and
-- further sentences.
use Rattle.std.specs.Prelude.{ℕ, List, [], ◌∷◌, ◌++◌, codes, Bool, true, false, Option, Some, None, if◌then◌else◌}
use Rattle.cool_check.specs.declared.fault.TypeKind.{TypeKind}
use Rattle.cool_check.specs.declared.fault.TypeKind.TheVariants.{E1, E2, E3, E4, E5, E6, E7, E8, E9, E10, E11, E12, E13, E14, E15, E16, E17, E18}
use Rattle.cool_faults.specs.declared.fault.Fault.{Fault}
use Rattle.cool_faults.specs.declared.fault.Fault.TheVariants.{Lex, Syntax, Class, Typing}
use Rattle.cool_faults.specs.Files.{bytes_of}
use Rattle.cool_mend.specs.declared.explanation.Explanation.{Explanation}
use Rattle.cool_mend.specs.declared.explanation.Methods.{Methods}
use Rattle.cool_mend.specs.declared.explanation.Types.{Types}
use Rattle.cool_explanations.specs.Shown.{part, quoted}

-- a lexeme between backquotes, or these words where there is none
abbrev pub lexeme_text : List ℕ → List ℕ → List ℕ
lexeme_text none [] = none
lexeme_text none (b ∷ bs) = quoted (b ∷ bs)

-- the lexeme at a fault, and the one before it
abbrev pub found_words : List ℕ → Explanation → List ℕ
found_words file x =
    codes "found " ++ (lexeme_text (codes "the end of the file") (part x.here.start x.here.end file)
    ++ (codes ", after " ++ lexeme_text (codes "nothing") (part x.before.start x.before.end file)))

-- it is told where a token is not expected
abbrev pub found_facts : List ℕ → Explanation → Fault → List (List ℕ)
found_facts file x (Lex f) = []
found_facts file x (Syntax f) = found_words file x ∷ []
found_facts file x (Class f) = []
found_facts file x (Typing f) = []

-- the types of a fault are those of the two sides of =: the found one is that of the right side
abbrev pub is_of_equality : TypeKind → Bool
is_of_equality E1 = false
is_of_equality E2 = false
is_of_equality E3 = false
is_of_equality E4 = false
is_of_equality E5 = false
is_of_equality E6 = false
is_of_equality E7 = false
is_of_equality E8 = false
is_of_equality E9 = false
is_of_equality E10 = false
is_of_equality E11 = false
is_of_equality E12 = false
is_of_equality E13 = false
is_of_equality E14 = false
is_of_equality E15 = true
is_of_equality E16 = false
is_of_equality E17 = false
is_of_equality E18 = false

abbrev pub are_compared : Fault → Bool
are_compared (Lex f) = false
are_compared (Syntax f) = false
are_compared (Class f) = false
are_compared (Typing f) = is_of_equality f.kind

-- two types that do not fit
abbrev pub type_words : Fault → Types → List ℕ
type_words fault types =
    if are_compared fault
    then types.due.items ++ (codes " is compared with " ++ types.found.items)
    else codes "expected " ++ (types.due.items ++ (codes ", found " ++ types.found.items))

abbrev pub type_facts : Fault → Option Types → List (List ℕ)
type_facts fault None = []
type_facts fault (Some types) = type_words fault types ∷ []

-- methods, each behind a comma
abbrev pub further : List (List ℕ) → List ℕ
further [] = []
further (m ∷ ms) = codes ", " ++ (m ++ further ms)

-- methods with commas between them
abbrev pub listed : List (List ℕ) → List ℕ
listed [] = []
listed (m ∷ ms) = codes " " ++ (m ++ further ms)

-- the methods of a class
abbrev pub method_words : Methods → List ℕ
method_words methods = codes "class " ++ (methods.class.items ++ (codes " has" ++ listed (bytes_of methods.all.items)))

abbrev pub method_facts : Option Methods → List (List ℕ)
method_facts None = []
method_facts (Some methods) = method_words methods ∷ []

-- the facts about a fault of this file
abbrev pub facts : List ℕ → Explanation → List (List ℕ)
facts file x = found_facts file x x.fault ++ (type_facts x.fault x.types ++ (method_facts x.methods ++ bytes_of x.said.items))
