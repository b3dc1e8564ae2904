-- `names_in` lists the names that a source text contains: each identifier among its tokens, with its source location (the Cool manual, section 10.1).
-- `AreProgramNames` says that a program has a mark at each of these names, in their order, and nowhere else.
use Rattle.std.specs.Prelude.{◌≡◌, refl, ℕ, ◌+◌, List, [], ◌∷◌, ◌++◌, map, codes}
use Rattle.cool_syntax.specs.declared.place.Place.{Place}
use Rattle.cool_syntax.specs.declared.token.Token.{Token}
use Rattle.cool_syntax.specs.declared.token.TokenKind.{TokenKind}
use Rattle.cool_syntax.specs.declared.token.TokenKind.TheVariants as kind
use Rattle.cool_syntax.specs.declared.token.Key.TheVariants as key
use Rattle.cool_syntax.specs.declared.token.Sign.TheVariants as sign
use Rattle.cool_syntax.specs.declared.file_tree.ClassDef.{ClassDef}
use Rattle.cool_syntax.specs.declared.file_tree.FileTree.{FileTree}
use Rattle.cool_syntax.specs.Grammar.{Parses}
use Rattle.cool_syntax.specs.LexicalStructure.{Lexes}
use Rattle.cool_syntax.specs.Readings.{object, symbol, type, word}
use Rattle.cool_classes.specs.Chains.{Class}
use Rattle.cool_classes.specs.Definitions.{definitions}
use Rattle.cool_names.specs.declared.mark.Mark.{Mark}
use Rattle.cool_names.specs.Programs.{marks_from, program_marks}

-- a name, and where it stands
pub record Spot : Type 0 where
  pub at : Place
  pub name : List ℕ

abbrev pub spot : Place → List ℕ → Spot
spot at name = record { at = at; name = name }

-- an identifier is a name, and other lexemes are none
abbrev pub names_of : TokenKind → Place → List Spot
names_of (kind.ObjectId name) at = spot at name ∷ []
names_of (kind.TypeId name) at = spot at name ∷ []
names_of (kind.Key k) at = []
names_of (kind.Sign s) at = []
names_of (kind.Int value) at = []
names_of (kind.Str bytes) at = []

-- the names among tokens, in their order
abbrev pub names_in : List Token → List Spot
names_in [] = []
names_in (t ∷ ts) = names_of t.kind t.at ++ names_in ts

-- the spot of a mark
abbrev pub spot_of : Mark → Spot
spot_of m = spot m.at m.name

-- Files from this number on, with their tokens one file after the other: the bytes of each are its tokens, and these are its tree.
pub data AreRead : ℕ → List (List ℕ) → List Token → List FileTree → Type 0 where
  none : (file : ℕ) → AreRead file [] [] []
  and_more : (file : ℕ) (bytes : List ℕ) (texts : List (List ℕ)) (tokens more : List Token) (tree : FileTree) (trees : List FileTree)
      → Lexes file bytes tokens → Parses tokens tree.classes → AreRead (file + 1) texts more trees → AreRead file (bytes ∷ texts) (tokens ++ more) (tree ∷ trees)

-- the marks of a file's classes, in any table and whatever their numbers, stand at its names
abbrev pub AreFileNames : Type 0
AreFileNames =
    (p : List Class) (all : List ClassDef) (number file : ℕ) (bytes : List ℕ) (tokens : List Token) (classes : List ClassDef)
    → Lexes file bytes tokens → Parses tokens classes → map spot_of (marks_from p all number classes) ≡ names_in tokens

-- the marks of a program stand at the names of its files
abbrev pub AreProgramNames : Type 0
AreProgramNames =
    (p : List Class) (texts : List (List ℕ)) (tokens : List Token) (trees : List FileTree)
    → AreRead 0 texts tokens trees → map spot_of (program_marks p (definitions trees)) ≡ names_in tokens

-- Worked example: `new T.f` has two names.
new_and_call : (p q r s : Place) → names_in (word key.New p ∷ type (record { name = codes "T"; at = q }) ∷ symbol sign.Dot r ∷ object (codes "f") s ∷ [])
    ≡ spot q (codes "T") ∷ spot s (codes "f") ∷ []
new_and_call p q r s = refl
