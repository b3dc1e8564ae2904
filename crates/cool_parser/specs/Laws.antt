-- `HasTree` says that a list of tokens is a file of classes or has a first syntax error; the parser's crate proves it of all lists of tokens.
use Rattle.std.specs.Prelude.{◌⊎◌, List}
use Rattle.cool_syntax.specs.declared.place.Place.{Place}
use Rattle.cool_syntax.specs.declared.token.Token.{Token}
use Rattle.cool_syntax.specs.declared.file_tree.ClassDef.{ClassDef}
use Rattle.cool_syntax.specs.Grammar.{Parses, IsUnexpected}

-- Tokens are a file, or have a first fault.
abbrev pub HasTree : List Token → Place → Type 0
HasTree tokens end = ((classes : List ClassDef) × Parses tokens classes) ⊎ ((at : Place) × IsUnexpected tokens end at)
