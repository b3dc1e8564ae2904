-- `class_of_one` puts the tokens of one feature into a class that has no other, so that they can be parsed.
use Rattle.std.specs.Prelude.{◌≡◌, List, [], ◌∷◌, ◌++◌}
use Rattle.cool_syntax.specs.declared.token.Token.{Token}
use Rattle.cool_syntax.specs.declared.token.Key.TheVariants as key
use Rattle.cool_syntax.specs.declared.token.Sign.TheVariants as sign
use Rattle.cool_syntax.specs.declared.file_tree.ClassDef.{ClassDef}
use Rattle.cool_syntax.specs.declared.file_tree.Feature.{Feature}
use Rattle.cool_syntax.specs.Readings.{symbol, type, word}
use Rattle.cool_syntax.specs.Bare.{nowhere}

-- the tokens of a class without a name and of one feature of these tokens
abbrev pub class_of_one : List Token → List Token
class_of_one tokens =
    word key.Class nowhere ∷ type (record { name = []; at = nowhere }) ∷ symbol sign.LBrace nowhere ∷ tokens
    ++ symbol sign.RBrace nowhere ∷ symbol sign.Semi nowhere ∷ []

-- one class has this feature, and nothing else
abbrev pub HaveOnly : List ClassDef → Feature → Type 0
HaveOnly [] x = ⊥
HaveOnly (d ∷ []) x = d.features ≡ x ∷ []
HaveOnly (d ∷ e ∷ ds) x = ⊥
