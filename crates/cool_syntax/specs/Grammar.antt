-- The grammar of Cool (Cool manual, section 11): `Parses` says which classes the tokens of a file make, and `IsUnexpected` says where the first syntax error of
-- other tokens is. Tokens are a file if they are the tokens of a concrete syntax tree that keeps the rules of precedence (`IsShapedFile`); `plain_file`
-- converts it to the abstract tree. In this project a file may have no class.
use Rattle.std.specs.Prelude.{◌≡◌, refl, List, [], ◌∷◌, ◌++◌, codes, None, ◌⊎◌}
use Rattle.std.proofs.Common.{arith}
use Rattle.cool_syntax.specs.declared.place.Place.{Place}
use Rattle.cool_syntax.specs.declared.operator.ArithOp.TheVariants as arith_op
use Rattle.cool_syntax.specs.declared.operator.CompareOp.TheVariants as compare_op
use Rattle.cool_syntax.specs.declared.token.Token.{Token}
use Rattle.cool_syntax.specs.declared.token.Key.TheVariants as key
use Rattle.cool_syntax.specs.declared.token.Sign.TheVariants as sign
use Rattle.cool_syntax.specs.declared.file_tree.ClassDef.{ClassDef}
use Rattle.cool_syntax.specs.declared.file_tree.Feature.TheVariants as feature
use Rattle.cool_syntax.specs.Tree.{Last}
use Rattle.cool_syntax.specs.Tree as trees
use Rattle.cool_syntax.specs.ConcreteTrees.{Arith, Compare, Not, Concrete, Name, Dispatch, Binary, Before, OfSelf, NoArgs, Mark, NoFormals, Method, NoFeature, Another, NoParent, Classes, NoClass, Class}
use Rattle.cool_syntax.specs.Readings.{word, symbol, object, type, reading, file_reading}
use Rattle.cool_syntax.specs.PlainTrees.{plain, plain_file}
use Rattle.cool_syntax.specs.Shapes.{IsShaped, IsShapedFile}

-- the tokens are a file, and these are its classes
abbrev pub Parses : List Token → List ClassDef → Type 0
Parses tokens classes = (file : Classes) × IsShapedFile file × (file_reading file ≡ tokens) × (plain_file file ≡ classes)

-- the tokens begin some file
abbrev pub BeginsFile : List Token → Type 0
BeginsFile tokens = (rest : List Token) × (classes : List ClassDef) × Parses (tokens ++ rest) classes

-- The first fault of tokens that are no file: the tokens before it begin some file, and those up to it begin none; or all of them
-- begin some file, the fault is at the end, and they are no file.
abbrev pub IsUnexpected : List Token → Place → Place → Type 0
IsUnexpected tokens end at =
    ((before : List Token) × (token : Token) × (after : List Token) × (tokens ≡ before ++ token ∷ after) × (at ≡ token.at)
    × BeginsFile before × (BeginsFile (before ++ token ∷ []) → ⊥))
    ⊎ ((at ≡ end) × BeginsFile tokens × ((classes : List ClassDef) → Parses tokens classes → ⊥))

-- Worked examples

-- `a + not b = c` is `a + (not (b = c))`
abbrev sum : Place → Concrete
sum p =
    Binary (Name (codes "a") p) (Arith arith_op.Add) p (Before (Mark Not p) (Binary (Name (codes "b") p) (Compare compare_op.Equal) p (Name (codes "c") p)))

sum_is_read : (p : Place) → reading (sum p)
    ≡ object (codes "a") p ∷ symbol sign.Plus p ∷ word key.Not p ∷ object (codes "b") p ∷ symbol sign.Equal p ∷ object (codes "c") p ∷ []
sum_is_read p = refl

sum_is_shaped : (p : Place) → IsShaped (sum p)
sum_is_shaped p = (tt, tt, tt, (tt, (omega arith, tt), (tt, tt, tt, tt)))

sum_is_plain : (p : Place) → plain (sum p)
    ≡ trees.Arith p arith_op.Add (trees.Id p (codes "a")) (trees.Not p (trees.Compare p compare_op.Equal (trees.Id p (codes "b")) (trees.Id p (codes "c"))))
sum_is_plain p = refl

-- `class A { f() : A { g() }; };` is the class A with one method, which calls g of self
abbrev class_a : Place → Classes
class_a p =
    Class NoClass (record { mark = p; name = codes "A"; at = p; parent = NoParent; lbrace = p })
    (Another NoFeature (Method (record { name = codes "f"; at = p; lparen = p; formals = NoFormals; rparen = p; colon = p; result = record { name = codes "A"; at = p }; lbrace = p })
    (Dispatch (OfSelf (codes "g") p) p NoArgs p) p p))
    p p

class_is_parsed : (p : Place) → Parses
    (word key.Class p ∷ type (record { name = codes "A"; at = p }) ∷ symbol sign.LBrace p ∷ object (codes "f") p ∷ symbol sign.LParen p ∷ symbol sign.RParen p ∷ symbol sign.Colon p
    ∷ type (record { name = codes "A"; at = p }) ∷ symbol sign.LBrace p ∷ object (codes "g") p ∷ symbol sign.LParen p ∷ symbol sign.RParen p ∷ symbol sign.RBrace p ∷ symbol sign.Semi p
    ∷ symbol sign.RBrace p ∷ symbol sign.Semi p ∷ [])
    (record {
      name = codes "A";
      at = p;
      parent = None;
      features = feature.Method (record { name = codes "f"; at = p; formals = []; result = record { name = codes "A"; at = p }; body = trees.Dispatch p (trees.Id p (codes "self")) (codes "g") Last }) ∷ [];
    } ∷ [])
class_is_parsed p = (class_a p, (tt, (tt, (tt, tt))), refl, refl)
