-- `written` is the list of tokens that writes a tree as source text: each operand that is not an atom stands in parentheses, and each token has the source
-- location of its tree. A file can be written if no block and no case in it is empty.
use Rattle.std.specs.Prelude.{◌≡◌, refl, Bool, true, false, if◌then◌else◌, List, [], ◌∷◌, ◌++◌, codes, Option, Some, None}
use Rattle.std.specs.List.{AllByRecursion}
use Rattle.cool_syntax.specs.declared.place.Place.{Place}
use Rattle.cool_syntax.specs.declared.type_ref.TypeRef.{TypeRef}
use Rattle.cool_syntax.specs.declared.operator.ArithOp.TheVariants as arith_op
use Rattle.cool_syntax.specs.declared.token.Token.{Token}
use Rattle.cool_syntax.specs.declared.token.Key.TheVariants as key
use Rattle.cool_syntax.specs.declared.token.Sign.TheVariants as sign
use Rattle.cool_syntax.specs.declared.file_tree.ClassDef.{ClassDef}
use Rattle.cool_syntax.specs.declared.file_tree.Feature.{Feature}
use Rattle.cool_syntax.specs.declared.file_tree.Feature.TheVariants as feature
use Rattle.cool_syntax.specs.declared.file_tree.Formal.{Formal}
use Rattle.cool_syntax.specs.declared.file_tree.MethodDef.{MethodDef}
use Rattle.cool_syntax.specs.Tree.{Tree, Trees, MaybeTree, Cases, Last, More, Without, With, NoCase, CaseOf, place_of}
use Rattle.cool_syntax.specs.Tree as trees
use Rattle.cool_syntax.specs.ConcreteTrees.{Arith, Compare, Int, Str, Truth}
use Rattle.cool_syntax.specs.Readings.{word, symbol, object, type, operator_sign, constant_token}

abbrev pub is_atom : Tree → Bool
is_atom (trees.Assign at name t) = false
is_atom (trees.Dispatch at t name ts) = false
is_atom (trees.StaticDispatch at t class name ts) = false
is_atom (trees.Let at name declared o t) = false
is_atom (trees.IsVoid at t) = false
is_atom (trees.Arith at op a b) = false
is_atom (trees.Neg at t) = false
is_atom (trees.Compare at op a b) = false
is_atom (trees.Not at t) = false
is_atom _ = true

-- the tokens of the operand `t`, whose own tokens are `ws`: in parentheses unless `t` is an atom
abbrev pub enclosed : Tree → List Token → List Token
enclosed t ws = if is_atom t then ws else symbol sign.LParen (place_of t) ∷ ws ++ symbol sign.RParen (place_of t) ∷ []

abbrev mutual
  pub written : Tree → List Token
  written (trees.Assign at name t) = object name at ∷ symbol sign.Arrow at ∷ enclosed t (written t)
  written (trees.Dispatch at t name ts) =
      enclosed t (written t) ++ symbol sign.Dot at ∷ object name at ∷ symbol sign.LParen at ∷ written_args at ts ++ symbol sign.RParen at ∷ []
  written (trees.StaticDispatch at t class name ts) =
      enclosed t (written t) ++ symbol sign.At at ∷ type class ∷ symbol sign.Dot at ∷ object name at ∷ symbol sign.LParen at ∷ written_args at ts ++ symbol sign.RParen at ∷ []
  written (trees.If at t y n) = word key.If at ∷ written t ++ word key.Then at ∷ written y ++ word key.Else at ∷ written n ++ word key.Fi at ∷ []
  written (trees.While at t b) = word key.While at ∷ written t ++ word key.Loop at ∷ written b ++ word key.Pool at ∷ []
  written (trees.Block at ts) = symbol sign.LBrace at ∷ written_items at ts ++ symbol sign.RBrace at ∷ []
  written (trees.Let at name declared o t) =
      word key.Let at ∷ object name at ∷ symbol sign.Colon at ∷ type declared ∷ written_init at o ++ word key.In at ∷ enclosed t (written t)
  written (trees.Case at t cs) = word key.Case at ∷ written t ++ word key.Of at ∷ written_cases cs ++ word key.Esac at ∷ []
  written (trees.New at class) = word key.New at ∷ type class ∷ []
  written (trees.IsVoid at t) = word key.IsVoid at ∷ enclosed t (written t)
  written (trees.Arith at op a b) = enclosed a (written a) ++ symbol (operator_sign (Arith op)) at ∷ enclosed b (written b)
  written (trees.Neg at t) = symbol sign.Tilde at ∷ enclosed t (written t)
  written (trees.Compare at op a b) = enclosed a (written a) ++ symbol (operator_sign (Compare op)) at ∷ enclosed b (written b)
  written (trees.Not at t) = word key.Not at ∷ enclosed t (written t)
  written (trees.Id at name) = object name at ∷ []
  written (trees.Int at value) = constant_token (Int value) at ∷ []
  written (trees.Str at bytes) = constant_token (Str bytes) at ∷ []
  written (trees.Bool at value) = constant_token (Truth value) at ∷ []

  -- with commas between
  pub written_args : Place → Trees → List Token
  written_args at Last = []
  written_args at (More t ts) = written t ++ written_more at ts

  pub written_more : Place → Trees → List Token
  written_more at Last = []
  written_more at (More t ts) = symbol sign.Comma at ∷ written t ++ written_more at ts

  -- with a semicolon after each
  pub written_items : Place → Trees → List Token
  written_items at Last = []
  written_items at (More t ts) = written t ++ symbol sign.Semi at ∷ written_items at ts

  pub written_init : Place → MaybeTree → List Token
  written_init at Without = []
  written_init at (With t) = symbol sign.Arrow at ∷ written t

  pub written_cases : Cases → List Token
  written_cases NoCase = []
  written_cases (CaseOf at name declared t cs) =
      object name at ∷ symbol sign.Colon at ∷ type declared ∷ symbol sign.FatArrow at ∷ written t ++ symbol sign.Semi at ∷ written_cases cs

abbrev pub written_formal : Formal → List Token
written_formal f = object f.name f.at ∷ symbol sign.Colon f.at ∷ type f.declared ∷ []

abbrev pub written_more_formals : List Formal → List Token
written_more_formals [] = []
written_more_formals (f ∷ fs) = symbol sign.Comma f.at ∷ written_formal f ++ written_more_formals fs

abbrev pub written_formals : List Formal → List Token
written_formals [] = []
written_formals (f ∷ fs) = written_formal f ++ written_more_formals fs

abbrev pub written_value : Place → Option Tree → List Token
written_value at None = []
written_value at (Some t) = symbol sign.Arrow at ∷ written t

-- a method up to its body
abbrev pub written_signature : MethodDef → List Token
written_signature m =
    object m.name m.at ∷ symbol sign.LParen m.at ∷ written_formals m.formals ++ symbol sign.RParen m.at ∷ symbol sign.Colon m.at ∷ type m.result ∷ symbol sign.LBrace m.at ∷ []

abbrev pub written_feature : Feature → List Token
written_feature (feature.Method m) = written_signature m ++ written m.body ++ symbol sign.RBrace m.at ∷ symbol sign.Semi m.at ∷ []
written_feature (feature.Attribute a) = object a.name a.at ∷ symbol sign.Colon a.at ∷ type a.declared ∷ written_value a.at a.init ++ symbol sign.Semi a.at ∷ []

abbrev pub written_features : List Feature → List Token
written_features [] = []
written_features (f ∷ fs) = written_feature f ++ written_features fs

abbrev pub written_parent : Place → Option TypeRef → List Token
written_parent at None = []
written_parent at (Some class) = word key.Inherits at ∷ type class ∷ []

abbrev pub written_class : ClassDef → List Token
written_class c =
    word key.Class c.at ∷ type (record { name = c.name; at = c.at }) ∷ written_parent c.at c.parent ++ symbol sign.LBrace c.at ∷ []
    ++ written_features c.features ++ symbol sign.RBrace c.at ∷ symbol sign.Semi c.at ∷ []

abbrev pub written_classes : List ClassDef → List Token
written_classes [] = []
written_classes (c ∷ cs) = written_class c ++ written_classes cs

-- no block and no case in the tree is empty
abbrev mutual
  pub IsWritable : Tree → Type 0
  IsWritable (trees.leaf at form) = Unit {0}
  IsWritable (trees.unary at form t) = IsWritable t
  IsWritable (trees.binary at form a b) = IsWritable a × IsWritable b
  IsWritable (trees.call at form t ts) = IsWritable t × AreWritable ts
  IsWritable (trees.If at t y n) = IsWritable t × IsWritable y × IsWritable n
  IsWritable (trees.Block at Last) = ⊥
  IsWritable (trees.Block at (More t ts)) = IsWritable t × AreWritable ts
  IsWritable (trees.Let at name declared o t) = IsMaybeWritable o × IsWritable t
  IsWritable (trees.Case at t NoCase) = ⊥
  IsWritable (trees.Case at t (CaseOf here name declared b cs)) = IsWritable t × IsWritable b × AreCasesWritable cs

  pub AreWritable : Trees → Type 0
  AreWritable Last = Unit {0}
  AreWritable (More t ts) = IsWritable t × AreWritable ts

  pub IsMaybeWritable : MaybeTree → Type 0
  IsMaybeWritable Without = Unit {0}
  IsMaybeWritable (With t) = IsWritable t

  pub AreCasesWritable : Cases → Type 0
  AreCasesWritable NoCase = Unit {0}
  AreCasesWritable (CaseOf at name declared t cs) = IsWritable t × AreCasesWritable cs

abbrev pub IsValueWritable : Option Tree → Type 0
IsValueWritable None = Unit {0}
IsValueWritable (Some t) = IsWritable t

abbrev pub IsFeatureWritable : Feature → Type 0
IsFeatureWritable (feature.Method m) = IsWritable m.body
IsFeatureWritable (feature.Attribute a) = IsValueWritable a.init

abbrev pub AreClassesWritable : List ClassDef → Type 0
AreClassesWritable = AllByRecursion (λ c. AllByRecursion IsFeatureWritable c.features)

-- Worked example: the product of `1 + 2` and `x` is written `(1 + 2) * x`.
product_is_written : (p : Place) → written (trees.Arith p arith_op.Mul (trees.Arith p arith_op.Add (trees.Int p 1) (trees.Int p 2)) (trees.Id p (codes "x")))
    ≡ symbol sign.LParen p ∷ constant_token (Int 1) p ∷ symbol sign.Plus p ∷ constant_token (Int 2) p ∷ symbol sign.RParen p ∷ symbol sign.Star p ∷ object (codes "x") p ∷ []
product_is_written p = refl
