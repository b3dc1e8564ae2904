-- `IsTreeWithin` states for trees what the lexer guarantees for tokens: each name is an identifier, each string keeps its limit, and each source location is in
-- one of the given number of files. An integer may be any 32-bit word: the source has only those below 2 ^ 31, and constant folding makes the others.
use Rattle.std.specs.Prelude.{ℕ, ◌<◌, ◌^◌, List, IfSome, codes, refl}
use Rattle.std.specs.List.{AllByRecursion}
use Rattle.cool_syntax.specs.declared.token.TokenKind.TheVariants as kind
use Rattle.cool_syntax.specs.declared.type_ref.TypeRef.{TypeRef}
use Rattle.cool_syntax.specs.declared.file_tree.ClassDef.{ClassDef}
use Rattle.cool_syntax.specs.declared.file_tree.Feature.{Feature}
use Rattle.cool_syntax.specs.declared.file_tree.Feature.TheVariants.{Method, Attribute}
use Rattle.cool_syntax.specs.declared.file_tree.Formal.{Formal}
use Rattle.cool_syntax.specs.Tree.{Tree, Trees, MaybeTree, Cases, Last, More, Without, With, NoCase, CaseOf}
use Rattle.cool_syntax.specs.Tree as trees
use Rattle.cool_syntax.specs.TokenFacts.{IsWithinLimits, IsPlaced}

-- the name of a class, or SELF_TYPE
abbrev pub IsTypeName : List ℕ → Type 0
IsTypeName name = IsWithinLimits (kind.TypeId name)

-- the name of a feature or a variable
abbrev pub IsObjectName : List ℕ → Type 0
IsObjectName name = IsWithinLimits (kind.ObjectId name)

abbrev pub IsTypeWithin : ℕ → TypeRef → Type 0
IsTypeWithin files r = IsTypeName r.name × IsPlaced files r.at

-- the names, the constants and the places of an expression
abbrev mutual
  pub IsTreeWithin : ℕ → Tree → Type 0
  IsTreeWithin files (trees.Assign at name t) = IsPlaced files at × IsObjectName name × IsTreeWithin files t
  IsTreeWithin files (trees.Dispatch at t name ts) = IsPlaced files at × IsTreeWithin files t × IsObjectName name × AreTreesWithin files ts
  IsTreeWithin files (trees.StaticDispatch at t class name ts) = IsPlaced files at × IsTreeWithin files t × IsTypeWithin files class × IsObjectName name × AreTreesWithin files ts
  IsTreeWithin files (trees.If at t y n) = IsPlaced files at × IsTreeWithin files t × IsTreeWithin files y × IsTreeWithin files n
  IsTreeWithin files (trees.While at t b) = IsPlaced files at × IsTreeWithin files t × IsTreeWithin files b
  IsTreeWithin files (trees.Block at ts) = IsPlaced files at × AreTreesWithin files ts
  IsTreeWithin files (trees.Let at name declared o t) = IsPlaced files at × IsObjectName name × IsTypeWithin files declared × IsMaybeWithin files o × IsTreeWithin files t
  IsTreeWithin files (trees.Case at t cs) = IsPlaced files at × IsTreeWithin files t × AreCasesWithin files cs
  IsTreeWithin files (trees.New at class) = IsPlaced files at × IsTypeWithin files class
  IsTreeWithin files (trees.IsVoid at t) = IsPlaced files at × IsTreeWithin files t
  IsTreeWithin files (trees.Arith at op a b) = IsPlaced files at × IsTreeWithin files a × IsTreeWithin files b
  IsTreeWithin files (trees.Neg at t) = IsPlaced files at × IsTreeWithin files t
  IsTreeWithin files (trees.Compare at op a b) = IsPlaced files at × IsTreeWithin files a × IsTreeWithin files b
  IsTreeWithin files (trees.Not at t) = IsPlaced files at × IsTreeWithin files t
  IsTreeWithin files (trees.Id at name) = IsPlaced files at × IsObjectName name
  IsTreeWithin files (trees.Int at value) = IsPlaced files at × (value < 2 ^ 32)
  IsTreeWithin files (trees.Str at bytes) = IsPlaced files at × IsWithinLimits (kind.Str bytes)
  IsTreeWithin files (trees.Bool at value) = IsPlaced files at

  pub AreTreesWithin : ℕ → Trees → Type 0
  AreTreesWithin files Last = Unit {0}
  AreTreesWithin files (More t ts) = IsTreeWithin files t × AreTreesWithin files ts

  pub IsMaybeWithin : ℕ → MaybeTree → Type 0
  IsMaybeWithin files Without = Unit {0}
  IsMaybeWithin files (With t) = IsTreeWithin files t

  pub AreCasesWithin : ℕ → Cases → Type 0
  AreCasesWithin files NoCase = Unit {0}
  AreCasesWithin files (CaseOf at name declared t cs) = IsPlaced files at × IsObjectName name × IsTypeWithin files declared × IsTreeWithin files t × AreCasesWithin files cs

abbrev pub IsFormalWithin : ℕ → Formal → Type 0
IsFormalWithin files f = IsPlaced files f.at × IsObjectName f.name × IsTypeWithin files f.declared

abbrev pub IsFeatureWithin : ℕ → Feature → Type 0
IsFeatureWithin files (Method m) = IsPlaced files m.at × IsObjectName m.name × AllByRecursion (IsFormalWithin files) m.formals × IsTypeWithin files m.result × IsTreeWithin files m.body
IsFeatureWithin files (Attribute a) = IsPlaced files a.at × IsObjectName a.name × IsTypeWithin files a.declared × IfSome a.init (IsTreeWithin files)

abbrev pub IsClassWithin : ℕ → ClassDef → Type 0
IsClassWithin files c = IsPlaced files c.at × IsTypeName c.name × IfSome c.parent (IsTypeWithin files) × AllByRecursion (IsFeatureWithin files) c.features

abbrev pub AreClassesWithin : ℕ → List ClassDef → Type 0
AreClassesWithin files = AllByRecursion (IsClassWithin files)

-- Worked examples: `self` is the name of a variable, and SELF_TYPE that of a type.
pub name_of_self : IsObjectName (codes "self")
name_of_self = refl

type_of_self : IsTypeName (codes "SELF_TYPE")
type_of_self = refl
