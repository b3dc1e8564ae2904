-- `HasType` is the typing relation: it says which type an expression has in a class, with given names in scope. `IsTypedFeature` says which features are well
-- typed (the Cool manual, section 12).
use Rattle.std.specs.Prelude.{◌≡◌, ◌⊎◌, ℕ, List, [], ◌∷◌, ◌++◌, map, Option, Some, None, Bool, false, ◌||◌, codes, bytes_eq, if◌then◌else◌}
use Rattle.std.specs.List.{AllByRecursion}
use Rattle.cool_syntax.specs.declared.operator.CompareOp.{CompareOp}
use Rattle.cool_syntax.specs.declared.operator.CompareOp.TheVariants.{Less, LessEqual, Equal}
use Rattle.cool_syntax.specs.declared.file_tree.Feature.{Feature}
use Rattle.cool_syntax.specs.declared.file_tree.Feature.TheVariants.{Method, Attribute}
use Rattle.cool_syntax.specs.declared.file_tree.Formal.{Formal}
use Rattle.cool_syntax.specs.Tree.{Tree, Trees, MaybeTree, Cases, Last, More, Without, With, NoCase, CaseOf}
use Rattle.cool_syntax.specs.Tree as trees
use Rattle.cool_classes.specs.declared.class_id.ClassId.{ClassId}
use Rattle.cool_classes.specs.declared.class_id.Ty.{Ty}
use Rattle.cool_classes.specs.declared.class_id.Ty.TheVariants.{Class as IsClass, SelfType}
use Rattle.cool_classes.specs.declared.method.MethodRef.{MethodRef}
use Rattle.cool_classes.specs.declared.method.AttributeRef.{AttributeRef}
use Rattle.cool_classes.specs.Chains.{Class, class_number, IsChain}
use Rattle.cool_classes.specs.Features.{Denotes, implementation, attributes_of, formals_of, result_of}
use Rattle.cool_rules.specs.Conformance.{Conforms, IsJoinOfTypes, class_of}
use Rattle.cool_rules.specs.Rules.{same_type, attribute_binding, formal_binding}
use Rattle.cool_rules.specs.Scopes.{Binding, found}
use Rattle.lists.specs.Different.{AreDifferent}

-- Types that rules name

abbrev pub object_type : Ty
object_type = IsClass (class_number 0)

abbrev pub int_type : Ty
int_type = IsClass (class_number 2)

abbrev pub bool_type : Ty
bool_type = IsClass (class_number 3)

abbrev pub string_type : Ty
string_type = IsClass (class_number 4)

-- Int, Bool and String, whose objects are compared by value
abbrev pub has_values : Ty → Bool
has_values t = same_type t int_type || (same_type t bool_type || same_type t string_type)

-- The parts of rules

-- the type of a name: `self` is always in scope
abbrev pub type_in_scope : List Binding → List ℕ → Option Ty
type_in_scope scope name = if bytes_eq name (codes "self") then Some SelfType else found scope name

abbrev pub IsNotSelf : List ℕ → Type 0
IsNotSelf name = bytes_eq name (codes "self") ≡ false

abbrev pub with_name : List ℕ → Ty → List Binding → List Binding
with_name name type scope = record { name = name; value = type } ∷ scope

-- the first class on the chain of this one that has a method of the name has this one
abbrev pub IsImplementation : List Class → ClassId → List ℕ → MethodRef → Type 0
IsImplementation p c f m = (ds : List ClassId) × IsChain p (Some c) ds × (implementation p ds f ≡ Some m)

-- each argument conforms to its formal, and there are as many
abbrev pub AreArguments : List Class → ClassId → List Ty → List (List ℕ) → Type 0
AreArguments p c [] [] = Unit {0}
AreArguments p c [] (formal ∷ formals) = ⊥
AreArguments p c (t ∷ ts) [] = ⊥
AreArguments p c (t ∷ ts) (formal ∷ formals) = ((u : Ty) × Denotes p formal u × Conforms p c t u) × AreArguments p c ts formals

-- the type of a call whose method declares a result
abbrev pub result_on : Ty → Ty → Ty
result_on receiver (IsClass c) = IsClass c
result_on receiver SelfType = receiver

-- In class c, a call of a method of class k on a receiver, with arguments of these types, has a type.
pub record IsCall (p : List Class) (c k : ClassId) (name : List ℕ) (receiver : Ty) (given : List Ty) (type : Ty) : Type 0 where
  pub method : MethodRef
  pub result : Ty
  pub found : IsImplementation p k name method
  pub arguments : AreArguments p c given (formals_of p method)
  pub declared : Denotes p (result_of p method) result
  pub is : type ≡ result_on receiver result

-- operands that may be compared
abbrev pub AreComparable : CompareOp → Ty → Ty → Type 0
AreComparable Less t u = (t ≡ int_type) × (u ≡ int_type)
AreComparable LessEqual t u = (t ≡ int_type) × (u ≡ int_type)
AreComparable Equal t u = (t ≡ u) ⊎ ((has_values t ≡ false) × (has_values u ≡ false))

-- the join of the types of branches; that of none is Object
pub record IsJoinOfAll (p : List Class) (c : ClassId) (ts : List Ty) (join : Ty) : Type 0 where
  pub all : AllByRecursion (λ t. Conforms p c t join) ts
  pub least : (other : Ty) → AllByRecursion (λ t. Conforms p c t other) ts → Conforms p c join other

abbrev pub IsJoinOfBranches : List Class → ClassId → List Ty → Ty → Type 0
IsJoinOfBranches p c [] join = join ≡ object_type
IsJoinOfBranches p c (t ∷ ts) join = IsJoinOfAll p c (t ∷ ts) join

-- the names of the types of branches
abbrev pub branch_types : Cases → List (List ℕ)
branch_types NoCase = []
branch_types (CaseOf at name declared t cs) = declared.name ∷ branch_types cs

abbrev mutual
  -- in class c and a scope, an expression has a type
  pub HasType : List Class → ClassId → List Binding → Tree → Ty → Type 0
  HasType p c scope (trees.Id at name) type = type_in_scope scope name ≡ Some type
  HasType p c scope (trees.Int at n) type = type ≡ int_type
  HasType p c scope (trees.Str at bytes) type = type ≡ string_type
  HasType p c scope (trees.Bool at b) type = type ≡ bool_type
  HasType p c scope (trees.Assign at name e) type =
      (declared : Ty) × IsNotSelf name × HasType p c scope e type × (found scope name ≡ Some declared) × Conforms p c type declared
  HasType p c scope (trees.Dispatch at e name es) type =
      (receiver : Ty) × (given : List Ty) × HasType p c scope e receiver × HaveTypes p c scope es given × IsCall p c (class_of c receiver) name receiver given type
  HasType p c scope (trees.StaticDispatch at e class name es) type =
      (receiver : Ty) × (given : List Ty) × (k : ClassId) × HasType p c scope e receiver × HaveTypes p c scope es given × Denotes p class.name (IsClass k)
      × Conforms p c receiver (IsClass k) × IsCall p c k name receiver given type
  HasType p c scope (trees.If at test first second) type =
      (t : Ty) × (u : Ty) × HasType p c scope test bool_type × HasType p c scope first t × HasType p c scope second u × IsJoinOfTypes p c t u type
  HasType p c scope (trees.While at test body) type = (t : Ty) × HasType p c scope test bool_type × HasType p c scope body t × (type ≡ object_type)
  HasType p c scope (trees.Block at es) type = HaveItems p c scope object_type es type
  HasType p c scope (trees.Let at name declared init e) type =
      (bound : Ty) × IsNotSelf name × Denotes p declared.name bound × HasInit p c scope bound init × HasType p c (with_name name bound scope) e type
  HasType p c scope (trees.Case at e cs) type =
      (t : Ty) × (ts : List Ty) × HasType p c scope e t × HaveBranches p c scope cs ts × AreDifferent (branch_types cs) × IsJoinOfBranches p c ts type
  HasType p c scope (trees.New at class) type = Denotes p class.name type
  HasType p c scope (trees.IsVoid at e) type = (t : Ty) × HasType p c scope e t × (type ≡ bool_type)
  HasType p c scope (trees.Not at e) type = HasType p c scope e bool_type × (type ≡ bool_type)
  HasType p c scope (trees.Neg at e) type = HasType p c scope e int_type × (type ≡ int_type)
  HasType p c scope (trees.Arith at op a b) type = HasType p c scope a int_type × HasType p c scope b int_type × (type ≡ int_type)
  HasType p c scope (trees.Compare at op a b) type =
      (t : Ty) × (u : Ty) × HasType p c scope a t × HasType p c scope b u × AreComparable op t u × (type ≡ bool_type)

  -- the arguments of a call have these types
  pub HaveTypes : List Class → ClassId → List Binding → Trees → List Ty → Type 0
  HaveTypes p c scope Last [] = Unit {0}
  HaveTypes p c scope Last (t ∷ ts) = ⊥
  HaveTypes p c scope (More e es) [] = ⊥
  HaveTypes p c scope (More e es) (t ∷ ts) = HasType p c scope e t × HaveTypes p c scope es ts

  -- the last of some items, after one of a type, has a type
  pub HaveItems : List Class → ClassId → List Binding → Ty → Trees → Ty → Type 0
  HaveItems p c scope before Last type = type ≡ before
  HaveItems p c scope before (More e es) type = (t : Ty) × HasType p c scope e t × HaveItems p c scope t es type

  -- an initial value, where there is one, conforms to a type
  pub HasInit : List Class → ClassId → List Binding → Ty → MaybeTree → Type 0
  HasInit p c scope bound Without = Unit {0}
  HasInit p c scope bound (With e) = (t : Ty) × HasType p c scope e t × Conforms p c t bound

  -- branches have these types
  pub HaveBranches : List Class → ClassId → List Binding → Cases → List Ty → Type 0
  HaveBranches p c scope NoCase [] = Unit {0}
  HaveBranches p c scope NoCase (t ∷ ts) = ⊥
  HaveBranches p c scope (CaseOf at name declared e cs) [] = ⊥
  HaveBranches p c scope (CaseOf at name declared e cs) (t ∷ ts) =
      ((d : ClassId) × IsNotSelf name × Denotes p declared.name (IsClass d) × HasType p c (with_name name (IsClass d) scope) e t) × HaveBranches p c scope cs ts

-- Features

abbrev pub formals_in_scope : List Class → List Formal → List Binding
formals_in_scope p fs = map (formal_binding p) fs

abbrev pub attributes_in_scope : List Class → List AttributeRef → List Binding
attributes_in_scope p rs = map (attribute_binding p) rs

-- an expression conforms to the type that a feature declares, in the scope of its class's attributes after these names
pub record FitsDeclared (p : List Class) (c : ClassId) (inner : List Binding) (e : Tree) (declared : List ℕ) : Type 0 where
  pub chain : List ClassId
  pub is_chain : IsChain p (Some c) chain
  pub type : Ty
  pub result : Ty
  pub has : HasType p c (inner ++ attributes_in_scope p (attributes_of p chain)) e type
  pub denotes : Denotes p declared result
  pub conforms : Conforms p c type result

abbrev pub IsTypedInit : List Class → ClassId → List ℕ → Option Tree → Type 0
IsTypedInit p c declared None = Unit {0}
IsTypedInit p c declared (Some e) = FitsDeclared p c [] e declared

abbrev pub IsTypedFeature : List Class → ClassId → Feature → Type 0
IsTypedFeature p c (Method m) = FitsDeclared p c (formals_in_scope p m.formals) m.body m.result.name
IsTypedFeature p c (Attribute a) = IsTypedInit p c a.declared.name a.init
