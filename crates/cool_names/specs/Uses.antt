-- The uses of names in a typed feature: each read and assignment of a variable, with the type that the typing rules give it there and its definition; and each
-- method call, with the method that the rules find. A use is taken from the typing derivation of the feature, and has the scope that the derivation has there
-- (`Typing.antt` of `cool_rules`).
use Rattle.std.specs.Prelude.{◌≡◌, ◌⊎◌, ℕ, ◌<◌, List, [], ◌∷◌, ◌++◌, length, Bool, true, false, Option, Some, None, map, slice_get, bytes_eq, if◌then◌else◌, codes, refl}
use Rattle.cool_syntax.specs.declared.place.Place.{Place}
use Rattle.cool_syntax.specs.declared.type_ref.TypeRef.{TypeRef}
use Rattle.cool_syntax.specs.declared.file_tree.ClassDef.{ClassDef}
use Rattle.cool_syntax.specs.declared.file_tree.Feature.{Feature}
use Rattle.cool_syntax.specs.declared.file_tree.Feature.TheVariants.{Method, Attribute}
use Rattle.cool_syntax.specs.declared.file_tree.Formal.{Formal}
use Rattle.cool_syntax.specs.Bare.{nowhere}
use Rattle.cool_syntax.specs.Tree.{Tree, Trees, MaybeTree, Cases, Last, More, Without, With, NoCase, CaseOf}
use Rattle.cool_syntax.specs.Tree as trees
use Rattle.cool_classes.specs.declared.class_id.ClassId.{ClassId}
use Rattle.cool_classes.specs.declared.class_id.Ty.{Ty}
use Rattle.cool_classes.specs.declared.class_id.Ty.TheVariants.{Class as IsClass}
use Rattle.cool_classes.specs.declared.method.AttributeRef.{AttributeRef}
use Rattle.cool_classes.specs.declared.method.MethodRef.{MethodRef}
use Rattle.cool_classes.specs.Chains.{Class, features_of}
use Rattle.cool_classes.specs.Features.{attributes_of}
use Rattle.cool_rules.specs.Rules.{type_of_name}
use Rattle.cool_rules.specs.Scopes.{Binding, Bound, entered, found}
use Rattle.cool_rules.specs.Typing.{HasType, HaveTypes, HaveItems, HasInit, HaveBranches, IsTypedFeature, IsTypedInit, bool_type, int_type, object_type, with_name}
use Rattle.cool_names.specs.declared.mark.Mark.{Mark}
use Rattle.cool_names.specs.declared.mark.Role.{Role}
use Rattle.cool_names.specs.declared.mark.Role.TheVariants as role
use Rattle.cool_names.specs.declared.mark.Target.{Target}
use Rattle.cool_names.specs.declared.mark.Target.TheVariants.{At, Given, Unknown}
use Rattle.cool_names.specs.Marks.{Context, is_written, mark, marks_of}
use Rattle.cool_names.specs.Meanings.{method_meaning, unknown}
use Rattle.cool_names.specs.Programs.{class_context, feature_marks}

pub data Use : Type 0 where
  -- a variable that is read or assigned to, its type, and where it is defined
  of_variable : (kind : Role) (at : Place) (name : List ℕ) (type : Ty) (definition : Target) → Use
  -- a call, and its method
  of_call : (at : Place) (name : List ℕ) (method : MethodRef) → Use

-- Uses that marks tell

-- A mark tells a use where it stands there, has its name, declares a name of its type and has its definition, or means its method. A call's mark may tell no
-- method: the type of the receiver is not always seen.
abbrev pub IsTold : List Class → Mark → Use → Type 0
IsTold p m (Use.of_variable kind at name type definition) =
    (m.role ≡ kind) × (m.at ≡ at) × (m.name ≡ name) × (type_of_name p m.meaning.declared ≡ Some type) × (m.meaning.target ≡ definition)
IsTold p m (Use.of_call at name method) = (m.role ≡ role.Call) × (m.at ≡ at) × (m.name ≡ name) × ((m.meaning ≡ unknown) ⊎ (m.meaning ≡ method_meaning p method))

-- uses are told one by one
abbrev pub AreTold : List Class → List Mark → List Use → Type 0
AreTold p [] [] = Unit {0}
AreTold p [] (u ∷ us) = ⊥
AreTold p (m ∷ ms) [] = ⊥
AreTold p (m ∷ ms) (u ∷ us) = IsTold p m u × AreTold p ms us

abbrev pub is_use : Role → Bool
is_use role.Variable = true
is_use role.Assigned = true
is_use role.Call = true
is_use _ = false

-- the marks of uses among marks
abbrev pub uses_among : List Mark → List Mark
uses_among [] = []
uses_among (m ∷ ms) = if is_use m.role then m ∷ uses_among ms else uses_among ms

-- Definitions

-- the variable of this name and place of definition, before those in scope
abbrev pub with_place : List ℕ → Place → List (Bound Place) → List (Bound Place)
with_place name at places = record { name = name; value = at } ∷ places

abbrev pub defined_at : Option Place → Target
defined_at None = Unknown
defined_at (Some at) = At at

-- the definition to which a name refers: the latest one in scope; `self` has none in the text
abbrev pub definition_of : List (Bound Place) → List ℕ → Target
definition_of places name = if bytes_eq name (codes "self") then Given else defined_at (found places name)

-- the definitions of formals, and of the attributes of a class, the latest first
abbrev pub formal_place : Formal → Bound Place
formal_place f = record { name = f.name; value = f.at }

abbrev pub place_there : Option Feature → Bound Place
place_there None = record { name = []; value = nowhere }
place_there (Some (Method m)) = record { name = []; value = nowhere }
place_there (Some (Attribute a)) = record { name = a.name; value = a.at }

abbrev pub attribute_place : List Class → AttributeRef → Bound Place
attribute_place p r = place_there (slice_get (features_of p r.owner) r.index)

abbrev pub formal_places : List Formal → List (Bound Place)
formal_places fs = entered (map formal_place fs) []

abbrev pub attribute_places : List Class → List ClassId → List (Bound Place)
attribute_places p chain = entered (map (attribute_place p) (attributes_of p chain)) []

-- Uses in typed expressions

abbrev mutual
  -- the uses in an expression that has a type, in the order of the text; a receiver that the text leaves out is no use
  pub uses_in : (p : List Class) (c : ClassId) (scope : List Binding) (places : List (Bound Place)) (e : Tree) (t : Ty) → HasType p c scope e t → List Use
  uses_in p c scope places (trees.Id at name) t typed = Use.of_variable role.Variable at name t (definition_of places name) ∷ []
  uses_in p c scope places (trees.Assign at name e) t (declared, other, has, there, conforms) = Use.of_variable role.Assigned at name declared (definition_of places name) ∷ uses_in p c scope places e t has
  uses_in p c scope places (trees.Dispatch at e name es) t (r, given, has, have, call) = (if is_written at e then uses_in p c scope places e r has else []) ++ (Use.of_call at name call.method ∷ uses_in_all p c scope places es given have)
  uses_in p c scope places (trees.StaticDispatch at e class name es) t (r, given, k, has, have, denotes, conforms, call) = uses_in p c scope places e r has ++ (Use.of_call at name call.method ∷ uses_in_all p c scope places es given have)
  uses_in p c scope places (trees.If at a b d) t (u, v, has, has1, has2, join) = uses_in p c scope places a bool_type has ++ (uses_in p c scope places b u has1 ++ uses_in p c scope places d v has2)
  uses_in p c scope places (trees.While at a b) t (u, has, has1, is) = uses_in p c scope places a bool_type has ++ uses_in p c scope places b u has1
  uses_in p c scope places (trees.Block at es) t have = uses_in_items p c scope places object_type es t have
  uses_in p c scope places (trees.Let at name declared o e) t (bound, other, denotes, fits, has) = uses_in_init p c scope places bound o fits ++ uses_in p c (with_name name bound scope) (with_place name at places) e t has
  uses_in p c scope places (trees.Case at e cs) t (u, ts, has, have, different, join) = uses_in p c scope places e u has ++ uses_in_branches p c scope places cs ts have
  uses_in p c scope places (trees.New at class) t typed = []
  uses_in p c scope places (trees.IsVoid at e) t (u, has, is) = uses_in p c scope places e u has
  uses_in p c scope places (trees.Arith at op a b) t (has, has1, is) = uses_in p c scope places a int_type has ++ uses_in p c scope places b int_type has1
  uses_in p c scope places (trees.Neg at e) t (has, is) = uses_in p c scope places e int_type has
  uses_in p c scope places (trees.Compare at op a b) t (u, v, has, has1, comparable, is) = uses_in p c scope places a u has ++ uses_in p c scope places b v has1
  uses_in p c scope places (trees.Not at e) t (has, is) = uses_in p c scope places e bool_type has
  uses_in p c scope places (trees.Int at value) t typed = []
  uses_in p c scope places (trees.Str at bytes) t typed = []
  uses_in p c scope places (trees.Bool at value) t typed = []

  -- in the arguments of a call
  pub uses_in_all : (p : List Class) (c : ClassId) (scope : List Binding) (places : List (Bound Place)) (es : Trees) (ts : List Ty) → HaveTypes p c scope es ts → List Use
  uses_in_all p c scope places Last [] have = []
  uses_in_all p c scope places Last (t ∷ ts) have = []
  uses_in_all p c scope places (More e es) [] have = []
  uses_in_all p c scope places (More e es) (t ∷ ts) (has, have) = uses_in p c scope places e t has ++ uses_in_all p c scope places es ts have

  -- in the items of a block
  pub uses_in_items : (p : List Class) (c : ClassId) (scope : List Binding) (places : List (Bound Place)) (before : Ty) (es : Trees) (t : Ty) → HaveItems p c scope before es t → List Use
  uses_in_items p c scope places before Last t have = []
  uses_in_items p c scope places before (More e es) t (u, has, have) = uses_in p c scope places e u has ++ uses_in_items p c scope places u es t have

  -- in an initial value, where there is one
  pub uses_in_init : (p : List Class) (c : ClassId) (scope : List Binding) (places : List (Bound Place)) (bound : Ty) (o : MaybeTree) → HasInit p c scope bound o → List Use
  uses_in_init p c scope places bound Without fits = []
  uses_in_init p c scope places bound (With e) (t, has, conforms) = uses_in p c scope places e t has

  -- in the branches of a case
  pub uses_in_branches : (p : List Class) (c : ClassId) (scope : List Binding) (places : List (Bound Place)) (cs : Cases) (ts : List Ty) → HaveBranches p c scope cs ts → List Use
  uses_in_branches p c scope places NoCase [] have = []
  uses_in_branches p c scope places NoCase (t ∷ ts) have = []
  uses_in_branches p c scope places (CaseOf at name declared e cs) [] have = []
  uses_in_branches p c scope places (CaseOf at name declared e cs) (t ∷ ts) ((d, other, denotes, has), have) =
      uses_in p c (with_name name (IsClass d) scope) (with_place name at places) e t has ++ uses_in_branches p c scope places cs ts have

-- Features

abbrev pub uses_in_value : (p : List Class) (c : ClassId) (declared : List ℕ) (init : Option Tree) → IsTypedInit p c declared init → List Use
uses_in_value p c declared None typed = []
uses_in_value p c declared (Some e) typed = uses_in p c _ (attribute_places p typed.chain) e typed.type typed.has

-- the uses in a typed feature: in the body of a method, or the initial value of an attribute
abbrev pub uses_of : (p : List Class) (c : ClassId) (x : Feature) → IsTypedFeature p c x → List Use
uses_of p c (Method m) typed = uses_in p c _ (formal_places m.formals ++ attribute_places p typed.chain) m.body typed.type typed.has
uses_of p c (Attribute a) typed = uses_in_value p c a.declared.name a.init typed

-- The marks of each typed feature tell its uses, each once, in order.
abbrev pub AreUsesTold : List Class → Type 0
AreUsesTold p =
    (ds : List ClassDef) (c : ClassId) (k : ℕ) (x : Feature) → c.0 < length p → slice_get (features_of p c) k ≡ Some x
    → (typed : IsTypedFeature p c x) → AreTold p (uses_among (feature_marks (class_context p ds c) x)) (uses_of p c x typed)

-- Worked example: in `case 1 of x : T => x esac` the use of x is told, and means the branch.
use_of_branch : (s : Context) (p q r at : Place) (declared : TypeRef) → uses_among (marks_of s [] (trees.Case p (trees.Int q 1) (CaseOf r (codes "x") declared (trees.Id at (codes "x")) NoCase)))
    ≡ mark at role.Variable (codes "x") (record { declared = declared.name; target = At r }) ∷ []
use_of_branch s p q r at declared = refl

-- In `let x : Int in let x : Bool in x` the name refers to the inner definition.
inner_definition : (p q : Place) → definition_of (with_place (codes "x") q (with_place (codes "x") p [])) (codes "x") ≡ At q
inner_definition p q = refl
