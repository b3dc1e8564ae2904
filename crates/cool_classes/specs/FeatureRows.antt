-- `IsFeatureFault` says for each rule of features (the Cool manual, sections 5, 6 and 8), and for each limit, which fault (compile-time error) a violation has,
-- and its location.
use Rattle.std.specs.Prelude.{◌≡◌, ◌≢◌, ◌⊎◌, ℕ, ◌<◌, List, [], ◌∷◌, length, slice_get, Contains, Some, codes}
use Rattle.std.specs.List.{AllByRecursion}
use Rattle.cool_syntax.specs.declared.place.Place.{Place}
use Rattle.cool_syntax.specs.declared.file_tree.Feature.TheVariants.{Method, Attribute}
use Rattle.cool_syntax.specs.declared.file_tree.AttributeDef.{AttributeDef}
use Rattle.cool_syntax.specs.declared.file_tree.Formal.{Formal}
use Rattle.cool_syntax.specs.declared.file_tree.MethodDef.{MethodDef}
use Rattle.cool_classes.specs.declared.TheConstants.{MOST_ATTRIBUTES, MOST_METHODS}
use Rattle.cool_classes.specs.declared.class_id.ClassId.{ClassId}
use Rattle.cool_classes.specs.declared.fault.ClassFault.{ClassFault}
use Rattle.cool_classes.specs.declared.fault.ClassKind.{ClassKind}
use Rattle.cool_classes.specs.declared.fault.ClassKind.TheVariants.{F1, F2, F3, F4, F5, F6, F7, F8, F9}
use Rattle.cool_classes.specs.declared.method.MethodRef.{MethodRef}
use Rattle.cool_classes.specs.Chains.{Class, name_of, features_of}
use Rattle.cool_classes.specs.FeatureFaults.{declared_types}
use Rattle.cool_classes.specs.Features.{implementation, attributes_of, formals_of, result_of}
use Rattle.cool_classes.specs.MethodNames.{methods_of}
use Rattle.cool_classes.specs.Names.{self_type}

-- the feature of a class at a position
abbrev pub IsMethodAt : List Class → ClassId → ℕ → MethodDef → Type 0
IsMethodAt p c i m = slice_get (features_of p c) i ≡ Some (Method m)

abbrev pub IsAttributeAt : List Class → ClassId → ℕ → AttributeDef → Type 0
IsAttributeAt p c i a = slice_get (features_of p c) i ≡ Some (Attribute a)

abbrev pub IsFormalAt : MethodDef → ℕ → Formal → Type 0
IsFormalAt m i f = slice_get m.formals i ≡ Some f

-- a name that is that of no class, and not SELF_TYPE
abbrev pub IsNoType : List Class → List ℕ → Type 0
IsNoType p name = (name ≢ self_type) × ((c : ClassId) → c.0 < length p → name_of p c ≢ name)

-- a method of another signature than this one
abbrev pub HasOtherSignature : List Class → MethodDef → MethodRef → Type 0
HasOtherSignature p m q = (declared_types m.formals ≢ formals_of p q) ⊎ (m.result.name ≢ result_of p q)

-- a fault of the class `c`, whose name is at the place `here`, and whose ancestors are `ds`
pub data IsFeatureFault (p : List Class) (c : ClassId) (ds : List ClassId) (here : Place) : ClassKind → Place → Type 0 where
  -- an earlier method of the class has the name
  method_twice : (i j : ℕ) (m n : MethodDef) → IsMethodAt p c i m → j < i → IsMethodAt p c j n → n.name ≡ m.name → IsFeatureFault p c ds here F1 m.at
  -- an earlier attribute of the class has the name, or one of the classes above
  attribute_twice : (i j : ℕ) (a b : AttributeDef) → IsAttributeAt p c i a → j < i → IsAttributeAt p c j b → b.name ≡ a.name → IsFeatureFault p c ds here F2 a.at
  attribute_inherited : (i j : ℕ) (a b : AttributeDef) (d : ClassId) → IsAttributeAt p c i a → Contains ds d → IsAttributeAt p d j b → b.name ≡ a.name → IsFeatureFault p c ds here F2 a.at
  -- an attribute or a formal named self
  attribute_self : (i : ℕ) (a : AttributeDef) → IsAttributeAt p c i a → a.name ≡ codes "self" → IsFeatureFault p c ds here F3 a.at
  formal_self : (i j : ℕ) (m : MethodDef) (f : Formal) → IsMethodAt p c i m → IsFormalAt m j f → f.name ≡ codes "self" → IsFeatureFault p c ds here F3 f.at
  -- an earlier formal of the method has the name
  formal_twice : (i j k : ℕ) (m : MethodDef) (f g : Formal) → IsMethodAt p c i m → IsFormalAt m j f → k < j → IsFormalAt m k g → g.name ≡ f.name → IsFeatureFault p c ds here F4 f.at
  -- a formal of type SELF_TYPE
  formal_self_type : (i j : ℕ) (m : MethodDef) (f : Formal) → IsMethodAt p c i m → IsFormalAt m j f → f.declared.name ≡ self_type → IsFeatureFault p c ds here F5 f.declared.at
  -- a type of a formal, a result or an attribute that is no class and not SELF_TYPE
  formal_unknown : (i j : ℕ) (m : MethodDef) (f : Formal) → IsMethodAt p c i m → IsFormalAt m j f → IsNoType p f.declared.name → IsFeatureFault p c ds here F6 f.declared.at
  result_unknown : (i : ℕ) (m : MethodDef) → IsMethodAt p c i m → IsNoType p m.result.name → IsFeatureFault p c ds here F6 m.result.at
  attribute_unknown : (i : ℕ) (a : AttributeDef) → IsAttributeAt p c i a → IsNoType p a.declared.name → IsFeatureFault p c ds here F6 a.declared.at
  -- the nearest method of the name on the chain of the parent has another signature
  other_signature : (i : ℕ) (m : MethodDef) (q : MethodRef) → IsMethodAt p c i m → implementation p ds m.name ≡ Some q → HasOtherSignature p m q → IsFeatureFault p c ds here F7 m.at
  -- a class Main with no method main of its own, or whose first one has formals
  no_main : name_of p c ≡ codes "Main" → ((i : ℕ) (m : MethodDef) → IsMethodAt p c i m → m.name ≢ codes "main") → IsFeatureFault p c ds here F8 here
  main_formals : (i : ℕ) (m : MethodDef) → name_of p c ≡ codes "Main" → IsMethodAt p c i m → m.name ≡ codes "main"
      → ((j : ℕ) (n : MethodDef) → j < i → IsMethodAt p c j n → n.name ≢ codes "main") → m.formals ≢ [] → IsFeatureFault p c ds here F8 here
  -- a class with too many attributes or methods
  attributes_over : MOST_ATTRIBUTES < length (attributes_of p (c ∷ ds)) → IsFeatureFault p c ds here F9 here
  methods_over : MOST_METHODS < length (methods_of p (c ∷ ds)) → IsFeatureFault p c ds here F9 here

-- the list has exactly the faults of the rows
pub record AreRows (IsRow : ClassKind → Place → Type 0) (faults : List ClassFault) : Type 0 where
  pub only : AllByRecursion (λ (f : ClassFault). IsRow f.kind f.at) faults
  pub all : (kind : ClassKind) (at : Place) → IsRow kind at → Contains faults (record { kind = kind; at = at })
