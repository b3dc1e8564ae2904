-- `IsLawful` says that a class table keeps the rules on which typing and running depend: on parents, redefined methods, unique names, and the method main
-- (the Cool manual, sections 3 to 6).
use Rattle.std.specs.Prelude.{◌≡◌, ◌≢◌, ℕ, ◌<◌, List, [], ◌∷◌, map, length, Some, codes}
use Rattle.std.specs.List.{AllByRecursion}
use Rattle.cool_syntax.specs.declared.file_tree.Feature.{Feature}
use Rattle.cool_syntax.specs.declared.file_tree.Feature.TheVariants.{Method, Attribute}
use Rattle.cool_syntax.specs.declared.file_tree.Formal.{Formal}
use Rattle.cool_classes.specs.declared.class_id.ClassId.{ClassId}
use Rattle.cool_classes.specs.declared.method.MethodRef.{MethodRef}
use Rattle.cool_classes.specs.Chains.{Class, name_of, parent_of, features_of, IsChain}
use Rattle.cool_classes.specs.Features.{own_method, implementation, formals_of, result_of, attributes_of, attribute_name}
use Rattle.lists.specs.Different.{AreDifferent}

-- Int, Bool and String are the parents of no class
pub record MayInherit (q : ClassId) : Type 0 where
  pub no_int : q.0 ≢ 2
  pub no_bool : q.0 ≢ 3
  pub no_string : q.0 ≢ 4

-- a method declares the same types as another
pub record SameSignature (p : List Class) (m above : MethodRef) : Type 0 where
  pub formals : formals_of p m ≡ formals_of p above
  pub result : result_of p m ≡ result_of p above

-- no two formals of a method have one name
abbrev pub HasDifferentFormals : Feature → Type 0
HasDifferentFormals (Method m) = AreDifferent (map (λ (f : Formal). f.name) m.formals)
HasDifferentFormals (Attribute a) = Unit {0}

-- the names of the methods among features
abbrev pub method_names : List Feature → List (List ℕ)
method_names [] = []
method_names (Method m ∷ fs) = m.name ∷ method_names fs
method_names (Attribute a ∷ fs) = method_names fs

-- a class Main has a method main of its own, without formals
pub record HasMain (p : List Class) : Type 0 where
  pub class : ClassId
  pub within : class.0 < length p
  pub name : name_of p class ≡ codes "Main"
  pub method : MethodRef
  pub own : own_method p class (codes "main") ≡ Some method
  pub formals : formals_of p method ≡ []

pub record IsLawful (p : List Class) : Type 0 where
  pub parents : (c q : ClassId) → c.0 < length p → parent_of p c ≡ Some q → MayInherit q
  -- a method that a class defines anew keeps the types of the one above
  pub redefined : (c : ClassId) (above : List ClassId) (f : List ℕ) (m n : MethodRef) → c.0 < length p → IsChain p (parent_of p c) above → own_method p c f ≡ Some m → implementation p above f ≡ Some n
      → SameSignature p m n
  pub formals : (c : ClassId) → c.0 < length p → AllByRecursion HasDifferentFormals (features_of p c)
  -- no two methods of a class's own have one name
  pub methods : (c : ClassId) → c.0 < length p → AreDifferent (method_names (features_of p c))
  -- no two attributes of a class have one name, those that it inherits among them
  pub attributes : (c : ClassId) (ds : List ClassId) → c.0 < length p → IsChain p (Some c) ds → AreDifferent (map (attribute_name p) (attributes_of p ds))
  pub main : HasMain p
