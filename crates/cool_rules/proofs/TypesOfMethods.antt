-- In a complete class table, the types that methods declare and the types of typed expressions are types of the class table.
use Rattle.std.proofs.Common.{◌≡◌, ℕ, ◌<◌, List, [], ◌∷◌, map, length, get_or, take, Option, Some, None, Bool, true, false, ap, sym, ◌∙◌, refl, subst, arith, length-take}
use Rattle.std.specs.Prelude.{if◌then◌else◌, bytes_eq, codes, slice_get, cond}
use Rattle.std.specs.List.{AllByRecursion}
use Rattle.std.proofs.lemmas.List.{get_or-take}
use Rattle.cool_syntax.specs.declared.file_tree.Feature.{Feature}
use Rattle.cool_syntax.specs.declared.file_tree.Feature.TheVariants.{Method, Attribute}
use Rattle.cool_syntax.specs.declared.file_tree.Formal.{Formal}
use Rattle.cool_syntax.specs.declared.file_tree.MethodDef.{MethodDef}
use Rattle.cool_syntax.specs.Tree.{Tree, Trees, Cases, Last, More, NoCase, CaseOf}
use Rattle.cool_syntax.specs.Tree as trees
use Rattle.cool_classes.specs.declared.class_id.ClassId.{ClassId}
use Rattle.cool_classes.specs.declared.class_id.Ty.{Ty}
use Rattle.cool_classes.specs.declared.class_id.Ty.TheVariants.{Class as IsClass, SelfType}
use Rattle.cool_classes.specs.declared.method.MethodRef.{MethodRef}
use Rattle.cool_classes.specs.declared.method.MethodRef.TheVariants.{Basic, User}
use Rattle.cool_classes.specs.declared.method.BasicMethod.TheVariants.{Abort, TypeName, Copy, OutString, OutInt, InString, InInt, Length, Concat, Substr}
use Rattle.cool_classes.specs.Chains.{Class, class_number, nothing, name_of, features_of}
use Rattle.cool_classes.specs.Features.{formals_of, result_of, formals_in, result_in, HasMethod, IsMethod}
use Rattle.cool_classes.specs.Tables.{basic_classes, IsTyped, IsClassName, IsTypeName, IsWholeTable}
use Rattle.cool_rules.specs.Conformance.{IsType}
use Rattle.cool_rules.specs.Scopes.{AreTypes, Binding, found}
use Rattle.cool_rules.specs.Typing.{HasType, HaveItems, HaveBranches, IsJoinOfBranches, type_in_scope, result_on, with_name, object_type}
use Rattle.cool_rules.proofs.RulesDecided.{denotes_type, conforming_type}
use Rattle.lists.proofs.AllItems.{all_get}

-- a name that is found has the type of its binding
found_type : (p : List Class) (scope : List Binding) (name : List ℕ) (t : Ty) → AreTypes p scope → found scope name ≡ Some t → IsType p t
found_type p [] name t h e = absurd (cc)
found_type p (b ∷ scope) name t h e = by (bytes_eq b.name name) e (found_type p scope name t h.1)
  where
    by : (x : Bool) → cond x (Some b.value) (found scope name) ≡ Some t → (found scope name ≡ Some t → IsType p t) → IsType p t
    by true e more = let same : b.value ≡ t = cc in subst (IsType p) same h.0
    by false e more = more e

module _ (p : List Class) (whole : IsWholeTable p) where
  pub basic_there : (n : ℕ) → n < 5 → (class_number n).0 < length p
  basic_there n less =
      let five : length (take 5 p) ≡ 5 = ap length whole.table.basic in
      let least = length-take 5 p in
      omega arith

  basic_named : (n : ℕ) → n < 5 → name_of p (class_number n) ≡ (get_or basic_classes n nothing).name
  basic_named n less = ap (λ (c : Class). c.name) (sym (get_or-take 5 p n nothing less) ∙ ap (λ (cs : List Class). get_or cs n nothing) whole.table.basic)

  class_name : (n : ℕ) → n < 5 → IsClassName p (get_or basic_classes n nothing).name
  class_name n less = (class_number n, basic_there n less, basic_named n less)

  type_name : (n : ℕ) → n < 5 → IsTypeName p (get_or basic_classes n nothing).name
  type_name n less = (IsClass (class_number n), (basic_there n less, basic_named n less))

  -- the definition of a method that is there
  defined : (o : Option Feature) → IsMethod o → (m : MethodDef) × (o ≡ Some (Method m))
  defined None h = absurd h
  defined (Some (Method m)) h = (m, refl)
  defined (Some (Attribute a)) h = absurd h

  method_typed : (c : ClassId) (k : ℕ) → (h : HasMethod p (User c k)) → (m : MethodDef) × (slice_get (features_of p c) k ≡ Some (Method m)) × IsTyped p (Method m)
  method_typed c k h = let (m, is) = defined (slice_get (features_of p c) k) h.1 in (m, is, all_get (IsTyped p) (features_of p c) k (Method m) (whole.table.types c h.0) is)

  names_of_formals : (fs : List Formal) → AllByRecursion (λ (f : Formal). IsClassName p f.declared.name) fs → AllByRecursion (IsClassName p) (map (λ (f : Formal). f.declared.name) fs)
  names_of_formals [] h = tt
  names_of_formals (f ∷ fs) h = (h.0, names_of_formals fs h.1)

  pub formals_named : (m : MethodRef) → HasMethod p m → AllByRecursion (IsClassName p) (formals_of p m)
  formals_named (Basic Abort) h = tt
  formals_named (Basic TypeName) h = tt
  formals_named (Basic Copy) h = tt
  formals_named (Basic OutString) h = (class_name 4 (omega arith), tt)
  formals_named (Basic OutInt) h = (class_name 2 (omega arith), tt)
  formals_named (Basic InString) h = tt
  formals_named (Basic InInt) h = tt
  formals_named (Basic Length) h = tt
  formals_named (Basic Concat) h = (class_name 4 (omega arith), tt)
  formals_named (Basic Substr) h = (class_name 2 (omega arith), (class_name 2 (omega arith), tt))
  formals_named (User c k) h =
      let (m, is, types) = method_typed c k h in
      subst (λ (o : Option Feature). AllByRecursion (IsClassName p) (formals_in o)) (sym is) (names_of_formals m.formals types.1)

  pub result_named : (m : MethodRef) → HasMethod p m → IsTypeName p (result_of p m)
  result_named (Basic Abort) h = type_name 0 (omega arith)
  result_named (Basic TypeName) h = type_name 4 (omega arith)
  result_named (Basic Copy) h = (SelfType, refl)
  result_named (Basic OutString) h = (SelfType, refl)
  result_named (Basic OutInt) h = (SelfType, refl)
  result_named (Basic InString) h = type_name 4 (omega arith)
  result_named (Basic InInt) h = type_name 2 (omega arith)
  result_named (Basic Length) h = type_name 2 (omega arith)
  result_named (Basic Concat) h = type_name 4 (omega arith)
  result_named (Basic Substr) h = type_name 4 (omega arith)
  result_named (User c k) h =
      let (m, is, types) = method_typed c k h in
      subst (λ (o : Option Feature). IsTypeName p (result_in o)) (sym is) types.2

  -- Types of expressions

  module _ (c : ClassId) (within : c.0 < length p) where
    pub in_scope : (scope : List Binding) (name : List ℕ) (t : Ty) → AreTypes p scope → type_in_scope scope name ≡ Some t → IsType p t
    in_scope scope name t h e = by (bytes_eq name (codes "self")) e
      where
        by : (x : Bool) → (if x then Some SelfType else found scope name) ≡ Some t → IsType p t
        by true e = let same : SelfType ≡ t = cc in subst (IsType p) same tt
        by false e = found_type p scope name t h e

    basic_type : (n : ℕ) → n < 5 → (t : Ty) → t ≡ IsClass (class_number n) → IsType p t
    basic_type n less t e = subst (IsType p) (sym e) (basic_there n less)

    call_type : (receiver result t : Ty) → IsType p receiver → IsType p result → t ≡ result_on receiver result → IsType p t
    call_type receiver (IsClass d) t h g e = subst (IsType p) (sym e) g
    call_type receiver SelfType t h g e = subst (IsType p) (sym e) h

    mutual
      pub expression_type : (e : Tree) (scope : List Binding) (t : Ty) → AreTypes p scope → HasType p c scope e t → IsType p t
      expression_type (trees.Id at name) scope t s h = in_scope scope name t s h
      expression_type (trees.Int at n) scope t s h = basic_type 2 (omega arith) t h
      expression_type (trees.Str at bytes) scope t s h = basic_type 4 (omega arith) t h
      expression_type (trees.Bool at b) scope t s h = basic_type 3 (omega arith) t h
      expression_type (trees.Assign at name e) scope t s (declared, other, has, there, conforms) = expression_type e scope t s has
      expression_type (trees.Dispatch at e name es) scope t s (receiver, given, has, have, call) =
          call_type receiver call.result t (expression_type e scope receiver s has) (denotes_type p whole (result_of p call.method) call.result call.declared) call.is
      expression_type (trees.StaticDispatch at e class name es) scope t s (receiver, given, k, has, have, denotes, conforms, call) =
          call_type receiver call.result t (expression_type e scope receiver s has) (denotes_type p whole (result_of p call.method) call.result call.declared) call.is
      expression_type (trees.If at test first second) scope t s (u, v, has, has1, has2, join) = conforming_type p whole c u t within (expression_type first scope u s has1) join.left
      expression_type (trees.While at test body) scope t s (u, has, has1, is) = basic_type 0 (omega arith) t is
      expression_type (trees.Block at es) scope t s h = items_type es scope object_type t s (basic_there 0 (omega arith)) h
      expression_type (trees.Let at name declared init e) scope t s (bound, other, denotes, has, has1) =
          expression_type e (with_name name bound scope) t (denotes_type p whole declared.name bound denotes, s) has1
      expression_type (trees.Case at e cs) scope t s (u, ts, has, have, different, join) = branches_type cs scope ts t s have join
      expression_type (trees.New at class) scope t s h = denotes_type p whole class.name t h
      expression_type (trees.IsVoid at e) scope t s (u, has, is) = basic_type 3 (omega arith) t is
      expression_type (trees.Not at e) scope t s (has, is) = basic_type 3 (omega arith) t is
      expression_type (trees.Neg at e) scope t s (has, is) = basic_type 2 (omega arith) t is
      expression_type (trees.Arith at op a b) scope t s (has, has1, is) = basic_type 2 (omega arith) t is
      expression_type (trees.Compare at op a b) scope t s (u, v, has, has1, comparable, is) = basic_type 3 (omega arith) t is

      items_type : (es : Trees) (scope : List Binding) (before t : Ty) → AreTypes p scope → IsType p before → HaveItems p c scope before es t → IsType p t
      items_type Last scope before t s h is = subst (IsType p) (sym is) h
      items_type (More e es) scope before t s h (u, has, have) = items_type es scope u t s (expression_type e scope u s has) have

      branches_type : (cs : Cases) (scope : List Binding) (ts : List Ty) (t : Ty) → AreTypes p scope → HaveBranches p c scope cs ts → IsJoinOfBranches p c ts t → IsType p t
      branches_type NoCase scope [] t s h join = basic_type 0 (omega arith) t join
      branches_type NoCase scope (u ∷ ts) t s h join = absurd h
      branches_type (CaseOf at name declared e cs) scope [] t s h join = absurd h
      branches_type (CaseOf at name declared e cs) scope (u ∷ ts) t s ((d, other, denotes, has), have) join =
          conforming_type p whole c u t within (expression_type e (with_name name (IsClass d) scope) u (denotes.0, s) has) join.all.0
