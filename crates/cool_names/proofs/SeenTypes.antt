-- If the typing rules give an expression a type, `seen_type`, which computes a type from the form of the expression without checking it, finds the same type or
-- none.
use Rattle.std.proofs.Common.{◌≡◌, ◌⊎◌, inl, inr, ℕ, ◌<◌, List, length, Option, Some, None, Bool, true, false, ap, ap₂, sym, ◌∙◌, refl, subst, arith}
use Rattle.std.specs.Prelude.{bytes_eq, codes, if◌then◌else◌, unwrap_or}
use Rattle.std.specs.Option.{option_or}
use Rattle.cool_syntax.specs.declared.file_tree.ClassDef.{ClassDef}
use Rattle.cool_syntax.specs.Tree.{Tree}
use Rattle.cool_syntax.specs.Tree as trees
use Rattle.cool_classes.specs.declared.class_id.ClassId.{ClassId}
use Rattle.cool_classes.specs.declared.class_id.Ty.{Ty}
use Rattle.cool_classes.specs.declared.class_id.Ty.TheVariants.{Class as IsClass, SelfType}
use Rattle.cool_classes.specs.declared.method.MethodRef.{MethodRef}
use Rattle.cool_classes.specs.Chains.{Class, class_number}
use Rattle.cool_classes.specs.ClimbedChains.{chain}
use Rattle.cool_classes.specs.Features.{implementation, result_of}
use Rattle.cool_classes.specs.Tables.{IsWholeTable}
use Rattle.cool_classes.proofs.ChainsOfTables.{chain_is}
use Rattle.cool_classes.proofs.Climbs.{chain_unique}
use Rattle.cool_rules.specs.Conformance.{IsType, class_of}
use Rattle.cool_rules.specs.Rules.{method_of, type_meant, type_of_name}
use Rattle.cool_rules.specs.Scopes.{Binding, Bound, found}
use Rattle.cool_rules.specs.Typing.{HasType, IsCall, IsImplementation, result_on}
use Rattle.cool_rules.proofs.RulesDecided.{denoted, denotes_type, named_denotes}
use Rattle.cool_rules.proofs.RulesOfTables.{meant_is}
use Rattle.cool_rules.proofs.TypesOfMethods.{basic_there}
use Rattle.cool_names.specs.Laws.{AreAgreed, IsDeclaredRightly, IsSeenRightly, within}
use Rattle.cool_names.specs.Marks.{seen_type, type_declared, type_of_call, type_of_result}
use Rattle.cool_names.specs.Meanings.{self_meaning, variable_meaning}
use Rattle.cool_names.specs.Scopes.{Variable}

-- the class that a type stands for is one of the table
pub class_within : (p : List Class) (c : ClassId) (a : Ty) → c.0 < length p → IsType p a → (class_of c a).0 < length p
class_within p c (IsClass a) less is = is
class_within p c SelfType less is = less

-- the method that the rules find is the function's
pub method_is : (p : List Class) → IsWholeTable p → (k : ClassId) (name : List ℕ) (m : MethodRef) → k.0 < length p → IsImplementation p k name m → method_of p k name ≡ Some m
unfolding method_of
method_is p whole k name m less (ds, is_chain, is) =
    ap (λ (es : List ClassId). implementation p es name) (chain_unique p (Some k) (chain p k) ds (chain_is p k whole.table less) is_chain) ∙ is

-- a type that a name means is one of the table
meant_type : (p : List Class) → IsWholeTable p → (name : List ℕ) → IsType p (type_meant p name)
unfolding type_meant
meant_type p whole name = by (type_of_name p name) refl
  where
    by : (o : Option Ty) → type_of_name p name ≡ o → IsType p (unwrap_or o (IsClass (class_number 0)))
    by None e = basic_there p whole 0 (omega arith)
    by (Some a) e = denotes_type p whole name a (named_denotes p whole name a e)

result_type : (p : List Class) (r u : Ty) → IsType p r → IsType p u → IsType p (result_on r u)
result_type p r (IsClass a) h k = k
result_type p r SelfType h k = h

module _ (p : List Class) (whole : IsWholeTable p) (ds : List ClassDef) (c : ClassId) (less : c.0 < length p) (attributes : List (Bound Variable)) where
  -- a type that is declared is one of the table
  declared_typed : (o : Option Variable) (t : Ty) → type_declared p o ≡ Some t → IsType p t
  declared_typed None t e = absurd (cc)
  declared_typed (Some v) t e = denotes_type p whole v.declared t (named_denotes p whole v.declared t e)

  result_typed : (r : Ty) (o : Option MethodRef) (t : Ty) → IsType p r → type_of_result p r o ≡ Some t → IsType p t
  result_typed r None t is e = absurd (cc)
  result_typed r (Some m) t is e =
      let same : result_on r (type_meant p (result_of p m)) ≡ t = cc in
      subst (IsType p) same (result_type p r (type_meant p (result_of p m)) is (meant_type p whole (result_of p m)))

  call_typed : (receiver owner : Option Ty) (name : List ℕ) (t : Ty) → ((r : Ty) → receiver ≡ Some r → IsType p r) → type_of_call (within p ds c attributes) receiver owner name ≡ Some t → IsType p t
  call_typed None owner name t typed e = absurd (cc)
  call_typed (Some r) None name t typed e = absurd (cc)
  call_typed (Some r) (Some w) name t typed e = result_typed r (method_of p (class_of c w) name) t (typed r refl) e

  given_typed : (n : ℕ) (t : Ty) → n < 5 → Some (IsClass (class_number n)) ≡ Some t → IsType p t
  given_typed n t five e = let same : IsClass (class_number n) ≡ t = cc in subst (IsType p) same (basic_there p whole n five)

  -- a type that is seen is one of the table
  pub seen_typed : (locals : List (Bound Variable)) (e : Tree) (t : Ty) → seen_type (within p ds c attributes) locals e ≡ Some t → IsType p t
  seen_typed locals (trees.Id at name) t e = by (bytes_eq name (codes "self")) e
    where
      by : (b : Bool) → (if b then Some SelfType else type_declared p (option_or (found locals name) (found attributes name))) ≡ Some t → IsType p t
      by true e = let same : SelfType ≡ t = cc in subst (IsType p) same tt
      by false e = declared_typed (option_or (found locals name) (found attributes name)) t e
  seen_typed locals (trees.Assign at name e) t h = seen_typed locals e t h
  seen_typed locals (trees.Dispatch at e name es) t h = call_typed (seen_type (within p ds c attributes) locals e) (seen_type (within p ds c attributes) locals e) name t (λ r is. seen_typed locals e r is) h
  seen_typed locals (trees.StaticDispatch at e class name es) t h = call_typed (seen_type (within p ds c attributes) locals e) (type_of_name p class.name) name t (λ r is. seen_typed locals e r is) h
  seen_typed locals (trees.While at a b) t h = given_typed 0 t (omega arith) h
  seen_typed locals (trees.New at class) t h = denotes_type p whole class.name t (named_denotes p whole class.name t h)
  seen_typed locals (trees.IsVoid at e) t h = given_typed 3 t (omega arith) h
  seen_typed locals (trees.Arith at op a b) t h = given_typed 2 t (omega arith) h
  seen_typed locals (trees.Neg at e) t h = given_typed 2 t (omega arith) h
  seen_typed locals (trees.Compare at op a b) t h = given_typed 3 t (omega arith) h
  seen_typed locals (trees.Not at e) t h = given_typed 3 t (omega arith) h
  seen_typed locals (trees.Int at n) t h = given_typed 2 t (omega arith) h
  seen_typed locals (trees.Str at bytes) t h = given_typed 4 t (omega arith) h
  seen_typed locals (trees.Bool at b) t h = given_typed 3 t (omega arith) h
  seen_typed locals _ t h = absurd (cc)

  -- the type of a call that the rules type
  call_type : (r w : Ty) (name : List ℕ) (given : List Ty) (t : Ty) → (class_of c w).0 < length p → IsCall p c (class_of c w) name r given t → type_of_call (within p ds c attributes) (Some r) (Some w) name ≡ Some t
  call_type r w name given t there call =
      ap (type_of_result p r) (method_is p whole (class_of c w) name call.method there call.found)
      ∙ ap (λ (u : Ty). Some (result_on r u)) (meant_is p whole.table (result_of p call.method) call.result call.declared) ∙ ap Some (sym call.is)

  -- the type seen is the one that the rules give
  seen_is : (locals : List (Bound Variable)) (scope : List Binding) (e : Tree) (t : Ty) → AreAgreed p locals attributes scope → HasType p c scope e t
      → (seen_type (within p ds c attributes) locals e ≡ None) ⊎ (seen_type (within p ds c attributes) locals e ≡ Some t)
  seen_is locals scope (trees.Id at name) t agreed h = inr (ap (λ (o : Option Ty). if bytes_eq name (codes "self") then Some SelfType else o) (agreed name) ∙ h)
  seen_is locals scope (trees.Assign at name e) t agreed (d, other, has, there, conforms) = seen_is locals scope e t agreed has
  seen_is locals scope (trees.Dispatch at e name es) t agreed (r, given, has, have, call) = by (seen_is locals scope e r agreed has)
    where
      seen : Option Ty
      seen = seen_type (within p ds c attributes) locals e

      by : (seen ≡ None) ⊎ (seen ≡ Some r) → (type_of_call (within p ds c attributes) seen seen name ≡ None) ⊎ (type_of_call (within p ds c attributes) seen seen name ≡ Some t)
      by (inl none) = inl (ap (λ (o : Option Ty). type_of_call (within p ds c attributes) o o name) none)
      by (inr some) = inr (ap (λ (o : Option Ty). type_of_call (within p ds c attributes) o o name) some ∙ call_type r r name given t (class_within p c r less (seen_typed locals e r some)) call)
  seen_is locals scope (trees.StaticDispatch at e class name es) t agreed (r, given, k, has, have, denotes, conforms, call) = by (seen_is locals scope e r agreed has)
    where
      seen : Option Ty
      seen = seen_type (within p ds c attributes) locals e

      by : (seen ≡ None) ⊎ (seen ≡ Some r) → (type_of_call (within p ds c attributes) seen (type_of_name p class.name) name ≡ None) ⊎ (type_of_call (within p ds c attributes) seen (type_of_name p class.name) name ≡ Some t)
      by (inl none) = inl (ap (λ (o : Option Ty). type_of_call (within p ds c attributes) o (type_of_name p class.name) name) none)
      by (inr some) = inr (ap₂ (λ (o w : Option Ty). type_of_call (within p ds c attributes) o w name) some (denoted p whole class.name (IsClass k) denotes) ∙ call_type r (IsClass k) name given t denotes.0 call)
  seen_is locals scope (trees.While at a b) t agreed (u, has, has1, is) = inr (ap Some (sym is))
  seen_is locals scope (trees.New at class) t agreed h = inr (denoted p whole class.name t h)
  seen_is locals scope (trees.IsVoid at e) t agreed (u, has, is) = inr (ap Some (sym is))
  seen_is locals scope (trees.Arith at op a b) t agreed (has, has1, is) = inr (ap Some (sym is))
  seen_is locals scope (trees.Neg at e) t agreed (has, is) = inr (ap Some (sym is))
  seen_is locals scope (trees.Compare at op a b) t agreed (u, v, has, has1, comparable, is) = inr (ap Some (sym is))
  seen_is locals scope (trees.Not at e) t agreed (has, is) = inr (ap Some (sym is))
  seen_is locals scope (trees.Int at n) t agreed h = inr (ap Some (sym h))
  seen_is locals scope (trees.Str at bytes) t agreed h = inr (ap Some (sym h))
  seen_is locals scope (trees.Bool at b) t agreed h = inr (ap Some (sym h))
  seen_is locals scope _ t agreed h = inl refl

pub seen_rightly : (p : List Class) → IsWholeTable p → IsSeenRightly p
seen_rightly p whole ds c locals attributes scope e t less agreed h = seen_is p whole ds c less attributes locals scope e t agreed h

-- the type that a variable's mark names
declared_is : (p : List Class) (o : Option Variable) (t : Ty) → type_declared p o ≡ Some t → type_of_name p (variable_meaning o).declared ≡ Some t
declared_is p None t e = absurd (cc)
declared_is p (Some v) t e = e

pub declared_rightly : (p : List Class) → IsDeclaredRightly p
unfolding type_of_name
declared_rightly p c locals attributes scope at name t agreed h = by (bytes_eq name (codes "self")) h
  where
    by : (b : Bool) → (if b then Some SelfType else found scope name) ≡ Some t → type_of_name p (if b then self_meaning else variable_meaning (option_or (found locals name) (found attributes name))).declared ≡ Some t
    by true e = e
    by false e = declared_is p (option_or (found locals name) (found attributes name)) t (agreed name ∙ e)
