-- Each fault (type error) names the typing rule that fails first: that of an expression without a type whose parts before the failing premise have types.
use Rattle.std.proofs.Common.{◌≡◌, inl, inr, ℕ, ◌<◌, ◌⊎◌, List, [], ◌∷◌, ◌++◌, length, map, Option, Some, None, Bool, true, false, ap, sym, ◌∙◌, refl, subst, arith, append_assoc}
use Rattle.std.specs.Option.{option_or}
use Rattle.std.specs.Prelude.{Contains, Ok, Err, if◌then◌else◌, nat_eq, not, ◌&&◌, ◌||◌}
use Rattle.cool_syntax.specs.declared.file_tree.Feature.{Feature}
use Rattle.cool_syntax.specs.declared.file_tree.Feature.TheVariants.{Method, Attribute}
use Rattle.cool_syntax.specs.declared.file_tree.AttributeDef.{AttributeDef}
use Rattle.cool_syntax.specs.declared.place.Place.{Place}
use Rattle.cool_syntax.specs.declared.type_ref.TypeRef.{TypeRef}
use Rattle.cool_syntax.specs.declared.operator.CompareOp.{CompareOp}
use Rattle.cool_syntax.specs.declared.operator.CompareOp.TheVariants.{Less, LessEqual, Equal}
use Rattle.cool_syntax.specs.Tree.{Tree, Trees, MaybeTree, Cases, Last, More, Without, With, NoCase, CaseOf, place_of}
use Rattle.cool_syntax.specs.Tree as trees
use Rattle.cool_classes.specs.declared.class_id.ClassId.{ClassId}
use Rattle.cool_classes.specs.declared.class_id.Ty.{Ty}
use Rattle.cool_classes.specs.declared.class_id.Ty.TheVariants.{Class as IsClass, SelfType}
use Rattle.cool_classes.specs.declared.method.MethodRef.{MethodRef}
use Rattle.cool_classes.specs.Chains.{Class}
use Rattle.cool_classes.specs.Features.{formals_of, result_of}
use Rattle.cool_classes.specs.LawfulTables.{IsLawful}
use Rattle.cool_classes.specs.Tables.{IsWholeTable}
use Rattle.cool_rules.specs.Conformance.{IsType}
use Rattle.cool_rules.specs.Rules.{formal_binding, same_type, type_of_name, type_meant, method_of, is_among}
use Rattle.cool_rules.specs.Scopes.{AreTypes, Binding, found}
use Rattle.cool_rules.specs.Typing.{HasType, IsTypedFeature, with_name, has_values, object_type, int_type, bool_type, string_type}
use Rattle.cool_rules.proofs.EnteredScopes.{entered_types}
use Rattle.cool_rules.proofs.RulesDecided.{named_denotes, denotes_type}
use Rattle.cool_rules.proofs.TypesAreTypes.{formals_are_types}
use Rattle.cool_check.specs.declared.fault.TypeFault.{TypeFault}
use Rattle.cool_check.specs.declared.fault.TypeKind.{TypeKind}
use Rattle.cool_check.specs.declared.fault.TypeKind.TheVariants.{E1, E2, E3, E4, E5, E6, E7, E8, E9, E10, E11, E12, E13, E14, E15, E16, E17, E18}
use Rattle.cool_check.specs.declared.fault.TypingRule.{TypingRule}
use Rattle.cool_check.specs.declared.fault.TypingRule.TheVariants as typing
use Rattle.cool_check.specs.Contexts.{Context, attribute_bindings, formal_bindings}
use Rattle.cool_check.specs.FailingRules.{premises, rule_of, Part, part, all_in, maybe_in, branches_in, parts, AreTyped, AreTypedBranches, AreTypedBefore, Fails, FailsWithin, FeatureFails}
use Rattle.cool_check.specs.FirstFaults.{Checked, and_then, refuse, refuse_in, refuse_type, unfit, expect, fits, is_self, bind, conform, or_unknown, name_checked, assigned, or_no_type, named, static_among, static_class, misfit, resulting, or_misfit, called_with, initialized, bound_type, branch_among, branch_class, joined, compared, checked, all_checked, last_checked, maybe_checked, cases_checked}
use Rattle.cool_check.specs.Laws.{NameFailingRules}
use Rattle.cool_check.specs.TypingFaults.{class_context, feature_checked, initial_checked}
use Rattle.cool_check.proofs.AcceptedTables.{decided}
use Rattle.cool_check.proofs.CheckedDecides.{Decides, IsDecided, checked_decides}
use Rattle.cool_check.proofs.FeaturesDecide.{own_types}
use Rattle.cool_check.proofs.TypesGiven.{bound_meant, branch_meant}

-- the value is one of which this holds, or the fault is one of which that holds
abbrev Gives : {A : Type 0} → (A → Type 0) → (TypeFault → Type 0) → Checked A → Type 0
Gives Q P (Ok a) = Q a
Gives Q P (Err fault) = P fault

pub record Comes {A : Type 0} (Q : A → Type 0) (P : TypeFault → Type 0) (r : Checked A) : Type 0 where
  pub given : Gives Q P r

-- anything holds of a value
abbrev Any : {A : Type 0} → A → Type 0
Any a = Unit {0}

value : {A : Type 0} {Q : A → Type 0} {P : TypeFault → Type 0} (a : A) → Q a → Comes Q P (Ok a)
value a h = record { given = h }

any : {A : Type 0} {P : TypeFault → Type 0} (a : A) → Comes Any P (Ok a)
any a = record { given = tt }

refusal : {A : Type 0} {Q : A → Type 0} {P : TypeFault → Type 0} (fault : TypeFault) → P fault → Comes Q P (Err fault)
refusal fault h = record { given = h }

as_of : {A : Type 0} {Q R : A → Type 0} {P S : TypeFault → Type 0} (r : Checked A) → ((a : A) → Q a → R a) → ((fault : TypeFault) → P fault → S fault) → Comes Q P r → Comes R S r
as_of {Q = Q} {R = R} {P = P} {S = S} r f g h = record { given = by r h.given }
  where
    by : (r : Checked _) → Gives Q P r → Gives R S r
    by (Ok a) h = f a h
    by (Err fault) h = g fault h

then_of : {A B : Type 0} {Q : A → Type 0} {R : B → Type 0} {P : TypeFault → Type 0} (r : Checked A) (k : A → Checked B) → Comes Q P r → ((a : A) → Q a → Comes R P (k a)) → Comes R P (and_then r k)
then_of {Q = Q} {R = R} {P = P} r k h more = record { given = by r h.given }
  where
    by : (r : Checked _) → Gives Q P r → Gives R P (and_then r k)
    by (Ok a) h = (more a h).given
    by (Err fault) h = h

either_of : {A : Type 0} {Q : A → Type 0} {P : TypeFault → Type 0} (test : Bool) (r u : Checked A) → Comes Q P r → Comes Q P u → Comes Q P (if test then r else u)
either_of true r u h k = h
either_of false r u h k = k

-- a fault that a check gives is one of which this holds
fault_is : {A : Type 0} {Q : A → Type 0} {P : TypeFault → Type 0} (r : Checked A) (fault : TypeFault) → r ≡ Err fault → Comes Q P r → P fault
fault_is {Q = Q} {P = P} r fault is h = by r is h.given
  where
    by : (r : Checked _) → r ≡ Err fault → Gives Q P r → P fault
    by (Ok a) is h = absurd (cc)
    by (Err other) is h = let same : other ≡ fault = cc in subst P same h

-- a check whose value has one more property
with_value : {A : Type 0} {Q R : A → Type 0} {P : TypeFault → Type 0} (r : Checked A) → ((a : A) → r ≡ Ok a → R a) → Comes Q P r → Comes (λ a. Q a × R a) P r
with_value {Q = Q} {R = R} {P = P} r means h = record { given = by r means h.given }
  where
    by : (r : Checked _) → ((a : _) → r ≡ Ok a → R a) → Gives Q P r → Gives (λ a. Q a × R a) P r
    by (Ok a) means h = (h, means a refl)
    by (Err fault) means h = h

-- Checks of single premises

expect_of : {A : Type 0} {Q : A → Type 0} {P : TypeFault → Type 0} (t u : Ty) (rule : TypingRule) (kind : TypeKind) (at : Place) (r : Checked A) → P (unfit rule kind at t u) → Comes Q P r
    → Comes Q P (expect t u rule kind at r)
expect_of t u rule kind at r fault h = either_of (same_type t u) r (refuse_type rule kind at t u) h (refusal _ fault)

name_of : {P : TypeFault → Type 0} (s : Context) (o : List Binding) (rule : TypingRule) (at : Place) (name : List ℕ) → P (record { kind = E1; rule = rule; at = at; found = None; due = None })
    → Comes Any P (name_checked s o rule at name)
name_of {P = P} s o rule at name fault =
    either_of (is_self name) (Ok SelfType) (or_unknown (option_or (found o name) (found s.attributes name)) rule at) (any SelfType) (by (option_or (found o name) (found s.attributes name)))
  where
    by : (x : Option Ty) → Comes Any P (or_unknown x rule at)
    by None = refusal _ fault
    by (Some a) = any a

no_type_of : {P : TypeFault → Type 0} (x : Option Ty) (rule : TypingRule) (at : Place) → P (record { kind = E11; rule = rule; at = at; found = None; due = None }) → Comes Any P (or_no_type x rule at)
no_type_of None rule at fault = refusal _ fault
no_type_of (Some a) rule at fault = any a

assigned_of : {P : TypeFault → Type 0} (s : Context) (o : List Binding) (at : Place) (name : List ℕ) (given : Ty)
    → P (record { kind = E2; rule = typing.Assign; at = at; found = None; due = None }) → P (record { kind = E1; rule = typing.Assign; at = at; found = None; due = None })
    → ((declared : Ty) → P (unfit typing.Assign E3 at given declared)) → Comes Any P (assigned s o at name given)
assigned_of s o at name given own unknown other =
    either_of (is_self name) (refuse typing.Assign E2 at) (and_then (name_checked s o typing.Assign at name) (λ declared. fits s given declared typing.Assign E3 at (Ok given))) (refusal _ own)
    (then_of (name_checked s o typing.Assign at name) (λ declared. fits s given declared typing.Assign E3 at (Ok given)) (name_of s o typing.Assign at name unknown)
    (λ declared h. either_of (conform s given declared) (Ok given) (refuse_type typing.Assign E3 at given declared) (any given) (refusal _ (other declared))))

static_of : {P : TypeFault → Type 0} (s : Context) (at : Place) (receiver : Ty) (x : Option Ty) → P (record { kind = E11; rule = typing.StaticDispatch; at = at; found = None; due = None })
    → P (record { kind = E7; rule = typing.StaticDispatch; at = at; found = None; due = None }) → ((c : ClassId) → P (unfit typing.StaticDispatch E8 at receiver (IsClass c)))
    → Comes Any P (static_among s at receiver x)
static_of s at receiver None none own other = refusal _ none
static_of s at receiver (Some SelfType) none own other = refusal _ own
static_of s at receiver (Some (IsClass c)) none own other =
    either_of (conform s receiver (IsClass c)) (Ok c) (refuse_type typing.StaticDispatch E8 at receiver (IsClass c)) (any c) (refusal _ (other c))

misfit_of : {P : TypeFault → Type 0} (s : Context) (rule : TypingRule) (formals : List (List ℕ)) (given : List Ty) (args : Trees) (result : Ty)
    → ((at : Place) (a b : Ty) → P (unfit rule E6 at a b)) → Comes Any P (or_misfit (misfit s rule formals given args) result)
misfit_of s rule [] given args result other = any result
misfit_of s rule (f ∷ fs) [] args result other = any result
misfit_of s rule (f ∷ fs) (a ∷ as') Last result other = any result
misfit_of {P = P} s rule (f ∷ fs) (a ∷ as') (More t ts) result other = by (conform s a (type_meant s.table f)) (misfit_of s rule fs as' ts result other)
  where
    by : (test : Bool) → Comes Any P (or_misfit (misfit s rule fs as' ts) result)
        → Comes Any P (or_misfit (if test then misfit s rule fs as' ts else Some (unfit rule E6 (place_of t) a (type_meant s.table f))) result)
    by true rest = rest
    by false rest = refusal _ (other (place_of t) a (type_meant s.table f))

called_of : {P : TypeFault → Type 0} (s : Context) (rule : TypingRule) (at : Place) (class : ClassId) (receiver : Ty) (args : Trees) (given : List Ty) (x : Option MethodRef)
    → P (record { kind = E4; rule = rule; at = at; found = Some (IsClass class); due = None }) → P (record { kind = E5; rule = rule; at = at; found = Some (IsClass class); due = None })
    → ((here : Place) (a b : Ty) → P (unfit rule E6 here a b)) → Comes Any P (called_with s rule at class receiver args given x)
called_of s rule at class receiver args given None none count other = refusal _ none
called_of s rule at class receiver args given (Some m) none count other =
    let result : Ty = resulting receiver (type_meant s.table (result_of s.table m)) in
    either_of (nat_eq (length (formals_of s.table m)) (length given)) (or_misfit (misfit s rule (formals_of s.table m) given args) result) (refuse_in rule E5 at class)
    (misfit_of s rule (formals_of s.table m) given args result other) (refusal _ count)

compared_of : {P : TypeFault → Type 0} (op : CompareOp) (t u : Ty) (at : Place) → ((a b : Ty) → P (unfit typing.Compare E14 at a b)) → ((a b : Ty) → P (unfit typing.Compare E15 at a b))
    → Comes Any P (compared op t u at)
compared_of Less t u at number other =
    expect_of t int_type typing.Compare E14 at (expect u int_type typing.Compare E14 at (Ok bool_type)) (number t int_type) (expect_of u int_type typing.Compare E14 at (Ok bool_type) (number u int_type) (any bool_type))
compared_of LessEqual t u at number other =
    expect_of t int_type typing.Compare E14 at (expect u int_type typing.Compare E14 at (Ok bool_type)) (number t int_type) (expect_of u int_type typing.Compare E14 at (Ok bool_type) (number u int_type) (any bool_type))
compared_of Equal t u at number other =
    either_of (not (same_type t u) && (has_values t || has_values u)) (refuse_type typing.Compare E15 at u t) (Ok bool_type) (refusal _ (other u t)) (any bool_type)

module _ (s : Context) (whole : IsWholeTable s.table) (within : s.class.0 < length s.table) (typed : AreTypes s.table s.attributes) where
  abbrev Typed : Part → Type 0
  Typed x = (t : Ty) × HasType s.table s.class x.scope x.tree t

  abbrev FailsAt : List Binding → Tree → TypeFault → Type 0
  FailsAt scope e fault = Fails s.table s.class fault scope e

  -- the rule of the first part without a type fails
  abbrev FailsAmong : List Part → TypeFault → Type 0
  FailsAmong xs fault = (before : List Part) × (x : Part) × (after : List Part) × (xs ≡ before ++ x ∷ after) × AreTyped s.table s.class before × FailsAt x.scope x.tree fault

  -- a premise of this rule fails, and the parts before it have types
  abbrev Stops : List Binding → Tree → TypeFault → Type 0
  Stops scope e fault = (rule_of e ≡ Some fault.rule) × Contains (premises fault.rule) fault.kind × AreTypedBefore s.table s.class scope fault.at e

  abbrev Reason : List Binding → Tree → TypeFault → Type 0
  Reason scope e fault = Stops scope e fault ⊎ FailsAmong (parts s.table scope e) fault

  -- the result of a check of an expression, by its reasons
  by_reason : (e : Tree) (o : List Binding) (r : Checked Ty) → Decides r (λ t. HasType s.table s.class (o ++ s.attributes) e t) → Gives Any (Reason (o ++ s.attributes) e) r
      → Gives (λ t. HasType s.table s.class (o ++ s.attributes) e t) (FailsAt (o ++ s.attributes) e) r
  by_reason e o (Ok t) d h = d.0
  by_reason e o (Err fault) d (inl stops) = Fails.itself (o ++ s.attributes) e (record { rule = stops.0; premise = stops.1; untyped = d; before = stops.2 })
  by_reason e o (Err fault) d (inr (before, x, after, is, types, fails)) = Fails.within (o ++ s.attributes) e before x after is types fails

  -- the parts that have types, and one more
  snoc_typed : (xs : List Part) (x : Part) → AreTyped s.table s.class xs → Typed x → AreTyped s.table s.class (xs ++ x ∷ [])
  snoc_typed [] x h k = (k, tt)
  snoc_typed (y ∷ xs) x h k = (h.0, snoc_typed xs x h.1 k)

  -- the type of the variable of a `let`
  bound_of : {P : TypeFault → Type 0} (at : Place) (name : List ℕ) (declared : TypeRef) (given : Option Ty) → P (record { kind = E10; rule = typing.Let; at = at; found = None; due = None })
      → P (record { kind = E11; rule = typing.Let; at = declared.at; found = None; due = None }) → ((a b : Ty) → P (unfit typing.Let E17 at a b))
      → Comes (IsType s.table) P (bound_type s at name declared given)
  bound_of {P = P} at name declared given own none other =
      either_of (is_self name) (refuse typing.Let E10 at) (and_then (named s typing.Let declared) (λ bound. initialized s at bound given)) (refusal _ own) (by (type_of_name s.table declared.name) refl)
    where
      initial : (given : Option Ty) (a : Ty) → IsType s.table a → Comes (IsType s.table) P (initialized s at a given)
      initial None a h = value a h
      initial (Some g) a h = either_of (conform s g a) (Ok a) (refuse_type typing.Let E17 at g a) (value a h) (refusal _ (other g a))

      by : (x : Option Ty) → type_of_name s.table declared.name ≡ x → Comes (IsType s.table) P (and_then (or_no_type x typing.Let declared.at) (λ bound. initialized s at bound given))
      by None e = refusal _ none
      by (Some a) e = initial given a (denotes_type s.table whole declared.name a (named_denotes s.table whole declared.name a e))

  -- the class of the variable of a branch
  branch_of : {P : TypeFault → Type 0} (at : Place) (name : List ℕ) (declared : TypeRef) (earlier : List ClassId) → P (record { kind = E10; rule = typing.Case; at = at; found = None; due = None })
      → ((kind : TypeKind) → Contains (premises typing.Case) kind → P (record { kind = kind; rule = typing.Case; at = declared.at; found = None; due = None }))
      → Comes (λ d. IsType s.table (IsClass d)) P (branch_class s at name declared earlier)
  branch_of {P = P} at name declared earlier own other =
      either_of (is_self name) (refuse typing.Case E10 at) (branch_among declared.at earlier (type_of_name s.table declared.name)) (refusal _ own) (by (type_of_name s.table declared.name) refl)
    where
      by : (x : Option Ty) → type_of_name s.table declared.name ≡ x → Comes (λ d. IsType s.table (IsClass d)) P (branch_among declared.at earlier x)
      by None e = refusal _ (other E11 (1, omega arith, refl))
      by (Some SelfType) e = refusal _ (other E12 (2, omega arith, refl))
      by (Some (IsClass d)) e = either_of (is_among earlier d) (refuse typing.Case E13 declared.at) (Ok d) (refusal _ (other E13 (3, omega arith, refl)))
          (value d (denotes_type s.table whole declared.name (IsClass d) (named_denotes s.table whole declared.name (IsClass d) e)))

  -- a fault in the branches of a `case`
  abbrev CaseReason : List Binding → Cases → TypeFault → Type 0
  CaseReason scope cs fault =
      ((fault.rule ≡ typing.Case) × Contains (premises typing.Case) fault.kind × AreTypedBranches s.table s.class scope fault.at cs) ⊎ FailsAmong (branches_in s.table scope cs) fault

  -- the result of a check of an expression, and of an expression whose first or second part it is
  whole_of : (e : Tree) (o : List Binding) → AreTypes s.table o → Comes Any (Reason (o ++ s.attributes) e) (checked s o e)
      → Comes (λ t. HasType s.table s.class (o ++ s.attributes) e t) (FailsAt (o ++ s.attributes) e) (checked s o e)
  whole_of e o types h = record { given = by_reason e o (checked s o e) (checked_decides s whole within typed e o types).decided h.given }

  first_of : (e : Tree) (o : List Binding) → AreTypes s.table o → (root : Tree) {after : List Part} → parts s.table (o ++ s.attributes) root ≡ part (o ++ s.attributes) e ∷ after
      → Comes Any (Reason (o ++ s.attributes) e) (checked s o e) → Comes (λ t. HasType s.table s.class (o ++ s.attributes) e t) (Reason (o ++ s.attributes) root) (checked s o e)
  first_of e o types root {after = after} is h = as_of (checked s o e) (λ t k. k) (λ fault k. inr ([], part (o ++ s.attributes) e, after, is, tt, k)) (whole_of e o types h)

  second_of : (e : Tree) (o : List Binding) → AreTypes s.table o → (root : Tree) {x : Part} {after : List Part} → parts s.table (o ++ s.attributes) root ≡ x ∷ part (o ++ s.attributes) e ∷ after
      → Typed x → Comes Any (Reason (o ++ s.attributes) e) (checked s o e) → Comes (λ t. HasType s.table s.class (o ++ s.attributes) e t) (Reason (o ++ s.attributes) root) (checked s o e)
  second_of e o types root {x = x} {after = after} is has h =
      as_of (checked s o e) (λ t k. k) (λ fault k. inr (x ∷ [], part (o ++ s.attributes) e, after, is, (has, tt), k)) (whole_of e o types h)

  mutual
    reasons : (e : Tree) (o : List Binding) → AreTypes s.table o → Comes Any (Reason (o ++ s.attributes) e) (checked s o e)
    reasons (trees.Id at name) o types = name_of s o typing.Id at name (inl (refl, (0, omega arith, refl), tt))
    reasons (trees.Int at n) o types = any int_type
    reasons (trees.Str at bytes) o types = any string_type
    reasons (trees.Bool at b) o types = any bool_type
    reasons (trees.Assign at name e) o types =
        then_of (checked s o e) _ (first_of e o types (trees.Assign at name e) refl (reasons e o types)) (λ t has.
        assigned_of s o at name t (inl (refl, (1, omega arith, refl), ((t, has), tt))) (inl (refl, (0, omega arith, refl), ((t, has), tt))) (λ declared. inl (refl, (2, omega arith, refl), ((t, has), tt))))
    reasons (trees.Dispatch at e name es) o types =
        then_of (checked s o e) _ (first_of e o types (trees.Dispatch at e name es) refl (reasons e o types)) (λ t has.
        then_of (all_checked s o [] es) _ (arguments_come es o types [] (trees.Dispatch at e name es) (part (o ++ s.attributes) e ∷ []) refl ((t, has), tt)) (λ given have.
        called_of s typing.Dispatch at _ t es given (method_of s.table _ name) (inl (refl, (0, omega arith, refl), ((t, has), have))) (inl (refl, (1, omega arith, refl), ((t, has), have)))
        (λ here a b. inl (refl, (2, omega arith, refl), ((t, has), have)))))
    reasons (trees.StaticDispatch at e class name es) o types =
        then_of (checked s o e) _ (first_of e o types (trees.StaticDispatch at e class name es) refl (reasons e o types)) (λ t has.
        then_of (all_checked s o [] es) _ (arguments_come es o types [] (trees.StaticDispatch at e class name es) (part (o ++ s.attributes) e ∷ []) refl ((t, has), tt)) (λ given have.
        then_of (static_class s class t) _ (static_of s class.at t (type_of_name s.table class.name) (inl (refl, (5, omega arith, refl), ((t, has), have))) (inl (refl, (3, omega arith, refl), ((t, has), have)))
        (λ c. inl (refl, (4, omega arith, refl), ((t, has), have)))) (λ c any.
        called_of s typing.StaticDispatch at c t es given (method_of s.table c name) (inl (refl, (0, omega arith, refl), ((t, has), have))) (inl (refl, (1, omega arith, refl), ((t, has), have)))
        (λ here a b. inl (refl, (2, omega arith, refl), ((t, has), have))))))
    reasons (trees.If at test first second) o types =
        then_of (checked s o test) _ (first_of test o types (trees.If at test first second) refl (reasons test o types)) (λ b has.
        then_of (checked s o first) _ (second_of first o types (trees.If at test first second) refl (b, has) (reasons first o types)) (λ t has1.
        then_of (checked s o second) _ (as_of (checked s o second) (λ u h. h)
        (λ fault h. inr (part (o ++ s.attributes) test ∷ part (o ++ s.attributes) first ∷ [], part (o ++ s.attributes) second, [], refl, ((b, has), ((t, has1), tt)), h)) (whole_of second o types (reasons second o types))) (λ u has2.
        expect_of b bool_type typing.If E9 (place_of test) _ (inl (refl, (0, omega arith, refl), ((b, has), ((t, has1), ((u, has2), tt))))) (any _))))
    reasons (trees.While at test body) o types =
        then_of (checked s o test) _ (first_of test o types (trees.While at test body) refl (reasons test o types)) (λ b has.
        then_of (checked s o body) _ (second_of body o types (trees.While at test body) refl (b, has) (reasons body o types)) (λ t has1.
        expect_of b bool_type typing.While E9 (place_of test) _ (inl (refl, (0, omega arith, refl), ((b, has), ((t, has1), tt)))) (any _)))
    reasons (trees.Block at es) o types = items_come es o types object_type (trees.Block at es) [] refl tt
    reasons (trees.Let at name declared init e) o types =
        then_of (maybe_checked s o init) _ (initial_comes init o types at name declared e) (λ given have.
        then_of (bound_type s at name declared given) _ (with_value (bound_type s at name declared given) (λ bound is. bound_meant s at name declared given bound is) (bound_of at name declared given (inl (refl, (0, omega arith, refl), have)) (inl (refl, (1, omega arith, refl), have))
        (λ a b. inl (refl, (2, omega arith, refl), have)))) (λ bound w.
        as_of (checked s (bind name bound o) e) (λ t h. tt) (λ fault h. inr (
          maybe_in (o ++ s.attributes) init,
          part (with_name name (type_meant s.table declared.name) (o ++ s.attributes)) e,
          [],
          refl,
          have,
          subst (λ (a : Ty). FailsAt (with_name name a (o ++ s.attributes)) e fault) (sym w.1) h,
        )) (whole_of e (bind name bound o) (w.0, types) (reasons e (bind name bound o) (w.0, types)))))
    reasons (trees.Case at e cs) o types =
        then_of (checked s o e) _ (first_of e o types (trees.Case at e cs) refl (reasons e o types)) (λ t has.
        as_of (cases_checked s o [] None cs) (λ u h. tt) (λ fault h. in_case at e cs (o ++ s.attributes) (t, has) fault h) (branches_come cs o types [] None))
      where
        in_case : (at : Place) (e : Tree) (cs : Cases) (scope : List Binding) → Typed (part scope e) → (fault : TypeFault) → CaseReason scope cs fault → Reason scope (trees.Case at e cs) fault
        in_case at e cs scope has fault (inl (rule, kind, before)) =
            inl (ap Some (sym rule), subst (λ (r : TypingRule). Contains (premises r) fault.kind) (sym rule) kind, (has, before))
        in_case at e cs scope has fault (inr (before, x, after, is, types, h)) = inr (part scope e ∷ before, x, after, ap (λ xs. part scope e ∷ xs) is, (has, types), h)
    reasons (trees.New at class) o types = no_type_of (type_of_name s.table class.name) typing.New class.at (inl (refl, (0, omega arith, refl), tt))
    reasons (trees.IsVoid at e) o types = then_of (checked s o e) _ (first_of e o types (trees.IsVoid at e) refl (reasons e o types)) (λ t has. any bool_type)
    reasons (trees.Not at e) o types =
        then_of (checked s o e) _ (first_of e o types (trees.Not at e) refl (reasons e o types)) (λ t has. expect_of t bool_type typing.Not E16 at _ (inl (refl, (0, omega arith, refl), ((t, has), tt))) (any _))
    reasons (trees.Neg at e) o types =
        then_of (checked s o e) _ (first_of e o types (trees.Neg at e) refl (reasons e o types)) (λ t has. expect_of t int_type typing.Neg E14 at _ (inl (refl, (0, omega arith, refl), ((t, has), tt))) (any _))
    reasons (trees.Arith at op a b) o types =
        then_of (checked s o a) _ (first_of a o types (trees.Arith at op a b) refl (reasons a o types)) (λ t has.
        then_of (checked s o b) _ (second_of b o types (trees.Arith at op a b) refl (t, has) (reasons b o types)) (λ u has1.
        expect_of t int_type typing.Arith E14 at _ (inl (refl, (0, omega arith, refl), ((t, has), ((u, has1), tt))))
        (expect_of u int_type typing.Arith E14 at (Ok int_type) (inl (refl, (0, omega arith, refl), ((t, has), ((u, has1), tt)))) (any _))))
    reasons (trees.Compare at op a b) o types =
        then_of (checked s o a) _ (first_of a o types (trees.Compare at op a b) refl (reasons a o types)) (λ t has.
        then_of (checked s o b) _ (second_of b o types (trees.Compare at op a b) refl (t, has) (reasons b o types)) (λ u has1.
        compared_of op t u at (λ x y. inl (refl, (0, omega arith, refl), ((t, has), ((u, has1), tt)))) (λ x y. inl (refl, (1, omega arith, refl), ((t, has), ((u, has1), tt))))))

    -- arguments after parts that have types
    arguments_come : (es : Trees) (o : List Binding) → AreTypes s.table o → (given : List Ty) (root : Tree) (front : List Part)
        → parts s.table (o ++ s.attributes) root ≡ front ++ all_in (o ++ s.attributes) es → AreTyped s.table s.class front
        → Comes (λ all. AreTyped s.table s.class (all_in (o ++ s.attributes) es)) (Reason (o ++ s.attributes) root) (all_checked s o given es)
    arguments_come Last o types given root front is h = value given tt
    arguments_come (More e es) o types given root front is h =
        then_of (checked s o e) _ (as_of (checked s o e) (λ t k. k) (λ fault k. inr (front, part (o ++ s.attributes) e, all_in (o ++ s.attributes) es, is, h, k)) (whole_of e o types (reasons e o types))) (λ t has.
        as_of (all_checked s o (given ++ t ∷ []) es) (λ all k. ((t, has), k)) (λ fault k. k)
        (arguments_come es o types (given ++ t ∷ []) root (front ++ part (o ++ s.attributes) e ∷ [])
        (is ∙ sym (append_assoc front (part (o ++ s.attributes) e ∷ []) (all_in (o ++ s.attributes) es))) (snoc_typed front (part (o ++ s.attributes) e) h (t, has))))

    -- the items of a block after parts that have types
    items_come : (es : Trees) (o : List Binding) → AreTypes s.table o → (last : Ty) (root : Tree) (front : List Part)
        → parts s.table (o ++ s.attributes) root ≡ front ++ all_in (o ++ s.attributes) es → AreTyped s.table s.class front
        → Comes Any (Reason (o ++ s.attributes) root) (last_checked s o last es)
    items_come Last o types last root front is h = any last
    items_come (More e es) o types last root front is h =
        then_of (checked s o e) _ (as_of (checked s o e) (λ t k. k) (λ fault k. inr (front, part (o ++ s.attributes) e, all_in (o ++ s.attributes) es, is, h, k)) (whole_of e o types (reasons e o types))) (λ t has.
        items_come es o types t root (front ++ part (o ++ s.attributes) e ∷ [])
        (is ∙ sym (append_assoc front (part (o ++ s.attributes) e ∷ []) (all_in (o ++ s.attributes) es))) (snoc_typed front (part (o ++ s.attributes) e) h (t, has)))

    -- the initial value of a `let`
    initial_comes : (init : MaybeTree) (o : List Binding) → AreTypes s.table o → (at : Place) (name : List ℕ) (declared : TypeRef) (body : Tree)
        → Comes (λ given. AreTyped s.table s.class (maybe_in (o ++ s.attributes) init)) (Reason (o ++ s.attributes) (trees.Let at name declared init body)) (maybe_checked s o init)
    initial_comes Without o types at name declared body = value None tt
    initial_comes (With e) o types at name declared body =
        then_of (checked s o e) _ (first_of e o types (trees.Let at name declared (With e) body) refl (reasons e o types)) (λ t has. value (Some t) ((t, has), tt))

    branches_come : (cs : Cases) (o : List Binding) → AreTypes s.table o → (earlier : List ClassId) (join : Option Ty)
        → Comes Any (CaseReason (o ++ s.attributes) cs) (cases_checked s o earlier join cs)
    branches_come NoCase o types earlier join = any _
    branches_come (CaseOf at name declared e cs) o types earlier join =
        then_of (branch_class s at name declared earlier) _ (with_value (branch_class s at name declared earlier) (λ d is. branch_meant s at name declared earlier d is) (branch_of at name declared earlier
        (inl (refl, (0, omega arith, refl), inl (inl refl))) (λ kind among. inl (refl, among, inl (inr refl))))) (λ d w.
        then_of (checked s (bind name (IsClass d) o) e) _ (as_of (checked s (bind name (IsClass d) o) e)
        (λ t h. subst (λ (a : Ty). HasType s.table s.class (with_name name a (o ++ s.attributes)) e t) (sym w.1) h)
        (λ fault h. inr ([], branch, branches_in s.table (o ++ s.attributes) cs, refl, tt, subst (λ (a : Ty). FailsAt (with_name name a (o ++ s.attributes)) e fault) (sym w.1) h))
        (whole_of e (bind name (IsClass d) o) (w.0, types) (reasons e (bind name (IsClass d) o) (w.0, types)))) (λ t has.
        as_of (cases_checked s o (earlier ++ d ∷ []) (Some (joined s join t)) cs) (λ u h. tt) (λ fault h. later (t, has) fault h)
        (branches_come cs o types (earlier ++ d ∷ []) (Some (joined s join t)))))
      where
        branch : Part
        branch = part (with_name name (type_meant s.table declared.name) (o ++ s.attributes)) e

        later : Typed branch → (fault : TypeFault) → CaseReason (o ++ s.attributes) cs fault → CaseReason (o ++ s.attributes) (CaseOf at name declared e cs) fault
        later has fault (inl (rule, kind, before)) = inl (rule, kind, inr (has, before))
        later has fault (inr (before, x, after, is, types, h)) = inr (branch ∷ before, x, after, ap (λ xs. branch ∷ xs) is, (has, types), h)

  pub comes : (e : Tree) (o : List Binding) → AreTypes s.table o → Comes (λ t. HasType s.table s.class (o ++ s.attributes) e t) (FailsAt (o ++ s.attributes) e) (checked s o e)
  comes e o types = whole_of e o types (reasons e o types)

module _ (p : List Class) (whole : IsWholeTable p) (c : ClassId) (within : c.0 < length p) where
  -- a check that an expression conforms to what a feature declares
  declared_fails : (x : Feature) (o : List Binding) (e : Tree) (due : Ty) (rule : TypingRule) (kind : TypeKind) (at : Place) → Contains (premises rule) kind → AreTypes p o
      → (IsTypedFeature p c x → ⊥) → (fault : TypeFault)
      → and_then (checked (class_context p c) o e) (λ found. fits (class_context p c) found due rule kind at (Ok (tt {0}))) ≡ Err fault
      → FailsWithin p c fault x (o ++ attribute_bindings p c) e rule
  declared_fails x o e due rule kind at among types untyped fault is =
      fault_is {P = λ f. FailsWithin p c f x (o ++ attribute_bindings p c) e rule} (and_then (checked (class_context p c) o e) (λ found. fits (class_context p c) found due rule kind at (Ok (tt {0})))) fault is
      (then_of (checked (class_context p c) o e) (λ found. fits (class_context p c) found due rule kind at (Ok (tt {0})))
      (as_of (checked (class_context p c) o e) (λ t h. h) (λ f h. inl h) (comes (class_context p c) whole within (own_types p whole c within) e o types))
      (λ t has. either_of (conform (class_context p c) t due) (Ok (tt {0})) (refuse_type rule kind at t due) (any (tt {0})) (refusal _ (inr (refl, among, ((t, has), tt), untyped)))))

  init_fails : (a : AttributeDef) (o : Option Tree) → a.init ≡ o → (IsTypedFeature p c (Attribute a) → ⊥) → (fault : TypeFault) → initial_checked (class_context p c) a o ≡ Err fault
      → (e : Tree) × (o ≡ Some e) × FailsWithin p c fault (Attribute a) (attribute_bindings p c) e typing.Attribute
  init_fails a None same untyped fault is = absurd (cc)
  init_fails a (Some e) same untyped fault is = (
    e,
    refl,
    declared_fails (Attribute a) [] e (type_meant p a.declared.name) typing.Attribute E17 a.at (0, omega arith, refl) tt untyped fault is,
  )

  pub feature_fails : (x : Feature) → IsDecided (feature_checked p c x) (λ u. IsTypedFeature p c x) → (fault : TypeFault) → feature_checked p c x ≡ Err fault → FeatureFails p c fault x
  feature_fails x decided fault is = by x is (λ typed. untyped (feature_checked p c x) is decided.decided typed)
    where
      untyped : (r : Checked (Unit {0})) → r ≡ Err fault → Decides r (λ u. IsTypedFeature p c x) → IsTypedFeature p c x → ⊥
      untyped (Ok u) is d typed = absurd (cc)
      untyped (Err other) is d typed = d tt typed

      by : (y : Feature) → feature_checked p c y ≡ Err fault → (IsTypedFeature p c y → ⊥) → FeatureFails p c fault y
      by (Method m) is none = declared_fails (Method m) (formal_bindings p m.formals) m.body (type_meant p m.result.name) typing.Method E18 m.at (0, omega arith, refl)
          (entered_types (IsType p) (map (formal_binding p) m.formals) [] (formals_are_types p whole m.formals) tt) none fault is
      by (Attribute a) is none = init_fails a a.init refl none fault is

-- the fault of a feature names the rule that fails
pub rules_named : (p : List Class) → IsWholeTable p → IsLawful p → NameFailingRules p
rules_named p whole lawful c k x fault within at is = feature_fails p whole c within x (decided p whole lawful c k x within at) fault is
