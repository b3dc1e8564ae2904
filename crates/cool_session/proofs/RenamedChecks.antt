-- If the source locations in an expression are changed, the result of its check is the same, with its error at the changed location, also in another context in
-- which names, types and methods mean the same.
use Rattle.std.proofs.Common.{◌≡◌, ℕ, List, [], ◌∷◌, ◌++◌, length, Option, Some, None, Bool, true, false, if◌then◌else◌, Ok, Err, refl, ap, ◌∙◌}
use Rattle.std.specs.Prelude.{not, ◌&&◌, ◌||◌, nat_eq}
use Rattle.std.specs.Option.{option_map, option_or}
use Rattle.cool_syntax.specs.declared.place.Place.{Place}
use Rattle.cool_syntax.specs.declared.type_ref.TypeRef.{TypeRef}
use Rattle.cool_syntax.specs.declared.operator.CompareOp.{CompareOp}
use Rattle.cool_syntax.specs.declared.operator.CompareOp.TheVariants as op
use Rattle.cool_syntax.specs.Tree.{Tree, Trees, MaybeTree, Cases, Last, More, Without, With, NoCase, CaseOf, place_of}
use Rattle.cool_syntax.specs.Tree as trees
use Rattle.cool_classes.specs.declared.class_id.ClassId.{ClassId}
use Rattle.cool_classes.specs.declared.class_id.Ty.{Ty}
use Rattle.cool_classes.specs.declared.class_id.Ty.TheVariants.{Class as IsClass, SelfType}
use Rattle.cool_classes.specs.declared.method.MethodRef.{MethodRef}
use Rattle.cool_classes.specs.Features.{formals_of, result_of}
use Rattle.cool_rules.specs.Conformance.{class_of}
use Rattle.cool_rules.specs.Rules.{join_in, type_of_name, type_meant, method_of, is_among, same_type}
use Rattle.cool_rules.specs.Scopes.{Binding, found}
use Rattle.cool_rules.specs.Typing.{has_values, object_type, int_type, bool_type}
use Rattle.cool_check.specs.declared.fault.TypeFault.{TypeFault}
use Rattle.cool_check.specs.declared.fault.TypeKind.{TypeKind}
use Rattle.cool_check.specs.declared.fault.TypingRule.{TypingRule}
use Rattle.cool_check.specs.declared.fault.TypingRule.TheVariants as typing
use Rattle.cool_check.specs.declared.fault.TypeKind.TheVariants.{E2, E3, E6, E8, E9, E10, E13, E14, E15, E16, E17}
use Rattle.cool_check.specs.Contexts.{Context}
use Rattle.cool_check.specs.FirstFaults.{Checked, and_then, unfit, expect, fits, refuse, refuse_type, is_self, bind, conform, or_unknown, name_checked, assigned, or_no_type, named, static_among, static_class, misfit, resulting, or_misfit, called_with, call_checked, initialized, bound_type, branch_among, branch_class, joined, compared, checked, all_checked, last_checked, maybe_checked, cases_checked}
use Rattle.cool_session.proofs.RenamedTrees.{renamed_type, renamed_tree, renamed_trees, renamed_maybe, renamed_cases}

abbrev pub renamed_fault : (Place → Place) → TypeFault → TypeFault
renamed_fault f fault = record { kind = fault.kind; rule = fault.rule; at = f fault.at; found = fault.found; due = fault.due }

abbrev pub renamed_result : {X : Type 0} → (Place → Place) → Checked X → Checked X
renamed_result f (Ok x) = Ok x
renamed_result f (Err fault) = Err (renamed_fault f fault)

-- names, types and methods have the same meaning in both contexts
pub record Agree (s s' : Context) : Type 0 where
  pub class : s'.class ≡ s.class
  pub attributes : s'.attributes ≡ s.attributes
  pub conforms : (a b : Ty) → conform s' a b ≡ conform s a b
  pub joins : (a b : Ty) → join_in s'.table s'.class a b ≡ join_in s.table s.class a b
  pub types : (name : List ℕ) → type_of_name s'.table name ≡ type_of_name s.table name
  pub meant : (name : List ℕ) → type_meant s'.table name ≡ type_meant s.table name
  pub methods : (c : ClassId) (name : List ℕ) → method_of s'.table c name ≡ method_of s.table c name
  pub formals : (m : MethodRef) → formals_of s'.table m ≡ formals_of s.table m
  pub results : (m : MethodRef) → result_of s'.table m ≡ result_of s.table m

-- The parts of checks

pub then_renamed : {X Y : Type 0} (f : Place → Place) (r r' : Checked X) (g g' : X → Checked Y) → r' ≡ renamed_result f r
    → ((x : X) → g' x ≡ renamed_result f (g x)) → and_then r' g' ≡ renamed_result f (and_then r g)
then_renamed {X} f (Ok x) r' g g' is each = ap (λ (q : Checked X). and_then q g') is ∙ each x
then_renamed {X} f (Err fault) r' g g' is each = ap (λ (q : Checked X). and_then q g') is

-- a test, and the fault where it does not hold
pub test_renamed : {X : Type 0} (f : Place → Place) (b b' : Bool) (fault fault' : TypeFault) (r r' : Checked X) → b' ≡ b → fault' ≡ renamed_fault f fault
    → r' ≡ renamed_result f r → (if b' then r' else Err fault') ≡ renamed_result f (if b then r else Err fault)
test_renamed f true b' fault fault' r r' test there is = ap (λ (t : Bool). if t then r' else Err fault') test ∙ is
test_renamed f false b' fault fault' r r' test there is = ap (λ (t : Bool). if t then r' else Err fault') test ∙ ap (λ (e : TypeFault). Err e) there

expect_renamed : {X : Type 0} (f : Place → Place) (found due : Ty) (rule : TypingRule) (kind : TypeKind) (at at' : Place) (r r' : Checked X) → at' ≡ f at
    → r' ≡ renamed_result f r → expect found due rule kind at' r' ≡ renamed_result f (expect found due rule kind at r)
expect_renamed f found due rule kind at at' r r' there is =
    test_renamed f (same_type found due) (same_type found due) (unfit rule kind at found due) (unfit rule kind at' found due) r r' refl
    (ap (λ (p : Place). unfit rule kind p found due) there) is

if_renamed : {X : Type 0} (f : Place → Place) (b : Bool) (x x' y y' : Checked X) → x' ≡ renamed_result f x → y' ≡ renamed_result f y
    → (if b then x' else y') ≡ renamed_result f (if b then x else y)
if_renamed f true x x' y y' here there = here
if_renamed f false x x' y y' here there = there

module _ (f : Place → Place) where
  place_renamed : (t : Tree) → place_of (renamed_tree f t) ≡ f (place_of t)
  place_renamed (trees.New at class) = refl
  place_renamed (trees.Dispatch at t name ts) = refl
  place_renamed _ = refl

  unknown_renamed : (o : Option Ty) (rule : TypingRule) (at : Place) → or_unknown o rule (f at) ≡ renamed_result f (or_unknown o rule at)
  unknown_renamed None rule at = refl
  unknown_renamed (Some a) rule at = refl

  no_type_renamed : (o : Option Ty) (rule : TypingRule) (at : Place) → or_no_type o rule (f at) ≡ renamed_result f (or_no_type o rule at)
  no_type_renamed None rule at = refl
  no_type_renamed (Some a) rule at = refl

  misfit_found_renamed : (o : Option TypeFault) (result : Ty) → or_misfit (option_map (renamed_fault f) o) result ≡ renamed_result f (or_misfit o result)
  misfit_found_renamed None result = refl
  misfit_found_renamed (Some fault) result = refl

  found_or_later : (b b' : Bool) (o o' : Option TypeFault) (fault fault' : TypeFault) → b' ≡ b → o' ≡ option_map (renamed_fault f) o → fault' ≡ renamed_fault f fault
      → (if b' then o' else Some fault') ≡ option_map (renamed_fault f) (if b then o else Some fault)
  found_or_later true b' o o' fault fault' test later here = ap (λ (t : Bool). if t then o' else Some fault') test ∙ later
  found_or_later false b' o o' fault fault' test later here = ap (λ (t : Bool). if t then o' else Some fault') test ∙ ap Some here

  branch_renamed : (at : Place) (earlier : List ClassId) (o : Option Ty)
      → branch_among (f at) earlier o ≡ renamed_result f (branch_among at earlier o)
  branch_renamed at earlier None = refl
  branch_renamed at earlier (Some SelfType) = refl
  branch_renamed at earlier (Some (IsClass c)) = if_renamed f (is_among earlier c) (refuse typing.Case E13 at) (refuse typing.Case E13 (f at)) (Ok c) (Ok c) refl refl

  compared_renamed : (o : CompareOp) (a b : Ty) (at : Place) → compared o a b (f at) ≡ renamed_result f (compared o a b at)
  compared_renamed op.Less a b at =
      expect_renamed f a int_type typing.Compare E14 at (f at) _ _ refl (expect_renamed f b int_type typing.Compare E14 at (f at) (Ok bool_type) (Ok bool_type) refl refl)
  compared_renamed op.LessEqual a b at =
      expect_renamed f a int_type typing.Compare E14 at (f at) _ _ refl (expect_renamed f b int_type typing.Compare E14 at (f at) (Ok bool_type) (Ok bool_type) refl refl)
  compared_renamed op.Equal a b at =
      if_renamed f (not (same_type a b) && (has_values a || has_values b)) (refuse_type typing.Compare E15 at b a) (refuse_type typing.Compare E15 (f at) b a) (Ok bool_type) (Ok bool_type) refl refl

  module _ (s s' : Context) (agree : Agree s s') where
    fits_renamed : {X : Type 0} (found due : Ty) (rule : TypingRule) (kind : TypeKind) (at : Place) (r r' : Checked X) → r' ≡ renamed_result f r
        → fits s' found due rule kind (f at) r' ≡ renamed_result f (fits s found due rule kind at r)
    fits_renamed found due rule kind at r r' is =
        test_renamed f (conform s found due) (conform s' found due) (unfit rule kind at found due) (unfit rule kind (f at) found due) r r' (agree.conforms found due) refl is

    name_renamed : (o : List Binding) (rule : TypingRule) (at : Place) (name : List ℕ) → name_checked s' o rule (f at) name ≡ renamed_result f (name_checked s o rule at name)
    name_renamed o rule at name =
        ap (λ (bs : List Binding). if is_self name then Ok SelfType else or_unknown (option_or (found o name) (found bs name))
        rule (f at)) agree.attributes
        ∙ if_renamed f (is_self name) (Ok SelfType) (Ok SelfType) (or_unknown (option_or (found o name) (found s.attributes name)) rule at)
        (or_unknown (option_or (found o name) (found s.attributes name)) rule (f at)) refl
        (unknown_renamed (option_or (found o name) (found s.attributes name)) rule at)

    assigned_renamed : (o : List Binding) (at : Place) (name : List ℕ) (given : Ty)
        → assigned s' o (f at) name given ≡ renamed_result f (assigned s o at name given)
    assigned_renamed o at name given =
        if_renamed f (is_self name) (refuse typing.Assign E2 at) (refuse typing.Assign E2 (f at)) _ _ refl
        (then_renamed f (name_checked s o typing.Assign at name) (name_checked s' o typing.Assign (f at) name) _ _ (name_renamed o typing.Assign at name)
        (λ declared. fits_renamed given declared typing.Assign E3 at (Ok given) (Ok given) refl))

    named_renamed : (rule : TypingRule) (r : TypeRef) → named s' rule (renamed_type f r) ≡ renamed_result f (named s rule r)
    named_renamed rule r = ap (λ (o : Option Ty). or_no_type o rule (f r.at)) (agree.types r.name) ∙ no_type_renamed (type_of_name s.table r.name) rule r.at

    among_renamed : (at : Place) (receiver : Ty) (o : Option Ty) → static_among s' (f at) receiver o ≡ renamed_result f (static_among s at receiver o)
    among_renamed at receiver None = refl
    among_renamed at receiver (Some SelfType) = refl
    among_renamed at receiver (Some (IsClass c)) =
        fits_renamed receiver (IsClass c) typing.StaticDispatch E8 at (Ok c) (Ok c) refl

    static_renamed : (r : TypeRef) (receiver : Ty) → static_class s' (renamed_type f r) receiver ≡ renamed_result f (static_class s r receiver)
    static_renamed r receiver = ap (static_among s' (f r.at) receiver) (agree.types r.name)
        ∙ among_renamed r.at receiver (type_of_name s.table r.name)

    misfit_renamed : (rule : TypingRule) (names : List (List ℕ)) (types : List Ty) (args : Trees)
        → misfit s' rule names types (renamed_trees f args) ≡ option_map (renamed_fault f) (misfit s rule names types args)
    misfit_renamed rule [] types args = refl
    misfit_renamed rule (n ∷ ns) [] args = refl
    misfit_renamed rule (n ∷ ns) (a ∷ types) Last = refl
    misfit_renamed rule (n ∷ ns) (a ∷ types) (More t ts) =
        found_or_later (conform s a (type_meant s.table n)) (conform s' a (type_meant s'.table n)) (misfit s rule ns types ts)
        (misfit s' rule ns types (renamed_trees f ts)) (unfit rule E6 (place_of t) a (type_meant s.table n)) (unfit rule E6 (place_of (renamed_tree f t)) a (type_meant s'.table n))
        (ap (conform s' a) (agree.meant n) ∙ agree.conforms a (type_meant s.table n)) (misfit_renamed rule ns types ts)
        (λ i. unfit rule E6 (place_renamed t i) a (agree.meant n i))

    called_renamed : (rule : TypingRule) (at : Place) (class : ClassId) (receiver : Ty) (args : Trees) (types : List Ty) (o : Option MethodRef)
        → called_with s' rule (f at) class receiver (renamed_trees f args) types o ≡ renamed_result f (called_with s rule at class receiver args types o)
    called_renamed rule at class receiver args types None = refl
    called_renamed rule at class receiver args types (Some m) =
        test_renamed f (nat_eq (length (formals_of s.table m)) (length types)) (nat_eq (length (formals_of s'.table m)) (length types)) _ _ _ _
        (ap (λ (ns : List (List ℕ)). nat_eq (length ns) (length types)) (agree.formals m)) refl
        ((λ i. or_misfit (misfit s' rule (agree.formals m i) types (renamed_trees f args)) (resulting receiver (type_meant s'.table (agree.results m i))))
        ∙ ((λ i. or_misfit (misfit_renamed rule (formals_of s.table m) types args i) (resulting receiver (agree.meant (result_of s.table m) i)))
        ∙ misfit_found_renamed (misfit s rule (formals_of s.table m) types args) (resulting receiver (type_meant s.table (result_of s.table m)))))

    call_renamed : (rule : TypingRule) (at : Place) (class : ClassId) (receiver : Ty) (name : List ℕ) (args : Trees) (types : List Ty)
        → call_checked s' rule (f at) class receiver name (renamed_trees f args) types ≡ renamed_result f
        (call_checked s rule at class receiver name args types)
    call_renamed rule at class receiver name args types =
        ap (called_with s' rule (f at) class receiver (renamed_trees f args) types) (agree.methods class name)
        ∙ called_renamed rule at class receiver args types (method_of s.table class name)

    init_renamed : (at : Place) (bound : Ty) (o : Option Ty) → initialized s' (f at) bound o ≡ renamed_result f (initialized s at bound o)
    init_renamed at bound None = refl
    init_renamed at bound (Some given) =
        fits_renamed given bound typing.Let E17 at (Ok bound) (Ok bound) refl

    bound_renamed : (at : Place) (name : List ℕ) (declared : TypeRef) (given : Option Ty)
        → bound_type s' (f at) name (renamed_type f declared) given ≡ renamed_result f (bound_type s at name declared given)
    bound_renamed at name declared given =
        if_renamed f (is_self name) (refuse typing.Let E10 at) (refuse typing.Let E10 (f at)) _ _ refl
        (then_renamed f (named s typing.Let declared) (named s' typing.Let (renamed_type f declared)) _ _ (named_renamed typing.Let declared)
        (λ bound. init_renamed at bound given))

    branch_class_renamed : (at : Place) (name : List ℕ) (declared : TypeRef) (earlier : List ClassId)
        → branch_class s' (f at) name (renamed_type f declared) earlier ≡ renamed_result f (branch_class s at name declared earlier)
    branch_class_renamed at name declared earlier =
        if_renamed f (is_self name) (refuse typing.Case E10 at) (refuse typing.Case E10 (f at)) _ _ refl
        (ap (branch_among (f declared.at) earlier) (agree.types declared.name)
        ∙ branch_renamed declared.at earlier (type_of_name s.table declared.name))

    joined_same : (o : Option Ty) (t : Ty) → joined s' o t ≡ joined s o t
    joined_same None t = refl
    joined_same (Some b) t = agree.joins b t

    -- the operand of an operator, and what comes after it
    mutual
      pub checked_renamed : (t : Tree) (o : List Binding) → checked s' o (renamed_tree f t) ≡ renamed_result f (checked s o t)
      checked_renamed (trees.Id at name) o = name_renamed o typing.Id at name
      checked_renamed (trees.Assign at name t) o =
          then_renamed f (checked s o t) (checked s' o (renamed_tree f t)) _ _ (checked_renamed t o) (λ a. assigned_renamed o at name a)
      checked_renamed (trees.Dispatch at t name ts) o =
          then_renamed f (checked s o t) (checked s' o (renamed_tree f t)) _ _ (checked_renamed t o)
          (λ a. then_renamed f (all_checked s o [] ts) (all_checked s' o [] (renamed_trees f ts)) _ _ (all_renamed ts o [])
          (λ types. ap (λ (k : ClassId). call_checked s' typing.Dispatch (f at) (class_of k a) a name (renamed_trees f ts) types) agree.class
          ∙ call_renamed typing.Dispatch at (class_of s.class a) a name ts types))
      checked_renamed (trees.StaticDispatch at t class name ts) o =
          then_renamed f (checked s o t) (checked s' o (renamed_tree f t)) _ _ (checked_renamed t o)
          (λ a. then_renamed f (all_checked s o [] ts) (all_checked s' o [] (renamed_trees f ts)) _ _ (all_renamed ts o [])
          (λ types. then_renamed f (static_class s class a) (static_class s' (renamed_type f class) a) _ _ (static_renamed class a)
          (λ c. call_renamed typing.StaticDispatch at c a name ts types)))
      checked_renamed (trees.If at t y n) o =
          then_renamed f (checked s o t) (checked s' o (renamed_tree f t)) _ _ (checked_renamed t o)
          (λ a. then_renamed f (checked s o y) (checked s' o (renamed_tree f y)) _ _ (checked_renamed y o)
          (λ b. then_renamed f (checked s o n) (checked s' o (renamed_tree f n)) _ _ (checked_renamed n o)
          (λ c. expect_renamed f a bool_type typing.If E9 (place_of t) (place_of (renamed_tree f t)) _ _ (place_renamed t)
          (ap Ok (agree.joins b c)))))
      checked_renamed (trees.While at t b) o =
          then_renamed f (checked s o t) (checked s' o (renamed_tree f t)) _ _ (checked_renamed t o)
          (λ a. then_renamed f (checked s o b) (checked s' o (renamed_tree f b)) _ _ (checked_renamed b o)
          (λ c. expect_renamed f a bool_type typing.While E9 (place_of t) (place_of (renamed_tree f t)) (Ok object_type) (Ok object_type)
          (place_renamed t) refl))
      checked_renamed (trees.Block at ts) o = last_renamed ts o object_type
      checked_renamed (trees.Let at name declared init t) o =
          then_renamed f (maybe_checked s o init) (maybe_checked s' o (renamed_maybe f init)) _ _ (maybe_renamed init o)
          (λ given. then_renamed f (bound_type s at name declared given) (bound_type s' (f at) name (renamed_type f declared) given) _ _
          (bound_renamed at name declared given) (λ bound. checked_renamed t (bind name bound o)))
      checked_renamed (trees.Case at t cs) o =
          then_renamed f (checked s o t) (checked s' o (renamed_tree f t)) _ _ (checked_renamed t o) (λ a. cases_renamed cs o [] None)
      checked_renamed (trees.New at class) o = named_renamed typing.New class
      checked_renamed (trees.IsVoid at t) o =
          then_renamed f (checked s o t) (checked s' o (renamed_tree f t)) _ _ (checked_renamed t o) (λ a. refl)
      checked_renamed (trees.Arith at op a b) o =
          then_renamed f (checked s o a) (checked s' o (renamed_tree f a)) _ _ (checked_renamed a o)
          (λ x. then_renamed f (checked s o b) (checked s' o (renamed_tree f b)) _ _ (checked_renamed b o)
          (λ y. expect_renamed f x int_type typing.Arith E14 at (f at) _ _ refl (expect_renamed f y int_type typing.Arith E14 at (f at) (Ok int_type) (Ok int_type) refl refl)))
      checked_renamed (trees.Neg at t) o =
          then_renamed f (checked s o t) (checked s' o (renamed_tree f t)) _ _ (checked_renamed t o)
          (λ a. expect_renamed f a int_type typing.Neg E14 at (f at) (Ok int_type) (Ok int_type) refl refl)
      checked_renamed (trees.Compare at op a b) o =
          then_renamed f (checked s o a) (checked s' o (renamed_tree f a)) _ _ (checked_renamed a o)
          (λ x. then_renamed f (checked s o b) (checked s' o (renamed_tree f b)) _ _ (checked_renamed b o) (λ y. compared_renamed op x y at))
      checked_renamed (trees.Not at t) o =
          then_renamed f (checked s o t) (checked s' o (renamed_tree f t)) _ _ (checked_renamed t o)
          (λ a. expect_renamed f a bool_type typing.Not E16 at (f at) (Ok bool_type) (Ok bool_type) refl refl)
      checked_renamed _ o = refl

      all_renamed : (ts : Trees) (o : List Binding) (types : List Ty)
          → all_checked s' o types (renamed_trees f ts) ≡ renamed_result f (all_checked s o types ts)
      all_renamed Last o types = refl
      all_renamed (More t ts) o types =
          then_renamed f (checked s o t) (checked s' o (renamed_tree f t)) _ _ (checked_renamed t o) (λ a. all_renamed ts o (types ++ a ∷ []))

      last_renamed : (ts : Trees) (o : List Binding) (last : Ty)
          → last_checked s' o last (renamed_trees f ts) ≡ renamed_result f (last_checked s o last ts)
      last_renamed Last o last = refl
      last_renamed (More t ts) o last =
          then_renamed f (checked s o t) (checked s' o (renamed_tree f t)) _ _ (checked_renamed t o) (λ a. last_renamed ts o a)

      maybe_renamed : (m : MaybeTree) (o : List Binding) → maybe_checked s' o (renamed_maybe f m) ≡ renamed_result f (maybe_checked s o m)
      maybe_renamed Without o = refl
      maybe_renamed (With t) o =
          then_renamed f (checked s o t) (checked s' o (renamed_tree f t)) _ _ (checked_renamed t o) (λ a. refl)

      cases_renamed : (cs : Cases) (o : List Binding) (earlier : List ClassId) (join : Option Ty)
          → cases_checked s' o earlier join (renamed_cases f cs) ≡ renamed_result f (cases_checked s o earlier join cs)
      cases_renamed NoCase o earlier join = refl
      cases_renamed (CaseOf at name declared t cs) o earlier join =
          then_renamed f (branch_class s at name declared earlier) (branch_class s' (f at) name (renamed_type f declared) earlier) _ _
          (branch_class_renamed at name declared earlier)
          (λ c. then_renamed f (checked s (bind name (IsClass c) o) t) (checked s' (bind name (IsClass c) o) (renamed_tree f t)) _ _
          (checked_renamed t (bind name (IsClass c) o))
          (λ a. ap (λ (j : Ty). cases_checked s' o (earlier ++ c ∷ []) (Some j) (renamed_cases f cs)) (joined_same join a)
          ∙ cases_renamed cs o (earlier ++ c ∷ []) (Some (joined s join a))))
