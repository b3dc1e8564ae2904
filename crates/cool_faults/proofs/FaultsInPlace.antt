-- The first type error of a feature is at one of the source locations in the feature's syntax tree.
use Rattle.std.proofs.Common.{ℕ, List, [], ◌∷◌, ◌++◌, Option, Some, None, Bool, true, false}
use Rattle.std.specs.Prelude.{Ok, Err, IfErr, IfSome, nat_eq, length, if◌then◌else◌, not, ◌&&◌, ◌||◌}
use Rattle.std.specs.Option.{option_or}
use Rattle.cool_syntax.specs.declared.file_tree.AttributeDef.{AttributeDef}
use Rattle.cool_syntax.specs.declared.file_tree.Feature.{Feature}
use Rattle.cool_syntax.specs.declared.file_tree.Feature.TheVariants.{Method, Attribute}
use Rattle.cool_syntax.specs.declared.operator.CompareOp.{CompareOp}
use Rattle.cool_syntax.specs.declared.operator.CompareOp.TheVariants as op
use Rattle.cool_syntax.specs.declared.place.Place.{Place}
use Rattle.cool_syntax.specs.declared.type_ref.TypeRef.{TypeRef}
use Rattle.cool_syntax.specs.Tree.{Tree, Trees, MaybeTree, Cases, Last, More, Without, With, NoCase, CaseOf, place_of}
use Rattle.cool_syntax.specs.Tree as trees
use Rattle.cool_classes.specs.declared.class_id.ClassId.{ClassId}
use Rattle.cool_classes.specs.declared.class_id.Ty.{Ty}
use Rattle.cool_classes.specs.declared.class_id.Ty.TheVariants.{Class as IsClass, SelfType}
use Rattle.cool_classes.specs.declared.method.MethodRef.{MethodRef}
use Rattle.cool_classes.specs.Chains.{Class}
use Rattle.cool_classes.specs.Features.{formals_of, result_of}
use Rattle.cool_rules.specs.Conformance.{class_of}
use Rattle.cool_rules.specs.Rules.{is_among, same_type, type_meant, type_of_name}
use Rattle.cool_rules.specs.Scopes.{Binding, found}
use Rattle.cool_rules.specs.Typing.{has_values, object_type, int_type, bool_type}
use Rattle.cool_check.specs.declared.fault.TypeFault.{TypeFault}
use Rattle.cool_check.specs.declared.fault.TypeKind.TheVariants.{E6}
use Rattle.cool_check.specs.declared.fault.TypingRule.{TypingRule}
use Rattle.cool_check.specs.declared.fault.TypingRule.TheVariants as typing
use Rattle.cool_check.specs.Contexts.{Context, formal_bindings}
use Rattle.cool_check.specs.FirstFaults.{Checked, and_then, unfit, is_self, bind, conform, or_unknown, name_checked, assigned, or_no_type, named, static_among, static_class, misfit, resulting, or_misfit, called_with, initialized, bound_type, branch_among, branch_class, joined, compared, checked, all_checked, last_checked, maybe_checked, cases_checked}
use Rattle.cool_check.specs.TypingFaults.{class_context, feature_checked, initial_checked}
use Rattle.cool_faults.proofs.PlacesOfTrees.{IsTreeAt, AreTreesAt, IsMaybeAt, AreCasesAt, IsFeatureAt, own_place}

module _ (P : Place → Type 0) where
  abbrev pub Placed : {A : Type 0} → Checked A → Type 0
  Placed r = IfErr r (λ (f : TypeFault). P f.at)

  then_placed : {A B : Type 0} (r : Checked A) (f : A → Checked B) → Placed r → ((a : A) → Placed (f a)) → Placed (and_then r f)
  then_placed (Ok a) f h k = k a
  then_placed (Err e) f h k = h

  where_placed : {A : Type 0} (test : Bool) (fault : TypeFault) (r : Checked A) → P fault.at → Placed r → Placed (if test then r else Err fault)
  where_placed true fault r here h = h
  where_placed false fault r here h = here

  unless_placed : {A : Type 0} (test : Bool) (fault : TypeFault) (r : Checked A) → P fault.at → Placed r → Placed (if test then Err fault else r)
  unless_placed true fault r here h = here
  unless_placed false fault r here h = h

  module _ (s : Context) where
    unknown_placed : (o : Option Ty) (rule : TypingRule) (at : Place) → P at → Placed (or_unknown o rule at)
    unknown_placed None rule at h = h
    unknown_placed (Some a) rule at h = tt

    name_placed : (o : List Binding) (rule : TypingRule) (at : Place) (name : List ℕ) → P at → Placed (name_checked s o rule at name)
    name_placed o rule at name h = by (is_self name)
      where
        by : (b : Bool) → Placed (if b then Ok SelfType else or_unknown (option_or (found o name) (found s.attributes name)) rule at)
        by true = tt
        by false = unknown_placed (option_or (found o name) (found s.attributes name)) rule at h

    assigned_placed : (o : List Binding) (at : Place) (name : List ℕ) (given : Ty) → P at → Placed (assigned s o at name given)
    assigned_placed o at name given h =
        unless_placed (is_self name) _ _ h (then_placed (name_checked s o typing.Assign at name) _ (name_placed o typing.Assign at name h) (λ declared. where_placed (conform s given declared) _ _ h tt))

    no_type_placed : (o : Option Ty) (rule : TypingRule) (at : Place) → P at → Placed (or_no_type o rule at)
    no_type_placed None rule at h = h
    no_type_placed (Some a) rule at h = tt

    named_placed : (rule : TypingRule) (r : TypeRef) → P r.at → Placed (named s rule r)
    named_placed rule r h = no_type_placed (type_of_name s.table r.name) rule r.at h

    static_placed : (at : Place) (receiver : Ty) (o : Option Ty) → P at → Placed (static_among s at receiver o)
    static_placed at receiver None h = h
    static_placed at receiver (Some SelfType) h = h
    static_placed at receiver (Some (IsClass c)) h = where_placed (conform s receiver (IsClass c)) _ _ h tt

    misfit_placed : (rule : TypingRule) (fs : List (List ℕ)) (types : List Ty) (ts : Trees) (result : Ty) → AreTreesAt P ts → Placed (or_misfit (misfit s rule fs types ts) result)
    misfit_placed rule [] types ts result h = tt
    misfit_placed rule (f ∷ fs) [] ts result h = tt
    misfit_placed rule (f ∷ fs) (a ∷ as') Last result h = tt
    misfit_placed rule (f ∷ fs) (a ∷ as') (More t ts) result h = by (conform s a (type_meant s.table f)) (misfit_placed rule fs as' ts result h.1)
      where
        by : (b : Bool) → Placed (or_misfit (misfit s rule fs as' ts) result) → Placed (or_misfit (if b then misfit s rule fs as' ts else Some (unfit rule E6 (place_of t) a (type_meant s.table f))) result)
        by true rest = rest
        by false rest = own_place P t h.0

    called_placed : (rule : TypingRule) (at : Place) (class : ClassId) (receiver : Ty) (args : Trees) (types : List Ty) (o : Option MethodRef) → P at → AreTreesAt P args → Placed (called_with s rule at class receiver args types o)
    called_placed rule at class receiver args types None here h = here
    called_placed rule at class receiver args types (Some m) here h =
        let result : Ty = resulting receiver (type_meant s.table (result_of s.table m)) in
        where_placed (nat_eq (length (formals_of s.table m)) (length types)) _ (or_misfit (misfit s rule (formals_of s.table m) types args) result) here (misfit_placed rule (formals_of s.table m) types args result h)

    initialized_placed : (at : Place) (bound : Ty) (o : Option Ty) → P at → Placed (initialized s at bound o)
    initialized_placed at bound None h = tt
    initialized_placed at bound (Some given) h = where_placed (conform s given bound) _ _ h tt

    bound_placed : (at : Place) (name : List ℕ) (declared : TypeRef) (given : Option Ty) → P at → P declared.at → Placed (bound_type s at name declared given)
    bound_placed at name declared given here h =
        unless_placed (is_self name) _ _ here (then_placed (named s typing.Let declared) _ (named_placed typing.Let declared h) (λ bound. initialized_placed at bound given here))

    among_placed : (at : Place) (earlier : List ClassId) (o : Option Ty) → P at → Placed (branch_among at earlier o)
    among_placed at earlier None h = h
    among_placed at earlier (Some SelfType) h = h
    among_placed at earlier (Some (IsClass c)) h = unless_placed (is_among earlier c) _ _ h tt

    branch_placed : (at : Place) (name : List ℕ) (declared : TypeRef) (earlier : List ClassId) → P at → P declared.at → Placed (branch_class s at name declared earlier)
    branch_placed at name declared earlier here h = unless_placed (is_self name) _ _ here (among_placed declared.at earlier (type_of_name s.table declared.name) h)

    compared_placed : (o : CompareOp) (a b : Ty) (at : Place) → P at → Placed (compared o a b at)
    compared_placed op.Less a b at h = where_placed (same_type a int_type) _ _ h (where_placed (same_type b int_type) _ _ h tt)
    compared_placed op.LessEqual a b at h = where_placed (same_type a int_type) _ _ h (where_placed (same_type b int_type) _ _ h tt)
    compared_placed op.Equal a b at h = unless_placed (not (same_type a b) && (has_values a || has_values b)) _ (Ok bool_type) h tt

    mutual
      checked_placed : (o : List Binding) (t : Tree) → IsTreeAt P t → Placed (checked s o t)
      checked_placed o (trees.Id at name) h = name_placed o typing.Id at name h
      checked_placed o (trees.Assign at name t) h = then_placed (checked s o t) _ (checked_placed o t h.1) (λ a. assigned_placed o at name a h.0)
      checked_placed o (trees.Dispatch at t name ts) h =
          then_placed (checked s o t) _ (checked_placed o t h.1) (λ a. then_placed (all_checked s o [] ts) _ (all_placed o [] ts h.2) (λ types. called_placed typing.Dispatch at (class_of s.class a) a ts types _ h.0 h.2))
      checked_placed o (trees.StaticDispatch at t class name ts) h =
          then_placed (checked s o t) _ (checked_placed o t h.1) (λ a. then_placed (all_checked s o [] ts) _ (all_placed o [] ts h.3) (λ types.
          then_placed (static_class s class a) _ (static_placed class.at a (type_of_name s.table class.name) h.2) (λ c. called_placed typing.StaticDispatch at c a ts types _ h.0 h.3)))
      checked_placed o (trees.If at t y e) h =
          then_placed (checked s o t) _ (checked_placed o t h.1) (λ a. then_placed (checked s o y) _ (checked_placed o y h.2) (λ b. then_placed (checked s o e) _ (checked_placed o e h.3) (λ c.
          where_placed (same_type a bool_type) _ _ (own_place P t h.1) tt)))
      checked_placed o (trees.While at t b) h =
          then_placed (checked s o t) _ (checked_placed o t h.1) (λ a. then_placed (checked s o b) _ (checked_placed o b h.2) (λ c. where_placed (same_type a bool_type) _ _ (own_place P t h.1) tt))
      checked_placed o (trees.Block at ts) h = last_placed o object_type ts h.1
      checked_placed o (trees.Let at name declared init t) h =
          then_placed (maybe_checked s o init) _ (maybe_placed o init h.2) (λ given. then_placed (bound_type s at name declared given) _ (bound_placed at name declared given h.0 h.1)
          (λ bound. checked_placed (bind name bound o) t h.3))
      checked_placed o (trees.Case at t cs) h = then_placed (checked s o t) _ (checked_placed o t h.1) (λ a. cases_placed o [] None cs h.2)
      checked_placed o (trees.New at class) h = named_placed typing.New class h.1
      checked_placed o (trees.IsVoid at t) h = then_placed (checked s o t) _ (checked_placed o t h.1) (λ a. tt)
      checked_placed o (trees.Arith at op a b) h =
          then_placed (checked s o a) _ (checked_placed o a h.1) (λ x. then_placed (checked s o b) _ (checked_placed o b h.2)
          (λ y. where_placed (same_type x int_type) _ _ h.0 (where_placed (same_type y int_type) _ _ h.0 tt)))
      checked_placed o (trees.Neg at t) h = then_placed (checked s o t) _ (checked_placed o t h.1) (λ a. where_placed (same_type a int_type) _ _ h.0 tt)
      checked_placed o (trees.Compare at op a b) h =
          then_placed (checked s o a) _ (checked_placed o a h.1) (λ x. then_placed (checked s o b) _ (checked_placed o b h.2) (λ y. compared_placed op x y at h.0))
      checked_placed o (trees.Not at t) h = then_placed (checked s o t) _ (checked_placed o t h.1) (λ a. where_placed (same_type a bool_type) _ _ h.0 tt)
      checked_placed o (trees.Int at value) h = tt
      checked_placed o (trees.Str at bytes) h = tt
      checked_placed o (trees.Bool at value) h = tt

      all_placed : (o : List Binding) (types : List Ty) (ts : Trees) → AreTreesAt P ts → Placed (all_checked s o types ts)
      all_placed o types Last h = tt
      all_placed o types (More t ts) h = then_placed (checked s o t) _ (checked_placed o t h.0) (λ a. all_placed o (types ++ a ∷ []) ts h.1)

      last_placed : (o : List Binding) (last : Ty) (ts : Trees) → AreTreesAt P ts → Placed (last_checked s o last ts)
      last_placed o last Last h = tt
      last_placed o last (More t ts) h = then_placed (checked s o t) _ (checked_placed o t h.0) (λ a. last_placed o a ts h.1)

      maybe_placed : (o : List Binding) (m : MaybeTree) → IsMaybeAt P m → Placed (maybe_checked s o m)
      maybe_placed o Without h = tt
      maybe_placed o (With t) h = then_placed (checked s o t) _ (checked_placed o t h) (λ a. tt)

      cases_placed : (o : List Binding) (earlier : List ClassId) (join : Option Ty) (cs : Cases) → AreCasesAt P cs → Placed (cases_checked s o earlier join cs)
      cases_placed o earlier join NoCase h = tt
      cases_placed o earlier join (CaseOf at name declared t cs) h =
          then_placed (branch_class s at name declared earlier) _ (branch_placed at name declared earlier h.0 h.1) (λ c.
          then_placed (checked s (bind name (IsClass c) o) t) _ (checked_placed (bind name (IsClass c) o) t h.2) (λ a. cases_placed o (earlier ++ c ∷ []) (Some (joined s join a)) cs h.3))

  initial_placed : (s : Context) (a : AttributeDef) (o : Option Tree) → P a.at → IfSome o (IsTreeAt P) → Placed (initial_checked s a o)
  initial_placed s a None here h = tt
  initial_placed s a (Some t) here h = then_placed (checked s [] t) _ (checked_placed s [] t h) (λ given. where_placed (conform s given (type_meant s.table a.declared.name)) _ (Ok (tt {0})) here tt)

  pub feature_placed : (p : List Class) (c : ClassId) (x : Feature) → IsFeatureAt P x → Placed (feature_checked p c x)
  feature_placed p c (Method m) h = then_placed (checked (class_context p c) (formal_bindings p m.formals) m.body) _ (checked_placed (class_context p c) (formal_bindings p m.formals) m.body h.1)
      (λ given. where_placed (conform (class_context p c) given (type_meant p m.result.name)) _ (Ok (tt {0})) h.0 tt)
  feature_placed p c (Attribute a) h = initial_placed (class_context p c) a a.init h.0 h.1
