-- An expression has a type by the declarative typing rules exactly if the type checker finds no fault (type error) in it, and the type is the one that the
-- checker computes.
use Rattle.std.proofs.Common.{◌≡◌, ◌≢◌, inl, inr, ℕ, ◌<◌, List, [], ◌∷◌, ◌++◌, length, Option, Some, None, Bool, true, false, not, ◌&&◌, ◌||◌, ap, sym, ◌∙◌, refl, subst, arith, true≢false, append-nil, append_assoc}
use Rattle.std.specs.Option.{option_or}
use Rattle.std.specs.Prelude.{Contains, Ok, Err, if◌then◌else◌, nat_eq, unwrap_or}
use Rattle.std.specs.List.{AllByRecursion}
use Rattle.cool_syntax.specs.declared.place.Place.{Place}
use Rattle.cool_syntax.specs.declared.type_ref.TypeRef.{TypeRef}
use Rattle.cool_syntax.specs.declared.operator.CompareOp.{CompareOp}
use Rattle.cool_syntax.specs.declared.operator.CompareOp.TheVariants.{Less, LessEqual, Equal}
use Rattle.cool_syntax.specs.Tree.{Tree, Trees, MaybeTree, Cases, Last, More, Without, With, NoCase, CaseOf, place_of}
use Rattle.cool_syntax.specs.Tree as trees
use Rattle.cool_classes.specs.declared.class_id.ClassId.{ClassId}
use Rattle.cool_classes.specs.declared.class_id.Ty.{Ty}
use Rattle.cool_classes.specs.declared.class_id.Ty.TheVariants.{Class as IsClass, SelfType}
use Rattle.cool_classes.specs.declared.method.MethodRef.{MethodRef}
use Rattle.cool_classes.specs.Chains.{name_of}
use Rattle.cool_classes.specs.Features.{Denotes, implementation, own_method, first_of, formals_of, result_of, HasMethod}
use Rattle.cool_classes.specs.Tables.{IsClassName, IsWholeTable}
use Rattle.cool_classes.proofs.Climbs.{chain_unique}
use Rattle.cool_classes.proofs.Methods.{found_has}
use Rattle.cool_rules.specs.Conformance.{IsType, Conforms, IsJoinOfTypes, class_of}
use Rattle.cool_classes.specs.ClimbedChains.{chain as chain_of}
use Rattle.cool_rules.specs.Scopes.{AreTypes, Binding, found}
use Rattle.cool_rules.specs.Typing.{int_type, bool_type, has_values, type_in_scope, with_name, result_on, IsNotSelf, AreArguments, IsCall, IsImplementation, AreComparable, IsJoinOfAll, IsJoinOfBranches, branch_types, HasType, HaveTypes, HaveItems, HasInit, HaveBranches, object_type, string_type}
use Rattle.cool_rules.proofs.ChainsOfTables.{chain_within, below_trans, below_itself}
use Rattle.cool_classes.proofs.ChainsOfTables.{chain_is}
use Rattle.cool_rules.proofs.RulesDecided.{same_types, types_same, named_denotes, denoted, denotes_type, join_is, one_type, conforming_type}
use Rattle.cool_rules.proofs.TypesOfMethods.{formals_named, result_named, expression_type}
use Rattle.cool_rules.proofs.EnteredScopes.{found_after}
use Rattle.cool_check.specs.declared.fault.TypeFault.{TypeFault}
use Rattle.cool_check.specs.declared.fault.TypeKind.{TypeKind}
use Rattle.cool_check.specs.declared.fault.TypingRule.{TypingRule}
use Rattle.cool_check.specs.declared.fault.TypingRule.TheVariants as typing
use Rattle.cool_check.specs.declared.fault.TypeKind.TheVariants.{E3, E6, E8, E9, E14, E16, E17}
use Rattle.cool_check.specs.FirstFaults.{Checked, and_then, expect, fits, unfit, is_self, bind, conform, or_unknown, name_checked, or_no_type, named, static_among, static_class, misfit, resulting, or_misfit, called_with, call_checked, initialized, bound_type, branch_among, branch_class, joined, compared, checked, all_checked, last_checked, maybe_checked, cases_checked}
use Rattle.cool_rules.specs.Rules.{same_type, join_in, type_of_name, type_meant, method_of, is_among}
use Rattle.cool_check.specs.Contexts.{Context}
use Rattle.cool_rules.proofs.RulesOfTables.{do_conform_true, true_do_conform, join_in_is, type_meant_is}
use Rattle.lists.specs.Different.{AreDifferent}
use Rattle.std.proofs.lemmas.List.Elements.{Contains-append_right}

-- the value given is the only one of which this holds; if there is a fault, it holds of none
abbrev pub Decides : {A : Type 0} → Checked A → (A → Type 0) → Type 0
Decides {A} (Ok a) P = P a × ((b : A) → P b → b ≡ a)
Decides {A} (Err fault) P = (b : A) → P b → ⊥

pub record IsDecided {A : Type 0} (r : Checked A) (P : A → Type 0) : Type 0 where
  pub decided : Decides r P

as_by : {A : Type 0} (P Q : A → Type 0) (r : Checked A) → ((a : A) → P a → Q a) → ((a : A) → Q a → P a) → Decides r P → Decides r Q
as_by P Q (Ok a) f g h = (f a h.0, λ b q. h.1 b (g b q))
as_by P Q (Err fault) f g h = λ b q. h b (g b q)

pub decided_as : {A : Type 0} {r : Checked A} {P Q : A → Type 0} → ((a : A) → P a → Q a) → ((a : A) → Q a → P a) → IsDecided r P → IsDecided r Q
decided_as {r = r} {P = P} {Q = Q} f g h = record { decided = as_by P Q r f g h.decided }

bind_by : {A B : Type 0} (P : A → Type 0) (Q : A → B → Type 0) (f : A → Checked B) (r : Checked A) → Decides r P → ((a : A) → P a → IsDecided (f a) (Q a)) → Decides (and_then r f) (λ b. (a : A) × P a × Q a b)
bind_by P Q f (Ok a) h k =
    as_by (Q a) (λ b. (x : _) × P x × Q x b) (f a) (λ b q. (a, h.0, q)) (λ b w. subst (λ (x : _). Q x b) (h.1 w.0 w.1) w.2) (k a h.0).decided
bind_by P Q f (Err fault) h k = λ b w. h w.0 w.1

pub bind_decided : {A B : Type 0} {r : Checked A} {f : A → Checked B} {P : A → Type 0} {Q : A → B → Type 0} → IsDecided r P → ((a : A) → P a → IsDecided (f a) (Q a)) → IsDecided (and_then r f) (λ b. (a : A) × P a × Q a b)
bind_decided {r = r} {f = f} {P = P} {Q = Q} h k = record { decided = bind_by P Q f r h.decided k }

pub ok_decided : {A : Type 0} (a : A) → IsDecided (Ok a) (λ b. b ≡ a)
ok_decided a = record { decided = (refl, λ b e. e) }

-- a test that decides a premise
where_decided : {B : Type 0} (test : Bool) (fault : TypeFault) (r : Checked B) (X : Type 0) {Q : B → Type 0} → (test ≡ true → X) → (X → test ≡ true) → (X → IsDecided r Q) → IsDecided (if test then r else Err fault) (λ b. X × Q b)
where_decided true fault r X f g k = decided_as (λ b q. (f refl, q)) (λ b w. w.1) (k (f refl))
where_decided false fault r X f g k = record { decided = λ b w. absurd (true≢false (sym (g w.0))) }

-- a test that refuses
unless_decided : {B : Type 0} (test : Bool) (fault : TypeFault) (r : Checked B) (X : Type 0) {Q : B → Type 0} → (test ≡ false → X) → (X → test ≡ false) → (X → IsDecided r Q) → IsDecided (if test then Err fault else r) (λ b. X × Q b)
unless_decided true fault r X f g k = record { decided = λ b w. absurd (true≢false (g w.0)) }
unless_decided false fault r X f g k = decided_as (λ b q. (f refl, q)) (λ b w. w.1) (k (f refl))

-- a decided claim holds of at most one thing
one_by : {A : Type 0} (P : A → Type 0) (r : Checked A) → Decides r P → (a b : A) → P a → P b → a ≡ b
one_by P (Ok x) h a b ha hb = h.1 a ha ∙ sym (h.1 b hb)
one_by P (Err fault) h a b ha hb = absurd (h a ha)

pub one_of : {A : Type 0} {r : Checked A} {P : A → Type 0} → IsDecided r P → (a b : A) → P a → P b → a ≡ b
one_of {r = r} {P = P} h a b ha hb = one_by P r h.decided a b ha hb

module _ (s : Context) (whole : IsWholeTable s.table) (within : s.class.0 < length s.table) (typed : AreTypes s.table s.attributes) where
  pub both_types : (o : List Binding) → AreTypes s.table o → AreTypes s.table (o ++ s.attributes)
  both_types [] h = typed
  both_types (b ∷ o) h = (h.0, both_types o h.1)

  -- Parts of rules

  same_decided : {B : Type 0} {r : Checked B} {Q : B → Type 0} (rule : TypingRule) (kind : TypeKind) (at : Place) (t u : Ty) → (t ≡ u → IsDecided r Q) → IsDecided (expect t u rule kind at r) (λ b. (t ≡ u) × Q b)
  same_decided {r = r} rule kind at t u k = where_decided (same_type t u) _ r (t ≡ u) (same_types t u) (types_same t u) k

  pub conform_decided : {B : Type 0} {r : Checked B} {Q : B → Type 0} (rule : TypingRule) (kind : TypeKind) (at : Place) (t u : Ty) → IsType s.table t → (Conforms s.table s.class t u → IsDecided r Q)
      → IsDecided (fits s t u rule kind at r) (λ b. Conforms s.table s.class t u × Q b)
  conform_decided {r = r} rule kind at t u h k = where_decided (conform s t u) _ r (Conforms s.table s.class t u) (λ e. do_conform_true s.table s.class t u whole.table within h e) (λ c. true_do_conform s.table s.class t u c) k

  or_no_type_decided : (rule : TypingRule) (at : Place) (name : List ℕ) (o : Option Ty) → type_of_name s.table name ≡ o → IsDecided (or_no_type o rule at) (λ t. Denotes s.table name t)
  or_no_type_decided rule at name None e = record { decided = λ t h. none (sym e ∙ denoted s.table whole name t h) }
    where
      none : {A : Type 0} {a : A} → None ≡ Some a → ⊥
      none e = cc
  or_no_type_decided rule at name (Some a) e = record { decided = (named_denotes s.table whole name a e, λ t h. some (sym e ∙ denoted s.table whole name t h)) }
    where
      some : {A : Type 0} {x b : A} → Some x ≡ Some b → b ≡ x
      some e = cc

  named_decided : (rule : TypingRule) (r : TypeRef) → IsDecided (named s rule r) (λ t. Denotes s.table r.name t)
  named_decided rule r = or_no_type_decided rule r.at r.name (type_of_name s.table r.name) refl

  name_decided : (o : List Binding) (rule : TypingRule) (at : Place) (name : List ℕ) → IsDecided (name_checked s o rule at name) (λ t. type_in_scope (o ++ s.attributes) name ≡ Some t)
  name_decided o rule at name = by (is_self name)
    where
      some : {A : Type 0} {x b : A} → Some x ≡ Some b → b ≡ x
      some e = cc

      other : (x : Option Ty) → x ≡ found (o ++ s.attributes) name → IsDecided (or_unknown x rule at) (λ t. found (o ++ s.attributes) name ≡ Some t)
      other None e = record { decided = λ t h. none (e ∙ h) }
        where
          none : {A : Type 0} {a : A} → None ≡ Some a → ⊥
          none e = cc
      other (Some a) e = record { decided = (sym e, λ t h. some (e ∙ h)) }

      by : (x : Bool) → IsDecided (if x then Ok SelfType else or_unknown (option_or (found o name) (found s.attributes name)) rule at) (λ t. (if x then Some SelfType else found (o ++ s.attributes) name) ≡ Some t)
      by true = record { decided = (refl, λ t h. some h) }
      by false = other (option_or (found o name) (found s.attributes name)) (found_after o s.attributes name)

  -- Calls

  there_by : (ds : List ClassId) → ((d : ClassId) → Contains ds d → d.0 < length s.table) → (name : List ℕ) (m : MethodRef) → implementation s.table ds name ≡ Some m → HasMethod s.table m
  there_by [] h name m e = absurd (cc)
  there_by (d ∷ ds) h name m e = by (own_method s.table d name) refl e (there_by ds (λ x t. h x (Contains-append_right (d ∷ []) ds x t)) name m)
    where
      by : (o : Option MethodRef) → own_method s.table d name ≡ o → first_of o (implementation s.table ds name) ≡ Some m → (implementation s.table ds name ≡ Some m → HasMethod s.table m) → HasMethod s.table m
      by None own e more = more e
      by (Some n) own e more = found_has s.table d name m (h d (0, omega arith, refl)) (own ∙ e)

  method_there : (k : ClassId) (name : List ℕ) (m : MethodRef) → k.0 < length s.table → implementation s.table (chain_of s.table k) name ≡ Some m → HasMethod s.table m
  method_there k name m k_within e = there_by (chain_of s.table k) (λ d t. chain_within s.table whole k k_within (chain_of s.table k) (chain_is s.table k whole.table k_within) d t) name m e

  found_is : (k : ClassId) (name : List ℕ) (m : MethodRef) → k.0 < length s.table → IsImplementation s.table k name m → implementation s.table (chain_of s.table k) name ≡ Some m
  found_is k name m k_within (ds, chain, e) = subst (λ (xs : List ClassId). implementation s.table xs name ≡ Some m) (chain_unique s.table (Some k) ds (chain_of s.table k) chain (chain_is s.table k whole.table k_within)) e

  -- the method of a name is the one that the chain has
  method_is : (k : ClassId) (name : List ℕ) → implementation s.table (chain_of s.table k) name ≡ method_of s.table k name
  unfolding method_of
  method_is k name = refl

  argument_count : (given : List Ty) (formals : List (List ℕ)) → AreArguments s.table s.class given formals → length given ≡ length formals
  argument_count [] [] h = refl
  argument_count [] (f ∷ fs) h = absurd h
  argument_count (t ∷ ts) [] h = absurd h
  argument_count (t ∷ ts) (f ∷ fs) h = let rest = argument_count ts fs h.1 in omega arith

  formal_meant : (formal : List ℕ) → IsClassName s.table formal → Denotes s.table formal (type_meant s.table formal)
  formal_meant formal (d, d_within, is) = subst (λ (t : Ty). Denotes s.table formal t) (type_meant_is s.table formal (IsClass d) whole.table (d_within, is)) (d_within, is)

  misfit_by : (rule : TypingRule) (scope : List Binding) (given : List Ty) (es : Trees) (formals : List (List ℕ)) (result : Ty) → HaveTypes s.table s.class scope es given → AllByRecursion (IsType s.table) given
      → AllByRecursion (IsClassName s.table) formals → length given ≡ length formals → IsDecided (or_misfit (misfit s rule formals given es) result) (λ t. AreArguments s.table s.class given formals × (t ≡ result))
  misfit_by rule scope [] es [] result have types names same = record { decided = ((tt, refl), λ t w. w.1) }
  misfit_by rule scope [] es (f ∷ fs) result have types names same = absurd (omega arith)
  misfit_by rule scope (t ∷ ts) Last fs result have types names same = absurd have
  misfit_by rule scope (t ∷ ts) (More e es) [] result have types names same = absurd (omega arith)
  misfit_by rule scope (t ∷ ts) (More e es) (f ∷ fs) result have types names same =
      by (conform s t (type_meant s.table f)) refl (misfit_by rule scope ts es fs result have.1 types.1 names.1 (omega arith))
    where
      by : (b : Bool) → b ≡ conform s t (type_meant s.table f) → IsDecided (or_misfit (misfit s rule fs ts es) result) (λ u. AreArguments s.table s.class ts fs × (u ≡ result))
          → IsDecided (or_misfit (if b then misfit s rule fs ts es else Some (unfit rule E6 (place_of e) t (type_meant s.table f))) result) (λ u. AreArguments s.table s.class (t ∷ ts) (f ∷ fs) × (u ≡ result))
      by true e more = decided_as
          (λ u w. (((type_meant s.table f, formal_meant f names.0, do_conform_true s.table s.class t (type_meant s.table f) whole.table within types.0 (sym e)), w.0), w.1))
          (λ u w. (w.0.1, w.1)) more
      by false e more = record {
        decided = λ u w. absurd (true≢false (sym (true_do_conform s.table s.class t (type_meant s.table f)
            (subst (λ (x : Ty). Conforms s.table s.class t x) (type_meant_is s.table f w.0.0.0 whole.table w.0.0.1) w.0.0.2)) ∙ sym e));
      }

  result_is : (r result : Ty) → resulting r result ≡ result_on r result
  result_is r (IsClass c) = refl
  result_is r SelfType = refl

  called_by : (rule : TypingRule) (scope : List Binding) (at : Place) (k : ClassId) (name : List ℕ) (receiver : Ty) (given : List Ty) (es : Trees) → k.0 < length s.table → HaveTypes s.table s.class scope es given
      → AllByRecursion (IsType s.table) given → (o : Option MethodRef) → implementation s.table (chain_of s.table k) name ≡ o
      → IsDecided (called_with s rule at k receiver es given o) (λ t. IsCall s.table s.class k name receiver given t)
  called_by rule scope at k name receiver given es k_within have types None e = record { decided = λ t call. none (sym e ∙ found_is k name call.method k_within call.found) }
    where
      none : {A : Type 0} {a : A} → None ≡ Some a → ⊥
      none e = cc
  called_by rule scope at k name receiver given es k_within have types (Some m) e =
      let (u, denotes) = result_named s.table whole m (method_there k name m k_within e) in
      let meant : u ≡ type_meant s.table (result_of s.table m) = type_meant_is s.table (result_of s.table m) u whole.table denotes in
      decided_as
      (λ t w. record {
        method = m;
        result = type_meant s.table (result_of s.table m);
        found = (chain_of s.table k, chain_is s.table k whole.table k_within, e);
        arguments = w.1.0;
        declared = subst (λ (x : Ty). Denotes s.table (result_of s.table m) x) meant denotes;
        is = w.1.1 ∙ result_is receiver (type_meant s.table (result_of s.table m));
      })
      (λ t call.
      let same : m ≡ call.method = some (sym e ∙ found_is k name call.method k_within call.found) in
      let args : AreArguments s.table s.class given (formals_of s.table m) = subst (λ (x : MethodRef). AreArguments s.table s.class given (formals_of s.table x)) (sym same) call.arguments in
      let declared : Denotes s.table (result_of s.table m) call.result = subst (λ (x : MethodRef). Denotes s.table (result_of s.table x) call.result) (sym same) call.declared in
      (sym (argument_count given (formals_of s.table m) args), (args, call.is ∙ (ap (result_on receiver) (type_meant_is s.table (result_of s.table m) call.result whole.table declared) ∙ sym (result_is receiver (type_meant s.table (result_of s.table m)))))))
      (where_decided (nat_eq (length (formals_of s.table m)) (length given)) _ (or_misfit (misfit s rule (formals_of s.table m) given es) (resulting receiver (type_meant s.table (result_of s.table m))))
      (length (formals_of s.table m) ≡ length given) (equal_true (length (formals_of s.table m)) (length given)) (equal_same (length (formals_of s.table m)) (length given))
      (λ same. misfit_by rule scope given es (formals_of s.table m) (resulting receiver (type_meant s.table (result_of s.table m))) have types (formals_named s.table whole m (method_there k name m k_within e)) (sym same)))
    where
      some : {x y : MethodRef} → Some x ≡ Some y → x ≡ y
      some e = cc

      equal_true : (m n : ℕ) → nat_eq m n ≡ true → m ≡ n
      equal_true m n e = grind arith

      equal_same : (m n : ℕ) → m ≡ n → nat_eq m n ≡ true
      equal_same m n e = grind arith

  call_decided : (rule : TypingRule) (scope : List Binding) (at : Place) (k : ClassId) (name : List ℕ) (receiver : Ty) (given : List Ty) (es : Trees) → k.0 < length s.table → HaveTypes s.table s.class scope es given
      → AllByRecursion (IsType s.table) given → IsDecided (call_checked s rule at k receiver name es given) (λ t. IsCall s.table s.class k name receiver given t)
  call_decided rule scope at k name receiver given es k_within have types = called_by rule scope at k name receiver given es k_within have types (method_of s.table k name) (method_is k name)

  -- the class after `@`
  static_by : (at : Place) (name : List ℕ) (receiver : Ty) → IsType s.table receiver → (o : Option Ty) → type_of_name s.table name ≡ o
      → IsDecided (static_among s at receiver o) (λ k. Denotes s.table name (IsClass k) × Conforms s.table s.class receiver (IsClass k))
  static_by at name receiver h None e = record { decided = λ k w. none (sym e ∙ denoted s.table whole name (IsClass k) w.0) }
    where
      none : {A : Type 0} {a : A} → None ≡ Some a → ⊥
      none e = cc
  static_by at name receiver h (Some SelfType) e = record { decided = λ k w. other (sym e ∙ denoted s.table whole name (IsClass k) w.0) }
    where
      other : {k : ClassId} → Some SelfType ≡ Some (IsClass k) → ⊥
      other e = cc
  static_by at name receiver h (Some (IsClass d)) e = decided_as
      (λ k w. (subst (λ (x : ClassId). Denotes s.table name (IsClass x)) (sym w.1) (named_denotes s.table whole name (IsClass d) e), subst (λ (x : ClassId). Conforms s.table s.class receiver (IsClass x)) (sym w.1) w.0))
      (λ k w. let same : k ≡ d = some (sym e ∙ denoted s.table whole name (IsClass k) w.0) in (subst (λ (x : ClassId). Conforms s.table s.class receiver (IsClass x)) same w.1, same))
      (conform_decided typing.StaticDispatch E8 at receiver (IsClass d) h (λ k. ok_decided d))
    where
      some : {k : ClassId} → Some (IsClass d) ≡ Some (IsClass k) → k ≡ d
      some e = cc

  static_decided : (r : TypeRef) (receiver : Ty) → IsType s.table receiver → IsDecided (static_class s r receiver) (λ k. Denotes s.table r.name (IsClass k) × Conforms s.table s.class receiver (IsClass k))
  static_decided r receiver h = static_by r.at r.name receiver h (type_of_name s.table r.name) refl

  -- Comparison

  compared_less : (at : Place) (t u : Ty) → IsDecided (expect t int_type typing.Compare E14 at (expect u int_type typing.Compare E14 at (Ok bool_type))) (λ r. ((t ≡ int_type) × (u ≡ int_type)) × (r ≡ bool_type))
  compared_less at t u = decided_as (λ r w. ((w.0, w.1.0), w.1.1)) (λ r w. (w.0.0, (w.0.1, w.1))) (same_decided typing.Compare E14 at t int_type (λ x. same_decided typing.Compare E14 at u int_type (λ y. ok_decided bool_type)))

  compared_decided : (op : CompareOp) (at : Place) (t u : Ty) → IsDecided (compared op t u at) (λ r. AreComparable op t u × (r ≡ bool_type))
  compared_decided Less at t u = compared_less at t u
  compared_decided LessEqual at t u = compared_less at t u
  compared_decided Equal at t u = unless_decided (not (same_type t u) && (has_values t || has_values u)) _ (Ok bool_type) (AreComparable Equal t u)
      (λ e. yes_by (same_type t u) (has_values t) (has_values u) refl refl refl e) (λ h. no_by h) (λ x. ok_decided bool_type)
    where
      yes_by : (x y z : Bool) → same_type t u ≡ x → has_values t ≡ y → has_values u ≡ z → (not x && (y || z)) ≡ false → AreComparable Equal t u
      yes_by true y z ex ey ez e = inl (same_types t u ex)
      yes_by false true z ex ey ez e = absurd (cc)
      yes_by false false true ex ey ez e = absurd (cc)
      yes_by false false false ex ey ez e = inr (ey, ez)

      no_by : AreComparable Equal t u → (not (same_type t u) && (has_values t || has_values u)) ≡ false
      no_by (inl e) = ap (λ (x : Bool). not x && (has_values t || has_values u)) (types_same t u e)
      no_by (inr (ey, ez)) = by (same_type t u) (has_values t) (has_values u) ey ez
        where
          by : (x y z : Bool) → y ≡ false → z ≡ false → (not x && (y || z)) ≡ false
          by true y z ey ez = refl
          by false true z ey ez = absurd (cc)
          by false false true ey ez = absurd (cc)
          by false false false ey ez = refl

  -- Initial values

  -- the type of an initial value, if there is one
  InitHas : List Binding → MaybeTree → Option Ty → Type 0
  InitHas scope Without o = o ≡ None
  InitHas scope (With e) None = ⊥
  InitHas scope (With e) (Some t) = HasType s.table s.class scope e t

  init_by : (at : Place) (scope : List Binding) (init : MaybeTree) (o : Option Ty) (bound : Ty) → AreTypes s.table scope → InitHas scope init o → ((a b : Option Ty) → InitHas scope init a → InitHas scope init b → a ≡ b)
      → IsDecided (initialized s at bound o) (λ t. HasInit s.table s.class scope bound init × (t ≡ bound))
  unfolding InitHas
  init_by at scope Without None bound types h one = decided_as (λ t w. (tt, w)) (λ t w. w.1) (ok_decided bound)
  init_by at scope Without (Some t) bound types h one = absurd (cc)
  init_by at scope (With e) None bound types h one = absurd h
  init_by at scope (With e) (Some t) bound types h one = decided_as
      (λ u w. ((t, h, w.0), w.1))
      (λ u w. (subst (λ (x : Ty). Conforms s.table s.class x bound) (some (one (Some w.0.0) (Some t) w.0.1 h)) w.0.2, w.1))
      (conform_decided typing.Let E17 at t bound (expression_type s.table whole s.class within e scope t types h) (λ k. ok_decided bound))
    where
      some : {u : Ty} → Some u ≡ Some t → u ≡ t
      some e = cc

  init_of : (scope : List Binding) (e : Tree) (o : Option Ty) → (t : Ty) × HasType s.table s.class scope e t × (o ≡ Some t) → InitHas scope (With e) o
  unfolding InitHas
  init_of scope e None w = absurd (none w.2)
    where
      none : {t : Ty} → None ≡ Some t → ⊥
      none e = cc
  init_of scope e (Some u) w = subst (λ (x : Ty). HasType s.table s.class scope e x) (some w.2) w.1
    where
      some : {t : Ty} → Some u ≡ Some t → t ≡ u
      some e = cc

  of_init : (scope : List Binding) (e : Tree) (o : Option Ty) → InitHas scope (With e) o → (t : Ty) × HasType s.table s.class scope e t × (o ≡ Some t)
  unfolding InitHas
  of_init scope e None h = absurd h
  of_init scope e (Some t) h = (t, h, refl)

  init_there : (init : MaybeTree) (scope : List Binding) (bound : Ty) → HasInit s.table s.class scope bound init → (o : Option Ty) × InitHas scope init o
  unfolding InitHas
  init_there Without scope bound h = (None, refl)
  init_there (With e) scope bound (t, has, conforms) = (Some t, has)

  no_init : (scope : List Binding) → IsDecided (Ok None) (InitHas scope Without)
  unfolding InitHas
  no_init scope = ok_decided None

  bound_decided : (at : Place) (scope : List Binding) (name : List ℕ) (declared : TypeRef) (init : MaybeTree) (o : Option Ty) → AreTypes s.table scope → InitHas scope init o → ((a b : Option Ty) → InitHas scope init a → InitHas scope init b → a ≡ b)
      → IsDecided (bound_type s at name declared o) (λ bound. IsNotSelf name × (Denotes s.table declared.name bound × HasInit s.table s.class scope bound init))
  bound_decided at scope name declared init o types h one = decided_as
      (λ b w. let (other, (t, denotes, (fits, is))) = w in (other, (subst (λ (x : Ty). Denotes s.table declared.name x) (sym is) denotes, subst (λ (x : Ty). HasInit s.table s.class scope x init) (sym is) fits)))
      (λ b w. let (other, (denotes, fits)) = w in (other, (b, denotes, (fits, refl))))
      (unless_decided (is_self name) _ (and_then (named s typing.Let declared) (λ bound. initialized s at bound o)) (IsNotSelf name) (λ e. e) (λ e. e) (λ other.
      bind_decided (named_decided typing.Let declared) (λ bound denotes. init_by at scope init o bound types h one)))

  -- the class in which a receiver's method is looked for
  receiver_class : (t : Ty) → IsType s.table t → (class_of s.class t).0 < length s.table
  receiver_class SelfType h = within
  receiver_class (IsClass a) h = h

  all_types : (es : Trees) (scope : List Binding) (ts : List Ty) → AreTypes s.table scope → HaveTypes s.table s.class scope es ts → AllByRecursion (IsType s.table) ts
  all_types Last scope [] types h = tt
  all_types Last scope (t ∷ ts) types h = absurd h
  all_types (More e es) scope [] types h = absurd h
  all_types (More e es) scope (t ∷ ts) types h = (expression_type s.table whole s.class within e scope t types h.0, all_types es scope ts types h.1)

  join_decided : (t u : Ty) → IsType s.table t → IsType s.table u → IsDecided (Ok (join_in s.table s.class t u)) (λ j. IsJoinOfTypes s.table s.class t u j)
  join_decided t u h g = decided_as
      (λ j is. subst (λ (x : Ty). IsJoinOfTypes s.table s.class t u x) (sym is) (join_is s.table whole s.class t u within h g))
      (λ j join. join_in_is s.table s.class t u j whole.table within h g join)
      (ok_decided (join_in s.table s.class t u))

  -- Branches

  -- two classes that a name denotes are one
  denoted_once : (name : List ℕ) (d e : ClassId) → Denotes s.table name (IsClass d) → Denotes s.table name (IsClass e) → d ≡ e
  denoted_once name d e h k = whole.table.names d e h.0 k.0 (h.1 ∙ sym k.1)

  -- among classes with one more after them
  among_more : (earlier : List ClassId) (d x : ClassId) → is_among (earlier ++ d ∷ []) x ≡ false → (is_among earlier x ≡ false) × (x ≢ d)
  unfolding is_among
  among_more [] d x e = (refl, λ same. by (nat_eq d.0 x.0) (ap (λ (y : ClassId). y.0) (sym same)) refl e)
    where
      by : (b : Bool) → d.0 ≡ x.0 → nat_eq d.0 x.0 ≡ b → (b || false) ≡ false → ⊥
      by true same is e = cc
      by false same is e = grind arith
  among_more (c ∷ earlier) d x e = by (nat_eq c.0 x.0) e (among_more earlier d x)
    where
      by : (b : Bool) → (b || is_among (earlier ++ d ∷ []) x) ≡ false → (is_among (earlier ++ d ∷ []) x ≡ false → (is_among earlier x ≡ false) × (x ≢ d)) → ((b || is_among earlier x) ≡ false) × (x ≢ d)
      by true e more = absurd (cc)
      by false e more = more e

  more_among : (earlier : List ClassId) (d x : ClassId) → is_among earlier x ≡ false → x ≢ d → is_among (earlier ++ d ∷ []) x ≡ false
  unfolding is_among
  more_among [] d x e other = by (nat_eq d.0 x.0) refl
    where
      equal : (m n : ℕ) → nat_eq m n ≡ true → m ≡ n
      equal m n e = grind arith

      by : (b : Bool) → nat_eq d.0 x.0 ≡ b → (b || false) ≡ false
      by true is = absurd (other (λ i. record { 0 = sym (equal d.0 x.0 is) i }))
      by false is = refl
  more_among (c ∷ earlier) d x e other = by (nat_eq c.0 x.0) e (more_among earlier d x)
    where
      by : (b : Bool) → (b || is_among earlier x) ≡ false → (is_among earlier x ≡ false → x ≢ d → is_among (earlier ++ d ∷ []) x ≡ false) → (b || is_among (earlier ++ d ∷ []) x) ≡ false
      by true e more = absurd (cc)
      by false e more = more e other

  -- the classes that these names denote are none of the earlier ones
  NewTo : List ClassId → List (List ℕ) → Type 0
  NewTo earlier names = AllByRecursion (λ (n : List ℕ). (x : ClassId) → Denotes s.table n (IsClass x) → is_among earlier x ≡ false) names

  DenoteClasses : List (List ℕ) → Type 0
  DenoteClasses names = AllByRecursion (λ (n : List ℕ). (d : ClassId) × Denotes s.table n (IsClass d)) names

  branch_classes : (cs : Cases) (scope : List Binding) (us : List Ty) → HaveBranches s.table s.class scope cs us → DenoteClasses (branch_types cs)
  unfolding DenoteClasses
  branch_classes NoCase scope [] h = tt
  branch_classes NoCase scope (u ∷ us) h = absurd h
  branch_classes (CaseOf at name declared e cs) scope [] h = absurd h
  branch_classes (CaseOf at name declared e cs) scope (u ∷ us) ((d, other, denotes, has), have) = ((d, denotes), branch_classes cs scope us have)

  new_after : (earlier : List ClassId) (d : ClassId) (name : List ℕ) (names : List (List ℕ)) → Denotes s.table name (IsClass d) → DenoteClasses names → NewTo (earlier ++ d ∷ []) names
      → AllByRecursion (λ (n : List ℕ). n ≢ name) names × NewTo earlier names
  unfolding DenoteClasses NewTo
  new_after earlier d name [] h classes new = (tt, tt)
  new_after earlier d name (n ∷ names) h classes new =
      let rest = new_after earlier d name names h classes.1 new.1 in
      let (e, denotes) = classes.0 in
      ((λ same. (among_more earlier d e (new.0 e denotes)).1 (denoted_once n e d denotes (subst (λ (m : List ℕ). Denotes s.table m (IsClass d)) (sym same) h)), rest.0), (λ x k. (among_more earlier d x (new.0 x k)).0, rest.1))

  after_new : (earlier : List ClassId) (d : ClassId) (name : List ℕ) (names : List (List ℕ)) → Denotes s.table name (IsClass d) → AllByRecursion (λ (n : List ℕ). n ≢ name) names → NewTo earlier names
      → NewTo (earlier ++ d ∷ []) names
  unfolding NewTo
  after_new earlier d name [] h others new = tt
  after_new earlier d name (n ∷ names) h others new =
      ((λ x k. more_among earlier d x (new.0 x k) (λ same. others.0 (sym k.1 ∙ (ap (name_of s.table) same ∙ h.1)))), after_new earlier d name names h others.1 new.1)

  new_to_none : (names : List (List ℕ)) → NewTo [] names
  unfolding NewTo is_among
  new_to_none [] = tt
  new_to_none (n ∷ names) = ((λ x k. refl), new_to_none names)

  -- the join with the types before
  joined_from : Option Ty → List Ty → Ty
  joined_from join [] = unwrap_or join object_type
  joined_from join (u ∷ us) = joined_from (Some (joined s join u)) us

  BranchesJoin : List Binding → List ClassId → Option Ty → Cases → Ty → Type 0
  BranchesJoin scope earlier join cs j = (us : List Ty) × HaveBranches s.table s.class scope cs us × AreDifferent (branch_types cs) × NewTo earlier (branch_types cs) × (j ≡ joined_from join us)

  branch_by : (at : Place) (name : List ℕ) (earlier : List ClassId) (o : Option Ty) → type_of_name s.table name ≡ o → IsDecided (branch_among at earlier o) (λ d. Denotes s.table name (IsClass d) × (is_among earlier d ≡ false))
  branch_by at name earlier None e = record { decided = λ k w. none (sym e ∙ denoted s.table whole name (IsClass k) w.0) }
    where
      none : {A : Type 0} {a : A} → None ≡ Some a → ⊥
      none e = cc
  branch_by at name earlier (Some SelfType) e = record { decided = λ k w. other (sym e ∙ denoted s.table whole name (IsClass k) w.0) }
    where
      other : {k : ClassId} → Some SelfType ≡ Some (IsClass k) → ⊥
      other e = cc
  branch_by at name earlier (Some (IsClass d)) e = decided_as
      (λ k w. (subst (λ (x : ClassId). Denotes s.table name (IsClass x)) (sym w.1) (named_denotes s.table whole name (IsClass d) e), subst (λ (x : ClassId). is_among earlier x ≡ false) (sym w.1) w.0))
      (λ k w. let same : k ≡ d = some (sym e ∙ denoted s.table whole name (IsClass k) w.0) in (subst (λ (x : ClassId). is_among earlier x ≡ false) same w.1, same))
      (unless_decided (is_among earlier d) _ (Ok d) (is_among earlier d ≡ false) (λ x. x) (λ x. x) (λ x. ok_decided d))
    where
      some : {k : ClassId} → Some (IsClass d) ≡ Some (IsClass k) → k ≡ d
      some e = cc

  branch_decided : (at : Place) (name : List ℕ) (declared : TypeRef) (earlier : List ClassId)
      → IsDecided (branch_class s at name declared earlier) (λ d. IsNotSelf name × (Denotes s.table declared.name (IsClass d) × (is_among earlier d ≡ false)))
  branch_decided at name declared earlier = unless_decided (is_self name) _ (branch_among declared.at earlier (type_of_name s.table declared.name)) (IsNotSelf name) (λ e. e) (λ e. e)
      (λ other. branch_by declared.at declared.name earlier (type_of_name s.table declared.name) refl)

  no_branches : (scope : List Binding) (earlier : List ClassId) (join : Option Ty) → IsDecided (Ok (unwrap_or join object_type)) (BranchesJoin scope earlier join NoCase)
  unfolding BranchesJoin NewTo joined_from
  no_branches scope earlier join = decided_as (λ j is. ([], tt, tt, tt, is)) (λ j w. by j w.0 w.1 w.4) (ok_decided (unwrap_or join object_type))
    where
      by : (j : Ty) (us : List Ty) → HaveBranches s.table s.class scope NoCase us → j ≡ joined_from join us → j ≡ unwrap_or join object_type
      by j [] h is = is
      by j (u ∷ us) h is = absurd h

  more_branches : (scope : List Binding) (earlier : List ClassId) (join : Option Ty) (at : Place) (name : List ℕ) (declared : TypeRef) (e : Tree) (cs : Cases) (j : Ty)
      → (d : ClassId) × (IsNotSelf name × (Denotes s.table declared.name (IsClass d) × (is_among earlier d ≡ false))) × ((u : Ty) × HasType s.table s.class (with_name name (IsClass d) scope) e u
      × BranchesJoin scope (earlier ++ d ∷ []) (Some (joined s join u)) cs j) → BranchesJoin scope earlier join (CaseOf at name declared e cs) j
  unfolding BranchesJoin NewTo joined_from
  more_branches scope earlier join at name declared e cs j (d, (other, (denotes, fresh)), (u, has, (us, have, different, new, is))) =
      let split = new_after earlier d declared.name (branch_types cs) denotes (branch_classes cs scope us have) new in
      (u ∷ us, ((d, other, denotes, has), have), (split.0, different), ((λ x k. subst (λ (y : ClassId). is_among earlier y ≡ false) (denoted_once declared.name d x denotes k) fresh), split.1), is)

  branches_more : (scope : List Binding) (earlier : List ClassId) (join : Option Ty) (at : Place) (name : List ℕ) (declared : TypeRef) (e : Tree) (cs : Cases) (j : Ty)
      → BranchesJoin scope earlier join (CaseOf at name declared e cs) j → (d : ClassId) × (IsNotSelf name × (Denotes s.table declared.name (IsClass d) × (is_among earlier d ≡ false)))
      × ((u : Ty) × HasType s.table s.class (with_name name (IsClass d) scope) e u × BranchesJoin scope (earlier ++ d ∷ []) (Some (joined s join u)) cs j)
  unfolding BranchesJoin NewTo joined_from
  branches_more scope earlier join at name declared e cs j ([], have, different, new, is) = absurd have
  branches_more scope earlier join at name declared e cs j (u ∷ us, ((d, other, denotes, has), have), different, new, is) =
      (d, (other, (denotes, new.0 d denotes)), (u, has, (us, have, different.1, after_new earlier d declared.name (branch_types cs) denotes different.0 new.1, is)))

  all_branch_types : (cs : Cases) (scope : List Binding) (ts : List Ty) → AreTypes s.table scope → HaveBranches s.table s.class scope cs ts → AllByRecursion (IsType s.table) ts
  all_branch_types NoCase scope [] types h = tt
  all_branch_types NoCase scope (t ∷ ts) types h = absurd h
  all_branch_types (CaseOf at name declared e cs) scope [] types h = absurd h
  all_branch_types (CaseOf at name declared e cs) scope (t ∷ ts) types ((d, other, denotes, has), have) =
      (expression_type s.table whole s.class within e (with_name name (IsClass d) scope) t (denotes.0, types) has, all_branch_types cs scope ts types have)

  -- Joins of all branches

  conforms_on : (t u v : Ty) → Conforms s.table s.class t u → Conforms s.table s.class u v → Conforms s.table s.class t v
  conforms_on SelfType SelfType v h k = k
  conforms_on SelfType (IsClass b) SelfType h k = absurd k
  conforms_on SelfType (IsClass b) (IsClass d) h k = below_trans s.table s.class b d h k
  conforms_on (IsClass a) SelfType v h k = absurd h
  conforms_on (IsClass a) (IsClass b) SelfType h k = absurd k
  conforms_on (IsClass a) (IsClass b) (IsClass d) h k = below_trans s.table a b d h k

  joined_is : (t : Ty) (ts : List Ty) → IsType s.table t → AllByRecursion (IsType s.table) ts → IsJoinOfAll s.table s.class (t ∷ ts) (joined_from (Some t) ts)
  unfolding joined_from
  joined_is SelfType [] h g = record { all = (tt, tt); least = λ other k. k.0 }
  joined_is (IsClass a) [] h g = record { all = (below_itself s.table whole a h, tt); least = λ other k. k.0 }
  joined_is t (u ∷ us) h g =
      let i : Ty = join_in s.table s.class t u in
      let j = join_is s.table whole s.class t u within h g.0 in
      let rest = joined_is (join_in s.table s.class t u) us (conforming_type s.table whole s.class t (join_in s.table s.class t u) within h j.left) g.1 in
      record {
        all = (conforms_on t i (joined_from (Some i) us) j.left rest.all.0, (conforms_on u i (joined_from (Some i) us) j.right rest.all.0, rest.all.1));
        least = λ other k. rest.least other (j.least other k.0 k.1.0, k.1.1);
      }

  branches_joined : (ts : List Ty) → AllByRecursion (IsType s.table) ts → IsJoinOfBranches s.table s.class ts (joined_from None ts)
  unfolding joined_from
  branches_joined [] h = refl
  branches_joined (t ∷ ts) h = joined_is t ts h.0 h.1

  one_joined : (ts : List Ty) (j : Ty) → AllByRecursion (IsType s.table) ts → IsJoinOfBranches s.table s.class ts j → j ≡ joined_from None ts
  unfolding joined_from
  one_joined [] j h is = is
  one_joined (t ∷ ts) j h is =
      let other = joined_is t ts h.0 h.1 in
      one_type s.table whole s.class j (joined_from (Some t) ts) (conforming_type s.table whole s.class t j within h.0 is.all.0) (conforming_type s.table whole s.class t (joined_from (Some t) ts) within h.0 other.all.0)
      (is.least (joined_from (Some t) ts) other.all) (other.least j is.all)

  case_type : (scope : List Binding) (at : Place) (e : Tree) (cs : Cases) (j : Ty) → AreTypes s.table scope → (t : Ty) × HasType s.table s.class scope e t × BranchesJoin scope [] None cs j → HasType s.table s.class scope (trees.Case at e cs) j
  unfolding BranchesJoin
  case_type scope at e cs j types (t, has, (us, have, different, new, is)) =
      (t, us, has, have, different, subst (λ (x : Ty). IsJoinOfBranches s.table s.class us x) (sym is) (branches_joined us (all_branch_types cs scope us types have)))

  type_case : (scope : List Binding) (at : Place) (e : Tree) (cs : Cases) (j : Ty) → AreTypes s.table scope → HasType s.table s.class scope (trees.Case at e cs) j → (t : Ty) × HasType s.table s.class scope e t × BranchesJoin scope [] None cs j
  unfolding BranchesJoin
  type_case scope at e cs j types (t, us, has, have, different, join) = (t, has, (us, have, different, new_to_none (branch_types cs), one_joined us j (all_branch_types cs scope us types have) join))

  -- arguments with none before
  all_from : (es : Trees) (o : List Binding) → IsDecided (all_checked s o [] es) (λ all. (ts : List Ty) × HaveTypes s.table s.class (o ++ s.attributes) es ts × (all ≡ ts)) → IsDecided (all_checked s o [] es) (λ ts. HaveTypes s.table s.class (o ++ s.attributes) es ts)
  all_from es o h = decided_as (λ all w. subst (λ (xs : List Ty). HaveTypes s.table s.class (o ++ s.attributes) es xs) (sym w.2) w.1) (λ all k. (all, k, refl)) h

  -- Expressions

  mutual
    checks : (e : Tree) (o : List Binding) → AreTypes s.table o → IsDecided (checked s o e) (λ t. HasType s.table s.class (o ++ s.attributes) e t)
    checks (trees.Id at name) o types = name_decided o typing.Id at name
    checks (trees.Int at n) o types = ok_decided int_type
    checks (trees.Str at bytes) o types = ok_decided string_type
    checks (trees.Bool at b) o types = ok_decided bool_type
    checks (trees.Assign at name e) o types = decided_as
        (λ t w. let (u, has, (other, (d, there, (conforms, is)))) = w in
        (d, other, subst (λ (x : Ty). HasType s.table s.class (o ++ s.attributes) e x) (sym is) has, ap (λ (x : Bool). if x then Some SelfType else found (o ++ s.attributes) name) (sym other) ∙ there, subst (λ (x : Ty). Conforms s.table s.class x d) (sym is) conforms))
        (λ t w. let (d, other, has, there, conforms) = w in
        (t, has, (other, (d, ap (λ (x : Bool). if x then Some SelfType else found (o ++ s.attributes) name) other ∙ there, (conforms, refl)))))
        (bind_decided (checks e o types) (λ t has.
        unless_decided (is_self name) _ (and_then (name_checked s o typing.Assign at name) (λ declared. fits s t declared typing.Assign E3 at (Ok t))) (IsNotSelf name) (λ e. e) (λ e. e) (λ other.
        bind_decided (name_decided o typing.Assign at name) (λ d there. conform_decided typing.Assign E3 at t d (expression_type s.table whole s.class within e (o ++ s.attributes) t (both_types o types) has) (λ k. ok_decided t)))))
    checks (trees.Dispatch at e name es) o types = decided_as
        (λ t w. let (r, has, (given, have, call)) = w in (r, given, has, have, call))
        (λ t w. let (r, given, has, have, call) = w in (r, has, (given, have, call)))
        (bind_decided (checks e o types) (λ r has. bind_decided (all_from es o (checks_more es o [] types)) (λ given have.
        call_decided typing.Dispatch (o ++ s.attributes) at (class_of s.class r) name r given es (receiver_class r (expression_type s.table whole s.class within e (o ++ s.attributes) r (both_types o types) has)) have
        (all_types es (o ++ s.attributes) given (both_types o types) have))))
    checks (trees.StaticDispatch at e class name es) o types = decided_as
        (λ t w. let (r, has, (given, have, (k, (denotes, conforms), call))) = w in (r, given, k, has, have, denotes, conforms, call))
        (λ t w. let (r, given, k, has, have, denotes, conforms, call) = w in (r, has, (given, have, (k, (denotes, conforms), call))))
        (bind_decided (checks e o types) (λ r has. bind_decided (all_from es o (checks_more es o [] types)) (λ given have.
        bind_decided (static_decided class r (expression_type s.table whole s.class within e (o ++ s.attributes) r (both_types o types) has)) (λ k w.
        call_decided typing.StaticDispatch (o ++ s.attributes) at k name r given es w.0.0 have (all_types es (o ++ s.attributes) given (both_types o types) have)))))
    checks (trees.If at test first second) o types = decided_as
        (λ j w. let (b, has, (t, has1, (u, has2, (is_bool, join)))) = w in (t, u, subst (λ (x : Ty). HasType s.table s.class (o ++ s.attributes) test x) is_bool has, has1, has2, join))
        (λ j w. let (t, u, has, has1, has2, join) = w in (bool_type, has, (t, has1, (u, has2, (refl, join)))))
        (bind_decided (checks test o types) (λ b has. bind_decided (checks first o types) (λ t has1. bind_decided (checks second o types) (λ u has2.
        same_decided typing.If E9 (place_of test) b bool_type (λ x. join_decided t u (expression_type s.table whole s.class within first (o ++ s.attributes) t (both_types o types) has1)
        (expression_type s.table whole s.class within second (o ++ s.attributes) u (both_types o types) has2))))))
    checks (trees.While at test body) o types = decided_as
        (λ j w. let (b, has, (t, has1, (is_bool, is))) = w in (t, subst (λ (x : Ty). HasType s.table s.class (o ++ s.attributes) test x) is_bool has, has1, is))
        (λ j w. let (t, has, has1, is) = w in (bool_type, has, (t, has1, (refl, is))))
        (bind_decided (checks test o types) (λ b has. bind_decided (checks body o types) (λ t has1. same_decided typing.While E9 (place_of test) b bool_type (λ x. ok_decided object_type))))
    checks (trees.Block at es) o types = checks_items es o object_type types
    checks (trees.Let at name declared init e) o types = decided_as
        (λ t w. let (given, has, (bound, (other, (denotes, fits)), has1)) = w in (bound, other, denotes, fits, has1))
        (λ t w. let (bound, other, denotes, fits, has1) = w in let (given, has) = init_there init (o ++ s.attributes) bound fits in (given, has, (bound, (other, (denotes, fits)), has1)))
        (bind_decided (checks_init init o types) (λ given has.
        bind_decided (bound_decided at (o ++ s.attributes) name declared init given (both_types o types) has (one_of (checks_init init o types))) (λ bound w.
        checks e (bind name bound o) (denotes_type s.table whole declared.name bound w.1.0, types))))
    checks (trees.Case at e cs) o types = decided_as
        (λ j w. case_type (o ++ s.attributes) at e cs j (both_types o types) w)
        (λ j h. type_case (o ++ s.attributes) at e cs j (both_types o types) h)
        (bind_decided (checks e o types) (λ t has. checks_cases cs o [] None types))
    checks (trees.New at class) o types = named_decided typing.New class
    checks (trees.IsVoid at e) o types = bind_decided (checks e o types) (λ t has. ok_decided bool_type)
    checks (trees.Not at e) o types = decided_as
        (λ t w. (subst (λ (x : Ty). HasType s.table s.class (o ++ s.attributes) e x) w.2.0 w.1, w.2.1))
        (λ t w. (bool_type, w.0, (refl, w.1)))
        (bind_decided (checks e o types) (λ t has. same_decided typing.Not E16 at t bool_type (λ x. ok_decided bool_type)))
    checks (trees.Neg at e) o types = decided_as
        (λ t w. (subst (λ (x : Ty). HasType s.table s.class (o ++ s.attributes) e x) w.2.0 w.1, w.2.1))
        (λ t w. (int_type, w.0, (refl, w.1)))
        (bind_decided (checks e o types) (λ t has. same_decided typing.Neg E14 at t int_type (λ x. ok_decided int_type)))
    checks (trees.Arith at op a b) o types = decided_as
        (λ t w. let (u, has, (v, has1, (is_int, (is_int1, is)))) = w in
        (subst (λ (x : Ty). HasType s.table s.class (o ++ s.attributes) a x) is_int has, subst (λ (x : Ty). HasType s.table s.class (o ++ s.attributes) b x) is_int1 has1, is))
        (λ t w. let (has, has1, is) = w in (int_type, has, (int_type, has1, (refl, (refl, is)))))
        (bind_decided (checks a o types) (λ t has. bind_decided (checks b o types) (λ u has1. same_decided typing.Arith E14 at t int_type (λ x. same_decided typing.Arith E14 at u int_type (λ y. ok_decided int_type)))))
    checks (trees.Compare at op a b) o types = decided_as
        (λ t w. let (u, has, (v, has1, (comparable, is))) = w in (u, v, has, has1, comparable, is))
        (λ t w. let (u, v, has, has1, comparable, is) = w in (u, has, (v, has1, (comparable, is))))
        (bind_decided (checks a o types) (λ t has. bind_decided (checks b o types) (λ u has1. compared_decided op at t u)))

    -- with the types before
    checks_more : (es : Trees) (o : List Binding) (before : List Ty) → AreTypes s.table o → IsDecided (all_checked s o before es) (λ all. (ts : List Ty) × HaveTypes s.table s.class (o ++ s.attributes) es ts × (all ≡ before ++ ts))
    checks_more Last o before types = decided_as (λ all is. ([], tt, is ∙ sym (append-nil before))) (λ all w. none all w.0 w.1 w.2) (ok_decided before)
      where
        none : (all : List Ty) (ts : List Ty) → HaveTypes s.table s.class (o ++ s.attributes) Last ts → all ≡ before ++ ts → all ≡ before
        none all [] h is = is ∙ append-nil before
        none all (t ∷ ts) h is = absurd h
    checks_more (More e es) o before types = decided_as
        (λ all w. let (t, has, (ts, have, is)) = w in (t ∷ ts, (has, have), is ∙ append_assoc before (t ∷ []) ts))
        (λ all w. some all w.0 w.1 w.2)
        (bind_decided (checks e o types) (λ t has. checks_more es o (before ++ t ∷ []) types))
      where
        some : (all ts : List Ty) → HaveTypes s.table s.class (o ++ s.attributes) (More e es) ts → all ≡ before ++ ts
            → (t : Ty) × HasType s.table s.class (o ++ s.attributes) e t × ((us : List Ty) × HaveTypes s.table s.class (o ++ s.attributes) es us × (all ≡ (before ++ t ∷ []) ++ us))
        some all [] h is = absurd h
        some all (t ∷ ts) h is = (t, h.0, (ts, h.1, is ∙ sym (append_assoc before (t ∷ []) ts)))

    checks_items : (es : Trees) (o : List Binding) (before : Ty) → AreTypes s.table o → IsDecided (last_checked s o before es) (λ t. HaveItems s.table s.class (o ++ s.attributes) before es t)
    checks_items Last o before types = ok_decided before
    checks_items (More e es) o before types = bind_decided (checks e o types) (λ t has. checks_items es o t types)

    checks_init : (init : MaybeTree) (o : List Binding) → AreTypes s.table o → IsDecided (maybe_checked s o init) (InitHas (o ++ s.attributes) init)
    checks_init Without o types = no_init (o ++ s.attributes)
    checks_init (With e) o types = decided_as (λ x w. init_of (o ++ s.attributes) e x w) (λ x h. of_init (o ++ s.attributes) e x h) (bind_decided (checks e o types) (λ t has. ok_decided (Some t)))

    checks_cases : (cs : Cases) (o : List Binding) (earlier : List ClassId) (join : Option Ty) → AreTypes s.table o → IsDecided (cases_checked s o earlier join cs) (BranchesJoin (o ++ s.attributes) earlier join cs)
    checks_cases NoCase o earlier join types = no_branches (o ++ s.attributes) earlier join
    checks_cases (CaseOf at name declared e cs) o earlier join types = decided_as
        (λ j w. more_branches (o ++ s.attributes) earlier join at name declared e cs j w)
        (λ j h. branches_more (o ++ s.attributes) earlier join at name declared e cs j h)
        (bind_decided (branch_decided at name declared earlier) (λ d w.
        bind_decided (checks e (bind name (IsClass d) o) (w.1.0.0, types)) (λ u has. checks_cases cs o (earlier ++ d ∷ []) (Some (joined s join u)) types)))

  -- an expression has a type by the rules exactly where checking it finds no fault, and it is the one that checking gives
  pub checked_decides : (e : Tree) (o : List Binding) → AreTypes s.table o → IsDecided (checked s o e) (λ t. HasType s.table s.class (o ++ s.attributes) e t)
  checked_decides e o types = checks e o types
