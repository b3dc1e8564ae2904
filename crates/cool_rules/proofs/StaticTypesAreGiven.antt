-- If the typing rules give an expression a type, this is the static type that the function `type_of` computes for the expression.
use Rattle.std.proofs.Common.{◌≡◌, ℕ, ◌<◌, List, [], ◌∷◌, length, Option, Some, None, Bool as Truth, true, false, refl, sym, ap, ◌∙◌, subst}
use Rattle.std.specs.Prelude.{unwrap_or, bytes_eq, codes, if◌then◌else◌}
use Rattle.std.specs.List.{AllByRecursion}
use Rattle.cool_syntax.specs.Tree.{Tree, Trees, Cases, Last, More, NoCase, CaseOf}
use Rattle.cool_syntax.specs.Tree as trees
use Rattle.cool_classes.specs.declared.class_id.ClassId.{ClassId}
use Rattle.cool_classes.specs.declared.class_id.Ty.{Ty}
use Rattle.cool_classes.specs.declared.class_id.Ty.TheVariants.{Class as IsClass, SelfType}
use Rattle.cool_classes.specs.declared.method.BasicMethod.TheVariants.{Abort}
use Rattle.cool_classes.specs.declared.method.MethodRef.{MethodRef}
use Rattle.cool_classes.specs.declared.method.MethodRef.TheVariants.{Basic}
use Rattle.cool_classes.specs.Chains.{Class}
use Rattle.cool_classes.specs.ClimbedChains.{chain}
use Rattle.cool_classes.specs.Features.{Denotes, implementation, result_of}
use Rattle.cool_classes.specs.Tables.{IsWholeTable}
use Rattle.cool_classes.proofs.ChainsOfTables.{chain_is}
use Rattle.cool_classes.proofs.Climbs.{chain_unique}
use Rattle.cool_rules.specs.Conformance.{IsType, Conforms, class_of}
use Rattle.cool_rules.specs.Rules.{join_in, type_meant, method_of}
use Rattle.cool_rules.specs.Scopes.{AreTypes, Binding, found}
use Rattle.cool_rules.specs.Meant.{joined, method_in}
use Rattle.cool_rules.specs.StaticTypes.{type_of, last_type_of, cases_type_of}
use Rattle.cool_rules.specs.Typing.{object_type, type_in_scope, with_name, IsImplementation, IsCall, IsJoinOfAll, IsJoinOfBranches, result_on, HasType, HaveItems, HaveBranches}
use Rattle.cool_rules.proofs.ChainsOfTables.{below_trans, below_itself}
use Rattle.cool_rules.proofs.RulesOfTables.{meant_is, join_in_is}
use Rattle.cool_rules.proofs.RulesDecided.{denotes_type, join_is, one_type, conforming_type}
use Rattle.cool_rules.proofs.TypesOfMethods.{expression_type}

-- a list's types joined, after branches with this join
abbrev pub folded : List Class → ClassId → Option Ty → List Ty → Option Ty
folded p c join [] = join
folded p c join (t ∷ ts) = folded p c (Some (joined p c join t)) ts

-- each binding of a name in one scope is in another one, too
abbrev pub Covers : List Binding → List Binding → Type 0
Covers scope seen = (name : List ℕ) (t : Ty) → found scope name ≡ Some t → found seen name ≡ Some t

covers_with : (x : List ℕ) (t : Ty) (scope seen : List Binding) → Covers scope seen → Covers (with_name x t scope) (with_name x t seen)
covers_with x t scope seen covers = λ name u is. by name u (bytes_eq x name) is (covers name u)
  where
    by : (name : List ℕ) (u : Ty) (b : Truth) → (if b then Some t else found scope name) ≡ Some u → (found scope name ≡ Some u → found seen name ≡ Some u)
        → (if b then Some t else found seen name) ≡ Some u
    by name u true is more = is
    by name u false is more = more is

module _ (p : List Class) (whole : IsWholeTable p) (c : ClassId) (within : c.0 < length p) where
  -- Joins

  conforms_on : (t u v : Ty) → Conforms p c t u → Conforms p c u v → Conforms p c t v
  conforms_on SelfType SelfType v h k = k
  conforms_on SelfType (IsClass b) SelfType h k = absurd k
  conforms_on SelfType (IsClass b) (IsClass d) h k = below_trans p c b d h k
  conforms_on (IsClass a) SelfType v h k = absurd h
  conforms_on (IsClass a) (IsClass b) SelfType h k = absurd k
  conforms_on (IsClass a) (IsClass b) (IsClass d) h k = below_trans p a b d h k

  pub record IsFolded (t : Ty) (ts : List Ty) : Type 0 where
    pub join : Ty
    pub is : folded p c (Some t) ts ≡ Some join
    pub all : IsJoinOfAll p c (t ∷ ts) join

  folded_is : (t : Ty) (ts : List Ty) → IsType p t → AllByRecursion (IsType p) ts → IsFolded t ts
  folded_is SelfType [] h g = record { join = SelfType; is = refl; all = record { all = (tt, tt); least = λ other k. k.0 } }
  folded_is (IsClass a) [] h g = record { join = IsClass a; is = refl; all = record { all = (below_itself p whole a h, tt); least = λ other k. k.0 } }
  folded_is t (u ∷ us) h g =
      let i : Ty = join_in p c t u in
      let j = join_is p whole c t u within h g.0 in
      let rest = folded_is i us (conforming_type p whole c t i within h j.left) g.1 in
      record {
        join = rest.join;
        is = rest.is;
        all = record {
          all = (conforms_on t i rest.join j.left rest.all.all.0, (conforms_on u i rest.join j.right rest.all.all.0, rest.all.all.1));
          least = λ other k. rest.all.least other (j.least other k.0 k.1.0, k.1.1);
        };
      }

  branches_folded : (ts : List Ty) (j : Ty) → AllByRecursion (IsType p) ts → IsJoinOfBranches p c ts j → unwrap_or (folded p c None ts) object_type ≡ j
  branches_folded [] j h is = sym is
  branches_folded (t ∷ ts) j h is =
      let other = folded_is t ts h.0 h.1 in
      ap (λ (o : Option Ty). unwrap_or o object_type) other.is
      ∙ one_type p whole c other.join j (conforming_type p whole c t other.join within h.0 other.all.all.0) (conforming_type p whole c t j within h.0 is.all.0)
      (other.all.least j is.all) (is.least other.join other.all.all)

  branch_types : (cs : Cases) (scope : List Binding) (ts : List Ty) → AreTypes p scope → HaveBranches p c scope cs ts → AllByRecursion (IsType p) ts
  branch_types NoCase scope [] types h = tt
  branch_types NoCase scope (t ∷ ts) types h = absurd h
  branch_types (CaseOf at name declared e cs) scope [] types h = absurd h
  branch_types (CaseOf at name declared e cs) scope (t ∷ ts) types ((d, other, denotes, has), have) =
      (expression_type p whole c within e (with_name name (IsClass d) scope) t (denotes.0, types) has, branch_types cs scope ts types have)

  -- Calls

  pub class_there : (t : Ty) → IsType p t → (class_of c t).0 < length p
  class_there SelfType h = within
  class_there (IsClass a) h = h

  pub method_found : (k : ClassId) → k.0 < length p → (name : List ℕ) (m : MethodRef) → IsImplementation p k name m → implementation p (chain p k) name ≡ Some m
  method_found k k_within name m (ds, is_chain, is) = subst (λ (xs : List ClassId). implementation p xs name ≡ Some m) (chain_unique p (Some k) ds (chain p k) is_chain (chain_is p k whole.table k_within)) is

  pub method_is : (k : ClassId) → k.0 < length p → (name : List ℕ) (m : MethodRef) → IsImplementation p k name m → method_in p k name ≡ m
  unfolding method_of
  method_is k k_within name m found = ap (λ (o : Option MethodRef). unwrap_or o (Basic Abort)) (method_found k k_within name m found)

  call_is : (k : ClassId) → k.0 < length p → (name : List ℕ) (receiver : Ty) (given : List Ty) (type : Ty) → IsCall p c k name receiver given type
      → result_on receiver (type_meant p (result_of p (method_in p k name))) ≡ type
  call_is k k_within name receiver given type call =
      ap (λ (m : MethodRef). result_on receiver (type_meant p (result_of p m))) (method_is k k_within name call.method call.found)
      ∙ ap (result_on receiver) (meant_is p whole.table (result_of p call.method) call.result call.declared)
      ∙ sym call.is

  pub class_is : (name : List ℕ) (k : ClassId) → Denotes p name (IsClass k) → class_of c (type_meant p name) ≡ k
  class_is name k denotes = ap (class_of c) (meant_is p whole.table name (IsClass k) denotes)

  -- Names

  named_is : (scope seen : List Binding) (name : List ℕ) (type : Ty) → Covers scope seen → type_in_scope scope name ≡ Some type → unwrap_or (type_in_scope seen name) object_type ≡ type
  named_is scope seen name type covers e = by (bytes_eq name (codes "self")) e
    where
      by : (b : Truth) → (if b then Some SelfType else found scope name) ≡ Some type → unwrap_or (if b then Some SelfType else found seen name) object_type ≡ type
      by true e = ap (λ (o : Option Ty). unwrap_or o object_type) e
      by false e = ap (λ (o : Option Ty). unwrap_or o object_type) (covers name type e)

  mutual
    -- the type of an expression, also in a scope that gives the names more types
    pub type_is_in : (e : Tree) (scope seen : List Binding) (type : Ty) → AreTypes p scope → Covers scope seen → HasType p c scope e type → type_of p c seen e ≡ type
    type_is_in (trees.Id at name) scope seen type types covers h = named_is scope seen name type covers h
    type_is_in (trees.Assign at name e) scope seen type types covers (declared, other, has, there, conforms) = type_is_in e scope seen type types covers has
    type_is_in (trees.Dispatch at e name es) scope seen type types covers (receiver, given, has, have, call) =
        let same = type_is_in e scope seen receiver types covers has in
        ap (λ (t : Ty). result_on t (type_meant p (result_of p (method_in p (class_of c t) name)))) same
        ∙ call_is (class_of c receiver) (class_there receiver (expression_type p whole c within e scope receiver types has)) name receiver given type call
    type_is_in (trees.StaticDispatch at e class name es) scope seen type types covers (receiver, given, k, has, have, denotes, conforms, call) =
        let same = type_is_in e scope seen receiver types covers has in
        ap (λ (t : Ty). result_on t (type_meant p (result_of p (method_in p (class_of c (type_meant p class.name)) name)))) same
        ∙ ap (λ (x : ClassId). result_on receiver (type_meant p (result_of p (method_in p x name)))) (class_is class.name k denotes)
        ∙ call_is k denotes.0 name receiver given type call
    type_is_in (trees.If at test first second) scope seen type types covers (t, u, has, has1, has2, join) =
        ap (λ (x : Ty). join_in p c x (type_of p c seen second)) (type_is_in first scope seen t types covers has1)
        ∙ ap (λ (x : Ty). join_in p c t x) (type_is_in second scope seen u types covers has2)
        ∙ sym (join_in_is p c t u type whole.table within (expression_type p whole c within first scope t types has1) (expression_type p whole c within second scope u types has2) join)
    type_is_in (trees.While at test body) scope seen type types covers (t, has, has1, is) = sym is
    type_is_in (trees.Block at es) scope seen type types covers h = last_is es scope seen object_type object_type type types covers refl h
    type_is_in (trees.Let at name declared init e) scope seen type types covers (bound, other, denotes, has, has1) =
        ap (λ (t : Ty). type_of p c (with_name name t seen) e) (meant_is p whole.table declared.name bound denotes)
        ∙ type_is_in e (with_name name bound scope) (with_name name bound seen) type (denotes_type p whole declared.name bound denotes, types) (covers_with name bound scope seen covers) has1
    type_is_in (trees.Case at e cs) scope seen type types covers (t, ts, has, have, different, join) =
        ap (λ (o : Option Ty). unwrap_or o object_type) (cases_are cs scope seen None ts types covers have) ∙ branches_folded ts type (branch_types cs scope ts types have) join
    type_is_in (trees.New at class) scope seen type types covers h = meant_is p whole.table class.name type h
    type_is_in (trees.IsVoid at e) scope seen type types covers (t, has, is) = sym is
    type_is_in (trees.Not at e) scope seen type types covers (has, is) = sym is
    type_is_in (trees.Neg at e) scope seen type types covers (has, is) = sym is
    type_is_in (trees.Arith at op a b) scope seen type types covers (has, has1, is) = sym is
    type_is_in (trees.Compare at op a b) scope seen type types covers (t, u, has, has1, comparable, is) = sym is
    type_is_in _ scope seen type types covers h = sym h

    last_is : (es : Trees) (scope seen : List Binding) (last before type : Ty) → AreTypes p scope → Covers scope seen → last ≡ before → HaveItems p c scope before es type
        → last_type_of p c seen last es ≡ type
    last_is Last scope seen last before type types covers same is = same ∙ sym is
    last_is (More e es) scope seen last before type types covers same (t, has, have) = last_is es scope seen (type_of p c seen e) t type types covers (type_is_in e scope seen t types covers has) have

    cases_are : (cs : Cases) (scope seen : List Binding) (join : Option Ty) (ts : List Ty) → AreTypes p scope → Covers scope seen → HaveBranches p c scope cs ts
        → cases_type_of p c seen join cs ≡ folded p c join ts
    cases_are NoCase scope seen join [] types covers h = refl
    cases_are NoCase scope seen join (t ∷ ts) types covers h = absurd h
    cases_are (CaseOf at name declared e cs) scope seen join [] types covers h = absurd h
    cases_are (CaseOf at name declared e cs) scope seen join (t ∷ ts) types covers ((k, other, denotes, has), have) =
        ap (λ (x : Ty). cases_type_of p c seen (Some (joined p c join (type_of p c (with_name name x seen) e))) cs) (meant_is p whole.table declared.name (IsClass k) denotes)
        ∙ ap (λ (x : Ty). cases_type_of p c seen (Some (joined p c join x)) cs) (type_is_in e (with_name name (IsClass k) scope) (with_name name (IsClass k) seen) t (denotes.0, types) (covers_with name (IsClass k) scope seen covers) has)
        ∙ cases_are cs scope seen (Some (joined p c join t)) ts types covers have

  -- the type of an expression
  pub type_is : (e : Tree) (scope : List Binding) (type : Ty) → AreTypes p scope → HasType p c scope e type → type_of p c scope e ≡ type
  type_is e scope type types has = type_is_in e scope scope type types (λ name t is. is) has
