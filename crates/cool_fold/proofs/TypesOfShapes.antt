-- If look-ups in two class tables have the same results (`FindSame`), an expression has the same static type in both. If nothing is left to fold in it by one
-- table, nothing is left by the other.
use Rattle.std.proofs.Common.{◌≡◌, ℕ, List, Option, Some, None, Bool as Truth, refl, sym, ap, ◌∙◌, subst}
use Rattle.std.specs.Prelude.{unwrap_or}
use Rattle.cool_syntax.specs.Tree.{Tree, Trees, MaybeTree, Cases, Last, More, Without, With, NoCase, CaseOf}
use Rattle.cool_syntax.specs.Tree as trees
use Rattle.cool_classes.specs.declared.class_id.ClassId.{ClassId}
use Rattle.cool_classes.specs.declared.class_id.Ty.{Ty}
use Rattle.cool_classes.specs.Chains.{Class}
use Rattle.cool_classes.proofs.AlikeTables.{FindSame}
use Rattle.cool_rules.specs.Conformance.{class_of}
use Rattle.cool_rules.specs.Rules.{join_in, type_meant}
use Rattle.cool_rules.specs.Scopes.{Binding}
use Rattle.cool_rules.specs.Typing.{with_name, object_type}
use Rattle.cool_rules.specs.Meant.{joined, type_of_call}
use Rattle.cool_rules.specs.StaticTypes.{type_of, last_type_of, cases_type_of}
use Rattle.cool_fold.specs.Folding.{constant_in, truth_in, is_redefined}
use Rattle.cool_fold.specs.Foldable.{IsNotTaken, IsDone, AreDone, IsMaybeDone, AreCasesDone}
use Rattle.cool_fold.proofs.SameShapes.{meant_same, join_same, call_same, redefined_same}

module _ (p p' : List Class) (s : FindSame p p') (c : ClassId) where
  -- a name in scope with the type that its declaration means
  abbrev pub bound_in : List Class → List ℕ → List ℕ → List Binding → List Binding
  bound_in q name declared scope = with_name name (type_meant q declared) scope

  pub bound_same : (name declared : List ℕ) (scope : List Binding) → bound_in p' name declared scope ≡ bound_in p name declared scope
  bound_same name declared scope = ap (λ (t : Ty). with_name name t scope) (meant_same p p' s declared)

  joined_same : (o : Option Ty) (t : Ty) → joined p' c o t ≡ joined p c o t
  joined_same None t = refl
  joined_same (Some b) t = join_same p p' s c b t

  mutual
    pub type_same : (e : Tree) (scope : List Binding) → type_of p' c scope e ≡ type_of p c scope e
    type_same (trees.Assign at name e) scope = type_same e scope
    type_same (trees.Dispatch at e name es) scope =
        ap (λ (t : Ty). type_of_call p' (class_of c t) t name) (type_same e scope)
        ∙ call_same p p' s (class_of c (type_of p c scope e)) (type_of p c scope e) name
    type_same (trees.StaticDispatch at e class name es) scope =
        ap (λ (t : Ty). type_of_call p' (class_of c (type_meant p' class.name)) t name) (type_same e scope)
        ∙ (ap (λ (k : Ty). type_of_call p' (class_of c k) (type_of p c scope e) name) (meant_same p p' s class.name)
        ∙ call_same p p' s (class_of c (type_meant p class.name)) (type_of p c scope e) name)
    type_same (trees.If at test y n) scope =
        (λ i. join_in p' c (type_same y scope i) (type_same n scope i)) ∙ join_same p p' s c (type_of p c scope y) (type_of p c scope n)
    type_same (trees.Block at es) scope = last_same es scope object_type
    type_same (trees.Let at name declared init e) scope =
        ap (λ (bs : List Binding). type_of p' c bs e) (bound_same name declared.name scope) ∙ type_same e (bound_in p name declared.name scope)
    type_same (trees.Case at e cs) scope = ap (λ (o : Option Ty). unwrap_or o object_type) (cases_same cs scope None)
    type_same (trees.New at class) scope = meant_same p p' s class.name
    type_same (trees.While at test e) scope = refl
    type_same _ scope = refl

    last_same : (es : Trees) (scope : List Binding) (before : Ty) → last_type_of p' c scope before es ≡ last_type_of p c scope before es
    last_same Last scope before = refl
    last_same (More e es) scope before = ap (λ (t : Ty). last_type_of p' c scope t es) (type_same e scope) ∙ last_same es scope (type_of p c scope e)

    cases_same : (cs : Cases) (scope : List Binding) (join : Option Ty) → cases_type_of p' c scope join cs ≡ cases_type_of p c scope join cs
    cases_same NoCase scope join = refl
    cases_same (CaseOf at name declared e cs) scope join =
        ap (λ (t : Ty). cases_type_of p' c scope (Some (joined p' c join t)) cs)
        (ap (λ (bs : List Binding). type_of p' c bs e) (bound_same name declared.name scope) ∙ type_same e (bound_in p name declared.name scope))
        ∙ (ap (λ (t : Ty). cases_type_of p' c scope (Some t) cs) (joined_same join (type_of p c (bound_in p name declared.name scope) e))
        ∙ cases_same cs scope (Some (joined p c join (type_of p c (bound_in p name declared.name scope) e))))

  -- Nothing is left to fold

  not_taken : (scope : List Binding) (e y n : Tree) (o : Option Truth)
      → IsNotTaken (type_of p c scope y) (type_of p c scope n) (type_of p c scope e) o
      → IsNotTaken (type_of p' c scope y) (type_of p' c scope n) (type_of p' c scope e) o
  not_taken scope e y n o h =
      subst (λ (t : Ty). IsNotTaken t (type_of p' c scope n) (type_of p' c scope e) o) (sym (type_same y scope))
      (subst (λ (t : Ty). IsNotTaken (type_of p c scope y) t (type_of p' c scope e) o) (sym (type_same n scope))
      (subst (λ (t : Ty). IsNotTaken (type_of p c scope y) (type_of p c scope n) t o) (sym (type_same e scope)) h))

  mutual
    pub still_done : (e : Tree) (scope : List Binding) → IsDone p c scope e → IsDone p' c scope e
    still_done (trees.leaf at form) scope h = tt
    still_done (trees.Assign at name e) scope h = still_done e scope h
    still_done (trees.IsVoid at e) scope (none, h) = (none, still_done e scope h)
    still_done (trees.Not at e) scope (none, h) = (none, still_done e scope h)
    still_done (trees.Neg at e) scope (none, h) = (none, still_done e scope h)
    still_done (trees.Dispatch at e name es) scope (redefined, h, g) = (
      ap (λ (t : Ty). is_redefined p' (class_of c t) name) (type_same e scope)
          ∙ (redefined_same p p' s (class_of c (type_of p c scope e)) name ∙ redefined),
      still_done e scope h,
      all_done es scope g,
    )
    still_done (trees.StaticDispatch at e class name es) scope (h, g) = (still_done e scope h, all_done es scope g)
    still_done (trees.If at e y n) scope (kept, h, g, k) =
        (not_taken scope (trees.If at e y n) y n (truth_in (constant_in e)) kept, still_done e scope h, still_done y scope g, still_done n scope k)
    still_done (trees.While at e b) scope (h, g) = (still_done e scope h, still_done b scope g)
    still_done (trees.Arith at op a b) scope (none, h, g) = (none, still_done a scope h, still_done b scope g)
    still_done (trees.Compare at op a b) scope (none, h, g) = (none, still_done a scope h, still_done b scope g)
    still_done (trees.Block at es) scope h = all_done es scope h
    still_done (trees.Let at name declared o e) scope (h, g) = (
      maybe_done o scope h,
      subst (λ (bs : List Binding). IsDone p' c bs e) (sym (bound_same name declared.name scope))
          (still_done e (bound_in p name declared.name scope) g),
    )
    still_done (trees.Case at e cs) scope (h, g) = (still_done e scope h, cases_done cs scope g)

    all_done : (es : Trees) (scope : List Binding) → AreDone p c scope es → AreDone p' c scope es
    all_done Last scope h = tt
    all_done (More e es) scope (h, g) = (still_done e scope h, all_done es scope g)

    maybe_done : (o : MaybeTree) (scope : List Binding) → IsMaybeDone p c scope o → IsMaybeDone p' c scope o
    maybe_done Without scope h = tt
    maybe_done (With e) scope h = still_done e scope h

    cases_done : (cs : Cases) (scope : List Binding) → AreCasesDone p c scope cs → AreCasesDone p' c scope cs
    cases_done NoCase scope h = tt
    cases_done (CaseOf at name declared e cs) scope (h, g) = (
      subst (λ (bs : List Binding). IsDone p' c bs e) (sym (bound_same name declared.name scope))
          (still_done e (bound_in p name declared.name scope) h),
      cases_done cs scope g,
    )
