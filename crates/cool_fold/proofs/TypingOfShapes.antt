-- If look-ups in two class tables have the same results (`FindSame` of `AlikeTables.antt`), an expression without type errors in one table has none in the
-- other, and has the same type.
use Rattle.std.proofs.Common.{◌≡◌, ℕ, List, [], ◌∷◌, ◌++◌, Some, sym, ◌∙◌, subst}
use Rattle.std.specs.List.{AllByRecursion}
use Rattle.cool_syntax.specs.Tree.{Tree, Trees, MaybeTree, Cases, Last, More, Without, With, NoCase, CaseOf}
use Rattle.cool_syntax.specs.Tree as trees
use Rattle.cool_classes.specs.declared.class_id.ClassId.{ClassId}
use Rattle.cool_classes.specs.declared.class_id.Ty.{Ty}
use Rattle.cool_classes.specs.declared.class_id.Ty.TheVariants.{Class as IsClass, SelfType}
use Rattle.cool_classes.specs.declared.method.MethodRef.{MethodRef}
use Rattle.cool_classes.specs.Chains.{Class, Below}
use Rattle.cool_classes.specs.Features.{Denotes, attributes_of, formals_of, result_of}
use Rattle.cool_classes.proofs.AlikeTables.{FindSame, flipped}
use Rattle.cool_rules.specs.Conformance.{Conforms, IsJoinOfTypes, class_of}
use Rattle.cool_rules.specs.Scopes.{Binding}
use Rattle.cool_rules.specs.Typing.{AreArguments, IsImplementation, IsCall, IsJoinOfBranches, bool_type, int_type, object_type, with_name, attributes_in_scope, HasType, HaveTypes, HaveItems, HasInit, HaveBranches, FitsDeclared}
use Rattle.cool_classes.proofs.AlikeTablesKept.{implementation_same, chain_kept, denotes_kept}
use Rattle.cool_fold.proofs.SameShapes.{chain_scope_same}

module _ (p p' : List Class) (s : FindSame p p') where
  below_kept : (a b : ClassId) → Below p a b → Below p' a b
  below_kept a b (ds, is, there) = (ds, chain_kept p p' s ds (Some a) is, there)

  conforms_kept : (c : ClassId) (t u : Ty) → Conforms p c t u → Conforms p' c t u
  conforms_kept c SelfType SelfType h = tt
  conforms_kept c SelfType (IsClass b) h = below_kept c b h
  conforms_kept c (IsClass a) SelfType h = absurd h
  conforms_kept c (IsClass a) (IsClass b) h = below_kept a b h

  arguments_kept : (c : ClassId) (ts : List Ty) (formals : List (List ℕ)) → AreArguments p c ts formals → AreArguments p' c ts formals
  arguments_kept c [] [] h = tt
  arguments_kept c [] (formal ∷ formals) h = absurd h
  arguments_kept c (t ∷ ts) [] h = absurd h
  arguments_kept c (t ∷ ts) (formal ∷ formals) ((u, denotes, conforms), h) =
      ((u, denotes_kept p p' s formal u denotes, conforms_kept c t u conforms), arguments_kept c ts formals h)

  implementation_kept : (k : ClassId) (name : List ℕ) (m : MethodRef) → IsImplementation p k name m → IsImplementation p' k name m
  implementation_kept k name m (ds, is, found) = (ds, chain_kept p p' s ds (Some k) is, implementation_same p p' s ds name ∙ found)

  call_kept : (c k : ClassId) (name : List ℕ) (receiver : Ty) (given : List Ty) (type : Ty) → IsCall p c k name receiver given type
      → IsCall p' c k name receiver given type
  call_kept c k name receiver given type call = record {
    method = call.method;
    result = call.result;
    found = implementation_kept k name call.method call.found;
    arguments =
        subst (λ (fs : List (List ℕ)). AreArguments p' c given fs) (sym (s.formals call.method))
        (arguments_kept c given (formals_of p call.method) call.arguments);
    declared =
        subst (λ (n : List ℕ). Denotes p' n call.result) (sym (s.results call.method))
        (denotes_kept p p' s (result_of p call.method) call.result call.declared);
    is = call.is;
  }

  all_conform : (c : ClassId) (ts : List Ty) (u : Ty) → AllByRecursion (λ (t : Ty). Conforms p c t u) ts
      → AllByRecursion (λ (t : Ty). Conforms p' c t u) ts
  all_conform c [] u h = tt
  all_conform c (t ∷ ts) u (h, hs) = (conforms_kept c t u h, all_conform c ts u hs)

module _ (p p' : List Class) (s : FindSame p p') where
  join_kept : (c : ClassId) (a b j : Ty) → IsJoinOfTypes p c a b j → IsJoinOfTypes p' c a b j
  join_kept c a b j h = record {
    left = conforms_kept p p' s c a j h.left;
    right = conforms_kept p p' s c b j h.right;
    least =
        λ other k l. conforms_kept p p' s c j other
        (h.least other (conforms_kept p' p (flipped p p' s) c a other k) (conforms_kept p' p (flipped p p' s) c b other l));
  }

  branches_join_kept : (c : ClassId) (ts : List Ty) (j : Ty) → IsJoinOfBranches p c ts j → IsJoinOfBranches p' c ts j
  branches_join_kept c [] j h = h
  branches_join_kept c (t ∷ ts) j h = record {
    all = all_conform p p' s c (t ∷ ts) j h.all;
    least = λ other k. conforms_kept p p' s c j other (h.least other (all_conform p' p (flipped p p' s) c (t ∷ ts) other k));
  }

  mutual
    pub type_kept : (e : Tree) (c : ClassId) (scope : List Binding) (type : Ty) → HasType p c scope e type → HasType p' c scope e type
    type_kept (trees.Assign at name e) c scope type (declared, other, has, there, conforms) =
        (declared, other, type_kept e c scope type has, there, conforms_kept p p' s c type declared conforms)
    type_kept (trees.Dispatch at e name es) c scope type (receiver, given, has, have, call) = (
      receiver,
      given,
      type_kept e c scope receiver has,
      types_kept es c scope given have,
      call_kept p p' s c (class_of c receiver) name receiver given type call,
    )
    type_kept (trees.StaticDispatch at e class name es) c scope type (receiver, given, k, has, have, denotes, conforms, call) = (
      receiver,
      given,
      k,
      type_kept e c scope receiver has,
      types_kept es c scope given have,
      denotes_kept p p' s class.name (IsClass k) denotes,
      conforms_kept p p' s c receiver (IsClass k) conforms,
      call_kept p p' s c k name receiver given type call,
    )
    type_kept (trees.If at test y n) c scope type (t, u, has, has1, has2, join) =
        (t, u, type_kept test c scope bool_type has, type_kept y c scope t has1, type_kept n c scope u has2, join_kept c t u type join)
    type_kept (trees.While at test body) c scope type (t, has, has1, is) =
        (t, type_kept test c scope bool_type has, type_kept body c scope t has1, is)
    type_kept (trees.Block at es) c scope type h = items_kept es c scope object_type type h
    type_kept (trees.Let at name declared init e) c scope type (bound, other, denotes, has, has1) = (
      bound,
      other,
      denotes_kept p p' s declared.name bound denotes,
      init_kept init c scope bound has,
      type_kept e c (with_name name bound scope) type has1,
    )
    type_kept (trees.Case at e cs) c scope type (t, ts, has, have, different, join) =
        (t, ts, type_kept e c scope t has, branches_kept cs c scope ts have, different, branches_join_kept c ts type join)
    type_kept (trees.New at class) c scope type h = denotes_kept p p' s class.name type h
    type_kept (trees.IsVoid at e) c scope type (t, has, is) = (t, type_kept e c scope t has, is)
    type_kept (trees.Not at e) c scope type (has, is) = (type_kept e c scope bool_type has, is)
    type_kept (trees.Neg at e) c scope type (has, is) = (type_kept e c scope int_type has, is)
    type_kept (trees.Arith at op a b) c scope type (has, has1, is) = (type_kept a c scope int_type has, type_kept b c scope int_type has1, is)
    type_kept (trees.Compare at op a b) c scope type (t, u, has, has1, comparable, is) =
        (t, u, type_kept a c scope t has, type_kept b c scope u has1, comparable, is)
    type_kept _ c scope type h = h

    types_kept : (es : Trees) (c : ClassId) (scope : List Binding) (given : List Ty) → HaveTypes p c scope es given → HaveTypes p' c scope es given
    types_kept Last c scope [] h = tt
    types_kept Last c scope (t ∷ ts) h = absurd h
    types_kept (More e es) c scope [] h = absurd h
    types_kept (More e es) c scope (t ∷ ts) (has, have) = (type_kept e c scope t has, types_kept es c scope ts have)

    items_kept : (es : Trees) (c : ClassId) (scope : List Binding) (before type : Ty) → HaveItems p c scope before es type
        → HaveItems p' c scope before es type
    items_kept Last c scope before type h = h
    items_kept (More e es) c scope before type (t, has, have) = (t, type_kept e c scope t has, items_kept es c scope t type have)

    init_kept : (o : MaybeTree) (c : ClassId) (scope : List Binding) (bound : Ty) → HasInit p c scope bound o → HasInit p' c scope bound o
    init_kept Without c scope bound h = tt
    init_kept (With e) c scope bound (t, has, conforms) = (t, type_kept e c scope t has, conforms_kept p p' s c t bound conforms)

    branches_kept : (cs : Cases) (c : ClassId) (scope : List Binding) (ts : List Ty) → HaveBranches p c scope cs ts → HaveBranches p' c scope cs ts
    branches_kept NoCase c scope [] h = tt
    branches_kept NoCase c scope (t ∷ ts) h = absurd h
    branches_kept (CaseOf at name declared e cs) c scope [] h = absurd h
    branches_kept (CaseOf at name declared e cs) c scope (t ∷ ts) ((d, other, denotes, has), have) = (
      (d, other, denotes_kept p p' s declared.name (IsClass d) denotes, type_kept e c (with_name name (IsClass d) scope) t has),
      branches_kept cs c scope ts have,
    )

  -- a declared expression, in the scope that it has in the other table
  pub declared_kept : (c : ClassId) (inner inner' : List Binding) (e : Tree) (declared : List ℕ) → inner' ≡ inner → FitsDeclared p c inner e declared
      → FitsDeclared p' c inner' e declared
  declared_kept c inner inner' e declared same f = record {
    chain = f.chain;
    is_chain = chain_kept p p' s f.chain (Some c) f.is_chain;
    type = f.type;
    result = f.result;
    has =
        subst (λ (bs : List Binding). HasType p' c bs e f.type) (sym (λ i. same i ++ chain_scope_same p p' s f.chain i))
        (type_kept e c (inner ++ attributes_in_scope p (attributes_of p f.chain)) f.type f.has);
    denotes = denotes_kept p p' s declared f.result f.denotes;
    conforms = conforms_kept p p' s c f.type f.result f.conforms;
  }
