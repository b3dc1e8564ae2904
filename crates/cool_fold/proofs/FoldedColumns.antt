-- Each node of a folded expression has the same static type in the folded class table as in the original one. Lemmas for the loops that collect these types.
use Rattle.std.proofs.Common.{◌≡◌, ℕ, ◌+◌, ◌≤◌, ◌<◌, List, [], ◌∷◌, ◌++◌, map, length, drop, Option, Some, None, refl, ap, sym, ◌∙◌, append_assoc, arith}
use Rattle.std.specs.Prelude.{slice_get, option_map}
use Rattle.std.proofs.Math.ListN.{drop_of_length-le}
use Rattle.std.proofs.lemmas.List.{length-map}
use Rattle.std.proofs.lemmas.Option.{get_or_from_slice_get, slice_get_within}
use Rattle.cool_syntax.specs.declared.file_tree.Feature.{Feature}
use Rattle.cool_syntax.specs.declared.file_tree.Feature.TheVariants.{Method, Attribute}
use Rattle.cool_syntax.specs.Tree.{Tree, Trees, MaybeTree, Cases, Last, More, Without, With, NoCase, CaseOf}
use Rattle.cool_syntax.specs.Tree as trees
use Rattle.cool_classes.specs.declared.class_id.ClassId.{ClassId}
use Rattle.cool_classes.specs.declared.class_id.Ty.{Ty}
use Rattle.cool_classes.specs.Chains.{Class, features_of}
use Rattle.cool_classes.proofs.AlikeTables.{FindSame}
use Rattle.cool_rules.specs.NodeTypes.{node_types, part_types, types_of_all, types_of_maybe, types_of_cases, own_scope, initial_types, feature_types, features_types, classes_types}
use Rattle.cool_rules.specs.Rules.{type_meant}
use Rattle.cool_rules.specs.Scopes.{Binding}
use Rattle.cool_rules.specs.Typing.{with_name, formals_in_scope}
use Rattle.cool_fold.specs.Folding.{fold_feature, fold_table}
use Rattle.cool_fold.proofs.ExpressionsLeft.{nothing_after}
use Rattle.cool_fold.proofs.FoldedTables.{folded_shape, features_folded, feature_at}
use Rattle.cool_fold.proofs.SameShapes.{formal_scope_same, own_scope_same}
use Rattle.cool_fold.proofs.TypesOfShapes.{bound_same, type_same}
use Rattle.lists.proofs.ItemsAt.{there_is}
use Rattle.lists.proofs.ItemsLeft.{drop_one}

-- In tables of one shape

module _ (p p' : List Class) (s : FindSame p p') (c : ClassId) where
  -- a node has the same type, after its parts
  with_own : (e : Tree) (scope : List Binding) → part_types p' c scope e ≡ part_types p c scope e
      → node_types p' c scope e ≡ node_types p c scope e
  with_own e scope parts = let type = type_same p p' s c e scope in λ i. parts i ++ type i ∷ []

  -- so has an expression with a name in scope
  with_bound : (name declared : List ℕ) (e : Tree) (scope : List Binding)
      → part_types p' c (with_name name (type_meant p declared) scope) e
      ≡ part_types p c (with_name name (type_meant p declared) scope) e
      → node_types p' c (with_name name (type_meant p' declared) scope) e
      ≡ node_types p c (with_name name (type_meant p declared) scope) e
  with_bound name declared e scope parts =
      ap (λ (bs : List Binding). node_types p' c bs e) (bound_same p p' s c name declared scope)
      ∙ with_own e (with_name name (type_meant p declared) scope) parts

  mutual
    parts_same : (e : Tree) (scope : List Binding) → part_types p' c scope e ≡ part_types p c scope e
    parts_same (trees.leaf at form) scope = refl
    parts_same (trees.unary at form e) scope = with_own e scope (parts_same e scope)
    parts_same (trees.binary at form l r) scope =
        let a = with_own l scope (parts_same l scope) in
        let b = with_own r scope (parts_same r scope) in
        λ i. a i ++ b i
    parts_same (trees.call at form e es) scope =
        let a = with_own e scope (parts_same e scope) in
        let b = all_same es scope in
        λ i. a i ++ b i
    parts_same (trees.If at e y n) scope =
        let a = with_own e scope (parts_same e scope) in
        let b = with_own y scope (parts_same y scope) in
        let d = with_own n scope (parts_same n scope) in
        λ i. a i ++ b i ++ d i
    parts_same (trees.Block at es) scope = all_same es scope
    parts_same (trees.Let at name declared o e) scope =
        let a = maybe_same o scope in
        let b = with_bound name declared.name e scope (parts_same e (with_name name (type_meant p declared.name) scope)) in
        λ i. a i ++ b i
    parts_same (trees.Case at e cs) scope = let a = with_own e scope (parts_same e scope) in let b = cases_same cs scope in λ i. a i ++ b i

    all_same : (es : Trees) (scope : List Binding) → types_of_all p' c scope es ≡ types_of_all p c scope es
    all_same Last scope = refl
    all_same (More e es) scope = let a = with_own e scope (parts_same e scope) in let b = all_same es scope in λ i. a i ++ b i

    maybe_same : (o : MaybeTree) (scope : List Binding) → types_of_maybe p' c scope o ≡ types_of_maybe p c scope o
    maybe_same Without scope = refl
    maybe_same (With e) scope = with_own e scope (parts_same e scope)

    cases_same : (cs : Cases) (scope : List Binding) → types_of_cases p' c scope cs ≡ types_of_cases p c scope cs
    cases_same NoCase scope = refl
    cases_same (CaseOf at name declared e cs) scope =
        let a = with_bound name declared.name e scope (parts_same e (with_name name (type_meant p declared.name) scope)) in
        let b = cases_same cs scope in
        λ i. a i ++ b i

  -- the nodes of an expression have the same types
  pub columns_same : (e : Tree) (scope : List Binding) → node_types p' c scope e ≡ node_types p c scope e
  columns_same e scope = with_own e scope (parts_same e scope)

  -- and so have those of the expression of a feature
  pub feature_types_same : (x : Feature) → feature_types p' c x ≡ feature_types p c x
  feature_types_same (Method m) =
      let formals = formal_scope_same p p' s m.formals in
      let own = own_scope_same p p' s c in
      (λ i. node_types p' c (formals i ++ own i) m.body) ∙ columns_same m.body (formals_in_scope p m.formals ++ own_scope p c)
  feature_types_same (Attribute a) = by a.init
    where
      by : (o : Option Tree) → initial_types p' c o ≡ initial_types p c o
      by None = refl
      by (Some e) = ap (λ (bs : List Binding). node_types p' c bs e) (own_scope_same p p' s c) ∙ columns_same e (own_scope p c)

-- Columns so far, and those that are left

-- the items from one on are it and those after it
left_first : {A B : Type 0} (f : A → B) (xs : List A) (k : ℕ) (x : A) → slice_get xs k ≡ Some x
    → map f (drop k xs) ≡ f x ∷ map f (drop (k + 1) xs)
left_first f xs k x there = ap (map f) (drop_one xs k x (slice_get_within xs k x there) (sym (get_or_from_slice_get xs k x x there)))

-- a column found after others, and then those that are left
one_later : {A : Type 0} (before rest left : List A) (x : A) → left ≡ x ∷ rest → (before ++ x ∷ []) ++ rest ≡ before ++ left
one_later before rest left x is = append_assoc before (x ∷ []) rest ∙ sym (ap (λ xs. before ++ xs) is)

module _ (p : List Class) (c : ClassId) where
  -- the column of a folded feature is found before those of the features after it
  pub column_later : (before : List (List Ty)) (k : ℕ) (column : List Ty) → k < length (features_of p c)
      → ((x : Feature) → slice_get (features_of p c) k ≡ Some x → column ≡ feature_types p c (fold_feature p c x))
      → (before ++ column ∷ []) ++ features_types (fold_table p) c (drop (k + 1) (features_of (fold_table p) c))
      ≡ before ++ features_types (fold_table p) c (drop k (features_of (fold_table p) c))
  column_later before k column within each =
      let (x, there) = there_is (features_of p c) k within in
      let q = fold_table p in
      let fs = features_of q c in
      let y = fold_feature p c x in
      let folded : slice_get fs k ≡ Some y = feature_at p c k ∙ ap (option_map (fold_feature p c)) there in
      let same : column ≡ feature_types q c y = each x there ∙ sym (feature_types_same p q (folded_shape p) c y) in
      let first = left_first (feature_types q c) fs k y folded in
      ap (λ (t : List Ty). (before ++ t ∷ []) ++ features_types q c (drop (k + 1) fs)) same
      ∙ one_later before (features_types q c (drop (k + 1) fs)) (features_types q c (drop k fs)) (feature_types q c y) first

  pub no_column_left : (found all : List (List Ty)) (k : ℕ) → length (features_of p c) ≤ k
      → found ++ features_types (fold_table p) c (drop k (features_of (fold_table p) c)) ≡ all → found ≡ all
  no_column_left found all k past is =
      let q = fold_table p in
      let fs = features_of q c in
      let same : length fs ≡ length (features_of p c) =
      ap length (features_folded p c) ∙ length-map (features_of p c) (fold_feature p c) in
      nothing_after found (features_types q c (drop k fs)) all is (ap (features_types q c) (drop_of_length-le fs (omega arith)))

-- no class is left
pub no_columns_left : (p : List Class) (found all : List (List (List Ty))) (k : ℕ) → length p ≤ k
    → found ++ classes_types (fold_table p) k (drop k (fold_table p)) ≡ all → found ≡ all
no_columns_left p found all k past is =
    let q = fold_table p in
    nothing_after found (classes_types q k (drop k q)) all is
    (ap (classes_types q k) (drop_of_length-le q (let same = (folded_shape p).count in omega arith)))
