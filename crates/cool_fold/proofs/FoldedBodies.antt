-- Lemmas for `fold_body`: the nodes that `fold` appends for the expression of a feature are those of the folded feature, with their types.
use Rattle.std.proofs.Common.{◌≡◌, ◌++◌, ℕ, ◌<◌, ◌≤◌, List, [], length, Option, Some, Ok, ap, sym, ◌∙◌, subst, arith}
use Rattle.std.specs.Prelude.{slice_get, unwrap_or}
use Rattle.std.specs.List.{AllByRecursion}
use Rattle.cool_syntax.specs.declared.TheConstants.{MOST_TOKENS}
use Rattle.cool_syntax.specs.declared.node.NodeId.{NodeId}
use Rattle.cool_syntax.specs.FeatureSizes.{value_size, IsBoundedFeature}
use Rattle.cool_syntax.specs.NodeLists.{nodes, root, tree_at}
use Rattle.cool_syntax.specs.declared.file_tree.Feature.{Feature}
use Rattle.cool_syntax.specs.declared.file_tree.Feature.TheVariants.{Attribute, Method}
use Rattle.cool_syntax.specs.Tree.{Tree, tree_size}
use Rattle.cool_classes.specs.declared.class_id.ClassId.{ClassId}
use Rattle.cool_classes.specs.Bodies.{body_at, body_in}
use Rattle.cool_classes.specs.Chains.{Class, features_of}
use Rattle.cool_classes.specs.Tables.{IsWholeTable}
use Rattle.cool_rules.specs.Conformance.{IsType}
use Rattle.cool_rules.specs.Fits.{Fits}
use Rattle.cool_rules.specs.NodeTypes.{node_types, own_scope, initial_types, feature_types}
use Rattle.cool_rules.specs.TypedParts.{IsPart}
use Rattle.cool_rules.specs.TypedTables.{IsTypedTable}
use Rattle.cool_rules.specs.Typing.{formals_in_scope}
use Rattle.cool_rules.proofs.LengthsOfTypes.{length-node_types}
use Rattle.cool_rules.proofs.PartsStand.{whole_is_part}
use Rattle.cool_rules.proofs.TypesAreTypes.{formals_are_types, types_are_types}
use Rattle.cool_fold.specs.declared.place.Found.{Found}
use Rattle.cool_fold.specs.declared.place.Placed.{Placed}
use Rattle.cool_fold.specs.declared.folding_setting.FoldingSetting.{FoldingSetting}
use Rattle.cool_fold.specs.Definers.{AreDefiners}
use Rattle.cool_rules.specs.NodeScopes.{expression_of, feature_scope}
use Rattle.cool_rules.specs.Scopes.{AreTypes}
use Rattle.cool_fold.specs.FoldedNodes.{FoldsPart}
use Rattle.cool_fold.specs.Folding.{fold_feature, fold_option}
use Rattle.cool_fold.specs.FoldingSettings.{typed_body, IsSound}
use Rattle.cool_fold.specs.Shrinking.{shrunk}
use Rattle.cool_fold.proofs.FoldedFeatures.{FoldsInit, feature_folds}
use Rattle.cool_fold.proofs.TypesInScope.{own_typed, scope_typed}
use Rattle.lists.proofs.AllItems.{all_get}

-- the expression of a feature, in its scope: the types of its nodes, what it is folded to, and the types of the nodes of that
pub record FoldsBody (p : List Class) (c : ClassId) (x : Feature) (e : Tree) : Type 0 where
  pub types : AreTypes p (feature_scope p c x)
  pub column : feature_types p c x ≡ node_types p c (feature_scope p c x) e
  pub body : Some (shrunk p c (feature_scope p c x) e) ≡ expression_of (fold_feature p c x)
  pub folded : node_types p c (feature_scope p c x) (shrunk p c (feature_scope p c x) e) ≡ feature_types p c (fold_feature p c x)

module _ (p : List Class) (typed : IsTypedTable p) (c : ClassId) (within : c.0 < length p) (k : ℕ) where
  pub body_folds : (x : Feature) (e : Tree) → slice_get (features_of p c) k ≡ Some x → body_in (Some x) ≡ Some e → FoldsBody p c x e
  body_folds (Method m) e there is =
      let folds = feature_folds p typed c k (Method m) within there in
      let scope = formals_in_scope p m.formals ++ own_scope p c in
      let same : e ≡ m.body = ap (λ (o : Option Tree). unwrap_or o e) (sym is) in
      record {
        types = scope_typed p typed.whole c (formals_in_scope p m.formals) (formals_are_types p typed.whole m.formals);
        column = ap (node_types p c scope) (sym same);
        body = ap (λ (t : Tree). Some (shrunk p c scope t)) same ∙ ap Some folds.same;
        folded = ap (λ (t : Tree). node_types p c scope (shrunk p c scope t)) same ∙ ap (node_types p c scope) folds.same;
      }
  body_folds (Attribute a) e there is =
      let given = feature_folds p typed c k (Attribute a) within there in
      let folds : FoldsInit p c a.declared.name (Some e) = subst (FoldsInit p c a.declared.name) is given in
      record {
        types = own_typed p typed.whole c;
        column = ap (initial_types p c) is;
        body = ap Some folds.same ∙ ap (λ (o : Option Tree). fold_option p c o) (sym is);
        folded = ap (node_types p c (own_scope p c)) folds.same ∙ ap (λ (o : Option Tree). initial_types p c (fold_option p c o)) (sym is);
      }

-- the expression that was read from the table
pub body_there : (p q : List Class) (c : ClassId) (k : ℕ) (x : Feature) (o : Option Tree) (e : Tree) → q ≡ p → slice_get (features_of p c) k ≡ Some x
    → o ≡ body_at q c k → o ≡ Some e → body_in (Some x) ≡ Some e
body_there p q c k x o e same there read is = sym (ap body_in there) ∙ ap (λ (r : List Class). body_at r c k) (sym same) ∙ sym read ∙ is

-- an expression has few nodes
pub few_nodes : (p : List Class) (count : ℕ) → Fits p count → (c : ClassId) → c.0 < length p → (k : ℕ) (x : Feature) (e : Tree)
    → slice_get (features_of p c) k ≡ Some x → body_in (Some x) ≡ Some e → tree_size e < 4294967295
few_nodes p count fits c within k x e there is = by x (all_get IsBoundedFeature (features_of p c) k x (fits.bounded c within) there) is
  where
    by : (y : Feature) → IsBoundedFeature y → body_in (Some y) ≡ Some e → tree_size e < 4294967295
    by (Method m) bounded is = omega (arith, bounded, ap (λ (o : Option Tree). tree_size (unwrap_or o e)) is)
    by (Attribute a) bounded is = let few = subst (λ (o : Option Tree). value_size o ≤ MOST_TOKENS) is bounded in omega (arith, few)

-- the setting in which the expression of a feature is folded
module _ (s : FoldingSetting) (p : List Class) (same : s.table.now ≡ p) (x : Feature) (folds : FoldsBody p s.class x s.body.now)
    (column : s.types.now ≡ feature_types p s.class x) where
  its_types : s.types.now ≡ node_types p s.class (feature_scope p s.class x) s.body.now
  its_types = column ∙ folds.column

  pub body_sound : IsTypedTable p → AreDefiners p s.definers.now → s.class.0 < length p → IsSound s
  body_sound typed definers within = record {
    table = subst IsWholeTable (sym same) typed.whole;
    definers = subst (λ (q : List Class). AreDefiners q s.definers.now) (sym same) definers;
    class = subst (λ (q : List Class). s.class.0 < length q) (sym same) within;
    types = subst (λ (q : List Class). AllByRecursion (IsType q) s.types.now) (sym same)
        (subst (AllByRecursion (IsType p)) (sym its_types)
        (types_are_types p typed.whole s.class within s.body.now (feature_scope p s.class x) folds.types));
    each = ap length its_types ∙ length-node_types p s.class (feature_scope p s.class x) s.body.now;
  }

  -- the whole stands there, and what is placed of it is the folded whole
  whole_part : IsPart (typed_body s) (feature_scope p s.class x) (root 0 s.body.now)
  whole_part = whole_is_part (typed_body s) (feature_scope p s.class x)
      (its_types ∙ ap (λ (q : List Class). node_types q s.class (feature_scope p s.class x) s.body.now) (sym same))

  pub whole_folded : {E : Type 0} (id : NodeId) (before after : Placed) (f : Found) → id ≡ root 0 s.body.now → tree_at s.body.now id ≡ s.body.now
      → before.nodes.items ≡ [] → before.types.held ≡ [] → FoldsPart {E = E} s id before after (Ok f)
      → (after.nodes.items ≡ nodes 0 (shrunk p s.class (feature_scope p s.class x) s.body.now)) × (after.types.held ≡ feature_types p s.class (fold_feature p s.class x))
  whole_folded id before after f last tree none no_types part =
      let scope = feature_scope p s.class x in
      let types : AreTypes s.table.now scope = subst (λ (q : List Class). AreTypes q scope) (sym same) folds.types in
      let h = part scope types (subst (IsPart (typed_body s) scope) (sym last) whole_part) in (
        h.placed ∙ (λ i. none i ++ nodes (length (none i)) (shrunk (same i) s.class scope (tree i))),
        h.typed (ap length no_types ∙ sym (ap length none))
            ∙ (λ i. no_types i ++ node_types (same i) s.class scope (shrunk (same i) s.class scope (tree i))) ∙ folds.folded,
      )
