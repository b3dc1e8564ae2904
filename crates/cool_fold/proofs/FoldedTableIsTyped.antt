-- If a class table has no type errors, the folded table has none, and nothing is left to fold in it.
use Rattle.std.proofs.Common.{◌≡◌, ℕ, List, [], ◌∷◌, ◌++◌, map, Option, Some, None, refl, sym, ap, ◌∙◌, subst}
use Rattle.std.specs.Prelude.{slice_get, option_map, unwrap_or, IfSome}
use Rattle.std.specs.List.{AllByRecursion}
use Rattle.std.proofs.lemmas.Option.{none-some}
use Rattle.cool_syntax.specs.Tree.{Tree}
use Rattle.cool_syntax.specs.declared.file_tree.Feature.{Feature}
use Rattle.cool_syntax.specs.declared.file_tree.Feature.TheVariants.{Method, Attribute}
use Rattle.cool_classes.specs.declared.class_id.ClassId.{ClassId}
use Rattle.cool_classes.specs.Chains.{Class, features_of}
use Rattle.cool_classes.proofs.AlikeTablesKept.{table_kept, grounded_kept, lawful_kept}
use Rattle.cool_rules.specs.Scopes.{Binding}
use Rattle.cool_rules.specs.TypedTables.{IsTypedTable}
use Rattle.cool_rules.specs.Typing.{IsTypedInit, IsTypedFeature, formals_in_scope}
use Rattle.cool_rules.specs.NodeTypes.{own_scope}
use Rattle.cool_fold.specs.Folding.{fold, fold_option, fold_feature, fold_table}
use Rattle.cool_fold.specs.Foldable.{IsDone}
use Rattle.cool_fold.specs.NothingLeft.{IsDoneFeature, IsDoneTable}
use Rattle.cool_fold.proofs.FoldedFeatures.{FoldsInit, FoldsFeature, feature_folds}
use Rattle.cool_fold.proofs.FoldedTables.{folded_alike, folded_shape, features_folded, feature_at}
use Rattle.cool_classes.proofs.AlikeTablesKept.{within_back}
use Rattle.cool_fold.proofs.SameShapes.{formal_scope_same, own_scope_same}
use Rattle.cool_fold.proofs.TypesOfShapes.{still_done}
use Rattle.cool_fold.proofs.TypingOfShapes.{declared_kept}

-- Features, folded

all_folded : (p : List Class) (c : ClassId) (P Q : Feature → Type 0) (fs : List Feature) → ((x : Feature) → P x → Q (fold_feature p c x))
    → AllByRecursion P fs → AllByRecursion Q (map (fold_feature p c) fs)
all_folded p c P Q [] step h = tt
all_folded p c P Q (x ∷ fs) step (h, hs) = (step x h, all_folded p c P Q fs step hs)

module _ (p : List Class) where
  -- a property of the features of a class, folded
  pub each_folded : (c : ClassId) (P Q : Feature → Type 0) → ((x : Feature) → P x → Q (fold_feature p c x)) → AllByRecursion P (features_of p c)
      → AllByRecursion Q (features_of (fold_table p) c)
  each_folded c P Q step h = subst (AllByRecursion Q) (sym (features_folded p c)) (all_folded p c P Q (features_of p c) step h)

  -- a property of each folded feature holds of each feature of the folded table
  of_folded : (c : ClassId) (k : ℕ) (P : Feature → Type 0) → ((y : Feature) → slice_get (features_of p c) k ≡ Some y → P (fold_feature p c y))
      → (x : Feature) → slice_get (features_of (fold_table p) c) k ≡ Some x → P x
  of_folded c k P known x there = by (slice_get (features_of p c) k) refl (sym (feature_at p c k) ∙ there)
    where
      by : (o : Option Feature) → slice_get (features_of p c) k ≡ o → option_map (fold_feature p c) o ≡ Some x → P x
      by None is e = absurd (none-some x e)
      by (Some y) is e = subst P (ap (λ (o : Option Feature). unwrap_or o x) e) (known y is)

module _ (p : List Class) (typed : IsTypedTable p) where
  feature_typed : (c : ClassId) (x : Feature) → FoldsFeature p c x → IsTypedFeature (fold_table p) c (fold_feature p c x)
  feature_typed c (Method m) h =
      let s = folded_shape p in
      let scope = formals_in_scope p m.formals ++ own_scope p c in
      let same = formal_scope_same p (fold_table p) s m.formals in
      declared_kept p (fold_table p) s c (formals_in_scope p m.formals) (formals_in_scope (fold_table p) m.formals)
      (fold p c scope m.body) m.result.name same h.fits
  feature_typed c (Attribute a) h = by a.init h
    where
      by : (o : Option Tree) → FoldsInit p c a.declared.name o → IsTypedInit (fold_table p) c a.declared.name (fold_option p c o)
      by None h = tt
      by (Some e) h = declared_kept p (fold_table p) (folded_shape p) c [] [] (fold p c (own_scope p c) e) a.declared.name refl h.fits

  -- the folded table is typed
  pub folded_typed : IsTypedTable (fold_table p)
  folded_typed =
      let alike = folded_alike p in
      let back = within_back p (fold_table p) (folded_shape p) in
      let w = typed.whole in
      record {
        whole = record {
          table = table_kept p (fold_table p) alike w.table;
          depth = w.depth;
          grounded = grounded_kept p (fold_table p) alike w.depth w.grounded;
        };
        lawful = lawful_kept p (fold_table p) alike typed.lawful;
        features =
            λ c k x within there. of_folded p c k (IsTypedFeature (fold_table p) c)
            (λ y is. feature_typed c y (feature_folds p typed c k y (back c within) is)) x there;
      }

  feature_done : (c : ClassId) (x : Feature) → FoldsFeature p c x → IsDoneFeature (fold_table p) c (fold_feature p c x)
  feature_done c (Method m) h =
      let s = folded_shape p in
      let scope = formals_in_scope p m.formals ++ own_scope p c in
      subst (λ (bs : List Binding). IsDone (fold_table p) c bs (fold p c scope m.body))
      (sym (λ i. formal_scope_same p (fold_table p) s m.formals i ++ own_scope_same p (fold_table p) s c i))
      (still_done p (fold_table p) s c (fold p c scope m.body) scope h.done)
  feature_done c (Attribute a) h = by a.init h
    where
      by : (o : Option Tree) → FoldsInit p c a.declared.name o → IfSome (fold_option p c o) (IsDone (fold_table p) c (own_scope (fold_table p) c))
      by None h = tt
      by (Some e) h =
          let s = folded_shape p in
          subst (λ (bs : List Binding). IsDone (fold_table p) c bs (fold p c (own_scope p c) e)) (sym (own_scope_same p (fold_table p) s c))
          (still_done p (fold_table p) s c (fold p c (own_scope p c) e) (own_scope p c) h.done)

  -- nothing is left to fold in the folded table
  pub nothing_left : IsDoneTable (fold_table p)
  nothing_left c k x within there =
      let inside = within_back p (fold_table p) (folded_shape p) c within in
      of_folded p c k (IsDoneFeature (fold_table p) c) (λ y is. feature_done c y (feature_folds p typed c k y inside is)) x there
