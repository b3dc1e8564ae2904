-- The types that an accepted program stores are one list for each class, and in it one list of node types for each feature, as `TypedProgram::types` requires.
use Rattle.std.proofs.Common.{◌≡◌, ℕ, zero, suc, ◌+◌, ◌<◌, List, [], ◌∷◌, length, get_or, Some, refl, ap, ◌∙◌, arith}
use Rattle.std.specs.Prelude.{slice_get}
use Rattle.std.specs.Global.{Vec}
use Rattle.cool_syntax.specs.declared.file_tree.Feature.{Feature}
use Rattle.cool_classes.specs.declared.class_id.ClassId.{ClassId}
use Rattle.cool_classes.specs.declared.class_id.Ty.{Ty}
use Rattle.cool_classes.specs.Chains.{Class, class_number, features_of, nothing}
use Rattle.cool_rules.specs.NodeTypes.{feature_types, features_types, classes_types, table_types, columns_of}

module _ (p : List Class) where
  length-held_from : (k : ℕ) (held : List (Vec (List Ty))) (xs : List Class) → columns_of held ≡ classes_types p k xs → length held ≡ length xs
  length-held_from k [] [] e = refl
  length-held_from k [] (x ∷ xs) e = absurd (cc)
  length-held_from k (v ∷ held) [] e = absurd (cc)
  length-held_from k (v ∷ held) (x ∷ xs) e = ap suc (length-held_from (suc k) held xs (cc))

  held_from : (k : ℕ) (held : List (Vec (List Ty))) (xs : List Class) → columns_of held ≡ classes_types p k xs → (i n : ℕ) → i < length xs → n ≡ k + i → (d : Vec (List Ty))
      → (get_or held i d).items ≡ features_types p (class_number n) (get_or xs i nothing).features
  held_from k [] [] e i n less at d = absurd (omega arith)
  held_from k [] (x ∷ xs) e i n less at d = absurd (cc)
  held_from k (v ∷ held) [] e i n less at d = absurd (cc)
  held_from k (v ∷ held) (x ∷ xs) e zero n less at d =
      let first : v.items ≡ features_types p (class_number k) x.features = cc in
      let same : k ≡ n = omega arith in
      first ∙ ap (λ (m : ℕ). features_types p (class_number m) x.features) same
  held_from k (v ∷ held) (x ∷ xs) e (suc i) n less at d = held_from (suc k) held xs (cc) i n (omega arith) (omega arith) d

  -- there are columns for each class, and those that stand at a class's number are its own, one for each feature
  pub length-held : (held : List (Vec (List Ty))) → columns_of held ≡ table_types p → length held ≡ length p
  length-held held e = length-held_from 0 held p e

  pub class_columns : (held : List (Vec (List Ty))) → columns_of held ≡ table_types p → (c : ClassId) → c.0 < length p → (v : Vec (List Ty)) → v ≡ get_or held c.0 v
      → v.items ≡ features_types p c (features_of p c)
  class_columns held e c within v at = ap (λ (u : Vec (List Ty)). u.items) at ∙ held_from 0 held p e c.0 c.0 within (omega arith) v

  pub length-features_types : (c : ClassId) (features : List Feature) → length (features_types p c features) ≡ length features
  length-features_types c [] = refl
  length-features_types c (x ∷ features) = ap suc (length-features_types c features)

  -- and that of a feature is its own
  pub column_at : (c : ClassId) (features : List Feature) (k : ℕ) (x : Feature) (d : List Ty) → slice_get features k ≡ Some x → get_or (features_types p c features) k d ≡ feature_types p c x
  column_at c [] k x d e = absurd (cc)
  column_at c (y ∷ features) zero x d e = let same : y ≡ x = cc in ap (feature_types p c) same
  column_at c (y ∷ features) (suc k) x d e = column_at c features k x d e
