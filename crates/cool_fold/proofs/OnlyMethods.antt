-- If no proper subclass of a class defines a method of a name, all subclasses have the method that the class itself has.
use Rattle.std.proofs.Common.{◌≡◌, ◌⊎◌, inl, inr, ℕ, zero, suc, ◌+◌, ◌<◌, ◌≤◌, List, [], ◌∷◌, length, Option, Some, None, Bool as Truth, true, false, refl, sym, ap, ◌∙◌, subst, arith}
use Rattle.std.specs.Prelude.{Contains, is_some, ◌&&◌, ◌||◌}
use Rattle.std.specs.List.{list_any}
use Rattle.cool_classes.specs.declared.class_id.ClassId.{ClassId}
use Rattle.cool_classes.specs.declared.method.MethodRef.{MethodRef}
use Rattle.cool_classes.specs.Chains.{Class, class_number, parent_of, IsChain, Below}
use Rattle.cool_classes.specs.ClimbedChains.{above, chain}
use Rattle.cool_classes.specs.Features.{own_method, implementation, first_of}
use Rattle.cool_classes.specs.Tables.{IsWholeTable}
use Rattle.cool_classes.proofs.ChainsOfTables.{chain_is, above_of}
use Rattle.cool_classes.proofs.Climbs.{chain_unique}
use Rattle.cool_rules.specs.Rules.{is_among}
use Rattle.cool_rules.proofs.ChainsOfTables.{rest_chain, split_by, chain_within, nothing_in}
use Rattle.cool_rules.proofs.ClassesAmong.{there_among}
use Rattle.cool_fold.specs.Folding.{classes_from, defines_below, is_redefined}
use Rattle.lists.proofs.Membership.{contains_cases}
use Rattle.lists.proofs.Options.{none_is}

none_of : {A : Type 0} (f : A → Truth) (xs : List A) (x : A) → list_any f xs ≡ false → Contains xs x → f x ≡ false
none_of f [] x e (k, less, is) = absurd (omega arith)
none_of f (y ∷ xs) x e (zero, less, is) = by (f y) refl e
  where
    by : (t : Truth) → f y ≡ t → (t || list_any f xs) ≡ false → f x ≡ false
    by true h e = absurd cc
    by false h e = ap f (sym is) ∙ h
none_of f (y ∷ xs) x e (suc k, less, is) = by (f y) e (λ h. none_of f xs x h (k, omega arith, is))
  where
    by : (t : Truth) → (t || list_any f xs) ≡ false → (list_any f xs ≡ false → f x ≡ false) → f x ≡ false
    by true e more = absurd cc
    by false e more = more e

class_there : (k n : ℕ) (c : ClassId) → k ≤ c.0 → c.0 < k + n → Contains (classes_from k n) c
class_there k zero c low high = absurd (omega arith)
class_there k (suc n) c low high = by order (λ more. class_there (k + 1) n c (omega arith) (omega arith))
  where
    order : (c.0 ≡ k) ⊎ (k < c.0)
    order = grind arith

    next : Contains (classes_from (k + 1) n) c → Contains (classes_from k (suc n)) c
    next (i, less, is) = (suc i, omega arith, is)

    by : (c.0 ≡ k) ⊎ (k < c.0) → (k < c.0 → Contains (classes_from (k + 1) n) c) → Contains (classes_from k (suc n)) c
    by (inl e) more = let same : class_number k ≡ c = (λ i. record { 0 = sym e i }) in (0, omega arith, same)
    by (inr less) more = next (more less)

both_false : (a b : Truth) → a ≡ true → (a && b) ≡ false → b ≡ false
both_false a b e h = grind arith

module _ (p : List Class) (whole : IsWholeTable p) (k : ClassId) (within : k.0 < length p) (name : List ℕ) (free : is_redefined p k name ≡ false) where
  own_none : (d : ClassId) → d.0 < length p → Contains (above p d) k → own_method p d name ≡ None
  own_none d d_within there =
      none_is (own_method p d name) (both_false (is_among (above p d) k) (is_some (own_method p d name)) (there_among (above p d) k there)
      (none_of (defines_below p k name) (classes_from 0 (length p)) d free (class_there 0 (length p) d (omega arith) (omega arith))))

  on_chain : (o : Option ClassId) (ds : List ClassId) → IsChain p o ds → Contains ds k → ((d : ClassId) → Contains ds d → d.0 < length p) → implementation p ds name ≡ implementation p (chain p k) name
  on_chain o [] is there low = nothing_in k there
  on_chain o (d ∷ ds) is there low = by (contains_cases d k ds there) (λ t. on_chain (parent_of p d) ds (rest_chain p d ds o is) t (λ e h. low e (later e h)))
    where
      later : (e : ClassId) → Contains ds e → Contains (d ∷ ds) e
      later e (i, less, same) = (suc i, omega arith, same)

      by : (d ≡ k) ⊎ Contains ds k → (Contains ds k → implementation p ds name ≡ implementation p (chain p k) name) → implementation p (d ∷ ds) name ≡ implementation p (chain p k) name
      by (inl e) more = ap (λ (xs : List ClassId). implementation p xs name) (chain_unique p (Some k) (d ∷ ds) (chain p k) (split_by p d k ds o is e) (chain_is p k whole.table within))
      by (inr t) more =
          let same : above p d ≡ ds = above_of p d ds (rest_chain p d ds o is) in
          let none = own_none d (low d (0, omega arith, refl)) (subst (λ (xs : List ClassId). Contains xs k) (sym same) t) in
          ap (λ (x : Option MethodRef). first_of x (implementation p ds name)) none ∙ more t

  -- the method of a class below
  pub only_method : (j : ClassId) → j.0 < length p → Below p j k → implementation p (chain p j) name ≡ implementation p (chain p k) name
  only_method j j_within (ds, is, there) =
      ap (λ (xs : List ClassId). implementation p xs name) (chain_unique p (Some j) (chain p j) ds (chain_is p j whole.table j_within) is)
      ∙ on_chain (Some j) ds is there (λ d h. chain_within p whole j j_within ds is d h)
