-- Each list of compile-time errors has a sorted permutation, by source location and by the rank of the kind of error.
use Rattle.std.proofs.Common.{◌⊎◌, inl, inr, ℕ, List, [], ◌∷◌, arith}
use Rattle.std.specs.List.Sorted.{IsPermutation}
use Rattle.std.proofs.lemmas.Bool.{cases_order}
use Rattle.std.proofs.lemmas.List.Sorted.{IsPermutation-cons, IsPermutation-insert, IsPermutation-refl, IsPermutation-trans}
use Rattle.cool_syntax.specs.FaultOrder.{IsLessOr, IsNoLater, Standing, AreInOrder}
use Rattle.lists.proofs.Numbers.{le_or_ge}

-- one of two standings is no later than the other
less_or : (m n : ℕ) (P Q : Type 0) → P ⊎ Q → IsLessOr m n P ⊎ IsLessOr n m Q
less_or m n P Q follows =
    elim (cases_order m n) [
      | inl same ↦ elim follows [ inl p ↦ inl (inr (same, p)) | inr q ↦ inr (inr ((let e = same in omega arith), q)) ]
      | inr other ↦ elim other [ inl less ↦ inl (inl less) | inr more ↦ inr (inl more) ]
    ]

one_no_later : (a b : Standing) → IsNoLater a b ⊎ IsNoLater b a
one_no_later a b =
    less_or a.at.file b.at.file _ _ (less_or a.at.byte b.at.byte _ _ (less_or a.rank b.rank _ _ (le_or_ge a.at.line b.at.line)))

module _ {X : Type 0} (standing : X → Standing) where
  -- a list in order with one item more
  record Inserted (first x : X) (xs : List X) : Type 0 where
    pub all : List X
    pub order : AreInOrder standing (first ∷ all)
    pub moved : IsPermutation (x ∷ xs) all

  flipped : (x y : X) (xs : List X) → IsPermutation (x ∷ y ∷ xs) (y ∷ x ∷ xs)
  flipped x y xs = IsPermutation-insert (y ∷ xs) 1 x

  insert : (first x : X) (xs : List X) → IsNoLater (standing first) (standing x) → AreInOrder standing (first ∷ xs) → Inserted first x xs
  insert first x [] here order = record { all = x ∷ []; order = (here, tt); moved = IsPermutation-refl (x ∷ []) }
  insert first x (y ∷ xs) here order = by (one_no_later (standing x) (standing y)) (insert y x xs)
    where
      by : IsNoLater (standing x) (standing y) ⊎ IsNoLater (standing y) (standing x) → (IsNoLater (standing y) (standing x) → AreInOrder standing (y ∷ xs) → Inserted y x xs) → Inserted first x (y ∷ xs)
      by (inl before) further = record { all = x ∷ y ∷ xs; order = (here, (before, order.1)); moved = IsPermutation-refl (x ∷ y ∷ xs) }
      by (inr after) further =
          let more = further after order.1 in
          record {
            all = y ∷ more.all;
            order = (order.0, more.order);
            moved = IsPermutation-trans (x ∷ y ∷ xs) (y ∷ x ∷ xs) (y ∷ more.all) (flipped x y xs) (IsPermutation-cons y (x ∷ xs) more.all more.moved);
          }

  -- a list in order
  pub record Ordered (xs : List X) : Type 0 where
    pub all : List X
    pub order : AreInOrder standing all
    pub moved : IsPermutation xs all

  add : (x : X) (xs all : List X) → IsPermutation xs all → AreInOrder standing all → Ordered (x ∷ xs)
  add x xs [] moved order = record { all = x ∷ []; order = tt; moved = IsPermutation-cons x xs [] moved }
  add x xs (y ∷ ys) moved order = by (one_no_later (standing x) (standing y))
    where
      by : IsNoLater (standing x) (standing y) ⊎ IsNoLater (standing y) (standing x) → Ordered (x ∷ xs)
      by (inl before) = record { all = x ∷ y ∷ ys; order = (before, order); moved = IsPermutation-cons x xs (y ∷ ys) moved }
      by (inr after) =
          let more = insert y x ys after order in
          record {
            all = y ∷ more.all;
            order = more.order;
            moved = IsPermutation-trans (x ∷ xs) (x ∷ y ∷ ys) (y ∷ more.all) (IsPermutation-cons x xs (y ∷ ys) moved)
                (IsPermutation-trans (x ∷ y ∷ ys) (y ∷ x ∷ ys) (y ∷ more.all) (flipped x y ys) (IsPermutation-cons y (x ∷ ys) more.all more.moved));
          }

  pub ordered : (xs : List X) → Ordered xs
  ordered [] = record { all = []; order = tt; moved = IsPermutation-refl [] }
  ordered (x ∷ xs) = let rest = ordered xs in add x xs rest.all rest.moved rest.order
