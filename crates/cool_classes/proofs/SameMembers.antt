-- Two lists that have the same numbers, each number once, are permutations of each other.
use Rattle.std.proofs.Common.{◌≡◌, ◌≢◌, ◌⊎◌, inl, inr, ℕ, List, [], ◌∷◌, ◌++◌, Contains, sym, ap, ◌∙◌, refl, subst}
use Rattle.std.specs.List.Sorted.{IsPermutation}
use Rattle.std.proofs.lemmas.List.Sorted.{IsPermutation-refl, IsPermutation-sym, IsPermutation-trans, IsPermutation-cons, IsPermutation-middle}
use Rattle.cool_classes.specs.Cycles.{AreApart}
use Rattle.cool_classes.proofs.CyclesCaught.{all_from, one_of, nothing_in}
use Rattle.cool_classes.proofs.PassingDefinitions.{contains_first, contains_rest}
use Rattle.std.proofs.lemmas.List.Elements.{Contains-append_left, Contains-append_right, Contains-append_cases}
use Rattle.lists.proofs.Membership.{contains_cases}

-- a list around one of its numbers
split_at : (xs : List ℕ) (k : ℕ) → Contains xs k → (before : List ℕ) × (after : List ℕ) × (xs ≡ before ++ k ∷ after)
split_at [] k there = nothing_in k there
split_at (x ∷ xs) k there =
    elim (contains_cases x k xs there) [
      | inl e ↦ ([], xs, ap (λ (y : ℕ). y ∷ xs) e)
      | inr rest ↦ let w = split_at xs k rest in (x ∷ w.0, w.1, ap (λ (ys : List ℕ). x ∷ ys) w.2)
    ]

-- without that number
around : (before after : List ℕ) (x k : ℕ) → Contains (before ++ x ∷ after) k → (k ≡ x) ⊎ Contains (before ++ after) k
around before after x k there =
    elim (Contains-append_cases before (x ∷ after) k there) [
      | inl left ↦ inr (Contains-append_left before after k left)
      | inr right ↦ elim (contains_cases x k after right) [ inl e ↦ inl (sym e) | inr rest ↦ inr (Contains-append_right before after k rest) ]
    ]

within_around : (before after : List ℕ) (x k : ℕ) → Contains (before ++ after) k → Contains (before ++ x ∷ after) k
within_around before after x k there =
    elim (Contains-append_cases before after k there) [
      | inl left ↦ Contains-append_left before (x ∷ after) k left
      | inr right ↦ Contains-append_right before (x ∷ after) k (contains_rest x k after right)
    ]

apart_around : (before after : List ℕ) (x : ℕ) → AreApart (before ++ x ∷ after) → AreApart (before ++ after) × ((k : ℕ) → Contains (before ++ after) k → k ≢ x)
apart_around [] after x a = (a.1, λ k there. one_of (λ (y : ℕ). y ≢ x) after k a.0 there)
apart_around (b ∷ before) after x a =
    let rest = apart_around before after x a.1 in
    let other = λ (k : ℕ) (there : Contains (before ++ after) k). one_of (λ (y : ℕ). y ≢ b) (before ++ x ∷ after) k a.0 (within_around before after x k there) in
    let here : x ≢ b = one_of (λ (y : ℕ). y ≢ b) (before ++ x ∷ after) x a.0 (Contains-append_right before (x ∷ after) x (contains_first x x after refl)) in (
      (all_from (λ (y : ℕ). y ≢ b) (before ++ after) other, rest.0),
      λ k there e. elim (contains_cases b k (before ++ after) there) [ inl same ↦ here (sym (same ∙ e)) | inr later ↦ rest.1 k later e ],
    )

pub same_members : (xs ys : List ℕ) → AreApart xs → AreApart ys → ((k : ℕ) → Contains xs k → Contains ys k) → ((k : ℕ) → Contains ys k → Contains xs k) → IsPermutation xs ys
same_members [] [] a b there back = IsPermutation-refl []
same_members [] (y ∷ ys) a b there back = nothing_in y (back y (contains_first y y ys refl))
same_members (x ∷ xs) ys a b there back =
    let w = split_at ys x (there x (contains_first x x xs refl)) in
    let joined = w.0 ++ w.1 in
    let parts = apart_around w.0 w.1 x (subst AreApart w.2 b) in
    let rest = same_members xs joined a.1 parts.0
    (λ k in_xs.
    elim (around w.0 w.1 x k (subst (λ (zs : List ℕ). Contains zs k) w.2 (there k (contains_rest x k xs in_xs)))) [
      | inl same ↦ absurd (one_of (λ (y : ℕ). y ≢ x) xs k a.0 in_xs same)
      | inr here ↦ here
    ])
    (λ k in_joined.
    elim (contains_cases x k xs (back k (subst (λ (zs : List ℕ). Contains zs k) (sym w.2) (within_around w.0 w.1 x k in_joined)))) [
      | inl same ↦ absurd (parts.1 k in_joined (sym same))
      | inr later ↦ later
    ]) in
    IsPermutation-trans (x ∷ xs) (x ∷ joined) ys (IsPermutation-cons x xs joined rest)
    (subst (IsPermutation (x ∷ joined)) (sym w.2) (IsPermutation-sym (w.0 ++ x ∷ w.1) (x ∷ joined) (IsPermutation-middle w.0 x w.1)))
