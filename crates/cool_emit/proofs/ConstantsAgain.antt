-- Adding constants again to a list that already has them does not change the list.
use Rattle.std.proofs.Common.{◌≡◌, ◌∙◌, ℕ, List, [], ◌∷◌, ◌++◌, Bool, true, false, ap, refl, sym, subst, append_assoc, append-nil}
use Rattle.std.specs.Prelude.{nat_eq, bytes_eq, ◌||◌, if◌then◌else◌}
use Rattle.std.specs.List.{AllByRecursion, list_any}
use Rattle.std.proofs.lemmas.List.Folds.{list_any-append}
use Rattle.cool_codegen.specs.Asked.{with_integers, with_strings}
use Rattle.lists.proofs.EqualBytes.{bytes_eq-same}
use Rattle.lists.proofs.Numbers.{nat_eq-same}

module _ (X : Type 0) (same : X → X → Bool) (itself : (x : X) → same x x ≡ true) where
  -- a list with one more item, unless it has that, and with several
  abbrev one_more : List X → X → List X
  one_more xs x = if list_any (same x) xs then xs else xs ++ x ∷ []

  abbrev more : List X → List X → List X
  more xs [] = xs
  more xs (y ∷ ys) = more (one_more xs y) ys

  abbrev Has : List X → X → Type 0
  Has xs x = list_any (same x) xs ≡ true

  -- an item of a list is also in the list with others appended
  has_front : (xs rest : List X) (x : X) → Has xs x → Has (xs ++ rest) x
  has_front xs rest x h = list_any-append (same x) xs rest ∙ ap (λ b. b || list_any (same x) rest) h

  all_front : (xs rest ys : List X) → AllByRecursion (Has xs) ys → AllByRecursion (Has (xs ++ rest)) ys
  all_front xs rest [] h = tt
  all_front xs rest (y ∷ ys) h = (has_front xs rest y h.0, all_front xs rest ys h.1)

  has_one : (b : Bool) (xs : List X) (x : X) → list_any (same x) xs ≡ b → Has (if b then xs else xs ++ x ∷ []) x
  has_one true xs x e = e
  has_one false xs x e = list_any-append (same x) xs (x ∷ []) ∙ (λ i. e i || (itself x i || false))

  grows_one : (b : Bool) (xs : List X) (x : X) → (rest : List X) × ((if b then xs else xs ++ x ∷ []) ≡ xs ++ rest)
  grows_one true xs x = ([], sym (append-nil xs))
  grows_one false xs x = (x ∷ [], refl)

  grows : (xs ys : List X) → (rest : List X) × (more xs ys ≡ xs ++ rest)
  grows xs [] = ([], sym (append-nil xs))
  grows xs (y ∷ ys) =
      let one = grows_one (list_any (same y) xs) xs y in
      let others = grows (one_more xs y) ys in
      (one.0 ++ others.0, others.1 ∙ ap (λ zs. zs ++ others.0) one.1 ∙ append_assoc xs one.0 others.0)

  -- then it has all that were asked for
  all_had : (xs ys : List X) → AllByRecursion (Has (more xs ys)) ys
  all_had xs [] = tt
  all_had xs (y ∷ ys) =
      let others = grows (one_more xs y) ys in (
        subst (λ zs. Has zs y) (sym others.1) (has_front (one_more xs y) others.0 y (has_one (list_any (same y) xs) xs y refl)),
        all_had (one_more xs y) ys,
      )

  -- adding items that the list has changes nothing
  no_more : (xs ys : List X) → AllByRecursion (Has xs) ys → more xs ys ≡ xs
  no_more xs [] h = refl
  no_more xs (y ∷ ys) h = ap (λ b. more (if b then xs else xs ++ y ∷ []) ys) h.0 ∙ no_more xs ys h.1

  more_both : (xs ys zs : List X) → more xs (ys ++ zs) ≡ more (more xs ys) zs
  more_both xs [] zs = refl
  more_both xs (y ∷ ys) zs = more_both (one_more xs y) ys zs

  again : (xs front ys behind : List X) → more (more xs (front ++ (ys ++ behind))) ys ≡ more xs (front ++ (ys ++ behind))
  again xs front ys behind =
      let start = more xs front in
      let others = grows (more start ys) behind in
      let split : more xs (front ++ (ys ++ behind)) ≡ more start ys ++ others.0 =
      more_both xs front (ys ++ behind) ∙ (more_both start ys behind ∙ others.1) in
      no_more (more xs (front ++ (ys ++ behind))) ys
      (subst (λ zs. AllByRecursion (Has zs) ys) (sym split) (all_front (more start ys) others.0 ys (all_had start ys)))

-- integers, and strings

as_integers : (xs ns : List ℕ) → with_integers xs ns ≡ more ℕ nat_eq nat_eq-same xs ns
as_integers xs [] = refl
as_integers xs (n ∷ ns) = as_integers (one_more ℕ nat_eq nat_eq-same xs n) ns

as_strings : (xs bs : List (List ℕ)) → with_strings xs bs ≡ more (List ℕ) bytes_eq bytes_eq-same xs bs
as_strings xs [] = refl
as_strings xs (b ∷ bs) = as_strings (one_more (List ℕ) bytes_eq bytes_eq-same xs b) bs

pub integers_again : (xs front ns behind : List ℕ) → with_integers (with_integers xs (front ++ (ns ++ behind))) ns ≡ with_integers xs (front ++ (ns ++ behind))
integers_again xs front ns behind =
    let all = front ++ (ns ++ behind) in
    as_integers (with_integers xs all) ns
    ∙ (ap (λ zs. more ℕ nat_eq nat_eq-same zs ns) (as_integers xs all)
    ∙ (again ℕ nat_eq nat_eq-same xs front ns behind ∙ sym (as_integers xs all)))

pub strings_again : (xs front bs behind : List (List ℕ)) → with_strings (with_strings xs (front ++ (bs ++ behind))) bs ≡ with_strings xs (front ++ (bs ++ behind))
strings_again xs front bs behind =
    let all = front ++ (bs ++ behind) in
    as_strings (with_strings xs all) bs
    ∙ (ap (λ zs. more (List ℕ) bytes_eq bytes_eq-same zs bs) (as_strings xs all)
    ∙ (again (List ℕ) bytes_eq bytes_eq-same xs front bs behind ∙ sym (as_strings xs all)))
