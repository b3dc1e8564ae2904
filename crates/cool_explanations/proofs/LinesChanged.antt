-- The changes from some lines to others are the change of the first line, followed by the changes of the lines behind it with the next line numbers.
use Rattle.std.proofs.Common.{◌≡◌, ℕ, zero, suc, ◌+◌, List, [], ◌∷◌, ◌++◌, drop, map, Option, refl, ap, sym, ◌∙◌, append_assoc, arith}
use Rattle.std.specs.Prelude.{slice_get}
use Rattle.std.proofs.lemmas.List.{drop-drop, map-append}
use Rattle.cool_explanations.specs.Changes.{Change, change_at, change_text, changes}

-- the change of the first lines, and those of the others
changes_first : (n : ℕ) (olds news : List (List ℕ)) → changes n olds news ≡ change_at n (slice_get olds 0) (slice_get news 0) ++ changes (suc n) (drop 1 olds) (drop 1 news)
changes_first n [] [] = refl
changes_first n [] (new ∷ news) = refl
changes_first n (old ∷ olds) [] = refl
changes_first n (old ∷ olds) (new ∷ news) = refl

at_front : {X : Type 0} (xs : List X) (i : ℕ) → slice_get (drop i xs) 0 ≡ slice_get xs i
at_front xs zero = refl
at_front [] (suc i) = refl
at_front (x ∷ xs) (suc i) = at_front xs i

changes_at : (n i : ℕ) (olds news : List (List ℕ))
    → changes n (drop i olds) (drop i news) ≡ change_at n (slice_get olds i) (slice_get news i) ++ changes (suc n) (drop (i + 1) olds) (drop (i + 1) news)
changes_at n i olds news =
    changes_first n (drop i olds) (drop i news)
    ∙ ap (λ (o : Option (List ℕ)). change_at n o (slice_get (drop i news) 0) ++ changes (suc n) (drop 1 (drop i olds)) (drop 1 (drop i news))) (at_front olds i)
    ∙ ap (λ (o : Option (List ℕ)). change_at n (slice_get olds i) o ++ changes (suc n) (drop 1 (drop i olds)) (drop 1 (drop i news))) (at_front news i)
    ∙ ap (λ (l : List (List ℕ)). change_at n (slice_get olds i) (slice_get news i) ++ changes (suc n) l (drop 1 (drop i news))) (drop-drop 1 i olds)
    ∙ ap (λ (l : List (List ℕ)). change_at n (slice_get olds i) (slice_get news i) ++ changes (suc n) (drop (i + 1) olds) l) (drop-drop 1 i news)

-- one more line has been passed
pub change_passed : (first i : ℕ) (olds news so_far next due : List (List ℕ)) (old new : Option (List ℕ)) → old ≡ slice_get olds i → new ≡ slice_get news i
    → so_far ++ map change_text (changes (first + i) (drop i olds) (drop i news)) ≡ due → next ≡ so_far ++ map change_text (change_at (first + i) old new)
    → next ++ map change_text (changes (first + (i + 1)) (drop (i + 1) olds) (drop (i + 1) news)) ≡ due
change_passed first i olds news so_far next due old new is_old is_new all added =
    let here : next ≡ so_far ++ map change_text (change_at (first + i) (slice_get olds i) (slice_get news i)) =
    added ∙ ap (λ (o : Option (List ℕ)). so_far ++ map change_text (change_at (first + i) o new)) is_old
    ∙ ap (λ (o : Option (List ℕ)). so_far ++ map change_text (change_at (first + i) (slice_get olds i) o)) is_new in
    let rest = changes (suc (first + i)) (drop (i + 1) olds) (drop (i + 1) news) in
    let number : first + (i + 1) ≡ suc (first + i) = omega arith in
    ap (λ (n : ℕ). next ++ map change_text (changes n (drop (i + 1) olds) (drop (i + 1) news))) number
    ∙ ap (λ (l : List (List ℕ)). l ++ map change_text rest) here
    ∙ append_assoc so_far (map change_text (change_at (first + i) (slice_get olds i) (slice_get news i))) (map change_text rest)
    ∙ ap (λ (l : List (List ℕ)). so_far ++ l) (sym (map-append change_text (change_at (first + i) (slice_get olds i) (slice_get news i)) rest))
    ∙ ap (λ (l : List Change). so_far ++ map change_text l) (sym (changes_at (first + i) i olds news))
    ∙ all
