-- Wherever some lines and others differ, or only one of both is there, the changes from the former to the latter have the change of that line.
use Rattle.std.proofs.Common.{◌≡◌, ◌≢◌, ℕ, zero, suc, ◌+◌, List, [], ◌∷◌, ◌++◌, Bool, true, false, Contains, refl, ap, subst, arith}
use Rattle.std.specs.Prelude.{bytes_eq, if◌then◌else◌, Option, Some, None, slice_get}
use Rattle.std.proofs.lemmas.List.Elements.{Contains-append_right}
use Rattle.lists.proofs.EqualBytes.{bytes_equal}
use Rattle.lists.proofs.Membership.{first_there}
use Rattle.cool_explanations.specs.Changes.Change.{comes, goes, becomes}
use Rattle.cool_explanations.specs.Changes.{Change, change_at, changes}
use Rattle.cool_explanations.specs.ChangedLines.{HasChange}

-- the change of the first lines, if they differ
change_here : (n : ℕ) (old new : Option (List ℕ)) (rest : List Change) → old ≢ new → HasChange (change_at n old new ++ rest) n old new
change_here n None None rest differ = differ refl
change_here n None (Some new) rest differ = first_there (comes n new) rest
change_here n (Some old) None rest differ = first_there (goes n old) rest
change_here n (Some old) (Some new) rest differ = by (bytes_eq old new) refl where
  by : (t : Bool) → bytes_eq old new ≡ t → Contains ((if t then [] else becomes n old new ∷ []) ++ rest) (becomes n old new)
  by true same = absurd (differ (ap Some (bytes_equal old new same)))
  by false other = first_there (becomes n old new) rest

-- a change that stands behind others
change_behind : (front rest : List Change) (n : ℕ) (old new : Option (List ℕ)) → HasChange rest n old new → HasChange (front ++ rest) n old new
change_behind front rest n None None has = has
change_behind front rest n None (Some new) has = Contains-append_right front rest (comes n new) has
change_behind front rest n (Some old) None has = Contains-append_right front rest (goes n old) has
change_behind front rest n (Some old) (Some new) has = Contains-append_right front rest (becomes n old new) has

-- the change at the first position
at_first : (n : ℕ) (old new : Option (List ℕ)) (rest : List Change) → old ≢ new → HasChange (change_at n old new ++ rest) (n + 0) old new
at_first n old new rest differ =
    let number : n ≡ n + 0 = omega arith in
    subst (λ (m : ℕ). HasChange (change_at n old new ++ rest) m old new) number (change_here n old new rest differ)

-- the change at a later position, which is one of the lines behind the first ones
at_later : (n i : ℕ) (front : List Change) (olds news : List (List ℕ)) → HasChange (changes (suc n) olds news) (suc n + i) (slice_get olds i) (slice_get news i)
    → HasChange (front ++ changes (suc n) olds news) (n + suc i) (slice_get olds i) (slice_get news i)
at_later n i front olds news has =
    let rest = changes (suc n) olds news in
    let number : suc n + i ≡ n + suc i = omega arith in
    subst (λ (m : ℕ). HasChange (front ++ rest) m (slice_get olds i) (slice_get news i)) number
    (change_behind front rest (suc n + i) (slice_get olds i) (slice_get news i) has)

-- so at each position
pub has_all_changes : (n : ℕ) (olds news : List (List ℕ)) (i : ℕ) → slice_get olds i ≢ slice_get news i
    → HasChange (changes n olds news) (n + i) (slice_get olds i) (slice_get news i)
has_all_changes n [] [] i differ = differ refl
has_all_changes n [] (new ∷ news) zero differ = at_first n None (Some new) (changes (suc n) [] news) differ
has_all_changes n [] (new ∷ news) (suc i) differ = at_later n i (change_at n None (Some new)) [] news (has_all_changes (suc n) [] news i differ)
has_all_changes n (old ∷ olds) [] zero differ = at_first n (Some old) None (changes (suc n) olds []) differ
has_all_changes n (old ∷ olds) [] (suc i) differ = at_later n i (change_at n (Some old) None) olds [] (has_all_changes (suc n) olds [] i differ)
has_all_changes n (old ∷ olds) (new ∷ news) zero differ = at_first n (Some old) (Some new) (changes (suc n) olds news) differ
has_all_changes n (old ∷ olds) (new ∷ news) (suc i) differ =
    at_later n i (change_at n (Some old) (Some new)) olds news (has_all_changes (suc n) olds news i differ)
