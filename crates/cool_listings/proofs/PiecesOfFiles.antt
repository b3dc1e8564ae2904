-- A listing of several files is the listings of the single files, one after another.
use Rattle.std.proofs.Common.{◌≡◌, ◌∙◌, ℕ, ◌+◌, List, [], ◌∷◌, ◌++◌, ap, sym, refl, subst, append-nil, append_assoc}
use Rattle.cool_listings.specs.EachFile.{IsOfEach}

-- the text goes on with whatever is a text of the files that are left
abbrev pub GoesOn : (ℕ → List ℕ → List ℕ → Type 0) → List (List ℕ) → ℕ → List (List ℕ) → List ℕ → Type 0
GoesOn IsOf all i left text = (rest : List ℕ) → IsOfEach IsOf i left rest → IsOfEach IsOf 0 all (text ++ rest)

-- one piece more
pub piece_more : (IsOf : ℕ → List ℕ → List ℕ → Type 0) (all : List (List ℕ)) (i : ℕ) (here left : List (List ℕ)) (bytes piece old new : List ℕ)
    → here ≡ bytes ∷ left → new ≡ old ++ piece → IsOf i bytes piece → GoesOn IsOf all i here old → GoesOn IsOf all (i + 1) left new
piece_more IsOf all i here left bytes piece old new e is_new is h =
    λ rest more.
    let long : IsOfEach IsOf i (bytes ∷ left) (piece ++ rest) = (piece, rest, is, more, refl) in
    let before : IsOfEach IsOf i here (piece ++ rest) = subst (λ (l : List (List ℕ)). IsOfEach IsOf i l (piece ++ rest)) (sym e) long in
    subst (IsOfEach IsOf 0 all) (sym (ap (λ (l : List ℕ). l ++ rest) is_new ∙ append_assoc old piece rest)) (h (piece ++ rest) before)

-- no file is left
pub piece_end : (IsOf : ℕ → List ℕ → List ℕ → Type 0) (all : List (List ℕ)) (i : ℕ) (left : List (List ℕ)) (text : List ℕ) → left ≡ [] → GoesOn IsOf all i left text → IsOfEach IsOf 0 all text
piece_end IsOf all i left text e h =
    let last : IsOfEach IsOf i left [] = subst (λ (l : List (List ℕ)). IsOfEach IsOf i l []) (sym e) refl in
    subst (IsOfEach IsOf 0 all) (append-nil text) (h [] last)
