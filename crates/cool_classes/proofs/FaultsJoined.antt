-- Appending four lists of faults (compile-time errors) one after the other gives the same list as appending their concatenation.
use Rattle.std.proofs.Common.{◌≡◌, List, ◌++◌, ap, ◌∙◌, append_assoc}

-- four parts
pub joined : {X : Type 0} (old a b c d n1 n2 n3 n4 : List X) → n1 ≡ old ++ a → n2 ≡ n1 ++ b → n3 ≡ n2 ++ c → n4 ≡ n3 ++ d → n4 ≡ old ++ (a ++ (b ++ (c ++ d)))
joined {X} old a b c d n1 n2 n3 n4 e1 e2 e3 e4 =
    let two : n2 ≡ (old ++ a) ++ b = e2 ∙ ap (λ (xs : List X). xs ++ b) e1 in
    let three : n3 ≡ ((old ++ a) ++ b) ++ c = e3 ∙ ap (λ (xs : List X). xs ++ c) two in
    let four : n4 ≡ (((old ++ a) ++ b) ++ c) ++ d = e4 ∙ ap (λ (xs : List X). xs ++ d) three in
    four ∙ regrouped
  where
    regrouped : (((old ++ a) ++ b) ++ c) ++ d ≡ old ++ (a ++ (b ++ (c ++ d)))
    regrouped = simp append_assoc
