-- Lemmas on concatenated lists: if the result is empty, so are its parts, and the lists of a range of numbers end with that of the last number.
use Rattle.std.proofs.Common.{◌≡◌, ℕ, zero, suc, ◌+◌, List, [], ◌∷◌, ◌++◌, flat_map, ap, ◌∙◌, sym, refl, append_assoc, append-nil, arith}
use Rattle.std.specs.List.{range_with_len}

-- two lists that are none as one are none
pub none_both : {X : Type 0} (xs ys : List X) → xs ++ ys ≡ [] → (xs ≡ []) × (ys ≡ [])
none_both [] ys h = (refl, h)
none_both (x ∷ xs) ys h = absurd (cc)

-- four of them
pub four_joined : (a b c d : List ℕ) → ((a ++ b) ++ c) ++ d ≡ a ++ (b ++ (c ++ d))
four_joined a b c d = append_assoc (a ++ b) c d ∙ append_assoc a b (c ++ d)

-- the lists of one more number: those of the numbers from one on, with that of the last
pub flat_more : (f : ℕ → List ℕ) (a k : ℕ) → flat_map f (range_with_len a (suc k)) ≡ flat_map f (range_with_len a k) ++ f (a + k)
flat_more f a zero = append-nil (f a) ∙ ap f (let e : a ≡ a + 0 = omega arith in e)
flat_more f a (suc k) =
    let next : a + 1 + k ≡ a + suc k = omega arith in
    let rest : List ℕ = flat_map f (range_with_len (a + 1) k) in
    ap (λ l. f a ++ l) (flat_more f (a + 1) k ∙ ap (λ (i : ℕ). rest ++ f i) next) ∙ sym (append_assoc (f a) rest (f (a + suc k)))
