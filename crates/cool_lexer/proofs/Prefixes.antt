-- `prefix_len` is the length of the longest prefix of a text whose bytes all pass a test.
use Rattle.std.proofs.Common.{◌≡◌, ◌∙◌, ap, refl, arith, ℕ, zero, suc, ◌≤◌, Bool, true, false, List, [], ◌∷◌, length, take}
use Rattle.std.specs.Prelude.{◌&&◌}
use Rattle.std.specs.List.{list_all, prefix_len}
use Rattle.std.proofs.lemmas.Bool.{and_parts}
use Rattle.lists.proofs.Fronts.{prefix_yes, prefix_no}

-- the front passes with one more byte before it
passes_more : (p : ℕ → Bool) (b : ℕ) (bs : List ℕ) (e : Bool) → p b ≡ e → list_all p (take (prefix_len p bs) bs) ≡ true → list_all p (take (prefix_len p (b ∷ bs)) (b ∷ bs)) ≡ true
passes_more p b bs true h all = ap (λ n. list_all p (take n (b ∷ bs))) (prefix_yes p b bs h) ∙ ap (λ x. x && list_all p (take (prefix_len p bs) bs)) h ∙ all
passes_more p b bs false h all = ap (λ n. list_all p (take n (b ∷ bs))) (prefix_no p b bs h)

-- the front passes
pub front_passes : (p : ℕ → Bool) (bs : List ℕ) → list_all p (take (prefix_len p bs) bs) ≡ true
front_passes p [] = refl
front_passes p (b ∷ bs) = passes_more p b bs (p b) refl (front_passes p bs)

-- no longer front passes
pub no_longer : (p : ℕ → Bool) (bs : List ℕ) (m : ℕ) → m ≤ length bs → list_all p (take m bs) ≡ true → m ≤ prefix_len p bs
no_longer p bs zero l h = omega arith
no_longer p [] (suc m) l h = omega arith
no_longer p (b ∷ bs) (suc m) l h =
    let both = and_parts (p b) (list_all p (take m bs)) h in
    omega (arith, prefix_yes p b bs both.0, no_longer p bs m (omega arith) both.1)
