-- `prefix_len` is the length of the longest prefix of a text whose bytes all pass a test: each prefix up to this length passes, and each longer one fails.
use Rattle.std.proofs.Common.{◌≡◌, ◌∙◌, ap, refl, arith, ℕ, zero, suc, ◌≤◌, ◌<◌, Bool, true, false, List, [], ◌∷◌, length, take}
use Rattle.std.specs.Prelude.{◌&&◌}
use Rattle.std.specs.List.{list_all, prefix_len}
use Rattle.lists.proofs.Fronts.{prefix_yes, prefix_no}

-- the front passes with one more byte before it
passes_by : (p : ℕ → Bool) (b : ℕ) (bs : List ℕ) (m : ℕ) (e : Bool) → p b ≡ e → suc m ≤ prefix_len p (b ∷ bs) → (m ≤ prefix_len p bs → list_all p (take m bs) ≡ true) → list_all p (take (suc m) (b ∷ bs)) ≡ true
passes_by p b bs m true h l rest = ap (λ x. x && list_all p (take m bs)) h ∙ rest (omega (arith, prefix_yes p b bs h))
passes_by p b bs m false h l rest = absurd (omega (arith, prefix_no p b bs h))

-- all bytes of a front that is short enough pass
pub passes : (p : ℕ → Bool) (bs : List ℕ) (m : ℕ) → m ≤ prefix_len p bs → list_all p (take m bs) ≡ true
passes p bs zero h = refl
passes p [] (suc m) h = refl
passes p (b ∷ bs) (suc m) h = passes_by p b bs m (p b) refl h (passes p bs m)

fails_by : (p : ℕ → Bool) (b : ℕ) (bs : List ℕ) (m : ℕ) (e : Bool) → p b ≡ e → prefix_len p (b ∷ bs) < suc m → (prefix_len p bs < m → list_all p (take m bs) ≡ false) → list_all p (take (suc m) (b ∷ bs)) ≡ false
fails_by p b bs m true h l rest = ap (λ x. x && list_all p (take m bs)) h ∙ rest (omega (arith, prefix_yes p b bs h))
fails_by p b bs m false h l rest = ap (λ x. x && list_all p (take m bs)) h

-- not all of a longer one do
pub fails : (p : ℕ → Bool) (bs : List ℕ) (m : ℕ) → prefix_len p bs < m → m ≤ length bs → list_all p (take m bs) ≡ false
fails p bs zero h l = absurd (omega arith)
fails p [] (suc m) h l = absurd (omega arith)
fails p (b ∷ bs) (suc m) h l = fails_by p b bs m (p b) refl h (λ g. fails p bs m g (omega arith))
