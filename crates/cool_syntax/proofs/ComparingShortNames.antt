-- Two short names, stored in arrays padded with zeros, are equal if and only if they have the same number of bytes and equal arrays.
use Rattle.std.proofs.Common.{◌≡◌, ℕ, ◌≤◌, false, List, ◌++◌, length, take, drop, sym, ◌∙◌, ap}
use Rattle.std.proofs.lemmas.Bool.{false_from_ne_true}
use Rattle.std.proofs.lemmas.Bool.Decides.{same_from_decides, Decides-like}
use Rattle.std.proofs.lemmas.List.{take-append-drop, length-take-le}
use Rattle.std.proofs.lemmas.Slice.Eq.{bytes_eq-Decides}
use Rattle.std.specs.Prelude.{bytes_eq}

-- rooms with one rest are one exactly where their first bytes are
pub one_count : (n : ℕ) (xs ys : List ℕ) → drop n xs ≡ drop n ys → bytes_eq xs ys ≡ bytes_eq (take n xs) (take n ys)
one_count n xs ys rest =
    let whole : take n xs ≡ take n ys → xs ≡ ys = λ e. sym (take-append-drop n xs) ∙ ap (λ (zs : List ℕ). zs ++ drop n xs) e ∙ ap (λ (zs : List ℕ). take n ys ++ zs) rest ∙ take-append-drop n ys in
    same_from_decides (bytes_eq xs ys) (bytes_eq (take n xs) (take n ys)) (Decides-like (bytes_eq xs ys) (λ e. ap (take n) e) whole (bytes_eq-Decides xs ys)) (bytes_eq-Decides (take n xs) (take n ys))

-- names of other counts are other names
pub other_count : (m n : ℕ) (xs ys : List ℕ) → m ≤ length xs → n ≤ length ys → (m ≡ n → ⊥) → bytes_eq (take m xs) (take n ys) ≡ false
other_count m n xs ys p q other =
    let same : take m xs ≡ take n ys → m ≡ n = λ e. sym (length-take-le m xs p) ∙ ap length e ∙ length-take-le n ys q in
    false_from_ne_true (bytes_eq (take m xs) (take n ys)) (λ h. other (same ((bytes_eq-Decides (take m xs) (take n ys)).0 h)))
