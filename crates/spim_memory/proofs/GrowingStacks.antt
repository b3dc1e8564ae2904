-- The contents of the stack do not change if more of its unwritten part, which counts as zeros, is written with zeros.
use Rattle.std.proofs.Common.{◌≡◌, ◌∙◌, ap, ap₂, sym, ℕ, ◌+◌, ◌-◌, ◌≤◌, List, length, ◌++◌, replicate, take, drop, arith}
use Rattle.std.proofs.lemmas.List.{take_all, append_assoc, replicate-append-replicate}
use Rattle.std.proofs.Math.Seq.{drop-append_seam, take-append_seam}
use Rattle.spim_memory.specs.Zeros.{zeros_and}

-- the result of turning zeros to the front
turned : (w : List ℕ) (k m : ℕ) → m ≡ length w → drop m (w ++ replicate k 0) ++ take m (w ++ replicate k 0) ≡ replicate k 0 ++ w
turned w k m same = rw same (ap₂ (λ x y. x ++ y) (drop-append_seam w (replicate k 0)) (take-append_seam w (replicate k 0)))

-- zeros before zeros
more : (w : List ℕ) (size k : ℕ) → k + length w ≤ size → replicate (size - (k + length w)) 0 ++ (replicate k 0 ++ w) ≡ zeros_and size w
more w size k fits =
    let all : size - (k + length w) + k ≡ size - length w = omega (arith, fits) in
    sym (append_assoc (replicate (size - (k + length w)) 0) (replicate k 0) w) ∙ ap (λ z. z ++ w) (replicate-append-replicate (size - (k + length w)) k 0 ∙ ap (λ n. replicate n 0) all)

pub grown_down : (w r new : List ℕ) (size grown count : ℕ) → length w ≡ count → count ≤ grown → grown ≤ size → length new ≡ grown
    → r ≡ take grown w ++ replicate (grown - count) 0 → new ≡ drop (grown - (grown - count)) r ++ take (grown - (grown - count)) r → zeros_and size new ≡ zeros_and size w
grown_down w r new size grown count same le most long resized rotated =
    let all : take grown w ≡ w = take_all grown w (omega (arith, same, le)) in
    let was : r ≡ w ++ replicate (grown - count) 0 = resized ∙ ap (λ x. x ++ replicate (grown - count) 0) all in
    let is : new ≡ replicate (grown - count) 0 ++ w = rotated ∙ ap (λ x. drop (grown - (grown - count)) x ++ take (grown - (grown - count)) x) was ∙ turned w (grown - count) (grown - (grown - count)) (omega (arith, same, le)) in
    let size_is : length new ≡ grown - count + length w = omega (arith, long, same, le) in
    ap₂ (λ n x. replicate (size - n) 0 ++ x) size_is is ∙ more w size (grown - count) (omega (arith, same, le, most))
