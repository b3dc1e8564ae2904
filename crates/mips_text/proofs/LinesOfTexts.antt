-- The first line of an assembly text is the bytes before its first newline, or the whole text if there is no newline.
use Rattle.std.proofs.Common.{◌≡◌, refl, ap, sym, ◌∙◌, arith, ℕ, suc, ◌+◌, ◌-◌, ◌<◌, ◌≤◌, Bool, true, false, List, [], ◌∷◌, length, take, drop}
use Rattle.std.specs.Prelude.{◌==◌}
use Rattle.std.specs.List.{prefix_len}
use Rattle.std.proofs.lemmas.List.{take_all}
use Rattle.mips_text.specs.Reading.{lines_in, with_byte}
use Rattle.mips_text.proofs.SpelledWords.{in_line}

-- a first line by its first byte
line_by : (b : ℕ) (bs : List ℕ) (newline : Bool) → (b == 10) ≡ newline → prefix_len in_line (b ∷ bs) < length (b ∷ bs) → (prefix_len in_line bs < length bs → lines_in bs ≡ take (prefix_len in_line bs) bs ∷ lines_in (drop (suc (prefix_len in_line bs)) bs)) → lines_in (b ∷ bs) ≡ take (prefix_len in_line (b ∷ bs)) (b ∷ bs) ∷ lines_in (drop (suc (prefix_len in_line (b ∷ bs))) (b ∷ bs))
line_by b bs true e h rest = rw e refl
line_by b bs false e h rest =
    let n : ℕ = prefix_len in_line bs in
    let size : prefix_len in_line (b ∷ bs) ≡ suc n = rw e (omega arith) in
    let within : n < length bs = omega arith in
    let first : lines_in (b ∷ bs) ≡ with_byte b (lines_in bs) = rw e refl in
    first ∙ (ap (with_byte b) (rest within) ∙ sym (ap (λ k. take k (b ∷ bs) ∷ lines_in (drop (suc k) (b ∷ bs))) size))

-- the first line, before its newline, and the others
pub line_cut : (bs : List ℕ) → prefix_len in_line bs < length bs → lines_in bs ≡ take (prefix_len in_line bs) bs ∷ lines_in (drop (suc (prefix_len in_line bs)) bs)
line_cut [] h = absurd (omega arith)
line_cut (b ∷ bs) h = line_by b bs (b == 10) refl h (line_cut bs)

-- a last line by its first byte
last_by : (b : ℕ) (bs : List ℕ) (newline : Bool) → (b == 10) ≡ newline → length (b ∷ bs) ≤ prefix_len in_line (b ∷ bs) → (0 < length bs → length bs ≤ prefix_len in_line bs → lines_in bs ≡ bs ∷ []) → lines_in (b ∷ bs) ≡ (b ∷ bs) ∷ []
last_by b bs true e h rest =
    let none : prefix_len in_line (b ∷ bs) ≡ 0 = rw e refl in
    absurd (omega arith)
last_by b [] false e h rest = rw e refl
last_by b (c ∷ cs) false e h rest =
    let size : prefix_len in_line (b ∷ c ∷ cs) ≡ 1 + prefix_len in_line (c ∷ cs) = rw e refl in
    let first : lines_in (b ∷ c ∷ cs) ≡ with_byte b (lines_in (c ∷ cs)) = rw e refl in
    first ∙ ap (with_byte b) (rest (omega arith) (omega arith))

-- a text without a newline is one line
pub line_last : (bs : List ℕ) → 0 < length bs → length bs ≤ prefix_len in_line bs → lines_in bs ≡ bs ∷ []
line_last [] h l = absurd (omega arith)
line_last (b ∷ bs) h l = last_by b bs (b == 10) refl l (line_last bs)

-- the same, as the code takes the bytes behind a line
pub line_parted : (bs : List ℕ) (n : ℕ) → n ≡ prefix_len in_line bs → n < length bs → lines_in bs ≡ take n bs ∷ lines_in (take (length bs - (n + 1)) (drop (n + 1) bs))
line_parted bs n e h =
    let within : prefix_len in_line bs < length bs = omega arith in
    let behind : take (length bs - (n + 1)) (drop (n + 1) bs) ≡ drop (suc n) bs =
    take_all _ (drop (n + 1) bs) (omega (arith, Rattle.std.proofs.Common.length-drop (n + 1) bs)) ∙ ap (λ k. drop k bs) (let s : n + 1 ≡ suc n = omega arith in s) in
    line_cut bs within ∙ (ap (λ k. take k bs ∷ lines_in (drop (suc k) bs)) (sym e) ∙ ap (λ l. take n bs ∷ lines_in l) (sym behind))
