-- Lemmas on the loops that print the operands of a line one by one.
use Rattle.std.proofs.Common.{◌≡◌, ℕ, List, [], ◌∷◌, ◌++◌, ◌+◌, refl, sym, ap, ◌∙◌, append_assoc, length, drop, map, get_or, ◌<◌, ◌≤◌, add-one, add-zero, suc, arith, Result, Ok, Err, OnOk, is_ok, if◌then◌else◌}
use Rattle.std.proofs.lemmas.List.{append-nil, drop_all, length-map}
use Rattle.std.proofs.Math.Seq.{drop-cons}
use Rattle.mips_text.specs.Spelling.{gap_text, operands_text, register_operand}
use Rattle.lists.proofs.JoinedLists.{four_joined}

-- the text of the operands from an index on
abbrev pub operands_left : {A : Type 0} → (A → List ℕ) → ℕ → List A → List ℕ
operands_left text index xs = operands_text index (map text (drop index xs))

-- one more operand was written
pub operand_written : {A : Type 0} → (text : A → List ℕ) (out total : List ℕ) (xs : List A) (index : ℕ) (x : A) → index < length xs → x ≡ get_or xs index x → out ++ operands_left text index xs ≡ total → ((out ++ gap_text index) ++ text x) ++ operands_left text (index + 1) xs ≡ total
operand_written {A} text out total xs index x h e inv =
    let cut = drop-cons xs index x h ∙ ap (λ (y : A). y ∷ drop (suc index) xs) (sym e) in
    let split = ap (λ (ys : List A). out ++ operands_text index (map text ys)) cut in
    rw add-one (four_joined out (gap_text index) (text x) (operands_left text (suc index) xs) ∙ (sym split ∙ inv))

-- all operands were written
pub operands_written : {A : Type 0} → (text : A → List ℕ) (out old start name : List ℕ) (xs : List A) (index : ℕ) → length xs ≤ index → start ≡ old ++ name → out ++ operands_left text index xs ≡ start ++ operands_left text 0 xs → out ≡ old ++ (name ++ operands_left text 0 xs)
operands_written {A} text out old start name xs index h e inv =
    let done = ap (λ (ys : List A). out ++ operands_text index (map text ys)) (drop_all index xs h) in
    sym (append-nil out) ∙ (sym done ∙ (inv ∙ (ap (λ (s : List ℕ). s ++ operands_left text 0 xs) e ∙ append_assoc old name (operands_left text 0 xs))))

-- the same bytes, grouped from the right
regroup_after : (a b c d : List ℕ) → (a ++ (b ++ c)) ++ d ≡ a ++ (b ++ (c ++ d))
regroup_after a b c d = simp append_assoc

-- an operand after the others
pub operands_snoc : (index : ℕ) (operands : List (List ℕ)) (last : List ℕ) → operands_text index (operands ++ last ∷ []) ≡ operands_text index operands ++ (gap_text (index + length operands) ++ last)
operands_snoc index [] last = rw (append-nil last, add-zero index) refl
operands_snoc index (operand ∷ operands) last =
    let n : suc index + length operands ≡ index + length (operand ∷ operands) = omega arith in
    let behind = operands_snoc (suc index) operands last ∙ ap (λ (k : ℕ). operands_text (suc index) operands ++ (gap_text k ++ last)) n in
    ap (λ (t : List ℕ). gap_text index ++ (operand ++ t)) behind ∙ sym (regroup_after (gap_text index) operand (operands_text (suc index) operands) (gap_text (index + length (operand ∷ operands)) ++ last))

-- the same bytes, grouped from the right
regroup_row : (old name left gap last : List ℕ) → ((old ++ (name ++ left)) ++ gap) ++ last ≡ old ++ (name ++ (left ++ (gap ++ last)))
regroup_row old name left gap last = simp append_assoc

-- a row of registers, and a last operand
pub row_ended : (old name last registers : List ℕ) → ((old ++ (name ++ operands_text 0 (map register_operand registers))) ++ gap_text (length registers)) ++ last ≡ old ++ (name ++ operands_text 0 (map register_operand registers ++ last ∷ []))
row_ended old name last registers =
    let n : length registers ≡ 0 + length (map register_operand registers) = omega (arith, length-map registers register_operand) in
    let behind = ap (λ (k : ℕ). operands_text 0 (map register_operand registers) ++ (gap_text k ++ last)) n ∙ sym (operands_snoc 0 (map register_operand registers) last) in
    regroup_row old name (operands_text 0 (map register_operand registers)) (gap_text (length registers)) last ∙ ap (λ (t : List ℕ). old ++ (name ++ t)) behind

-- the same, step by step
pub row_finished : (old named parted out name last registers : List ℕ) (count : ℕ) → named ≡ old ++ (name ++ operands_text 0 (map register_operand registers)) → count ≡ length registers → parted ≡ named ++ gap_text count → out ≡ parted ++ last → out ≡ old ++ (name ++ operands_text 0 (map register_operand registers ++ last ∷ []))
row_finished old named parted out name last registers count e n p o =
    o ∙ (ap (λ (t : List ℕ). t ++ last) (p ∙ (ap (λ (t : List ℕ). t ++ gap_text count) e ∙ ap (λ (k : ℕ). (old ++ (name ++ operands_text 0 (map register_operand registers))) ++ gap_text k) n)) ∙ row_ended old name last registers)

-- the result of an appending call
pub appended : {A E : Type 0} → (r : Result A E) (out old all : List ℕ) → out ≡ (if is_ok r then all else old) → OnOk r (out ≡ all)
appended (Ok x) out old all h = h
appended (Err e) out old all h = tt
