-- The data lines of each constant of a program are among the data lines of all constants; and a test detects strings without a zero byte.
use Rattle.std.proofs.Common.{◌≡◌, ℕ, zero, suc, ◌+◌, List, [], ◌∷◌, Bool, true, false, not, cond, Contains, refl, sym, ap, ◌∙◌, subst, arith}
use Rattle.std.specs.Prelude.{nat_eq, nat_lt, bytes_eq, ◌&&◌}
use Rattle.mips_isa.specs.Lines.{Line}
use Rattle.cool_runtime.specs.Contents.{IsText}
use Rattle.cool_runtime.specs.LinesOfData.{int_lines, string_lines}
use Rattle.cool_consts.specs.Constants.{integer_number, string_number}
use Rattle.cool_consts.specs.Labels.{int_constant, string_constant, string_length}
use Rattle.cool_consts.specs.LinesOfConstants.{integers_lines, strings_lines}
use Rattle.cool_simulation.proofs.loading.PartsOfLines.{Among, among_left, among_right}
use Rattle.lists.proofs.EqualBytes.{bytes_equal, bytes_eq-same}

-- Bytes without a zero

-- whether bytes are a text
abbrev pub is_text : List ℕ → Bool
is_text [] = true
is_text (b ∷ bytes) = nat_lt 0 b && (nat_lt b 256 && is_text bytes)

pub are_text : (bytes : List ℕ) → is_text bytes ≡ true → IsText bytes
are_text [] h = tt
are_text (b ∷ bytes) h = by (nat_lt 0 b) (nat_lt b 256) (is_text bytes) refl refl h (are_text bytes)
  where
    by : (x y z : Bool) → nat_lt 0 b ≡ x → nat_lt b 256 ≡ y → (x && (y && z)) ≡ true → (z ≡ true → IsText bytes) → IsText (b ∷ bytes)
    by false y z ex ey h more = absurd (cc)
    by true false z ex ey h more = absurd (cc)
    by true true z ex ey h more = ((grind arith, grind arith), more h)

-- Constants by their values

-- the lines of an integer
pub among_integer : (all : List Line) (of_int j : ℕ) (ns : List ℕ) (n : ℕ) → Contains ns n → Among all (integers_lines of_int j ns) → Among all (int_lines (int_constant (j + integer_number ns n)) of_int n)
among_integer all of_int j [] n (k, l, e) h = absurd (omega arith)
among_integer all of_int j (x ∷ ns) n there h = by (nat_eq n x) refl (λ k. among_integer all of_int (j + 1) ns n k rest)
  where
    first : Among all (int_lines (int_constant j) of_int x)
    first = among_left all (int_lines (int_constant j) of_int x) (integers_lines of_int (j + 1) ns) h

    rest : Among all (integers_lines of_int (j + 1) ns)
    rest = among_right all (int_lines (int_constant j) of_int x) (integers_lines of_int (j + 1) ns) h

    later : nat_eq n x ≡ false → Contains (x ∷ ns) n → Contains ns n
    later d (zero, l, e) = absurd (grind arith)
    later d (suc k, l, e) = (k, omega arith, e)

    by : (b : Bool) → nat_eq n x ≡ b → (Contains ns n → Among all (int_lines (int_constant (j + 1 + integer_number ns n)) of_int n)) → Among all (int_lines (int_constant (j + cond (not b) (1 + integer_number ns n) 0)) of_int n)
    by true same more =
        let e : j ≡ j + 0 = omega arith in
        let x_is : x ≡ n = grind arith in
        subst (λ i. Among all (int_lines (int_constant i) of_int n)) e (subst (λ v. Among all (int_lines (int_constant j) of_int v)) x_is first)
    by false other more =
        let e : j + 1 + integer_number ns n ≡ j + (1 + integer_number ns n) = omega arith in
        subst (λ i. Among all (int_lines (int_constant i) of_int n)) e (more (later other there))

-- the lines of a string, under labels of its number
pub among_string : (all : List Line) (of_int of_string j : ℕ) (bs : List (List ℕ)) (bytes : List ℕ) → Contains bs bytes → Among all (strings_lines of_int of_string j bs)
    → Among all (string_lines (string_constant (j + string_number bs bytes)) (string_length (j + string_number bs bytes)) of_int of_string bytes)
among_string all of_int of_string j [] bytes (k, l, e) h = absurd (omega arith)
among_string all of_int of_string j (x ∷ bs) bytes there h = by (bytes_eq bytes x) refl (λ k. among_string all of_int of_string (j + 1) bs bytes k rest)
  where
    own : List Line
    own = string_lines (string_constant j) (string_length j) of_int of_string x

    first : Among all (string_lines (string_constant j) (string_length j) of_int of_string x)
    first = among_left all (string_lines (string_constant j) (string_length j) of_int of_string x) (strings_lines of_int of_string (j + 1) bs) h

    rest : Among all (strings_lines of_int of_string (j + 1) bs)
    rest = among_right all (string_lines (string_constant j) (string_length j) of_int of_string x) (strings_lines of_int of_string (j + 1) bs) h

    later : bytes_eq bytes x ≡ false → Contains (x ∷ bs) bytes → Contains bs bytes
    later d (zero, l, e) = let t : bytes_eq bytes x ≡ true = ap (bytes_eq bytes) e ∙ bytes_eq-same bytes in absurd (cc)
    later d (suc k, l, e) = (k, omega arith, e)

    by : (b : Bool) → bytes_eq bytes x ≡ b
        → (Contains bs bytes → Among all (string_lines (string_constant (j + 1 + string_number bs bytes)) (string_length (j + 1 + string_number bs bytes)) of_int of_string bytes))
        → Among all (string_lines (string_constant (j + cond (not b) (1 + string_number bs bytes) 0)) (string_length (j + cond (not b) (1 + string_number bs bytes) 0)) of_int of_string bytes)
    by true same more =
        let e : j ≡ j + 0 = omega arith in
        let x_is : x ≡ bytes = sym (bytes_equal bytes x same) in
        subst (λ i. Among all (string_lines (string_constant i) (string_length i) of_int of_string bytes)) e
        (subst (λ v. Among all (string_lines (string_constant j) (string_length j) of_int of_string v)) x_is first)
    by false other more =
        let e : j + 1 + string_number bs bytes ≡ j + (1 + string_number bs bytes) = omega arith in
        subst (λ i. Among all (string_lines (string_constant i) (string_length i) of_int of_string bytes)) e (more (later other there))
