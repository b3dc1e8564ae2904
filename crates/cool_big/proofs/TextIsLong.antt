-- The large Cool program that `big_program` generates from a number n has 154 + 151 n bytes. The lemmas before this give the lengths of its parts.
use Rattle.std.proofs.Common.{◌≡◌, ℕ, zero, suc, ◌+◌, ◌*◌, List, ◌++◌, length, flat_map, codes, refl, arith}
use Rattle.std.specs.List.{range_with_len}
use Rattle.std.proofs.lemmas.List.{length-append}
use Rattle.cool_big.specs.declared.line.Line.TheVariants.{Class, Method, Call}
use Rattle.cool_big.specs.BigPrograms.{class_text, method_text, call_text, line_texts, body_text, main_text, big_text}

-- lines of the same length
all_long : (f : ℕ → List ℕ) (size : ℕ) → ((i : ℕ) → length (f i) ≡ size)
    → (a n : ℕ) → length (flat_map f (range_with_len a n)) ≡ size * n
all_long f size each a zero = omega arith
all_long f size each a (suc n) =
    let here = each a in
    let rest = all_long f size each (a + 1) n in
    let all = length-append (f a) (flat_map f (range_with_len (a + 1) n)) in
    omega arith

-- the lines of each kind
classes_long : (n : ℕ) → length (line_texts Class n) ≡ 64 * n
classes_long n = all_long class_text 64 (λ i. refl) 1 n

methods_long : (n : ℕ) → length (line_texts Method n) ≡ 74 * n
methods_long n = all_long method_text 74 (λ i. refl) 1 n

calls_long : (n : ℕ) → length (line_texts Call n) ≡ 13 * n
calls_long n = all_long call_text 13 (λ i. refl) 1 n

-- the method main
body_long : (n : ℕ) → length (body_text n) ≡ 29 + 13 * n
body_long n =
    let lines = calls_long n in
    let all = length-append (line_texts Call n) (codes "  } };\n") in
    omega arith

-- the class Main
main_long : (n : ℕ) → length (main_text n) ≡ 57 + 87 * n
main_long n =
    let lines = methods_long n in
    let body = body_long n in
    let tail = length-append (body_text n) (codes "};\n") in
    let all = length-append (line_texts Method n) (body_text n ++ codes "};\n") in
    omega arith

-- the whole text
pub big_length : (n : ℕ) → length (big_text n) ≡ 154 + 151 * n
big_length n =
    let lines = classes_long n in
    let main = main_long n in
    let all = length-append (line_texts Class n) (main_text n) in
    omega arith
