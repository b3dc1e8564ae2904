-- `add_bytes` appends the lowest byte of each operand of `.byte`, because each iteration of its loop appends one byte.
use Rattle.std.proofs.Common.{◌≡◌, ◌∙◌, ap, ℕ, ℤ, List, [], ◌∷◌, ◌+◌, ◌<◌, ◌%◌, ◌++◌, map, drop, get_or, length, add-one, sym, pos, rules}
use Rattle.std.proofs.lemmas.List.{append_assoc}
use Rattle.std.proofs.Math.Seq.{drop-cons}
use Rattle.mips_isa.specs.Words.{bits_of}
use Rattle.mips_asm.proofs.items.add_bytes.Goals as goal

-- one number further
one_further : (f : ℤ → ℕ) (bytes before : List ℕ) (xs : List ℤ) (i : ℕ) (d : ℤ) → i < length xs → bytes ++ map f (drop i xs) ≡ before ++ map f xs → (bytes ++ f (get_or xs i d) ∷ []) ++ map f (drop (i + 1) xs) ≡ before ++ map f xs
one_further f bytes before xs i d h e =
    append_assoc bytes (f (get_or xs i d) ∷ []) (map f (drop (i + 1) xs))
    ∙ ap (λ n. bytes ++ (f (get_or xs i d) ∷ map f (drop n xs))) (add-one i)
    ∙ ap (λ list. bytes ++ map f list) (sym (drop-cons xs i d h))
    ∙ e

pub loop-number-preserved : goal.loop-number-preserved
loop-number-preserved c =
    let one : c.lowest_byte.result ≡ bits_of (get_or c.args.numbers.now c.loop-number.number-index (pos 0)) % 256 = search rules in
    ap (λ list. list ++ map (λ n. bits_of n % 256) (drop (c.loop-number.number-index + 1) c.args.numbers.now)) (c.in_ok-push.ensures.items ∙ ap (λ n. c.loop-number.bytes.items ++ n ∷ []) one)
    ∙ one_further (λ n. bits_of n % 256) c.loop-number.bytes.items c.args.bytes.now.items c.args.numbers.now c.loop-number.number-index (pos 0) c.loop-number-test.true c.loop-number.invariant
