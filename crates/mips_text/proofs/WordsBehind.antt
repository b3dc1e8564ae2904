-- The tokens of a line of assembly after its first bytes are the tokens of the rest of the line.
use Rattle.std.proofs.Common.{◌≡◌, refl, ap, sym, ◌∙◌, arith, ℕ, zero, suc, ◌-◌, ◌<◌, List, [], ◌∷◌, length, take, drop, length-drop, get_or}
use Rattle.std.specs.Prelude.{Option}
use Rattle.std.proofs.lemmas.List.{take_all}
use Rattle.mips_text.specs.declared.class.Class.TheVariants as class
use Rattle.mips_text.specs.declared.class.Start.{Start}
use Rattle.mips_text.specs.Letters.{class_of}
use Rattle.mips_text.specs.Words.{Word, Front, front, with_class, with_front, words_behind, words_of}
use Rattle.lists.proofs.ItemsLeft.{first_and_tail}

-- the words behind so many bytes are those of what is behind them
pub behind_is : (n : ℕ) (bs : List ℕ) → words_behind n bs ≡ words_of (drop n bs)
behind_is zero bs = refl
behind_is (suc n) [] = refl
behind_is (suc n) (b ∷ bs) = behind_is n bs

-- the same, as the code takes the bytes behind a word
pub behind_taken : (n : ℕ) (bs : List ℕ) → words_of (take (length bs - n) (drop n bs)) ≡ words_behind n bs
behind_taken n bs =
    ap words_of (take_all _ (drop n bs) (omega (arith, length-drop n bs))) ∙ sym (behind_is n bs)

-- the first word of a line whose first byte begins one, and the words behind it
pub word_first : (rest : List ℕ) (s : Start) (found : Option Front) (word : Word) (behind : List ℕ) → 0 < length rest → class_of (get_or rest 0 0) ≡ class.Word s → found ≡ front s (get_or rest 0 0) (take (length rest - 1) (drop 1 rest)) → word ∷ words_of behind ≡ with_front found (λ n. words_behind n (take (length rest - 1) (drop 1 rest))) → words_of rest ≡ word ∷ words_of behind
word_first rest s found word behind h k e cut =
    let b : ℕ = get_or rest 0 0 in
    let bs : List ℕ = take (length rest - 1) (drop 1 rest) in
    let at : words_of (b ∷ bs) ≡ with_front (front s b bs) (λ n. words_behind n bs) = ap (λ x. with_class x b bs (λ n. words_behind n bs)) k in
    ap words_of (sym (first_and_tail rest h)) ∙ (at ∙ (sym (ap (λ f. with_front f (λ n. words_behind n bs)) e) ∙ sym cut))
