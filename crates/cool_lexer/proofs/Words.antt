-- The keyword or identifier at the front of a text is determined by its bytes, its first letter, and the search among the keywords.
use Rattle.std.proofs.Common.{◌≡◌, ◌∙◌, sym, ap, arith, ℕ, suc, ◌+◌, Bool, List, ◌∷◌, take, map}
use Rattle.std.specs.List.{prefix_len}
use Rattle.cool_syntax.specs.declared.token.TokenKind.{TokenKind}
use Rattle.cool_syntax.specs.Lexemes.{is_capital, named, key_among, keywords, lower, word}
use Rattle.cool_lexer.specs.declared.front.Front.TheVariants.{Item}
use Rattle.cool_lexer.specs.declared.front.Scan.TheVariants.{Lexeme}
use Rattle.cool_lexer.specs.declared.span.Span.TheVariants as span
use Rattle.cool_lexer.specs.Fronts.{takes, word_front}

-- the text of a word is its first byte and those after it
pub word_text : (b n : ℕ) (bs text : List ℕ) → b ∷ bs ≡ text → take (n + 1) text ≡ b ∷ take n bs
word_text b n bs text e =
    let next : n + 1 ≡ suc n = omega arith in
    ap (λ m. take m text) next ∙ ap (λ l. take (suc n) l) (sym e)

-- its text, its kind and its size make the front of a word
pub word_found : (b n : ℕ) (bs text : List ℕ) (k : TokenKind) (capital : Bool) → capital ≡ is_capital b → text ≡ b ∷ take n bs → k ≡ named capital text (key_among keywords (map lower text)) → n ≡ prefix_len (takes span.Word) bs → Item (Lexeme k) n ≡ word_front b bs
word_found b n bs text k capital c t e p =
    let is_word : k ≡ word b (take n bs) = e ∙ (λ i. named (c i) (t i) (key_among keywords (map lower (t i)))) in
    (λ i. Item (Lexeme (is_word i)) n) ∙ ap (λ m. Item (Lexeme (word b (take m bs))) m) p
