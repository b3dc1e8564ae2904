-- If a register, or a memory operand such as `4($sp)`, is printed and scanned again, the result is its tokens (`Spells`).
use Rattle.std.proofs.Common.{◌≡◌, ◌∙◌, ap, refl, arith, ℕ, zero, suc, ◌<◌, ℤ, Bool, true, List, [], ◌∷◌, ◌++◌, append_assoc, length, take, nat_lt, if◌then◌else◌}
use Rattle.std.specs.Prelude.{Some, None, not, ◌&&◌}
use Rattle.std.specs.List.{list_all, prefix_len}
use Rattle.std.specs.Char.{is_ascii_alphanumeric}
use Rattle.std.specs.Fmt.{signed_decimal}
use Rattle.std.proofs.lemmas.List.Folds.{list_all-append}
use Rattle.std.proofs.Math.Seq.{take-append_seam}
use Rattle.std.proofs.lemmas.Bool.Decides.{nat_tests}
use Rattle.mips_text.specs.declared.class.Start.TheVariants as start
use Rattle.mips_text.specs.declared.span.Span.TheVariants as span
use Rattle.mips_text.specs.Letters.{name_rest}
use Rattle.mips_text.specs.Names.{register_text}
use Rattle.mips_text.specs.Operands.{register_named}
use Rattle.mips_text.specs.Printing.{memory_operand}
use Rattle.mips_text.specs.Spelling.{register_operand}
use Rattle.mips_text.specs.Words.{Word, Number, Register, Open, Close, words_of}
use Rattle.mips_text.specs.Fronts.{register_front, takes}
use Rattle.mips_text.proofs.SpelledWords.{Spells, all_in_line, breaks, in_line, prefix_stop, stops, word_here}
use Rattle.mips_text.proofs.SpelledNumbers.{IsSmall, number_spells}
use Rattle.std.proofs.lemmas.Bool.{and_from}

-- the facts about the name of a register
pub record Known (register : ℕ) : Type 0 where
  pub letters : list_all is_ascii_alphanumeric (register_text register) ≡ true
  pub some : nat_lt 0 (length (register_text register)) ≡ true
  pub named : register_named (register_text register) ≡ Some register

pub known : (register : ℕ) → register < 32 → Known register
unfolding register_named
known zero h = record { letters = refl; some = refl; named = refl }
known (suc zero) h = record { letters = refl; some = refl; named = refl }
known (suc (suc zero)) h = record { letters = refl; some = refl; named = refl }
known (suc (suc (suc zero))) h = record { letters = refl; some = refl; named = refl }
known (suc (suc (suc (suc zero)))) h = record { letters = refl; some = refl; named = refl }
known (suc (suc (suc (suc (suc zero))))) h = record { letters = refl; some = refl; named = refl }
known (suc (suc (suc (suc (suc (suc zero)))))) h = record { letters = refl; some = refl; named = refl }
known (suc (suc (suc (suc (suc (suc (suc zero))))))) h = record { letters = refl; some = refl; named = refl }
known (suc (suc (suc (suc (suc (suc (suc (suc zero)))))))) h = record { letters = refl; some = refl; named = refl }
known (suc (suc (suc (suc (suc (suc (suc (suc (suc zero))))))))) h = record { letters = refl; some = refl; named = refl }
known (suc (suc (suc (suc (suc (suc (suc (suc (suc (suc zero)))))))))) h = record { letters = refl; some = refl; named = refl }
known (suc (suc (suc (suc (suc (suc (suc (suc (suc (suc (suc zero))))))))))) h = record { letters = refl; some = refl; named = refl }
known (suc (suc (suc (suc (suc (suc (suc (suc (suc (suc (suc (suc zero)))))))))))) h = record { letters = refl; some = refl; named = refl }
known (suc (suc (suc (suc (suc (suc (suc (suc (suc (suc (suc (suc (suc zero))))))))))))) h = record { letters = refl; some = refl; named = refl }
known (suc (suc (suc (suc (suc (suc (suc (suc (suc (suc (suc (suc (suc (suc zero)))))))))))))) h = record { letters = refl; some = refl; named = refl }
known (suc (suc (suc (suc (suc (suc (suc (suc (suc (suc (suc (suc (suc (suc (suc zero))))))))))))))) h = record { letters = refl; some = refl; named = refl }
known (suc (suc (suc (suc (suc (suc (suc (suc (suc (suc (suc (suc (suc (suc (suc (suc zero)))))))))))))))) h = record { letters = refl; some = refl; named = refl }
known (suc (suc (suc (suc (suc (suc (suc (suc (suc (suc (suc (suc (suc (suc (suc (suc (suc zero))))))))))))))))) h = record { letters = refl; some = refl; named = refl }
known (suc (suc (suc (suc (suc (suc (suc (suc (suc (suc (suc (suc (suc (suc (suc (suc (suc (suc zero)))))))))))))))))) h = record { letters = refl; some = refl; named = refl }
known (suc (suc (suc (suc (suc (suc (suc (suc (suc (suc (suc (suc (suc (suc (suc (suc (suc (suc (suc zero))))))))))))))))))) h = record { letters = refl; some = refl; named = refl }
known (suc (suc (suc (suc (suc (suc (suc (suc (suc (suc (suc (suc (suc (suc (suc (suc (suc (suc (suc (suc zero)))))))))))))))))))) h = record { letters = refl; some = refl; named = refl }
known (suc (suc (suc (suc (suc (suc (suc (suc (suc (suc (suc (suc (suc (suc (suc (suc (suc (suc (suc (suc (suc zero))))))))))))))))))))) h = record { letters = refl; some = refl; named = refl }
known (suc (suc (suc (suc (suc (suc (suc (suc (suc (suc (suc (suc (suc (suc (suc (suc (suc (suc (suc (suc (suc (suc zero)))))))))))))))))))))) h = record { letters = refl; some = refl; named = refl }
known (suc (suc (suc (suc (suc (suc (suc (suc (suc (suc (suc (suc (suc (suc (suc (suc (suc (suc (suc (suc (suc (suc (suc zero))))))))))))))))))))))) h = record { letters = refl; some = refl; named = refl }
known (suc (suc (suc (suc (suc (suc (suc (suc (suc (suc (suc (suc (suc (suc (suc (suc (suc (suc (suc (suc (suc (suc (suc (suc zero)))))))))))))))))))))))) h = record { letters = refl; some = refl; named = refl }
known (suc (suc (suc (suc (suc (suc (suc (suc (suc (suc (suc (suc (suc (suc (suc (suc (suc (suc (suc (suc (suc (suc (suc (suc (suc zero))))))))))))))))))))))))) h = record { letters = refl; some = refl; named = refl }
known (suc (suc (suc (suc (suc (suc (suc (suc (suc (suc (suc (suc (suc (suc (suc (suc (suc (suc (suc (suc (suc (suc (suc (suc (suc (suc zero)))))))))))))))))))))))))) h = record { letters = refl; some = refl; named = refl }
known (suc (suc (suc (suc (suc (suc (suc (suc (suc (suc (suc (suc (suc (suc (suc (suc (suc (suc (suc (suc (suc (suc (suc (suc (suc (suc (suc zero))))))))))))))))))))))))))) h = record { letters = refl; some = refl; named = refl }
known (suc (suc (suc (suc (suc (suc (suc (suc (suc (suc (suc (suc (suc (suc (suc (suc (suc (suc (suc (suc (suc (suc (suc (suc (suc (suc (suc (suc zero)))))))))))))))))))))))))))) h = record { letters = refl; some = refl; named = refl }
known (suc (suc (suc (suc (suc (suc (suc (suc (suc (suc (suc (suc (suc (suc (suc (suc (suc (suc (suc (suc (suc (suc (suc (suc (suc (suc (suc (suc (suc zero))))))))))))))))))))))))))))) h = record { letters = refl; some = refl; named = refl }
known (suc (suc (suc (suc (suc (suc (suc (suc (suc (suc (suc (suc (suc (suc (suc (suc (suc (suc (suc (suc (suc (suc (suc (suc (suc (suc (suc (suc (suc (suc zero)))))))))))))))))))))))))))))) h = record { letters = refl; some = refl; named = refl }
known (suc (suc (suc (suc (suc (suc (suc (suc (suc (suc (suc (suc (suc (suc (suc (suc (suc (suc (suc (suc (suc (suc (suc (suc (suc (suc (suc (suc (suc (suc (suc zero))))))))))))))))))))))))))))))) h = record { letters = refl; some = refl; named = refl }
known (suc (suc (suc (suc (suc (suc (suc (suc (suc (suc (suc (suc (suc (suc (suc (suc (suc (suc (suc (suc (suc (suc (suc (suc (suc (suc (suc (suc (suc (suc (suc (suc n)))))))))))))))))))))))))))))))) h = absurd (omega arith)

break_no_letter : (b : ℕ) → not (name_rest b) ≡ true → not (is_ascii_alphanumeric b) ≡ true
break_no_letter b h = grind (arith, nat_tests)

letters_stop : (rest : List ℕ) → breaks rest ≡ true → stops is_ascii_alphanumeric rest ≡ true
letters_stop [] h = refl
letters_stop (c ∷ cs) h = break_no_letter c h

letter_in_line : (b : ℕ) → is_ascii_alphanumeric b ≡ true → in_line b ≡ true
letter_in_line b h = grind (arith, nat_tests)

letters_read : (t rest : List ℕ) → list_all is_ascii_alphanumeric t ≡ true → nat_lt 0 (length t) ≡ true → breaks rest ≡ true → words_of (36 ∷ (t ++ rest)) ≡ Register t ∷ words_of rest
letters_read t rest h l g =
    let size : prefix_len (takes span.Register) (t ++ rest) ≡ length t = prefix_stop is_ascii_alphanumeric t rest h (letters_stop rest g) in
    word_here start.Register 36 t rest (Register t) refl
    (ap (λ n. register_front n (t ++ rest)) size
    ∙ (ap (λ (b : Bool). if b then Some (record { word = Register (take (length t) (t ++ rest)); after = length t }) else None) l
    ∙ ap (λ x. Some (record { word = Register x; after = length t })) (take-append_seam t rest)))

pub register_spells : (register : ℕ) → register < 32 → Spells (register_operand register) (Register (register_text register) ∷ [])
register_spells register h =
    let k : Known register = known register h in
    record {
      reads = λ rest r. letters_read (register_text register) rest k.letters k.some r;
      one_line = all_in_line is_ascii_alphanumeric letter_in_line (register_text register) k.letters;
    }

open_read : (rest : List ℕ) → words_of (40 ∷ rest) ≡ Open ∷ words_of rest
open_read rest = word_here start.Open 40 [] rest Open refl refl

close_read : (rest : List ℕ) → words_of (41 ∷ rest) ≡ Close ∷ words_of rest
close_read rest = word_here start.Close 41 [] rest Close refl refl

abbrev pub memory_words : ℤ → ℕ → List Word
memory_words offset base = Number offset ∷ Open ∷ Register (register_text base) ∷ Close ∷ []

regroup : (a b rest : List ℕ) → (a ++ (40 ∷ (b ++ (41 ∷ [])))) ++ rest ≡ a ++ (40 ∷ (b ++ (41 ∷ rest)))
regroup a b rest = append_assoc a (40 ∷ (b ++ (41 ∷ []))) rest ∙ ap (λ l. a ++ (40 ∷ l)) (append_assoc b (41 ∷ []) rest)

memory_read : (offset : ℤ) (base : ℕ) (rest : List ℕ) → IsSmall offset → base < 32 → words_of (memory_operand offset base ++ rest) ≡ memory_words offset base ++ words_of rest
memory_read offset base rest h l =
    let number : Spells (signed_decimal offset) (Number offset ∷ []) = number_spells offset h in
    let register : Spells (register_operand base) (Register (register_text base) ∷ []) = register_spells base l in
    ap words_of (regroup (signed_decimal offset) (register_operand base) rest)
    ∙ (number.reads (40 ∷ (register_operand base ++ (41 ∷ rest))) refl
    ∙ ap (λ ws. Number offset ∷ ws) (open_read (register_operand base ++ (41 ∷ rest))
    ∙ ap (λ ws. Open ∷ ws) (register.reads (41 ∷ rest) refl ∙ ap (λ ws. Register (register_text base) ∷ ws) (close_read rest))))

pub memory_spells : (offset : ℤ) (base : ℕ) → IsSmall offset → base < 32 → Spells (memory_operand offset base) (memory_words offset base)
memory_spells offset base h l =
    let number : Spells (signed_decimal offset) (Number offset ∷ []) = number_spells offset h in
    let register : Spells (register_operand base) (Register (register_text base) ∷ []) = register_spells base l in
    record {
      reads = λ rest r. memory_read offset base rest h l;
      one_line = list_all-append in_line (signed_decimal offset) (40 ∷ (register_operand base ++ (41 ∷ [])))
          ∙ and_from _ _ number.one_line (list_all-append in_line (register_operand base) (41 ∷ []) ∙ and_from _ _ register.one_line refl);
    }
