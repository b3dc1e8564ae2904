-- If a mnemonic or directive and its operands are printed as a line and scanned again, the result is their tokens.
use Rattle.std.proofs.Common.{◌≡◌, ◌∙◌, ap, refl, arith, ℕ, suc, ℤ, pos, negsuc, Bool, true, false, List, [], ◌∷◌, ◌++◌, map}
use Rattle.std.specs.Prelude.{◌==◌}
use Rattle.std.specs.List.{AllByRecursion, list_all}
use Rattle.std.proofs.lemmas.List.Folds.{list_all-append}
use Rattle.std.specs.Fmt.{signed_decimal}
use Rattle.mips_isa.specs.Assembly.{names_of_items}
use Rattle.mips_isa.specs.Lines as lines
use Rattle.mips_isa.specs.Lines.{IsItem, IsWord, IsByte}
use Rattle.mips_text.specs.Names.{is_name}
use Rattle.mips_text.specs.Printable.{IsName}
use Rattle.mips_text.specs.Printing.{item_operand}
use Rattle.mips_text.specs.Spelling.{gap_text, operands_text, row_text}
use Rattle.mips_text.specs.Words.{Word, Name, Number, words_of}
use Rattle.mips_text.proofs.SpelledWords.{Spells, breaks, in_line, name_spells}
use Rattle.mips_text.proofs.SpelledNumbers.{IsSmall, number_spells}
use Rattle.std.proofs.lemmas.Bool.{and_from}

-- the rest of a line, which ends the word before it
pub record Ends (text : List ℕ) (words : List Word) : Type 0 where
  pub reads : words_of text ≡ words
  pub one_line : list_all in_line text ≡ true
  pub breaks_word : breaks text ≡ true

-- a whole line
pub record Row (text : List ℕ) (words : List Word) : Type 0 where
  pub reads : words_of text ≡ words
  pub one_line : list_all in_line text ≡ true

pub ends_nothing : Ends [] []
ends_nothing = record { reads = refl; one_line = refl; breaks_word = refl }

gap_by : (index : ℕ) (text : List ℕ) (words : List Word) (first : Bool) → (index == 0) ≡ first → words_of text ≡ words → list_all in_line text ≡ true → Ends (gap_text index ++ text) words
gap_by index text words true h e l = rw h (record { reads = e; one_line = l; breaks_word = refl })
gap_by index text words false h e l = rw h (record { reads = e; one_line = l; breaks_word = refl })

-- an operand before others
pub operand_ends : (index : ℕ) (operand : List ℕ) (operands : List (List ℕ)) (first rest : List Word) → Spells operand first → Ends (operands_text (suc index) operands) rest → Ends (operands_text index (operand ∷ operands)) (first ++ rest)
operand_ends index operand operands first rest h e =
    gap_by index (operand ++ operands_text (suc index) operands) (first ++ rest) (index == 0) refl
    (h.reads (operands_text (suc index) operands) e.breaks_word ∙ ap (λ ws. first ++ ws) e.reads)
    (list_all-append in_line operand (operands_text (suc index) operands) ∙ and_from _ _ h.one_line e.one_line)

-- a name before its operands
pub row_reads : (name : List ℕ) (operands : List (List ℕ)) (words : List Word) → is_name name ≡ true → Ends (operands_text 0 operands) words → Row (row_text name operands) (Name name ∷ words)
row_reads name operands words h e =
    let n : Spells name (Name name ∷ []) = name_spells name h in
    record {
      reads = n.reads (operands_text 0 operands) e.breaks_word ∙ ap (λ ws. Name name ∷ ws) e.reads;
      one_line = list_all-append in_line name (operands_text 0 operands) ∙ and_from _ _ n.one_line e.one_line;
    }

-- words of data

pub small_word : (z : ℤ) → IsWord z → IsSmall z
small_word (pos n) h = omega arith
small_word (negsuc n) h = omega arith

pub small_byte : (z : ℤ) → IsByte z → IsSmall z
small_byte (pos n) h = omega arith
small_byte (negsuc n) h = omega arith

abbrev pub item_word : lines.WordItem → Word
item_word (lines.Number n) = Number n
item_word (lines.Address label) = Name label

pub items_end : (index : ℕ) (items : List lines.WordItem) → AllByRecursion IsItem items → AllByRecursion IsName (names_of_items items) → Ends (operands_text index (map item_operand items)) (map item_word items)
items_end index [] h g = ends_nothing
items_end index (lines.Number n ∷ items) h g =
    operand_ends index (signed_decimal n) (map item_operand items) (Number n ∷ []) (map item_word items) (number_spells n (small_word n h.0)) (items_end (suc index) items h.1 g)
items_end index (lines.Address label ∷ items) h g =
    operand_ends index label (map item_operand items) (Name label ∷ []) (map item_word items) (name_spells label g.0) (items_end (suc index) items h.1 g.1)

pub bytes_end : (index : ℕ) (values : List ℤ) → AllByRecursion IsByte values → Ends (operands_text index (map signed_decimal values)) (map Number values)
bytes_end index [] h = ends_nothing
bytes_end index (n ∷ values) h =
    operand_ends index (signed_decimal n) (map signed_decimal values) (Number n ∷ []) (map Number values) (number_spells n (small_byte n h.0)) (bytes_end (suc index) values h.1)
