-- Lemmas on `Spells`: a text is scanned as certain tokens if the text that follows it ends its last token.
use Rattle.std.proofs.Common.{◌≡◌, ◌∙◌, ap, refl, arith, ℕ, suc, Bool, true, false, List, [], ◌∷◌, ◌++◌, length}
use Rattle.std.specs.Prelude.{Some, not, ◌&&◌, ◌==◌}
use Rattle.std.specs.List.{list_all, prefix_len}
use Rattle.std.proofs.Math.Seq.{take-append_seam, drop-append_seam}
use Rattle.std.proofs.lemmas.Bool.Decides.{nat_tests}
use Rattle.mips_text.specs.declared.class.Class.TheVariants as class
use Rattle.mips_text.specs.declared.class.Start.{Start}
use Rattle.mips_text.specs.declared.class.Start.TheVariants as start
use Rattle.mips_text.specs.declared.span.Span.TheVariants as span
use Rattle.mips_text.specs.Letters.{class_of, name_rest, name_start}
use Rattle.mips_text.specs.Names.{is_name}
use Rattle.mips_text.specs.Words.{Word, Name, front, with_class, with_front, words_behind, words_of}
use Rattle.mips_text.specs.Fronts.{front_found, name_front, takes}
use Rattle.mips_text.proofs.FrontsAreLongest.{front_is}
use Rattle.mips_text.proofs.WordsBehind.{behind_is}
use Rattle.lists.proofs.Fronts.{prefix_no, prefix_yes}
use Rattle.std.proofs.lemmas.Bool.{and_parts, not-true}

abbrev pub in_line : ℕ → Bool
in_line b = not (b == 10)

-- nothing, or a byte that fails a test
abbrev pub stops : (ℕ → Bool) → List ℕ → Bool
stops p [] = true
stops p (c ∷ cs) = not (p c)

-- a text before which a word ends
abbrev pub breaks : List ℕ → Bool
breaks = stops name_rest

-- a text of one line that is these words before a text that ends a word
pub record Spells (text : List ℕ) (words : List Word) : Type 0 where
  pub reads : (rest : List ℕ) → breaks rest ≡ true → words_of (text ++ rest) ≡ words ++ words_of rest
  pub one_line : list_all in_line text ≡ true

-- the bytes that pass end where a text stops
pub prefix_stop : (p : ℕ → Bool) (bs rest : List ℕ) → list_all p bs ≡ true → stops p rest ≡ true → prefix_len p (bs ++ rest) ≡ length bs
prefix_stop p [] [] h g = refl
prefix_stop p [] (c ∷ cs) h g = let no : p c ≡ false = not-true (p c) g in prefix_no p c cs no
prefix_stop p (b ∷ bs) rest h g =
    let both = and_parts (p b) (list_all p bs) h in
    prefix_yes p b (bs ++ rest) both.0 ∙ ap (λ n. suc n) (prefix_stop p bs rest both.1 g)

-- the words of a text that begins with one
pub word_here : (s : Start) (b : ℕ) (bs rest : List ℕ) (w : Word) → class_of b ≡ class.Word s → front_found s b (bs ++ rest) ≡ Some (record { word = w; after = length bs }) → words_of (b ∷ (bs ++ rest)) ≡ w ∷ words_of rest
word_here s b bs rest w k e =
    let at : words_of (b ∷ (bs ++ rest)) ≡ with_front (front s b (bs ++ rest)) (λ n. words_behind n (bs ++ rest)) = ap (λ x. with_class x b (bs ++ rest) (λ n. words_behind n (bs ++ rest))) k in
    at ∙ (ap (λ f. with_front f (λ n. words_behind n (bs ++ rest))) (front_is s b (bs ++ rest) ∙ e)
    ∙ ap (λ ws. w ∷ ws) (behind_is (length bs) (bs ++ rest) ∙ ap words_of (drop-append_seam bs rest)))

-- Names

name_class : (b : ℕ) → name_start b ≡ true → class_of b ≡ class.Word start.Name
name_class b h = grind (arith, nat_tests)

in_name : (b : ℕ) → name_rest b ≡ true → in_line b ≡ true
in_name b h = grind (arith, nat_tests)

pub all_in_line : (p : ℕ → Bool) → ((b : ℕ) → p b ≡ true → in_line b ≡ true) → (bs : List ℕ) → list_all p bs ≡ true → list_all in_line bs ≡ true
all_in_line p h [] g = refl
all_in_line p h (b ∷ bs) g =
    let both = and_parts (p b) (list_all p bs) g in
    ap (λ (t : Bool). t && list_all in_line bs) (h b both.0) ∙ all_in_line p h bs both.1

or_left : (b : ℕ) → name_start b ≡ true → name_rest b ≡ true
or_left b h = grind (arith, nat_tests)

name_read : (b : ℕ) (bs rest : List ℕ) → name_start b ≡ true → list_all name_rest bs ≡ true → breaks rest ≡ true → words_of (b ∷ (bs ++ rest)) ≡ Name (b ∷ bs) ∷ words_of rest
name_read b bs rest h g r =
    let size : prefix_len (takes span.Name) (bs ++ rest) ≡ length bs = prefix_stop name_rest bs rest g r in
    word_here start.Name b bs rest (Name (b ∷ bs)) (name_class b h)
    (ap (λ n. Some (name_front b (bs ++ rest) n)) size ∙ ap (λ l. Some (record { word = Name (b ∷ l); after = length bs })) (take-append_seam bs rest))

pub name_spells : (name : List ℕ) → is_name name ≡ true → Spells name (Name name ∷ [])
name_spells [] h = absurd (let e : false ≡ true = h in cc)
name_spells (b ∷ bs) h =
    let both = and_parts (name_start b) (list_all name_rest bs) h in
    record {
      reads = λ rest r. name_read b bs rest both.0 both.1 r;
      one_line = ap (λ (t : Bool). t && list_all in_line bs) (in_name b (or_left b both.0)) ∙ all_in_line name_rest in_name bs both.1;
    }
