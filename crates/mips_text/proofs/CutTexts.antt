-- The lines of an assembly text contain no newline, and with the newlines after them they are the text again.
use Rattle.std.proofs.Common.{◌≡◌, ◌∙◌, ap, refl, arith, ℕ, ◌<◌, Bool, true, false, List, [], ◌∷◌, ◌++◌, length}
use Rattle.std.specs.Prelude.{not, ◌&&◌, ◌==◌}
use Rattle.std.specs.List.{AllByRecursion, list_all}
use Rattle.std.proofs.lemmas.Bool.Decides.{nat_tests}
use Rattle.mips_text.specs.Laws.{AreLinesOf, HasNoNewline, IsCutIn, ended}
use Rattle.mips_text.specs.Laws.IsCutIn.{all_ended, with_rest}
use Rattle.mips_text.specs.Reading.{lines_in, with_byte}

is_newline : (b : ℕ) → (b == 10) ≡ true → b ≡ 10
is_newline b h = grind (arith, nat_tests)

-- a newline before a text
newline_before : (b : ℕ) (bs : List ℕ) (lines : List (List ℕ)) → b ≡ 10 → IsCutIn bs lines → IsCutIn (b ∷ bs) ([] ∷ lines)
newline_before b bs lines h (all_ended e) = all_ended (λ i. h i ∷ e i)
newline_before b bs lines h (with_rest front last e s f) = with_rest ([] ∷ front) last (ap (λ l. [] ∷ l) e) s (λ i. h i ∷ f i)

-- no lines end in one
no_last : (front : List (List ℕ)) (last : List ℕ) → [] ≡ front ++ last ∷ [] → ⊥
no_last [] last e = absurd (cc)
no_last (x ∷ xs) last e = absurd (cc)

-- another byte before a text without lines
byte_alone : (b : ℕ) (bs : List ℕ) → IsCutIn bs [] → IsCutIn (b ∷ bs) ((b ∷ []) ∷ [])
byte_alone b bs (all_ended e) = with_rest [] (b ∷ []) refl (omega arith) (ap (λ l. b ∷ l) e)
byte_alone b bs (with_rest front last e s f) = absurd (no_last front last e)

-- and before one with a first line
into_first : (b : ℕ) (bs line : List ℕ) (lines front : List (List ℕ)) (last : List ℕ) → line ∷ lines ≡ front ++ last ∷ [] → 0 < length last → bs ≡ ended front ++ last → IsCutIn (b ∷ bs) ((b ∷ line) ∷ lines)
into_first b bs line lines [] last e s f =
    let same : line ≡ last = cc in
    let none : lines ≡ [] = cc in
    with_rest [] (b ∷ last) (λ i. (b ∷ same i) ∷ none i) (omega arith) (ap (λ l. b ∷ l) f)
into_first b bs line lines (x ∷ xs) last e s f =
    let same : line ≡ x = cc in
    let rest : lines ≡ xs ++ last ∷ [] = cc in
    with_rest ((b ∷ x) ∷ xs) last (λ i. (b ∷ same i) ∷ rest i) s (ap (λ l. b ∷ l) f)

byte_before : (b : ℕ) (bs line : List ℕ) (lines : List (List ℕ)) → IsCutIn bs (line ∷ lines) → IsCutIn (b ∷ bs) ((b ∷ line) ∷ lines)
byte_before b bs line lines (all_ended e) = all_ended (ap (λ l. b ∷ l) e)
byte_before b bs line lines (with_rest front last e s f) = into_first b bs line lines front last e s f

-- another byte before a text
before_by : (b : ℕ) (bs : List ℕ) (lines : List (List ℕ)) → (b == 10) ≡ false → AllByRecursion HasNoNewline lines → IsCutIn bs lines → AreLinesOf (b ∷ bs) (with_byte b lines)
before_by b bs [] h all cut = ((ap (λ (t : Bool). not t && true) h, tt), byte_alone b bs cut)
before_by b bs (line ∷ lines) h all cut = ((ap (λ (t : Bool). not t && list_all (λ c. not (c == 10)) line) h ∙ all.0, all.1), byte_before b bs line lines cut)

cut_by : (b : ℕ) (bs : List ℕ) (newline : Bool) → (b == 10) ≡ newline → AreLinesOf bs (lines_in bs) → AreLinesOf (b ∷ bs) (lines_in (b ∷ bs))
cut_by b bs true h (all, cut) = rw h ((refl, all), newline_before b bs (lines_in bs) (is_newline b h) cut)
cut_by b bs false h (all, cut) = rw h (before_by b bs (lines_in bs) h all cut)

pub text_is_cut : (bytes : List ℕ) → AreLinesOf bytes (lines_in bytes)
text_is_cut [] = (tt, all_ended refl)
text_is_cut (b ∷ bs) = cut_by b bs (b == 10) refl (text_is_cut bs)
