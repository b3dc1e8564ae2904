-- Bytes in which the reader finds no error are exactly the bytes of the image (the executable program) that it reads from them.
use Rattle.std.proofs.Common.{◌≡◌, ℕ, suc, zero, ◌+◌, ◌*◌, ◌^◌, ◌<◌, ◌≤◌, Bool, true, false, not, cond, List, [], ◌∷◌, ◌++◌, length, take, drop, get_or, flat_map, Some, None, inl, inr, refl, sym, ◌∙◌, ap, append_assoc, arith}
use Rattle.std.specs.Prelude.{Option, nat_lt, bytes_eq, ◌==◌}
use Rattle.std.specs.List.{AllByRecursion}
use Rattle.std.proofs.lemmas.List.{take-append-drop, drop-drop, get_or-drop}
use Rattle.std.proofs.Math.ListN.{length-drop}
use Rattle.std.proofs.lemmas.Slice.Eq.{bytes_eq-Decides}
use Rattle.mips_isa.specs.ImageBounds.{IsImage}
use Rattle.mips_image.specs.declared.stored_image.TheConstants.{MAGIC}
use Rattle.mips_image.specs.ImageBytes.{word_bytes, IsVersion, image_bytes, HasWords}
use Rattle.mips_image.specs.ImageReading.{word_at, words_at, is_version, are_sizes, size_of, first_fault, parts_of}
use Rattle.mips_image.proofs.ReadingParts.{length-words_at, sizes_of_image}
use Rattle.std.proofs.lemmas.Bool.{not-false}

-- each number of a list is a byte
abbrev pub AreBytes : List ℕ → Type 0
AreBytes bytes = (i : ℕ) → get_or bytes i 0 < 256

pub drop_bytes : (k : ℕ) (bytes : List ℕ) → AreBytes bytes → AreBytes (drop k bytes)
drop_bytes k bytes h i = rw get_or-drop (h (k + i))

same_four : {a b c d e f g h : ℕ} {xs : List ℕ} → a ≡ e → b ≡ f → c ≡ g → d ≡ h → a ∷ b ∷ c ∷ d ∷ xs ≡ e ∷ f ∷ g ∷ h ∷ xs
same_four p q r s = cc

-- four bytes are the bytes of the number that is read from them
four_bytes : (bytes : List ℕ) → 4 ≤ length bytes → AreBytes bytes → bytes ≡ word_bytes (word_at bytes 0) ++ drop 4 bytes
unfolding word_at
four_bytes [] h f = absurd (omega arith)
four_bytes (a ∷ []) h f = absurd (omega arith)
four_bytes (a ∷ b ∷ []) h f = absurd (omega arith)
four_bytes (a ∷ b ∷ c ∷ []) h f = absurd (omega arith)
four_bytes (a ∷ b ∷ c ∷ d ∷ rest) h f =
    same_four (omega (arith, f 0, f 1, f 2, f 3)) (omega (arith, f 0, f 1, f 2, f 3)) (omega (arith, f 0, f 1, f 2, f 3)) (omega (arith, f 0, f 1, f 2, f 3))

-- so many numbers stand at the front
words_first : (n : ℕ) (bytes : List ℕ) → 4 * n ≤ length bytes → AreBytes bytes → bytes ≡ flat_map word_bytes (words_at n bytes) ++ drop (4 * n) bytes
words_first zero bytes h f = refl
words_first (suc n) bytes h f =
    let later = words_first n (drop 4 bytes) (omega (arith, length-drop 4 bytes)) (drop_bytes 4 bytes f) in
    let behind : drop (4 * n) (drop 4 bytes) ≡ drop (4 * suc n) bytes = drop-drop (4 * n) 4 bytes ∙ ap (λ k. drop k bytes) (omega arith) in
    let front = word_bytes (word_at bytes 0) in
    let words = flat_map word_bytes (words_at n (drop 4 bytes)) in
    four_bytes bytes (omega arith) f ∙ ap (λ xs. front ++ xs) (later ∙ ap (λ xs. words ++ xs) behind) ∙ sym (append_assoc front words (drop (4 * suc n) bytes))

-- a number stands at a place
number_first : (bytes : List ℕ) (k : ℕ) → k + 4 ≤ length bytes → AreBytes bytes → drop k bytes ≡ word_bytes (word_at bytes k) ++ drop (k + 4) bytes
unfolding word_at
number_first bytes k h f = four_bytes (drop k bytes) (omega (arith, length-drop k bytes)) (drop_bytes k bytes f) ∙ ap (λ xs. word_bytes (word_at bytes k) ++ xs) (drop-drop 4 k bytes)

-- a test that was passed
pub passed : {X : Type 0} (failed : Bool) (fault : X) (rest : Option X) → cond failed (Some fault) rest ≡ None → (failed ≡ false) × (rest ≡ None)
passed true fault rest e = absurd cc
passed false fault rest e = (refl, e)

-- the number that passes the test is a version
version_known : (v : ℕ) → is_version v ≡ true → IsVersion v
version_known v h = by (v == 1) refl where
  by : (b : Bool) → (v == 1) ≡ b → IsVersion v
  by true e = inl (grind (arith, e))
  by false e = inr (grind (arith, e, h))

-- The properties of bytes without a fault.
record Sound (bytes : List ℕ) : Type 0 where
  long : 20 ≤ length bytes
  begins : take 4 bytes ≡ MAGIC
  version : IsVersion (word_at bytes 4)
  sizes : are_sizes (word_at bytes 8) (word_at bytes 12) (word_at bytes 16) ≡ true
  size : length bytes ≡ size_of (word_at bytes 8) (word_at bytes 12)

sound : (bytes : List ℕ) → first_fault bytes ≡ None → Sound bytes
unfolding first_fault
sound bytes e =
    let a = passed (nat_lt (length bytes) 20) _ _ e in
    let b = passed (not (bytes_eq (take 4 bytes) MAGIC)) _ _ a.1 in
    let c = passed (not (is_version (word_at bytes 4))) _ _ b.1 in
    let d = passed (not (are_sizes (word_at bytes 8) (word_at bytes 12) (word_at bytes 16))) _ _ c.1 in
    let size = size_of (word_at bytes 8) (word_at bytes 12) in
    let f = passed (nat_lt (length bytes) size) _ _ d.1 in
    let g = passed (nat_lt size (length bytes)) _ _ f.1 in
    let long = a.0 in
    let no_less = f.0 in
    let no_more = g.0 in
    record {
      long = grind arith;
      begins = (bytes_eq-Decides _ _).0 (not-false _ b.0);
      version = version_known (word_at bytes 4) (not-false _ c.0);
      sizes = not-false _ d.0;
      size = grind arith;
    }

-- bytes without a fault are those of the image that is read from them
pub bytes_of_image : (bytes : List ℕ) → AreBytes bytes → first_fault bytes ≡ None → bytes ≡ image_bytes (word_at bytes 4) (parts_of bytes)
bytes_of_image bytes f e =
    let s = sound bytes e in
    let words = word_at bytes 8 in
    let rest = drop 20 bytes in
    let text = length-words_at words rest in
    let data_bytes : length (drop (20 + 4 * words) bytes) ≡ word_at bytes 12 = omega (arith, length-drop (20 + 4 * words) bytes, s.size) in
    let front : bytes ≡ MAGIC ++ drop 4 bytes = sym (take-append-drop 4 bytes) ∙ ap (λ xs. xs ++ drop 4 bytes) s.begins in
    let at4 = number_first bytes 4 (omega (arith, s.long)) f in
    let at8 = number_first bytes 8 (omega (arith, s.long)) f in
    let at12 = number_first bytes 12 (omega (arith, s.long)) f in
    let at16 = number_first bytes 16 (omega (arith, s.long)) f in
    let at20 = words_first words rest (omega (arith, length-drop 20 bytes, s.size)) (drop_bytes 20 bytes f) in
    let behind : drop (4 * words) rest ≡ drop (20 + 4 * words) bytes = drop-drop (4 * words) 20 bytes in
    let flat = flat_map word_bytes (words_at words rest) in
    let tail = at20 ∙ ap (λ xs. flat ++ xs) behind in
    let all = front ∙ ap (λ xs. MAGIC ++ xs) (at4 ∙ ap (λ xs. word_bytes (word_at bytes 4) ++ xs) (at8 ∙ ap (λ xs. word_bytes words ++ xs) (at12
    ∙ ap (λ xs. word_bytes (word_at bytes 12) ++ xs) (at16 ∙ ap (λ xs. word_bytes (word_at bytes 16) ++ xs) tail)))) in
    rw (text, data_bytes) all

-- bytes without a fault have a version that is known
pub version_of_image : (bytes : List ℕ) → first_fault bytes ≡ None → IsVersion (word_at bytes 4)
version_of_image bytes e = (sound bytes e).version

-- the number in four bytes has 32 bits
small_word : (bytes : List ℕ) (place : ℕ) → AreBytes bytes → word_at bytes place < 2 ^ 32
unfolding word_at
small_word bytes place f =
    let at : (i : ℕ) → get_or (drop place bytes) i 0 < 256 = λ i. rw get_or-drop (f (place + i)) in
    omega (arith, at 0, at 1, at 2, at 3)

small_words : (n : ℕ) (bytes : List ℕ) → AreBytes bytes → AllByRecursion (λ word. word < 2 ^ 32) (words_at n bytes)
small_words zero bytes f = tt
small_words (suc n) bytes f = (small_word bytes 0 f, small_words n (drop 4 bytes) (drop_bytes 4 bytes f))

-- the image read from bytes without a fault has the bounds of an image, and words of 32 bits
pub image_in_bounds : (bytes : List ℕ) → AreBytes bytes → first_fault bytes ≡ None → IsImage (parts_of bytes) × HasWords (parts_of bytes)
image_in_bounds bytes f e =
    let s = sound bytes e in
    let words = word_at bytes 8 in
    let data_bytes : length (drop (20 + 4 * words) bytes) ≡ word_at bytes 12 = omega (arith, length-drop (20 + 4 * words) bytes, s.size) in (
      sizes_of_image (parts_of bytes) words (word_at bytes 12) s.sizes (length-words_at words (drop 20 bytes)) data_bytes,
      small_words words (drop 20 bytes) (drop_bytes 20 bytes f),
    )
