-- If an image (an executable program) is written as bytes in version 1 or 2, reading these bytes gives the same image and version.
use Rattle.std.proofs.Common.{◌≡◌, ℕ, inl, inr, suc, ◌+◌, ◌*◌, ◌<◌, true, false, List, [], ◌∷◌, ◌++◌, length, take, drop, flat_map, None, refl, sym, ◌∙◌, arith}
use Rattle.std.specs.Prelude.{nat_lt, bytes_eq}
use Rattle.std.specs.List.{AllByRecursion}
use Rattle.std.proofs.Math.ListN.{length-append}
use Rattle.std.proofs.lemmas.List.{drop-drop}
use Rattle.mips_isa.specs.ImageBounds.{ImageParts, IsImage}
use Rattle.mips_image.specs.declared.stored_image.TheConstants.{MAGIC}
use Rattle.mips_image.specs.ImageBytes.{word_bytes, IsVersion, image_bytes}
use Rattle.mips_image.specs.ImageReading.{word_at, words_at, is_version, are_sizes, size_of, first_fault, parts_of}

same_cons : {a b : ℕ} {xs ys : List ℕ} → a ≡ b → xs ≡ ys → a ∷ xs ≡ b ∷ ys
same_cons e f = cc

-- a number is read from its bytes
word_at-word_bytes : (n : ℕ) (rest : List ℕ) → n < 4294967296 → word_at (word_bytes n ++ rest) 0 ≡ n
unfolding word_at
word_at-word_bytes n rest h = omega arith

-- numbers are read from their bytes
words_at-word_bytes : (words rest : List ℕ) → AllByRecursion (λ n. n < 4294967296) words → words_at (length words) (flat_map word_bytes words ++ rest) ≡ words
words_at-word_bytes [] rest h = refl
words_at-word_bytes (n ∷ words) rest h =
    same_cons (word_at-word_bytes n (flat_map word_bytes words ++ rest) h.0) (words_at-word_bytes words rest h.1)

-- after the words stands the rest
drop-word_bytes : (words rest : List ℕ) → drop (4 * length words) (flat_map word_bytes words ++ rest) ≡ rest
drop-word_bytes [] rest = refl
drop-word_bytes (n ∷ words) rest =
    let count : 4 * suc (length words) ≡ suc (suc (suc (suc (4 * length words)))) = omega arith in
    rw count (drop-word_bytes words rest)

-- the bytes of words are four for each
length-word_bytes : (words : List ℕ) → length (flat_map word_bytes words) ≡ 4 * length words
length-word_bytes [] = refl
length-word_bytes (n ∷ words) = omega (arith, length-word_bytes words)

-- a version has 32 bits
small_version : (v : ℕ) → IsVersion v → v < 4294967296
small_version v (inl e) = omega (arith, e)
small_version v (inr e) = omega (arith, e)

-- a version passes the test
known_version : (v : ℕ) → IsVersion v → is_version v ≡ true
known_version v (inl e) = rw e refl
known_version v (inr e) = rw e refl

-- the numbers of the header are read
pub version_read : (v : ℕ) (i : ImageParts) → IsVersion v → word_at (image_bytes v i) 4 ≡ v
unfolding word_at
version_read v i h = omega (arith, small_version v h)

words_read : (v : ℕ) (i : ImageParts) → length i.text < 4294967296 → word_at (image_bytes v i) 8 ≡ length i.text
unfolding word_at
words_read v i h = omega arith

data_bytes_read : (v : ℕ) (i : ImageParts) → length i.bytes < 4294967296 → word_at (image_bytes v i) 12 ≡ length i.bytes
unfolding word_at
data_bytes_read v i h = omega arith

entry_read : (v : ℕ) (i : ImageParts) → i.entry < 4294967296 → word_at (image_bytes v i) 16 ≡ i.entry
unfolding word_at
entry_read v i h = omega arith

-- the sizes of an image are in range
sizes_in_range : (i : ImageParts) → IsImage i → are_sizes (length i.text) (length i.bytes) i.entry ≡ true
sizes_in_range i h = grind (arith, h.some_text, h.text, h.bytes, h.even, h.from, h.to)

-- the number of bytes
length-image_bytes : (v : ℕ) (i : ImageParts) → length (image_bytes v i) ≡ size_of (length i.text) (length i.bytes)
length-image_bytes v i = omega (arith, length-append (flat_map word_bytes i.text) i.bytes, length-word_bytes i.text)

-- bytes that pass each test have no fault
passes_all : (bytes : List ℕ) (words data_bytes entry : ℕ) → nat_lt (length bytes) 20 ≡ false → bytes_eq (take 4 bytes) MAGIC ≡ true → is_version (word_at bytes 4) ≡ true → word_at bytes 8 ≡ words → word_at bytes 12 ≡ data_bytes → word_at bytes 16 ≡ entry → are_sizes words data_bytes entry ≡ true → length bytes ≡ size_of words data_bytes → first_fault bytes ≡ None
unfolding first_fault
passes_all bytes words data_bytes entry long begins version w d e sizes size =
    let no_less : nat_lt (length bytes) (size_of words data_bytes) ≡ false = grind arith in
    let no_more : nat_lt (size_of words data_bytes) (length bytes) ≡ false = grind arith in
    rw (long, begins, version, w, d, e, sizes, no_less, no_more)

-- the numbers of an image have 32 bits
pub entry_small : (i : ImageParts) → IsImage i → i.entry < 4294967296
entry_small i h = omega (arith, h.to, h.text)

-- the bytes of an image have no fault
pub no_fault : (v : ℕ) (i : ImageParts) → IsVersion v → IsImage i → first_fault (image_bytes v i) ≡ None
no_fault v i is h =
    let long : nat_lt (length (image_bytes v i)) 20 ≡ false = grind (arith, length-image_bytes v i) in
    passes_all (image_bytes v i) (length i.text) (length i.bytes) i.entry long refl (rw (version_read v i is) (known_version v is)) (words_read v i (omega (arith, h.text)))
    (data_bytes_read v i (omega (arith, h.bytes))) (entry_read v i (entry_small i h)) (sizes_in_range i h) (length-image_bytes v i)

same_parts : (e e' : ℕ) (t t' b b' : List ℕ) → e ≡ e' → t ≡ t' → b ≡ b' → ◌≡◌ {A = ImageParts} (record { entry = e; text = t; bytes = b }) (record { entry = e'; text = t'; bytes = b' })
same_parts e e' t t' b b' p q r = cc

-- its parts are read
pub parts_read : (v : ℕ) (i : ImageParts) → IsImage i → AllByRecursion (λ n. n < 4294967296) i.text → parts_of (image_bytes v i) ≡ i
parts_read v i h small =
    let behind = flat_map word_bytes i.text ++ i.bytes in
    let words = words_read v i (omega (arith, h.text)) in
    let text : words_at (word_at (image_bytes v i) 8) behind ≡ i.text = rw words (words_at-word_bytes i.text i.bytes small) in
    let rest : drop (20 + 4 * word_at (image_bytes v i) 8) (image_bytes v i) ≡ i.bytes =
    rw words (sym (drop-drop (4 * length i.text) 20 (image_bytes v i)) ∙ drop-word_bytes i.text i.bytes) in
    same_parts _ i.entry _ i.text _ i.bytes (entry_read v i (entry_small i h)) text rest
