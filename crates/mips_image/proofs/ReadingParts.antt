-- Bytes that pass the tests of the reader have as many words of text and bytes of data as their header says, and these sizes are those of a valid image (an
-- executable program).
use Rattle.std.proofs.Common.{◌≡◌, ℕ, suc, zero, ◌+◌, ◌-◌, ◌*◌, ◌%◌, ◌<◌, ◌≤◌, true, List, [], ◌∷◌, ◌++◌, length, drop, refl, ◌∙◌, ap, append_assoc, arith}
use Rattle.mips_isa.specs.declared.address_map.TheConstants.{TEXT_START}
use Rattle.mips_isa.specs.ImageBounds.{ImageParts, IsImage}
use Rattle.mips_image.specs.ImageReading.{word_at, words_at, are_sizes}

-- one more number
pub words_at-turn : (count turn : ℕ) (words rest behind : List ℕ) (word : ℕ) (all : List ℕ) → turn < count → behind ≡ drop 4 rest → word ≡ word_at rest 0 → words ++ words_at (count - turn) rest ≡ all → (words ++ word ∷ []) ++ words_at (count - (turn + 1)) behind ≡ all
words_at-turn count turn words rest behind word all h b w so_far =
    let left : count - turn ≡ suc (count - (turn + 1)) = omega arith in
    let more : words ++ words_at (suc (count - (turn + 1))) rest ≡ all = rw left at so_far in
    append_assoc words (word ∷ []) (words_at (count - (turn + 1)) behind) ∙ rw (b, w) more

-- as many as were asked for
pub length-words_at : (n : ℕ) (bytes : List ℕ) → length (words_at n bytes) ≡ n
length-words_at zero bytes = refl
length-words_at (suc n) bytes = ap suc (length-words_at n (drop 4 bytes))

-- the test of the sizes, as inequalities
pub sizes_hold : (words data_bytes entry : ℕ) → are_sizes words data_bytes entry ≡ true → (1 ≤ words) × (words ≤ 66060288) × (data_bytes ≤ 268435456) × (entry % 4 ≡ 0) × (TEXT_START ≤ entry) × (entry < TEXT_START + 4 * words)
sizes_hold words data_bytes entry h =
    (grind arith, grind arith, grind arith, grind arith, grind arith, grind arith)

-- parts of these sizes are an image
pub sizes_of_image : (i : ImageParts) (words data_bytes : ℕ) → are_sizes words data_bytes i.entry ≡ true → length i.text ≡ words → length i.bytes ≡ data_bytes → IsImage i
sizes_of_image i words data_bytes h t d =
    let sizes = sizes_hold words data_bytes i.entry h in
    record {
      some_text = omega (arith, sizes.0, t);
      text = omega (arith, sizes.1, t);
      bytes = omega (arith, sizes.2, d);
      even = sizes.3;
      from = sizes.4;
      to = omega (arith, sizes.5, t);
    }
