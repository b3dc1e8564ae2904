-- A file name that passes the command line's check has at most 4,096 bytes, and none of them is 0.
use Rattle.std.proofs.Common.{◌≡◌, ℕ, ◌<◌, ◌≤◌, Bool, true, false, List, [], ◌∷◌, refl, subst, arith}
use Rattle.std.specs.Prelude.{◌||◌, String, string_bytes, cond, not, ◌==◌, encode_utf8_all, nat_le, nat_lt, length}
use Rattle.std.specs.List.{AllByRecursion, list_all, list_any}
use Rattle.std.specs.Char.{encode_utf8, IsScalar}
use Rattle.std.specs.Str.{all_scalars}
use Rattle.std.specs.Global.{Global}
use Rattle.std.proofs.lemmas.Bool.{and_parts, leb-true, ltb-true}
use Rattle.std.proofs.lemmas.Str.{IsUtf8-string_bytes}
use Rattle.lists.specs.Bytes.{AreBytes}
use Rattle.lists.proofs.AllItems.{all_append}
use Rattle.cool_words.specs.declared.names.TheConstants.{MOST_NAME_BYTES}
use Rattle.cool_words.specs.Plans.{is_file_name, words_of}

cond_bytes : (x : Bool) (a b : List ℕ) → (x ≡ true → AreBytes a) → (x ≡ false → AreBytes b) → AreBytes (cond x a b)
cond_bytes true a b h k = h refl
cond_bytes false a b h k = k refl

-- the bytes of a character
encoded : (c : ℕ) → IsScalar c → AreBytes (encode_utf8 c)
unfolding encode_utf8
encoded c scalar =
    let small : c < 1114112 = grind (arith, scalar) in
    cond_bytes (nat_lt c 128) _ _ (λ e. (let less = ltb-true c 128 e in omega arith, tt)) (λ _.
    cond_bytes (nat_lt c 2048) _ _ (λ e. (let less = ltb-true c 2048 e in omega arith, (omega arith, tt))) (λ _.
    cond_bytes (nat_lt c 65536) _ _ (λ e. (let less = ltb-true c 65536 e in omega arith, (omega arith, (omega arith, tt)))) (λ _.
    (omega arith, (omega arith, (omega arith, (omega arith, tt)))))))

encoded_all : (cs : List ℕ) → all_scalars cs ≡ true → AreBytes (encode_utf8_all cs)
encoded_all [] e = tt
encoded_all (c ∷ cs) e =
    let parts = and_parts _ (all_scalars cs) e in
    all_append (λ b. b < 256) (encode_utf8 c) (encode_utf8_all cs) (encoded c parts.0) (encoded_all cs parts.1)

text_bytes : (s : String Global) → AreBytes (string_bytes s)
text_bytes s =
    let utf8 = IsUtf8-string_bytes s in
    subst AreBytes utf8.1.1 (encoded_all utf8.0 utf8.1.0)

-- bytes of which none is 0
not_zero : (bytes : List ℕ) → AreBytes bytes → not (list_any (λ b. b == 0) bytes) ≡ true → AllByRecursion (λ b. (0 < b) × (b < 256)) bytes
not_zero [] h e = tt
not_zero (b ∷ bytes) h e =
    let some : (0 < b) × (not (list_any (λ b. b == 0) bytes) ≡ true) = by b (list_any (λ b. b == 0) bytes) e in
    ((some.0, h.0), not_zero bytes h.1 some.1)
  where
    by : (b : ℕ) (rest : Bool) → not ((b == 0) || rest) ≡ true → (0 < b) × (not rest ≡ true)
    by b rest e = (grind (arith, e), grind (arith, e))

-- names of files are such texts
pub text_names : (names : List (String Global)) → list_all is_file_name (words_of names) ≡ true
    → AllByRecursion (AllByRecursion (λ b. (0 < b) × (b < 256))) (words_of names)
text_names [] good = tt
text_names (name ∷ names) good =
    let each = and_parts (is_file_name (string_bytes name)) (list_all is_file_name (words_of names)) good in
    let bytes = string_bytes name in
    let parts = and_parts (nat_le (length bytes) MOST_NAME_BYTES) (not (list_any (λ b. b == 0) bytes)) each.0 in
    (not_zero bytes (text_bytes name) parts.1, text_names names each.1)

-- and short
pub short_names : (names : List (List ℕ)) → list_all is_file_name names ≡ true → AllByRecursion (λ name. length name ≤ MOST_NAME_BYTES) names
short_names [] good = tt
short_names (name ∷ names) good =
    let each = and_parts (is_file_name name) (list_all is_file_name names) good in
    let parts = and_parts (nat_le (length name) MOST_NAME_BYTES) (not (list_any (λ b. b == 0) name)) each.0 in
    (leb-true (length name) MOST_NAME_BYTES parts.0, short_names names each.1)
