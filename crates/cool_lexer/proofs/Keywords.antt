-- The only keyword of six letters is `isvoid`, no keyword has seven letters, and none has more than eight.
use Rattle.std.proofs.Common.{◌≡◌, ap, refl, arith, ℕ, ◌≤◌, Bool, true, false, List, [], ◌∷◌, length, map, Decides}
use Rattle.std.specs.Prelude.{◌==◌, not, ◌||◌, nat_lt, codes, bytes_eq, None}
use Rattle.std.specs.Char.{to_ascii_lowercase}
use Rattle.std.specs.List.{list_all}
use Rattle.std.proofs.lemmas.Bool.Decides.{nat_tests}
use Rattle.std.proofs.lemmas.Slice.Eq.{bytes_eq-Decides}
use Rattle.cool_syntax.specs.Lexemes.{Keyword, key_among, keywords, lower}
use Rattle.std.proofs.lemmas.Bool.{and_parts}
use Rattle.std.proofs.lemmas.List.{length-map}

-- a word that fails a test which a spelling passes is not spelled so
unlike : (q : List ℕ → Bool) (s w : List ℕ) (e : Bool) → Decides e (s ≡ w) → q s ≡ true → q w ≡ false → e ≡ false
unlike q s w false d passes fails = refl
unlike q s w true d passes fails = absurd (let same = d.0 refl in let both : q s ≡ q w = ap q same in cc)

-- a word that fails a test which all spellings pass is none of them
pub no_spelling : (q : List ℕ → Bool) (ks : List Keyword) (w : List ℕ) → q w ≡ false → list_all (λ k. q k.spelling) ks ≡ true → None ≡ key_among ks w
no_spelling q [] w fails all = refl
no_spelling q (k ∷ ks) w fails all =
    let h = and_parts (q k.spelling) (list_all (λ j. q j.spelling) ks) all in
    let other : bytes_eq k.spelling w ≡ false = unlike q k.spelling w (bytes_eq k.spelling w) (bytes_eq-Decides k.spelling w) h.0 fails in
    rw other (no_spelling q ks w fails h.1)

-- no keyword has seven letters
pub none_of_seven : (w : List ℕ) → length w ≡ 7 → None ≡ key_among keywords w
none_of_seven w h = no_spelling (λ s. not (length s == 7)) keywords w (rw h refl) refl

-- no keyword has more than eight letters
pub none_above_eight : (w : List ℕ) → 9 ≤ length w → None ≡ key_among keywords w
none_above_eight w h = no_spelling (λ s. nat_lt (length s) 9) keywords w (grind (arith, nat_tests)) refl

-- only isvoid has six letters
pub one_of_six : (w : List ℕ) → length w ≡ 6 → bytes_eq (codes "isvoid") w ≡ false → None ≡ key_among keywords w
one_of_six w h other = no_spelling (λ s. not (length s == 6) || bytes_eq (codes "isvoid") s) keywords w (rw h other) refl

-- small letters of std are those of Cool
lowers : (b : ℕ) → to_ascii_lowercase b ≡ lower b
lowers b = grind (arith, nat_tests)

pub lowered : (w : List ℕ) → map to_ascii_lowercase w ≡ map lower w
lowered [] = refl
lowered (b ∷ w) = rw (lowers b, lowered w) refl

-- so no longer word is a keyword in any case
pub none_longer : (w : List ℕ) → 9 ≤ length w → None ≡ key_among keywords (map lower w)
none_longer w h = none_above_eight (map lower w) (rw (length-map w lower) h)
