-- Searching for a mnemonic by its name only among those with the same first letter finds the same result as searching among all.
use Rattle.std.proofs.Common.{◌≡◌, ◌≢◌, ap, refl, arith, ℕ, zero, suc, ◌+◌, ◌<◌, ◌≤◌, Bool, true, false, cond, List, [], ◌∷◌, length, map, take, drop, get_or, filter, find, Decides}
use Rattle.std.specs.Prelude.{◌==◌, ◌||◌, not, bytes_eq, Some, None}
use Rattle.std.specs.List.{list_all}
use Rattle.std.proofs.lemmas.Bool.{and_parts, not-true}
use Rattle.std.proofs.lemmas.Bool.Decides.{nat_tests}
use Rattle.std.proofs.lemmas.Slice.Eq.{bytes_eq-Decides}
use Rattle.mips_text.specs.declared.mnemonics.Mnemonic.{Mnemonic}
use Rattle.mips_text.specs.Names.{all_mnemonics, begins_with, mnemonic_named, mnemonic_text}
use Rattle.mips_text.specs.Operands.{place_from}

-- a text that begins with another letter is no name that begins with this one
other_letter : (letter : ℕ) (text name : List ℕ) → 1 ≤ length name → get_or name 0 0 ≡ letter → begins_with letter text ≡ false → bytes_eq text name ≡ false
other_letter letter text [] some first other = absurd (omega arith)
other_letter letter [] (c ∷ name) some first other = refl
other_letter letter (b ∷ text) (c ∷ name) some first other =
    let unlike : (b == c) ≡ false = rw first other in
    rw unlike refl

-- the first item with a property is the same among the items that a test keeps, if no item that is not kept has the property
find_kept : {X : Type 0} (test keeps : X → Bool) (x : X) (xs : List X) (kept : Bool) → (kept ≡ false → test x ≡ false) → find test (filter keeps xs) ≡ find test xs
    → find test (cond kept (x ∷ filter keeps xs) (filter keeps xs)) ≡ cond (test x) (Some x) (find test xs)
find_kept test keeps x xs true fails same = ap (λ found. cond (test x) (Some x) found) same
find_kept test keeps x xs false fails same = rw (fails refl) same

-- so a name is looked for among the mnemonics that begin with its first letter
pub found_by_letter : (letter : ℕ) (name : List ℕ) (ms : List Mnemonic) → 1 ≤ length name → get_or name 0 0 ≡ letter
    → find (λ m. bytes_eq (mnemonic_text m) name) (filter (λ m. begins_with letter (mnemonic_text m)) ms) ≡ find (λ m. bytes_eq (mnemonic_text m) name) ms
found_by_letter letter name [] some first = refl
found_by_letter letter name (m ∷ ms) some first =
    find_kept (λ n. bytes_eq (mnemonic_text n) name) (λ n. begins_with letter (mnemonic_text n)) m ms (begins_with letter (mnemonic_text m))
    (other_letter letter (mnemonic_text m) name some first) (found_by_letter letter name ms some first)

-- the first letters of mnemonics
abbrev begins : ℕ → Bool
begins b = b == 97 || b == 98 || b == 100 || b == 106 || b == 108 || b == 109 || b == 110 || b == 111 || b == 115 || b == 120

abbrev begins_mnemonic : List ℕ → Bool
begins_mnemonic [] = false
begins_mnemonic (b ∷ bs) = begins b

-- a word that fails a test which a spelling passes is not spelled so
unlike_spelling : (test : List ℕ → Bool) (spelling word : List ℕ) (same : Bool) → Decides same (spelling ≡ word) → test spelling ≡ true → test word ≡ false → same ≡ false
unlike_spelling test spelling word false decides passes fails = refl
unlike_spelling test spelling word true decides passes fails =
    absurd (let equal = decides.0 refl in let both : test spelling ≡ test word = ap test equal in cc)

-- a word that fails a test which the names of all these mnemonics pass is none of them
none_spelled : (test : List ℕ → Bool) (ms : List Mnemonic) (word : List ℕ) → test word ≡ false → list_all (λ m. test (mnemonic_text m)) ms ≡ true
    → None ≡ find (λ m. bytes_eq (mnemonic_text m) word) ms
none_spelled test [] word fails all = refl
none_spelled test (m ∷ ms) word fails all =
    let h = and_parts (test (mnemonic_text m)) (list_all (λ n. test (mnemonic_text n)) ms) all in
    let other : bytes_eq (mnemonic_text m) word ≡ false = unlike_spelling test (mnemonic_text m) word (bytes_eq (mnemonic_text m) word) (bytes_eq-Decides (mnemonic_text m) word) h.0 fails in
    rw other (none_spelled test ms word fails h.1)

-- numbers that differ are told apart
differs : (a b : ℕ) → a ≢ b → (a == b) ≡ false
differs a b h = grind (arith, nat_tests)

-- no mnemonic begins with another byte
pub none_with : (name : List ℕ) → get_or name 0 0 ≢ 97 → get_or name 0 0 ≢ 98 → get_or name 0 0 ≢ 100 → get_or name 0 0 ≢ 106 → get_or name 0 0 ≢ 108
    → get_or name 0 0 ≢ 109 → get_or name 0 0 ≢ 110 → get_or name 0 0 ≢ 111 → get_or name 0 0 ≢ 115 → get_or name 0 0 ≢ 120 → None ≡ mnemonic_named name
unfolding mnemonic_named
none_with [] a b d j l m n o s x = refl
none_with (c ∷ name) a b d j l m n o s x =
    let unknown : begins c ≡ false =
    rw (differs c 97 a, differs c 98 b, differs c 100 d, differs c 106 j, differs c 108 l, differs c 109 m, differs c 110 n, differs c 111 o, differs c 115 s, differs c 120 x) refl in
    none_spelled begins_mnemonic all_mnemonics (c ∷ name) unknown refl

-- nor is the empty name one
pub none_empty : (name : List ℕ) → length name < 1 → None ≡ mnemonic_named name
unfolding mnemonic_named
none_empty [] short = refl
none_empty (b ∷ name) short = absurd (omega arith)

-- a name has the same place in a table where it is looked for behind texts that begin with another letter
pub place_behind : {X : Type 0} (seen : X → List ℕ) (xs : List X) (passed start place letter : ℕ) (name : List ℕ) → start + passed ≡ place
    → 1 ≤ length name → get_or name 0 0 ≡ letter → list_all (λ text. not (begins_with letter text)) (take passed (map seen xs)) ≡ true
    → place_from place (map seen (drop passed xs)) name ≡ place_from start (map seen xs) name
place_behind seen xs zero start place letter name there some first others = ap (λ k. place_from k (map seen xs) name) (omega arith)
place_behind seen [] (suc passed) start place letter name there some first others = refl
place_behind seen (x ∷ xs) (suc passed) start place letter name there some first others =
    let parts = and_parts (not (begins_with letter (seen x))) (list_all (λ text. not (begins_with letter text)) (take passed (map seen xs))) others in
    let other : bytes_eq (seen x) name ≡ false = other_letter letter (seen x) name some first (not-true (begins_with letter (seen x)) parts.0) in
    rw other (place_behind seen xs passed (start + 1) place letter name (omega arith) some first parts.1)
