-- If the contents of the file system are known, each file name has exactly one content, so all readings of the same names give the same bytes.
use Rattle.std.proofs.Common.{◌≡◌, ℕ, zero, suc, ◌+◌, ◌-◌, ◌<◌, ◌≤◌, List, [], ◌∷◌, ◌++◌, length, length-append, Some, None, refl, sym, ◌∙◌, ap, append_assoc, arith}
use Rattle.std.specs.Prelude.{Option, Contains}
use Rattle.cool_ports.specs.{Counts.{last_count}, ShelfFiles.{FileMap, MayHold, AreHeld, IsMissing, IsLonger}}
use Rattle.cool_faults.specs.Files.{total}
use Rattle.cool_driver.specs.Sources.{EndsWith, GrewBy}

-- there are as many files as names
pub held_length : (told : Option FileMap) (names contents : List (List ℕ)) → AreHeld told names contents → length names ≡ length contents
held_length told [] [] held = refl
held_length told (name ∷ names) (bytes ∷ contents) held = ap suc (held_length told names contents held.1)
held_length told _ _ held = absurd held

-- lists that are one, and end with as many texts, end with the same
suffix_same : (before before' a b : List (List ℕ)) → before ++ a ≡ before' ++ b → length a ≡ length b → a ≡ b
suffix_same [] [] a b is same = is
suffix_same (x ∷ xs) (y ∷ ys) a b is same =
    let here : x ∷ (xs ++ a) ≡ y ∷ (ys ++ b) = is in
    let rest : xs ++ a ≡ ys ++ b = cc in
    suffix_same xs ys a b rest same
suffix_same [] (y ∷ ys) a b is same = absurd (omega (arith, ap length is, length-append (y ∷ ys) b, same))
suffix_same (x ∷ xs) [] a b is same = absurd (omega (arith, ap length is, length-append (x ∷ xs) a, same))

-- the bytes that the shelf holds under a name are unique
same_bytes : (found : Option (List ℕ)) (a b : List ℕ) → found ≡ Some a → found ≡ Some b → a ≡ b
same_bytes found a b p q = cc

-- the contents of names are one list
pub held_same : (files : FileMap) (names a b : List (List ℕ)) → AreHeld (Some files) names a → AreHeld (Some files) names b → a ≡ b
held_same files [] [] [] p q = refl
held_same files (name ∷ names) (x ∷ xs) (y ∷ ys) p q =
    let first = same_bytes (files name) x y p.0 q.0 in
    let rest = held_same files names xs ys p.1 q.1 in
    cc
held_same files _ _ _ p q = search

-- no named file is missing
pub none_missing : (files : FileMap) (names contents : List (List ℕ)) (name : List ℕ) → AreHeld (Some files) names contents → Contains names name → files name ≡ None → ⊥
none_missing files [] contents name held (k, below, is) gone = omega arith
none_missing files (n ∷ names) [] name held (k, below, is) gone = held
none_missing files (n ∷ names) (bytes ∷ contents) name held (zero, below, is) gone =
    let there : files name ≡ Some bytes = ap files (sym is) ∙ held.0 in
    cc
none_missing files (n ∷ names) (bytes ∷ contents) name held (suc k, below, is) gone = none_missing files names contents name held.1 (k, omega arith, is) gone

-- the file after those in front of it, and what they have together
pub held_later : (files : FileMap) (front rest : List (List ℕ)) (name : List ℕ) (some contents : List (List ℕ)) → AreHeld (Some files) (front ++ name ∷ rest) contents → AreHeld (Some files) front some
    → (bytes : List ℕ) × (files name ≡ Some bytes) × (total some + length bytes ≤ total contents)
held_later files [] rest name [] (bytes ∷ contents) held before = (bytes, held.0, omega arith)
held_later files (n ∷ front) rest name (x ∷ some) (y ∷ contents) held before =
    let later = held_later files front rest name some contents held.1 before.1 in
    let same : length x ≡ length y = ap length (same_bytes (files n) x y before.0 held.0) in
    (later.0, later.1, omega (arith, later.2, same))
held_later files _ rest name _ _ held before = absurd (search)

-- if no fault can have come, the file after those that were read is not missing, nor larger than the bytes left
pub not_missing : (told : Option FileMap) (front rest : List (List ℕ)) (name : List ℕ) (some contents : List (List ℕ)) (before after : ℕ)
    → AreHeld told (front ++ name ∷ rest) contents → AreHeld told front some → before < last_count → after ≡ before → IsMissing told name before after → ⊥
not_missing None front rest name some contents before after held read below calm rose = omega (arith, rose.more below, calm)
not_missing (Some files) front rest name some contents before after held read below calm gone =
    let there = held_later files front rest name some contents held read in
    let both : None ≡ Some there.0 = sym gone.0 ∙ there.1 in
    cc

pub not_longer : (told : Option FileMap) (front rest : List (List ℕ)) (name : List ℕ) (some contents : List (List ℕ)) (most before after : ℕ)
    → AreHeld told (front ++ name ∷ rest) contents → AreHeld told front some → total contents ≤ most → before < last_count → after ≡ before
    → IsLonger told name (most - total some) before after → ⊥
not_longer None front rest name some contents most before after held read within below calm rose = omega (arith, rose.more below, calm)
not_longer (Some files) front rest name some contents most before after held read within below calm longer =
    let there = held_later files front rest name some contents held read in
    let same : there.0 ≡ longer.0 = same_bytes (files name) there.0 longer.0 there.1 longer.1 in
    omega (arith, there.2, longer.2, ap length same, within)

-- nor is one that has these bytes
pub not_gone : (told : Option FileMap) (name bytes : List ℕ) (before after : ℕ) → MayHold told name bytes → before < last_count → after ≡ before
    → IsMissing told name before after → ⊥
not_gone None name bytes before after held below calm rose = omega (arith, rose.more below, calm)
not_gone (Some files) name bytes before after held below calm gone = let none = gone.0 in cc

pub not_large : (told : Option FileMap) (name bytes : List ℕ) (most before after : ℕ) → MayHold told name bytes → length bytes ≤ most → before < last_count
    → after ≡ before → IsLonger told name most before after → ⊥
not_large None name bytes most before after held within below calm rose = omega (arith, rose.more below, calm)
not_large (Some files) name bytes most before after held within below calm longer =
    let same : longer.0 ≡ bytes = same_bytes (files name) longer.0 bytes longer.1 held in
    omega (arith, longer.2, ap length same, within)

-- as many last texts of one list are the same
pub ends_same : (all a b : List (List ℕ)) → EndsWith a all → EndsWith b all → length a ≡ length b → a ≡ b
ends_same all a b (before, is) (before', is') same = suffix_same before before' a b (sym is ∙ is') same

-- one text, and then the last ones of one list
pub first_then : (first : List ℕ) (names contents before after : List (List ℕ)) → EndsWith (first ∷ []) before → GrewBy (length names) before after
    → EndsWith contents after → length names ≡ length contents → EndsWith (first ∷ contents) after
first_then first names contents before after (front, is) (more, many, grew) last each =
    let same : more ≡ contents = ends_same after more contents (before, grew) last (many ∙ each) in (
      front,
      grew ∙ ap (λ (xs : List (List ℕ)). xs ++ more) is ∙ append_assoc front (first ∷ []) more ∙ ap (λ (ms : List (List ℕ)). front ++ first ∷ ms) same,
    )
