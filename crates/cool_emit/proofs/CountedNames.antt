-- `times` counts how often a label occurs in a list of labels. Each label of the compiled code occurs at most once: of the sum of its counts in all sections,
-- at most one term is not 0.
use Rattle.std.proofs.Common.{◌≡◌, ◌≢◌, ℕ, zero, suc, ◌+◌, ◌<◌, ◌≤◌, List, [], ◌∷◌, ◌++◌, Bool}
use Rattle.std.proofs.Common.{true, false, not, ◌&&◌, ◌||◌, true≢false, refl, sym, ap, ◌∙◌, arith}
use Rattle.std.specs.Prelude.{nat_eq, nat_le, nat_lt, bytes_eq}
use Rattle.std.specs.List.{AllByRecursion, list_all, list_any}
use Rattle.std.proofs.lemmas.Bool.{not-true}
use Rattle.cool_layout.proofs.Counting.{one}
use Rattle.lists.specs.Different.{AreDifferent}
use Rattle.lists.proofs.EqualBytes.{bytes_eq-same, bytes_equal}

-- the number of times that a name is in a list
abbrev pub times : List ℕ → List (List ℕ) → ℕ
times x [] = 0
times x (y ∷ ys) = one (bytes_eq x y) + times x ys

-- whether a number is in a range, whose end is no more in it
abbrev pub between : ℕ → ℕ → ℕ → Bool
between low high n = nat_le low n && nat_lt n high

-- a sum over so many numbers, from one on
abbrev pub total_from : (ℕ → ℕ) → ℕ → ℕ → ℕ
total_from f k zero = 0
total_from f k (suc n) = f k + total_from f (k + 1) n

-- the count in joined lists is the sum of the counts
pub times-append : (x : List ℕ) (xs ys : List (List ℕ)) → times x (xs ++ ys) ≡ times x xs + times x ys
times-append x [] ys = omega arith
times-append x (y ∷ xs) ys = let e : times x (xs ++ ys) ≡ times x xs + times x ys = times-append x xs ys in omega arith

-- a name that stands nowhere is another than each
others : (x : List ℕ) (ys : List (List ℕ)) → times x ys ≤ 0 → AllByRecursion (λ other. other ≢ x) ys
others x [] none = tt
others x (y ∷ ys) none = (
  λ i. let e : one (bytes_eq x y) ≡ 1 = ap one (ap (bytes_eq x) i ∙ bytes_eq-same x) in
      let all : one (bytes_eq x y) + times x ys ≤ 0 = none in
      omega arith,
  let all : one (bytes_eq x y) + times x ys ≤ 0 = none in others x ys (omega arith),
)

-- names of which each stands once at most are different
pub different : (ys : List (List ℕ)) → ((x : List ℕ) → times x ys ≤ 1) → AreDifferent ys
different [] h = tt
different (y ∷ ys) h =
    let first : one (bytes_eq y y) ≡ 1 = ap one (bytes_eq-same y) in
    let all : one (bytes_eq y y) + times y ys ≤ 1 = h y in
    (others y ys (omega arith), different ys (λ x. let e : one (bytes_eq x y) + times x ys ≤ 1 = h x in omega arith))

-- a name with a property counts only where the property is
pub hit : (P : List ℕ → Bool) (x y : List ℕ) → P y ≡ true → one (bytes_eq x y) ≤ one (P x)
hit P x y h = by (bytes_eq x y) refl
  where
    by : (b : Bool) → bytes_eq x y ≡ b → one b ≤ one (P x)
    by true e = let l : one (P x) ≡ 1 = ap one (ap P (bytes_equal x y e) ∙ h) in omega arith
    by false e = omega arith

-- two ranges side by side
pub beside : (l m h n : ℕ) → l ≤ m → m ≤ h → one (between l m n) + one (between m h n) ≤ one (between l h n)
beside l m h n lm mh = grind arith

-- the same after another test
pub under : (a p q r : Bool) → one p + one q ≤ one r → one (a && p) + one (a && q) ≤ one (a && r)
under true p q r h = h
under false p q r h = omega arith

-- a test counts at most one
pub at_most_one : (b : Bool) → one b ≤ 1
at_most_one true = omega arith
at_most_one false = omega arith

-- a sum over two ranges, one after the other, and over one more number
pub total_from-append : (f : ℕ → ℕ) (k m n : ℕ) → total_from f k (m + n) ≡ total_from f k m + total_from f (k + m) n
total_from-append f k zero n =
    let a : 0 + n ≡ n = omega arith in
    let b : k + 0 ≡ k = omega arith in
    let e : total_from f k (0 + n) ≡ total_from f (k + 0) n = λ i. total_from f (sym b i) (a i) in
    omega arith
total_from-append f k (suc m) n =
    let e : total_from f (k + 1) (m + n) ≡ total_from f (k + 1) m + total_from f (k + 1 + m) n = total_from-append f (k + 1) m n in
    let a : suc m + n ≡ suc (m + n) = omega arith in
    let b : k + 1 + m ≡ k + suc m = omega arith in
    let g : total_from f k (suc m + n) ≡ total_from f k (suc (m + n)) = ap (total_from f k) a in
    let i : total_from f (k + 1 + m) n ≡ total_from f (k + suc m) n = ap (λ j. total_from f j n) b in
    omega arith

pub total_from_more : (f : ℕ → ℕ) (k n : ℕ) → total_from f k (n + 1) ≡ total_from f k n + f (k + n)
total_from_more f k n =
    let e : total_from f k (n + 1) ≡ total_from f k n + total_from f (k + n) 1 = total_from-append f k n 1 in
    omega arith

-- nothing counts after the place that does
none : (f : ℕ → ℕ) (k n o : ℕ) (b : Bool) → o < k → ((i : ℕ) → k ≤ i → i < k + n → f i ≤ one (nat_eq i o && b)) → total_from f k n ≤ 0
none f k zero o b less h = omega arith
none f k (suc n) o b less h =
    let e : nat_eq k o ≡ false = grind arith in
    let z : f k ≤ one (nat_eq k o && b) = h k (omega arith) (omega arith) in
    let z' : one (nat_eq k o && b) ≡ 0 = ap (λ a. one (a && b)) e in
    let r : total_from f (k + 1) n ≤ 0 = none f (k + 1) n o b (omega arith) (λ i l u. h i (omega arith) (omega arith)) in
    omega arith

-- if at most one number of a range is counted, the sum is at most one, and zero if `b` is false
pub total_one : (f : ℕ → ℕ) (k n o : ℕ) (b : Bool) → ((i : ℕ) → k ≤ i → i < k + n → f i ≤ one (nat_eq i o && b)) → total_from f k n ≤ one b
total_one f k zero o b h = omega arith
total_one f k (suc n) o b h = by (nat_eq k o) refl (total_one f (k + 1) n o b (λ i l u. h i (omega arith) (omega arith)))
  where
    first : f k ≤ one (nat_eq k o && b)
    first = h k (omega arith) (omega arith)

    by : (a : Bool) → nat_eq k o ≡ a → total_from f (k + 1) n ≤ one b → f k + total_from f (k + 1) n ≤ one b
    by true e r' =
        let is : k ≡ o = grind arith in
        let r : total_from f (k + 1) n ≤ 0 = none f (k + 1) n o b (omega arith) (λ i l u. h i (omega arith) (omega arith)) in
        let g : one (nat_eq k o && b) ≡ one b = ap (λ a. one (a && b)) e in
        omega arith
    by false e r =
        let g : one (nat_eq k o && b) ≡ 0 = ap (λ a. one (a && b)) e in
        omega arith

-- whether no name of a list stands twice
abbrev pub all_apart : List (List ℕ) → Bool
all_apart [] = true
all_apart (y ∷ ys) = not (list_any (bytes_eq y) ys) && all_apart ys

-- a name that is not in a list does not count there
none_there : (x : List ℕ) (ys : List (List ℕ)) → list_any (bytes_eq x) ys ≡ false → times x ys ≡ 0
none_there x [] h = refl
none_there x (y ∷ ys) h = by (bytes_eq x y) h (none_there x ys)
  where
    by : (b : Bool) → (b || list_any (bytes_eq x) ys) ≡ false → (list_any (bytes_eq x) ys ≡ false → times x ys ≡ 0) → one b + times x ys ≡ 0
    by true h rest = absurd (true≢false h)
    by false h rest = omega (arith, rest h)

-- names apart from each other, with a property, count once where the property is
pub listed : (P : List ℕ → Bool) (x : List ℕ) (ys : List (List ℕ)) → all_apart ys ≡ true → list_all P ys ≡ true → times x ys ≤ one (P x)
listed P x [] h l = omega arith
listed P x (y ∷ ys) h l =
    let a = and_both (not (list_any (bytes_eq y) ys)) (all_apart ys) h in
    let b = and_both (P y) (list_all P ys) l in
    by (bytes_eq x y) refl (not-true (list_any (bytes_eq y) ys) a.0) b.0 (listed P x ys a.1 b.1)
  where
    and_both : (s t : Bool) → (s && t) ≡ true → (s ≡ true) × (t ≡ true)
    and_both true t h = (refl, h)
    and_both false t h = absurd (true≢false (sym h))

    by : (b : Bool) → bytes_eq x y ≡ b → list_any (bytes_eq y) ys ≡ false → P y ≡ true → times x ys ≤ one (P x)
        → one b + times x ys ≤ one (P x)
    by true e apart has rest =
        let is : x ≡ y = bytes_equal x y e in
        let z : times x ys ≡ 0 = ap (λ (z : List ℕ). times z ys) is ∙ none_there y ys apart in
        let o : one (P x) ≡ 1 = ap one (ap P is ∙ has) in
        omega arith
    by false e apart has rest = omega (arith, rest)
