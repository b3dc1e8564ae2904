-- A string in memory ends at its first 0 byte, and a buffer may be stored if each of its bytes may be.
use Rattle.std.proofs.Common.{◌≡◌, ◌∙◌, refl, sym, ap, ℕ, zero, suc, ◌+◌, ◌-◌, ◌<◌, ◌≤◌, Bool, true, false, Some, None, arith}
use Rattle.std.specs.Prelude.{◌==◌, ◌&&◌, ◌||◌, if◌then◌else◌}
use Rattle.mips_isa.specs.declared.address_map.TheConstants.{TEXT_START, DATA_START, HEAP_START, STACK_END}
use Rattle.mips_isa.specs.Bytes.{Bytes, Segments, lies, writable, readable}
use Rattle.mips_isa.specs.Calls.{segment_end, up_to_zero, string_at, all_writable}
use Rattle.spim_memory.specs.Strings.{bytes_from, storable_end}
use Rattle.lists.proofs.TruthValues.{or_true, and_second}

-- none of so many bytes from an address on is 0
abbrev pub HasNoZero : Bytes → ℕ → ℕ → Type 0
HasNoZero m a n = (i : ℕ) → i < n → (m (a + i) == 0) ≡ false

-- each of so many bytes from an address on may be stored
abbrev pub MayStore : Segments → ℕ → ℕ → Type 0
MayStore s a n = (i : ℕ) → i < n → writable s (a + i) 1 ≡ true

-- one more byte
pub no_zero-turn : (m : Bytes) (a n : ℕ) → HasNoZero m a n → (m (a + n) == 0) ≡ false → HasNoZero m a (n + 1)
no_zero-turn m a n before last i within = grind (arith, before i, last)

-- the first byte
plus_zero : (a : ℕ) → a + 0 ≡ a
plus_zero a = omega arith

first_not_zero : (m : Bytes) (a n : ℕ) → HasNoZero m a (suc n) → (m a == 0) ≡ false
first_not_zero m a n each = ap (λ q. m q == 0) (sym (plus_zero a)) ∙ each 0 (omega arith)

first_may : (s : Segments) (a n : ℕ) → MayStore s a (suc n) → writable s a 1 ≡ true
first_may s a n each = ap (λ q. writable s q 1) (sym (plus_zero a)) ∙ each 0 (omega arith)

-- the bytes after the first
no_zero-after : (m : Bytes) (a n : ℕ) → HasNoZero m a (suc n) → HasNoZero m (a + 1) n
no_zero-after m a n each i within =
    let next : a + 1 + i ≡ a + (i + 1) = omega arith in
    rw next (each (i + 1) (omega (arith, within)))

may_store-after : (s : Segments) (a n : ℕ) → MayStore s a (suc n) → MayStore s (a + 1) n
may_store-after s a n each i within =
    let next : a + 1 + i ≡ a + (i + 1) = omega arith in
    rw next (each (i + 1) (omega (arith, within)))

-- the string up to the first 0
pub first_zero : (m : Bytes) (a k n : ℕ) → k < n → (m (a + k) == 0) ≡ true → HasNoZero m a k → up_to_zero m a n ≡ Some (bytes_from m a k)
first_zero m a k zero within ends each = grind (arith, within)
first_zero m a zero (suc n) within ends each =
    let now : (m a == 0) ≡ true = ap (λ q. m q == 0) (sym (plus_zero a)) ∙ ends in
    rw now refl
first_zero m a (suc k) (suc n) within ends each =
    let next : a + suc k ≡ a + 1 + k = omega arith in
    let last : (m (a + 1 + k) == 0) ≡ true = rw next at ends in
    rw (first_not_zero m a k each, first_zero m (a + 1) k n (omega (arith, within)) last (no_zero-after m a k each)) refl

-- no string
pub no_zero : (m : Bytes) (a n : ℕ) → HasNoZero m a n → up_to_zero m a n ≡ None
no_zero m a zero each = refl
no_zero m a (suc n) each = rw (first_not_zero m a n each, no_zero m (a + 1) n (no_zero-after m a n each)) refl

-- a later byte before the end lies there, too
lies_on : (low end a k : ℕ) → lies low end a 1 ≡ true → a + k < end → lies low end (a + k) 1 ≡ true
lies_on low end a k is within = grind arith

second : (b c : Bool) → (b || (true || c)) ≡ true
second true c = refl
second false c = refl

third : (b c d : Bool) → (b || (c || (true || d))) ≡ true
third true c d = refl
third false c d = second c d

third_or : (b c : Bool) → (b || (c || true)) ≡ true
third_or true c = refl
third_or false c = or_true c

fourth : (b c d : Bool) → (b || (c || (d || true))) ≡ true
fourth true c d = refl
fourth false true d = refl
fourth false false d = or_true d

-- the bytes of a segment may be loaded
load_within_at : (s : Segments) (a k end : ℕ) (t d h w : Bool) → lies TEXT_START s.text_end a 1 ≡ t → lies DATA_START s.data_end a 1 ≡ d → lies HEAP_START s.heap_end a 1 ≡ h → lies s.stack_low STACK_END a 1 ≡ w → (if t then Some s.text_end else (if d then Some s.data_end else (if h then Some s.heap_end else (if w then Some STACK_END else None)))) ≡ Some end → a + k < end → readable s (a + k) 1 ≡ true
load_within_at s a k end true d h w it id ih iw is within =
    let last : s.text_end ≡ end = cc in
    rw (lies_on TEXT_START s.text_end a k it (omega (arith, within, last))) refl
load_within_at s a k end false true h w it id ih iw is within =
    let last : s.data_end ≡ end = cc in
    rw (lies_on DATA_START s.data_end a k id (omega (arith, within, last))) (second (lies TEXT_START s.text_end (a + k) 1) (lies HEAP_START s.heap_end (a + k) 1 || lies s.stack_low STACK_END (a + k) 1))
load_within_at s a k end false false true w it id ih iw is within =
    let last : s.heap_end ≡ end = cc in
    rw (lies_on HEAP_START s.heap_end a k ih (omega (arith, within, last))) (third (lies TEXT_START s.text_end (a + k) 1) (lies DATA_START s.data_end (a + k) 1) (lies s.stack_low STACK_END (a + k) 1))
load_within_at s a k end false false false true it id ih iw is within =
    let last : STACK_END ≡ end = cc in
    rw (lies_on s.stack_low STACK_END a k iw (omega (arith, within, last))) (fourth (lies TEXT_START s.text_end (a + k) 1) (lies DATA_START s.data_end (a + k) 1) (lies HEAP_START s.heap_end (a + k) 1))
load_within_at s a k end false false false false it id ih iw is within = cc

pub load_within : (s : Segments) (a k end : ℕ) → segment_end s a ≡ Some end → a + k < end → readable s (a + k) 1 ≡ true
load_within s a k end is within = load_within_at s a k end _ _ _ _ refl refl refl refl is within

-- a byte of the segment is a 0 where the memory has a 0 that may be loaded
pub string_found : (s : Segments) (m : Bytes) (a k end : ℕ) → Some end ≡ segment_end s a → a + k < end → (readable s (a + k) 1 && (m (a + k) == 0)) ≡ true → HasNoZero m a k → string_at s m a ≡ Some (bytes_from m a k)
string_found s m a k end is within ends each =
    rw (sym is) (first_zero m a k (end - a) (omega (arith, within)) (and_second (readable s (a + k) 1) (m (a + k) == 0) ends) each)

pub string_goes_on : (s : Segments) (m : Bytes) (a k end : ℕ) → Some end ≡ segment_end s a → a + k < end → (readable s (a + k) 1 && (m (a + k) == 0)) ≡ false → HasNoZero m a k → HasNoZero m a (k + 1)
string_goes_on s m a k end is within other each =
    let last : (m (a + k) == 0) ≡ false = rw (load_within s a k end (sym is) within) at other in
    no_zero-turn m a k each last

pub string_missing : (s : Segments) (m : Bytes) (a end : ℕ) → Some end ≡ segment_end s a → HasNoZero m a (end - a) → string_at s m a ≡ None
string_missing s m a end is each = rw (sym is) (no_zero m a (end - a) each)

-- each byte may be stored
pub all_may : (s : Segments) (a n : ℕ) → MayStore s a n → all_writable s a n ≡ true
all_may s a zero each = refl
all_may s a (suc n) each = rw (first_may s a n each, all_may s (a + 1) n (may_store-after s a n each)) refl

-- if the first bytes may be stored, the others decide
pub all_after : (s : Segments) (a k n : ℕ) → MayStore s a k → k ≤ n → all_writable s a n ≡ all_writable s (a + k) (n - k)
all_after s a zero n each within =
    let here : a + 0 ≡ a = omega arith in
    let all : n - 0 ≡ n = omega arith in
    rw (here, all) refl
all_after s a (suc k) zero each within = absurd (omega arith)
all_after s a (suc k) (suc n) each within =
    let next : a + suc k ≡ a + 1 + k = omega arith in
    let rest : suc n - suc k ≡ n - k = omega arith in
    rw (next, rest, first_may s a k each) (all_after s (a + 1) k n (may_store-after s a k each) (omega (arith, within)))

-- the bytes of a segment of data, heap or stack may be stored
store_within_at : (s : Segments) (a k end : ℕ) (d h w : Bool) → lies DATA_START s.data_end a 1 ≡ d → lies HEAP_START s.heap_end a 1 ≡ h → lies s.stack_low STACK_END a 1 ≡ w → (if d then Some s.data_end else (if h then Some s.heap_end else (if w then Some STACK_END else None))) ≡ Some end → a + k < end → writable s (a + k) 1 ≡ true
store_within_at s a k end true h w id ih iw is within =
    let last : s.data_end ≡ end = cc in
    rw (lies_on DATA_START s.data_end a k id (omega (arith, within, last))) refl
store_within_at s a k end false true w id ih iw is within =
    let last : s.heap_end ≡ end = cc in
    rw (lies_on HEAP_START s.heap_end a k ih (omega (arith, within, last))) (second (lies DATA_START s.data_end (a + k) 1) (lies s.stack_low STACK_END (a + k) 1))
store_within_at s a k end false false true id ih iw is within =
    let last : STACK_END ≡ end = cc in
    rw (lies_on s.stack_low STACK_END a k iw (omega (arith, within, last))) (third_or (lies DATA_START s.data_end (a + k) 1) (lies HEAP_START s.heap_end (a + k) 1))
store_within_at s a k end false false false id ih iw is within = cc

pub store_within : (s : Segments) (a n end : ℕ) → Some end ≡ storable_end s a → a + n ≤ end → MayStore s a n
store_within s a n end is within k below = store_within_at s a k end _ _ _ refl refl refl (sym is) (omega (arith, within, below))
