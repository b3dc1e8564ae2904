-- After a store to memory, the stored word or byte is at its address, and the words and bytes at other addresses are unchanged.
use Rattle.std.proofs.Common.{◌≡◌, ◌≢◌, ℕ, ◌+◌, ◌*◌, ◌/◌, ◌%◌, ◌<◌, ◌≤◌, ◌⊎◌, refl, ap, ◌∙◌, arith}
use Rattle.mips_isa.specs.Bytes.{Bytes, word, set_byte, set_word}

-- bytes
pub byte_other : (m : Bytes) (a v q : ℕ) → (q < a) ⊎ (a + 4 ≤ q) → set_word m a v q ≡ m q
unfolding set_word
byte_other m a v q h = grind arith

pub byte_0 : (m : Bytes) (a v : ℕ) → set_word m a v a ≡ v % 256
unfolding set_word
byte_0 m a v = grind arith

pub byte_1 : (m : Bytes) (a v : ℕ) → set_word m a v (a + 1) ≡ v / 256 % 256
unfolding set_word
byte_1 m a v = grind arith

pub byte_2 : (m : Bytes) (a v : ℕ) → set_word m a v (a + 2) ≡ v / 65536 % 256
unfolding set_word
byte_2 m a v = grind arith

pub byte_3 : (m : Bytes) (a v : ℕ) → set_word m a v (a + 3) ≡ v / 16777216 % 256
unfolding set_word
byte_3 m a v = grind arith

four : (v : ℕ) → v < 4294967296 → v % 256 + 256 * (v / 256 % 256) + 65536 * (v / 65536 % 256) + 16777216 * (v / 16777216 % 256) ≡ v
four v h = omega arith

-- words
pub word_same : (m : Bytes) (a v : ℕ) → v < 4294967296 → word (set_word m a v) a ≡ v
unfolding word
word_same m a v h = rw (byte_0, byte_1, byte_2, byte_3) (four v h)

pub word_other : (m : Bytes) (a b v : ℕ) → (b + 4 ≤ a) ⊎ (a + 4 ≤ b) → word (set_word m a v) b ≡ word m b
unfolding word
word_other m a b v h = grind (arith, byte_other)

-- a byte that is stored
pub byte_set : (m : Bytes) (a v : ℕ) → set_byte m a v a ≡ v
byte_set m a v = grind arith

pub byte_kept : (m : Bytes) (a v q : ℕ) → q ≢ a → set_byte m a v q ≡ m q
byte_kept m a v q h = grind arith

-- equal parts
pub store_eq : (m m' : Bytes) (a a' v v' : ℕ) → a ≡ a' → v ≡ v' → m ≡ m' → set_word m a v ≡ set_word m' a' v'
store_eq m m' a a' v v' p q r = cc

pub store_byte_eq : (m m' : Bytes) (a a' v v' : ℕ) → a ≡ a' → v ≡ v' → m ≡ m' → set_byte m a v ≡ set_byte m' a' v'
store_byte_eq m m' a a' v v' p q r = ap (λ f. set_byte f a v) r ∙ ap (λ b. set_byte m' b v) p ∙ ap (λ u. set_byte m' a' u) q

pub load_eq : (m m' : Bytes) (a a' : ℕ) → m ≡ m' → a ≡ a' → word m a ≡ word m' a'
load_eq m m' a a' p q = cc

-- a word is below 2 ^ 32 where its bytes are bytes; words are equal where their bytes are
pub word_equal : (m m' : Bytes) (a : ℕ) → ((q : ℕ) → a ≤ q → q < a + 4 → m' q ≡ m q) → word m' a ≡ word m a
unfolding word
word_equal m m' a h = rw (h a (omega arith) (omega arith), h (a + 1) (omega arith) (omega arith), h (a + 2) (omega arith) (omega arith), h (a + 3) (omega arith) (omega arith)) refl
