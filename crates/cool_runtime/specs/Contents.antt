-- The layout of objects in memory: the word -1 is at offset -4, the class tag at 0, the size in words at 4, the address of the dispatch table at 8, and the
-- attributes are from 12 on.
use Rattle.std.specs.Prelude.{ℕ, ◌+◌, ◌-◌, ◌*◌, ◌/◌, ◌%◌, ◌^◌, ◌<◌, ◌≤◌, ◌≡◌, ◌≢◌, List, length, get_or}
use Rattle.std.specs.List.{AllByRecursion}
use Rattle.mips_isa.specs.declared.address_map.TheConstants.{DATA_START, HEAP_START}
use Rattle.mips_isa.specs.Bytes.{Bytes, word}
use Rattle.cool_runtime.specs.Reaches.{World}
use Rattle.cool_runtime.specs.Labels.{int_table, bool_table, string_table, int_prototype, bool_prototype, string_prototype, name_table}

-- so many bytes from a on, and a word before them, lie in the data, or in the heap below gp
pub record Lies (w : World) (gp a size : ℕ) : Type 0 where
  pub even : a % 4 ≡ 0
  pub from : DATA_START + 4 ≤ a
  pub to : a + size ≤ gp
  pub in_data : a < HEAP_START → a + size ≤ w.segments.data_end
  pub in_heap : HEAP_START ≤ a → HEAP_START + 4 ≤ a

-- the four words of an object's head
pub record HeadAt (m : Bytes) (a tag size table : ℕ) : Type 0 where
  pub mark : word m (a - 4) ≡ 2 ^ 32 - 1
  pub tag_is : word m a ≡ tag
  pub size_is : word m (a + 4) ≡ size
  pub table_is : word m (a + 8) ≡ table

-- the head of a class has numbers of 32 bits
pub record HeadFits (tag size table : ℕ) : Type 0 where
  pub tag_fits : tag < 2 ^ 32
  pub size_fits : size < 2 ^ 30
  pub table_fits : table < 2 ^ 32

pub record IntAt (w : World) (m : Bytes) (gp a v : ℕ) : Type 0 where
  pub lies : Lies w gp a 16
  pub head : HeadAt m a w.tags.int 4 (w.place int_table)
  pub head_fits : HeadFits w.tags.int 4 (w.place int_table)
  pub value : word m (a + 12) ≡ v
  pub fits : v < 2 ^ 32

-- any object: the words of its attributes
pub record ObjectAt (w : World) (m : Bytes) (gp a tag size table : ℕ) (words : List ℕ) : Type 0 where
  pub lies : Lies w gp a (4 * size)
  pub head : HeadAt m a tag size table
  pub fits : HeadFits tag size table
  pub long : size ≡ 3 + length words
  pub attributes : (k : ℕ) → k < length words → word m (a + 12 + 4 * k) ≡ get_or words k 0
  pub words_fit : (k : ℕ) → k < length words → get_or words k 0 < 2 ^ 32

-- the words that a string's bytes, a zero, and zeros to a full word take
abbrev pub words_of_bytes : ℕ → ℕ
words_of_bytes n = n / 4 + 1

abbrev pub IsText : List ℕ → Type 0
IsText bytes = AllByRecursion (λ b. (0 < b) × (b < 256)) bytes

pub record StringAt (w : World) (m : Bytes) (gp a : ℕ) (bytes : List ℕ) : Type 0 where
  pub lies : Lies w gp a (4 * (4 + words_of_bytes (length bytes)))
  pub head : HeadAt m a w.tags.string (4 + words_of_bytes (length bytes)) (w.place string_table)
  pub head_fits : HeadFits w.tags.string (4 + words_of_bytes (length bytes)) (w.place string_table)
  pub length_is : IntAt w m gp (word m (a + 12)) (length bytes)
  pub holds : (i : ℕ) → i < 4 * words_of_bytes (length bytes) → m (a + 16 + i) ≡ get_or bytes i 0
  pub text : IsText bytes

-- memory below gp, and from sp on, is the same
pub record Same (m m' : Bytes) (gp sp : ℕ) : Type 0 where
  pub below : (a : ℕ) → a < gp → m' a ≡ m a
  pub over : (a : ℕ) → sp ≤ a → m' a ≡ m a

-- bytes of data, and a zero after them
pub record TextAt (w : World) (m : Bytes) (a : ℕ) (bytes : List ℕ) : Type 0 where
  pub from : DATA_START ≤ a
  pub to : a + length bytes < w.segments.data_end
  pub holds : (i : ℕ) → i < length bytes → m (a + i) ≡ get_or bytes i 0
  pub ends : m (a + length bytes) ≡ 0
  pub text : IsText bytes

-- the object at an address has this tag
pub record Tagged (w : World) (m : Bytes) (gp a tag : ℕ) : Type 0 where
  pub lies : Lies w gp a 12
  pub tag_is : word m a ≡ tag

pub record BoolAt (w : World) (m : Bytes) (gp a v : ℕ) : Type 0 where
  pub lies : Lies w gp a 16
  pub head : HeadAt m a w.tags.bool 4 (w.place bool_table)
  pub head_fits : HeadFits w.tags.bool 4 (w.place bool_table)
  pub value : word m (a + 12) ≡ v
  pub bit : v ≤ 1

-- the prototypes of the values without an identity have their tags, which differ
pub record Prototypes (w : World) (m : Bytes) (gp : ℕ) : Type 0 where
  pub int : Tagged w m gp (w.place int_prototype) w.tags.int
  pub bool : Tagged w m gp (w.place bool_prototype) w.tags.bool
  pub string : Tagged w m gp (w.place string_prototype) w.tags.string
  pub int_bool : w.tags.int ≢ w.tags.bool
  pub int_string : w.tags.int ≢ w.tags.string
  pub bool_string : w.tags.bool ≢ w.tags.string

-- the table of names has the String of a class's name at its tag
pub record NameAt (w : World) (m : Bytes) (gp tag : ℕ) (name : List ℕ) : Type 0 where
  pub even : w.place name_table % 4 ≡ 0
  pub from : DATA_START ≤ w.place name_table
  pub to : w.place name_table + 4 * tag + 4 ≤ w.segments.data_end
  pub string : StringAt w m gp (word m (w.place name_table + 4 * tag)) name
