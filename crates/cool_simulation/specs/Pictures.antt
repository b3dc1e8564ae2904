-- `Pictures` is the simulation relation between machine memory and a state of the source: it says at which addresses objects and variables are, and which words
-- may change.
use Rattle.std.specs.Prelude.{◌≡◌, ℕ, ◌+◌, ◌*◌, ◌/◌, ◌%◌, ◌<◌, ◌≤◌, ◌⊎◌, Bool as Truth, true, false, List, [], length, get_or, slice_get, Some}
use Rattle.mips_isa.specs.declared.address_map.TheConstants.{HEAP_START, STACK_END}
use Rattle.mips_isa.specs.Bytes.{Bytes, word}
use Rattle.cool_classes.specs.declared.class_id.ClassId.{ClassId}
use Rattle.cool_classes.specs.Chains.{Class}
use Rattle.cool_classes.specs.LawfulTables.{MayInherit}
use Rattle.cool_runtime.specs.Reaches.{World}
use Rattle.cool_runtime.specs.Contents.{HeadAt, IntAt, BoolAt, StringAt, words_of_bytes}
use Rattle.cool_runtime.specs.Machines.{Console}
use Rattle.cool_layout.specs.Preorder.{tag}
use Rattle.cool_layout.specs.Labels.{dispatch_table}
use Rattle.cool_meaning.specs.Values.{Value, Void, Int, Bool, Str, Obj, State}
use Rattle.cool_meaning.specs.Lookups.{attributes}
use Rattle.cool_meaning.specs.Numbers.{fits, word_of}
use Rattle.lists.specs.Bytes.{AreBytes}

-- The addresses of a run's objects and variables. An identity has the address, the class and the locations of its object. A location has a home, the
-- address of its word, or 0 if no name reaches it any more. The words that are homes are marked (by their address over 4).
pub record Map : Type 0 where
  pub address : ℕ → ℕ
  pub class : ℕ → ClassId
  pub locations : ℕ → List ℕ
  pub home : ℕ → ℕ
  pub marked : ℕ → Truth

abbrev pub bit : Truth → ℕ
bit true = 1
bit false = 0

-- no word of an object of this size is a home
abbrev pub Unmarked : (ℕ → Truth) → ℕ → ℕ → Type 0
Unmarked marked a size = (q : ℕ) → a ≤ q + 4 → q < a + size → marked (q / 4) ≡ false

-- a word pictures a value, where so many identities were drawn and the heap is used up to gp
abbrev pub Pic : World → Bytes → Map → ℕ → ℕ → Value → ℕ → Type 0
Pic w m map drawn gp Void a = a ≡ 0
Pic w m map drawn gp (Int v) a = IntAt w m gp a (word_of v) × (fits v ≡ true) × Unmarked map.marked a 16
Pic w m map drawn gp (Bool b) a = BoolAt w m gp a (bit b) × Unmarked map.marked a 16
Pic w m map drawn gp (Str bytes) a =
    StringAt w m gp a bytes × Unmarked map.marked a (4 * (4 + words_of_bytes (length bytes))) × Unmarked map.marked (word m (a + 12)) 16
Pic w m map drawn gp (Obj c i ls) a = (a ≡ map.address i) × (i < drawn) × (c ≡ map.class i) × (ls ≡ map.locations i)

-- an identity's object lies in the heap, with its head, and each of its locations is at home in its word
pub record ObjectStands (p : List Class) (w : World) (m : Bytes) (map : Map) (gp i : ℕ) : Type 0 where
  pub within : (map.class i).0 < length p
  pub plain : MayInherit (map.class i)
  pub long : length (map.locations i) ≡ length (attributes p (map.class i))
  pub even : map.address i % 4 ≡ 0
  pub from : HEAP_START + 4 ≤ map.address i
  pub to : map.address i + 12 + 4 * length (map.locations i) ≤ gp
  pub head : HeadAt m (map.address i) (tag p (map.class i)) (3 + length (map.locations i)) (w.place (dispatch_table p (map.class i)))
  pub unmarked : Unmarked map.marked (map.address i) 12
  pub homes : (j : ℕ) → j < length (map.locations i) → map.home (get_or (map.locations i) j 0) ≡ map.address i + 12 + 4 * j

-- a location is at home in a word of the heap, or of the stack from sp on, which pictures its value
pub record HomeStands (w : World) (m : Bytes) (map : Map) (s : State) (gp sp l : ℕ) : Type 0 where
  pub even : map.home l % 4 ≡ 0
  pub marked : map.marked (map.home l / 4) ≡ true
  pub room : ((HEAP_START ≤ map.home l) × (map.home l + 4 ≤ gp)) ⊎ ((sp ≤ map.home l) × (map.home l + 4 ≤ STACK_END))
  pub value : Value
  pub stored : slice_get s.store l ≡ Some value
  pub picture : Pic w m map s.drawn gp value (word m (map.home l))

-- Memory pictures the objects and the store of a state. The data are as they were loaded, and no word of them or between heap and stack is
-- a home.
pub record Pictures (p : List Class) (w : World) (loaded : Bytes) (m : Bytes) (map : Map) (s : State) (gp sp : ℕ) : Type 0 where
  pub objects : (i : ℕ) → i < s.drawn → ObjectStands p w m map gp i
  pub injective : (i j : ℕ) → i < s.drawn → j < s.drawn → map.address i ≡ map.address j → i ≡ j
  pub homes : (l : ℕ) → 0 < map.home l → HomeStands w m map s gp sp l
  pub apart : (l k : ℕ) → 0 < map.home l → map.home l ≡ map.home k → l ≡ k
  pub fresh : (l : ℕ) → length s.store ≤ l → map.home l ≡ 0
  pub as_loaded : (q : ℕ) → q < HEAP_START → m q ≡ loaded q
  pub unmarked_data : (k : ℕ) → 4 * k < HEAP_START → map.marked k ≡ false
  pub unmarked_room : (k : ℕ) → gp ≤ 4 * k → 4 * k < sp → map.marked k ≡ false

-- all memory that is neither a home nor between heap and stack is the same
pub record Kept (m m' : Bytes) (marked : ℕ → Truth) (gp sp : ℕ) : Type 0 where
  pub below : (q : ℕ) → q < gp → marked (q / 4) ≡ false → m' q ≡ m q
  pub over : (q : ℕ) → sp ≤ q → marked (q / 4) ≡ false → m' q ≡ m q

-- the map grew, from a state with so many identities and locations: these stay, and so do the marks in the heap up to gp and in the stack
-- from sp on
pub record Grown (map map' : Map) (drawn located gp sp : ℕ) : Type 0 where
  pub address : (i : ℕ) → i < drawn → map'.address i ≡ map.address i
  pub class : (i : ℕ) → i < drawn → map'.class i ≡ map.class i
  pub locations : (i : ℕ) → i < drawn → map'.locations i ≡ map.locations i
  pub home : (l : ℕ) → l < located → map'.home l ≡ map.home l
  pub below : (k : ℕ) → 4 * k < gp → map'.marked k ≡ map.marked k
  pub over : (k : ℕ) → sp ≤ 4 * k → map'.marked k ≡ map.marked k

-- a console shows the console of a state; the end of the input was answered only where nothing is left of it
pub record Shows (s : State) (c : Console) : Type 0 where
  pub input : c.input ≡ s.input
  pub output : c.output ≡ s.output
  pub ended : c.ended ≡ true → s.input ≡ []
  pub bytes : AreBytes s.input
