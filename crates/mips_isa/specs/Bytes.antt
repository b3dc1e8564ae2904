-- The memory of a machine is defined as a function from addresses to bytes, with the segments in which a program may load and store. Numbers are little endian.
use Rattle.std.specs.Prelude.{ℕ, ◌+◌, ◌-◌, ◌*◌, ◌/◌, ◌%◌, Bool, ◌&&◌, ◌||◌, ◌==◌, nat_le, nat_lt, if◌then◌else◌, length, get_or}
use Rattle.mips_isa.specs.declared.address_map.TheConstants.{TEXT_START, DATA_START, HEAP_START, STACK_END}
use Rattle.mips_isa.specs.ImageBounds.{ImageParts}

abbrev pub Bytes : Type 0
Bytes = ℕ → ℕ

unfoldable pub half : Bytes → ℕ → ℕ
half m a = m a + 256 * m (a + 1)

unfoldable pub word : Bytes → ℕ → ℕ
word m a = m a + 256 * m (a + 1) + 65536 * m (a + 2) + 16777216 * m (a + 3)

abbrev pub set_byte : Bytes → ℕ → ℕ → Bytes
set_byte m a v = λ q. if q == a then v else m q

unfoldable pub set_half : Bytes → ℕ → ℕ → Bytes
set_half m a v = set_byte (set_byte m a (v % 256)) (a + 1) (v / 256 % 256)

unfoldable pub set_word : Bytes → ℕ → ℕ → Bytes
set_word m a v =
    set_byte (set_byte (set_byte (set_byte m a (v % 256)) (a + 1) (v / 256 % 256)) (a + 2) (v / 65536 % 256)) (a + 3) (v / 16777216 % 256)

-- The bounds of the segments.
pub record Segments : Type 0 where
  pub text_end : ℕ
  pub data_end : ℕ
  pub heap_end : ℕ
  pub stack_low : ℕ

-- so many bytes from address a on lie between two addresses
abbrev pub lies : ℕ → ℕ → ℕ → ℕ → Bool
lies low end a size = nat_le low a && nat_le (a + size) end

-- so many bytes from a on may be stored: they are data, heap or stack
abbrev pub writable : Segments → ℕ → ℕ → Bool
writable s a size = lies DATA_START s.data_end a size || (lies HEAP_START s.heap_end a size || lies s.stack_low STACK_END a size)

-- so many bytes from a on may be loaded: they may be stored, or are text
abbrev pub readable : Segments → ℕ → ℕ → Bool
readable s a size = lies TEXT_START s.text_end a size || writable s a size

-- an image with so many bytes of heap and of stack
abbrev pub segments_of : ImageParts → ℕ → ℕ → Segments
segments_of image heap stack = record {
  text_end = TEXT_START + 4 * length image.text;
  data_end = DATA_START + (length image.bytes + 3) / 4 * 4;
  heap_end = HEAP_START + heap;
  stack_low = STACK_END - stack;
}

-- the byte of a word at this offset
abbrev pub byte_of_word : ℕ → ℕ → ℕ
byte_of_word w offset =
    if offset == 0 then w % 256 else (if offset == 1 then w / 256 % 256 else (if offset == 2 then w / 65536 % 256 else w / 16777216 % 256))

-- the bytes of a machine that was loaded: text, data, and zeros
abbrev pub bytes_of_image : ImageParts → Bytes
bytes_of_image image = λ a.
    if nat_lt a DATA_START then byte_of_word (get_or image.text ((a - TEXT_START) / 4) 0) ((a - TEXT_START) % 4)
    else (if nat_lt a HEAP_START then get_or image.bytes (a - DATA_START) 0 else 0)
