-- `parts_of` reads an image (an executable program) from the bytes of a file, and `first_fault` gives the first error in bytes that are not an image.
use Rattle.std.specs.Prelude.{◌≡◌, refl, ℕ, zero, suc, ◌+◌, ◌*◌, ◌%◌, ◌&&◌, ◌||◌, ◌==◌, not, nat_lt, nat_le, bytes_eq, if◌then◌else◌, Bool, true, List, [], ◌∷◌, length, take, drop, Option, Some, None, Result, Ok, Err}
use Rattle.byteorder.specs.Endian.{little_number}
use Rattle.mips_isa.specs.declared.address_map.TheConstants.{TEXT_START, MOST_TEXT_WORDS, MOST_DATA_BYTES}
use Rattle.mips_isa.specs.ImageBounds.{ImageParts}
use Rattle.mips_image.specs.declared.stored_image.TheConstants.{MAGIC, VERSION_PLACE, WORDS_PLACE, DATA_BYTES_PLACE, ENTRY_PLACE, HEADER_BYTES, UNCHECKED_VERSION, CHECKED_VERSION}
use Rattle.mips_image.specs.declared.stored_image.StoredImage.{StoredImage}
use Rattle.mips_image.specs.declared.image_error.ImageError.{ImageError}
use Rattle.mips_image.specs.declared.image_error.ImageError.TheVariants.{Memory, I1, I2, I3, I4, I5}

-- the places of the header's numbers, and its bytes, by their values
version_place : VERSION_PLACE ≡ 4
version_place = refl

words_place : WORDS_PLACE ≡ 8
words_place = refl

data_bytes_place : DATA_BYTES_PLACE ≡ 12
data_bytes_place = refl

entry_place : ENTRY_PLACE ≡ 16
entry_place = refl

header_bytes : HEADER_BYTES ≡ 20
header_bytes = refl

-- the number in the four bytes from a place on
unfoldable pub word_at : List ℕ → ℕ → ℕ
word_at bytes place = little_number 4 (drop place bytes)

-- so many numbers, one after another
abbrev pub words_at : ℕ → List ℕ → List ℕ
words_at zero bytes = []
words_at (suc n) bytes = word_at bytes 0 ∷ words_at n (drop 4 bytes)

-- the version is 1 or 2
abbrev pub is_version : ℕ → Bool
is_version version = version == UNCHECKED_VERSION || version == CHECKED_VERSION

-- there is a word, neither segment is too large, and the entry is the address of a word
abbrev pub are_sizes : ℕ → ℕ → ℕ → Bool
are_sizes words data_bytes entry =
    nat_le 1 words && (nat_le words MOST_TEXT_WORDS && (nat_le data_bytes MOST_DATA_BYTES
    && (entry % 4 == 0 && (nat_le TEXT_START entry && nat_lt entry (TEXT_START + 4 * words)))))

-- the bytes that an image of these sizes has
abbrev pub size_of : ℕ → ℕ → ℕ
size_of words data_bytes = HEADER_BYTES + 4 * words + data_bytes

-- the fault of bytes with a header, from the sizes on
abbrev pub size_fault : List ℕ → ℕ → ℕ → ℕ → Option ImageError
size_fault bytes words data_bytes entry =
    if not (are_sizes words data_bytes entry) then Some I4
    else (if nat_lt (length bytes) (size_of words data_bytes) then Some I3
    else (if nat_lt (size_of words data_bytes) (length bytes) then Some I5 else None))

-- the first test that fails: a header, its magic, its version, its sizes, and the length
unfoldable pub first_fault : List ℕ → Option ImageError
first_fault bytes =
    if nat_lt (length bytes) HEADER_BYTES then Some I3
    else (if not (bytes_eq (take VERSION_PLACE bytes) MAGIC) then Some I1
    else (if not (is_version (word_at bytes VERSION_PLACE)) then Some I2
    else size_fault bytes (word_at bytes WORDS_PLACE) (word_at bytes DATA_BYTES_PLACE) (word_at bytes ENTRY_PLACE)))

-- the parts of the image that bytes without a fault are
abbrev pub parts_of : List ℕ → ImageParts
parts_of bytes = record {
  entry = word_at bytes ENTRY_PLACE;
  text = words_at (word_at bytes WORDS_PLACE) (drop HEADER_BYTES bytes);
  bytes = drop (HEADER_BYTES + 4 * word_at bytes WORDS_PLACE) bytes;
}

-- the result of reading: the image and its version, or the first fault, unless memory runs out
abbrev pub Reads : List ℕ → Result StoredImage ImageError → Type 0
Reads bytes (Ok stored) = (first_fault bytes ≡ None) × (stored.version ≡ word_at bytes VERSION_PLACE) × (stored.image ≡ parts_of bytes)
Reads bytes (Err Memory) = Unit {0}
Reads bytes (Err fault) = first_fault bytes ≡ Some fault

-- this image was read in this version, unless memory ran out
abbrev pub IsReadAs : ℕ → ImageParts → Result StoredImage ImageError → Type 0
IsReadAs version image (Ok read) = (read.version ≡ version) × (read.image ≡ image)
IsReadAs version image (Err Memory) = Unit {0}
IsReadAs version image (Err fault) = ⊥

-- The bytes are without a fault, and have this header.
pub record HasHeader (bytes : List ℕ) (version words data_bytes entry : ℕ) : Type 0 where
  pub no_fault : first_fault bytes ≡ None
  pub version_is : version ≡ word_at bytes VERSION_PLACE
  pub words_is : words ≡ word_at bytes WORDS_PLACE
  pub data_bytes_is : data_bytes ≡ word_at bytes DATA_BYTES_PLACE
  pub entry_is : entry ≡ word_at bytes ENTRY_PLACE
  pub sizes : are_sizes words data_bytes entry ≡ true
  pub size : length bytes ≡ size_of words data_bytes
