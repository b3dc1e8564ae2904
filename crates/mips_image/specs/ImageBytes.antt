-- `image_bytes` defines the file format of an image (an executable program), in versions 1 and 2. Numbers are 32 bits, little endian.
use Rattle.std.specs.Prelude.{◌≡◌, ℕ, ◌⊎◌, ◌<◌, ◌^◌, List, [], ◌∷◌, ◌++◌, length, flat_map, refl}
use Rattle.std.specs.List.{AllByRecursion}
use Rattle.byteorder.specs.Endian.{little_bytes}
use Rattle.mips_isa.specs.ImageBounds.{ImageParts}
use Rattle.mips_image.specs.declared.stored_image.TheConstants.{MAGIC, UNCHECKED_VERSION, CHECKED_VERSION}

abbrev pub word_bytes : ℕ → List ℕ
word_bytes = little_bytes 4

-- Version 1 marks code that was compiled without checks of arithmetic for overflow, or written by hand; version 2 marks code compiled with them.
abbrev pub IsVersion : ℕ → Type 0
IsVersion version = (version ≡ UNCHECKED_VERSION) ⊎ (version ≡ CHECKED_VERSION)

-- the magic, the version, the number of words, the number of bytes and the entry
abbrev pub header : ℕ → ImageParts → List ℕ
header version i = MAGIC ++ (word_bytes version ++ (word_bytes (length i.text) ++ (word_bytes (length i.bytes) ++ word_bytes i.entry)))

-- the header, the words of the text, the bytes of the data
abbrev pub image_bytes : ℕ → ImageParts → List ℕ
image_bytes version i = header version i ++ (flat_map word_bytes i.text ++ i.bytes)

-- each word of the text has 32 bits
abbrev pub HasWords : ImageParts → Type 0
HasWords i = AllByRecursion (λ word. word < 2 ^ 32) i.text

-- the magic and the versions, by their values
magic : MAGIC ≡ 0x7f ∷ 0x43 ∷ 0x4d ∷ 0x49 ∷ []
magic = refl

unchecked_version : UNCHECKED_VERSION ≡ 1
unchecked_version = refl

checked_version : CHECKED_VERSION ≡ 2
checked_version = refl

-- a worked example: one word, no data, in version 2
one_word : image_bytes 2 (record { entry = 0x00400000; text = 0xffffffff ∷ []; bytes = [] })
    ≡ 0x7f ∷ 0x43 ∷ 0x4d ∷ 0x49 ∷ 2 ∷ 0 ∷ 0 ∷ 0 ∷ 1 ∷ 0 ∷ 0 ∷ 0 ∷ 0 ∷ 0 ∷ 0 ∷ 0 ∷ 0 ∷ 0 ∷ 0x40 ∷ 0 ∷ 255 ∷ 255 ∷ 255 ∷ 255 ∷ []
one_word = refl
