-- `ImageParts` is the content of an image (an executable program): its entry address, text and data. `IsImage` bounds their sizes.
use Rattle.std.specs.Prelude.{◌≡◌, ℕ, ◌+◌, ◌*◌, ◌%◌, ◌<◌, ◌≤◌, List, length}
use Rattle.mips_isa.specs.declared.address_map.TheConstants.{TEXT_START, MOST_TEXT_WORDS, MOST_DATA_BYTES}

-- the parts of an image, without where they lie in memory
pub record ImageParts : Type 0 where
  pub entry : ℕ
  pub text : List ℕ
  pub bytes : List ℕ

-- The text has a word, text and data are not larger than they may be, and the entry is the address of a word.
pub record IsImage (i : ImageParts) : Type 0 where
  pub some_text : 1 ≤ length i.text
  pub text : length i.text ≤ MOST_TEXT_WORDS
  pub bytes : length i.bytes ≤ MOST_DATA_BYTES
  pub even : i.entry % 4 ≡ 0
  pub from : TEXT_START ≤ i.entry
  pub to : i.entry < TEXT_START + 4 * length i.text
