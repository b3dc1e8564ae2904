-- `AreLimits` gives the value of each limit of a call. The first ones bound the bytes of a file for `exec`, of a script for `debug`, of the output that `big`
-- counts, of a file's name, and of a piece that `build` writes. The last two are the longest label that is stored without allocation, and the number that
-- replaces all larger ones in assembly.
use Rattle.std.specs.Prelude.{◌≡◌, ◌^◌}
use Rattle.mips_isa.specs.declared.label.TheConstants.{MOST_SHORT_NAME}
use Rattle.mips_text.specs.declared.numbers.TheConstants.{LARGEST}
use Rattle.spim_debug.specs.declared.script.TheConstants.{MOST_SCRIPT_BYTES}
use Rattle.cool_emit.specs.declared.TheConstants.{MOST_FILE_NAME}
use Rattle.cool_words.specs.declared.names.TheConstants.{MOST_NAME_BYTES}
use Rattle.cool_driver.specs.declared.TheConstants.{MOST_BIG_OUTPUT, MOST_IMAGE_BYTES}
use Rattle.cool_driver.specs.declared.writing.TheConstants.{MOST_PIECE_BYTES}

pub record AreLimits : Type 0 where
  pub image_bytes : MOST_IMAGE_BYTES ≡ 532676628
  pub script_bytes : MOST_SCRIPT_BYTES ≡ 65536
  pub big_output : MOST_BIG_OUTPUT ≡ 65536
  pub name_bytes : MOST_NAME_BYTES ≡ 4096
  pub built_names : MOST_NAME_BYTES ≡ MOST_FILE_NAME
  pub piece_bytes : MOST_PIECE_BYTES ≡ 4096
  pub short_name : MOST_SHORT_NAME ≡ 14
  pub largest_number : LARGEST ≡ 2 ^ 40
