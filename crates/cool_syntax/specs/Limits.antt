-- The limits of a program's source, each with its value: the number of files, of bytes in all files together, of bytes in a string constant, and of tokens in a
-- run. A run is the tokens of a feature, or those between the features of two classes.
use Rattle.std.specs.Prelude.{◌≡◌, refl}
use Rattle.cool_syntax.specs.declared.TheConstants.{MOST_FILES, MOST_SOURCE_BYTES, MOST_BYTES, MOST_TOKENS}

most_files : MOST_FILES ≡ 64
most_files = refl

most_source_bytes : MOST_SOURCE_BYTES ≡ 1048576
most_source_bytes = refl

most_bytes : MOST_BYTES ≡ 65535
most_bytes = refl

most_tokens : MOST_TOKENS ≡ 8000
most_tokens = refl
