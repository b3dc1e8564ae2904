-- The address map of a machine (SPIM): the addresses at which text, data and heap begin and the stack ends, and the maximal numbers of text words and data
-- bytes of an image (an executable program).
use Rattle.std.specs.Prelude.{◌≡◌, refl, ◌^◌}
use Rattle.mips_isa.specs.declared.address_map.TheConstants.{TEXT_START, DATA_START, HEAP_START, STACK_END, MOST_TEXT_WORDS, MOST_DATA_BYTES}

text_start : TEXT_START ≡ 0x00400000
text_start = refl

data_start : DATA_START ≡ 0x10000000
data_start = refl

heap_start : HEAP_START ≡ 0x20000000
heap_start = refl

stack_end : STACK_END ≡ 0x80000000
stack_end = refl

most_text_words : MOST_TEXT_WORDS ≡ 66060288
most_text_words = refl

most_data_bytes : MOST_DATA_BYTES ≡ 2 ^ 28
most_data_bytes = refl
