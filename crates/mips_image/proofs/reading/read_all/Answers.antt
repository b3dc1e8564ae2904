use Rattle.std.proofs.Common.{◌≡◌, length, ap, arith, ◌∙◌}
use Rattle.mips_image.proofs.ReadingParts.{sizes_of_image, length-words_at}
use Rattle.mips_image.proofs.reading.read_all.Goals as goal

pub invariant_of-result : goal.invariant_of-result
invariant_of-result c =
    let header = c.in_ok-header.ensures in
    let words : length c.in_ok-text.text.items ≡ c.in_ok-header.header.words = ap length c.in_ok-text.ensures ∙ length-words_at _ _ in
    let data_bytes : length c.in_ok-data_bytes.data_bytes.items ≡ c.in_ok-header.header.data_bytes =
    omega (arith, ap length c.in_ok-data_bytes.ensures.items, c.split_at-2.ensures.back_len, header.size) in
    sizes_of_image _ c.in_ok-header.header.words c.in_ok-header.header.data_bytes header.sizes words data_bytes
