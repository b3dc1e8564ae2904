use Rattle.std.proofs.Common.{◌≡◌, ◌++◌, ◌<◌, ◌+◌, ◌*◌, map, length, rules, ap, ◌∙◌}
use Rattle.mips_isa.specs.declared.address_map.TheConstants.{TEXT_START}
use Rattle.mips_isa.specs.Words.{word_of}
use Rattle.mips_isa.specs.Lines.{instruction_of}
use Rattle.mips_asm.specs.Places.{places_of}
use Rattle.mips_asm.proofs.Targets.{expansion_in_range, expansion_is}
use Rattle.mips_asm.proofs.second_pass.add_instruction.Goals as goal

pub add_expansion-requires : goal.add_expansion-requires
add_expansion-requires c =
    let h : c.in_ok-address.address < 4294967296 = search rules in
    expansion_in_range _ _ _ _ _ c.requires.ranges c.in_ok-address.ensures.checked c.in_ok-address.ensures.address h c.expand.ensures

pub returns-clause-added : goal.returns-clause-added
returns-clause-added c =
    let at : TEXT_START + 4 * c.len.result ≡ TEXT_START + 4 * length c.args.text.now.items = search rules in
    let same = expansion_is (places_of c.args.labels.now) (TEXT_START + 4 * c.len.result) _ (instruction_of c.args.instruction.now) _ _ c.in_ok-address.ensures.address c.expand.ensures at in
    c.in_ok-add_expansion.ensures.added ∙ ap (λ list. c.args.text.now.items ++ map word_of list) same
