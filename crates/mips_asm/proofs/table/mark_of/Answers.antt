-- `mark_of` returns the position that the symbol table has for a label, because a look-up in the map is `lookup` in the list of its entries.
use Rattle.std.proofs.Common.{◌∙◌}
use Rattle.mips_asm.proofs.LabelTables.{shown_lookup}
use Rattle.mips_asm.proofs.table.mark_of.Goals as goal

pub returns : goal.returns
returns c = c.copied.ensures ∙ c.get.ensures.value ∙ shown_lookup c.args.name.now c.args.table.now.entries
