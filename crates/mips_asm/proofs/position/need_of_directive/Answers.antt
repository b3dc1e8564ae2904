-- `need_of_directive` returns an alignment of at most 4,096 bytes for `.align` (`IsSmall`), because it is 2 to an exponent of at most 12.
use Rattle.std.proofs.Common.{rules, ◌≤◌}
use Rattle.mips_asm.proofs.SmallUnits.{shifted_unit}
use Rattle.mips_asm.proofs.position.need_of_directive.Goals as goal

pub returns-in-Align-clause-small : goal.returns-in-Align-clause-small
returns-in-Align-clause-small c = let h : c.in-Align.exponent ≤ 12 = search rules in shifted_unit c.in-Align.exponent h
