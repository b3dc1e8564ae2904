use Rattle.std.proofs.Common.{refl}
use Rattle.mips_text.proofs.SpellingRows.{operand_written, operands_written}
use Rattle.mips_text.specs.Names.{mnemonic_text}
use Rattle.mips_text.specs.Spelling.{register_operand}
use Rattle.mips_text.proofs.rows.put_registers.Goals as goal

pub loop-index-init : goal.loop-index-init
loop-index-init c = refl

pub loop-index-preserved : goal.loop-index-preserved
loop-index-preserved c =
    rw (c.in_ok-put_register.ensures, c.in_ok-put_gap.ensures) (operand_written register_operand c.loop-index.out.items _ c.args.registers.now c.loop-index.index c.index-registers-index.result c.loop-index-test.true c.index-registers-index.is c.loop-index.invariant)

pub returns : goal.returns
returns c =
    operands_written register_operand c.loop-index.out.items c.args.out.now.items c.extend_from_slice.new.self.items (mnemonic_text c.args.mnemonic) c.args.registers.now c.loop-index.index c.loop-index-test.false (cc (c.in_ok-extend_from_slice.ensures.items, c.as_bytes.ensures.value, c.name.ensures)) c.loop-index.invariant
