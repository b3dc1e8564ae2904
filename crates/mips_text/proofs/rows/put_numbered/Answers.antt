use Rattle.std.proofs.Common.{refl}
use Rattle.std.proofs.Common.{w64}
use Rattle.std.proofs.lemmas.Int.{to_z-of_z}
use Rattle.std.specs.Fmt.{signed_decimal}
use Rattle.mips_text.proofs.SpellingRows.{row_finished}
use Rattle.mips_text.specs.Names.{mnemonic_text}
use Rattle.mips_text.proofs.rows.put_numbered.Goals as goal
use Rattle.std.proofs.lemmas.Result.{on_ok_weaker}

pub returns : goal.returns
returns c =
    on_ok_weaker c.put_number.result (row_finished c.args.out.now.items c.put_registers.new.out.items c.put_gap.new.out.items c.put_number.new.out.items (mnemonic_text c.args.mnemonic) (signed_decimal c.args.value) c.args.registers.now _ c.in_ok-put_registers.ensures refl c.in_ok-put_gap.ensures) (rw (to_z-of_z w64 c.args.value c.ranges.value) at c.put_number.ensures)
