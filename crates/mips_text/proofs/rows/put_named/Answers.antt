use Rattle.std.proofs.Common.{refl, ◌++◌}
use Rattle.mips_text.proofs.SpellingRows.{appended, row_finished}
use Rattle.mips_text.specs.Names.{mnemonic_text}
use Rattle.mips_text.proofs.rows.put_named.Goals as goal
use Rattle.std.proofs.lemmas.Result.{on_ok_weaker}

pub returns : goal.returns
returns c =
    on_ok_weaker c.extend_from_slice.result (row_finished c.args.out.now.items c.put_registers.new.out.items c.put_gap.new.out.items c.extend_from_slice.new.self.items (mnemonic_text c.args.mnemonic) c.args.label.now c.args.registers.now _ c.in_ok-put_registers.ensures refl c.in_ok-put_gap.ensures) (appended c.extend_from_slice.result c.extend_from_slice.new.self.items c.put_gap.new.out.items (c.put_gap.new.out.items ++ c.args.label.now) (rw c.as_slice.ensures at c.extend_from_slice.ensures.items))
