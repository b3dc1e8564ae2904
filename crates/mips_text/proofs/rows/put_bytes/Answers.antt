use Rattle.std.proofs.Common.{◌≡◌, ◌++◌, ℤ, pos, codes, get_or, refl, rules}
use Rattle.std.proofs.lemmas.List.{get_or_default}
use Rattle.std.specs.Fmt.{signed_decimal}
use Rattle.mips_text.proofs.SpellingRows.{operand_written, operands_written}
use Rattle.mips_text.proofs.rows.put_bytes.Goals as goal

pub loop-index-init : goal.loop-index-init
loop-index-init c = refl

pub loop-index-preserved : goal.loop-index-preserved
loop-index-preserved c =
    let value : ℤ = get_or c.args.values.now c.loop-index.index (pos 0) in
    let one : c.put_number.new.out.items ≡ c.put_gap.new.out.items ++ signed_decimal value = search rules in
    rw (one, c.in_ok-put_gap.ensures) (operand_written signed_decimal c.loop-index.out.items _ c.args.values.now c.loop-index.index value c.loop-index-test.true (get_or_default c.args.values.now c.loop-index.index (pos 0) value c.loop-index-test.true) c.loop-index.invariant)

pub returns : goal.returns
returns c =
    operands_written signed_decimal c.loop-index.out.items c.args.out.now.items c.put_directive.new.out.items (codes ".byte") c.args.values.now c.loop-index.index c.loop-index-test.false c.in_ok-put_directive.ensures c.loop-index.invariant
