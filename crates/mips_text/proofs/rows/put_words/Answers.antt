use Rattle.std.proofs.Common.{refl, codes, map, ◌≤◌, length, arith}
use Rattle.std.proofs.lemmas.List.{length-map}
use Rattle.mips_isa.specs.Lines.{item_of}
use Rattle.mips_text.specs.Printing.{item_operand}
use Rattle.mips_text.proofs.PrintedParts.{seen_at, seen_below}
use Rattle.mips_text.proofs.SpellingRows.{operand_written, operands_written}
use Rattle.mips_text.proofs.rows.put_words.Goals as goal

pub loop-index-init : goal.loop-index-init
loop-index-init c = refl

pub loop-index-preserved : goal.loop-index-preserved
loop-index-preserved c =
    rw (c.in_ok-put_item.ensures, c.in_ok-put_gap.ensures) (operand_written item_operand c.loop-index.out.items _ (map item_of c.args.items.now) c.loop-index.index (item_of c.index-items-index.result) (seen_below item_of c.args.items.now c.loop-index.index c.loop-index-test.true) (seen_at item_of c.args.items.now c.loop-index.index c.index-items-index.result c.loop-index-test.true c.index-items-index.is) c.loop-index.invariant)

pub returns : goal.returns
returns c =
    let past : length (map item_of c.args.items.now) ≤ c.loop-index.index = omega (arith, length-map c.args.items.now item_of, c.loop-index-test.false) in
    operands_written item_operand c.loop-index.out.items c.args.out.now.items c.put_directive.new.out.items (codes ".word") (map item_of c.args.items.now) c.loop-index.index past c.in_ok-put_directive.ensures c.loop-index.invariant
