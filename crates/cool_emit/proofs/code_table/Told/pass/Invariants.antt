-- In the loop of `Told::pass`, the address so far plus the sizes of the lines that are left is the address after all lines. The text of the debug information
-- does not change.
use Rattle.std.proofs.Common.{◌≡◌, ◌+◌, drop}
use Rattle.mips_isa.specs.Lines.{lines_of}
use Rattle.cool_runtime.specs.Standing.{sizes}
use Rattle.cool_emit.proofs.code_table.Told.pass.Given as goal

abbrev pub invariant-loop-line : goal.invariant-loop-line
invariant-loop-line l = record {
  address : l.self.address + sizes (lines_of (drop l.line-index l.lines)) ≡ l.fn.self.address + sizes (lines_of l.lines);
  text : l.self.text ≡ l.fn.self.text;
}
