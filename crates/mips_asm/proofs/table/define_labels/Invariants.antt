-- In the loop of `define_labels`, the symbol table has the labels that the loop has passed (`Defining`).
use Rattle.std.proofs.Common.{drop}
use Rattle.mips_asm.specs.Passes.{shown}
use Rattle.mips_asm.proofs.LabelTables.{Defining}
use Rattle.mips_asm.proofs.table.define_labels.Given as goal

abbrev pub invariant-loop-label : goal.invariant-loop-label
invariant-loop-label l = Defining (shown l.fn.table.entries) (shown l.table.entries) l.labels (drop l.label-index l.labels) l.mark
