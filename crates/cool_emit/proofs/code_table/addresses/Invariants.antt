-- In the loop of `addresses`, the result so far has the addresses of the lines passed, and the address after them.
use Rattle.std.proofs.Common.{◌≡◌, ◌+◌, take}
use Rattle.mips_isa.specs.Lines.{lines_of}
use Rattle.cool_runtime.specs.Standing.{sizes}
use Rattle.cool_emit.specs.Tellings.{addresses}
use Rattle.cool_emit.proofs.code_table.addresses.Given as goal

abbrev pub invariant-loop-line : goal.invariant-loop-line
invariant-loop-line l = record {
  address : l.address ≡ l.first + sizes (lines_of (take l.line-index l.lines));
  all : l.all.items ≡ addresses l.first (lines_of (take l.line-index l.lines));
}
