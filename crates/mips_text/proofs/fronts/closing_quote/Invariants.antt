use Rattle.std.proofs.Common.{◌≡◌, false, drop}
use Rattle.mips_text.specs.Fronts.{closing_quote}
use Rattle.mips_text.proofs.fronts.closing_quote.Given as goal

abbrev pub invariant-loop-index : goal.invariant-loop-index
invariant-loop-index l = closing_quote l.escaped l.index (drop l.index l.bytes) ≡ closing_quote false 0 l.bytes
