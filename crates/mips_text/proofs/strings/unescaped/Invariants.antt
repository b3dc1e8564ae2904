use Rattle.std.proofs.Common.{◌≡◌, ◌++◌, false, drop}
use Rattle.mips_text.specs.Strings.{unescaped}
use Rattle.mips_text.proofs.strings.unescaped.Given as goal

abbrev pub invariant-loop-byte : goal.invariant-loop-byte
invariant-loop-byte l = l.bytes.items ++ unescaped l.escaped (drop l.byte-index l.raw) ≡ unescaped false l.raw
