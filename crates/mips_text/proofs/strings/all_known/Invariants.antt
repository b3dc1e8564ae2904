use Rattle.std.proofs.Common.{◌≡◌, false, drop}
use Rattle.mips_text.specs.Strings.{all_known}
use Rattle.mips_text.proofs.strings.all_known.Given as goal

abbrev pub invariant-loop-byte : goal.invariant-loop-byte
invariant-loop-byte l = all_known l.escaped (drop l.byte-index l.raw) ≡ all_known false l.raw
