use Rattle.std.proofs.Common.{◌≡◌, ◌+◌, ◌++◌, ◌≤◌, length, map, vec_len}
use Rattle.std.specs.Prelude.{Ok}
use Rattle.mips_isa.specs.Lines.{lines_of}
use Rattle.mips_text.specs.Reading.{readings}
use Rattle.mips_text.proofs.reading.read_asm.Given as goal

abbrev pub invariant-loop-rest : goal.invariant-loop-rest
invariant-loop-rest l = record {
  few : vec_len l.lines + length l.rest ≤ length l.bytes;
  read : map Ok (lines_of l.lines.items) ++ readings l.rest ≡ readings l.bytes;
}

abbrev pub decreases-loop-rest : goal.decreases-loop-rest
decreases-loop-rest l = length l.rest
