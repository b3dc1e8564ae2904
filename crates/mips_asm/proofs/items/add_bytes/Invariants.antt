use Rattle.std.proofs.Common.{◌≡◌, ◌%◌, ◌++◌, map, drop}
use Rattle.mips_isa.specs.Words.{bits_of}
use Rattle.mips_asm.proofs.items.add_bytes.Given as goal

abbrev pub invariant-loop-number : goal.invariant-loop-number
invariant-loop-number l = l.bytes.items ++ map (λ n. bits_of n % 256) (drop l.number-index l.numbers) ≡ l.initial.bytes.items ++ map (λ n. bits_of n % 256) l.numbers
