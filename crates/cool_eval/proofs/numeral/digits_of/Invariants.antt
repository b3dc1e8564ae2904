use Rattle.std.proofs.Common.{◌≡◌, ◌%◌, drop}
use Rattle.cool_meaning.specs.Numbers as numbers
use Rattle.cool_eval.proofs.numeral.digits_of.Given as goal

-- the number so far goes on to the whole, in the low bits
abbrev pub invariant-loop-byte : goal.invariant-loop-byte
invariant-loop-byte l = numbers.digits_from l.number (drop l.byte-index l.text) % 4294967296 ≡ numbers.digits_from 0 l.text % 4294967296
