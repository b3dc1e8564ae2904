use Rattle.std.proofs.Common.{◌≡◌, drop, map}
use Rattle.mips_text.specs.Operands.{place_from}
use Rattle.mips_text.proofs.registers.place_of.Given as goal

abbrev pub invariant-loop-place : goal.invariant-loop-place
invariant-loop-place l =
    place_from l.place (map (λ known. known.now) (drop l.place l.table)) l.name ≡ place_from l.start (map (λ known. known.now) (drop l.start l.table)) l.name
