-- In the loop of `explanations`, the explanations so far are those of the compile-time errors so far: their facts are true, and the edit that each suggests
-- fixes its error.
use Rattle.std.proofs.Common.{◌≡◌, map, take}
use Rattle.std.specs.List.{AllByRecursion}
use Rattle.cool_faults.specs.Files.{bytes_of}
use Rattle.cool_mend.specs.Explanations.{AreMends, IsTold}
use Rattle.cool_mend.proofs.explaining.explanations.Given as goal

abbrev pub invariant-loop-number : goal.invariant-loop-number
invariant-loop-number l = record {
  each : map (λ x. x.fault) l.all.items ≡ take l.number l.faults;
  told : AllByRecursion (IsTold (bytes_of l.files)) l.all.items;
  mends : AreMends (bytes_of l.files) l.faults 0 l.all.items;
}
