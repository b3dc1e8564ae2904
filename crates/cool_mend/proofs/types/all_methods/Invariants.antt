-- In the loop of `all_methods`, the methods so far, with those of the ancestors that are left, are all methods of the class.
use Rattle.std.proofs.Common.{◌≡◌, ◌+◌, ◌-◌, ◌<◌, length}
use Rattle.std.specs.Prelude.{IfSome}
use Rattle.std.specs.List.{flat_map}
use Rattle.cool_classes.specs.ClimbedChains.{climbed}
use Rattle.cool_faults.specs.Files.{bytes_of}
use Rattle.cool_mend.specs.Told.{all_methods, own_names, with_methods}
use Rattle.cool_mend.proofs.types.all_methods.Given as goal

abbrev pub invariant-loop : goal.invariant-loop
invariant-loop l = record {
  within : IfSome l.next (λ c. c.0 < length l.classes);
  rest : with_methods l.classes l.class (bytes_of l.all.items) (flat_map (own_names l.classes) (climbed (length l.classes + 1 - l.counter) l.classes l.next)) ≡ all_methods l.classes l.class;
}
