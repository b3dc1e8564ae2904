-- In the loop of `add_of_feature`, the first warnings that `body_notices` found are added, each with its range in the file.
use Rattle.std.proofs.Common.{◌≡◌, ◌++◌, map, take}
use Rattle.std.specs.List.{AllByRecursion}
use Rattle.cool_faults.specs.Files.{bytes_of}
use Rattle.cool_mend.specs.Noticed.{due_saying, saying}
use Rattle.cool_mend.specs.Ranges.{HasRange}
use Rattle.cool_mend.proofs.noticing.add_of_feature.Given as goal

abbrev pub invariant-loop-number : goal.invariant-loop-number
invariant-loop-number l = record {
  adds : map saying l.all.items ≡ map saying l.fn.all.items ++ map due_saying (take l.number l.found.items);
  ranges : AllByRecursion (HasRange (bytes_of l.files)) l.fn.all.items → AllByRecursion (HasRange (bytes_of l.files)) l.all.items;
}
