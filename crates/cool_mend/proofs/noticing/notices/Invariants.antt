-- In the loops of `notices`, the warnings so far are those of the classes and features before the present one, up to `MOST_NOTICES`, each with its range in
-- the file.
use Rattle.std.proofs.Common.{◌≡◌, ◌++◌, [], map, take}
use Rattle.std.specs.List.{AllByRecursion, flat_map}
use Rattle.cool_faults.specs.Files.{bytes_of}
use Rattle.cool_notices.specs.Notices.{up_to}
use Rattle.cool_mend.specs.declared.noticing.TheConstants.{MOST_NOTICES}
use Rattle.cool_mend.specs.Noticed.{due_in_class, due_in_feature, due_saying, saying}
use Rattle.cool_mend.specs.Ranges.{HasRange}
use Rattle.cool_mend.proofs.noticing.notices.Given as goal

abbrev pub invariant-loop-number : goal.invariant-loop-number
invariant-loop-number l = record {
  first : map saying l.all.items ≡ map due_saying (up_to MOST_NOTICES [] (flat_map due_in_class (take l.number l.classes)));
  ranges : AllByRecursion (HasRange (bytes_of l.files)) l.all.items;
}

abbrev pub invariant-loop-index : goal.invariant-loop-index
invariant-loop-index l = record {
  first : map saying l.all.items ≡ map due_saying (up_to MOST_NOTICES [] (flat_map due_in_class (take l.number l.classes) ++ flat_map due_in_feature (take l.index l.features)));
  ranges : AllByRecursion (HasRange (bytes_of l.files)) l.all.items;
}
