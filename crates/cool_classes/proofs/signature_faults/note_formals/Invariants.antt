-- The loop of `note_formals` has added the compile-time errors and the names of the formal parameters before the current one.
use Rattle.std.proofs.Common.{◌≡◌, ◌++◌, [], drop, take}
use Rattle.cool_classes.specs.Entries.{classes}
use Rattle.cool_classes.specs.FirstNames.{shown_names, FindsFirst}
use Rattle.cool_classes.specs.FeatureFaults.{formals_faults, formal_row}
use Rattle.cool_classes.proofs.signature_faults.note_formals.Given as goal

abbrev pub invariant-loop-index : goal.invariant-loop-index
invariant-loop-index l = record {
  faults : l.faults.items ++ formals_faults (classes l.table.entries.now) (formal_row (take l.index l.formals)) (drop l.index l.formals) ≡ l.fn.faults.items ++ formals_faults (classes l.table.entries.now) [] l.formals;
  before : FindsFirst (shown_names l.before.entries) (formal_row (take l.index l.formals));
}
