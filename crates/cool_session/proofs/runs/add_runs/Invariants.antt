-- In the loop of `add_runs`, the sequences of tokens (runs) added so far, followed by those that end among the tokens that are left, are the sequences of all
-- features of the file.
use Rattle.std.proofs.Common.{◌≡◌, ◌≤◌, ◌++◌, drop}
use Rattle.cool_session.specs.Runs.{bounds_from, bounds_in}
use Rattle.cool_session.proofs.runs.add_runs.Given as goal

abbrev pub invariant-loop-at : goal.invariant-loop-at
invariant-loop-at l = record {
  left : l.runs.items ++ bounds_from l.file l.depth l.start l.at (drop l.at l.tokens) ≡ l.fn.runs.items ++ bounds_in l.file l.tokens;
  depth : l.depth ≤ l.at;
}
