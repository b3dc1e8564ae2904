-- In the loop of `first_other`, the files before the present one have the tokens that they had before, except for source locations.
use Rattle.std.proofs.Common.{ℕ, ◌≤◌, ◌<◌}
use Rattle.cool_session.specs.Differing.{IsSameFile}
use Rattle.cool_session.proofs.difference.first_other.Given as goal

abbrev pub invariant-loop-file : goal.invariant-loop-file
invariant-loop-file l = record {
  after : l.from ≤ l.file;
  same : (j : ℕ) → l.from ≤ j → j < l.file → IsSameFile l.before l.now j;
}
