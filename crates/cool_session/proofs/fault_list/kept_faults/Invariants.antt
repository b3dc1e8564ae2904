-- In the loop of `kept_faults`, the type errors (faults) so far, followed by those stored for the features that are left, are all stored errors.
use Rattle.std.proofs.Common.{◌≡◌, ◌++◌, drop}
use Rattle.cool_session.specs.Bases.{tokens_of}
use Rattle.cool_session.specs.FeatureTokens.{runs_of}
use Rattle.cool_session.specs.KeptFaults.{faults_kept}
use Rattle.cool_session.proofs.fault_list.kept_faults.Given as goal

abbrev pub invariant-loop-i : goal.invariant-loop-i
invariant-loop-i l = record {
  left : l.faults.items ++ faults_kept (drop l.i (runs_of (tokens_of l.lexed))) (drop l.i l.kept) ≡ faults_kept (runs_of (tokens_of l.lexed)) l.kept;
}
