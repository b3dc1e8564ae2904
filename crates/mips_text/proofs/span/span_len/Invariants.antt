use Rattle.std.proofs.Common.{length, ◌-◌, ◌≡◌, ◌+◌, ◌≤◌, drop}
use Rattle.std.specs.List.{prefix_len}
use Rattle.mips_text.specs.Fronts.{takes}
use Rattle.mips_text.proofs.span.span_len.Given as goal

abbrev pub invariant-loop-len : goal.invariant-loop-len
invariant-loop-len l = record {
  within : l.len ≤ length l.text;
  taken : l.len + prefix_len (takes l.span) (drop l.len l.text) ≡ prefix_len (takes l.span) l.text;
}

abbrev pub decreases-loop-len : goal.decreases-loop-len
decreases-loop-len l = length l.text - l.len
