use Rattle.std.proofs.Common.{◌≡◌, false, refl, ◌∙◌, arith}
use Rattle.std.specs.Prelude.{◌==◌}
use Rattle.cool_ports.proofs.InputsInParts.{took_nothing, took_both, in_two, leaves_none, leaves_same}
use Rattle.cool_eval.proofs.TakingLines.{line_begun, line_more, line_newline, line_end, line_failed, line_short, still_ended}
use Rattle.cool_eval.proofs.console.take_line.Goals as goal

pub loop-line-init : goal.loop-line-init
loop-line-init g c = record {
  ended = refl;
  took = took_nothing _ _ _;
  line = λ input rest leaves ended. rw (c.new-line.ensures.items, leaves_same _ input rest leaves) (line_begun _ _ ended);
  no_fault = refl;
}

pub returns-in-Err-clause-took : goal.returns-in-Err-clause-took
returns-in-Err-clause-took g c = took_both _ _ _ _ _ _ _ _ _ c.loop-line.invariant.took c.in-Err.ensures.took

pub returns-in-Err-clause-line : goal.returns-in-Err-clause-line
returns-in-Err-clause-line g c =
    let i = c.loop-line.invariant in
    let gave = rw i.ended at c.in-Err.ensures.gave in
    λ input rest leaves ended.
    let two = in_two _ _ _ _ _ _ _ _ _ input rest i.took c.in-Err.ensures.took leaves in
    line_failed _ _ _ _ _ _ _ (i.line input two.middle two.before ended) (gave two.middle rest two.later)

pub returns-in-Ok-None-clause-took : goal.returns-in-Ok-None-clause-took
returns-in-Ok-None-clause-took g c = took_both _ _ _ _ _ _ _ _ _ c.loop-line.invariant.took c.in-Ok-None.ensures.took

pub returns-in-Ok-None-clause-line : goal.returns-in-Ok-None-clause-line
returns-in-Ok-None-clause-line g c =
    let i = c.loop-line.invariant in
    let gave = rw (i.ended, c.in-Ok-None.field-0-is) at c.in-Ok-None.ensures.gave in
    λ input rest leaves ended.
    let two = in_two _ _ _ _ _ _ _ _ _ input rest i.took c.in-Ok-None.ensures.took leaves in
    line_end _ _ _ _ _ _ (i.line input two.middle two.before ended) (gave two.middle rest two.later)

pub returns-then-byte-eq10-clause-took : goal.returns-then-byte-eq10-clause-took
returns-then-byte-eq10-clause-took g c = took_both _ _ _ _ _ _ _ _ _ c.loop-line.invariant.took c.in-Ok-Some.ensures.took

pub returns-then-byte-eq10-clause-line : goal.returns-then-byte-eq10-clause-line
returns-then-byte-eq10-clause-line g c =
    let i = c.loop-line.invariant in
    let gave = rw (i.ended, c.in-Ok-Some.field-0-is, c.if-byte-eq10.true) at c.in-Ok-Some.ensures.gave in
    λ input rest leaves ended.
    let two = in_two _ _ _ _ _ _ _ _ _ input rest i.took c.in-Ok-Some.ensures.took leaves in
    line_newline _ _ _ _ _ _ (i.line input two.middle two.before ended) (gave two.middle rest two.later)

pub loop-line-preserved : goal.loop-line-preserved
loop-line-preserved g c =
    let i = c.loop-line.invariant in
    let gave = rw (i.ended, c.in-Ok-Some.field-0-is) at c.in-Ok-Some.ensures.gave in
    let other : (c.in-Ok-Some.byte == 10) ≡ false = grind (arith, c.if-byte-eq10.false) in
    record {
      ended = still_ended _ _ _ _ _ (gave _ _ (leaves_none _ _ _ _ _ _ c.in-Ok-Some.ensures.took));
      took = took_both _ _ _ _ _ _ _ _ _ i.took c.in-Ok-Some.ensures.took;
      line = λ input rest leaves ended.
          let two = in_two _ _ _ _ _ _ _ _ _ input rest i.took c.in-Ok-Some.ensures.took leaves in
          rw c.in-Ok.ensures.items (line_more _ _ _ _ _ _ _ (i.line input two.middle two.before ended) (gave two.middle rest two.later) other);
      no_fault = c.in-Ok-Some.ensures.no_fault ∙ i.no_fault;
    }

pub returns-in-Err-push-clause-line : goal.returns-in-Err-push-clause-line
returns-in-Err-push-clause-line g c =
    let i = c.loop-line.invariant in
    let gave = rw (i.ended, c.in-Ok-Some.field-0-is) at c.in-Ok-Some.ensures.gave in
    let other : (c.in-Ok-Some.byte == 10) ≡ false = grind (arith, c.if-byte-eq10.false) in
    λ input rest leaves ended.
    let two = in_two _ _ _ _ _ _ _ _ _ input rest i.took c.in-Ok-Some.ensures.took leaves in
    line_short _ _ _ _ _ _ _ (i.line input two.middle two.before ended) (gave two.middle rest two.later) other
