use Rattle.std.proofs.Common.{arith, ◌≡◌, false, refl, ◌∙◌}
use Rattle.std.specs.Prelude.{◌==◌}
use Rattle.std.proofs.lemmas.Result.{err_from_is_err_and}
use Rattle.cool_ports.proofs.InputsInParts.{took_nothing, took_both, in_two, leaves_none, leaves_same}
use Rattle.spim_machine.proofs.TakingBytes.{still_ended}
use Rattle.spim_machine.proofs.ReadingNumbers.{read_none, read_byte, read_newline, read_end, read_failed}
use Rattle.spim_machine.proofs.number.read_number.Goals as goal

pub loop-byte-init : goal.loop-byte-init
loop-byte-init g c = record {
  ended = refl;
  took = took_nothing _ _ _;
  reads = λ input rest leaves. rw (leaves_same _ input rest leaves) (read_none _ _);
  no_fault = refl;
}

pub returns-in_err-byte-clause-took : goal.returns-in_err-byte-clause-took
returns-in_err-byte-clause-took g c = took_both _ _ _ _ _ _ _ _ _ c.loop-byte.invariant.took c.in_err-byte.ensures.took

pub returns-in_err-byte-clause-some : goal.returns-in_err-byte-clause-some
returns-in_err-byte-clause-some g c =
    let i = c.loop-byte.invariant in
    let p = err_from_is_err_and c.from_residual.result c.from_residual.ensures.1 in
    let gave = rw i.ended at c.in_err-byte.ensures.gave in
    rw p.1 (λ input rest leaves.
    let two = in_two _ _ _ _ _ _ _ _ _ input rest i.took c.in_err-byte.ensures.took leaves in
    read_failed _ _ _ _ _ _ _ (i.reads input two.middle two.before) (gave two.middle rest two.later))

pub returns-then-byte-eq10-clause-took : goal.returns-then-byte-eq10-clause-took
returns-then-byte-eq10-clause-took g c = took_both _ _ _ _ _ _ _ _ _ c.loop-byte.invariant.took c.in_ok-byte.ensures.took

pub returns-then-byte-eq10-clause-all : goal.returns-then-byte-eq10-clause-all
returns-then-byte-eq10-clause-all g c =
    let i = c.loop-byte.invariant in
    let gave = rw (i.ended, c.in-Some.is) at c.in_ok-byte.ensures.gave in
    λ input rest leaves.
    let two = in_two _ _ _ _ _ _ _ _ _ input rest i.took c.in_ok-byte.ensures.took leaves in
    read_newline _ _ _ _ _ _ c.with-number.result _ _ (i.reads input two.middle two.before) (gave two.middle rest two.later) c.if-byte-eq10.true c.with-number.ensures c.value.ensures

pub loop-byte-preserved : goal.loop-byte-preserved
loop-byte-preserved g c =
    let i = c.loop-byte.invariant in
    let gave = rw (i.ended, c.in-Some.is) at c.in_ok-byte.ensures.gave in
    let other : (c.in-Some.byte == 10) ≡ false = grind (arith, c.if-byte-eq10.false) in
    record {
      ended = still_ended _ _ _ _ _ (gave _ _ (leaves_none _ _ _ _ _ _ c.in_ok-byte.ensures.took));
      took = took_both _ _ _ _ _ _ _ _ _ i.took c.in_ok-byte.ensures.took;
      reads = λ input rest leaves.
          let two = in_two _ _ _ _ _ _ _ _ _ input rest i.took c.in_ok-byte.ensures.took leaves in
          read_byte _ _ _ _ _ _ _ _ (i.reads input two.middle two.before) (gave two.middle rest two.later) other c.with-number.ensures;
      no_fault = c.in_ok-byte.ensures.no_fault ∙ i.no_fault;
    }

pub returns-clause-took : goal.returns-clause-took
returns-clause-took g c = took_both _ _ _ _ _ _ _ _ _ c.loop-byte.invariant.took c.in_ok-byte.ensures.took

pub returns-clause-all : goal.returns-clause-all
returns-clause-all g c =
    let i = c.loop-byte.invariant in
    let gave = rw (i.ended, c.in_default.is) at c.in_ok-byte.ensures.gave in
    λ input rest leaves.
    let two = in_two _ _ _ _ _ _ _ _ _ input rest i.took c.in_ok-byte.ensures.took leaves in
    read_end _ _ _ _ _ _ _ (i.reads input two.middle two.before) (gave two.middle rest two.later) c.value-2.ensures
