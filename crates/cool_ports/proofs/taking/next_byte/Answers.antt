use Rattle.std.proofs.Common.{arith, refl, ◌∙◌}
use Rattle.std.proofs.lemmas.Result.{err_from_is_err_and}
use Rattle.cool_ports.proofs.GivingBytes.{gave_none, zeros_before, next_is_some, next_is_end, next_is_failed, next_is_past}
use Rattle.cool_ports.proofs.InputsInParts.{took_nothing, took_byte, took_answer, leaves_byte, leaves_end, leaves_same}
use Rattle.cool_ports.proofs.taking.next_byte.Goals as goal

pub returns-then-ended-clause-took : goal.returns-then-ended-clause-took
returns-then-ended-clause-took g c = took_nothing _ _ _

pub returns-then-ended-clause-gave : goal.returns-then-ended-clause-gave
returns-then-ended-clause-gave g c = λ input rest leaves. rw (leaves_same _ input rest leaves) (next_is_past _ _ c.if-ended.true)

pub loop-byte-init : goal.loop-byte-init
loop-byte-init g c = record {
  ended = c.if-ended.false;
  took = took_nothing _ _ _;
  gave = λ input rest leaves. rw (leaves_same _ input rest leaves) (gave_none _);
  room = omega arith;
  no_fault = refl;
}

pub returns-in_err-take-clause-took : goal.returns-in_err-take-clause-took
returns-in_err-take-clause-took g c = rw (c.if-ended.false, c.loop-byte.invariant.ended, c.in_err-take.ensures.nothing_given, c.in_err-take.ensures.kept) c.loop-byte.invariant.took

pub returns-in_err-take-clause-gave : goal.returns-in_err-take-clause-gave
returns-in_err-take-clause-gave g c =
    let p = err_from_is_err_and c.from_residual.result c.from_residual.ensures.1 in
    let i = c.loop-byte.invariant in
    λ input rest leaves.
    rw p.1 (next_is_failed _ _ _ _ _ c.if-ended.false i.ended (i.gave input rest (rw c.in_err-take.ensures.nothing_given at leaves)))

pub loop-byte-preserved : goal.loop-byte-preserved
loop-byte-preserved g c =
    let i = c.loop-byte.invariant in
    let answered = rw c.in-Some-eq0.is at c.in_ok-take.ensures.answered in
    let taken = rw c.in-Some-eq0.is at c.in_ok-take.ensures.taken in
    let room = rw c.in-Some-eq0.is at c.in_ok-take.ensures.room in
    record {
      ended = i.ended;
      took = took_byte _ _ _ _ _ _ _ i.took answered taken;
      gave = λ input rest leaves. zeros_before _ _ _ c.in-Some-eq0.field-0-test (i.gave input _ (leaves_byte _ _ _ _ _ _ input rest i.took answered leaves));
      room = omega (arith, i.room, room);
      no_fault = c.in_ok-take.ensures.no_fault ∙ i.no_fault;
    }

pub returns-in-Some-clause-took : goal.returns-in-Some-clause-took
returns-in-Some-clause-took g c =
    let i = c.loop-byte.invariant in
    let answered = rw c.in-Some.is at c.in_ok-take.ensures.answered in
    let taken = rw c.in-Some.is at c.in_ok-take.ensures.taken in
    rw (c.if-ended.false, i.ended) (took_byte _ _ _ _ _ _ _ i.took answered taken)

pub returns-in-Some-clause-gave : goal.returns-in-Some-clause-gave
returns-in-Some-clause-gave g c =
    let i = c.loop-byte.invariant in
    let answered = rw c.in-Some.is at c.in_ok-take.ensures.answered in
    λ input rest leaves.
    next_is_some _ _ _ _ _ c.if-ended.false i.ended (i.gave input _ (leaves_byte _ _ _ _ _ _ input rest i.took answered leaves)) (omega (arith, c.in-Some.byte-test.1))

pub returns-in-None-clause-took : goal.returns-in-None-clause-took
returns-in-None-clause-took g c =
    let i = c.loop-byte.invariant in
    let answered = rw c.in-None.is at c.in_ok-take.ensures.answered in
    let taken = rw c.in-None.is at c.in_ok-take.ensures.taken in
    rw c.if-ended.false (took_answer _ _ _ _ _ _ i.took answered taken)

pub returns-in-None-clause-gave : goal.returns-in-None-clause-gave
returns-in-None-clause-gave g c =
    let i = c.loop-byte.invariant in
    let answered = rw c.in-None.is at c.in_ok-take.ensures.answered in
    λ input rest leaves.
    let end = leaves_end _ _ _ _ _ input rest i.took answered leaves in
    next_is_end _ _ _ c.if-ended.false (i.gave input rest end.0) end.1
