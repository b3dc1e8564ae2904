use Rattle.std.proofs.Common.{arith, refl, ◌≡◌, ◌∙◌, ap, false}
use Rattle.std.specs.Prelude.{◌==◌}
use Rattle.std.proofs.lemmas.Result.{err_from_is_err_and}
use Rattle.mips_isa.specs.Bytes.{writable}
use Rattle.spim_memory.specs.Memory.{segments}
use Rattle.spim_machine.proofs.KeepingParts.{keeps_same, keeps_both}
use Rattle.cool_ports.proofs.InputsInParts.{took_nothing, took_both, in_two, leaves_none, leaves_same}
use Rattle.spim_machine.proofs.TakingBytes.{still_ended}
use Rattle.spim_machine.proofs.FillingBuffers.{may_store_at, stored_none, stored_byte, stored_newline, stored_end, stored_full, stored_failed}
use Rattle.spim_machine.proofs.machine.Machine.store_line.Goals as goal

pub loop-end-init : goal.loop-end-init
loop-end-init g c = record {
  ended = refl;
  took = took_nothing _ _ _;
  stored = λ input rest leaves. rw (leaves_same _ input rest leaves) (stored_none _ _ _ _ _);
  heap_break = refl;
  keeps = keeps_same _;
  no_fault = refl;
}

pub returns-in_err-byte-clause-some : goal.returns-in_err-byte-clause-some
returns-in_err-byte-clause-some g c =
    let p = err_from_is_err_and c.from_residual.result c.from_residual.ensures.1 in
    let is = ap (λ m. m.ended) c.self.view_is ∙ c.loop-end.invariant.ended in
    let gave = rw is at c.in_err-byte.ensures.gave in
    let took = rw (← c.self.view_is) at c.loop-end.invariant.took in
    let stored = rw (← c.self.view_is) at c.loop-end.invariant.stored in
    rw p.1 (λ input rest leaves.
    let two = in_two _ _ _ _ _ _ _ _ _ input rest took c.in_err-byte.ensures.took leaves in
    stored_failed _ _ _ _ _ _ _ _ _ _ _ (stored input two.middle two.before) c.loop-end-test.true (gave two.middle rest two.later))

pub returns-in_default-clause-all : goal.returns-in_default-clause-all
returns-in_default-clause-all g c =
    let is = ap (λ m. m.ended) c.self.view_is ∙ c.loop-end.invariant.ended in
    let gave = rw (is, c.in_default.is) at c.in_ok-byte.ensures.gave in
    let stored = rw (← c.self.view_is) at c.loop-end.invariant.stored in
    let took = rw (← c.self.view_is) at c.loop-end.invariant.took in
    λ input rest leaves.
    let two = in_two _ _ _ _ _ _ _ _ _ input rest took c.in_ok-byte.ensures.took leaves in
    stored_end _ _ _ _ _ _ _ _ _ _ (stored input two.middle two.before) c.loop-end-test.true (gave two.middle rest two.later)

pub store-requires : goal.store-requires
store-requires g c =
    let keeps = rw (← c.self.view_is) at c.loop-end.invariant.keeps in
    ap (λ s. writable s c.loop-end.end 1) keeps.memory.segments ∙ may_store_at (segments c.args.self.now.cpu.memory) c.args.address c.args.most c.loop-end.end c.requires.writable (omega (arith, c.loop-end.auto.end)) (omega (arith, c.loop-end-test.true))

pub returns-then-byte-eq10-clause-all : goal.returns-then-byte-eq10-clause-all
returns-then-byte-eq10-clause-all g c =
    let is = ap (λ m. m.ended) c.self.view_is ∙ c.loop-end.invariant.ended in
    let gave = rw (is, c.in-Some.is) at c.in_ok-byte.ensures.gave in
    let stored = rw (← c.self.view_is) at c.loop-end.invariant.stored in
    let took = rw (← c.self.view_is) at c.loop-end.invariant.took in
    rw c.store.ensures.ended (λ input rest leaves.
    let two = in_two _ _ _ _ _ _ _ _ _ input rest took c.in_ok-byte.ensures.took leaves in
    stored_newline _ _ _ _ _ _ _ _ _ _ _ _ (stored input two.middle two.before) c.loop-end-test.true (gave two.middle rest two.later) c.if-byte-eq10.true c.store.ensures.core)

pub loop-end-preserved : goal.loop-end-preserved
loop-end-preserved g c =
    let is = ap (λ m. m.ended) c.self.view_is ∙ c.loop-end.invariant.ended in
    let gave = rw (is, c.in-Some.is) at c.in_ok-byte.ensures.gave in
    let stored = rw (← c.self.view_is) at c.loop-end.invariant.stored in
    let keeps = rw (← c.self.view_is) at c.loop-end.invariant.keeps in
    let took = rw (← c.self.view_is) at c.loop-end.invariant.took in
    let other : (c.in-Some.byte == 10) ≡ false = grind (arith, c.if-byte-eq10.false) in
    record {
      ended = c.store.ensures.ended ∙ still_ended _ _ _ _ _ (gave _ _ (leaves_none _ _ _ _ _ _ c.in_ok-byte.ensures.took));
      took = rw c.store.ensures.ended (took_both _ _ _ _ _ _ _ _ _ took c.in_ok-byte.ensures.took);
      stored = λ input rest leaves.
          let two = in_two _ _ _ _ _ _ _ _ _ input rest took c.in_ok-byte.ensures.took leaves in
          stored_byte _ _ _ _ _ _ _ _ _ _ _ _ (stored input two.middle two.before) c.loop-end-test.true (gave two.middle rest two.later) other c.store.ensures.core;
      heap_break = c.store.ensures.heap_break ∙ ap (λ m. m.heap_break) c.self.view_is ∙ c.loop-end.invariant.heap_break;
      keeps = keeps_both _ _ _ c.store.ensures.keeps keeps.memory keeps.halted;
      no_fault = c.in_ok-byte.ensures.no_fault ∙ c.loop-end.invariant.no_fault;
    }

pub returns-in_err-byte-clause-took : goal.returns-in_err-byte-clause-took
returns-in_err-byte-clause-took g c =
    let took = rw (← c.self.view_is) at c.loop-end.invariant.took in
    took_both _ _ _ _ _ _ _ _ _ took c.in_err-byte.ensures.took

pub returns-in_default-clause-took : goal.returns-in_default-clause-took
returns-in_default-clause-took g c =
    let took = rw (← c.self.view_is) at c.loop-end.invariant.took in
    took_both _ _ _ _ _ _ _ _ _ took c.in_ok-byte.ensures.took

pub returns-then-byte-eq10-clause-took : goal.returns-then-byte-eq10-clause-took
returns-then-byte-eq10-clause-took g c =
    let took = rw (← c.self.view_is) at c.loop-end.invariant.took in
    rw c.store.ensures.ended (took_both _ _ _ _ _ _ _ _ _ took c.in_ok-byte.ensures.took)

pub returns-clause-all : goal.returns-clause-all
returns-clause-all g c = λ input rest leaves.
    stored_full _ _ _ _ _ _ _ _ _ _ (c.loop-end.invariant.stored input rest leaves) (omega (arith, c.loop-end-test.false, c.loop-end.auto.end, c.loop-end.auto.end-end)) refl c.loop-end.invariant.ended
