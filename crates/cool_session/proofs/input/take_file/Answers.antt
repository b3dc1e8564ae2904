use Rattle.std.proofs.Common.{◌≡◌, ◌+◌, ◌<◌, ◌≤◌, ◌++◌, ◌∷◌, [], length, refl, sym, ap, ◌∙◌, arith, rules}
use Rattle.std.specs.Prelude.{Err}
use Rattle.cool_ports.proofs.InputsInParts.{took_nothing, took_byte, leaves_byte, leaves_end, leaves_same}
use Rattle.cool_session.specs.declared.ending.Interruption.TheVariants.{Memory}
use Rattle.cool_session.proofs.TakingInput.{part_and_byte, short_input}
use Rattle.cool_session.proofs.input.take_file.Goals as goal
use Rattle.std.proofs.lemmas.List.{length_push}

pub loop-source-init : goal.loop-source-init
loop-source-init g c =
    let none : length c.new-bytes.result.items ≡ 0 = ap length c.new-bytes.ensures.items in
    record {
      took = took_nothing _ _ _;
      file = λ input left leaves. rw c.new-bytes.ensures.items (sym (leaves_same _ input left leaves));
      short = omega (arith, none);
      room = omega arith;
      no_fault = refl;
    }

pub returns-in-Ok-None-clause-file : goal.returns-in-Ok-None-clause-file
returns-in-Ok-None-clause-file g c =
    let i = c.loop-source.invariant in
    let answered = rw c.in-Ok-None.field-0-is at c.in-Ok-None.ensures.answered in
    let less : length c.loop-source.bytes.items < c.args.size = omega (arith, c.loop-source-test.true, c.len.ensures) in
    λ input left leaves.
    let end = leaves_end _ _ _ _ _ input left i.took answered leaves in
    (short_input input c.loop-source.bytes.items left c.args.size (i.file input left end.0) end.1 less, end.1)

pub loop-source-preserved : goal.loop-source-preserved
loop-source-preserved g c =
    let i = c.loop-source.invariant in
    let answered = rw c.in-Ok-Some.field-0-is at c.in-Ok-Some.ensures.answered in
    let taken = rw c.in-Ok-Some.field-0-is at c.in-Ok-Some.ensures.taken in
    let room = rw c.in-Ok-Some.field-0-is at c.in-Ok-Some.ensures.room in
    let longer : length c.push.new.self.items ≡ length c.loop-source.bytes.items + 1 =
    ap length c.in_ok-push-in-Ok-Some.ensures.items ∙ length_push c.loop-source.bytes.items c.in-Ok-Some.byte in
    record {
      took = took_byte _ _ _ _ _ _ _ i.took answered taken;
      file = λ input left leaves. rw c.in_ok-push-in-Ok-Some.ensures.items
          (part_and_byte input c.loop-source.bytes.items left c.in-Ok-Some.byte
          (i.file input (c.in-Ok-Some.byte ∷ left) (leaves_byte _ _ _ _ _ _ input left i.took answered leaves)));
      short = omega (arith, longer, c.loop-source-test.true, c.len.ensures);
      room = omega (arith, room.1, i.room);
      no_fault = c.in-Ok-Some.ensures.no_fault ∙ i.no_fault;
    }

pub returns-in_err-push-in-Ok-Some-clause-took : goal.returns-in_err-push-in-Ok-Some-clause-took
returns-in_err-push-in-Ok-Some-clause-took g c =
    let answered = rw c.in-Ok-Some.field-0-is at c.in-Ok-Some.ensures.answered in
    let taken = rw c.in-Ok-Some.field-0-is at c.in-Ok-Some.ensures.taken in
    let same : c.from_residual.result ≡ Err Memory = search rules in
    rw same (took_byte _ _ _ _ _ _ _ c.loop-source.invariant.took answered taken)

pub returns-in_err-push-in-Ok-Some-clause-file : goal.returns-in_err-push-in-Ok-Some-clause-file
returns-in_err-push-in-Ok-Some-clause-file g c =
    let i = c.loop-source.invariant in
    let bytes = c.loop-source.bytes.items in
    let byte = c.in-Ok-Some.byte in
    let answered = rw c.in-Ok-Some.field-0-is at c.in-Ok-Some.ensures.answered in
    let most : length (bytes ++ byte ∷ []) ≤ c.args.size = omega (arith, length_push bytes byte, c.loop-source-test.true, c.len.ensures) in
    let same : c.from_residual.result ≡ Err Memory = search rules in
    λ input left leaves.
    let is = i.file input (byte ∷ left) (leaves_byte _ _ _ _ _ _ input left i.took answered leaves) in
    rw same (bytes ++ byte ∷ [], part_and_byte input bytes left byte is, most)
