use Rattle.std.proofs.Common.{◌≡◌, ◌+◌, ◌<◌, ◌++◌, ◌∷◌, ℕ, length, false, refl, sym, ap, subst, ◌∙◌, arith, rules, inl, inr}
use Rattle.std.specs.Prelude.{◌==◌, Err}
use Rattle.cool_session.specs.declared.ending.Interruption.TheVariants.{Memory}
use Rattle.cool_ports.proofs.InputsInParts.{took_nothing, took_byte, leaves_byte, leaves_end, leaves_same}
use Rattle.cool_session.proofs.TakingInput.{part_and_byte, still_no_newline, line_taken, long_taken, unended_taken, longer_part, bound_first, is_empty_part, is_some_part}
use Rattle.cool_session.proofs.input.take_line.Goals.{then-is_empty, else-is_empty}
use Rattle.cool_session.proofs.input.take_line.Goals as goal
use Rattle.std.proofs.lemmas.List.{length_push}

pub loop-line-init : goal.loop-line-init
loop-line-init g c =
    let none : length c.new-line.result.items ≡ 0 = ap length c.new-line.ensures.items in
    record {
      took = took_nothing _ _ _;
      line = λ input left leaves. rw c.new-line.ensures.items (sym (leaves_same _ input left leaves));
      short = omega (arith, none);
      no_newline = rw c.new-line.ensures.items refl;
      spent = omega (arith, none);
      bounded = inl refl;
      no_fault = refl;
    }

pub returns-in-Ok-None-clause-line : goal.returns-in-Ok-None-clause-line
returns-in-Ok-None-clause-line g c =
    let i = c.loop-line.invariant in
    let answered = rw c.in-Ok-None.field-0-is at c.in-Ok-None.ensures.answered in
    elim c.if-is_empty.branch [
      | then-is_empty w ↦ (λ input left leaves.
          let end = leaves_end _ _ _ _ _ input left i.took answered leaves in
          let none = is_empty_part c.loop-line.line.items _ c.loop-line.line.ok.0 w.if-is_empty.ensures in
          rw w.result-is (i.line input left end.0 ∙ ap (λ xs. xs ++ left) none ∙ end.1, end.1))
      | else-is_empty w ↦ (λ input left leaves.
          let end = leaves_end _ _ _ _ _ input left i.took answered leaves in
          rw w.result-is (unended_taken input c.loop-line.line.items left (i.line input left end.0) end.1
          (is_some_part c.loop-line.line.items _ c.loop-line.line.ok.0 w.if-is_empty.ensures) i.short i.no_newline))
    ]

pub returns-then-byte-eq10-clause-took : goal.returns-then-byte-eq10-clause-took
returns-then-byte-eq10-clause-took g c =
    let answered = rw c.in-Ok-Some.field-0-is at c.in-Ok-Some.ensures.answered in
    let taken = rw c.in-Ok-Some.field-0-is at c.in-Ok-Some.ensures.taken in
    took_byte _ _ _ _ _ _ _ c.loop-line.invariant.took answered taken

pub returns-then-byte-eq10-clause-line : goal.returns-then-byte-eq10-clause-line
returns-then-byte-eq10-clause-line g c =
    let i = c.loop-line.invariant in
    let answered = rw c.in-Ok-Some.field-0-is at c.in-Ok-Some.ensures.answered in
    λ input left leaves.
    let is = i.line input (c.in-Ok-Some.byte ∷ left) (leaves_byte _ _ _ _ _ _ input left i.took answered leaves) in
    line_taken input c.loop-line.line.items left (subst (λ (b : ℕ). input ≡ c.loop-line.line.items ++ b ∷ left) c.if-byte-eq10.true is) i.short
    i.no_newline

pub returns-then-byte-eq10-clause-spent : goal.returns-then-byte-eq10-clause-spent
returns-then-byte-eq10-clause-spent g c =
    let i = c.loop-line.invariant in
    let room = rw c.in-Ok-Some.field-0-is at c.in-Ok-Some.ensures.room in
    (bound_first _ _ i.bounded room.0, omega (arith, i.spent, room.1))

pub returns-then-len-eq-MOST_LINE-clause-took : goal.returns-then-len-eq-MOST_LINE-clause-took
returns-then-len-eq-MOST_LINE-clause-took g c =
    let answered = rw c.in-Ok-Some.field-0-is at c.in-Ok-Some.ensures.answered in
    let taken = rw c.in-Ok-Some.field-0-is at c.in-Ok-Some.ensures.taken in
    took_byte _ _ _ _ _ _ _ c.loop-line.invariant.took answered taken

pub returns-then-len-eq-MOST_LINE-clause-line : goal.returns-then-len-eq-MOST_LINE-clause-line
returns-then-len-eq-MOST_LINE-clause-line g c =
    let i = c.loop-line.invariant in
    let answered = rw c.in-Ok-Some.field-0-is at c.in-Ok-Some.ensures.answered in
    let other : (c.in-Ok-Some.byte == 10) ≡ false = grind (arith, c.if-byte-eq10.false) in
    let long : length c.loop-line.line.items ≡ 300 = omega (arith, c.if-len-eq-MOST_LINE.true, c.len.ensures) in
    λ input left leaves.
    let is = i.line input (c.in-Ok-Some.byte ∷ left) (leaves_byte _ _ _ _ _ _ input left i.took answered leaves) in
    long_taken input c.loop-line.line.items left c.in-Ok-Some.byte is long i.no_newline other

pub loop-line-preserved : goal.loop-line-preserved
loop-line-preserved g c =
    let i = c.loop-line.invariant in
    let answered = rw c.in-Ok-Some.field-0-is at c.in-Ok-Some.ensures.answered in
    let taken = rw c.in-Ok-Some.field-0-is at c.in-Ok-Some.ensures.taken in
    let room = rw c.in-Ok-Some.field-0-is at c.in-Ok-Some.ensures.room in
    let other : (c.in-Ok-Some.byte == 10) ≡ false = grind (arith, c.if-byte-eq10.false) in
    let longer : length c.push.new.self.items ≡ length c.loop-line.line.items + 1 =
    ap length c.in_ok-push-in-Ok-Some.ensures.items ∙ length_push c.loop-line.line.items c.in-Ok-Some.byte in
    record {
      took = took_byte _ _ _ _ _ _ _ i.took answered taken;
      line = λ input left leaves. rw c.in_ok-push-in-Ok-Some.ensures.items
          (part_and_byte input c.loop-line.line.items left c.in-Ok-Some.byte
          (i.line input (c.in-Ok-Some.byte ∷ left) (leaves_byte _ _ _ _ _ _ input left i.took answered leaves)));
      short = omega (arith, longer, i.short, c.if-len-eq-MOST_LINE.false, c.len.ensures);
      no_newline = rw c.in_ok-push-in-Ok-Some.ensures.items (still_no_newline c.loop-line.line.items c.in-Ok-Some.byte i.no_newline other);
      spent = omega (arith, longer, i.spent, room.1);
      bounded = inr (bound_first _ _ i.bounded room.0);
      no_fault = c.in-Ok-Some.ensures.no_fault ∙ i.no_fault;
    }

pub returns-in_err-push-in-Ok-Some-clause-took : goal.returns-in_err-push-in-Ok-Some-clause-took
returns-in_err-push-in-Ok-Some-clause-took g c =
    let answered = rw c.in-Ok-Some.field-0-is at c.in-Ok-Some.ensures.answered in
    let taken = rw c.in-Ok-Some.field-0-is at c.in-Ok-Some.ensures.taken in
    let same : c.from_residual.result ≡ Err Memory = search rules in
    rw same (took_byte _ _ _ _ _ _ _ c.loop-line.invariant.took answered taken)

pub returns-in_err-push-in-Ok-Some-clause-line : goal.returns-in_err-push-in-Ok-Some-clause-line
returns-in_err-push-in-Ok-Some-clause-line g c =
    let i = c.loop-line.invariant in
    let answered = rw c.in-Ok-Some.field-0-is at c.in-Ok-Some.ensures.answered in
    let other : (c.in-Ok-Some.byte == 10) ≡ false = grind (arith, c.if-byte-eq10.false) in
    let short : length c.loop-line.line.items < 300 = omega (arith, i.short, c.if-len-eq-MOST_LINE.false, c.len.ensures) in
    let same : c.from_residual.result ≡ Err Memory = search rules in
    λ input left leaves.
    let is = i.line input (c.in-Ok-Some.byte ∷ left) (leaves_byte _ _ _ _ _ _ input left i.took answered leaves) in
    rw same (longer_part input c.loop-line.line.items left c.in-Ok-Some.byte is short i.no_newline other)
