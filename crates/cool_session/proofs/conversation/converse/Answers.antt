use Rattle.std.proofs.Common.{◌≡◌, ◌+◌, ◌<◌, ◌≤◌, ◌^◌, rules, refl, sym, ap, subst, ◌∙◌, ℕ, List, arith}
use Rattle.std.specs.Prelude.{Err}
use Rattle.cool_faults.specs.Files.{bytes_of}
use Rattle.cool_ports.proofs.InputsInParts.{took_nothing, took_both, in_two, leaves_same}
use Rattle.cool_ports.specs.SinkPuts.{seen}
use Rattle.cool_session.specs.Exchanges.{Line, head}
use Rattle.cool_session.specs.Files.{names_of}
use Rattle.cool_session.specs.Held.{Held, nothing_held, held_by}
use Rattle.cool_session.specs.NewFeatures.{base_seen}
use Rattle.cool_session.proofs.CommandsDone.{held_is}
use Rattle.cool_session.proofs.SessionsSoFar.{SoFar, begun, goes_on, ends_at_command, ends_at_nothing, ends_at_no_line, no_line_taken, few_more, cut_at_command, cut_in_line}
use Rattle.cool_session.proofs.conversation.converse.Goals as goal

pub loop-session-init : goal.loop-session-init
loop-session-init g c =
    let first = seen (g.K.Sink.held c.args.sink.now) (g.K.Sink.puts c.args.sink.now) in
    let new : held_by c.new-session.result ≡ nothing_held =
    held_is _ _ _ _ _ _ (ap names_of c.new-session.ensures.names) (ap bytes_of c.new-session.ensures.files) (ap base_seen c.new-session.ensures.base) in
    record {
      took = took_nothing _ _ _;
      so_far = λ input left leaves.
          rw (leaves_same _ input left leaves) (subst (λ (h : Held). SoFar input 0 h input first first) (sym new) (begun input first));
      few = λ h. absurd (omega (arith, h));
      no_read_fault = refl;
      no_write_fault = refl;
    }

-- a line was cut short
pub returns-in_err-take_line-clause-conversed : goal.returns-in_err-take_line-clause-conversed
returns-in_err-take_line-clause-conversed g c =
    let i = c.loop-session.invariant in
    let e = c.in_err-take_line.field-0.0 in
    let same : c.from_residual.result ≡ Err e = search rules in
    λ input left leaves.
    let two = in_two _ _ _ _ _ _ _ _ _ input left i.took c.in_err-take_line.ensures.took leaves in
    rw same
    (cut_in_line input c.loop-session.number (held_by c.loop-session.session) two.middle _ _ (i.so_far input two.middle two.before) e left
    (c.in_err-take_line.ensures.line two.middle left two.later)).0

pub returns-in_err-take_line-clause-lines : goal.returns-in_err-take_line-clause-lines
returns-in_err-take_line-clause-lines g c =
    let i = c.loop-session.invariant in
    let e = c.in_err-take_line.field-0.0 in
    let same : c.from_residual.result ≡ Err e = search rules in
    λ input left leaves.
    let two = in_two _ _ _ _ _ _ _ _ _ input left i.took c.in_err-take_line.ensures.took leaves in
    rw same
    (cut_in_line input c.loop-session.number (held_by c.loop-session.session) two.middle _ _ (i.so_far input two.middle two.before) e left
    (c.in_err-take_line.ensures.line two.middle left two.later)).1

pub returns-in-Nothing-clause-conversed : goal.returns-in-Nothing-clause-conversed
returns-in-Nothing-clause-conversed g c =
    let i = c.loop-session.invariant in
    let took = rw c.in-Nothing.is at c.in_ok-take_line.ensures.took in
    λ input left leaves.
    let two = in_two _ _ _ _ _ _ _ _ _ input left i.took took leaves in
    let line = rw c.in-Nothing.is at (c.in_ok-take_line.ensures.line two.middle left two.later) in
    (ends_at_nothing input c.loop-session.number (held_by c.loop-session.session) two.middle _ _ (i.so_far input two.middle two.before) left line).0

pub returns-in-Nothing-clause-lines : goal.returns-in-Nothing-clause-lines
returns-in-Nothing-clause-lines g c =
    let i = c.loop-session.invariant in
    let took = rw c.in-Nothing.is at c.in_ok-take_line.ensures.took in
    λ input left leaves.
    let two = in_two _ _ _ _ _ _ _ _ _ input left i.took took leaves in
    let line = rw c.in-Nothing.is at (c.in_ok-take_line.ensures.line two.middle left two.later) in
    (ends_at_nothing input c.loop-session.number (held_by c.loop-session.session) two.middle _ _ (i.so_far input two.middle two.before) left line).1

pub returns-in-TooLong-clause-conversed : goal.returns-in-TooLong-clause-conversed
returns-in-TooLong-clause-conversed g c =
    let i = c.loop-session.invariant in
    λ input left leaves.
    let two = in_two _ _ _ _ _ _ _ _ _ input left i.took c.in_ok-take_line.ensures.took leaves in
    let line = no_line_taken c.in_ok-take_line.field-0 two.middle left c.in-TooLong.is (c.in_ok-take_line.ensures.line two.middle left two.later) in
    (ends_at_no_line input c.loop-session.number (held_by c.loop-session.session) two.middle _ _ (i.so_far input two.middle two.before) left line).0

pub returns-in-TooLong-clause-lines : goal.returns-in-TooLong-clause-lines
returns-in-TooLong-clause-lines g c =
    let i = c.loop-session.invariant in
    λ input left leaves.
    let two = in_two _ _ _ _ _ _ _ _ _ input left i.took c.in_ok-take_line.ensures.took leaves in
    let line = no_line_taken c.in_ok-take_line.field-0 two.middle left c.in-TooLong.is (c.in_ok-take_line.ensures.line two.middle left two.later) in
    (ends_at_no_line input c.loop-session.number (held_by c.loop-session.session) two.middle _ _ (i.so_far input two.middle two.before) left line).1

-- a command was cut short
pub returns-in_err-ending-in-Whole-clause-conversed : goal.returns-in_err-ending-in-Whole-clause-conversed
returns-in_err-ending-in-Whole-clause-conversed g c =
    let i = c.loop-session.invariant in
    let e = c.in_err-ending-in-Whole.field-0.0 in
    let same : c.from_residual-in_err-ending-in-Whole.result ≡ Err e = search rules in
    let took = rw c.in-Whole.is at c.in_ok-take_line.ensures.took in
    λ input left leaves.
    let last = in_two _ _ _ _ _ _ _ _ _ input left (took_both _ _ _ _ _ _ _ _ _ i.took took) c.in_err-ending-in-Whole.ensures.took leaves in
    let two = in_two _ _ _ _ _ _ _ _ _ input last.middle i.took took last.before in
    let line = rw c.in-Whole.is at (c.in_ok-take_line.ensures.line two.middle last.middle two.later) in
    let at = subst (λ (bytes : List ℕ). head two.middle ≡ Line bytes last.middle) (sym c.deref.ensures.value) line in
    let obeyed = (c.in_err-ending-in-Whole.ensures.obeyed two.middle last.middle left at last.later) in
    rw same
    (cut_at_command input c.loop-session.number (held_by c.loop-session.session) two.middle _ _ (i.so_far input two.middle two.before) e
    (held_by c.obey.new.session) left _ obeyed).0

pub returns-in_err-ending-in-Whole-clause-lines : goal.returns-in_err-ending-in-Whole-clause-lines
returns-in_err-ending-in-Whole-clause-lines g c =
    let i = c.loop-session.invariant in
    let e = c.in_err-ending-in-Whole.field-0.0 in
    let same : c.from_residual-in_err-ending-in-Whole.result ≡ Err e = search rules in
    let took = rw c.in-Whole.is at c.in_ok-take_line.ensures.took in
    λ input left leaves.
    let last = in_two _ _ _ _ _ _ _ _ _ input left (took_both _ _ _ _ _ _ _ _ _ i.took took) c.in_err-ending-in-Whole.ensures.took leaves in
    let two = in_two _ _ _ _ _ _ _ _ _ input last.middle i.took took last.before in
    let line = rw c.in-Whole.is at (c.in_ok-take_line.ensures.line two.middle last.middle two.later) in
    let at = subst (λ (bytes : List ℕ). head two.middle ≡ Line bytes last.middle) (sym c.deref.ensures.value) line in
    let obeyed = (c.in_err-ending-in-Whole.ensures.obeyed two.middle last.middle left at last.later) in
    rw same
    (cut_at_command input c.loop-session.number (held_by c.loop-session.session) two.middle _ _ (i.so_far input two.middle two.before) e
    (held_by c.obey.new.session) left _ obeyed).1

pub returns-in-Some-clause-conversed : goal.returns-in-Some-clause-conversed
returns-in-Some-clause-conversed g c =
    let i = c.loop-session.invariant in
    let took = rw c.in-Whole.is at c.in_ok-take_line.ensures.took in
    λ input left leaves.
    let last = in_two _ _ _ _ _ _ _ _ _ input left (took_both _ _ _ _ _ _ _ _ _ i.took took) c.in_ok-ending-in-Whole.ensures.took leaves in
    let two = in_two _ _ _ _ _ _ _ _ _ input last.middle i.took took last.before in
    let line = rw c.in-Whole.is at (c.in_ok-take_line.ensures.line two.middle last.middle two.later) in
    let at = subst (λ (bytes : List ℕ). head two.middle ≡ Line bytes last.middle) (sym c.deref.ensures.value) line in
    let obeyed = rw c.in-Some.is at (c.in_ok-ending-in-Whole.ensures.obeyed two.middle last.middle left at last.later) in
    (ends_at_command input c.loop-session.number (held_by c.loop-session.session) two.middle _ _ (i.so_far input two.middle two.before)
    c.in-Some.ending
    (held_by c.obey.new.session) left _ obeyed).0

pub returns-in-Some-clause-lines : goal.returns-in-Some-clause-lines
returns-in-Some-clause-lines g c =
    let i = c.loop-session.invariant in
    let took = rw c.in-Whole.is at c.in_ok-take_line.ensures.took in
    λ input left leaves.
    let last = in_two _ _ _ _ _ _ _ _ _ input left (took_both _ _ _ _ _ _ _ _ _ i.took took) c.in_ok-ending-in-Whole.ensures.took leaves in
    let two = in_two _ _ _ _ _ _ _ _ _ input last.middle i.took took last.before in
    let line = rw c.in-Whole.is at (c.in_ok-take_line.ensures.line two.middle last.middle two.later) in
    let at = subst (λ (bytes : List ℕ). head two.middle ≡ Line bytes last.middle) (sym c.deref.ensures.value) line in
    let obeyed = rw c.in-Some.is at (c.in_ok-ending-in-Whole.ensures.obeyed two.middle last.middle left at last.later) in
    (ends_at_command input c.loop-session.number (held_by c.loop-session.session) two.middle _ _ (i.so_far input two.middle two.before)
    c.in-Some.ending
    (held_by c.obey.new.session) left _ obeyed).1

-- one more command was done
pub loop-session-preserved : goal.loop-session-preserved
loop-session-preserved g c =
    let s = g.S.Source in
    let i = c.loop-session.invariant in
    let took = rw c.in-Whole.is at c.in_ok-take_line.ensures.took in
    let spent = rw c.in-Whole.is at c.in_ok-take_line.ensures.spent in
    let took_last = rw c.in_default.is at c.in_ok-ending-in-Whole.ensures.took in
    let few : 0 < c.loop-session.number → c.loop-session.number + s.room c.loop-session.source < 2 ^ 64 = i.few in
    let bound : s.room c.loop-session.source < 2 ^ 64 = spent.0 in
    let less : s.room c.take_line.new.source < s.room c.loop-session.source = spent.1 in
    let no_more : s.room c.obey.new.source ≤ s.room c.take_line.new.source = c.in_ok-ending-in-Whole.ensures.room in
    let both = took_both _ _ _ _ _ _ _ _ _ i.took took in
    record {
      took = took_both _ _ _ _ _ _ _ _ _ both took_last;
      so_far = λ input left leaves.
          let last = in_two _ _ _ _ _ _ _ _ _ input left both took_last leaves in
          let two = in_two _ _ _ _ _ _ _ _ _ input last.middle i.took took last.before in
          let line = rw c.in-Whole.is at (c.in_ok-take_line.ensures.line two.middle last.middle two.later) in
          let at = subst (λ (bytes : List ℕ). head two.middle ≡ Line bytes last.middle) (sym c.deref.ensures.value) line in
          let obeyed = rw c.in_default.is at (c.in_ok-ending-in-Whole.ensures.obeyed two.middle last.middle left at last.later) in
          goes_on input c.loop-session.number (held_by c.loop-session.session) two.middle _ _ (i.so_far input two.middle two.before)
          (held_by c.obey.new.session) left _ obeyed;
      few = λ some. few_more c.loop-session.number _ _ _ few bound less no_more;
      no_read_fault = c.in_ok-ending-in-Whole.ensures.counts.0 ∙ c.in_ok-take_line.ensures.counts.0 ∙ i.no_read_fault;
      no_write_fault = c.in_ok-ending-in-Whole.ensures.counts.1 ∙ i.no_write_fault;
    }

pub returns-in_err-take_line-clause-took : goal.returns-in_err-take_line-clause-took
returns-in_err-take_line-clause-took g c = (_, took_both _ _ _ _ _ _ _ _ _ c.loop-session.invariant.took c.in_err-take_line.ensures.took)

pub returns-in-Nothing-clause-took : goal.returns-in-Nothing-clause-took
returns-in-Nothing-clause-took g c = (_, took_both _ _ _ _ _ _ _ _ _ c.loop-session.invariant.took c.in_ok-take_line.ensures.took)

pub returns-in-TooLong-clause-took : goal.returns-in-TooLong-clause-took
returns-in-TooLong-clause-took g c = (_, took_both _ _ _ _ _ _ _ _ _ c.loop-session.invariant.took c.in_ok-take_line.ensures.took)

pub returns-in_err-ending-in-Whole-clause-took : goal.returns-in_err-ending-in-Whole-clause-took
returns-in_err-ending-in-Whole-clause-took g c =
    let took = rw c.in-Whole.is at c.in_ok-take_line.ensures.took in
    (_, took_both _ _ _ _ _ _ _ _ _ (took_both _ _ _ _ _ _ _ _ _ c.loop-session.invariant.took took) c.in_err-ending-in-Whole.ensures.took)

pub returns-in-Some-clause-took : goal.returns-in-Some-clause-took
returns-in-Some-clause-took g c =
    let took = rw c.in-Whole.is at c.in_ok-take_line.ensures.took in
    (_, took_both _ _ _ _ _ _ _ _ _ (took_both _ _ _ _ _ _ _ _ _ c.loop-session.invariant.took took) c.in_ok-ending-in-Whole.ensures.took)
