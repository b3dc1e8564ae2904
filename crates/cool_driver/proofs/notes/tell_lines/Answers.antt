use Rattle.std.proofs.Common.{◌≡◌, ◌+◌, true, false, List, ℕ, drop, refl, sym, ap, ◌∙◌, inr, subst}
use Rattle.std.specs.{Prelude.{Option, Result, Ok, Err, OnErr}, Result.{is_err}}
use Rattle.cool_ports.specs.{Counts.{Rose}, SinkBytes.{appended, GotPrefix}}
use Rattle.cool_ports.proofs.{GettingBytes.{appended-nil}, SeenSinks.{seen_none, seen_more, some_next, put_one, failed_one}}
use Rattle.cool_driver.specs.{Contents.{texts}, Telling.{note_of}}
use Rattle.cool_driver.proofs.LinesOfNotes.{line_at, lines_at, front_lines, some_line}
use Rattle.cool_driver.proofs.notes.tell_lines.Goals as goal
use Rattle.lists.proofs.Results.{on_ok}

-- facts about an answer that is an error, and about one that is none
on_err : {T E P : Type 0} (result : Result T E) → is_err result ≡ true → OnErr result P → P
on_err (Ok x) e p = absurd cc
on_err (Err x) e p = p

-- no line is empty
pub put-requires : goal.put-requires
put-requires g c = rw c.deref.ensures.value (some_line _ (line_at c.args.lines.now c.loop-line.line-index c.line-item.result c.requires c.loop-line-test.true c.line-item.is))

pub loop-line-init : goal.loop-line-init
loop-line-init g c = record { got = seen_none _ _; calm = refl }

-- a write failed
pub returns-then-is_err : goal.returns-then-is_err
returns-then-is_err g c =
    let lines = c.args.lines.now in
    let i = c.loop-line.line-index in
    let failed : is_err c.put.result ≡ true = sym c.is_err.ensures.value ∙ c.if-is_err.true in
    let after = g.E.Sink.held c.put.new.self in
    let line = c.line-item.result.items in
    let prefix : GotPrefix (g.E.Sink.held c.loop-line.notes) line after = subst (λ (bytes : List ℕ). GotPrefix (g.E.Sink.held c.loop-line.notes) bytes after) c.deref.ensures.value (on_err c.put.result failed c.put.ensures.prefix) in
    let puts = rw c.deref.ensures.value at c.put.ensures.puts in
    let at = lines_at lines i c.line-item.result c.loop-line-test.true c.line-item.is in
    let some = some_next _ _ _ (texts lines) (texts (drop (i + 1) lines)) line (rw at at c.loop-line.invariant.got) (failed_one _ _ _ _ line prefix puts) in
    let rose = subst (λ (n : ℕ). Rose n (g.E.Sink.faults c.put.new.self)) c.loop-line.invariant.calm (on_err c.put.result failed c.put.ensures.failed) in
    record {
      noted = inr (refl, (subst (λ (held : Option (List ℕ)). GotPrefix held (note_of lines) after) (sym (appended-nil (g.E.Sink.held c.args.notes.now))) some.bytes, rose));
      put = λ other. absurd (other refl);
      lines = front_lines _ (texts lines) _ c.requires some.puts;
    }

-- one more line came
pub loop-line-preserved : goal.loop-line-preserved
loop-line-preserved g c =
    let lines = c.args.lines.now in
    let i = c.loop-line.line-index in
    let put : is_err c.put.result ≡ false = sym c.is_err.ensures.value ∙ c.if-is_err.false in
    let line = c.line-item.result.items in
    let at = lines_at lines i c.line-item.result c.loop-line-test.true c.line-item.is in
    record {
      got = seen_more _ _ _ (texts lines) (texts (drop (i + 1) lines)) line (rw at at c.loop-line.invariant.got)
          (put_one _ _ _ _ line (on_ok c.put.result put c.put.ensures.put ∙ ap (appended (g.E.Sink.held c.loop-line.notes)) c.deref.ensures.value) (rw c.deref.ensures.value at c.put.ensures.puts));
      calm = on_ok c.put.result put c.put.ensures.no_fault ∙ c.loop-line.invariant.calm;
    }
