use Rattle.std.proofs.Common.{◌≡◌, ◌-◌, refl, List, ℕ, length, take, drop, get_or, ◌∙◌, sym, subst, arith, rules}
use Rattle.std.specs.Prelude.{Result, Err}
use Rattle.std.proofs.lemmas.List.{length-take, length-drop}
use Rattle.cool_ports.proofs.SeenSinks.{seen_none, seen_more}
use Rattle.cool_ports.specs.SinkPuts.{seen}
use Rattle.spim_debug.specs.declared.debugger.DebugEnd.{DebugEnd}
use Rattle.spim_debug.specs.Notes.{listed, listed_from, words_from}
use Rattle.spim_debug.specs.Obeying.{ArePut}
use Rattle.spim_debug.proofs.ListedWords.{words_are, listed_at}
use Rattle.spim_debug.proofs.ObeyedCommands.{puts_failed}
use Rattle.spim_debug.proofs.debugger.list.Goals as goal

pub loop-word-init : goal.loop-word-init
loop-word-init g c = record { at = omega arith; got = seen_none _ _; calm = refl }

-- a note was not put
pub returns-in_err-list_word-clause-put : goal.returns-in_err-list_word-clause-put
returns-in_err-list_word-clause-put g c =
    let i = c.word_index.result in
    let text = c.args.text.now in
    let words : List ℕ = take c.min.result (take (length text - i) (drop i text)) in
    let due = words_are text c.args.address c.args.most i c.min.result _ c.requires.few c.requires.address c.word_index.ensures.index c.min.ensures (grind (arith, length-take, length-drop)) in
    let inv = c.loop-word.invariant in
    let stop = c.in_err-list_word.field-0.0 in
    let same : c.from_residual.result ≡ Err stop = search rules in
    subst (λ (r : Result Unit DebugEnd). ArePut (listed_from c.args.address (words_from text c.args.address c.args.most)) r (seen (g.E.Sink.held c.args.notes.now) (g.E.Sink.puts c.args.notes.now)) (seen (g.E.Sink.held c.list_word.new.notes) (g.E.Sink.puts c.list_word.new.notes))) (sym same)
    (subst (λ (ws : List ℕ). ArePut (listed_from c.args.address ws) (Err stop) (seen (g.E.Sink.held c.args.notes.now) (g.E.Sink.puts c.args.notes.now)) (seen (g.E.Sink.held c.list_word.new.notes) (g.E.Sink.puts c.list_word.new.notes))) due
    (puts_failed stop _ _ _ _ _ (listed c.loop-word.at (get_or words c.loop-word.word-index 0)) (rw (listed_at c.loop-word.at words c.loop-word.word-index c.loop-word-test.true) at inv.got) c.in_err-list_word.ensures.put))

-- one more note was put
pub loop-word-preserved : goal.loop-word-preserved
loop-word-preserved g c =
    let i = c.word_index.result in
    let text = c.args.text.now in
    let words : List ℕ = take c.min.result (take (length text - i) (drop i text)) in
    let inv = c.loop-word.invariant in
    record {
      at = omega (arith, inv.at);
      got = seen_more _ _ _ _ _ (listed c.loop-word.at (get_or words c.loop-word.word-index 0)) (rw (listed_at c.loop-word.at words c.loop-word.word-index c.loop-word-test.true) at inv.got) c.in_ok-list_word.ensures.put;
      calm = c.in_ok-list_word.ensures.counts ∙ inv.calm;
    }
