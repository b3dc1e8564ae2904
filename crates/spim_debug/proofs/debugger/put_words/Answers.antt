use Rattle.std.proofs.Common.{◌∙◌, List, [], ◌∷◌, ℕ, subst}
use Rattle.cool_ports.proofs.SeenSinks.{seen_none, some_so_far}
use Rattle.cool_ports.specs.SinkPuts.{seen}
use Rattle.spim_debug.specs.Obeying.{ArePut}
use Rattle.spim_debug.proofs.ObeyedCommands.{one_put}
use Rattle.spim_debug.proofs.debugger.put_words.Goals as goal

-- no note was put
pub returns-in_default-clause-put : goal.returns-in_default-clause-put
returns-in_default-clause-put g c = some_so_far _ _ _ _ (seen_none _ _)

-- the note is that of the words
pub returns-clause-put : goal.returns-clause-put
returns-clause-put g c =
    subst (λ (bs : List ℕ). ArePut (bs ∷ []) c.put_note.result (seen (g.E.Sink.held c.args.notes.now) (g.E.Sink.puts c.args.notes.now)) (seen (g.E.Sink.held c.put_note.new.notes) (g.E.Sink.puts c.put_note.new.notes))) (c.deref.ensures.value ∙ c.in-Ok.ensures) (one_put _ c.put_note.result _ _ c.put_note.ensures.put)
