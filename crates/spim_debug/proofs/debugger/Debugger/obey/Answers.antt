use Rattle.std.proofs.Common.{◌∙◌, refl, sym, ap, subst, [], ◌∷◌}
use Rattle.std.specs.Prelude.{Some}
use Rattle.spim_cpu.specs.Cpu.{CpuParts, core_of}
use Rattle.spim_memory.specs.Memory.{MemoryParts, segments, bytes_of}
use Rattle.cool_ports.specs.SinkPuts.{seen}
use Rattle.spim_debug.specs.declared.script.DebugCommand.{DebugCommand}
use Rattle.spim_debug.specs.declared.script.DebugCommand.TheVariants as commands
use Rattle.spim_debug.specs.Notes.{registers_note, memory_note, words_note}
use Rattle.spim_debug.specs.Obeying.{Obeyed}
use Rattle.spim_debug.proofs.ObeyedCommands.{obeyed_put, one_put}
use Rattle.spim_debug.proofs.ChangedBreaks.{stayed, left_as, stands_broken, stands_deleted, registers_text, output_text, memory_text, words_noted, listed_text}
use Rattle.spim_debug.proofs.debugger.Debugger.obey.Goals as goal

pub returns-in-Break-clause-obeyed : goal.returns-in-Break-clause-obeyed
returns-in-Break-clause-obeyed g c d p first input rest leaves st =
    let here = left_as d p first c.args.self.now _ input rest _ leaves st in
    stayed d p first _ _ _ _ c.args.command (commands.Break c.in-Break.address) c.in-Break.is refl (stands_broken d p first c.args.self.now _ _ c.insert.new.self c.in-Break.address here c.insert.ensures.held)

pub returns-in-Delete-clause-obeyed : goal.returns-in-Delete-clause-obeyed
returns-in-Delete-clause-obeyed g c d p first input rest leaves st =
    let here = left_as d p first c.args.self.now _ input rest _ leaves st in
    stayed d p first _ _ _ _ c.args.command (commands.Delete c.in-Delete.address) c.in-Delete.is refl (stands_deleted d p first c.args.self.now _ _ c.remove.new.self c.in-Delete.address here c.remove.ensures.held)

pub returns-in-Regs-clause-obeyed : goal.returns-in-Regs-clause-obeyed
returns-in-Regs-clause-obeyed g c d p first input rest leaves st =
    let here = left_as d p first c.args.self.now _ input rest _ leaves st in
    let bytes = c.as_bytes.ensures.value ∙ c.as_str.ensures.value ∙ c.registers_note.ensures ∙ ap (λ (u : CpuParts). registers_note (core_of u)) c.cpu.ensures in
    subst (λ (k : DebugCommand). Obeyed d k p first c.put_note.result c.args.self.now (Some rest) (g.K.Sink.held c.args.sink.now) (seen (g.E.Sink.held c.args.notes.now) (g.E.Sink.puts c.args.notes.now)) (seen (g.E.Sink.held c.put_note.new.notes) (g.E.Sink.puts c.put_note.new.notes))) (sym c.in-Regs.is)
    (obeyed_put d commands.Regs p first c.put_note.result c.args.self.now _ _ _ _ _ here (registers_text d p first c.args.self.now _ _ _ here bytes) (one_put _ c.put_note.result _ _ c.put_note.ensures.put))

pub returns-in-Out-clause-obeyed : goal.returns-in-Out-clause-obeyed
returns-in-Out-clause-obeyed g c d p first input rest leaves st =
    let here = left_as d p first c.args.self.now _ input rest _ leaves st in
    let bytes = c.as_bytes-in-Out.ensures.value ∙ c.as_str-in-Out.ensures.value ∙ c.counted_note.ensures in
    subst (λ (k : DebugCommand). Obeyed d k p first c.put_note-in-Out.result c.args.self.now (Some rest) (g.K.Sink.held c.args.sink.now) (seen (g.E.Sink.held c.args.notes.now) (g.E.Sink.puts c.args.notes.now)) (seen (g.E.Sink.held c.put_note-in-Out.new.notes) (g.E.Sink.puts c.put_note-in-Out.new.notes))) (sym c.in-Out.is)
    (obeyed_put d commands.Out p first c.put_note-in-Out.result c.args.self.now _ _ _ _ _ here (output_text d p first c.args.self.now _ _ _ here bytes) (one_put _ c.put_note-in-Out.result _ _ c.put_note-in-Out.ensures.put))

pub returns-in-Words-clause-obeyed : goal.returns-in-Words-clause-obeyed
returns-in-Words-clause-obeyed g c d p first input rest leaves st =
    let here = left_as d p first c.args.self.now _ input rest _ leaves st in
    let a = c.in-Words.address in
    let n = c.in-Words.count in
    let memory = c.memory-memory.ensures ∙ ap (λ (u : CpuParts). u.memory) c.cpu-in-Words.ensures in
    let due = words_noted d p first c.args.self.now _ _ a n here ∙ ap (λ (m : MemoryParts). words_note (segments m) (bytes_of m) a n ∷ []) (sym memory) in
    subst (λ (k : DebugCommand). Obeyed d k p first c.put_words.result c.args.self.now (Some rest) (g.K.Sink.held c.args.sink.now) (seen (g.E.Sink.held c.args.notes.now) (g.E.Sink.puts c.args.notes.now)) (seen (g.E.Sink.held c.put_words.new.notes) (g.E.Sink.puts c.put_words.new.notes))) (sym c.in-Words.is)
    (obeyed_put d (commands.Words a n) p first c.put_words.result c.args.self.now _ _ _ _ _ here due c.put_words.ensures.put)

pub returns-in-Show-clause-obeyed : goal.returns-in-Show-clause-obeyed
returns-in-Show-clause-obeyed g c d p first input rest leaves st =
    let here = left_as d p first c.args.self.now _ input rest _ leaves st in
    let a = c.in-Show.address in
    let memory = c.memory.ensures ∙ ap (λ (u : CpuParts). u.memory) c.cpu-in-Show.ensures in
    let bytes = c.as_bytes-in-Show.ensures.value ∙ c.as_str-in-Show.ensures.value ∙ c.memory_note.ensures ∙ ap (λ (m : MemoryParts). memory_note (segments m) (bytes_of m) a) memory in
    subst (λ (k : DebugCommand). Obeyed d k p first c.put_note-in-Show.result c.args.self.now (Some rest) (g.K.Sink.held c.args.sink.now) (seen (g.E.Sink.held c.args.notes.now) (g.E.Sink.puts c.args.notes.now)) (seen (g.E.Sink.held c.put_note-in-Show.new.notes) (g.E.Sink.puts c.put_note-in-Show.new.notes))) (sym c.in-Show.is)
    (obeyed_put d (commands.Show a) p first c.put_note-in-Show.result c.args.self.now _ _ _ _ _ here (memory_text d p first c.args.self.now _ _ a _ here bytes) (one_put _ c.put_note-in-Show.result _ _ c.put_note-in-Show.ensures.put))

pub returns-in-List-clause-obeyed : goal.returns-in-List-clause-obeyed
returns-in-List-clause-obeyed g c d p first input rest leaves st =
    let here = left_as d p first c.args.self.now _ input rest _ leaves st in
    subst (λ (k : DebugCommand). Obeyed d k p first c.list.result c.args.self.now (Some rest) (g.K.Sink.held c.args.sink.now) (seen (g.E.Sink.held c.args.notes.now) (g.E.Sink.puts c.args.notes.now)) (seen (g.E.Sink.held c.list.new.notes) (g.E.Sink.puts c.list.new.notes))) (sym c.in-List.is)
    (obeyed_put d (commands.List c.in-List.address c.in-List.most) p first c.list.result c.args.self.now _ _ _ _ _ here (listed_text d p first c.args.self.now _ _ c.in-List.address c.in-List.most c.args.text.now here c.requires.debugger.words) c.list.ensures.put)
