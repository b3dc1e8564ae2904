use Rattle.std.proofs.Common.{◌≡◌, ◌-◌, ◌++◌}
use Rattle.spim_memory.specs.Memory.{segments, bytes_of}
use Rattle.spim_debug.specs.Notes.{words_text}
use Rattle.spim_debug.proofs.notes.push_words.Given as goal

-- the other words come behind the words so far
abbrev pub invariant-loop-done : goal.invariant-loop-done
invariant-loop-done l =
    l.note.items ++ words_text (segments l.memory) (bytes_of l.memory) l.at (l.count - l._done)
    ≡ l.fn.note.items ++ words_text (segments l.memory) (bytes_of l.memory) l.fn.a l.count
