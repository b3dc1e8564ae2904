-- `Conversed` is the result of a session whose reads and writes may fail: all replies were written, or a prefix of them because a read or a write failed or
-- memory ran out.
use Rattle.std.specs.Prelude.{◌≡◌, ◌⊎◌, ℕ, List, ◌++◌, Option, Result, Ok, Err}
use Rattle.std.specs.List.{concat}
use Rattle.cool_ports.specs.Counts.{Rose}
use Rattle.cool_ports.specs.SinkBytes.{appended, GotPrefix}
use Rattle.cool_ports.specs.SinkPuts.{PutFront}
use Rattle.cool_session.specs.declared.ending.Ending.{Ending}
use Rattle.cool_session.specs.declared.ending.Interruption.{Interruption}
use Rattle.cool_session.specs.declared.ending.Interruption.TheVariants.{ReadFault, WriteFault, Memory}
use Rattle.cool_session.specs.Exchanges.{Exchange, Unread, Unwritten, Undone, Part}

-- A session was cut short in its input: the replies of the commands that were done were put, and a line or a file was being taken.
abbrev pub CutInInput : List ℕ → List ℕ → Option (List ℕ) → Option (List ℕ) → Type 0
CutInInput input left before after =
    (replies : List (List ℕ)) × Unread input replies left × (after ≡ appended before (concat replies))

-- It was cut short in the work of a command of which all input was taken: the replies before were put, and a prefix of its own reply.
abbrev pub CutInWork : List ℕ → List ℕ → Option (List ℕ) → Option (List ℕ) → Type 0
CutInWork input left before after =
    (replies : List (List ℕ)) × (lines : List (List ℕ)) × Unwritten input replies lines left
    × GotPrefix (appended before (concat replies)) (concat lines) after

-- It was cut short after a line was taken: the replies of the commands before were put.
abbrev pub CutAfterLine : List ℕ → List ℕ → Option (List ℕ) → Option (List ℕ) → Type 0
CutAfterLine input left before after =
    (replies : List (List ℕ)) × Undone input replies left × (after ≡ appended before (concat replies))

-- The result of a session with an input, of which `left` is left, and with a sink that held `before` and holds `after`: it was whole, and all replies were
-- put; or it was cut short by a read, by a write or because memory ran out.
abbrev pub Conversed : List ℕ → Result Ending Interruption → List ℕ → Option (List ℕ) → Option (List ℕ) → Type 0
Conversed input (Ok end) left before after =
    (replies : List (List ℕ)) × Exchange input replies end left × (after ≡ appended before (concat replies))
Conversed input (Err ReadFault) left before after = CutInInput input left before after
Conversed input (Err WriteFault) left before after = CutInWork input left before after
Conversed input (Err Memory) left before after =
    CutInInput input left before after ⊎ CutInWork input left before after ⊎ CutAfterLine input left before after

-- The same for the puts: the sink had been given `before`, and was given `after`. Each line of a reply was one put. If the session was cut short by a
-- write, or because memory ran out while lines were written, these are the puts of a prefix of the lines.
abbrev pub LinesPut : List ℕ → Result Ending Interruption → List ℕ → List (List ℕ) → List (List ℕ) → Type 0
LinesPut input (Ok end) left before after = (replies : List (List ℕ)) × Exchange input replies end left × (after ≡ before ++ replies)
LinesPut input (Err ReadFault) left before after = (replies : List (List ℕ)) × Unread input replies left × (after ≡ before ++ replies)
LinesPut input (Err WriteFault) left before after =
    (replies : List (List ℕ)) × (lines : List (List ℕ)) × Unwritten input replies lines left × PutFront (before ++ replies) lines after
LinesPut input (Err Memory) left before after =
    ((replies : List (List ℕ)) × Unread input replies left × (after ≡ before ++ replies))
    ⊎ ((replies : List (List ℕ)) × (lines : List (List ℕ)) × Unwritten input replies lines left × PutFront (before ++ replies) lines after)
    ⊎ ((replies : List (List ℕ)) × Undone input replies left × (after ≡ before ++ replies))

-- a prefix of the replies of a part of a session was put
abbrev pub GotOfPart : List ℕ → Option (List ℕ) → Option (List ℕ) → Type 0
GotOfPart input before after =
    (replies : List (List ℕ)) × (rest : List ℕ) × Part input replies rest × GotPrefix before (concat replies) after

-- each session with this input that is cut short put a prefix of the replies of a part of it
abbrev pub HasPartWhereCut : List ℕ → Type 0
HasPartWhereCut input =
    (e : Interruption) (left : List ℕ) (before after : Option (List ℕ)) → Conversed input (Err e) left before after → GotOfPart input before after

-- A failed read or write comes only where the count of its device rose, and all else only where none did.
abbrev pub Counted : {A : Type 0} → Result A Interruption → ℕ → ℕ → ℕ → ℕ → Type 0
Counted (Ok x) source source' sink sink' = (source' ≡ source) × (sink' ≡ sink)
Counted (Err ReadFault) source source' sink sink' = Rose source source' × (sink' ≡ sink)
Counted (Err WriteFault) source source' sink sink' = (source' ≡ source) × Rose sink sink'
Counted (Err Memory) source source' sink sink' = (source' ≡ source) × (sink' ≡ sink)
