-- If the lines of a list of errors are written one after another, all of them are written, or a prefix of them if a write fails.
use Rattle.std.proofs.Common.{◌≡◌, ℕ, zero, suc, ◌+◌, ◌<◌, ◌≤◌, List, [], ◌∷◌, length, map, drop, get_or, drop-cons, add-one, refl, sym, ap, ◌∙◌, subst, arith}
use Rattle.std.specs.Prelude.{Result, Ok, Err}
use Rattle.cool_syntax.specs.declared.lexical.LexKind.TheVariants.{L1}
use Rattle.cool_faults.specs.declared.fault.Fault.{Fault}
use Rattle.cool_faults.specs.declared.fault.Fault.TheVariants.{Lex}
use Rattle.cool_ports.specs.SinkPuts.{SinkSeen, after_puts}
use Rattle.cool_ports.proofs.SeenSinks.{SeenUpTo, after-append, seen_all, some_before, some_after, some_next}
use Rattle.cool_session.specs.declared.ending.Interruption.{Interruption}
use Rattle.cool_session.specs.declared.ending.Interruption.TheVariants.{ReadFault, WriteFault, Memory}
use Rattle.cool_session.specs.Obeying.{PutLines}

-- a stand-in for a fault that is not there
abbrev pub any_fault : Fault
any_fault = Lex (record { kind = L1; at = record { file = 0; line = 0; byte = 0 } })

at_drop : (faults : List Fault) (i : ℕ) → i < length faults → drop i faults ≡ get_or faults i any_fault ∷ drop (i + 1) faults
at_drop faults i less = rw (add-one i) (drop-cons faults i any_fault less)

-- a part of the first line was put
pub first_cut : (e : Interruption) (line : List ℕ) (lines : List (List ℕ)) (before after : SinkSeen) → PutLines (line ∷ []) (Err e) before after
    → PutLines (line ∷ lines) (Err e) before after
first_cut ReadFault line lines before after h = absurd h
first_cut WriteFault line lines before after h = some_before before after (line ∷ []) lines h
first_cut Memory line lines before after h = some_before before after (line ∷ []) lines h

-- the first line was put, and then the others
pub lines_then : (result : Result (Unit {0}) Interruption) (line : List ℕ) (lines : List (List ℕ)) (before mid after : SinkSeen)
    → mid ≡ after_puts before (line ∷ []) → PutLines lines result mid after → PutLines (line ∷ lines) result before after
lines_then (Ok u) line lines before mid after put h = h ∙ ap (λ sink. after_puts sink lines) put ∙ after-append before (line ∷ []) lines
lines_then (Err ReadFault) line lines before mid after put h = absurd h
lines_then (Err WriteFault) line lines before mid after put h = some_after before after (line ∷ []) lines (rw put at h)
lines_then (Err Memory) line lines before mid after put h = some_after before after (line ∷ []) lines (rw put at h)

-- bytes that are the line of a fault, before the lines after it
pub line_at : (line : Fault → List ℕ) (faults : List Fault) (i : ℕ) (bytes : List ℕ) → i < length faults → bytes ≡ line (get_or faults i any_fault)
    → map line (drop i faults) ≡ bytes ∷ map line (drop (i + 1) faults)
line_at line faults i bytes less is = ap (map line) (at_drop faults i less) ∙ ap (λ (b : List ℕ). b ∷ map line (drop (i + 1) faults)) (sym is)

-- a part of the line that comes next was put
pub line_cut : (e : Interruption) (first mid after : SinkSeen) (lines rest later : List (List ℕ)) (piece : List ℕ) → SeenUpTo first lines rest mid
    → rest ≡ piece ∷ later → PutLines (piece ∷ []) (Err e) mid after → PutLines lines (Err e) first after
line_cut ReadFault first mid after lines rest later piece got cut h = absurd h
line_cut WriteFault first mid after lines rest later piece got cut h = some_next first mid after lines later piece (rw cut at got) h
line_cut Memory first mid after lines rest later piece got cut h = some_next first mid after lines later piece (rw cut at got) h

-- if no fault is left, all lines were put
no_lines : (line : Fault → List ℕ) (faults : List Fault) (i : ℕ) → length faults ≤ i → map line (drop i faults) ≡ []
no_lines line [] zero h = refl
no_lines line [] (suc i) h = refl
no_lines line (f ∷ fs) zero h = absurd (omega (arith, h))
no_lines line (f ∷ fs) (suc i) h = no_lines line fs i (omega (arith, h))

pub all_lines : (line : Fault → List ℕ) (faults : List Fault) (i : ℕ) (first now : SinkSeen) → length faults ≤ i
    → SeenUpTo first (map line faults) (map line (drop i faults)) now → now ≡ after_puts first (map line faults)
all_lines line faults i first now h got =
    seen_all first now (map line faults) (subst (λ (rest : List (List ℕ)). SeenUpTo first (map line faults) rest now) (no_lines line faults i h) got)
