-- Debugger commands that set or delete a breakpoint, or print registers, memory or output counts, leave the debugged run in the same state.
use Rattle.std.proofs.Common.{◌≡◌, ◌⊎◌, inl, inr, ◌∙◌, refl, sym, ap, subst, ℕ, Bool, true, false, List, [], ◌∷◌, cond, arith}
use Rattle.std.specs.Prelude.{◌==◌, ◌&&◌, ◌||◌, not, Option, Some}
use Rattle.std.specs.List.{filter}
use Rattle.std.proofs.lemmas.Bool.{cases_eq}
use Rattle.cool_ports.specs.Answers.{Past, Leaves}
use Rattle.cool_ports.specs.SinkPuts.{SinkSeen, after_puts}
use Rattle.cool_ports.proofs.InputsInParts.{leaves_same}
use Rattle.cool_ports.proofs.SeenSinks.{after-nil}
use Rattle.mips_isa.specs.Bytes.{Segments}
use Rattle.mips_isa.specs.Machine.{Core}
use Rattle.spim_memory.specs.Memory.{segments, bytes_of}
use Rattle.spim_cpu.specs.Cpu.{core_of}
use Rattle.spim_debug.specs.declared.debugger.Debugger.{Debugger}
use Rattle.spim_debug.specs.declared.script.DebugCommand.{DebugCommand}
use Rattle.spim_debug.specs.declared.script.DebugCommand.TheVariants as commands
use Rattle.spim_debug.specs.BreakSets.{in_set}
use Rattle.spim_debug.specs.Moves.{Debuggee, Progress, moves, is_break}
use Rattle.spim_debug.specs.Notes.{registers_note, counted_note, memory_note, words_note, listed_from, words_from, notes}
use Rattle.spim_debug.specs.Obeying.{Stands}

-- with other break addresses it stands where it stood
with_breaks : (d : Debuggee) (p : Progress) (first : Option (List ℕ)) (x : Debugger) (left held : Option (List ℕ))
    (marks : List Bool) (breaks : List ℕ) → Stands d p first x left held
    → ((a : ℕ) → in_set marks a ≡ is_break breaks a) → Stands d (record p { breaks = breaks }) first (record x { breaks = marks }) left held
with_breaks d p first x left held marks breaks st agree = record {
  text = st.text;
  segments = st.segments;
  budget = st.budget;
  executed = st.executed;
  within = st.within;
  state = st.state;
  halted = st.halted;
  breaks = agree;
  printed = st.printed;
}

pub stands_broken : (d : Debuggee) (p : Progress) (first : Option (List ℕ)) (x : Debugger) (left held : Option (List ℕ))
    (marks : List Bool) (address : ℕ) → Stands d p first x left held
    → ((a : ℕ) → in_set marks a ≡ (address == a || in_set x.breaks a))
    → Stands d (moves d (commands.Break address) p) first (record x { breaks = marks }) left held
stands_broken d p first x left held marks address st set =
    with_breaks d p first x left held marks (address ∷ p.breaks) st (λ a. set a ∙ ap (λ (b : Bool). address == a || b) (st.breaks a))

-- an address that is taken away is none of those that are left
deleted_first : (address a b : ℕ) (all kept : List ℕ) → is_break kept a ≡ (not (address == a) && is_break all a)
    → (b ≡ address) ⊎ (b ≡ address → ⊥)
    → is_break (cond (not (b == address)) (b ∷ kept) kept) a ≡ (not (address == a) && (b == a || is_break all a))
deleted_first address a b all kept is (inl same) = grind (arith, is, same)
deleted_first address a b all kept is (inr other) = grind (arith, is, other)

deleted : (address a : ℕ) (breaks : List ℕ)
    → is_break (filter (λ other. not (other == address)) breaks) a ≡ (not (address == a) && is_break breaks a)
deleted address a [] = none (not (address == a))
  where
    none : (b : Bool) → false ≡ (b && false)
    none true = refl
    none false = refl
deleted address a (b ∷ breaks) = deleted_first address a b breaks (filter (λ other. not (other == address)) breaks) (deleted address a breaks) (cases_eq b address)

pub stands_deleted : (d : Debuggee) (p : Progress) (first : Option (List ℕ)) (x : Debugger) (left held : Option (List ℕ))
    (marks : List Bool) (address : ℕ) → Stands d p first x left held
    → ((a : ℕ) → in_set marks a ≡ (not (address == a) && in_set x.breaks a))
    → Stands d (moves d (commands.Delete address) p) first (record x { breaks = marks }) left held
stands_deleted d p first x left held marks address st set =
    with_breaks d p first x left held marks (filter (λ other. not (other == address)) p.breaks) st
    (λ a. set a ∙ ap (λ (b : Bool). not (address == a) && b) (st.breaks a) ∙ sym (deleted address a p.breaks))

-- the notes of the other commands, by the debugger's parts
pub registers_text : (d : Debuggee) (p : Progress) (first : Option (List ℕ)) (x : Debugger) (left held : Option (List ℕ))
    (bytes : List ℕ) → Stands d p first x left held → bytes ≡ registers_note (core_of x.machine.cpu)
    → notes d commands.Regs p.executed ≡ bytes ∷ []
registers_text d p first x left held bytes st is =
    ap (λ (note : List ℕ). note ∷ []) (ap (λ (c : Core). registers_note c) (sym st.state.core) ∙ sym is)

pub memory_text : (d : Debuggee) (p : Progress) (first : Option (List ℕ)) (x : Debugger) (left held : Option (List ℕ)) (a : ℕ)
    (bytes : List ℕ) → Stands d p first x left held
    → bytes ≡ memory_note (segments x.machine.cpu.memory) (bytes_of x.machine.cpu.memory) a
    → notes d (commands.Show a) p.executed ≡ bytes ∷ []
memory_text d p first x left held a bytes st is =
    ap (λ (note : List ℕ). note ∷ [])
    (ap (λ (c : Core). memory_note d.segments c.memory a) (sym st.state.core)
    ∙ ap (λ (b : Segments). memory_note b (bytes_of x.machine.cpu.memory) a) (sym st.segments) ∙ sym is)

pub output_text : (d : Debuggee) (p : Progress) (first : Option (List ℕ)) (x : Debugger) (left held : Option (List ℕ))
    (bytes : List ℕ) → Stands d p first x left held → bytes ≡ counted_note x.printed
    → notes d commands.Out p.executed ≡ bytes ∷ []
output_text d p first x left held bytes st is = ap (λ (note : List ℕ). note ∷ []) (ap (λ (n : ℕ). counted_note n) (sym st.printed) ∙ sym is)

pub words_noted : (d : Debuggee) (p : Progress) (first : Option (List ℕ)) (x : Debugger) (left held : Option (List ℕ)) (a n : ℕ)
    → Stands d p first x left held
    → notes d (commands.Words a n) p.executed ≡ words_note (segments x.machine.cpu.memory) (bytes_of x.machine.cpu.memory) a n ∷ []
words_noted d p first x left held a n st =
    ap (λ (note : List ℕ). note ∷ [])
    (ap (λ (c : Core). words_note d.segments c.memory a n) (sym st.state.core)
    ∙ ap (λ (b : Segments). words_note b (bytes_of x.machine.cpu.memory) a n) (sym st.segments))

pub listed_text : (d : Debuggee) (p : Progress) (first : Option (List ℕ)) (x : Debugger) (left held : Option (List ℕ)) (a n : ℕ)
    (text : List ℕ) → Stands d p first x left held → x.machine.cpu.memory.text ≡ text
    → notes d (commands.List a n) p.executed ≡ listed_from a (words_from text a n)
listed_text d p first x left held a n text st is = ap (λ (t : List ℕ). listed_from a (words_from t a n)) (sym st.text ∙ is)

-- a command that has no note, and one whose note was put
pub stayed : (d : Debuggee) (p : Progress) (first : Option (List ℕ)) (x : Debugger) (left held : Option (List ℕ)) (noted : SinkSeen)
    (c told : DebugCommand) → c ≡ told → notes d told (moves d told p).executed ≡ [] → Stands d (moves d told p) first x left held
    → Stands d (moves d c p) first x left held × (noted ≡ after_puts noted (notes d c (moves d c p).executed))
stayed d p first x left held noted c told is none st =
    subst (λ (k : DebugCommand). Stands d (moves d k p) first x left held × (noted ≡ after_puts noted (notes d k (moves d k p).executed))) (sym is)
    (st, sym (after-nil noted) ∙ ap (after_puts noted) (sym none))

-- all is left of an input of which nothing was taken
pub left_as : (d : Debuggee) (p : Progress) (first : Option (List ℕ)) (x : Debugger) (past : Past) (input rest : List ℕ)
    (held : Option (List ℕ)) → Leaves past past input rest → Stands d p first x (Some input) held
    → Stands d p first x (Some rest) held
left_as d p first x past input rest held leaves st = subst (λ (l : List ℕ). Stands d p first x (Some l) held) (sym (leaves_same past input rest leaves)) st
