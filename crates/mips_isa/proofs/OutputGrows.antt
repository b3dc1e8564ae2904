-- A run of the machine only appends to its output: the output before is a prefix of the output after.
use Rattle.std.specs.Prelude.{◌≡◌, ℕ, zero, suc, Bool, true, false, if◌then◌else◌, List, [], ◌∷◌, ◌++◌, Option, Some, None, refl, ◌%◌, ◌==◌, ◌||◌, nat_le, not, ◌+◌, ◌-◌}
use Rattle.std.specs.Fmt.{signed_decimal}
use Rattle.std.proofs.Common.{ap, sym, ◌∙◌, append_assoc, append-nil}
use Rattle.mips_isa.specs.Bytes.{Segments}
use Rattle.mips_isa.specs.Machine.{Next, On, Call, Stop, step}
use Rattle.mips_isa.specs.Calls.{State, Outcome, Running, Exited, Trapped, call, print_string, string_at, read_int, read_char, read_string, sbrk, asked, asked_line, bad_address, bad_call, store_string, with_v0, signed, v0, a0, a1, all_writable}
use Rattle.mips_isa.specs.Machine.{is_negative}
use Rattle.mips_isa.specs.Run.{after, cycle, and_then, run}

-- the output when a run stood so, or ended so
abbrev pub output_of : Outcome → List ℕ
output_of (Running s) = s.output
output_of (Exited code s) = s.output
output_of (Trapped trap s) = s.output

-- the output is that of a state, and perhaps more
abbrev pub Grew : State → Outcome → Type 0
Grew s o = (more : List ℕ) × (output_of o ≡ s.output ++ more)

-- nothing was written
kept : (s : State) (o : Outcome) → output_of o ≡ s.output → Grew s o
kept s o same = ([], same ∙ sym (append-nil s.output))

-- either of two outcomes
grew_if : (s : State) (yes : Bool) (o other : Outcome) → Grew s o → Grew s other → Grew s (if yes then o else other)
grew_if s true o other h k = h
grew_if s false o other h k = k

string_grew : (s : State) (found : Option (List ℕ)) → Grew s (print_string s found)
string_grew s None = kept s (bad_address s) refl
string_grew s (Some bytes) = (bytes, refl)

read_string_grew : (b : Segments) (s : State) → Grew s (read_string b s)
read_string_grew b s =
    grew_if s (is_negative (a1 s) || a1 s == 0) (Running s) _ (kept s (Running s) refl)
    (grew_if s (not (all_writable b (a0 s) (a1 s))) (bad_address s) _ (kept s (bad_address s) refl)
    (kept s (store_string s (asked s.ended (a1 s - 1) s.input)) refl))

sbrk_grew : (b : Segments) (s : State) → Grew s (sbrk b s)
sbrk_grew b s = grew_if s (nat_le (s.heap_break + a0 s) b.heap_end) _ _
    (kept s (Running (record (with_v0 s s.heap_break) { heap_break = s.heap_break + a0 s })) refl) (kept s (Running (with_v0 s 4294967295)) refl)

-- one system call
pub call_grew : (b : Segments) (s : State) → Grew s (call b s)
call_grew b s =
    grew_if s (v0 s == 1) _ _ (signed_decimal (signed (a0 s)), refl)
    (grew_if s (v0 s == 4) _ _ (string_grew s (string_at b s.core.memory (a0 s)))
    (grew_if s (v0 s == 5) _ _ (kept s (read_int s (asked_line s.ended s.input)) refl)
    (grew_if s (v0 s == 8) _ _ (read_string_grew b s)
    (grew_if s (v0 s == 9) _ _ (sbrk_grew b s)
    (grew_if s (v0 s == 10) _ _ (kept s (Exited 0 s) refl)
    (grew_if s (v0 s == 11) _ _ (a0 s % 256 ∷ [], refl)
    (grew_if s (v0 s == 12) _ _ (kept s (read_char s (asked s.ended 1 s.input)) refl)
    (grew_if s (v0 s == 17) _ _ (kept s (Exited (a0 s) s) refl) (kept s (bad_call s) refl)))))))))

-- one instruction, with the call that it may be
after_grew : (b : Segments) (s : State) (next : Next) → Grew s (after b s next)
after_grew b s (On core) = kept s (after b s (On core)) refl
after_grew b s (Call core) = call_grew b (record s { core = core })
after_grew b s (Stop trap) = kept s (Trapped trap s) refl

-- the next step makes the output grow further
then_grew : (s : State) (o : Outcome) (go : State → Outcome) → Grew s o → ((t : State) → Grew t (go t)) → Grew s (and_then o go)
then_grew s (Running t) go h k = (h.0 ++ (k t).0, (k t).1 ∙ ap (λ xs. xs ++ (k t).0) h.1 ∙ append_assoc s.output h.0 (k t).0)
then_grew s (Exited code t) go h k = h
then_grew s (Trapped trap t) go h k = h

pub run_grew : (text : List ℕ) (b : Segments) (n : ℕ) (s : State) → Grew s (run text b n s)
run_grew text b zero s = kept s (Running s) refl
run_grew text b (suc n) s = then_grew s (cycle text b s) (run text b n) (after_grew b s (step text b s.core)) (run_grew text b n)
