-- The writes of a run, joined in order, are the bytes that the run appends to the output.
use Rattle.std.proofs.Common.{◌≡◌, ◌∙◌, refl, sym, ap, ℕ, zero, suc, ◌+◌, ◌-◌, ◌%◌, ◌<◌, Bool, true, false, inl, inr, List, [], ◌∷◌, ◌++◌, append_assoc, append-nil, Option, Some, None, arith}
use Rattle.std.specs.Prelude.{if◌then◌else◌, ◌==◌, ◌||◌, not, nat_le}
use Rattle.std.specs.{Fmt.{signed_decimal}, List.{concat}}
use Rattle.std.proofs.lemmas.{Bool.{cases_eq, ne_eqb}, List.Folds.{concat-append}}
use Rattle.cool_ports.proofs.PuttingPieces.{pieces_whole}
use Rattle.mips_isa.specs.Bytes.{Segments}
use Rattle.mips_isa.specs.Machine.{is_negative, Next, On, Call, Stop, step}
use Rattle.mips_isa.specs.Calls.{State, Outcome, Running, Exited, Trapped, a0, a1, call, print, print_string, string_at, read_int, asked_line, read_string, sbrk, read_char, asked, signed, bad_address, bad_call, store_string, all_writable, with_v0}
use Rattle.mips_isa.specs.Run.{after, cycle, and_then, run}
use Rattle.spim_machine.specs.Puts.{string_puts, call_puts, next_puts, cycle_puts, puts_then, run_puts, output_of}

-- an outcome has these texts behind the output of a state
abbrev Adds : State → List (List ℕ) → Outcome → Type 0
Adds s texts o = output_of o ≡ s.output ++ concat texts

nothing : (s : State) (o : Outcome) → output_of o ≡ s.output → Adds s [] o
nothing s o same = same ∙ sym (append-nil s.output)

one : (s : State) (bytes : List ℕ) → Adds s (bytes ∷ []) (print s bytes)
one s bytes = ap (λ more. s.output ++ more) (sym (append-nil bytes))

string : (s : State) (found : Option (List ℕ)) → Adds s (string_puts found) (print_string s found)
string s None = nothing s (bad_address s) refl
string s (Some bytes) = ap (λ more. s.output ++ more) (sym (pieces_whole 64 bytes (omega arith)))

-- a choice of two that leave the output
either : (c : Bool) (x y : Outcome) (output : List ℕ) → output_of x ≡ output → output_of y ≡ output → output_of (if c then x else y) ≡ output
either true x y output p q = p
either false x y output p q = q

reads_string : (b : Segments) (s : State) → output_of (read_string b s) ≡ s.output
reads_string b s =
    let stored : Outcome = store_string s (asked s.ended (a1 s - 1) s.input) in
    either (is_negative (a1 s) || a1 s == 0) (Running s) (if not (all_writable b (a0 s) (a1 s)) then bad_address s else stored) s.output refl
    (either (not (all_writable b (a0 s) (a1 s))) (bad_address s) stored s.output refl refl)

moves_break : (b : Segments) (s : State) → output_of (sbrk b s) ≡ s.output
moves_break b s =
    either (nat_le (s.heap_break + a0 s) b.heap_end) (Running (record (with_v0 s s.heap_break) { heap_break = s.heap_break + a0 s }))
    (Running (with_v0 s 4294967295)) s.output refl refl

-- a system call
call_adds : (b : Segments) (s : State) → Adds s (call_puts b s.core) (call b s)
call_adds b s =
    elim (cases_eq (s.core.registers 2) 1) [
      | inl is ↦ rw is (one s (signed_decimal (signed (a0 s))))
      | inr n1 ↦ elim (cases_eq (s.core.registers 2) 4) [
        | inl is ↦ rw is (string s (string_at b s.core.memory (a0 s)))
        | inr n4 ↦ elim (cases_eq (s.core.registers 2) 5) [
          | inl is ↦ rw is (nothing s (read_int s (asked_line s.ended s.input)) refl)
          | inr n5 ↦ elim (cases_eq (s.core.registers 2) 8) [
            | inl is ↦ rw is (nothing s (read_string b s) (reads_string b s))
            | inr n8 ↦ elim (cases_eq (s.core.registers 2) 9) [
              | inl is ↦ rw is (nothing s (sbrk b s) (moves_break b s))
              | inr n9 ↦ elim (cases_eq (s.core.registers 2) 10) [
                | inl is ↦ rw is (nothing s (Exited 0 s) refl)
                | inr n10 ↦ elim (cases_eq (s.core.registers 2) 11) [
                  | inl is ↦ rw is (one s (a0 s % 256 ∷ []))
                  | inr n11 ↦ elim (cases_eq (s.core.registers 2) 12) [
                    | inl is ↦ rw is (nothing s (read_char s (asked s.ended 1 s.input)) refl)
                    | inr n12 ↦ elim (cases_eq (s.core.registers 2) 17) [
                      | inl is ↦ rw is (nothing s (Exited (a0 s) s) refl)
                      | inr n17 ↦
                          rw (ne_eqb (s.core.registers 2) 1 n1, ne_eqb (s.core.registers 2) 4 n4, ne_eqb (s.core.registers 2) 5 n5, ne_eqb (s.core.registers 2) 8 n8, ne_eqb (s.core.registers 2) 9 n9, ne_eqb (s.core.registers 2) 10 n10, ne_eqb (s.core.registers 2) 11 n11, ne_eqb (s.core.registers 2) 12 n12, ne_eqb (s.core.registers 2) 17 n17)
                          (nothing s (bad_call s) refl)
                    ]
                  ]
                ]
              ]
            ]
          ]
        ]
      ]
    ]

-- an instruction, which may be one
next_adds : (b : Segments) (s : State) (n : Next) → Adds s (next_puts b n) (after b s n)
next_adds b s (On core) = nothing s (Running (record s { core = core })) refl
next_adds b s (Call core) = call_adds b (record s { core = core })
next_adds b s (Stop trap) = nothing s (Trapped trap s) refl

then_adds : (s : State) (first : List (List ℕ)) (o : Outcome) (later : State → List (List ℕ)) (go : State → Outcome) → Adds s first o
    → ((t : State) → Adds t (later t) (go t)) → Adds s (first ++ puts_then o later) (and_then o go)
then_adds s first (Running t) later go here each =
    each t ∙ ap (λ output. output ++ concat (later t)) here ∙ append_assoc s.output (concat first) (concat (later t))
    ∙ ap (λ more. s.output ++ more) (sym (concat-append first (later t)))
then_adds s first (Exited code t) later go here each = here ∙ ap (λ texts. s.output ++ concat texts) (sym (append-nil first))
then_adds s first (Trapped trap t) later go here each = here ∙ ap (λ texts. s.output ++ concat texts) (sym (append-nil first))

-- a run
pub run_adds : (text : List ℕ) (b : Segments) (n : ℕ) (s : State) → output_of (run text b n s) ≡ s.output ++ concat (run_puts text b n s)
run_adds text b zero s = nothing s (Running s) refl
run_adds text b (suc n) s =
    then_adds s (cycle_puts text b s.core) (cycle text b s) (run_puts text b n) (run text b n) (next_adds b s (step text b s.core))
    (λ t. run_adds text b n t)
