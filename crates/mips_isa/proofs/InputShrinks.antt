-- A run of the machine only consumes input: the input left after it is a suffix of the input before.
use Rattle.std.specs.Prelude.{◌≡◌, ℕ, zero, suc, Bool, true, false, if◌then◌else◌, List, [], ◌∷◌, ◌++◌, length, Option, Some, None, refl, ◌==◌, ◌||◌, nat_le, not, ◌+◌, ◌-◌}
use Rattle.std.proofs.Common.{ap, sym, ◌∙◌, append_assoc}
use Rattle.mips_isa.specs.Bytes.{Segments}
use Rattle.mips_isa.specs.Machine.{Next, On, Call, Stop, step, is_negative}
use Rattle.mips_isa.specs.Calls.{State, Outcome, Running, Exited, Trapped, Taken, call, print_string, string_at, read_string, sbrk, asked, taken, bad_address, v0, a0, a1, all_writable}
use Rattle.mips_isa.specs.Run.{after, cycle, and_then, run}

-- the input when a run stood so, or ended so
abbrev pub input_of : Outcome → List ℕ
input_of (Running s) = s.input
input_of (Exited code s) = s.input
input_of (Trapped trap s) = s.input

-- the second list is an end of the first
abbrev pub EndsIn : List ℕ → List ℕ → Type 0
EndsIn whole back = (taken : List ℕ) × (whole ≡ taken ++ back)

-- the input left is an end of that of a state
abbrev pub Shrank : State → Outcome → Type 0
Shrank s o = EndsIn s.input (input_of o)

shrank_if : (s : State) (yes : Bool) (o other : Outcome) → Shrank s o → Shrank s other → Shrank s (if yes then o else other)
shrank_if s true o other h k = h
shrank_if s false o other h k = k

suffix_if : (yes : Bool) (t u : Taken) (whole : List ℕ) → EndsIn whole t.rest → EndsIn whole u.rest → EndsIn whole (if yes then t else u).rest
suffix_if true t u whole h k = h
suffix_if false t u whole h k = k

pub taken_suffix : (n : ℕ) (input : List ℕ) → EndsIn input (taken n input).rest
taken_suffix zero input = ([], refl)
taken_suffix (suc n) [] = ([], refl)
taken_suffix (suc n) (b ∷ rest) =
    let skip = taken_suffix (suc n) rest in
    let next = taken_suffix n rest in
    suffix_if (b == 0) _ _ (b ∷ rest) (b ∷ skip.0, ap (λ xs. b ∷ xs) skip.1)
    (suffix_if (b == 10) _ _ (b ∷ rest) (b ∷ [], refl) (b ∷ next.0, ap (λ xs. b ∷ xs) next.1))

asked_suffix : (ended : Bool) (n : ℕ) (input : List ℕ) → EndsIn input (asked ended n input).rest
asked_suffix ended n input = suffix_if ended _ _ input ([], refl) (taken_suffix n input)

string_shrank : (s : State) (found : Option (List ℕ)) → Shrank s (print_string s found)
string_shrank s None = ([], refl)
string_shrank s (Some bytes) = ([], refl)

read_string_shrank : (b : Segments) (s : State) → Shrank s (read_string b s)
read_string_shrank b s =
    shrank_if s (is_negative (a1 s) || a1 s == 0) (Running s) _ ([], refl)
    (shrank_if s (not (all_writable b (a0 s) (a1 s))) (bad_address s) _ ([], refl) (asked_suffix s.ended (a1 s - 1) s.input))

sbrk_shrank : (b : Segments) (s : State) → Shrank s (sbrk b s)
sbrk_shrank b s = shrank_if s (nat_le (s.heap_break + a0 s) b.heap_end) _ _ ([], refl) ([], refl)

-- one system call
call_shrank : (b : Segments) (s : State) → Shrank s (call b s)
call_shrank b s =
    shrank_if s (v0 s == 1) _ _ ([], refl)
    (shrank_if s (v0 s == 4) _ _ (string_shrank s (string_at b s.core.memory (a0 s)))
    (shrank_if s (v0 s == 5) _ _ (asked_suffix s.ended (suc (length s.input)) s.input)
    (shrank_if s (v0 s == 8) _ _ (read_string_shrank b s)
    (shrank_if s (v0 s == 9) _ _ (sbrk_shrank b s)
    (shrank_if s (v0 s == 10) _ _ ([], refl)
    (shrank_if s (v0 s == 11) _ _ ([], refl)
    (shrank_if s (v0 s == 12) _ _ (asked_suffix s.ended 1 s.input)
    (shrank_if s (v0 s == 17) _ _ ([], refl) ([], refl)))))))))

-- one instruction, with the call that it may be
after_shrank : (b : Segments) (s : State) (next : Next) → Shrank s (after b s next)
after_shrank b s (On core) = ([], refl)
after_shrank b s (Call core) = call_shrank b (record s { core = core })
after_shrank b s (Stop trap) = ([], refl)

-- the next step takes more
then_shrank : (s : State) (o : Outcome) (go : State → Outcome) → Shrank s o → ((t : State) → Shrank t (go t)) → Shrank s (and_then o go)
then_shrank s (Running t) go h k = (h.0 ++ (k t).0, h.1 ∙ (ap (λ xs. h.0 ++ xs) (k t).1 ∙ sym (append_assoc h.0 (k t).0 (input_of (go t)))))
then_shrank s (Exited code t) go h k = h
then_shrank s (Trapped trap t) go h k = h

pub run_shrank : (text : List ℕ) (b : Segments) (n : ℕ) (s : State) → Shrank s (run text b n s)
run_shrank text b zero s = ([], refl)
run_shrank text b (suc n) s = then_shrank s (cycle text b s) (run text b n) (after_shrank b s (step text b s.core)) (run_shrank text b n)
