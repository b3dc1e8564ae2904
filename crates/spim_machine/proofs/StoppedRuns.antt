-- If a run reaches a system call whose read or write may fail, the output so far is a prefix of the whole run's output. The input left at the run's end is a
-- suffix of the input left there.
use Rattle.std.specs.Prelude.{if◌then◌else◌, ◌==◌, ◌||◌, not, nat_le}
use Rattle.std.proofs.Common.{◌≡◌, ℕ, zero, suc, ◌+◌, ◌-◌, ◌≤◌, Bool, true, false, List, [], ◌∷◌, ◌++◌, length, Option, Some, None, ap, sym, ◌∙◌, subst, arith, append_assoc}
use Rattle.std.proofs.lemmas.List.{length-append}
use Rattle.mips_isa.specs.Bytes.{Segments}
use Rattle.mips_isa.specs.Machine.{Next, is_negative}
use Rattle.mips_isa.specs.Calls.{State, Outcome, Running, Exited, Trapped, Taken, taken, asked, call, print, print_string, string_at, read_string, v0, a0, a1, all_writable}
use Rattle.mips_isa.specs.Run.{after, and_then, run}
use Rattle.mips_isa.proofs.InputShrinks.{EndsIn, input_of, Shrank, taken_suffix, run_shrank}
use Rattle.mips_isa.proofs.OutputGrows.{output_of, Grew, run_grew}
use Rattle.mips_isa.proofs.RunsInParts.{run_sum}
use Rattle.spim_machine.specs.Ends.{ComesToCall, FailsReading, MetEnd, call_with}

-- A call that would meet the end of a front of the input takes this front

-- the bytes taken, if so much of the front meets its end
past_if : (yes : Bool) (a b a' b' : Taken) (rest : List ℕ) → (a.ended ≡ true → EndsIn rest a'.rest) → (b.ended ≡ true → EndsIn rest b'.rest)
    → (if yes then a else b).ended ≡ true → EndsIn rest (if yes then a' else b').rest
past_if true a b a' b' rest h k e = h e
past_if false a b a' b' rest h k e = k e

false_is_true : {A : Type 0} → false ≡ true → A
false_is_true e = absurd cc

taken_past : (n m : ℕ) (front rest : List ℕ) → n ≤ m → (taken n front).ended ≡ true → EndsIn rest (taken m (front ++ rest)).rest
taken_past zero m front rest less e = false_is_true e
taken_past (suc n) zero front rest less e = absurd (omega arith)
taken_past (suc n) (suc m) [] rest less e = taken_suffix (suc m) rest
taken_past (suc n) (suc m) (b ∷ front) rest less e =
    past_if (b == 0) _ _ _ _ rest (taken_past (suc n) (suc m) front rest less)
    (past_if (b == 10) _ _ _ _ rest (λ met. false_is_true met) (taken_past n m front rest (omega arith))) e

asked_past : (ended : Bool) (n m : ℕ) (front rest input : List ℕ) → ended ≡ false → input ≡ front ++ rest → n ≤ m → (asked ended n front).ended ≡ true
    → EndsIn rest (asked ended m input).rest
asked_past true n m front rest input unmet cut less e = false_is_true (sym unmet)
asked_past false n m front rest input unmet cut less e = subst (λ (xs : List ℕ). EndsIn rest (taken m xs).rest) (sym cut) (taken_past n m front rest less e)

-- Calls

-- either of two outcomes, with only the front and with the whole input
call_if : (yes : Bool) (o other o' other' : Outcome) (rest : List ℕ) → (MetEnd o → EndsIn rest (input_of o')) → (MetEnd other → EndsIn rest (input_of other'))
    → MetEnd (if yes then o else other) → EndsIn rest (input_of (if yes then o' else other'))
call_if true o other o' other' rest h k met = h met
call_if false o other o' other' rest h k met = k met

module _ (b : Segments) (s : State) (front rest : List ℕ) (unmet : s.ended ≡ false) (cut : s.input ≡ front ++ rest) where
  -- the same state with only the front
  abbrev alone : State
  alone = record s { input = front }

  -- a call that takes nothing does not meet the end
  none_met : {A : Type 0} → s.ended ≡ true → A
  none_met e = false_is_true (sym unmet ∙ e)

  string_past : (found : Option (List ℕ)) → MetEnd (print_string alone found) → EndsIn rest (input_of (print_string s found))
  string_past None met = absurd met
  string_past (Some bytes) met = none_met met

  longer : length front ≤ length s.input
  longer = omega (arith, ap length cut, length-append front rest)

  read_string_past : MetEnd (read_string b alone) → EndsIn rest (input_of (read_string b s))
  read_string_past =
      call_if (is_negative (a1 s) || a1 s == 0) _ _ _ _ rest (λ met. none_met met)
      (call_if (not (all_writable b (a0 s) (a1 s))) _ _ _ _ rest (λ met. absurd met)
      (asked_past s.ended (a1 s - 1) (a1 s - 1) front rest s.input unmet cut (omega arith)))

  call_past : MetEnd (call b alone) → EndsIn rest (input_of (call b s))
  call_past =
      call_if (v0 s == 1) _ _ _ _ rest (λ met. none_met met)
      (call_if (v0 s == 4) _ _ _ _ rest (string_past (string_at b s.core.memory (a0 s)))
      (call_if (v0 s == 5) _ _ _ _ rest (asked_past s.ended (suc (length front)) (suc (length s.input)) front rest s.input unmet cut (let more = longer in omega arith))
      (call_if (v0 s == 8) _ _ _ _ rest read_string_past
      (call_if (v0 s == 9) _ _ _ _ rest (call_if (nat_le (s.heap_break + a0 s) b.heap_end) _ _ _ _ rest (λ met. none_met met) (λ met. none_met met))
      (call_if (v0 s == 10) _ _ _ _ rest (λ met. absurd met)
      (call_if (v0 s == 11) _ _ _ _ rest (λ met. none_met met)
      (call_if (v0 s == 12) _ _ _ _ rest (asked_past s.ended 1 1 front rest s.input unmet cut (omega arith))
      (call_if (v0 s == 17) _ _ _ _ rest (λ met. absurd met) (λ met. absurd met)))))))))

-- Runs

-- later instructions take more
then_past : (o : Outcome) (rest : List ℕ) (go : State → Outcome) → EndsIn rest (input_of o) → ((t : State) → Shrank t (go t)) → EndsIn rest (input_of (and_then o go))
then_past (Running t) rest go h k = (h.0 ++ (k t).0, h.1 ∙ (ap (λ (xs : List ℕ). h.0 ++ xs) (k t).1 ∙ sym (append_assoc h.0 (k t).0 (input_of (go t)))))
then_past (Exited code t) rest go h k = h
then_past (Trapped trap t) rest go h k = h

-- A run that comes to a call is, from the start of the call on, the call and what comes behind it.
record GoesOn (text : List ℕ) (b : Segments) (n : ℕ) (s at : State) : Type 0 where
  behind : ℕ
  calls : run text b n s ≡ and_then (call b at) (run text b behind)
  before : State
  same_output : at.output ≡ before.output
  same_input : at.input ≡ before.input
  from : run text b n s ≡ run text b (suc behind) before

goes_on : (text : List ℕ) (b : Segments) (n : ℕ) (s at : State) → ComesToCall text b n s at → GoesOn text b n s at
goes_on text b n s at c =
    let k = n - suc c.count in
    let split : n ≡ c.count + suc k = (let less = c.below in omega arith) in
    let whole : run text b n s ≡ run text b (suc k) c.before =
    ap (λ (j : ℕ). run text b j s) split ∙ run_sum text b c.count (suc k) s ∙ ap (λ (o : Outcome). and_then o (run text b (suc k))) c.runs in
    record {
      behind = k;
      calls = whole ∙ ap (λ (next : Next). and_then (after b c.before next) (run text b k)) c.calls ∙ ap (λ (x : State). and_then (call b x) (run text b k)) (sym c.at_is);
      before = c.before;
      same_output = ap (λ (x : State). x.output) c.at_is;
      same_input = ap (λ (x : State). x.input) c.at_is;
      from = whole;
    }

-- the output up to a call is a prefix of the output of the run
pub written_before : (text : List ℕ) (b : Segments) (n : ℕ) (s at : State) → ComesToCall text b n s at → Grew at (run text b n s)
written_before text b n s at c =
    let g = goes_on text b n s at c in
    let grew = run_grew text b (suc g.behind) g.before in
    (grew.0, ap output_of g.from ∙ grew.1 ∙ ap (λ (xs : List ℕ). xs ++ grew.0) (sym g.same_output))

-- the input left at the end of the run is a suffix of the input left at a call
pub left_before : (text : List ℕ) (b : Segments) (n : ℕ) (s at : State) → ComesToCall text b n s at → Shrank at (run text b n s)
left_before text b n s at c =
    let g = goes_on text b n s at c in
    let shrank = run_shrank text b (suc g.behind) g.before in
    (shrank.0, g.same_input ∙ shrank.1 ∙ ap (λ (o : Outcome). shrank.0 ++ input_of o) (sym g.from))

-- the input left at the end of the run is a suffix of the input that a call left whose read failed
pub left_by_reading : (text : List ℕ) (b : Segments) (n : ℕ) (s at : State) (first held : Option (List ℕ)) (left : List ℕ) → ComesToCall text b n s at
    → FailsReading (call_with b at) at first (Some left) held → EndsIn left (input_of (run text b n s))
left_by_reading text b n s at first held left c f =
    let g = goes_on text b n s at c in
    let is : left ≡ f.rest = (let same = f.left_is in cc) in
    let past = then_past (call b at) f.rest (run text b g.behind) (call_past b at f.front f.rest f.not_ended f.cut f.asks) (run_shrank text b g.behind) in
    subst (λ (l : List ℕ). EndsIn l (input_of (run text b n s))) (sym is) (subst (λ (o : Outcome). EndsIn f.rest (input_of o)) (sym g.calls) past)

-- a call that prints: what it prints comes behind what was written before
pub written_by_printing : (text : List ℕ) (b : Segments) (n : ℕ) (s at : State) (bytes : List ℕ) → ComesToCall text b n s at → call b at ≡ print at bytes
    → Grew (record at { output = at.output ++ bytes }) (run text b n s)
written_by_printing text b n s at bytes c prints =
    let g = goes_on text b n s at c in
    let grew = run_grew text b g.behind (record at { output = at.output ++ bytes }) in
    (grew.0, ap output_of (g.calls ∙ ap (λ (o : Outcome). and_then o (run text b g.behind)) prints) ∙ grew.1)
