-- `run_puts` lists the pieces of output that a run gives to its sink, and `PutByRun` says which of them an evaluation gave. A step that writes is one call of
-- `out_string` or `out_int`: its bytes are put before the next step, in pieces of 64 bytes, the last perhaps shorter. The line that a run writes last is put
-- in the same way.
use Rattle.std.specs.Prelude.{◌≡◌, ℕ, zero, suc, ◌+◌, ◌-◌, ◌<◌, ◌≤◌, List, [], ◌∷◌, ◌++◌, length, take, drop, codes, refl}
use Rattle.cool_ports.specs.SinkPuts.{pieces_of, PutFront}
use Rattle.cool_classes.specs.Chains.{Class}
use Rattle.cool_meaning.specs.SourceRun as runs
use Rattle.cool_meaning.specs.SourceRun.{Run, run, done_text}
use Rattle.cool_eval.specs.Ends.{last_line, TookPart}
use Rattle.cool_eval.specs.declared.evaluation.EvalEnd.{EvalEnd}
use Rattle.cool_eval.specs.declared.evaluation.EvalEnd.TheVariants.{Done, Error, StepLimit, ReadFault, WriteFault, Memory}

-- the bytes by which an output is longer than one before it
abbrev pub written_since : List ℕ → List ℕ → List ℕ
written_since before now = drop (length before) now

-- the puts of so many steps, of a run that has this output with each number of them
abbrev pub steps_puts : (ℕ → List ℕ) → ℕ → List (List ℕ)
steps_puts output zero = []
steps_puts output (suc n) = steps_puts output n ++ pieces_of 64 (written_since (output n) (output (suc n)))

-- a run whose first step writes `ab`, whose second writes nothing, and whose third writes `c`
abbrev abc : ℕ → List ℕ
abc zero = []
abc (suc zero) = codes "ab"
abc (suc (suc zero)) = codes "ab"
abc (suc (suc (suc n))) = codes "abc"

step_by_step : steps_puts abc 4 ≡ codes "ab" ∷ codes "c" ∷ []
step_by_step = refl

of_fewer_steps : steps_puts abc 2 ≡ codes "ab" ∷ []
of_fewer_steps = refl

-- the output of a run before its last line
abbrev pub before_last : List Class → List (List ℕ) → Run → List ℕ
before_last p names r = take (length r.output - length (last_line p names r.end)) r.output

a_good_end : before_last [] [] (record { end = runs.Done; output = codes "hi" ++ done_text; left = []; work = 0; words = 0; peak = 0 }) ≡ codes "hi"
a_good_end = refl

-- the output before the last line of a program's runs, for each number of steps
abbrev pub written : List Class → List (List ℕ) → List ℕ → ℕ → List ℕ
written p names input n = before_last p names (run p names input n)

-- all puts of a run with so many steps: those of its steps, and of its last line
abbrev pub run_puts : List Class → List (List ℕ) → List ℕ → ℕ → List (List ℕ)
run_puts p names input n =
    steps_puts (written p names input) n ++ pieces_of 64 (last_line p names (run p names input n).end)

-- The puts of an evaluation with so many steps, to a sink that had the puts `before` and then `after`: all puts of the run. If a read failed, those of the
-- steps before the call that reads; if memory ran out, those of the steps until then. In both cases the rest of the input shows how far it came. If a write
-- failed, a prefix of all puts.
abbrev pub PutByRun : List Class → List (List ℕ) → List ℕ → ℕ → EvalEnd → List ℕ → List (List ℕ) → List (List ℕ) → Type 0
PutByRun p names input steps Done rest before after = after ≡ before ++ run_puts p names input steps
PutByRun p names input steps Error rest before after = after ≡ before ++ run_puts p names input steps
PutByRun p names input steps StepLimit rest before after = after ≡ before ++ run_puts p names input steps
PutByRun p names input steps ReadFault rest before after =
    (spent : ℕ) × (spent < steps) × TookPart (run p names input spent) (run p names input (spent + 1)) rest
    × (after ≡ before ++ steps_puts (written p names input) spent)
PutByRun p names input steps WriteFault rest before after = PutFront before (run_puts p names input steps) after
PutByRun p names input steps Memory rest before after =
    (spent : ℕ) × (spent ≤ steps) × TookPart (run p names input spent) (run p names input steps) rest
    × (after ≡ before ++ steps_puts (written p names input) spent)
