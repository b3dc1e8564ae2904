-- Throughout a run, the counting output stream refers to the same underlying stream. The number with which its list of writes begins identifies that stream,
-- and does not change.
use Rattle.std.proofs.Common.{◌≡◌, ◌∙◌, refl, sym, ap, subst, ℕ, ◌+◌, List, [], ◌∷◌, ◌++◌, length, arith}
use Rattle.std.specs.Prelude.{Bool, Option, Some}
use Rattle.std.specs.List.{concat}
use Rattle.std.proofs.lemmas.List.{length-append}
use Rattle.cool_ports.specs.Answers.{Past, Leaves}
use Rattle.cool_ports.specs.Taking.{Took, OfAnyInput}
use Rattle.cool_ports.proofs.GettingBytes.{appended-nil}
use Rattle.mips_isa.specs.Calls.{State}
use Rattle.spim_machine.specs.declared.halt.Halt.{Halt}
use Rattle.spim_machine.specs.declared.halt.Halt.TheVariants as halts
use Rattle.spim_machine.specs.MachineStates.{MachineParts, state_of, IsIn}
use Rattle.spim_machine.specs.Puts.{PutBy}
use Rattle.spim_debug.specs.ByteCounts.{counted, GrewBy}

-- the lists behind the first
abbrev tail : List (List ℕ) → List (List ℕ)
tail [] = []
tail (ps ∷ puts) = puts

-- the puts that a counting sink was given, behind the number of the one that lends
abbrev pub numbered : ℕ → List (List ℕ) → List (List ℕ)
numbered number puts = (number ∷ []) ∷ puts

-- puts leave the number in front
number_stays : (halt : Halt) (due puts puts' : List (List ℕ)) (number number' : ℕ) → PutBy halt due (numbered number puts) (numbered number' puts') → number' ≡ number
number_stays (halts.Exit code) due puts puts' number number' put = cc
number_stays (halts.Trap trap) due puts puts' number number' put = cc
number_stays halts.StepLimit due puts puts' number number' put = cc
number_stays halts.ReadFault due puts puts' number number' put = cc
number_stays halts.WriteFault due puts puts' number number' (rest, put) = by put.put
  where
    by : numbered number' puts' ≡ numbered number puts ++ put.front → number' ≡ number
    by same = cc

-- it stays in a run of a machine that has not halted
pub number_kept : (m : MachineParts) (was ended : Bool) (before after : Past) (left left' held : Option (List ℕ)) (halt : Halt) (due : State → List (List ℕ)) (puts puts' : List (List ℕ)) (number number' : ℕ)
    → ((took : Took was ended before after left left') → Leaves before after took.front [])
    → Took was ended before after left left'
    → ((first : Option (List ℕ)) (s : State) → OfAnyInput before after (λ input rest. IsIn first s m input held → PutBy halt (due s) (numbered number puts) (numbered number' puts')))
    → number' ≡ number
number_kept m was ended before after left left' held halt due puts puts' number number' possible took put =
    let s : State = state_of m took.front [] in
    let is : IsIn held s m (Some took.front) held = record { core = refl; heap_break = refl; ended = refl; input = refl; output = sym (appended-nil held) } in
    number_stays halt (due s) puts puts' number number' (put held s took.front [] (possible took) is)

-- the one that lends ends as it is left behind the same number
pub kept_by : {A : Type 0} (P : A → Type 0) (number number' : ℕ) (x y : A) → number' ≡ number → (number ≡ number' → x ≡ y) → P y → P x
kept_by P number number' x y same ends p = subst P (sym (ends (sym same))) p

-- the bytes put are those by which the output grew
pub grew_by : (halt : Halt) (due puts puts' : List (List ℕ)) (number number' bytes : ℕ) (before after : List ℕ) → puts ≡ []
    → PutBy halt due (numbered number puts) (numbered number' puts') → bytes ≡ counted (length (concat puts')) → after ≡ before ++ concat due
    → GrewBy halt before after bytes
grew_by halt due puts puts' number number' bytes before after none put count more = by halt put
  where
    sums : numbered number' puts' ≡ numbered number puts ++ due → counted (length after) ≡ counted (length before + bytes)
    sums p =
        let same : puts' ≡ due = ap tail p ∙ ap (λ (ps : List (List ℕ)). ps ++ due) none in
        let size : length after ≡ length before + length (concat due) = ap length more ∙ length-append before (concat due) in
        let all : bytes ≡ counted (length (concat due)) = count ∙ ap (λ (ps : List (List ℕ)). counted (length (concat ps))) same in
        grind (arith, size, all)

    by : (h : Halt) → PutBy h due (numbered number puts) (numbered number' puts') → GrewBy h before after bytes
    by (halts.Exit code) p = sums p
    by (halts.Trap trap) p = sums p
    by halts.StepLimit p = sums p
    by halts.ReadFault p = sums p
    by halts.WriteFault p = tt
