-- The exit status of a run of an image or of a source program is one of those allowed for runs, and is not the status of a failed read.
use Rattle.std.proofs.Common.{Bool, arith, cond, false, true, ℕ, ◌==◌, ◌≡◌, ◌≢◌, ◌⊎◌}
use Rattle.mips_isa.specs.Calls.{Exited, Outcome, Running, Trapped}
use Rattle.cool_driver.specs.{Calls.{Request}, Execution.{status_of}}
use Rattle.cool_driver.proofs.DevicesOfCalls.{IsStatus}

-- the statuses of runs
abbrev pub IsOneOf : ℕ → Type 0
IsOneOf status = (status ≡ 0) ⊎ (status ≡ 3) ⊎ (status ≡ 4) ⊎ (status ≡ 5) ⊎ (status ≡ 6) ⊎ (status ≡ 7) ⊎ (status ≡ 11)

-- an exit has one of them, and not 7
exit_status : (zero_is four_is five_is : Bool)
    → let status : ℕ = cond zero_is 0 (cond four_is 4 (cond five_is 5 3)) in IsOneOf status × (status ≢ 7)
exit_status true four_is five_is = grind arith
exit_status false true five_is = grind arith
exit_status false false true = grind arith
exit_status false false false = grind arith

-- so has each end of a run
pub end_status : (end : Outcome) → IsOneOf (status_of end) × (status_of end ≢ 7)
end_status (Running s) = grind arith
end_status (Exited code s) = exit_status (code == 0) (code == 4) (code == 5)
end_status (Trapped trap s) = grind arith

-- if the shelf did not fail, each is good
pub good_status : {r : Request} {status : ℕ} → r.faults_after ≡ r.faults_before → IsOneOf status → IsStatus r status × (status ≢ 2)
good_status calm known = grind arith
