-- A call of `check` that reported the errors of its files, if there are any, satisfies the postcondition `CheckEnds` of the command.
use Rattle.std.proofs.Common.{List, [], inl, inr, refl, ℕ, ◌≡◌, ◌≢◌}
use Rattle.cool_faults.specs.{Verdicts.{IsFaultList}, declared.fault.Fault.{Fault}}
use Rattle.cool_syntax.specs.declared.TheConstants.{MOST_SOURCE_BYTES}
use Rattle.cool_driver.specs.{Calls.{Call, Request, shelf_of}, Comes.{Comes, NoPieces}, Sources.{AreKnown}, commands.Check.{CheckEnds, DueToCheck}}
use Rattle.cool_driver.proofs.{DevicesOfCalls.{came}, SourcesOfCalls.{IsVerdictOn, program_faultless, refused_with, sources_exactly}}

-- the result that is due depends on the verdict on the files, and no input is taken
pub verdict_of : {names : List (List ℕ)} {r : Request} {status : ℕ} {output note left : List ℕ} → DueToCheck names r status output note left
    → IsVerdictOn (shelf_of r) names status note
verdict_of (DueToCheck.accepted p is) = inl (p, is, inl refl)
verdict_of (DueToCheck.refused status note why) = inr why

-- the fault list says the status
checked : {names : List (List ℕ)} {r : Request} {contents : List (List ℕ)} {faults : List Fault} {status : ℕ} {output note left : List ℕ}
    → AreKnown (shelf_of r) MOST_SOURCE_BYTES names contents → IsFaultList contents faults
    → DueToCheck names r status output note left → (faults ≡ [] → status ≡ 0) × (faults ≢ [] → status ≡ 1)
checked known list (DueToCheck.accepted p is) = (λ _. refl, λ some. absurd (some (program_faultless known is list)))
checked known list (DueToCheck.refused status note why) =
    let so = refused_with known why list in (λ none. absurd (so.0 none), λ _. so.1)

-- so it ends as it should
pub check_ends : {names : List (List ℕ)} {c : Call} {status : ℕ} → Comes (DueToCheck names c.request) NoPieces c status → CheckEnds names c status
check_ends comes = record {
  comes = comes;
  checked_exactly = λ contents faults known list eight nine.
      let (output, note, is, out, notes) = came comes eight nine in checked known list is;
  sources = sources_exactly (λ s o n l. verdict_of) comes;
}
