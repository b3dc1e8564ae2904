-- A call of `asm` or `build` that wrote the compiled program, or the errors of its files, satisfies the postcondition `BuildEnds` of these commands.
use Rattle.cool_ports.specs.SinkPuts.{pieces_of}
use Rattle.cool_driver.specs.{declared.writing.TheConstants.{MOST_PIECE_BYTES}, Calls.{Call, Request, ShelfUse, shelf_of}, Comes.{Comes, NoPieces, PutAsDue}, Does.{Goes}, Sources.{AreKnown, IsNoProgram, IsProgram}}
use Rattle.cool_driver.specs.{commands.Build.{BuildEnds, DueToBuild, IsBuilt, IsCompiled, PiecesOfBuild, built_bytes}, declared.commands.build.Form.{Form}}
use Rattle.std.proofs.Common.{Err, IfOk, List, Ok, Result, inl, inr, refl, subst, ℕ, ◌≡◌}
use Rattle.std.specs.Global.{Vec}
use Rattle.cool_classes.specs.Chains.{Class}
use Rattle.cool_faults.specs.Verdicts.{IsAccepted}
use Rattle.cool_syntax.specs.declared.TheConstants.{MOST_SOURCE_BYTES}
use Rattle.cool_driver.proofs.{ComesOfRefusals.{DueToRefusal, comes_map, goes_map}, DevicesOfCalls.{came}, PutsOfCalls.{put_refused}, SourcesOfCalls.{IsVerdictOn, no_refusal, same_program, sources_exactly}}

-- the result that is due depends on the verdict on the files
verdict_of : {form : Form} {names : List (List ℕ)} {r : Request} {status : ℕ} {output note left : List ℕ} → DueToBuild form names r status output note left
    → IsVerdictOn (shelf_of r) names status note
verdict_of (DueToBuild.built p is means) = inl (p, is, inl refl)
verdict_of (DueToBuild.refused status note why) = inr why

-- files that are accepted say the status, the output, and that it means their program
built_so : {form : Form} {names : List (List ℕ)} {r : Request} {contents : List (List ℕ)} {p : List Class} {status : ℕ}
    {output note left : List ℕ} → AreKnown (shelf_of r) MOST_SOURCE_BYTES names contents → IsAccepted contents p
    → DueToBuild form names r status output note left → (status ≡ 0) × (output ≡ built_bytes form p names) × IsCompiled p names
built_so known is (DueToBuild.built q other means) = rw (← same_program known is other) (refl, refl, means)
built_so known is (DueToBuild.refused status note why) = absurd (no_refusal known is why)

-- the puts for the program of the files
abbrev IsPrinted : Form → List (List ℕ) → Call → ℕ → Type 0
IsPrinted form names c status = (contents : List (List ℕ)) (p : List Class) → AreKnown (shelf_of c.request) MOST_SOURCE_BYTES names contents → IsAccepted contents p
    → PutAsDue (pieces_of MOST_PIECE_BYTES (built_bytes form p names)) c.out status

-- so it ends as it should
build_ends : {form : Form} {names : List (List ℕ)} {c : Call} {status : ℕ} → IsPrinted form names c status
    → Comes (DueToBuild form names c.request) (PiecesOfBuild form names c.request) c status → BuildEnds form names c status
build_ends printed comes = record {
  comes = comes;
  built_exactly = λ contents p known is eight nine.
      let (output, note, row, out, notes) = came comes eight nine in
      let so = built_so known is row in
      (so.0, rw so.1 at out);
  built_means = λ contents p known is eight nine.
      let (output, note, row, out, notes) = came comes eight nine in (built_so known is row).2;
  built_pieces = printed;
  sources = sources_exactly (λ s o n l. verdict_of) comes;
}

-- the bytes of a program were made
pub made_goes : {form : Form} {names : List (List ℕ)} {c : Call} {status : ℕ} {p : List Class} → IsProgram (shelf_of c.request) names p
    → PutAsDue (pieces_of MOST_PIECE_BYTES (built_bytes form p names)) c.out status
    → Goes (Comes (DueToBuild form names c.request) (PiecesOfBuild form names c.request)) c status → Goes (BuildEnds form names) c status
made_goes {form} {names} {c} {status} is put =
    goes_map (build_ends (λ contents q known accepted.
    subst (λ (r : List Class). PutAsDue (pieces_of MOST_PIECE_BYTES (built_bytes form r names)) c.out status) (same_program known accepted is) put))

-- the files were refused, and nothing was put
row_of : {form : Form} {names : List (List ℕ)} {r : Request} {status : ℕ} {output note left : List ℕ}
    → DueToRefusal (IsNoProgram (shelf_of r) names) r status output note left → DueToBuild form names r status output note left
row_of (DueToRefusal.refused status note why) = DueToBuild.refused status note why

pub unbuilt_ends : {form : Form} {names : List (List ℕ)} {c : Call} {status : ℕ} → c.out.puts_after ≡ c.out.puts_before
    → Comes (DueToRefusal (IsNoProgram (shelf_of c.request) names) c.request) NoPieces c status → BuildEnds form names c status
unbuilt_ends none comes =
    build_ends (λ contents p known is. put_refused (λ s n why. no_refusal known is why) none comes)
    (comes_map (λ s o n l row. row_of row) (λ b p l row. absurd row) comes)

-- bytes that were made are those of the program
pub built_if : {E : Type 0} (form : Form) {names : List (List ℕ)} {shelf : ShelfUse} {p : List Class} (result : Result (Vec ℕ) E) → IsProgram shelf names p
    → IsCompiled p names → IfOk result (λ bytes. bytes.items ≡ built_bytes form p names) → IfOk result (λ bytes. IsBuilt form names shelf bytes.items)
built_if form (Ok bytes) is means made = (_, is, means, made)
built_if form (Err e) is means made = tt
