-- A call of `run` that compiled and ran the program in its files, or reported why not, satisfies the postcondition `RunEnds` of the command.
use Rattle.std.proofs.Common.{List, arith, inl, inr, refl, subst, ℕ, ◌≡◌, ◌≢◌, ◌⊎◌}
use Rattle.cool_classes.specs.Chains.{Class}
use Rattle.cool_emit.specs.Programs.{program_lines}
use Rattle.cool_faults.specs.Verdicts.{IsAccepted}
use Rattle.cool_simulation.specs.Accord.{Means}
use Rattle.cool_syntax.specs.declared.TheConstants.{MOST_SOURCE_BYTES}
use Rattle.cool_words.specs.Plans.{RunAsked}
use Rattle.mips_isa.specs.{Assembly.{image_of}, ImageBounds.{ImageParts}}
use Rattle.cool_driver.specs.{Calls.{Call, DidNothing, Got, GotPart, Request, shelf_of}, Comes.{Comes, NoPieces, PutAsDue}, Compiled.{IsImageFor, compiled_program}, Does.{Goes}}
use Rattle.cool_driver.specs.{Execution.{run_of, status_of}, Headline.{Headline}, Runs.{DueToRun, PiecesOfRun, puts_of_run}, Sources.{AreKnown, IsNoProgram}}
use Rattle.cool_driver.specs.commands.Run.{DueToRunning, IsRunFor, PiecesOfRunning, RunEnds}
use Rattle.cool_driver.proofs.{ComesOfRefusals.{DueToRefusal, comes_map, goes_map}, ComesOfRuns.{run_so, run_status}, DevicesOfCalls.{came}, HeadlineOfRuns.{headline_cut, headline_due}, PutsOfCalls.{put_refused}}
use Rattle.cool_driver.proofs.SourcesOfCalls.{IsVerdictOn, no_refusal, same_program, sources_exactly, verdict_status}
use Rattle.lists.specs.Bytes.{AreBytes}

module _ {asked : RunAsked} {r : Request} where
  -- the result that is due depends on the verdict on the files
  verdict_of : {status : ℕ} {output note left : List ℕ} → DueToRunning asked r status output note left
      → IsVerdictOn (shelf_of r) asked.names status note
  verdict_of (DueToRunning.ran image status output note left for row) = inl (for.p, for.is, run_status row)
  verdict_of (DueToRunning.refused status note why) = inr why

  -- the case that the files were read and are accepted
  module _ {contents : List (List ℕ)} {p : List Class} (known : AreKnown (shelf_of r) MOST_SOURCE_BYTES asked.names contents)
      (is : IsAccepted contents p) where
    -- the image that runs is one for their program
    image_for : {image : ImageParts} → IsRunFor asked r image → IsImageFor asked.fold p asked.names image
    image_for f = rw (same_program known is f.is) at f.for

    -- its status
    compiled_so : {status : ℕ} {output note left : List ℕ} → DueToRunning asked r status output note left
        → (status ≡ 7) ⊎ (status ≡ status_of (run_of asked.limits (image_of (program_lines (compiled_program asked.fold p) asked.names)) r.input))
    compiled_so (DueToRunning.ran image status output note left for row) = run_so (image_for for).image_is row
    compiled_so (DueToRunning.refused status note why) = absurd (no_refusal known is why)

-- the puts for the program of the files
abbrev IsPrinted : RunAsked → Call → ℕ → Type 0
IsPrinted asked c status = (contents : List (List ℕ)) (p : List Class) → AreKnown (shelf_of c.request) MOST_SOURCE_BYTES asked.names contents → IsAccepted contents p
    → PutAsDue (puts_of_run asked.limits (image_of (program_lines (compiled_program asked.fold p) asked.names)) c.request.input) c.out status

-- the rows of a refusal
row_of : {asked : RunAsked} {r : Request} {status : ℕ} {output note left : List ℕ}
    → DueToRefusal (IsNoProgram (shelf_of r) asked.names) r status output note left → DueToRunning asked r status output note left
row_of (DueToRefusal.refused status note why) = DueToRunning.refused status note why

module _ {asked : RunAsked} {c : Call} where
  module _ {contents : List (List ℕ)} {p q : List Class} (known : AreKnown (shelf_of c.request) MOST_SOURCE_BYTES asked.names contents)
      (is : IsAccepted contents p)
      (meant : (image : ImageParts) → IsImageFor asked.fold p asked.names image → Means image q asked.names) (are : AreBytes c.request.input) where
    -- the result that is due was written, or all of it except the note
    due_so : {status : ℕ} {output note left : List ℕ} → DueToRunning asked c.request status output note left → c.left ≡ left
        → Got c.out output → Headline c status asked.limits asked.names q × Headline c 8 asked.limits asked.names q
    due_so (DueToRunning.ran image status output note left for row) same got =
        headline_due asked.limits image asked.names q c (meant image (image_for known is for)) for.bounded are status output note left row same got
    due_so (DueToRunning.refused status note why) same got = absurd (no_refusal known is why)

    -- the write of a piece failed
    cut_so : {before piece left : List ℕ} → PiecesOfRunning asked c.request before piece left → c.left ≡ left → GotPart c.out before piece
        → Headline c 8 asked.limits asked.names q
    cut_so (PiecesOfRunning.of_run image before piece left for row) =
        headline_cut asked.limits image asked.names q c (meant image (image_for known is for)) for.bounded are before piece left row

    headline : {status : ℕ} → Comes (DueToRunning asked c.request) (PiecesOfRunning asked c.request) c status → status ≢ 9
        → Headline c status asked.limits asked.names q
    headline (Comes.written status output note row out notes) other = (due_so row refl out).0
    headline (Comes.unwritten before piece row part notes) other = cut_so row refl part
    headline (Comes.unnoted status output note row out part) other = (due_so row refl out).1
    headline (Comes.short nothing) other = absurd (other refl)

  -- with status 9, out of memory, nothing was done
  not_run : {status : ℕ} → Comes (DueToRunning asked c.request) (PiecesOfRunning asked c.request) c status → status ≡ 9 → DidNothing c
  not_run (Comes.written status output note row out notes) e = let one = (verdict_status {r = c.request} (verdict_of row)).0 in absurd (grind arith)
  not_run (Comes.short nothing) e = nothing
  not_run _ e = absurd (omega arith)

  running_ends : {status : ℕ} → IsPrinted asked c status → Comes (DueToRunning asked c.request) (PiecesOfRunning asked c.request) c status
      → RunEnds asked c status
  running_ends printed comes = record {
    comes = comes;
    headline = λ contents p known is are other. headline known is (λ image for. for.means) are comes other;
    compiled_headline = λ contents p known is are other. headline known is (λ image for. for.means_compiled) are comes other;
    compiled_exactly = λ contents p known is eight nine.
        let (output, note, row, out, notes) = came comes eight nine in compiled_so known is row;
    printed_exactly = printed;
    not_run = not_run comes;
    sources = sources_exactly (λ s o n l. verdict_of) comes;
  }

  -- the image ran
  pub ran_goes : {status : ℕ} {image : ImageParts} → IsRunFor asked c.request image → PutAsDue (puts_of_run asked.limits image c.request.input) c.out status
      → Goes (Comes (DueToRun asked.limits image c.request.input) (PiecesOfRun asked.limits image c.request.input)) c status → Goes (RunEnds asked) c status
  ran_goes {status} for put =
      goes_map (λ comes. running_ends
      (λ contents p known is. subst (λ (i : ImageParts). PutAsDue (puts_of_run asked.limits i c.request.input) c.out status) (image_for known is for).image_is put)
      (comes_map (λ s o n l row. DueToRunning.ran _ s o n l for row) (λ b p l row. PiecesOfRunning.of_run _ b p l for row) comes))

  -- the files were refused, and nothing was put
  pub unrun_ends : {status : ℕ} → c.out.puts_after ≡ c.out.puts_before
      → Comes (DueToRefusal (IsNoProgram (shelf_of c.request) asked.names) c.request) NoPieces c status → RunEnds asked c status
  unrun_ends none comes =
      running_ends (λ contents p known is. put_refused (λ s n why. no_refusal known is why) none comes)
      (comes_map (λ s o n l row. row_of row) (λ b p l row. absurd row) comes)
