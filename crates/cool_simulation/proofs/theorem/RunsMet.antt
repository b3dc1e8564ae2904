-- If heap and stack suffice for the allocated words and the nesting of a source run that goes on, the machine reaches the output of this run.
use Rattle.std.proofs.Common.{◌≡◌, ℕ, ◌*◌, ◌<◌, ◌≤◌, ◌⊎◌, inl, inr, List, [], refl, sym, subst, arith, append-nil}
use Rattle.mips_isa.specs.Bytes.{Segments, bytes_of_image}
use Rattle.mips_isa.specs.Calls.{State, Outcome, Running, Exited, Trapped}
use Rattle.mips_isa.specs.ImageBounds.{ImageParts}
use Rattle.mips_isa.specs.Run as machine
use Rattle.cool_meaning.specs.SourceRun.{Run, run}
use Rattle.cool_runtime.specs.Reaches.{World, Ends, Limited, Reaches, stands}
use Rattle.cool_emit.specs.Programs.{program_text, program_data}
use Rattle.cool_emit.proofs.ProgramsAreSound.{programs_sound}
use Rattle.cool_simulation.specs.MainRun.{ComesTo, Leaves, RunRoom}
use Rattle.cool_simulation.specs.Theorem.{GoesOnWith, Meets, RunsAreMet}
use Rattle.cool_simulation.proofs.loading.Loaded.{image, segments, loading, is_loaded}
use Rattle.cool_simulation.proofs.loading.LoadedImages.{image_is}
use Rattle.cool_simulation.proofs.loading.StartState.{begun, no_homes, whole_input, starts}
use Rattle.cool_simulation.proofs.theorem.Simulated.{always_runs}

-- a limit that is not passed ends no run
no_limit : (w : World) → w.top ≤ w.segments.heap_end → w.segments.stack_low ≤ w.low → (code : ℕ) (s : State) → Limited w code s → ⊥
no_limit w heap stack code s h = by h.why
  where
    by : ((code ≡ 4) × (w.segments.heap_end < w.top)) ⊎ ((code ≡ 5) × (w.low < w.segments.stack_low)) → ⊥
    by (inl (is, less)) = absurd (omega arith)
    by (inr (is, less)) = absurd (omega arith)

-- if heap and stack reach as far as the world says, a run that goes on is met
goes_on : (w : World) → w.top ≤ w.segments.heap_end → w.segments.stack_low ≤ w.low → (output left : List ℕ) (n m : ℕ) (o : Outcome) → Ends w n (stands (Leaves output left)) m o → (n ≤ m) × GoesOnWith output left o
goes_on w heap stack output left n m (Running s) h = (h.0, (h.1.wrote, h.1.leaves))
goes_on w heap stack output left n m (Exited code s) (inl h) = absurd h
goes_on w heap stack output left n m (Exited code s) (inr h) = absurd (no_limit w heap stack code s h)
goes_on w heap stack output left n m (Trapped trap s) h = absurd h

pub runs_met : RunsAreMet
runs_met p names input limits n is bytes are on heap stack =
    let b = is.buildable in
    let r : Run = run p names input n in
    let i : ImageParts = image p names b limits are in
    let reach : Segments = segments p names b limits are in
    let w : World = (loading p names b limits are reach.heap_end reach.stack_low r.output r.left).world in
    let room : RunRoom w r = record { heap = omega (arith, heap); stack = omega (arith, stack); way = record { written = ([], sym (append-nil r.output)); taken = ([], refl) } } in
    let comes : ComesTo w (machine.start i reach input) n (64 * r.work) r.output r.left r.end =
    always_runs p names is.written w (bytes_of_image i) (is_loaded p names b limits are reach.heap_end reach.stack_low r.output r.left is.texts) input (begun p names b limits are) no_homes (whole_input input)
    (machine.start i reach input) n (starts p names b limits are reach.heap_end reach.stack_low r.output r.left input bytes) room in
    let reaches : Reaches w (machine.start i reach input) n (64 * r.work) (stands (Leaves r.output r.left)) = subst (ComesTo w (machine.start i reach input) n (64 * r.work) r.output r.left) on comes in
    let met = goes_on w (omega arith) (omega arith) r.output r.left n reaches.count (machine.run i.text reach reaches.count (machine.start i reach input)) reaches.ends in
    subst (λ (x : ImageParts). Meets x limits input n r) (sym (image_is (program_text p names) (program_data p names) (programs_sound p names b)))
    (record { count = reaches.count; least = met.0; most = reaches.within; goes_on = met.1 })
