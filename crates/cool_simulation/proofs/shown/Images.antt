-- A machine that runs a program's image reaches the code of each expression that a run of the source begins, with the correct values of all names in scope
-- (`Shown`).
use Rattle.std.proofs.Common.{◌≡◌, ℕ, ◌+◌, ◌-◌, ◌*◌, ◌<◌, ◌⊎◌, inl, inr, [], refl, sym, subst, arith, append-nil, None}
use Rattle.mips_isa.specs.declared.address_map.TheConstants.{HEAP_START, STACK_END}
use Rattle.mips_isa.specs.Bytes.{Segments, bytes_of_image}
use Rattle.mips_isa.specs.Calls.{State as Machine, Outcome, Running, Exited, Trapped}
use Rattle.mips_isa.specs.ImageBounds.{ImageParts}
use Rattle.mips_isa.specs.Run as machine
use Rattle.cool_meaning.specs.SourceRun.{Run, run}
use Rattle.cool_runtime.specs.Reaches.{World, Ends, Limited, stands}
use Rattle.cool_emit.specs.Programs.{program_data, program_text}
use Rattle.cool_emit.proofs.ProgramsAreSound.{programs_sound}
use Rattle.cool_simulation.specs.Loadings.{Loading}
use Rattle.cool_simulation.specs.MainRun.{RunRoom}
use Rattle.cool_simulation.specs.Accord.{Limits}
use Rattle.cool_simulation.specs.Shown.{ComesTo, EndsByLimit, ProgramsShown, VisitsShown}
use Rattle.cool_simulation.proofs.calls.AllCalls.{all_calls_correct}
use Rattle.cool_simulation.proofs.loading.Loaded.{has_image, image, is_loaded, loading, segments}
use Rattle.cool_simulation.proofs.loading.LoadedImages.{image_is}
use Rattle.cool_simulation.proofs.loading.LoadedText.{whole_text}
use Rattle.cool_simulation.proofs.loading.StartState.{begun, no_homes, starts, whole_input}
use Rattle.cool_simulation.proofs.shown.AllCalls.{all_calls_shown}
use Rattle.cool_simulation.proofs.shown.Mains.{program_shown}
use Rattle.cool_simulation.proofs.shown.SpansInTables.{row_in_table, span_in_table}
use Rattle.cool_simulation.specs.Simulation.{Shown}

pub programs_shown : ProgramsShown
programs_shown p names written w m loaded input q map console s n x starts room visit =
    let l : Loading = record { table = p; files = names; world = w; memory = m; watch = None } in
    program_shown l loaded refl n (all_calls_correct l loaded written n) (all_calls_shown l loaded refl written n) input q map console s starts room x visit

-- the machine's state at a visit, or the limit by which it ended
after : (w : World) (s : Machine) (lo m : ℕ) (P : Machine → Type 0) (o : Outcome) → machine.run w.text w.segments m s ≡ o → Ends w lo (stands P) m o
    → ((t : Machine) × (machine.run w.text w.segments m s ≡ Running t) × P t) ⊎ ((code : ℕ) × (t : Machine) × (machine.run w.text w.segments m s ≡ Exited code t) × Limited w code t)
after w s lo m P (Running t) is h = inl (t, is, h.1)
after w s lo m P (Exited code t) is (inl h) = absurd h
after w s lo m P (Exited code t) is (inr h) = inr (code, t, is, h)
after w s lo m P (Trapped trap t) is h = absurd h

either_of : {A B C : Type 0} → (A → C) → (B → C) → A ⊎ B → C
either_of f g (inl a) = f a
either_of f g (inr b) = g b

-- a limit that ends the machine is one that the run passes
passed_limit : (limits : Limits) (r : Run) (code : ℕ) → ((code ≡ 4) × (HEAP_START + limits.heap < HEAP_START + (4 * r.words + 64))) ⊎ ((code ≡ 5) × (STACK_END - (16 * r.peak + 256) < STACK_END - limits.stack))
    → ((code ≡ 4) × (limits.heap < 4 * r.words + 64)) ⊎ ((code ≡ 5) × (limits.stack < 16 * r.peak + 256))
passed_limit limits r code (inl (is, less)) = inl (is, omega arith)
passed_limit limits r code (inr (is, less)) = inr (is, omega arith)

pub visits_shown : VisitsShown
visits_shown p names input limits n x is bytes are visit =
    let b = is.buildable in
    let r : Run = run p names input n in
    let i : ImageParts = image p names b limits are in
    let reach : Segments = segments p names b limits are in
    let top : ℕ = HEAP_START + (4 * r.words + 64) in
    let low : ℕ = STACK_END - (16 * r.peak + 256) in
    let l : Loading = loading p names b limits are top low r.output r.left in
    let w : World = l.world in
    let s : Machine = machine.start i reach input in
    let loaded = is_loaded p names b limits are top low r.output r.left is.texts in
    let room : RunRoom w r = record { heap = omega arith; stack = omega arith; way = record { written = ([], sym (append-nil r.output)); taken = ([], refl) } } in
    let comes = programs_shown p names is.written w (bytes_of_image i) loaded input (begun p names b limits are) no_homes (whole_input input) s n x
    (starts p names b limits are top low r.output r.left input bytes) room visit in
    let text = whole_text (program_text p names) (program_data p names) w (has_image p names b limits are top low r.output r.left) in
    let count : ℕ = comes.1.count in
    subst (λ (y : ImageParts). ComesTo p names y limits input x ⊎ EndsByLimit y limits input r) (sym (image_is (program_text p names) (program_data p names) (programs_sound p names b)))
    (either_of
    (λ h. let (t, there, shown) = h in
    inl (record {
      loading = l;
      table_is = refl;
      files_are = refl;
      text_is = refl;
      unwatched = refl;
      loaded = loaded;
      count = count;
      machine = t;
      reached = there;
      shown = shown;
      told = span_in_table l text x.class x.feature shown.span shown.begins.scene.c_within shown.there;
      row = row_in_table l text x.class x.feature shown.span shown.begins.scene.c_within shown.there;
    }))
    (λ h. let (code, t, there, limited) = h in inr (record { count = count; code = code; machine = t; ended = there; why = passed_limit limits r code limited.why }))
    (after w s 0 count (Shown l x) (machine.run w.text w.segments count s) refl comes.1.ends))
