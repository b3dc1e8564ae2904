-- The converse of `Shown`: whenever a program's machine reaches the first word of an expression's code, its state represents one in which the source run begins
-- this expression. In the proof, heap and stack are as large as the run needs. If the limits are smaller, the machine's run ends by a limit.
use Rattle.std.proofs.Common.{[], refl, sym, subst, arith, append-nil, None, ◌≡◌, ℕ, ◌+◌, ◌-◌, ◌*◌, ◌<◌, ◌≤◌, ◌⊎◌, inl, inr, Some, ap, ◌∙◌, List, true}
use Rattle.mips_isa.specs.Bytes.{Segments, bytes_of_image}
use Rattle.mips_isa.specs.ImageBounds.{ImageParts}
use Rattle.mips_isa.specs.Run as machine
use Rattle.cool_meaning.specs.SourceRun as source_run
use Rattle.cool_meaning.specs.SourceRun.{Run, run, End, Failed, GoesOn, IsStuck}
use Rattle.cool_runtime.specs.Reaches.{World, Ends, Goal}
use Rattle.cool_runtime.proofs.Runs.{end_stays}
use Rattle.cool_emit.specs.Programs.{program_data, program_text, program_lines}
use Rattle.cool_emit.proofs.ProgramsAreSound.{programs_sound}
use Rattle.cool_simulation.specs.Loadings.{Loading, IsLoaded, Watched, marks, whole, whole_text as whole_loaded_text}
use Rattle.cool_simulation.specs.MainRun.{RunRoom, PassesTo, Starts}
use Rattle.cool_simulation.specs.Shown.{RowsAreVisits, Visited}
use Rattle.cool_simulation.proofs.calls.AllCalls.{all_calls_correct}
use Rattle.cool_simulation.proofs.loading.Loaded.{has_image, image, is_loaded, loading, segments}
use Rattle.cool_simulation.proofs.loading.LoadedImages.{image_is}
use Rattle.cool_simulation.proofs.loading.LoadedText.{whole_text}
use Rattle.cool_simulation.proofs.loading.StartState.{begun, no_homes, starts, whole_input}
use Rattle.cool_simulation.proofs.shown.SpansInTables.{row_in_table, span_in_table}
use Rattle.cool_simulation.specs.Simulation.{Shown, Passes}
use Rattle.std.specs.Prelude.{Contains}
use Rattle.mips_isa.specs.Calls.{State as Machine, Outcome, Running, Exited, Trapped}
use Rattle.mips_isa.specs.Run.{run_image}
use Rattle.mips_isa.specs.Assembly.{image_of}
use Rattle.cool_runtime.specs.Standing.{sizes}
use Rattle.mips_isa.specs.declared.address_map.TheConstants.{HEAP_START, STACK_END, TEXT_START}
use Rattle.cool_meaning.specs.Values.{start as source_start}
use Rattle.cool_meaning.proofs.SoundRuns.{never_stuck}
use Rattle.cool_codegen.specs.Shown as rows
use Rattle.cool_emit.specs.RowsOfSpans.{told_of}
use Rattle.cool_emit.specs.SpansOfPrograms.{SpanOf, program_spans}
use Rattle.cool_emit.proofs.RowsOfSpans.{rows_are_spans}
use Rattle.cool_simulation.proofs.ground.QuietTexts.{at_over}
use Rattle.cool_simulation.proofs.ground.OtherTexts.{pictures_over, shown_over}
use Rattle.cool_simulation.proofs.calls.InitialParts.{in_image}
use Rattle.cool_simulation.proofs.loading.MarkedTexts.{is_among_of}
use Rattle.cool_simulation.proofs.loading.QuietFeatures.{out_of_image}
use Rattle.cool_simulation.proofs.loading.SettledFeatures.{settled_method, settled_value}
use Rattle.cool_simulation.proofs.loading.WatchedImages.{froms, is_watched, marked, watch, watched}
use Rattle.cool_simulation.proofs.theorem.MainCall.{passes_main}
use Rattle.cool_simulation.specs.Visits.{Visit}

-- a state at which the machine goes on comes before it ends
before_end : (w : World) (lo count m : ℕ) (goal : Goal) (s t : Machine) (o : Outcome) → machine.run w.text w.segments m s ≡ o → Ends w lo goal m o → machine.run w.text w.segments count s ≡ Running t → ((u : Machine) → goal (Running u) → count < lo)
    → count < m
before_end w lo count m goal s t (Running u) is h there early = let less = early u h.1 in let least = h.0 in omega arith
before_end w lo count m goal s t (Exited code u) is h there early = by order
  where
    order : (count < m) ⊎ (m ≤ count)
    order = grind arith

    by : (count < m) ⊎ (m ≤ count) → count < m
    by (inl less) = less
    by (inr le) =
        let split : count ≡ m + (count - m) = omega arith in
        let wrong : Running t ≡ Exited code u = sym there ∙ ap (λ (i : ℕ). machine.run w.text w.segments i s) split ∙ end_stays w m (count - m) s u code is in
        absurd cc
before_end w lo count m goal s t (Trapped trap u) is h there early = absurd h

module _ (l : Loading) (s t : Machine) (count : ℕ) (there : machine.run (whole_loaded_text l) l.world.segments count s ≡ Running t) (mark : marks l.watch t.core.pc ≡ true) where
  abbrev Pictured : Type 0
  Pictured = (x : Visit) × Watched l.watch x × Shown l x t

  pictured_by : (lo hi : ℕ) (goal : Goal) → Passes l s lo hi goal → ((u : Machine) → goal (Running u) → count < lo) → Pictured
  pictured_by lo hi goal h early = h.visits count t (before_end (whole l) lo count h.reaches.count goal s t (machine.run (whole_loaded_text l) l.world.segments h.reaches.count s) refl h.reaches.ends there early) there mark

  -- the case that the run of the source has more steps than that
  pictured : (n most : ℕ) (output left : List ℕ) (e : End) → count < n → (e ≡ IsStuck → ⊥) → PassesTo l s n most output left e → Pictured
  pictured n most output left source_run.Done less some h = pictured_by 0 most _ h (λ u k. absurd k)
  pictured n most output left (Failed x) less some h = pictured_by 0 most _ h (λ u k. absurd k)
  pictured n most output left GoesOn less some h = pictured_by n most _ h (λ u k. less)
  pictured n most output left IsStuck less some h = absurd (some refl)

pub rows_are_visits : RowsAreVisits
rows_are_visits p names input limits n count t row is bytes are less there among at =
    let b = is.buildable in
    let r : Run = run p names input n in
    let i : ImageParts = image p names b limits are in
    let reach : Segments = segments p names b limits are in
    let top : ℕ = HEAP_START + (4 * r.words + 64) in
    let low : ℕ = STACK_END - (16 * r.peak + 256) in
    let l : Loading = loading p names b limits are top low r.output r.left in
    let w : World = l.world in
    let memory = bytes_of_image i in
    let loaded = is_loaded p names b limits are top low r.output r.left is.texts in
    let text = whole_text (program_text p names) (program_data p names) w (has_image p names b limits are top low r.output r.left) in
    let same : image_of (program_lines p names) ≡ i = image_is (program_text p names) (program_data p names) (programs_sound p names b) in
    let methods = settled_method p names b is.written (marked p names) in
    let values = settled_value p names b is.written (marked p names) in
    let watched_l : Loading = watched p names w memory methods values text loaded input n in
    let watched_loaded : IsLoaded watched_l = is_watched p names w memory methods values text loaded input n in
    let quiet : World = watched_l.world in
    let q = begun p names b limits are in
    let s = machine.start i reach input in
    let starting = starts p names b limits are top low r.output r.left input bytes in
    let starting' : Starts watched_l input q no_homes (whole_input input) s = record {
      at = at_over w quiet.text q memory (whole_input input) s starting.at;
      pc = starting.pc;
      gp = starting.gp;
      sp = starting.sp;
      fp_fits = starting.fp_fits;
      own_fits = starting.own_fits;
      shows = starting.shows;
      pictures = pictures_over w quiet.text p memory memory no_homes (source_start input) q.gp q.sp starting.pictures;
      homeless = starting.homeless;
      unmarked = starting.unmarked;
    } in
    let room : RunRoom quiet r = record { heap = omega arith; stack = omega arith; way = record { written = ([], sym (append-nil r.output)); taken = ([], refl) } } in
    let passes = passes_main watched_l watched_loaded (all_calls_correct watched_l watched_loaded is.written) input q no_homes (whole_input input) s n starting' room (λ x h. h) in
    let there' : machine.run i.text reach count s ≡ Running t = subst (λ (y : ImageParts). run_image y limits.heap limits.stack input count ≡ Running t) same there in
    let (span, of_row, is_row) = out_of_image (told_of p names) (program_spans sizes p names TEXT_START) row (subst (λ (rs : List rows.Shown). Contains rs row) (rows_are_spans p names) among) in
    let from : span.span.from ≡ row.from = ap (λ (r : rows.Shown). r.from) is_row in
    let in_froms : Contains (froms p names) row.from = subst (Contains (froms p names)) from (in_image (λ (x : SpanOf). x.span.from) (program_spans sizes p names TEXT_START) span of_row) in
    let mark : marks watched_l.watch t.core.pc ≡ true = is_among_of (froms p names) t.core.pc (subst (Contains (froms p names)) (sym at) in_froms) in
    let (x, begins, shows') = pictured watched_l s t count there' mark n (64 * r.work) r.output r.left r.end less (never_stuck p b.typed names input n) passes in
    let shows : Shown l x t = shown_over p names quiet memory w.text (Some (watch p names w memory methods values text loaded input n)) None x t shows' in
    subst (λ (y : ImageParts). Visited p names y input n t) (sym same) (record {
      visit = x;
      begun = begins;
      loading = l;
      table_is = refl;
      files_are = refl;
      text_is = refl;
      unwatched = refl;
      loaded = loaded;
      shown = shows;
      told = span_in_table l text x.class x.feature shows.span shows.begins.scene.c_within shows.there;
      row = row_in_table l text x.class x.feature shows.span shows.begins.scene.c_within shows.there;
    })
