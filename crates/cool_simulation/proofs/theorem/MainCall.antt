-- The run of a loaded program simulates the source run of the whole program, if the code of calls simulates calls.
use Rattle.std.proofs.Common.{◌≡◌, ℕ, zero, suc, ◌+◌, ◌-◌, ◌*◌, ◌<◌, ◌≤◌, max, List, [], ◌++◌, length, map as each, Option, Some, ap, sym, ◌∙◌, refl, subst, arith, append_assoc, append-nil, inl, inr, None}
use Rattle.std.specs.Prelude.{codes}
use Rattle.cool_syntax.specs.Bare.{nowhere}
use Rattle.mips_isa.specs.declared.address_map.TheConstants.{DATA_START}
use Rattle.mips_isa.specs.Bytes.{Bytes, word}
use Rattle.mips_isa.specs.Lines.{Name}
use Rattle.mips_isa.specs.Calls.{State as Machine}
use Rattle.cool_classes.specs.declared.class_id.ClassId.{ClassId}
use Rattle.cool_classes.specs.declared.method.MethodRef.{MethodRef}
use Rattle.cool_classes.specs.declared.method.MethodRef.TheVariants.{User}
use Rattle.cool_classes.specs.Chains.{Class}
use Rattle.cool_classes.specs.ClimbedChains.{chain}
use Rattle.cool_classes.specs.Features.{formals_of}
use Rattle.cool_classes.specs.LawfulTables.{MayInherit}
use Rattle.cool_rules.proofs.ChainsOfTables.{below_itself}
use Rattle.cool_runtime.specs.Reaches.{World, Reaches, stands, OnTheWay}
use Rattle.cool_runtime.specs.Machines.{At, Pointers, Console, with_copy}
use Rattle.cool_runtime.specs.Contents.{Lies}
use Rattle.cool_runtime.specs.Standing.{HasLines}
use Rattle.cool_runtime.specs.RoutineLines.{routine_lines}
use Rattle.cool_runtime.specs.Routines.{start_end_lines}
use Rattle.cool_runtime.specs.Labels.{main_prototype, main_main, end_text}
use Rattle.cool_runtime.specs.declared.catalogue.Routine.TheVariants as routines
use Rattle.cool_runtime.proofs.Runs.{wider, exits_as}
use Rattle.cool_runtime.proofs.Pieces.{done}
use Rattle.cool_layout.specs.Labels.{prototype, initializer}
use Rattle.cool_meaning.specs.Values.{Value, Void, State, start}
use Rattle.cool_meaning.specs.Meters.{DispatchVoid, Outcome, Val, Stop, On, Stuck, Metered, Computation, ◌>>=◌, join, holding, spend, working}
use Rattle.cool_meaning.specs.SourceRun.{Run, run, run_of, done_text, End, Failed, GoesOn, IsStuck}
use Rattle.cool_meaning.specs.Evaluation.{Calls, Body, class_or, dispatch, invoke, make, new_object, calls_within, Call}
use Rattle.cool_meaning.specs.FittingValues.{AllFit, Fits}
use Rattle.cool_meaning.specs.FittingValues as fitting
use Rattle.cool_meaning.proofs.LongerEvaluation.{more_calls_within}
use Rattle.cool_meaning.proofs.MoreSteps.{after_of}
use Rattle.cool_meaning.proofs.Later.{After}
use Rattle.cool_meaning.specs.Lookups.{class_made}
use Rattle.cool_meaning.proofs.SoundComputations.{IsFine, NotStuck}
use Rattle.cool_meaning.proofs.SoundParts.{make_sound}
use Rattle.cool_meaning.proofs.SoundRuns.{within_sound}
use Rattle.cool_simulation.specs.Loadings.{Loading, IsLoaded, Watched}
use Rattle.cool_simulation.specs.Pictures.{Map, Pictures, Shows}
use Rattle.cool_simulation.specs.Simulation.{Runs, Way, Room, Done, Paused, Called, AllCallsCorrect}
use Rattle.cool_simulation.specs.MainRun.{Starts, Leaves, ComesTo, RunRoom, RunsMain, PassesMain, PassesTo}
use Rattle.cool_simulation.proofs.ground.EvaluationLater.{CallsLater, bind_later, bind_later}
use Rattle.cool_simulation.proofs.ground.PartsOfRuns.{stands_as, bind_runs, run_as, run_wider, run_behind, room_less, Rest}
use Rattle.cool_simulation.proofs.ground.CallsLater.{class_later, dispatch_later}
use Rattle.cool_simulation.proofs.ground.DataHere.{text_here, prototype_here}
use Rattle.cool_simulation.proofs.forms.NewMeaning.{made_object, made_call, outcome_with, object_made, make_plain}
use Rattle.cool_simulation.proofs.forms.NewRuns.{Making, size_of, limits_of}
use Rattle.cool_simulation.proofs.forms.News.{makes}
use Rattle.cool_simulation.proofs.theorem.MainNames.{main_class, main_plain, main_has, main_prototype_is, main_init_is, main_main_is, main_found, main_made}
use Rattle.cool_simulation.proofs.theorem.MainLines.{StartAt, start_at, start_creates, calls_main, writes_end}
use Rattle.cool_meaning.specs.SourceRun as source_run
use Rattle.cool_simulation.specs.Visits as visits
use Rattle.cool_simulation.specs.Visits.{Visit, Visits, behind_step, begun_within, dispatched, program_begun, ◌or◌}
use Rattle.cool_simulation.proofs.ground.Passages.{passes, passes_exits, passes_then, passes_weaker, passes_wider, plain, unwatched}
use Rattle.cool_rules.specs.Rules.{class_named}

-- calls with so many steps come later
pub within_later : (p : List Class) (n : ℕ) → CallsLater (calls_within p n)
within_later p n call = record { later = λ s k. after_of (more_calls_within p n n 0 (omega arith) call) s k }

-- the value of a new object is the object
value_made : (v w : Value) (o : Outcome Value) (t : State) (left : ℕ) → outcome_with v o ≡ Val w t left → v ≡ w
unfolding outcome_with
value_made v w (Val u s k) t left e = cc
value_made v w (Stop x s) t left e = absurd (cc)
value_made v w (On s) t left e = absurd (cc)
value_made v w Stuck t left e = absurd (cc)

pub object_given : (p : List Class) (calls : Calls) (c : ClassId) (st : State) (n : ℕ) (v : Value) (t : State) (left : ℕ) → MayInherit c → (make p calls (Some c) st n).outcome ≡ Val v t left → made_object p c st ≡ v
object_given p calls c st n v t left plain e = by n (sym (ap (λ (d : Computation Value). (d st n).outcome) (make_plain p calls c plain)) ∙ e)
  where
    by : (k : ℕ) → (working 1 (holding (length (chain p c)) (spend (new_object p calls c))) st k).outcome ≡ Val v t left → made_object p c st ≡ v
    by zero e = absurd (cc)
    by (suc k) e = value_made (made_object p c st) v (made_call p calls c st k).outcome t left (sym (object_made p calls c st k).outcome_is ∙ e)

-- the meters of a run are those of its evaluation
pub run_meters : (p : List Class) (names : List (List ℕ)) (o : Outcome Value) (w g k : ℕ) → ((run_of p names o w g k).work ≡ 1 + w) × ((run_of p names o w g k).words ≡ g) × ((run_of p names o w g k).peak ≡ k)
run_meters p names (Val v t left) w g k = (refl, refl, refl)
run_meters p names (Stop e t) w g k = (refl, refl, refl)
run_meters p names (On t) w g k = (refl, refl, refl)
run_meters p names Stuck w g k = (refl, refl, refl)

before_text : (w : World) (output text input : List ℕ) → OnTheWay w (output ++ text) input → OnTheWay w output input
before_text w output text input way = record { written = (text ++ way.written.0, way.written.1 ∙ append_assoc output text way.written.0); taken = way.taken }

-- the output and input of a run are on the way, and so are those of its evaluation
pub run_way : (l : Loading) (o : Outcome Value) (w g k : ℕ) → OnTheWay l.world (run_of l.table l.files o w g k).output (run_of l.table l.files o w g k).left → Way l o
run_way l (Val v t left) w g k way = before_text l.world t.output done_text t.input way
run_way l (Stop e t) w g k way = way
run_way l (On t) w g k way = subst (λ (xs : List ℕ). OnTheWay l.world xs t.input) (append-nil t.output) way
run_way l Stuck w g k way = tt

module _ (l : Loading) (is : IsLoaded l) (n : ℕ) (correct : AllCallsCorrect l (calls_within l.table n) (begun_within l.table n) n) where
  abbrev p : List Class
  p = l.table

  abbrev calls : Calls
  calls = calls_within l.table n

  abbrev begun_in : Call → Visits
  begun_in = begun_within l.table n

  abbrev main : ClassId
  main = is.buildable.typed.lawful.main.class

  abbrev method : MethodRef
  method = User main (main_class p is.buildable.typed).index

  -- the call of main on a value
  abbrev pub after_new : Value → Computation Value
  after_new v = class_or (DispatchVoid nowhere) v >>= λ d. dispatch p calls nowhere d (codes "main") v []

  -- the state after main ended: at the lines of the end
  record Behind (pc : ℕ) (t : State) (s : Machine) : Type 0 where
    q : Pointers
    m : Bytes
    map : Map
    console : Console
    at : At l.world q m console s
    pc_is : q.pc ≡ pc
    shows : Shows t console
    pictures : Pictures l.table l.world l.memory m map t q.gp q.sp

  module _ (input : List ℕ) (q : Pointers) (map : Map) (console : Console) (s : Machine) (starts : Starts l input q map console s) where
    abbrev st : State
    st = start input

    abbrev m : Bytes
    m = l.memory

    pub making : Making l is [] q m map console st s
    making = record { at = starts.at; shows = starts.shows; pictures = starts.pictures; frame = (let e = starts.sp in omega arith); saved = (starts.fp_fits, starts.own_fits); fits = tt }

    start_lines : StartAt l.world q.pc
    start_lines = start_at l.world q.pc (subst (λ a. HasLines l.world a (routine_lines routines.Start)) (sym starts.pc) (is.routines routines.Start))

    -- the run from the start to the initializer, under the names of Start and under those of the class
    abbrev Creates : Name → Name → Type 0
    Creates proto init = Lies l.world q.gp (l.world.place proto) (4 * size_of l is main) → word m (l.world.place proto + 4) ≡ size_of l is main → q.gp + 4 * size_of l is main + 4 ≤ l.world.top → OnTheWay l.world console.output console.input
        → Reaches l.world s 1 (7 * size_of l is main + 20)
        (stands (At l.world (record q { pc = l.world.place init; gp = q.gp + 4 * size_of l is main + 4; acc = q.gp + 4; ra = q.pc + 16 }) (with_copy m q.gp (l.world.place proto) (size_of l is main)) console))

    pub creates : Creates (prototype p main) (initializer p main)
    creates =
        subst (λ (x : Name). Creates x (initializer p main)) (sym (main_prototype_is p is.buildable.typed))
        (subst (λ (x : Name). Creates main_prototype x) (sym (main_init_is p is.buildable.typed))
        (λ lies sized room way. start_creates l.world (size_of l is main) q m console s (limits_of l is) (is.routines routines.Copy) start_lines starts.at lies (omega arith) sized room way))

    start_low : q.pc + 4 < DATA_START
    start_low = start_lines.first.0.words.0.low

    pub ra_fits : q.pc + 16 < 4294967296
    ra_fits = let low = start_low in omega arith

    ra_fits' : q.pc + 20 < 4294967296
    ra_fits' = let low = start_low in omega arith

    pub made : Room l q 0 (make p calls (Some main) st n) → ((x : Visit) → visits.made p calls begun_in (Some main) st n x → Watched l.watch x) → Runs l s n (64 * (make p calls (Some main) st n).work) (Done l (record q { pc = q.pc + 16 }) m map st (make p calls (Some main) st n).words) (make p calls (Some main) st n).outcome
    made room watched =
        let within = is.buildable.typed.lawful.main.within in
        let proto = prototype_here l is m map st q.gp q.sp starts.at.numbers.gp_from starts.pictures main within in
        run_wider l (make p calls (Some main) st n).outcome s n (64 * (make p calls (Some main) st n).work - 4) (64 * (make p calls (Some main) st n).work) _ (omega arith)
        (makes l is calls begun_in n correct (within_later p n) main within (main_plain p is.buildable.typed) [] q m map console st s making (q.pc + 16) 20 n ra_fits (omega arith) (omega arith) (λ fits way. passes l s 1 (7 * size_of l is main + 20) _ (creates proto.lies proto.head.size_is fits way)) room watched)

    -- the effect of main on the new object

    abbrev pub object : Value
    object = made_object p main st

    abbrev ended : Value → State → Machine → Type 0
    ended v t u = Behind (q.pc + 20) t u

    module _ (t : State) (left : ℕ) (u : Machine) (d : Done l (record q { pc = q.pc + 16 }) m map st (make p calls (Some main) st n).words object t u)
        (fine : IsFine p [] n (λ w x. Fits p w x main) object t left) where
      abbrev pub q1 : Pointers
      q1 = record q { pc = l.world.place main_main; gp = d.gp; acc = d.acc; ra = q.pc + 20 }

      pub called : (u1 : Machine) → At l.world q1 d.memory d.console u1 → Called l main object [] fine.world q1 d.memory d.map' d.console t u1
      called u1 at = record {
        at = at;
        shows = d.shows;
        pictures = d.pictures;
        self_is = d.value;
        room = (let e = starts.sp in omega arith);
        saved = (ra_fits', starts.fp_fits, starts.own_fits);
        values = λ j x e. absurd (cc);
        unmarked = λ i low high. absurd (omega arith);
        class = refl;
        within = is.buildable.typed.lawful.main.within;
        plain = main_plain p is.buildable.typed;
        self_fits = fine.value;
        fits = fine.store;
      }

      pub no_formals : AllFit p fine.world [] (each (fitting.meant p main) (formals_of p method))
      no_formals =
          let none : formals_of p method ≡ [] = ap (formals_of p) (sym (main_class p is.buildable.typed).is) ∙ is.buildable.typed.lawful.main.formals in
          subst (λ (fs : List (List ℕ)). AllFit p fine.world [] (each (fitting.meant p main) fs)) (sym none) tt

      behind : (words : ℕ) (v : Value) (t' : State) (z : Machine) → Done l (record q1 { pc = q.pc + 20; sp = q.sp + 4 * 0 }) d.memory d.map' t words v t' z → Behind (q.pc + 20) t' z
      behind words v t' z h = record { q = record q1 { pc = q.pc + 20; sp = q.sp + 4 * 0; gp = h.gp; acc = h.acc; ra = h.ra }; m = h.memory; map = h.map'; console = h.console; at = h.at; pc_is = refl; shows = h.shows; pictures = h.pictures }

      abbrev G : Option MethodRef → ℕ → Metered Value
      G o k = spend (working (length {A = Value} []) (invoke p calls nowhere object [] o)) t k

      -- the machine goes to main
      pub jumps : Reaches l.world u 1 1 (stands (At l.world q1 d.memory d.console))
      jumps =
          let e : q.pc + 16 + 4 ≡ q.pc + 20 = omega arith in
          subst (λ ra. Reaches l.world u 1 1 (stands (At l.world (record q1 { ra = ra }) d.memory d.console))) e (calls_main l.world _ d.memory d.console u start_lines.third d.at)

      -- the visits of the call of main
      abbrev Begun : Option MethodRef → ℕ → Visit → Type 0
      Begun o k x = behind_step (visits.called p calls begun_in object [] o) t k x

      body_runs : (k : ℕ) → k < n → Rest l q 12 (make p calls (Some main) st n).words (join 0 0 0 (G (Some method) (suc k))) → (u1 : Machine) → At l.world q1 d.memory d.console u1
          → ((x : Visit) → Begun (Some method) (suc k) x → Watched l.watch x)
          → Runs l u1 k (64 * (calls (Body main (main_class p is.buildable.typed).index object []) t k).work + 17) ended (calls (Body main (main_class p is.buildable.typed).index object []) t k).outcome
      body_runs k less rest u1 at watched =
          let r = calls (Body main (main_class p is.buildable.typed).index object []) t k in
          let heap = rest.heap in
          let stack = rest.stack in
          let to = d.gp_to in
          run_as l r.outcome u1 k (64 * r.work + 17) _ ended (behind r.words)
          ((correct k less).body main (main_class p is.buildable.typed).index object main [] fine.world q1 d.memory d.map' d.console t u1 k (omega arith) (main_has p is.buildable.typed)
          (below_itself p is.buildable.typed.whole main is.buildable.typed.lawful.main.within) (called u1 at) (sym (ap l.world.place (main_main_is p is.buildable.typed))) no_formals
          (record { heap = omega arith; stack = omega arith; way = rest.way }) watched)

      main_runs : (k : ℕ) → k ≤ n → Rest l q 12 (make p calls (Some main) st n).words (join 0 0 0 (G (Some method) k)) → ((x : Visit) → Begun (Some method) k x → Watched l.watch x) → Runs l u k (64 * (join 0 0 0 (G (Some method) k)).work + 18) ended (join 0 0 0 (G (Some method) k)).outcome
      main_runs zero le rest watched = passes l u 0 18 _ (done l.world 18 u _ (record { output = d.at.output_is ∙ d.shows.output; input = d.at.input_is ∙ d.shows.input }))
      main_runs (suc k) le rest watched =
          let r = calls (Body main (main_class p is.buildable.typed).index object []) t k in
          run_behind l r.outcome u (suc k) k 1 (64 * r.work + 17) (64 * (0 + (0 + r.work)) + 18) (At l.world q1 d.memory d.console) ended (omega arith)
          (wider l.world u 1 (suc k - k) 1 1 _ (omega arith) (omega arith) jumps)
          (λ u1 at. body_runs k (omega arith) rest u1 at watched)

      after_runs : Rest l q 12 (make p calls (Some main) st n).words (after_new object t left) → ((x : Visit) → dispatched p calls begun_in main (codes "main") object [] t left x → Watched l.watch x) → Runs l u left (64 * (after_new object t left).work + 18) ended (after_new object t left).outcome
      after_runs =
          subst (λ (o : Option MethodRef). Rest l q 12 (make p calls (Some main) st n).words (join 0 0 0 (G o left)) → ((x : Visit) → Begun o left x → Watched l.watch x) → Runs l u left (64 * (join 0 0 0 (G o left)).work + 18) ended (join 0 0 0 (G o left)).outcome)
          (sym (main_found p is.buildable.typed)) (main_runs left fine.fewer)

    abbrev pub X : Option ClassId → Metered Value
    X o = (make p calls o >>= after_new) st n

    pub after_later : (v : Value) (t : State) (left : ℕ) → After t (after_new v t left).outcome
    after_later v t left =
        let later = within_later p n in
        (bind_later (class_later p calls later (DispatchVoid nowhere) v) (λ c. dispatch_later p calls later nowhere c (codes "main") v [])).later t left

    -- the visits of the run
    abbrev Begins : Option ClassId → Visit → Type 0
    Begins o x = (visits.made p calls begun_in o or visits.behind (make p calls o) (λ v. visits.behind (class_or (DispatchVoid nowhere) v) (λ c. dispatched p calls begun_in c (codes "main") v []))) st n x

    x_runs : Room l q 12 (X (Some main)) → ((x : Visit) → Begins (Some main) x → Watched l.watch x) → Runs l s n (64 * (X (Some main)).work + 18) ended (X (Some main)).outcome
    x_runs room watched =
        let typed = is.buildable.typed in
        bind_runs l (make p calls (Some main) st n) after_new s n 18 q 12 (λ v t u. Done l (record q { pc = q.pc + 16 }) m map st (make p calls (Some main) st n).words v t u) ended after_later room
        (λ own. made (room_less l q 12 0 (make p calls (Some main) st n) (omega arith) own) (λ x h. watched x (inl h)))
        (λ v t left u e k words rest.
        let sound = (make_sound p typed calls n (within_sound p typed n) [] main typed.lawful.main.within).sound st n (omega arith) tt in
        let fine : IsFine p [] n (λ w x. Fits p w x main) v t left = subst (NotStuck p [] n (λ w x. Fits p w x main)) e sound in
        let same : object ≡ v = object_given p calls main st n v t left (main_plain p typed) e in
        subst (λ (x : Value). Done l (record q { pc = q.pc + 16 }) m map st (make p calls (Some main) st n).words x t u → IsFine p [] n (λ w y. Fits p w y main) x t left
        → Rest l q 12 (make p calls (Some main) st n).words (after_new x t left)
        → ((y : Visit) → visits.behind (class_or (DispatchVoid nowhere) x) (λ c. dispatched p calls begun_in c (codes "main") x []) t left y → Watched l.watch y) → Runs l u left (64 * (after_new x t left).work + 18) ended (after_new x t left).outcome) same
        (λ d f r w. after_runs t left u d f r (λ y h. w y (main, t, left, refl, h))) k fine rest (λ y h. watched y (inr (v, t, left, e, h))))

    -- the end of the run
    ends : (o : Outcome Value) (w g k : ℕ) → Runs l s n (64 * w + 18) ended o
        → PassesTo l s n (64 * (1 + (1 + (0 + w)))) (run_of p l.files o (1 + (0 + w)) g k).output (run_of p l.files o (1 + (0 + w)) g k).left (run_of p l.files o (1 + (0 + w)) g k).end
    ends (Val v t left) w g k h =
        passes_wider l s (n - left + 0) 0 (64 * w + 18 + 6) (64 * (1 + (1 + (0 + w)))) _ (omega arith) (omega arith)
        (passes_then l s (n - left) (64 * w + 18) 0 6 (Behind (q.pc + 20) t) _ h (λ u b. passes l u 0 6 _
        (exits_as l.world u 0 6 0 _ _ (λ z e. record { wrote = e.output_is ∙ ap (λ (xs : List ℕ). xs ++ done_text) b.shows.output; leaves = e.input_is ∙ b.shows.input })
        (writes_end l.world b.q b.m b.console u done_text (subst (λ a. HasLines l.world a start_end_lines) (sym b.pc_is) start_lines.last) b.at
        (text_here l is b.m b.map t b.q.gp b.q.sp b.at.numbers.gp_from b.pictures (l.world.place end_text) done_text is.end_text)))))
    ends (Stop e t) w g k h =
        passes_wider l s 0 0 (64 * w + 18) (64 * (1 + (1 + (0 + w)))) _ (omega arith) (omega arith)
        (passes_exits l s 0 (64 * w + 18) 3 _ _ (λ z r. record { wrote = r.output; leaves = r.input }) h)
    ends (On t) w g k h =
        passes_wider l s n n (64 * w + 18) (64 * (1 + (1 + (0 + w)))) _ (omega arith) (omega arith)
        (passes_weaker l s n (64 * w + 18) _ _ (stands_as (Paused t) (Leaves (t.output ++ []) t.input) (λ z r. record { wrote = r.output ∙ sym (append-nil t.output); leaves = r.input })) h)
    ends Stuck w g k h = tt

    abbrev pub run_x : Option ClassId → Run
    run_x o = run_of p l.files (X o).outcome (1 + (0 + (X o).work)) (0 + (X o).words) (1 + max 0 (0 + (X o).peak))

    total : RunRoom l.world (run_x (Some main)) → ((x : Visit) → Begins (Some main) x → Watched l.watch x) → PassesTo l s n (64 * (run_x (Some main)).work) (run_x (Some main)).output (run_x (Some main)).left (run_x (Some main)).end
    total room watched =
        let x = X (Some main) in
        let meters = run_meters p l.files x.outcome (1 + (0 + x.work)) (0 + x.words) (1 + max 0 (0 + x.peak)) in
        let heap = room.heap in
        let stack = room.stack in
        let gp = starts.gp in
        let sp = starts.sp in
        let words = meters.1 in
        let peak = meters.2 in
        subst (λ (k : ℕ). PassesTo l s n (64 * k) (run_x (Some main)).output (run_x (Some main)).left (run_x (Some main)).end) (sym meters.0)
        (ends x.outcome x.work (0 + x.words) (1 + max 0 (0 + x.peak))
        (x_runs (record { heap = omega arith; stack = omega arith; way = run_way l x.outcome (1 + (0 + x.work)) (0 + x.words) (1 + max 0 (0 + x.peak)) room.way }) watched))

    pub run_is : run p l.files input n ≡ run_x (class_made p Void (codes "Main"))
    unfolding run
    run_is = refl

    pub comes : RunRoom l.world (run p l.files input n) → ((x : Visit) → program_begun p input n x → Watched l.watch x) → PassesTo l s n (64 * (run p l.files input n).work) (run p l.files input n).output (run p l.files input n).left (run p l.files input n).end
    comes room watched =
        let named : class_named p (codes "Main") ≡ Some main = main_made p is.buildable.typed in
        subst (λ (r : Run). RunRoom l.world r → PassesTo l s n (64 * r.work) r.output r.left r.end) (sym (run_is ∙ ap run_x (main_made p is.buildable.typed)))
        (λ room'. total room' (λ x h. watched x (subst (λ (o : Option ClassId). Begins o x) (sym named) h))) room

-- the whole run, where calls with fewer steps do what they mean
pub passes_main : (l : Loading) → IsLoaded l → ((n : ℕ) → AllCallsCorrect l (calls_within l.table n) (begun_within l.table n) n) → PassesMain l
passes_main l is correct input q map console s n starts room watched = comes l is n (correct n) input q map console s starts room watched

-- the case that nothing is watched
reaches_end : (l : Loading) (s : Machine) (n most : ℕ) (output left : List ℕ) (e : End) → l.watch ≡ None → PassesTo l s n most output left e → ComesTo l.world s n most output left e
reaches_end l s n most output left source_run.Done none h = plain l none s 0 most _ h
reaches_end l s n most output left (Failed e) none h = plain l none s 0 most _ h
reaches_end l s n most output left GoesOn none h = plain l none s n most _ h
reaches_end l s n most output left IsStuck none h = tt

pub runs_main : (l : Loading) → IsLoaded l → l.watch ≡ None → ((n : ℕ) → AllCallsCorrect l (calls_within l.table n) (begun_within l.table n) n) → RunsMain l
runs_main l is none correct input q map console s n starts room =
    reaches_end l s n _ _ _ (run l.table l.files input n).end none (passes_main l is correct input q map console s n starts room (λ x h. unwatched l none x))
