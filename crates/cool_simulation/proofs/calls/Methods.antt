-- The code of a method simulates a call of the method, if the code of its body simulates the evaluation of the body.
use Rattle.std.proofs.Common.{◌≡◌, ℕ, ◌+◌, ◌-◌, ◌*◌, ◌<◌, ◌≤◌, List, ◌++◌, map as each, length, Option, Some, ap, sym, ◌∙◌, refl, subst, arith, inl}
use Rattle.std.specs.Prelude.{pos, slice_get, Contains}
use Rattle.mips_isa.specs.Bytes.{Bytes}
use Rattle.mips_isa.specs.Calls.{State as Machine}
use Rattle.mips_isa.specs.Lines.{Line}
use Rattle.cool_syntax.specs.declared.file_tree.Feature.{Feature}
use Rattle.cool_syntax.specs.declared.file_tree.Feature.TheVariants.{Method}
use Rattle.cool_syntax.specs.declared.file_tree.Formal.{Formal}
use Rattle.cool_syntax.specs.declared.file_tree.MethodDef.{MethodDef}
use Rattle.cool_syntax.specs.FeatureSizes.{branches_in}
use Rattle.cool_syntax.specs.Tree.{Tree, tree_size}
use Rattle.cool_classes.specs.declared.class_id.ClassId.{ClassId}
use Rattle.cool_classes.specs.declared.method.MethodRef.TheVariants.{User}
use Rattle.cool_classes.specs.Chains.{Below, features_of}
use Rattle.cool_classes.specs.Features.{HasMethod, formals_of, formals_in}
use Rattle.cool_classes.specs.Features.{attributes_of}
use Rattle.cool_rules.specs.Typing.{FitsDeclared, formals_in_scope, attributes_in_scope}
use Rattle.cool_runtime.specs.Reaches.{Reaches, stands, OnTheWay}
use Rattle.cool_runtime.specs.Standing.{HasLines, sizes}
use Rattle.cool_runtime.specs.Machines.{At, Pointers, Console}
use Rattle.cool_runtime.specs.Premises.{Limits}
use Rattle.cool_runtime.specs.CodeOfCalls.{enter_lines}
use Rattle.cool_runtime.specs.declared.catalogue.Routine.TheVariants as routines
use Rattle.cool_runtime.proofs.Calling.{enters, leaves, with_frame}
use Rattle.cool_runtime.proofs.Pieces.{has_front, has_back, has_at, done, next, sizes_append}
use Rattle.cool_layout.specs.Labels.{method_label}
use Rattle.cool_codegen.specs.Code.{code}
use Rattle.cool_codegen.specs.Features.{method_code, with_formals, attributes_in}
use Rattle.cool_codegen.specs.Pieces.{mark_lines, leave_lines}
use Rattle.cool_meaning.specs.Values.{Value, State}
use Rattle.cool_meaning.specs.Meters.{Stuck, Metered, join, seq}
use Rattle.cool_meaning.specs.Lookups.{method_in, located, formal_names, environment_of}
use Rattle.cool_meaning.specs.Evaluation.{Call, Calls, Body, eval, run_method, run_call}
use Rattle.cool_meaning.specs.FittingValues.{AllFit, AreMade, meant}
use Rattle.cool_meaning.proofs.FittingValues.{still_fits, fit_length}
use Rattle.cool_meaning.specs.FittingValues as fitting
use Rattle.cool_meaning.proofs.MethodsOfTables.{defined}
use Rattle.cool_meaning.proofs.SoundComputations.{NotStuck, IsFine, locate_all_sound}
use Rattle.cool_meaning.proofs.Later.{After, after_on, later_same}
use Rattle.cool_simulation.specs.Loadings.{Loading, IsLoaded, constants, context, Watched, marks, whole}
use Rattle.cool_simulation.specs.Pictures.{Map, Shows}
use Rattle.cool_simulation.specs.Simulation.{Begins, Called, Done, Runs, Room, CodeAt, Correct}
use Rattle.cool_simulation.specs.Visits.{Visits, Visit, begun, call_begun, method_begun}
use Rattle.cool_simulation.proofs.ground.EvaluationLater.{CallsLater, eval_later}
use Rattle.cool_simulation.proofs.ground.PartsOfRuns.{run_after, run_on, unless_stuck, way_of}
use Rattle.cool_simulation.proofs.ground.LargerMaps.{numbers, numbers_long, number_at}
use Rattle.cool_simulation.proofs.forms.NewMeaning.{located_all}
use Rattle.cool_simulation.proofs.calls.FeaturesHere.{high_class, integers_here, strings_here, within_here, bounded_here}
use Rattle.cool_simulation.proofs.calls.BodyScenes.{body_begins}
use Rattle.cool_simulation.proofs.calls.Entries.{entry_of, located_in, entry_map, entered_pictures, entered_self, entered_argument, entered_frame, frame_unmarked, frame_stays, returned}
use Rattle.lists.proofs.AllItems.{all_get}
use Rattle.cool_simulation.proofs.forms.Invoking.{each_length}
use Rattle.cool_simulation.specs.Quiet.{IsQuietMethod}
use Rattle.cool_simulation.proofs.ground.Passages.{quiet, free_within}
use Rattle.cool_simulation.proofs.ground.NoMarks.{quiet_method}
use Rattle.cool_codegen.specs.Spans.{Span, method_spans, spans}

module _ (l : Loading) (loaded : IsLoaded l) (calls : Calls) (begun_in : Call → Visits) (b : ℕ) (later : CallsLater calls) (IsGood : Tree → Type 0) (forms : (t : Tree) → IsGood t → Correct l calls begun_in b t) where
  pub limits : Limits l.world
  limits = record { heap = loaded.routines routines.HeapLimit; stack = loaded.routines routines.StackLimit }

  pub way_here : (st : State) (c : Console) → Shows st c → OnTheWay l.world st.output st.input → OnTheWay l.world c.output c.input
  way_here st c shows way = subst (λ (o : List ℕ). OnTheWay l.world o c.input) (sym shows.output) (subst (λ (i : List ℕ). OnTheWay l.world st.output i) (sym shows.input) way)

  module _ (owner : ClassId) (i : ℕ) (def : MethodDef) (within : owner.0 < length l.table) (there : slice_get (features_of l.table owner) i ≡ Some (Method def)) (good : IsGood def.body) (k : ClassId) (self : Value) (vs : List Value)
      (made : fitting.World) (q : Pointers) (m : Bytes) (map : Map) (console : Console) (st : State) (s : Machine) (n : ℕ) (le : n ≤ b) (below : Below l.table k owner) (called : Called l k self vs made q m map console st s)
      (begins : q.pc ≡ l.world.place (method_label l.table (User owner i))) (args : AllFit l.table made vs (each (meant l.table k) (each (λ (f : Formal). f.declared.name) def.formals))) where
    abbrev pub comes : Metered Value
    comes = eval l.table calls self (located (formal_names def.formals) (numbers (length st.store) (length vs)) ++ environment_of l.table self) def.body (located_in st vs) n

    as_many : length def.formals ≡ length vs
    as_many = sym (fit_length l.table made vs _ args ∙ (each_length (meant l.table k) _ ∙ each_length (λ (f : Formal). f.declared.name) def.formals))

    bounded : length def.formals + tree_size def.body + branches_in def.body ≤ 8000
    bounded = bounded_here l.table l.files loaded.buildable owner i (Method def) within there

    pub fine : IsFine l.table made n (λ w xs. AreMade w xs (each (meant l.table k) (each (λ (f : Formal). f.declared.name) def.formals))) (numbers (length st.store) (length vs)) (located_in st vs) n
    fine =
        subst (λ (x : Metered (List ℕ)). NotStuck l.table made n (λ w xs. AreMade w xs (each (meant l.table k) (each (λ (f : Formal). f.declared.name) def.formals))) x.outcome) (located_all vs st n)
        ((locate_all_sound {b = n} vs (each (meant l.table k) (each (λ (f : Formal). f.declared.name) def.formals)) args).sound st n (omega arith) called.fits)

    pub typed : FitsDeclared l.table owner (formals_in_scope l.table def.formals) def.body def.result.name
    typed = loaded.buildable.typed.features owner i (Method def) within there

    lines : HasLines (whole l) q.pc (method_code (context l owner i) (constants l) def.formals def.body)
    lines = has_at (whole l) _ _ q.pc (sym begins) (loaded.methods owner i def (high_class l.table loaded.buildable.typed owner i (Method def) there) within there)

    -- its code has no mark but where its spans begin
    still : IsQuietMethod (marks l.watch) (context l owner i) (constants l) def.formals q.pc def.body
    still =
        subst (λ (a : ℕ). IsQuietMethod (marks l.watch) (context l owner i) (constants l) def.formals a def.body) (sym begins)
        (quiet_method l.watch owner i def (high_class l.table loaded.buildable.typed owner i (Method def) there) within there)

    abbrev rest_lines : List Line
    rest_lines = code (context l owner i) (constants l) (with_formals l.table def.formals (attributes_in l.table owner)) 0 0 def.body ++ leave_lines (pos (12 + 4 * length def.formals))

    pub entered_at : (s1 : Machine) → At l.world (entry_of q) (with_frame m q) console s1
        → Begins l owner k self (formals_in_scope l.table def.formals ++ attributes_in_scope l.table (attributes_of l.table typed.chain)) (with_formals l.table def.formals (attributes_in l.table owner))
        (located (formal_names def.formals) (numbers (length st.store) (length vs)) ++ environment_of l.table self) fine.world 0 (entry_of q) (with_frame m q) (entry_map map st vs q) console (located_in st vs) s1
    entered_at s1 at1 =
        let laid = l.world.laid in
        let numbers1 = called.at.numbers in
        let room = called.room in
        let many = as_many in
        let bound = bounded in
        let long = numbers_long (length st.store) (length vs) in
        body_begins l loaded owner k self def.formals within below called.within called.plain called.class (all_get _ (features_of l.table owner) i (Method def) (loaded.buildable.typed.lawful.formals owner within) there)
        (omega arith) typed.chain (numbers (length st.store) (length vs)) fine.world (entry_of q) (with_frame m q) (entry_map map st vs q) console (located_in st vs) s1 typed.is_chain
        (still_fits l.table made fine.world fine.grown self k called.self_fits) fine.store fine.value at1
        (record { input = called.shows.input; output = called.shows.output; ended = called.shows.ended; bytes = called.shows.bytes })
        (entered_pictures l k self vs made q m map console st s called) (entered_self l k self vs made q m map console st s called) refl (omega arith)
        (λ j less. let is = number_at (length st.store) (length vs) j (omega arith) in
        ap (entry_map map st vs q).home is ∙ (entered_argument l k self vs made q m map console st s called j (omega arith) ∙ ap (λ (x : ℕ). q.sp - 12 + 12 + 4 * (x - (j + 1))) (sym long)))

    after_enter : HasLines (whole l) (q.pc + 36) (code (context l owner i) (constants l) (with_formals l.table def.formals (attributes_in l.table owner)) 0 0 def.body ++ leave_lines (pos (12 + 4 * length def.formals)))
    unfolding mark_lines
    after_enter = has_back (whole l) enter_lines rest_lines q.pc (q.pc + 36) refl (has_back (whole l) (mark_lines (method_label l.table (User owner i))) (enter_lines ++ rest_lines) q.pc q.pc (omega arith) lines)

    pub enter_there : HasLines l.world q.pc enter_lines
    unfolding mark_lines
    enter_there =
        quiet l enter_lines q.pc (q.pc + 36) (omega arith) (free_within (marks l.watch) _ _ q.pc (q.pc + 36) (omega arith) (omega arith) still.enter)
        (has_front (whole l) enter_lines rest_lines q.pc (has_back (whole l) (mark_lines (method_label l.table (User owner i))) (enter_lines ++ rest_lines) q.pc q.pc (omega arith) lines))

    leave_there : HasLines l.world (q.pc + 36 + sizes (code (context l owner i) (constants l) (with_formals l.table def.formals (attributes_in l.table owner)) 0 0 def.body)) (leave_lines (pos (12 + 4 * length def.formals)))
    unfolding mark_lines
    leave_there =
        let body = code (context l owner i) (constants l) (with_formals l.table def.formals (attributes_in l.table owner)) 0 0 def.body in
        let all = sizes_append l.world enter_lines rest_lines in
        let rest = sizes_append l.world body (leave_lines (pos (12 + 4 * length def.formals))) in
        quiet l (leave_lines (pos (12 + 4 * length def.formals))) (q.pc + 36 + sizes body) (q.pc + 36 + sizes body + sizes (leave_lines (pos (12 + 4 * length def.formals)))) (omega arith) (free_within (marks l.watch) _ _ _ _ (omega arith) (omega arith) still.leave)
        (has_back (whole l) body (leave_lines (pos (12 + 4 * length def.formals))) (q.pc + 36) _ refl after_enter)

    -- its spans stand behind what enters
    among : (x : Span) → Contains (spans sizes (context l owner i) (constants l) (with_formals l.table def.formals (attributes_in l.table owner)) 0 0 (q.pc + 36) def.body) x
        → Contains (method_spans sizes (context l owner i) (constants l) def.formals q.pc def.body) x
    unfolding mark_lines
    among x h = let e : q.pc + 36 ≡ q.pc + 0 + 36 = omega arith in subst (λ (a : ℕ). Contains (spans sizes (context l owner i) (constants l) (with_formals l.table def.formals (attributes_in l.table owner)) 0 0 a def.body) x) e h

    pub body_at : CodeAt l owner i (with_formals l.table def.formals (attributes_in l.table owner)) 0 0 (q.pc + 36) def.body
    body_at =
        let bound = bounded in
        record {
          lines = has_front (whole l) _ (leave_lines (pos (12 + 4 * length def.formals))) (q.pc + 36) after_enter;
          integers = λ x h. integers_here l.table l.files loaded.buildable owner i (Method def) within there x h;
          strings = λ x h. strings_here l.table l.files loaded.buildable owner i (Method def) within there x h;
          within = (within_here l.table l.files loaded.buildable owner i (Method def) within there).4;
          small = omega arith;
          spans = λ x h. record {
            there = inl (def, there, subst (λ (a : ℕ). Contains (method_spans sizes (context l owner i) (constants l) def.formals a def.body) x) begins (among x h));
            quiet = still.spans x (among x h);
          };
        }

    pub body_room : Room l q 12 (join 0 0 0 comes) → Room l (entry_of q) 0 comes
    body_room room = let heap = room.heap in let stack = room.stack in record { heap = omega arith; stack = omega arith; way = room.way }

    -- the return
    leaving : (v : Value) (t : State) (u : Machine)
        → Done l (record (entry_of q) { pc = q.pc + 36 + sizes (code (context l owner i) (constants l) (with_formals l.table def.formals (attributes_in l.table owner)) 0 0 def.body) }) (with_frame m q) (entry_map map st vs q) (located_in st vs) comes.words v t u
        → Reaches l.world u 0 5 (stands (Done l (record q { pc = q.ra; sp = q.sp + 4 * length vs }) m map st (0 + comes.words) v t))
    unfolding leave_lines
    leaving v t u d =
        let laid = l.world.laid in
        let numbers1 = called.at.numbers in
        let limit = d.at.numbers in
        let room = called.room in
        let many = as_many in
        let frame = frame_stays l.world (with_frame m q) d.memory (entry_map map st vs q).marked q.gp (q.sp - 12) q.ra q.fp q.self d.kept (omega arith) (frame_unmarked l k self vs made q m map console st s called)
        (entered_frame l k self vs made q m map console st s called) in
        next l.world u 5 0 5 _ _ (leaves l.world (length def.formals) _ d.memory d.console u q.ra q.fp q.self leave_there d.at frame (omega arith) (omega arith) (omega arith)) (omega arith)
        (λ u' at'. done l.world 0 u' _ (returned l k self vs made q m map console st s called (0 + comes.words) _ v t u u'
        (record { gp = d.gp; acc = d.acc; ra = d.ra; memory = d.memory; map' = d.map'; console = d.console; at = d.at; shows = d.shows; pictures = d.pictures; value = d.value; kept = d.kept; grown = d.grown; drawn = d.drawn; located = d.located; gp_from = d.gp_from; gp_to = let to = d.gp_to in omega arith })
        (record { numbers = let last = at'.numbers in omega arith; memory_is = at'.memory_is; input_is = at'.input_is; ended_is = at'.ended_is; output_is = at'.output_is })))

    -- the visits of its body
    abbrev pub Begun : Visit → Type 0
    Begun = begun l.table calls begun_in owner i self (located (formal_names def.formals) (numbers (length st.store) (length vs)) ++ environment_of l.table self) 0 def.body (located_in st vs) n

    body_runs : Room l q 12 (join 0 0 0 comes) → ((x : Visit) → Begun x → Watched l.watch x) → Runs l s n (64 * (0 + comes.work) + 17) (Done l (record q { pc = q.ra; sp = q.sp + 4 * length vs }) m map st (0 + comes.words)) comes.outcome
    body_runs room watched =
        let laid = l.world.laid in
        let numbers1 = called.at.numbers in
        let stack = room.stack in
        unless_stuck l comes.outcome s n (64 * (0 + comes.work) + 17) _ (λ some.
        run_after l comes.outcome s n 12 (64 * comes.work - 4 + 5) (64 * (0 + comes.work) + 17) _ _ (omega arith)
        (enters l.world q m console s limits enter_there called.at (omega arith)
        (way_here st console called.shows (way_of l st comes.outcome (later_of some) some room.way)))
        (λ s1 at1. run_on l comes.outcome s1 n (64 * comes.work - 4) 5 (64 * comes.work - 4 + 5) _ _ (omega arith)
        ((forms def.body good).runs owner i k self (formals_in_scope l.table def.formals ++ attributes_in_scope l.table (attributes_of l.table typed.chain)) (with_formals l.table def.formals (attributes_in l.table owner))
        (located (formal_names def.formals) (numbers (length st.store) (length vs)) ++ environment_of l.table self) fine.world 0 0 (entry_of q) (with_frame m q) (entry_map map st vs q) console (located_in st vs) s1 n typed.type le
        (entered_at s1 at1) typed.has body_at (body_room room) watched) leaving))
      where
        later_of : (comes.outcome ≡ Stuck → ⊥) → After st comes.outcome
        later_of some = after_on st (located_in st vs) comes.outcome (later_same st (located_in st vs) refl refl)
            ((eval_later l.table calls later self (located (formal_names def.formals) (numbers (length st.store) (length vs)) ++ environment_of l.table self) def.body).later (located_in st vs) n)

    -- the outcome of the call
    pub called_is : run_method l.table calls self vs (Some def) st n ≡ join 0 0 0 comes
    called_is =
        ap (λ (x : Metered (List ℕ)). seq x (λ xs. eval l.table calls self (located (formal_names def.formals) xs ++ environment_of l.table self) def.body)) (located_all vs st n)

    -- the visits of the call
    begun_is : (x : Visit) → Begun x → method_begun l.table calls begun_in owner i self vs (Some def) st n x
    begun_is x h = (numbers (length st.store) (length vs), located_in st vs, n, ap (λ (y : Metered (List ℕ)). y.outcome) (located_all vs st n), h)

    pub method_runs : Room l q 12 (run_method l.table calls self vs (Some def) st n) → ((x : Visit) → method_begun l.table calls begun_in owner i self vs (Some def) st n x → Watched l.watch x)
        → Runs l s n (64 * (run_method l.table calls self vs (Some def) st n).work + 17) (Done l (record q { pc = q.ra; sp = q.sp + 4 * length vs }) m map st (run_method l.table calls self vs (Some def) st n).words)
        (run_method l.table calls self vs (Some def) st n).outcome
    method_runs room watched =
        subst (λ (x : Metered Value). Runs l s n (64 * x.work + 17) (Done l (record q { pc = q.ra; sp = q.sp + 4 * length vs }) m map st x.words) x.outcome) (sym called_is)
        (body_runs (subst (λ (x : Metered Value). Room l q 12 x) called_is room) (λ x h. watched x (begun_is x h)))

  -- a call of a method
  pub body_correct : ((c : ClassId) (j : ℕ) (def : MethodDef) → c.0 < length l.table → slice_get (features_of l.table c) j ≡ Some (Method def) → IsGood def.body)
      → (owner : ClassId) (i : ℕ) (self : Value) (k : ClassId) (vs : List Value) (made : fitting.World) (q : Pointers) (m : Bytes) (map : Map) (console : Console) (st : State) (s : Machine) (n : ℕ) → n ≤ b
      → HasMethod l.table (User owner i) → Below l.table k owner → Called l k self vs made q m map console st s → q.pc ≡ l.world.place (method_label l.table (User owner i))
      → AllFit l.table made vs (each (meant l.table k) (formals_of l.table (User owner i))) → Room l q 12 (run_call l.table calls (Body owner i self vs) st n)
      → ((x : Visit) → call_begun l.table calls begun_in (Body owner i self vs) st n x → Watched l.watch x)
      → Runs l s n (64 * (run_call l.table calls (Body owner i self vs) st n).work + 17)
      (Done l (record q { pc = q.ra; sp = q.sp + 4 * length vs }) m map st (run_call l.table calls (Body owner i self vs) st n).words) (run_call l.table calls (Body owner i self vs) st n).outcome
  body_correct good owner i self k vs made q m map console st s n le has below called begins args room watched =
      let (def, there) = defined (slice_get (features_of l.table owner) i) has.1 in
      subst (λ (o : Option Feature). Room l q 12 (run_method l.table calls self vs (method_in o) st n) → ((x : Visit) → method_begun l.table calls begun_in owner i self vs (method_in o) st n x → Watched l.watch x) → Runs l s n (64 * (run_method l.table calls self vs (method_in o) st n).work + 17)
      (Done l (record q { pc = q.ra; sp = q.sp + 4 * length vs }) m map st (run_method l.table calls self vs (method_in o) st n).words) (run_method l.table calls self vs (method_in o) st n).outcome) (sym there)
      (method_runs owner i def has.0 there (good owner i def has.0 there) k self vs made q m map console st s n le below called begins
      (subst (λ (o : Option Feature). AllFit l.table made vs (each (meant l.table k) (formals_in o))) there args)) room watched
