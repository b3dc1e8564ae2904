-- In the code of dispatch and static dispatch, the machine reaches the arguments, then the receiver, and then the method that is called, each in the correct
-- state (`Shown`).
use Rattle.std.proofs.Common.{◌≡◌, ℕ, ◌+◌, ◌-◌, ◌*◌, ◌<◌, ◌≤◌, List, ◌++◌, ◌⊎◌, length, map as each, Option, Some, refl, ap, ◌∙◌, subst, arith, None}
use Rattle.std.specs.Prelude.{Contains, pos, unwrap_or}
use Rattle.std.proofs.lemmas.List.Elements.{Contains-append_left, Contains-append_right}
use Rattle.mips_isa.specs.Bytes.{Bytes}
use Rattle.mips_isa.specs.Calls.{State as Machine}
use Rattle.mips_isa.specs.Lines.{Line}
use Rattle.cool_syntax.specs.declared.place.Place.{Place}
use Rattle.cool_syntax.specs.declared.type_ref.TypeRef.{TypeRef}
use Rattle.cool_syntax.specs.Tree.{Tree, Trees, tree_size}
use Rattle.cool_syntax.specs.Tree as trees
use Rattle.cool_classes.specs.declared.class_id.ClassId.{ClassId}
use Rattle.cool_classes.specs.declared.class_id.Ty.{Ty}
use Rattle.cool_classes.specs.Chains.{Below}
use Rattle.cool_classes.specs.ClimbedChains.{chain}
use Rattle.cool_classes.specs.Features.{implementation}
use Rattle.cool_rules.specs.Conformance.{class_of as class_meant}
use Rattle.cool_rules.specs.Rules.{class_named}
use Rattle.cool_rules.specs.Scopes.{Binding}
use Rattle.cool_rules.specs.StaticTypes.{type_of}
use Rattle.cool_rules.specs.Typing.{HasType, HaveTypes}
use Rattle.cool_classes.specs.declared.class_id.Ty.TheVariants.{Class as IsClass}
use Rattle.cool_rules.specs.Meant.{method_in}
use Rattle.cool_rules.proofs.ChainsOfTables.{below_itself, below_trans}
use Rattle.cool_rules.proofs.NamesOfTables.{class_by_name}
use Rattle.cool_rules.proofs.StaticTypesAreGiven.{type_is_in, class_is, class_there, method_found, method_is as method_named}
use Rattle.cool_rules.proofs.TypesOfMethods.{expression_type}
use Rattle.cool_runtime.specs.Standing.{HasLines, sizes}
use Rattle.cool_runtime.specs.CodeOfCalls.{dispatch_lines}
use Rattle.cool_runtime.specs.Machines.{Pointers, Console}
use Rattle.cool_runtime.proofs.Pieces.{has_back}
use Rattle.cool_layout.specs.Labels.{method_label}
use Rattle.cool_codegen.specs.Variables.{Named, scope_of}
use Rattle.cool_codegen.specs.Pieces.{call_lines, call_static_lines}
use Rattle.cool_codegen.specs.Types.{trees_count}
use Rattle.cool_codegen.specs.Types as types
use Rattle.cool_codegen.specs.Code.{code, arguments_code, slot_code}
use Rattle.cool_codegen.specs.Spans.{Span, arguments_spans, span, spans}
use Rattle.cool_meaning.specs.Values.{Value, State, Environment, class_of}
use Rattle.cool_meaning.specs.Meters.{Computation, DispatchVoid, given, holding, seq, ◌>>=◌}
use Rattle.cool_meaning.specs.Evaluation.{Call, Calls, class_or, dispatch, eval, eval_all}
use Rattle.cool_meaning.specs.FittingValues.{AllFit, Scene}
use Rattle.cool_meaning.proofs.FittingValues.{below_conforming, class_fits, fit_length, still_all_fit}
use Rattle.cool_meaning.specs.FittingValues as fitting
use Rattle.cool_meaning.proofs.SoundParts.{AllCallsSound}
use Rattle.cool_meaning.proofs.SoundEvaluation.{all_sound, scene_later}
use Rattle.cool_simulation.specs.Loadings.{Loading, IsLoaded, constants, context}
use Rattle.cool_simulation.specs.Pictures.{Map}
use Rattle.cool_simulation.specs.Simulation.{AllCallsCorrect, AllCorrect, AllDone, Begins, CodeAt, AllCodeAt, Correct, Done, Runs, IsSpan, Shown}
use Rattle.cool_simulation.specs.Shown.{AllCallsShown, AllShown, Comes}
use Rattle.cool_simulation.specs.Visits.{Visit, Visits, all_begun, behind, begun, dispatched}
use Rattle.cool_simulation.proofs.forms.Blocks.{EachCorrect}
use Rattle.cool_simulation.proofs.forms.BasicCalls.{basic_correct}
use Rattle.cool_simulation.proofs.forms.CallForms.{behind_later, called as calls_of, file_of, have_length}
use Rattle.cool_simulation.proofs.forms.Dispatches.{arguments_code_at, arguments_here, as_dispatch, goes_dynamic, receiver_below}
use Rattle.cool_simulation.proofs.forms.Invoking.{each_length}
use Rattle.cool_simulation.proofs.forms.NamesCovered.{covers}
use Rattle.cool_simulation.proofs.forms.Received.{Received, receives}
use Rattle.cool_simulation.proofs.forms.Slots.{slot_there}
use Rattle.cool_simulation.proofs.forms.StaticDispatches as static
use Rattle.cool_simulation.proofs.ground.CallsLater.{class_later, dispatch_later}
use Rattle.cool_simulation.proofs.ground.EvaluationLater.{CallsLater, ComesLater, bind_later, given_later}
use Rattle.cool_simulation.proofs.ground.PartsBehind.{pic_fits}
use Rattle.cool_simulation.proofs.ground.ScenesLater.{begins_later, fine_value, types_in_scope}
use Rattle.cool_simulation.proofs.shown.Arguments.{arguments_shown}
use Rattle.cool_simulation.proofs.shown.Blocks.{EachShown}
use Rattle.cool_simulation.proofs.shown.CallsBegun.{class_behind, dispatched_shown}
use Rattle.cool_simulation.proofs.shown.Comings.{Ample, ample_as, ample_first, ample_held, ample_ruled, ample_then, cases, comes_after, on_value, room_first, value_behind}
use Rattle.cool_simulation.proofs.shown.PartsShown.{ample_of, comes_behind_part, own_shown, part_code, part_shown}
use Rattle.cool_simulation.proofs.ground.CodeOfParts.{in_rest}
use Rattle.cool_simulation.proofs.ground.Passages.{plain_lines, unwatched}

module _ (l : Loading) (loaded : IsLoaded l) (none : l.watch ≡ None) (calls : Calls) (begun_in : Call → Visits) (b : ℕ) (sound : AllCallsSound l.table calls b) (later : CallsLater calls) where
  -- `Shown` for the call, from the state after the receiver's code
  abbrev CallShown : ClassId → ClassId → Value → List Binding → Environment → Pointers → ℕ → Ty → List Ty → (List Value → Value → ClassId → Computation Value) → (List Value → Value → ClassId → Visits) → Type 0
  CallShown c k self scope env q pc2 receiver given' G V =
      (args : List Value) (v : Value) (j : ClassId) (made : fitting.World) (gp acc ra : ℕ) (m : Bytes) (map : Map) (console : Console) (st : State) (s : Machine) (n : ℕ) (x : Visit)
      → class_of v ≡ Some j → j.0 < length l.table → Below l.table j (class_meant k receiver) → AllFit l.table made args (each (class_meant k) given') → n ≤ b → Scene l.table made c k self scope env
      → Received l j v args made (record q { pc = pc2; gp = gp; sp = q.sp - 4 * length args; acc = acc; ra = ra }) m map console st s
      → Ample l (record q { pc = pc2; gp = gp; sp = q.sp - 4 * length args; acc = acc; ra = ra }) 16 (G args v j st n) → V args v j st n x → Comes l.world s (Shown l x)

  call_shown : (whole : Tree) (at : Place) (t : Tree) (ts : Trees) (G : List Value → Value → ClassId → Computation Value) (V : List Value → Value → ClassId → Visits) → ((args : List Value) (v : Value) (c : ClassId) → ComesLater (G args v c))
      → Correct l calls begun_in b t → AllCorrect l calls begun_in b ts → EachCorrect l calls begun_in b ts → AllShown l calls begun_in b t → EachShown l calls begun_in b ts → (c : ClassId) (f : ℕ) (k : ClassId) (self : Value) (scope : List Binding)
      (vs : List Named) (env : Environment) (made : fitting.World) (d first : ℕ) (q : Pointers) (m : Bytes) (map : Map) (console : Console) (st : State) (s : Machine) (n : ℕ) (receiver : Ty) (given' : List Ty) (pc1 pc2 : ℕ)
      (x : Visit) → n ≤ b → Begins l c k self scope vs env made d q m map console st s → HasType l.table c scope t receiver → HaveTypes l.table c scope ts given' → CodeAt l c f vs d first q.pc whole
      → AllCodeAt l c f vs d (first + tree_size t) q.pc ts → q.pc + sizes (arguments_code (context l c f) (constants l) vs d (first + tree_size t) ts) ≡ pc1
      → pc1 + sizes (code (context l c f) (constants l) vs (d + trees_count ts) first t) ≡ pc2
      → ((y : Span) → Contains (spans sizes (context l c f) (constants l) vs d first q.pc whole) y → IsSpan l c f y)
      → ((y : Span)
      → Contains (arguments_spans sizes (context l c f) (constants l) vs d (first + tree_size t) q.pc ts ++ spans sizes (context l c f) (constants l) vs (d + trees_count ts) first pc1 t) y
      → Contains (spans sizes (context l c f) (constants l) vs d first q.pc whole) y)
      → CallShown c k self scope env q pc2 receiver given' G V → Ample l q 0 (calls_of l loaded calls begun_in b later sound at self env t ts G st n)
      → all_begun l.table calls begun_in c f self env (first + tree_size t) ts st n x
      ⊎ behind (eval_all l.table calls self env ts)
      (λ args. λ st n x. begun l.table calls begun_in c f self env first t st n x ⊎ behind (eval l.table calls self env t) (λ v. behind (class_or (DispatchVoid at) v) (λ j. V args v j)) st n x) st n x
      → Comes l.world s (Shown l x)
  call_shown whole at t ts G V growing head tail each_head shown each_shown c f k self scope vs env made d first q m map console st s n receiver given' pc1 pc2 x le begins has have code_at all_code pc1_is pc2_is among inside call ample visit =
      let p = l.table in
      let typed = loaded.buildable.typed in
      let A = eval_all p calls self env ts st n in
      let H : List Value → Value → Computation Value = λ args v. class_or (DispatchVoid at) v >>= G args v in
      let F : List Value → Computation Value = λ args. holding (length args) (eval p calls self env t >>= H args) in
      let xs = arguments_spans sizes (context l c f) (constants l) vs d (first + tree_size t) q.pc ts in
      let xt = spans sizes (context l c f) (constants l) vs (d + trees_count ts) first pc1 t in
      let ample1 : Ample l q 16 (seq A F) = ample_ruled l q 0 (seq A F) ample in
      let F_later : (args : List Value) → ComesLater (F args) = behind_later l loaded calls begun_in b later sound at self env t G growing in
      let fine = (all_sound p typed calls b sound c k self ts made scope env given' begins.scene have).sound st n le begins.fits in
      let in_t : (y : Span) → Contains xt y → Contains (spans sizes (context l c f) (constants l) vs d first q.pc whole) y = λ y i. inside y (Contains-append_right xs xt y i) in
      cases visit
      (λ h. arguments_shown l loaded none calls begun_in b sound later c f k self scope vs env d first q.pc whole code_at among ts each_head each_shown made d (first + tree_size t) q m map console st s n given' x le begins have (plain_lines l none q.pc _ all_code.lines)
      (ample_first l A F q 16 (λ args u left. (F_later args).later u left) ample1) (λ y i. inside y (Contains-append_left xs xt y i)) h)
      (λ (args, st1, left, e, h).
      comes_after l none A.outcome s n (64 * A.work + 3) (λ args u. AllDone l (record q { pc = pc1 }) m map st A.words args u) args st1 left (Shown l x) e
      (subst (λ y. Runs l s n (64 * A.work + 3) (λ args u. AllDone l (record q { pc = y }) m map st A.words args u) A.outcome) pc1_is
      (tail.runs c f k self scope vs env made d (first + tree_size t) q m map console st s n given' le begins have all_code (room_first l A F q 16 (λ args u left. (F_later args).later u left) ample1) (λ y h. unwatched l none y)))
      (λ m1 d1.
      let good = fine_value p made n _ A.outcome args st1 left e fine in
      let o = eval p calls self env t st1 left in
      let count : length args ≡ trees_count ts = fit_length p good.world args (each (class_meant k) given') good.value ∙ each_length (class_meant k) given' ∙ have_length p c scope ts given' have in
      let fewer = good.fewer in
      let roomy = d1.room in
      let depth = begins.depth in
      let used1 = d1.gp_to in
      let scene1 = scene_later p made good.world c k self scope env good.grown begins.scene in
      let q0 : Pointers = record q { gp = d1.gp } in
      let q1 : Pointers = record q { pc = pc1; gp = d1.gp; sp = q.sp - 4 * length args; acc = d1.acc; ra = d1.ra } in
      let begins2 = begins_later l c k self scope vs env made good.world d (d + trees_count ts) q m d1.memory map d1.map' console d1.console st st1 s m1 pc1 d1.gp (q.sp - 4 * length args) d1.acc d1.ra
      begins d1.at d1.shows d1.pictures d1.kept d1.grown d1.gp_from d1.drawn (omega arith) good.grown good.store in
      let rest0 : Ample l q0 16 (F args st1 left) = ample_then l A F q q0 16 16 args st1 left e ample1 used1 (omega arith) in
      let rest1 : Ample l q1 16 (seq o (H args)) = ample_held l q0 q1 16 (length args) 16 (seq o (H args)) (omega arith) (omega arith) rest0 in
      let H_later : (v : Value) → ComesLater (H args v) = λ v. bind_later (class_later p calls later (DispatchVoid at) v) (λ j. growing args v j) in
      let room1 = room_first l o (H args) q1 16 (λ v u left2. (H_later v).later u left2) rest1 in
      cases h
      (λ i. part_shown l calls begun_in b c f vs d first q.pc whole code_at among t shown k self scope vs env good.world (d + trees_count ts) first q1 d1.memory d1.map' d1.console st1 m1 left receiver x in_t (omega arith) begins2 has room1 i)
      (λ (v, st2, left2, e2, i).
      comes_behind_part l loaded none calls begun_in b sound c f k self scope vs env good.world (d + trees_count ts) first q1 d1.memory d1.map' d1.console st1 m1 left (omega arith) begins2 t receiver (Shown l x) v st2 left2 head has
      (part_code l calls begun_in b c f vs d first q.pc whole code_at among vs (d + trees_count ts) first pc1 t in_t) room1 e2
      (λ m2 d2' next2.
      let d2 = subst (λ y. Done l (record q1 { pc = y }) d1.memory d1.map' st1 o.words v st2 m2) pc2_is d2' in
      let fewer2 = next2.fewer in
      let used2 = d2.gp_to in
      let q2 : Pointers = record q { pc = pc2; gp = d2.gp; sp = q.sp - 4 * length args; acc = d2.acc; ra = d2.ra } in
      let rest2 : Ample l q2 16 (H args v st2 left2) = ample_then l o (H args) q1 q2 16 16 v st2 left2 e2 rest1 used2 (omega arith) in
      let (j, is, w, rest3) = class_behind l (DispatchVoid at) v (λ j. V args v j) (G args v) q2 16 st2 left2 x i rest2 in
      let (below, j_within, fit) = class_fits p typed next2.made' v (class_meant k receiver) j next2.value_fits is in
      let frame = begins.frame in
      let numbers = begins.at.numbers in
      let received = receives l j v args next2.made' q m map st st1 st2 pc1 pc2 A.words o.words m1 m2 d1 d2 (omega arith)
      (omega arith, pic_fits l.world p l.memory m map st q.gp q.sp self q.self (omega arith) begins.pictures begins.self_is) is j_within fit next2.begins.fits in
      call args v j next2.made' d2.gp d2.acc d2.ra d2.memory d2.map' d2.console st2 m2 left2 x is j_within below (still_all_fit p good.world next2.made' next2.later args (each (class_meant k) given') good.value) (omega arith)
      (scene_later p good.world next2.made' c k self scope env next2.later scene1) received rest3 w))))

  module _ (shown_calls : AllCallsShown l calls begun_in b) where
    pub dispatch_shown : (at : Place) (t : Tree) (name : List ℕ) (ts : Trees) → Correct l calls begun_in b t → AllCorrect l calls begun_in b ts → EachCorrect l calls begun_in b ts → AllShown l calls begun_in b t → EachShown l calls begun_in b ts
        → AllCallsCorrect l calls begun_in b → AllShown l calls begun_in b (trees.Dispatch at t name ts)
    dispatch_shown at t name ts head tail each_head shown each_shown correct = record {
      shown = λ c f k self scope vs env made d first q m map console st s n type x le begins (receiver, given', has, have, call) code_at room among visit.
          let p = l.table in
          let typed = loaded.buildable.typed in
          let scene = begins.scene in
          let whole = trees.Dispatch at t name ts in
          let la = arguments_code (context l c f) (constants l) vs d (first + tree_size t) ts in
          let lb = code (context l c f) (constants l) vs (d + trees_count ts) first t in
          let pc1 = q.pc + sizes la in
          let pc2 = pc1 + sizes lb in
          let pc3 = pc2 + 36 in
          let line_small : at.line < 2147483648 = (let z = code_at.within.0.1 in omega arith) in
          let K' = class_meant c (type_of p c (scope_of vs) t) in
          let K = class_meant c receiver in
          let K_is : K' ≡ K = ap (class_meant c) (type_is_in p typed.whole c scene.c_within t scope (scope_of vs) receiver (types_in_scope p typed made k st.store begins.fits scope env scene.holds) (covers scope vs begins.variables.typed) has) in
          let lc : List Line = slot_code (context l c f) (constants l) at K' name in
          let has_lines : HasLines l.world pc2 lc = has_back l.world lb lc pc1 pc2 refl (has_back l.world la (lb ++ lc) q.pc pc1 refl (plain_lines l none q.pc _ code_at.lines)) in
          let K_within = class_there p typed.whole c scene.c_within receiver (expression_type p typed.whole c scene.c_within t scope receiver (types_in_scope p typed made k st.store begins.fits scope env scene.holds) has) in
          let (kk, slot_is) = slot_there p typed.whole K name call.method (method_found p typed.whole c scene.c_within K K_within name call.method call.found) in
          let file = file_of l loaded at in
          let lines : HasLines l.world pc2 (dispatch_lines file at.line kk) =
          as_dispatch l loaded (basic_correct l loaded) calls begun_in b later sound correct pc2 file at.line kk
          (subst (λ (o : Option ℕ). HasLines l.world pc2 (call_lines file at.line (pos (4 * unwrap_or o 0)))) slot_is (subst (λ (y : ClassId). HasLines l.world pc2 (slot_code (context l c f) (constants l) at y name)) K_is has_lines)) in
          let own = span vs d first q.pc whole in
          let xs = arguments_spans sizes (context l c f) (constants l) vs d (first + tree_size t) q.pc ts ++ spans sizes (context l c f) (constants l) vs (d + trees_count ts) first pc1 t in
          cases visit
          (λ e. own_shown l loaded none calls begun_in b sound c f k self scope vs env made d first q m map console st s n le begins whole x (among own (0, omega arith, refl)) e)
          (λ h. call_shown whole at t ts (λ args v j. dispatch p calls at j name v args) (λ args v j. dispatched p calls begun_in j name v args) (λ args v j. dispatch_later p calls later at j name v args) head tail each_head shown each_shown
          c f k self scope vs env made d first q m map console st s n receiver given' pc1 pc2 x le begins has have code_at (arguments_code_at l loaded (basic_correct l loaded) calls begun_in b later sound correct at c f vs d first q.pc name t ts code_at)
          refl refl among (λ y i. in_rest own xs y i)
          (λ args v j made gp acc ra m map console st s n x is within below fits le scene received ample w.
          let (x_within, below_x) = receiver_below l loaded (basic_correct l loaded) calls begun_in b later sound correct c k self scope env made scene receiver j within below in
          let q2 : Pointers = record q { pc = pc2; gp = gp; sp = q.sp - 4 * length args; acc = acc; ra = ra } in
          dispatched_shown l loaded calls begun_in b shown_calls at v j j args made q2 m map console st s n pc3 name file (implementation p (chain p j) name) x refl le (let low = lines.0.words.0.low in omega arith) within (below_itself p typed.whole j within)
          (λ method found. arguments_here l loaded (basic_correct l loaded) calls begun_in b later sound correct c k j K made args given' name receiver type scene.k_within scene.below within below_x x_within fits call method found) received
          (λ method found. goes_dynamic l loaded (basic_correct l loaded) calls begun_in b later sound correct at name c k self scope env q pc2 pc3 kk receiver line_small lines refl slot_is args v j made gp acc ra m map console st s is within below scene received method found)
          ample w)
          (ample_of l loaded none calls begun_in b sound c f k self scope vs env made d first q m map console st s n le begins whole type (receiver, given', has, have, call) room) h);
    }

    pub static_dispatch_shown : (at : Place) (t : Tree) (class : TypeRef) (name : List ℕ) (ts : Trees) → Correct l calls begun_in b t → AllCorrect l calls begun_in b ts → EachCorrect l calls begun_in b ts → AllShown l calls begun_in b t
        → EachShown l calls begun_in b ts → AllCallsCorrect l calls begun_in b → AllShown l calls begun_in b (trees.StaticDispatch at t class name ts)
    static_dispatch_shown at t class name ts head tail each_head shown each_shown correct = record {
      shown = λ c f k self scope vs env made d first q m map console st s n type x le begins (receiver, given', K, has, have, denotes, conforms, call) code_at room among visit.
          let p = l.table in
          let typed = loaded.buildable.typed in
          let scene = begins.scene in
          let whole = trees.StaticDispatch at t class name ts in
          let la = arguments_code (context l c f) (constants l) vs d (first + tree_size t) ts in
          let lb = code (context l c f) (constants l) vs (d + trees_count ts) first t in
          let pc1 = q.pc + sizes la in
          let pc2 = pc1 + sizes lb in
          let pc3 = pc2 + 28 in
          let line_small : at.line < 2147483648 = (let z = code_at.within.0.1 in omega arith) in
          let K' = types.class_meant p c class.name in
          let K_is : K' ≡ K = class_is p typed.whole c scene.c_within class.name K denotes in
          let file = file_of l loaded at in
          let label = method_label p (method_in p K' name) in
          let label_is : label ≡ method_label p call.method =
          ap (λ (y : ClassId). method_label p (method_in p y name)) K_is ∙ ap (method_label p) (method_named p typed.whole c scene.c_within K denotes.0 name call.method call.found) in
          let lc : List Line = call_static_lines file at.line label in
          let has_lines : HasLines l.world pc2 lc = has_back l.world lb lc pc1 pc2 refl (has_back l.world la (lb ++ lc) q.pc pc1 refl (plain_lines l none q.pc _ code_at.lines)) in
          let lines = static.as_lines l loaded (basic_correct l loaded) calls begun_in b later sound correct pc2 file at.line label has_lines in
          let named : class_named p class.name ≡ Some K = class_by_name p typed.whole.table K class.name denotes.0 denotes.1 in
          let own = span vs d first q.pc whole in
          let xs = arguments_spans sizes (context l c f) (constants l) vs d (first + tree_size t) q.pc ts ++ spans sizes (context l c f) (constants l) vs (d + trees_count ts) first pc1 t in
          let G = λ (args : List Value) (v : Value) (j : ClassId). given (class_named p class.name) >>= λ y. dispatch p calls at y name v args in
          let V = λ (args : List Value) (v : Value) (j : ClassId). behind (given (class_named p class.name)) (λ y. dispatched p calls begun_in y name v args) in
          cases visit
          (λ e. own_shown l loaded none calls begun_in b sound c f k self scope vs env made d first q m map console st s n le begins whole x (among own (0, omega arith, refl)) e)
          (λ h. call_shown whole at t ts G V (λ args v j. bind_later (given_later (class_named p class.name)) (λ y. dispatch_later p calls later at y name v args)) head tail each_head shown each_shown
          c f k self scope vs env made d first q m map console st s n receiver given' pc1 pc2 x le begins has have code_at
          (static.arguments_code_at l loaded (basic_correct l loaded) calls begun_in b later sound correct at c f vs d first q.pc name class t ts code_at) refl refl among (λ y i. in_rest own xs y i)
          (λ args v j made gp acc ra m map console st s n x is within below fits le scene received ample w.
          let q2 : Pointers = record q { pc = pc2; gp = gp; sp = q.sp - 4 * length args; acc = acc; ra = ra } in
          let below_K : Below p j K = below_trans p j (class_meant k receiver) K below (below_conforming p typed c k scene.k_within scene.below receiver (IsClass K) conforms) in
          let ample1 = subst (λ (o : Option ClassId). Ample l q2 16 ((given o >>= λ y. dispatch p calls at y name v args) st n)) named ample in
          let ample2 : Ample l q2 16 (dispatch p calls at K name v args st n) =
          ample_as l q2 q2 16 16 ((given (Some K) >>= λ y. dispatch p calls at y name v args) st n) (dispatch p calls at K name v args st n) refl (omega arith) (omega arith) (omega arith) (omega arith) ample1 in
          let w1 = value_behind (given (class_named p class.name)) (λ y. dispatched p calls begun_in y name v args) st n x w in
          let w2 : dispatched p calls begun_in K name v args st n x = subst (λ (o : Option ClassId). on_value (λ y t left. dispatched p calls begun_in y name v args t left x) (given o st n).outcome) named w1 in
          dispatched_shown l loaded calls begun_in b shown_calls at v j K args made q2 m map console st s n pc3 name file (implementation p (chain p K) name) x refl le (let low = lines.0.words.0.low in omega arith) denotes.0 below_K
          (λ method found. static.arguments_here l loaded (basic_correct l loaded) calls begun_in b later sound correct c k j K made args given' name receiver type scene.k_within scene.below denotes.0 fits call method found) received
          (λ method found. static.goes_by_label l loaded (basic_correct l loaded) calls begun_in b later sound correct at name c K q pc2 pc3 label receiver given' type scene.c_within denotes.0 line_small lines refl call label_is
          args v j made gp acc ra m map console st s is received method found)
          ample2 w2)
          (ample_of l loaded none calls begun_in b sound c f k self scope vs env made d first q m map console st s n le begins whole type (receiver, given', K, has, have, denotes, conforms, call) room) h);
    }
