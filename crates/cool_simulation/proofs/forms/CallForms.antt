-- The code of a dispatch or static dispatch evaluates the arguments and the receiver. If the receiver is void, the run ends with the specified error.
use Rattle.std.proofs.Common.{◌≡◌, ℕ, ◌+◌, ◌-◌, ◌*◌, ◌<◌, ◌≤◌, List, [], ◌∷◌, ◌++◌, length, get_or, map as each, Some, refl, sym, ap, ◌∙◌, subst, arith, inl, inr}
use Rattle.std.specs.Prelude.{Contains, codes}
use Rattle.mips_isa.specs.declared.address_map.TheConstants.{HEAP_START}
use Rattle.mips_isa.specs.Bytes.{Bytes}
use Rattle.mips_isa.specs.Calls.{State as Machine}
use Rattle.mips_isa.specs.Lines.{Name, Line}
use Rattle.cool_syntax.specs.declared.place.Place.{Place}
use Rattle.cool_syntax.specs.Tree.{Tree, Trees, Last, More, tree_size}
use Rattle.cool_classes.specs.declared.class_id.ClassId.{ClassId}
use Rattle.cool_classes.specs.declared.class_id.Ty.{Ty}
use Rattle.cool_classes.specs.Chains.{Class, Below}
use Rattle.cool_rules.specs.Conformance.{class_of as class_meant}
use Rattle.cool_rules.specs.Scopes.{Binding}
use Rattle.cool_rules.specs.Typing.{HasType, HaveTypes}
use Rattle.cool_runtime.specs.Standing.{HasLines, sizes}
use Rattle.cool_runtime.specs.Contents.{StringAt}
use Rattle.cool_runtime.specs.Labels.{dispatch_abort}
use Rattle.cool_runtime.specs.Machines.{At, Pointers, Console}
use Rattle.cool_runtime.specs.declared.catalogue.Routine.TheVariants as routines
use Rattle.cool_runtime.proofs.Pieces.{done, next}
use Rattle.cool_runtime.proofs.MeaningsMet.{means}
use Rattle.cool_consts.specs.Constants.{string_number}
use Rattle.cool_consts.specs.Labels.{string_constant}
use Rattle.cool_codegen.specs.Variables.{Named}
use Rattle.cool_codegen.specs.Types.{trees_count}
use Rattle.cool_codegen.specs.Code.{code, arguments_code}
use Rattle.cool_meaning.specs.Values.{Value, Void, Int, Bool, Str, Obj, State, Environment, class_of}
use Rattle.cool_meaning.specs.Meters.{Error, DispatchVoid, Outcome, Stop, Computation, ◌>>=◌, seq_of, rule, holding, Val}
use Rattle.cool_meaning.specs.Evaluation.{Call, Calls, class_or, eval, eval_all}
use Rattle.cool_meaning.specs.FittingValues.{AllFit, Scene}
use Rattle.cool_meaning.proofs.FittingValues.{fit_length, class_fits, still_all_fit}
use Rattle.cool_meaning.specs.FittingValues as fitting
use Rattle.cool_meaning.proofs.SoundParts.{AllCallsSound}
use Rattle.cool_meaning.proofs.SoundEvaluation.{scene_later, eval_sound, all_sound}
use Rattle.cool_simulation.specs.Loadings.{Loading, IsLoaded, constants, context, Watched}
use Rattle.cool_simulation.specs.Pictures.{Map, Pic, Pictures, Shows}
use Rattle.cool_simulation.specs.Simulation.{Begins, Done, AllDone, Runs, Way, Room, CodeAt, AllCodeAt, Correct, AllCorrect}
use Rattle.cool_simulation.specs.Visits.{Visits, Visit, all_begun, begun, behind, ◌or◌}
use Rattle.cool_simulation.proofs.forms.CallLines.{receiver_lines, finds_void}
use Rattle.cool_simulation.proofs.ground.CallErrors.{placed_text, stops}
use Rattle.cool_simulation.proofs.ground.DataHere.{string_pic, text_here}
use Rattle.cool_simulation.proofs.ground.PartsBehind.{pic_fits}
use Rattle.cool_simulation.proofs.ground.PartsOfRuns.{run_wider}
use Rattle.cool_simulation.proofs.ground.ReservedParts.{bind_reserved, run_then}
use Rattle.cool_simulation.proofs.ground.EvaluationLater.{ComesLater, CallsLater, bind_later, eval_later}
use Rattle.cool_simulation.proofs.ground.CallsLater.{held_later, class_later}
use Rattle.cool_simulation.proofs.forms.Invoking.{each_length}
use Rattle.cool_simulation.proofs.ground.ScenesLater.{begins_later, fine_value, eval_works}
use Rattle.cool_simulation.proofs.forms.Received.{Received, receives, dispatch_done}
use Rattle.cool_simulation.proofs.ground.Passages.{passes}

-- there are as many types as arguments
pub have_length : (p : List Class) (c : ClassId) (scope : List Binding) (ts : Trees) (types : List Ty) → HaveTypes p c scope ts types → length types ≡ trees_count ts
have_length p c scope Last [] h = refl
have_length p c scope Last (t ∷ ts) h = absurd h
have_length p c scope (More e es) [] h = absurd h
have_length p c scope (More e es) (t ∷ ts) h = let rest = have_length p c scope es ts h.1 in omega arith

module _ (l : Loading) where
  -- the class of a value that is not void, or the end
  by_class : (e : Error) (v : Value) (G : ClassId → Computation Value) (st : State) (n : ℕ) (m : Machine) (K : Value → State → Machine → Type 0) (gp base sp : ℕ)
      → gp + 4 * ((class_or e v >>= G) st n).words ≤ l.world.top → l.world.low ≤ sp - (base + 16 * ((class_or e v >>= G) st n).peak) → Way l ((class_or e v >>= G) st n).outcome
      → (v ≡ Void → Runs l m n 61 K (Stop e st))
      → ((j : ClassId) → class_of v ≡ Some j → (class_or e v st n).outcome ≡ Val j st n → (G j st n).words ≤ ((class_or e v >>= G) st n).words → gp + 4 * (G j st n).words ≤ l.world.top → l.world.low ≤ sp - (base + 16 * (G j st n).peak) → Way l (G j st n).outcome
      → Runs l m n (64 * (G j st n).work + 60) K (G j st n).outcome)
      → Runs l m n (64 * ((class_or e v >>= G) st n).work + 61) K ((class_or e v >>= G) st n).outcome
  by_class e Void G st n m K gp base sp heap stack way void more = void refl
  by_class e (Int x) G st n m K gp base sp heap stack way void more = run_wider l _ m n _ _ K (omega arith) (more _ refl refl (omega arith) (omega arith) (omega arith) way)
  by_class e (Bool x) G st n m K gp base sp heap stack way void more = run_wider l _ m n _ _ K (omega arith) (more _ refl refl (omega arith) (omega arith) (omega arith) way)
  by_class e (Str x) G st n m K gp base sp heap stack way void more = run_wider l _ m n _ _ K (omega arith) (more _ refl refl (omega arith) (omega arith) (omega arith) way)
  by_class e (Obj c i ls) G st n m K gp base sp heap stack way void more = run_wider l _ m n _ _ K (omega arith) (more _ refl refl (omega arith) (omega arith) (omega arith) way)

module _ (l : Loading) (loaded : IsLoaded l) where
  -- the String with the name of a file
  abbrev pub file_of : Place → Name
  file_of at = string_constant (string_number (constants l).strings (get_or l.files at.file []))

  -- a void receiver ends the run
  void_ends : (at : Place) (back : List Line) (p : Pointers) (m : Bytes) (map : Map) (c : Console) (st : State) (s : Machine) → HasLines l.world p.pc (receiver_lines (file_of at) at.line ++ back) → At l.world p m c s
      → Shows st c → Pictures l.table l.world l.memory m map st p.gp p.sp → Contains (constants l).strings (get_or l.files at.file []) → at.line < 2147483648 → p.acc ≡ 0
      → Runs l s 0 61 (λ (v : Value) t. Done l p m map st 0 v t) (Stop (DispatchVoid at) st)
  void_ends at back p m map c st s has at' shows pictures among small void =
      let from : HEAP_START ≤ p.gp = let numbers = at'.numbers in omega arith in
      let q : Pointers = record p { pc = l.world.place dispatch_abort } in
      let string : StringAt l.world m p.gp (l.world.place (file_of at)) (get_or l.files at.file []) = (string_pic l loaded m map st p.gp p.sp from pictures (get_or l.files at.file []) among).0 in
      passes l s 0 61 _ (stops l (DispatchVoid at) st c _ s 61 shows (placed_text l.files at (codes "Dispatch to void.") small)
      (next l.world s 6 16 61 _ _ (finds_void l.world (file_of at) at.line back p m c s has at' (omega arith) void) (omega arith) (λ t placed.
      means l.world routines.DispatchVoid q m c t (get_or l.files at.file []) (codes ":") (codes ": Dispatch to void.\n") at.line (loaded.routines routines.DispatchVoid) placed.at refl
      (subst (λ (a : ℕ). StringAt l.world m p.gp a (get_or l.files at.file [])) (sym placed.file_is) string) placed.line_is (omega arith)
      (text_here l loaded m map st p.gp p.sp from pictures _ _ loaded.colon_text) (text_here l loaded m map st p.gp p.sp from pictures _ _ loaded.dispatch_text))))

  module _ (calls : Calls) (begun_in : Call → Visits) (b : ℕ) (later : CallsLater calls) (sound : AllCallsSound l.table calls b) where
    -- the run of the call, from the state after the receiver's code
    abbrev pub CallRuns : ClassId → ClassId → Value → List Binding → Environment → Pointers → ℕ → ℕ → Ty → List Ty → (List Value → Value → ClassId → Computation Value) → (List Value → Value → ClassId → Visits) → Type 0
    CallRuns c k self scope env q pc2 pc3 receiver given G begins =
        (args : List Value) (v : Value) (j : ClassId) (made : fitting.World) (gp acc ra : ℕ) (m : Bytes) (map : Map) (console : Console) (st : State) (s : Machine) (n : ℕ)
        → class_of v ≡ Some j → j.0 < length l.table → Below l.table j (class_meant k receiver) → AllFit l.table made args (each (class_meant k) given) → n ≤ b → Scene l.table made c k self scope env
        → Received l j v args made (record q { pc = pc2; gp = gp; sp = q.sp - 4 * length args; acc = acc; ra = ra }) m map console st s
        → gp + 4 * (G args v j st n).words ≤ l.world.top → l.world.low ≤ q.sp - 4 * length args - (16 + 16 * (G args v j st n).peak) → Way l (G args v j st n).outcome
        → ((x : Visit) → begins args v j st n x → Watched l.watch x)
        → Runs l s n (64 * (G args v j st n).work + 60)
        (Done l (record q { pc = pc3; gp = gp; sp = q.sp - 4 * length args + 4 * length args; acc = acc; ra = pc3 }) m map st (G args v j st n).words) (G args v j st n).outcome

    -- the evaluation of both forms
    abbrev pub called : Place → Value → Environment → Tree → Trees → (List Value → Value → ClassId → Computation Value) → Computation Value
    called at self env t ts G = rule (eval_all l.table calls self env ts >>= λ args. holding (length args) (eval l.table calls self env t >>= λ v. class_or (DispatchVoid at) v >>= G args v))

    pub behind_later : (at : Place) (self : Value) (env : Environment) (t : Tree) (G : List Value → Value → ClassId → Computation Value) → ((args : List Value) (v : Value) (c : ClassId) → ComesLater (G args v c))
        → (args : List Value) → ComesLater (holding (length args) (eval l.table calls self env t >>= λ v. class_or (DispatchVoid at) v >>= G args v))
    behind_later at self env t G h args = held_later (length args) (bind_later (eval_later l.table calls later self env t) (λ v. bind_later (class_later l.table calls later (DispatchVoid at) v) (λ c. h args v c)))

    pub form_runs : (at : Place) (t : Tree) (ts : Trees) (back : List Line) (G : List Value → Value → ClassId → Computation Value) (V : List Value → Value → ClassId → Visits) → ((args : List Value) (v : Value) (c : ClassId) → ComesLater (G args v c))
        → Correct l calls begun_in b t → AllCorrect l calls begun_in b ts
        → (c : ClassId) (f : ℕ) (k : ClassId) (self : Value) (scope : List Binding) (vs : List Named) (env : Environment) (made : fitting.World) (d first : ℕ) (q : Pointers) (m : Bytes) (map : Map) (console : Console) (st : State) (s : Machine)
        (n : ℕ) (receiver : Ty) (given : List Ty) (pc1 pc2 pc3 : ℕ) → n ≤ b → Begins l c k self scope vs env made d q m map console st s → HasType l.table c scope t receiver → HaveTypes l.table c scope ts given
        → AllCodeAt l c f vs d (first + tree_size t) q.pc ts → pc1 ≡ q.pc + sizes (arguments_code (context l c f) (constants l) vs d (first + tree_size t) ts)
        → CodeAt l c f vs (d + trees_count ts) first pc1 t → pc2 ≡ pc1 + sizes (code (context l c f) (constants l) vs (d + trees_count ts) first t)
        → HasLines l.world pc2 (receiver_lines (file_of at) at.line ++ back) → Contains (constants l).strings (get_or l.files at.file []) → at.line < 2147483648
        → CallRuns c k self scope env q pc2 pc3 receiver given G V → Room l q 0 (called at self env t ts G st n)
        → ((x : Visit) → (all_begun l.table calls begun_in c f self env (first + tree_size t) ts
        or behind (eval_all l.table calls self env ts) (λ args. begun l.table calls begun_in c f self env first t or behind (eval l.table calls self env t) (λ v. behind (class_or (DispatchVoid at) v) (λ j. V args v j)))) st n x → Watched l.watch x)
        → Runs l s n (64 * (called at self env t ts G st n).work - 4) (Done l (record q { pc = pc3 }) m map st (called at self env t ts G st n).words) (called at self env t ts G st n).outcome
    form_runs at t ts back G V growing head tail c f k self scope vs env made d first q m map console st s n receiver given pc1 pc2 pc3 le begins has have all_code pc1_is code_at pc2_is lines among small call room watched =
        let p = l.table in
        let typed = loaded.buildable.typed in
        let A = eval_all p calls self env ts st n in
        let H : List Value → Value → Computation Value = λ args v. class_or (DispatchVoid at) v >>= G args v in
        let F : List Value → Computation Value = λ args. holding (length args) (eval p calls self env t >>= H args) in
        let whole = (called at self env t ts G st n).words in
        let K2 : Value → State → Machine → Type 0 = λ v u. Done l (record q { pc = pc3 }) m map st whole v u in
        let fine = (all_sound p typed calls b sound c k self ts made scope env given begins.scene have).sound st n le begins.fits in
        let heap0 = room.heap in
        let stack0 = room.stack in
        run_wider l (seq_of A.outcome A.work A.words A.peak F).outcome s n (64 * (seq_of A.outcome A.work A.words A.peak F).work + 60) (64 * (called at self env t ts G st n).work - 4) K2 (omega arith)
        (bind_reserved l A.outcome A.work A.words A.peak F s n (64 * A.work + 3) 57 60 q.gp 16 q.sp (λ args u. AllDone l (record q { pc = pc1 }) m map st A.words args u) K2
        (omega arith) (λ args u left e. omega arith) (λ args u left. (behind_later at self env t G growing args).later u left) heap0 (omega arith) room.way
        (λ heap stack way.
        subst (λ (x : ℕ). Runs l s n (64 * A.work + 3) (λ args u. AllDone l (record q { pc = x }) m map st A.words args u) A.outcome) (sym pc1_is)
        (tail.runs c f k self scope vs env made d (first + tree_size t) q m map console st s n given le begins have all_code (record { heap = heap; stack = omega arith; way = way }) (λ x h. watched x (inl h))))
        (λ args st1 left m1 e d1 heap stack way.
        let good = fine_value p made n _ A.outcome args st1 left e fine in
        let o = eval p calls self env t st1 left in
        let count : length args ≡ trees_count ts = fit_length p good.world args (each (class_meant k) given) good.value ∙ each_length (class_meant k) given ∙ have_length p c scope ts given have in
        let fewer = good.fewer in
        let split : whole ≡ A.words + (F args st1 left).words = ap (λ (x : Outcome (List Value)). (seq_of x A.work A.words A.peak F).words) e in
        let roomy = d1.room in
        let depth = begins.depth in
        let scene1 = scene_later p made good.world c k self scope env good.grown begins.scene in
        let from1 = d1.gp_from in
        let to1 = d1.gp_to in
        let begins2 = begins_later l c k self scope vs env made good.world d (d + trees_count ts) q m d1.memory map d1.map' console d1.console st st1 s m1 pc1 d1.gp (q.sp - 4 * length args) d1.acc d1.ra
        begins d1.at d1.shows d1.pictures d1.kept d1.grown d1.gp_from d1.drawn (omega arith) good.grown good.store in
        let fine2 = (eval_sound p typed calls b sound c k self t good.world scope env receiver scene1 has).sound st1 left (omega arith) good.store in
        bind_reserved l o.outcome o.work o.words o.peak (H args) m1 left (64 * o.work - 4) 61 57 d1.gp 16 (q.sp - 4 * length args)
        (λ v u. Done l (record q { pc = pc2; gp = d1.gp; sp = q.sp - 4 * length args; acc = d1.acc; ra = d1.ra }) d1.memory d1.map' st1 o.words v u) K2
        (omega arith) (λ v u left2 e2. let some = eval_works p calls self env t st1 left v u left2 e2 in omega arith)
        (λ v u left2. (bind_later (class_later p calls later (DispatchVoid at) v) (λ x. growing args v x)).later u left2) (omega arith) (omega arith) way
        (λ heap2 stack2 way2.
        subst (λ (x : ℕ). Runs l m1 left (64 * o.work - 4) (λ v u. Done l (record q { pc = x; gp = d1.gp; sp = q.sp - 4 * length args; acc = d1.acc; ra = d1.ra }) d1.memory d1.map' st1 o.words v u) o.outcome) (sym pc2_is)
        (head.runs c f k self scope vs env good.world (d + trees_count ts) first (record q { pc = pc1; gp = d1.gp; sp = q.sp - 4 * length args; acc = d1.acc; ra = d1.ra }) d1.memory d1.map' d1.console st1 m1 left receiver
        (omega arith) begins2 has code_at (record { heap = heap2; stack = omega arith; way = way2 }) (λ x h. watched x (inr (args, st1, left, e, inl h)))))
        (λ v st2 left2 m2 e2 d2 heap2 stack2 way2.
        let good2 = fine_value p good.world left _ o.outcome v st2 left2 e2 fine2 in
        let split2 : (F args st1 left).words ≡ o.words + (H args v st2 left2).words = ap (λ (x : Outcome Value). (seq_of x o.work o.words o.peak (H args)).words) e2 in
        let to2 = d2.gp_to in
        by_class l (DispatchVoid at) v (G args v) st2 left2 m2 K2 d2.gp 16 (q.sp - 4 * length args) (omega arith) stack2 way2
        (λ void.
        void_ends at back (record q { pc = pc2; gp = d2.gp; sp = q.sp - 4 * length args; acc = d2.acc; ra = d2.ra }) d2.memory d2.map' d2.console st2 m2 lines d2.at d2.shows d2.pictures among small
        (subst (λ (x : Value). Pic l.world d2.memory d2.map' st2.drawn d2.gp x d2.acc) void d2.value))
        (λ j is class few heap3 stack3 way3.
        let (below, j_within, fit) = class_fits p typed good2.world v (class_meant k receiver) j good2.value is in
        let fewer2 = good2.fewer in
        let frame = begins.frame in
        let r = G args v j st2 left2 in
        let received = receives l j v args good2.world q m map st st1 st2 pc1 pc2 A.words o.words m1 m2 d1 d2 (omega arith) (omega arith, pic_fits l.world p l.memory m map st q.gp q.sp self q.self (omega arith) begins.pictures begins.self_is) is j_within fit good2.store in
        run_then l m2 left2 (64 * r.work + 60) 0 (64 * r.work + 60)
        (λ x u. Done l (record q { pc = pc3; gp = d2.gp; sp = q.sp - 4 * length args + 4 * length args; acc = d2.acc; ra = pc3 }) d2.memory d2.map' st2 r.words x u) K2 r.outcome (omega arith)
        (call args v j good2.world d2.gp d2.acc d2.ra d2.memory d2.map' d2.console st2 m2 left2 is j_within below (still_all_fit p good.world good2.world good2.grown args (each (class_meant k) given) good.value) (omega arith)
        (scene_later p good.world good2.world c k self scope env good2.grown scene1) received heap3 stack3 way3 (λ x h. watched x (inr (args, st1, left, e, inr (v, st2, left2, e2, (j, st2, left2, class, h))))))
        (λ x st3 m3 d3. done l.world 0 m3 _ (dispatch_done l v x args q m map st st1 st2 st3 pc1 pc2 pc3 pc3 pc3 A.words o.words r.words whole m1 m2 m3 d1 d2 d3 refl (omega arith)))))))
