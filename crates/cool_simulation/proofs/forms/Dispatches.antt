-- The code generated for dispatch and of static dispatch simulates their evaluation: unless a limit stops it, the machine reaches the value, state or error
-- that the semantics gives.
use Rattle.std.proofs.Common.{◌≡◌, ℕ, ◌+◌, ◌-◌, ◌*◌, ◌<◌, ◌≤◌, List, [], ◌∷◌, ◌++◌, length, get_or, map as each, Option, Some, refl, sym, ap, ◌∙◌, subst, arith, inr}
use Rattle.std.specs.Prelude.{ℤ, Contains, pos, unwrap_or}
use Rattle.std.proofs.lemmas.List.Elements.{Contains-append_left, Contains-append_right}
use Rattle.mips_isa.specs.declared.address_map.TheConstants.{HEAP_START}
use Rattle.mips_isa.specs.Bytes.{Bytes}
use Rattle.mips_isa.specs.Calls.{State as Machine}
use Rattle.mips_isa.specs.Lines.{Name, Line}
use Rattle.cool_syntax.specs.declared.place.Place.{Place}
use Rattle.cool_syntax.specs.Tree.{Tree, Trees, tree_size}
use Rattle.cool_syntax.specs.Tree as trees
use Rattle.cool_classes.specs.declared.class_id.ClassId.{ClassId}
use Rattle.cool_classes.specs.declared.class_id.Ty.{Ty}
use Rattle.cool_classes.specs.declared.class_id.Ty.TheVariants.{Class as IsClass, SelfType}
use Rattle.cool_classes.specs.declared.method.MethodRef.{MethodRef}
use Rattle.cool_classes.specs.Chains.{Below}
use Rattle.cool_classes.specs.ClimbedChains.{chain}
use Rattle.cool_classes.specs.Features.{implementation, formals_of, HasMethod}
use Rattle.cool_classes.proofs.ChainsOfTables.{chain_is}
use Rattle.cool_classes.proofs.Methods.{found_has}
use Rattle.cool_rules.specs.Conformance.{class_of as class_meant}
use Rattle.cool_rules.specs.Scopes.{Binding}
use Rattle.cool_rules.specs.StaticTypes.{type_of}
use Rattle.cool_rules.specs.Typing.{IsCall}
use Rattle.cool_rules.proofs.ChainsOfTables.{below_trans, below_within, below_itself, chain_within, implementation_below}
use Rattle.cool_rules.proofs.StaticTypesAreGiven.{type_is_in, class_there, method_found}
use Rattle.cool_rules.proofs.TypesOfMethods.{expression_type}
use Rattle.cool_runtime.specs.Reaches.{Reaches, stands}
use Rattle.cool_runtime.specs.Standing.{HasLines, sizes}
use Rattle.cool_runtime.specs.Instructions.{lw, jalr}
use Rattle.cool_runtime.specs.CodeOfCalls.{dispatch_lines}
use Rattle.cool_runtime.specs.Machines.{Pointers, Console}
use Rattle.cool_runtime.proofs.Pieces.{has_front, has_back, sizes_append}
use Rattle.cool_layout.specs.Members.{slot}
use Rattle.cool_layout.specs.Labels.{dispatch_table, method_label}
use Rattle.cool_codegen.specs.Variables.{Named, scope_of}
use Rattle.cool_codegen.specs.Pieces.{call_lines}
use Rattle.cool_codegen.specs.Types.{trees_count}
use Rattle.cool_codegen.specs.Code.{code, arguments_code, slot_code}
use Rattle.cool_codegen.specs.Asked.{integers_in, integers_in_all, strings_in, strings_in_all}
use Rattle.cool_codegen.specs.Asked as asked
use Rattle.cool_meaning.specs.Values.{Value, State, Environment, class_of}
use Rattle.cool_meaning.specs.Evaluation.{Call, Calls, dispatch}
use Rattle.cool_meaning.specs.FittingValues.{AllFit, meant, Scene}
use Rattle.cool_meaning.specs.FittingValues as fitting
use Rattle.cool_meaning.proofs.MethodsOfTables.{implementation_own, formals_are_classes}
use Rattle.cool_meaning.proofs.SoundParts.{AllCallsSound, arguments_fit}
use Rattle.cool_simulation.specs.Loadings.{Loading, IsLoaded, constants, context, whole}
use Rattle.cool_simulation.specs.Pictures.{Map}
use Rattle.cool_simulation.specs.Simulation.{CodeAt, AllCodeAt, Correct, AllCorrect, AllCallsCorrect}
use Rattle.cool_simulation.specs.Visits.{Visits, dispatched as dispatch_begun}
use Rattle.cool_simulation.proofs.forms.NamesCovered.{covers}
use Rattle.cool_simulation.proofs.forms.Slots.{slot_there, slot_kept, method_is}
use Rattle.cool_simulation.proofs.forms.CallLines.{AtPlace, SlotAt, goes_by_table}
use Rattle.cool_simulation.proofs.forms.ReceiverHeads.{has_head}
use Rattle.cool_simulation.proofs.ground.DataHere.{string_pic, slot_here}
use Rattle.cool_simulation.proofs.ground.EvaluationLater.{CallsLater}
use Rattle.cool_simulation.proofs.ground.CallsLater.{dispatch_later}
use Rattle.cool_simulation.proofs.ground.ScenesLater.{types_in_scope}
use Rattle.cool_simulation.proofs.forms.Received.{BasicCorrect, Received}
use Rattle.cool_simulation.proofs.forms.Invoking.{dispatched}
use Rattle.cool_simulation.proofs.forms.CallForms.{file_of, CallRuns, form_runs}
use Rattle.cool_emit.proofs.TextOfCode.{count_low}
use Rattle.cool_simulation.proofs.ground.Passages.{quiet}
use Rattle.cool_codegen.specs.Spans.{arguments_spans, span, spans}
use Rattle.cool_simulation.proofs.ground.CodeOfParts.{in_rest, own_placed}

module _ (l : Loading) (loaded : IsLoaded l) (basics : BasicCorrect l) (calls : Calls) (begun_in : Call → Visits) (b : ℕ) (later : CallsLater calls) (sound : AllCallsSound l.table calls b) (correct : AllCallsCorrect l calls begun_in b) where
  -- the class in which a receiver's method is looked for
  pub receiver_below : (c k : ClassId) (self : Value) (scope : List Binding) (env : Environment) (made : fitting.World) → Scene l.table made c k self scope env → (receiver : Ty) (j : ClassId) → j.0 < length l.table
      → Below l.table j (class_meant k receiver) → ((class_meant c receiver).0 < length l.table) × Below l.table j (class_meant c receiver)
  receiver_below c k self scope env made scene (IsClass x) j within below = (below_within l.table loaded.buildable.typed.whole j x within below, below)
  receiver_below c k self scope env made scene SelfType j within below = (scene.c_within, below_trans l.table j k c below scene.below)

  -- the arguments fit the formals of the method that a class below has
  pub arguments_here : (c k j x : ClassId) (made : fitting.World) (args : List Value) (given' : List Ty) (name : List ℕ) (receiver type : Ty) → k.0 < length l.table → Below l.table k c → j.0 < length l.table → Below l.table j x
      → x.0 < length l.table → AllFit l.table made args (each (class_meant k) given') → IsCall l.table c x name receiver given' type → (method : MethodRef) → implementation l.table (chain l.table j) name ≡ Some method
      → AllFit l.table made args (each (meant l.table j) (formals_of l.table method))
  arguments_here c k j x made args given' name receiver type k_within below_c within below x_within fits call method found =
      let p = l.table in
      let typed = loaded.buildable.typed in
      let n = call.method in
      let found_there : implementation p (chain p x) name ≡ Some n = method_found p typed.whole c (below_within p typed.whole k c k_within below_c) x x_within name n call.found in
      let (m, here, same) = implementation_below p typed j x (chain p j) (chain p x) name n within below (chain_is p j typed.whole.table within) (chain_is p x typed.whole.table x_within) found_there in
      let (d, there, own) = implementation_own p (chain p x) name n found_there in
      let has : HasMethod p n = found_has p d name n (chain_within p typed.whole x x_within (chain p x) (chain_is p x typed.whole.table x_within) d there) own in
      let names = formals_are_classes p typed n has in
      let one : m ≡ method = some_is m method (sym here ∙ found) in
      subst (λ (ys : List (List ℕ)). AllFit p made args (each (meant p j) ys)) (sym same.formals ∙ ap (formals_of p) one) (arguments_fit p typed c k j k_within below_c made given' (formals_of p n) args fits call.arguments names)
    where
      some_is : (a b : MethodRef) → Some a ≡ Some b → a ≡ b
      some_is a b e = cc

  -- the machine goes to the method that the receiver's table has
  pub goes_dynamic : (at : Place) (name : List ℕ) (c k : ClassId) (self : Value) (scope : List Binding) (env : Environment) (q : Pointers) (pc2 pc3 kk : ℕ) (receiver : Ty) → at.line < 2147483648
      → HasLines l.world pc2 (dispatch_lines (file_of l loaded at) at.line kk) → pc2 + 36 ≡ pc3 → slot l.table (class_meant c receiver) name ≡ Some kk → (args : List Value) (v : Value) (j : ClassId) (made : fitting.World) (gp acc ra : ℕ) (m : Bytes) (map : Map) (console : Console) (st : State) (s : Machine)
      → class_of v ≡ Some j → j.0 < length l.table → Below l.table j (class_meant k receiver) → Scene l.table made c k self scope env
      → Received l j v args made (record q { pc = pc2; gp = gp; sp = q.sp - 4 * length args; acc = acc; ra = ra }) m map console st s → (method : MethodRef) → implementation l.table (chain l.table j) name ≡ Some method
      → Reaches l.world s 1 9 (stands (AtPlace l.world (record q { pc = l.world.place (method_label l.table method); gp = gp; sp = q.sp - 4 * length args; acc = acc; ra = pc3 }) m console (file_of l loaded at) at.line))
  goes_dynamic at name c k self scope env q pc2 pc3 kk receiver small has pc3_is slot_is args v j made gp acc ra m map console st s is within below scene received method found =
      let p = l.table in
      let typed = loaded.buildable.typed in
      let (x_within, below_x) = receiver_below c k self scope env made scene receiver j within below in
      let q2 : Pointers = record q { pc = pc2; gp = gp; sp = q.sp - 4 * length args; acc = acc; ra = ra } in
      let from : HEAP_START ≤ gp = let numbers = received.at.numbers in omega arith in
      let slot_j : slot p j name ≡ Some kk = slot_kept p typed.whole j (class_meant c receiver) within below_x name kk slot_is in
      let placed = loaded.slots_in j name kk within slot_j in
      let head = has_head l loaded v j m map st gp (q.sp - 4 * length args) acc is received.pictures received.self_is in
      let entry : SlotAt l.world m (l.world.place (dispatch_table p j)) kk (l.world.place (method_label p method)) = record {
        even = placed.even;
        from = placed.from;
        to = (let to = placed.to in omega arith);
        holds = slot_here l loaded m map st gp (q.sp - 4 * length args) from received.pictures j name kk within slot_j ∙ ap (λ (x : MethodRef). l.world.place (method_label p x)) (method_is p typed.whole j name method found);
      } in
      subst (λ (x : ℕ). Reaches l.world s 1 9 (stands (AtPlace l.world (record q2 { pc = l.world.place (method_label p method); ra = x }) m console (file_of l loaded at) at.line))) pc3_is
      (goes_by_table l.world (file_of l loaded at) at.line kk q2 m console s (l.world.place (dispatch_table p j)) (l.world.place (method_label p method)) has received.at (omega arith) head.lies head.table_is entry)

  -- the call through the receiver's table
  dynamic_call : (at : Place) (name : List ℕ) (c k : ClassId) (self : Value) (scope : List Binding) (env : Environment) (q : Pointers) (pc2 pc3 kk : ℕ) (receiver : Ty) (given' : List Ty) (type : Ty)
      → HasLines l.world pc2 (dispatch_lines (file_of l loaded at) at.line kk) → pc2 + 36 ≡ pc3 → slot l.table (class_meant c receiver) name ≡ Some kk → IsCall l.table c (class_meant c receiver) name receiver given' type
      → Contains (constants l).strings (get_or l.files at.file []) → at.line < 2147483648
      → CallRuns l loaded calls begun_in b later sound c k self scope env q pc2 pc3 receiver given' (λ args v j. dispatch l.table calls at j name v args) (λ args v j. dispatch_begun l.table calls begun_in j name v args)
  dynamic_call at name c k self scope env q pc2 pc3 kk receiver given' type has pc3_is slot_is call among small =
      λ args v j made gp acc ra m map console st s n is within below fits le scene received heap stack way watched.
      let p = l.table in
      let typed = loaded.buildable.typed in
      let (x_within, below_x) = receiver_below c k self scope env made scene receiver j within below in
      let q2 : Pointers = record q { pc = pc2; gp = gp; sp = q.sp - 4 * length args; acc = acc; ra = ra } in
      let from : HEAP_START ≤ gp = let numbers = received.at.numbers in omega arith in
      dispatched l loaded basics calls begun_in b correct at v j j args made q2 m map console st s n pc3 name (file_of l loaded at) (implementation p (chain p j) name) refl le (let low = has.0.words.0.low in omega arith) within (below_itself p typed.whole j within)
      (λ method found. arguments_here c k j (class_meant c receiver) made args given' name receiver type scene.k_within scene.below within below_x x_within fits call method found) received
      (λ method found. goes_dynamic at name c k self scope env q pc2 pc3 kk receiver small has pc3_is slot_is args v j made gp acc ra m map console st s is within below scene received method found)
      (string_pic l loaded m map st gp (q.sp - 4 * length args) from received.pictures (get_or l.files at.file []) among).0 small heap stack way watched

  -- the parts of a dispatch's code

  pub as_dispatch : (pc : ℕ) (file : Name) (line kk : ℕ) → HasLines l.world pc (call_lines file line (pos (4 * kk))) → HasLines l.world pc (dispatch_lines file line kk)
  unfolding call_lines
  as_dispatch pc file line kk has = has

  call_sizes : (file : Name) (line : ℕ) (offset : ℤ) → sizes (call_lines file line offset) ≡ 36
  unfolding call_lines
  call_sizes file line offset = refl

  pub arguments_code_at : (at : Place) (c : ClassId) (f : ℕ) (vs : List Named) (d first pc : ℕ) (name : List ℕ) (t : Tree) (ts : Trees) → CodeAt l c f vs d first pc (trees.Dispatch at t name ts) → AllCodeAt l c f vs d (first + tree_size t) pc ts
  arguments_code_at at c f vs d first pc name t ts code_at = record {
    lines = has_front (whole l) (arguments_code (context l c f) (constants l) vs d (first + tree_size t) ts) _ pc code_at.lines;
    integers = λ n there. code_at.integers n (Contains-append_left (integers_in_all ts) (integers_in t) n there);
    strings = λ bytes there. code_at.strings bytes (Contains-append_left (strings_in_all l.files ts) (strings_in l.files t ++ asked.file_of l.files at) bytes there);
    within = code_at.within.3;
    small = (let z = code_at.small in omega arith);
    spans = λ x h. code_at.spans x (in_rest (span vs d first pc (trees.Dispatch at t name ts)) (arguments_spans sizes (context l c f) (constants l) vs d (first + tree_size t) pc ts ++ spans sizes (context l c f) (constants l) vs (d + trees_count ts) first (pc + sizes (arguments_code (context l c f) (constants l) vs d (first + tree_size t) ts)) t) x (Contains-append_left (arguments_spans sizes (context l c f) (constants l) vs d (first + tree_size t) pc ts) (spans sizes (context l c f) (constants l) vs (d + trees_count ts) first (pc + sizes (arguments_code (context l c f) (constants l) vs d (first + tree_size t) ts)) t) x h));
    pushes = (own_placed l c f vs d first pc (trees.Dispatch at t name ts) code_at).quiet.0;
  }

  receiver_code_at : (at : Place) (c : ClassId) (f : ℕ) (vs : List Named) (d first pc : ℕ) (name : List ℕ) (t : Tree) (ts : Trees) → CodeAt l c f vs d first pc (trees.Dispatch at t name ts)
      → CodeAt l c f vs (d + trees_count ts) first (pc + sizes (arguments_code (context l c f) (constants l) vs d (first + tree_size t) ts)) t
  receiver_code_at at c f vs d first pc name t ts code_at = record {
    lines =
        let la = arguments_code (context l c f) (constants l) vs d (first + tree_size t) ts in
        has_front (whole l) (code (context l c f) (constants l) vs (d + trees_count ts) first t) _ (pc + sizes la) (has_back (whole l) la _ pc (pc + sizes la) refl code_at.lines);
    integers = λ n there. code_at.integers n (Contains-append_right (integers_in_all ts) (integers_in t) n there);
    strings = λ bytes there. code_at.strings bytes
        (Contains-append_right (strings_in_all l.files ts) (strings_in l.files t ++ asked.file_of l.files at) bytes (Contains-append_left (strings_in l.files t) (asked.file_of l.files at) bytes there));
    within = code_at.within.1;
    small = (let z = code_at.small in let few = count_low ts in omega arith);
    spans = λ x h. code_at.spans x (in_rest (span vs d first pc (trees.Dispatch at t name ts)) (arguments_spans sizes (context l c f) (constants l) vs d (first + tree_size t) pc ts ++ spans sizes (context l c f) (constants l) vs (d + trees_count ts) first (pc + sizes (arguments_code (context l c f) (constants l) vs d (first + tree_size t) ts)) t) x (Contains-append_right (arguments_spans sizes (context l c f) (constants l) vs d (first + tree_size t) pc ts) (spans sizes (context l c f) (constants l) vs (d + trees_count ts) first (pc + sizes (arguments_code (context l c f) (constants l) vs d (first + tree_size t) ts)) t) x h));
  }

  file_among : (at : Place) (c : ClassId) (f : ℕ) (vs : List Named) (d first pc : ℕ) (name : List ℕ) (t : Tree) (ts : Trees) → CodeAt l c f vs d first pc (trees.Dispatch at t name ts)
      → Contains (constants l).strings (get_or l.files at.file [])
  file_among at c f vs d first pc name t ts code_at =
      code_at.strings (get_or l.files at.file []) (Contains-append_right (strings_in_all l.files ts) (strings_in l.files t ++ asked.file_of l.files at) _
      (Contains-append_right (strings_in l.files t) (asked.file_of l.files at) _ (0, omega arith, refl)))

  pub dispatch_correct : (at : Place) (t : Tree) (name : List ℕ) (ts : Trees) → Correct l calls begun_in b t → AllCorrect l calls begun_in b ts → Correct l calls begun_in b (trees.Dispatch at t name ts)
  dispatch_correct at t name ts head tail = record {
    runs = λ c f k self scope vs env made d first q m map console st s n type le begins (receiver, given', has, have, call) code_at room watched.
        let p = l.table in
        let typed = loaded.buildable.typed in
        let scene = begins.scene in
        let la = arguments_code (context l c f) (constants l) vs d (first + tree_size t) ts in
        let lb = code (context l c f) (constants l) vs (d + trees_count ts) first t in
        let pc1 = q.pc + sizes la in
        let pc2 = pc1 + sizes lb in
        let pc3 = q.pc + sizes (code (context l c f) (constants l) vs d first (trees.Dispatch at t name ts)) in
        let K' = class_meant c (type_of p c (scope_of vs) t) in
        let K = class_meant c receiver in
        let K_is : K' ≡ K = ap (class_meant c) (type_is_in p typed.whole c scene.c_within t scope (scope_of vs) receiver (types_in_scope p typed made k st.store begins.fits scope env scene.holds) (covers scope vs begins.variables.typed) has) in
        let lc : List Line = slot_code (context l c f) (constants l) at K' name in
        let sum_la = sizes_append l.world la (lb ++ lc) in
        let sum_lb = sizes_append l.world lb lc in
        let has_lines : HasLines l.world pc2 lc =
        quiet l lc pc2 pc3 (omega arith) (own_placed l c f vs d first q.pc (trees.Dispatch at t name ts) code_at).quiet.1 (has_back (whole l) lb lc pc1 pc2 refl (has_back (whole l) la (lb ++ lc) q.pc pc1 refl code_at.lines)) in
        let K_within = class_there p typed.whole c scene.c_within receiver (expression_type p typed.whole c scene.c_within t scope receiver (types_in_scope p typed made k st.store begins.fits scope env scene.holds) has) in
        let (kk, slot_is) = slot_there p typed.whole K name call.method (method_found p typed.whole c scene.c_within K K_within name call.method call.found) in
        let file = file_of l loaded at in
        let lines : HasLines l.world pc2 (dispatch_lines file at.line kk) =
        as_dispatch pc2 file at.line kk (subst (λ (o : Option ℕ). HasLines l.world pc2 (call_lines file at.line (pos (4 * unwrap_or o 0)))) slot_is (subst (λ (x : ClassId). HasLines l.world pc2 (slot_code (context l c f) (constants l) at x name)) K_is has_lines)) in
        let sum : pc2 + 36 ≡ pc3 = omega (arith, sizes_append l.world la (lb ++ lc), sizes_append l.world lb lc, call_sizes file at.line (pos (4 * unwrap_or (slot p K' name) 0))) in
        let among = file_among at c f vs d first q.pc name t ts code_at in
        let small : at.line < 2147483648 = (let z = code_at.within.0.1 in omega arith) in
        form_runs l loaded calls begun_in b later sound at t ts (lw 8 (pos 8) 4 ∷ lw 8 (pos (4 * kk)) 8 ∷ jalr 8 ∷ []) (λ args v j. dispatch p calls at j name v args) (λ args v j. dispatch_begun p calls begun_in j name v args) (λ args v j. dispatch_later p calls later at j name v args) head tail
        c f k self scope vs env made d first q m map console st s n receiver given' pc1 pc2 pc3 le begins has have (arguments_code_at at c f vs d first q.pc name t ts code_at) refl
        (receiver_code_at at c f vs d first q.pc name t ts code_at) refl lines among small (dynamic_call at name c k self scope env q pc2 pc3 kk receiver given' type lines sum slot_is call among small) room (λ x h. watched x (inr h));
  }
