-- The code generated for static dispatch simulates its evaluation: unless a limit stops it, the machine reaches the value, state or error that the semantics
-- gives.
use Rattle.std.proofs.Common.{◌≡◌, ℕ, ◌+◌, ◌-◌, ◌*◌, ◌<◌, ◌≤◌, List, [], ◌∷◌, ◌++◌, length, get_or, map as each, Option, Some, refl, sym, ap, ◌∙◌, subst, arith, inr}
use Rattle.std.specs.Prelude.{Contains}
use Rattle.std.proofs.lemmas.List.Elements.{Contains-append_left, Contains-append_right}
use Rattle.mips_isa.specs.declared.address_map.TheConstants.{HEAP_START}
use Rattle.mips_isa.specs.Bytes.{Bytes}
use Rattle.mips_isa.specs.Calls.{State as Machine}
use Rattle.mips_isa.specs.Lines.{Name, Line}
use Rattle.cool_syntax.specs.declared.place.Place.{Place}
use Rattle.cool_syntax.specs.declared.type_ref.TypeRef.{TypeRef}
use Rattle.cool_syntax.specs.Tree.{Tree, Trees, tree_size}
use Rattle.cool_syntax.specs.Tree as trees
use Rattle.cool_classes.specs.declared.class_id.ClassId.{ClassId}
use Rattle.cool_classes.specs.declared.class_id.Ty.{Ty}
use Rattle.cool_classes.specs.declared.class_id.Ty.TheVariants.{Class as IsClass}
use Rattle.cool_classes.specs.declared.method.MethodRef.{MethodRef}
use Rattle.cool_classes.specs.Chains.{Below}
use Rattle.cool_classes.specs.ClimbedChains.{chain}
use Rattle.cool_classes.specs.Features.{implementation, formals_of, HasMethod}
use Rattle.cool_classes.proofs.ChainsOfTables.{chain_is}
use Rattle.cool_classes.proofs.Methods.{found_has}
use Rattle.cool_rules.specs.Conformance.{Conforms, class_of as class_meant}
use Rattle.cool_rules.specs.Rules.{class_named}
use Rattle.cool_rules.specs.Scopes.{Binding}
use Rattle.cool_rules.specs.Typing.{IsCall}
use Rattle.cool_rules.proofs.ChainsOfTables.{below_trans, below_within, chain_within}
use Rattle.cool_rules.proofs.NamesOfTables.{class_by_name}
use Rattle.cool_runtime.specs.Reaches.{Reaches, stands}
use Rattle.cool_runtime.specs.Standing.{HasLines, sizes}
use Rattle.cool_runtime.specs.Instructions.{la, li, bne, j, jal}
use Rattle.cool_runtime.specs.Labels.{dispatch_abort}
use Rattle.cool_runtime.specs.Machines.{Pointers, Console}
use Rattle.cool_runtime.proofs.Runs.{wider}
use Rattle.cool_runtime.proofs.Pieces.{has_front, has_back, sizes_append}
use Rattle.cool_layout.specs.Labels.{method_label}
use Rattle.cool_codegen.specs.Variables.{Named}
use Rattle.cool_codegen.specs.Pieces.{call_static_lines}
use Rattle.cool_rules.specs.Meant.{method_in}
use Rattle.cool_codegen.specs.Types.{trees_count}
use Rattle.cool_codegen.specs.Types as types
use Rattle.cool_codegen.specs.Code.{code, arguments_code}
use Rattle.cool_codegen.specs.Asked.{integers_in, integers_in_all, strings_in, strings_in_all}
use Rattle.cool_codegen.specs.Asked as asked
use Rattle.cool_meaning.specs.Values.{Value, State, Environment, class_of}
use Rattle.cool_meaning.specs.Meters.{◌>>=◌, given}
use Rattle.cool_meaning.specs.Evaluation.{Call, Calls, dispatch}
use Rattle.cool_meaning.specs.FittingValues.{AllFit, meant}
use Rattle.cool_meaning.proofs.FittingValues.{below_conforming}
use Rattle.cool_meaning.specs.FittingValues as fitting
use Rattle.cool_meaning.proofs.MethodsOfTables.{implementation_own, formals_are_classes}
use Rattle.cool_meaning.proofs.SoundParts.{AllCallsSound, arguments_fit}
use Rattle.cool_simulation.specs.Loadings.{Loading, IsLoaded, constants, context, whole}
use Rattle.cool_simulation.specs.Pictures.{Map}
use Rattle.cool_simulation.specs.Simulation.{Done, Runs, CodeAt, AllCodeAt, Correct, AllCorrect, AllCallsCorrect}
use Rattle.cool_simulation.specs.Visits.{Visits, behind, dispatched as dispatch_begun}
use Rattle.cool_rules.proofs.StaticTypesAreGiven.{method_found, class_is, method_is as method_named}
use Rattle.cool_simulation.proofs.forms.CallLines.{AtPlace, goes_static}
use Rattle.cool_simulation.proofs.forms.ReceiverHeads.{has_head}
use Rattle.cool_simulation.proofs.ground.DataHere.{string_pic}
use Rattle.cool_simulation.proofs.ground.EvaluationLater.{CallsLater, bind_later, given_later}
use Rattle.cool_simulation.proofs.ground.CallsLater.{dispatch_later}
use Rattle.cool_simulation.proofs.forms.Received.{BasicCorrect, Received}
use Rattle.cool_simulation.proofs.ground.PartsOfRuns.{run_wider}
use Rattle.cool_simulation.proofs.forms.Invoking.{dispatched}
use Rattle.cool_simulation.proofs.forms.CallForms.{file_of, CallRuns, form_runs}
use Rattle.cool_emit.proofs.TextOfCode.{count_low}
use Rattle.cool_simulation.proofs.ground.Passages.{quiet}
use Rattle.cool_codegen.specs.Spans.{arguments_spans, span, spans}
use Rattle.cool_simulation.proofs.ground.CodeOfParts.{in_rest, own_placed}

module _ (l : Loading) (loaded : IsLoaded l) (basics : BasicCorrect l) (calls : Calls) (begun_in : Call → Visits) (b : ℕ) (later : CallsLater calls) (sound : AllCallsSound l.table calls b) (correct : AllCallsCorrect l calls begun_in b) where
  -- there is no other method than the one that typing found
  one_method : (c x : ClassId) → c.0 < length l.table → x.0 < length l.table → (name : List ℕ) (receiver type : Ty) (given' : List Ty) → (call : IsCall l.table c x name receiver given' type) → (method : MethodRef)
      → implementation l.table (chain l.table x) name ≡ Some method → call.method ≡ method
  one_method c x c_within within name receiver type given' call method found = some_is call.method method (sym (method_found l.table loaded.buildable.typed.whole c c_within x within name call.method call.found) ∙ found)
    where
      some_is : (a b : MethodRef) → Some a ≡ Some b → a ≡ b
      some_is a b e = cc

  pub arguments_here : (c k j x : ClassId) (made : fitting.World) (args : List Value) (given' : List Ty) (name : List ℕ) (receiver type : Ty) → k.0 < length l.table → Below l.table k c
      → x.0 < length l.table → AllFit l.table made args (each (class_meant k) given') → IsCall l.table c x name receiver given' type → (method : MethodRef) → implementation l.table (chain l.table x) name ≡ Some method
      → AllFit l.table made args (each (meant l.table j) (formals_of l.table method))
  arguments_here c k j x made args given' name receiver type k_within below_c x_within fits call method found =
      let p = l.table in
      let typed = loaded.buildable.typed in
      let n = call.method in
      let one = one_method c x (below_within p typed.whole k c k_within below_c) x_within name receiver type given' call method found in
      let (d, there, own) = implementation_own p (chain p x) name method found in
      let has : HasMethod p method = found_has p d name method (chain_within p typed.whole x x_within (chain p x) (chain_is p x typed.whole.table x_within) d there) own in
      subst (λ (y : MethodRef). HasMethod p y → AllFit p made args (each (meant p j) (formals_of p y))) one
      (λ has. arguments_fit p typed c k j k_within below_c made given' (formals_of p n) args fits call.arguments (formals_are_classes p typed n has)) has

  -- the machine goes to the label's method
  pub goes_by_label : (at : Place) (name : List ℕ) (c x : ClassId) (q : Pointers) (pc2 pc3 : ℕ) (label : Name) (receiver : Ty) (given' : List Ty) (type : Ty) → c.0 < length l.table → x.0 < length l.table → at.line < 2147483648
      → HasLines l.world pc2 (la 24 (file_of l loaded at) ∷ li 25 at.line ∷ bne 4 0 ∷ j dispatch_abort ∷ jal label ∷ []) → pc2 + 28 ≡ pc3 → (call : IsCall l.table c x name receiver given' type) → label ≡ method_label l.table call.method
      → (args : List Value) (v : Value) (j : ClassId) (made : fitting.World) (gp acc ra : ℕ) (m : Bytes) (map : Map) (console : Console) (st : State) (s : Machine) → class_of v ≡ Some j
      → Received l j v args made (record q { pc = pc2; gp = gp; sp = q.sp - 4 * length args; acc = acc; ra = ra }) m map console st s → (method : MethodRef) → implementation l.table (chain l.table x) name ≡ Some method
      → Reaches l.world s 1 9 (stands (AtPlace l.world (record q { pc = l.world.place (method_label l.table method); gp = gp; sp = q.sp - 4 * length args; acc = acc; ra = pc3 }) m console (file_of l loaded at) at.line))
  goes_by_label at name c x q pc2 pc3 label receiver given' type c_within x_within small has pc3_is call label_is args v class made gp acc ra m map console st s is received method found =
      let p = l.table in
      let q2 : Pointers = record q { pc = pc2; gp = gp; sp = q.sp - 4 * length args; acc = acc; ra = ra } in
      let head = has_head l loaded v class m map st gp (q.sp - 4 * length args) acc is received.pictures received.self_is in
      let lies = head.lies in
      let place_is : l.world.place label ≡ l.world.place (method_label p method) =
      ap l.world.place label_is ∙ ap (λ (y : MethodRef). l.world.place (method_label p y)) (one_method c x c_within x_within name receiver type given' call method found) in
      subst (λ (y : ℕ). Reaches l.world s 1 9 (stands (AtPlace l.world (record q2 { pc = y; ra = pc3 }) m console (file_of l loaded at) at.line))) place_is
      (subst (λ (y : ℕ). Reaches l.world s 1 9 (stands (AtPlace l.world (record q2 { pc = l.world.place label; ra = y }) m console (file_of l loaded at) at.line))) pc3_is
      (wider l.world s 1 1 7 9 _ (omega arith) (omega arith) (goes_static l.world (file_of l loaded at) at.line label q2 m console s has received.at (omega arith) (omega arith))))

  -- the call by a label
  static_call : (at : Place) (name : List ℕ) (c k x : ClassId) (self : Value) (scope : List Binding) (env : Environment) (q : Pointers) (pc2 pc3 : ℕ) (label : Name) (receiver : Ty) (given' : List Ty) (type : Ty)
      → c.0 < length l.table → x.0 < length l.table → HasLines l.world pc2 (la 24 (file_of l loaded at) ∷ li 25 at.line ∷ bne 4 0 ∷ j dispatch_abort ∷ jal label ∷ []) → pc2 + 28 ≡ pc3
      → Conforms l.table c receiver (IsClass x) → (call : IsCall l.table c x name receiver given' type) → label ≡ method_label l.table call.method
      → Contains (constants l).strings (get_or l.files at.file []) → at.line < 2147483648
      → CallRuns l loaded calls begun_in b later sound c k self scope env q pc2 pc3 receiver given' (λ args v j. given (Some x) >>= λ y. dispatch l.table calls at y name v args)
      (λ args v j. behind (given (Some x)) (λ y. dispatch_begun l.table calls begun_in y name v args))
  static_call at name c k x self scope env q pc2 pc3 label receiver given' type c_within x_within has pc3_is conforms call label_is among small =
      λ args v j made gp acc ra m map console st s n is within below fits le scene received heap stack way watched.
      let p = l.table in
      let typed = loaded.buildable.typed in
      let below_x : Below p j x = below_trans p j (class_meant k receiver) x below (below_conforming p typed c k scene.k_within scene.below receiver (IsClass x) conforms) in
      let q2 : Pointers = record q { pc = pc2; gp = gp; sp = q.sp - 4 * length args; acc = acc; ra = ra } in
      let from : HEAP_START ≤ gp = let numbers = received.at.numbers in omega arith in
      let r = dispatch p calls at x name v args st n in
      let none : r.words ≡ 0 + r.words = omega arith in
      run_wider l r.outcome s n (64 * r.work + 60) (64 * (0 + r.work) + 60) _ (omega arith)
      (subst (λ (w : ℕ). Runs l s n (64 * r.work + 60) (Done l (record q { pc = pc3; gp = gp; sp = q.sp - 4 * length args + 4 * length args; acc = acc; ra = pc3 }) m map st w) r.outcome) none
      (dispatched l loaded basics calls begun_in b correct at v j x args made q2 m map console st s n pc3 name (file_of l loaded at) (implementation p (chain p x) name) refl le (let low = has.0.words.0.low in omega arith) x_within below_x
      (λ method found. arguments_here c k j x made args given' name receiver type scene.k_within scene.below x_within fits call method found) received
      (λ method found. goes_by_label at name c x q pc2 pc3 label receiver given' type c_within x_within small has pc3_is call label_is args v j made gp acc ra m map console st s is received method found)
      (string_pic l loaded m map st gp (q.sp - 4 * length args) from received.pictures (get_or l.files at.file []) among).0 small (omega arith) (omega arith) way (λ y h. watched y (x, st, n, refl, h))))

  -- the parts of its code

  pub arguments_code_at : (at : Place) (c : ClassId) (f : ℕ) (vs : List Named) (d first pc : ℕ) (name : List ℕ) (class : TypeRef) (t : Tree) (ts : Trees) → CodeAt l c f vs d first pc (trees.StaticDispatch at t class name ts)
      → AllCodeAt l c f vs d (first + tree_size t) pc ts
  arguments_code_at at c f vs d first pc name class t ts code_at = record {
    lines = has_front (whole l) (arguments_code (context l c f) (constants l) vs d (first + tree_size t) ts) _ pc code_at.lines;
    integers = λ n there. code_at.integers n (Contains-append_left (integers_in_all ts) (integers_in t) n there);
    strings = λ bytes there. code_at.strings bytes (Contains-append_left (strings_in_all l.files ts) (strings_in l.files t ++ asked.file_of l.files at) bytes there);
    within = code_at.within.4;
    small = (let z = code_at.small in omega arith);
    spans = λ x h. code_at.spans x (in_rest (span vs d first pc (trees.StaticDispatch at t class name ts)) (arguments_spans sizes (context l c f) (constants l) vs d (first + tree_size t) pc ts ++ spans sizes (context l c f) (constants l) vs (d + trees_count ts) first (pc + sizes (arguments_code (context l c f) (constants l) vs d (first + tree_size t) ts)) t) x (Contains-append_left (arguments_spans sizes (context l c f) (constants l) vs d (first + tree_size t) pc ts) (spans sizes (context l c f) (constants l) vs (d + trees_count ts) first (pc + sizes (arguments_code (context l c f) (constants l) vs d (first + tree_size t) ts)) t) x h));
    pushes = (own_placed l c f vs d first pc (trees.StaticDispatch at t class name ts) code_at).quiet.0;
  }

  receiver_code_at : (at : Place) (c : ClassId) (f : ℕ) (vs : List Named) (d first pc : ℕ) (name : List ℕ) (class : TypeRef) (t : Tree) (ts : Trees) → CodeAt l c f vs d first pc (trees.StaticDispatch at t class name ts)
      → CodeAt l c f vs (d + trees_count ts) first (pc + sizes (arguments_code (context l c f) (constants l) vs d (first + tree_size t) ts)) t
  receiver_code_at at c f vs d first pc name class t ts code_at = record {
    lines =
        let la = arguments_code (context l c f) (constants l) vs d (first + tree_size t) ts in
        has_front (whole l) (code (context l c f) (constants l) vs (d + trees_count ts) first t) _ (pc + sizes la) (has_back (whole l) la _ pc (pc + sizes la) refl code_at.lines);
    integers = λ n there. code_at.integers n (Contains-append_right (integers_in_all ts) (integers_in t) n there);
    strings = λ bytes there. code_at.strings bytes
        (Contains-append_right (strings_in_all l.files ts) (strings_in l.files t ++ asked.file_of l.files at) bytes (Contains-append_left (strings_in l.files t) (asked.file_of l.files at) bytes there));
    within = code_at.within.1;
    small = (let z = code_at.small in let few = count_low ts in omega arith);
    spans = λ x h. code_at.spans x (in_rest (span vs d first pc (trees.StaticDispatch at t class name ts)) (arguments_spans sizes (context l c f) (constants l) vs d (first + tree_size t) pc ts ++ spans sizes (context l c f) (constants l) vs (d + trees_count ts) first (pc + sizes (arguments_code (context l c f) (constants l) vs d (first + tree_size t) ts)) t) x (Contains-append_right (arguments_spans sizes (context l c f) (constants l) vs d (first + tree_size t) pc ts) (spans sizes (context l c f) (constants l) vs (d + trees_count ts) first (pc + sizes (arguments_code (context l c f) (constants l) vs d (first + tree_size t) ts)) t) x h));
  }

  file_among : (at : Place) (c : ClassId) (f : ℕ) (vs : List Named) (d first pc : ℕ) (name : List ℕ) (class : TypeRef) (t : Tree) (ts : Trees) → CodeAt l c f vs d first pc (trees.StaticDispatch at t class name ts)
      → Contains (constants l).strings (get_or l.files at.file [])
  file_among at c f vs d first pc name class t ts code_at =
      code_at.strings (get_or l.files at.file []) (Contains-append_right (strings_in_all l.files ts) (strings_in l.files t ++ asked.file_of l.files at) _
      (Contains-append_right (strings_in l.files t) (asked.file_of l.files at) _ (0, omega arith, refl)))

  pub as_lines : (pc : ℕ) (file : Name) (line : ℕ) (label : Name) → HasLines l.world pc (call_static_lines file line label) → HasLines l.world pc (la 24 file ∷ li 25 line ∷ bne 4 0 ∷ j dispatch_abort ∷ jal label ∷ [])
  unfolding call_static_lines
  as_lines pc file line label has = has

  call_sizes : (file : Name) (line : ℕ) (label : Name) → sizes (call_static_lines file line label) ≡ 28
  unfolding call_static_lines
  call_sizes file line label = refl

  pub static_dispatch_correct : (at : Place) (t : Tree) (class : TypeRef) (name : List ℕ) (ts : Trees) → Correct l calls begun_in b t → AllCorrect l calls begun_in b ts → Correct l calls begun_in b (trees.StaticDispatch at t class name ts)
  static_dispatch_correct at t class name ts head tail = record {
    runs = λ c f k self scope vs env made d first q m map console st s n type le begins (receiver, given', K, has, have, denotes, conforms, call) code_at room watched.
        let p = l.table in
        let typed = loaded.buildable.typed in
        let scene = begins.scene in
        let la = arguments_code (context l c f) (constants l) vs d (first + tree_size t) ts in
        let lb = code (context l c f) (constants l) vs (d + trees_count ts) first t in
        let pc1 = q.pc + sizes la in
        let pc2 = pc1 + sizes lb in
        let pc3 = q.pc + sizes (code (context l c f) (constants l) vs d first (trees.StaticDispatch at t class name ts)) in
        let K' = types.class_meant p c class.name in
        let K_is : K' ≡ K = class_is p typed.whole c scene.c_within class.name K denotes in
        let file = file_of l loaded at in
        let label = method_label p (method_in p K' name) in
        let label_is : label ≡ method_label p call.method =
        ap (λ (x : ClassId). method_label p (method_in p x name)) K_is ∙ ap (method_label p) (method_named p typed.whole c scene.c_within K denotes.0 name call.method call.found) in
        let lc : List Line = call_static_lines file at.line label in
        let sum_la = sizes_append l.world la (lb ++ lc) in
        let sum_lb = sizes_append l.world lb lc in
        let has_lines : HasLines l.world pc2 lc =
        quiet l lc pc2 pc3 (omega arith) (own_placed l c f vs d first q.pc (trees.StaticDispatch at t class name ts) code_at).quiet.1 (has_back (whole l) lb lc pc1 pc2 refl (has_back (whole l) la (lb ++ lc) q.pc pc1 refl code_at.lines)) in
        let lines = as_lines pc2 file at.line label has_lines in
        let sum : pc2 + 28 ≡ pc3 = omega (arith, sizes_append l.world la (lb ++ lc), sizes_append l.world lb lc, call_sizes file at.line label) in
        let among = file_among at c f vs d first q.pc name class t ts code_at in
        let small : at.line < 2147483648 = (let z = code_at.within.0.1 in omega arith) in
        let named : class_named p class.name ≡ Some K = class_by_name p typed.whole.table K class.name denotes.0 denotes.1 in
        form_runs l loaded calls begun_in b later sound at t ts (jal label ∷ []) (λ args v j. given (class_named p class.name) >>= λ y. dispatch p calls at y name v args)
        (λ args v j. behind (given (class_named p class.name)) (λ y. dispatch_begun p calls begun_in y name v args))
        (λ args v j. bind_later (given_later (class_named p class.name)) (λ y. dispatch_later p calls later at y name v args)) head tail
        c f k self scope vs env made d first q m map console st s n receiver given' pc1 pc2 pc3 le begins has have (arguments_code_at at c f vs d first q.pc name class t ts code_at) refl
        (receiver_code_at at c f vs d first q.pc name class t ts code_at) refl lines among small
        (subst (λ (o : Option ClassId). CallRuns l loaded calls begun_in b later sound c k self scope env q pc2 pc3 receiver given' (λ args v j. given o >>= λ y. dispatch p calls at y name v args) (λ args v j. behind (given o) (λ y. dispatch_begun p calls begun_in y name v args))) (sym named)
        (static_call at name c k K self scope env q pc2 pc3 label receiver given' type scene.c_within denotes.0 lines sum conforms call label_is among small)) room (λ x h. watched x (inr h));
  }
