-- In a call of a method, the machine reaches the code of the body after the method's entry, with the correct values of all names in scope (`Shown`).
use Rattle.std.proofs.Common.{◌≡◌, ℕ, ◌+◌, ◌<◌, ◌≤◌, inl, List, ◌++◌, map as each, length, Option, Some, refl, subst, arith, None}
use Rattle.std.specs.Prelude.{Contains, slice_get}
use Rattle.mips_isa.specs.Bytes.{Bytes}
use Rattle.mips_isa.specs.Calls.{State as Machine}
use Rattle.cool_syntax.specs.declared.file_tree.Feature.{Feature}
use Rattle.cool_syntax.specs.declared.file_tree.Feature.TheVariants.{Method}
use Rattle.cool_syntax.specs.declared.file_tree.Formal.{Formal}
use Rattle.cool_syntax.specs.declared.file_tree.MethodDef.{MethodDef}
use Rattle.cool_syntax.specs.Tree.{Tree}
use Rattle.cool_classes.specs.declared.class_id.ClassId.{ClassId}
use Rattle.cool_classes.specs.declared.method.MethodRef.TheVariants.{User}
use Rattle.cool_classes.specs.Chains.{Below, features_of}
use Rattle.cool_classes.specs.Features.{HasMethod, attributes_of, formals_in, formals_of}
use Rattle.cool_rules.specs.Typing.{attributes_in_scope, formals_in_scope}
use Rattle.cool_runtime.specs.Standing.{sizes}
use Rattle.cool_runtime.specs.CodeOfCalls.{enter_lines}
use Rattle.cool_runtime.specs.Machines.{At, Pointers, Console}
use Rattle.cool_runtime.proofs.Calling.{enters, with_frame}
use Rattle.cool_layout.specs.Labels.{method_label}
use Rattle.cool_codegen.specs.Features.{attributes_in, with_formals}
use Rattle.cool_codegen.specs.Pieces.{mark_lines}
use Rattle.cool_codegen.specs.Spans.{Span, spans}
use Rattle.cool_meaning.specs.Values.{Value, State}
use Rattle.cool_meaning.specs.Meters.{Stuck, Metered, join}
use Rattle.cool_meaning.specs.Lookups.{environment_of, formal_names, located, method_in}
use Rattle.cool_meaning.specs.BasicMethods.{locate_all}
use Rattle.cool_meaning.specs.Evaluation.{Body, Call, Calls, run_call, run_method}
use Rattle.cool_meaning.specs.FittingValues.{AllFit, meant}
use Rattle.cool_meaning.specs.FittingValues as fitting
use Rattle.cool_meaning.proofs.Later.{after_on, later_same}
use Rattle.cool_meaning.proofs.MethodsOfTables.{defined}
use Rattle.cool_simulation.specs.Loadings.{Loading, IsLoaded, constants, context}
use Rattle.cool_simulation.specs.Pictures.{Map}
use Rattle.cool_simulation.specs.Simulation.{Called, Correct, Room, IsSpan, Shown}
use Rattle.cool_simulation.specs.Shown.{AllShown, Comes}
use Rattle.cool_simulation.specs.Visits.{Visit, Visits, begun, call_begun, method_begun}
use Rattle.cool_simulation.proofs.calls.Entries.{entry_map, entry_of, located_in}
use Rattle.cool_simulation.proofs.calls.Methods.{body_at, body_room, called_is, comes, enter_there, entered_at, fine, limits, typed, way_here}
use Rattle.cool_simulation.proofs.forms.NewMeaning.{located_all}
use Rattle.cool_simulation.proofs.ground.EvaluationLater.{CallsLater, eval_later}
use Rattle.cool_simulation.proofs.ground.LargerMaps.{numbers}
use Rattle.cool_simulation.proofs.ground.PartsOfRuns.{way_of}
use Rattle.cool_simulation.proofs.shown.Comings.{comes_behind, on_value, value_behind}

module _ (l : Loading) (loaded : IsLoaded l) (none : l.watch ≡ None) (calls : Calls) (begun_in : Call → Visits) (b : ℕ) (later : CallsLater calls) (IsGood : Tree → Type 0) (forms : (t : Tree) → IsGood t → Correct l calls begun_in b t)
    (shown : (t : Tree) → IsGood t → AllShown l calls begun_in b t) where
  -- the spans of a method's body, from where it begins
  body_among : (owner : ClassId) (i : ℕ) (def : MethodDef) (pc : ℕ) → slice_get (features_of l.table owner) i ≡ Some (Method def) → pc ≡ l.world.place (method_label l.table (User owner i)) → (y : Span)
      → Contains (spans sizes (context l owner i) (constants l) (with_formals l.table def.formals (attributes_in l.table owner)) 0 0 (pc + 36) def.body) y → IsSpan l owner i y
  unfolding mark_lines
  body_among owner i def pc there begins y h =
      let label = method_label l.table (User owner i) in
      let same : pc + 36 ≡ l.world.place label + sizes (mark_lines label) + sizes enter_lines = omega arith in
      inl (def, there, subst (λ a. Contains (spans sizes (context l owner i) (constants l) (with_formals l.table def.formals (attributes_in l.table owner)) 0 0 a def.body) y) same h)

  method_shown : (owner : ClassId) (i : ℕ) (def : MethodDef) (within : owner.0 < length l.table) (there : slice_get (features_of l.table owner) i ≡ Some (Method def)) (good : IsGood def.body) (k : ClassId) (self : Value) (vs : List Value)
      (made : fitting.World) (q : Pointers) (m : Bytes) (map : Map) (console : Console) (st : State) (s : Machine) (n : ℕ) (x : Visit) (le : n ≤ b) (below : Below l.table k owner) (called : Called l k self vs made q m map console st s)
      (begins : q.pc ≡ l.world.place (method_label l.table (User owner i))) (args : AllFit l.table made vs (each (meant l.table k) (each (λ (f : Formal). f.declared.name) def.formals)))
      → Room l q 12 (run_method l.table calls self vs (Some def) st n) → ((run_method l.table calls self vs (Some def) st n).outcome ≡ Stuck → ⊥) → method_begun l.table calls begun_in owner i self vs (Some def) st n x
      → Comes l.world s (Shown l x)
  method_shown owner i def within there good k self vs made q m map console st s n x le below called begins args room alive visit =
      let p = l.table in
      let env = located (formal_names def.formals) (numbers (length st.store) (length vs)) ++ environment_of p self in
      let named = with_formals p def.formals (attributes_in p owner) in
      let r = comes l loaded calls begun_in b later IsGood forms owner i def within there good k self vs made q m map console st s n le below called begins args in
      let is = called_is l loaded calls begun_in b later IsGood forms owner i def within there good k self vs made q m map console st s n le below called begins args in
      let room1 : Room l q 12 (join 0 0 0 r) = subst (λ (y : Metered Value). Room l q 12 y) is room in
      let alive1 : r.outcome ≡ Stuck → ⊥ = subst (λ (y : Metered Value). y.outcome ≡ Stuck → ⊥) is alive in
      let V = λ (ls : List ℕ). begun p calls begun_in owner i self (located (formal_names def.formals) ls ++ environment_of p self) 0 def.body in
      let h : V (numbers (length st.store) (length vs)) (located_in st vs) n x =
      subst (λ (y : Metered (List ℕ)). on_value (λ ls t left. V ls t left x) y.outcome) (located_all vs st n) (value_behind (locate_all vs) V st n x visit) in
      let typing = typed l loaded calls begun_in b later IsGood forms owner i def within there good k self vs made q m map console st s n le below called begins args in
      let stack = room1.stack in
      let laid = l.world.laid in
      let numbers1 = called.at.numbers in
      let way = way_of l st r.outcome (after_on st (located_in st vs) r.outcome (later_same st (located_in st vs) refl refl) ((eval_later p calls later self env def.body).later (located_in st vs) n)) alive1 room1.way in
      comes_behind l.world s 0 12 (At l.world (entry_of q) (with_frame m q) console) (Shown l x)
      (enters l.world q m console s (limits l loaded calls begun_in b later IsGood forms) (enter_there l loaded calls begun_in b later IsGood forms owner i def within there good k self vs made q m map console st s n le below called begins args) called.at
      (omega arith) (way_here l loaded calls begun_in b later IsGood forms st console called.shows way))
      (λ s1 at1. (shown def.body good).shown owner i k self (formals_in_scope p def.formals ++ attributes_in_scope p (attributes_of p typing.chain)) named env
      (fine l loaded calls begun_in b later IsGood forms owner i def within there good k self vs made q m map console st s n le below called begins args).world 0 0 (entry_of q) (with_frame m q) (entry_map map st vs q) console (located_in st vs) s1 n typing.type x le
      (entered_at l loaded calls begun_in b later IsGood forms owner i def within there good k self vs made q m map console st s n le below called begins args s1 at1) typing.has
      (body_at l loaded calls begun_in b later IsGood forms owner i def within there good k self vs made q m map console st s n le below called begins args)
      (body_room l loaded calls begun_in b later IsGood forms owner i def within there good k self vs made q m map console st s n le below called begins args room1)
      (λ y i'. body_among owner i def q.pc there begins y i') h)

  -- a call of a method
  pub body_shown : ((c : ClassId) (j : ℕ) (def : MethodDef) → c.0 < length l.table → slice_get (features_of l.table c) j ≡ Some (Method def) → IsGood def.body)
      → (owner : ClassId) (i : ℕ) (self : Value) (k : ClassId) (vs : List Value) (made : fitting.World) (q : Pointers) (m : Bytes) (map : Map) (console : Console) (st : State) (s : Machine) (n : ℕ) (x : Visit) → n ≤ b
      → HasMethod l.table (User owner i) → Below l.table k owner → Called l k self vs made q m map console st s → q.pc ≡ l.world.place (method_label l.table (User owner i))
      → AllFit l.table made vs (each (meant l.table k) (formals_of l.table (User owner i))) → Room l q 12 (run_call l.table calls (Body owner i self vs) st n) → ((run_call l.table calls (Body owner i self vs) st n).outcome ≡ Stuck → ⊥)
      → call_begun l.table calls begun_in (Body owner i self vs) st n x → Comes l.world s (Shown l x)
  body_shown good owner i self k vs made q m map console st s n x le has below called begins args room alive visit =
      let (def, there) = defined (slice_get (features_of l.table owner) i) has.1 in
      method_shown owner i def has.0 there (good owner i def has.0 there) k self vs made q m map console st s n x le below called begins
      (subst (λ (o : Option Feature). AllFit l.table made vs (each (meant l.table k) (formals_in o))) there args)
      (subst (λ (o : Option Feature). Room l q 12 (run_method l.table calls self vs (method_in o) st n)) there room)
      (subst (λ (o : Option Feature). (run_method l.table calls self vs (method_in o) st n).outcome ≡ Stuck → ⊥) there alive)
      (subst (λ (o : Option Feature). method_begun l.table calls begun_in owner i self vs (method_in o) st n x) there visit)
