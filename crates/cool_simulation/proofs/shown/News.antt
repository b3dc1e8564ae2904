-- In the code of `new`, the machine reaches the initial values of the new object after the copy of its prototype, each in the correct state (`Shown`).
use Rattle.std.proofs.Common.{◌≡◌, ◌≢◌, ℕ, zero, suc, ◌+◌, ◌*◌, ◌<◌, ◌≤◌, List, ◌++◌, length, Option, Some, sym, ap, ◌∙◌, refl, subst, arith, None}
use Rattle.std.specs.Prelude.{Bool as Truth, if◌then◌else◌}
use Rattle.mips_isa.specs.Bytes.{Bytes}
use Rattle.mips_isa.specs.Calls.{State as Machine}
use Rattle.cool_syntax.specs.declared.place.Place.{Place}
use Rattle.cool_syntax.specs.declared.type_ref.TypeRef.{TypeRef}
use Rattle.cool_syntax.specs.Tree as trees
use Rattle.cool_classes.specs.declared.class_id.ClassId.{ClassId}
use Rattle.cool_classes.specs.declared.class_id.Ty.{Ty}
use Rattle.cool_classes.specs.declared.class_id.Ty.TheVariants.{Class as IsClass, SelfType}
use Rattle.cool_classes.specs.Features.{Denotes}
use Rattle.cool_classes.specs.LawfulTables.{MayInherit}
use Rattle.cool_classes.specs.Names.{self_type}
use Rattle.cool_rules.specs.Rules.{class_named, type_meant}
use Rattle.cool_rules.specs.Scopes.{Binding}
use Rattle.cool_rules.proofs.ChainsOfTables.{below_itself}
use Rattle.cool_rules.proofs.NamesOfTables.{class_by_name}
use Rattle.cool_rules.proofs.RulesOfTables.{meant_is}
use Rattle.cool_runtime.specs.Reaches.{Reaches, stands, OnTheWay}
use Rattle.cool_runtime.specs.Standing.{HasLines}
use Rattle.cool_runtime.specs.Machines.{At, Pointers, Console}
use Rattle.cool_layout.specs.Labels.{initializer, prototype}
use Rattle.cool_codegen.specs.Code.{new_code}
use Rattle.cool_codegen.specs.Spans.{span}
use Rattle.cool_codegen.specs.Variables.{Named}
use Rattle.cool_meaning.specs.Values.{Value, Obj, State, Environment, class_of}
use Rattle.cool_meaning.specs.Meters.{Metered, Computation, Outcome, Stuck}
use Rattle.cool_meaning.specs.Lookups.{attributes, class_made, default_values}
use Rattle.cool_meaning.specs.BasicMethods.{draw, locate_all}
use Rattle.cool_meaning.specs.Evaluation.{Call, Calls, Initials, make}
use Rattle.cool_meaning.specs.FittingValues as fitting
use Rattle.cool_meaning.proofs.SoundParts.{AllCallsSound, is_other}
use Rattle.cool_simulation.specs.Loadings.{Loading, IsLoaded, whole}
use Rattle.cool_simulation.specs.Pictures.{Map}
use Rattle.cool_simulation.specs.Simulation.{AllCallsCorrect, Begins, Way, Shown}
use Rattle.cool_simulation.specs.Shown.{AllCallsShown, AllShown, Comes}
use Rattle.cool_simulation.specs.Visits.{Visit, Visits, behind, behind_step, made as object_begun}
use Rattle.cool_simulation.proofs.ground.EvaluationLater.{CallsLater}
use Rattle.cool_simulation.proofs.ground.LargerMaps.{numbers, with_values}
use Rattle.cool_simulation.proofs.ground.PartsOfRuns.{way_of}
use Rattle.cool_simulation.proofs.forms.NewCodes.{create_low, created, created_own, own_low}
use Rattle.cool_simulation.proofs.forms.NewCorrect.{making_of}
use Rattle.cool_simulation.proofs.forms.NewMeaning.{located_all, made_call, made_object, made_values, make_plain, object_made, object_stored, outcome_with}
use Rattle.cool_simulation.proofs.forms.NewRuns.{Making, attributes_many, copy_of, entry, initializer_called, map1, size_of, st1}
use Rattle.cool_simulation.proofs.forms.News.{computed, way_with}
use Rattle.lists.proofs.EqualBytes.{bytes_differ, bytes_same}
use Rattle.cool_simulation.proofs.shown.Comings.{Ample, cases, comes_behind, on_value, value_behind}
use Rattle.cool_simulation.proofs.shown.PartsShown.{ample_of, own_shown}
use Rattle.cool_simulation.proofs.ground.Passages.{plain, unwatched}
use Rattle.cool_simulation.proofs.ground.NoMarks.{plain_free}
use Rattle.cool_simulation.proofs.ground.Heads.{visit, visit_shown}
use Rattle.cool_simulation.proofs.ground.CodeOfParts.{own_placed}

-- an object whose call is stuck is stuck
with_stuck : (v : Value) (o : Outcome Value) → o ≡ Stuck → outcome_with v o ≡ Stuck
unfolding outcome_with
with_stuck v o e = ap (outcome_with v) e

module _ (l : Loading) (is : IsLoaded l) (none : l.watch ≡ None) (calls : Calls) (begun_in : Call → Visits) (b : ℕ) (correct : AllCallsCorrect l calls begun_in b) (later : CallsLater calls) (shown : AllCallsShown l calls begun_in b) where
  -- the visits of a new object of a class
  abbrev begun_by : ClassId → Visits
  begun_by c = behind_step (behind (locate_all (default_values l.table (attributes l.table c))) (λ ls. behind draw (λ i. begun_in (Initials c (Obj c i ls)))))

  module _ (c : ClassId) (within : c.0 < length l.table) (plain : MayInherit c) (made : fitting.World) (q : Pointers) (m : Bytes) (map : Map) (console : Console) (st : State) (s : Machine) (making : Making l is made q m map console st s) where
    computed_shown : (ra a n : ℕ) (x : Visit) → ra < 4294967296 → n ≤ b
        → (q.gp + 4 * size_of l is c + 4 ≤ l.world.top → OnTheWay l.world console.output console.input
        → Reaches l.world s 1 (7 * size_of l is c + a) (stands (At l.world (entry l is q c ra) (copy_of l is m q c) console)))
        → Ample l q 0 (computed l is calls begun_in b correct later c within plain made q m map console st s making st n) → begun_by c st n x → Comes l.world s (Shown l x)
    computed_shown ra a zero x low le copies ample h = absurd h
    computed_shown ra a (suc n) x low le copies ample h =
        let p = l.table in
        let vs = made_values p c in
        let v = made_object p c st in
        let r = made_call p calls c st n in
        let this = object_made p calls c st n in
        let many = attributes_many l is c within plain made q m map console st s making in
        let heap = ample.room.heap in
        let stack = ample.room.stack in
        let words = this.words_are in
        let peak = this.peak_is in
        let way : Way l r.outcome = way_with l r.outcome v (subst (Way l) this.outcome_is ample.room.way) in
        let alive : r.outcome ≡ Stuck → ⊥ = λ e. ample.alive (this.outcome_is ∙ with_stuck v r.outcome e) in
        let shows = making.shows in
        let on_way : OnTheWay l.world st.output st.input = way_of l (with_values st vs) r.outcome ((later (Initials c v)).later (with_values st vs) n) alive way in
        let on_console : OnTheWay l.world console.output console.input =
        subst (λ (o : List ℕ). OnTheWay l.world o console.input) (sym shows.output) (subst (λ (i : List ℕ). OnTheWay l.world st.output i) (sym shows.input) on_way) in
        let V = λ (ls : List ℕ). behind draw (λ i. begun_in (Initials c (Obj c i ls))) in
        let h1 : V (numbers (length st.store) (length vs)) (record st { store = st.store ++ vs }) n x =
        subst (λ (y : Metered (List ℕ)). on_value (λ ls t left. V ls t left x) y.outcome) (located_all vs st n) (value_behind (locate_all vs) V st n x h) in
        let h2 : begun_in (Initials c v) (with_values st vs) n x = value_behind draw (λ i. begun_in (Initials c (Obj c i (numbers (length st.store) (length vs))))) (record st { store = st.store ++ vs }) n x h1 in
        comes_behind l.world s 1 (7 * size_of l is c + a) (At l.world (entry l is q c ra) (copy_of l is m q c) console) (Shown l x) (copies (omega arith) on_console)
        (λ u at. (shown n (omega arith)).initials c v c (object_stored p is.buildable.typed made c st within plain making.fits).world (entry l is q c ra) (copy_of l is m q c)
        (map1 l is c within plain made q m map console st s making) console (st1 l is c within plain made q m map console st s making) u n x (omega arith) within (below_itself p is.buildable.typed.whole c within)
        (initializer_called l is c within plain made q m map console st s making ra u low at) refl (record { heap = omega arith; stack = omega arith; way = way }) alive h2)

    -- the same by the class that is made
    pub made_shown : (ra a n : ℕ) (x : Visit) (o : Option ClassId) → o ≡ Some c → ra < 4294967296 → n ≤ b
        → (q.gp + 4 * size_of l is c + 4 ≤ l.world.top → OnTheWay l.world console.output console.input
        → Reaches l.world s 1 (7 * size_of l is c + a) (stands (At l.world (entry l is q c ra) (copy_of l is m q c) console)))
        → Ample l q 0 (make l.table calls o st n) → object_begun l.table calls begun_in o st n x → Comes l.world s (Shown l x)
    made_shown ra a n x o e low le copies ample h =
        let ample1 = subst (λ (y : Option ClassId). Ample l q 0 (make l.table calls y st n)) e ample in
        let h1 : object_begun l.table calls begun_in (Some c) st n x = subst (λ (y : Option ClassId). object_begun l.table calls begun_in y st n x) e h in
        computed_shown ra a n x low le copies (subst (λ (d : Computation Value). Ample l q 0 (d st n)) (make_plain l.table calls c plain) ample1) h1.1

  new_begins : (c k : ClassId) (self : Value) (scope : List Binding) (vs : List Named) (env : Environment) (made : fitting.World) (d : ℕ) (q : Pointers) (m : Bytes) (map : Map) (console : Console) (st : State) (s : Machine) (n : ℕ)
      (name : List ℕ) (type : Ty) (y x : Visit) → Shown l y s → n ≤ b → Begins l c k self scope vs env made d q m map console st s → Denotes l.table name type → HasLines (whole l) q.pc (new_code l.table (type_meant l.table name))
      → Ample l q 0 (make l.table calls (class_made l.table self name) st n) → object_begun l.table calls begun_in (class_made l.table self name) st n x → Comes l.world s (Shown l x)
  new_begins c k self scope vs env made d q m map console st s n name SelfType y x here le begins denotes has ample h =
      let typed = is.buildable.typed in
      let scene = begins.scene in
      let meant : type_meant l.table name ≡ SelfType = meant_is l.table typed.whole.table name SelfType denotes in
      let class : class_made l.table self name ≡ Some k = ap (λ (y : Truth). if y then class_of self else class_named l.table name) (bytes_same name self_type denotes) ∙ scene.class in
      let making = making_of l is calls begun_in b correct later c k self scope vs env made d q m map console st s begins in
      let lines = subst (λ (u : Ty). HasLines (whole l) q.pc (new_code l.table u)) meant has in
      made_shown k scene.k_within scene.plain made q m map console st s making (q.pc + 28 + 28) 30 n x (class_made l.table self name) class (let low = own_low (whole l) q.pc lines in omega arith) le
      (λ room way. plain l none s 1 (7 * size_of l is k + 30) _
      (created_own l is calls begun_in b correct later made q m map console st s making y (unwatched l none y) here k self scene.k_within scene.plain scene.class begins.self_is lines (plain_free l none (q.pc + 4) (q.pc + 56)) room way)) ample h
  new_begins c k self scope vs env made d q m map console st s n name (IsClass z) y x here le begins denotes has ample h =
      let typed = is.buildable.typed in
      let meant : type_meant l.table name ≡ IsClass z = meant_is l.table typed.whole.table name (IsClass z) denotes in
      let other : name ≢ self_type = λ same. typed.whole.table.no_self_type z denotes.0 (denotes.1 ∙ same) in
      let class : class_made l.table self name ≡ Some z =
      ap (λ (u : Truth). if u then class_of self else class_named l.table name) (bytes_differ name self_type other) ∙ class_by_name l.table typed.whole.table z name denotes.0 denotes.1 in
      let making = making_of l is calls begun_in b correct later c k self scope vs env made d q m map console st s begins in
      let lines = subst (λ (u : Ty). HasLines (whole l) q.pc (new_code l.table u)) meant has in
      let begun1 : object_begun l.table calls begun_in (Some z) st n x = subst (λ (u : Option ClassId). object_begun l.table calls begun_in u st n x) class h in
      let inherits : MayInherit z = record { no_int = is_other z.0 2 begun1.0.0; no_bool = is_other z.0 3 begun1.0.1; no_string = is_other z.0 4 begun1.0.2 } in
      made_shown z denotes.0 inherits made q m map console st s making (q.pc + 16) 20 n x (class_made l.table self name) class (let low = create_low (whole l) q.pc (prototype l.table z) (initializer l.table z) lines in omega arith) le
      (λ room way. plain l none s 1 (7 * size_of l is z + 20) _
      (created l is calls begun_in b correct later made q m map console st s making y (unwatched l none y) here z denotes.0 lines (plain_free l none (q.pc + 4) (q.pc + 16)) room way)) ample h

  pub new_shown : AllCallsSound l.table calls b → (at : Place) (class : TypeRef) → AllShown l calls begun_in b (trees.New at class)
  new_shown sound at class = record {
    shown = λ c f k self scope vs env made d first q m map console st s n type x le begins has code_at room among begun_here.
        let whole = trees.New at class in
        let own = span vs d first q.pc whole in
        cases begun_here
        (λ e. own_shown l is none calls begun_in b sound c f k self scope vs env made d first q m map console st s n le begins whole x (among own (0, omega arith, refl)) e)
        (λ h. new_begins c k self scope vs env made d q m map console st s n class.name type (visit c f first whole self env st n) x
        (visit_shown l c f k self scope vs env made d first q m map console st s n whole begins (own_placed l c f vs d first q.pc whole code_at)) le begins has code_at.lines
        (ample_of l is none calls begun_in b sound c f k self scope vs env made d first q m map console st s n le begins whole type has room) h);
  }
