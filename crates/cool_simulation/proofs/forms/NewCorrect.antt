-- The code generated for `new` simulates its evaluation for each class, including the basic ones: the machine reaches the new object, state or error that the
-- semantics gives.
use Rattle.std.proofs.Common.{◌≡◌, ◌≢◌, ℕ, ◌+◌, ◌-◌, ◌*◌, ◌≤◌, List, Option, Some, Bool as Truth, ap, sym, ◌∙◌, refl, subst, arith, inl, inr}
use Rattle.std.specs.Prelude.{if◌then◌else◌}
use Rattle.cool_syntax.specs.declared.place.Place.{Place}
use Rattle.cool_syntax.specs.declared.type_ref.TypeRef.{TypeRef}
use Rattle.mips_isa.specs.Bytes.{Bytes}
use Rattle.mips_isa.specs.Calls.{State as Machine}
use Rattle.cool_syntax.specs.Tree as trees
use Rattle.cool_classes.specs.declared.class_id.ClassId.{ClassId}
use Rattle.cool_classes.specs.declared.class_id.Ty.{Ty}
use Rattle.cool_classes.specs.declared.class_id.Ty.TheVariants.{Class as IsClass, SelfType}
use Rattle.cool_classes.specs.Features.{Denotes}
use Rattle.cool_classes.specs.Names.{self_type}
use Rattle.cool_rules.specs.Rules.{type_meant, class_named}
use Rattle.cool_rules.specs.Scopes.{Binding}
use Rattle.cool_rules.proofs.NamesOfTables.{class_by_name}
use Rattle.cool_rules.proofs.RulesOfTables.{meant_is}
use Rattle.cool_runtime.specs.Standing.{HasLines, sizes}
use Rattle.cool_runtime.specs.Machines.{Pointers, Console}
use Rattle.cool_layout.specs.Labels.{prototype, initializer}
use Rattle.cool_codegen.specs.Code.{new_code}
use Rattle.cool_codegen.specs.Pieces.{create_lines, create_self_lines}
use Rattle.cool_codegen.specs.Variables.{Named}
use Rattle.cool_meaning.specs.Values.{Value, State, Environment, class_of}
use Rattle.cool_meaning.specs.Lookups.{class_made}
use Rattle.cool_meaning.specs.Evaluation.{Call, Calls, make}
use Rattle.cool_meaning.specs.FittingValues as fitting
use Rattle.cool_simulation.specs.Loadings.{Loading, IsLoaded, Watched, marks, whole}
use Rattle.cool_simulation.specs.Pictures.{Map}
use Rattle.cool_simulation.specs.Simulation.{Begins, Runs, Room, Done, Correct, AllCallsCorrect, Shown}
use Rattle.cool_simulation.specs.Visits.{Visit, Visits, made as object_begun}
use Rattle.cool_simulation.proofs.ground.EvaluationLater.{CallsLater}
use Rattle.cool_simulation.proofs.ground.PartsBehind.{pic_fits}
use Rattle.cool_simulation.proofs.forms.NewRuns.{Making}
use Rattle.cool_simulation.proofs.forms.NewCodes.{class_comes, own_comes}
use Rattle.lists.proofs.EqualBytes.{bytes_differ, bytes_same}
use Rattle.cool_simulation.specs.Quiet.{IsFree}
use Rattle.cool_simulation.proofs.ground.CodeOfParts.{own_placed}
use Rattle.cool_simulation.proofs.ground.Heads.{visit, visit_shown}

pub sizes_create : (proto init : List ℕ) → sizes (create_lines proto init) ≡ 16
unfolding create_lines
sizes_create proto init = refl

pub sizes_create_self : sizes create_self_lines ≡ 56
unfolding create_self_lines
sizes_create_self = refl

module _ (l : Loading) (is : IsLoaded l) (calls : Calls) (begun_in : Call → Visits) (b : ℕ) (correct : AllCallsCorrect l calls begun_in b) (later : CallsLater calls) where
  -- a new object may be made at the beginning of code
  pub making_of : (c k : ClassId) (self : Value) (scope : List Binding) (vs : List Named) (env : Environment) (made : fitting.World) (d : ℕ) (q : Pointers) (m : Bytes) (map : Map) (console : Console) (st : State) (s : Machine)
      → Begins l c k self scope vs env made d q m map console st s → Making l is made q m map console st s
  making_of c k self scope vs env made d q m map console st s begins =
      let depth = begins.depth in
      let frame = begins.frame in
      let laid = l.world.laid in
      let numbers = begins.at.numbers in
      record {
        at = begins.at;
        shows = begins.shows;
        pictures = begins.pictures;
        frame = omega arith;
        fits = begins.fits;
        saved = (omega arith, pic_fits l.world l.table l.memory m map st q.gp q.sp self q.self (omega arith) begins.pictures begins.self_is);
      }

  -- the lines for a type, and what is made of the class that they mean
  abbrev Comes : Pointers → Bytes → Map → State → Machine → ℕ → Ty → Option ClassId → Type 0
  Comes q m map st s n ty o = Room l q 0 (make l.table calls o st n) → ((y : Visit) → object_begun l.table calls begun_in o st n y → Watched l.watch y)
      → Runs l s n (64 * (make l.table calls o st n).work - 4) (Done l (record q { pc = q.pc + sizes (new_code l.table ty) }) m map st (make l.table calls o st n).words) (make l.table calls o st n).outcome

  comes_as : (q : Pointers) (m : Bytes) (map : Map) (st : State) (s : Machine) (n : ℕ) (ty ty' : Ty) (o o' : Option ClassId) → ty' ≡ ty → o' ≡ o → Comes q m map st s n ty o → Comes q m map st s n ty' o'
  comes_as q m map st s n ty ty' o o' e f h = subst (λ (x : Ty). Comes q m map st s n x o') (sym e) (subst (λ (x : Option ClassId). Comes q m map st s n ty x) (sym f) h)

  comes_at : (q : Pointers) (m : Bytes) (map : Map) (st : State) (s : Machine) (n : ℕ) (o : Option ClassId) (a c : ℕ) → a ≡ c
      → (Room l q 0 (make l.table calls o st n) → ((y : Visit) → object_begun l.table calls begun_in o st n y → Watched l.watch y)
      → Runs l s n (64 * (make l.table calls o st n).work - 4) (Done l (record q { pc = a }) m map st (make l.table calls o st n).words) (make l.table calls o st n).outcome)
      → Room l q 0 (make l.table calls o st n) → ((y : Visit) → object_begun l.table calls begun_in o st n y → Watched l.watch y)
      → Runs l s n (64 * (make l.table calls o st n).work - 4) (Done l (record q { pc = c }) m map st (make l.table calls o st n).words) (make l.table calls o st n).outcome
  comes_at q m map st s n o a c e h room all =
      subst (λ (x : ℕ). Runs l s n (64 * (make l.table calls o st n).work - 4) (Done l (record q { pc = x }) m map st (make l.table calls o st n).words) (make l.table calls o st n).outcome) e (h room all)

  new_comes : (c k : ClassId) (self : Value) (scope : List Binding) (vs : List Named) (env : Environment) (made : fitting.World) (d : ℕ) (q : Pointers) (m : Bytes) (map : Map) (console : Console) (st : State) (s : Machine) (n : ℕ)
      (name : List ℕ) (type : Ty) (x : Visit) → Watched l.watch x → Shown l x s → n ≤ b → Begins l c k self scope vs env made d q m map console st s → Denotes l.table name type → HasLines (whole l) q.pc (new_code l.table (type_meant l.table name))
      → IsFree (marks l.watch) (q.pc + 4) (q.pc + sizes (new_code l.table (type_meant l.table name)))
      → Comes q m map st s n (type_meant l.table name) (class_made l.table self name)
  new_comes c k self scope vs env made d q m map console st s n name SelfType x watched shown le begins denotes has free =
      let typed = is.buildable.typed in
      let scene = begins.scene in
      let meant : type_meant l.table name ≡ SelfType = meant_is l.table typed.whole.table name SelfType denotes in
      let class : class_made l.table self name ≡ Some k = ap (λ (x : Truth). if x then class_of self else class_named l.table name) (bytes_same name self_type denotes) ∙ scene.class in
      let ends : q.pc + 28 + 28 ≡ q.pc + sizes create_self_lines = omega (arith, sizes_create_self) in
      comes_as q m map st s n SelfType (type_meant l.table name) (Some k) (class_made l.table self name) meant class
      (comes_at q m map st s n (Some k) (q.pc + 28 + 28) (q.pc + sizes create_self_lines) ends
      (own_comes l is calls begun_in b correct later made q m map console st s (making_of c k self scope vs env made d q m map console st s begins) x watched shown k self scene.k_within scene.plain scene.class begins.self_is n le
      (subst (λ (x : Ty). HasLines (whole l) q.pc (new_code l.table x)) meant has)
      (λ i even from to. subst (λ (x : Ty). IsFree (marks l.watch) (q.pc + 4) (q.pc + sizes (new_code l.table x))) meant free i even from (omega (arith, sizes_create_self)))))
  new_comes c k self scope vs env made d q m map console st s n name (IsClass y) x watched shown le begins denotes has free =
      let typed = is.buildable.typed in
      let meant : type_meant l.table name ≡ IsClass y = meant_is l.table typed.whole.table name (IsClass y) denotes in
      let other : name ≢ self_type = λ same. typed.whole.table.no_self_type y denotes.0 (denotes.1 ∙ same) in
      let class : class_made l.table self name ≡ Some y =
      ap (λ (z : Truth). if z then class_of self else class_named l.table name) (bytes_differ name self_type other) ∙ class_by_name l.table typed.whole.table y name denotes.0 denotes.1 in
      let size = sizes_create (prototype l.table y) (initializer l.table y) in
      let ends : q.pc + 16 ≡ q.pc + sizes (create_lines (prototype l.table y) (initializer l.table y)) = omega arith in
      comes_as q m map st s n (IsClass y) (type_meant l.table name) (Some y) (class_made l.table self name) meant class
      (comes_at q m map st s n (Some y) (q.pc + 16) (q.pc + sizes (create_lines (prototype l.table y) (initializer l.table y))) ends
      (class_comes l is calls begun_in b correct later made q m map console st s (making_of c k self scope vs env made d q m map console st s begins) x watched shown y denotes.0 n le
      (subst (λ (z : Ty). HasLines (whole l) q.pc (new_code l.table z)) meant has)
      (λ i even from to. subst (λ (z : Ty). IsFree (marks l.watch) (q.pc + 4) (q.pc + sizes (new_code l.table z))) meant free i even from (omega arith))))

  pub new_correct : (at : Place) (class : TypeRef) → Correct l calls begun_in b (trees.New at class)
  new_correct at class = record {
    runs = λ c f k self scope vs env made d first q m map console st s n type le begins typed here room watched.
        let placed = own_placed l c f vs d first q.pc (trees.New at class) here in
        let x = visit c f first (trees.New at class) self env st n in
        new_comes c k self scope vs env made d q m map console st s n class.name type x (watched x (inl refl))
        (visit_shown l c f k self scope vs env made d first q m map console st s n (trees.New at class) begins placed) le begins typed here.lines placed.quiet room (λ y h. watched y (inr h));
  }
