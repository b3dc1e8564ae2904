-- In the code of an expression with at most one subexpression, the machine reaches the expression and its subexpression, each in the correct state (`Shown`).
use Rattle.std.proofs.Common.{ℕ, ◌≤◌, List, refl, arith, ◌≡◌, None}
use Rattle.std.specs.Prelude.{Bool as Truth, not, neg_ℤ, Contains}
use Rattle.cool_syntax.specs.declared.place.Place.{Place}
use Rattle.cool_syntax.specs.Tree.{Tree}
use Rattle.cool_syntax.specs.Tree as trees
use Rattle.mips_isa.specs.Bytes.{Bytes}
use Rattle.mips_isa.specs.Calls.{State as Machine}
use Rattle.cool_classes.specs.declared.class_id.ClassId.{ClassId}
use Rattle.cool_classes.specs.declared.class_id.Ty.{Ty}
use Rattle.cool_rules.specs.Scopes.{Binding}
use Rattle.cool_rules.specs.Typing.{HasType, bool_type, int_type}
use Rattle.cool_runtime.specs.Standing.{sizes}
use Rattle.cool_runtime.specs.Machines.{Pointers, Console}
use Rattle.cool_codegen.specs.Spans.{Span, span, spans}
use Rattle.cool_codegen.specs.Variables.{Named}
use Rattle.cool_meaning.specs.Values.{Value, Bool, State, Environment}
use Rattle.cool_meaning.specs.Meters.{Computation, seq, rule, give, ◌>>=◌}
use Rattle.cool_meaning.specs.BasicMethods.{as_number, as_truth}
use Rattle.cool_meaning.specs.Evaluation.{Call, Calls, assign, eval, exact, is_void}
use Rattle.cool_meaning.specs.FittingValues as fitting
use Rattle.cool_meaning.proofs.SoundParts.{AllCallsSound}
use Rattle.cool_simulation.specs.Loadings.{Loading, IsLoaded, constants, context}
use Rattle.cool_simulation.specs.Pictures.{Map}
use Rattle.cool_simulation.specs.Simulation.{Begins, CodeAt, IsSpan, Shown}
use Rattle.cool_simulation.specs.Shown.{AllShown, Comes}
use Rattle.cool_simulation.specs.Visits.{Visit, Visits, begun}
use Rattle.cool_simulation.proofs.ground.EvaluationLater.{ComesLater, assign_later, bind_later, exact_later, give_later, number_later, truth_later}
use Rattle.cool_simulation.proofs.shown.Comings.{Ample, ample_ruled, cases, room_first}
use Rattle.cool_simulation.proofs.shown.PartsShown.{ample_of, own_shown, part_shown}
use Rattle.cool_simulation.proofs.ground.CodeOfParts.{in_rest}

module _ (l : Loading) (loaded : IsLoaded l) (none : l.watch ≡ None) (calls : Calls) (begun_in : Call → Visits) (b : ℕ) (sound : AllCallsSound l.table calls b) where
  -- `Shown` for an expression whose part is first
  pub first_shown : (whole t : Tree) (F : Value → Computation Value) → ((v : Value) → ComesLater (F v)) → AllShown l calls begun_in b t → (c : ClassId) (f : ℕ) (k : ClassId) (self : Value) (scope : List Binding) (vs : List Named)
      (env : Environment) (made : fitting.World) (d first : ℕ) (q : Pointers) (m : Bytes) (map : Map) (console : Console) (st : State) (s : Machine) (n : ℕ) (type : Ty) (x : Visit) → n ≤ b
      → Begins l c k self scope vs env made d q m map console st s → HasType l.table c scope t type → CodeAt l c f vs d first q.pc whole → Ample l q 0 (rule (eval l.table calls self env t >>= F) st n)
      → ((y : Span) → Contains (spans sizes (context l c f) (constants l) vs d first q.pc whole) y → IsSpan l c f y)
      → ((y : Span) → Contains (spans sizes (context l c f) (constants l) vs d first q.pc t) y → Contains (spans sizes (context l c f) (constants l) vs d first q.pc whole) y)
      → begun l.table calls begun_in c f self env first t st n x → Comes l.world s (Shown l x)
  first_shown whole t F later shown c f k self scope vs env made d first q m map console st s n type x less begins has code_at ample among inside h =
      let r = eval l.table calls self env t st n in
      part_shown l calls begun_in b c f vs d first q.pc whole code_at among t shown k self scope vs env made d first q m map console st s n type x inside less begins has
      (room_first l r F q 16 (λ v t1 left. (later v).later t1 left) (ample_ruled l q 0 (seq r F) ample)) h

  -- with no part

  pub id_shown : (at : Place) (name : List ℕ) → AllShown l calls begun_in b (trees.Id at name)
  id_shown at name = record {
    shown = λ c f k self scope vs env made d first q m map console st s n type x less begins has code_at room among visit.
        own_shown l loaded none calls begun_in b sound c f k self scope vs env made d first q m map console st s n less begins (trees.Id at name) x (among (span vs d first q.pc (trees.Id at name)) (0, omega arith, refl)) visit;
  }

  pub int_shown : (at : Place) (value : ℕ) → AllShown l calls begun_in b (trees.Int at value)
  int_shown at value = record {
    shown = λ c f k self scope vs env made d first q m map console st s n type x less begins has code_at room among visit.
        own_shown l loaded none calls begun_in b sound c f k self scope vs env made d first q m map console st s n less begins (trees.Int at value) x (among (span vs d first q.pc (trees.Int at value)) (0, omega arith, refl)) visit;
  }

  pub str_shown : (at : Place) (bytes : List ℕ) → AllShown l calls begun_in b (trees.Str at bytes)
  str_shown at bytes = record {
    shown = λ c f k self scope vs env made d first q m map console st s n type x less begins has code_at room among visit.
        own_shown l loaded none calls begun_in b sound c f k self scope vs env made d first q m map console st s n less begins (trees.Str at bytes) x (among (span vs d first q.pc (trees.Str at bytes)) (0, omega arith, refl)) visit;
  }

  pub bool_shown : (at : Place) (value : Truth) → AllShown l calls begun_in b (trees.Bool at value)
  bool_shown at value = record {
    shown = λ c f k self scope vs env made d first q m map console st s n type x less begins has code_at room among visit.
        own_shown l loaded none calls begun_in b sound c f k self scope vs env made d first q m map console st s n less begins (trees.Bool at value) x (among (span vs d first q.pc (trees.Bool at value)) (0, omega arith, refl)) visit;
  }

  -- with one part

  pub assign_shown : (at : Place) (name : List ℕ) (t : Tree) → AllShown l calls begun_in b t → AllShown l calls begun_in b (trees.Assign at name t)
  assign_shown at name t shown = record {
    shown = λ c f k self scope vs env made d first q m map console st s n type x less begins (declared, other, has, there, conforms) code_at room among visit.
        let whole = trees.Assign at name t in
        let own = span vs d first q.pc whole in
        let xt = spans sizes (context l c f) (constants l) vs d first q.pc t in
        cases visit
        (λ e. own_shown l loaded none calls begun_in b sound c f k self scope vs env made d first q m map console st s n less begins whole x (among own (0, omega arith, refl)) e)
        (λ h. first_shown whole t (λ v. assign env name v) (λ v. assign_later env name v) shown c f k self scope vs env made d first q m map console st s n type x less begins has code_at
        (ample_of l loaded none calls begun_in b sound c f k self scope vs env made d first q m map console st s n less begins whole type (declared, other, has, there, conforms) room) among (λ y i. in_rest own xt y i) h);
  }

  pub is_void_shown : (at : Place) (t : Tree) → AllShown l calls begun_in b t → AllShown l calls begun_in b (trees.IsVoid at t)
  is_void_shown at t shown = record {
    shown = λ c f k self scope vs env made d first q m map console st s n type x less begins has code_at room among visit.
        let whole = trees.IsVoid at t in
        let own = span vs d first q.pc whole in
        let xt = spans sizes (context l c f) (constants l) vs d first q.pc t in
        cases visit
        (λ e. own_shown l loaded none calls begun_in b sound c f k self scope vs env made d first q m map console st s n less begins whole x (among own (0, omega arith, refl)) e)
        (λ h. first_shown whole t (λ v. give (Bool (is_void v))) (λ v. give_later (Bool (is_void v))) shown c f k self scope vs env made d first q m map console st s n has.0 x less begins has.1 code_at
        (ample_of l loaded none calls begun_in b sound c f k self scope vs env made d first q m map console st s n less begins whole type has room) among (λ y i. in_rest own xt y i) h);
  }

  pub not_shown : (at : Place) (t : Tree) → AllShown l calls begun_in b t → AllShown l calls begun_in b (trees.Not at t)
  not_shown at t shown = record {
    shown = λ c f k self scope vs env made d first q m map console st s n type x less begins has code_at room among visit.
        let whole = trees.Not at t in
        let own = span vs d first q.pc whole in
        let xt = spans sizes (context l c f) (constants l) vs d first q.pc t in
        cases visit
        (λ e. own_shown l loaded none calls begun_in b sound c f k self scope vs env made d first q m map console st s n less begins whole x (among own (0, omega arith, refl)) e)
        (λ h. first_shown whole t (λ v. as_truth v >>= λ o. give (Bool (not o))) (λ v. bind_later (truth_later v) (λ o. give_later (Bool (not o)))) shown c f k self scope vs env made d first q m map console st s n bool_type x
        less begins has.0 code_at (ample_of l loaded none calls begun_in b sound c f k self scope vs env made d first q m map console st s n less begins whole type has room) among (λ y i. in_rest own xt y i) h);
  }

  pub neg_shown : (at : Place) (t : Tree) → AllShown l calls begun_in b t → AllShown l calls begun_in b (trees.Neg at t)
  neg_shown at t shown = record {
    shown = λ c f k self scope vs env made d first q m map console st s n type x less begins has code_at room among visit.
        let whole = trees.Neg at t in
        let own = span vs d first q.pc whole in
        let xt = spans sizes (context l c f) (constants l) vs d first q.pc t in
        cases visit
        (λ e. own_shown l loaded none calls begun_in b sound c f k self scope vs env made d first q m map console st s n less begins whole x (among own (0, omega arith, refl)) e)
        (λ h. first_shown whole t (λ v. as_number v >>= λ i. exact at (neg_ℤ i)) (λ v. bind_later (number_later v) (λ i. exact_later at (neg_ℤ i))) shown c f k self scope vs env made d first q m map console st s n int_type x
        less begins has.0 code_at (ample_of l loaded none calls begun_in b sound c f k self scope vs env made d first q m map console st s n less begins whole type has room) among (λ y i. in_rest own xt y i) h);
  }
