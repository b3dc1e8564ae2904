-- In the code of a block, the machine reaches each expression after the preceding one, with the correct values of all names in scope (`Shown`).
use Rattle.std.proofs.Common.{ℕ, ◌+◌, ◌≤◌, List, refl, arith, ◌≡◌, None}
use Rattle.std.specs.Prelude.{Contains}
use Rattle.std.proofs.lemmas.List.Elements.{Contains-append_left, Contains-append_right}
use Rattle.mips_isa.specs.Bytes.{Bytes}
use Rattle.mips_isa.specs.Calls.{State as Machine}
use Rattle.cool_syntax.specs.declared.place.Place.{Place}
use Rattle.cool_syntax.specs.Tree.{Tree, Trees, Last, More, tree_size}
use Rattle.cool_syntax.specs.Tree as trees
use Rattle.cool_classes.specs.declared.class_id.ClassId.{ClassId}
use Rattle.cool_classes.specs.declared.class_id.Ty.{Ty}
use Rattle.cool_rules.specs.Scopes.{Binding}
use Rattle.cool_rules.specs.Typing.{HaveItems, object_type}
use Rattle.cool_runtime.specs.Standing.{sizes}
use Rattle.cool_runtime.specs.Machines.{Pointers, Console}
use Rattle.cool_codegen.specs.Code.{code}
use Rattle.cool_codegen.specs.Spans.{Span, items_spans, span, spans}
use Rattle.cool_codegen.specs.Variables.{Named}
use Rattle.cool_meaning.specs.Values.{Value, Void, State, Environment}
use Rattle.cool_meaning.specs.Evaluation.{Call, Calls, eval, eval_items}
use Rattle.cool_meaning.specs.FittingValues as fitting
use Rattle.cool_meaning.proofs.SoundParts.{AllCallsSound}
use Rattle.cool_simulation.specs.Loadings.{Loading, IsLoaded, constants, context}
use Rattle.cool_simulation.specs.Pictures.{Map}
use Rattle.cool_simulation.specs.Simulation.{Begins, CodeAt, IsSpan, Shown}
use Rattle.cool_simulation.specs.Shown.{AllShown, Comes}
use Rattle.cool_simulation.specs.Visits.{Visit, Visits, items_begun}
use Rattle.cool_simulation.proofs.forms.Blocks.{EachCorrect}
use Rattle.cool_simulation.proofs.ground.EvaluationLater.{CallsLater, items_later}
use Rattle.cool_simulation.proofs.shown.Comings.{Ample, ample_ruled, ample_then, cases, room_first}
use Rattle.cool_simulation.proofs.shown.PartsShown.{ample_of, comes_behind_part, own_shown, part_code, part_shown}
use Rattle.cool_simulation.proofs.ground.CodeOfParts.{in_rest}

-- `Shown` for each of some expressions
abbrev pub EachShown : Loading → Calls → (Call → Visits) → ℕ → Trees → Type 0
EachShown l calls begun_in b Last = Unit {0}
EachShown l calls begun_in b (More t ts) = AllShown l calls begun_in b t × EachShown l calls begun_in b ts

module _ (l : Loading) (loaded : IsLoaded l) (none : l.watch ≡ None) (calls : Calls) (begun_in : Call → Visits) (b : ℕ) (sound : AllCallsSound l.table calls b) (later : CallsLater calls) where
  module _ (c : ClassId) (f : ℕ) (k : ClassId) (self : Value) (scope : List Binding) (vs : List Named) (env : Environment) (d first pc : ℕ) (whole : Tree) (code_at : CodeAt l c f vs d first pc whole)
      (among : (y : Span) → Contains (spans sizes (context l c f) (constants l) vs d first pc whole) y → IsSpan l c f y) where
    items_shown : (ts : Trees) → EachCorrect l calls begun_in b ts → EachShown l calls begun_in b ts → (made : fitting.World) (first' : ℕ) (q : Pointers) (m : Bytes) (map : Map) (console : Console) (st : State) (s : Machine) (n : ℕ) (v0 : Value)
        (before type : Ty) (x : Visit) → n ≤ b → Begins l c k self scope vs env made d q m map console st s → HaveItems l.table c scope before ts type → Ample l q 16 (eval_items l.table calls self env v0 ts st n)
        → ((y : Span) → Contains (items_spans sizes (context l c f) (constants l) vs d first' q.pc ts) y → Contains (spans sizes (context l c f) (constants l) vs d first pc whole) y)
        → items_begun l.table calls begun_in c f self env first' ts st n x → Comes l.world s (Shown l x)
    items_shown Last correct each made first' q m map console st s n v0 before type x less begins have ample inside h = absurd h
    items_shown (More t ts) correct each made first' q m map console st s n v0 before type x less begins (u, has, have) ample inside visit =
        let r = eval l.table calls self env t st n in
        let F = λ (v : Value). eval_items l.table calls self env v ts in
        let pc1 = q.pc + sizes (code (context l c f) (constants l) vs d first' t) in
        let xt = spans sizes (context l c f) (constants l) vs d first' q.pc t in
        let xs = items_spans sizes (context l c f) (constants l) vs d (first' + tree_size t) pc1 ts in
        let room1 = room_first l r F q 16 (λ v t1 left. (items_later l.table calls later self env v ts).later t1 left) ample in
        let in_t : (y : Span) → Contains xt y → Contains (spans sizes (context l c f) (constants l) vs d first pc whole) y = λ y i. inside y (Contains-append_left xt xs y i) in
        cases visit
        (λ h. part_shown l calls begun_in b c f vs d first pc whole code_at among t each.0 k self scope vs env made d first' q m map console st s n u x in_t less begins has room1 h)
        (λ (v, t1, left, e, h). comes_behind_part l loaded none calls begun_in b sound c f k self scope vs env made d first' q m map console st s n less begins t u (Shown l x) v t1 left correct.0 has
        (part_code l calls begun_in b c f vs d first pc whole code_at among vs d first' q.pc t in_t) room1 e
        (λ s1 j behind.
        let fewer = behind.fewer in
        let used = j.gp_to in
        let q1 : Pointers = record q { pc = pc1; gp = j.gp; acc = j.acc; ra = j.ra } in
        items_shown ts correct.1 each.1 behind.made' (first' + tree_size t) q1 j.memory j.map' j.console t1 s1 left v u type x (omega arith) behind.begins have
        (ample_then l r F q q1 16 16 v t1 left e ample used (omega arith)) (λ y i. inside y (Contains-append_right xt xs y i)) h))

  pub block_shown : (at : Place) (ts : Trees) → EachCorrect l calls begun_in b ts → EachShown l calls begun_in b ts → AllShown l calls begun_in b (trees.Block at ts)
  block_shown at ts correct each = record {
    shown = λ c f k self scope vs env made d first q m map console st s n type x less begins have code_at room among visit.
        let whole = trees.Block at ts in
        let own = span vs d first q.pc whole in
        let xs = items_spans sizes (context l c f) (constants l) vs d first q.pc ts in
        let r = eval_items l.table calls self env Void ts st n in
        cases visit
        (λ e. own_shown l loaded none calls begun_in b sound c f k self scope vs env made d first q m map console st s n less begins whole x (among own (0, omega arith, refl)) e)
        (λ h. items_shown c f k self scope vs env d first q.pc whole code_at among ts correct each made first q m map console st s n Void object_type type x less begins have
        (ample_ruled l q 0 r (ample_of l loaded none calls begun_in b sound c f k self scope vs env made d first q m map console st s n less begins whole type have room)) (λ y i. in_rest own xs y i) h);
  }
