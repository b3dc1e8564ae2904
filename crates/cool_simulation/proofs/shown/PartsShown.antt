-- If the machine reaches the beginnings of an expression and of its subexpressions, it reaches all expressions that the evaluation of the expression begins.
use Rattle.std.proofs.Common.{◌≡◌, ℕ, ◌+◌, ◌-◌, ◌*◌, ◌≤◌, List, refl, sym, subst, None}
use Rattle.std.specs.Prelude.{Contains}
use Rattle.mips_isa.specs.Bytes.{Bytes}
use Rattle.mips_isa.specs.Calls.{State as Machine}
use Rattle.cool_syntax.specs.Tree.{Tree}
use Rattle.cool_classes.specs.declared.class_id.ClassId.{ClassId}
use Rattle.cool_classes.specs.declared.class_id.Ty.{Ty}
use Rattle.cool_rules.specs.Conformance.{class_of as class_meant}
use Rattle.cool_rules.specs.Scopes.{Binding}
use Rattle.cool_rules.specs.Typing.{HasType}
use Rattle.cool_runtime.specs.Standing.{sizes}
use Rattle.cool_runtime.specs.Machines.{Pointers, Console}
use Rattle.cool_codegen.specs.Code.{code}
use Rattle.cool_codegen.specs.Spans.{Span, span, spans}
use Rattle.cool_codegen.specs.Variables.{Named}
use Rattle.cool_meaning.specs.Values.{Value, State, Environment}
use Rattle.cool_meaning.specs.Meters.{Val}
use Rattle.cool_meaning.specs.Evaluation.{Call, Calls, eval}
use Rattle.cool_meaning.specs.FittingValues.{Fits}
use Rattle.cool_meaning.specs.FittingValues as fitting
use Rattle.cool_meaning.proofs.SoundComputations.{NotStuck}
use Rattle.cool_meaning.proofs.SoundParts.{AllCallsSound}
use Rattle.cool_meaning.proofs.SoundEvaluation.{eval_sound}
use Rattle.cool_simulation.specs.Loadings.{Loading, IsLoaded, constants, context}
use Rattle.cool_simulation.specs.Pictures.{Map}
use Rattle.cool_simulation.specs.Simulation.{Begins, CodeAt, Correct, Done, Room, IsSpan, Shown}
use Rattle.cool_simulation.specs.Shown.{AllShown, Comes}
use Rattle.cool_simulation.specs.Visits.{Visit, Visits, begun}
use Rattle.cool_simulation.proofs.ground.CodeOfParts.{own_span}
use Rattle.cool_simulation.proofs.ground.CodeOfSpans.{code_of_span}
use Rattle.cool_simulation.proofs.ground.NextParts.{Next, next}
use Rattle.cool_simulation.proofs.shown.Comings.{Ample, comes_after, comes_here}
use Rattle.cool_simulation.proofs.ground.Passages.{unwatched}

module _ (l : Loading) (loaded : IsLoaded l) (none : l.watch ≡ None) (calls : Calls) (begun_in : Call → Visits) (b : ℕ) (sound : AllCallsSound l.table calls b) (c : ClassId) (f : ℕ) (k : ClassId) (self : Value) (scope : List Binding) (vs : List Named)
    (env : Environment) (made : fitting.World) (d first : ℕ) (q : Pointers) (m : Bytes) (map : Map) (console : Console) (st : State) (s : Machine) (n : ℕ) (less : n ≤ b)
    (begins : Begins l c k self scope vs env made d q m map console st s) where
  -- an expression where it begins
  pub own_shown : (t : Tree) (x : Visit) → IsSpan l c f (span vs d first q.pc t)
      → x ≡ record { class = c; feature = f; first = first; tree = t; self = self; environment = env; state = st; left = n } → Comes l.world s (Shown l x)
  own_shown t x there e = comes_here l.world s (Shown l x) (subst (λ y. Shown l y s) (sym e) (record {
    span = span vs d first q.pc t;
    there = there;
    tree_is = refl;
    first_is = refl;
    own = k;
    scope = scope;
    made = made;
    pointers = q;
    memory = m;
    map = map;
    console = console;
    from = refl;
    begins = begins;
  }))

  -- its evaluation is not stuck
  pub ample_of : (t : Tree) (type : Ty) → HasType l.table c scope t type → Room l q 0 (eval l.table calls self env t st n) → Ample l q 0 (eval l.table calls self env t st n)
  ample_of t type has room = record {
    room = room;
    alive = λ e. subst (λ o. NotStuck l.table made n (λ w v. Fits l.table w v (class_meant k type)) o) e
        ((eval_sound l.table loaded.buildable.typed calls b sound c k self t made scope env type begins.scene has).sound st n less begins.fits);
  }

  -- the state after a part that comes to a value
  pub comes_behind_part : (t : Tree) (type : Ty) (Q : Machine → Type 0) (v : Value) (t1 : State) (left : ℕ) → Correct l calls begun_in b t → HasType l.table c scope t type → CodeAt l c f vs d first q.pc t
      → Room l q 0 (eval l.table calls self env t st n) → (eval l.table calls self env t st n).outcome ≡ Val v t1 left
      → ((u : Machine) → (j : Done l (record q { pc = q.pc + sizes (code (context l c f) (constants l) vs d first t) }) m map st (eval l.table calls self env t st n).words v t1 u)
      → Next l loaded calls b sound c k self scope vs env made type d (record q { pc = q.pc + sizes (code (context l c f) (constants l) vs d first t); gp = j.gp; acc = j.acc; ra = j.ra }) j.memory j.map' j.console v t1 left n u
      → Comes l.world u Q)
      → Comes l.world s Q
  comes_behind_part t type Q v t1 left correct has at room e more =
      let r = eval l.table calls self env t st n in
      let pc1 = q.pc + sizes (code (context l c f) (constants l) vs d first t) in
      comes_after l none r.outcome s n (64 * r.work - 4) (Done l (record q { pc = pc1 }) m map st r.words) v t1 left Q e
      (correct.runs c f k self scope vs env made d first q m map console st s n type less begins has at room (λ x h. unwatched l none x))
      (λ u j. more u j (next l loaded calls b sound c k self t scope vs env made type d q m map console st t1 s u n left r.words pc1 v begins has less e j))

module _ (l : Loading) (calls : Calls) (begun_in : Call → Visits) (b : ℕ) (c : ClassId) (f : ℕ) (vs : List Named) (d first pc : ℕ) (whole : Tree) (code_at : CodeAt l c f vs d first pc whole)
    (among : (y : Span) → Contains (spans sizes (context l c f) (constants l) vs d first pc whole) y → IsSpan l c f y) where
  -- the spans of a part are among those of the whole
  abbrev pub Inside : List Named → ℕ → ℕ → ℕ → Tree → Type 0
  Inside vs' d' first' pc' t =
      (y : Span) → Contains (spans sizes (context l c f) (constants l) vs' d' first' pc' t) y → Contains (spans sizes (context l c f) (constants l) vs d first pc whole) y

  -- so its code stands there
  pub part_code : (vs' : List Named) (d' first' pc' : ℕ) (t : Tree) → Inside vs' d' first' pc' t → CodeAt l c f vs' d' first' pc' t
  part_code vs' d' first' pc' t inside =
      code_of_span l c f vs d first pc whole (span vs' d' first' pc' t) code_at (inside (span vs' d' first' pc' t) (own_span sizes (context l c f) (constants l) vs' d' first' pc' t)) inside

  -- and what it begins is shown from where it does
  pub part_shown : (t : Tree) → AllShown l calls begun_in b t → (k : ClassId) (self : Value) (scope : List Binding) (vs' : List Named) (env : Environment) (made : fitting.World) (d' first' : ℕ) (q : Pointers) (m : Bytes) (map : Map)
      (console : Console) (st : State) (s : Machine) (n : ℕ) (type : Ty) (x : Visit) → Inside vs' d' first' q.pc t → n ≤ b → Begins l c k self scope vs' env made d' q m map console st s → HasType l.table c scope t type
      → Room l q 0 (eval l.table calls self env t st n) → begun l.table calls begun_in c f self env first' t st n x → Comes l.world s (Shown l x)
  part_shown t all k self scope vs' env made d' first' q m map console st s n type x inside less begins has room visit =
      all.shown c f k self scope vs' env made d' first' q m map console st s n type x less begins has (part_code vs' d' first' q.pc t inside) room (λ y h. among y (inside y h)) visit
