-- The code of a block simulates its evaluation, if the block has an expression. (No parsed program has an empty block, whose code would leave no value.)
use Rattle.std.proofs.Common.{◌≡◌, ℕ, ◌+◌, ◌-◌, ◌*◌, ◌≤◌, List, [], ◌++◌, length, refl, subst, arith, inl, inr}
use Rattle.mips_isa.specs.Bytes.{Bytes}
use Rattle.mips_isa.specs.Calls.{State as Machine}
use Rattle.cool_syntax.specs.declared.place.Place.{Place}
use Rattle.cool_syntax.specs.Tree.{Tree, Trees, Last, More, trees_size, tree_size}
use Rattle.cool_syntax.specs.Tree as trees
use Rattle.cool_syntax.specs.TreesWithinLimits.{AreTreesWithin}
use Rattle.cool_classes.specs.declared.class_id.ClassId.{ClassId}
use Rattle.cool_classes.specs.declared.class_id.Ty.{Ty}
use Rattle.cool_rules.specs.Scopes.{Binding}
use Rattle.cool_rules.specs.Typing.{object_type, HaveItems}
use Rattle.cool_runtime.specs.Standing.{HasLines, sizes}
use Rattle.cool_runtime.specs.Machines.{Pointers, Console}
use Rattle.cool_runtime.proofs.Pieces.{done, has_front, has_back, sizes_append}
use Rattle.cool_codegen.specs.Variables.{Named}
use Rattle.cool_codegen.specs.Code.{code, items_code}
use Rattle.cool_codegen.specs.Asked.{integers_in_all, strings_in_all}
use Rattle.cool_meaning.specs.Values.{Value, Void, State, Environment}
use Rattle.cool_meaning.specs.Evaluation.{Call, Calls, eval, eval_items}
use Rattle.cool_meaning.specs.FittingValues as fitting
use Rattle.cool_meaning.proofs.SoundParts.{AllCallsSound}
use Rattle.cool_simulation.specs.Loadings.{Loading, IsLoaded, constants, context, Watched, whole}
use Rattle.cool_simulation.specs.Pictures.{Map}
use Rattle.cool_simulation.specs.Simulation.{Begins, Done, Correct, Runs, Room, CodeAt, Placed}
use Rattle.cool_simulation.specs.Visits.{Visits, Visit, items_begun}
use Rattle.cool_simulation.proofs.ground.PartsOfRuns.{run_wider, run_as, run_gives, run_rule, bind_runs, room_ruled, room_less, room_rest}
use Rattle.cool_simulation.proofs.ground.EvaluationLater.{CallsLater, items_later}
use Rattle.cool_simulation.proofs.ground.PartsBehind.{done_both, done_on}
use Rattle.cool_simulation.proofs.ground.NextParts.{next}
use Rattle.cool_simulation.proofs.ground.CodeOfParts.{Asks, asks_front, asks_back, part_at, in_rest}
use Rattle.cool_codegen.specs.Spans.{Span, items_spans, span, spans}
use Rattle.std.proofs.lemmas.List.Elements.{Contains-append_left, Contains-append_right}
use Rattle.std.specs.Prelude.{Contains}

-- each of some expressions has correct code
abbrev pub EachCorrect : Loading → Calls → (Call → Visits) → ℕ → Trees → Type 0
EachCorrect l calls begun_in b Last = Unit {0}
EachCorrect l calls begun_in b (More t ts) = Correct l calls begun_in b t × EachCorrect l calls begun_in b ts

-- the code of some items stands at pc
record ItemsAt (l : Loading) (c : ClassId) (f : ℕ) (vs : List Named) (d first pc : ℕ) (ts : Trees) : Type 0 where
  lines : HasLines (whole l) pc (items_code (context l c f) (constants l) vs d first ts)
  asks : Asks l (integers_in_all ts) (strings_in_all l.files ts)
  within : AreTreesWithin (length l.files) ts
  small : d + trees_size ts ≤ 8000
  placed : (x : Span) → Contains (items_spans sizes (context l c f) (constants l) vs d first pc ts) x → Placed l c f x

-- the end of the code at an equal address
pub done_at : (l : Loading) (q : Pointers) (m : Bytes) (map : Map) (st : State) (words pc pc' : ℕ) (v : Value) (t : State) (s : Machine) → pc ≡ pc' → Done l (record q { pc = pc }) m map st words v t s → Done l (record q { pc = pc' }) m map st words v t s
done_at l q m map st words pc pc' v t s e k = subst (λ x. Done l (record q { pc = x }) m map st words v t s) e k

module _ (l : Loading) (loaded : IsLoaded l) (calls : Calls) (begun_in : Call → Visits) (b : ℕ) (sound : AllCallsSound l.table calls b) (later : CallsLater calls) (c : ClassId) (f : ℕ) (k : ClassId) (self : Value) (scope : List Binding)
    (vs : List Named) (env : Environment) (d : ℕ) where
  part_items : (first pc : ℕ) (t : Tree) (ts : Trees) → ItemsAt l c f vs d first pc (More t ts)
      → CodeAt l c f vs d first pc t × ItemsAt l c f vs d (first + tree_size t) (pc + sizes (code (context l c f) (constants l) vs d first t)) ts
  part_items first pc t ts at =
      let mine = code (context l c f) (constants l) vs d first t in
      let rest = items_code (context l c f) (constants l) vs d (first + tree_size t) ts in
      let front = spans sizes (context l c f) (constants l) vs d first pc t in
      let back = items_spans sizes (context l c f) (constants l) vs d (first + tree_size t) (pc + sizes mine) ts in
      let small = at.small in (
        part_at l c f vs d first pc t (has_front (whole l) mine rest pc at.lines) (asks_front l _ _ _ _ at.asks) at.within.0 (omega arith) (λ x h. at.placed x (Contains-append_left front back x h)),
        record {
          lines = has_back (whole l) mine rest pc _ refl at.lines;
          asks = asks_back l _ _ _ _ at.asks;
          within = at.within.1;
          small = omega arith;
          placed = λ x h. at.placed x (Contains-append_right front back x h);
        },
      )

  items_runs : (t : Tree) (ts : Trees) → Correct l calls begun_in b t → EachCorrect l calls begun_in b ts → (made : fitting.World) (first : ℕ) (q : Pointers) (m : Bytes) (map : Map) (console : Console) (st : State) (s : Machine) (n : ℕ) (v0 : Value)
      (before type : Ty) → n ≤ b → Begins l c k self scope vs env made d q m map console st s → HaveItems l.table c scope before (More t ts) type → ItemsAt l c f vs d first q.pc (More t ts)
      → Room l q 0 (eval_items l.table calls self env v0 (More t ts) st n) → ((x : Visit) → items_begun l.table calls begun_in c f self env first (More t ts) st n x → Watched l.watch x)
      → Runs l s n (64 * (eval_items l.table calls self env v0 (More t ts) st n).work + 0)
      (Done l (record q { pc = q.pc + sizes (items_code (context l c f) (constants l) vs d first (More t ts)) }) m map st (eval_items l.table calls self env v0 (More t ts) st n).words)
      (eval_items l.table calls self env v0 (More t ts) st n).outcome
  items_runs t Last correct each made first q m map console st s n v0 before type less begins (u, has, have) at room watched =
      let r = eval l.table calls self env t st n in
      let mine = code (context l c f) (constants l) vs d first t in
      let pc1 = q.pc + sizes mine in
      let whole = (eval_items l.table calls self env v0 (More t Last) st n).words in
      let K = Done l (record q { pc = pc1 }) m map st r.words in
      let L = Done l (record q { pc = q.pc + sizes (mine ++ []) }) m map st whole in
      let parts = part_items first q.pc t Last at in
      bind_runs l r (λ w. eval_items l.table calls self env w Last) s n 0 q 0 K L (λ v t1 left. (items_later l.table calls later self env v Last).later t1 left) room
      (λ room1. run_wider l r.outcome s n (64 * r.work - 4) (64 * r.work) K (omega arith) (correct.runs c f k self scope vs env made d first q m map console st s n u less begins has parts.0 room1 (λ x h. watched x (inl h))))
      (λ v t1 left s1 e j sum rest. run_gives l v t1 s1 left 0 (64 * 0 + 0) L (omega arith)
      (done l.world 0 s1 (L v t1) (done_at l q m map st whole pc1 (q.pc + sizes (mine ++ [])) v t1 s1 (let h = sizes_append l.world mine [] in omega arith)
      (done_on l q m map st r.words whole v v t1 s1 s1 pc1 pc1 j.acc j.ra j (omega arith) j.at j.value))))
  items_runs t (More t' ts) correct each made first q m map console st s n v0 before type less begins (u, has, have) at room watched =
      let r = eval l.table calls self env t st n in
      let F = λ (w : Value). eval_items l.table calls self env w (More t' ts) in
      let mine = code (context l c f) (constants l) vs d first t in
      let rest_code = items_code (context l c f) (constants l) vs d (first + tree_size t) (More t' ts) in
      let pc1 = q.pc + sizes mine in
      let pc2 = pc1 + sizes rest_code in
      let whole = (eval_items l.table calls self env v0 (More t (More t' ts)) st n).words in
      let K = Done l (record q { pc = pc1 }) m map st r.words in
      let L = Done l (record q { pc = q.pc + sizes (mine ++ rest_code) }) m map st whole in
      let parts = part_items first q.pc t (More t' ts) at in
      let even = begins.at.numbers.sp_even in
      bind_runs l r F s n 0 q 0 K L (λ v t1 left. (items_later l.table calls later self env v (More t' ts)).later t1 left) room
      (λ room1. run_wider l r.outcome s n (64 * r.work - 4) (64 * r.work) K (omega arith) (correct.runs c f k self scope vs env made d first q m map console st s n u less begins has parts.0 room1 (λ x h. watched x (inl h))))
      (λ v t1 left s1 e j sum rest.
      let x = next l loaded calls b sound c k self t scope vs env made u d q m map console st t1 s s1 n left r.words pc1 v begins has less e j in
      let q1 : Pointers = record q { pc = pc1; gp = j.gp; acc = j.acc; ra = j.ra } in
      let fewer = x.fewer in
      let used = j.gp_to in
      run_as l (F v t1 left).outcome s1 left (64 * (F v t1 left).work + 0) (Done l (record q1 { pc = pc2 }) j.memory j.map' t1 (F v t1 left).words) L
      (λ v2 t2 s2 i. done_at l q m map st whole pc2 (q.pc + sizes (mine ++ rest_code)) v2 t2 s2 (let h = sizes_append l.world mine rest_code in omega arith)
      (done_both l q m map st r.words (F v t1 left).words whole v v2 t1 t2 s1 s2 pc1 pc2 j.acc j.ra even j i (omega arith)))
      (items_runs t' ts each.0 each.1 x.made' (first + tree_size t) q1 j.memory j.map' j.console t1 s1 left v u type (omega arith) x.begins have parts.1
      (room_rest l q q1 0 0 r.words (F v t1 left) used (omega arith) rest) (λ x h. watched x (inr (v, t1, left, e, h)))))

module _ (l : Loading) (loaded : IsLoaded l) (calls : Calls) (begun_in : Call → Visits) (b : ℕ) (sound : AllCallsSound l.table calls b) (later : CallsLater calls) where
  pub block_correct : (at : Place) (t : Tree) (ts : Trees) → Correct l calls begun_in b t → EachCorrect l calls begun_in b ts → Correct l calls begun_in b (trees.Block at (More t ts))
  block_correct at t ts correct each = record {
    runs = λ c f k self scope vs env made d first q m map console st s n type less begins has code room watched.
        let small = code.small in
        let r = eval_items l.table calls self env Void (More t ts) st n in
        let K = Done l (record q { pc = q.pc + sizes (items_code (context l c f) (constants l) vs d first (More t ts)) }) m map st r.words in
        run_rule l r s n K (run_wider l r.outcome s n (64 * r.work + 0) (64 * r.work + 60) K (omega arith)
        (items_runs l loaded calls begun_in b sound later c f k self scope vs env d t ts correct each made first q m map console st s n Void object_type type less begins has
        (record { lines = code.lines; asks = record { integers_there = code.integers; strings_there = code.strings }; within = code.within.1; small = omega arith; placed = λ x h. code.spans x (in_rest (span vs d first q.pc (trees.Block at (More t ts))) (items_spans sizes (context l c f) (constants l) vs d first q.pc (More t ts)) x h) })
        (room_less l q 16 0 r (omega arith) (room_ruled l q 0 r room)) (λ x h. watched x (inr h))));
  }
