-- The code of two operands evaluates the first one, pushes its value, and evaluates the second one; then the first value is on the stack and the second in
-- register $a0.
use Rattle.std.proofs.Common.{◌≡◌, ℕ, ◌+◌, ◌-◌, ◌*◌, ◌/◌, ◌%◌, ◌≤◌, List, false, sym, ◌∙◌, subst, arith}
use Rattle.mips_isa.specs.Bytes.{Bytes, word, set_word}
use Rattle.mips_isa.specs.Calls.{State as Machine}
use Rattle.cool_syntax.specs.Tree.{Tree, tree_size}
use Rattle.cool_classes.specs.declared.class_id.ClassId.{ClassId}
use Rattle.cool_classes.specs.declared.class_id.Ty.{Ty}
use Rattle.cool_rules.specs.Scopes.{Binding}
use Rattle.cool_rules.specs.Typing.{HasType}
use Rattle.cool_runtime.specs.Reaches.{OnTheWay}
use Rattle.cool_runtime.specs.Standing.{HasLines, sizes}
use Rattle.cool_runtime.specs.Machines.{At, Pointers, Console}
use Rattle.cool_runtime.specs.Premises.{Limits}
use Rattle.cool_runtime.specs.Routines.{push_lines}
use Rattle.cool_runtime.specs.declared.catalogue.Routine.TheVariants as routines
use Rattle.cool_runtime.proofs.Allocating.{push}
use Rattle.cool_runtime.proofs.Words.{word_same}
use Rattle.cool_codegen.specs.Variables.{Named}
use Rattle.cool_codegen.specs.Code.{code}
use Rattle.cool_meaning.specs.Values.{Value, State, Environment}
use Rattle.cool_meaning.specs.Meters.{Computation, rule, ◌>>=◌, Val}
use Rattle.cool_meaning.specs.Evaluation.{Call, Calls, eval}
use Rattle.cool_meaning.specs.FittingValues as fitting
use Rattle.cool_meaning.proofs.SoundParts.{AllCallsSound}
use Rattle.cool_simulation.specs.Loadings.{Loading, IsLoaded, Watched, constants, context}
use Rattle.cool_simulation.specs.Pictures.{Map, Pic, Pictures, Shows}
use Rattle.cool_simulation.specs.Simulation.{Begins, Done, Correct, Runs, Room, CodeAt, Way}
use Rattle.cool_simulation.specs.Visits.{Visit, Visits, begun}
use Rattle.cool_simulation.proofs.ground.PartsOfRuns.{run_after, unless_stuck, way_of, room_rest}
use Rattle.cool_simulation.proofs.ground.EvaluationLater.{CallsLater, ComesLater, bind_later, eval_later}
use Rattle.cool_simulation.proofs.ground.PartsBehind.{Gone, gone_of, gone_same, gone_then, pic_gone, word_gone, push_same}
use Rattle.cool_simulation.proofs.ground.NextParts.{begins_pushed}
use Rattle.cool_simulation.proofs.ground.FirstParts.{part_runs, rule_runs}

-- The limits' routines of a loaded program stand.
pub limits_of : (l : Loading) → IsLoaded l → Limits l.world
limits_of l loaded = record { heap = loaded.routines routines.HeapLimit; stack = loaded.routines routines.StackLimit }

-- a console that shows a state on the way is on the way
pub shown_way : (l : Loading) (t : State) (console : Console) → Shows t console → OnTheWay l.world t.output t.input → OnTheWay l.world console.output console.input
shown_way l t console shows way = subst (λ o. OnTheWay l.world o console.input) (sym shows.output) (subst (λ i. OnTheWay l.world t.output i) (sym shows.input) way)

-- The state after both operands: the first value is in the word on the stack, the second one in $a0.
pub record TwoDone (l : Loading) (q : Pointers) (pc : ℕ) (m : Bytes) (map : Map) (st : State) (words : ℕ) (v w : Value) (t : State) (s : Machine) : Type 0 where
  pub gp : ℕ
  pub acc : ℕ
  pub ra : ℕ
  pub memory : Bytes
  pub map' : Map
  pub console : Console
  pub at : At l.world (record q { pc = pc; gp = gp; sp = q.sp - 4; acc = acc; ra = ra }) memory console s
  pub shows : Shows t console
  pub pictures : Pictures l.table l.world l.memory memory map' t gp (q.sp - 4)
  pub first : Pic l.world memory map' t.drawn gp v (word memory (q.sp - 4))
  pub second : Pic l.world memory map' t.drawn gp w acc
  pub unmarked : map'.marked ((q.sp - 4) / 4) ≡ false
  pub gone : Gone m map st q.gp q.sp words memory map' t gp

module _ (l : Loading) where
  -- the pushed value is still pictured behind the second operand
  two_done : (q : Pointers) (m : Bytes) (map : Map) (st t1 t2 : State) (u u2 u3 : Machine) (a b pc1 pc2 pc3 : ℕ) (v w : Value) → q.gp + 4 ≤ q.sp → q.sp % 4 ≡ 0 → 4 ≤ q.sp → (j : Done l (record q { pc = pc1 }) m map st a v t1 u) → j.gp + 4 ≤ q.sp
      → (i : Done l (record q { pc = pc3; gp = j.gp; sp = q.sp - 4; acc = j.acc; ra = j.ra }) (set_word j.memory (q.sp - 4) j.acc) j.map' t1 b w t2 u3) → TwoDone l q pc3 m map st (a + b) v w t2 u3
  two_done q m map st t1 t2 u u2 u3 a b pc1 pc2 pc3 v w room even high j room1 i =
      let m1 = set_word j.memory (q.sp - 4) j.acc in
      let q3 : Pointers = record q { pc = pc3; gp = j.gp; sp = q.sp - 4; acc = j.acc; ra = j.ra } in
      let same = push_same l.world j.memory j.gp q.sp j.acc room1 in
      let gone1 = gone_of l (record q { pc = pc1 }) m map st a v t1 u j in
      let pushed = gone_same l.world j.memory m1 j.map' t1 j.gp j.gp q.sp 0 same (omega arith) (omega arith) in
      let gone2 = gone_of l q3 m1 j.map' t1 b w t2 u3 i in
      let even' : (q.sp - 4) % 4 ≡ 0 = omega arith in
      let fits = j.at.numbers.acc_fits in
      let free : j.map'.marked ((q.sp - 4) / 4) ≡ false = j.pictures.unmarked_room ((q.sp - 4) / 4) (omega arith) (omega arith) in
      let there : word i.memory (q.sp - 4) ≡ j.acc =
      word_gone l.world m1 i.memory j.map' i.map' t1 t2 j.gp i.gp (q.sp - 4) b (q.sp - 4) gone2 (omega arith) even' free ∙ word_same j.memory (q.sp - 4) j.acc fits in
      let first1 : Pic l.world m1 j.map' t1.drawn j.gp v j.acc = pic_gone l.world j.memory m1 j.map' j.map' t1 t1 j.gp j.gp q.sp 0 v j.acc pushed j.value in
      record {
        gp = i.gp;
        acc = i.acc;
        ra = i.ra;
        memory = i.memory;
        map' = i.map';
        console = i.console;
        at = i.at;
        shows = i.shows;
        pictures = i.pictures;
        first = subst (λ x. Pic l.world i.memory i.map' t2.drawn i.gp v x) (sym there) (pic_gone l.world m1 i.memory j.map' i.map' t1 t2 j.gp i.gp (q.sp - 4) b v j.acc gone2 first1);
        second = i.value;
        unmarked = i.grown.over ((q.sp - 4) / 4) (omega arith) ∙ free;
        gone = gone_then l.world m j.memory i.memory map j.map' i.map' st t1 t2 q.gp j.gp i.gp q.sp q.sp a b (a + b) (omega arith) even gone1
            (gone_then l.world j.memory m1 i.memory j.map' j.map' i.map' t1 t1 t2 j.gp j.gp i.gp q.sp (q.sp - 4) 0 b b (omega arith) even pushed gone2 (omega arith)) (omega arith);
      }

module _ (l : Loading) (loaded : IsLoaded l) (calls : Calls) (begun_in : Call → Visits) (b : ℕ) (sound : AllCallsSound l.table calls b) (later : CallsLater calls) (c : ClassId) (f : ℕ) (k : ClassId) (self : Value) (scope : List Binding) (vs : List Named)
    (env : Environment) (made : fitting.World) (d first : ℕ) (q : Pointers) (m : Bytes) (map : Map) (console : Console) (st : State) (s : Machine) (n : ℕ) (less : n ≤ b)
    (begins : Begins l c k self scope vs env made d q m map console st s) (ta tb : Tree) (type type' : Ty) (correct : Correct l calls begun_in b ta) (correct' : Correct l calls begun_in b tb) (has : HasType l.table c scope ta type)
    (has' : HasType l.table c scope tb type') (at : CodeAt l c f vs d first q.pc ta) (lines : HasLines l.world (q.pc + sizes (code (context l c f) (constants l) vs d first ta)) push_lines)
    (at' : CodeAt l c f vs (d + 1) (first + tree_size ta) (q.pc + sizes (code (context l c f) (constants l) vs d first ta) + 20) tb)
    (watched : (x : Visit) → begun l.table calls begun_in c f self env first ta st n x → Watched l.watch x)
    (watched' : (v : Value) (t : State) (left : ℕ) → (eval l.table calls self env ta st n).outcome ≡ Val v t left → (x : Visit) → begun l.table calls begun_in c f self env (first + tree_size ta) tb t left x → Watched l.watch x) where
  -- A rule of two operands, and what is done with their values.
  pub operands_run : {B : Type 0} (G : Value → Value → Computation B) (L : B → State → Machine → Type 0) → ((v w : Value) → ComesLater (G v w))
      → Room l q 0 (rule (eval l.table calls self env ta >>= λ v. eval l.table calls self env tb >>= λ w. G v w) st n)
      → ((v w : Value) (t2 : State) (left2 words : ℕ) (u : Machine)
      → (i : TwoDone l q (q.pc + sizes (code (context l c f) (constants l) vs d first ta) + 20 + sizes (code (context l c f) (constants l) vs (d + 1) (first + tree_size ta) tb)) m map st words v w t2 u)
      → (rule (eval l.table calls self env ta >>= λ v. eval l.table calls self env tb >>= λ w. G v w) st n).words ≡ words + (G v w t2 left2).words → i.gp + 4 * (G v w t2 left2).words ≤ l.world.top → Way l (G v w t2 left2).outcome
      → Runs l u left2 (64 * (G v w t2 left2).work + 52) L (G v w t2 left2).outcome)
      → Runs l s n (64 * (rule (eval l.table calls self env ta >>= λ v. eval l.table calls self env tb >>= λ w. G v w) st n).work - 4) L
      (rule (eval l.table calls self env ta >>= λ v. eval l.table calls self env tb >>= λ w. G v w) st n).outcome
  operands_run G L comes room does =
      let F = λ (v : Value). eval l.table calls self env tb >>= λ w. G v w in
      let F_later = λ (v : Value). bind_later (eval_later l.table calls later self env tb) (λ w. comes v w) in
      let pc1 = q.pc + sizes (code (context l c f) (constants l) vs d first ta) in
      let numbers = begins.at.numbers in
      let depth = begins.depth in
      let laid = l.world.laid in
      rule_runs l loaded calls begun_in b sound c f k self scope vs env made d first q m map console st s n less begins ta type correct has at watched F L F_later room
      (λ v t1 left u e j x sum rest.
      let r = F v t1 left in
      unless_stuck l r.outcome u left (64 * r.work + 60) L (λ some.
      let fewer = x.fewer in
      let numbers1 = j.at.numbers in
      let used = j.gp_to in
      let q1 : Pointers = record q { pc = pc1; gp = j.gp; acc = j.acc; ra = j.ra } in
      let q2 : Pointers = record q { pc = pc1 + 20; gp = j.gp; sp = q.sp - 4; acc = j.acc; ra = j.ra } in
      let m1 = set_word j.memory (q.sp - 4) j.acc in
      let stack = rest.stack in
      let room1 : j.gp + 4 ≤ q.sp = omega arith in
      let way1 = shown_way l t1 j.console j.shows (way_of l t1 r.outcome ((F_later v).later t1 left) some rest.way) in
      run_after l r.outcome u left 8 (64 * r.work + 52) (64 * r.work + 60) (At l.world q2 m1 j.console) L (omega arith)
      (push l.world q1 j.memory j.console u (limits_of l loaded) lines j.at (omega arith) way1)
      (λ u2 there.
      part_runs l loaded calls begun_in b sound c f k self scope vs env x.made' (d + 1) (first + tree_size ta) q2 m1 j.map' j.console t1 u2 left (omega arith)
      (begins_pushed l loaded calls b sound c k self scope vs env x.made' d q1 j.memory j.map' j.console t1 u u2 (pc1 + 20) room1 x.begins there) tb type' correct' has' at' (watched' v t1 left e) (λ w. G v w) L 12 52 (comes v)
      (room_rest l q q2 16 12 _ r used (omega arith) rest)
      (λ w t2 left2 u3 e2 i x2 sum2 rest2.
      let two = two_done l q m map st t1 t2 u u2 u3 _ _ pc1 (pc1 + 20) (pc1 + 20 + sizes (code (context l c f) (constants l) vs (d + 1) (first + tree_size ta) tb)) v w (omega arith) numbers.sp_even (omega arith) j room1 i in
      let heap = room.heap in
      let used2 = two.gone.gp_to in
      let total : (rule (eval l.table calls self env ta >>= F) st n).words ≡ (eval l.table calls self env ta st n).words + (eval l.table calls self env tb t1 left).words + (G v w t2 left2).words = omega (arith, sum, sum2) in
      does v w t2 left2 _ u3 two total (fits_within two.gp q.gp _ _ _ l.world.top used2 total heap) rest2.way))))
    where
      fits_within : (gp gp0 words whole more top : ℕ) → gp ≤ gp0 + 4 * words → whole ≡ words + more → gp0 + 4 * whole ≤ top → gp + 4 * more ≤ top
      fits_within gp gp0 words whole more top h e k = omega arith
