-- If a run-time routine yields the value that the semantics gives to a basic method's call, and changes only new heap memory and the console, it simulates this
-- call.
use Rattle.std.proofs.Common.{◌≡◌, ℕ, ◌+◌, ◌-◌, ◌*◌, ◌≤◌, List, length, refl, subst, arith}
use Rattle.mips_isa.specs.declared.address_map.TheConstants.{HEAP_START}
use Rattle.mips_isa.specs.Bytes.{Bytes}
use Rattle.mips_isa.specs.Calls.{State as Machine}
use Rattle.cool_classes.specs.declared.class_id.ClassId.{ClassId}
use Rattle.cool_runtime.specs.Reaches.{Reaches, stands}
use Rattle.cool_runtime.specs.Contents.{Same}
use Rattle.cool_runtime.specs.Machines.{At, Pointers, Console}
use Rattle.cool_meaning.specs.Values.{Value, State}
use Rattle.cool_meaning.specs.Meters.{Metered, join}
use Rattle.cool_meaning.specs.FittingValues as fitting
use Rattle.cool_simulation.specs.Loadings.{Loading}
use Rattle.cool_simulation.specs.Pictures.{Map, Pic, Shows}
use Rattle.cool_simulation.specs.Simulation.{Done, Runs, Passes}
use Rattle.cool_simulation.proofs.ground.PartsOfRuns.{run_wider, stands_as}
use Rattle.cool_simulation.proofs.forms.Received.{Received}
use Rattle.cool_simulation.proofs.ground.PicturesStay.{kept_same, not_grown, pictures_same, pictures_console, pictures_higher}
use Rattle.cool_simulation.proofs.ground.Passages.{passes, passes_weaker, passes_wider}

-- the run of a basic method's routine, within the bounds that a dispatch leaves to it
abbrev pub RoutineRuns : Loading → List Value → Pointers → Bytes → Map → State → Machine → ℕ → Metered Value → Type 0
RoutineRuns l vs q m map st s n r = Runs l s n (64 * (length vs + r.work) + 51) (Done l (record q { pc = q.ra; sp = q.sp + 4 * length vs }) m map st r.words) r.outcome

module _ (l : Loading) where
  -- the run for a value that is there at once
  pub joined : (vs : List Value) (q : Pointers) (m : Bytes) (map : Map) (st : State) (s : Machine) (n : ℕ) (r : Metered Value) → RoutineRuns l vs q m map st s n r → RoutineRuns l vs q m map st s n (join 0 0 0 r)
  joined vs q m map st s n r h =
      let none : r.words ≡ 0 + r.words = omega arith in
      run_wider l r.outcome s n (64 * (length vs + r.work) + 51) (64 * (length vs + (0 + r.work)) + 51) _ (omega arith)
      (subst (λ (w : ℕ). Runs l s n (64 * (length vs + r.work) + 51) (Done l (record q { pc = q.ra; sp = q.sp + 4 * length vs }) m map st w) r.outcome) none h)

  -- the value stands in a memory that is the same except for the new part of the heap; the console may be another
  pub routine_done : (j : ClassId) (self : Value) (vs : List Value) (made : fitting.World) (q : Pointers) (m : Bytes) (map : Map) (console : Console) (st : State) (s : Machine) → Received l j self vs made q m map console st s
      → (gp sp acc words : ℕ) (m' : Bytes) (console' : Console) (input output : List ℕ) (v : Value) (t : Machine) → At l.world (record q { pc = q.ra; gp = gp; sp = sp; acc = acc }) m' console' t → sp ≡ q.sp + 4 * length vs
      → Same m m' q.gp q.sp → q.gp ≤ gp → gp ≤ q.gp + 4 * words → Shows (record st { input = input; output = output }) console' → Pic l.world m' map st.drawn gp v acc
      → Done l (record q { pc = q.ra; sp = q.sp + 4 * length vs }) m map st words v (record st { input = input; output = output }) t
  routine_done j self vs made q m map console st s h gp sp acc words m' console' input output v t at sp_is same le few shows value =
      let from : HEAP_START ≤ q.gp = let numbers = h.at.numbers in omega arith in
      record {
        gp = gp;
        acc = acc;
        ra = q.ra;
        memory = m';
        map' = map;
        console = console';
        at = record { numbers = let numbers = at.numbers in omega arith; memory_is = at.memory_is; input_is = at.input_is; ended_is = at.ended_is; output_is = at.output_is };
        shows = shows;
        pictures =
            pictures_higher l.world l.table l.memory m' map (record st { input = input; output = output }) gp q.sp (q.sp + 4 * length vs) h.unmarked
            (pictures_console l.world l.table l.memory m' map st input output gp q.sp (pictures_same l.world l.table l.memory m m' map st q.gp gp q.sp from le same h.pictures));
        value = value;
        kept = kept_same l.world m m' map.marked q.gp q.sp (q.sp + 4 * length vs) (omega arith) same;
        grown = not_grown l.world map st.drawn (length st.store) q.gp (q.sp + 4 * length vs);
        drawn = omega arith;
        located = omega arith;
        gp_from = le;
        gp_to = few;
      }

  -- nothing changed
  pub same_memory : (m : Bytes) (gp sp : ℕ) → Same m m gp sp
  same_memory m gp sp = record { below = λ a h. refl; over = λ a h. refl }

  -- a routine's end, and what it is
  pub passes_as : (s : Machine) (n a most : ℕ) (P Q : Machine → Type 0) → a ≤ most → Reaches l.world s 0 a (stands P) → ((t : Machine) → P t → Q t) → Passes l s (n - n) most (stands Q)
  passes_as s n a most P Q le h as' = passes_wider l s 0 (n - n) a most (stands Q) (omega arith) le (passes_weaker l s 0 a (stands P) (stands Q) (stands_as P Q as') (passes l s 0 a (stands P) h))
