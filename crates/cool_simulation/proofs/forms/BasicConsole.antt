-- The run-time routines of `out_string` and `out_int` simulate calls of these methods.
use Rattle.std.proofs.Common.{◌≡◌, ℕ, ◌+◌, ◌-◌, ◌*◌, List, [], ◌∷◌, ◌++◌, length, refl, ap, subst, arith}
use Rattle.std.specs.Prelude.{codes, ℤ}
use Rattle.std.specs.Fmt.{signed_decimal}
use Rattle.mips_isa.specs.Bytes.{Bytes, word}
use Rattle.mips_isa.specs.Calls as machine
use Rattle.mips_isa.specs.Calls.{State as Machine}
use Rattle.cool_classes.specs.declared.class_id.ClassId.{ClassId}
use Rattle.cool_runtime.specs.Labels.{out_string, out_int}
use Rattle.cool_runtime.specs.Machines.{At, Pointers, Console, wrote}
use Rattle.cool_runtime.specs.declared.catalogue.Routine.TheVariants as routines
use Rattle.cool_runtime.proofs.MeaningsMet.{means}
use Rattle.cool_meaning.specs.Values.{Value, Void, Int, Bool, Str, Obj, State}
use Rattle.cool_meaning.specs.Meters.{Computation, ◌>>=◌, ◌>>◌, give, working}
use Rattle.cool_meaning.specs.BasicMethods.{one, as_string, as_number, print}
use Rattle.cool_meaning.specs.FittingValues as fitting
use Rattle.cool_meaning.specs.Numbers.{word_of}
use Rattle.cool_simulation.specs.Loadings.{Loading, IsLoaded}
use Rattle.cool_simulation.specs.Pictures.{Map, Pic, Shows}
use Rattle.cool_simulation.specs.Simulation.{Done, Runs}
use Rattle.cool_simulation.proofs.forms.Received.{Received}
use Rattle.cool_simulation.proofs.forms.RoutinesDone.{RoutineRuns, joined, routine_done, same_memory, passes_as}
use Rattle.cool_simulation.proofs.ground.WordsOfNumbers.{word_read}

-- the console after bytes were written
pub shows_wrote : (st : State) (c : Console) (bytes : List ℕ) → Shows st c → Shows (record st { output = st.output ++ bytes }) (wrote c bytes)
shows_wrote st c bytes h = record { input = h.input; output = ap (λ (o : List ℕ). o ++ bytes) h.output; ended = h.ended; bytes = h.bytes }

module _ (l : Loading) (loaded : IsLoaded l) (j : ClassId) (self : Value) (vs : List Value) (made : fitting.World) (q : Pointers) (m : Bytes) (map : Map) (console : Console) (st : State) (s : Machine) (n : ℕ)
    (h : Received l j self vs made q m map console st s) where
  abbrev Meant : Computation Value → Type 0
  Meant d = Runs l s n (64 * (length vs + (d st n).work) + 51) (Done l (record q { pc = q.ra; sp = q.sp + 4 * length vs }) m map st (d st n).words) (d st n).outcome

  writes_string : (bytes : List ℕ) → Pic l.world m map st.drawn q.gp (Str bytes) (word m q.sp) → length vs ≡ 1 → q.pc ≡ l.world.place (codes "IO.out_string") → Meant (working (length bytes) (print bytes) >> give self)
  unfolding out_string
  writes_string bytes (string, un, un') one begins =
      let room = h.room in
      passes_as l s n 8 _ _ _ (omega arith)
      (means l.world routines.OutString q m console s bytes (loaded.routines routines.OutString) h.at begins (omega arith) string)
      (λ t at. routine_done l j self vs made q m map console st s h q.gp (q.sp + 4) q.acc _ m (wrote console bytes) st.input (st.output ++ bytes) self t at (omega arith) (same_memory l m q.gp q.sp) (omega arith) (omega arith)
      (shows_wrote st console bytes h.shows) h.self_is)

  writes_number : (v : ℤ) → Pic l.world m map st.drawn q.gp (Int v) (word m q.sp) → length vs ≡ 1 → q.pc ≡ l.world.place (codes "IO.out_int") → Meant (print (signed_decimal v) >> give self)
  unfolding out_int
  writes_number v (int, fit, un) one begins =
      let room = h.room in
      let text : List ℕ = signed_decimal (machine.signed (word_of v)) in
      let same : text ≡ signed_decimal v = ap signed_decimal (word_read v fit) in
      passes_as l s n 8 _ _ _ (omega arith)
      (means l.world routines.OutInt q m console s (word_of v) (loaded.routines routines.OutInt) h.at begins (omega arith) int)
      (λ t at. routine_done l j self vs made q m map console st s h q.gp (q.sp + 4) q.acc _ m (wrote console (signed_decimal v)) st.input (st.output ++ signed_decimal v) self t
      (subst (λ (o : List ℕ). At l.world (record q { pc = q.ra; sp = q.sp + 4 }) m (wrote console o) t) same at) (omega arith) (same_memory l m q.gp q.sp) (omega arith) (omega arith)
      (shows_wrote st console (signed_decimal v) h.shows) h.self_is)

-- The argument is at the top of the stack.
module _ (l : Loading) (loaded : IsLoaded l) (j : ClassId) (self : Value) (made : fitting.World) (q : Pointers) (m : Bytes) (map : Map) (console : Console) (st : State) (s : Machine) (n : ℕ) where
  pub one_there : (w : Value) → Received l j self (w ∷ []) made q m map console st s → Pic l.world m map st.drawn q.gp w (word m q.sp)
  one_there w h = let here : q.sp + 4 * (length (w ∷ []) - (0 + 1)) ≡ q.sp = omega arith in subst (λ (a : ℕ). Pic l.world m map st.drawn q.gp w (word m a)) here (h.values 0 w refl)

  abbrev string_printed : Value → Computation Value
  string_printed w = as_string w >>= λ bytes. working (length bytes) (print bytes) >> give self

  string_written : (w : Value) → Received l j self (w ∷ []) made q m map console st s → q.pc ≡ l.world.place (codes "IO.out_string") → RoutineRuns l (w ∷ []) q m map st s n (string_printed w st n)
  string_written (Str bytes) h begins =
      joined l (Str bytes ∷ []) q m map st s n ((working (length bytes) (print bytes) >> give self) st n) (writes_string l loaded j self (Str bytes ∷ []) made q m map console st s n h bytes (one_there (Str bytes) h) refl begins)
  string_written Void h begins = tt
  string_written (Int x) h begins = tt
  string_written (Bool x) h begins = tt
  string_written (Obj c i ls) h begins = tt

  pub strings_written : (vs : List Value) → Received l j self vs made q m map console st s → q.pc ≡ l.world.place (codes "IO.out_string") → RoutineRuns l vs q m map st s n ((one vs >>= string_printed) st n)
  strings_written [] h begins = tt
  strings_written (w ∷ []) h begins = joined l (w ∷ []) q m map st s n (string_printed w st n) (string_written w h begins)
  strings_written (w ∷ u ∷ vs) h begins = tt

  abbrev number_printed : Value → Computation Value
  number_printed w = as_number w >>= λ v. print (signed_decimal v) >> give self

  number_written : (w : Value) → Received l j self (w ∷ []) made q m map console st s → q.pc ≡ l.world.place (codes "IO.out_int") → RoutineRuns l (w ∷ []) q m map st s n (number_printed w st n)
  number_written (Int v) h begins = joined l (Int v ∷ []) q m map st s n ((print (signed_decimal v) >> give self) st n) (writes_number l loaded j self (Int v ∷ []) made q m map console st s n h v (one_there (Int v) h) refl begins)
  number_written Void h begins = tt
  number_written (Str x) h begins = tt
  number_written (Bool x) h begins = tt
  number_written (Obj c i ls) h begins = tt

  pub numbers_written : (vs : List Value) → Received l j self vs made q m map console st s → q.pc ≡ l.world.place (codes "IO.out_int") → RoutineRuns l vs q m map st s n ((one vs >>= number_printed) st n)
  numbers_written [] h begins = tt
  numbers_written (w ∷ []) h begins = joined l (w ∷ []) q m map st s n (number_printed w st n) (number_written w h begins)
  numbers_written (w ∷ u ∷ vs) h begins = tt
