-- The run-time routines of the basic methods of Object, IO and String simulate calls of these methods.
use Rattle.std.proofs.Common.{◌≡◌, ℕ, ◌+◌, ◌*◌, ◌≤◌, List, ◌++◌, length, get_or, sym, ap, ◌∙◌, subst, arith}
use Rattle.std.specs.Prelude.{codes, slice_get, Some}
use Rattle.mips_isa.specs.Bytes.{Bytes}
use Rattle.mips_isa.specs.Calls.{State as Machine}
use Rattle.cool_classes.specs.declared.class_id.ClassId.{ClassId}
use Rattle.cool_classes.specs.declared.method.BasicMethod.TheVariants.{Abort, TypeName, Copy, OutString, OutInt, InString, InInt, Length, Concat, Substr}
use Rattle.cool_classes.specs.ClimbedChains.{chain}
use Rattle.cool_runtime.specs.Machines.{Pointers, Console}
use Rattle.cool_meaning.specs.Values.{Value, Void, Int, Bool, Str, Obj, State}
use Rattle.cool_meaning.specs.Meters.{Outcome, Val, Stuck, Metered, Computation, ◌>>=◌, seq, seq_of, join, free, give}
use Rattle.cool_meaning.specs.BasicMethods.{copy, draw, locate_all, load_all}
use Rattle.cool_meaning.specs.FittingValues as fitting
use Rattle.cool_simulation.specs.Loadings.{Loading, IsLoaded}
use Rattle.cool_simulation.specs.Pictures.{Map}
use Rattle.cool_simulation.specs.Simulation.{Done, Runs, Way}
use Rattle.cool_simulation.proofs.forms.BasicConsole.{strings_written, numbers_written}
use Rattle.cool_simulation.proofs.forms.BasicCopies.{copies_number, copies_truth, copies_text}
use Rattle.cool_simulation.proofs.forms.BasicNames.{aborts, gives_name, measures}
use Rattle.cool_simulation.proofs.forms.BasicObjects.{copies_object}
use Rattle.cool_simulation.proofs.forms.BasicReading.{reads_string, reads_number}
use Rattle.cool_simulation.proofs.forms.BasicTexts.{concats, cuts}
use Rattle.cool_simulation.proofs.ground.LoadedLocations.{Loads, Loaded, Missing, loads}
use Rattle.cool_simulation.proofs.forms.NewMeaning.{located_all}
use Rattle.cool_simulation.proofs.ground.LargerMaps.{numbers, with_values}
use Rattle.cool_simulation.proofs.forms.Received.{Received, BasicCorrect}
use Rattle.cool_simulation.proofs.forms.RoutinesDone.{RoutineRuns}
use Rattle.cool_simulation.proofs.calls.InitialsSplit.{same_metered}

module _ (l : Loading) (loaded : IsLoaded l) where
  -- the copy of an object with these values at its locations
  object_meant : (c : ClassId) (i : ℕ) (ls : List ℕ) (st : State) (n : ℕ) (values : List Value) → load_all ls st n ≡ free (Val values st n)
      → copy l.table (Obj c i ls) st n
      ≡ record { outcome = Val (Obj c st.drawn (numbers (length st.store) (length values))) (with_values st values) n; work = length ls + length (chain l.table c); words = 4 + length ls; peak = 0 }
  object_meant c i ls st n values is =
      let G : List ℕ → Computation Value = λ ks. draw >>= λ d. give (Obj c d ks) in
      let F : List Value → Computation Value = λ us. locate_all us >>= G in
      let K = length ls + length (chain l.table c) in
      let W = 4 + length ls in
      let f : Metered Value → Metered Value = λ x. record { outcome = x.outcome; work = K + x.work; words = W + x.words; peak = x.peak } in
      let e : copy l.table (Obj c i ls) st n ≡ f (join 0 0 0 (join 0 0 0 (G (numbers (length st.store) (length values)) (record st { store = st.store ++ values }) n))) =
      ap (λ (x : Metered (List Value)). f (seq x F)) is ∙ ap (λ (y : Metered (List ℕ)). f (join 0 0 0 (seq y G))) (located_all values st n) in
      let e_work = ap (λ (x : Metered Value). x.work) e in
      let e_words = ap (λ (x : Metered Value). x.words) e in
      same_metered (copy l.table (Obj c i ls) st n) _ (length ls + length (chain l.table c)) (4 + length ls) 0 (ap (λ (x : Metered Value). x.outcome) e) (omega arith) (omega arith) (ap (λ (x : Metered Value). x.peak) e)

  copies : (j : ClassId) (self : Value) (vs : List Value) (made : fitting.World) (q : Pointers) (m : Bytes) (map : Map) (console : Console) (st : State) (s : Machine) (n : ℕ) → Received l j self vs made q m map console st s
      → length vs ≡ 0 → q.pc ≡ l.world.place (codes "Object.copy") → q.gp + 4 * (copy l.table self st n).words ≤ l.world.top → Way l (copy l.table self st n).outcome → RoutineRuns l vs q m map st s n (copy l.table self st n)
  copies j Void vs made q m map console st s n h none begins heap way = tt
  copies j (Int v) vs made q m map console st s n h none begins heap way = copies_number l loaded j (Int v) vs made q m map console st s n h none begins way v h.self_is heap
  copies j (Bool b) vs made q m map console st s n h none begins heap way = copies_truth l loaded j (Bool b) vs made q m map console st s n h none begins way b h.self_is heap
  copies j (Str bytes) vs made q m map console st s n h none begins heap way = copies_text l loaded j (Str bytes) vs made q m map console st s n h none begins way bytes h.self_is heap
  copies j (Obj c i ls) vs made q m map console st s n h none begins heap way = by (loads ls st n)
    where
      by : Loads ls st n → RoutineRuns l vs q m map st s n (copy l.table (Obj c i ls) st n)
      by (Missing wrong) =
          let x = load_all ls st n in
          let F : List Value → Computation Value = λ us. locate_all us >>= λ ks. draw >>= λ d. give (Obj c d ks) in
          let stuck : (copy l.table (Obj c i ls) st n).outcome ≡ Stuck = ap (λ (o : Outcome (List Value)). (seq_of o x.work x.words x.peak F).outcome) wrong in
          subst (λ (o : Outcome Value). Runs l s n (64 * (length vs + (copy l.table (Obj c i ls) st n).work) + 51) (Done l (record q { pc = q.ra; sp = q.sp + 4 * length vs }) m map st (copy l.table (Obj c i ls) st n).words) o) (sym stuck) tt
      by (Loaded values is long stored) =
          let (acc_is, drawn, class_is, places_are) = h.self_is in
          let r = copy l.table (Obj c i ls) st n in
          let e = object_meant c i ls st n values is in
          let e_outcome : r.outcome ≡ Val (Obj (map.class i) st.drawn (numbers (length st.store) (length values))) (with_values st values) n =
          ap (λ (x : Metered Value). x.outcome) e ∙ ap (λ (x : ClassId). Val (Obj x st.drawn (numbers (length st.store) (length values))) (with_values st values) n) class_is in
          let e_work = ap (λ (x : Metered Value). x.work) e in
          let e_words = ap (λ (x : Metered Value). x.words) e in
          let whole = same_metered r _ (length ls + length (chain l.table c)) (4 + length values + 0) 0 e_outcome e_work (omega arith) (ap (λ (x : Metered Value). x.peak) e) in
          subst (λ (x : Metered Value). RoutineRuns l vs q m map st s n x) (sym whole)
          (copies_object l loaded j (Obj c i ls) vs made q m map console st s n h none begins (subst (λ (o : Outcome Value). Way l o) e_outcome way) i drawn values (long ∙ ap length places_are)
          (λ d v there. subst (λ (ks : List ℕ). slice_get st.store (get_or ks d 0) ≡ Some v) places_are (stored d v there)) (length ls + length (chain l.table c)) 0 (omega arith) acc_is (omega arith))

  pub basic_correct : BasicCorrect l
  basic_correct Abort at self j vs made q m map console st s n h begins string line_is small count room = aborts l loaded j self vs made q m map console st s n h begins
  basic_correct TypeName at self j vs made q m map console st s n h begins string line_is small count room = gives_name l loaded j self vs made q m map console st s n h count begins
  basic_correct Copy at self j vs made q m map console st s n h begins string line_is small count room = copies j self vs made q m map console st s n h count begins room.heap room.way
  basic_correct OutString at self j vs made q m map console st s n h begins string line_is small count room = strings_written l loaded j self made q m map console st s n vs h begins
  basic_correct OutInt at self j vs made q m map console st s n h begins string line_is small count room = numbers_written l loaded j self made q m map console st s n vs h begins
  basic_correct InString at self j vs made q m map console st s n h begins string line_is small count room = reads_string l loaded j self vs made q m map console st s n h count begins room.heap room.way
  basic_correct InInt at self j vs made q m map console st s n h begins string line_is small count room = reads_number l loaded j self vs made q m map console st s n h count begins room.heap room.way
  basic_correct Length at self j vs made q m map console st s n h begins string line_is small count room = measures l loaded j self vs made q m map console st s n h self h.self_is count begins
  basic_correct Concat at self j vs made q m map console st s n h begins string line_is small count room = concats l loaded j made q m map console st s n self vs h begins room.heap room.way
  basic_correct Substr at self j vs made q m map console st s n h begins string line_is small count room = cuts l loaded j made q m map console st s n at string line_is small begins self vs h room.heap room.way
