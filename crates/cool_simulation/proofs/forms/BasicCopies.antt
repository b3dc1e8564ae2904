-- The run-time routine of `copy` simulates the method for an Int, a Bool or a String. These values have no identity in the semantics.
use Rattle.std.proofs.Common.{◌≡◌, ℕ, ◌+◌, ◌*◌, ◌≤◌, List, length, Bool as Truth, arith}
use Rattle.std.specs.Prelude.{codes, ℤ}
use Rattle.mips_isa.specs.declared.address_map.TheConstants.{HEAP_START}
use Rattle.mips_isa.specs.Bytes.{Bytes}
use Rattle.mips_isa.specs.Calls.{State as Machine}
use Rattle.cool_classes.specs.declared.class_id.ClassId.{ClassId}
use Rattle.cool_runtime.specs.Reaches.{OnTheWay}
use Rattle.cool_runtime.specs.Contents.{words_of_bytes}
use Rattle.cool_runtime.specs.Labels.{copy}
use Rattle.cool_runtime.specs.Machines.{Pointers, Console}
use Rattle.cool_runtime.specs.declared.catalogue.Routine.TheVariants as routines
use Rattle.cool_runtime.proofs.MeaningsMet.{means}
use Rattle.cool_meaning.specs.Values.{Value, Int, Bool, Str, State}
use Rattle.cool_meaning.specs.BasicMethods.{new_number, new_truth, new_string}
use Rattle.cool_meaning.specs.FittingValues as fitting
use Rattle.cool_simulation.specs.Loadings.{Loading, IsLoaded}
use Rattle.cool_simulation.specs.Pictures.{Map, Pic}
use Rattle.cool_simulation.proofs.forms.Arguments.{limits, console_way}
use Rattle.cool_simulation.proofs.ground.MadePictures.{number_copied, truth_copied, text_copied}
use Rattle.cool_simulation.proofs.forms.Received.{Received}
use Rattle.cool_simulation.proofs.forms.RoutinesDone.{RoutineRuns, routine_done, passes_as}

module _ (l : Loading) (loaded : IsLoaded l) (j : ClassId) (self : Value) (vs : List Value) (made : fitting.World) (q : Pointers) (m : Bytes) (map : Map) (console : Console) (st : State) (s : Machine) (n : ℕ)
    (h : Received l j self vs made q m map console st s) (none : length vs ≡ 0) (begins : q.pc ≡ l.world.place (codes "Object.copy")) (way : OnTheWay l.world st.output st.input) where
  from : HEAP_START ≤ q.gp
  from = let numbers = h.at.numbers in omega arith

  pub copies_number : (v : ℤ) → Pic l.world m map st.drawn q.gp (Int v) q.acc → q.gp + 4 * 5 ≤ l.world.top → RoutineRuns l vs q m map st s n (new_number v st n)
  unfolding copy
  copies_number v pic heap =
      let numbers = h.at.numbers in
      let laid = l.world.laid in
      let made' = number_copied l.world l.table l.memory m map st q.gp q.sp q.acc v from (omega arith) (omega arith) h.pictures pic in
      passes_as l s n (7 * 4 + 16) _ _ _ (omega arith)
      (means l.world routines.Copy q m console s 4 (limits l loaded) (loaded.routines routines.Copy) h.at begins pic.0.lies (omega arith) pic.0.head.size_is (omega arith) (console_way l loaded st console h.shows way))
      (λ t at. routine_done l j self vs made q m map console st s h (q.gp + 20) q.sp (q.gp + 4) _ _ console st.input st.output (Int v) t
      (record { numbers = (let numbers' = at.numbers in omega arith); memory_is = at.memory_is; input_is = at.input_is; ended_is = at.ended_is; output_is = at.output_is }) (omega arith) made'.same (omega arith) (omega arith) h.shows made'.value)

  pub copies_truth : (b : Truth) → Pic l.world m map st.drawn q.gp (Bool b) q.acc → q.gp + 4 * 5 ≤ l.world.top → RoutineRuns l vs q m map st s n (new_truth b st n)
  unfolding copy
  copies_truth b pic heap =
      let numbers = h.at.numbers in
      let laid = l.world.laid in
      let made' = truth_copied l.world l.table l.memory m map st q.gp q.sp q.acc b from (omega arith) (omega arith) h.pictures pic in
      passes_as l s n (7 * 4 + 16) _ _ _ (omega arith)
      (means l.world routines.Copy q m console s 4 (limits l loaded) (loaded.routines routines.Copy) h.at begins pic.0.lies (omega arith) pic.0.head.size_is (omega arith) (console_way l loaded st console h.shows way))
      (λ t at. routine_done l j self vs made q m map console st s h (q.gp + 20) q.sp (q.gp + 4) _ _ console st.input st.output (Bool b) t
      (record { numbers = (let numbers' = at.numbers in omega arith); memory_is = at.memory_is; input_is = at.input_is; ended_is = at.ended_is; output_is = at.output_is }) (omega arith) made'.same (omega arith) (omega arith) h.shows made'.value)

  pub copies_text : (bytes : List ℕ) → Pic l.world m map st.drawn q.gp (Str bytes) q.acc → q.gp + 4 * (new_string bytes st n).words ≤ l.world.top → RoutineRuns l vs q m map st s n (new_string bytes st n)
  unfolding copy
  copies_text bytes pic heap =
      let numbers = h.at.numbers in
      let laid = l.world.laid in
      let size = 4 + words_of_bytes (length bytes) in
      let to = pic.0.lies.to in
      passes_as l s n (7 * size + 16) _ _ _ (omega arith)
      (means l.world routines.Copy q m console s size (limits l loaded) (loaded.routines routines.Copy) h.at begins pic.0.lies (omega arith) pic.0.head.size_is (omega arith) (console_way l loaded st console h.shows way))
      (λ t at.
      let numbers' = at.numbers in
      let made' = text_copied l.world l.table l.memory m map st q.gp q.sp q.acc bytes from (omega arith) (omega arith) (omega arith) h.pictures pic in
      routine_done l j self vs made q m map console st s h (q.gp + 4 * size + 4) q.sp (q.gp + 4) _ _ console st.input st.output (Str bytes) t at (omega arith) made'.same (omega arith) (omega arith) h.shows made'.value)
