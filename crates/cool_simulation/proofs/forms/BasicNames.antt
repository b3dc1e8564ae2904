-- The run-time routines of `abort`, `type_name` and `length` simulate calls of these methods.
use Rattle.std.proofs.Common.{◌≡◌, ℕ, ◌+◌, ◌*◌, ◌≤◌, List, [], ◌∷◌, length, Option, sym, subst, arith, append_assoc}
use Rattle.std.specs.Prelude.{codes}
use Rattle.mips_isa.specs.declared.address_map.TheConstants.{HEAP_START}
use Rattle.mips_isa.specs.Bytes.{Bytes, word}
use Rattle.mips_isa.specs.Calls.{State as Machine}
use Rattle.cool_classes.specs.declared.class_id.ClassId.{ClassId}
use Rattle.cool_classes.specs.Chains.{name_of}
use Rattle.cool_runtime.specs.Contents.{IntAt}
use Rattle.cool_runtime.specs.Labels.{abort, type_name, string_length}
use Rattle.cool_runtime.specs.Machines.{Pointers, Console}
use Rattle.cool_runtime.specs.declared.catalogue.Routine.TheVariants as routines
use Rattle.cool_runtime.proofs.MeaningsMet.{means}
use Rattle.cool_layout.specs.Preorder.{tag}
use Rattle.cool_meaning.specs.Values.{Value, Void, Int, Bool, Str, Obj, State, class_of}
use Rattle.cool_meaning.specs.Meters.{Computation, ◌>>=◌, Aborted, give, stop, given}
use Rattle.cool_meaning.specs.BasicMethods.{as_string, new_number}
use Rattle.cool_meaning.specs.Numbers.{signed, word_of}
use Rattle.cool_meaning.specs.FittingValues as fitting
use Rattle.cool_simulation.specs.Loadings.{Loading, IsLoaded}
use Rattle.cool_simulation.specs.Pictures.{Map, Pic}
use Rattle.cool_simulation.specs.Simulation.{Done, Runs}
use Rattle.cool_simulation.proofs.ground.CallErrors.{stops}
use Rattle.cool_simulation.proofs.ground.DataHere.{name_here, name_pic, text_here}
use Rattle.cool_simulation.proofs.forms.ReceiverHeads.{has_head, tagged}
use Rattle.cool_simulation.proofs.forms.Received.{Received}
use Rattle.cool_simulation.proofs.forms.RoutinesDone.{routine_done, same_memory, passes_as}
use Rattle.cool_simulation.proofs.ground.WordsOfNumbers.{signed_word}
use Rattle.cool_runtime.proofs.Runs.{wider}
use Rattle.cool_simulation.proofs.ground.Passages.{passes}

module _ (l : Loading) (loaded : IsLoaded l) (j : ClassId) (self : Value) (vs : List Value) (made : fitting.World) (q : Pointers) (m : Bytes) (map : Map) (console : Console) (st : State) (s : Machine) (n : ℕ)
    (h : Received l j self vs made q m map console st s) where
  abbrev Meant : Computation Value → Type 0
  Meant d = Runs l s n (64 * (length vs + (d st n).work) + 51) (Done l (record q { pc = q.ra; sp = q.sp + 4 * length vs }) m map st (d st n).words) (d st n).outcome

  from : HEAP_START ≤ q.gp
  from = let numbers = h.at.numbers in omega arith

  pub aborts : q.pc ≡ l.world.place (codes "Object.abort") → Meant (given (class_of self) >>= λ c. stop (Aborted c))
  unfolding abort
  aborts begins =
      let p = l.table in
      subst (λ (o : Option ClassId). Meant (given o >>= λ c. stop (Aborted c))) (sym h.class)
      (passes l s 0 (64 * (length vs + 0) + 51) _ (wider l.world s 0 0 18 (64 * (length vs + 0) + 51) _ (omega arith) (omega arith)
      (stops l (Aborted j) st console _ s 18 h.shows (append_assoc (codes "Abort called from class ") (name_of p j) (10 ∷ []))
      (means l.world routines.Abort q m console s (tag p j) (name_of p j) (codes "Abort called from class ") (codes "\n") (loaded.routines routines.Abort) h.at begins
      (tagged l loaded m q.gp q.acc j (has_head l loaded self j m map st q.gp q.sp q.acc h.class h.pictures h.self_is)) (name_here l loaded m map st q.gp q.sp from h.pictures j h.within)
      (text_here l loaded m map st q.gp q.sp from h.pictures _ _ loaded.abort_text) (text_here l loaded m map st q.gp q.sp from h.pictures _ _ loaded.newline_text)))))

  pub gives_name : length vs ≡ 0 → q.pc ≡ l.world.place (codes "Object.type_name") → Meant (given (class_of self) >>= λ c. give (Str (name_of l.table c)))
  unfolding type_name
  gives_name none begins =
      let p = l.table in
      subst (λ (o : Option ClassId). Meant (given o >>= λ c. give (Str (name_of p c)))) (sym h.class)
      (passes_as l s n 8 _ _ _ (omega arith)
      (means l.world routines.TypeName q m console s (tag p j) (name_of p j) (loaded.routines routines.TypeName) h.at begins
      (tagged l loaded m q.gp q.acc j (has_head l loaded self j m map st q.gp q.sp q.acc h.class h.pictures h.self_is)) (name_here l loaded m map st q.gp q.sp from h.pictures j h.within))
      (λ t at. routine_done l j self vs made q m map console st s h q.gp q.sp _ _ m console st.input st.output (Str (name_of p j)) t at (omega arith) (same_memory l m q.gp q.sp) (omega arith) (omega arith) h.shows
      (name_pic l loaded m map st q.gp q.sp from h.pictures j h.within)))

  -- the length's own Int is the result
  gives_length : (bytes : List ℕ) → Pic l.world m map st.drawn q.gp (Str bytes) q.acc → length vs ≡ 0 → q.pc ≡ l.world.place (codes "String.length") → Meant (new_number (signed (length bytes)))
  unfolding string_length
  gives_length bytes (string, un, un') none begins =
      let int = string.length_is in
      let small = int.fits in
      let (word_is, fit) = signed_word (length bytes) in
      let same : length bytes ≡ word_of (signed (length bytes)) = omega arith in
      passes_as l s n 2 _ _ _ (omega arith)
      (means l.world routines.Length q m console s bytes (loaded.routines routines.Length) h.at begins string)
      (λ t at. routine_done l j self vs made q m map console st s h q.gp q.sp _ _ m console st.input st.output (Int (signed (length bytes))) t at (omega arith) (same_memory l m q.gp q.sp) (omega arith) (omega arith) h.shows
      (subst (λ (x : ℕ). IntAt l.world m q.gp (word m (q.acc + 12)) x) same int, fit, un'))

  pub measures : (v : Value) → Pic l.world m map st.drawn q.gp v q.acc → length vs ≡ 0 → q.pc ≡ l.world.place (codes "String.length") → Meant (as_string v >>= λ bytes. new_number (signed (length bytes)))
  measures (Str bytes) pic none begins = gives_length bytes pic none begins
  measures Void pic none begins = tt
  measures (Int x) pic none begins = tt
  measures (Bool x) pic none begins = tt
  measures (Obj c i ls) pic none begins = tt
