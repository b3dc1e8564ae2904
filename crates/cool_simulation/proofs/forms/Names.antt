-- The code of a name loads its value: `self` from a register, and a variable from its word on the stack or in an object.
use Rattle.std.proofs.Common.{◌≡◌, ℕ, ◌+◌, ◌-◌, ◌*◌, ◌%◌, ◌<◌, ◌≤◌, ◌⊎◌, inl, inr, ℤ, pos, negsuc, List, sym, ap, ◌∙◌, subst, arith, refl}
use Rattle.std.specs.Prelude.{Bool as Truth, true, false, slice_get, Option, Some, if◌then◌else◌, bytes_eq, codes}
use Rattle.mips_isa.specs.declared.address_map.TheConstants.{HEAP_START, STACK_END}
use Rattle.mips_isa.specs.Bytes.{Bytes, word}
use Rattle.mips_isa.specs.Words.{bits_of}
use Rattle.mips_isa.specs.Machine.{wrap}
use Rattle.mips_isa.specs.Calls.{State as Machine}
use Rattle.cool_syntax.specs.declared.place.Place.{Place}
use Rattle.cool_syntax.specs.Tree as trees
use Rattle.cool_classes.specs.declared.class_id.ClassId.{ClassId}
use Rattle.cool_classes.specs.declared.class_id.Ty.{Ty}
use Rattle.cool_classes.specs.declared.class_id.Ty.TheVariants.{SelfType}
use Rattle.cool_rules.specs.Scopes.{Binding}
use Rattle.cool_rules.specs.Scopes as scopes
use Rattle.cool_runtime.specs.Reaches.{World, stands}
use Rattle.cool_runtime.specs.Standing.{HasLines, sizes}
use Rattle.cool_runtime.specs.Walk.{OkWord}
use Rattle.cool_runtime.specs.Machines.{At, Pointers, Console}
use Rattle.cool_codegen.specs.declared.variables.Base.{Base}
use Rattle.cool_codegen.specs.declared.variables.Variable.{Variable}
use Rattle.cool_codegen.specs.Variables.{Named, register}
use Rattle.cool_codegen.specs.Pieces.{take_self_lines, load_lines}
use Rattle.cool_codegen.specs.Code.{load_of}
use Rattle.cool_meaning.specs.Values.{Value, State, Environment, location_of}
use Rattle.cool_meaning.specs.Meters.{Metered, Val, free, given, load, give, ◌>>=◌}
use Rattle.cool_meaning.specs.Evaluation.{Call, Calls}
use Rattle.cool_meaning.specs.FittingValues as fitting
use Rattle.cool_simulation.specs.Loadings.{Loading, IsLoaded, Watched, whole}
use Rattle.cool_simulation.specs.Pictures.{Map, Pictures, HomeStands, Shows}
use Rattle.cool_simulation.specs.Simulation.{Begins, Done, Correct, Runs, IsWordAt, IsVariableAt, Passes, Shown}
use Rattle.cool_simulation.specs.Visits.{Visits, Visit}
use Rattle.cool_simulation.proofs.ground.PartsOfRuns.{run_comes, stands_as}
use Rattle.cool_simulation.proofs.ground.PartsBehind.{done_here, pic_fits}
use Rattle.cool_simulation.proofs.ground.Heads.{head_loads, head_takes_self, visit, visit_shown}
use Rattle.cool_simulation.proofs.ground.Passages.{passes_weaker}
use Rattle.cool_simulation.proofs.ground.CodeOfParts.{own_placed}

-- The word of a variable

pub word_address : (offset : ℤ) (base a r : ℕ) → r ≡ base → IsWordAt offset base a → a < 4294967296 → wrap (r + bits_of offset) ≡ a
word_address (pos k) base a r e at small = let is = at.0 in omega arith
word_address (negsuc k) base a r e at small = let is = at.0 in let few = at.1 in omega arith

module _ (w : World) where
  -- the address that the code computes for a variable
  pub variable_address : (v : Variable) (q : Pointers) (m : Bytes) (c : Console) (s : Machine) (a : ℕ) → At w q m c s → IsVariableAt q v a → a < 4294967296 → wrap (s.core.registers (register v.base) + bits_of v.offset) ≡ a
  variable_address v q m c s a at (inl h) small = word_address v.offset q.fp a _ (ap (λ (b : Base). s.core.registers (register b)) h.0 ∙ at.numbers.fp_is) h.1 small
  variable_address v q m c s a at (inr h) small = word_address v.offset q.self a _ (ap (λ (b : Base). s.core.registers (register b)) h.0 ∙ at.numbers.self_is) h.1 small

  -- a home may be loaded and stored
  pub home_ok : (a gp sp : ℕ) → a % 4 ≡ 0 → ((HEAP_START ≤ a) × (a + 4 ≤ gp)) ⊎ ((sp ≤ a) × (a + 4 ≤ STACK_END)) → gp ≤ w.segments.heap_end → w.segments.stack_low ≤ sp → OkWord w.segments a
  home_ok a gp sp even (inl h) to from =
      let laid = w.laid in let low = h.0 in let high = h.1 in
      record { even = even; above_text = omega arith; below_top = omega arith; in_data = λ less. omega arith; in_heap = λ more less. omega arith }
  home_ok a gp sp even (inr h) to from =
      let laid = w.laid in let low = h.0 in let high = h.1 in
      record { even = even; above_text = omega arith; below_top = omega arith; in_data = λ less. omega arith; in_heap = λ more less. omega arith }

  pub home_small : (a gp sp : ℕ) → ((HEAP_START ≤ a) × (a + 4 ≤ gp)) ⊎ ((sp ≤ a) × (a + 4 ≤ STACK_END)) → gp ≤ w.segments.heap_end → a < 4294967296
  home_small a gp sp (inl h) to = let laid = w.laid in let high = h.1 in omega arith
  home_small a gp sp (inr h) to = let high = h.1 in omega arith

-- The value that evaluation loads

value_loaded : (env : Environment) (name : List ℕ) (st : State) (n i : ℕ) (v : Value) → location_of env name ≡ Some i → slice_get st.store i ≡ Some v → (given (location_of env name) >>= load) st n ≡ free (Val v st n)
value_loaded env name st n i v there stored = ap (λ (o : Option ℕ). (given o >>= load) st n) there ∙ given_stored
  where
    given_stored : (given (Some i) >>= load) st n ≡ free (Val v st n)
    given_stored = by (slice_get st.store i) stored
      where
        by : (o : Option Value) → o ≡ Some v → (give i >>= λ j. λ s k. given o s k) st n ≡ free (Val v st n)
        by o e = ap (λ (x : Option Value). (give i >>= λ j. λ s k. given x s k) st n) e

module _ (l : Loading) where
  -- the value of a name
  name_loaded : (found : Option Variable) (v : Variable) (q : Pointers) (m : Bytes) (map : Map) (console : Console) (st : State) (s : Machine) (i : ℕ) → found ≡ Some v → (x : Visit) → Watched l.watch x → Shown l x s → HasLines (whole l) q.pc (load_of found) → At l.world q m console s
      → Shows st console → Pictures l.table l.world l.memory m map st q.gp q.sp → (some : 0 < map.home i) → IsVariableAt q v (map.home i)
      → (value : Value) × (slice_get st.store i ≡ Some value) × Passes l s 0 1 (stands (Done l (record q { pc = q.pc + sizes (load_of found) }) m map st 0 value st))
  unfolding load_lines
  name_loaded found v q m map console st s i e x watched shown has at shows pictures some there =
      let home : HomeStands l.world m map st q.gp q.sp i = pictures.homes i some in
      let numbers = at.numbers in
      let laid = l.world.laid in
      let has' : HasLines (whole l) q.pc (load_lines v.offset (register v.base)) = subst (λ o. HasLines (whole l) q.pc (load_of o)) e has in
      let four : sizes (load_of found) ≡ 4 = ap (λ o. sizes (load_of o)) e in (
        home.value,
        home.stored,
        passes_weaker l s 0 1 _ _
            (stands_as _ _ (λ u there'. done_here l (record q { pc = q.pc + sizes (load_of found) }) m map st 0 home.value u (word m (map.home i)) q.ra console
            (subst (λ x. At l.world (record q { pc = q.pc + x; acc = word m (map.home i) }) m console u) (sym four) there') shows pictures home.picture))
            (head_loads l q m console s at x watched shown (register v.base) v.offset (map.home i) has' (variable_address l.world v q m console s (map.home i) at there (home_small l.world (map.home i) q.gp q.sp home.room numbers.gp_to))
            (home_ok l.world (map.home i) q.gp q.sp home.even home.room numbers.gp_to numbers.sp_from)
            (pic_fits l.world l.table l.memory m map st q.gp q.sp home.value _ (omega arith) pictures home.picture)),
      )

module _ (l : Loading) (loaded : IsLoaded l) (calls : Calls) (begun_in : Call → Visits) (b : ℕ) where
  pub id_correct : (at : Place) (name : List ℕ) → Correct l calls begun_in b (trees.Id at name)
  unfolding take_self_lines
  id_correct at name = record {
    runs = λ c f k self scope vs env made d first q m map console st s n type less begins has code room watched.
        by c k self scope vs env made d q m map console st s n type begins (visit c f first (trees.Id at name) self env st n) (watched (visit c f first (trees.Id at name) self env st n) refl)
        (visit_shown l c f k self scope vs env made d first q m map console st s n (trees.Id at name) begins (own_placed l c f vs d first q.pc (trees.Id at name) code)) (bytes_eq name (codes "self")) has code.lines;
  }
    where
      by : (c k : ClassId) (self : Value) (scope : List Binding) (vs : List Named) (env : Environment) (made : fitting.World) (d : ℕ) (q : Pointers) (m : Bytes) (map : Map) (console : Console) (st : State) (s : Machine) (n : ℕ) (type : Ty)
          → Begins l c k self scope vs env made d q m map console st s → (z : Visit) → Watched l.watch z → Shown l z s → (x : Truth) → (if x then Some SelfType else scopes.found scope name) ≡ Some type
          → HasLines (whole l) q.pc (if x then take_self_lines else load_of (scopes.found vs name))
          → Runs l s n (64 * (1 + ((if x then give self else (given (location_of env name) >>= load)) st n).work) - 4)
          (Done l (record q { pc = q.pc + sizes (if x then take_self_lines else load_of (scopes.found vs name)) }) m map st ((if x then give self else (given (location_of env name) >>= load)) st n).words)
          ((if x then give self else (given (location_of env name) >>= load)) st n).outcome
      by c k self scope vs env made d q m map console st s n type begins z watched shown true has lines =
          let laid = l.world.laid in
          let numbers = begins.at.numbers in
          run_comes l self st s n 1 60 (Done l (record q { pc = q.pc + 4 }) m map st 0) (omega arith)
          (passes_weaker l s 0 1 _ _ (stands_as _ _ (λ u there. done_here l (record q { pc = q.pc + 4 }) m map st 0 self u q.self q.ra console there begins.shows begins.pictures begins.self_is))
          (head_takes_self l q m console s begins.at z watched shown lines (pic_fits l.world l.table l.memory m map st q.gp q.sp self q.self (omega arith) begins.pictures begins.self_is)))
      by c k self scope vs env made d q m map console st s n type begins z watched shown false has lines =
          let (v, found, same) = begins.variables.typed name type has in
          let (i, there, some, word_at) = begins.variables.homes name v found in
          let (value, stored, reaches) = name_loaded l (scopes.found vs name) v q m map console st s i found z watched shown lines begins.at begins.shows begins.pictures some word_at in
          subst
          (λ (r : Metered Value). Runs l s n (64 * (1 + r.work) - 4) (Done l (record q { pc = q.pc + sizes (load_of (scopes.found vs name)) }) m map st r.words) r.outcome)
          (sym (value_loaded env name st n i value there stored))
          (run_comes l value st s n 1 60 (Done l (record q { pc = q.pc + sizes (load_of (scopes.found vs name)) }) m map st 0) (omega arith) reaches)
