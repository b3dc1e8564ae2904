-- The code of an assignment simulates its evaluation: it stores the value at the address of the variable.
use Rattle.std.proofs.Common.{◌≡◌, ℕ, ◌+◌, ◌*◌, List, [], ◌++◌, refl, sym, ap, ◌∙◌, subst, arith, inr}
use Rattle.std.specs.Prelude.{false, slice_set, Option, Some, bytes_eq, codes, if◌then◌else◌}
use Rattle.mips_isa.specs.Bytes.{set_word}
use Rattle.cool_syntax.specs.declared.place.Place.{Place}
use Rattle.cool_syntax.specs.Tree.{Tree}
use Rattle.cool_syntax.specs.Tree as trees
use Rattle.cool_runtime.specs.Standing.{HasLines, sizes}
use Rattle.cool_runtime.specs.Machines.{At, Pointers}
use Rattle.cool_runtime.proofs.Pieces.{next, done, has_front, has_back, sizes_append}
use Rattle.cool_codegen.specs.declared.variables.Variable.{Variable}
use Rattle.cool_rules.specs.Scopes as scopes
use Rattle.cool_codegen.specs.Variables.{Named, register}
use Rattle.cool_codegen.specs.Pieces.{store_lines}
use Rattle.cool_codegen.specs.Code.{code, assign_code, store_of}
use Rattle.cool_meaning.specs.Values.{Value, State, Environment, location_of}
use Rattle.cool_meaning.specs.Meters.{Val, Metered, free, give, given, store, ◌>>=◌, ◌>>◌}
use Rattle.cool_meaning.specs.Evaluation.{Call, Calls, eval, assign}
use Rattle.cool_meaning.proofs.SoundParts.{AllCallsSound}
use Rattle.cool_simulation.specs.Loadings.{Loading, IsLoaded, constants, context, whole}
use Rattle.cool_simulation.specs.Simulation.{Done, Correct, Runs}
use Rattle.cool_simulation.specs.Visits.{Visits}
use Rattle.cool_simulation.proofs.ground.Walks.{stores}
use Rattle.cool_simulation.proofs.ground.PartsOfRuns.{run_gives}
use Rattle.cool_simulation.proofs.ground.EvaluationLater.{CallsLater, assign_later}
use Rattle.cool_simulation.proofs.ground.PartsBehind.{done_on}
use Rattle.cool_simulation.proofs.forms.Names.{variable_address, home_ok, home_small}
use Rattle.cool_simulation.proofs.ground.BoundVariables.{stored_done}
use Rattle.cool_simulation.proofs.ground.CodeOfParts.{asks_of, part_at, in_rest, own_placed}
use Rattle.cool_simulation.proofs.ground.FirstParts.{rule_runs}
use Rattle.cool_simulation.proofs.ground.Passages.{quiet}
use Rattle.cool_codegen.specs.Spans.{span, spans}

-- the outcome of an assignment
value_stored : (env : Environment) (name : List ℕ) (st : State) (n i : ℕ) (v : Value) → location_of env name ≡ Some i → assign env name v st n ≡ free (Val v (record st { store = slice_set st.store i v }) n)
value_stored env name st n i v there = ap (λ (o : Option ℕ). (given o >>= λ l. store l v >> give v) st n) there

-- the words for a name other than self
stored_lines : (vs : List Named) (name : List ℕ) (v : Variable) → bytes_eq name (codes "self") ≡ false → scopes.found vs name ≡ Some v → assign_code vs name ≡ store_lines v.offset (register v.base)
stored_lines vs name v other found = ap (λ x. if x then [] else store_of (scopes.found vs name)) other ∙ ap store_of found

module _ (l : Loading) (loaded : IsLoaded l) (calls : Calls) (begun_in : Call → Visits) (b : ℕ) (sound : AllCallsSound l.table calls b) (later : CallsLater calls) where
  pub assign_correct : (at : Place) (name : List ℕ) (t : Tree) → Correct l calls begun_in b t → Correct l calls begun_in b (trees.Assign at name t)
  unfolding store_lines
  assign_correct at name t correct = record {
    runs = λ c f k self scope vs env made d first q m map console st s n type less begins (declared, other, has, there, conforms) code_at room watched.
        let small = code_at.small in
        let w = l.world in
        let o = whole l in
        let lt = code (context l c f) (constants l) vs d first t in
        let pc1 = q.pc + sizes lt in
        let final = q.pc + sizes (lt ++ assign_code vs name) in
        let free = (own_placed l c f vs d first q.pc (trees.Assign at name t) code_at).quiet in
        let store_there : HasLines w pc1 (assign_code vs name) =
        quiet l (assign_code vs name) pc1 final (let h = sizes_append w lt (assign_code vs name) in omega arith) free (has_back o lt (assign_code vs name) q.pc pc1 refl code_at.lines) in
        let own = span vs d first q.pc (trees.Assign at name t) in
        let at_t = spans sizes (context l c f) (constants l) vs d first q.pc t in
        let whole = (eval l.table calls self env (trees.Assign at name t) st n).words in
        let L = Done l (record q { pc = final }) m map st whole in
        let numbers = begins.at.numbers in
        rule_runs l loaded calls begun_in b sound c f k self scope vs env made d first q m map console st s n less begins t type correct has
        (part_at l c f vs d first q.pc t (has_front o lt (assign_code vs name) q.pc code_at.lines) (asks_of l c f vs d first q.pc (trees.Assign at name t) code_at) code_at.within.2 (omega arith)
        (λ x h. code_at.spans x (in_rest own at_t x h))) (λ x h. watched x (inr h))
        (λ v. assign env name v) L (λ v. assign_later env name v) room
        (λ v t1 left u e j x sum rest.
        let (variable, found, same_type) = x.begins.variables.typed name declared there in
        let (i, located, some, word_at) = x.begins.variables.homes name variable found in
        let lines : assign_code vs name ≡ store_lines variable.offset (register variable.base) = stored_lines vs name variable other found in
        let four : sizes (assign_code vs name) ≡ 4 = ap sizes lines in
        let has_lines : HasLines w pc1 (store_lines variable.offset (register variable.base)) = subst (λ xs. HasLines w pc1 xs) lines store_there in
        let home = j.pictures.homes i some in
        let numbers1 = j.at.numbers in
        let q1 : Pointers = record q { pc = pc1; gp = j.gp; acc = j.acc; ra = j.ra } in
        let is = value_stored env name t1 left i v located in
        let words : whole ≡ (eval l.table calls self env t st n).words + 0 = sum ∙ ap (λ (r : Metered Value). (eval l.table calls self env t st n).words + r.words) is in
        subst (λ (r : Metered Value). Runs l u left (64 * r.work + 60) L r.outcome) (sym is)
        (run_gives l v (record t1 { store = slice_set t1.store i v }) u left 1 60 L (omega arith)
        (next w u 1 0 1 _ _ (stores w (register variable.base) variable.offset (j.map'.home i) q1 j.memory j.console u has_lines j.at
        (variable_address w variable q1 j.memory j.console u (j.map'.home i) j.at word_at (home_small w (j.map'.home i) j.gp q.sp home.room numbers1.gp_to))
        (home_ok w (j.map'.home i) j.gp q.sp home.even home.room numbers1.gp_to numbers1.sp_from)) (omega arith)
        (λ u2 at2. done w 0 u2 _
        (let k2 = stored_done l q m map st (eval l.table calls self env t st n).words pc1 final i v t1 u u2 j some numbers.sp_even
        (subst (λ a. At w (record q { pc = a; gp = j.gp; acc = j.acc; ra = j.ra }) (set_word j.memory (j.map'.home i) j.acc) j.console u2) (let h = sizes_append w lt (assign_code vs name) in omega arith) at2) in
        done_on l q m map st (eval l.table calls self env t st n).words whole v v (record t1 { store = slice_set t1.store i v }) u2 u2 final final k2.acc k2.ra k2 (omega arith) k2.at k2.value)))));
  }
