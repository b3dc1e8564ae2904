-- A pushed value can become the value of a new variable: the pushed word is the variable's address until the end of the body, when the word is popped. A store
-- to a variable changes the word at its address.
use Rattle.std.proofs.Common.{◌≡◌, ℕ, ◌+◌, ◌-◌, ◌*◌, ◌/◌, ◌%◌, ◌<◌, ◌≤◌, ◌⊎◌, inl, inr, List, [], ◌∷◌, ◌++◌, length, Bool as Truth, true, false, refl, sym, ap, ◌∙◌, subst, arith}
use Rattle.std.specs.Prelude.{slice_get, slice_set, Some, bytes_eq, if◌then◌else◌}
use Rattle.mips_isa.specs.Bytes.{Bytes, word, set_word}
use Rattle.mips_isa.specs.Calls.{State as Machine}
use Rattle.cool_classes.specs.declared.class_id.ClassId.{ClassId}
use Rattle.cool_classes.specs.declared.class_id.Ty.{Ty}
use Rattle.cool_rules.specs.Conformance.{class_of as class_meant}
use Rattle.cool_rules.specs.Scopes.{Binding}
use Rattle.cool_rules.specs.Scopes as scopes
use Rattle.cool_rules.specs.Typing.{with_name}
use Rattle.cool_runtime.specs.Contents.{Same}
use Rattle.cool_runtime.specs.Machines.{At, Pointers, Console}
use Rattle.cool_runtime.proofs.Words.{word_same}
use Rattle.cool_codegen.specs.declared.variables.Variable.{Variable}
use Rattle.cool_codegen.specs.Variables.{Named, bind, pushed}
use Rattle.cool_meaning.specs.Values.{Value, State, Environment, location_of}
use Rattle.cool_meaning.specs.FittingValues.{Fits}
use Rattle.cool_meaning.proofs.FittingValues.{fit_length, fit_more, made_last, still_fits, still_all_fit}
use Rattle.cool_meaning.specs.FittingValues as fitting
use Rattle.cool_meaning.proofs.FittingValues as growing
use Rattle.cool_meaning.proofs.SoundEvaluation.{scene_later, scene_with}
use Rattle.cool_simulation.specs.Loadings.{Loading}
use Rattle.cool_simulation.specs.Pictures.{Map, Pic, Pictures, Kept, Grown}
use Rattle.cool_simulation.specs.Simulation.{Begins, Done, Variables, IsVariableAt}
use Rattle.cool_simulation.proofs.ground.PicturesStay.{Staying, pic_stays, staying_same, kept_same, kept_then, not_grown, grown_then, pictures_same, pictures_lower, pictures_higher}
use Rattle.cool_simulation.proofs.ground.ObjectsStay.{if_same, if_other, set_long}
use Rattle.cool_simulation.proofs.ground.Homes.{homed, dropped, homed_grown, dropped_grown, dropped_word, store_kept, store_pictures, homed_pictures, homed_pic, dropped_pictures, dropped_pic}
use Rattle.cool_simulation.proofs.ground.PartsBehind.{push_same, done_of}
use Rattle.std.proofs.lemmas.List.{length-append}

-- a location with a home is one of the store
pub within_store : (home : ℕ → ℕ) (located l : ℕ) → ((l : ℕ) → located ≤ l → home l ≡ 0) → 0 < home l → l < located
within_store home located l fresh some = by order
  where
    order : (l < located) ⊎ (located ≤ l)
    order = grind arith

    by : (l < located) ⊎ (located ≤ l) → l < located
    by (inl less) = less
    by (inr le) = let none = fresh l le in absurd (omega arith)

-- Names with one more, at home in the word under the others
bound_variables : (map : Map) (q q' : Pointers) (scope : List Binding) (vs : List Named) (env : Environment) (name : List ℕ) (t : Ty) (d located a : ℕ) → q'.fp ≡ q.fp → q'.self ≡ q.self → 0 < a
    → a + (4 * d + 4) ≡ q.fp → d < 8191 → ((l : ℕ) → located ≤ l → map.home l ≡ 0) → Variables map q scope vs env
    → Variables (homed map located a) q' (with_name name t scope) (bind d name t vs) (record { name = name; location = located } ∷ env)
bound_variables map q q' scope vs env name t d located a same_fp same_self some depth small fresh h = record {
  typed = λ other u there. typed_by other u (bytes_eq name other) there;
  homes = λ other v there. home_by other v (bytes_eq name other) there;
}
  where
    typed_by : (other : List ℕ) (u : Ty) (x : Truth) → (if x then Some t else scopes.found scope other) ≡ Some u
        → (v : Variable) × ((if x then Some (pushed d t) else scopes.found vs other) ≡ Some v) × (v.ty ≡ u)
    typed_by other u true there = let same : t ≡ u = cc in (pushed d t, refl, same)
    typed_by other u false there = h.typed other u there

    old : (v : Variable) (l : ℕ) → 0 < map.home l → IsVariableAt q v (map.home l) → (0 < (homed map located a).home l) × IsVariableAt q' v ((homed map located a).home l)
    old v l there at =
        let less : l < located = within_store map.home located l fresh there in
        let same : (homed map located a).home l ≡ map.home l = if_other l located a (map.home l) (λ e. omega arith) in (
          omega arith,
          subst (λ x. IsVariableAt q' v x) (sym same) (subst (λ x. IsVariableAt (record q' { fp = x }) v (map.home l)) (sym same_fp) (subst (λ x. IsVariableAt (record q' { fp = q.fp; self = x }) v (map.home l)) (sym same_self) at)),
        )

    home_by : (other : List ℕ) (v : Variable) (x : Truth) → (if x then Some (pushed d t) else scopes.found vs other) ≡ Some v
        → (l : ℕ) × ((if x then Some located else location_of env other) ≡ Some l) × (0 < (homed map located a).home l) × IsVariableAt q' v ((homed map located a).home l)
    home_by other v true there =
        let is : pushed d t ≡ v = cc in
        let same : (homed map located a).home located ≡ a = if_same located located a (map.home located) refl in (
          located,
          refl,
          omega arith,
          subst (λ x. IsVariableAt q' v x) (sym same) (subst (λ y. IsVariableAt q' y a) is (inl (refl, (omega arith, omega arith)))),
        )
    home_by other v false there =
        let (l, found, there', at) = h.homes other v there in
        let still = old v l there' at in
        (l, found, still.0, still.1)

module _ (l : Loading) where
  -- The body begins behind the push.
  pub bound_begins : (c k : ClassId) (self : Value) (scope : List Binding) (vs : List Named) (env : Environment) (made : fitting.World) (d : ℕ) (q : Pointers) (m : Bytes) (map : Map) (console : Console) (st : State) (s u : Machine)
      (name : List ℕ) (t : Ty) (v : Value) (pc : ℕ) → Begins l c k self scope vs env made d q m map console st s → Pic l.world m map st.drawn q.gp v q.acc → Fits l.table made v (class_meant k t) → d < 8191
      → At l.world (record q { pc = pc; sp = q.sp - 4 }) (set_word m (q.sp - 4) q.acc) console u
      → Begins l c k self (with_name name t scope) (bind d name t vs) (record { name = name; location = length st.store } ∷ env) (made ++ class_meant k t ∷ []) (d + 1) (record q { pc = pc; sp = q.sp - 4 })
      (set_word m (q.sp - 4) q.acc) (homed map (length st.store) (q.sp - 4)) console (record st { store = st.store ++ v ∷ [] }) u
  bound_begins c k self scope vs env made d q m map console st s u name t v pc begins pic fit small at =
      let laid = l.world.laid in
      let numbers = begins.at.numbers in
      let below = at.numbers in
      let depth = begins.depth in
      let frame = begins.frame in
      let a = q.sp - 4 in
      let m1 = set_word m a q.acc in
      let same : Same m m1 q.gp q.sp = push_same l.world m q.gp q.sp q.acc (omega arith) in
      let stay = staying_same l.world m m1 map st.drawn q.gp q.sp same in
      let top : word m1 a ≡ q.acc = word_same m a q.acc numbers.acc_fits in
      let pictures1 = pictures_lower l.world l.table l.memory m1 map st q.gp q.sp a (omega arith) (pictures_same l.world l.table l.memory m m1 map st q.gp q.gp q.sp numbers.gp_from (omega arith) same begins.pictures) in
      let pic1 = pic_stays l.world m m1 map map st.drawn st.drawn q.gp q.gp v q.acc (omega arith) (omega arith) stay pic in
      let grows : growing.Grown made (made ++ class_meant k t ∷ []) = record { more = class_meant k t ∷ []; is = refl } in
      let long : length st.store ≡ length made = fit_length l.table made st.store made begins.fits in
      record {
        at = at;
        shows = record { input = begins.shows.input; output = begins.shows.output; ended = begins.shows.ended; bytes = begins.shows.bytes };
        pictures = homed_pictures l.world l.table l.memory m1 map st q.gp a a v numbers.gp_from (omega arith) pictures1 (omega arith) (omega arith) (omega arith)
            (begins.pictures.unmarked_room (a / 4) (omega arith) (omega arith)) (subst (λ x. Pic l.world m1 map st.drawn q.gp v x) (sym top) pic1);
        variables = bound_variables map q (record q { pc = pc; sp = q.sp - 4 }) scope vs env name t d (length st.store) a refl refl (omega arith) (omega arith) small begins.pictures.fresh begins.variables;
        self_is = homed_pic l.world m1 map st.drawn q.gp (length st.store) a self q.self (omega arith) (omega arith)
            (pic_stays l.world m m1 map map st.drawn st.drawn q.gp q.gp self q.self (omega arith) (omega arith) stay begins.self_is);
        depth = omega arith;
        frame = begins.frame;
        scene = scene_with l.table (made ++ class_meant k t ∷ []) c k self scope env name t (length st.store)
            (subst (λ n. slice_get (made ++ class_meant k t ∷ []) n ≡ Some (class_meant k t)) (sym long) (made_last made (class_meant k t)))
            (scene_later l.table made (made ++ class_meant k t ∷ []) c k self scope env grows begins.scene);
        fits = fit_more l.table (made ++ class_meant k t ∷ []) st.store made v (class_meant k t) (still_all_fit l.table made (made ++ class_meant k t ∷ []) grows st.store made begins.fits)
            (still_fits l.table made (made ++ class_meant k t ∷ []) grows v (class_meant k t) fit);
      }

  -- The state after the body and the pop.
  pub bound_done : (q : Pointers) (m : Bytes) (map : Map) (console : Console) (st : State) (v v' : Value) (t : State) (words pc pc' : ℕ) (s s2 u : Machine) → At l.world q m console s → Pictures l.table l.world l.memory m map st q.gp q.sp
      → (done : Done l (record q { pc = pc; sp = q.sp - 4 }) (set_word m (q.sp - 4) q.acc) (homed map (length st.store) (q.sp - 4)) (record st { store = st.store ++ v ∷ [] }) words v' t s2)
      → At l.world (record q { pc = pc'; gp = done.gp; acc = done.acc; ra = done.ra }) done.memory done.console u → Done l (record q { pc = pc' }) m map st words v' t u
  bound_done q m map console st v v' t words pc pc' s s2 u before pictures done at =
      let laid = l.world.laid in
      let numbers = before.numbers in
      let below = done.at.numbers in
      let a = q.sp - 4 in
      let m1 = set_word m a q.acc in
      let map1 = homed map (length st.store) a in
      let long : length (st.store ++ v ∷ []) ≡ length st.store + 1 = length-append st.store (v ∷ []) in
      let home1 : map1.home (length st.store) ≡ a = if_same (length st.store) (length st.store) a (map.home (length st.store)) refl in
      let home : done.map'.home (length st.store) ≡ a = done.grown.home (length st.store) (omega arith) ∙ home1 in
      let same : Same m m1 q.gp q.sp = push_same l.world m q.gp q.sp q.acc (omega arith) in
      let grown1 : Grown map map1 st.drawn (length st.store) q.gp q.sp =
      homed_grown l.world map map st.drawn (length st.store) q.gp q.sp (length st.store) a (not_grown l.world map st.drawn (length st.store) q.gp q.sp) (omega arith) (omega arith) (omega arith) (omega arith) in
      let grown2 : Grown map done.map' st.drawn (length st.store) q.gp q.sp =
      grown_then l.world map map1 done.map' st.drawn st.drawn (length st.store) (length (st.store ++ v ∷ [])) q.gp q.gp q.sp a (omega arith) (omega arith) (omega arith) (omega arith) grown1 done.grown in
      let kept2 : Kept m done.memory map.marked q.gp q.sp =
      kept_then l.world m m1 done.memory map map1 st.drawn (length st.store) q.gp q.gp q.sp a (omega arith) (omega arith) (omega arith) grown1 (kept_same l.world m m1 map.marked q.gp q.sp q.sp (omega arith) same) done.kept in
      let pictures2 = dropped_pictures l.world l.table l.memory done.memory done.map' t done.gp a (length st.store) (omega arith) done.pictures (omega arith) (omega arith) in
      let from = done.gp_from in
      let drawn = done.drawn in
      let located = done.located in
      done_of l (record q { pc = pc' }) m map st words v' t u done.gp done.acc done.ra done.memory (dropped done.map' (length st.store)) done.console at done.shows
      (pictures_higher l.world l.table l.memory done.memory (dropped done.map' (length st.store)) t done.gp a q.sp
      (λ i low high. let here : i ≡ done.map'.home (length st.store) / 4 = omega arith in ap (λ x. (dropped done.map' (length st.store)).marked x) here ∙ dropped_word l.world done.map' (length st.store)) pictures2)
      (dropped_pic l.world done.memory done.map' t.drawn done.gp (length st.store) v' done.acc (omega arith) (omega arith) done.value)
      (record {
        kept = kept2;
        grown = dropped_grown l.world map done.map' st.drawn (length st.store) q.gp q.sp (length st.store) grown2 (omega arith) (omega arith) (omega arith) (omega arith);
        drawn = done.drawn;
        located = omega arith;
        gp_from = done.gp_from;
        gp_to = done.gp_to;
      })

  -- The state after a value, and after the store into the home of a location.
  pub stored_done : (q : Pointers) (m : Bytes) (map : Map) (st : State) (words pc pc' i : ℕ) (v : Value) (t : State) (u s : Machine) → (done : Done l (record q { pc = pc }) m map st words v t u) → 0 < done.map'.home i → q.sp % 4 ≡ 0
      → At l.world (record q { pc = pc'; gp = done.gp; acc = done.acc; ra = done.ra }) (set_word done.memory (done.map'.home i) done.acc) done.console s
      → Done l (record q { pc = pc' }) m map st words v (record t { store = slice_set t.store i v }) s
  stored_done q m map st words pc pc' i v t u s done some even at =
      let laid = l.world.laid in
      let numbers = at.numbers in
      let m' = set_word done.memory (done.map'.home i) done.acc in
      let kept = store_kept l.world l.table l.memory done.memory done.map' t done.gp q.sp i done.acc done.pictures some in
      let same = not_grown l.world done.map' t.drawn (length t.store) done.gp q.sp in
      let long : length (slice_set t.store i v) ≡ length t.store = set_long t.store i v in
      let from = done.gp_from in
      let located = done.located in
      let stay : Staying done.memory m' done.map' done.map' t.drawn done.gp = record { bytes = kept.below; marks = λ k h. refl; address = λ k h. refl; class = λ k h. refl; locations = λ k h. refl } in
      done_of l (record q { pc = pc' }) m map st words v (record t { store = slice_set t.store i v }) s done.gp done.acc done.ra m' done.map' done.console at
      (record { input = done.shows.input; output = done.shows.output; ended = done.shows.ended; bytes = done.shows.bytes })
      (store_pictures l.world l.table l.memory done.memory done.map' t done.gp q.sp i done.acc v (omega arith) done.pictures some numbers.acc_fits done.value)
      (pic_stays l.world done.memory m' done.map' done.map' t.drawn t.drawn done.gp done.gp v done.acc (omega arith) (omega arith) stay done.value)
      (record {
        kept = kept_then l.world m done.memory m' map done.map' st.drawn (length st.store) q.gp done.gp q.sp q.sp from (omega arith) even done.grown done.kept kept;
        grown = done.grown;
        drawn = done.drawn;
        located = omega arith;
        gp_from = done.gp_from;
        gp_to = done.gp_to;
      })
