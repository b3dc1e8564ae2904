-- The run-time routines of `concat` and `substr` simulate calls of these methods.
use Rattle.std.proofs.Common.{◌≡◌, ℕ, ◌+◌, ◌-◌, ◌*◌, ◌/◌, ◌<◌, ◌≤◌, List, [], ◌∷◌, ◌++◌, length, get_or, take, drop, Some, None, Bool as Truth, true, false, refl, sym, ◌∙◌, subst, arith, length-append, length-drop, length-take-le}
use Rattle.std.specs.Prelude.{codes, ℤ, pos, negsuc, nat_le, if◌then◌else◌}
use Rattle.mips_isa.specs.declared.address_map.TheConstants.{HEAP_START}
use Rattle.mips_isa.specs.Bytes.{Bytes, word}
use Rattle.mips_isa.specs.Calls.{State as Machine}
use Rattle.cool_syntax.specs.declared.place.Place.{Place}
use Rattle.cool_classes.specs.declared.class_id.ClassId.{ClassId}
use Rattle.cool_runtime.specs.Reaches.{OnTheWay}
use Rattle.cool_runtime.specs.Contents.{IntAt, StringAt}
use Rattle.cool_runtime.specs.Labels.{string_concat, string_substr, substr_abort}
use Rattle.cool_runtime.specs.Machines.{Pointers, Console}
use Rattle.cool_runtime.specs.declared.catalogue.Routine.TheVariants as routines
use Rattle.cool_runtime.proofs.MeaningsMet.{means}
use Rattle.cool_runtime.proofs.Pieces.{next}
use Rattle.cool_meaning.specs.Values.{Value, Void, Int, Bool, Str, Obj, State}
use Rattle.cool_meaning.specs.Meters.{Computation, Substring, ◌>>=◌, stop}
use Rattle.cool_meaning.specs.BasicMethods.{one, two, as_string, as_number, new_string, part, substring}
use Rattle.cool_meaning.specs.Numbers.{fits, word_of}
use Rattle.cool_meaning.specs.FittingValues as fitting
use Rattle.cool_simulation.specs.Loadings.{Loading, IsLoaded}
use Rattle.cool_simulation.specs.Pictures.{Map, Pic}
use Rattle.cool_simulation.specs.Simulation.{Way}
use Rattle.cool_simulation.proofs.forms.Arguments.{limits, console_way}
use Rattle.cool_simulation.proofs.forms.BasicConsole.{one_there}
use Rattle.cool_simulation.proofs.ground.CallErrors.{placed_text, stops}
use Rattle.cool_simulation.proofs.ground.DataHere.{int_prototype_here, string_prototype_here, text_here}
use Rattle.cool_simulation.proofs.ground.MadePictures.{text_joined, text_cut}
use Rattle.cool_simulation.proofs.forms.Received.{Received}
use Rattle.cool_simulation.proofs.forms.RoutinesDone.{RoutineRuns, joined, routine_done, passes_as}
use Rattle.std.proofs.lemmas.Bool.{leb-true, leb-false}
use Rattle.cool_simulation.proofs.ground.Passages.{passes}

module _ (l : Loading) (loaded : IsLoaded l) (j : ClassId) (self : Value) (vs : List Value) (made : fitting.World) (q : Pointers) (m : Bytes) (map : Map) (console : Console) (st : State) (s : Machine) (n : ℕ)
    (h : Received l j self vs made q m map console st s) where
  from : HEAP_START ≤ q.gp
  from = let numbers = h.at.numbers in omega arith

  joins_strings : (xs ys : List ℕ) → Pic l.world m map st.drawn q.gp (Str xs) q.acc → Pic l.world m map st.drawn q.gp (Str ys) (word m q.sp) → length vs ≡ 1 → q.pc ≡ l.world.place (codes "String.concat")
      → q.gp + 4 * (new_string (xs ++ ys) st n).words ≤ l.world.top → OnTheWay l.world st.output st.input → RoutineRuns l vs q m map st s n (new_string (xs ++ ys) st n)
  unfolding string_concat
  joins_strings xs ys first second one begins heap way =
      let p = l.table in
      let numbers = h.at.numbers in
      let laid = l.world.laid in
      let room = h.room in
      let long : length (xs ++ ys) ≡ length xs + length ys = length-append xs ys in
      let few = length xs + length ys in
      let int = int_prototype_here l loaded m map st q.gp q.sp from h.pictures in
      let string = string_prototype_here l loaded m map st q.gp q.sp from h.pictures in
      passes_as l s n (8 * few + 65) _ _ _ (omega arith)
      (means l.world routines.Concat q m console s xs ys [] (limits l loaded) (loaded.routines routines.Concat) h.at begins (omega arith) first.0 second.0 int string (omega arith) (console_way l loaded st console h.shows way))
      (λ t at.
      let numbers' = at.numbers in
      let made' = text_joined l.world p l.memory m map st q.gp q.sp q.acc (word m q.sp) xs ys [] from (omega arith) (omega arith) (omega arith) h.pictures int string first.0 second.0 (omega arith) in
      routine_done l j self vs made q m map console st s h (q.gp + 44 + 4 * (few / 4)) (q.sp + 4) (q.gp + 24) _ _ console st.input st.output (Str (xs ++ ys)) t at (omega arith) made'.same (omega arith) (omega arith) h.shows made'.value)

  cuts_string : (xs : List ℕ) (i k : ℕ) → Pic l.world m map st.drawn q.gp (Str xs) q.acc → IntAt l.world m q.gp (word m (q.sp + 4)) i → IntAt l.world m q.gp (word m q.sp) k → i + k ≤ length xs → length vs ≡ 2
      → q.pc ≡ l.world.place (codes "String.substr")
      → q.gp + 4 * (new_string (take k (drop i xs)) st n).words ≤ l.world.top → OnTheWay l.world st.output st.input → RoutineRuns l vs q m map st s n (new_string (take k (drop i xs)) st n)
  unfolding string_substr
  cuts_string xs i k whole first second within two begins heap way =
      let p = l.table in
      let numbers = h.at.numbers in
      let laid = l.world.laid in
      let room = h.room in
      let rest : length (drop i xs) ≡ length xs - i = length-drop i xs in
      let long : length (take k (drop i xs)) ≡ k = length-take-le k (drop i xs) (omega arith) in
      let int = int_prototype_here l loaded m map st q.gp q.sp from h.pictures in
      let string = string_prototype_here l loaded m map st q.gp q.sp from h.pictures in
      let to = whole.0.lies.to in
      passes_as l s n (8 * k + 64) _ _ _ (omega arith)
      ((means l.world routines.Substr).0 q m console s xs [] i k (limits l loaded) (loaded.routines routines.Substr) h.at begins (omega arith) whole.0 first second within int string (omega arith) (console_way l loaded st console h.shows way))
      (λ t at.
      let numbers' = at.numbers in
      let made' = text_cut l.world p l.memory m map st q.gp q.sp q.acc i k xs [] from (omega arith) (omega arith) (omega arith) h.pictures int string whole.0 within (omega arith) in
      routine_done l j self vs made q m map console st s h (q.gp + 44 + 4 * (k / 4)) (q.sp + 8) (q.gp + 24) _ _ console st.input st.output (Str (take k (drop i xs))) t at (omega arith) made'.same (omega arith) (omega arith) h.shows made'.value)

  refuses : (at : Place) (xs : List ℕ) (i k : ℕ) → Pic l.world m map st.drawn q.gp (Str xs) q.acc → IntAt l.world m q.gp (word m (q.sp + 4)) i → IntAt l.world m q.gp (word m q.sp) k → length xs < i + k → length vs ≡ 2
      → q.pc ≡ l.world.place (codes "String.substr")
      → StringAt l.world m q.gp (s.core.registers 24) (get_or l.files at.file []) → s.core.registers 25 ≡ at.line → at.line < 2147483648 → RoutineRuns l vs q m map st s n (stop (Substring at) st n)
  unfolding string_substr
  refuses at xs i k whole first second beyond two begins string line_is small =
      let room = h.room in
      let q' : Pointers = record q { pc = l.world.place substr_abort } in
      passes l s 0 (64 * (length vs + 0) + 51) _ (stops l (Substring at) st console _ s _ h.shows (placed_text l.files at (codes "Substring out of range.") small)
      (next l.world s 13 16 (64 * (length vs + 0) + 51) _ _
      ((means l.world routines.Substr).1 q m console s xs i k (loaded.routines routines.Substr) h.at begins (omega arith) whole.0 first second beyond) (omega arith) (λ t there.
      means l.world routines.SubstrRange q' m console t (get_or l.files at.file []) (codes ":") (codes ": Substring out of range.\n") at.line (loaded.routines routines.SubstrRange) there.0 refl
      (subst (λ (a : ℕ). StringAt l.world m q.gp a (get_or l.files at.file [])) (sym there.1) string) (there.2 ∙ line_is) (omega arith)
      (text_here l loaded m map st q.gp q.sp from h.pictures _ _ loaded.colon_text) (text_here l loaded m map st q.gp q.sp from h.pictures _ _ loaded.substring_text))))

negative : (k : ℕ) → fits (negsuc k) ≡ true → k < 2147483648
negative k e = grind arith

module _ (l : Loading) (loaded : IsLoaded l) (j : ClassId) (made : fitting.World) (q : Pointers) (m : Bytes) (map : Map) (console : Console) (st : State) (s : Machine) (n : ℕ) where
  -- concat

  abbrev concat_more : List ℕ → Value → Computation Value
  concat_more xs w = as_string w >>= λ more. new_string (xs ++ more)

  concat_two : (xs : List ℕ) (self w : Value) → Received l j self (w ∷ []) made q m map console st s → Pic l.world m map st.drawn q.gp (Str xs) q.acc → q.pc ≡ l.world.place (codes "String.concat")
      → q.gp + 4 * (concat_more xs w st n).words ≤ l.world.top → Way l (concat_more xs w st n).outcome → RoutineRuns l (w ∷ []) q m map st s n (concat_more xs w st n)
  concat_two xs self (Str ys) h first begins heap way =
      joined l (Str ys ∷ []) q m map st s n (new_string (xs ++ ys) st n)
      (joins_strings l loaded j self (Str ys ∷ []) made q m map console st s n h xs ys first (one_there l loaded j self made q m map console st s n (Str ys) h) refl begins (omega arith) way)
  concat_two xs self Void h first begins heap way = tt
  concat_two xs self (Int x) h first begins heap way = tt
  concat_two xs self (Bool x) h first begins heap way = tt
  concat_two xs self (Obj c i ls) h first begins heap way = tt

  concat_one : (xs : List ℕ) (self : Value) (vs : List Value) → Received l j self vs made q m map console st s → Pic l.world m map st.drawn q.gp (Str xs) q.acc → q.pc ≡ l.world.place (codes "String.concat")
      → q.gp + 4 * ((one vs >>= concat_more xs) st n).words ≤ l.world.top → Way l ((one vs >>= concat_more xs) st n).outcome → RoutineRuns l vs q m map st s n ((one vs >>= concat_more xs) st n)
  concat_one xs self [] h first begins heap way = tt
  concat_one xs self (w ∷ []) h first begins heap way = joined l (w ∷ []) q m map st s n (concat_more xs w st n) (concat_two xs self w h first begins (omega arith) way)
  concat_one xs self (w ∷ u ∷ vs) h first begins heap way = tt

  pub concats : (self : Value) (vs : List Value) → Received l j self vs made q m map console st s → q.pc ≡ l.world.place (codes "String.concat")
      → q.gp + 4 * ((as_string self >>= λ xs. one vs >>= concat_more xs) st n).words ≤ l.world.top → Way l ((as_string self >>= λ xs. one vs >>= concat_more xs) st n).outcome
      → RoutineRuns l vs q m map st s n ((as_string self >>= λ xs. one vs >>= concat_more xs) st n)
  concats (Str xs) vs h begins heap way = joined l vs q m map st s n ((one vs >>= concat_more xs) st n) (concat_one xs (Str xs) vs h h.self_is begins (omega arith) way)
  concats Void vs h begins heap way = tt
  concats (Int x) vs h begins heap way = tt
  concats (Bool x) vs h begins heap way = tt
  concats (Obj c i ls) vs h begins heap way = tt

  -- substr

  module _ (at : Place) (string : StringAt l.world m q.gp (s.core.registers 24) (get_or l.files at.file [])) (line_is : s.core.registers 25 ≡ at.line) (small : at.line < 2147483648) (begins : q.pc ≡ l.world.place (codes "String.substr")) where
    part_of : (xs : List ℕ) (self : Value) (vs : List Value) (a b : ℤ) → length vs ≡ 2 → Received l j self vs made q m map console st s → Pic l.world m map st.drawn q.gp (Str xs) q.acc
        → Pic l.world m map st.drawn q.gp (Int a) (word m (q.sp + 4)) → Pic l.world m map st.drawn q.gp (Int b) (word m q.sp)
        → q.gp + 4 * (substring at (part xs a b) st n).words ≤ l.world.top → Way l (substring at (part xs a b) st n).outcome → RoutineRuns l vs q m map st s n (substring at (part xs a b) st n)
    part_of xs self vs (pos i) (pos k) two h whole first second heap way = by (nat_le (i + k) (length xs)) refl heap way
      where
        by : (x : Truth) → nat_le (i + k) (length xs) ≡ x → q.gp + 4 * (substring at (if x then Some (take k (drop i xs)) else None) st n).words ≤ l.world.top
            → Way l (substring at (if x then Some (take k (drop i xs)) else None) st n).outcome → RoutineRuns l vs q m map st s n (substring at (if x then Some (take k (drop i xs)) else None) st n)
        by true e heap way = cuts_string l loaded j self vs made q m map console st s n h xs i k whole first.0 second.0 (leb-true (i + k) (length xs) e) two begins heap way
        by false e heap way = refuses l loaded j self vs made q m map console st s n h at xs i k whole first.0 second.0 (leb-false (i + k) (length xs) e) two begins string line_is small
    part_of xs self vs (pos i) (negsuc k) two h whole first second heap way =
        let fit : k < 2147483648 = negative k second.1 in
        let to = whole.0.lies.to in
        let numbers = h.at.numbers in
        let laid = l.world.laid in
        refuses l loaded j self vs made q m map console st s n h at xs i (word_of (negsuc k)) whole first.0 second.0 (omega arith) two begins string line_is small
    part_of xs self vs (negsuc i) b two h whole first second heap way =
        let fit : i < 2147483648 = negative i first.1 in
        let to = whole.0.lies.to in
        let numbers = h.at.numbers in
        let laid = l.world.laid in
        refuses l loaded j self vs made q m map console st s n h at xs (word_of (negsuc i)) (word_of b) whole first.0 second.0 (omega arith) two begins string line_is small

    abbrev part_from : List ℕ → Value → Value → Computation Value
    part_from xs w u = as_number w >>= λ i. as_number u >>= λ k. substring at (part xs i k)

    last_number : (xs : List ℕ) (self w u : Value) (a : ℤ) → Received l j self (w ∷ u ∷ []) made q m map console st s → Pic l.world m map st.drawn q.gp (Str xs) q.acc → Pic l.world m map st.drawn q.gp (Int a) (word m (q.sp + 4))
        → Pic l.world m map st.drawn q.gp u (word m q.sp)
        → q.gp + 4 * ((as_number u >>= λ k. substring at (part xs a k)) st n).words ≤ l.world.top → Way l ((as_number u >>= λ k. substring at (part xs a k)) st n).outcome
        → RoutineRuns l (w ∷ u ∷ []) q m map st s n ((as_number u >>= λ k. substring at (part xs a k)) st n)
    last_number xs self w (Int b) a h whole first second heap way =
        joined l (w ∷ Int b ∷ []) q m map st s n (substring at (part xs a b) st n) (part_of xs self (w ∷ Int b ∷ []) a b refl h whole first second (omega arith) way)
    last_number xs self w Void a h whole first second heap way = tt
    last_number xs self w (Str x) a h whole first second heap way = tt
    last_number xs self w (Bool x) a h whole first second heap way = tt
    last_number xs self w (Obj c i ls) a h whole first second heap way = tt

    two_numbers : (xs : List ℕ) (self w u : Value) → Received l j self (w ∷ u ∷ []) made q m map console st s → Pic l.world m map st.drawn q.gp (Str xs) q.acc → Pic l.world m map st.drawn q.gp w (word m (q.sp + 4))
        → Pic l.world m map st.drawn q.gp u (word m q.sp)
        → q.gp + 4 * (part_from xs w u st n).words ≤ l.world.top → Way l (part_from xs w u st n).outcome → RoutineRuns l (w ∷ u ∷ []) q m map st s n (part_from xs w u st n)
    two_numbers xs self (Int a) u h whole first second heap way =
        joined l (Int a ∷ u ∷ []) q m map st s n ((as_number u >>= λ k. substring at (part xs a k)) st n) (last_number xs self (Int a) u a h whole first second (omega arith) way)
    two_numbers xs self Void u h whole first second heap way = tt
    two_numbers xs self (Str x) u h whole first second heap way = tt
    two_numbers xs self (Bool x) u h whole first second heap way = tt
    two_numbers xs self (Obj c i ls) u h whole first second heap way = tt

    two_arguments : (xs : List ℕ) (self : Value) (vs : List Value) → Received l j self vs made q m map console st s → Pic l.world m map st.drawn q.gp (Str xs) q.acc
        → q.gp + 4 * ((two vs >>= λ ws. part_from xs ws.0 ws.1) st n).words ≤ l.world.top → Way l ((two vs >>= λ ws. part_from xs ws.0 ws.1) st n).outcome
        → RoutineRuns l vs q m map st s n ((two vs >>= λ ws. part_from xs ws.0 ws.1) st n)
    two_arguments xs self [] h whole heap way = tt
    two_arguments xs self (w ∷ []) h whole heap way = tt
    two_arguments xs self (w ∷ u ∷ []) h whole heap way =
        let here : q.sp + 4 * (length (w ∷ u ∷ []) - (0 + 1)) ≡ q.sp + 4 = omega arith in
        let there : q.sp + 4 * (length (w ∷ u ∷ []) - (1 + 1)) ≡ q.sp = omega arith in
        joined l (w ∷ u ∷ []) q m map st s n (part_from xs w u st n)
        (two_numbers xs self w u h whole (subst (λ (a : ℕ). Pic l.world m map st.drawn q.gp w (word m a)) here (h.values 0 w refl)) (subst (λ (a : ℕ). Pic l.world m map st.drawn q.gp u (word m a)) there (h.values 1 u refl)) (omega arith) way)
    two_arguments xs self (w ∷ u ∷ x ∷ vs) h whole heap way = tt

    pub cuts : (self : Value) (vs : List Value) → Received l j self vs made q m map console st s
        → q.gp + 4 * ((as_string self >>= λ xs. two vs >>= λ ws. part_from xs ws.0 ws.1) st n).words ≤ l.world.top → Way l ((as_string self >>= λ xs. two vs >>= λ ws. part_from xs ws.0 ws.1) st n).outcome
        → RoutineRuns l vs q m map st s n ((as_string self >>= λ xs. two vs >>= λ ws. part_from xs ws.0 ws.1) st n)
    cuts (Str xs) vs h heap way = joined l vs q m map st s n ((two vs >>= λ ws. part_from xs ws.0 ws.1) st n) (two_arguments xs (Str xs) vs h h.self_is (omega arith) way)
    cuts Void vs h heap way = tt
    cuts (Int x) vs h heap way = tt
    cuts (Bool x) vs h heap way = tt
    cuts (Obj c i ls) vs h heap way = tt
