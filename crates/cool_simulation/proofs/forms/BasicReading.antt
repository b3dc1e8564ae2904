-- The run-time routines of `in_string` and `in_int` simulate calls of these methods.
use Rattle.std.proofs.Common.{◌≡◌, ℕ, ◌+◌, ◌*◌, ◌/◌, ◌≤◌, List, [], ◌∷◌, ◌++◌, length, Bool as Truth, true, false, refl, sym, ap, ◌∙◌, subst, arith}
use Rattle.std.specs.Prelude.{codes, ◌==◌, if◌then◌else◌}
use Rattle.mips_isa.specs.declared.address_map.TheConstants.{HEAP_START}
use Rattle.mips_isa.specs.Bytes.{Bytes}
use Rattle.mips_isa.specs.Calls as machine
use Rattle.mips_isa.specs.Calls.{State as Machine, Taken}
use Rattle.cool_classes.specs.declared.class_id.ClassId.{ClassId}
use Rattle.cool_runtime.specs.Reaches.{OnTheWay}
use Rattle.cool_runtime.specs.Contents.{IsText}
use Rattle.cool_runtime.specs.Labels.{in_string, in_int, int_table, int_prototype}
use Rattle.cool_runtime.specs.Machines.{At, Pointers, Console, got, line_asked, with_int, with_string_head, with_text}
use Rattle.cool_runtime.specs.Machines as lines
use Rattle.cool_runtime.specs.declared.catalogue.Routine.TheVariants as routines
use Rattle.cool_runtime.proofs.LinesOfInput.{with_newline, whole, asked_line_is}
use Rattle.cool_runtime.proofs.MeaningsMet.{means}
use Rattle.cool_meaning.specs.Values.{Value, Int, Str, State}
use Rattle.cool_meaning.specs.Meters.{◌>>=◌}
use Rattle.cool_meaning.specs.BasicMethods.{Line, line_of, take_line, new_number, new_string}
use Rattle.cool_meaning.specs.Numbers.{number_of, word_of}
use Rattle.cool_meaning.specs.FittingValues as fitting
use Rattle.cool_simulation.specs.Loadings.{Loading, IsLoaded}
use Rattle.cool_simulation.specs.Pictures.{Map, Pic, Shows}
use Rattle.cool_simulation.proofs.forms.Arguments.{limits}
use Rattle.cool_simulation.proofs.ground.DataHere.{int_prototype_here, string_prototype_here}
use Rattle.cool_simulation.proofs.ground.MadePictures.{number_made, text_read}
use Rattle.cool_simulation.proofs.forms.Received.{Received}
use Rattle.cool_simulation.proofs.forms.RoutinesDone.{RoutineRuns, routine_done, passes_as}
use Rattle.cool_simulation.proofs.ground.WordsOfNumbers.{number_word, number_line_word, number_fits}
use Rattle.lists.specs.Bytes.{AreBytes}

-- a line of the machine is a line of the source
pub record SameLine (t : Taken) (x : Line) : Type 0 where
  pub got : t.got ≡ x.bytes
  pub rest : t.rest ≡ x.rest
  pub ended : t.ended ≡ true → t.rest ≡ []
  pub text : IsText t.got
  pub left : AreBytes t.rest

line_same : (input : List ℕ) → AreBytes input → SameLine (lines.line_of input) (line_of input)
line_same [] bytes = record { got = refl; rest = refl; ended = λ e. refl; text = tt; left = tt }
line_same (b ∷ input) bytes = by (b == 0) (b == 10) refl (line_same input bytes.1)
  where
    by : (x y : Truth) → (b == 0) ≡ x → SameLine (lines.line_of input) (line_of input)
        → SameLine (if x then lines.line_of input else (if y then record { got = []; rest = input; ended = false } else record (lines.line_of input) { got = b ∷ (lines.line_of input).got }))
        (if x then line_of input else (if y then record { bytes = []; rest = input } else record { bytes = b ∷ (line_of input).bytes; rest = (line_of input).rest }))
    by true y null h = h
    by false true null h = record { got = refl; rest = refl; ended = λ e. absurd (cc); text = tt; left = bytes.1 }
    by false false null h = record { got = ap (λ (xs : List ℕ). b ∷ xs) h.got; rest = h.rest; ended = h.ended; text = ((grind arith, bytes.0), h.text); left = h.left }

-- also where the end was answered before
pub asked_same : (ended : Truth) (input : List ℕ) → AreBytes input → (ended ≡ true → input ≡ []) → SameLine (line_asked ended input) (line_of input)
asked_same false input bytes none = line_same input bytes
asked_same true [] bytes none = record { got = refl; rest = refl; ended = λ e. refl; text = tt; left = tt }
asked_same true (b ∷ input) bytes none = let wrong : b ∷ input ≡ [] = none refl in absurd (cc)

-- the number of a line, as the machine took it
line_number : (t : Taken) → word_of (number_of t.got) ≡ machine.number_of (with_newline t)
line_number t = by t.ended
  where
    by : (x : Truth) → word_of (number_of t.got) ≡ machine.number_of (if x then t.got else t.got ++ 10 ∷ [])
    by true = number_word t.got
    by false = number_line_word t.got

module _ (l : Loading) (loaded : IsLoaded l) (j : ClassId) (self : Value) (vs : List Value) (made : fitting.World) (q : Pointers) (m : Bytes) (map : Map) (console : Console) (st : State) (s : Machine) (n : ℕ)
    (h : Received l j self vs made q m map console st s) where
  line : Taken
  line = line_asked console.ended console.input

  -- the console has the input of the source
  same_line : SameLine line (line_of st.input)
  unfolding line
  same_line = subst (λ (i : List ℕ). SameLine (line_asked console.ended i) (line_of st.input)) (sym h.shows.input) (asked_same console.ended st.input h.shows.bytes h.shows.ended)

  shows_rest : Shows (record st { input = (line_of st.input).rest }) (got console line)
  shows_rest = record { input = same_line.rest; output = h.shows.output; ended = λ e. sym same_line.rest ∙ same_line.ended e; bytes = subst AreBytes same_line.rest same_line.left }

  way_rest : OnTheWay l.world st.output (line_of st.input).rest → OnTheWay l.world console.output line.rest
  way_rest way = subst (λ (o : List ℕ). OnTheWay l.world o line.rest) (sym h.shows.output) (subst (λ (i : List ℕ). OnTheWay l.world st.output i) (sym same_line.rest) way)

  pub reads_string : length vs ≡ 0 → q.pc ≡ l.world.place (codes "IO.in_string") → q.gp + 4 * ((take_line >>= new_string) st n).words ≤ l.world.top → OnTheWay l.world st.output (line_of st.input).rest
      → RoutineRuns l vs q m map st s n ((take_line >>= new_string) st n)
  unfolding line in_string
  reads_string none begins heap way =
      let p = l.table in
      let numbers = h.at.numbers in
      let laid = l.world.laid in
      let from : HEAP_START ≤ q.gp = omega arith in
      let got_is = same_line.got in
      let long : length line.got ≡ length (line_of st.input).bytes = ap length got_is in
      let few = length line.got in
      let int = int_prototype_here l loaded m map st q.gp q.sp from h.pictures in
      let string = string_prototype_here l loaded m map st q.gp q.sp from h.pictures in
      passes_as l s n (11 * few + 48) _ _ _ (omega arith)
      (means l.world routines.InString q m console s [] line (limits l loaded) (loaded.routines routines.InString) h.at begins (subst AreBytes (sym h.shows.input) h.shows.bytes) refl int string (omega arith) (way_rest way))
      (λ t at.
      let numbers' = at.numbers in
      let made' = text_read l.world p l.memory m map st q.gp q.sp line.got [] from (omega arith) (omega arith) (omega arith) h.pictures int string same_line.text (omega arith) in
      routine_done l j self vs made q m map console st s h (q.gp + 44 + 4 * (few / 4)) q.sp (q.gp + 24) _ _ (got console line) (line_of st.input).rest st.output (Str (line_of st.input).bytes) t at (omega arith) made'.same (omega arith) (omega arith)
      shows_rest (subst (λ (b : List ℕ). Pic l.world (with_string_head l.world (with_text m q.gp line.got) q.gp few) map st.drawn (q.gp + 44 + 4 * (few / 4)) (Str b) (q.gp + 24)) got_is made'.value))

  pub reads_number : length vs ≡ 0 → q.pc ≡ l.world.place (codes "IO.in_int") → q.gp + 4 * ((take_line >>= λ bytes. new_number (number_of bytes)) st n).words ≤ l.world.top → OnTheWay l.world st.output (line_of st.input).rest
      → RoutineRuns l vs q m map st s n ((take_line >>= λ bytes. new_number (number_of bytes)) st n)
  unfolding line in_int
  reads_number none begins heap way =
      let p = l.table in
      let numbers = h.at.numbers in
      let laid = l.world.laid in
      let from : HEAP_START ≤ q.gp = omega arith in
      let got_is = same_line.got in
      let int = int_prototype_here l loaded m map st q.gp q.sp from h.pictures in
      let value = number_of (line_of st.input).bytes in
      let word_is : machine.number_of (with_newline line) ≡ word_of value = sym (line_number line) ∙ ap (λ (b : List ℕ). word_of (number_of b)) got_is in
      let made' = number_made l.world p l.memory m map st q.gp q.sp (l.world.place int_prototype) value from (omega arith) (omega arith) h.pictures (number_fits (line_of st.input).bytes) int in
      passes_as l s n 24 _ _ _ (omega arith)
      (means l.world routines.InInt q m console s (whole line) (limits l loaded) (loaded.routines routines.InInt) h.at begins int (asked_line_is console.ended console.input) (omega arith) (way_rest way))
      (λ t at.
      routine_done l j self vs made q m map console st s h (q.gp + 20) q.sp (q.gp + 4) _ _ (got console line) (line_of st.input).rest st.output (Int value) t
      (subst (λ (x : ℕ). At l.world (record q { pc = q.ra; gp = q.gp + 20; acc = q.gp + 4 }) (with_int m q.gp l.world.tags.int (l.world.place int_table) x) (got console line) t) word_is at) (omega arith) made'.same (omega arith) (omega arith)
      shows_rest made'.value)
