-- The last instructions of an arithmetic operator make a new Int if the result fits into 32 bits, and otherwise end the run with the specified error.
use Rattle.std.proofs.Common.{◌≡◌, ℕ, ◌+◌, ◌*◌, ◌%◌, ◌<◌, ◌≤◌, ℤ, List, [], ◌++◌, get_or, refl, sym, ◌∙◌, subst, arith}
use Rattle.std.specs.Prelude.{Bool as Truth, true, false, Contains, codes, if◌then◌else◌}
use Rattle.std.specs.Fmt.{signed_decimal}
use Rattle.mips_isa.specs.Bytes.{Bytes}
use Rattle.mips_isa.specs.Calls.{State as Machine, signed}
use Rattle.mips_isa.specs.Lines.{Name}
use Rattle.cool_syntax.specs.declared.place.Place.{Place}
use Rattle.cool_runtime.specs.Reaches.{World, Reaches, stands, exits, OnTheWay}
use Rattle.cool_runtime.specs.Standing.{HasLines}
use Rattle.cool_runtime.specs.Contents.{StringAt, TextAt}
use Rattle.cool_runtime.specs.Labels.{div_abort, int_table}
use Rattle.cool_runtime.specs.RoutineLabels.{overflow_abort, overflow_text, division_text}
use Rattle.cool_runtime.specs.Routines.{new_int_lines}
use Rattle.cool_runtime.specs.RoutineLines.{routine_lines}
use Rattle.cool_runtime.specs.declared.catalogue.Routine.{Routine}
use Rattle.cool_runtime.specs.declared.catalogue.Routine.TheVariants as routines
use Rattle.cool_runtime.specs.Meanings.{EndsByError}
use Rattle.cool_runtime.specs.Machines.{At, Pointers, Console, with_int}
use Rattle.cool_runtime.proofs.Allocating.{new_int}
use Rattle.cool_runtime.proofs.Objects.{made_int_same}
use Rattle.cool_runtime.proofs.Runs.{wider}
use Rattle.cool_runtime.proofs.Pieces.{next, done, has_front, has_back}
use Rattle.cool_runtime.proofs.MeaningsMet.{means}
use Rattle.cool_consts.specs.Constants.{string_number}
use Rattle.cool_consts.specs.Labels.{string_constant}
use Rattle.cool_codegen.specs.Pieces.{ends_where_lines}
use Rattle.cool_meaning.specs.Values.{Int, State}
use Rattle.cool_meaning.specs.Meters.{Error, Overflow, DivisionByZero, stop}
use Rattle.cool_meaning.specs.SourceRun.{error_text}
use Rattle.cool_meaning.specs.Numbers.{fits, word_of}
use Rattle.cool_meaning.specs.BasicMethods.{new_number}
use Rattle.cool_meaning.specs.Evaluation.{exact}
use Rattle.cool_simulation.specs.Loadings.{Loading, IsLoaded, constants}
use Rattle.cool_simulation.specs.Pictures.{Map, Pictures, Shows}
use Rattle.cool_simulation.specs.Simulation.{Done, Runs, Stopped, Way}
use Rattle.cool_simulation.proofs.ground.Sums.{raised_fits}
use Rattle.cool_simulation.proofs.ground.OperatorWalks.{Result, Flagged}
use Rattle.cool_simulation.proofs.ground.FlagWalks.{passes, refuses}
use Rattle.cool_simulation.proofs.ground.Passages as passages
use Rattle.cool_simulation.proofs.ground.PartsOfRuns.{run_gives}
use Rattle.cool_simulation.proofs.ground.PicturesStay.{pictures_same}
use Rattle.cool_simulation.proofs.ground.PartsBehind.{Gone, gone_same, gone_then, done_of, new_int_pic}
use Rattle.cool_simulation.proofs.ground.DataHere.{string_pic, text_here, int_prototype_here}
use Rattle.cool_simulation.proofs.ground.CallErrors.{placed_text, stops}
use Rattle.cool_simulation.proofs.ground.Operands.{limits_of, shown_way}

-- an error, with the routine at which the run ends with its text
pub record EndsSo (l : Loading) (e : Error) (at : Place) (name : Name) : Type 0 where
  pub routine : Routine
  pub text : Name
  pub words : List ℕ
  pub lines : HasLines l.world (l.world.place name) (routine_lines routine)
  pub ends : EndsByError l.world routine name text
  pub text_at : TextAt l.world l.memory (l.world.place text) words
  pub is : error_text l.table l.files e ≡ get_or l.files at.file [] ++ (codes ":" ++ (signed_decimal (signed at.line) ++ words))

module _ (l : Loading) (loaded : IsLoaded l) where
  pub ends_by_overflow : (at : Place) → at.line < 2147483648 → EndsSo l (Overflow at) at overflow_abort
  ends_by_overflow at small = record {
    routine = routines.Overflow;
    text = overflow_text;
    words = codes ": Arithmetic overflow.\n";
    lines = loaded.routines routines.Overflow;
    ends = means l.world routines.Overflow;
    text_at = loaded.overflow_text;
    is = placed_text l.files at (codes "Arithmetic overflow.") small;
  }

  pub ends_by_zero : (at : Place) → at.line < 2147483648 → EndsSo l (DivisionByZero at) at div_abort
  ends_by_zero at small = record {
    routine = routines.DivZero;
    text = division_text;
    words = codes ": Division by zero.\n";
    lines = loaded.routines routines.DivZero;
    ends = means l.world routines.DivZero;
    text_at = loaded.division_text;
    is = placed_text l.files at (codes "Division by zero.") small;
  }

  -- If $t0 is not 0, the run ends by the error.
  pub refused : (e : Error) (at : Place) (fits_label name : Name) (q : Pointers) (m : Bytes) (map : Map) (console : Console) (t : State) (f : ℕ) (s : Machine) → EndsSo l e at name → at.line < 2147483648
      → Contains (constants l).strings (get_or l.files at.file []) → HasLines l.world q.pc (ends_where_lines fits_label (string_constant (string_number (constants l).strings (get_or l.files at.file []))) at.line name)
      → Flagged l.world q m console f s → 0 < f → Shows t console → Pictures l.table l.world l.memory m map t q.gp q.sp → Reaches l.world s 0 23 (exits 3 (Stopped l e t))
  refused e at fits_label name q m map console t f s so small has lines flagged some shows pictures =
      let file = string_constant (string_number (constants l).strings (get_or l.files at.file [])) in
      let numbers = flagged.at.numbers in
      let from = numbers.gp_from in
      let name_pic = string_pic l loaded m map t q.gp q.sp from pictures (get_or l.files at.file []) has in
      stops l e t console _ s 23 shows so.is
      (next l.world s 7 16 23 _ _ (refuses l.world fits_label file at.line name q m console s f lines flagged some (omega arith)) (omega arith)
      (λ u there. so.ends (record q { pc = l.world.place name }) m console u (get_or l.files at.file []) (codes ":") so.words at.line so.lines there.at refl
      (subst (λ x. StringAt l.world m q.gp x (get_or l.files at.file [])) (sym there.t8_is) name_pic.0) there.t9_is (omega arith)
      (text_here l loaded m map t q.gp q.sp from pictures _ _ loaded.colon_text) (text_here l loaded m map t q.gp q.sp from pictures _ _ so.text_at)))

  -- A result that fits is a new Int, and another ends the run.
  pub exact_runs : (at : Place) (r : ℤ) (fits_label : Name) (q : Pointers) (m0 m : Bytes) (map0 map : Map) (console : Console) (st t : State) (left res f words whole gp pc final acc ra : ℕ) (s : Machine) → at.line < 2147483648
      → Contains (constants l).strings (get_or l.files at.file [])
      → HasLines l.world pc (ends_where_lines fits_label (string_constant (string_number (constants l).strings (get_or l.files at.file []))) at.line overflow_abort ++ new_int_lines)
      → Result l.world (record q { pc = pc; gp = gp; acc = acc; ra = ra }) m console res f s → (fits r ≡ true → (f ≡ 0) × (res ≡ word_of r)) → (fits r ≡ false → 0 < f) → Shows t console
      → Pictures l.table l.world l.memory m map t gp q.sp → Gone m0 map0 st q.gp q.sp words m map t gp → words + (exact at r t left).words ≡ whole → gp + 4 * (exact at r t left).words ≤ l.world.top → Way l (exact at r t left).outcome
      → q.sp % 4 ≡ 0 → pc + 28 + 68 ≡ final → Runs l s left (64 * (exact at r t left).work + 27) (Done l (record q { pc = final }) m0 map0 st whole) (exact at r t left).outcome
  unfolding ends_where_lines
  exact_runs at r fits_label q m0 m map0 map console st t left res f words whole gp pc final acc ra s small has lines result fine wrong shows pictures gone sum heap way even e = by (fits r) refl sum heap way
    where
      w : World
      w = l.world

      file : Name
      file = string_constant (string_number (constants l).strings (get_or l.files at.file []))

      q1 : Pointers
      q1 = record q { pc = pc; gp = gp; acc = acc; ra = ra }

      made : fits r ≡ true → words + 5 ≡ whole → gp + 20 ≤ w.top → OnTheWay w t.output t.input → Reaches w s 0 27 (stands (Done l (record q { pc = final }) m0 map0 st whole (Int r) t))
      made fit sum heap way =
          let laid = w.laid in
          let numbers = result.at.numbers in
          let zero = (fine fit).0 in
          let is = (fine fit).1 in
          let small_word = (raised_fits r fit).4 in
          let proto = int_prototype_here l loaded m map t gp q.sp numbers.gp_from pictures in
          let m2 = with_int m gp w.tags.int (w.place int_table) (word_of r) in
          let same = made_int_same w m gp q.sp w.tags.int (w.place int_table) (word_of r) in
          next w s 7 20 27 _ _ (passes w fits_label file at.line overflow_abort q1 m console s res (has_front w (ends_where_lines fits_label file at.line overflow_abort) new_int_lines pc lines)
          (subst (λ x. Result w q1 m console res x s) zero result)) (omega arith)
          (λ u there. next w u 20 0 20 _ _
          (new_int w (record q1 { pc = pc + 28 }) m console u (word_of r) (limits_of l loaded) (has_back w (ends_where_lines fits_label file at.line overflow_abort) new_int_lines pc (pc + 28) refl lines) there.at (there.t2_is ∙ is) proto heap
          (shown_way l t console shows way)) (omega arith)
          (λ u2 at2. done w 0 u2 _
          (let fields = at2.numbers in
          done_of l (record q { pc = final }) m0 map0 st whole (Int r) t u2 (gp + 20) (gp + 4) ra m2 map console (subst (λ x. At w (record q { pc = x; gp = gp + 20; acc = gp + 4; ra = ra }) m2 console u2) e at2) shows
          (pictures_same w l.table l.memory m m2 map t gp (gp + 20) q.sp numbers.gp_from (omega arith) (same (omega arith)) pictures)
          (new_int_pic w m map t gp q.sp r l.table l.memory numbers.gp_from numbers.gp_even (omega arith) fit small_word proto pictures)
          (gone_then w m0 m m2 map0 map map st t t q.gp gp (gp + 20) q.sp q.sp words 5 whole (omega arith) even gone (gone_same w m m2 map t gp (gp + 20) q.sp 5 (same (omega arith)) (omega arith) (omega arith)) (omega arith)))))

      by : (x : Truth) → fits r ≡ x → words + ((if x then new_number r else stop (Overflow at)) t left).words ≡ whole → gp + 4 * ((if x then new_number r else stop (Overflow at)) t left).words ≤ w.top
          → Way l ((if x then new_number r else stop (Overflow at)) t left).outcome
          → Runs l s left (64 * ((if x then new_number r else stop (Overflow at)) t left).work + 27) (Done l (record q { pc = final }) m0 map0 st whole) ((if x then new_number r else stop (Overflow at)) t left).outcome
      by true fit sum heap way = run_gives l (Int r) t s left 27 27 (Done l (record q { pc = final }) m0 map0 st whole) (omega arith) (made fit sum (omega arith) way)
      by false over sum heap way =
          let flagged : Flagged w q1 m console f s = record { at = result.at; t0_is = result.t0_is } in
          passages.passes l s 0 27 _
          (wider w s 0 0 23 27 _ (omega arith) (omega arith)
          (refused (Overflow at) at fits_label overflow_abort q1 m map console t f s (ends_by_overflow at small) small has (has_front w (ends_where_lines fits_label file at.line overflow_abort) new_int_lines pc lines) flagged (wrong over) shows pictures))
