-- The code generated for `+`, `-`, `*`, `/` and `~` on numbers simulates their evaluation: unless a limit stops it, the machine reaches the value, state or
-- error that the semantics gives.
use Rattle.std.proofs.Common.{◌≡◌, ℕ, ◌+◌, ◌-◌, ◌*◌, ◌%◌, ◌<◌, ◌≤◌, ℤ, pos, ◌+ℤ◌, ◌-ℤ◌, ◌*ℤ◌, List, [], ◌++◌, get_or, refl, sym, ap, subst, arith}
use Rattle.std.specs.Prelude.{Bool as Truth, true, false, Contains, codes, nat_lt, int_div, if◌then◌else◌}
use Rattle.mips_isa.specs.Bytes.{Bytes}
use Rattle.mips_isa.specs.Machine.{wrap, flag, long, signed_quotient}
use Rattle.mips_isa.specs.Calls.{State as Machine}
use Rattle.mips_isa.specs.Lines.{Name, Line}
use Rattle.cool_syntax.specs.declared.place.Place.{Place}
use Rattle.cool_syntax.specs.declared.node.NodeId.{NodeId}
use Rattle.cool_syntax.specs.declared.operator.ArithOp.{ArithOp}
use Rattle.cool_syntax.specs.declared.operator.ArithOp.TheVariants.{Add, Sub, Mul, Div}
use Rattle.cool_classes.specs.declared.class_id.ClassId.{ClassId}
use Rattle.cool_runtime.specs.Reaches.{World, Reaches, stands}
use Rattle.cool_runtime.specs.Standing.{HasLines, sizes}
use Rattle.cool_runtime.specs.Labels.{div_abort}
use Rattle.cool_runtime.specs.Machines.{Pointers, Console}
use Rattle.cool_runtime.proofs.Pieces.{next, has_front, has_back}
use Rattle.cool_codegen.specs.Pieces.{add_lines, subtract_lines, multiply_lines, divide_lines, is_zero_lines, ends_where_lines}
use Rattle.cool_codegen.specs.Code.{operation_code, int_code, label_at, file_label}
use Rattle.cool_meaning.specs.Values.{Value, State}
use Rattle.cool_meaning.specs.Meters.{DivisionByZero, Metered, stop}
use Rattle.cool_meaning.specs.Numbers.{fits, is_zero, word_of}
use Rattle.cool_meaning.specs.Evaluation.{exact, arithmetic}
use Rattle.cool_simulation.specs.Loadings.{Loading, IsLoaded, constants, context}
use Rattle.cool_simulation.specs.Pictures.{Map, Pictures, Shows}
use Rattle.cool_simulation.specs.Simulation.{Done, Runs, Way}
use Rattle.cool_simulation.proofs.ground.Sums.{raised, raised_fits, raised_over, raised_sum, raised_difference, sum_flag, sum_numbers, difference_flag, difference_numbers}
use Rattle.cool_simulation.proofs.ground.Products.{product_flag, product_flags}
use Rattle.cool_simulation.proofs.ground.Quotients.{quotient_flag, quotient_flags, quotient_is}
use Rattle.cool_simulation.proofs.ground.OperatorWalks.{Both, Result, Tested, adds, subtracts, multiplies, divides, tests_zero}
use Rattle.cool_simulation.proofs.ground.FlagWalks.{passes_on}
use Rattle.cool_simulation.proofs.ground.PartsOfRuns.{run_after}
use Rattle.cool_simulation.proofs.ground.PartsBehind.{Gone}
use Rattle.cool_simulation.proofs.forms.ExactResults.{exact_runs, refused, ends_by_zero}
use Rattle.cool_simulation.proofs.ground.Passages.{passes}

-- The meaning of the flags

sum_word : (x y : ℤ) → fits x ≡ true → fits y ≡ true → fits (x +ℤ y) ≡ true → wrap (word_of x + word_of y) ≡ word_of (x +ℤ y)
sum_word x y h k e = let a = raised_fits x h in let b = raised_fits y k in let c = raised_fits (x +ℤ y) e in let s = raised_sum x y h k in omega arith

sum_says : (x y : ℤ) → fits x ≡ true → fits y ≡ true
    → (fits (x +ℤ y) ≡ true → (sum_flag (word_of x) (word_of y) ≡ 0) × (wrap (word_of x + word_of y) ≡ word_of (x +ℤ y))) × (fits (x +ℤ y) ≡ false → 0 < sum_flag (word_of x) (word_of y))
sum_says x y h k =
    let a = raised_fits x h in
    let b = raised_fits y k in
    let n = sum_numbers (word_of x) (word_of y) (raised x) (raised y) (raised (x +ℤ y)) a.2 b.2 a.3 b.3 (raised_sum x y h k) in
    ((λ e. (n.0 (let c = raised_fits (x +ℤ y) e in (c.0, c.1)), sum_word x y h k e)), (λ e. n.1 (raised_over (x +ℤ y) e)))

difference_word : (x y : ℤ) → fits x ≡ true → fits y ≡ true → fits (x -ℤ y) ≡ true → wrap (word_of x + 4294967296 - word_of y) ≡ word_of (x -ℤ y)
difference_word x y h k e = let a = raised_fits x h in let b = raised_fits y k in let c = raised_fits (x -ℤ y) e in let s = raised_difference x y h k in omega arith

difference_says : (x y : ℤ) → fits x ≡ true → fits y ≡ true
    → (fits (x -ℤ y) ≡ true → (difference_flag (word_of x) (word_of y) ≡ 0) × (wrap (word_of x + 4294967296 - word_of y) ≡ word_of (x -ℤ y)))
    × (fits (x -ℤ y) ≡ false → 0 < difference_flag (word_of x) (word_of y))
difference_says x y h k =
    let a = raised_fits x h in
    let b = raised_fits y k in
    let n = difference_numbers (word_of x) (word_of y) (raised x) (raised y) (raised (x -ℤ y)) a.2 b.2 a.3 b.3 (raised_difference x y h k) in
    ((λ e. (n.0 (let c = raised_fits (x -ℤ y) e in (c.0, c.1)), difference_word x y h k e)), (λ e. n.1 (raised_over (x -ℤ y) e)))

some_word : (y : ℤ) → fits y ≡ true → is_zero y ≡ false → 0 < word_of y
some_word (pos n) h some = grind arith
some_word (ℤ.negsuc n) h some = let small = (raised_fits (ℤ.negsuc n) h).0 in omega arith

none_word : (y : ℤ) → is_zero y ≡ true → word_of y ≡ 0
none_word (pos n) none = grind arith
none_word (ℤ.negsuc n) none = absurd cc

one_flag : (n : ℕ) → n ≡ 0 → 0 < flag (nat_lt n 1)
one_flag n e = subst (λ x. 0 < flag (nat_lt x 1)) (sym e) (omega arith)

pub no_flag : (n : ℕ) → 0 < n → flag (nat_lt n 1) ≡ 0
no_flag n h = ap flag (by n h)
  where
    by : (n : ℕ) → 0 < n → nat_lt n 1 ≡ false
    by n h = grind arith

module _ (l : Loading) (loaded : IsLoaded l) (c : ClassId) (f : ℕ) (at : Place) (id : NodeId) (small : at.line < 2147483648) (has : Contains (constants l).strings (get_or l.files at.file [])) where
  -- The operation of two numbers, from where their words are in $t3 and $t4.
  pub operation_runs : (op : ArithOp) (x y : ℤ) (q : Pointers) (m0 m : Bytes) (map0 map : Map) (console : Console) (st t : State) (left words whole gp pc final acc ra : ℕ) (s : Machine) → fits x ≡ true → fits y ≡ true
      → HasLines l.world pc (operation_code (context l c f) (constants l) op at id ++ int_code (context l c f) (constants l) at id)
      → Both l.world (record q { pc = pc; gp = gp; acc = acc; ra = ra }) m console (word_of x) (word_of y) s → Shows t console → Pictures l.table l.world l.memory m map t gp q.sp
      → Gone m0 map0 st q.gp q.sp words m map t gp → words + (arithmetic op at x y t left).words ≡ whole → gp + 4 * (arithmetic op at x y t left).words ≤ l.world.top → Way l (arithmetic op at x y t left).outcome
      → q.sp % 4 ≡ 0 → pc + sizes (operation_code (context l c f) (constants l) op at id) + 28 + 68 ≡ final
      → Runs l s left (64 * (arithmetic op at x y t left).work + 48) (Done l (record q { pc = final }) m0 map0 st whole) (arithmetic op at x y t left).outcome
  unfolding add_lines subtract_lines multiply_lines divide_lines is_zero_lines ends_where_lines
  operation_runs Add x y q m0 m map0 map console st t left words whole gp pc final acc ra s hx hy lines both shows pictures gone sum heap way even e =
      let w = l.world in
      let q1 : Pointers = record q { pc = pc; gp = gp; acc = acc; ra = ra } in
      let r = arithmetic Add at x y t left in
      let says = sum_says x y hx hy in
      run_after l r.outcome s left 4 (64 * r.work + 27) (64 * r.work + 48) (Result w (record q1 { pc = pc + 16 }) m console (wrap (word_of x + word_of y)) (sum_flag (word_of x) (word_of y))) (Done l (record q { pc = final }) m0 map0 st whole)
      (omega arith) (adds w q1 m console s (word_of x) (word_of y) (has_front w add_lines (int_code (context l c f) (constants l) at id) pc lines) both)
      (λ u result. exact_runs l loaded at (x +ℤ y) (label_at (context l c f) (codes "fits") id) q m0 m map0 map console st t left _ _ words whole gp (pc + 16) final acc ra u small has
      (has_back w add_lines (int_code (context l c f) (constants l) at id) pc (pc + 16) refl lines) result says.0 says.1 shows pictures gone sum heap way even e)
  operation_runs Sub x y q m0 m map0 map console st t left words whole gp pc final acc ra s hx hy lines both shows pictures gone sum heap way even e =
      let w = l.world in
      let q1 : Pointers = record q { pc = pc; gp = gp; acc = acc; ra = ra } in
      let r = arithmetic Sub at x y t left in
      let says = difference_says x y hx hy in
      run_after l r.outcome s left 4 (64 * r.work + 27) (64 * r.work + 48) (Result w (record q1 { pc = pc + 16 }) m console (wrap (word_of x + 4294967296 - word_of y)) (difference_flag (word_of x) (word_of y)))
      (Done l (record q { pc = final }) m0 map0 st whole) (omega arith) (subtracts w q1 m console s (word_of x) (word_of y) (has_front w subtract_lines (int_code (context l c f) (constants l) at id) pc lines) both)
      (λ u result. exact_runs l loaded at (x -ℤ y) (label_at (context l c f) (codes "fits") id) q m0 m map0 map console st t left _ _ words whole gp (pc + 16) final acc ra u small has
      (has_back w subtract_lines (int_code (context l c f) (constants l) at id) pc (pc + 16) refl lines) result says.0 says.1 shows pictures gone sum heap way even e)
  operation_runs Mul x y q m0 m map0 map console st t left words whole gp pc final acc ra s hx hy lines both shows pictures gone sum heap way even e =
      let w = l.world in
      let q1 : Pointers = record q { pc = pc; gp = gp; acc = acc; ra = ra } in
      let r = arithmetic Mul at x y t left in
      let says = product_flags x y hx hy in
      run_after l r.outcome s left 5 (64 * r.work + 27) (64 * r.work + 48) (Result w (record q1 { pc = pc + 20 }) m console (wrap (long (word_of x) * long (word_of y))) (product_flag (word_of x) (word_of y)))
      (Done l (record q { pc = final }) m0 map0 st whole) (omega arith) (multiplies w q1 m console s (word_of x) (word_of y) (has_front w multiply_lines (int_code (context l c f) (constants l) at id) pc lines) both)
      (λ u result. exact_runs l loaded at (x *ℤ y) (label_at (context l c f) (codes "fits") id) q m0 m map0 map console st t left _ _ words whole gp (pc + 20) final acc ra u small has
      (has_back w multiply_lines (int_code (context l c f) (constants l) at id) pc (pc + 20) refl lines) result says.0 says.1 shows pictures gone sum heap way even e)
  operation_runs Div x y q m0 m map0 map console st t left words whole gp pc final acc ra s hx hy lines both shows pictures gone sum heap way even e = by (is_zero y) refl sum heap way
    where
      w : World
      w = l.world

      q1 : Pointers
      q1 = record q { pc = pc; gp = gp; acc = acc; ra = ra }

      some_label : Name
      some_label = label_at (context l c f) (codes "some") id

      file : Name
      file = file_label (context l c f) (constants l) at

      ends : List Line
      ends = ends_where_lines some_label file at.line div_abort

      ints : List Line
      ints = int_code (context l c f) (constants l) at id

      test : Reaches w s 0 1 (stands (Tested w (record q1 { pc = pc + 4 }) m console (word_of x) (word_of y) (flag (nat_lt (word_of y) 1))))
      test = tests_zero w q1 m console s (word_of x) (word_of y) (has_front w is_zero_lines (ends ++ (divide_lines ++ ints)) pc lines) both

      behind : HasLines w (pc + 4) (ends ++ (divide_lines ++ ints))
      behind = has_back w is_zero_lines (ends ++ (divide_lines ++ ints)) pc (pc + 4) refl lines

      by : (z : Truth) → is_zero y ≡ z → words + ((if z then stop (DivisionByZero at) else exact at (int_div x y)) t left).words ≡ whole
          → gp + 4 * ((if z then stop (DivisionByZero at) else exact at (int_div x y)) t left).words ≤ w.top → Way l ((if z then stop (DivisionByZero at) else exact at (int_div x y)) t left).outcome
          → Runs l s left (64 * ((if z then stop (DivisionByZero at) else exact at (int_div x y)) t left).work + 48) (Done l (record q { pc = final }) m0 map0 st whole)
          ((if z then stop (DivisionByZero at) else exact at (int_div x y)) t left).outcome
      by true none sum heap way =
          passes l s 0 48 _
          (next w s 1 23 48 _ _ test (omega arith)
          (λ u tested. refused l loaded (DivisionByZero at) at some_label div_abort (record q1 { pc = pc + 4 }) m map console t _ u (ends_by_zero l loaded at small) small has (has_front w ends (divide_lines ++ ints) (pc + 4) behind)
          (record { at = tested.both.at; t0_is = tested.t0_is }) (one_flag (word_of y) (none_word y none)) shows pictures))
      by false some sum heap way =
          let r : Metered Value = exact at (int_div x y) t left in
          let says = quotient_flags x y hx hy some in
          let is = quotient_is x y hx hy some in
          let h : HasLines w (pc + 32) (divide_lines ++ ints) = has_back w ends (divide_lines ++ ints) (pc + 4) (pc + 32) (omega arith) behind in
          run_after l r.outcome s left 8 (64 * r.work + 35) (64 * r.work + 48) (Both w (record q1 { pc = pc + 32 }) m console (word_of x) (word_of y)) (Done l (record q { pc = final }) m0 map0 st whole) (omega arith)
          (next w s 1 7 8 _ _ test (omega arith)
          (λ u tested. subst (λ z. Reaches w u 0 7 (stands (Both w (record q1 { pc = z }) m console (word_of x) (word_of y)))) (omega arith)
          (passes_on w some_label file at.line div_abort (record q1 { pc = pc + 4 }) m console u (word_of x) (word_of y) (has_front w ends (divide_lines ++ ints) (pc + 4) behind)
          (subst (λ z. Tested w (record q1 { pc = pc + 4 }) m console (word_of x) (word_of y) z u) (no_flag (word_of y) (some_word y hy some)) tested))))
          (λ u both2.
          run_after l r.outcome u left 8 (64 * r.work + 27) (64 * r.work + 35) (Result w (record q1 { pc = pc + 32 + 32 }) m console (signed_quotient (word_of x) (word_of y)) (quotient_flag (word_of x) (word_of y)))
          (Done l (record q { pc = final }) m0 map0 st whole) (omega arith)
          (divides w (record q1 { pc = pc + 32 }) m console u (word_of x) (word_of y) (has_front w divide_lines ints (pc + 32) h) both2 (some_word y hy some))
          (λ u2 result. exact_runs l loaded at (int_div x y) (label_at (context l c f) (codes "fits") id) q m0 m map0 map console st t left _ _ words whole gp (pc + 32 + 32) final acc ra u2 small has
          (has_back w divide_lines ints (pc + 32) (pc + 32 + 32) refl h) result (λ fit. (says.0 fit, is)) says.1 shows pictures gone sum heap way even (omega arith)))
