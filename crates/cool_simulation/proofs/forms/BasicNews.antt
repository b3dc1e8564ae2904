-- The code of `new` for Int, Bool and String copies the prototype, which is the value, and calls an initializer that returns at once.
use Rattle.std.proofs.Common.{◌≡◌, ℕ, zero, suc, ◌+◌, ◌-◌, ◌*◌, ◌<◌, ◌≤◌, List, [], ◌∷◌, length, Bool as Truth, true, false, sym, ◌∙◌, refl, subst, arith}
use Rattle.std.specs.Prelude.{nat_lt, if◌then◌else◌}
use Rattle.std.proofs.lemmas.Bool.{lt-ltb}
use Rattle.mips_isa.specs.Bytes.{Bytes}
use Rattle.mips_isa.specs.Calls.{State as Machine}
use Rattle.mips_isa.specs.Lines.{Line}
use Rattle.cool_classes.specs.declared.class_id.ClassId.{ClassId}
use Rattle.cool_runtime.specs.Reaches.{Reaches, stands, OnTheWay}
use Rattle.cool_runtime.specs.Standing.{HasLines, sizes}
use Rattle.cool_runtime.specs.Machines.{At, Pointers, Console}
use Rattle.cool_runtime.specs.Instructions.{jr}
use Rattle.cool_runtime.proofs.Pieces.{done, next, has_at}
use Rattle.cool_runtime.proofs.Pieces as pieces
use Rattle.cool_layout.specs.Labels.{initializer}
use Rattle.cool_codegen.specs.Pieces.{return_basic_lines}
use Rattle.cool_meaning.specs.Values.{Value, State}
use Rattle.cool_meaning.specs.Meters.{Val, Metered, Computation, rule, spend}
use Rattle.cool_meaning.specs.FittingValues as fitting
use Rattle.cool_simulation.specs.Loadings.{Loading, IsLoaded, marks, whole}
use Rattle.cool_simulation.specs.Pictures.{Map}
use Rattle.cool_simulation.specs.Simulation.{Runs, Room, Done, Passes}
use Rattle.cool_simulation.proofs.ground.PicturesStay.{kept_same, not_grown, pictures_same}
use Rattle.cool_simulation.proofs.ground.MadePictures.{Made}
use Rattle.cool_simulation.proofs.forms.NewRuns.{Making, size_of, entry, copy_of}
use Rattle.cool_simulation.specs.Quiet.{IsFree}
use Rattle.cool_simulation.proofs.ground.NoMarks.{quiet_initializer}
use Rattle.cool_simulation.proofs.ground.Passages.{passes, passes_then, passes_wider, quiet}

first_of : (P : List Line → Type 0) (x : Truth) (ys zs : List Line) → x ≡ true → P (if x then ys else zs) → P ys
first_of P true ys zs e h = h
first_of P false ys zs e h = absurd (cc)

module _ (l : Loading) (is : IsLoaded l) (c : ClassId) (within : c.0 < length l.table) (basic : c.0 < 5) (made : fitting.World) (q : Pointers) (m : Bytes) (map : Map) (console : Console) (st : State) (s : Machine)
    (making : Making l is made q m map console st s)
  where
    -- the initializer of a basic class returns
    returns : (p : Pointers) (m1 : Bytes) (u : Machine) → At l.world p m1 console u → p.pc ≡ l.world.place (initializer l.table c) → Reaches l.world u 0 1 (stands (At l.world (record p { pc = p.ra }) m1 console))
    unfolding return_basic_lines
    returns p m1 u at e =
        let small : nat_lt c.0 5 ≡ true = lt-ltb c.0 5 basic in
        let a = l.world.place (initializer l.table c) in
        let lines : HasLines (whole l) a (return_basic_lines (initializer l.table c)) = first_of (λ (x : List Line). HasLines (whole l) a x) (nat_lt c.0 5) _ _ small (is.initializers c within) in
        let free : IsFree (marks l.watch) a (a + sizes (return_basic_lines (initializer l.table c))) =
        first_of (λ (x : List Line). IsFree (marks l.watch) a (a + sizes x)) (nat_lt c.0 5) _ _ small ((quiet_initializer l.watch c within).basic basic) in
        let here : HasLines l.world a (return_basic_lines (initializer l.table c)) = quiet l (return_basic_lines (initializer l.table c)) a _ (omega arith) free lines in
        pieces.return l.world p m1 console u (has_at l.world (jr 31 ∷ []) (a + 0) p.pc (omega arith) here.1) at

    value_done : (ra words : ℕ) (v : Value) → 4 * size_of l is c + 4 ≤ 4 * words → Made l.world m (copy_of l is m q c) map st.drawn q.gp (q.gp + 4 * size_of l is c + 4) q.sp v (q.gp + 4)
        → (u : Machine) → At l.world (record q { pc = ra; gp = q.gp + 4 * size_of l is c + 4; acc = q.gp + 4; ra = ra }) (copy_of l is m q c) console u → Done l (record q { pc = ra }) m map st words v st u
    value_done ra words v enough value u at =
        let from = making.at.numbers.gp_from in
        record {
          gp = q.gp + 4 * size_of l is c + 4;
          acc = q.gp + 4;
          ra = ra;
          memory = copy_of l is m q c;
          map' = map;
          console = console;
          at = at;
          shows = making.shows;
          pictures = pictures_same l.world l.table l.memory m (copy_of l is m q c) map st q.gp (q.gp + 4 * size_of l is c + 4) q.sp from (omega arith) value.same making.pictures;
          value = value.value;
          kept = kept_same l.world m (copy_of l is m q c) map.marked q.gp q.sp q.sp (omega arith) value.same;
          grown = not_grown l.world map st.drawn (length st.store) q.gp q.sp;
          drawn = omega arith;
          located = omega arith;
          gp_from = omega arith;
          gp_to = omega arith;
        }

    abbrev Copies : ℕ → Type 0
    Copies ra = q.gp + 4 * size_of l is c + 4 ≤ l.world.top → OnTheWay l.world console.output console.input
        → Passes l s 1 (7 * size_of l is c + 20) (stands (At l.world (entry l is q c ra) (copy_of l is m q c) console))

    -- a value of so many words, which takes a step
    pub value_runs : (ra n words : ℕ) (v : Value) (d : Computation Value) → ((t : State) (k : ℕ) → d t k ≡ record { outcome = Val v t k; work = 0; words = words; peak = 0 }) → size_of l is c ≤ 5 → 4 * size_of l is c + 4 ≤ 4 * words
        → (q.gp + 4 * size_of l is c + 4 ≤ q.sp → Made l.world m (copy_of l is m q c) map st.drawn q.gp (q.gp + 4 * size_of l is c + 4) q.sp v (q.gp + 4)) → Copies ra → Room l q 0 (rule (spend d) st n)
        → Runs l s n (64 * (rule (spend d) st n).work - 4) (Done l (record q { pc = ra }) m map st (rule (spend d) st n).words) (rule (spend d) st n).outcome
    value_runs ra zero words v d e small enough value copies room =
        let shows = making.shows in
        let at = making.at in
        passes l s 0 60 _ (done l.world 60 s _ (record { output = at.output_is ∙ shows.output; input = at.input_is ∙ shows.input }))
    value_runs ra (suc n) words v d e small enough value copies room =
        subst (λ (r : Metered Value). Runs l s (suc n) (64 * (1 + r.work) - 4) (Done l (record q { pc = ra }) m map st r.words) r.outcome) (sym (e st n))
        (by (subst (λ (r : Metered Value). Room l q 0 (record { outcome = r.outcome; work = 1 + r.work; words = r.words; peak = 1 + r.peak })) (e st n) room))
      where
        by : Room l q 0 (record { outcome = Val v st n; work = 1 + 0; words = words; peak = 1 + 0 }) → Runs l s (suc n) (64 * (1 + 0) - 4) (Done l (record q { pc = ra }) m map st words) (Val v st n)
        by room =
            let shows = making.shows in
            let heap = room.heap in
            let laid = l.world.laid in
            let before = making.at.numbers in
            let on_console : OnTheWay l.world console.output console.input = subst (λ (o : List ℕ). OnTheWay l.world o console.input) (sym shows.output) (subst (λ (i : List ℕ). OnTheWay l.world st.output i) (sym shows.input) room.way) in
            passes_wider l s (1 + 0) (suc n - n) (7 * size_of l is c + 20 + 1) 60 _ (omega arith) (omega arith)
            (passes_then l s 1 (7 * size_of l is c + 20) 0 1 _ _ (copies (omega arith) on_console)
            (λ u at. let numbers' = at.numbers in
            passes l u 0 1 _ (then_done u (returns (entry l is q c ra) (copy_of l is m q c) u at refl) (omega arith))))
          where
            then_done : (u : Machine) → Reaches l.world u 0 1 (stands (At l.world (record q { pc = ra; gp = q.gp + 4 * size_of l is c + 4; acc = q.gp + 4; ra = ra }) (copy_of l is m q c) console)) → q.gp + 4 * size_of l is c + 4 ≤ q.sp
                → Reaches l.world u 0 1 (stands (Done l (record q { pc = ra }) m map st words v st))
            then_done u h under = next l.world u 1 0 1 _ _ h (omega arith) (λ z at. done l.world 0 z _ (value_done ra words v enough (value under) z at))
