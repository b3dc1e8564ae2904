-- Each of the two code sequences of `new` (for a named class, and for SELF_TYPE) makes the object and calls its initializer, with the outcome that the
-- semantics gives for the class.
use Rattle.std.proofs.Common.{◌≡◌, ℕ, ◌+◌, ◌-◌, ◌*◌, ◌<◌, ◌≤◌, List, [], ◌++◌, length, Some, Bool as Truth, true, false, ap, sym, ◌∙◌, refl, subst, arith}
use Rattle.std.specs.Prelude.{pos, ◌==◌, codes}
use Rattle.mips_isa.specs.Bytes.{Bytes, word}
use Rattle.mips_isa.specs.Calls.{State as Machine}
use Rattle.mips_isa.specs.Lines.{Name}
use Rattle.cool_classes.specs.declared.class_id.ClassId.{ClassId}
use Rattle.cool_classes.specs.Chains.{class_number}
use Rattle.cool_classes.specs.LawfulTables.{MayInherit}
use Rattle.cool_runtime.specs.Reaches.{World, stands, OnTheWay}
use Rattle.cool_runtime.specs.Standing.{HasLines}
use Rattle.cool_runtime.specs.Labels.{int_prototype, bool_prototype, string_prototype}
use Rattle.cool_runtime.specs.RoutineLabels.{class_objects}
use Rattle.cool_runtime.specs.Machines.{At, Pointers, Console}
use Rattle.cool_runtime.specs.declared.catalogue.Routine.TheVariants as routines
use Rattle.cool_layout.specs.Labels.{prototype, initializer}
use Rattle.cool_layout.specs.Preorder.{tag}
use Rattle.cool_codegen.specs.Pieces.{create_lines, create_self_lines}
use Rattle.cool_meaning.specs.Values.{Value, Void, Int, Bool, Str, Obj, State, class_of}
use Rattle.cool_meaning.specs.BasicMethods.{new_number, new_truth, new_string}
use Rattle.cool_meaning.specs.Evaluation.{Call, Calls, make}
use Rattle.cool_meaning.proofs.BasicClasses.{by_number, basic_within, basic_name}
use Rattle.cool_meaning.proofs.SoundParts.{is_other}
use Rattle.cool_meaning.specs.FittingValues as fitting
use Rattle.cool_simulation.specs.Loadings.{Loading, IsLoaded, Watched, marks, whole}
use Rattle.cool_simulation.specs.Pictures.{Map, Pic}
use Rattle.cool_simulation.specs.Simulation.{Runs, Room, Done, AllCallsCorrect, Passes, Shown}
use Rattle.cool_simulation.specs.Visits.{Visit, Visits, made as object_begun}
use Rattle.cool_simulation.proofs.ground.EvaluationLater.{CallsLater}
use Rattle.cool_simulation.proofs.ground.DataHere.{prototype_here, class_objects_here, int_prototype_pic, bool_prototype_pic, string_prototype_pic}
use Rattle.cool_simulation.proofs.ground.MadePictures.{Made, number_copied, truth_copied, text_copied}
use Rattle.cool_simulation.proofs.forms.TagTests.{tag_low}
use Rattle.cool_simulation.proofs.forms.NewLines.{head_creates, head_creates_own, RowAt}
use Rattle.cool_simulation.proofs.forms.NewRuns.{Making, size_of, entry, copy_of, limits_of}
use Rattle.cool_simulation.proofs.forms.News.{makes}
use Rattle.cool_simulation.proofs.forms.BasicNews.{value_runs}
use Rattle.std.proofs.lemmas.Bool.{eqb-true}
use Rattle.cool_simulation.specs.Quiet.{IsFree}

-- code stands low
pub create_low : (w : World) (pc : ℕ) (proto init : Name) → HasLines w pc (create_lines proto init) → pc + 4 < 268435456
unfolding create_lines
create_low w pc proto init has = has.0.words.0.low

pub own_low : (w : World) (pc : ℕ) → HasLines w pc create_self_lines → pc + 4 < 268435456
unfolding create_self_lines
own_low w pc has = has.0.words.0.low

module _ (l : Loading) (is : IsLoaded l) where
  int_name : prototype l.table (class_number 2) ≡ int_prototype
  unfolding int_prototype
  int_name = ap (λ (n : List ℕ). n ++ codes "_protObj") (basic_name l.table is.buildable.typed 2 (omega arith))

  bool_name : prototype l.table (class_number 3) ≡ bool_prototype
  unfolding bool_prototype
  bool_name = ap (λ (n : List ℕ). n ++ codes "_protObj") (basic_name l.table is.buildable.typed 3 (omega arith))

  string_name : prototype l.table (class_number 4) ≡ string_prototype
  unfolding string_prototype
  string_name = ap (λ (n : List ℕ). n ++ codes "_protObj") (basic_name l.table is.buildable.typed 4 (omega arith))

  module _ (calls : Calls) (begun_in : Call → Visits) (b : ℕ) (correct : AllCallsCorrect l calls begun_in b) (later : CallsLater calls)
      (made : fitting.World) (q : Pointers) (m : Bytes) (map : Map) (console : Console) (st : State) (s : Machine) (making : Making l is made q m map console st s)
      (x : Visit) (watched : Watched l.watch x) (shown : Shown l x s) where
    -- the code for a class whose name is written
    pub created : (c : ClassId) → c.0 < length l.table → HasLines (whole l) q.pc (create_lines (prototype l.table c) (initializer l.table c)) → IsFree (marks l.watch) (q.pc + 4) (q.pc + 16) → q.gp + 4 * size_of l is c + 4 ≤ l.world.top → OnTheWay l.world console.output console.input
        → Passes l s 1 (7 * size_of l is c + 20) (stands (At l.world (entry l is q c (q.pc + 16)) (copy_of l is m q c) console))
    created c within has free room way =
        let proto = prototype_here l is m map st q.gp q.sp making.at.numbers.gp_from making.pictures c within in
        head_creates l q m console s making.at x watched shown (limits_of l is) (is.routines routines.Copy) (prototype l.table c) (initializer l.table c) (size_of l is c) has free proto.lies (omega arith) proto.head.size_is room way

    abbrev Comes : ClassId → ℕ → ℕ → Type 0
    Comes c ra n = Room l q 0 (make l.table calls (Some c) st n) → ((y : Visit) → object_begun l.table calls begun_in (Some c) st n y → Watched l.watch y)
        → Runs l s n (64 * (make l.table calls (Some c) st n).work - 4) (Done l (record q { pc = ra }) m map st (make l.table calls (Some c) st n).words) (make l.table calls (Some c) st n).outcome

    int_comes : (n : ℕ) → HasLines (whole l) q.pc (create_lines (prototype l.table (class_number 2)) (initializer l.table (class_number 2))) → IsFree (marks l.watch) (q.pc + 4) (q.pc + 16) → Comes (class_number 2) (q.pc + 16) n
    int_comes n has free room all =
        let within = basic_within l.table is.buildable.typed 2 (omega arith) in
        let numbers' = making.at.numbers in
        let ends : q.gp + 20 ≡ q.gp + 4 * size_of l is (class_number 2) + 4 = omega arith in
        value_runs l is (class_number 2) within (omega arith) made q m map console st s making (q.pc + 16) n 5 (Int (pos 0)) (new_number (pos 0)) (λ t k. refl) (omega arith) (omega arith)
        (λ under. subst (λ (g : ℕ). Made l.world m (copy_of l is m q (class_number 2)) map st.drawn q.gp g q.sp (Int (pos 0)) (q.gp + 4)) ends
        (number_copied l.world l.table l.memory m map st q.gp q.sp (l.world.place (prototype l.table (class_number 2))) (pos 0) numbers'.gp_from numbers'.gp_even (omega arith) making.pictures
        (subst (λ (x : Name). Pic l.world m map st.drawn q.gp (Int (pos 0)) (l.world.place x)) (sym int_name) (int_prototype_pic l is m map st q.gp q.sp numbers'.gp_from making.pictures))))
        (created (class_number 2) within has free) room

    bool_comes : (n : ℕ) → HasLines (whole l) q.pc (create_lines (prototype l.table (class_number 3)) (initializer l.table (class_number 3))) → IsFree (marks l.watch) (q.pc + 4) (q.pc + 16) → Comes (class_number 3) (q.pc + 16) n
    bool_comes n has free room all =
        let within = basic_within l.table is.buildable.typed 3 (omega arith) in
        let numbers' = making.at.numbers in
        let ends : q.gp + 20 ≡ q.gp + 4 * size_of l is (class_number 3) + 4 = omega arith in
        value_runs l is (class_number 3) within (omega arith) made q m map console st s making (q.pc + 16) n 5 (Bool false) (new_truth false) (λ t k. refl) (omega arith) (omega arith)
        (λ under. subst (λ (g : ℕ). Made l.world m (copy_of l is m q (class_number 3)) map st.drawn q.gp g q.sp (Bool false) (q.gp + 4)) ends
        (truth_copied l.world l.table l.memory m map st q.gp q.sp (l.world.place (prototype l.table (class_number 3))) false numbers'.gp_from numbers'.gp_even (omega arith) making.pictures
        (subst (λ (x : Name). Pic l.world m map st.drawn q.gp (Bool false) (l.world.place x)) (sym bool_name) (bool_prototype_pic l is m map st q.gp q.sp numbers'.gp_from making.pictures))))
        (created (class_number 3) within has free) room

    string_comes : (n : ℕ) → HasLines (whole l) q.pc (create_lines (prototype l.table (class_number 4)) (initializer l.table (class_number 4))) → IsFree (marks l.watch) (q.pc + 4) (q.pc + 16) → Comes (class_number 4) (q.pc + 16) n
    string_comes n has free room all =
        let within = basic_within l.table is.buildable.typed 4 (omega arith) in
        let numbers' = making.at.numbers in
        let laid = l.world.laid in
        value_runs l is (class_number 4) within (omega arith) made q m map console st s making (q.pc + 16) n 17 (Str []) (new_string []) (λ t k. refl) (omega arith) (omega arith)
        (λ under. text_copied l.world l.table l.memory m map st q.gp q.sp (l.world.place (prototype l.table (class_number 4))) [] numbers'.gp_from (omega arith) numbers'.gp_even under making.pictures
        (subst (λ (x : Name). Pic l.world m map st.drawn q.gp (Str []) (l.world.place x)) (sym string_name) (string_prototype_pic l is m map st q.gp q.sp numbers'.gp_from making.pictures)))
        (created (class_number 4) within has free) room

    plain_comes : (c : ClassId) → c.0 < length l.table → MayInherit c → (n : ℕ) → n ≤ b → HasLines (whole l) q.pc (create_lines (prototype l.table c) (initializer l.table c)) → IsFree (marks l.watch) (q.pc + 4) (q.pc + 16) → Comes c (q.pc + 16) n
    plain_comes c within plain n le has free = makes l is calls begun_in b correct later c within plain made q m map console st s making (q.pc + 16) 20 n (let low = create_low (whole l) q.pc _ _ has in omega arith) le (omega arith) (created c within has free)

    -- a class whose name is written
    pub class_comes : (c : ClassId) → c.0 < length l.table → (n : ℕ) → n ≤ b → HasLines (whole l) q.pc (create_lines (prototype l.table c) (initializer l.table c)) → IsFree (marks l.watch) (q.pc + 4) (q.pc + 16) → Comes c (q.pc + 16) n
    class_comes c within n le has free = by (c.0 == 2) (c.0 == 3) (c.0 == 4) refl refl refl
      where
        to : (k : ℕ) → c.0 ≡ k → (HasLines (whole l) q.pc (create_lines (prototype l.table (class_number k)) (initializer l.table (class_number k))) → Comes (class_number k) (q.pc + 16) n) → Comes c (q.pc + 16) n
        to k e h = subst (λ (x : ClassId). Comes x (q.pc + 16) n) (sym (by_number c k e)) (h (subst (λ (x : ClassId). HasLines (whole l) q.pc (create_lines (prototype l.table x) (initializer l.table x))) (by_number c k e) has))

        by : (x y z : Truth) → (c.0 == 2) ≡ x → (c.0 == 3) ≡ y → (c.0 == 4) ≡ z → Comes c (q.pc + 16) n
        by true y z ex ey ez = to 2 (eqb-true c.0 2 ex) (λ has. int_comes n has free)
        by false true z ex ey ez = to 3 (eqb-true c.0 3 ey) (λ has. bool_comes n has free)
        by false false true ex ey ez = to 4 (eqb-true c.0 4 ez) (λ has. string_comes n has free)
        by false false false ex ey ez = plain_comes c within (record { no_int = is_other c.0 2 ex; no_bool = is_other c.0 3 ey; no_string = is_other c.0 4 ez }) n le has free

    -- the code for the class of self
    pub created_own : (k : ClassId) (self : Value) → k.0 < length l.table → MayInherit k → class_of self ≡ Some k → Pic l.world m map st.drawn q.gp self q.self → HasLines (whole l) q.pc create_self_lines
        → IsFree (marks l.watch) (q.pc + 4) (q.pc + 56)
        → q.gp + 4 * size_of l is k + 4 ≤ l.world.top → OnTheWay l.world console.output console.input
        → Passes l s 1 (7 * size_of l is k + 30) (stands (At l.world (entry l is q k (q.pc + 28 + 28)) (copy_of l is m q k) console))
    created_own k Void within plain e pic has free room way = absurd (cc)
    created_own k (Int i) within plain e pic has free room way = absurd (let same : class_number 2 ≡ k = cc in plain.no_int (sym (ap (λ (x : ClassId). x.0) same)))
    created_own k (Bool i) within plain e pic has free room way = absurd (let same : class_number 3 ≡ k = cc in plain.no_bool (sym (ap (λ (x : ClassId). x.0) same)))
    created_own k (Str i) within plain e pic has free room way = absurd (let same : class_number 4 ≡ k = cc in plain.no_string (sym (ap (λ (x : ClassId). x.0) same)))
    created_own k (Obj c i ls) within plain e pic has free room way =
        let w = l.world in
        let same : c ≡ k = cc in
        let numbers' = making.at.numbers in
        let stands' = making.pictures.objects i pic.1 in
        let class_is : map.class i ≡ k = sym pic.2 ∙ same in
        let place_is : q.self ≡ map.address i = pic.0 in
        let tag_is : word m q.self ≡ tag l.table k = ap (word m) place_is ∙ (stands'.head.tag_is ∙ ap (tag l.table) class_is) in
        let proto = prototype_here l is m map st q.gp q.sp numbers'.gp_from making.pictures k within in
        let from = stands'.from in
        let to = stands'.to in
        let even = stands'.even in
        let row_in = is.class_objects_in k within in
        let row = class_objects_here l is m map st q.gp q.sp numbers'.gp_from making.pictures k within in
        let row_even = row_in.even in
        let row_to' = row_in.to in
        let row_to : w.place class_objects + 8 * tag l.table k + 8 ≤ w.segments.data_end = omega arith in
        let few = is.buildable.fits.table.classes in
        let low' = tag_low l.table is.buildable.typed.whole k within in
        let low : tag l.table k < 65536 = omega arith in
        let laid = w.laid in
        let proto_fits : w.place (prototype l.table k) < 4294967296 = omega (arith, proto.lies.to) in
        let row_at : RowAt w m (tag l.table k) (w.place (prototype l.table k)) (w.place (initializer l.table k)) =
        record { even = omega arith; from = row_in.from; to = row_to; small = low; prototype_is = row.0; initializer_is = row.1; prototype_fits = proto_fits } in
        head_creates_own l q m console s making.at x watched shown (limits_of l is) (is.routines routines.Copy) (size_of l is k) (tag l.table k) (w.place (prototype l.table k)) (w.place (initializer l.table k)) has free
        (omega arith) tag_is row_at proto.lies (omega arith) proto.head.size_is room way

    -- the class of self
    pub own_comes : (k : ClassId) (self : Value) → k.0 < length l.table → MayInherit k → class_of self ≡ Some k → Pic l.world m map st.drawn q.gp self q.self → (n : ℕ) → n ≤ b → HasLines (whole l) q.pc create_self_lines
        → IsFree (marks l.watch) (q.pc + 4) (q.pc + 56) → Comes k (q.pc + 28 + 28) n
    own_comes k self within plain e pic n le has free =
        makes l is calls begun_in b correct later k within plain made q m map console st s making (q.pc + 28 + 28) 30 n (let lowest = own_low (whole l) q.pc has in omega arith) le (omega arith)
        (λ room way. created_own k self within plain e pic has free room way)
