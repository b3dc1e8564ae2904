-- The code of `new` for Object, IO and the classes of the program copies the prototype, which becomes the new object, and runs the initializer of its class.
use Rattle.std.proofs.Common.{◌≡◌, ℕ, ◌+◌, ◌*◌, ◌%◌, ◌<◌, ◌≤◌, List, [], ◌++◌, map as each, length, get_or, Some, ap, sym, ◌∙◌, refl, subst, arith, length-append}
use Rattle.std.specs.Prelude.{slice_get}
use Rattle.std.proofs.lemmas.List.{length-map}
use Rattle.std.proofs.lemmas.Option.{slice_get_within}
use Rattle.mips_isa.specs.declared.address_map.TheConstants.{STACK_END}
use Rattle.mips_isa.specs.Bytes.{Bytes, word}
use Rattle.mips_isa.specs.Calls.{State as Machine}
use Rattle.cool_classes.specs.declared.class_id.ClassId.{ClassId}
use Rattle.cool_classes.specs.ClimbedChains.{chain}
use Rattle.cool_classes.specs.LawfulTables.{MayInherit}
use Rattle.cool_rules.proofs.ChainsOfTables.{below_itself}
use Rattle.cool_runtime.specs.Contents.{HeadAt, Same}
use Rattle.cool_runtime.specs.Machines.{At, Pointers, Console, with_copy}
use Rattle.cool_runtime.specs.Premises.{Limits}
use Rattle.cool_runtime.specs.declared.catalogue.Routine.TheVariants as routines
use Rattle.cool_runtime.proofs.CopiedObjects.{copied_object, copy_same}
use Rattle.cool_layout.specs.Preorder.{tag}
use Rattle.cool_layout.specs.LinesOfLayout.{new_fields}
use Rattle.cool_layout.specs.Labels.{prototype, initializer, dispatch_table}
use Rattle.cool_meaning.specs.Values.{Value, State}
use Rattle.cool_meaning.specs.Lookups.{attributes}
use Rattle.cool_meaning.specs.Evaluation.{Call, Calls, Initials}
use Rattle.cool_meaning.specs.FittingValues.{AllFit}
use Rattle.cool_meaning.specs.FittingValues as fitting
use Rattle.cool_simulation.specs.Loadings.{Loading, IsLoaded, item_word, Watched}
use Rattle.cool_simulation.specs.Pictures.{Map, Pic, Pictures, Kept, Grown, Shows}
use Rattle.cool_simulation.specs.Simulation.{Runs, Room, Called, Done, CallsCorrect}
use Rattle.cool_simulation.specs.Visits.{Visit, Visits}
use Rattle.cool_simulation.proofs.ground.PicturesStay.{kept_then, grown_then}
use Rattle.cool_simulation.proofs.ground.PartsOfRuns.{run_as}
use Rattle.cool_simulation.proofs.ground.DataHere.{fields_pic, fields_count, prototype_here}
use Rattle.cool_simulation.proofs.ground.LargerMaps.{with_object, with_values}
use Rattle.cool_simulation.proofs.ground.MadeObjects.{made_pictures, made_kept, made_grown, made_value}
use Rattle.cool_simulation.proofs.forms.NewMeaning.{made_values, made_object, made_call, object_stored}

module _ (l : Loading) (is : IsLoaded l) where
  pub limits_of : Limits l.world
  limits_of = record { heap = is.routines routines.HeapLimit; stack = is.routines routines.StackLimit }

  -- The state in which an expression makes a new object: the machine, the source state that it pictures, and room on the stack.
  pub record Making (made : fitting.World) (q : Pointers) (m : Bytes) (map : Map) (console : Console) (st : State) (s : Machine) : Type 0 where
    pub at : At l.world q m console s
    pub shows : Shows st console
    pub pictures : Pictures l.table l.world l.memory m map st q.gp q.sp
    pub frame : q.sp ≤ STACK_END
    pub fits : AllFit l.table made st.store made
    pub saved : (q.fp < 4294967296) × (q.self < 4294967296)

  -- the words of an object of a class
  abbrev pub size_of : ClassId → ℕ
  size_of c = 3 + length (new_fields l.table c)

  -- the pointers at the call of its initializer, with the copy of the prototype
  abbrev pub entry : Pointers → ClassId → ℕ → Pointers
  entry q c ra = record q { pc = l.world.place (initializer l.table c); gp = q.gp + 4 * size_of c + 4; acc = q.gp + 4; ra = ra }

  abbrev pub copy_of : Bytes → Pointers → ClassId → Bytes
  copy_of m q c = with_copy m q.gp (l.world.place (prototype l.table c)) (size_of c)

  module _ (c : ClassId) (within : c.0 < length l.table) (plain : MayInherit c) (made : fitting.World) (q : Pointers) (m : Bytes) (map : Map) (console : Console) (st : State) (s : Machine) (making : Making made q m map console st s) where
    pub attributes_many : length (new_fields l.table c) ≡ length (attributes l.table c)
    attributes_many = fields_count l is m map st q.gp q.sp making.at.numbers.gp_from making.pictures c plain.no_int plain.no_bool plain.no_string

    values_many : length (made_values l.table c) ≡ length (attributes l.table c)
    values_many = length-map (attributes l.table c) _

    abbrev pub map1 : Map
    map1 = with_object map c st (length (made_values l.table c)) q.gp

    abbrev pub st1 : State
    st1 = with_values st (made_values l.table c)

    -- the state that the copy pictures
    record Copied (m1 : Bytes) (gp1 : ℕ) : Type 0 where
      pictures : Pictures l.table l.world l.memory m1 map1 st1 gp1 q.sp
      kept : Kept m m1 map.marked q.gp q.sp
      grown : Grown map map1 st.drawn (length st.store) q.gp q.sp
      value : Pic l.world m1 map1 (st.drawn + 1) gp1 (made_object l.table c st) (q.gp + 4)

    copied : q.gp + 4 * size_of c + 4 ≤ q.sp → Copied (copy_of m q c) (q.gp + 4 * size_of c + 4)
    copied under =
        let w = l.world in
        let numbers' = making.at.numbers in
        let proto = prototype_here l is m map st q.gp q.sp numbers'.gp_from making.pictures c within in
        let words : List ℕ = each (item_word w) (new_fields l.table c) in
        let words_many : length words ≡ length (new_fields l.table c) = length-map (new_fields l.table c) (item_word w) in
        let object = copied_object w m q.gp (w.place (prototype l.table c)) _ (size_of c) _ words numbers'.gp_from numbers'.gp_even proto in
        let m1 = copy_of m q c in
        let gp1 = q.gp + 4 * size_of c + 4 in
        let many = attributes_many in
        let many' = values_many in
        let same : Same m m1 q.gp q.sp = copy_same w m q.gp q.sp (w.place (prototype l.table c)) (size_of c) under in
        let vs : List Value = made_values l.table c in
        let e : 3 + length (new_fields l.table c) ≡ 3 + length vs = omega arith in
        let head = subst (λ n. HeadAt m1 (q.gp + 4) (tag l.table c) n (w.place (dispatch_table l.table c))) e object.head in
        let values : (j : ℕ) (v : Value) → slice_get vs j ≡ Some v → Pic w m map st.drawn q.gp v (word m1 (q.gp + 16 + 4 * j)) =
        λ j v there.
        let less : j < length vs = slice_get_within vs j v there in
        let at_word : word m1 (q.gp + 4 + 12 + 4 * j) ≡ get_or words j 0 = object.attributes j (omega arith) in
        let same_place : q.gp + 16 + 4 * j ≡ q.gp + 4 + 12 + 4 * j = omega arith in
        subst (λ x. Pic w m map st.drawn q.gp v x) (sym (ap (word m1) same_place ∙ at_word))
        (fields_pic l is m map st q.gp q.sp numbers'.gp_from making.pictures c plain.no_int plain.no_bool plain.no_string j v there) in
        record {
          pictures = made_pictures l.table w l.memory m m1 map st c vs q.gp gp1 q.sp numbers'.gp_from numbers'.gp_even (omega arith) under within plain many' same head values making.pictures;
          kept = made_kept l.table w l.memory m m1 map st c vs q.gp gp1 q.sp numbers'.gp_from numbers'.gp_even (omega arith) under within plain many' same head values making.pictures;
          grown = made_grown l.table w l.memory m m1 map st c vs q.gp gp1 q.sp numbers'.gp_from numbers'.gp_even (omega arith) under within plain many' same head values making.pictures;
          value = made_value l.table w l.memory m m1 map st c vs q.gp gp1 q.sp numbers'.gp_from numbers'.gp_even (omega arith) under within plain many' same head values making.pictures;
        }

    -- the state after the initializer: the new objects and its effects together
    initialized : (m1 : Bytes) (gp1 ra words : ℕ) (t : State) (u : Machine) → gp1 ≡ q.gp + 4 * (4 + length (attributes l.table c)) → q.sp % 4 ≡ 0 → Copied m1 gp1
        → Done l (record q { pc = ra; gp = gp1; acc = q.gp + 4; ra = ra }) m1 map1 st1 words (made_object l.table c st) t u
        → Done l (record q { pc = ra }) m map st (4 + length (attributes l.table c) + words) (made_object l.table c st) t u
    initialized m1 gp1 ra words t u e even copy d =
        let drawn = d.drawn in
        let located = d.located in
        let from = d.gp_from in
        let to = d.gp_to in
        let longer : length (st.store ++ made_values l.table c) ≡ length st.store + length (made_values l.table c) = length-append st.store (made_values l.table c) in
        record {
          gp = d.gp;
          acc = d.acc;
          ra = d.ra;
          memory = d.memory;
          map' = d.map';
          console = d.console;
          at = d.at;
          shows = d.shows;
          pictures = d.pictures;
          value = d.value;
          kept = kept_then l.world m m1 d.memory map map1 st.drawn (length st.store) q.gp gp1 q.sp q.sp (omega arith) (omega arith) even copy.grown copy.kept d.kept;
          grown = grown_then l.world map map1 d.map' st.drawn (st.drawn + 1) (length st.store) (length (st.store ++ made_values l.table c)) q.gp gp1 q.sp q.sp (omega arith) (omega arith) (omega arith) (omega arith) copy.grown d.grown;
          drawn = omega arith;
          located = omega arith;
          gp_from = omega arith;
          gp_to = omega arith;
        }

    -- the initializer is called on the copy
    pub initializer_called : (ra : ℕ) (u : Machine) → ra < 4294967296 → At l.world (entry q c ra) (copy_of m q c) console u
        → Called l c (made_object l.table c st) [] (object_stored l.table is.buildable.typed made c st within plain making.fits).world (entry q c ra) (copy_of m q c) map1 console st1 u
    initializer_called ra u low at =
        let laid = l.world.laid in
        let numbers' = at.numbers in
        let before = making.at.numbers in
        let copy = copied (omega arith) in
        let stored = object_stored l.table is.buildable.typed made c st within plain making.fits in
        let frame = making.frame in
        let shows = making.shows in
        record {
          at = at;
          shows = record { input = shows.input; output = shows.output; ended = shows.ended; bytes = shows.bytes };
          pictures = copy.pictures;
          self_is = copy.value;
          room = omega arith;
          saved = (low, making.saved.0, making.saved.1);
          values = λ j v e. absurd (cc);
          unmarked = λ i low high. absurd (omega arith);
          class = refl;
          within = within;
          plain = plain;
          self_fits = stored.object;
          fits = stored.store;
        }

    module _ (calls : Calls) (begun_in : Call → Visits) (n : ℕ) (correct : CallsCorrect l calls begun_in n) where
      -- the initializer runs on the copy
      pub initializes : (ra : ℕ) (u : Machine) → ra < 4294967296 → At l.world (entry q c ra) (copy_of m q c) console u → Room l (entry q c ra) (12 * length (chain l.table c)) (made_call l.table calls c st n)
          → ((x : Visit) → begun_in (Initials c (made_object l.table c st)) st1 n x → Watched l.watch x)
          → Runs l u n (64 * (made_call l.table calls c st n).work + 20 * length (chain l.table c))
          (λ v. Done l (record q { pc = ra }) m map st (4 + length (attributes l.table c) + (made_call l.table calls c st n).words) (made_object l.table c st)) (made_call l.table calls c st n).outcome
      initializes ra u low at room watched =
          let typed = is.buildable.typed in
          let laid = l.world.laid in
          let numbers' = at.numbers in
          let before = making.at.numbers in
          let many = attributes_many in
          let copy = copied (omega arith) in
          let stored = object_stored l.table typed made c st within plain making.fits in
          run_as l (made_call l.table calls c st n).outcome u n _ _ _
          (λ v t z d. initialized (copy_of m q c) (q.gp + 4 * size_of c + 4) ra (made_call l.table calls c st n).words t z (omega arith) before.sp_even copy d)
          (correct.initials c (made_object l.table c st) c stored.world (entry q c ra) (copy_of m q c) map1 console st1 u n (omega arith) within (below_itself l.table typed.whole c within) (initializer_called ra u low at) refl room watched)
