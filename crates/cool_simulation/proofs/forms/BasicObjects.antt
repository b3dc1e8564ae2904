-- The run-time routine of `copy` simulates the method for an object with an identity: it makes a new object with the same attribute values.
use Rattle.std.proofs.Common.{◌≡◌, ℕ, zero, suc, ◌+◌, ◌*◌, ◌<◌, ◌≤◌, List, [], ◌∷◌, length, get_or, Some, refl, sym, ap, ◌∙◌, subst, arith, length-append}
use Rattle.std.specs.Prelude.{codes, slice_get}
use Rattle.mips_isa.specs.declared.address_map.TheConstants.{HEAP_START}
use Rattle.mips_isa.specs.Bytes.{Bytes, word}
use Rattle.mips_isa.specs.Calls.{State as Machine}
use Rattle.cool_classes.specs.declared.class_id.ClassId.{ClassId}
use Rattle.cool_runtime.specs.Reaches.{OnTheWay}
use Rattle.cool_runtime.specs.Contents.{HeadAt, ObjectAt, Same}
use Rattle.cool_runtime.specs.Labels.{copy}
use Rattle.cool_runtime.specs.Machines.{Pointers, Console, with_copy}
use Rattle.cool_runtime.specs.declared.catalogue.Routine.TheVariants as routines
use Rattle.cool_runtime.proofs.CopiedObjects.{copied_object, copy_same}
use Rattle.cool_runtime.proofs.MeaningsMet.{means}
use Rattle.cool_layout.specs.Preorder.{tag}
use Rattle.cool_layout.specs.Labels.{dispatch_table}
use Rattle.cool_layout.specs.LinesOfLayout.{new_fields}
use Rattle.cool_meaning.specs.Values.{Value, Obj, State}
use Rattle.cool_meaning.specs.Meters.{Val}
use Rattle.cool_meaning.specs.Lookups.{attributes}
use Rattle.cool_meaning.specs.FittingValues as fitting
use Rattle.cool_simulation.specs.Loadings.{Loading, IsLoaded}
use Rattle.cool_simulation.specs.Pictures.{Map, Pic, Pictures, ObjectStands, Kept, Grown}
use Rattle.cool_simulation.proofs.forms.Arguments.{limits, console_way}
use Rattle.cool_simulation.proofs.ground.DataHere.{fields_count}
use Rattle.cool_simulation.proofs.ground.LargerMaps.{numbers, with_object, with_values}
use Rattle.cool_simulation.proofs.ground.MadeObjects.{made_pictures, made_kept, made_grown, made_value}
use Rattle.cool_simulation.proofs.ground.PartsBehind.{pic_fits}
use Rattle.cool_simulation.proofs.forms.Received.{Received}
use Rattle.cool_simulation.proofs.forms.RoutinesDone.{RoutineRuns, passes_as}
use Rattle.std.proofs.lemmas.Option.{slice_get_within}
use Rattle.lists.proofs.ItemsAt.{there_is}

-- so many words from an address on
words_from : Bytes → ℕ → ℕ → List ℕ
words_from m a zero = []
words_from m a (suc k) = word m a ∷ words_from m (a + 4) k

words_long : (m : Bytes) (a k : ℕ) → length (words_from m a k) ≡ k
unfolding words_from
words_long m a zero = refl
words_long m a (suc k) = ap suc (words_long m (a + 4) k)

word_there : (m : Bytes) (a k j : ℕ) → j < k → get_or (words_from m a k) j 0 ≡ word m (a + 4 * j)
unfolding words_from
word_there m a zero j less = absurd (omega arith)
word_there m a (suc k) zero less = let e : a ≡ a + 4 * 0 = omega arith in ap (word m) e
word_there m a (suc k) (suc j) less = let e : a + 4 + 4 * j ≡ a + 4 * suc j = omega arith in word_there m (a + 4) k j (omega arith) ∙ ap (word m) e

module _ (l : Loading) (loaded : IsLoaded l) (j : ClassId) (self : Value) (vs : List Value) (made : fitting.World) (q : Pointers) (m : Bytes) (map : Map) (console : Console) (st : State) (s : Machine) (n : ℕ)
    (h : Received l j self vs made q m map console st s) (none : length vs ≡ 0) (begins : q.pc ≡ l.world.place (codes "Object.copy")) (way : OnTheWay l.world st.output st.input) where
  module _ (i : ℕ) (drawn : i < st.drawn) (values : List Value) (long : length values ≡ length (map.locations i))
      (stored : (k : ℕ) (v : Value) → slice_get values k ≡ Some v → slice_get st.store (get_or (map.locations i) k 0) ≡ Some v) where
    stands : ObjectStands l.table l.world m map q.gp i
    stands = h.pictures.objects i drawn

    -- an attribute's word pictures its value
    attribute : (k : ℕ) (v : Value) → slice_get values k ≡ Some v → Pic l.world m map st.drawn q.gp v (word m (map.address i + 12 + 4 * k))
    attribute k v there =
        let less = slice_get_within values k v there in
        let from = stands.from in
        let home_is = stands.homes k (omega arith) in
        let home = h.pictures.homes (get_or (map.locations i) k 0) (omega arith) in
        let same : home.value ≡ v = some_is home.value v (sym home.stored ∙ stored k v there) in
        subst (λ (a : ℕ). Pic l.world m map st.drawn q.gp v (word m a)) home_is (subst (λ (x : Value). Pic l.world m map st.drawn q.gp x (word m (map.home (get_or (map.locations i) k 0)))) same home.picture)
      where
        some_is : (a b : Value) → Some a ≡ Some b → a ≡ b
        some_is a b e = cc

    words : List ℕ
    words = words_from m (map.address i + 12) (length values)

    object : ObjectAt l.world m q.gp (map.address i) (tag l.table (map.class i)) (3 + length values) (l.world.place (dispatch_table l.table (map.class i))) words
    unfolding words
    object =
        let from = stands.from in
        let to = stands.to in
        let proto = (loaded.prototypes (map.class i) stands.within).fits in
        let same : length (new_fields l.table (map.class i)) ≡ length values =
        fields_count l loaded m map st q.gp q.sp (let numbers = h.at.numbers in omega arith) h.pictures (map.class i) stands.plain.no_int stands.plain.no_bool stands.plain.no_string ∙ sym stands.long ∙ sym long in
        let table_fits = proto.table_fits in
        let size_fits = proto.size_fits in
        record {
          lies = record { even = stands.even; from = omega arith; to = omega arith; in_data = λ low. absurd (omega arith); in_heap = λ high. from };
          head = subst (λ (k : ℕ). HeadAt m (map.address i) (tag l.table (map.class i)) (3 + k) (l.world.place (dispatch_table l.table (map.class i)))) (sym long) stands.head;
          fits = record { tag_fits = proto.tag_fits; size_fits = omega arith; table_fits = proto.table_fits };
          long = ap (λ (k : ℕ). 3 + k) (sym (words_long m (map.address i + 12) (length values)));
          attributes = λ k less. let count = words_long m (map.address i + 12) (length values) in sym (word_there m (map.address i + 12) (length values) k (omega arith));
          words_fit = λ k less.
              let count = words_long m (map.address i + 12) (length values) in
              let (v, there) = there_is values k (omega arith) in
              subst (λ (x : ℕ). x < 4294967296) (sym (word_there m (map.address i + 12) (length values) k (omega arith))) (pic_fits l.world l.table l.memory m map st q.gp q.sp v _ (let laid = l.world.laid in let numbers = h.at.numbers in omega arith) h.pictures (attribute k v there));
        }

    -- the object is made behind the heap's next address
    pub copies_object : (work more : ℕ) → length values ≤ work → q.acc ≡ map.address i → q.gp + 4 * (4 + length values + more) ≤ l.world.top
        → RoutineRuns l vs q m map st s n (record { outcome = Val (Obj (map.class i) st.drawn (numbers (length st.store) (length values))) (with_values st values) n; work = work; words = 4 + length values + more; peak = 0 })
    unfolding copy
    copies_object work more enough acc_is heap =
        let p = l.table in
        let numbers' = h.at.numbers in
        let laid = l.world.laid in
        let k = length values in
        let size = 3 + k in
        let from : HEAP_START ≤ q.gp = omega arith in
        let there : ObjectAt l.world m q.gp q.acc (tag p (map.class i)) size (l.world.place (dispatch_table p (map.class i))) words =
        subst (λ (a : ℕ). ObjectAt l.world m q.gp a (tag p (map.class i)) size (l.world.place (dispatch_table p (map.class i))) words) (sym acc_is) object in
        passes_as l s n (7 * size + 16) _ _ _ (omega arith)
        (means l.world routines.Copy q m console s size (limits l loaded) (loaded.routines routines.Copy) h.at begins there.lies (omega arith) there.head.size_is (omega arith) (console_way l loaded st console h.shows way))
        (λ t at.
        let numbers2 = at.numbers in
        let m' = with_copy m q.gp q.acc size in
        let gp' = q.gp + 4 * size + 4 in
        let same : Same m m' q.gp q.sp = copy_same l.world m q.gp q.sp q.acc size (omega arith) in
        let made' : ObjectAt l.world m' gp' (q.gp + 4) (tag p (map.class i)) size (l.world.place (dispatch_table p (map.class i))) words =
        copied_object l.world m q.gp q.acc (tag p (map.class i)) size (l.world.place (dispatch_table p (map.class i))) words from (omega arith) there in
        let pictured : (d : ℕ) (v : Value) → slice_get values d ≡ Some v → Pic l.world m map st.drawn q.gp v (word m' (q.gp + 16 + 4 * d)) =
        λ d v is. subst (λ (a : ℕ). Pic l.world m map st.drawn q.gp v a) (sym (attribute_word d v is made' there)) (attribute d v is) in
        let ends : gp' ≡ q.gp + 16 + 4 * length values = omega arith in
        let fit : length values ≡ length (attributes p (map.class i)) = long ∙ stands.long in
        let popped : q.sp ≡ q.sp + 4 * length vs = omega arith in
        record {
          gp = gp';
          acc = q.gp + 4;
          ra = q.ra;
          memory = m';
          map' = with_object map (map.class i) st (length values) q.gp;
          console = console;
          at = record { numbers = omega arith; memory_is = at.memory_is; input_is = at.input_is; ended_is = at.ended_is; output_is = at.output_is };
          shows = record { input = h.shows.input; output = h.shows.output; ended = h.shows.ended; bytes = h.shows.bytes };
          pictures = subst (λ (x : ℕ). Pictures p l.world l.memory m' (with_object map (map.class i) st (length values) q.gp) (with_values st values) gp' x) popped
              (made_pictures p l.world l.memory m m' map st (map.class i) values q.gp gp' q.sp from (omega arith) ends (omega arith) stands.within stands.plain fit same made'.head pictured h.pictures);
          value = made_value p l.world l.memory m m' map st (map.class i) values q.gp gp' q.sp from (omega arith) ends (omega arith) stands.within stands.plain fit same made'.head pictured h.pictures;
          kept = subst (λ (x : ℕ). Kept m m' map.marked q.gp x) popped
              (made_kept p l.world l.memory m m' map st (map.class i) values q.gp gp' q.sp from (omega arith) ends (omega arith) stands.within stands.plain fit same made'.head pictured h.pictures);
          grown = subst (λ (x : ℕ). Grown map (with_object map (map.class i) st (length values) q.gp) st.drawn (length st.store) q.gp x) popped
              (made_grown p l.world l.memory m m' map st (map.class i) values q.gp gp' q.sp from (omega arith) ends (omega arith) stands.within stands.plain fit same made'.head pictured h.pictures);
          drawn = omega arith;
          located = let more_long = length-append st.store values in omega arith;
          gp_from = omega arith;
          gp_to = omega arith;
        })
      where
        attribute_word : (d : ℕ) (v : Value) → slice_get values d ≡ Some v → ObjectAt l.world (with_copy m q.gp q.acc (3 + length values)) (q.gp + 4 * (3 + length values) + 4) (q.gp + 4) (tag l.table (map.class i)) (3 + length values) (l.world.place (dispatch_table l.table (map.class i))) words
            → ObjectAt l.world m q.gp q.acc (tag l.table (map.class i)) (3 + length values) (l.world.place (dispatch_table l.table (map.class i))) words
            → word (with_copy m q.gp q.acc (3 + length values)) (q.gp + 16 + 4 * d) ≡ word m (map.address i + 12 + 4 * d)
        attribute_word d v is made' there =
            let less = slice_get_within values d v is in
            let count = there.long in
            let to_copy : q.gp + 16 + 4 * d ≡ q.gp + 4 + 12 + 4 * d = omega arith in
            let from_object : q.acc + 12 + 4 * d ≡ map.address i + 12 + 4 * d = ap (λ (a : ℕ). a + 12 + 4 * d) acc_is in
            ap (word (with_copy m q.gp q.acc (3 + length values))) to_copy ∙ (made'.attributes d (omega arith) ∙ (sym (there.attributes d (omega arith)) ∙ ap (word m) from_object))
