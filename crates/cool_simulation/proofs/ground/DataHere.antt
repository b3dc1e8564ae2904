-- Each memory that represents a state of the source still holds the loaded data of the program: constants, default values, prototypes, class names, tables and
-- texts.
use Rattle.std.proofs.Common.{◌≡◌, ◌≢◌, ℕ, zero, suc, ◌+◌, ◌*◌, ◌/◌, ◌<◌, ◌≤◌, List, [], ◌∷◌, length, map as each, get_or, Bool as Truth, true, false, refl, sym, ap, ◌∙◌, subst, arith}
use Rattle.std.proofs.lemmas.List.{length-map}
use Rattle.std.specs.Prelude.{pos, slice_get, Some, Contains, codes, bytes_eq, nat_eq, if◌then◌else◌, ◌++◌}
use Rattle.mips_isa.specs.declared.address_map.TheConstants.{HEAP_START}
use Rattle.mips_isa.specs.Bytes.{Bytes, word}
use Rattle.mips_isa.specs.Lines.{Name, WordItem, Number, Address}
use Rattle.cool_classes.specs.declared.class_id.ClassId.{ClassId}
use Rattle.cool_classes.specs.declared.method.AttributeRef.{AttributeRef}
use Rattle.cool_classes.specs.Features.{attribute_type}
use Rattle.cool_classes.specs.Chains.{class_number, name_of}
use Rattle.cool_runtime.specs.Contents.{IntAt, BoolAt, StringAt, ObjectAt, NameAt, TextAt, Prototypes}
use Rattle.cool_runtime.specs.Labels.{false_constant, name_table, int_prototype, bool_prototype, string_prototype, int_table, bool_table, string_table}
use Rattle.cool_runtime.specs.RoutineLabels.{class_objects, default_int, default_string}
use Rattle.cool_layout.specs.Preorder.{tag}
use Rattle.cool_layout.proofs.TagRanges.{are_tags}
use Rattle.cool_emit.proofs.RootedTables.{rooted}
use Rattle.cool_meaning.proofs.BasicClasses.{basic_name, basic_within}
use Rattle.cool_layout.specs.Members.{slot, method, attributes}
use Rattle.cool_layout.specs.LinesOfLayout.{new_fields, default_value}
use Rattle.cool_layout.specs.Labels.{prototype, initializer, dispatch_table, method_label}
use Rattle.cool_consts.specs.Constants.{integer_number, string_number}
use Rattle.cool_consts.specs.Labels.{int_constant, string_constant}
use Rattle.cool_codegen.specs.Code.{truth_label}
use Rattle.cool_meaning.specs.Values.{Value, Void, Int, Bool, Str, State, default_of}
use Rattle.cool_meaning.specs.Lookups.{default_values}
use Rattle.cool_meaning.specs.Numbers.{signed, word_of}
use Rattle.cool_simulation.specs.Loadings.{Loading, IsLoaded, constants, item_word}
use Rattle.cool_simulation.specs.Pictures.{Map, Pic, Pictures, bit, Unmarked}
use Rattle.cool_simulation.proofs.ground.WordsOfNumbers.{signed_word}
use Rattle.cool_simulation.proofs.ground.MovedContents.{lies_less, data_word, int_moved, bool_moved, string_moved, object_moved, zero_byte}
use Rattle.std.proofs.lemmas.Bool.{ne_eqb}

module _ (l : Loading) (is : IsLoaded l) (m : Bytes) (map : Map) (st : State) (gp sp : ℕ) (from : HEAP_START ≤ gp) (at : Pictures l.table l.world l.memory m map st gp sp) where
  -- no word of the data is marked
  pub data_unmarked : (a size : ℕ) → a + size ≤ HEAP_START → Unmarked map.marked a size
  data_unmarked a size to = λ q low high. at.unmarked_data (q / 4) (omega arith)

  -- Constants

  pub integer_here : (n : ℕ) → Contains (constants l).integers n → IntAt l.world m gp (l.world.place (int_constant (integer_number (constants l).integers n))) n
  integer_here n among = int_moved l.world l.memory m gp from at.as_loaded _ n (is.integers n among)

  pub integer_pic : (n : ℕ) → Contains (constants l).integers n → Pic l.world m map st.drawn gp (Int (signed n)) (l.world.place (int_constant (integer_number (constants l).integers n)))
  integer_pic n among =
      let here = is.integers n among in
      let small = here.fits in
      let (word, fit) = signed_word n in
      let same : word_of (signed n) ≡ n = word ∙ (omega arith) in
      (subst (λ v. IntAt l.world m gp (l.world.place (int_constant (integer_number (constants l).integers n))) v) (sym same) (integer_here n among), fit, data_unmarked _ 16 here.lies.to)

  text_pic : (a : ℕ) (bytes : List ℕ) → StringAt l.world l.memory HEAP_START a bytes → Pic l.world m map st.drawn gp (Str bytes) a
  text_pic a bytes string =
      let third : word m (a + 12) ≡ word l.memory (a + 12) = let lies = string.lies in data_word l.world l.memory m gp from at.as_loaded (a + 12) (omega arith) in (
        string_moved l.world l.memory m gp from at.as_loaded a bytes string,
        data_unmarked a _ string.lies.to,
        subst (λ b. Unmarked map.marked b 16) (sym third) (data_unmarked (word l.memory (a + 12)) 16 string.length_is.lies.to),
      )

  pub string_pic : (bytes : List ℕ) → Contains (constants l).strings bytes → Pic l.world m map st.drawn gp (Str bytes) (l.world.place (string_constant (string_number (constants l).strings bytes)))
  string_pic bytes among = text_pic _ bytes (is.strings bytes among)

  pub truth_pic : (b : Truth) → Pic l.world m map st.drawn gp (Bool b) (l.world.place (truth_label b))
  truth_pic b = (bool_moved l.world l.memory m gp from at.as_loaded _ (bit b) (is.truths b), data_unmarked _ 16 (is.truths b).lies.to)

  -- Default values

  pub default_int_pic : Pic l.world m map st.drawn gp (Int (pos 0)) (l.world.place default_int)
  default_int_pic = (int_moved l.world l.memory m gp from at.as_loaded _ 0 is.default_int, refl, data_unmarked _ 16 is.default_int.lies.to)

  pub default_string_pic : Pic l.world m map st.drawn gp (Str []) (l.world.place default_string)
  default_string_pic = text_pic (l.world.place default_string) [] is.default_string

  pub default_pic : (name : List ℕ) → Pic l.world m map st.drawn gp (default_of name) (item_word l.world (default_value name))
  default_pic name = by (bytes_eq name (codes "Int")) (bytes_eq name (codes "Bool")) (bytes_eq name (codes "String"))
    where
      by : (a b c : Truth) → Pic l.world m map st.drawn gp (if a then Int (pos 0) else (if b then Bool false else (if c then Str [] else Void)))
          (item_word l.world (if a then Address default_int else if b then Address false_constant else if c then Address default_string else Number (pos 0)))
      by true b c = default_int_pic
      by false true c = truth_pic false
      by false false true = default_string_pic
      by false false false = refl

  plain_fields : (c : ClassId) → c.0 ≢ 2 → c.0 ≢ 3 → c.0 ≢ 4 → new_fields l.table c ≡ each (λ a. default_value (attribute_type l.table a)) (attributes l.table c)
  plain_fields c a b d =
      let first : nat_eq c.0 2 ≡ false = ne_eqb c.0 2 a in
      let second : nat_eq c.0 3 ≡ false = ne_eqb c.0 3 b in
      let third : nat_eq c.0 4 ≡ false = ne_eqb c.0 4 d in
      rw (first, second, third) refl

  fields_by : (rs : List AttributeRef) (j : ℕ) (v : Value) → slice_get (default_values l.table rs) j ≡ Some v
      → Pic l.world m map st.drawn gp v (get_or (each (item_word l.world) (each (λ a. default_value (attribute_type l.table a)) rs)) j 0)
  fields_by [] j v there = absurd cc
  fields_by (r ∷ rs) zero v there =
      let same : default_of (attribute_type l.table r) ≡ v = cc in
      subst (λ (x : Value). Pic l.world m map st.drawn gp x (item_word l.world (default_value (attribute_type l.table r)))) same (default_pic (attribute_type l.table r))
  fields_by (r ∷ rs) (suc j) v there = fields_by rs j v there

  -- the words of a new object of a class of the program, or of Object or IO
  pub fields_pic : (c : ClassId) → c.0 ≢ 2 → c.0 ≢ 3 → c.0 ≢ 4 → (j : ℕ) (v : Value) → slice_get (default_values l.table (attributes l.table c)) j ≡ Some v
      → Pic l.world m map st.drawn gp v (get_or (each (item_word l.world) (new_fields l.table c)) j 0)
  fields_pic c a b d j v there =
      subst (λ (items : List WordItem). Pic l.world m map st.drawn gp v (get_or (each (item_word l.world) items) j 0)) (sym (plain_fields c a b d)) (fields_by (attributes l.table c) j v there)

  pub fields_count : (c : ClassId) → c.0 ≢ 2 → c.0 ≢ 3 → c.0 ≢ 4 → length (new_fields l.table c) ≡ length (attributes l.table c)
  fields_count c a b d = ap length (plain_fields c a b d) ∙ length-map (attributes l.table c) _

  -- Prototypes

  pub prototype_here : (c : ClassId) → c.0 < length l.table
      → ObjectAt l.world m gp (l.world.place (prototype l.table c)) (tag l.table c) (3 + length (new_fields l.table c)) (l.world.place (dispatch_table l.table c)) (each (item_word l.world) (new_fields l.table c))
  prototype_here c within = object_moved l.world l.memory m gp from at.as_loaded _ _ _ _ _ (is.prototypes c within)

  -- the defaults of Int, Bool and String are values

  int_is : name_of l.table (class_number 2) ≡ codes "Int"
  int_is = basic_name l.table is.buildable.typed 2 (omega arith)

  bool_is : name_of l.table (class_number 3) ≡ codes "Bool"
  bool_is = basic_name l.table is.buildable.typed 3 (omega arith)

  string_is : name_of l.table (class_number 4) ≡ codes "String"
  string_is = basic_name l.table is.buildable.typed 4 (omega arith)

  pub int_prototype_is : prototype l.table (class_number 2) ≡ int_prototype
  unfolding int_prototype
  int_prototype_is = ap (λ (n : Name). n ++ codes "_protObj") int_is

  int_table_is : dispatch_table l.table (class_number 2) ≡ int_table
  unfolding int_table
  int_table_is = ap (λ (n : Name). n ++ codes "_dispTab") int_is

  pub bool_prototype_is : prototype l.table (class_number 3) ≡ bool_prototype
  unfolding bool_prototype
  bool_prototype_is = ap (λ (n : Name). n ++ codes "_protObj") bool_is

  bool_table_is : dispatch_table l.table (class_number 3) ≡ bool_table
  unfolding bool_table
  bool_table_is = ap (λ (n : Name). n ++ codes "_dispTab") bool_is

  pub string_prototype_is : prototype l.table (class_number 4) ≡ string_prototype
  unfolding string_prototype
  string_prototype_is = ap (λ (n : Name). n ++ codes "_protObj") string_is

  string_table_is : dispatch_table l.table (class_number 4) ≡ string_table
  unfolding string_table
  string_table_is = ap (λ (n : Name). n ++ codes "_dispTab") string_is

  in_table : (n : ℕ) → n < 5 → (class_number n).0 < length l.table
  in_table n less = basic_within l.table is.buildable.typed n less

  number_object : ObjectAt l.world l.memory HEAP_START (l.world.place int_prototype) l.world.tags.int 4 (l.world.place int_table) (0 ∷ [])
  number_object =
      subst (λ (n : Name). ObjectAt l.world l.memory HEAP_START (l.world.place int_prototype) l.world.tags.int 4 (l.world.place n) (0 ∷ [])) int_table_is
      (subst (λ (n : Name). ObjectAt l.world l.memory HEAP_START (l.world.place n) l.world.tags.int 4 (l.world.place (dispatch_table l.table (class_number 2))) (0 ∷ [])) int_prototype_is
      (subst (λ (t : ℕ). ObjectAt l.world l.memory HEAP_START (l.world.place (prototype l.table (class_number 2))) t 4 (l.world.place (dispatch_table l.table (class_number 2))) (0 ∷ [])) (sym (ap (λ t. t.int) is.tags))
      (is.prototypes (class_number 2) (in_table 2 (omega arith)))))

  truth_object : ObjectAt l.world l.memory HEAP_START (l.world.place bool_prototype) l.world.tags.bool 4 (l.world.place bool_table) (0 ∷ [])
  truth_object =
      subst (λ (n : Name). ObjectAt l.world l.memory HEAP_START (l.world.place bool_prototype) l.world.tags.bool 4 (l.world.place n) (0 ∷ [])) bool_table_is
      (subst (λ (n : Name). ObjectAt l.world l.memory HEAP_START (l.world.place n) l.world.tags.bool 4 (l.world.place (dispatch_table l.table (class_number 3))) (0 ∷ [])) bool_prototype_is
      (subst (λ (t : ℕ). ObjectAt l.world l.memory HEAP_START (l.world.place (prototype l.table (class_number 3))) t 4 (l.world.place (dispatch_table l.table (class_number 3))) (0 ∷ [])) (sym (ap (λ t. t.bool) is.tags))
      (is.prototypes (class_number 3) (in_table 3 (omega arith)))))

  text_object : ObjectAt l.world l.memory HEAP_START (l.world.place string_prototype) l.world.tags.string 5 (l.world.place string_table) (l.world.place default_int ∷ 0 ∷ [])
  text_object =
      subst (λ (n : Name). ObjectAt l.world l.memory HEAP_START (l.world.place string_prototype) l.world.tags.string 5 (l.world.place n) (l.world.place default_int ∷ 0 ∷ [])) string_table_is
      (subst (λ (n : Name). ObjectAt l.world l.memory HEAP_START (l.world.place n) l.world.tags.string 5 (l.world.place (dispatch_table l.table (class_number 4))) (l.world.place default_int ∷ 0 ∷ [])) string_prototype_is
      (subst (λ (t : ℕ). ObjectAt l.world l.memory HEAP_START (l.world.place (prototype l.table (class_number 4))) t 5 (l.world.place (dispatch_table l.table (class_number 4))) (l.world.place default_int ∷ 0 ∷ [])) (sym (ap (λ t. t.string) is.tags))
      (is.prototypes (class_number 4) (in_table 4 (omega arith)))))

  int_loaded : IntAt l.world l.memory HEAP_START (l.world.place int_prototype) 0
  int_loaded =
      let o = number_object in
      let here : l.world.place int_prototype + 12 + 4 * 0 ≡ l.world.place int_prototype + 12 = omega arith in
      record { lies = o.lies; head = o.head; head_fits = o.fits; value = ap (word l.memory) (sym here) ∙ o.attributes 0 (omega arith); fits = omega arith }

  bool_loaded : BoolAt l.world l.memory HEAP_START (l.world.place bool_prototype) 0
  bool_loaded =
      let o = truth_object in
      let here : l.world.place bool_prototype + 12 + 4 * 0 ≡ l.world.place bool_prototype + 12 = omega arith in
      record { lies = o.lies; head = o.head; head_fits = o.fits; value = ap (word l.memory) (sym here) ∙ o.attributes 0 (omega arith); bit = omega arith }

  string_loaded : StringAt l.world l.memory HEAP_START (l.world.place string_prototype) []
  string_loaded =
      let o = text_object in
      let a = l.world.place string_prototype in
      let here : a + 12 + 4 * 0 ≡ a + 12 = omega arith in
      let next : a + 12 + 4 * 1 ≡ a + 16 = omega arith in
      let pointer : word l.memory (a + 12) ≡ l.world.place default_int = ap (word l.memory) (sym here) ∙ o.attributes 0 (omega arith) in
      let zeros : word l.memory (a + 16) ≡ 0 = ap (word l.memory) (sym next) ∙ o.attributes 1 (omega arith) in
      record {
        lies = o.lies;
        head = o.head;
        head_fits = o.fits;
        length_is = subst (λ b. IntAt l.world l.memory HEAP_START b 0) (sym pointer) is.default_int;
        holds = λ i h. zero_byte l.memory (a + 16) i zeros (omega arith);
        text = tt;
      }

  pub int_prototype_here : IntAt l.world m gp (l.world.place int_prototype) 0
  int_prototype_here = int_moved l.world l.memory m gp from at.as_loaded _ 0 int_loaded

  pub bool_prototype_here : BoolAt l.world m gp (l.world.place bool_prototype) 0
  bool_prototype_here = bool_moved l.world l.memory m gp from at.as_loaded _ 0 bool_loaded

  pub string_prototype_here : StringAt l.world m gp (l.world.place string_prototype) []
  string_prototype_here = string_moved l.world l.memory m gp from at.as_loaded _ [] string_loaded

  pub int_prototype_pic : Pic l.world m map st.drawn gp (Int (pos 0)) (l.world.place int_prototype)
  int_prototype_pic = (int_prototype_here, refl, data_unmarked _ 16 int_loaded.lies.to)

  pub bool_prototype_pic : Pic l.world m map st.drawn gp (Bool false) (l.world.place bool_prototype)
  bool_prototype_pic = (bool_prototype_here, data_unmarked _ 16 bool_loaded.lies.to)

  pub string_prototype_pic : Pic l.world m map st.drawn gp (Str []) (l.world.place string_prototype)
  string_prototype_pic = text_pic _ [] string_loaded

  other_tags : (i j : ℕ) → i < 5 → j < 5 → i ≢ j → tag l.table (class_number i) ≢ tag l.table (class_number j)
  other_tags i j a b other e =
      let same : class_number i ≡ class_number j = (are_tags l.table (rooted l.table is.buildable.typed.whole)).one (class_number i) (class_number j) (in_table i a) (in_table j b) e in
      other (ap (λ (c : ClassId). c.0) same)

  pub prototypes_here : Prototypes l.world m gp
  prototypes_here =
      let int = int_prototype_here in
      let bool = bool_prototype_here in
      let string = string_prototype_here in
      let tags = is.tags in
      record {
        int = record { lies = lies_less l.world gp (l.world.place int_prototype) 16 12 (omega arith) int.lies; tag_is = int.head.tag_is };
        bool = record { lies = lies_less l.world gp (l.world.place bool_prototype) 16 12 (omega arith) bool.lies; tag_is = bool.head.tag_is };
        string = record { lies = lies_less l.world gp (l.world.place string_prototype) 20 12 (omega arith) string.lies; tag_is = string.head.tag_is };
        int_bool = λ e. other_tags 2 3 (omega arith) (omega arith) (λ z. omega arith) (sym (ap (λ t. t.int) tags) ∙ e ∙ ap (λ t. t.bool) tags);
        int_string = λ e. other_tags 2 4 (omega arith) (omega arith) (λ z. omega arith) (sym (ap (λ t. t.int) tags) ∙ e ∙ ap (λ t. t.string) tags);
        bool_string = λ e. other_tags 3 4 (omega arith) (omega arith) (λ z. omega arith) (sym (ap (λ t. t.bool) tags) ∙ e ∙ ap (λ t. t.string) tags);
      }

  -- Names, tables and texts

  name_word : (c : ClassId) → c.0 < length l.table → word m (l.world.place name_table + 4 * tag l.table c) ≡ word l.memory (l.world.place name_table + 4 * tag l.table c)
  name_word c within =
      let laid = l.world.laid in
      let name = is.names c within in
      let to = name.to in
      data_word l.world l.memory m gp from at.as_loaded (l.world.place name_table + 4 * tag l.table c) (omega arith)

  pub name_here : (c : ClassId) → c.0 < length l.table → NameAt l.world m gp (tag l.table c) (name_of l.table c)
  name_here c within =
      let name = is.names c within in
      record {
        even = name.even;
        from = name.from;
        to = name.to;
        string = subst (λ a. StringAt l.world m gp a (name_of l.table c)) (sym (name_word c within)) (string_moved l.world l.memory m gp from at.as_loaded _ _ name.string);
      }

  pub name_pic : (c : ClassId) → c.0 < length l.table → Pic l.world m map st.drawn gp (Str (name_of l.table c)) (word m (l.world.place name_table + 4 * tag l.table c))
  name_pic c within = subst (λ a. Pic l.world m map st.drawn gp (Str (name_of l.table c)) a) (sym (name_word c within)) (text_pic _ _ (is.names c within).string)

  pub class_objects_here : (c : ClassId) → c.0 < length l.table
      → (word m (l.world.place class_objects + 8 * tag l.table c) ≡ l.world.place (prototype l.table c)) × (word m (l.world.place class_objects + 8 * tag l.table c + 4) ≡ l.world.place (initializer l.table c))
  class_objects_here c within =
      let laid = l.world.laid in
      let there = is.class_objects_in c within in
      let to = there.to in
      let held = is.class_objects c within in (
        data_word l.world l.memory m gp from at.as_loaded _ (omega arith) ∙ held.0,
        data_word l.world l.memory m gp from at.as_loaded _ (omega arith) ∙ held.1,
      )

  pub slot_here : (c : ClassId) (name : List ℕ) (k : ℕ) → c.0 < length l.table → slot l.table c name ≡ Some k
      → word m (l.world.place (dispatch_table l.table c) + 4 * k) ≡ l.world.place (method_label l.table (method l.table c name))
  slot_here c name k within there =
      let laid = l.world.laid in
      let place = is.slots_in c name k within there in
      let to = place.to in
      data_word l.world l.memory m gp from at.as_loaded _ (omega arith) ∙ is.slots c name k within there

  pub text_here : (a : ℕ) (bytes : List ℕ) → TextAt l.world l.memory a bytes → TextAt l.world m a bytes
  text_here a bytes text =
      let laid = l.world.laid in
      let to = text.to in
      record {
        from = text.from;
        to = text.to;
        holds = λ i h. at.as_loaded (a + i) (omega arith) ∙ text.holds i h;
        ends = at.as_loaded (a + length bytes) (omega arith) ∙ text.ends;
        text = text.text;
      }
