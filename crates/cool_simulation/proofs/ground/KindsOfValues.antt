-- The representation of a value in memory determines its kind (void, Int, Bool, String or object) by the class tag, and values of different kinds are not
-- equal.
use Rattle.std.proofs.Common.{◌≡◌, ◌≢◌, ℕ, ◌+◌, ◌<◌, ◌≤◌, ◌⊎◌, List, [], length, refl, sym, ap, ◌∙◌, subst, arith}
use Rattle.std.specs.Prelude.{false}
use Rattle.mips_isa.specs.declared.address_map.TheConstants.{HEAP_START}
use Rattle.mips_isa.specs.Bytes.{Bytes}
use Rattle.cool_classes.specs.declared.class_id.ClassId.{ClassId}
use Rattle.cool_classes.specs.Chains.{Class, class_number}
use Rattle.cool_runtime.specs.Reaches.{World}
use Rattle.cool_runtime.specs.Contents.{Tagged, Prototypes}
use Rattle.cool_runtime.specs.Comparison.{ValueAt}
use Rattle.cool_layout.specs.Preorder.{tag}
use Rattle.cool_layout.proofs.TagRanges.{are_tags}
use Rattle.cool_meaning.specs.Values.{Value, Void, Int, Bool, Str, Obj, State}
use Rattle.cool_meaning.specs.Evaluation.{same}
use Rattle.cool_meaning.proofs.BasicClasses.{basic_within}
use Rattle.cool_meaning.specs.Numbers.{word_of}
use Rattle.cool_simulation.specs.Loadings.{Loading, IsLoaded}
use Rattle.cool_simulation.specs.Pictures.{Map, Pic, Pictures, ObjectStands, bit}
use Rattle.cool_emit.proofs.RootedTables.{rooted}
use Rattle.cool_simulation.proofs.ground.DataHere.{prototypes_here}
use Rattle.cool_simulation.proofs.ground.MovedContents.{lies_less}

abbrev pub kind : Value → ℕ
kind Void = 0
kind (Int n) = 1
kind (Bool b) = 2
kind (Str bytes) = 3
kind (Obj c i ls) = 4

-- void has a tag that is none of Int, Bool and String
abbrev pub tag_of : World → List Class → Value → ℕ
tag_of w p Void = 1 + (w.tags.int + (w.tags.bool + w.tags.string))
tag_of w p (Int n) = w.tags.int
tag_of w p (Bool b) = w.tags.bool
tag_of w p (Str bytes) = w.tags.string
tag_of w p (Obj c i ls) = tag p c

abbrev pub number_of : Value → ℕ
number_of Void = 0
number_of (Int n) = word_of n
number_of (Bool b) = bit b
number_of (Str bytes) = 0
number_of (Obj c i ls) = 0

-- the bytes that are compared, where both are strings
abbrev pub first_bytes : Value → Value → List ℕ
first_bytes (Str xs) (Str ys) = xs
first_bytes _ _ = []

abbrev pub second_bytes : Value → Value → List ℕ
second_bytes (Str xs) (Str ys) = ys
second_bytes _ _ = []

-- values of different kinds are not the same
pub other_kinds : (v u : Value) → kind v ≢ kind u → same v u ≡ false
other_kinds Void Void h = absurd (h refl)
other_kinds Void (Int n) h = refl
other_kinds Void (Bool b) h = refl
other_kinds Void (Str bytes) h = refl
other_kinds Void (Obj c i ls) h = refl
other_kinds (Int n) Void h = refl
other_kinds (Int n) (Int m) h = absurd (h refl)
other_kinds (Int n) (Bool b) h = refl
other_kinds (Int n) (Str bytes) h = refl
other_kinds (Int n) (Obj c i ls) h = refl
other_kinds (Bool a) Void h = refl
other_kinds (Bool a) (Int n) h = refl
other_kinds (Bool a) (Bool b) h = absurd (h refl)
other_kinds (Bool a) (Str bytes) h = refl
other_kinds (Bool a) (Obj c i ls) h = refl
other_kinds (Str xs) Void h = refl
other_kinds (Str xs) (Int n) h = refl
other_kinds (Str xs) (Bool b) h = refl
other_kinds (Str xs) (Str ys) h = absurd (h refl)
other_kinds (Str xs) (Obj c i ls) h = refl
other_kinds (Obj c i ls) Void h = refl
other_kinds (Obj c i ls) (Int n) h = refl
other_kinds (Obj c i ls) (Bool b) h = refl
other_kinds (Obj c i ls) (Str bytes) h = refl
other_kinds (Obj c i ls) (Obj d j ks) h = absurd (h refl)

module _ (l : Loading) (loaded : IsLoaded l) (m : Bytes) (map : Map) (st : State) (gp sp : ℕ) (from : HEAP_START ≤ gp) (pictures : Pictures l.table l.world l.memory m map st gp sp) where
  protos : Prototypes l.world m gp
  protos = prototypes_here l loaded m map st gp sp from pictures

  -- a class from which others inherit has another tag than that of a basic class of values
  plain_tag : (c : ClassId) (n : ℕ) → c.0 < length l.table → n < 5 → c.0 ≢ n → tag l.table c ≢ tag l.table (class_number n)
  plain_tag c n within less other e =
      other (ap (λ (d : ClassId). d.0) ((are_tags l.table (rooted l.table loaded.buildable.typed.whole)).one c (class_number n) within (basic_within l.table loaded.buildable.typed n less) e))

  -- Tags show kinds

  pub int_kind : (v : Value) (a : ℕ) → Pic l.world m map st.drawn gp v a → tag_of l.world l.table v ≡ l.world.tags.int → kind v ≡ 1
  int_kind Void a pic e = absurd (omega arith)
  int_kind (Int n) a pic e = refl
  int_kind (Bool b) a pic e = absurd (protos.int_bool (sym e))
  int_kind (Str bytes) a pic e = absurd (protos.int_string (sym e))
  int_kind (Obj c i ls) a pic e =
      let at = pictures.objects i pic.1 in
      absurd (plain_tag (map.class i) 2 at.within (omega arith) at.plain.no_int (ap (tag l.table) (sym pic.2) ∙ (e ∙ ap (λ t. t.int) loaded.tags)))

  pub bool_kind : (v : Value) (a : ℕ) → Pic l.world m map st.drawn gp v a → tag_of l.world l.table v ≡ l.world.tags.bool → kind v ≡ 2
  bool_kind Void a pic e = absurd (omega arith)
  bool_kind (Int n) a pic e = absurd (protos.int_bool e)
  bool_kind (Bool b) a pic e = refl
  bool_kind (Str bytes) a pic e = absurd (protos.bool_string (sym e))
  bool_kind (Obj c i ls) a pic e =
      let at = pictures.objects i pic.1 in
      absurd (plain_tag (map.class i) 3 at.within (omega arith) at.plain.no_bool (ap (tag l.table) (sym pic.2) ∙ (e ∙ ap (λ t. t.bool) loaded.tags)))

  pub string_kind : (v : Value) (a : ℕ) → Pic l.world m map st.drawn gp v a → tag_of l.world l.table v ≡ l.world.tags.string → kind v ≡ 3
  string_kind Void a pic e = absurd (omega arith)
  string_kind (Int n) a pic e = absurd (protos.int_string e)
  string_kind (Bool b) a pic e = absurd (protos.bool_string e)
  string_kind (Str bytes) a pic e = refl
  string_kind (Obj c i ls) a pic e =
      let at = pictures.objects i pic.1 in
      absurd (plain_tag (map.class i) 4 at.within (omega arith) at.plain.no_string (ap (tag l.table) (sym pic.2) ∙ (e ∙ ap (λ t. t.string) loaded.tags)))

  -- The words at a value's address

  pub tagged : (v : Value) (a : ℕ) → Pic l.world m map st.drawn gp v a → (a ≡ 0 → ⊥) → Tagged l.world m gp a (tag_of l.world l.table v)
  tagged Void a pic some = absurd (some pic)
  tagged (Int n) a pic some = record { lies = lies_less l.world gp a 16 12 (omega arith) pic.0.lies; tag_is = pic.0.head.tag_is }
  tagged (Bool b) a pic some = record { lies = lies_less l.world gp a 16 12 (omega arith) pic.0.lies; tag_is = pic.0.head.tag_is }
  tagged (Str bytes) a pic some = record { lies = lies_less l.world gp a _ 12 (omega arith) pic.0.lies; tag_is = pic.0.head.tag_is }
  tagged (Obj c i ls) a pic some = subst (λ x. Tagged l.world m gp x (tag l.table c)) (sym pic.0) (by (pictures.objects i pic.1) pic.2)
    where
      by : ObjectStands l.table l.world m map gp i → c ≡ map.class i → Tagged l.world m gp (map.address i) (tag l.table c)
      by at e =
          let low = at.from in
          let high = at.to in
          record {
            lies = record { even = at.even; from = omega arith; to = omega arith; in_data = λ h. absurd (omega arith); in_heap = λ h. low };
            tag_is = at.head.tag_is ∙ ap (tag l.table) (sym e);
          }

  pub value_at : (v : Value) (a : ℕ) → Pic l.world m map st.drawn gp v a → (kind v ≡ 1) ⊎ (kind v ≡ 2) → ValueAt l.world m gp a (number_of v)
  value_at Void a pic h = absurd (omega arith)
  value_at (Int n) a pic h = record { lies = pic.0.lies; value = pic.0.value }
  value_at (Bool b) a pic h = record { lies = pic.0.lies; value = pic.0.value }
  value_at (Str bytes) a pic h = absurd (omega arith)
  value_at (Obj c i ls) a pic h = absurd (omega arith)

  -- a value that is not void has an address
  pub some_address : (v : Value) (a : ℕ) → Pic l.world m map st.drawn gp v a → kind v ≢ 0 → a ≢ 0
  some_address Void a pic other = absurd (other refl)
  some_address (Int n) a pic other = λ e. let low = pic.0.lies.from in omega arith
  some_address (Bool b) a pic other = λ e. let low = pic.0.lies.from in omega arith
  some_address (Str bytes) a pic other = λ e. let low = pic.0.lies.from in omega arith
  some_address (Obj c i ls) a pic other = λ e. let low = (pictures.objects i pic.1).from in let is = pic.0 in omega arith
