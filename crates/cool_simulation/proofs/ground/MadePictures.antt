-- The objects that run-time routines make on the heap represent the Int, Bool and String values that the semantics specifies.
use Rattle.std.proofs.Common.{◌≡◌, ℕ, ◌+◌, ◌*◌, ◌/◌, ◌%◌, ◌<◌, ◌≤◌, inl, List, [], ◌∷◌, ◌++◌, length, get_or, Bool as Truth, true, refl, sym, ap, ◌∙◌, subst, arith}
use Rattle.std.specs.Prelude.{ℤ, pos, negsuc, take, drop}
use Rattle.mips_isa.specs.declared.address_map.TheConstants.{HEAP_START}
use Rattle.mips_isa.specs.Bytes.{Bytes, word, set_word}
use Rattle.cool_classes.specs.Chains.{Class}
use Rattle.cool_runtime.specs.Reaches.{World}
use Rattle.cool_runtime.specs.Contents.{IntAt, BoolAt, StringAt, ObjectAt, IsText, Same, words_of_bytes}
use Rattle.cool_runtime.specs.Labels.{int_table, bool_table, int_prototype, string_prototype}
use Rattle.cool_runtime.specs.Machines.{with_head, with_int, with_string_head, with_string, with_text, with_joined, with_cut, with_copy, copied_bytes}
use Rattle.cool_runtime.proofs.Words.{byte_other, word_same, word_other, word_equal}
use Rattle.cool_runtime.proofs.Objects.{made_int, made_int_same}
use Rattle.cool_runtime.proofs.MadeStrings.{bytes_other}
use Rattle.cool_runtime.proofs.JoinedStrings.{joined_string}
use Rattle.cool_runtime.proofs.Cutting.{cut_string}
use Rattle.cool_runtime.proofs.ReadingStrings.{read_string}
use Rattle.cool_runtime.proofs.CopiedObjects.{copied_word, copied_object, copied_int, copied_string, copy_same}
use Rattle.cool_meaning.specs.Values.{Value, Int, Bool, Str, State}
use Rattle.cool_meaning.specs.Numbers.{fits, word_of}
use Rattle.cool_simulation.specs.Pictures.{Map, Pic, Pictures, bit, Unmarked}

-- a number that fits has a word of 32 bits
pub fits_word : (n : ℤ) → fits n ≡ true → word_of n < 4294967296
fits_word (pos n) fit = grind arith
fits_word (negsuc n) fit = omega arith

-- the result of a routine: the heap grew to gp', the value is at an address, all else is the same
pub record Made (w : World) (m m' : Bytes) (map : Map) (drawn gp gp' sp : ℕ) (v : Value) (a : ℕ) : Type 0 where
  pub value : Pic w m' map drawn gp' v a
  pub same : Same m m' gp sp

module _ (w : World) where
  -- between heap and stack nothing is marked
  pub fresh_unmarked : (p : List Class) (loaded m : Bytes) (map : Map) (st : State) (gp sp a size : ℕ) → Pictures p w loaded m map st gp sp → gp % 4 ≡ 0 → gp + 4 ≤ a → a + size ≤ sp → Unmarked map.marked a size
  fresh_unmarked p loaded m map st gp sp a size at even from to =
      λ q low high. at.unmarked_room (q / 4) (omega arith) (omega arith)

  -- an Int, a Bool and a String that were made there
  pub made_number : (p : List Class) (loaded m m' : Bytes) (map : Map) (st : State) (gp gp' sp a : ℕ) (n : ℤ) → Pictures p w loaded m map st gp sp → gp % 4 ≡ 0 → gp + 4 ≤ a → gp' ≤ sp → fits n ≡ true
      → IntAt w m' gp' a (word_of n) → Pic w m' map st.drawn gp' (Int n) a
  made_number p loaded m m' map st gp gp' sp a n at even from room fit int =
      let lies = int.lies in
      let to = lies.to in
      (int, fit, fresh_unmarked p loaded m map st gp sp a 16 at even from (omega arith))

  pub made_text : (p : List Class) (loaded m m' : Bytes) (map : Map) (st : State) (gp gp' sp a : ℕ) (bytes : List ℕ) → Pictures p w loaded m map st gp sp → gp % 4 ≡ 0 → gp + 4 ≤ a → gp + 4 ≤ word m' (a + 12) → gp' ≤ sp
      → StringAt w m' gp' a bytes → Pic w m' map st.drawn gp' (Str bytes) a
  made_text p loaded m m' map st gp gp' sp a bytes at even from from' room string =
      let to = string.lies.to in
      let to' = string.length_is.lies.to in
      (string, fresh_unmarked p loaded m map st gp sp a _ at even from (omega arith), fresh_unmarked p loaded m map st gp sp (word m' (a + 12)) 16 at even from' (omega arith))

  -- the pointer from the String's head to its length
  head_pointer : (m : Bytes) (gp n : ℕ) → gp < 2147483648 → word (with_string_head w m gp n) (gp + 24 + 12) ≡ gp + 4
  unfolding with_head
  head_pointer m gp n small =
      let here : gp + 24 + 12 ≡ gp + 20 + 16 = omega arith in
      ap (word (with_string_head w m gp n)) here ∙ word_same _ (gp + 20 + 16) (gp + 4) (omega arith)

  near_pointer : (m m' : Bytes) (gp n : ℕ) → ((q : ℕ) → q < gp + 40 → m' q ≡ with_string_head w m gp n q) → gp < 2147483648 → word m' (gp + 24 + 12) ≡ gp + 4
  near_pointer m m' gp n near small = word_equal (with_string_head w m gp n) m' (gp + 24 + 12) (λ q low high. near q (omega arith)) ∙ head_pointer m gp n small

  pointer_low : (gp a : ℕ) → a ≡ gp + 4 → gp + 4 ≤ a
  pointer_low gp a e = omega arith

  copied_third : (m : Bytes) (gp a size : ℕ) → 4 ≤ size → a + 4 * size ≤ gp → word m (a + 12) < 4294967296 → word (with_copy m gp a size) (gp + 4 + 12) ≡ word m (a + 12)
  copied_third m gp a size some apart fits =
      let m1 = set_word m gp 4294967295 in
      let on : a + 12 ≡ a + 4 * 3 = omega arith in
      let at_g : gp + 4 + 12 ≡ gp + 4 + 4 * 3 = omega arith in
      let same : word m1 (a + 4 * 3) ≡ word m (a + 12) = word_other m gp (a + 4 * 3) 4294967295 (inl (omega arith)) ∙ ap (word m) (sym on) in
      ap (word (with_copy m gp a size)) at_g ∙ copied_word m1 a (gp + 4) size 3 (omega arith) (omega arith) (subst (λ v. v < 4294967296) (sym same) fits) ∙ same

  -- the copy of a Bool
  copied_bool : (m : Bytes) (gp a v : ℕ) → 536870912 ≤ gp → gp % 4 ≡ 0 → BoolAt w m gp a v → BoolAt w (with_copy m gp a 4) (gp + 20) (gp + 4) v
  copied_bool m gp a v from even at =
      let bit_is = at.bit in
      let zero_is : a + 12 + 4 * 0 ≡ a + 12 = omega arith in
      let there : gp + 4 + 12 + 4 * 0 ≡ gp + 4 + 12 = omega arith in
      let object : ObjectAt w m gp a w.tags.bool 4 (w.place bool_table) (v ∷ []) = record {
        lies = at.lies;
        head = at.head;
        fits = at.head_fits;
        long = refl;
        attributes = λ k h. let first : k ≡ 0 = omega arith in subst (λ j. word m (a + 12 + 4 * j) ≡ get_or (v ∷ []) j 0) (sym first) (ap (word m) zero_is ∙ at.value);
        words_fit = λ k h. let first : k ≡ 0 = omega arith in subst (λ j. get_or (v ∷ []) j 0 < 4294967296) (sym first) (omega arith);
      } in
      let copy = copied_object w m gp a w.tags.bool 4 (w.place bool_table) (v ∷ []) from even object in
      let lies = copy.lies in
      record { lies = omega arith; head = copy.head; head_fits = copy.fits; value = ap (word (with_copy m gp a 4)) (sym there) ∙ copy.attributes 0 (omega arith); bit = at.bit }

  -- the numbers that `in_int` and the operators make
  pub number_made : (p : List Class) (loaded m : Bytes) (map : Map) (st : State) (gp sp a : ℕ) (n : ℤ) → HEAP_START ≤ gp → gp % 4 ≡ 0 → gp + 20 ≤ sp → Pictures p w loaded m map st gp sp → fits n ≡ true
      → IntAt w m gp a 0 → Made w m (with_int m gp w.tags.int (w.place int_table) (word_of n)) map st.drawn gp (gp + 20) sp (Int n) (gp + 4)
  number_made p loaded m map st gp sp a n from even room at fit proto =
      record {
        value = made_number p loaded m (with_int m gp w.tags.int (w.place int_table) (word_of n)) map st gp (gp + 20) sp (gp + 4) n at even (omega arith) room fit (made_int w m gp a (word_of n) from even (fits_word n fit) proto);
        same = made_int_same w m gp sp w.tags.int (w.place int_table) (word_of n) room;
      }

  -- the strings that `in_string`, `concat` and `substr` make
  pub text_read : (p : List Class) (loaded m : Bytes) (map : Map) (st : State) (gp sp : ℕ) (bytes other : List ℕ) → HEAP_START ≤ gp → gp < 2147483648 → gp % 4 ≡ 0 → gp + 44 + 4 * (length bytes / 4) ≤ sp
      → Pictures p w loaded m map st gp sp → IntAt w m gp (w.place int_prototype) 0 → StringAt w m gp (w.place string_prototype) other → IsText bytes → length bytes < 1073741824
      → Made w m (with_string_head w (with_text m gp bytes) gp (length bytes)) map st.drawn gp (gp + 44 + 4 * (length bytes / 4)) sp (Str bytes) (gp + 24)
  text_read p loaded m map st gp sp bytes other from small even room at int string text few =
      let made = read_string w m gp sp bytes other from small even int string text room few in
      let n = length bytes in
      let m' = with_string_head w (with_text m gp bytes) gp n in
      record {
        value = made_text p loaded m m' map st gp (gp + 44 + 4 * (n / 4)) sp (gp + 24) bytes at even (omega arith) (pointer_low gp (word m' (gp + 24 + 12)) (head_pointer (with_text m gp bytes) gp n (omega arith))) room made.0;
        same = made.1;
      }

  pub text_joined : (p : List Class) (loaded m : Bytes) (map : Map) (st : State) (gp sp a b : ℕ) (xs ys other : List ℕ) → HEAP_START ≤ gp → gp < 2147483648 → gp % 4 ≡ 0
      → gp + 44 + 4 * ((length xs + length ys) / 4) ≤ sp → Pictures p w loaded m map st gp sp → IntAt w m gp (w.place int_prototype) 0 → StringAt w m gp (w.place string_prototype) other
      → StringAt w m gp a xs → StringAt w m gp b ys → length xs + length ys < 1073741824
      → Made w m (with_joined w m gp a b (length xs) (length ys)) map st.drawn gp (gp + 44 + 4 * ((length xs + length ys) / 4)) sp (Str (xs ++ ys)) (gp + 24)
  text_joined p loaded m map st gp sp a b xs ys other from small even room at int string first second few =
      let made = joined_string w m gp sp a b xs ys other from small even first second int string room few in
      let n = length xs + length ys in
      let m' = with_joined w m gp a b (length xs) (length ys) in
      let m2 = with_string w m gp n in
      let m3 = copied_bytes m2 (a + 16) (gp + 40) (length xs) in
      let near : (q : ℕ) → q < gp + 40 → m' q ≡ with_string_head w m gp n q = λ q h.
      bytes_other m3 (b + 16) (gp + 40 + length xs) (length ys) q (inl (omega arith)) ∙ bytes_other m2 (a + 16) (gp + 40) (length xs) q (inl h)
      ∙ byte_other (with_string_head w m gp n) (gp + 40 + 4 * (n / 4)) 0 q (inl (omega arith)) in
      record {
        value = made_text p loaded m m' map st gp (gp + 44 + 4 * (n / 4)) sp (gp + 24) (xs ++ ys) at even (omega arith) (pointer_low gp (word m' (gp + 24 + 12)) (near_pointer m m' gp n near (omega arith))) room made.0;
        same = made.1;
      }

  pub text_cut : (p : List Class) (loaded m : Bytes) (map : Map) (st : State) (gp sp a i l : ℕ) (xs other : List ℕ) → HEAP_START ≤ gp → gp < 2147483648 → gp % 4 ≡ 0
      → gp + 44 + 4 * (l / 4) ≤ sp → Pictures p w loaded m map st gp sp → IntAt w m gp (w.place int_prototype) 0 → StringAt w m gp (w.place string_prototype) other
      → StringAt w m gp a xs → i + l ≤ length xs → l < 1073741824
      → Made w m (with_cut w m gp a i l) map st.drawn gp (gp + 44 + 4 * (l / 4)) sp (Str (take l (drop i xs))) (gp + 24)
  text_cut p loaded m map st gp sp a i l xs other from small even room at int string whole within few =
      let made = cut_string w m gp sp a xs other i l from small even whole int string within room few in
      let m' = with_cut w m gp a i l in
      let m2 = with_string w m gp l in
      let near : (q : ℕ) → q < gp + 40 → m' q ≡ with_string_head w m gp l q = λ q h.
      bytes_other m2 (a + 16 + i) (gp + 40) l q (inl h) ∙ byte_other (with_string_head w m gp l) (gp + 40 + 4 * (l / 4)) 0 q (inl (omega arith)) in
      record {
        value = made_text p loaded m m' map st gp (gp + 44 + 4 * (l / 4)) sp (gp + 24) (take l (drop i xs)) at even (omega arith) (pointer_low gp (word m' (gp + 24 + 12)) (near_pointer m m' gp l near (omega arith))) room made.0;
        same = made.1;
      }

  -- the copies that `copy` makes of an Int, a Bool and a String
  pub number_copied : (p : List Class) (loaded m : Bytes) (map : Map) (st : State) (gp sp a : ℕ) (n : ℤ) → HEAP_START ≤ gp → gp % 4 ≡ 0 → gp + 20 ≤ sp → Pictures p w loaded m map st gp sp
      → Pic w m map st.drawn gp (Int n) a → Made w m (with_copy m gp a 4) map st.drawn gp (gp + 20) sp (Int n) (gp + 4)
  number_copied p loaded m map st gp sp a n from even room at pic =
      record {
        value = made_number p loaded m (with_copy m gp a 4) map st gp (gp + 20) sp (gp + 4) n at even (omega arith) room pic.1 (copied_int w m gp a (word_of n) from even pic.0);
        same = copy_same w m gp sp a 4 (omega arith);
      }

  pub truth_copied : (p : List Class) (loaded m : Bytes) (map : Map) (st : State) (gp sp a : ℕ) (b : Truth) → HEAP_START ≤ gp → gp % 4 ≡ 0 → gp + 20 ≤ sp → Pictures p w loaded m map st gp sp
      → Pic w m map st.drawn gp (Bool b) a → Made w m (with_copy m gp a 4) map st.drawn gp (gp + 20) sp (Bool b) (gp + 4)
  truth_copied p loaded m map st gp sp a b from even room at pic =
      record {
        value = (copied_bool m gp a (bit b) from even pic.0, fresh_unmarked p loaded m map st gp sp (gp + 4) 16 at even (omega arith) (omega arith));
        same = copy_same w m gp sp a 4 (omega arith);
      }

  pub text_copied : (p : List Class) (loaded m : Bytes) (map : Map) (st : State) (gp sp a : ℕ) (bytes : List ℕ) → HEAP_START ≤ gp → gp < 2147483648 → gp % 4 ≡ 0
      → let size = 4 + words_of_bytes (length bytes) in gp + 4 * size + 4 ≤ sp → Pictures p w loaded m map st gp sp → Pic w m map st.drawn gp (Str bytes) a
      → Made w m (with_copy m gp a size) map st.drawn gp (gp + 4 * size + 4) sp (Str bytes) (gp + 4)
  text_copied p loaded m map st gp sp a bytes from small even room at pic =
      let n = words_of_bytes (length bytes) in
      let size = 4 + n in
      let m' = with_copy m gp a size in
      let string = pic.0 in
      let made = copied_string w m gp sp a bytes from even (omega arith) string room in
      let lies = string.lies in
      let fits_in : word m (a + 12) < 4294967296 = let to = string.length_is.lies.to in omega arith in
      let third : word m' (gp + 4 + 12) ≡ word m (a + 12) = copied_third m gp a size (omega arith) (omega arith) fits_in in
      record {
        value = (made, fresh_unmarked p loaded m map st gp sp (gp + 4) _ at even (omega arith) (omega arith), subst (λ b. Unmarked map.marked b 16) (sym third) pic.2);
        same = copy_same w m gp sp a size room;
      }
