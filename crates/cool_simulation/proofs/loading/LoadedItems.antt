-- In a machine loaded with the image of valid assembly lines, each `.word` operand of the data is in memory at its address.
use Rattle.std.proofs.Common.{◌≡◌, ℕ, zero, suc, ◌+◌, ◌-◌, ◌*◌, ◌%◌, ◌<◌, ◌≤◌, List, [], ◌∷◌, ◌++◌, length, map, get_or, refl, sym, ap, ◌∙◌, subst, arith, false, Some, None, append_assoc}
use Rattle.std.specs.Prelude.{◌||◌, Contains, pos, negsuc}
use Rattle.std.specs.List.{AllByRecursion}
use Rattle.std.proofs.lemmas.Slice.Eq.{bytes_eq-Decides}
use Rattle.mips_isa.specs.declared.place.Segment.{Segment}
use Rattle.mips_isa.specs.declared.place.Segment.TheVariants.{Text, Data}
use Rattle.mips_isa.specs.declared.address_map.TheConstants.{DATA_START, HEAP_START}
use Rattle.mips_isa.specs.Bytes.{Bytes, word, bytes_of_image}
use Rattle.mips_isa.specs.Lines.{Name, Line, WordItem, Number, Address, ToData}
use Rattle.mips_isa.specs.Assembly.{Item, need, Position, start_position, up, after_line, place_in, place_from, place_of, next_item, item_or, address_or_zero, directive_line, item_bytes, item_value, first_pass, second_pass, image_of_all}
use Rattle.mips_asm.proofs.Assembled.{length_of_item}
use Rattle.cool_runtime.specs.Reaches.{World}
use Rattle.cool_runtime.specs.Images.{IsImageOf}
use Rattle.cool_runtime.specs.Instructions.{label}
use Rattle.cool_runtime.specs.LinesOfData.{words, object_words, object_lines}
use Rattle.cool_runtime.proofs.PlacesOfLabels.{placed_there, address_fits}
use Rattle.cool_runtime.proofs.LinesOfImages.{first_none}
use Rattle.cool_runtime.proofs.DataOfImages.{data_byte, has_item, WordsAt, ValuesFit, words_hold}
use Rattle.cool_emit.specs.SoundLines.{IsData, IsDataWord, AreData, labels_of, data_room, joined_lines}
use Rattle.cool_emit.proofs.RoomOfLines.{HasRoom}
use Rattle.cool_simulation.specs.Loadings.{item_word}
use Rattle.cool_simulation.proofs.loading.PartsOfLines.{Among, among_right, among_later}
use Rattle.cool_simulation.proofs.loading.LoadedImages.{data_over, bytes_grow, data_position, data_begin, all_split, data_bytes, few_bytes, faultless, is_image, HasImage}
use Rattle.mips_asm.specs.Passes.{after_lines}
use Rattle.mips_asm.proofs.FirstPasses.{after_both}

-- a property of all lines holds for those of a part
pub all_part : {X : Type 0} (P : X → Type 0) (front part back : List X) → AllByRecursion P (front ++ (part ++ back)) → AllByRecursion P part
all_part P [] [] back all = tt
all_part P [] (x ∷ part) back all = (all.0, all_part P [] part back all.1)
all_part P (x ∷ front) part back all = all_part P front part back all.1

-- the value of an item is its word
pub value_word : (w : World) (item : WordItem) → item_value w.place item ≡ item_word w item
value_word w (Number (pos n)) = refl
value_word w (Number (negsuc n)) = refl
value_word w (Address name) = refl

-- words one by one
pub nth_word : (w : World) (m : Bytes) (a k : ℕ) (list : List WordItem) → k < length list → WordsAt m w.place a list → word m (a + 4 * k) ≡ get_or (map (item_word w) list) k 0
nth_word w m a k [] less at = absurd (omega arith)
nth_word w m a zero (item ∷ list) less at = let e : a + 4 * 0 ≡ a = omega arith in ap (word m) e ∙ (at.0 ∙ value_word w item)
nth_word w m a (suc k) (item ∷ list) less at = let e : a + 4 * suc k ≡ a + 4 + 4 * k = omega arith in ap (word m) e ∙ nth_word w m (a + 4) k list (omega arith) at.1

in_data : (g : Segment) (q : Position) (n : Name) (line : Line) (rest : List Line) (unit size : ℕ) → g ≡ Data → need line.statement ≡ Item unit size
    → address_or_zero (Some (place_in g q (label n ∷ line ∷ rest))) ≡ DATA_START + up unit q.bytes
in_data Text q n line rest unit size g is = cc
in_data Data q n line rest unit size g is = ap (λ x. DATA_START + item_or x q (next_item (after_line line q) rest)) is

module _ (text items : List Line) (w : World) (g : HasImage text items w) where
  abbrev lines : List Line
  lines = joined_lines text items

  abbrev pub memory : Bytes
  memory = bytes_of_image (image_of_all (joined_lines text items))

  abbrev Known : Name → Type 0
  Known = Contains (labels_of (joined_lines text items))

  held : IsImageOf w (joined_lines text items)
  held = is_image text items g.sound w g.text_is g.place_is g.text_end

  -- the lines before a part, and where they end
  abbrev pub before : (part : List Line) → Among items part → List Line
  before part h = (text ++ directive_line ToData ∷ []) ++ h.front

  abbrev pub at_part : (part : List Line) → Among items part → Position
  at_part part h = after_lines start_position ((text ++ directive_line ToData ∷ []) ++ h.front)

  pub split_at : (part : List Line) (h : Among items part) → joined_lines text items ≡ before part h ++ (part ++ h.back)
  split_at part h =
      all_split text items g.sound ∙ (ap (λ (l : List Line). (text ++ directive_line ToData ∷ []) ++ l) h.split ∙ sym (append_assoc (text ++ directive_line ToData ∷ []) h.front (part ++ h.back)))

  at_front : (part : List Line) (h : Among items part) → at_part part h ≡ after_lines (data_position text items g.sound) h.front
  at_front part h = after_both start_position (text ++ directive_line ToData ∷ []) h.front

  pub at_right : (xs ys : List Line) (h : Among items (xs ++ ys)) → at_part ys (among_right items xs ys h) ≡ after_lines (at_part (xs ++ ys) h) xs
  at_right xs ys h = ap (after_lines start_position) (sym (append_assoc (text ++ directive_line ToData ∷ []) h.front xs)) ∙ after_both start_position (before (xs ++ ys) h) xs

  data_of : (part : List Line) (h : Among items part) → AreData Known part
  data_of part h = all_part (λ (line : Line). IsData Known line.statement) h.front part h.back (subst (AreData Known) h.split g.sound.data_lines)

  room_at : (part : List Line) (h : Among items part) → HasRoom (at_part part h) Data 0 (data_room (part ++ h.back))
  room_at part h =
      subst (λ (q : Position). HasRoom q Data 0 (data_room (part ++ h.back))) (sym (at_front part h))
      (data_over Known (data_position text items g.sound) h.front (part ++ h.back) 0 (subst (AreData Known) h.split g.sound.data_lines)
      (subst (λ (l : List Line). HasRoom (data_position text items g.sound) Data 0 (data_room l)) h.split (data_begin text items g.sound)))

  pub segment_at : (part : List Line) (h : Among items part) → (at_part part h).segment ≡ Data
  segment_at part h = (room_at part h).in_segment

  -- a part ends before the data end
  pub ends_within : (part : List Line) (h : Among items part) → (after_lines (at_part part h) part).bytes ≤ length (image_of_all (joined_lines text items)).bytes
  ends_within part h =
      let e : after_lines start_position (joined_lines text items) ≡ after_lines (after_lines (at_part part h) part) h.back =
      ap (after_lines start_position) (split_at part h) ∙ (after_both start_position (before part h) (part ++ h.back) ∙ after_both (at_part part h) part h.back) in
      let all : length (image_of_all (joined_lines text items)).bytes ≡ (after_lines start_position (joined_lines text items)).bytes = data_bytes text items g.sound in
      let same : (after_lines start_position (joined_lines text items)).bytes ≡ (after_lines (after_lines (at_part part h) part) h.back).bytes = ap (λ (q : Position). q.bytes) e in
      let grow = bytes_grow (after_lines (at_part part h) part) h.back in
      omega arith

  -- the place of a label before an item
  pub label_there : (n : Name) (line : Line) (rest : List Line) (unit size : ℕ) (h : Among items (label n ∷ line ∷ rest)) → need line.statement ≡ Item unit size
      → w.place n ≡ DATA_START + up unit (at_part (label n ∷ line ∷ rest) h).bytes
  label_there n line rest unit size h is =
      let part : List Line = label n ∷ line ∷ rest in
      let first : first_pass [] start_position 1 lines ≡ None = (first_none (first_pass [] start_position 1 lines) (second_pass (place_of lines) start_position 1 lines) (faultless text items g.sound)).0 in
      let fine : first_pass [] start_position 1 (before part h ++ (part ++ h.back)) ≡ None = ap (first_pass [] start_position 1) (sym (split_at part h)) ∙ first in
      ap (λ f. f n) g.place_is ∙ ap (λ ls. address_or_zero (place_from start_position ls n)) (split_at part h)
      ∙ ap address_or_zero (placed_there [] start_position 1 (before part h) (label n) (line ∷ (rest ++ h.back)) n fine (ap (λ t. t || false) ((bytes_eq-Decides n n).1 refl)))
      ∙ in_data (at_part part h).segment (at_part part h) n line (rest ++ h.back) unit size (room_at part h).in_segment is

  -- every address has 32 bits
  pub place_fits : (n : Name) → w.place n < 4294967296
  place_fits n =
      let first : first_pass [] start_position 1 lines ≡ None = (first_none (first_pass [] start_position 1 lines) (second_pass (place_of lines) start_position 1 lines) (faultless text items g.sound)).0 in
      subst (λ a. a < 4294967296) (sym (ap (λ f. f n) g.place_is)) (address_fits [] start_position 1 lines n (record { words_fit = omega arith; bytes_fit = omega arith }) first)

  -- the bytes of an item
  pub item_there : (line : Line) (rest : List Line) (unit size : ℕ) (h : Among items (line ∷ rest)) → need line.statement ≡ Item unit size
      → up unit (at_part (line ∷ rest) h).bytes + length (item_bytes w.place line.statement) ≤ length (image_of_all (joined_lines text items)).bytes
      → (i : ℕ) → i < length (item_bytes w.place line.statement) → memory (DATA_START + up unit (at_part (line ∷ rest) h).bytes + i) ≡ get_or (item_bytes w.place line.statement) i 0
  item_there line rest unit size h is fits i less =
      let few = few_bytes text items g.sound in
      let o : ℕ = up unit (at_part (line ∷ rest) h).bytes in
      let at : DATA_START + o + i ≡ DATA_START + (o + i) = omega arith in
      ap memory at ∙ data_byte (image_of_all (joined_lines text items)) (o + i) (omega arith)
      ∙ (has_item w (joined_lines text items) held (before (line ∷ rest) h) line (rest ++ h.back) unit size (split_at (line ∷ rest) h) (room_at (line ∷ rest) h).in_segment is).1 i less

  -- the words of a line

  values_fit : (list : List WordItem) → AllByRecursion (IsDataWord Known) list → ValuesFit w.place list
  values_fit [] all = tt
  values_fit (Number (pos n) ∷ list) all = (all.0, values_fit list all.1)
  values_fit (Number (negsuc n) ∷ list) all = (omega arith, values_fit list all.1)
  values_fit (Address name ∷ list) all = (place_fits name, values_fit list all.1)

  -- words stand at an address, within the data
  pub record HasWords (a : ℕ) (list : List WordItem) : Type 0 where
    pub even : a % 4 ≡ 0
    pub from : DATA_START ≤ a
    pub to : a + 4 * length list ≤ w.segments.data_end
    pub low : a + 4 * length list ≤ HEAP_START
    pub at : WordsAt memory w.place a list
    pub fit : ValuesFit w.place list

  pub words_there : (list : List WordItem) (rest : List Line) (h : Among items (words list ∷ rest)) → HasWords (DATA_START + up 4 (at_part (words list ∷ rest) h).bytes) list
  words_there list rest h =
      let q : Position = at_part (words list ∷ rest) h in
      let end = ends_within (words list ∷ rest) h in
      let grow = bytes_grow (after_line (words list) q) rest in
      let few = few_bytes text items g.sound in
      let data_end = g.data_end in
      let long : length (item_bytes w.place (words list).statement) ≡ 4 * length list = length_of_item w.place (words list).statement in
      let fit : ValuesFit w.place list = values_fit list (data_of (words list ∷ rest) h).0 in
      record {
        even = omega arith;
        from = omega arith;
        to = omega arith;
        low = omega arith;
        at = words_hold memory w.place (DATA_START + up 4 q.bytes) list fit (item_there (words list) rest 4 (4 * length list) h refl (omega arith));
        fit = fit;
      }

  -- words under a label before them
  pub labelled_words : (n : Name) (list : List WordItem) (rest : List Line) → Among items (label n ∷ words list ∷ rest) → HasWords (w.place n) list
  labelled_words n list rest h =
      let part : List Line = label n ∷ words list ∷ rest in
      let k : Among items (words list ∷ rest) = among_later items (label n) (words list ∷ rest) h in
      let same : (at_part (words list ∷ rest) k).bytes ≡ (at_part part h).bytes = ap (λ (q : Position). q.bytes) (at_right (label n ∷ []) (words list ∷ rest) h) in
      let place : w.place n ≡ DATA_START + up 4 (at_part part h).bytes = label_there n (words list) rest 4 (4 * length list) h refl in
      subst (λ a. HasWords a list) (ap (λ b. DATA_START + up 4 b) same ∙ sym place) (words_there list rest k)

  -- an object under its label, after the word -1
  pub record HasObject (name : Name) (list : List WordItem) : Type 0 where
    pub own : HasWords (w.place name) list
    pub from : 268435460 ≤ w.place name
    pub mark : word memory (w.place name - 4) ≡ 4294967295

  pub object_there : (name : Name) (tag size : ℕ) (table : Name) (fields : List WordItem) → Among items (object_lines name tag size table fields) → HasObject name (object_words tag size table fields)
  object_there name tag size table fields h =
      let list : List WordItem = object_words tag size table fields in
      let rest : List Line = label name ∷ words list ∷ [] in
      let front : HasWords (DATA_START + up 4 (at_part (object_lines name tag size table fields) h).bytes) (Number (negsuc 0) ∷ []) = words_there (Number (negsuc 0) ∷ []) rest h in
      let k : Among items rest = among_later items (words (Number (negsuc 0) ∷ [])) rest h in
      let same : (at_part rest k).bytes ≡ up 4 (at_part (object_lines name tag size table fields) h).bytes + 4 = ap (λ (q : Position). q.bytes) (at_right (words (Number (negsuc 0) ∷ []) ∷ []) rest h) in
      let place : w.place name ≡ DATA_START + up 4 (at_part rest k).bytes = label_there name (words list) [] 4 (4 * length list) k refl in
      let at : w.place name - 4 ≡ DATA_START + up 4 (at_part (object_lines name tag size table fields) h).bytes = omega arith in
      record { own = labelled_words name list [] k; from = omega arith; mark = ap (word memory) at ∙ front.at.0 }
