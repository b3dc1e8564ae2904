-- In a machine loaded with the image of valid assembly lines, the String objects and zero-terminated texts of the data are in memory under their labels.
use Rattle.std.proofs.Common.{◌≡◌, ℕ, zero, suc, ◌+◌, ◌-◌, ◌*◌, ◌<◌, ◌≤◌, List, [], ◌∷◌, ◌++◌, length, map, replicate, get_or, refl, sym, ap, ◌∙◌, subst, arith, append_assoc, length-append}
use Rattle.std.specs.Prelude.{pos, negsuc}
use Rattle.std.proofs.Math.Seq.{get_or-append_seam}
use Rattle.std.proofs.lemmas.List.{length-map, get_or-append-add, get_or_append_left}
use Rattle.mips_isa.specs.declared.place.Segment.{Segment}
use Rattle.mips_isa.specs.declared.place.Segment.TheVariants.{Text, Data}
use Rattle.mips_isa.specs.declared.address_map.TheConstants.{DATA_START, HEAP_START}
use Rattle.mips_isa.specs.Bytes.{Bytes, word}
use Rattle.mips_isa.specs.Lines.{Name, Line, WordItem, Number, Address, Asciiz, Align}
use Rattle.mips_isa.specs.Assembly.{Position, start_position, up, padded, padding_to, after_line, data_line, directive_line, bytes_from, image_of_all}
use Rattle.cool_runtime.specs.Reaches.{World}
use Rattle.cool_runtime.specs.Instructions.{label}
use Rattle.cool_runtime.specs.Labels.{int_table, bool_table, string_table}
use Rattle.cool_runtime.specs.LinesOfData.{words, object_words, object_lines, int_lines, bool_lines, string_head_lines, string_lines}
use Rattle.cool_runtime.specs.Contents.{Lies, HeadAt, HeadFits, IntAt, BoolAt, StringAt, ObjectAt, TextAt, IsText, words_of_bytes}
use Rattle.cool_runtime.proofs.DataOfImages.{data_byte, WordsAt, ValuesFit, bytes_length, bytes_split}
use Rattle.cool_emit.specs.SoundLines.{joined_lines}
use Rattle.cool_simulation.specs.Loadings.{item_word}
use Rattle.cool_simulation.proofs.loading.PartsOfLines.{Among, among_left, among_right}
use Rattle.cool_simulation.proofs.loading.LoadedImages.{HasImage, bytes_grow, few_bytes}
use Rattle.cool_simulation.proofs.loading.LoadedItems.{nth_word, memory, before, at_part, at_right, split_at, value_word, segment_at, ends_within, label_there, place_fits, item_there, HasObject, object_there}
use Rattle.mips_asm.specs.Passes.{after_lines}

-- bytes and zeros after them

zeros_get : (n i : ℕ) → get_or {A = ℕ} (replicate n 0 ++ []) i 0 ≡ 0
zeros_get zero i = refl
zeros_get (suc n) zero = refl
zeros_get (suc n) (suc i) = zeros_get n i

more_zeros : (n i : ℕ) → get_or {A = ℕ} (0 ∷ (replicate n 0 ++ [])) i 0 ≡ 0
more_zeros n zero = refl
more_zeros n (suc i) = zeros_get n i

tail_get : (bytes zeros : List ℕ) → ((i : ℕ) → get_or zeros i 0 ≡ 0) → (i : ℕ) → get_or (bytes ++ zeros) i 0 ≡ get_or bytes i 0
tail_get [] zeros none i = none i
tail_get (b ∷ bytes) zeros none zero = refl
tail_get (b ∷ bytes) zeros none (suc i) = tail_get bytes zeros none i

padded_get : (a n : ℕ) (bytes : List ℕ) (i : ℕ) → a ≡ 0 → get_or (replicate a 0 ++ ((bytes ++ 0 ∷ []) ++ (replicate n 0 ++ []))) i 0 ≡ get_or bytes i 0
padded_get zero n bytes i e = ap (λ l. get_or l i 0) (append_assoc bytes (0 ∷ []) (replicate n 0 ++ [])) ∙ tail_get bytes (0 ∷ (replicate n 0 ++ [])) (more_zeros n) i
padded_get (suc a) n bytes i e = absurd (omega arith)

padded_data : (g : Segment) (unit : ℕ) (p : Position) → g ≡ Data → (padded g unit p).bytes ≡ up unit p.bytes
padded_data Text unit p e = cc
padded_data Data unit p e = refl

module _ (text items : List Line) (w : World) (g : HasImage text items w) where
  abbrev pub stored : Bytes
  stored = memory text items w g

  -- the bytes of a part
  bytes_there : (part : List Line) (h : Among items part) (i : ℕ) → i < length (bytes_from w.place (at_part text items w g part h) part)
      → stored (DATA_START + ((at_part text items w g part h).bytes + i)) ≡ get_or (bytes_from w.place (at_part text items w g part h) part) i 0
  bytes_there part h i less =
      let q : Position = at_part text items w g part h in
      let front : List Line = before text items w g part h in
      let first : List ℕ = bytes_from w.place start_position front in
      let own : List ℕ = bytes_from w.place q part in
      let more : List ℕ = bytes_from w.place (after_lines q part) h.back in
      let end = ends_within text items w g part h in
      let few = few_bytes text items g.sound in
      let long : length first ≡ q.bytes = (let k = bytes_length w.place start_position front in omega arith) in
      let size = bytes_length w.place q part in
      let all : (image_of_all (joined_lines text items)).bytes ≡ first ++ (own ++ more) =
      ap (λ f. bytes_from f start_position (joined_lines text items)) (sym g.place_is) ∙ ap (bytes_from w.place start_position) (split_at text items w g part h)
      ∙ bytes_split w.place start_position front (part ++ h.back) ∙ ap (λ l. first ++ l) (bytes_split w.place q part h.back) in
      let at : q.bytes + i ≡ length first + i = omega arith in
      data_byte (image_of_all (joined_lines text items)) (q.bytes + i) (omega arith)
      ∙ ap (λ l. get_or l (q.bytes + i) 0) all ∙ ap (λ k. get_or (first ++ (own ++ more)) k 0) at
      ∙ get_or-append-add first (own ++ more) i 0 ∙ get_or_append_left own more 0 i less

  -- a text up to a zero, under its label
  pub text_there : (n : Name) (bytes : List ℕ) (rest : List Line) → IsText bytes → Among items (label n ∷ data_line (Asciiz bytes) ∷ rest) → TextAt w stored (w.place n) bytes
  text_there n bytes rest is h =
      let part : List Line = label n ∷ data_line (Asciiz bytes) ∷ rest in
      let k : Among items (data_line (Asciiz bytes) ∷ rest) = among_right items (label n ∷ []) (data_line (Asciiz bytes) ∷ rest) h in
      let q : Position = at_part text items w g (data_line (Asciiz bytes) ∷ rest) k in
      let same : q.bytes ≡ (at_part text items w g part h).bytes = ap (λ (p : Position). p.bytes) (at_right text items w g (label n ∷ []) (data_line (Asciiz bytes) ∷ rest) h) in
      let place : w.place n ≡ DATA_START + up 1 (at_part text items w g part h).bytes = label_there text items w g n (data_line (Asciiz bytes)) rest 1 (length bytes + 1) h refl in
      let end = ends_within text items w g (data_line (Asciiz bytes) ∷ rest) k in
      let grow = bytes_grow (after_line (data_line (Asciiz bytes)) q) rest in
      let few = few_bytes text items g.sound in
      let data_end = g.data_end in
      let long : length (bytes ++ 0 ∷ []) ≡ length bytes + 1 = length-append bytes (0 ∷ []) in
      let read = item_there text items w g (data_line (Asciiz bytes)) rest 1 (length bytes + 1) k refl (omega arith) in
      record {
        from = omega arith;
        to = omega arith;
        holds = λ i less. let at : w.place n + i ≡ DATA_START + up 1 q.bytes + i = omega arith in ap stored at ∙ read i (omega arith) ∙ get_or_append_left bytes (0 ∷ []) 0 i less;
        ends = (let at : w.place n + length bytes ≡ DATA_START + up 1 q.bytes + length bytes = omega arith in ap stored at ∙ read (length bytes) (omega arith) ∙ get_or-append_seam bytes 0 [] 0);
        text = is;
      }

  pub fits_nth : (k : ℕ) (list : List WordItem) → k < length list → ValuesFit w.place list → get_or (map (item_word w) list) k 0 < 4294967296
  fits_nth k [] less fit = absurd (omega arith)
  fits_nth zero (item ∷ list) less fit = subst (λ v. v < 4294967296) (value_word w item) fit.0
  fits_nth (suc k) (item ∷ list) less fit = fits_nth k list (omega arith) fit.1

  -- the addresses of an object
  pub lies_there : (name : Name) (tag size : ℕ) (table : Name) (fields : List WordItem) → size ≡ 3 + length fields → HasObject text items w g name (object_words tag size table fields) → Lies w HEAP_START (w.place name) (4 * size)
  lies_there name tag size table fields long o =
      let to = o.own.to in
      let low = o.own.low in
      record { even = o.own.even; from = o.from; to = omega arith; in_data = λ less. omega arith; in_heap = λ le. absurd (omega arith) }

  -- its head
  pub head_there : (name : Name) (tag size : ℕ) (table : Name) (fields : List WordItem) → HasObject text items w g name (object_words tag size table fields) → HeadAt stored (w.place name) tag size (w.place table)
  head_there name tag size table fields o =
      let e : w.place name + 8 ≡ w.place name + 4 + 4 = omega arith in
      record { mark = o.mark; tag_is = o.own.at.0; size_is = o.own.at.1.0; table_is = ap (word stored) e ∙ o.own.at.1.1.0 }

  pub head_fits : (name : Name) (tag size : ℕ) (table : Name) (fields : List WordItem) → size ≡ 3 + length fields → HasObject text items w g name (object_words tag size table fields) → HeadFits tag size (w.place table)
  head_fits name tag size table fields long o = let low = o.own.low in record { tag_fits = o.own.fit.0; size_fits = omega arith; table_fits = place_fits text items w g table }

  -- its fields
  pub fields_there : (name : Name) (tag size : ℕ) (table : Name) (fields : List WordItem) (k : ℕ) → k < length fields → HasObject text items w g name (object_words tag size table fields)
      → word stored (w.place name + 12 + 4 * k) ≡ get_or (map (item_word w) fields) k 0
  fields_there name tag size table fields k less o =
      let e : w.place name + 4 + 4 + 4 ≡ w.place name + 12 = omega arith in
      nth_word w stored (w.place name + 12) k fields less (subst (λ a. WordsAt stored w.place a fields) e o.own.at.1.1.1)

  -- an object of any class
  pub object_at : (name : Name) (tag : ℕ) (table : Name) (fields : List WordItem) → Among items (object_lines name tag (3 + length fields) table fields)
      → ObjectAt w stored HEAP_START (w.place name) tag (3 + length fields) (w.place table) (map (item_word w) fields)
  object_at name tag table fields h =
      let size : ℕ = 3 + length fields in
      let o : HasObject text items w g name (object_words tag size table fields) = object_there text items w g name tag size table fields h in
      let many : length (map (item_word w) fields) ≡ length fields = length-map fields (item_word w) in
      record {
        lies = lies_there name tag size table fields refl o;
        head = head_there name tag size table fields o;
        fits = head_fits name tag size table fields refl o;
        long = ap (λ n. 3 + n) (sym many);
        attributes = λ k less. fields_there name tag size table fields k (omega arith) o;
        words_fit = λ k less. fits_nth k fields (omega arith) o.own.fit.1.1.1;
      }

  -- an Int, and a Bool
  pub int_at : (name : Name) (tag v : ℕ) → w.tags.int ≡ tag → Among items (int_lines name tag v) → IntAt w stored HEAP_START (w.place name) v
  int_at name tag v is h =
      let fields : List WordItem = Number (pos v) ∷ [] in
      let o : HasObject text items w g name (object_words tag 4 int_table fields) = object_there text items w g name tag 4 int_table fields h in
      let z : w.place name + 12 ≡ w.place name + 12 + 4 * 0 = omega arith in
      record {
        lies = lies_there name tag 4 int_table fields refl o;
        head = subst (λ t. HeadAt stored (w.place name) t 4 (w.place int_table)) (sym is) (head_there name tag 4 int_table fields o);
        head_fits = subst (λ t. HeadFits t 4 (w.place int_table)) (sym is) (head_fits name tag 4 int_table fields refl o);
        value = ap (word stored) z ∙ fields_there name tag 4 int_table fields 0 (omega arith) o;
        fits = o.own.fit.1.1.1.0;
      }

  pub bool_at : (name : Name) (tag v : ℕ) → w.tags.bool ≡ tag → v ≤ 1 → Among items (bool_lines name tag v) → BoolAt w stored HEAP_START (w.place name) v
  bool_at name tag v is bit h =
      let fields : List WordItem = Number (pos v) ∷ [] in
      let o : HasObject text items w g name (object_words tag 4 bool_table fields) = object_there text items w g name tag 4 bool_table fields h in
      let z : w.place name + 12 ≡ w.place name + 12 + 4 * 0 = omega arith in
      record {
        lies = lies_there name tag 4 bool_table fields refl o;
        head = subst (λ t. HeadAt stored (w.place name) t 4 (w.place bool_table)) (sym is) (head_there name tag 4 bool_table fields o);
        head_fits = subst (λ t. HeadFits t 4 (w.place bool_table)) (sym is) (head_fits name tag 4 bool_table fields refl o);
        value = ap (word stored) z ∙ fields_there name tag 4 bool_table fields 0 (omega arith) o;
        bit = bit;
      }

  -- the place of an object, by the position before its lines
  place_of_object : (name : Name) (tag size : ℕ) (table : Name) (fields : List WordItem) (rest : List Line) (h : Among items (object_lines name tag size table fields ++ rest))
      → w.place name ≡ DATA_START + up 4 (up 4 (at_part text items w g (object_lines name tag size table fields ++ rest) h).bytes + 4)
  place_of_object name tag size table fields rest h =
      let list : List WordItem = object_words tag size table fields in
      let first : List Line = words (Number (negsuc 0) ∷ []) ∷ [] in
      let more : List Line = label name ∷ words list ∷ rest in
      let k : Among items more = among_right items first more h in
      let same : (at_part text items w g more k).bytes ≡ up 4 (at_part text items w g (first ++ more) h).bytes + 4 = ap (λ (p : Position). p.bytes) (at_right text items w g first more h) in
      label_there text items w g name (words list) rest 4 (4 * length list) k refl ∙ ap (λ b. DATA_START + up 4 b) same

  -- a String
  pub string_at : (name length_name : Name) (of_int of_string : ℕ) (bytes : List ℕ) → w.tags.int ≡ of_int → w.tags.string ≡ of_string → IsText bytes
      → Among items (string_lines name length_name of_int of_string bytes) → StringAt w stored HEAP_START (w.place name) bytes
  string_at name length_name of_int of_string bytes int_is string_is is h =
      let size : ℕ = 4 + words_of_bytes (length bytes) in
      let fields : List WordItem = Address length_name ∷ [] in
      let list : List WordItem = object_words of_string size string_table fields in
      let head : List Line = string_head_lines name length_name of_string size in
      let tail : List Line = data_line (Asciiz bytes) ∷ directive_line (Align 2) ∷ [] in
      let own : List Line = int_lines length_name of_int (length bytes) in
      let h1 : Among items (head ++ tail) = among_right items own (head ++ tail) h in
      let h2 : Among items tail = among_right items head tail h1 in
      let o : HasObject text items w g name list = object_there text items w g name of_string size string_table fields (among_left items head tail h1) in
      let q : Position = at_part text items w g tail h2 in
      let place : w.place name ≡ DATA_START + up 4 (up 4 (at_part text items w g (head ++ tail) h1).bytes + 4) = place_of_object name of_string size string_table fields tail h1 in
      let here : q.bytes ≡ up 4 (up 4 (at_part text items w g (head ++ tail) h1).bytes + 4) + 16 = ap (λ (p : Position). p.bytes) (at_right text items w g head tail h1) in
      let end = ends_within text items w g tail h2 in
      let few = few_bytes text items g.sound in
      let data_end = g.data_end in
      let over : (after_lines q tail).bytes ≡ up 4 (up 1 q.bytes + (length bytes + 1)) = padded_data q.segment 4 (after_line (data_line (Asciiz bytes)) q) (segment_at text items w g tail h2) in
      let long = bytes_length w.place q tail in
      let whole : w.place name + 4 * size ≤ DATA_START + length (image_of_all (joined_lines text items)).bytes = omega arith in
      let none : up 1 q.bytes - q.bytes ≡ 0 = omega arith in
      let string_head : HeadAt stored (w.place name) of_string size (w.place string_table) = head_there name of_string size string_table fields o in
      let e12 : w.place name + 12 ≡ w.place name + 12 + 4 * 0 = omega arith in
      let length_at : word stored (w.place name + 12) ≡ w.place length_name = ap (word stored) e12 ∙ fields_there name of_string size string_table fields 0 (omega arith) o in
      record {
        lies = record { even = o.own.even; from = o.from; to = omega arith; in_data = λ less. omega arith; in_heap = λ le. absurd (omega arith) };
        head = subst (λ t. HeadAt stored (w.place name) t size (w.place string_table)) (sym string_is) string_head;
        head_fits = record { tag_fits = subst (λ t. t < 4294967296) (sym string_is) o.own.fit.0; size_fits = omega arith; table_fits = place_fits text items w g string_table };
        length_is = subst (λ a. IntAt w stored HEAP_START a (length bytes)) (sym length_at) (int_at length_name of_int (length bytes) int_is (among_left items own (head ++ tail) h));
        holds = λ i less. let at : w.place name + 16 + i ≡ DATA_START + (q.bytes + i) = omega arith in ap stored at ∙ bytes_there tail h2 i (omega arith) ∙ padded_get (up 1 q.bytes - q.bytes) (padding_to q.segment 4 (up 1 q.bytes + (length bytes + 1))) bytes i none;
        text = is;
      }
