-- If assembly lines satisfy the conditions for assembling, their image has segments within the limits, and a machine loaded with it holds these lines.
use Rattle.std.proofs.Common.{◌≡◌, ℕ, ◌+◌, ◌*◌, ◌/◌, ◌≤◌, List, [], ◌∷◌, ◌++◌, length, refl, sym, ap, ◌∙◌, subst, arith, None}
use Rattle.std.specs.Prelude.{Contains, is_some}
use Rattle.mips_isa.specs.declared.place.Segment.TheVariants.{Text, Data}
use Rattle.mips_isa.specs.declared.address_map.TheConstants.{DATA_START, MOST_DATA_BYTES, TEXT_START}
use Rattle.mips_isa.specs.Bytes.{segments_of}
use Rattle.mips_isa.specs.Lines.{Name, Line, ToData}
use Rattle.mips_isa.specs.Assembly.{need, Position, start_position, after_line, place_of, address_or_zero, directive_line, completed, fault_of_all, image_of, image_of_all}
use Rattle.cool_runtime.specs.Reaches.{World, AreLaid}
use Rattle.cool_runtime.specs.Images.{IsImageOf}
use Rattle.cool_emit.specs.SoundLines.{MOST_TEXT_WORDS, AreText, AreData, labels_of, text_room, data_room, joined_lines, AreSound}
use Rattle.cool_emit.proofs.RoomOfLines.{HasRoom, needs_text, needs_data, after_text, after_data, in_data}
use Rattle.cool_emit.proofs.SoundLinesAssemble.{no_fault, in_range, start_found, complete}
use Rattle.cool_simulation.specs.Accord.{Limits, AreLimits}
use Rattle.mips_asm.specs.Passes.{after_lines}
use Rattle.mips_asm.proofs.FirstPasses.{after_both}
use Rattle.cool_runtime.proofs.LinesOfImages.{text_length}
use Rattle.cool_runtime.proofs.DataOfImages.{bytes_length}

-- the ends of text and data

text_over : (target known : Name → Type 0) (p : Position) (text : List Line) (more bytes : ℕ) → AreText target known text → HasRoom p Text (text_room text + more) bytes → HasRoom (after_lines p text) Text more bytes
text_over target known p [] more bytes all room = let w = room.words_left in record { in_segment = room.in_segment; words_left = omega arith; bytes_left = room.bytes_left }
text_over target known p (line ∷ text) more bytes all room =
    text_over target known (after_line line p) text more bytes all.1
    (after_text (need line.statement) p (text_room text + more) bytes (needs_text target known line.statement all.0)
    (let w = room.words_left in record { in_segment = room.in_segment; words_left = omega arith; bytes_left = room.bytes_left }))

-- after a part of data
pub data_over : (known : Name → Type 0) (p : Position) (front back : List Line) (words : ℕ) → AreData known (front ++ back) → HasRoom p Data words (data_room (front ++ back)) → HasRoom (after_lines p front) Data words (data_room back)
data_over known p [] back words all room = room
data_over known p (line ∷ front) back words all room =
    data_over known (after_line line p) front back words all.1 (after_data (need line.statement) p words (data_room (front ++ back)) (needs_data known line.statement all.0) room)

-- the lengths of text and data

-- data only grow
pub bytes_grow : (p : Position) (lines : List Line) → p.bytes ≤ (after_lines p lines).bytes
bytes_grow p lines = let h = bytes_length (λ name. 0) p lines in omega arith

-- the lines with which a run starts are complete

module _ (text items : List Line) (sound : AreSound text items) where
  abbrev pub all_lines : List Line
  all_lines = joined_lines text items

  pub are_complete : completed (joined_lines text items) ≡ joined_lines text items
  are_complete = complete all_lines (ap is_some (start_found text items sound.main sound.behind sound.starts))

  pub image_is : image_of (joined_lines text items) ≡ image_of_all (joined_lines text items)
  image_is = ap image_of_all are_complete

  -- the positions at the end of the text, at the first item, and at the end
  abbrev pub data_position : Position
  data_position = after_lines start_position (text ++ directive_line ToData ∷ [])

  text_end : HasRoom (after_lines start_position text) Text 0 (data_room items)
  text_end =
      let words = sound.text_fits in
      let bytes = sound.data_fits in
      text_over (Contains (labels_of text)) (Contains (labels_of all_lines)) start_position text 0 (data_room items) sound.text_lines
      (record { in_segment = refl; words_left = omega arith; bytes_left = omega arith })

  pub data_begin : HasRoom data_position Data 0 (data_room items)
  data_begin =
      subst (λ (q : Position). HasRoom q Data 0 (data_room items)) (sym (after_both start_position text (directive_line ToData ∷ [])))
      (in_data (after_lines start_position text) 0 (data_room items) text_end)

  pub all_split : joined_lines text items ≡ (text ++ directive_line ToData ∷ []) ++ items
  all_split = sym (by text)
    where
      by : (xs : List Line) → (xs ++ directive_line ToData ∷ []) ++ items ≡ xs ++ directive_line ToData ∷ items
      by [] = refl
      by (x ∷ xs) = ap (λ (l : List Line). x ∷ l) (by xs)

  pub end_is : after_lines start_position (joined_lines text items) ≡ after_lines data_position items
  end_is = ap (after_lines start_position) all_split ∙ after_both start_position (text ++ directive_line ToData ∷ []) items

  all_nil : (xs : List Line) → xs ++ [] ≡ xs
  all_nil [] = refl
  all_nil (x ∷ xs) = ap (λ (l : List Line). x ∷ l) (all_nil xs)

  data_end : HasRoom (after_lines start_position all_lines) Data 0 0
  data_end =
      let e : items ++ [] ≡ items = all_nil items in
      subst (λ (q : Position). HasRoom q Data 0 0) (sym end_is)
      (data_over (Contains (labels_of all_lines)) data_position items [] 0 (subst (AreData (Contains (labels_of all_lines))) (sym e) sound.data_lines)
      (subst (λ (l : List Line). HasRoom data_position Data 0 (data_room l)) (sym e) data_begin))

  pub text_words : length (image_of_all (joined_lines text items)).text ≤ MOST_TEXT_WORDS
  text_words =
      let h = text_length (λ name. address_or_zero (place_of all_lines name)) start_position all_lines in
      let room = data_end.words_left in
      omega arith

  pub data_bytes : length (image_of_all (joined_lines text items)).bytes ≡ (after_lines start_position (joined_lines text items)).bytes
  data_bytes = let h = bytes_length (λ name. address_or_zero (place_of all_lines name)) start_position all_lines in omega arith

  pub few_bytes : length (image_of_all (joined_lines text items)).bytes ≤ MOST_DATA_BYTES
  few_bytes = let h = data_bytes in let room = data_end.bytes_left in omega arith

  -- the segments of a machine with this image
  pub are_laid : (limits : Limits) → AreLimits limits → AreLaid (segments_of (image_of_all (joined_lines text items)) limits.heap limits.stack)
  are_laid limits h =
      let words = text_words in
      let bytes = few_bytes in
      record {
        text = omega (arith, h);
        data_to = omega (arith, h);
        heap_from = omega (arith, h);
        heap_to = omega (arith, h);
        stack_from = omega (arith, h);
        stack_to = omega (arith, h);
        heap_even = omega (arith, h);
        stack_even = omega (arith, h);
      }

  pub faultless : fault_of_all (joined_lines text items) ≡ None
  faultless = ap fault_of_all (sym are_complete) ∙ no_fault text items sound

  -- a world of this image is an image of these lines
  pub is_image : (w : World) → w.text ≡ (image_of_all (joined_lines text items)).text → w.place ≡ (λ name. address_or_zero (place_of (joined_lines text items) name))
      → w.segments.text_end ≡ TEXT_START + 4 * length w.text → IsImageOf w (joined_lines text items)
  is_image w text_is place_is end =
      let few = text_words in
      let same : length w.text ≡ length (image_of_all (joined_lines text items)).text = ap length text_is in
      record { faultless = faultless; ranges = in_range text items sound; text_is = text_is; place_is = place_is; end_is = end; room = omega arith }

-- a world has the image of sound lines
pub record HasImage (text items : List Line) (w : World) : Type 0 where
  pub sound : AreSound text items
  pub text_is : w.text ≡ (image_of_all (joined_lines text items)).text
  pub place_is : w.place ≡ (λ name. address_or_zero (place_of (joined_lines text items) name))
  pub text_end : w.segments.text_end ≡ TEXT_START + 4 * length w.text
  pub data_end : w.segments.data_end ≡ DATA_START + (length (image_of_all (joined_lines text items)).bytes + 3) / 4 * 4
