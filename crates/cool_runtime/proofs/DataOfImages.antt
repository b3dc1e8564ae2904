-- Each line of data in an assembly program without errors is in the data segment of its assembled image (its bytes in memory), at the address of its labels.
use Rattle.std.proofs.Common.{◌≡◌, ℕ, suc, ◌+◌, ◌-◌, ◌*◌, ◌/◌, ◌%◌, ◌<◌, ◌≤◌, List, [], ◌∷◌, ◌++◌, length, replicate, get_or, refl, sym, ap, ◌∙◌, subst, arith, true, false, Some, None, append_assoc, length-append}
use Rattle.std.specs.Prelude.{nat_lt}
use Rattle.std.proofs.lemmas.List.{length-replicate, get_or-append-add, get_or_append_left}
use Rattle.mips_isa.specs.declared.place.Segment.{Segment}
use Rattle.mips_isa.specs.declared.place.Segment.TheVariants.{Text, Data}
use Rattle.mips_isa.specs.ImageBounds.{ImageParts}
use Rattle.mips_isa.specs.declared.address_map.TheConstants.{DATA_START, HEAP_START}
use Rattle.mips_isa.specs.Bytes.{Bytes, word, bytes_of_image}
use Rattle.mips_isa.specs.Lines.{Name, Line, WordItem, Statement, Word}
use Rattle.mips_isa.specs.Assembly.{Need, Nothing, Words, Item, Switch, Padding, need, Position, start_position, after_need, after_line, padded, padding, padding_to, up, first_pass, second_pass, image_of_all, place_from, place_in, place_of, next_item, item_or, address_or_zero, bytes_from, bytes_of_data, item_bytes, item_value}
use Rattle.mips_asm.proofs.Assembled.{length_of_item, bytes_needed, HasUnit, unit_of, up_from}
use Rattle.cool_runtime.specs.Reaches.{World}
use Rattle.cool_runtime.specs.Standing.{PlacedAt}
use Rattle.cool_runtime.specs.Images.{IsImageOf}
use Rattle.cool_runtime.proofs.PlacesOfLabels.{placed_there}
use Rattle.cool_runtime.proofs.LinesOfImages.{placed_all, first_none}
use Rattle.mips_asm.specs.Passes.{after_lines}

-- the bytes of lines, in parts

pub bytes_split : (address : Name → ℕ) (p : Position) (front back : List Line) → bytes_from address p (front ++ back) ≡ bytes_from address p front ++ bytes_from address (after_lines p front) back
bytes_split address p [] back = refl
bytes_split address p (line ∷ front) back =
    let zeros : List ℕ = replicate (padding (need line.statement) p) 0 in
    let item : List ℕ = item_bytes address line.statement in
    ap (λ l. zeros ++ (item ++ l)) (bytes_split address (after_line line p) front back)
    ∙ ap (λ l. zeros ++ l) (sym (append_assoc item (bytes_from address (after_line line p) front) _))
    ∙ sym (append_assoc zeros (item ++ bytes_from address (after_line line p) front) _)

pub bytes_after : (n : Need) (p : Position) → HasUnit n → p.bytes + (padding n p + bytes_needed n) ≡ (after_need n p).bytes
bytes_after Nothing p unit = omega arith
bytes_after (Words n) p unit = omega arith
bytes_after (Item unit size) p some = let h = up_from unit p.bytes some in omega arith
bytes_after (Switch segment) p unit = omega arith
bytes_after (Padding unit) p some = by p.segment
  where
    by : (g : Segment) → p.bytes + (padding_to g unit p.bytes + 0) ≡ (padded g unit p).bytes
    by Text = omega arith
    by Data = let h = up_from unit p.bytes some in omega arith

pub bytes_length : (address : Name → ℕ) (p : Position) (front : List Line) → p.bytes + length (bytes_from address p front) ≡ (after_lines p front).bytes
bytes_length address p [] = omega arith
bytes_length address p (line ∷ front) =
    let n = need line.statement in
    let zeros : List ℕ = replicate (padding n p) 0 in
    let item : List ℕ = item_bytes address line.statement in
    let rest : List ℕ = bytes_from address (after_line line p) front in
    let a : length (bytes_from address p (line ∷ front)) ≡ length zeros + length (item ++ rest) = length-append zeros (item ++ rest) in
    let b : length zeros ≡ padding n p = length-replicate (padding n p) 0 in
    let c : length (item ++ rest) ≡ length item + length rest = length-append item rest in
    let d : length item ≡ bytes_needed n = length_of_item address line.statement in
    let e : p.bytes + (padding n p + bytes_needed n) ≡ (after_line line p).bytes = bytes_after n p (unit_of line.statement) in
    let f : (after_line line p).bytes + length rest ≡ (after_lines p (line ∷ front)).bytes = bytes_length address (after_line line p) front in
    omega arith

place_in_data : (g : Segment) (p : Position) (line : Line) (rest : List Line) (unit size : ℕ) → g ≡ Data → need line.statement ≡ Item unit size
    → address_or_zero (Some (place_in g p (line ∷ rest))) ≡ DATA_START + up unit p.bytes
place_in_data Text p line rest unit size segment is = cc
place_in_data Data p line rest unit size segment is = ap (λ n. DATA_START + item_or n p (next_item (after_line line p) rest)) is

-- the data of an image in memory
pub data_byte : (image : ImageParts) (k : ℕ) → k < 268435456 → bytes_of_image image (DATA_START + k) ≡ get_or image.bytes k 0
data_byte image k low =
    let text : nat_lt (DATA_START + k) DATA_START ≡ false = grind arith in
    let data' : nat_lt (DATA_START + k) HEAP_START ≡ true = grind arith in
    let at : DATA_START + k - DATA_START ≡ k = omega arith in
    rw (text, data', at) refl

module _ (w : World) (all : List Line) (image : IsImageOf w all) where
  -- an item of data stands at its place, under its labels
  pub has_item : (front : List Line) (line : Line) (rest : List Line) (unit size : ℕ) → all ≡ front ++ line ∷ rest → (after_lines start_position front).segment ≡ Data
      → need line.statement ≡ Item unit size
      → PlacedAt w (DATA_START + up unit (after_lines start_position front).bytes) line.labels
      × ((i : ℕ) → i < length (item_bytes w.place line.statement)
      → get_or (image_of_all all).bytes (up unit (after_lines start_position front).bytes + i) 0 ≡ get_or (item_bytes w.place line.statement) i 0)
  has_item front line rest unit size split segment is =
      let address : Name → ℕ = λ name. address_or_zero (place_of all name) in
      let q : Position = after_lines start_position front in
      let s : Statement = line.statement in
      let first : first_pass [] start_position 1 all ≡ None = (first_none (first_pass [] start_position 1 all) (second_pass (place_of all) start_position 1 all) image.faultless).0 in
      let fine : first_pass [] start_position 1 (front ++ line ∷ rest) ≡ None = ap (first_pass [] start_position 1) (sym split) ∙ first in
      let before : List ℕ = bytes_from address start_position front in
      let zeros : List ℕ = replicate (padding (need s) q) 0 in
      let item : List ℕ = item_bytes address s in
      let after : List ℕ = bytes_from address (after_line line q) rest in
      let bytes : (image_of_all all).bytes ≡ before ++ (zeros ++ (item ++ after)) = ap (bytes_from address start_position) split ∙ bytes_split address start_position front (line ∷ rest) in
      let long : length before ≡ q.bytes = (let h = bytes_length address start_position front in omega arith) in
      let gap : length zeros ≡ up unit q.bytes - q.bytes = length-replicate (padding (need s) q) 0 ∙ ap (λ n. padding n q) is in
      let some : 1 ≤ unit = subst HasUnit is (unit_of s) in
      let over = up_from unit q.bytes some in
      let place_at : (l : Name) → w.place l ≡ address l = λ l. ap (λ f. f l) image.place_is in
      let read : (i : ℕ) → i < length item → get_or (image_of_all all).bytes (up unit q.bytes + i) 0 ≡ get_or item i 0 =
      λ i h.
      let at : up unit q.bytes + i ≡ length before + (length zeros + i) = omega arith in
      ap (λ l. get_or l (up unit q.bytes + i) 0) bytes ∙ ap (λ k. get_or (before ++ (zeros ++ (item ++ after))) k 0) at
      ∙ get_or-append-add before (zeros ++ (item ++ after)) (length zeros + i) 0 ∙ get_or-append-add zeros (item ++ after) i 0 ∙ get_or_append_left item after 0 i h in (
        placed_all w (DATA_START + up unit q.bytes) line.labels
            (λ l h. place_at l ∙ ap (λ lines. address_or_zero (place_from start_position lines l)) split ∙ ap address_or_zero (placed_there [] start_position 1 front line rest l fine h)
            ∙ place_in_data q.segment q line rest unit size segment is),
        subst (λ f. (i : ℕ) → i < length (item_bytes f s) → get_or (image_of_all all).bytes (up unit q.bytes + i) 0 ≡ get_or (item_bytes f s) i 0) (sym image.place_is) read,
      )

-- the words of `.word` stand from an address on
abbrev pub WordsAt : Bytes → (Name → ℕ) → ℕ → List WordItem → Type 0
WordsAt m address a [] = Unit {0}
WordsAt m address a (item ∷ rest) = (word m a ≡ item_value address item) × WordsAt m address (a + 4) rest

abbrev pub ValuesFit : (Name → ℕ) → List WordItem → Type 0
ValuesFit address [] = Unit {0}
ValuesFit address (item ∷ rest) = (item_value address item < 4294967296) × ValuesFit address rest

word_of_bytes : (m : Bytes) (a v : ℕ) → v < 4294967296 → m a ≡ v % 256 → m (a + 1) ≡ v / 256 % 256 → m (a + 2) ≡ v / 65536 % 256 → m (a + 3) ≡ v / 16777216 % 256 → word m a ≡ v
unfolding word
word_of_bytes m a v fits a0 a1 a2 a3 = rw (a0, a1, a2, a3) (let sum : v % 256 + 256 * (v / 256 % 256) + 65536 * (v / 65536 % 256) + 16777216 * (v / 16777216 % 256) ≡ v = omega arith in sum)

pub words_hold : (m : Bytes) (address : Name → ℕ) (a : ℕ) (list : List WordItem) → ValuesFit address list
    → ((i : ℕ) → i < length (bytes_of_data address (Word list)) → m (a + i) ≡ get_or (bytes_of_data address (Word list)) i 0) → WordsAt m address a list
words_hold m address a [] fits bytes = tt
words_hold m address a (item ∷ rest) fits bytes =
    let v = item_value address item in
    let more = bytes_of_data address (Word rest) in
    let z : a + 0 ≡ a = omega arith in (
      word_of_bytes m a v fits.0 (ap m (sym z) ∙ bytes 0 (omega arith)) (bytes 1 (omega arith)) (bytes 2 (omega arith)) (bytes 3 (omega arith)),
      words_hold m address (a + 4) rest fits.1 (λ i h. let at : a + 4 + i ≡ a + suc (suc (suc (suc i))) = omega arith in ap m at ∙ bytes (suc (suc (suc (suc i)))) (omega arith)),
    )
