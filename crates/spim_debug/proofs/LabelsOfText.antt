-- If a label of an assembly program has an address in the text segment, this is the address of a machine word of the assembled program.
use Rattle.std.proofs.Common.{◌≡◌, refl, arith, ℕ, ◌+◌, ◌*◌, ◌<◌, Bool, true, false, List, [], ◌∷◌, length}
use Rattle.std.specs.Prelude.{if◌then◌else◌, nat_lt, ◌&&◌, Option, Some, None, IfSome}
use Rattle.std.proofs.lemmas.Bool.{ltb-true}
use Rattle.mips_isa.specs.declared.address_map.TheConstants.{TEXT_START}
use Rattle.mips_isa.specs.declared.place.Segment.{Segment}
use Rattle.mips_isa.specs.declared.place.Segment.TheVariants.{Text, Data}
use Rattle.mips_isa.specs.declared.place.Place.{Place}
use Rattle.mips_isa.specs.Lines.{Name, Line}
use Rattle.mips_isa.specs.Assembly.{Position, start_position, after_line, place_in, place_from, place_of, has, is_text, completed, image_of}
use Rattle.mips_asm.specs.TextLabels.{address_before, text_label}
use Rattle.spim_debug.specs.Debugging.{IsTextAddress}
use Rattle.spim_debug.proofs.CommandsForText.{NamesWords}

-- A place in text is some words after its start.
abbrev IsAfterWords : Place → Type 0
IsAfterWords place = is_text place.segment ≡ true → (words : ℕ) × (place.address ≡ TEXT_START + 4 * words)

place_after : (segment : Segment) (p : Position) (rows : List Line) → IsAfterWords (place_in segment p rows)
place_after Text p rows h = (p.words, refl)
place_after Data p rows h = absurd (cc)

-- the place of a name
found_or : (b : Bool) (place : Place) (o : Option Place) → IsAfterWords place → IfSome o IsAfterWords → IfSome (if b then Some place else o) IsAfterWords
found_or true place o h k = h
found_or false place o h k = k

name_after : (p : Position) (rows : List Line) (name : Name) → IfSome (place_from p rows name) IsAfterWords
name_after p [] name = tt
name_after p (row ∷ rows) name =
    found_or (has row.labels name) (place_in p.segment p (row ∷ rows)) (place_from (after_line row p) rows name) (place_after p.segment p (row ∷ rows)) (name_after (after_line row p) rows name)

-- before the text's end it is the address of a word
word_before : (text : List ℕ) (o : Option Place) → IfSome o IsAfterWords → IfSome (address_before (TEXT_START + 4 * length text) o) (IsTextAddress text)
word_before text None h = tt
word_before text (Some place) h = by (is_text place.segment) (nat_lt place.address (TEXT_START + 4 * length text)) refl refl
  where
    by : (t : Bool) (b : Bool) → is_text place.segment ≡ t → nat_lt place.address (TEXT_START + 4 * length text) ≡ b
        → IfSome (if t && b then Some place.address else None) (IsTextAddress text)
    by false b e l = tt
    by true false e l = tt
    by true true e l =
        let at = h e in
        let below : place.address < TEXT_START + 4 * length text = ltb-true place.address (TEXT_START + 4 * length text) l in
        let address : place.address ≡ TEXT_START + 4 * at.0 = at.1 in
        record { index = at.0; within = omega arith; address = address }

pub labels_name_words : (rows : List Line) → NamesWords (image_of rows).text (text_label rows)
labels_name_words rows name = word_before (image_of rows).text (place_of (completed rows) name) (name_after start_position (completed rows) name)
