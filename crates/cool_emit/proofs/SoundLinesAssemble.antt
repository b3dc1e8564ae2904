-- Assembly lines that satisfy `AreSound` (registers, numbers and labels are valid) assemble without error.
use Rattle.std.proofs.Common.{◌≡◌, ℕ, zero, suc, ◌+◌, ◌*◌, ◌<◌, ◌≤◌, List, [], ◌∷◌, ◌++◌, length, refl, sym, ap, ◌∙◌}
use Rattle.std.proofs.Common.{subst, arith, Bool, true, false, not, ◌||◌, ◌&&◌, Option, Some, None, length-append}
use Rattle.std.specs.Prelude.{if◌then◌else◌, Contains, bytes_eq, is_some}
use Rattle.std.specs.List.{AllByRecursion}
use Rattle.std.proofs.lemmas.Bool.{lt-ltb}
use Rattle.std.proofs.lemmas.List.Folds.{list_any-append}
use Rattle.mips_isa.specs.declared.asm_fault.AsmKind.{AsmKind}
use Rattle.mips_isa.specs.declared.asm_fault.AsmKind.TheVariants.{A5, A6, A7, A8, A9}
use Rattle.mips_isa.specs.declared.asm_fault.AsmFault.{AsmFault}
use Rattle.mips_isa.specs.declared.place.Place.{Place}
use Rattle.mips_isa.specs.declared.place.Segment.{Segment}
use Rattle.mips_isa.specs.declared.place.Segment.TheVariants.{Text, Data}
use Rattle.mips_isa.specs.declared.address_map.TheConstants.{TEXT_START}
use Rattle.mips_isa.specs.Lines as statements
use Rattle.mips_isa.specs.Lines.{Name, WordItem, Number, Address, Plain, ToJump, La, Li}
use Rattle.mips_isa.specs.Lines.{Move, Word, Asciiz, ToData, Align, Statement, Empty}
use Rattle.mips_isa.specs.Lines.{Instruction, Directive, Line, IsItem, IsInRange, AreInRange}
use Rattle.mips_isa.specs.Assembly.{Need, Nothing, Words, Item, Switch, Padding, need, Position, start_position}
use Rattle.mips_isa.specs.Assembly.{after_line, place_in, place_from, place_of, has, in_text, start_name, main_name}
use Rattle.mips_isa.specs.Assembly.{directive_line, added_lines, completed, is_wrong, any_twice, is_too_large}
use Rattle.mips_isa.specs.Assembly.{fault_or, first_pass, names_of_items, used, jump_reaches, reaches}
use Rattle.mips_isa.specs.Assembly.{any_without_place, start_fault, second_pass, first_or, fault_of_all, fault_of}
use Rattle.cool_runtime.specs.Instructions.{label, la}
use Rattle.cool_emit.specs.SoundLines.{IsText, IsDataWord, IsData, AreText, AreData, labels_of, text_need}
use Rattle.cool_emit.specs.SoundLines.{text_room, data_need, data_room, joined_lines, AreSound}
use Rattle.cool_runtime.proofs.PlacesOfLabels.{words_grow}
use Rattle.cool_emit.proofs.LabelsSeenOnce.{AreNew, found_among, left_once, nothing_seen}
use Rattle.cool_emit.proofs.RoomOfLines.{HasRoom, StandWell, needs_text, after_text, lines_stand}
use Rattle.mips_asm.specs.Passes.{after_lines}
use Rattle.lists.specs.Different.{AreDifferent}
use Rattle.lists.proofs.AllItems.{all_append, all_then}

-- The first pass

-- if no test finds a fault, there is none
no_first_fault : (a b c : Bool) → a ≡ false → b ≡ false → c ≡ false
    → (if a then Some A8 else (if b then Some A5 else (if c then Some A9 else None))) ≡ None
no_first_fault true b c h k l = cc
no_first_fault false true c h k l = cc
no_first_fault false false true h k l = cc
no_first_fault false false false h k l = refl

-- lines that stand well and whose labels are different have no fault in the first pass
first_passes : (seen : List Name) (p : Position) (number : ℕ) (lines : List Line) → StandWell p lines
    → AreNew seen (labels_of lines) → AreDifferent (labels_of lines) → first_pass seen p number lines ≡ None
first_passes seen p number [] well new apart = refl
first_passes seen p number (line ∷ rest) well new apart =
    let left = left_once seen line.labels (labels_of rest) new apart in
    ap (λ (o : Option AsmKind). fault_or number o (first_pass (seen ++ line.labels) (after_line line p) (suc number) rest))
    (no_first_fault (is_wrong (need line.statement) p.segment) (any_twice seen line.labels)
    (is_too_large (after_line line p)) well.0 left.once well.1)
    ∙ first_passes (seen ++ line.labels) (after_line line p) (suc number) rest well.2 left.new left.different

-- The places of names

-- a name among the labels that is not on the first line is on one after it

one_of : (a b : Bool) → (a || b) ≡ true → (a ≡ false → b ≡ true)
one_of true b h e = cc
one_of false b h e = h

has_label : (line : Line) (rest : List Line) (name : Name) → has (labels_of (line ∷ rest)) name ≡ true → has line.labels name ≡ false
    → has (labels_of rest) name ≡ true
has_label line rest name there not_here =
    one_of (has line.labels name) (has (labels_of rest) name)
    (sym (list_any-append (bytes_eq name) line.labels (labels_of rest)) ∙ there) not_here

-- a label of lines has a place
has_place : (p : Position) (lines : List Line) (name : Name) → has (labels_of lines) name ≡ true → is_some (place_from p lines name) ≡ true
has_place p [] name there = there
has_place p (line ∷ rest) name there =
    by (has line.labels name) (λ e. has_place (after_line line p) rest name (has_label line rest name there e))
  where
    by : (b : Bool) → (b ≡ false → is_some (place_from (after_line line p) rest name) ≡ true)
        → is_some (if b then Some (place_in p.segment p (line ∷ rest)) else place_from (after_line line p) rest name) ≡ true
    by true more = refl
    by false more = more refl

-- a label of text has a place in text that a jump reaches
has_target : (target known : Name → Type 0) (p : Position) (text back : List Line) (bytes : ℕ) (name : Name) → AreText target known text
    → HasRoom p Text (text_room text) bytes → has (labels_of text) name ≡ true → jump_reaches (place_from p (text ++ back) name) ≡ true
has_target target known p [] back bytes name all room there = absurd (cc)
has_target target known p (line ∷ text) back bytes name all room there =
    by (has line.labels name) p.segment room.in_segment
    (λ e. has_target target known (after_line line p) text back bytes name all.1
    (after_text (need line.statement) p (text_room text) bytes (needs_text target known line.statement all.0) room)
    (has_label line text name there e))
  where
    by : (b : Bool) (g : Segment) → g ≡ Text → (b ≡ false → jump_reaches (place_from (after_line line p) (text ++ back) name) ≡ true)
        → jump_reaches (if b then Some (place_in g p (line ∷ (text ++ back)))
        else place_from (after_line line p) (text ++ back) name) ≡ true
    by true Text e more = let w = room.words_left in lt-ltb (TEXT_START + 4 * p.words) 268435456 (omega arith)
    by true Data e more = cc
    by false g e more = more refl

-- The second pass

-- a statement whose names have places, and whose target is reached from everywhere
record UsesPlaces (place : Name → Option Place) (s : Statement) : Type 0 where
  placed : any_without_place place (used s) ≡ false
  reached : (at : ℕ) → reaches place at s ≡ true

-- if all are placed and the target is reached, there is no fault
no_second_fault : (a b : Bool) → a ≡ false → b ≡ true → (if a then Some A6 else (if not b then Some A7 else None)) ≡ None
no_second_fault true b h k = cc
no_second_fault false true h k = refl
no_second_fault false false h k = cc

-- lines that use places, and a start, have no fault in the second pass
second_passes : (place : Name → Option Place) (p : Position) (number : ℕ) (lines : List Line)
    → AllByRecursion (λ (line : Line). UsesPlaces place line.statement) lines
    → start_fault (place start_name) (after_lines p lines) ≡ None → second_pass place p number lines ≡ None
second_passes place p number [] all start = ap (λ (o : Option AsmKind). fault_or number o None) start
second_passes place p number (line ∷ rest) all start =
    ap (λ (o : Option AsmKind). fault_or number o (second_pass place (after_line line p) (suc number) rest))
    (no_second_fault (any_without_place place (used line.statement)) (reaches place (TEXT_START + 4 * p.words) line.statement)
    all.0.placed (all.0.reached (TEXT_START + 4 * p.words)))
    ∙ second_passes place (after_line line p) (suc number) rest all.1 start

-- Names that are known have places, and targets are reached by jumps.
module _ (place : Name → Option Place) (target known : Name → Type 0) (placed : (name : Name) → known name → is_some (place name) ≡ true)
    (reached : (name : Name) → target name → jump_reaches (place name) ≡ true) where
  -- a name that has a place is not without one
  one_placed : (o : Option Place) (more : Bool) → is_some o ≡ true → more ≡ false → (not (is_some o) || more) ≡ false
  one_placed None more h k = absurd (cc)
  one_placed (Some at) more h k = k

  -- and what a jump reaches is a place
  reached_is_some : (o : Option Place) → jump_reaches o ≡ true → is_some o ≡ true
  reached_is_some None h = h
  reached_is_some (Some at) h = refl

  -- a statement of text uses places
  text_uses : (s : Statement) → IsText target known s → UsesPlaces place s
  text_uses Empty h = record { placed = refl; reached = λ at. refl }
  text_uses (Instruction (Plain i)) h = record { placed = refl; reached = λ at. refl }
  text_uses (Instruction (ToJump op name)) h = record {
    placed = one_placed (place name) false (reached_is_some (place name) (reached name h)) refl;
    reached = λ at. reached name h;
  }
  text_uses (Instruction (La rd name)) h = record { placed = one_placed (place name) false (placed name h.1) refl; reached = λ at. refl }
  text_uses (Instruction (Li rd value)) h = record { placed = refl; reached = λ at. refl }
  text_uses (Instruction (Move rd rs)) h = record { placed = refl; reached = λ at. refl }
  text_uses _ h = absurd h

  -- the names of words have places
  items_placed : (items : List WordItem) → AllByRecursion (IsDataWord known) items → any_without_place place (names_of_items items) ≡ false
  items_placed [] all = refl
  items_placed (Number n ∷ rest) all = items_placed rest all.1
  items_placed (Address name ∷ rest) all =
      one_placed (place name) (any_without_place place (names_of_items rest)) (placed name all.0) (items_placed rest all.1)

  -- and so does one of data
  data_uses : (s : Statement) → IsData known s → UsesPlaces place s
  data_uses Empty h = record { placed = refl; reached = λ at. refl }
  data_uses (statements.Data (Word items)) h = record { placed = items_placed items h; reached = λ at. refl }
  data_uses (statements.Data (Asciiz bytes)) h = record { placed = refl; reached = λ at. refl }
  data_uses (Directive (Align n)) h = record { placed = refl; reached = λ at. refl }
  data_uses _ h = absurd h

  -- every line of sound lines uses names that have places
  all_use : (text items : List Line) → AreText target known text → AreData known items
      → AllByRecursion (λ (line : Line). UsesPlaces place line.statement) (joined_lines text items)
  all_use text items h k =
      let uses : Line → Type 0 = λ line. UsesPlaces place line.statement in
      all_append uses text (directive_line ToData ∷ items)
      (all_then (λ (line : Line). IsText target known line.statement) uses text (λ line. text_uses line.statement) h) (
        record { placed = refl; reached = λ at. refl },
        all_then (λ (line : Line). IsData known line.statement) uses items (λ line. data_uses line.statement) k,
      )

-- The start

-- the label at which a run starts is at the beginning of the text
pub start_found : (text items : List Line) (main : Name) (behind : List Line) → text ≡ label start_name ∷ la 4 main ∷ behind
    → place_of (joined_lines text items) start_name ≡ Some (record { segment = Text; address = TEXT_START })
start_found text items main behind e = ap (λ (lines : List Line). place_of (joined_lines lines items) start_name) e

-- there is an instruction after it
some_words : (text items : List Line) (main : Name) (behind : List Line) → text ≡ label start_name ∷ la 4 main ∷ behind
    → 2 ≤ (after_lines start_position (joined_lines text items)).words
some_words text items main behind e =
    subst (λ (lines : List Line). 2 ≤ (after_lines start_position (joined_lines lines items)).words) (sym e)
    (words_grow (record { words = 2; bytes = 0; segment = Text }) (behind ++ directive_line ToData ∷ items))

-- a run can start there
starts_at : (place : Option Place) (p : Position) → place ≡ Some (record { segment = Text; address = TEXT_START })
    → 2 ≤ p.words → start_fault place p ≡ None
starts_at place p e some =
    ap (λ (o : Option Place). start_fault o p) e
    ∙ ap (λ (b : Bool). if b then None else Some A6) (lt-ltb TEXT_START (TEXT_START + 4 * p.words) (omega arith))

-- lines that have a start are complete
pub complete : (lines : List Line) → is_some (place_of lines start_name) ≡ true → completed lines ≡ lines
complete lines h = ap (λ (b : Bool). if not b && in_text (place_of lines main_name) then lines ++ added_lines else lines) h

-- The theorems

-- sound lines assemble without a fault
pub no_fault : (text items : List Line) → AreSound text items → fault_of (joined_lines text items) ≡ None
no_fault text items sound =
    let lines = joined_lines text items in
    let target : Name → Type 0 = Contains (labels_of text) in
    let known : Name → Type 0 = Contains (labels_of lines) in
    let start = start_found text items sound.main sound.behind sound.starts in
    let first : first_pass [] start_position 1 lines ≡ None =
    first_passes [] start_position 1 lines
    (lines_stand target known text items sound.text_lines sound.data_lines sound.text_fits sound.data_fits)
    (nothing_seen (labels_of lines)) sound.different in
    let words = sound.text_fits in
    let room : HasRoom start_position Text (text_room text) 0 =
    record { in_segment = refl; words_left = omega arith; bytes_left = omega arith } in
    let placed : (name : Name) → known name → is_some (place_of lines name) ≡ true =
    λ name h. has_place start_position lines name (found_among (labels_of lines) name h) in
    let reached : (name : Name) → target name → jump_reaches (place_of lines name) ≡ true =
    λ name h. has_target target known start_position text
    (directive_line ToData ∷ items) 0 name sound.text_lines room (found_among (labels_of text) name h) in
    let second : second_pass (place_of lines) start_position 1 lines ≡ None =
    second_passes (place_of lines) start_position 1 lines
    (all_use (place_of lines) target known placed reached text items sound.text_lines sound.data_lines)
    (starts_at (place_of lines start_name) (after_lines start_position lines) start
    (some_words text items sound.main sound.behind sound.starts)) in
    ap fault_of_all (complete lines (ap is_some start))
    ∙ ap (λ (o : Option AsmFault). first_or o (second_pass (place_of lines) start_position 1 lines)) first ∙ second

-- each statement of text and of data has its numbers in range

text_in_range : (target known : Name → Type 0) (s : Statement) → IsText target known s → IsInRange s
text_in_range target known Empty h = tt
text_in_range target known (Instruction (Plain i)) h = h
text_in_range target known (Instruction (ToJump op name)) h = tt
text_in_range target known (Instruction (La rd name)) h = h.0
text_in_range target known (Instruction (Li rd value)) h = h
text_in_range target known (Instruction (Move rd rs)) h = h
text_in_range target known _ h = absurd h

item_in_range : (known : Name → Type 0) (item : WordItem) → IsDataWord known item → IsItem item
item_in_range known (Number n) h = h
item_in_range known (Address name) h = tt

data_in_range : (known : Name → Type 0) (s : Statement) → IsData known s → IsInRange s
data_in_range known Empty h = tt
data_in_range known (statements.Data (Word items)) h = all_then (IsDataWord known) IsItem items (item_in_range known) h
data_in_range known (statements.Data (Asciiz bytes)) h = tt
data_in_range known (Directive (Align n)) h = omega arith
data_in_range known _ h = absurd h

-- the numbers of sound lines are in their ranges
pub in_range : (text items : List Line) → AreSound text items → AreInRange (joined_lines text items)
in_range text items sound =
    let target : Name → Type 0 = Contains (labels_of text) in
    let known : Name → Type 0 = Contains (labels_of (joined_lines text items)) in
    let ranges : Line → Type 0 = λ line. IsInRange line.statement in
    all_append ranges text (directive_line ToData ∷ items)
    (all_then (λ (line : Line). IsText target known line.statement) ranges text
    (λ line. text_in_range target known line.statement) sound.text_lines)
    (tt, all_then (λ (line : Line). IsData known line.statement) ranges items (λ line. data_in_range known line.statement) sound.data_lines)

-- lines of text are no more than the words that they have room for
text_lines_fit : (lines : List Line) → length lines ≤ text_room lines
text_lines_fit [] = omega arith
text_lines_fit (line ∷ rest) = let more = text_lines_fit rest in let one = some (need line.statement) in omega arith
  where
    some : (n : Need) → 1 ≤ text_need n
    some Nothing = omega arith
    some (Words zero) = omega arith
    some (Words (suc n)) = omega arith
    some (Item unit size) = omega arith
    some (Switch segment) = omega arith
    some (Padding unit) = omega arith

-- and lines of data no more than the bytes
data_lines_fit : (lines : List Line) → length lines ≤ data_room lines
data_lines_fit [] = omega arith
data_lines_fit (line ∷ rest) = let more = data_lines_fit rest in let one = some (need line.statement) in omega arith
  where
    some : (n : Need) → 1 ≤ data_need n
    some Nothing = omega arith
    some (Words n) = omega arith
    some (Item unit size) = omega arith
    some (Switch segment) = omega arith
    some (Padding unit) = omega arith

-- sound lines are few enough to be counted
pub few_lines : (text items : List Line) → AreSound text items → length (joined_lines text items) < 4294967292
few_lines text items sound =
    let words = sound.text_fits in
    let bytes = sound.data_fits in
    let of_text = text_lines_fit text in
    let of_data = data_lines_fit items in
    let all = length-append text (directive_line ToData ∷ items) in
    omega arith
