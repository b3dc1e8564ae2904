-- The segment and address of each label can be computed from the symbol table, which holds an address in text or the index of a data item, and from the
-- addresses of the data items.
use Rattle.std.specs.Prelude.{◌≡◌, ℕ, ◌+◌, ◌*◌, ◌||◌, ◌&&◌, not, is_some, Bool, true, false, if◌then◌else◌, List, [], ◌∷◌, ◌++◌, length, slice_get, Option, Some, None, refl, bytes_eq}
use Rattle.std.specs.Map.{lookup}
use Rattle.std.proofs.Common.{ap, sym, ◌∙◌, append_assoc, append-nil, length-append, cond}
use Rattle.std.proofs.Math.Path.{fun_ext}
use Rattle.mips_isa.specs.declared.place.Segment.{Segment}
use Rattle.mips_isa.specs.declared.place.Segment.TheVariants.{Text, Data}
use Rattle.mips_isa.specs.declared.place.Place.{Place}
use Rattle.mips_isa.specs.declared.asm_fault.AsmFault.{AsmFault}
use Rattle.mips_isa.specs.declared.address_map.TheConstants.{DATA_START}
use Rattle.mips_isa.specs.Lines.{Name, Line}
use Rattle.mips_isa.specs.Assembly.{Need, Nothing, Words, Item, Switch, Padding, Position, start_position, after_line, need, up, next_item, item_or, place_in, place_from, place_of, has, in_text, start_name, main_name, added_lines, completed, first_pass}
use Rattle.mips_asm.specs.declared.mark.Mark.{Mark}
use Rattle.mips_asm.specs.declared.first_pass.FirstPass.{FirstPass}
use Rattle.mips_asm.specs.Passes.{after_lines, item_in, items_from, mark_in, marked, table_from, shown, marks_text, is_lacking}
use Rattle.mips_asm.specs.Places.{LabelParts, item_place, place_at, places_of}
use Rattle.mips_asm.specs.FirstPasses.{HasTaken, IsPassed}
use Rattle.lists.proofs.ItemsAt.{seam_get}

-- a look-up in the labels of a line, and then in others
marked_lookup : (name : Name) (mark : Mark) (labels : List Name) (more : List (Name × Mark))
    → lookup (bytes_eq name) (marked mark labels ++ more) ≡ (if has labels name then Some mark else lookup (bytes_eq name) more)
marked_lookup name mark [] more = refl
marked_lookup name mark (label ∷ rest) more = by (bytes_eq name label) (has rest name) (marked_lookup name mark rest more)
  where
    found : Option Mark
    found = lookup (bytes_eq name) more

    by : (a b : Bool) → lookup (bytes_eq name) (marked mark rest ++ more) ≡ (if b then Some mark else found)
        → cond a (Some mark) (lookup (bytes_eq name) (marked mark rest ++ more)) ≡ (if (a || b) then Some mark else found)
    by true b h = refl
    by false b h = h

-- the address after the data of lines
abbrev end_of : Position → List Line → ℕ
end_of p lines = DATA_START + (after_lines p lines).bytes

-- The item that comes after those before lines is the next one.
next_there : (front : List ℕ) (p : Position) (lines : List Line)
    → slice_get (front ++ (items_from p lines ++ end_of p lines ∷ [])) (length front) ≡ Some (DATA_START + next_item p lines)
next_there front p [] = seam_get front (DATA_START + p.bytes) []
next_there front p (line ∷ rest) = by (need line.statement) (next_there front (after_line line p) rest)
  where
    by : (n : Need) → slice_get (front ++ (items_from (after_line line p) rest ++ end_of (after_line line p) rest ∷ [])) (length front) ≡ Some (DATA_START + next_item (after_line line p) rest)
        → slice_get (front ++ ((item_in n p.bytes ++ items_from (after_line line p) rest) ++ end_of (after_line line p) rest ∷ [])) (length front)
        ≡ Some (DATA_START + item_or n p (next_item (after_line line p) rest))
    by Nothing later = later
    by (Words n) later = later
    by (Item unit size) later = seam_get front (DATA_START + up unit p.bytes) (items_from (after_line line p) rest ++ end_of (after_line line p) rest ∷ [])
    by (Switch segment) later = later
    by (Padding unit) later = later

-- a label before lines has the place of these
place_here : (front : List ℕ) (p : Position) (lines : List Line)
    → place_at (front ++ (items_from p lines ++ end_of p lines ∷ [])) (Some (mark_in p.segment p.words (length front))) ≡ Some (place_in p.segment p lines)
place_here front p lines = by p.segment
  where
    by : (segment : Segment) → place_at (front ++ (items_from p lines ++ end_of p lines ∷ [])) (Some (mark_in segment p.words (length front)))
        ≡ Some (place_in segment p lines)
    by Text = refl
    by Data = ap item_place (next_there front p lines)

-- the table and the items of lines say where a name is
table_place : (name : Name) (front : List ℕ) (p : Position) (lines : List Line)
    → place_at (front ++ (items_from p lines ++ end_of p lines ∷ [])) (lookup (bytes_eq name) (table_from p (length front) lines)) ≡ place_from p lines name
table_place name front p [] = refl
table_place name front p (line ∷ rest) =
    let q : Position = after_line line p in
    let here = item_in (need line.statement) p.bytes in
    let behind = items_from q rest ++ end_of q rest ∷ [] in
    let items = front ++ ((here ++ items_from q rest) ++ end_of q rest ∷ []) in
    let mark = mark_in p.segment p.words (length front) in
    let more = table_from q (length front + length here) rest in
    let same : items ≡ (front ++ here) ++ behind =
    ap (λ (xs : List ℕ). front ++ xs) (append_assoc here (items_from q rest) (end_of q rest ∷ [])) ∙ sym (append_assoc front here behind) in
    let later : place_at items (lookup (bytes_eq name) more) ≡ place_from q rest name =
    ap (λ (xs : List ℕ). place_at xs (lookup (bytes_eq name) more)) same
    ∙ ap (λ (n : ℕ). place_at ((front ++ here) ++ behind) (lookup (bytes_eq name) (table_from q n rest))) (sym (length-append front here))
    ∙ table_place name (front ++ here) q rest in
    ap (place_at items) (marked_lookup name mark line.labels more)
    ∙ either (has line.labels name) items (Some mark) (lookup (bytes_eq name) more) (Some (place_in p.segment p (line ∷ rest))) (place_from q rest name)
    (place_here front p (line ∷ rest)) later
  where
    either : (b : Bool) (items : List ℕ) (x y : Option Mark) (u v : Option Place) → place_at items x ≡ u → place_at items y ≡ v
        → place_at items (if b then x else y) ≡ (if b then u else v)
    either true items x y u v e f = e
    either false items x y u v e f = f

-- The places of the labels of lines.
pub places_found : (labels : LabelParts) (table : List (Name × Mark)) (items : List ℕ) (bytes : ℕ) (lines : List Line)
    → labels ≡ (table, items ++ (DATA_START + bytes) ∷ []) → table ≡ table_from start_position 0 lines → items ≡ items_from start_position lines
    → bytes ≡ (after_lines start_position lines).bytes → places_of labels ≡ place_of lines
places_found labels table items bytes lines is named begun filled =
    ap places_of is
    ∙ fun_ext (λ name.
    ap (λ (t : List (Name × Mark)). place_at (items ++ (DATA_START + bytes) ∷ []) (lookup (bytes_eq name) t)) named
    ∙ ap (λ (xs : List ℕ). place_at (xs ++ (DATA_START + bytes) ∷ []) (lookup (bytes_eq name) (table_from start_position 0 lines))) begun
    ∙ ap (λ (n : ℕ). place_at (items_from start_position lines ++ (DATA_START + n) ∷ []) (lookup (bytes_eq name) (table_from start_position 0 lines))) filled
    ∙ table_place name [] start_position lines)

-- a statement about the marks and the places of a name alike
alike : (F : Option Mark → Bool) (G : Option Place → Bool) → F None ≡ G None
    → ((segment : Segment) (p : Position) (items : ℕ) (lines : List Line) → F (Some (mark_in segment p.words items)) ≡ G (Some (place_in segment p lines)))
    → (name : Name) (p : Position) (items : ℕ) (lines : List Line) → F (lookup (bytes_eq name) (table_from p items lines)) ≡ G (place_from p lines name)
alike F G none some name p items [] = none
alike F G none some name p items (line ∷ rest) =
    let q : Position = after_line line p in
    let count = items + length (item_in (need line.statement) p.bytes) in
    let mark = mark_in p.segment p.words items in
    ap F (marked_lookup name mark line.labels (table_from q count rest))
    ∙ either (has line.labels name) (Some mark) (lookup (bytes_eq name) (table_from q count rest)) (Some (place_in p.segment p (line ∷ rest))) (place_from q rest name)
    (some p.segment p items (line ∷ rest)) (alike F G none some name q count rest)
  where
    either : (b : Bool) (x y : Option Mark) (u v : Option Place) → F x ≡ G u → F y ≡ G v → F (if b then x else y) ≡ G (if b then u else v)
    either true x y u v e f = e
    either false x y u v e f = f

some_alike : (segment : Segment) (p : Position) (items : ℕ) (lines : List Line) → true ≡ true
some_alike segment p items lines = refl

text_alike : (segment : Segment) (p : Position) (items : ℕ) (lines : List Line) → marks_text (Some (mark_in segment p.words items)) ≡ in_text (Some (place_in segment p lines))
text_alike Text p items lines = refl
text_alike Data p items lines = refl

-- `__start` is missing in a table where it is no label of the lines
lacking : (lines : List Line) → is_lacking (table_from start_position 0 lines) ≡ (not (is_some (place_of lines start_name)) && in_text (place_of lines main_name))
lacking lines =
    ap (λ (b : Bool). not b && marks_text (lookup (bytes_eq main_name) (table_from start_position 0 lines)))
    (alike is_some is_some refl some_alike start_name start_position 0 lines)
    ∙ ap (λ (b : Bool). not (is_some (place_of lines start_name)) && b) (alike marks_text in_text refl text_alike main_name start_position 0 lines)

-- The lines that complete others.
module _ (lines added : List Line) (b : Bool) (added_is : added ≡ (if b then added_lines else [])) where
  abbrev whether : Bool
  whether = not (is_some (place_of lines start_name)) && in_text (place_of lines main_name)

  -- lines that are completed where they lack a start
  completed_by : b ≡ whether → completed lines ≡ lines ++ added
  completed_by same = ap (λ (t : Bool). if t then lines ++ added_lines else lines) (sym same) ∙ by b ∙ ap (λ (xs : List Line). lines ++ xs) (sym added_is)
    where
      by : (t : Bool) → (if t then lines ++ added_lines else lines) ≡ lines ++ (if t then added_lines else [])
      by true = refl
      by false = sym (append-nil lines)

  -- a fault of lines is that of the completed ones
  fault_completed : (fault : AsmFault) → ((rest : List Line) → first_pass [] start_position 1 (lines ++ rest) ≡ Some fault)
      → first_pass [] start_position 1 (completed lines) ≡ Some fault
  fault_completed fault h = by whether
    where
      by : (t : Bool) → first_pass [] start_position 1 (if t then lines ++ added_lines else lines) ≡ Some fault
      by true = h added_lines
      by false = ap (first_pass [] start_position 1) (sym (append-nil lines)) ∙ h []

  -- lines without a fault were completed
  pub completed_fine : (pass : FirstPass) → HasTaken pass lines → b ≡ is_lacking (shown pass.table.entries)
      → first_pass [] start_position 1 (lines ++ added) ≡ None → completed lines ≡ lines ++ added
  completed_fine pass taken same fine = by pass.fault taken
    where
      by : (fault : Option AsmFault) → IsPassed fault pass lines → completed lines ≡ lines ++ added
      by None d = completed_by (same ∙ ap is_lacking d.table ∙ lacking lines)
      by (Some fault) d = let h = sym fine ∙ d added in cc

  -- a fault of theirs is that of the completed ones
  pub completed_fault : (pass : FirstPass) → HasTaken pass lines → b ≡ is_lacking (shown pass.table.entries)
      → (fault : AsmFault) → first_pass [] start_position 1 (lines ++ added) ≡ Some fault → first_pass [] start_position 1 (completed lines) ≡ Some fault
  completed_fault pass taken same fault h = by pass.fault taken
    where
      by : (found : Option AsmFault) → IsPassed found pass lines → first_pass [] start_position 1 (completed lines) ≡ Some fault
      by None d = ap (first_pass [] start_position 1) (completed_by (same ∙ ap is_lacking d.table ∙ lacking lines)) ∙ h
      by (Some other) d = fault_completed other d ∙ sym (d added) ∙ h
