-- In an assembly program without errors, the address of each label is that of the line that it labels, and has 32 bits.
use Rattle.std.proofs.Common.{◌≡◌, ℕ, suc, ◌+◌, ◌*◌, ◌<◌, ◌≤◌, List, [], ◌∷◌, ◌++◌, refl, sym, ap, ◌∙◌, arith, Bool, true, false, true≢false, Option, Some, None}
use Rattle.std.specs.Prelude.{if◌then◌else◌, ◌||◌, bytes_eq}
use Rattle.std.proofs.lemmas.List.Folds.{list_any-append}
use Rattle.std.proofs.lemmas.Slice.Eq.{bytes_eq-Decides}
use Rattle.mips_isa.specs.declared.asm_fault.AsmKind.TheVariants.{A5, A8, A9}
use Rattle.mips_isa.specs.declared.place.Place.{Place}
use Rattle.mips_isa.specs.declared.place.Segment.{Segment}
use Rattle.mips_isa.specs.declared.place.Segment.TheVariants.{Text, Data}
use Rattle.mips_isa.specs.Lines.{Name, Line}
use Rattle.mips_isa.specs.declared.address_map.TheConstants.{TEXT_START}
use Rattle.mips_isa.specs.Assembly.{Need, Nothing, Words, Item, Switch, Padding, need, Position, after_need, after_line, first_pass, defining_fault, is_wrong, any_twice, is_too_large, has, place_from, place_in, next_item, item_or, address_or_zero, is_text}
use Rattle.mips_asm.specs.Passes.{Fits, after_lines}
use Rattle.mips_asm.proofs.LinePlaces.{position_fits, fine_here}
use Rattle.std.proofs.lemmas.Bool.{or_left, or_right, or_parts}
use Rattle.mips_asm.proofs.WordsOfText.{words_after}

-- no label of a line without a fault was seen before

not_twice : (a b d : Bool) → (if a then Some A8 else (if b then Some A5 else (if d then Some A9 else None))) ≡ None → b ≡ false
not_twice true b d h = cc
not_twice false true d h = cc
not_twice false false d h = refl

seen_once : (seen labels : List Name) (name : Name) → any_twice seen labels ≡ false → has seen name ≡ true → has labels name ≡ true → ⊥
seen_once seen [] name new before here = absurd (true≢false (sym here))
seen_once seen (label ∷ rest) name new before here =
    let parts = or_parts (has seen label) (any_twice (label ∷ seen) rest) new in
    by (bytes_eq name label) refl here parts.0 (seen_once (label ∷ seen) rest name parts.1 (or_right (bytes_eq name label) (has seen name) before))
  where
    by : (t : Bool) → bytes_eq name label ≡ t → (t || has rest name) ≡ true → has seen label ≡ false → (has rest name ≡ true → ⊥) → ⊥
    by true e h fresh more =
        let same : name ≡ label = (bytes_eq-Decides name label).0 e in
        true≢false (sym before ∙ ap (has seen) same ∙ fresh)
    by false e h fresh more = more h

seen_before : (seen : List Name) (p : Position) (number : ℕ) (front : List Line) (line : Line) (rest : List Line) (name : Name)
    → first_pass seen p number (front ++ line ∷ rest) ≡ None → has seen name ≡ true → has line.labels name ≡ true → ⊥
seen_before seen p number [] line rest name fine before here =
    let parts = fine_here number (defining_fault seen p line) _ fine in
    seen_once seen line.labels name (not_twice (is_wrong (need line.statement) p.segment) (any_twice seen line.labels) (is_too_large (after_line line p)) parts.0) before here
seen_before seen p number (first ∷ front) line rest name fine before here =
    let parts = fine_here number (defining_fault seen p first) _ fine in
    seen_before (seen ++ first.labels) (after_line first p) (suc number) front line rest name parts.1
    (list_any-append (bytes_eq name) seen first.labels ∙ or_left (has seen name) (has first.labels name) before) here

-- the place of a label is that of its line
pub placed_there : (seen : List Name) (p : Position) (number : ℕ) (front : List Line) (line : Line) (rest : List Line) (name : Name)
    → first_pass seen p number (front ++ line ∷ rest) ≡ None → has line.labels name ≡ true
    → place_from p (front ++ line ∷ rest) name ≡ Some (place_in (after_lines p front).segment (after_lines p front) (line ∷ rest))
placed_there seen p number [] line rest name fine here =
    ap (λ t. if t then Some (place_in p.segment p (line ∷ rest)) else place_from (after_line line p) rest name) here
placed_there seen p number (first ∷ front) line rest name fine here =
    let parts = fine_here number (defining_fault seen p first) _ fine in
    by (has first.labels name) _ _ _
    (λ e. seen_before (seen ++ first.labels) (after_line first p) (suc number) front line rest name parts.1
    (list_any-append (bytes_eq name) seen first.labels ∙ or_right (has seen name) (has first.labels name) e) here)
    (placed_there (seen ++ first.labels) (after_line first p) (suc number) front line rest name parts.1 here)
  where
    by : (t : Bool) (o other found : Option Place) → (t ≡ true → ⊥) → other ≡ found → (if t then o else other) ≡ found
    by true o other found never h = absurd (never refl)
    by false o other found never h = h

-- the number of words only grows

pub words_grow : (p : Position) (lines : List Line) → p.words ≤ (after_lines p lines).words
words_grow p [] = omega arith
words_grow p (line ∷ rest) = let h = words_grow (after_line line p) rest in let k = words_after (need line.statement) p in omega arith

-- a place in text is at most at the end of the text

abbrev pub InTextBelow : ℕ → Option Place → Type 0
InTextBelow words None = Unit {0}
InTextBelow words (Some place) = is_text place.segment ≡ true → place.address ≤ TEXT_START + 4 * words

pub below_end : (p : Position) (lines : List Line) (name : Name) → InTextBelow (after_lines p lines).words (place_from p lines name)
below_end p [] name = tt
below_end p (line ∷ rest) name =
    by (has line.labels name) _ _ (here p.segment) (below_end (after_line line p) rest name)
  where
    total : ℕ
    total = (after_lines p (line ∷ rest)).words

    by : (t : Bool) (o other : Option Place) → InTextBelow total o → InTextBelow total other → InTextBelow total (if t then o else other)
    by true o other h k = h
    by false o other h k = k

    here : (g : Segment) → InTextBelow total (Some (place_in g p (line ∷ rest)))
    here Text = λ e. let h = words_grow p (line ∷ rest) in omega arith
    here Data = λ e. absurd (true≢false (sym e))

-- every address has 32 bits

item_or_fits : (n : Need) (p : Position) (other : ℕ) → Fits (after_need n p).words (after_need n p).bytes → other ≤ 268435456 → item_or n p other ≤ 268435456
item_or_fits Nothing p other fits h = h
item_or_fits (Words n) p other fits h = h
item_or_fits (Item unit size) p other fits h = let k = fits.bytes_fit in omega arith
item_or_fits (Switch segment) p other fits h = h
item_or_fits (Padding unit) p other fits h = h

next_fits : (seen : List Name) (p : Position) (number : ℕ) (lines : List Line) → Fits p.words p.bytes → first_pass seen p number lines ≡ None → next_item p lines ≤ 268435456
next_fits seen p number [] fits fine = fits.bytes_fit
next_fits seen p number (line ∷ rest) fits fine =
    let parts = fine_here number (defining_fault seen p line) _ fine in
    let after : Fits (after_line line p).words (after_line line p).bytes = position_fits seen p number (line ∷ rest) 1 fits fine in
    item_or_fits (need line.statement) p _ after (next_fits (seen ++ line.labels) (after_line line p) (suc number) rest after parts.1)

pub address_fits : (seen : List Name) (p : Position) (number : ℕ) (lines : List Line) (name : Name) → Fits p.words p.bytes → first_pass seen p number lines ≡ None
    → address_or_zero (place_from p lines name) < 4294967296
address_fits seen p number [] name fits fine = omega arith
address_fits seen p number (line ∷ rest) name fits fine =
    let parts = fine_here number (defining_fault seen p line) _ fine in
    let after : Fits (after_line line p).words (after_line line p).bytes = position_fits seen p number (line ∷ rest) 1 fits fine in
    by (has line.labels name) _ _ (here p.segment (next_fits seen p number (line ∷ rest) fits fine)) (address_fits (seen ++ line.labels) (after_line line p) (suc number) rest name after parts.1)
  where
    by : (t : Bool) (o other : Option Place) → address_or_zero o < 4294967296 → address_or_zero other < 4294967296 → address_or_zero (if t then o else other) < 4294967296
    by true o other h k = h
    by false o other h k = k

    here : (g : Segment) → next_item p (line ∷ rest) ≤ 268435456 → (place_in g p (line ∷ rest)).address < 4294967296
    here Text k = let words = fits.words_fit in omega arith
    here Data k = omega arith
