-- The assembler must add a `__start` to lines if and only if no line has this label and the first label `main` stands in the text segment.
use Rattle.std.specs.Prelude.{◌≡◌, ℕ, ◌&&◌, not, Bool, true, false, if◌then◌else◌, List, [], ◌∷◌, Option, Some, None, is_some, refl}
use Rattle.std.proofs.Common.{ap, sym, ◌∙◌}
use Rattle.mips_isa.specs.declared.place.Segment.{Segment}
use Rattle.mips_isa.specs.declared.place.Segment.TheVariants.{Text, Data}
use Rattle.mips_isa.specs.declared.place.Place.{Place}
use Rattle.mips_isa.specs.Lines.{Name, Line}
use Rattle.mips_isa.specs.Assembly.{Need, Nothing, Words, Item, Switch, Padding, need, Position, start_position, padded, after_need, after_line, has, place_in, place_from, place_of, in_text, start_name, main_name}
use Rattle.mips_asm.specs.Completing.{segment_after_need, segment_of_name, is_text_segment}

-- the segment of a place
abbrev pub segment_in : Option Place → Option Segment
segment_in None = None
segment_in (Some place) = Some place.segment

padded_segment : (segment : Segment) (unit : ℕ) (p : Position) → (padded segment unit p).segment ≡ p.segment
padded_segment Text unit p = refl
padded_segment Data unit p = refl

-- the segment after a need
pub after_segment : (n : Need) (p : Position) → (after_need n p).segment ≡ segment_after_need n p.segment
after_segment Nothing p = refl
after_segment (Words n) p = refl
after_segment (Item unit size) p = refl
after_segment (Switch segment) p = refl
after_segment (Padding unit) p = padded_segment p.segment unit p

place_segment : (segment : Segment) (p : Position) (lines : List Line) → (place_in segment p lines).segment ≡ segment
place_segment Text p lines = refl
place_segment Data p lines = refl

-- the segment of the place of a name
pub segment_of_place : (p : Position) (lines : List Line) (name : Name) → segment_in (place_from p lines name) ≡ segment_of_name p.segment lines name
segment_of_place p [] name = refl
segment_of_place p (line ∷ rest) name =
    either (has line.labels name) (place_in p.segment p (line ∷ rest)) p.segment (place_segment p.segment p (line ∷ rest))
    (place_from (after_line line p) rest name) (segment_of_name (segment_after_need (need line.statement) p.segment) rest name)
    (segment_of_place (after_line line p) rest name ∙ ap (λ (s : Segment). segment_of_name s rest name) (after_segment (need line.statement) p))
  where
    either : (b : Bool) (place : Place) (segment : Segment) → place.segment ≡ segment → (o : Option Place) (s : Option Segment) → segment_in o ≡ s
        → segment_in (if b then Some place else o) ≡ (if b then Some segment else s)
    either true place segment h o s k = ap Some h
    either false place segment h o s k = k

in_text_by : (o : Option Place) → in_text o ≡ is_text_segment (segment_in o)
in_text_by None = refl
in_text_by (Some place) = refl

is_some_by : (o : Option Place) → is_some o ≡ is_some (segment_in o)
is_some_by None = refl
is_some_by (Some place) = refl

-- whether `__start` is missing, by the segments of the names
pub lacks : (lines : List Line) (start main : Option Segment) → start ≡ segment_of_name Text lines start_name → main ≡ segment_of_name Text lines main_name
    → (not (is_some start) && is_text_segment main) ≡ (not (is_some (place_of lines start_name)) && in_text (place_of lines main_name))
lacks lines start main s m =
    let a : is_some start ≡ is_some (place_of lines start_name) = ap is_some (s ∙ sym (segment_of_place start_position lines start_name)) ∙ sym (is_some_by (place_of lines start_name)) in
    let b : is_text_segment main ≡ in_text (place_of lines main_name) = ap is_text_segment (m ∙ sym (segment_of_place start_position lines main_name)) ∙ sym (in_text_by (place_of lines main_name)) in
    ap (λ (x : Bool). not x && is_text_segment main) a ∙ ap (λ (x : Bool). not (is_some (place_of lines start_name)) && x) b
