-- If assembly lines are appended in memory, the same lines are appended to the list that contracts see (`lines_of`): one line, several lines, or the lines of
-- several calls.
use Rattle.std.proofs.Common.{◌≡◌, List, [], ◌∷◌, ◌++◌, ap, ◌∙◌, append_assoc}
use Rattle.std.specs.Prelude.{Result, Ok, Err, OnOk, is_ok, if◌then◌else◌}
use Rattle.std.proofs.lemmas.List.{map_push, map-append}
use Rattle.mips_isa.specs.declared.line.Line as declared
use Rattle.mips_isa.specs.Lines.{Line, line_of, lines_of}

-- one line
pub with_line : (before after : List declared.Line) (added : declared.Line) (line : Line) → after ≡ before ++ added ∷ [] → line_of added ≡ line → lines_of after ≡ lines_of before ++ line ∷ []
with_line before after added line e is = ap lines_of e ∙ map_push line_of before added ∙ ap (λ (l : Line). lines_of before ++ l ∷ []) is

-- several lines
pub with_lines : (before after added : List declared.Line) (lines : List Line) → after ≡ before ++ added → lines_of added ≡ lines → lines_of after ≡ lines_of before ++ lines
with_lines before after added lines e is = ap lines_of e ∙ map-append line_of before added ∙ ap (λ (ls : List Line). lines_of before ++ ls) is

-- several lines, if there is memory for them
pub adds : {A E : Type 0} (r : Result A E) (before after added : List declared.Line) (lines : List Line)
    → after ≡ (if is_ok r then before ++ added else before) → lines_of added ≡ lines → OnOk r (lines_of after ≡ lines_of before ++ lines)
adds (Ok a) before after added lines e is = with_lines before after added lines e is
adds (Err x) before after added lines e is = tt

-- one part after the other
pub in_turn : (l0 l1 l2 a b : List Line) → l1 ≡ l0 ++ a → l2 ≡ l1 ++ b → l2 ≡ l0 ++ (a ++ b)
in_turn l0 l1 l2 a b e f = f ∙ ap (λ (l : List Line). l ++ b) e ∙ append_assoc l0 a b

pub then_in_turn : {A E : Type 0} (r : Result A E) (l0 l1 l2 a b : List Line) → l1 ≡ l0 ++ a → OnOk r (l2 ≡ l1 ++ b) → OnOk r (l2 ≡ l0 ++ (a ++ b))
then_in_turn (Ok x) l0 l1 l2 a b e f = in_turn l0 l1 l2 a b e f
then_in_turn (Err x) l0 l1 l2 a b e f = tt

-- a part that is said in another way
pub then_as : {A E : Type 0} (r : Result A E) (l0 l1 a b : List Line) → a ≡ b → OnOk r (l1 ≡ l0 ++ a) → OnOk r (l1 ≡ l0 ++ b)
then_as (Ok x) l0 l1 a b is e = e ∙ ap (λ (l : List Line). l0 ++ l) is
then_as (Err x) l0 l1 a b is e = tt
