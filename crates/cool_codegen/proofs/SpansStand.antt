-- The code of the subexpression of each span is at the position that the span names: a line of an assembly text, or an address in the text segment of a
-- machine.
use Rattle.std.proofs.Common.{ℕ, ◌+◌, List, ◌++◌, length, refl, sym, ap, ◌∙◌, subst, append_assoc, arith}
use Rattle.std.specs.Prelude.{Contains}
use Rattle.std.proofs.lemmas.List.{length-append}
use Rattle.std.proofs.lemmas.List.Elements.{All-contains, All-from_recursion}
use Rattle.cool_syntax.specs.Tree.{Tree}
use Rattle.mips_isa.specs.Lines.{Line}
use Rattle.cool_runtime.specs.Reaches.{World}
use Rattle.cool_runtime.specs.Standing.{sizes, HasLines}
use Rattle.cool_runtime.proofs.Pieces.{has_front, has_back}
use Rattle.cool_consts.specs.Constants.{Constants}
use Rattle.cool_codegen.specs.Code.{Context, code}
use Rattle.cool_codegen.specs.Variables.{Named}
use Rattle.cool_codegen.specs.Spans.{Span, StandsBehind, code_of, spans}
use Rattle.cool_codegen.proofs.SpansOfCode.{Stands, law_spans}

pub span_stands : (w : World) (s : Context) (g : Constants) (vs : List Named) (d k pc : ℕ) (t : Tree) (x : Span) → HasLines w pc (code s g vs d k t) → Contains (spans sizes s g vs d k pc t) x
    → HasLines w x.from (code_of s g x)
span_stands w s g vs d k pc t x has there =
    let front : (xs ys : List Line) (pc : ℕ) → HasLines w pc (xs ++ ys) → HasLines w pc xs = has_front w in
    let back : (xs ys : List Line) (pc : ℕ) → HasLines w pc (xs ++ ys) → HasLines w (pc + sizes xs) ys = λ xs ys pc h. has_back w xs ys pc (pc + sizes xs) refl h in
    let all = law_spans sizes (HasLines w) front back s g vs d k pc t has in
    All-contains (Stands sizes (HasLines w) front back s g) (spans sizes s g vs d k pc t) x (All-from_recursion _ (spans sizes s g vs d k pc t) all) there

-- The same by lines

pub behind_front : (text xs ys : List Line) (n : ℕ) → StandsBehind text n (xs ++ ys) → StandsBehind text n xs
behind_front text xs ys n h = record { front = h.front; rest = ys ++ h.rest; whole = h.whole ∙ ap (λ zs. h.front ++ zs) (append_assoc xs ys h.rest); many = h.many }

pub behind_back : (text xs ys : List Line) (n : ℕ) → StandsBehind text n (xs ++ ys) → StandsBehind text (n + length xs) ys
behind_back text xs ys n h = record {
  front = h.front ++ xs;
  rest = h.rest;
  whole = h.whole ∙ ap (λ zs. h.front ++ zs) (append_assoc xs ys h.rest) ∙ sym (append_assoc h.front xs (ys ++ h.rest));
  many = (let l = length-append h.front xs in let m = h.many in omega arith);
}

pub span_behind : (text : List Line) (s : Context) (g : Constants) (vs : List Named) (d k n : ℕ) (t : Tree) (x : Span) → StandsBehind text n (code s g vs d k t) → Contains (spans length s g vs d k n t) x
    → StandsBehind text x.from (code_of s g x)
span_behind text s g vs d k n t x h there =
    let all = law_spans length (StandsBehind text) (behind_front text) (behind_back text) s g vs d k n t h in
    All-contains (Stands length (StandsBehind text) (behind_front text) (behind_back text) s g) (spans length s g vs d k n t) x (All-from_recursion _ (spans length s g vs d k n t) all) there

-- lines behind others in the text of a machine stand at the address behind those
pub behind_stands : (w : World) (text part : List Line) (pc n : ℕ) (h : StandsBehind text n part) → HasLines w pc text → HasLines w (pc + sizes h.front) part
behind_stands w text part pc n h has =
    has_front w part h.rest (pc + sizes h.front) (has_back w h.front (part ++ h.rest) pc (pc + sizes h.front) refl (subst (HasLines w pc) h.whole has))
