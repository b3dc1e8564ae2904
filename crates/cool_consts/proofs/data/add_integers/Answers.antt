-- `add_integers` appends the data lines of integer constants, which are Int objects numbered from 0; each step of its loop appends one object.
use Rattle.std.proofs.Common.{◌≡◌, ℕ, ◌+◌, ◌<◌, List, ◌++◌, length, take, get_or, sym, ap, ◌∙◌, arith, append_assoc}
use Rattle.std.proofs.lemmas.List.{take_more, length-take-le}
use Rattle.mips_isa.specs.Lines.{Name, Line, lines_of}
use Rattle.cool_runtime.specs.LinesOfData.{int_lines}
use Rattle.cool_runtime.proofs.AddedLines.{with_lines}
use Rattle.cool_consts.specs.Labels.{int_constant}
use Rattle.cool_consts.specs.LinesOfConstants.{integers_lines}
use Rattle.cool_consts.proofs.MoreLines.{one_more_integer}
use Rattle.cool_consts.proofs.data.add_integers.Goals as goal

pub loop-index-preserved : goal.loop-index-preserved
loop-index-preserved c =
    let ns : List ℕ = c.args.integers.now in
    let i : ℕ = c.loop-index.index in
    let tag : ℕ = c.args.tag in
    let inside : i < length ns = c.loop-index-test.true in
    let long : length (take i ns) ≡ i = length-take-le i ns (omega arith) in
    let before : List Line = lines_of c.args.lines.now.items in
    let done : List Line = integers_lines tag 0 (take i ns) in
    let here : Name → List Line = λ name. int_lines name tag (get_or ns i 0) in
    let name : c.as_slice.result.now ≡ int_constant i = c.as_slice.ensures.value ∙ c.in_ok-name.ensures in
    let more : integers_lines tag 0 (take (i + 1) ns) ≡ done ++ here (int_constant i) =
    ap (integers_lines tag 0) (take_more ns i 0 inside) ∙ one_more_integer tag 0 (take i ns) (get_or ns i 0) ∙ ap (λ (j : ℕ). done ++ here (int_constant j)) (let e : 0 + length (take i ns) ≡ i = omega arith in e) in
    with_lines _ _ _ _ c.in_ok-append.ensures.items c.in_ok-int.ensures ∙ ap (λ (n : Name). lines_of c.loop-index.lines.items ++ here n) name ∙ ap (λ (l : List Line). l ++ here (int_constant i)) c.loop-index.invariant
    ∙ append_assoc before done (here (int_constant i)) ∙ ap (λ (l : List Line). before ++ l) (sym more)
