-- `string_object` returns the assembly lines of a String in the data segment (`string_lines` of `LinesOfData.antt`): the Int of the length, the head of the
-- String, its bytes and `.align 2`. The size that it passes, `length / 4 + 5`, is `4 + words_of_bytes length`: the words of the head, of the length and of the
-- bytes.
use Rattle.std.proofs.Common.{◌≡◌, ℕ, ◌+◌, ◌/◌, List, [], ◌∷◌, ◌++◌, length, ap, ◌∙◌, arith}
use Rattle.mips_isa.specs.Lines.{Line, Asciiz, Align, lines_of}
use Rattle.mips_isa.specs.Assembly.{data_line, directive_line}
use Rattle.cool_runtime.specs.Contents.{words_of_bytes}
use Rattle.cool_runtime.specs.LinesOfData.{string_head_lines}
use Rattle.cool_runtime.proofs.AddedLines.{with_line, with_lines, in_turn}
use Rattle.cool_runtime.proofs.data.string_object.Goals as goal

pub returns : goal.returns
returns c =
    let bytes = c.args.bytes.now in
    let size : length bytes / 4 + 5 ≡ 4 + words_of_bytes (length bytes) = omega arith in
    let head : ℕ → List Line = string_head_lines c.args.name.now c.args.length_name.now c.args.tags.string in
    let whole : List Line = head (4 + words_of_bytes (length bytes)) in
    let text : Line = data_line (Asciiz bytes) in
    let align : Line = directive_line (Align 2) in
    let l0 : List Line = lines_of c.in_ok-lines.lines.items in
    let l1 : List Line = lines_of c.append.new.self.items in
    let l2 : List Line = lines_of c.push.new.self.items in
    let l3 : List Line = lines_of c.push-2.new.self.items in
    let e1 : l1 ≡ l0 ++ whole = with_lines _ _ _ _ c.in_ok-append.ensures.items (c.in_ok-string_head.ensures ∙ ap head size) in
    let e2 : l2 ≡ l1 ++ text ∷ [] = with_line _ _ _ text c.in_ok-push.ensures.items c.in_ok-text_line.ensures in
    let e3 : l3 ≡ l2 ++ align ∷ [] = with_line _ _ _ align c.in_ok-push-2.ensures.items c.unlabelled.ensures in
    in_turn l0 l1 l3 whole (text ∷ align ∷ []) e1 (in_turn l1 l2 l3 (text ∷ []) (align ∷ []) e2 e3) ∙ ap (λ (ls : List Line). ls ++ (whole ++ text ∷ align ∷ [])) c.in_ok-lines.ensures
