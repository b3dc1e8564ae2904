-- `substr` appends the assembly lines of the routine for `String.substr` (`substr_lines` of `Routines.antt`): its seven calls of `write` append their seven
-- parts in order.
use Rattle.std.proofs.Common.{◌≡◌, List, ◌++◌, ap, ◌∙◌}
use Rattle.mips_isa.specs.Lines.{Line, lines_of}
use Rattle.cool_runtime.specs.Labels.{substr_bytes, substr_end}
use Rattle.cool_runtime.specs.Routines.{bytes_lines, int_head_lines, string_end_lines, string_head_lines, string_zeros_lines, substr_begin_lines, substr_size_lines}
use Rattle.cool_runtime.proofs.AddedLines.{then_as, then_in_turn}
use Rattle.cool_runtime.proofs.lines.substr.Goals as goal

pub returns : goal.returns
unfolding substr_bytes substr_end
returns c =
    let l0 : List Line = lines_of c.args.lines.now.items in
    let l1 : List Line = lines_of c.write.new.lines.items in
    let l2 : List Line = lines_of c.write-2.new.lines.items in
    let l3 : List Line = lines_of c.write-3.new.lines.items in
    let l4 : List Line = lines_of c.write-4.new.lines.items in
    let l5 : List Line = lines_of c.write-5.new.lines.items in
    let l6 : List Line = lines_of c.write-6.new.lines.items in
    let l7 : List Line = lines_of c.write-7.new.lines.items in
    let e1 : l1 ≡ l0 ++ substr_begin_lines = c.in_ok-write.ensures.written ∙ ap (λ (ls : List Line). l0 ++ ls) c.substr_begin.ensures in
    let e2 : l2 ≡ l1 ++ substr_size_lines = c.in_ok-write-2.ensures.written ∙ ap (λ (ls : List Line). l1 ++ ls) c.substr_size.ensures in
    let e3 : l3 ≡ l2 ++ int_head_lines = c.in_ok-write-3.ensures.written ∙ ap (λ (ls : List Line). l2 ++ ls) c.int_head.ensures in
    let e4 : l4 ≡ l3 ++ string_head_lines = c.in_ok-write-4.ensures.written ∙ ap (λ (ls : List Line). l3 ++ ls) c.string_head.ensures in
    let e5 : l5 ≡ l4 ++ string_zeros_lines = c.in_ok-write-5.ensures.written ∙ ap (λ (ls : List Line). l4 ++ ls) c.string_zeros.ensures in
    let e6 : l6 ≡ l5 ++ bytes_lines substr_bytes substr_end = c.in_ok-write-6.ensures.written ∙ ap (λ (ls : List Line). l5 ++ ls) c.bytes.ensures in
    let a7 : List Line = string_end_lines substr_end 8 in
    let a6 : List Line = bytes_lines substr_bytes substr_end ++ a7 in
    let a5 : List Line = string_zeros_lines ++ a6 in
    let a4 : List Line = string_head_lines ++ a5 in
    let a3 : List Line = int_head_lines ++ a4 in
    let a2 : List Line = substr_size_lines ++ a3 in
    then_in_turn c.write-7.result l0 l1 l7 substr_begin_lines a2 e1 (
    then_in_turn c.write-7.result l1 l2 l7 substr_size_lines a3 e2 (
    then_in_turn c.write-7.result l2 l3 l7 int_head_lines a4 e3 (
    then_in_turn c.write-7.result l3 l4 l7 string_head_lines a5 e4 (
    then_in_turn c.write-7.result l4 l5 l7 string_zeros_lines a6 e5 (
    then_in_turn c.write-7.result l5 l6 l7 (bytes_lines substr_bytes substr_end) a7 e6 (
    then_as c.write-7.result l6 l7 _ a7 c.string_end.ensures c.write-7.ensures.written))))))
