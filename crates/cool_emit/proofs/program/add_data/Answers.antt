-- `add_data` appends the directive `.data`, the layout, the constants and the word at which the heap begins, in this order.
use Rattle.std.proofs.Common.{◌≡◌, ◌∙◌, ◌++◌, ◌∷◌, ℕ, List, [], ap, append_assoc, arith}
use Rattle.std.proofs.lemmas.List.{map_push}
use Rattle.mips_isa.specs.Assembly.{directive_line}
use Rattle.mips_isa.specs.Lines.{Line, Directive, ToData, lines_of}
use Rattle.cool_classes.specs.Chains.{Class, class_number}
use Rattle.cool_consts.specs.LinesOfConstants.{constants_lines}
use Rattle.cool_layout.specs.LinesOfLayout.{layout_lines}
use Rattle.cool_layout.specs.Preorder.{tag}
use Rattle.cool_layout.proofs.BasicNames.{five}
use Rattle.cool_emit.specs.Programs.{heap_lines}
use Rattle.cool_emit.proofs.program.add_data.Goals as goal
use Rattle.std.proofs.lemmas.Result.{on_ok_weaker}

-- four lists of lines, each after those before it
in_turn : (l0 l1 l2 l3 l4 a b c d : List Line) → l1 ≡ l0 ++ a → l2 ≡ l1 ++ b → l3 ≡ l2 ++ c → l4 ≡ l3 ++ d
    → l4 ≡ l0 ++ (a ++ (b ++ (c ++ d)))
in_turn l0 l1 l2 l3 l4 a b c d e f g h =
    h ∙ (ap (λ ls. ls ++ d) (g ∙ (ap (λ ls. ls ++ c) (f ∙ ap (λ ls. ls ++ b) e)))
    ∙ (append_assoc ((l0 ++ a) ++ b) c d ∙ (append_assoc (l0 ++ a) b (c ++ d) ∙ append_assoc l0 a (b ++ (c ++ d)))))

pub returns : goal.returns
returns c =
    let e = c.args.emission.now in
    let p = e.program.now in
    let five = five p c.requires.sound.buildable.typed.whole.table.basic in
    let int : c.tag.result ≡ tag p (class_number 2) = c.tag.ensures p c.requires.sound.layout (omega arith) in
    let bool : c.tag-2.result ≡ tag p (class_number 3) = c.tag-2.ensures p c.requires.sound.layout (omega arith) in
    let string : c.tag-3.result ≡ tag p (class_number 4) = c.tag-3.ensures p c.requires.sound.layout (omega arith) in
    let l1 = lines_of c.push.new.self.items in
    let l2 = lines_of c.add_lines.new.lines.items in
    let directive : l1 ≡ lines_of c.args.lines.now.items ++ directive_line ToData ∷ [] =
    ap lines_of c.in_ok-push.ensures.items ∙ (map_push _ _ _ ∙ ap (λ labels. lines_of c.args.lines.now.items
    ++ record { labels = labels; statement = Directive ToData } ∷ []) c.none.ensures) in
    let layout : l2 ≡ l1 ++ layout_lines p =
    c.in_ok-add_lines.ensures
    ∙ (ap (λ ls. l1 ++ ls) c.in_ok-lines.ensures ∙ ap (λ (q : List Class). l1 ++ layout_lines q) c.table.ensures) in
    let constant_lines =
    constants_lines (tag p (class_number 2)) (tag p (class_number 3)) (tag p (class_number 4)) c.args.consts.now in
    let constants : lines_of c.add_lines-2.new.lines.items ≡ l2 ++ constant_lines =
    c.in_ok-add_lines-2.ensures
    ∙ (ap (λ ls. l2 ++ ls) c.in_ok-constants.ensures
    ∙ (ap (λ (n : ℕ). l2 ++ constants_lines n c.tag-2.result c.tag-3.result c.args.consts.now) int
    ∙ (ap (λ (n : ℕ). l2 ++ constants_lines (tag p (class_number 2)) n c.tag-3.result c.args.consts.now) bool
    ∙ ap (λ (n : ℕ). l2 ++ constants_lines (tag p (class_number 2)) (tag p (class_number 3)) n c.args.consts.now) string))) in
    on_ok_weaker c.add_heap.result
    (λ h. in_turn (lines_of c.args.lines.now.items) l1 l2 (lines_of c.add_lines-2.new.lines.items)
    (lines_of c.add_heap.new.lines.items) (directive_line ToData ∷ []) (layout_lines p) constant_lines heap_lines
    directive layout constants h)
    c.add_heap.ensures
