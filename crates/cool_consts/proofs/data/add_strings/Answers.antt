-- `add_strings` appends the data lines of string constants, which are String objects numbered from 0, each after the Int of its length; each step of its loop
-- appends one of both.
use Rattle.std.proofs.Common.{◌≡◌, ℕ, ◌+◌, ◌<◌, List, [], ◌∷◌, ◌++◌, length, take, sym, ap, ◌∙◌, arith, append_assoc}
use Rattle.std.specs.Global.{Vec}
use Rattle.std.proofs.lemmas.List.{take_more, length-take-le, length-map, map_push}
use Rattle.mips_isa.specs.Lines.{Name, Line, lines_of}
use Rattle.cool_runtime.specs.LinesOfData.{string_lines}
use Rattle.cool_runtime.proofs.AddedLines.{with_lines}
use Rattle.cool_consts.specs.Labels.{string_constant, string_length}
use Rattle.cool_consts.specs.LinesOfConstants.{strings_lines}
use Rattle.cool_consts.proofs.StringKeys.{bytes_of}
use Rattle.cool_consts.proofs.MoreLines.{one_more_string}
use Rattle.cool_consts.proofs.data.add_strings.Goals as goal

pub loop-index-preserved : goal.loop-index-preserved
loop-index-preserved c =
    let all : List (Vec ℕ) = c.args.strings.now in
    let i : ℕ = c.loop-index.index in
    let tags = c.args.tags in
    let inside : i < length all = c.loop-index-test.true in
    let key : Vec ℕ = c.index-strings-index.result in
    let long : length (bytes_of (take i all)) ≡ i = length-map (take i all) (λ v. v.items) ∙ length-take-le i all (omega arith) in
    let before : List Line = lines_of c.args.lines.now.items in
    let done : List Line = strings_lines tags.int tags.string 0 (bytes_of (take i all)) in
    let here : Name → Name → List ℕ → List Line = λ name length_name bytes. string_lines name length_name tags.int tags.string bytes in
    let name : c.as_slice.result.now ≡ string_constant i = c.as_slice.ensures.value ∙ c.in_ok-name.ensures in
    let length_name : c.as_slice-in-loop-index.result.now ≡ string_length i = c.as_slice-in-loop-index.ensures.value ∙ c.in_ok-length_name.ensures in
    let bytes : c.as_slice-in-loop-index-2.result.now ≡ key.items = c.as_slice-in-loop-index-2.ensures.value in
    let taken : bytes_of (take (i + 1) all) ≡ bytes_of (take i all) ++ key.items ∷ [] =
    ap bytes_of (take_more all i key inside ∙ ap (λ (k : Vec ℕ). take i all ++ k ∷ []) (sym c.index-strings-index.is)) ∙ map_push (λ v. v.items) (take i all) key in
    let more : strings_lines tags.int tags.string 0 (bytes_of (take (i + 1) all)) ≡ done ++ here (string_constant i) (string_length i) key.items =
    ap (strings_lines tags.int tags.string 0) taken ∙ one_more_string tags.int tags.string 0 (bytes_of (take i all)) key.items
    ∙ ap (λ (j : ℕ). done ++ here (string_constant j) (string_length j) key.items) (let e : 0 + length (bytes_of (take i all)) ≡ i = omega arith in e) in
    with_lines _ _ _ _ c.in_ok-append.ensures.items c.in_ok-string.ensures
    ∙ ap (λ (n : Name). lines_of c.loop-index.lines.items ++ here n c.as_slice-in-loop-index.result.now c.as_slice-in-loop-index-2.result.now) name
    ∙ ap (λ (n : Name). lines_of c.loop-index.lines.items ++ here (string_constant i) n c.as_slice-in-loop-index-2.result.now) length_name
    ∙ ap (λ (bs : List ℕ). lines_of c.loop-index.lines.items ++ here (string_constant i) (string_length i) bs) bytes
    ∙ ap (λ (l : List Line). l ++ here (string_constant i) (string_length i) key.items) c.loop-index.invariant
    ∙ append_assoc before done (here (string_constant i) (string_length i) key.items) ∙ ap (λ (l : List Line). before ++ l) (sym more)
