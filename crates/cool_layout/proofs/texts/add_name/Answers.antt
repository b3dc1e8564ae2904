-- `add_name` appends the lines of assembly of the String object with the name of a class and of the Int object with its length, as `name_lines` of
-- `LinesOfLayout.antt` lists them.
use Rattle.std.proofs.Common.{◌≡◌, ℕ, List, ap, ◌∙◌}
use Rattle.mips_isa.specs.Lines.{Name, lines_of}
use Rattle.cool_classes.specs.Chains.{name_of}
use Rattle.cool_runtime.specs.LinesOfData.{string_lines}
use Rattle.cool_runtime.proofs.AddedLines.{adds}
use Rattle.cool_layout.specs.Labels.{class_name, class_name_length}
use Rattle.cool_layout.specs.LinesOfLayout.{name_lines, int_tag}
use Rattle.cool_layout.proofs.texts.add_name.Goals as goal

pub returns : goal.returns
returns c =
    let p = c.args.t.now in
    let here : Name = class_name c.args.class in
    let long : Name = class_name_length c.args.class in
    let bytes : List ℕ = name_of p c.args.class in
    let name : c.as_slice.result.now ≡ here = c.as_slice.ensures.value ∙ c.in_ok-name.ensures in
    let length_name : c.as_slice-2.result.now ≡ long = c.as_slice-2.ensures.value ∙ c.in_ok-length_name.ensures in
    let text : c.as_slice-3.result.now ≡ bytes = c.as_slice-3.ensures ∙ c.name.ensures in
    let all : lines_of c.in_ok-string.string.items ≡ name_lines p c.args.class =
    c.in_ok-string.ensures
    ∙ ap (λ (n : Name). string_lines n c.as_slice-2.result.now c.args.tags.int c.args.tags.string c.as_slice-3.result.now) name
    ∙ ap (λ (n : Name). string_lines here n c.args.tags.int c.args.tags.string c.as_slice-3.result.now) length_name
    ∙ ap (λ (xs : List ℕ). string_lines here long c.args.tags.int c.args.tags.string xs) text
    ∙ ap (λ (n : ℕ). string_lines here long n c.args.tags.string bytes) c.requires.int
    ∙ ap (λ (n : ℕ). string_lines here long (int_tag p) n bytes) c.requires.string in
    adds c.append.result _ _ _ _ c.append.ensures.items all
