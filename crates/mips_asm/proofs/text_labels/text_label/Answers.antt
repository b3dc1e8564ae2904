-- `text_label` returns the address of the machine word that a label names, from the label's segment and the number of words of text before it.
use Rattle.std.proofs.Common.{◌≡◌, sym, ◌∙◌, ap, ℕ, ◌+◌, ◌*◌, List, Option, Some, None, refl, arith}
use Rattle.mips_isa.specs.declared.address_map.TheConstants.{TEXT_START}
use Rattle.mips_isa.specs.declared.place.Segment.{Segment}
use Rattle.mips_isa.specs.declared.place.Segment.TheVariants.{Text, Data}
use Rattle.mips_isa.specs.Lines.{Name, Line, lines_of}
use Rattle.mips_isa.specs.Assembly.{start_position, place_of}
use Rattle.mips_asm.specs.Completing.{segment_of_name}
use Rattle.mips_asm.specs.TextWords.{words_before}
use Rattle.mips_asm.specs.TextLabels.{address_or_start, text_label}
use Rattle.mips_asm.proofs.WordsOfText.{lines_fit}
use Rattle.mips_asm.proofs.LabelsOfText.{label_in, label_by_segment}
use Rattle.mips_asm.proofs.text_labels.text_label.Goals as goal

-- the text label that a name is, by the segment that was found and the words before the label
found : (start : Option ℕ) (end : ℕ) (lines : List Line) (name : Name) (words : ℕ) (segment : Option Segment)
    → address_or_start start end name (place_of lines name) ≡ text_label lines name
    → segment ≡ segment_of_name Text lines name → words ≡ words_before lines name
    → label_in start end name (TEXT_START + 4 * words) segment ≡ text_label lines name
found start end lines name words segment known here counted =
    let at : TEXT_START + 4 * words ≡ TEXT_START + 4 * (0 + words_before lines name) = omega arith in
    ap (label_in start end name (TEXT_START + 4 * words)) here
    ∙ label_by_segment start end name start_position lines (TEXT_START + 4 * words) at
    ∙ known

pub words_before-requires : goal.words_before-requires
words_before-requires c = lines_fit (lines_of c.args.lines.now) c.requires.image

pub returns-in-Some-Text : goal.returns-in-Some-Text
returns-in-Some-Text c =
    let text = c.find-text.result in
    let lines = lines_of c.args.lines.now in
    let name = c.args.name.now in
    c.label.ensures
    ∙ found text.start text.end lines name c.words_before.result (Some Text) (c.find-text.ensures.labels name)
    (ap Some (sym c.in-Some-Text.field-0-is) ∙ sym c.in-Some-Text.is ∙ c.segment_of.ensures) c.words_before.ensures.exact

pub returns-in-Some-Data : goal.returns-in-Some-Data
returns-in-Some-Data c =
    let text = c.find-text.result in
    let lines = lines_of c.args.lines.now in
    let name = c.args.name.now in
    found text.start text.end lines name (words_before lines name) (Some Data) (c.find-text.ensures.labels name)
    (ap Some (sym c.in-Some-Data.field-0-is) ∙ sym c.in-Some-Data.is ∙ c.segment_of.ensures) refl

pub returns-in-None : goal.returns-in-None
returns-in-None c =
    let text = c.find-text.result in
    let lines = lines_of c.args.lines.now in
    let name = c.args.name.now in
    c.added_label.ensures
    ∙ found text.start text.end lines name (words_before lines name) None (c.find-text.ensures.labels name) (sym c.in-None.is ∙ c.segment_of.ensures) refl
