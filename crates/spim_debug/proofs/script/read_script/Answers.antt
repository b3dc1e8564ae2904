use Rattle.std.proofs.Common.{ap, map, ◌∙◌}
use Rattle.mips_isa.specs.Lines.{lines_of}
use Rattle.mips_isa.specs.Assembly.{image_of}
use Rattle.mips_text.specs.Reading.{lines_in}
use Rattle.mips_asm.specs.TextLabels.{address_of, text_end, text_label}
use Rattle.spim_debug.specs.Scripts.{commands_in, place_of}
use Rattle.spim_debug.proofs.CommandsForText.{answered_for, commands_for}
use Rattle.spim_debug.proofs.LabelsOfText.{labels_name_words}
use Rattle.spim_debug.proofs.PlacesOfText.{places_name_words}
use Rattle.spim_debug.proofs.ReadScripts.{script_read}
use Rattle.spim_debug.proofs.script.read_script.Goals as goal

pub returns-clause-exact : goal.returns-clause-exact
returns-clause-exact c =
    let rows = lines_of c.args.lines.now in
    let labels = c.in_ok-labels.labels in
    script_read labels.end (text_end rows) (address_of labels) (text_label rows) c.args.bytes.now _ c.read_lines.result c.in_ok-labels.ensures.end c.in_ok-labels.ensures.labels
    (ap (map (λ part. part.now)) c.as_slice.ensures.value ∙ c.in_ok-script.ensures.exact) c.read_lines.ensures

pub returns-clause-for_text : goal.returns-clause-for_text
returns-clause-for_text c =
    let rows = lines_of c.args.lines.now in
    let text = (image_of rows).text in
    answered_for text (commands_in (place_of rows) c.args.bytes.now) c.read_lines.result (returns-clause-exact c)
    (commands_for text (place_of rows) 1 (lines_in c.args.bytes.now) (places_name_words text (text_label rows) (labels_name_words rows)))
