-- `file_label` returns the label of the constant that has the name of the file of a source location: the name that the code finds by the number of the file is
-- `file_name` of the specification.
use Rattle.std.proofs.Common.{◌≡◌, [], ap, sym, ◌∙◌}
use Rattle.std.specs.Prelude.{string_bytes}
use Rattle.std.proofs.lemmas.Result.{IfOk-weaker}
use Rattle.std.proofs.lemmas.List.{get_or-map}
use Rattle.cool_codegen.specs.Code.{file_name, string_label}
use Rattle.cool_codegen.specs.CodeSettings.{context}
use Rattle.cool_codegen.proofs.constant_labels.file_label.Goals as goal

pub returns-clause-label : goal.returns-clause-label
returns-clause-label c =
    let same : c.as_bytes.result.now ≡ file_name (context c.args.setting.now) c.args.at =
    c.as_bytes.ensures.value ∙ c.as_str-name.ensures.value
    ∙ sym (get_or-map string_bytes c.args.setting.now.names.now c.args.at.file c.index-setting-at.result [] c.requires.file) in
    IfOk-weaker c.string_label.result _ _ (λ label is g more. is g more ∙ ap (string_label g) same) c.string_label.ensures.label
