-- In the loop of `warnings_text`, the text so far, followed by that of the warnings that are left, is the text of all warnings.
use Rattle.std.proofs.Common.{◌≡◌, ◌++◌, drop, map}
use Rattle.std.specs.Prelude.{string_bytes}
use Rattle.std.specs.List.{flat_map}
use Rattle.cool_faults.specs.Files.{bytes_of}
use Rattle.cool_explanations.specs.Texts.{warning_text}
use Rattle.cool_explanations.proofs.warnings.warnings_text.Given as goal

abbrev pub invariant-loop-notice : goal.invariant-loop-notice
invariant-loop-notice l =
    l.text.items ++ flat_map (warning_text (map string_bytes l.names) (bytes_of l.files)) (drop l.notice-index l.all)
    ≡ flat_map (warning_text (map string_bytes l.names) (bytes_of l.files)) l.all
