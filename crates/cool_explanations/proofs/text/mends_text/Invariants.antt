-- In the loop of `mends_text`, the text so far, followed by that of the fixes that are left, is the text of all fixes.
use Rattle.std.proofs.Common.{◌≡◌, ◌++◌, drop, map}
use Rattle.std.specs.Prelude.{string_bytes}
use Rattle.std.specs.List.{flat_map}
use Rattle.cool_faults.specs.Files.{bytes_of}
use Rattle.cool_explanations.specs.Texts.{mend_text}
use Rattle.cool_explanations.proofs.text.mends_text.Given as goal

abbrev pub invariant-loop-mend : goal.invariant-loop-mend
invariant-loop-mend l =
    l.text.items ++ flat_map (mend_text (map string_bytes l.names) (bytes_of l.files) l.file) (drop l.mend-index l.mends)
    ≡ flat_map (mend_text (map string_bytes l.names) (bytes_of l.files) l.file) l.mends
