-- In the loop of `all_after_text`, the text so far, followed by that of the steps that are left, is the text of all steps. The compile-time errors that are left
-- are at places in the files.
use Rattle.std.proofs.Common.{◌≡◌, ◌++◌, drop, length, map}
use Rattle.std.specs.Prelude.{string_bytes}
use Rattle.std.specs.List.{AllByRecursion, flat_map}
use Rattle.cool_mend.specs.AfterFixes.{ArePlaced}
use Rattle.cool_explanations.specs.Texts.{after_text}
use Rattle.cool_explanations.proofs.text.all_after_text.Given as goal

abbrev pub invariant-loop-step : goal.invariant-loop-step
invariant-loop-step l = record {
  placed : AllByRecursion (ArePlaced (length l.names)) (drop l.step-index l.all);
  text : l.text.items ++ flat_map (after_text (map string_bytes l.names)) (drop l.step-index l.all) ≡ flat_map (after_text (map string_bytes l.names)) l.all;
}
