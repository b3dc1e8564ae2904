-- In the loop of `explanations_text`, the text so far, followed by that of the explanations that are left, is the text of all explanations. The
-- compile-time errors that are left are at places in the files.
use Rattle.std.proofs.Common.{◌≡◌, ◌++◌, drop, length, map}
use Rattle.std.specs.Prelude.{string_bytes}
use Rattle.std.specs.List.{AllByRecursion, flat_map}
use Rattle.cool_syntax.specs.TokenFacts.{IsPlaced}
use Rattle.cool_faults.specs.Files.{bytes_of}
use Rattle.cool_faults.specs.Verdicts.{place_of}
use Rattle.cool_explanations.specs.Texts.{explanation_text}
use Rattle.cool_explanations.proofs.text.explanations_text.Given as goal

abbrev pub invariant-loop-told : goal.invariant-loop-told
invariant-loop-told l = record {
  placed : AllByRecursion (λ x. IsPlaced (length l.names) (place_of x.fault)) (drop l.told-index l.all);
  text : l.text.items ++ flat_map (explanation_text (map string_bytes l.names) (bytes_of l.files)) (drop l.told-index l.all)
      ≡ flat_map (explanation_text (map string_bytes l.names) (bytes_of l.files)) l.all;
}
