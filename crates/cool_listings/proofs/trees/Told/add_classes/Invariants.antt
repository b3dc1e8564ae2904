-- In the loop of `Told::add_classes`, the text so far, followed by the lines of the classes that are left, is the whole text. The classes that are left have
-- the next numbers.
use Rattle.std.proofs.Common.{◌≡◌, ◌+◌, ◌++◌, drop, length}
use Rattle.std.specs.Option.{option_map}
use Rattle.cool_extents.specs.FoundExtents.{found_extents}
use Rattle.cool_listings.specs.Columns.{FitsClasses}
use Rattle.cool_listings.specs.TreeLines.{classes_text}
use Rattle.cool_listings.proofs.trees.Told.add_classes.Given as goal

abbrev pub invariant-loop-class : goal.invariant-loop-class
invariant-loop-class l = record {
  text : l.self.text.items ++ classes_text (option_map (λ p. p.now) l.program) (found_extents l.tokens) l.self.number (drop l.class-index l.classes)
      ≡ l.fn.self.text.items ++ classes_text (option_map (λ p. p.now) l.program) (found_extents l.tokens) l.fn.self.number l.classes;
  number : l.self.number + length (drop l.class-index l.classes) ≡ l.fn.self.number + length l.classes;
  fits : FitsClasses (option_map (λ p. p.now) l.program) l.self.number (drop l.class-index l.classes);
}
