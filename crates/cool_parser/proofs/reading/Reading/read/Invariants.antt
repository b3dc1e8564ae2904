use Rattle.std.proofs.Common.{◌≡◌, ◌≤◌, ◌*◌, drop, Some}
use Rattle.cool_syntax.specs.declared.place.Place.{Place}
use Rattle.cool_parser.specs.ParsingMachine.{outcome, parsed}
use Rattle.cool_parser.specs.Waiting.{Good}
use Rattle.cool_parser.proofs.RoomForNodes.{weight}
use Rattle.cool_parser.proofs.reading.Reading.read.Given as goal

abbrev pub invariant-loop-i : goal.invariant-loop-i
invariant-loop-i l = record {
  same : (at : Place) → outcome at (Some l.self) (drop l.i l.fn.tokens) l.fn.end ≡ parsed l.fn.tokens l.fn.end;
  good : Good l.self.context l.self.mode;
  light : weight l.self.context ≤ 2 * l.i;
}
