-- The loop of `find_slot` has reached a class in whose dispatch table the method name has the same slot as in that of the first class.
use Rattle.std.proofs.Common.{◌≡◌, ℕ, List, ◌<◌, length}
use Rattle.cool_classes.specs.Chains.{Class}
use Rattle.cool_layout.specs.Members.{slot}
use Rattle.cool_layout.specs.Roots.{IsRooted}
use Rattle.cool_layout.specs.SlotTables.{AreTables, class_of}
use Rattle.cool_layout.proofs.slots.find_slot.Given as goal

abbrev pub invariant-loop-slot : goal.invariant-loop-slot
invariant-loop-slot l = (l.at < length l.tables) × ((p : List Class) (n : ℕ) → IsRooted p → AreTables p n l.tables → slot p (class_of p l.fn.start) l.name ≡ slot p (class_of p l.at) l.name)

abbrev pub decreases-loop-slot : goal.decreases-loop-slot
decreases-loop-slot l = l.at
