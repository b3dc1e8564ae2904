-- `find_slot` returns the slot of a method name in the dispatch table of the nearest class that has the name, or none. Its loop goes from the table of a class
-- to that of its parent.
use Rattle.std.proofs.Common.{◌≡◌, ◌<◌, List, Some, None, sym, ap, ◌∙◌, subst, arith}
use Rattle.std.specs.Prelude.{bytes_eq, IfSome}
use Rattle.std.specs.Map.{lookup}
use Rattle.cool_layout.specs.declared.slots.Table.{Table}
use Rattle.cool_layout.specs.SlotTables.{slots_shown}
use Rattle.cool_layout.proofs.TablesGrow.{shown_lookup}
use Rattle.cool_layout.proofs.FindingSlots.{found_here, found_above, found_nowhere}
use Rattle.cool_layout.proofs.slots.find_slot.Goals as goal

pub returns-in-Some : goal.returns-in-Some
returns-in-Some c p n r are =
    let all : List Table = c.args.tables.now in
    let same = are.same in
    let inside = c.loop-slot.invariant.0 in
    let low : c.loop-slot.at < n = omega arith in
    let t : Table = c.index-tables-at.result in
    let found : lookup (bytes_eq c.args.name.now) (slots_shown t.own.entries) ≡ Some c.in-Some.slot.now = sym (c.in-Some.ensures.value ∙ shown_lookup c.args.name.now t.own.entries) in
    sym (c.loop-slot.invariant.1 p n r are ∙ found_here p r n all are c.loop-slot.at low t c.index-tables-at.is c.args.name.now c.in-Some.slot.now found)

pub loop-slot-preserved : goal.loop-slot-preserved
loop-slot-preserved c =
    let all : List Table = c.args.tables.now in
    let t : Table = c.index-tables-at.result in
    let inside = c.loop-slot.invariant.0 in
    let less : c.in-Some-above.above < c.loop-slot.at =
    subst (λ o. IfSome o (λ j. j < c.loop-slot.at)) (ap (λ (x : Table). x.above) (sym c.index-tables-at.is) ∙ c.in-Some-above.is) (c.requires.low c.loop-slot.at t inside) in (
      omega arith,
      λ p n r are.
          let same = are.same in
          let low : c.loop-slot.at < n = omega arith in
          let none : lookup (bytes_eq c.args.name.now) (slots_shown t.own.entries) ≡ None = sym (c.in_default.ensures.value ∙ shown_lookup c.args.name.now t.own.entries) in
          c.loop-slot.invariant.1 p n r are ∙ found_above p r n all are c.loop-slot.at low t c.index-tables-at.is c.args.name.now c.in-Some-above.above none c.in-Some-above.is,
    )

pub returns-in-None : goal.returns-in-None
returns-in-None c p n r are =
    let all : List Table = c.args.tables.now in
    let same = are.same in
    let inside = c.loop-slot.invariant.0 in
    let low : c.loop-slot.at < n = omega arith in
    let t : Table = c.index-tables-at.result in
    let none : lookup (bytes_eq c.args.name.now) (slots_shown t.own.entries) ≡ None = sym (c.in_default.ensures.value ∙ shown_lookup c.args.name.now t.own.entries) in
    sym (c.loop-slot.invariant.1 p n r are ∙ found_nowhere p r n all are c.loop-slot.at low t c.index-tables-at.is c.args.name.now none c.in-None.is)
