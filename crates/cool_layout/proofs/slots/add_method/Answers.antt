-- `add_method` looks up the slot that a class inherits for a method name, and adds the method to the dispatch table with this slot. The inherited slot is in
-- the table, as `add_own` requires.
use Rattle.std.proofs.Common.{ℕ, [], ◌∷◌, ◌++◌, length, Option, sym, subst}
use Rattle.std.proofs.lemmas.Result.{on_ok_weaker}
use Rattle.cool_layout.specs.SlotTables.{IsTableFor, slots_in, methods_in}
use Rattle.cool_layout.proofs.FindingSlots.{inherited_in, are_low}
use Rattle.cool_layout.proofs.slots.add_method.Goals as goal

pub inherited_slot-inherited-requires-clause-low : goal.inherited_slot-inherited-requires-clause-low
inherited_slot-inherited-requires-clause-low c = are_low c.args.t.now (length c.args.tables.now) c.args.tables.now c.requires.tables

pub add_own-requires : goal.add_own-requires
add_own-requires c =
    let p = c.args.t.now in
    record {
      low = inherited_in (slots_in p c.args.table.now.above) (methods_in p c.args.table.now.above) c.requires.table.0 c.args.table.now c.requires.table.1 c.args.name.now c.inherited_slot-inherited.result
          (c.inherited_slot-inherited.ensures p (length c.args.tables.now) c.requires.rooted c.requires.tables);
    }

pub returns-clause-table : goal.returns-clause-table
returns-clause-table c =
    let p = c.args.t.now in
    let above = c.args.table.now.above in
    on_ok_weaker c.add_own.result
    (λ h own is.
    let more = h (slots_in p above) (methods_in p above) own (c.inherited_slot-inherited.ensures p (length c.args.tables.now) c.requires.rooted c.requires.tables) is in
    subst (λ (o : Option ℕ). IsTableFor (slots_in p o) (methods_in p o) (own ++ record { name = c.args.name.now; method = c.args.method } ∷ []) c.add_own.new.table) (sym c.add_own.ensures.above) more)
    c.add_own.ensures.table
