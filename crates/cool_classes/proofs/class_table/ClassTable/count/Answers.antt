-- `ClassTable::count` promises that the classes are a complete class table that keeps the rules of classes, which is the invariant of `ClassTable` (`IsIndexed`
-- of `OwnNames.antt`).
use Rattle.std.proofs.Common.{subst}
use Rattle.cool_classes.specs.Entries.{depth_at}
use Rattle.cool_classes.specs.LawfulTables.{IsLawful}
use Rattle.cool_classes.specs.Tables.{IsWholeTable}
use Rattle.cool_classes.proofs.class_table.ClassTable.count.Goals as goal

pub returns-clause-whole : goal.returns-clause-whole
returns-clause-whole c =
    let whole = c.self.invariant.whole in
    subst IsWholeTable c.self.view_is (record { table = whole.table; depth = depth_at c.self.inside.entries.items; grounded = whole.grounded })

pub returns-clause-lawful : goal.returns-clause-lawful
returns-clause-lawful c = subst IsLawful c.self.view_is c.self.invariant.lawful
