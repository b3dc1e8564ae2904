-- `start_table` returns a dispatch table with the methods of the parent's table, and none that the class defines. It has no method at all if the class has no
-- parent.
use Rattle.std.proofs.Common.{ℕ, ◌<◌, length, get_or, sym, ap, ◌∙◌, subst, arith}
use Rattle.std.specs.Prelude.{IfSome}
use Rattle.cool_layout.specs.declared.slots.Table.{Table}
use Rattle.cool_layout.specs.SlotTables.{IsTableAt}
use Rattle.cool_layout.proofs.TablesStart.{start, methods_are, methods_first}
use Rattle.cool_layout.proofs.slots.start_table.Goals as goal
use Rattle.cool_layout.proofs.slots.start_table.Goals.{in-Some+in_ok-methods-in-Some, in-None}

pub returns-clause-table : goal.returns-clause-table
returns-clause-table c =
    let p = c.args.t.now in
    let n : ℕ = length c.args.tables.now in
    start p (record { above = c.match-above.above; own = c.new.result; methods = c.match-above.methods }) c.new.ensures.empty
    (elim c.match-above.branch [
      | in-Some+in_ok-methods-in-Some w ↦
          let t : Table = get_or c.args.tables.now w.in-Some.tag w.index-tables-tag.result in
          let j : ℕ = w.in-Some.tag in
          let low : j < n = subst (λ o. IfSome o (λ k. k < n)) w.in-Some.is c.requires.within in
          let is : IsTableAt p j t = c.requires.tables.tables j w.index-tables-tag.result low in
          let in_table : j < length p = (let l = c.requires.tables.low in omega arith) in
          ap (λ v. v.items) w.methods-is ∙ w.in_ok-methods-in-Some.ensures.items ∙ w.as_slice.ensures.value ∙ methods_are p c.requires.rooted j in_table t is ∙ ap (methods_first p) (sym w.above-is)
      | in-None w ↦ ap (λ v. v.items) w.methods-is ∙ w.new-methods.ensures.items ∙ ap (methods_first p) (sym (w.above-is ∙ w.in-None.is))
    ])
