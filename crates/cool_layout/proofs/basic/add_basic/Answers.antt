use Rattle.std.proofs.Common.{◌∙◌, ap, subst, List, arith}
use Rattle.std.proofs.lemmas.List.{take_all}
use Rattle.cool_classes.specs.BasicMethods.{named_methods}
use Rattle.cool_layout.specs.SlotTables.{Has, OwnMethod, basic_own}
use Rattle.cool_layout.proofs.BasicMethods.{own_more}
use Rattle.cool_layout.proofs.basic.add_basic.Goals as goal

-- one more was added
pub loop-own-preserved : goal.loop-own-preserved
loop-own-preserved c = record {
  above = c.add_method.ensures.above ∙ c.loop-own.invariant.above;
  table = subst (λ (own : List OwnMethod). Has c.args.t.now own c.add_method.new.table) (own_more c.basic_class_methods-methods.result.now c.loop-own.own-index _ c.loop-own-test.true)
      (c.in_ok-add_method.ensures.table _ c.loop-own.invariant.table);
}

-- all were added
pub returns-clause-table : goal.returns-clause-table
returns-clause-table c =
    let rows = c.basic_class_methods-methods.result.now in
    subst (λ (own : List OwnMethod). Has c.args.t.now own c.loop-own.table)
    (ap basic_own (ap named_methods (take_all c.loop-own.own-index rows (omega (arith, c.loop-own-test.false))) ∙ c.basic_class_methods-methods.ensures))
    c.loop-own.invariant.table
