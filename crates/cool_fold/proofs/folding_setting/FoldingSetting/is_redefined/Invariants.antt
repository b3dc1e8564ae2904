-- In the loop of `FoldingSetting::is_redefined`, no proper subclass of the class was found yet: the classes that are left give the same answer as all of them.
use Rattle.std.proofs.Common.{◌≡◌, drop}
use Rattle.std.specs.List.{list_any}
use Rattle.cool_classes.specs.ClimbedChains.{above}
use Rattle.cool_rules.specs.Rules.{is_among}
use Rattle.cool_fold.specs.Definers.{definers_in}
use Rattle.cool_fold.proofs.folding_setting.FoldingSetting.is_redefined.Given as goal

abbrev pub invariant-loop-below : goal.invariant-loop-below
invariant-loop-below l = record {
  left : list_any (λ d. is_among (above l.self.table.now d) l.class) (drop l.below-index l.below-items)
      ≡ list_any (λ d. is_among (above l.self.table.now d) l.class) (definers_in l.self.definers.now.by_name.entries l.name);
}
