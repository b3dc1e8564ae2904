-- The proper ancestors of a class are its parent and the ancestors of its parent.
use Rattle.std.proofs.Common.{◌≡◌, ◌<◌, List, [], length, Option, Some, None, Bool, sym, ap, ◌∙◌, subst}
use Rattle.std.specs.Prelude.{IsTrue, ◌↔◌}
use Rattle.cool_classes.specs.declared.class_id.ClassId.{ClassId}
use Rattle.cool_classes.specs.declared.class_id.Ty.TheVariants.{Class as IsClass}
use Rattle.cool_classes.specs.Chains.{Class, parent_of, IsChain, Below}
use Rattle.cool_classes.specs.ClimbedChains.{above, chain}
use Rattle.cool_classes.specs.Tables.{IsTable}
use Rattle.cool_classes.proofs.ChainsOfTables.{above_of, chain_is}
use Rattle.cool_rules.specs.Rules.{do_conform, is_among}
use Rattle.cool_rules.proofs.RulesOfTables.{do_conform_is}

above_parent : (p : List Class) (d q : ClassId) → IsTable p → q.0 < length p → parent_of p d ≡ Some q → above p d ≡ chain p q
above_parent p d q table within e = above_of p d (chain p q) (subst (λ (o : Option ClassId). IsChain p o (chain p q)) (sym e) (chain_is p q table within))

pub above_top : (p : List Class) (d : ClassId) → parent_of p d ≡ None → above p d ≡ []
above_top p d e = above_of p d [] (subst (λ (o : Option ClassId). IsChain p o []) (sym e) tt)

-- whether the parent is below a class decides whether that class is above
pub is_above : (p : List Class) (d q k : ClassId) (r : Bool) → IsTable p → q.0 < length p → parent_of p d ≡ Some q → IsTrue r ↔ Below p q k → r ≡ is_among (above p d) k
unfolding do_conform
is_above p d q k r table within e h =
    do_conform_is p q (IsClass q) (IsClass k) r table within within h ∙ ap (λ (ds : List ClassId). is_among ds k) (sym (above_parent p d q table within e))
