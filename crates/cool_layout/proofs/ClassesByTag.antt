-- The class at a position in preorder has this position as its tag, and the dispatch table that is stored at the tag has the methods of this class.
use Rattle.std.proofs.Common.{◌≡◌, ℕ, ◌<◌, List, length, get_or, sym, ap, ◌∙◌, subst, arith}
use Rattle.cool_classes.specs.declared.class_id.ClassId.{ClassId}
use Rattle.cool_classes.specs.Chains.{Class, class_number}
use Rattle.cool_layout.specs.declared.slots.Table.{Table}
use Rattle.cool_layout.specs.Preorder.{preorder, tag}
use Rattle.cool_layout.specs.Members.{methods}
use Rattle.cool_layout.specs.Roots.{IsRooted}
use Rattle.cool_layout.specs.SlotTables.{AreTables, class_of}
use Rattle.cool_layout.proofs.TagRanges.{tag_at, preorder_long}
use Rattle.cool_layout.proofs.TablesStart.{methods_are}

module _ (p : List Class) (r : IsRooted p) (order : List ClassId) (is : order ≡ preorder p) (k : ℕ) (low : k < length order) where
  -- the class at a place of the order is that of the tag
  pub class_by_tag : get_or order k (class_number 0) ≡ class_of p k
  class_by_tag = ap (λ (xs : List ClassId). get_or xs k (class_number 0)) is

  -- there are no more tags than classes
  pub tag_within : k < length p
  tag_within = let long : length (preorder p) ≡ length p = preorder_long p r in let all : length order ≡ length (preorder p) = ap length is in omega arith

  -- the class at a place is one of the table
  pub class_within : (get_or order k (class_number 0)).0 < length p
  class_within = subst (λ (c : ClassId). c.0 < length p) (sym class_by_tag) (tag_at p r k tag_within).1

  -- the place is its tag
  pub place_is_tag : k ≡ tag p (get_or order k (class_number 0))
  place_is_tag = sym (ap (tag p) class_by_tag ∙ (tag_at p r k tag_within).0)

  -- the table at the tag has its methods
  pub methods_by_tag : (all : List Table) → AreTables p (length p) all → (t : Table) → (get_or all k t).methods.items ≡ methods p (get_or order k (class_number 0))
  methods_by_tag all are t = methods_are p r k tag_within (get_or all k t) (are.tables k t tag_within) ∙ ap (methods p) (sym class_by_tag)
