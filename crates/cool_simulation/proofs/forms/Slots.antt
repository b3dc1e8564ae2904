-- A method has the same index (slot) in the dispatch table of its class and in those of all descendants.
use Rattle.std.proofs.Common.{◌≡◌, ℕ, ◌<◌, List, length, Option, Some, is_some, refl, ap, ◌∙◌}
use Rattle.cool_classes.specs.declared.class_id.ClassId.{ClassId}
use Rattle.cool_classes.specs.declared.method.MethodRef.{MethodRef}
use Rattle.cool_classes.specs.Chains.{Class, Below}
use Rattle.cool_classes.specs.ClimbedChains.{chain}
use Rattle.cool_classes.specs.Features.{implementation}
use Rattle.cool_classes.specs.Tables.{IsWholeTable}
use Rattle.cool_layout.specs.Roots.{IsRooted}
use Rattle.cool_layout.specs.Members.{slots, slot, method}
use Rattle.cool_layout.proofs.SlotNames.{position_is, slots_any, same_slot}
use Rattle.lists.proofs.Options.{some_value}

module _ (p : List Class) (whole : IsWholeTable p) where
  rooted : IsRooted p
  rooted = record {
    table = whole.table;
    above = λ c q within e. (whole.grounded.above c q within e).0;
    top = λ c within e. (whole.grounded.top c within e).0;
  }

  -- a class that has a method of a name has a place for it
  pub slot_there : (c : ClassId) (f : List ℕ) (n : MethodRef) → implementation p (chain p c) f ≡ Some n → (k : ℕ) × (slot p c f ≡ Some k)
  slot_there c f n is = some_value (slot p c f) (position_is f (slots p c) ∙ slots_any p (chain p c) f ∙ ap (λ (o : Option MethodRef). is_some o) is)

  -- it is the slot in the classes below, too
  pub slot_kept : (d c : ClassId) → d.0 < length p → Below p d c → (f : List ℕ) (k : ℕ) → slot p c f ≡ Some k → slot p d f ≡ Some k
  slot_kept d c within (ds, h, there) f k e = same_slot p rooted f k d within ds h c there e

  -- the method that stands there
  pub method_is : (d : ClassId) (f : List ℕ) (m : MethodRef) → implementation p (chain p d) f ≡ Some m → method p d f ≡ m
  method_is d f m is = rw is refl
