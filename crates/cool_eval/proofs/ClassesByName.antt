-- The class that `new` finds by a name is the first class of the class table with this name, or none.
use Rattle.std.proofs.Common.{◌≡◌, ℕ, List, Option, Some, None, Bool, false, ap, sym, ◌∙◌, refl}
use Rattle.std.specs.Prelude.{bytes_eq, if◌then◌else◌}
use Rattle.cool_classes.specs.declared.class_id.ClassId.{ClassId}
use Rattle.cool_classes.specs.Chains.{Class}
use Rattle.cool_classes.specs.Names.{self_type}
use Rattle.cool_classes.specs.Tables.{IsTable, IsNamed}
use Rattle.cool_classes.proofs.ClassesNamed.{named_back}
use Rattle.cool_rules.specs.Rules.{class_named}
use Rattle.cool_rules.proofs.NamesOfTables.{class_by_name}
use Rattle.cool_meaning.specs.Values.{Value, class_of}
use Rattle.cool_meaning.specs.Lookups.{class_made}

-- the class of a name, or none, is the first one of the name
pub named_is : (p : List Class) (name : List ℕ) (r : Option ClassId) → IsTable p → IsNamed p name r → r ≡ class_named p name
named_is p name (Some c) h is = sym (class_by_name p h c name is.0 is.1)
named_is p name None h none = by (class_named p name) refl
  where
    by : (o : Option ClassId) → class_named p name ≡ o → None ≡ class_named p name
    by None e = sym e
    by (Some c) e = let there = named_back p name c e in absurd (none c there.0 there.1)

-- and for another name the class of the name
pub made_named : (p : List Class) (self : Value) (name : List ℕ) (r : Option ClassId) → IsTable p → bytes_eq name self_type ≡ false → IsNamed p name r → r ≡ class_made p self name
made_named p self name r h other is = named_is p name r h is ∙ sym (ap (λ (b : Bool). if b then class_of self else class_named p name) other)
