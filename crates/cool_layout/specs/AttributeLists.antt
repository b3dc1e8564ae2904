-- `AreAttributes` says that a list has, at each tag that is an index of it, the attributes of the class with this tag.
use Rattle.std.specs.Prelude.{◌≡◌, ℕ, ◌<◌, List, length, get_or}
use Rattle.std.specs.Global.{Vec}
use Rattle.cool_classes.specs.declared.method.AttributeRef.{AttributeRef}
use Rattle.cool_classes.specs.Chains.{Class}
use Rattle.cool_layout.specs.Members.{attributes}
use Rattle.cool_layout.specs.SlotTables.{class_of}

-- the attributes of the class of each tag
abbrev pub AreAttributes : List Class → List (Vec AttributeRef) → Type 0
AreAttributes p known = (k : ℕ) (d : Vec AttributeRef) → k < length known → (get_or known k d).items ≡ attributes p (class_of p k)
