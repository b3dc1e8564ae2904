-- `typing_faults` lists the typing faults (type errors) of a program: the first one of each feature that has one, class by class in textual order (the Cool
-- manual, section 12).
use Rattle.std.specs.Prelude.{◌≢◌, ℕ, suc, List, [], ◌∷◌, ◌++◌, Option, Some, None, Ok, Err}
use Rattle.std.specs.List.Sorted.{IsPermutation}
use Rattle.cool_syntax.specs.declared.file_tree.Feature.{Feature}
use Rattle.cool_syntax.specs.declared.file_tree.Feature.TheVariants.{Method, Attribute}
use Rattle.cool_syntax.specs.declared.file_tree.AttributeDef.{AttributeDef}
use Rattle.cool_syntax.specs.FaultOrder.{AreInOrder}
use Rattle.cool_syntax.specs.Tree.{Tree}
use Rattle.cool_classes.specs.declared.class_id.ClassId.{ClassId}
use Rattle.cool_classes.specs.Chains.{Class, class_number}
use Rattle.cool_check.specs.declared.fault.CheckAllError.{CheckAllError}
use Rattle.cool_check.specs.declared.fault.CheckAllError.TheVariants as all
use Rattle.cool_check.specs.declared.fault.TypeFault.{TypeFault}
use Rattle.cool_check.specs.declared.fault.TypeKind.TheVariants.{E17, E18}
use Rattle.cool_check.specs.declared.fault.TypingRule.TheVariants as typing
use Rattle.cool_check.specs.Faults.{standing_of}
use Rattle.cool_rules.specs.Rules.{type_meant}
use Rattle.cool_check.specs.Contexts.{Context, attribute_bindings, formal_bindings}
use Rattle.cool_check.specs.FirstFaults.{Checked, and_then, fits, checked}

-- in a class with its attributes
abbrev pub class_context : List Class → ClassId → Context
class_context p c = record { table = p; class = c; attributes = attribute_bindings p c }

-- the initial value of an attribute, where there is one, conforms to its type
abbrev pub initial_checked : Context → AttributeDef → Option Tree → Checked (Unit {0})
initial_checked s a None = Ok tt
initial_checked s a (Some t) = and_then (checked s [] t) (λ found. fits s found (type_meant s.table a.declared.name) typing.Attribute E17 a.at (Ok tt))

-- A feature of a class is well typed, or this is its first fault: the body of a method conforms to its result.
abbrev pub feature_checked : List Class → ClassId → Feature → Checked (Unit {0})
feature_checked p c (Method m) =
    and_then (checked (class_context p c) (formal_bindings p m.formals) m.body)
    (λ found. fits (class_context p c) found (type_meant p m.result.name) typing.Method E18 m.at (Ok tt))
feature_checked p c (Attribute a) = initial_checked (class_context p c) a a.init

abbrev pub fault_of : Checked (Unit {0}) → List TypeFault
fault_of (Ok u) = []
fault_of (Err f) = f ∷ []

-- the first faults of features of a class
abbrev pub features_faults : List Class → ClassId → List Feature → List TypeFault
features_faults p c [] = []
features_faults p c (x ∷ fs) = fault_of (feature_checked p c x) ++ features_faults p c fs

-- the first faults of the features of classes of a table, from one of this number on
abbrev pub classes_faults : List Class → ℕ → List Class → List TypeFault
classes_faults p k [] = []
classes_faults p k (x ∷ cs) = features_faults p (class_number k) x.features ++ classes_faults p (suc k) cs

abbrev pub typing_faults : List Class → List TypeFault
typing_faults p = classes_faults p 0 p

-- an error is out of memory, or the typing faults, at least one, in the order of files, bytes and kinds
abbrev pub IsExactRefusal : List Class → CheckAllError → Type 0
IsExactRefusal p all.Memory = Unit {0}
IsExactRefusal p (all.Faults faults) = (faults ≢ []) × IsPermutation (typing_faults p) faults × AreInOrder standing_of faults
