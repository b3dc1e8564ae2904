-- `program_marks` lists the marks of a program: each occurrence of a name in its classes, with its role and the definition that it refers to, in the order of
-- files and text (the Cool manual, sections 3 to 6).
use Rattle.std.specs.Prelude.{ℕ, ◌+◌, List, [], ◌∷◌, ◌++◌, map, slice_get, Option, Some, None}
use Rattle.cool_syntax.specs.declared.type_ref.TypeRef.{TypeRef}
use Rattle.cool_syntax.specs.declared.file_tree.ClassDef.{ClassDef}
use Rattle.cool_syntax.specs.declared.file_tree.Feature.{Feature}
use Rattle.cool_syntax.specs.declared.file_tree.Feature.TheVariants.{Method, Attribute}
use Rattle.cool_syntax.specs.declared.file_tree.Formal.{Formal}
use Rattle.cool_syntax.specs.Bare.{nowhere}
use Rattle.cool_syntax.specs.Tree.{Tree}
use Rattle.cool_classes.specs.declared.method.AttributeRef.{AttributeRef}
use Rattle.cool_classes.specs.Chains.{Class, class_number, features_of}
use Rattle.cool_classes.specs.ClimbedChains.{chain}
use Rattle.cool_classes.specs.Features.{attributes_of}
use Rattle.cool_classes.specs.declared.class_id.ClassId.{ClassId}
use Rattle.cool_rules.specs.Scopes.{Bound, entered}
use Rattle.cool_names.specs.declared.mark.Mark.{Mark}
use Rattle.cool_names.specs.declared.mark.Role.TheVariants as role
use Rattle.cool_names.specs.declared.mark.Target.TheVariants.{At}
use Rattle.cool_names.specs.Scopes.{Variable}
use Rattle.cool_names.specs.Meanings.{feature_meaning}
use Rattle.cool_names.specs.Marks.{Context, mark, type_mark, declared_marks, marks_of}

-- Variables of features

abbrev pub variable_there : Option Feature → Bound Variable
variable_there None = record { name = []; value = record { declared = []; at = nowhere } }
variable_there (Some (Method m)) = record { name = []; value = record { declared = []; at = nowhere } }
variable_there (Some (Attribute a)) = record { name = a.name; value = record { declared = a.declared.name; at = a.at } }

abbrev pub attribute_variable : List Class → AttributeRef → Bound Variable
attribute_variable p r = variable_there (slice_get (features_of p r.owner) r.index)

-- the attributes of a class with those that it inherits, the latest first
abbrev pub attributes_in_scope : List Class → ClassId → List (Bound Variable)
attributes_in_scope p c = entered (map (attribute_variable p) (attributes_of p (chain p c))) []

abbrev pub formal_variable : Formal → Bound Variable
formal_variable f = record { name = f.name; value = record { declared = f.declared.name; at = f.at } }

-- the formals of a method, the latest first
abbrev pub formals_in_scope : List Formal → List (Bound Variable)
formals_in_scope fs = entered (map formal_variable fs) []

-- Features

abbrev pub formals_marks : List Class → List ClassDef → List Formal → List Mark
formals_marks p ds [] = []
formals_marks p ds (f ∷ fs) = declared_marks p ds role.Formal f.at f.name f.declared ++ formals_marks p ds fs

abbrev pub init_marks : Context → Option Tree → List Mark
init_marks s None = []
init_marks s (Some t) = marks_of s [] t

abbrev pub feature_marks : Context → Feature → List Mark
feature_marks s (Method m) =
    mark m.at role.Method m.name (feature_meaning (Method m)) ∷ (formals_marks s.table s.definitions m.formals
    ++ (type_mark s.table s.definitions m.result ∷ marks_of s (formals_in_scope m.formals) m.body))
feature_marks s (Attribute a) = declared_marks s.table s.definitions role.Attribute a.at a.name a.declared ++ init_marks s a.init

abbrev pub features_marks : Context → List Feature → List Mark
features_marks s [] = []
features_marks s (f ∷ fs) = feature_marks s f ++ features_marks s fs

-- Classes

abbrev pub parent_marks : List Class → List ClassDef → Option TypeRef → List Mark
parent_marks p ds None = []
parent_marks p ds (Some r) = type_mark p ds r ∷ []

-- the context of the features of a class
abbrev pub class_context : List Class → List ClassDef → ClassId → Context
class_context p ds c = record { table = p; definitions = ds; class = c; attributes = attributes_in_scope p c }

-- the marks of the definition of the class of a number: its name, its parent's and its features
abbrev pub class_marks : List Class → List ClassDef → ℕ → ClassDef → List Mark
class_marks p ds k d =
    mark d.at role.Class d.name (record { declared = d.name; target = At d.at }) ∷ (parent_marks p ds d.parent
    ++ features_marks (class_context p ds (class_number k)) d.features)

-- the marks of definitions whose classes begin at a number
abbrev pub marks_from : List Class → List ClassDef → ℕ → List ClassDef → List Mark
marks_from p all k [] = []
marks_from p all k (d ∷ ds) = class_marks p all k d ++ marks_from p all (k + 1) ds

-- the marks of a program: its classes have the numbers after the five basic ones
abbrev pub program_marks : List Class → List ClassDef → List Mark
program_marks p ds = marks_from p ds 5 ds
