-- The assembly labels of classes and of their methods, according to the conventions of the run-time system.
use Rattle.std.specs.Prelude.{List, ◌++◌, codes, decimal, slice_get}
use Rattle.mips_isa.specs.Lines.{Name}
use Rattle.cool_classes.specs.declared.class_id.ClassId.{ClassId}
use Rattle.cool_classes.specs.declared.method.BasicMethod.{BasicMethod}
use Rattle.cool_classes.specs.declared.method.BasicMethod.TheVariants.{Abort, TypeName, Copy, OutString, OutInt, InString, InInt, Length, Concat, Substr}
use Rattle.cool_classes.specs.declared.method.MethodRef.{MethodRef}
use Rattle.cool_classes.specs.declared.method.MethodRef.TheVariants.{Basic, User}
use Rattle.cool_classes.specs.Chains.{Class, name_of, features_of}
use Rattle.cool_classes.specs.Features.{name_in}

abbrev pub prototype : List Class → ClassId → Name
prototype p c = name_of p c ++ codes "_protObj"

abbrev pub initializer : List Class → ClassId → Name
initializer p c = name_of p c ++ codes "_init"

abbrev pub dispatch_table : List Class → ClassId → Name
dispatch_table p c = name_of p c ++ codes "_dispTab"

abbrev pub basic_label : BasicMethod → Name
basic_label Abort = codes "Object.abort"
basic_label TypeName = codes "Object.type_name"
basic_label Copy = codes "Object.copy"
basic_label OutString = codes "IO.out_string"
basic_label OutInt = codes "IO.out_int"
basic_label InString = codes "IO.in_string"
basic_label InInt = codes "IO.in_int"
basic_label Length = codes "String.length"
basic_label Concat = codes "String.concat"
basic_label Substr = codes "String.substr"

-- the label of a method: its class and its name
abbrev pub method_label : List Class → MethodRef → Name
method_label p (Basic b) = basic_label b
method_label p (User c k) = name_of p c ++ (codes "." ++ name_in (slice_get (features_of p c) k))

-- the String with the name of a class, and the Int with its length
abbrev pub class_name : ClassId → Name
class_name c = codes "__name" ++ decimal c.0

abbrev pub class_name_length : ClassId → Name
class_name_length c = codes "__name_length" ++ decimal c.0
