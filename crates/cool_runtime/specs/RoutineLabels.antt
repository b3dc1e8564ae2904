-- The names of further labels in compiled programs, such as those of error routines and of their texts. The others are in Labels.antt.
use Rattle.std.specs.Prelude.{codes}
use Rattle.mips_isa.specs.Lines.{Name}

unfoldable pub class_objects : Name
class_objects = codes "class_objTab"

unfoldable pub case_void : Name
case_void = codes "case_abort2"

unfoldable pub overflow_abort : Name
overflow_abort = codes "overflow_abort"

unfoldable pub dispatch_text : Name
dispatch_text = codes "__dispatch_text"

unfoldable pub case_text : Name
case_text = codes "__case_text"

unfoldable pub division_text : Name
division_text = codes "__division_text"

unfoldable pub substring_text : Name
substring_text = codes "__substring_text"

unfoldable pub overflow_text : Name
overflow_text = codes "__overflow_text"

unfoldable pub default_int : Name
default_int = codes "__default_int"

unfoldable pub default_string : Name
default_string = codes "__default_string"
