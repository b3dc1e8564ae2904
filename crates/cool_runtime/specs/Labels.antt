-- The names of the labels in compiled programs.
use Rattle.std.specs.Prelude.{codes}
use Rattle.mips_isa.specs.Lines.{Name}

unfoldable pub heap_limit : Name
heap_limit = codes "heap_limit"

unfoldable pub stack_limit : Name
stack_limit = codes "stack_limit"

unfoldable pub int_prototype : Name
int_prototype = codes "Int_protObj"

unfoldable pub string_prototype : Name
string_prototype = codes "String_protObj"

unfoldable pub int_table : Name
int_table = codes "Int_dispTab"

unfoldable pub bool_table : Name
bool_table = codes "Bool_dispTab"

unfoldable pub string_table : Name
string_table = codes "String_dispTab"

unfoldable pub true_constant : Name
true_constant = codes "bool_const1"

unfoldable pub false_constant : Name
false_constant = codes "bool_const0"

unfoldable pub out_string : Name
out_string = codes "IO.out_string"

unfoldable pub out_int : Name
out_int = codes "IO.out_int"

unfoldable pub in_string : Name
in_string = codes "IO.in_string"

unfoldable pub in_int : Name
in_int = codes "IO.in_int"

unfoldable pub copy : Name
copy = codes "Object.copy"

unfoldable pub string_length : Name
string_length = codes "String.length"

unfoldable pub string_concat : Name
string_concat = codes "String.concat"

unfoldable pub string_substr : Name
string_substr = codes "String.substr"

unfoldable pub equality : Name
equality = codes "equality_test"

-- labels within routines

unfoldable pub copy_words : Name
copy_words = codes "copy_words"

unfoldable pub copy_end : Name
copy_end = codes "copy_end"

unfoldable pub concat_first : Name
concat_first = codes "concat_first"

unfoldable pub concat_second : Name
concat_second = codes "concat_second"

unfoldable pub concat_third : Name
concat_third = codes "concat_third"

unfoldable pub concat_end : Name
concat_end = codes "concat_end"

unfoldable pub substr_bytes : Name
substr_bytes = codes "substr_bytes"

unfoldable pub substr_end : Name
substr_end = codes "substr_end"

unfoldable pub substr_abort : Name
substr_abort = codes "substr_abort"

unfoldable pub in_string_bytes : Name
in_string_bytes = codes "in_string_bytes"

unfoldable pub in_string_end : Name
in_string_end = codes "in_string_end"

-- texts of data, each up to a zero

unfoldable pub colon_text : Name
colon_text = codes "__colon"

unfoldable pub bool_prototype : Name
bool_prototype = codes "Bool_protObj"

unfoldable pub equal_values : Name
equal_values = codes "equal_values"

unfoldable pub equal_strings : Name
equal_strings = codes "equal_strings"

unfoldable pub equal_bytes : Name
equal_bytes = codes "equal_bytes"

unfoldable pub equal_true : Name
equal_true = codes "equal_true"

unfoldable pub equal_false : Name
equal_false = codes "equal_false"

unfoldable pub dispatch_abort : Name
dispatch_abort = codes "dispatch_abort"

unfoldable pub div_abort : Name
div_abort = codes "div_abort"

unfoldable pub main_prototype : Name
main_prototype = codes "Main_protObj"

unfoldable pub main_init : Name
main_init = codes "Main_init"

unfoldable pub main_main : Name
main_main = codes "Main.main"

unfoldable pub end_text : Name
end_text = codes "__end"

unfoldable pub name_table : Name
name_table = codes "class_nameTab"

unfoldable pub type_name : Name
type_name = codes "Object.type_name"

unfoldable pub abort : Name
abort = codes "Object.abort"

unfoldable pub case_abort : Name
case_abort = codes "case_abort"

unfoldable pub abort_text : Name
abort_text = codes "__abort"

unfoldable pub newline_text : Name
newline_text = codes "__newline"

unfoldable pub no_branch_text : Name
no_branch_text = codes "__no_branch"

unfoldable pub stop_text : Name
stop_text = codes "__stop"
