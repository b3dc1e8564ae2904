-- The lines of text of the table of code (debug information): words separated by a blank, and a newline at the end. Addresses and numbers are decimal.
--
--     class NAME
--     attribute NAME OFFSET($s0) TYPE
--     initial FROM TO NAME
--     method FROM TO NAME
--     formal NAME OFFSET($fp) TYPE
--     code FROM TO FORM FILE:LINE:BYTE DEPTH NAMES
--     code FROM TO FORM FILE:LINE:BYTE DEPTH NAMES NAME OFFSET(BASE) TYPE
--
-- FROM is the address at which code begins, and TO the address behind it. FILE is the number of the file, from 0. DEPTH is the number of words that are
-- pushed in the frame where the code begins, NAMES the number of names in scope there, and NAME the one that was entered last.
use Rattle.std.specs.Prelude.{◌≡◌, refl, ℕ, negsuc, List, [], ◌++◌, codes, decimal, Option, Some, None}
use Rattle.std.specs.Fmt as decimals
use Rattle.std.specs.Fmt.{signed_decimal}
use Rattle.std.specs.List.{flat_map}
use Rattle.cool_syntax.specs.declared.operator.ArithOp.{ArithOp}
use Rattle.cool_syntax.specs.declared.operator.ArithOp.TheVariants.{Add, Sub, Mul, Div}
use Rattle.cool_syntax.specs.declared.operator.CompareOp.{CompareOp}
use Rattle.cool_syntax.specs.declared.operator.CompareOp.TheVariants.{Less, LessEqual, Equal}
use Rattle.cool_syntax.specs.declared.place.Place.{Place}
use Rattle.cool_classes.specs.declared.class_id.Ty.{Ty}
use Rattle.cool_classes.specs.declared.class_id.Ty.TheVariants as types
use Rattle.cool_classes.specs.Chains.{Class, name_of}
use Rattle.cool_codegen.specs.declared.span.Form.{Form}
use Rattle.cool_codegen.specs.declared.span.Form.TheVariants as forms
use Rattle.cool_codegen.specs.Shown.{Shown}
use Rattle.cool_codegen.specs.declared.variables.Base.{Base}
use Rattle.cool_codegen.specs.declared.variables.Base.TheVariants.{Frame, Object}
use Rattle.cool_codegen.specs.Variables.{Named}
use Rattle.cool_emit.specs.CodeTables.{Row, class_row, attribute_row, initial_row, method_row, formal_row, code_row, table_rows}

-- the word of a form of expression
abbrev pub arith_word : ArithOp → List ℕ
arith_word Add = codes "+"
arith_word Sub = codes "-"
arith_word Mul = codes "*"
arith_word Div = codes "/"

abbrev pub compare_word : CompareOp → List ℕ
compare_word Less = codes "<"
compare_word LessEqual = codes "<="
compare_word Equal = codes "="

abbrev pub form_word : Form → List ℕ
form_word forms.Name = codes "name"
form_word forms.Assign = codes "assign"
form_word forms.Call = codes "call"
form_word forms.StaticCall = codes "static"
form_word forms.If = codes "if"
form_word forms.While = codes "while"
form_word forms.Block = codes "block"
form_word forms.Let = codes "let"
form_word forms.Case = codes "case"
form_word forms.New = codes "new"
form_word forms.IsVoid = codes "isvoid"
form_word (forms.Arith op) = arith_word op
form_word forms.Neg = codes "~"
form_word (forms.Compare op) = compare_word op
form_word forms.Not = codes "not"
form_word forms.Integer = codes "integer"
form_word forms.String = codes "string"
form_word forms.Bool = codes "bool"

-- a type: a class, or SELF_TYPE
abbrev pub type_text : List Class → Ty → List ℕ
type_text p types.SelfType = codes "SELF_TYPE"
type_text p (types.Class c) = name_of p c

-- the register from which a word is addressed: the frame, or self
abbrev pub base_text : Base → List ℕ
base_text Frame = codes "$fp"
base_text Object = codes "$s0"

-- a name, where its word is, and its type
abbrev pub named_text : List Class → Named → List ℕ
named_text p v =
    v.name ++ (codes " " ++ (signed_decimal v.value.offset ++ (codes "(" ++ (base_text v.value.base ++ (codes ") " ++ type_text p v.value.ty)))))

abbrev pub place_text : Place → List ℕ
place_text at = decimal at.file ++ (codes ":" ++ (decimal at.line ++ (codes ":" ++ decimal at.byte)))

-- two addresses
abbrev pub range_text : ℕ → ℕ → List ℕ
range_text from to = decimal from ++ (codes " " ++ decimal to)

-- the name that was entered last, if there is one
abbrev pub latest_text : List Class → Option Named → List ℕ
latest_text p None = []
latest_text p (Some v) = codes " " ++ named_text p v

-- an expression, and what is in scope where it begins
abbrev pub shown_text : List Class → Shown → List ℕ
shown_text p x =
    form_word x.form
    ++ (codes " " ++ (place_text x.at ++ (codes " " ++ (decimal x.depth ++ (codes " " ++ (decimal x.names ++ latest_text p x.latest))))))

abbrev pub row_line : List Class → Row → List ℕ
row_line p (class_row name) = codes "class " ++ (name ++ codes "\n")
row_line p (attribute_row v) = codes "attribute " ++ (named_text p v ++ codes "\n")
row_line p (initial_row from to name) = codes "initial " ++ (range_text from to ++ (codes " " ++ (name ++ codes "\n")))
row_line p (method_row from to name) = codes "method " ++ (range_text from to ++ (codes " " ++ (name ++ codes "\n")))
row_line p (formal_row v) = codes "formal " ++ (named_text p v ++ codes "\n")
row_line p (code_row from to x) = codes "code " ++ (range_text from to ++ (codes " " ++ (shown_text p x ++ codes "\n")))

abbrev pub table_text : List Class → List (List ℕ) → List ℕ
table_text p files = flat_map (row_line p) (table_rows p files)

-- Worked examples: a method, and an expression within the first `let` of one.
line_of_method : (p : List Class) → row_line p (method_row 4196144 4196268 (codes "main")) ≡ codes "method 4196144 4196268 main\n"
unfolding decimals.digits
line_of_method p = refl

line_of_operand : (p : List Class)
    → row_line p (code_row 4196208 4196212 (record { at = record { file = 0; line = 3; byte = 45 }; form = forms.Name; from = 8; to = 9; depth = 1; names = 1; latest = Some (record { name = codes "x"; value = record { base = Frame; offset = negsuc 3; ty = types.SelfType } }) }))
    ≡ codes "code 4196208 4196212 name 0:3:45 1 1 x -4($fp) SELF_TYPE\n"
unfolding decimals.digits
line_of_operand p = refl
