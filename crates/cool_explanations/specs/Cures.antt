-- `cure_words` gives general advice on how to fix each kind of compile-time error.
use Rattle.std.specs.Prelude.{ℕ, List, [], ◌∷◌, codes, Option, Some, None}
use Rattle.std.specs.Global.{Vec}
use Rattle.cool_syntax.specs.declared.lexical.LexKind.{LexKind}
use Rattle.cool_syntax.specs.declared.lexical.LexKind.TheVariants.{L1, L2, L3, L4, L5, L6, L7, L8}
use Rattle.cool_classes.specs.declared.fault.ClassKind.{ClassKind}
use Rattle.cool_classes.specs.declared.fault.ClassKind.TheVariants.{C1, C2, C3, C4, C5, C6, C7, F1, F2, F3, F4, F5, F6, F7, F8, F9}
use Rattle.cool_check.specs.declared.fault.TypeKind.{TypeKind}
use Rattle.cool_check.specs.declared.fault.TypeKind.TheVariants.{E1, E2, E3, E4, E5, E6, E7, E8, E9, E10, E11, E12, E13, E14, E15, E16, E17, E18}
use Rattle.cool_faults.specs.declared.fault.Fault.{Fault}
use Rattle.cool_faults.specs.declared.fault.Fault.TheVariants.{Lex, Syntax, Class, Typing}
use Rattle.cool_mend.specs.declared.explanation.Mend.{Mend}

abbrev pub lex_cure : LexKind → List ℕ
lex_cure L1 = codes "Cool has no `>`, `!`, `%`, `'` or `[`; if it is the first character of the file, save without a byte order mark"
lex_cure L2 = codes "close it on this line; to continue on the next line, end the line with `\\`, as its last byte (no CR)"
lex_cure L3 = codes "remove the byte 0, and check that the file is a text"
lex_cure L4 = codes "join shorter strings with `concat`"
lex_cure L5 = codes "write a `*)` for each `(*`: comments nest"
lex_cure L6 = codes "remove the `*)`, or look for its `(*` in a line comment or a string"
lex_cure L7 = codes "the greatest Int is `2147483647`; write the least one as `~2147483647 - 1`"
lex_cure L8 = codes "split the method into several methods"

abbrev pub class_cure : ClassKind → List ℕ
class_cure C1 = codes "rename one of the classes; Object, IO, Int, Bool and String are always defined"
class_cure C2 = codes "write the name of a class"
class_cure C3 = codes "add its file to the call, or correct the name: upper and lower case differ"
class_cure C4 = codes "declare an attribute of that type instead of inheriting from it"
class_cure C5 = codes "let one of the classes inherit from Object"
class_cure C6 = codes "add the file that defines class Main to the call"
class_cure C7 = codes "split the program into several programs"
class_cure F1 = codes "rename one of the methods: Cool has no overloading"
class_cure F2 = codes "rename it, or use the inherited attribute"
class_cure F3 = codes "choose another name: `self` always names the current object"
class_cure F4 = codes "rename one of the formals"
class_cure F5 = codes "write the name of a class"
class_cure F6 = codes "add its file to the call, or correct the name"
class_cure F7 = codes "declare the same types of formals and the same result type as the class above"
class_cure F8 = codes "define `main()` without formals in class Main itself"
class_cure F9 = codes "split the class into several classes"

abbrev pub type_cure : TypeKind → List ℕ
type_cure E1 = codes "declare it, or correct its spelling; the initial value of a `let` cannot use the variable of that `let`"
type_cure E2 = codes "assign to a variable: `self` never changes"
type_cure E3 = codes "assign a value of the variable's class, or of a class below it"
type_cure E4 = codes "call a method of the class that the receiver is declared with; for `out_string`, write `inherits IO`"
type_cure E5 = codes "pass one argument for each formal"
type_cure E6 = codes "pass a value of the formal's class, or of a class below it"
type_cure E7 = codes "write the name of a class after `@`"
type_cure E8 = codes "write the receiver's class, or a class above it, after `@`"
type_cure E9 = codes "write a condition of type Bool, for example `not x = 0`"
type_cure E10 = codes "choose another name"
type_cure E11 = codes "add its file to the call, or correct the name"
type_cure E12 = codes "write the name of a class"
type_cure E13 = codes "keep one branch for each class"
type_cure E14 = codes "use `+` and `<` only with numbers; for strings, use `concat` and `=`"
type_cure E15 = codes "compare Int, Bool and String only with values of their own type"
type_cure E16 = codes "compare first, for example `not x = 0`"
type_cure E17 = codes "give a value of the declared class, or of a class below it"
type_cure E18 = codes "return a value of the result type; a block has the value of its last item, and a `while` has type Object"

-- general advice for a fault
abbrev pub cure_words : Fault → List ℕ
cure_words (Lex f) = lex_cure f.kind
cure_words (Syntax f) = codes "look for a missing `;`, `fi`, `pool` or `esac` before it; minus is `~`, and `--` begins a comment"
cure_words (Class f) = class_cure f.kind
cure_words (Typing f) = type_cure f.kind

-- it is given only if the explanation of the fault has no further words and no fix
abbrev pub cure_of : Fault → List (Vec ℕ) → List Mend → Option (List ℕ)
cure_of fault said (m ∷ ms) = None
cure_of fault [] [] = Some (cure_words fault)
cure_of fault (words ∷ more) [] = None
