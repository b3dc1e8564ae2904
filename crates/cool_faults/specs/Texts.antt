-- `fault_line` is the message line of a compile-time error: `NAME:LINE: KIND: WORDS`. In the file name NAME, `shown` replaces characters that would control
-- a terminal.
use Rattle.std.specs.Prelude.{ℕ, List, [], ◌++◌, codes, decimal, get_or}
use Rattle.cool_syntax.specs.declared.lexical.LexKind.{LexKind}
use Rattle.cool_syntax.specs.declared.lexical.LexKind.TheVariants.{L1, L2, L3, L4, L5, L6, L7, L8}
use Rattle.cool_classes.specs.declared.fault.ClassKind.{ClassKind}
use Rattle.cool_classes.specs.declared.fault.ClassKind.TheVariants.{C1, C2, C3, C4, C5, C6, C7, F1, F2, F3, F4, F5, F6, F7, F8, F9}
use Rattle.cool_check.specs.declared.fault.TypeKind.{TypeKind}
use Rattle.cool_check.specs.declared.fault.TypeKind.TheVariants.{E1, E2, E3, E4, E5, E6, E7, E8, E9, E10, E11, E12, E13, E14, E15, E16, E17, E18}
use Rattle.cool_faults.specs.declared.fault.Fault.{Fault}
use Rattle.cool_faults.specs.declared.fault.Fault.TheVariants.{Lex, Syntax, Class, Typing}
use Rattle.cool_faults.specs.Shown.{shown}
use Rattle.cool_faults.specs.Verdicts.{place_of}

-- a kind, and its message
abbrev pub lex_words : LexKind → List ℕ
lex_words L1 = codes "L1: unknown character"
lex_words L2 = codes "L2: string not closed"
lex_words L3 = codes "L3: null byte in string"
lex_words L4 = codes "L4: string too long"
lex_words L5 = codes "L5: comment not closed"
lex_words L6 = codes "L6: comment not opened"
lex_words L7 = codes "L7: integer too large"
lex_words L8 = codes "L8: feature too long"

abbrev pub class_words : ClassKind → List ℕ
class_words C1 = codes "C1: class defined twice"
class_words C2 = codes "C2: SELF_TYPE names no class"
class_words C3 = codes "C3: unknown parent"
class_words C4 = codes "C4: parent cannot be inherited"
class_words C5 = codes "C5: inheritance cycle"
class_words C6 = codes "C6: no class Main"
class_words C7 = codes "C7: too many classes"
class_words F1 = codes "F1: method defined twice"
class_words F2 = codes "F2: attribute defined twice"
class_words F3 = codes "F3: self cannot be declared"
class_words F4 = codes "F4: formal defined twice"
class_words F5 = codes "F5: formal of type SELF_TYPE"
class_words F6 = codes "F6: unknown type"
class_words F7 = codes "F7: signature differs"
class_words F8 = codes "F8: no method main"
class_words F9 = codes "F9: too many features"

abbrev pub type_words : TypeKind → List ℕ
type_words E1 = codes "E1: unknown name"
type_words E2 = codes "E2: self cannot be assigned"
type_words E3 = codes "E3: assigned value does not conform"
type_words E4 = codes "E4: unknown method"
type_words E5 = codes "E5: wrong number of arguments"
type_words E6 = codes "E6: argument does not conform"
type_words E7 = codes "E7: SELF_TYPE after @"
type_words E8 = codes "E8: receiver does not conform"
type_words E9 = codes "E9: predicate is not Bool"
type_words E10 = codes "E10: self cannot be bound"
type_words E11 = codes "E11: unknown type"
type_words E12 = codes "E12: SELF_TYPE in a branch"
type_words E13 = codes "E13: branch type twice"
type_words E14 = codes "E14: operand is not Int"
type_words E15 = codes "E15: unequal types"
type_words E16 = codes "E16: operand is not Bool"
type_words E17 = codes "E17: initial value does not conform"
type_words E18 = codes "E18: body does not conform"

abbrev pub fault_words : Fault → List ℕ
fault_words (Lex f) = lex_words f.kind
fault_words (Syntax f) = codes "S1: unexpected token"
fault_words (Class f) = class_words f.kind
fault_words (Typing f) = type_words f.kind

-- the line of a fault, by the names of the files
abbrev pub fault_line : List (List ℕ) → Fault → List ℕ
fault_line names f =
    shown (get_or names (place_of f).file []) ++ (codes ":" ++ (decimal (place_of f).line ++ (codes ": " ++ (fault_words f ++ codes "\n"))))
