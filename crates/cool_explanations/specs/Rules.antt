-- `rule_line` names the typing rule that a type error breaks (the Cool manual, section 12), and the premise of the rule that fails, in words.
use Rattle.std.specs.Prelude.{◌≡◌, refl, ℕ, List, [], ◌++◌, codes, None}
use Rattle.cool_syntax.specs.declared.place.Place.{Place}
use Rattle.cool_check.specs.declared.fault.TypeKind.{TypeKind}
use Rattle.cool_check.specs.declared.fault.TypeKind.TheVariants.{E1, E2, E3, E4, E5, E6, E7, E8, E9, E10, E11, E12, E13, E14, E15, E16, E17, E18}
use Rattle.cool_check.specs.declared.fault.TypingRule.{TypingRule}
use Rattle.cool_check.specs.declared.fault.TypingRule.TheVariants as typing
use Rattle.cool_faults.specs.declared.fault.Fault.{Fault}
use Rattle.cool_faults.specs.declared.fault.Fault.TheVariants.{Lex, Syntax, Class, Typing}

abbrev pub rule_name : TypingRule → List ℕ
rule_name typing.Id = codes "Id"
rule_name typing.Assign = codes "Assign"
rule_name typing.Dispatch = codes "Dispatch"
rule_name typing.StaticDispatch = codes "StaticDispatch"
rule_name typing.If = codes "If"
rule_name typing.While = codes "While"
rule_name typing.Let = codes "Let"
rule_name typing.Case = codes "Case"
rule_name typing.New = codes "New"
rule_name typing.Not = codes "Not"
rule_name typing.Neg = codes "Neg"
rule_name typing.Arith = codes "Arith"
rule_name typing.Compare = codes "Compare"
rule_name typing.Attribute = codes "Attribute"
rule_name typing.Method = codes "Method"

-- the premise that a fault of a kind breaks
abbrev pub premise_words : TypeKind → List ℕ
premise_words E1 = codes "the name is in scope"
premise_words E2 = codes "the name is not `self`"
premise_words E3 = codes "the type of the value conforms to that of the variable"
premise_words E4 = codes "the class has a method of this name"
premise_words E5 = codes "there are as many arguments as formals"
premise_words E6 = codes "the type of each argument conforms to that of its formal"
premise_words E7 = codes "the type after `@` is not SELF_TYPE"
premise_words E8 = codes "the type of the receiver conforms to the class after `@`"
premise_words E9 = codes "the predicate has type Bool"
premise_words E10 = codes "the name of the variable is not `self`"
premise_words E11 = codes "the type is a class or SELF_TYPE"
premise_words E12 = codes "the type of a branch is not SELF_TYPE"
premise_words E13 = codes "the branches have different types"
premise_words E14 = codes "the operands have type Int"
premise_words E15 = codes "an operand of type Int, Bool or String is compared with one of the same type"
premise_words E16 = codes "the operand has type Bool"
premise_words E17 = codes "the type of the initial value conforms to the declared type"
premise_words E18 = codes "the type of the body conforms to the result type"

-- the line of the rule that a fault breaks, if it is a fault of typing
abbrev pub rule_line : Fault → List ℕ
rule_line (Lex fault) = []
rule_line (Syntax at) = []
rule_line (Class fault) = []
rule_line (Typing fault) = codes "rule " ++ (rule_name fault.rule ++ (codes ": " ++ (premise_words fault.kind ++ codes "\n")))

-- Worked example: a name that is not in scope, on the left of an assignment.
unknown_on_the_left : (p : Place)
    → rule_line (Typing (record { kind = E1; rule = typing.Assign; at = p; found = None; due = None })) ≡ codes "rule Assign: the name is in scope\n"
unknown_on_the_left p = refl
