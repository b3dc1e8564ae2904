-- `mark_line` is the line of a mark (an occurrence of a name in the source): FILE:LINE:BYTE ROLE NAME TYPE DEFINITION, with a blank between them and a
-- newline at the end. FILE is the number of the file in the order of the arguments, from 0. DEFINITION is FILE:LINE:BYTE, or - if no file defines the name,
-- or ? if the definition is not known.
use Rattle.std.specs.Prelude.{◌≡◌, refl, ℕ, List, ◌++◌, map, codes}
use Rattle.std.specs.List.{concat}
use Rattle.std.specs.Fmt as decimals
use Rattle.cool_emit.specs.TableLines.{place_text}
use Rattle.cool_names.specs.declared.mark.Mark.{Mark}
use Rattle.cool_names.specs.declared.mark.Role.{Role}
use Rattle.cool_names.specs.declared.mark.Role.TheVariants as role
use Rattle.cool_names.specs.declared.mark.Target.{Target}
use Rattle.cool_names.specs.declared.mark.Target.TheVariants.{Unknown, Given, At}

abbrev pub role_word : Role → List ℕ
role_word role.Class = codes "class"
role_word role.Type = codes "type"
role_word role.Attribute = codes "attribute"
role_word role.Method = codes "method"
role_word role.Formal = codes "formal"
role_word role.Let = codes "let"
role_word role.Case = codes "case"
role_word role.Variable = codes "variable"
role_word role.Assigned = codes "assigned"
role_word role.Call = codes "call"

abbrev pub target_text : Target → List ℕ
target_text Unknown = codes "?"
target_text Given = codes "-"
target_text (At p) = place_text p

abbrev pub mark_line : Mark → List ℕ
mark_line m =
    place_text m.at ++ (codes " " ++ (role_word m.role ++ (codes " " ++ (m.name ++ (codes " " ++ (m.meaning.declared ++ (codes " " ++ (target_text m.meaning.target ++ codes "\n"))))))))

abbrev pub mark_lines : List Mark → List ℕ
mark_lines ms = concat (map mark_line ms)

-- Worked example: the use of a variable in the third line, which the second declares.
line_of_use : mark_line (record { at = record { file = 0; line = 3; byte = 27 }; role = role.Variable; name = codes "x"; meaning = record { declared = codes "Int"; target = At (record { file = 0; line = 2; byte = 14 }) } })
    ≡ codes "0:3:27 variable x Int 0:2:14\n"
unfolding decimals.digits
line_of_use = refl
