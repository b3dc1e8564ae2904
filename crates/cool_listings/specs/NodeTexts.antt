-- The text of a syntax-tree node is its kind of expression, its names, and the numbers of its parts. `call` is followed by the method, the receiver and the
-- arguments, `static` by the class and then these. `let` is followed by a variable, its type, the initial value or -, and the body. `case` is followed by
-- its value, and then by PLACE NAME TYPE BODY of each branch.
use Rattle.std.specs.Prelude.{◌≡◌, refl, ℕ, Bool, true, false, List, [], ◌++◌, codes, decimal, flat_map, Option, Some, None}
use Rattle.std.specs.Fmt as decimals
use Rattle.cool_syntax.specs.declared.place.Place.{Place}
use Rattle.cool_syntax.specs.declared.node.Node.{Node}
use Rattle.cool_syntax.specs.declared.node.Node.TheVariants as node
use Rattle.cool_syntax.specs.declared.node.NodeId.{NodeId}
use Rattle.cool_syntax.specs.declared.node.NodeBranch.{NodeBranch}
use Rattle.cool_syntax.specs.NodeLists.{made}
use Rattle.cool_syntax.specs.Tree.{place_of}
use Rattle.cool_emit.specs.TableLines.{arith_word, compare_word, place_text}
use Rattle.cool_listings.specs.TokenLines.{string_text}

-- a part, parts in order, a part that may be missing, and a branch
abbrev pub part_text : NodeId → List ℕ
part_text id = codes " " ++ decimal id.0

abbrev pub parts_text : List NodeId → List ℕ
parts_text ids = flat_map part_text ids

abbrev pub maybe_text : Option NodeId → List ℕ
maybe_text None = codes " -"
maybe_text (Some id) = part_text id

abbrev pub branch_text : NodeBranch → List ℕ
branch_text b = codes " " ++ (place_text b.at ++ (codes " " ++ (b.name ++ (codes " " ++ (b.declared.name ++ part_text b.body)))))

-- the form of a node, with its names and the numbers of its parts
abbrev pub form_text : Node → List ℕ
form_text (node.Assign at name a) = codes "assign " ++ (name ++ part_text a)
form_text (node.Dispatch at a name ids) = codes "call " ++ (name ++ (part_text a ++ parts_text ids))
form_text (node.StaticDispatch at a class name ids) = codes "static " ++ (class.name ++ (codes " " ++ (name ++ (part_text a ++ parts_text ids))))
form_text (node.If at a b c) = codes "if" ++ (part_text a ++ (part_text b ++ part_text c))
form_text (node.While at a b) = codes "while" ++ (part_text a ++ part_text b)
form_text (node.Block at ids) = codes "block" ++ parts_text ids
form_text (node.Let at name declared o a) = codes "let " ++ (name ++ (codes " " ++ (declared.name ++ (maybe_text o ++ part_text a))))
form_text (node.Case at a bs) = codes "case" ++ (part_text a ++ flat_map branch_text bs)
form_text (node.New at class) = codes "new " ++ class.name
form_text (node.IsVoid at a) = codes "isvoid" ++ part_text a
form_text (node.Arith at op a b) = arith_word op ++ (part_text a ++ part_text b)
form_text (node.Neg at a) = codes "~" ++ part_text a
form_text (node.Compare at op a b) = compare_word op ++ (part_text a ++ part_text b)
form_text (node.Not at a) = codes "not" ++ part_text a
form_text (node.Id at name) = codes "name " ++ name
form_text (node.Int at value) = codes "integer " ++ decimal value
form_text (node.Str at bytes) = codes "string " ++ string_text bytes
form_text (node.Bool at true) = codes "bool true"
form_text (node.Bool at false) = codes "bool false"

-- its place: that of the tree that it makes of any others
abbrev pub node_place : Node → Place
node_place n = place_of (made [] n)

-- a name with a type: a class, a feature or a formal, as the word says
abbrev pub head_line : List ℕ → Place → List ℕ → List ℕ → List ℕ
head_line word at name type = word ++ (codes " " ++ (place_text at ++ (codes " " ++ (name ++ (codes " " ++ (type ++ codes "\n"))))))

-- Worked example: `if`, with its parts by their numbers.
text_of_if : form_text (node.If (record { file = 0; line = 1; byte = 7 }) (record { 0 = 2 }) (record { 0 = 5 }) (record { 0 = 6 })) ≡ codes "if 2 5 6"
unfolding decimals.digits
text_of_if = refl
