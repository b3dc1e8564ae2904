-- The lines of syntax trees: each file has the lines of its classes, or one for the compile-time error because of which it has no tree. One blank separates
-- the words of a line, and a newline ends it.
--
--     class PLACE NAME PARENT
--     attribute PLACE NAME TYPE
--     method PLACE NAME TYPE
--     formal PLACE NAME TYPE
--     node PLACE FIRST LAST NUMBER STATIC FORM PARTS
--     fault PLACE KIND
--
-- PLACE is FILE:LINE:BYTE, where FILE is the number of the file in the order of the words, from 0. PARENT is - where the class names none. Behind a
-- method or an attribute stand the nodes of its expression, numbered from 0, the parts of a node before it (`NodeLists.antt` of `cool_syntax`); the
-- last is the whole. FIRST and LAST are the places of the first and the last token of the expression, without parentheses around it (`Extents.antt` of
-- `cool_extents`). STATIC is the type that the rules give the expression, or ? where the files are no program. FORM and PARTS are the text of the node.
use Rattle.std.specs.Prelude.{◌≡◌, refl, ℕ, suc, ◌+◌, List, [], ◌∷◌, ◌++◌, codes, decimal, get_or, flat_map, length, Option, Some, None}
use Rattle.std.specs.Fmt as decimals
use Rattle.cool_syntax.specs.declared.place.Place.{Place}
use Rattle.cool_syntax.specs.declared.token.Token.{Token}
use Rattle.cool_syntax.specs.declared.operator.ArithOp.TheVariants as arith
use Rattle.cool_syntax.specs.declared.type_ref.TypeRef.{TypeRef}
use Rattle.cool_syntax.specs.declared.node.Node.{Node}
use Rattle.cool_syntax.specs.declared.node.Node.TheVariants as node
use Rattle.cool_syntax.specs.declared.file_tree.ClassDef.{ClassDef}
use Rattle.cool_syntax.specs.declared.file_tree.Feature.{Feature}
use Rattle.cool_syntax.specs.declared.file_tree.Feature.TheVariants.{Method, Attribute}
use Rattle.cool_syntax.specs.declared.file_tree.Formal.{Formal}
use Rattle.cool_syntax.specs.Grammar.{Parses, IsUnexpected}
use Rattle.cool_syntax.specs.LexicalStructure.{Lexes, place_at}
use Rattle.cool_syntax.specs.LexicalStructure as lexical
use Rattle.cool_syntax.specs.NodeLists.{nodes}
use Rattle.cool_syntax.specs.Tree.{Tree}
use Rattle.cool_lexer.specs.declared.error.LexFault.{LexFault}
use Rattle.cool_extents.specs.declared.extent.Extent.{Extent}
use Rattle.cool_extents.specs.Extents.{TellsExtents}
use Rattle.cool_extents.specs.FoundExtents.{extent_at}
use Rattle.cool_classes.specs.declared.class_id.ClassId.{ClassId}
use Rattle.cool_classes.specs.declared.class_id.Ty.{Ty}
use Rattle.cool_classes.specs.Chains.{Class, class_number}
use Rattle.cool_rules.specs.NodeTypes.{feature_types}
use Rattle.cool_rules.specs.Typing.{int_type, object_type}
use Rattle.cool_emit.specs.TableLines.{place_text, type_text}
use Rattle.cool_faults.specs.declared.fault.Fault.{Fault}
use Rattle.cool_faults.specs.Verdicts.{IsAccepted, IsRefused}
use Rattle.cool_listings.specs.NodeTexts.{form_text, head_line, node_place}
use Rattle.cool_listings.specs.TokenLines.{fault_line, lex_word}

-- Nodes

-- the types of the nodes of an expression in a program, or none
pub record Column : Type 0 where
  pub classes : List Class
  pub types : List Ty

abbrev pub static_text : Option Column → ℕ → List ℕ
static_text None number = codes "?"
static_text (Some column) number = type_text column.classes (get_or column.types number object_type)

-- the places of a node: its own, and those of the first and of the last token of its expression
abbrev pub places_text : Extent → Node → List ℕ
places_text e n = place_text (node_place n) ++ (codes " " ++ (place_text e.first ++ (codes " " ++ place_text e.last)))

abbrev pub node_line : Option Column → ℕ → Extent → Node → List ℕ
node_line column number e n =
    codes "node "
    ++ (places_text e n ++ (codes " " ++ (decimal number ++ (codes " " ++ (static_text column number ++ (codes " " ++ (form_text n ++ codes "\n")))))))

-- nodes from this number on, each with the extent of its number
abbrev pub nodes_text : Option Column → List Extent → ℕ → List Node → List ℕ
nodes_text column es number [] = []
nodes_text column es number (n ∷ ns) = node_line column number (extent_at es number) n ++ nodes_text column es (suc number) ns

-- an expression, with the extents that are told of its tree
abbrev pub body_text : Option Column → (Tree → List Extent) → Tree → List ℕ
body_text column told t = nodes_text column (told t) 0 (nodes 0 t)

-- Features and classes

abbrev pub formal_line : Formal → List ℕ
formal_line f = head_line (codes "formal") f.at f.name f.declared.name

abbrev pub init_text : Option Column → (Tree → List Extent) → Option Tree → List ℕ
init_text column told None = []
init_text column told (Some t) = body_text column told t

abbrev pub feature_text : Option Column → (Tree → List Extent) → Feature → List ℕ
feature_text column told (Method m) = head_line (codes "method") m.at m.name m.result.name ++ (flat_map formal_line m.formals ++ body_text column told m.body)
feature_text column told (Attribute a) = head_line (codes "attribute") a.at a.name a.declared.name ++ init_text column told a.init

-- the types of a feature of a class, by its number in the program
abbrev pub column_of : Option (List Class) → ℕ → Feature → Option Column
column_of None number feature = None
column_of (Some p) number feature = Some (record { classes = p; types = feature_types p (class_number number) feature })

abbrev pub parent_text : Option TypeRef → List ℕ
parent_text None = codes "-"
parent_text (Some parent) = parent.name

abbrev pub class_text : Option (List Class) → (Tree → List Extent) → ℕ → ClassDef → List ℕ
class_text p told number d =
    head_line (codes "class") d.at d.name (parent_text d.parent) ++ flat_map (λ feature. feature_text (column_of p number feature) told feature) d.features

-- classes of which the first has this number in the program
abbrev pub classes_text : Option (List Class) → (Tree → List Extent) → ℕ → List ClassDef → List ℕ
classes_text p told number [] = []
classes_text p told number (d ∷ ds) = class_text p told number d ++ classes_text p told (suc number) ds

-- Files

-- Files from one of this number on are told so, where the classes of the first have these numbers in the program: each as its classes, with the extents
-- of the expressions of its tokens, or as the fault that leaves it without them.
pub data AreTreesOf (p : Option (List Class)) : ℕ → ℕ → List (List ℕ) → List ℕ → Type 0 where
  none : (file number : ℕ) → AreTreesOf p file number [] []
  tree : (file number : ℕ) (bytes : List ℕ) (files : List (List ℕ)) (tokens : List Token) (classes : List ClassDef) (text : List ℕ) → Lexes file bytes tokens → Parses tokens classes
      → (told : Tree → List Extent) → TellsExtents tokens told
      → AreTreesOf p (file + 1) (number + length classes) files text → AreTreesOf p file number (bytes ∷ files) (classes_text p told number classes ++ text)
  syntactic : (file number : ℕ) (bytes : List ℕ) (files : List (List ℕ)) (tokens : List Token) (at : Place) (text : List ℕ) → Lexes file bytes tokens
      → IsUnexpected tokens (place_at file bytes (length bytes)) at → AreTreesOf p (file + 1) number files text
      → AreTreesOf p file number (bytes ∷ files) (fault_line at (codes "S1") ++ text)
  lexical_fault : (file number : ℕ) (bytes : List ℕ) (files : List (List ℕ)) (fault : LexFault) (text : List ℕ) → lexical.LexFault file bytes fault.kind fault.at
      → AreTreesOf p (file + 1) number files text → AreTreesOf p file number (bytes ∷ files) (fault_line fault.at (lex_word fault.kind) ++ text)

-- The text tells the trees of files, with types where they are a program. The five basic classes have the first numbers.
pub data IsTreesText (files : List (List ℕ)) (text : List ℕ) : Type 0 where
  typed : (p : List Class) → IsAccepted files p → AreTreesOf (Some p) 0 5 files text → IsTreesText files text
  untyped : (faults : List Fault) → IsRefused files faults → AreTreesOf None 0 5 files text → IsTreesText files text

-- Worked examples
line_of_sum : (p : List Class)
    → node_line None 2 (record { first = record { file = 0; line = 3; byte = 41 }; last = record { file = 0; line = 3; byte = 45 } })
    (node.Arith (record { file = 0; line = 3; byte = 43 }) arith.Add (record { 0 = 0 }) (record { 0 = 1 }))
    ≡ codes "node 0:3:43 0:3:41 0:3:45 2 ? + 0 1\n"
unfolding decimals.digits
line_of_sum p = refl
