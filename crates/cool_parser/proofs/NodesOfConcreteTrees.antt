-- The parser's operations on nodes and indices correspond to those of a second state machine, which builds concrete syntax trees (with every token). `shown`
-- maps its states to the parser's.
use Rattle.std.proofs.Common.{◌≡◌, ℕ, ◌+◌, ◌-◌, nat_le, Bool, true, false, if◌then◌else◌, cond, List, [], ◌∷◌, ◌++◌, length, codes, Some, None, refl, ap, sym, ◌∙◌, append_assoc, append-nil, length-append, arith}
use Rattle.std.specs.Option.{is_some}
use Rattle.cool_syntax.specs.declared.place.Place.{Place}
use Rattle.cool_syntax.specs.declared.operator.ArithOp.TheVariants as arith_op
use Rattle.cool_syntax.specs.declared.node.NodeId.{NodeId}
use Rattle.cool_syntax.specs.declared.node.NodeBranch.{NodeBranch}
use Rattle.cool_syntax.specs.declared.node.Node.{Node}
use Rattle.cool_syntax.specs.declared.node.Node.TheVariants as node
use Rattle.cool_syntax.specs.declared.file_tree.Feature.TheVariants as feature
use Rattle.cool_syntax.specs.declared.file_tree.Formal.{Formal}
use Rattle.cool_syntax.specs.Tree.{Tree, Trees, Cases, Last, More, NoCase, CaseOf, tree_size}
use Rattle.cool_syntax.specs.NodeLists.{root, roots, branch_roots, nodes, nodes_of_all, nodes_of_cases}
use Rattle.cool_syntax.proofs.TreesOfLists.{length-nodes}
use Rattle.cool_syntax.specs.ConcreteTrees.{Operator, Arith, Compare, Not, IsVoid, Neg, Variable, Concrete, Name, Dispatch, Block, Case, Binary, Before, Callee, OfSelf, Of, OfClass, Args, NoArgs, Given, Parts, NoPart, Then, Branches, NoBranch, Also, Branch, On, Prefix, Let, Assign, Mark, Bindings, NoBinding, Next, Binding, Default, Init, Classes}
use Rattle.cool_syntax.specs.PlainTrees.{plain, plain_args, plain_parts, plain_branches, plain_bindings, plain_binding, plain_formal, plain_first_formals, plain_formals, plain_features, plain_parent, plain_file}
use Rattle.cool_syntax.specs.Shapes.{level}
use Rattle.cool_parser.specs.declared.operator.Infix.{Infix}
use Rattle.cool_parser.specs.declared.operator.Infix.TheVariants as between
use Rattle.cool_parser.specs.declared.operator.Prefix.TheVariants as front
use Rattle.cool_parser.specs.declared.item.Item.{Item}
use Rattle.cool_parser.specs.declared.item.Item.TheVariants as item
use Rattle.cool_parser.specs.declared.item.Call.{Call}
use Rattle.cool_parser.specs.declared.item.Variable as name
use Rattle.cool_parser.specs.declared.item.OpenCase as case
use Rattle.cool_parser.specs.declared.item.OpenClass as class
use Rattle.cool_parser.specs.declared.item.OpenMethod as method
use Rattle.cool_parser.specs.declared.mode.Purpose.TheVariants as purpose
use Rattle.cool_parser.specs.declared.mode.Mode.{Mode}
use Rattle.cool_parser.specs.declared.mode.Mode.TheVariants as mode
use Rattle.cool_parser.specs.Levels as levels
use Rattle.cool_parser.specs.ParsingMachine as machine
use Rattle.cool_parser.specs.ParsingMachine.{Context, State, Reduced, reduced, node_if, nodes_of}
use Rattle.cool_parser.proofs.ConcreteMachine.{Opened, OpenMethod, ClosedMethod, Around, InMethod, InAttribute, Target, Dot, StaticDot, OpenCase, Form, Parenthesis, Arguments, IfTest, IfYes, IfNo, WhileTest, WhileBody, Items, Value, CaseValue, BranchBody, Left, Front, Open}
use Rattle.cool_parser.proofs.ConcreteMachine.{Need, Identifier, Have, StaticClass, StaticEnd, MethodName, CallParenthesis, FirstArgument, NextItem, LetName, LetColon, LetType, LetEnd, BranchName, BranchColon, BranchType, BranchArrow, NextBranch, NewType}
use Rattle.cool_parser.proofs.ConcreteMachine.{File, ClassName, ClassHead, ParentName, ClassBrace, InClass, ClassEnd, FeatureName, FirstFormal, FormalName, FormalColon, FormalType, FormalEnd, ResultColon, ResultType, MethodBrace, MethodEnd, AttributeType, AttributeEnd, Inside}
use Rattle.cool_parser.proofs.ConcreteMachine.{Top, reduce, with_branch, callee_of}
use Rattle.cool_parser.proofs.ConcreteMachine as concrete
use Rattle.lists.proofs.Numbers.{nothing_more}

-- The nodes of what was read

-- nodes so far, and their number
pub record Laid : Type 0 where
  pub list : List Node
  pub count : ℕ

-- a tree's nodes after them
abbrev pub lay_tree : Tree → Laid → Laid
lay_tree t l = record { list = l.list ++ nodes l.count t; count = l.count + tree_size t }

abbrev pub lay : Concrete → Laid → Laid
lay t l = lay_tree (plain t) l

-- the number of the tree's own node
abbrev pub number : Concrete → Laid → NodeId
number t l = root l.count (plain t)

abbrev pub parts_laid : Parts → Laid → Laid
parts_laid NoPart l = l
parts_laid (Then before e separator) l = lay e (parts_laid before l)

abbrev pub args_laid : Args → Laid → Laid
args_laid NoArgs l = l
args_laid (Given firsts last) l = lay last (parts_laid firsts l)

abbrev pub branches_laid : Branches → Laid → Laid
branches_laid NoBranch l = l
branches_laid (Also before (On v arrow body semi)) l = lay body (branches_laid before l)

abbrev pub binding_laid : Binding → Laid → Laid
binding_laid (Default v) l = l
binding_laid (Init v arrow e) l = lay e l

abbrev pub bindings_laid : Bindings → Laid → Laid
bindings_laid NoBinding l = l
bindings_laid (Next before b comma) l = binding_laid b (bindings_laid before l)

-- the receiver of a call without one is self
abbrev pub self_at : Place → Concrete
self_at at = Name (codes "self") at

abbrev pub callee_laid : Callee → Laid → Laid
callee_laid (OfSelf name at) l = lay (self_at at) l
callee_laid (Of t dot name at) l = lay t l
callee_laid (OfClass t mark class dot name at) l = lay t l

abbrev pub target_laid : Target → Laid → Laid
target_laid (Dot t dot) l = lay t l
target_laid (StaticDot t mark class dot) l = lay t l

abbrev pub case_laid : OpenCase → Laid → Laid
case_laid c l = branches_laid c.firsts (lay c.value l)

abbrev pub form_laid : Form → Laid → Laid
form_laid (Arguments callee lparen firsts) l = parts_laid firsts (callee_laid callee l)
form_laid (IfYes at test then_at) l = lay test l
form_laid (IfNo at test then_at met else_at) l = lay met (lay test l)
form_laid (WhileBody at test loop) l = lay test l
form_laid (Items lbrace firsts) l = parts_laid firsts l
form_laid (Value at firsts v arrow) l = bindings_laid firsts l
form_laid (BranchBody c v arrow) l = case_laid c l
form_laid _ l = l

abbrev pub prefix_laid : Prefix → Laid → Laid
prefix_laid (Let at firsts last within) l = binding_laid last (bindings_laid firsts l)
prefix_laid _ l = l

abbrev pub laid : List concrete.Item → Laid
laid [] = record { list = []; count = 0 }
laid (Left l op at ∷ st) = lay l (laid st)
laid (Front p ∷ st) = prefix_laid p (laid st)
laid (Open f ∷ st) = form_laid f (laid st)

-- The stack, by numbers

abbrev pub variable : Variable → name.Variable
variable v = record { name = v.name; at = v.at; declared = v.declared }

abbrev pub between_of : Operator → Infix
between_of (Arith op) = between.Arith op
between_of (Compare op) = between.Compare op

abbrev pub parts_numbers : Parts → Laid → List NodeId
parts_numbers NoPart l = []
parts_numbers (Then before e separator) l = parts_numbers before l ++ number e (parts_laid before l) ∷ []

abbrev pub args_numbers : Args → Laid → List NodeId
args_numbers NoArgs l = []
args_numbers (Given firsts last) l = parts_numbers firsts l ++ number last (parts_laid firsts l) ∷ []

abbrev pub branch_nodes : Branches → Laid → List NodeBranch
branch_nodes NoBranch l = []
branch_nodes (Also before (On v arrow body semi)) l =
    branch_nodes before l ++ record { at = v.at; name = v.name; declared = v.declared; body = number body (branches_laid before l) } ∷ []

abbrev pub call_of : Callee → Laid → Call
call_of (OfSelf name at) l = record { at = at; receiver = number (self_at at) l; class = None; name = name }
call_of (Of t dot name at) l = record { at = at; receiver = number t l; class = None; name = name }
call_of (OfClass t mark class dot name at) l = record { at = at; receiver = number t l; class = Some class; name = name }

abbrev pub open_case : OpenCase → Laid → case.OpenCase
open_case c l = record { at = c.at; value = number c.value l; branches = branch_nodes c.firsts (lay c.value l) }

abbrev pub binding_item : Binding → Laid → Item
binding_item (Default v) l = item.Bound (variable v) None
binding_item (Init v arrow e) l = item.Bound (variable v) (Some (number e l))

abbrev pub bindings_items : Bindings → Laid → List Item → List Item
bindings_items NoBinding l rest = rest
bindings_items (Next before b comma) l rest = binding_item b (bindings_laid before l) ∷ bindings_items before l rest

abbrev pub form_items : Form → Laid → List Item → List Item
form_items (Parenthesis lparen) l rest = item.Parenthesis ∷ rest
form_items (Arguments callee lparen firsts) l rest = item.Arguments (call_of callee l) (parts_numbers firsts (callee_laid callee l)) ∷ rest
form_items (IfTest at) l rest = item.IfTest at ∷ rest
form_items (IfYes at test then_at) l rest = item.IfYes at (number test l) ∷ rest
form_items (IfNo at test then_at met else_at) l rest = item.IfNo at (number test l) (number met (lay test l)) ∷ rest
form_items (WhileTest at) l rest = item.WhileTest at ∷ rest
form_items (WhileBody at test loop) l rest = item.WhileBody at (number test l) ∷ rest
form_items (Items lbrace firsts) l rest = item.Block lbrace (parts_numbers firsts l) ∷ rest
form_items (Value at firsts v arrow) l rest = item.Init (variable v) ∷ bindings_items firsts l rest
form_items (CaseValue at) l rest = item.CaseValue at ∷ rest
form_items (BranchBody c v arrow) l rest = item.BranchBody (open_case c l) (variable v) ∷ rest

abbrev pub prefix_items : Prefix → Laid → List Item → List Item
prefix_items (Let at firsts last within) l rest = binding_item last (bindings_laid firsts l) ∷ bindings_items firsts l rest
prefix_items (Assign name at arrow) l rest = item.Assigning at name ∷ rest
prefix_items (Mark Not at) l rest = item.Front at front.Not ∷ rest
prefix_items (Mark IsVoid at) l rest = item.Front at front.IsVoid ∷ rest
prefix_items (Mark Neg at) l rest = item.Front at front.Neg ∷ rest

abbrev pub open_class : Opened → class.OpenClass
open_class o = record { name = o.heading.name; at = o.heading.at; parent = plain_parent o.heading.parent; features = plain_features o.features }

abbrev pub method_of : Opened → List ℕ → Place → List Formal → method.OpenMethod
method_of o name at formals = record { class = open_class o; name = name; at = at; formals = formals }

abbrev pub body_item : Around → Item
body_item (InMethod o s) = item.MethodBody (method_of o s.name s.at (plain_formals s.formals)) s.result
body_item (InAttribute o v arrow) = item.AttributeInit (open_class o) (variable v)

abbrev pub items : Around → List concrete.Item → List Item
items a [] = body_item a ∷ []
items a (Left l op at ∷ st) = item.Left at (between_of op) (number l (laid st)) ∷ items a st
items a (Front p ∷ st) = prefix_items p (laid st) (items a st)
items a (Open f ∷ st) = form_items f (laid st) (items a st)

-- States

abbrev pub classes_of : Around → Classes
classes_of (InMethod o s) = o.classes
classes_of (InAttribute o v arrow) = o.classes

-- these nodes and these items, in a body
abbrev pub context : Around → Laid → List Item → Context
context a l st = record { nodes = l.list; stack = st; classes = plain_file (classes_of a) }

abbrev pub state : Around → Laid → List Item → Mode → State
state a l st m = record { context = context a l st; mode = m }

abbrev pub method_name : Target → Laid → Mode
method_name (Dot t dot) l = mode.MethodName (number t l) None
method_name (StaticDot t mark class dot) l = mode.MethodName (number t l) (Some class)

abbrev pub inside_shown : Around → Laid → List Item → concrete.Mode → State
inside_shown a l st Need = state a l st mode.Need
inside_shown a l st (Identifier name at) = state a l st (mode.Identifier name at)
inside_shown a l st (Have t) = state a (lay t l) st (mode.Have (number t l))
inside_shown a l st (StaticClass t mark) = state a (lay t l) st (mode.StaticClass (number t l))
inside_shown a l st (StaticEnd t mark class) = state a (lay t l) st (mode.StaticDot (number t l) class)
inside_shown a l st (MethodName target) = state a (target_laid target l) st (method_name target l)
inside_shown a l st (CallParenthesis target name at) = state a (callee_laid (callee_of target name at) l) st (mode.CallParenthesis (call_of (callee_of target name at) l))
inside_shown a l st (FirstArgument callee lparen) = state a (callee_laid callee l) st (mode.FirstArgument (call_of callee l))
inside_shown a l st (NextItem lbrace firsts last semi) =
    state a (parts_laid (Then firsts last semi) l) st (mode.NextItem lbrace (parts_numbers (Then firsts last semi) l))
inside_shown a l st (LetName at firsts) = state a (bindings_laid firsts l) (bindings_items firsts l st) (mode.VariableName purpose.Let)
inside_shown a l st (LetColon at firsts name here) = state a (bindings_laid firsts l) (bindings_items firsts l st) (mode.VariableColon purpose.Let name here)
inside_shown a l st (LetType at firsts name here colon) = state a (bindings_laid firsts l) (bindings_items firsts l st) (mode.VariableType purpose.Let name here)
inside_shown a l st (LetEnd at firsts v) = state a (bindings_laid firsts l) (bindings_items firsts l st) (mode.LetEnd (variable v))
inside_shown a l st (BranchName c) = state a (case_laid c l) st (mode.VariableName (purpose.Branch (open_case c l)))
inside_shown a l st (BranchColon c name here) = state a (case_laid c l) st (mode.VariableColon (purpose.Branch (open_case c l)) name here)
inside_shown a l st (BranchType c name here colon) = state a (case_laid c l) st (mode.VariableType (purpose.Branch (open_case c l)) name here)
inside_shown a l st (BranchArrow c v) = state a (case_laid c l) st (mode.BranchArrow (open_case c l) (variable v))
inside_shown a l st (NextBranch c b) = state a (case_laid (with_branch c b) l) st (mode.NextBranch (open_case (with_branch c b) l))
inside_shown a l st (NewType at) = state a l st (mode.NewType at)

abbrev pub outside : Classes → Mode → State
outside cs m = record { context = record { nodes = []; stack = []; classes = plain_file cs }; mode = m }

abbrev pub open_method : OpenMethod → method.OpenMethod
open_method m = method_of m.class m.name m.at (plain_first_formals m.firsts)

abbrev pub closed_method : ClosedMethod → method.OpenMethod
closed_method m = method_of m.class m.name m.at (plain_formals m.formals)

-- the parser's state where the machine over concrete trees is in this one
abbrev pub shown : concrete.State → State
shown (File cs) = outside cs mode.File
shown (ClassName cs mark) = outside cs mode.ClassName
shown (ClassHead cs mark name at) = outside cs (mode.ClassHead name at)
shown (ParentName cs mark name at inherits) = outside cs (mode.ParentName name at)
shown (ClassBrace cs mark name at inherits parent) = outside cs (mode.ClassBrace name at parent)
shown (InClass o) = outside o.classes (mode.Features (open_class o))
shown (ClassEnd o rbrace) = outside o.classes (mode.ClassEnd (open_class o))
shown (FeatureName o name at) = outside o.classes (mode.FeatureName (open_class o) name at)
shown (FirstFormal o name at lparen) = outside o.classes (mode.FirstFormal (method_of o name at []))
shown (FormalName m) = outside m.class.classes (mode.VariableName (purpose.Formal (open_method m)))
shown (FormalColon m name at) = outside m.class.classes (mode.VariableColon (purpose.Formal (open_method m)) name at)
shown (FormalType m name at colon) = outside m.class.classes (mode.VariableType (purpose.Formal (open_method m)) name at)
shown (FormalEnd m v) = outside m.class.classes (mode.FormalEnd (method_of m.class m.name m.at (plain_first_formals m.firsts ++ plain_formal v ∷ [])))
shown (ResultColon m) = outside m.class.classes (mode.ResultColon (closed_method m))
shown (ResultType m colon) = outside m.class.classes (mode.ResultType (closed_method m))
shown (MethodBrace m colon result) = outside m.class.classes (mode.MethodBrace (closed_method m) result)
shown (MethodEnd o s body rbrace) =
    outside o.classes (mode.MethodEnd (machine.with_feature (feature.Method (record { name = s.name; at = s.at; formals = plain_formals s.formals; result = s.result; body = plain body })) (open_class o)))
shown (AttributeType o name at colon) = outside o.classes (mode.VariableType (purpose.Attribute (open_class o)) name at)
shown (AttributeEnd o v) = outside o.classes (mode.AttributeEnd (open_class o) (variable v))
shown (Inside a st m) = inside_shown a (laid st) (items a st) m

-- Lengths

abbrev pub IsCounted : Laid → Type 0
IsCounted l = length l.list ≡ l.count

-- a tree's nodes are counted
lay_counted : (t : Concrete) (l : Laid) → IsCounted l → IsCounted (lay t l)
lay_counted t l h = omega (arith, h, length-append l.list (nodes l.count (plain t)), length-nodes (plain t) l.count)

-- the nodes of parts
parts_counted : (ps : Parts) (l : Laid) → IsCounted l → IsCounted (parts_laid ps l)
parts_counted NoPart l h = h
parts_counted (Then before e separator) l h = lay_counted e (parts_laid before l) (parts_counted before l h)

-- the nodes of branches
branches_counted : (bs : Branches) (l : Laid) → IsCounted l → IsCounted (branches_laid bs l)
branches_counted NoBranch l h = h
branches_counted (Also before (On v arrow body semi)) l h = lay_counted body (branches_laid before l) (branches_counted before l h)

-- the nodes of a binding
binding_counted : (b : Binding) (l : Laid) → IsCounted l → IsCounted (binding_laid b l)
binding_counted (Default v) l h = h
binding_counted (Init v arrow e) l h = lay_counted e l h

-- the nodes of bindings
bindings_counted : (bs : Bindings) (l : Laid) → IsCounted l → IsCounted (bindings_laid bs l)
bindings_counted NoBinding l h = h
bindings_counted (Next before b comma) l h = binding_counted b (bindings_laid before l) (bindings_counted before l h)

-- the nodes of a receiver
callee_counted : (callee : Callee) (l : Laid) → IsCounted l → IsCounted (callee_laid callee l)
callee_counted (OfSelf name at) l h = lay_counted (self_at at) l h
callee_counted (Of t dot name at) l h = lay_counted t l h
callee_counted (OfClass t mark class dot name at) l h = lay_counted t l h

-- the nodes of a form
form_counted : (f : Form) (l : Laid) → IsCounted l → IsCounted (form_laid f l)
form_counted (Arguments callee lparen firsts) l h = parts_counted firsts (callee_laid callee l) (callee_counted callee l h)
form_counted (IfYes at test then_at) l h = lay_counted test l h
form_counted (IfNo at test then_at met else_at) l h = lay_counted met (lay test l) (lay_counted test l h)
form_counted (WhileBody at test loop) l h = lay_counted test l h
form_counted (Items lbrace firsts) l h = parts_counted firsts l h
form_counted (Value at firsts v arrow) l h = bindings_counted firsts l h
form_counted (BranchBody c v arrow) l h = branches_counted c.firsts (lay c.value l) (lay_counted c.value l h)
form_counted _ l h = h

-- the nodes of a prefix form
prefix_counted : (p : Prefix) (l : Laid) → IsCounted l → IsCounted (prefix_laid p l)
prefix_counted (Let at firsts last within) l h = binding_counted last (bindings_laid firsts l) (bindings_counted firsts l h)
prefix_counted _ l h = h

-- the count is that of the nodes
pub laid_counted : (st : List concrete.Item) → IsCounted (laid st)
laid_counted [] = refl
laid_counted (Left l op at ∷ st) = lay_counted l (laid st) (laid_counted st)
laid_counted (Front p ∷ st) = prefix_counted p (laid st) (laid_counted st)
laid_counted (Open f ∷ st) = form_counted f (laid st) (laid_counted st)

-- the node placed last is the tree's own
own_number : (ns : List Node) (n : Node) (t : Tree) (l : Laid) → IsCounted l → ns ++ n ∷ [] ≡ (lay_tree t l).list → length ns ≡ l.count + tree_size t - 1
own_number ns n t l h e =
    let size : length (ns ++ n ∷ []) ≡ length (l.list ++ nodes l.count t) = ap length e in
    omega (arith, h, size, length-append ns (n ∷ []), length-append l.list (nodes l.count t), length-nodes t l.count)

-- a node whose parts lie there is an operand
pub operand_shown : (a : Around) (st : List concrete.Item) (t : Concrete) (ns : List Node) (n : Node) → ns ++ n ∷ [] ≡ (lay t (laid st)).list
    → machine.operand n (record { nodes = ns; stack = items a st; classes = plain_file (classes_of a) }) ≡ Some (shown (Inside a st (Have t)))
operand_shown a st t ns n e =
    let id = own_number ns n (plain t) (laid st) (laid_counted st) e in
    λ i. Some (record { context = record { nodes = e i; stack = items a st; classes = plain_file (classes_of a) }; mode = mode.Have (record { 0 = id i }) })

-- Parts and branches in order

-- the nodes of parts are the list of their trees
parts_list : (ps : Parts) (l : Laid) (rest : Trees) → (parts_laid ps l).list ++ nodes_of_all (parts_laid ps l).count rest ≡ l.list ++ nodes_of_all l.count (plain_parts ps rest)
parts_list NoPart l rest = refl
parts_list (Then before e separator) l rest =
    let p = parts_laid before l in
    append_assoc p.list (nodes p.count (plain e)) (nodes_of_all (p.count + tree_size (plain e)) rest) ∙ parts_list before l (More (plain e) rest)

-- the numbers of parts are the roots of their trees
parts_roots : (ps : Parts) (l : Laid) (rest : Trees) → parts_numbers ps l ++ roots (parts_laid ps l).count rest ≡ roots l.count (plain_parts ps rest)
parts_roots NoPart l rest = refl
parts_roots (Then before e separator) l rest =
    let p = parts_laid before l in
    append_assoc (parts_numbers before l) (number e p ∷ []) (roots (p.count + tree_size (plain e)) rest) ∙ parts_roots before l (More (plain e) rest)

-- the same with one more expression
last_list : (ps : Parts) (e : Concrete) (l : Laid) → (lay e (parts_laid ps l)).list ≡ l.list ++ nodes_of_all l.count (plain_parts ps (More (plain e) Last))
last_list ps e l =
    let p = parts_laid ps l in
    ap (λ ns. p.list ++ ns) (sym (append-nil (nodes p.count (plain e)))) ∙ parts_list ps l (More (plain e) Last)

-- the nodes of arguments
args_list : (args : Args) (l : Laid) → (args_laid args l).list ≡ l.list ++ nodes_of_all l.count (plain_args args)
args_list NoArgs l = sym (append-nil l.list)
args_list (Given firsts last) l = last_list firsts last l

-- the numbers of arguments
args_roots : (args : Args) (l : Laid) → args_numbers args l ≡ roots l.count (plain_args args)
args_roots NoArgs l = refl
args_roots (Given firsts last) l = parts_roots firsts l (More (plain last) Last)

-- the nodes of branches are those of the cases
branches_list : (bs : Branches) (l : Laid) (rest : Cases)
    → (branches_laid bs l).list ++ nodes_of_cases (branches_laid bs l).count rest ≡ l.list ++ nodes_of_cases l.count (plain_branches bs rest)
branches_list NoBranch l rest = refl
branches_list (Also before (On v arrow body semi)) l rest =
    let p = branches_laid before l in
    append_assoc p.list (nodes p.count (plain body)) (nodes_of_cases (p.count + tree_size (plain body)) rest) ∙ branches_list before l (CaseOf v.at v.name v.declared (plain body) rest)

-- the branches have the roots of the cases
branches_roots : (bs : Branches) (l : Laid) (rest : Cases) → branch_nodes bs l ++ branch_roots (branches_laid bs l).count rest ≡ branch_roots l.count (plain_branches bs rest)
branches_roots NoBranch l rest = refl
branches_roots (Also before (On v arrow body semi)) l rest =
    let p = branches_laid before l in
    append_assoc (branch_nodes before l) (record { at = v.at; name = v.name; declared = v.declared; body = number body p } ∷ []) (branch_roots (p.count + tree_size (plain body)) rest)
    ∙ branches_roots before l (CaseOf v.at v.name v.declared (plain body) rest)

-- Forms that end

-- a node after three lists
pub regroup : (a b c : List Node) (n : Node) → (a ++ b ++ c) ++ n ∷ [] ≡ a ++ (b ++ c ++ n ∷ [])
regroup a b c n = simp append_assoc

-- a node after four lists
pub regroup_four : (a b c d : List Node) (n : Node) → (a ++ b ++ c ++ d) ++ n ∷ [] ≡ a ++ (b ++ c ++ d ++ n ∷ [])
regroup_four a b c d n = simp append_assoc

-- a dispatch stands after its receiver and its arguments
pub dispatch_list : (callee : Callee) (lparen : Place) (args : Args) (rparen : Place) (l : Laid)
    → (args_laid args (callee_laid callee l)).list ++ machine.dispatch (call_of callee l) (args_numbers args (callee_laid callee l)) ∷ [] ≡ (lay (Dispatch callee lparen args rparen) l).list
dispatch_list (OfSelf name at) lparen args rparen l =
    let r = lay (self_at at) l in
    (λ i. args_list args r i ++ node.Dispatch at (number (self_at at) l) name (args_roots args r i) ∷ [])
    ∙ regroup l.list (nodes l.count (plain (self_at at))) (nodes_of_all r.count (plain_args args)) (node.Dispatch at (number (self_at at) l) name (roots r.count (plain_args args)))
dispatch_list (Of t dot name at) lparen args rparen l =
    let r = lay t l in
    (λ i. args_list args r i ++ node.Dispatch at (number t l) name (args_roots args r i) ∷ [])
    ∙ regroup l.list (nodes l.count (plain t)) (nodes_of_all r.count (plain_args args)) (node.Dispatch at (number t l) name (roots r.count (plain_args args)))
dispatch_list (OfClass t mark class dot name at) lparen args rparen l =
    let r = lay t l in
    (λ i. args_list args r i ++ node.StaticDispatch at (number t l) class name (args_roots args r i) ∷ [])
    ∙ regroup l.list (nodes l.count (plain t)) (nodes_of_all r.count (plain_args args)) (node.StaticDispatch at (number t l) class name (roots r.count (plain_args args)))

-- a block stands after its items
pub block_list : (lbrace : Place) (firsts : Parts) (last : Concrete) (semi rbrace : Place) (l : Laid)
    → (lay last (parts_laid firsts l)).list ++ node.Block lbrace (parts_numbers firsts l ++ number last (parts_laid firsts l) ∷ []) ∷ [] ≡ (lay (Block lbrace firsts last semi rbrace) l).list
block_list lbrace firsts last semi rbrace l =
    let ts = plain_parts firsts (More (plain last) Last) in
    (λ i. last_list firsts last l i ++ node.Block lbrace (parts_roots firsts l (More (plain last) Last) i) ∷ [])
    ∙ append_assoc l.list (nodes_of_all l.count ts) (node.Block lbrace (roots l.count ts) ∷ [])

-- a case stands after its value and its branches
pub case_list : (c : OpenCase) (b : Branch) (esac : Place) (l : Laid)
    → (case_laid (with_branch c b) l).list ++ node.Case c.at (number c.value l) (branch_nodes (Also c.firsts b) (lay c.value l)) ∷ [] ≡ (lay (Case c.at c.value c.of c.firsts b esac) l).list
case_list c b esac l =
    let r = lay c.value l in
    let bs = Also c.firsts b in
    let cs = plain_branches bs NoCase in
    let list = sym (append-nil (branches_laid bs r).list) ∙ branches_list bs r NoCase in
    let heads = sym (append-nil (branch_nodes bs r)) ∙ branches_roots bs r NoCase in
    (λ i. list i ++ node.Case c.at (number c.value l) (heads i) ∷ [])
    ∙ regroup l.list (nodes l.count (plain c.value)) (nodes_of_cases r.count cs) (node.Case c.at (number c.value l) (branch_roots r.count cs))

-- Operators that end

-- an operand on a stack, by its number
abbrev pub top_shown : Around → Top → Reduced
top_shown a top = record { nodes = (lay top.operand (laid top.stack)).list; stack = items a top.stack; operand = number top.operand (laid top.stack) }

-- an operator has one level in both machines
pub level_shown : (op : Operator) → levels.infix_level (between_of op) ≡ level op
level_shown (Arith arith_op.Add) = refl
level_shown _ = refl

-- an operator ends in both machines, or in none
one_shown : (b c : Bool) (a : Around) (k : ℕ) (n : Node) (ns : List Node) (st : List Item) (id : NodeId) (z : Reduced) (u v : Top) → b ≡ c
    → reduced k (ns ++ n ∷ []) st id ≡ top_shown a u → z ≡ top_shown a v
    → (if is_some (node_if b n) then reduced k (ns ++ nodes_of (node_if b n)) st id else z) ≡ top_shown a (cond c u v)
one_shown true true a k n ns st id z u v e f g = f
one_shown false false a k n ns st id z u v e f g = g
one_shown true false a k n ns st id z u v e f g = absurd (cc)
one_shown false true a k n ns st id z u v e f g = absurd (cc)

-- these nodes and this number are those of a tree
same_top : (k : ℕ) (ns : List Node) (n : Node) (t : Tree) (l : Laid) (st : List Item) → IsCounted l → ns ++ n ∷ [] ≡ (lay_tree t l).list
    → reduced k (ns ++ n ∷ []) st (record { 0 = length ns }) ≡ reduced k (lay_tree t l).list st (root l.count t)
same_top k ns n t l st h e = let id = own_number ns n t l h e in λ i. reduced k (e i) st (record { 0 = id i })

-- a binding ends to its let
binding_reduced : (k : ℕ) (b : Binding) (t : Tree) (l : Laid) (st : List Item) → IsCounted l → nat_le k 0 ≡ true
    → reduced k (lay_tree t (binding_laid b l)).list (binding_item b l ∷ st) (root (binding_laid b l).count t) ≡ reduced k (lay_tree (plain_binding b t) l).list st (root l.count (plain_binding b t))
binding_reduced k (Default v) t l st h e =
    let ns = (lay_tree t l).list in
    let n = node.Let v.at v.name v.declared None (root l.count t) in
    let same : ns ++ n ∷ [] ≡ (lay_tree (plain_binding (Default v) t) l).list =
    append_assoc l.list (nodes l.count t) (n ∷ []) ∙ ap (λ c. l.list ++ (nodes c t ++ node.Let v.at v.name v.declared None (root c t) ∷ [])) (nothing_more l.count) in
    ap (λ b. if is_some (node_if b n) then reduced k (ns ++ nodes_of (node_if b n)) st (record { 0 = length ns }) else record { nodes = ns; stack = item.Bound (variable v) None ∷ st; operand = root l.count t }) e
    ∙ same_top k ns n (plain_binding (Default v) t) l st h same
binding_reduced k (Init v arrow x) t l st h e =
    let ns = (lay_tree t (lay x l)).list in
    let n = node.Let v.at v.name v.declared (Some (number x l)) (root (lay x l).count t) in
    let same : ns ++ n ∷ [] ≡ (lay_tree (plain_binding (Init v arrow x) t) l).list = regroup l.list (nodes l.count (plain x)) (nodes (lay x l).count t) n in
    ap (λ b. if is_some (node_if b n) then reduced k (ns ++ nodes_of (node_if b n)) st (record { 0 = length ns }) else record { nodes = ns; stack = item.Bound (variable v) (Some (number x l)) ∷ st; operand = root (lay x l).count t }) e
    ∙ same_top k ns n (plain_binding (Init v arrow x) t) l st h same

-- the bindings of a let end together
bindings_reduced : (k : ℕ) (bs : Bindings) (t : Tree) (l : Laid) (st : List Item) → IsCounted l → nat_le k 0 ≡ true
    → reduced k (lay_tree t (bindings_laid bs l)).list (bindings_items bs l st) (root (bindings_laid bs l).count t) ≡ reduced k (lay_tree (plain_bindings bs t) l).list st (root l.count (plain_bindings bs t))
bindings_reduced k NoBinding t l st h e = refl
bindings_reduced k (Next before b comma) t l st h e =
    binding_reduced k b t (bindings_laid before l) (bindings_items before l st) (bindings_counted before l h) e
    ∙ bindings_reduced k before (plain_binding b t) l st h e

-- a binding stays where its level is too low
binding_stops : (k : ℕ) (b : Binding) (l : Laid) (st : List Item) (ns : List Node) (id : NodeId) → nat_le k 0 ≡ false
    → reduced k ns (binding_item b l ∷ st) id ≡ record { nodes = ns; stack = binding_item b l ∷ st; operand = id }
binding_stops k (Default v) l st ns id e =
    let n = node.Let v.at v.name v.declared None id in
    ap (λ b. if is_some (node_if b n) then reduced k (ns ++ nodes_of (node_if b n)) st (record { 0 = length ns }) else record { nodes = ns; stack = item.Bound (variable v) None ∷ st; operand = id }) e
binding_stops k (Init v arrow x) l st ns id e =
    let n = node.Let v.at v.name v.declared (Some (number x l)) id in
    ap (λ b. if is_some (node_if b n) then reduced k (ns ++ nodes_of (node_if b n)) st (record { 0 = length ns }) else record { nodes = ns; stack = item.Bound (variable v) (Some (number x l)) ∷ st; operand = id }) e

-- all bindings of a let end, or none
let_reduced : (b : Bool) (k : ℕ) (a : Around) (at : Place) (firsts : Bindings) (last : Binding) (within : Place) (st : List concrete.Item) (t : Concrete) → nat_le k 0 ≡ b
    → reduced k (lay (Before (Let at firsts last within) t) (laid st)).list (items a st) (number (Before (Let at firsts last within) t) (laid st)) ≡ top_shown a (reduce k st (Before (Let at firsts last within) t))
    → reduced k (lay t (binding_laid last (bindings_laid firsts (laid st)))).list (binding_item last (bindings_laid firsts (laid st)) ∷ bindings_items firsts (laid st) (items a st)) (number t (binding_laid last (bindings_laid firsts (laid st))))
    ≡ top_shown a (cond b (reduce k st (Before (Let at firsts last within) t)) (record { stack = Front (Let at firsts last within) ∷ st; operand = t }))
let_reduced true k a at firsts last within st t e more =
    let l = bindings_laid firsts (laid st) in
    binding_reduced k last (plain t) l (bindings_items firsts (laid st) (items a st)) (bindings_counted firsts (laid st) (laid_counted st)) e
    ∙ bindings_reduced k firsts (plain_binding last (plain t)) (laid st) (items a st) (laid_counted st) e
    ∙ more
let_reduced false k a at firsts last within st t e more =
    let l = bindings_laid firsts (laid st) in
    binding_stops k last l (bindings_items firsts (laid st) (items a st)) (lay t (binding_laid last l)).list (number t (binding_laid last l)) e

-- an open form stays
open_stops : (k : ℕ) (f : Form) (l : Laid) (st : List Item) (ns : List Node) (id : NodeId) → reduced k ns (form_items f l st) id ≡ record { nodes = ns; stack = form_items f l st; operand = id }
open_stops k (Parenthesis lparen) l st ns id = refl
open_stops k f l st ns id = refl

-- so does what waits for the body of a feature
body_stops : (k : ℕ) (a : Around) (ns : List Node) (id : NodeId) → reduced k ns (body_item a ∷ []) id ≡ record { nodes = ns; stack = body_item a ∷ []; operand = id }
body_stops k (InMethod o s) ns id = refl
body_stops k (InAttribute o v arrow) ns id = refl

-- operators that end make the nodes of the tree that they make
pub reduced_shown : (k : ℕ) (a : Around) (st : List concrete.Item) (t : Concrete) → reduced k (lay t (laid st)).list (items a st) (number t (laid st)) ≡ top_shown a (reduce k st t)
reduced_shown k a [] t = body_stops k a (lay t (laid [])).list (number t (laid []))
reduced_shown k a (Left l (Arith op) at ∷ st) t =
    let ns = (lay t (lay l (laid st))).list in
    let n = node.Arith at op (number l (laid st)) (number t (lay l (laid st))) in
    let whole = Binary l (Arith op) at t in
    one_shown (nat_le k (levels.infix_level (between.Arith op))) (nat_le k (level (Arith op))) a k n ns (items a st) (record { 0 = length ns }) _ (reduce k st whole) (record { stack = Left l (Arith op) at ∷ st; operand = t })
    (ap (nat_le k) (level_shown (Arith op)))
    (same_top k ns n (plain whole) (laid st) (items a st) (laid_counted st) (regroup (laid st).list (nodes (laid st).count (plain l)) (nodes (lay l (laid st)).count (plain t)) n) ∙ reduced_shown k a st whole) refl
reduced_shown k a (Left l (Compare op) at ∷ st) t =
    let ns = (lay t (lay l (laid st))).list in
    let n = node.Compare at op (number l (laid st)) (number t (lay l (laid st))) in
    let whole = Binary l (Compare op) at t in
    one_shown (nat_le k 3) (nat_le k 3) a k n ns (items a st) (record { 0 = length ns }) _ (reduce k st whole) (record { stack = Left l (Compare op) at ∷ st; operand = t })
    refl
    (same_top k ns n (plain whole) (laid st) (items a st) (laid_counted st) (regroup (laid st).list (nodes (laid st).count (plain l)) (nodes (lay l (laid st)).count (plain t)) n) ∙ reduced_shown k a st whole) refl
reduced_shown k a (Front (Mark Not at) ∷ st) t =
    let ns = (lay t (laid st)).list in
    let n = node.Not at (number t (laid st)) in
    let whole = Before (Mark Not at) t in
    one_shown (nat_le k 2) (nat_le k 2) a k n ns (items a st) (record { 0 = length ns }) _ (reduce k st whole) (record { stack = Front (Mark Not at) ∷ st; operand = t })
    refl
    (same_top k ns n (plain whole) (laid st) (items a st) (laid_counted st) (append_assoc (laid st).list (nodes (laid st).count (plain t)) (n ∷ [])) ∙ reduced_shown k a st whole) refl
reduced_shown k a (Front (Mark IsVoid at) ∷ st) t =
    let ns = (lay t (laid st)).list in
    let n = node.IsVoid at (number t (laid st)) in
    let whole = Before (Mark IsVoid at) t in
    one_shown (nat_le k 6) (nat_le k 6) a k n ns (items a st) (record { 0 = length ns }) _ (reduce k st whole) (record { stack = Front (Mark IsVoid at) ∷ st; operand = t })
    refl
    (same_top k ns n (plain whole) (laid st) (items a st) (laid_counted st) (append_assoc (laid st).list (nodes (laid st).count (plain t)) (n ∷ [])) ∙ reduced_shown k a st whole) refl
reduced_shown k a (Front (Mark Neg at) ∷ st) t =
    let ns = (lay t (laid st)).list in
    let n = node.Neg at (number t (laid st)) in
    let whole = Before (Mark Neg at) t in
    one_shown (nat_le k 7) (nat_le k 7) a k n ns (items a st) (record { 0 = length ns }) _ (reduce k st whole) (record { stack = Front (Mark Neg at) ∷ st; operand = t })
    refl
    (same_top k ns n (plain whole) (laid st) (items a st) (laid_counted st) (append_assoc (laid st).list (nodes (laid st).count (plain t)) (n ∷ [])) ∙ reduced_shown k a st whole) refl
reduced_shown k a (Front (Assign name at arrow) ∷ st) t =
    let ns = (lay t (laid st)).list in
    let n = node.Assign at name (number t (laid st)) in
    let whole = Before (Assign name at arrow) t in
    one_shown (nat_le k 1) (nat_le k 1) a k n ns (items a st) (record { 0 = length ns }) _ (reduce k st whole) (record { stack = Front (Assign name at arrow) ∷ st; operand = t })
    refl
    (same_top k ns n (plain whole) (laid st) (items a st) (laid_counted st) (append_assoc (laid st).list (nodes (laid st).count (plain t)) (n ∷ [])) ∙ reduced_shown k a st whole) refl
reduced_shown k a (Front (Let at firsts last within) ∷ st) t =
    let_reduced (nat_le k 0) k a at firsts last within st t refl (reduced_shown k a st (Before (Let at firsts last within) t))
reduced_shown k a (Open f ∷ st) t = open_stops k f (laid st) (items a st) (lay t (form_laid f (laid st))).list (number t (form_laid f (laid st)))
