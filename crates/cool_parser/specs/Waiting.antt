-- `IsGood` is the parser's invariant between two tokens: the nodes so far are those of complete trees, one after the other, whose roots are the operands that
-- the stack and the mode refer to.
use Rattle.std.specs.Prelude.{◌≡◌, Bool, true, false, List, [], ◌∷◌, ◌++◌, map, Option, Some, None}
use Rattle.cool_syntax.specs.declared.node.NodeId.{NodeId}
use Rattle.cool_syntax.specs.declared.node.Node.{Node}
use Rattle.cool_syntax.specs.Tree.{Trees}
use Rattle.cool_syntax.specs.NodeLists.{roots, nodes_of_all}
use Rattle.cool_parser.specs.declared.item.Item.{Item}
use Rattle.cool_parser.specs.declared.item.Item.TheVariants as item
use Rattle.cool_parser.specs.declared.item.OpenCase.{OpenCase}
use Rattle.cool_parser.specs.declared.mode.Purpose.{Purpose}
use Rattle.cool_parser.specs.declared.mode.Purpose.TheVariants as purpose
use Rattle.cool_parser.specs.declared.mode.Mode.{Mode}
use Rattle.cool_parser.specs.declared.mode.Mode.TheVariants as mode
use Rattle.cool_parser.specs.ParsingMachine.{Context, State}

-- the parts of a case so far
abbrev pub case_parts : OpenCase → List NodeId
case_parts c = c.value ∷ map (λ b. b.body) c.branches

abbrev pub option_parts : Option NodeId → List NodeId
option_parts None = []
option_parts (Some t) = t ∷ []

-- the parts that an item holds, in order
abbrev pub item_parts : Item → List NodeId
item_parts (item.Left at op l) = l ∷ []
item_parts (item.Bound v init) = option_parts init
item_parts (item.Arguments call args) = call.receiver ∷ args
item_parts (item.IfYes at test) = test ∷ []
item_parts (item.IfNo at test met) = test ∷ met ∷ []
item_parts (item.WhileBody at test) = test ∷ []
item_parts (item.Block at items) = items
item_parts (item.BranchBody c v) = case_parts c
item_parts _ = []

-- the parts that a stack holds, from its bottom up
abbrev pub stack_parts : List Item → List NodeId
stack_parts [] = []
stack_parts (i ∷ st) = stack_parts st ++ item_parts i

abbrev pub purpose_parts : Purpose → List NodeId
purpose_parts (purpose.Branch c) = case_parts c
purpose_parts _ = []

-- the parts that a mode holds
abbrev pub mode_parts : Mode → List NodeId
mode_parts (mode.VariableName p) = purpose_parts p
mode_parts (mode.VariableColon p name at) = purpose_parts p
mode_parts (mode.VariableType p name at) = purpose_parts p
mode_parts (mode.BranchArrow c v) = case_parts c
mode_parts (mode.NextBranch c) = case_parts c
mode_parts (mode.NextItem at items) = items
mode_parts (mode.FirstArgument call) = call.receiver ∷ []
mode_parts (mode.Have t) = t ∷ []
mode_parts (mode.StaticClass t) = t ∷ []
mode_parts (mode.StaticDot t class) = t ∷ []
mode_parts (mode.MethodName t class) = t ∷ []
mode_parts (mode.CallParenthesis call) = call.receiver ∷ []
mode_parts _ = []

-- The nodes are the lists of some trees, of which these are the roots.
abbrev pub Holds : List Node → List NodeId → Type 0
Holds ns ids = (ts : Trees) × (ns ≡ nodes_of_all 0 ts) × (ids ≡ roots 0 ts)

-- whether an item waits for the body of a feature
abbrev pub is_body : Item → Bool
is_body (item.MethodBody m class) = true
is_body (item.AttributeInit class v) = true
is_body _ = false

-- nothing stands below the item that waits for the body of a feature
abbrev pub IsBottomed : List Item → Type 0
IsBottomed [] = Unit {0}
IsBottomed (i ∷ st) = (is_body i ≡ true → st ≡ []) × IsBottomed st

-- whether the machine in this mode is outside the bodies of features
abbrev pub is_outside : Mode → Bool
is_outside mode.File = true
is_outside mode.ClassName = true
is_outside (mode.ClassHead name at) = true
is_outside (mode.ParentName name at) = true
is_outside (mode.ClassBrace name at parent) = true
is_outside (mode.Features class) = true
is_outside (mode.ClassEnd class) = true
is_outside (mode.FeatureName class name at) = true
is_outside (mode.FirstFormal m) = true
is_outside (mode.FormalEnd m) = true
is_outside (mode.ResultColon m) = true
is_outside (mode.ResultType m) = true
is_outside (mode.MethodBrace m result) = true
is_outside (mode.MethodEnd class) = true
is_outside (mode.AttributeEnd class v) = true
is_outside (mode.VariableName (purpose.Attribute class)) = true
is_outside (mode.VariableName (purpose.Formal m)) = true
is_outside (mode.VariableColon (purpose.Attribute class) name at) = true
is_outside (mode.VariableColon (purpose.Formal m) name at) = true
is_outside (mode.VariableType (purpose.Attribute class) name at) = true
is_outside (mode.VariableType (purpose.Formal m) name at) = true
is_outside _ = false

-- the invariant between two tokens
pub record IsGood (c : Context) (m : Mode) : Type 0 where
  pub trees : Holds c.nodes (stack_parts c.stack ++ mode_parts m)
  pub bottomed : IsBottomed c.stack
  pub outside : is_outside m ≡ true → c.stack ≡ []

abbrev pub IsGoodState : State → Type 0
IsGoodState s = IsGood s.context s.mode

-- `IsGood` as an opaque definition: contracts name it, and lemmas unfold it
unfoldable pub Good : Context → Mode → Type 0
Good c m = IsGood c m
