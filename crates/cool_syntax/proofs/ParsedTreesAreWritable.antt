-- The tree that the grammar makes of tokens has no empty block and no empty `case`, so it can be written as source text.
use Rattle.std.proofs.Common.{List, [], ◌∷◌, subst}
use Rattle.std.specs.List.{AllByRecursion}
use Rattle.std.proofs.ByRecursion.{All-append}
use Rattle.cool_syntax.specs.declared.place.Place.{Place}
use Rattle.cool_syntax.specs.declared.token.Token.{Token}
use Rattle.cool_syntax.specs.declared.file_tree.ClassDef.{ClassDef}
use Rattle.cool_syntax.specs.Tree.{Tree, Trees, Cases, Last, More, NoCase}
use Rattle.cool_syntax.specs.Tree as trees
use Rattle.cool_syntax.specs.ConcreteTrees.{Operator, Arith, Compare, Unary, Not, IsVoid, Neg, Constant, Int, Str, Truth, Concrete, Name, Literal, New, Paren, Dispatch, If, While, Block, Case, Binary, Before, Callee, OfSelf, Of, OfClass, Args, NoArgs, Given, Parts, NoPart, Then, Branches, NoBranch, Also, Branch, On, Prefix, Let, Assign, Mark, Bindings, NoBinding, Next, Binding, Default, Init, ConcreteFeature, Method, Attribute, Initialized, Features, NoFeature, Another, Classes, NoClass, Class}
use Rattle.cool_syntax.specs.PlainTrees.{operation, marked, constant, plain, plain_call, plain_args, plain_parts, plain_branches, plain_branch, plain_prefix, plain_bindings, plain_binding, plain_feature, plain_features, plain_class, plain_file}
use Rattle.cool_syntax.specs.Grammar.{Parses}
use Rattle.cool_syntax.specs.WrittenTrees.{IsWritable, AreWritable, AreCasesWritable, IsFeatureWritable, AreClassesWritable}

-- an operator, where its operands are
operation_writable : (op : Operator) (at : Place) (l r : Tree) → IsWritable l → IsWritable r → IsWritable (operation op at l r)
operation_writable (Arith op) at l r w v = (w, v)
operation_writable (Compare op) at l r w v = (w, v)

-- a prefix operator, where its operand is
marked_writable : (op : Unary) (at : Place) (t : Tree) → IsWritable t → IsWritable (marked op at t)
marked_writable Not at t w = w
marked_writable IsVoid at t w = w
marked_writable Neg at t w = w

-- a constant
constant_writable : (value : Constant) (at : Place) → IsWritable (constant value at)
constant_writable (Int value) at = tt
constant_writable (Str bytes) at = tt
constant_writable (Truth value) at = tt

abbrev IsBranchWritable : Branch → Type 0
IsBranchWritable (On v arrow body semi) = IsWritable (plain body)

mutual
  plain_writable : (c : Concrete) → IsWritable (plain c)
  plain_writable (Name name at) = tt
  plain_writable (Literal value at) = constant_writable value at
  plain_writable (New at class) = tt
  plain_writable (Paren lparen e rparen) = plain_writable e
  plain_writable (Dispatch callee lparen args rparen) = call_writable callee (plain_args args) (args_writable args)
  plain_writable (If at test then_at met else_at unmet fi) = (plain_writable test, plain_writable met, plain_writable unmet)
  plain_writable (While at test loop body pool) = (plain_writable test, plain_writable body)
  plain_writable (Block lbrace firsts last semi rbrace) = block_writable firsts lbrace (plain last) Last (plain_writable last) tt
  plain_writable (Case at value of firsts (On v arrow body semi) esac) = case_writable firsts at (plain value) (On v arrow body semi) NoCase (plain_writable value) (plain_writable body) tt
  plain_writable (Binary left op at right) = operation_writable op at (plain left) (plain right) (plain_writable left) (plain_writable right)
  plain_writable (Before prefix e) = prefix_writable prefix (plain e) (plain_writable e)

  call_writable : (callee : Callee) (args : Trees) → AreWritable args → IsWritable (plain_call callee args)
  call_writable (OfSelf name at) args w = (tt, w)
  call_writable (Of t dot name at) args w = (plain_writable t, w)
  call_writable (OfClass t mark class dot name at) args w = (plain_writable t, w)

  args_writable : (args : Args) → AreWritable (plain_args args)
  args_writable NoArgs = tt
  args_writable (Given firsts last) = parts_writable firsts (More (plain last) Last) (plain_writable last, tt)

  parts_writable : (ps : Parts) (rest : Trees) → AreWritable rest → AreWritable (plain_parts ps rest)
  parts_writable NoPart rest w = w
  parts_writable (Then before e separator) rest w = parts_writable before (More (plain e) rest) (plain_writable e, w)

  block_writable : (ps : Parts) (at : Place) (t : Tree) (rest : Trees) → IsWritable t → AreWritable rest → IsWritable (trees.Block at (plain_parts ps (More t rest)))
  block_writable NoPart at t rest w v = (w, v)
  block_writable (Then before e separator) at t rest w v = block_writable before at (plain e) (More t rest) (plain_writable e) (w, v)

  case_writable : (bs : Branches) (at : Place) (value : Tree) (last : Branch) (rest : Cases) → IsWritable value → IsBranchWritable last → AreCasesWritable rest
      → IsWritable (trees.Case at value (plain_branches bs (plain_branch last rest)))
  case_writable NoBranch at value (On v arrow body semi) rest w b r = (w, b, r)
  case_writable (Also before (On u here e there)) at value (On v arrow body semi) rest w b r =
      case_writable before at value (On u here e there) (plain_branch (On v arrow body semi) rest) w (plain_writable e) (b, r)

  prefix_writable : (p : Prefix) (t : Tree) → IsWritable t → IsWritable (plain_prefix p t)
  prefix_writable (Let at firsts last within) t w = bindings_writable firsts (plain_binding last t) (binding_writable last t w)
  prefix_writable (Assign name at arrow) t w = w
  prefix_writable (Mark op at) t w = marked_writable op at t w

  bindings_writable : (bs : Bindings) (t : Tree) → IsWritable t → IsWritable (plain_bindings bs t)
  bindings_writable NoBinding t w = w
  bindings_writable (Next before b comma) t w = bindings_writable before (plain_binding b t) (binding_writable b t w)

  binding_writable : (b : Binding) (t : Tree) → IsWritable t → IsWritable (plain_binding b t)
  binding_writable (Default v) t w = (tt, w)
  binding_writable (Init v arrow e) t w = (plain_writable e, w)

-- a feature
feature_writable : (f : ConcreteFeature) → IsFeatureWritable (plain_feature f)
feature_writable (Method signature body rbrace semi) = plain_writable body
feature_writable (Attribute v semi) = tt
feature_writable (Initialized v arrow e semi) = plain_writable e

-- features in order
features_writable : (fs : Features) → AllByRecursion IsFeatureWritable (plain_features fs)
features_writable NoFeature = tt
features_writable (Another before f) = All-append IsFeatureWritable (plain_features before) (plain_feature f ∷ []) (features_writable before) (feature_writable f, tt)

-- classes in order
classes_writable : (cs : Classes) → AreClassesWritable (plain_file cs)
classes_writable NoClass = tt
classes_writable (Class before heading features rbrace semi) =
    All-append (λ c. AllByRecursion IsFeatureWritable c.features) (plain_file before) (plain_class heading features ∷ []) (classes_writable before) (features_writable features, tt)

-- all that tokens are parsed to
pub parsed_writable : (tokens : List Token) (classes : List ClassDef) → Parses tokens classes → AreClassesWritable classes
parsed_writable tokens classes (file, shaped, reads, plains) = subst AreClassesWritable plains (classes_writable file)
