-- If the string constants among the tokens of a file consist of bytes (numbers below 256), so do those of the class definitions parsed from them.
use Rattle.std.proofs.Common.{List, [], ◌∷◌, ◌++◌, true, false, sym, subst}
use Rattle.std.specs.List.{AllByRecursion}
use Rattle.cool_syntax.specs.declared.place.Place.{Place}
use Rattle.cool_syntax.specs.declared.token.Token.{Token}
use Rattle.cool_syntax.specs.declared.token.Sign.{Sign}
use Rattle.cool_syntax.specs.declared.token.Sign.TheVariants as sign
use Rattle.cool_syntax.specs.declared.token.Key.TheVariants as key
use Rattle.cool_syntax.specs.declared.file_tree.ClassDef.{ClassDef}
use Rattle.cool_syntax.specs.Tree.{Tree, Trees, Cases, Last, More, NoCase}
use Rattle.cool_syntax.specs.ConcreteTrees.{Operator, Arith, Compare, Unary, Not, IsVoid, Neg, Constant, Int, Str, Truth, Concrete, Name, Literal, New, Paren, Dispatch, If, While, Block, Case, Binary, Before, Callee, OfSelf, Of, OfClass, Args, NoArgs, Given, Parts, NoPart, Then, Branches, NoBranch, Also, Branch, On, Prefix, Let, Assign, Mark, Bindings, NoBinding, Next, Binding, Default, Init, ConcreteFeature, Method, Attribute, Initialized, Features, NoFeature, Another, Classes, NoClass, Class}
use Rattle.cool_syntax.specs.Readings.{symbol, word, object, type, operator_sign, constant_token, variable_reading, reading, callee_reading, args_reading, parts_reading, branches_reading, branch_reading, prefix_reading, bindings_reading, binding_reading, signature_reading, feature_reading, features_reading, heading_reading, file_reading}
use Rattle.cool_syntax.specs.PlainTrees.{operation, marked, constant, plain, plain_call, plain_args, plain_parts, plain_branches, plain_branch, plain_prefix, plain_bindings, plain_binding, plain_feature, plain_features, plain_class, plain_file}
use Rattle.cool_syntax.specs.Grammar.{Parses}
use Rattle.cool_simulation.specs.ByteStrings.{HasBytes, HaveBytes, CasesHaveBytes, FeatureHasBytes, ClassesHaveBytes}
use Rattle.cool_simulation.proofs.theorem.BytesOfTokens.{AreByteTokens}
use Rattle.lists.proofs.AllItems.{all_append}

-- the first tokens of some, and those after them

front_of : (xs ys : List Token) → AreByteTokens (xs ++ ys) → AreByteTokens xs
front_of [] ys h = tt
front_of (x ∷ xs) ys h = (h.0, front_of xs ys h.1)

back_of : (xs ys : List Token) → AreByteTokens (xs ++ ys) → AreByteTokens ys
back_of [] ys h = h
back_of (x ∷ xs) ys h = back_of xs ys h.1

constant_bytes : (c : Constant) (at : Place) → AreByteTokens (constant_token c at ∷ []) → HasBytes (constant c at)
constant_bytes (Int value) at h = tt
constant_bytes (Str bytes) at h = h.0
constant_bytes (Truth true) at h = tt
constant_bytes (Truth false) at h = tt

operation_bytes : (op : Operator) (at : Place) (left right : Tree) → HasBytes left → HasBytes right → HasBytes (operation op at left right)
operation_bytes (Arith op) at left right h k = (h, k)
operation_bytes (Compare op) at left right h k = (h, k)

marked_bytes : (op : Unary) (at : Place) (t : Tree) → HasBytes t → HasBytes (marked op at t)
marked_bytes Not at t h = h
marked_bytes IsVoid at t h = h
marked_bytes Neg at t h = h

mutual
  plain_bytes : (e : Concrete) → AreByteTokens (reading e) → HasBytes (plain e)
  plain_bytes (Name name at) h = tt
  plain_bytes (Literal value at) h = constant_bytes value at h
  plain_bytes (New at class) h = tt
  plain_bytes (Paren lparen e rparen) h = plain_bytes e (front_of (symbol sign.LParen lparen ∷ reading e) (symbol sign.RParen rparen ∷ []) h).1
  plain_bytes (Dispatch callee lparen args rparen) h =
      let given : List Token = symbol sign.LParen lparen ∷ args_reading args in
      let both : AreByteTokens (callee_reading callee ++ given) = front_of (callee_reading callee ++ given) (symbol sign.RParen rparen ∷ []) h in
      call_bytes callee (plain_args args) (front_of (callee_reading callee) given both) (args_bytes args (back_of (callee_reading callee) given both).1)
  plain_bytes (If at test then_at met else_at unmet fi) h =
      let a : List Token = word key.If at ∷ reading test in
      let b : List Token = word key.Then then_at ∷ reading met in
      let c : List Token = word key.Else else_at ∷ reading unmet in
      let abc : AreByteTokens ((a ++ b) ++ c) = front_of ((a ++ b) ++ c) (word key.Fi fi ∷ []) h in
      let ab : AreByteTokens (a ++ b) = front_of (a ++ b) c abc in
      ((plain_bytes test (front_of a b ab).1, plain_bytes met (back_of a b ab).1), plain_bytes unmet (back_of (a ++ b) c abc).1)
  plain_bytes (While at test loop body pool) h =
      let a : List Token = word key.While at ∷ reading test in
      let b : List Token = word key.Loop loop ∷ reading body in
      let ab : AreByteTokens (a ++ b) = front_of (a ++ b) (word key.Pool pool ∷ []) h in
      (plain_bytes test (front_of a b ab).1, plain_bytes body (back_of a b ab).1)
  plain_bytes (Block lbrace firsts last semi rbrace) h =
      let a : List Token = symbol sign.LBrace lbrace ∷ parts_reading sign.Semi firsts in
      let ab : AreByteTokens (a ++ reading last) = front_of (a ++ reading last) (symbol sign.Semi semi ∷ symbol sign.RBrace rbrace ∷ []) h in
      parts_bytes sign.Semi firsts (More (plain last) Last) (front_of a (reading last) ab).1 (plain_bytes last (back_of a (reading last) ab), tt)
  plain_bytes (Case at value of firsts last esac) h =
      let a : List Token = word key.Case at ∷ reading value in
      let b : List Token = word key.Of of ∷ branches_reading firsts in
      let c : List Token = branch_reading last in
      let abc : AreByteTokens ((a ++ b) ++ c) = front_of ((a ++ b) ++ c) (word key.Esac esac ∷ []) h in
      let ab : AreByteTokens (a ++ b) = front_of (a ++ b) c abc in
      (plain_bytes value (front_of a b ab).1, branches_bytes firsts (plain_branch last NoCase) (back_of a b ab).1 (branch_bytes last NoCase (back_of (a ++ b) c abc) tt))
  plain_bytes (Binary left op at right) h =
      let second : List Token = symbol (operator_sign op) at ∷ reading right in
      operation_bytes op at (plain left) (plain right) (plain_bytes left (front_of (reading left) second h)) (plain_bytes right (back_of (reading left) second h).1)
  plain_bytes (Before prefix e) h = prefix_bytes prefix (plain e) (front_of (prefix_reading prefix) (reading e) h) (plain_bytes e (back_of (prefix_reading prefix) (reading e) h))

  call_bytes : (callee : Callee) (args : Trees) → AreByteTokens (callee_reading callee) → HaveBytes args → HasBytes (plain_call callee args)
  call_bytes (OfSelf name at) args h k = (tt, k)
  call_bytes (Of receiver dot name at) args h k = (plain_bytes receiver (front_of (reading receiver) (symbol sign.Dot dot ∷ object name at ∷ []) h), k)
  call_bytes (OfClass receiver mark class dot name at) args h k =
      (plain_bytes receiver (front_of (reading receiver) (symbol sign.At mark ∷ type class ∷ symbol sign.Dot dot ∷ object name at ∷ []) h), k)

  args_bytes : (args : Args) → AreByteTokens (args_reading args) → HaveBytes (plain_args args)
  args_bytes NoArgs h = tt
  args_bytes (Given firsts last) h =
      parts_bytes sign.Comma firsts (More (plain last) Last) (front_of (parts_reading sign.Comma firsts) (reading last) h) (plain_bytes last (back_of (parts_reading sign.Comma firsts) (reading last) h), tt)

  parts_bytes : (s : Sign) (parts : Parts) (rest : Trees) → AreByteTokens (parts_reading s parts) → HaveBytes rest → HaveBytes (plain_parts parts rest)
  parts_bytes s NoPart rest h k = k
  parts_bytes s (Then before e separator) rest h k =
      let both : AreByteTokens (parts_reading s before ++ reading e) = front_of (parts_reading s before ++ reading e) (symbol s separator ∷ []) h in
      parts_bytes s before (More (plain e) rest) (front_of (parts_reading s before) (reading e) both) (plain_bytes e (back_of (parts_reading s before) (reading e) both), k)

  branches_bytes : (branches : Branches) (rest : Cases) → AreByteTokens (branches_reading branches) → CasesHaveBytes rest → CasesHaveBytes (plain_branches branches rest)
  branches_bytes NoBranch rest h k = k
  branches_bytes (Also before branch) rest h k =
      branches_bytes before (plain_branch branch rest) (front_of (branches_reading before) (branch_reading branch) h)
      (branch_bytes branch rest (back_of (branches_reading before) (branch_reading branch) h) k)

  branch_bytes : (branch : Branch) (rest : Cases) → AreByteTokens (branch_reading branch) → CasesHaveBytes rest → CasesHaveBytes (plain_branch branch rest)
  branch_bytes (On v arrow body semi) rest h k =
      let second : List Token = symbol sign.FatArrow arrow ∷ reading body in
      let both : AreByteTokens (variable_reading v ++ second) = front_of (variable_reading v ++ second) (symbol sign.Semi semi ∷ []) h in
      (plain_bytes body (back_of (variable_reading v) second both).1, k)

  prefix_bytes : (prefix : Prefix) (t : Tree) → AreByteTokens (prefix_reading prefix) → HasBytes t → HasBytes (plain_prefix prefix t)
  prefix_bytes (Let at firsts last within) t h k =
      let a : List Token = word key.Let at ∷ bindings_reading firsts in
      let both : AreByteTokens (a ++ binding_reading last) = front_of (a ++ binding_reading last) (word key.In within ∷ []) h in
      bindings_bytes firsts (plain_binding last t) (front_of a (binding_reading last) both).1 (binding_bytes last t (back_of a (binding_reading last) both) k)
  prefix_bytes (Assign name at arrow) t h k = k
  prefix_bytes (Mark op at) t h k = marked_bytes op at t k

  bindings_bytes : (bindings : Bindings) (t : Tree) → AreByteTokens (bindings_reading bindings) → HasBytes t → HasBytes (plain_bindings bindings t)
  bindings_bytes NoBinding t h k = k
  bindings_bytes (Next before binding comma) t h k =
      let both : AreByteTokens (bindings_reading before ++ binding_reading binding) = front_of (bindings_reading before ++ binding_reading binding) (symbol sign.Comma comma ∷ []) h in
      bindings_bytes before (plain_binding binding t) (front_of (bindings_reading before) (binding_reading binding) both)
      (binding_bytes binding t (back_of (bindings_reading before) (binding_reading binding) both) k)

  binding_bytes : (binding : Binding) (t : Tree) → AreByteTokens (binding_reading binding) → HasBytes t → HasBytes (plain_binding binding t)
  binding_bytes (Default v) t h k = (tt, k)
  binding_bytes (Init v arrow e) t h k = (plain_bytes e (back_of (variable_reading v) (symbol sign.Arrow arrow ∷ reading e) h).1, k)

feature_bytes : (f : ConcreteFeature) → AreByteTokens (feature_reading f) → FeatureHasBytes (plain_feature f)
feature_bytes (Method s body rbrace semi) h =
    let both : AreByteTokens (signature_reading s ++ reading body) = front_of (signature_reading s ++ reading body) (symbol sign.RBrace rbrace ∷ symbol sign.Semi semi ∷ []) h in
    plain_bytes body (back_of (signature_reading s) (reading body) both)
feature_bytes (Attribute v semi) h = tt
feature_bytes (Initialized v arrow e semi) h =
    let second : List Token = symbol sign.Arrow arrow ∷ reading e in
    let both : AreByteTokens (variable_reading v ++ second) = front_of (variable_reading v ++ second) (symbol sign.Semi semi ∷ []) h in
    plain_bytes e (back_of (variable_reading v) second both).1

features_bytes : (fs : Features) → AreByteTokens (features_reading fs) → AllByRecursion FeatureHasBytes (plain_features fs)
features_bytes NoFeature h = tt
features_bytes (Another before f) h =
    all_append FeatureHasBytes (plain_features before) (plain_feature f ∷ []) (features_bytes before (front_of (features_reading before) (feature_reading f) h))
    (feature_bytes f (back_of (features_reading before) (feature_reading f) h), tt)

file_bytes : (file : Classes) → AreByteTokens (file_reading file) → ClassesHaveBytes (plain_file file)
file_bytes NoClass h = tt
file_bytes (Class before heading features rbrace semi) h =
    let abc : AreByteTokens ((file_reading before ++ heading_reading heading) ++ features_reading features) =
    front_of ((file_reading before ++ heading_reading heading) ++ features_reading features) (symbol sign.RBrace rbrace ∷ symbol sign.Semi semi ∷ []) h in
    let ab : AreByteTokens (file_reading before ++ heading_reading heading) = front_of (file_reading before ++ heading_reading heading) (features_reading features) abc in
    all_append (λ (c : ClassDef). AllByRecursion FeatureHasBytes c.features) (plain_file before) (plain_class heading features ∷ []) (file_bytes before (front_of (file_reading before) (heading_reading heading) ab))
    (features_bytes features (back_of (file_reading before ++ heading_reading heading) (features_reading features) abc), tt)

-- definitions parsed from tokens whose strings are bytes have bytes as their strings
pub parsed_bytes : (tokens : List Token) (classes : List ClassDef) → AreByteTokens tokens → Parses tokens classes → ClassesHaveBytes classes
parsed_bytes tokens classes h (file, shaped, read, is) = subst ClassesHaveBytes is (file_bytes file (subst AreByteTokens (sym read) h))
