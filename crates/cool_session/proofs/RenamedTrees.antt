-- If tokens parse as a feature, the same tokens with changed source locations parse as this feature with the locations changed in the same way.
use Rattle.std.proofs.Common.{◌≡◌, ℕ, ◌≤◌, List, [], ◌∷◌, ◌++◌, map, Some, true, false, refl, sym, ap, ◌∙◌, subst}
use Rattle.std.proofs.lemmas.List.{map-append}
use Rattle.std.specs.Option.{option_map}
use Rattle.cool_syntax.specs.declared.place.Place.{Place}
use Rattle.cool_syntax.specs.declared.type_ref.TypeRef.{TypeRef}
use Rattle.cool_syntax.specs.declared.token.Token.{Token}
use Rattle.cool_syntax.specs.declared.token.Sign.{Sign}
use Rattle.cool_syntax.specs.declared.token.Sign.TheVariants as sign
use Rattle.cool_syntax.specs.declared.file_tree.Feature.{Feature}
use Rattle.cool_syntax.specs.declared.file_tree.Feature.TheVariants as feature
use Rattle.cool_syntax.specs.declared.file_tree.Formal.{Formal}
use Rattle.cool_syntax.specs.Tree.{Tree, Trees, MaybeTree, Cases, Last, More, Without, With, NoCase, CaseOf}
use Rattle.cool_syntax.specs.Tree as trees
use Rattle.cool_syntax.specs.ConcreteTrees.{Operator, Arith, Compare, Unary, Not, IsVoid, Neg, Constant, Int, Str, Truth, Variable, Concrete, Name, Literal, New, Paren, Dispatch, If, While, Block, Case, Binary, Before, Callee, OfSelf, Of, OfClass, Args, NoArgs, Given, Parts, NoPart, Then, Branches, NoBranch, Also, Branch, On, Prefix, Let, Assign, Mark, Bindings, NoBinding, Next, Binding, Default, Init, FirstFormals, NoFormal, Comma, Formals, NoFormals, Declared, Signature, ConcreteFeature, Method, Attribute, Initialized}
use Rattle.cool_syntax.specs.Readings.{symbol, unary_token, constant_token, reading, callee_reading, args_reading, parts_reading, branches_reading, branch_reading, prefix_reading, bindings_reading, binding_reading, first_formals_reading, formals_reading, signature_reading, feature_reading}
use Rattle.cool_syntax.specs.PlainTrees.{operation, marked, constant, plain, plain_call, plain_args, plain_parts, plain_branches, plain_branch, plain_prefix, plain_bindings, plain_binding, plain_first_formals, plain_formals, plain_feature}
use Rattle.cool_syntax.specs.Shapes.{prefix_level, EndsAtLeast, BeginsAbove, CalleeBeginsAbove, IsReceiver, IsShaped, IsShapedCallee, AreShapedArgs, AreShapedParts, AreShapedBranches, IsShapedBranch, IsShapedPrefix, AreShapedBindings, IsShapedBinding, IsShapedFeature, level, left_level}
use Rattle.cool_session.specs.FeatureTokens.{ParsesFeature}

module _ (f : Place → Place) where
  -- Tokens and trees with their places renamed

  abbrev pub renamed_token : Token → Token
  renamed_token t = record { kind = t.kind; at = f t.at }

  abbrev pub renamed_type : TypeRef → TypeRef
  renamed_type r = record { name = r.name; at = f r.at }

  abbrev pub renamed_variable : Variable → Variable
  renamed_variable v = record { name = v.name; at = f v.at; colon = f v.colon; declared = renamed_type v.declared }

  abbrev mutual
    pub renamed : Concrete → Concrete
    renamed (Name name at) = Name name (f at)
    renamed (Literal value at) = Literal value (f at)
    renamed (New at class) = New (f at) (renamed_type class)
    renamed (Paren lparen e rparen) = Paren (f lparen) (renamed e) (f rparen)
    renamed (Dispatch callee lparen args rparen) = Dispatch (renamed_callee callee) (f lparen) (renamed_args args) (f rparen)
    renamed (If at test then_at met else_at unmet fi) =
        If (f at) (renamed test) (f then_at) (renamed met) (f else_at) (renamed unmet) (f fi)
    renamed (While at test loop body pool) = While (f at) (renamed test) (f loop) (renamed body) (f pool)
    renamed (Block lbrace firsts last semi rbrace) = Block (f lbrace) (renamed_parts firsts) (renamed last) (f semi) (f rbrace)
    renamed (Case at value of firsts last esac) = Case (f at) (renamed value) (f of) (renamed_branches firsts) (renamed_branch last) (f esac)
    renamed (Binary left op at right) = Binary (renamed left) op (f at) (renamed right)
    renamed (Before prefix e) = Before (renamed_prefix prefix) (renamed e)

    pub renamed_callee : Callee → Callee
    renamed_callee (OfSelf name at) = OfSelf name (f at)
    renamed_callee (Of receiver dot name at) = Of (renamed receiver) (f dot) name (f at)
    renamed_callee (OfClass receiver mark class dot name at) = OfClass (renamed receiver) (f mark) (renamed_type class) (f dot) name (f at)

    pub renamed_args : Args → Args
    renamed_args NoArgs = NoArgs
    renamed_args (Given firsts last) = Given (renamed_parts firsts) (renamed last)

    pub renamed_parts : Parts → Parts
    renamed_parts NoPart = NoPart
    renamed_parts (Then before e separator) = Then (renamed_parts before) (renamed e) (f separator)

    pub renamed_branches : Branches → Branches
    renamed_branches NoBranch = NoBranch
    renamed_branches (Also before branch) = Also (renamed_branches before) (renamed_branch branch)

    pub renamed_branch : Branch → Branch
    renamed_branch (On v arrow body semi) = On (renamed_variable v) (f arrow) (renamed body) (f semi)

    pub renamed_prefix : Prefix → Prefix
    renamed_prefix (Let at firsts last within) = Let (f at) (renamed_bindings firsts) (renamed_binding last) (f within)
    renamed_prefix (Assign name at arrow) = Assign name (f at) (f arrow)
    renamed_prefix (Mark op at) = Mark op (f at)

    pub renamed_bindings : Bindings → Bindings
    renamed_bindings NoBinding = NoBinding
    renamed_bindings (Next before binding comma) = Next (renamed_bindings before) (renamed_binding binding) (f comma)

    pub renamed_binding : Binding → Binding
    renamed_binding (Default v) = Default (renamed_variable v)
    renamed_binding (Init v arrow e) = Init (renamed_variable v) (f arrow) (renamed e)

  abbrev pub renamed_first_formals : FirstFormals → FirstFormals
  renamed_first_formals NoFormal = NoFormal
  renamed_first_formals (Comma before v comma) = Comma (renamed_first_formals before) (renamed_variable v) (f comma)

  abbrev pub renamed_formals : Formals → Formals
  renamed_formals NoFormals = NoFormals
  renamed_formals (Declared firsts last) = Declared (renamed_first_formals firsts) (renamed_variable last)

  abbrev pub renamed_signature : Signature → Signature
  renamed_signature s = record {
    name = s.name;
    at = f s.at;
    lparen = f s.lparen;
    formals = renamed_formals s.formals;
    rparen = f s.rparen;
    colon = f s.colon;
    result = renamed_type s.result;
    lbrace = f s.lbrace;
  }

  abbrev pub renamed_concrete : ConcreteFeature → ConcreteFeature
  renamed_concrete (Method s body rbrace semi) = Method (renamed_signature s) (renamed body) (f rbrace) (f semi)
  renamed_concrete (Attribute v semi) = Attribute (renamed_variable v) (f semi)
  renamed_concrete (Initialized v arrow e semi) = Initialized (renamed_variable v) (f arrow) (renamed e) (f semi)

  abbrev mutual
    pub renamed_tree : Tree → Tree
    renamed_tree (trees.New at class) = trees.New (f at) (renamed_type class)
    renamed_tree (trees.Id at name) = trees.Id (f at) name
    renamed_tree (trees.Int at value) = trees.Int (f at) value
    renamed_tree (trees.Str at bytes) = trees.Str (f at) bytes
    renamed_tree (trees.Bool at value) = trees.Bool (f at) value
    renamed_tree (trees.unary at form t) = trees.unary (f at) form (renamed_tree t)
    renamed_tree (trees.binary at form a b) = trees.binary (f at) form (renamed_tree a) (renamed_tree b)
    renamed_tree (trees.Dispatch at t name ts) = trees.Dispatch (f at) (renamed_tree t) name (renamed_trees ts)
    renamed_tree (trees.StaticDispatch at t class name ts) = trees.StaticDispatch (f at) (renamed_tree t) (renamed_type class) name (renamed_trees ts)
    renamed_tree (trees.If at t y n) = trees.If (f at) (renamed_tree t) (renamed_tree y) (renamed_tree n)
    renamed_tree (trees.Block at ts) = trees.Block (f at) (renamed_trees ts)
    renamed_tree (trees.Let at name declared o t) = trees.Let (f at) name (renamed_type declared) (renamed_maybe o) (renamed_tree t)
    renamed_tree (trees.Case at t cs) = trees.Case (f at) (renamed_tree t) (renamed_cases cs)

    pub renamed_trees : Trees → Trees
    renamed_trees Last = Last
    renamed_trees (More t ts) = More (renamed_tree t) (renamed_trees ts)

    pub renamed_maybe : MaybeTree → MaybeTree
    renamed_maybe Without = Without
    renamed_maybe (With t) = With (renamed_tree t)

    pub renamed_cases : Cases → Cases
    renamed_cases NoCase = NoCase
    renamed_cases (CaseOf at name declared t cs) = CaseOf (f at) name (renamed_type declared) (renamed_tree t) (renamed_cases cs)

  abbrev pub renamed_formal : Formal → Formal
  renamed_formal a = record { name = a.name; at = f a.at; declared = renamed_type a.declared }

  abbrev pub renamed_feature : Feature → Feature
  renamed_feature (feature.Method m) = feature.Method (record {
    name = m.name;
    at = f m.at;
    formals = map renamed_formal m.formals;
    result = renamed_type m.result;
    body = renamed_tree m.body;
  })
  renamed_feature (feature.Attribute a) = feature.Attribute (record {
    name = a.name;
    at = f a.at;
    declared = renamed_type a.declared;
    init = option_map renamed_tree a.init;
  })

  -- The renamed tree reads as the renamed tokens

  three : (a b c : List Token) → map renamed_token ((a ++ b) ++ c) ≡ (map renamed_token a ++ map renamed_token b) ++ map renamed_token c
  three a b c = map-append renamed_token (a ++ b) c ∙ ap (λ (ts : List Token). ts ++ map renamed_token c) (map-append renamed_token a b)

  four : (a b c d : List Token)
      → map renamed_token (((a ++ b) ++ c) ++ d) ≡ ((map renamed_token a ++ map renamed_token b) ++ map renamed_token c) ++ map renamed_token d
  four a b c d = map-append renamed_token ((a ++ b) ++ c) d ∙ ap (λ (ts : List Token). ts ++ map renamed_token d) (three a b c)

  unary_renamed : (op : Unary) (at : Place) → unary_token op (f at) ≡ renamed_token (unary_token op at)
  unary_renamed Not at = refl
  unary_renamed IsVoid at = refl
  unary_renamed Neg at = refl

  constant_renamed : (c : Constant) (at : Place) → constant_token c (f at) ≡ renamed_token (constant_token c at)
  constant_renamed (Truth true) at = refl
  constant_renamed _ at = refl

  mutual
    reading_renamed : (e : Concrete) → reading (renamed e) ≡ map renamed_token (reading e)
    reading_renamed (Name name at) = refl
    reading_renamed (Literal value at) = ap (λ (t : Token). t ∷ []) (constant_renamed value at)
    reading_renamed (New at class) = refl
    reading_renamed (Paren lparen e rparen) = simp (map-append, reading_renamed e) refl
    reading_renamed (Dispatch callee lparen args rparen) = simp (three, callee_renamed callee, args_renamed args) refl
    reading_renamed (If at test then_at met else_at unmet fi) =
        simp (four, reading_renamed test, reading_renamed met, reading_renamed unmet) refl
    reading_renamed (While at test loop body pool) = simp (three, reading_renamed test, reading_renamed body) refl
    reading_renamed (Block lbrace firsts last semi rbrace) = simp (three, parts_renamed sign.Semi firsts, reading_renamed last) refl
    reading_renamed (Case at value of firsts last esac) =
        simp (four, reading_renamed value, branches_renamed firsts, branch_renamed last) refl
    reading_renamed (Binary left op at right) = simp (map-append, reading_renamed left, reading_renamed right) refl
    reading_renamed (Before prefix e) = simp (map-append, prefix_renamed prefix, reading_renamed e) refl

    callee_renamed : (c : Callee) → callee_reading (renamed_callee c) ≡ map renamed_token (callee_reading c)
    callee_renamed (OfSelf name at) = refl
    callee_renamed (Of receiver dot name at) = simp (map-append, reading_renamed receiver) refl
    callee_renamed (OfClass receiver mark class dot name at) = simp (map-append, reading_renamed receiver) refl

    args_renamed : (args : Args) → args_reading (renamed_args args) ≡ map renamed_token (args_reading args)
    args_renamed NoArgs = refl
    args_renamed (Given firsts last) = simp (map-append, parts_renamed sign.Comma firsts, reading_renamed last) refl

    parts_renamed : (s : Sign) (ps : Parts) → parts_reading s (renamed_parts ps) ≡ map renamed_token (parts_reading s ps)
    parts_renamed s NoPart = refl
    parts_renamed s (Then before e separator) = simp (three, parts_renamed s before, reading_renamed e) refl

    branches_renamed : (bs : Branches) → branches_reading (renamed_branches bs) ≡ map renamed_token (branches_reading bs)
    branches_renamed NoBranch = refl
    branches_renamed (Also before branch) = simp (map-append, branches_renamed before, branch_renamed branch) refl

    branch_renamed : (b : Branch) → branch_reading (renamed_branch b) ≡ map renamed_token (branch_reading b)
    branch_renamed (On v arrow body semi) = simp (three, reading_renamed body) refl

    prefix_renamed : (p : Prefix) → prefix_reading (renamed_prefix p) ≡ map renamed_token (prefix_reading p)
    prefix_renamed (Let at firsts last within) = simp (three, bindings_renamed firsts, binding_renamed last) refl
    prefix_renamed (Assign name at arrow) = refl
    prefix_renamed (Mark op at) = ap (λ (t : Token). t ∷ []) (unary_renamed op at)

    bindings_renamed : (bs : Bindings) → bindings_reading (renamed_bindings bs) ≡ map renamed_token (bindings_reading bs)
    bindings_renamed NoBinding = refl
    bindings_renamed (Next before binding comma) = simp (three, bindings_renamed before, binding_renamed binding) refl

    binding_renamed : (b : Binding) → binding_reading (renamed_binding b) ≡ map renamed_token (binding_reading b)
    binding_renamed (Default v) = refl
    binding_renamed (Init v arrow e) = simp (map-append, reading_renamed e) refl

  first_formals_renamed : (fs : FirstFormals) → first_formals_reading (renamed_first_formals fs) ≡ map renamed_token (first_formals_reading fs)
  first_formals_renamed NoFormal = refl
  first_formals_renamed (Comma before v comma) = simp (three, first_formals_renamed before) refl

  formals_renamed : (fs : Formals) → formals_reading (renamed_formals fs) ≡ map renamed_token (formals_reading fs)
  formals_renamed NoFormals = refl
  formals_renamed (Declared firsts last) = simp (map-append, first_formals_renamed firsts) refl

  signature_renamed : (s : Signature) → signature_reading (renamed_signature s) ≡ map renamed_token (signature_reading s)
  signature_renamed s = simp (map-append, formals_renamed s.formals) refl

  feature_reading_renamed : (e : ConcreteFeature) → feature_reading (renamed_concrete e) ≡ map renamed_token (feature_reading e)
  feature_reading_renamed (Method s body rbrace semi) =
      (λ i. (signature_renamed s i ++ reading_renamed body i) ++ symbol sign.RBrace (f rbrace) ∷ symbol sign.Semi (f semi) ∷ [])
      ∙ sym (three (signature_reading s) (reading body) (symbol sign.RBrace rbrace ∷ symbol sign.Semi semi ∷ []))
  feature_reading_renamed (Attribute v semi) = refl
  feature_reading_renamed (Initialized v arrow e semi) = simp (three, reading_renamed e) refl

  -- The renamed tree is shaped where the tree is

  level_renamed : (p : Prefix) → prefix_level (renamed_prefix p) ≡ prefix_level p
  level_renamed (Let at firsts last within) = refl
  level_renamed (Assign name at arrow) = refl
  level_renamed (Mark op at) = refl

  ends_renamed : (k : ℕ) (e : Concrete) → EndsAtLeast k e → EndsAtLeast k (renamed e)
  ends_renamed k (Binary left op at right) (high, h) = (high, ends_renamed k right h)
  ends_renamed k (Before prefix e) (high, h) = (subst (λ (n : ℕ). k ≤ n) (sym (level_renamed prefix)) high, ends_renamed k e h)
  ends_renamed k _ h = tt

  mutual
    begins_renamed : (k : ℕ) (e : Concrete) → BeginsAbove k e → BeginsAbove k (renamed e)
    begins_renamed k (Dispatch callee lparen args rparen) h = callee_begins_renamed k callee h
    begins_renamed k (Binary left op at right) (high, h) = (high, begins_renamed k left h)
    begins_renamed k _ h = tt

    callee_begins_renamed : (k : ℕ) (c : Callee) → CalleeBeginsAbove k c → CalleeBeginsAbove k (renamed_callee c)
    callee_begins_renamed k (OfSelf name at) h = tt
    callee_begins_renamed k (Of receiver dot name at) h = begins_renamed k receiver h
    callee_begins_renamed k (OfClass receiver mark class dot name at) h = begins_renamed k receiver h

  receiver_renamed : (e : Concrete) → IsReceiver e → IsReceiver (renamed e)
  receiver_renamed (Binary left op at right) h = absurd h
  receiver_renamed (Before prefix e) h = absurd h
  receiver_renamed _ h = tt

  mutual
    shape_renamed : (e : Concrete) → IsShaped e → IsShaped (renamed e)
    shape_renamed (Paren lparen e rparen) h = shape_renamed e h
    shape_renamed (Dispatch callee lparen args rparen) (h, g) = (callee_shape_renamed callee h, args_shape_renamed args g)
    shape_renamed (If at test then_at met else_at unmet fi) (h, g, k) = (shape_renamed test h, shape_renamed met g, shape_renamed unmet k)
    shape_renamed (While at test loop body pool) (h, g) = (shape_renamed test h, shape_renamed body g)
    shape_renamed (Block lbrace firsts last semi rbrace) (h, g) = (parts_shape_renamed firsts h, shape_renamed last g)
    shape_renamed (Case at value of firsts last esac) (h, g, k) =
        (shape_renamed value h, branches_shape_renamed firsts g, branch_shape_renamed last k)
    shape_renamed (Binary left op at right) (ends, begins, h, g) =
        (ends_renamed (left_level op) left ends, begins_renamed (level op) right begins, shape_renamed left h, shape_renamed right g)
    shape_renamed (Before prefix e) (h, begins, g) = (
      prefix_shape_renamed prefix h,
      subst (λ (n : ℕ). BeginsAbove n (renamed e)) (sym (level_renamed prefix)) (begins_renamed (prefix_level prefix) e begins),
      shape_renamed e g,
    )
    shape_renamed _ h = tt

    callee_shape_renamed : (c : Callee) → IsShapedCallee c → IsShapedCallee (renamed_callee c)
    callee_shape_renamed (OfSelf name at) h = tt
    callee_shape_renamed (Of receiver dot name at) (is, h) = (receiver_renamed receiver is, shape_renamed receiver h)
    callee_shape_renamed (OfClass receiver mark class dot name at) (is, h) = (receiver_renamed receiver is, shape_renamed receiver h)

    args_shape_renamed : (args : Args) → AreShapedArgs args → AreShapedArgs (renamed_args args)
    args_shape_renamed NoArgs h = tt
    args_shape_renamed (Given firsts last) (h, g) = (parts_shape_renamed firsts h, shape_renamed last g)

    parts_shape_renamed : (ps : Parts) → AreShapedParts ps → AreShapedParts (renamed_parts ps)
    parts_shape_renamed NoPart h = tt
    parts_shape_renamed (Then before e separator) (h, g) = (parts_shape_renamed before h, shape_renamed e g)

    branches_shape_renamed : (bs : Branches) → AreShapedBranches bs → AreShapedBranches (renamed_branches bs)
    branches_shape_renamed NoBranch h = tt
    branches_shape_renamed (Also before branch) (h, g) = (branches_shape_renamed before h, branch_shape_renamed branch g)

    branch_shape_renamed : (b : Branch) → IsShapedBranch b → IsShapedBranch (renamed_branch b)
    branch_shape_renamed (On v arrow body semi) h = shape_renamed body h

    prefix_shape_renamed : (p : Prefix) → IsShapedPrefix p → IsShapedPrefix (renamed_prefix p)
    prefix_shape_renamed (Let at firsts last within) (h, g) = (bindings_shape_renamed firsts h, binding_shape_renamed last g)
    prefix_shape_renamed (Assign name at arrow) h = tt
    prefix_shape_renamed (Mark op at) h = tt

    bindings_shape_renamed : (bs : Bindings) → AreShapedBindings bs → AreShapedBindings (renamed_bindings bs)
    bindings_shape_renamed NoBinding h = tt
    bindings_shape_renamed (Next before binding comma) (h, g) = (bindings_shape_renamed before h, binding_shape_renamed binding g)

    binding_shape_renamed : (b : Binding) → IsShapedBinding b → IsShapedBinding (renamed_binding b)
    binding_shape_renamed (Default v) h = tt
    binding_shape_renamed (Init v arrow e) h = shape_renamed e h

  feature_shape_renamed : (e : ConcreteFeature) → IsShapedFeature e → IsShapedFeature (renamed_concrete e)
  feature_shape_renamed (Method s body rbrace semi) h = shape_renamed body h
  feature_shape_renamed (Attribute v semi) h = tt
  feature_shape_renamed (Initialized v arrow e semi) h = shape_renamed e h

  -- The plain form of the renamed tree is the plain form, renamed

  operation_renamed : (op : Operator) (at : Place) (a b : Tree)
      → operation op (f at) (renamed_tree a) (renamed_tree b) ≡ renamed_tree (operation op at a b)
  operation_renamed (Arith op) at a b = refl
  operation_renamed (Compare op) at a b = refl

  marked_renamed : (op : Unary) (at : Place) (t : Tree) → marked op (f at) (renamed_tree t) ≡ renamed_tree (marked op at t)
  marked_renamed Not at t = refl
  marked_renamed IsVoid at t = refl
  marked_renamed Neg at t = refl

  literal_renamed : (c : Constant) (at : Place) → constant c (f at) ≡ renamed_tree (constant c at)
  literal_renamed (Int value) at = refl
  literal_renamed (Str bytes) at = refl
  literal_renamed (Truth value) at = refl

  mutual
    plain_renamed : (e : Concrete) → plain (renamed e) ≡ renamed_tree (plain e)
    plain_renamed (Name name at) = refl
    plain_renamed (Literal value at) = literal_renamed value at
    plain_renamed (New at class) = refl
    plain_renamed (Paren lparen e rparen) = plain_renamed e
    plain_renamed (Dispatch callee lparen args rparen) =
        ap (plain_call (renamed_callee callee)) (args_plain_renamed args) ∙ call_renamed callee (plain_args args)
    plain_renamed (If at test then_at met else_at unmet fi) =
        λ i. trees.If (f at) (plain_renamed test i) (plain_renamed met i) (plain_renamed unmet i)
    plain_renamed (While at test loop body pool) = λ i. trees.While (f at) (plain_renamed test i) (plain_renamed body i)
    plain_renamed (Block lbrace firsts last semi rbrace) =
        ap (trees.Block (f lbrace))
        (ap (λ (t : Tree). plain_parts (renamed_parts firsts) (More t Last)) (plain_renamed last)
        ∙ parts_plain_renamed firsts (More (plain last) Last))
    plain_renamed (Case at value of firsts last esac) = λ i. trees.Case (f at) (plain_renamed value i)
        ((ap (plain_branches (renamed_branches firsts)) (branch_plain_renamed last NoCase)
        ∙ branches_plain_renamed firsts (plain_branch last NoCase)) i)
    plain_renamed (Binary left op at right) =
        (λ i. operation op (f at) (plain_renamed left i) (plain_renamed right i)) ∙ operation_renamed op at (plain left) (plain right)
    plain_renamed (Before prefix e) = ap (plain_prefix (renamed_prefix prefix)) (plain_renamed e) ∙ prefix_plain_renamed prefix (plain e)

    call_renamed : (c : Callee) (args : Trees) → plain_call (renamed_callee c) (renamed_trees args) ≡ renamed_tree (plain_call c args)
    call_renamed (OfSelf name at) args = refl
    call_renamed (Of receiver dot name at) args = λ i. trees.Dispatch (f at) (plain_renamed receiver i) name (renamed_trees args)
    call_renamed (OfClass receiver mark class dot name at) args =
        λ i. trees.StaticDispatch (f at) (plain_renamed receiver i) (renamed_type class) name (renamed_trees args)

    args_plain_renamed : (args : Args) → plain_args (renamed_args args) ≡ renamed_trees (plain_args args)
    args_plain_renamed NoArgs = refl
    args_plain_renamed (Given firsts last) =
        ap (λ (t : Tree). plain_parts (renamed_parts firsts) (More t Last)) (plain_renamed last) ∙ parts_plain_renamed firsts (More (plain last) Last)

    parts_plain_renamed : (ps : Parts) (rest : Trees) → plain_parts (renamed_parts ps) (renamed_trees rest) ≡ renamed_trees (plain_parts ps rest)
    parts_plain_renamed NoPart rest = refl
    parts_plain_renamed (Then before e separator) rest =
        ap (λ (t : Tree). plain_parts (renamed_parts before) (More t (renamed_trees rest))) (plain_renamed e)
        ∙ parts_plain_renamed before (More (plain e) rest)

    branches_plain_renamed : (bs : Branches) (rest : Cases)
        → plain_branches (renamed_branches bs) (renamed_cases rest) ≡ renamed_cases (plain_branches bs rest)
    branches_plain_renamed NoBranch rest = refl
    branches_plain_renamed (Also before branch) rest =
        ap (plain_branches (renamed_branches before)) (branch_plain_renamed branch rest) ∙ branches_plain_renamed before (plain_branch branch rest)

    branch_plain_renamed : (b : Branch) (rest : Cases) → plain_branch (renamed_branch b) (renamed_cases rest) ≡ renamed_cases (plain_branch b rest)
    branch_plain_renamed (On v arrow body semi) rest =
        λ i. CaseOf (f v.at) v.name (renamed_type v.declared) (plain_renamed body i) (renamed_cases rest)

    prefix_plain_renamed : (p : Prefix) (t : Tree) → plain_prefix (renamed_prefix p) (renamed_tree t) ≡ renamed_tree (plain_prefix p t)
    prefix_plain_renamed (Let at firsts last within) t =
        ap (plain_bindings (renamed_bindings firsts)) (binding_plain_renamed last t) ∙ bindings_plain_renamed firsts (plain_binding last t)
    prefix_plain_renamed (Assign name at arrow) t = refl
    prefix_plain_renamed (Mark op at) t = marked_renamed op at t

    bindings_plain_renamed : (bs : Bindings) (t : Tree)
        → plain_bindings (renamed_bindings bs) (renamed_tree t) ≡ renamed_tree (plain_bindings bs t)
    bindings_plain_renamed NoBinding t = refl
    bindings_plain_renamed (Next before binding comma) t =
        ap (plain_bindings (renamed_bindings before)) (binding_plain_renamed binding t) ∙ bindings_plain_renamed before (plain_binding binding t)

    binding_plain_renamed : (b : Binding) (t : Tree) → plain_binding (renamed_binding b) (renamed_tree t) ≡ renamed_tree (plain_binding b t)
    binding_plain_renamed (Default v) t = refl
    binding_plain_renamed (Init v arrow e) t =
        λ i. trees.Let (f v.at) v.name (renamed_type v.declared) (With (plain_renamed e i)) (renamed_tree t)

  first_formals_plain : (fs : FirstFormals) → plain_first_formals (renamed_first_formals fs) ≡ map renamed_formal (plain_first_formals fs)
  first_formals_plain NoFormal = refl
  first_formals_plain (Comma before v comma) = simp (map-append, first_formals_plain before) refl

  formals_plain : (fs : Formals) → plain_formals (renamed_formals fs) ≡ map renamed_formal (plain_formals fs)
  formals_plain NoFormals = refl
  formals_plain (Declared firsts last) = simp (map-append, first_formals_plain firsts) refl

  feature_plain_renamed : (e : ConcreteFeature) → plain_feature (renamed_concrete e) ≡ renamed_feature (plain_feature e)
  feature_plain_renamed (Method s body rbrace semi) = λ i. feature.Method (record {
    name = s.name;
    at = f s.at;
    formals = formals_plain s.formals i;
    result = renamed_type s.result;
    body = plain_renamed body i;
  })
  feature_plain_renamed (Attribute v semi) = refl
  feature_plain_renamed (Initialized v arrow e semi) =
      λ i. feature.Attribute (record { name = v.name; at = f v.at; declared = renamed_type v.declared; init = Some (plain_renamed e i) })

  -- the renamed tokens are the renamed feature
  pub feature_renamed : (tokens : List Token) (x : Feature) → ParsesFeature tokens x → ParsesFeature (map renamed_token tokens) (renamed_feature x)
  feature_renamed tokens x h = record {
    feature = renamed_concrete h.feature;
    shaped = feature_shape_renamed h.feature h.shaped;
    reads = feature_reading_renamed h.feature ∙ ap (map renamed_token) h.reads;
    plain = feature_plain_renamed h.feature ∙ ap renamed_feature h.plain;
  }
