-- The sequences of tokens in a file that end with a semicolon at the level of a class body are the features of the file, in order.
use Rattle.std.proofs.Common.{◌≡◌, ℕ, ◌+◌, ◌≤◌, List, [], ◌∷◌, ◌++◌, Bool, true, false, if◌then◌else◌, refl, sym, ap, ◌∙◌, subst, arith, append_assoc, append-nil}
use Rattle.std.specs.Prelude.{nat_eq}
use Rattle.cool_syntax.specs.declared.place.Place.{Place}
use Rattle.cool_syntax.specs.declared.token.Token.{Token}
use Rattle.cool_syntax.specs.declared.token.Key.TheVariants as key
use Rattle.cool_syntax.specs.declared.token.Sign.{Sign}
use Rattle.cool_syntax.specs.declared.token.Sign.TheVariants as sign
use Rattle.cool_syntax.specs.declared.operator.ArithOp.TheVariants as arith_op
use Rattle.cool_syntax.specs.declared.operator.CompareOp.TheVariants as compare_op
use Rattle.cool_syntax.specs.declared.file_tree.ClassDef.{ClassDef}
use Rattle.cool_syntax.specs.declared.file_tree.Feature.{Feature}
use Rattle.cool_syntax.specs.ConcreteTrees.{Operator, Arith, Compare, Unary, Not, IsVoid, Neg, Constant, Int, Str, Truth, Variable, Concrete, Name, Literal, New, Paren, Dispatch, If, While, Block, Case, Binary, Before, Callee, OfSelf, Of, OfClass, Args, NoArgs, Given, Parts, NoPart, Then, Branches, NoBranch, Also, Branch, On, Prefix, Let, Assign, Mark, Bindings, NoBinding, Next, Binding, Default, Init, FirstFormals, NoFormal, Comma, Formals, NoFormals, Declared, Signature, ConcreteFeature, Method, Attribute, Initialized, Features, NoFeature, Another, Parent, NoParent, Inherits, Heading, Classes, NoClass, Class}
use Rattle.cool_syntax.specs.Grammar.{Parses}
use Rattle.cool_syntax.specs.LexicalStructure.{depth_after, ends_run}
use Rattle.cool_syntax.specs.PlainTrees.{plain_feature, plain_features, plain_file}
use Rattle.cool_syntax.specs.Readings.{word, symbol, object, type, operator_sign, unary_token, constant_token, variable_reading, reading, callee_reading, args_reading, parts_reading, branches_reading, branch_reading, prefix_reading, bindings_reading, binding_reading, first_formals_reading, formals_reading, signature_reading, feature_reading, features_reading, parent_reading, heading_reading, file_reading}
use Rattle.cool_syntax.specs.Shapes.{AreShapedFeatures, IsShapedFile}
use Rattle.cool_syntax.specs.TokenFacts.{AreRising}
use Rattle.cool_session.specs.FeatureTokens.{AreFeatures, run_ended, runs_from, runs_in, features_of_all}
use Rattle.std.proofs.lemmas.Bool.{ne_eqb}

-- Walks over tokens

-- the tokens lead from this depth and run to that depth and run, and these runs end among them
abbrev Leads : ℕ → List Token → List Token → ℕ → List Token → List (List Token) → Type 0
Leads d run ts e now found = (rest : List Token) → runs_from d run (ts ++ rest) ≡ found ++ runs_from e now rest

-- no run ends among them
abbrev pub Walks : ℕ → List Token → ℕ → Type 0
Walks d [] e = d ≡ e
Walks d (t ∷ ts) e = (ends_run t.kind d ≡ false) × Walks (depth_after t.kind d) ts e

pub record Passes (d : ℕ) (ts : List Token) (e : ℕ) : Type 0 where
  pub walks : Walks d ts e

passes_none : (d : ℕ) → Passes d [] d
passes_none d = record { walks = refl }

walks_both : (d e g : ℕ) (a b : List Token) → Walks d a e → Walks e b g → Walks d (a ++ b) g
walks_both d e g [] b first second = subst (λ (n : ℕ). Walks n b g) (sym first) second
walks_both d e g (t ∷ a) b (on, first) second = (on, walks_both (depth_after t.kind d) e g a b first second)

both : (d e g : ℕ) (a b : List Token) → Passes d a e → Passes e b g → Passes d (a ++ b) g
both d e g a b first second = record { walks = walks_both d e g a b first.walks second.walks }

step : (d e : ℕ) (t : Token) → ends_run t.kind d ≡ false → depth_after t.kind d ≡ e → Passes d (t ∷ []) e
step d e t goes_on depth = record { walks = (goes_on, depth) }

after : (d e g : ℕ) (t : Token) (ts : List Token) → Passes d (t ∷ []) e → Passes e ts g → Passes d (t ∷ ts) g
after d e g t ts = both d e g (t ∷ []) ts

walks_lead : (d e : ℕ) (ts : List Token) → Walks d ts e → (run : List Token) → Leads d run ts e (run ++ ts) []
walks_lead d e [] same run rest = λ i. runs_from (same i) (sym (append-nil run) i) rest
walks_lead d e (t ∷ ts) (on, more) run rest =
    ap (λ (b : Bool). if b then run_ended t.kind (run ++ t ∷ []) ++ runs_from (depth_after t.kind d) [] (ts ++ rest)
    else runs_from (depth_after t.kind d) (run ++ t ∷ []) (ts ++ rest)) on
    ∙ (walks_lead (depth_after t.kind d) e ts more (run ++ t ∷ []) rest
    ∙ ap (λ (now : List Token). runs_from e now rest) (append_assoc run (t ∷ []) ts))

-- tokens among which no run ends join the run that goes on
leads_of : (d e : ℕ) (ts : List Token) → Passes d ts e → (run : List Token) → Leads d run ts e (run ++ ts) []
leads_of d e ts h = walks_lead d e ts h.walks

not_zero : (d : ℕ) → 1 ≤ d → nat_eq d 0 ≡ false
not_zero d h = ne_eqb d 0 (λ e. absurd (omega (arith, h, e)))

not_one : (d : ℕ) → 1 ≤ d → nat_eq (d + 1) 1 ≡ false
not_one d h = ne_eqb (d + 1) 1 (λ e. absurd (omega (arith, h, e)))

-- Expressions

constant_passes : (d : ℕ) (c : Constant) (at : Place) → Passes d (constant_token c at ∷ []) d
constant_passes d (Truth true) at = step d d _ refl refl
constant_passes d _ at = step d d _ refl refl

operator_passes : (d : ℕ) (op : Operator) (at : Place) → Passes d (symbol (operator_sign op) at ∷ []) d
operator_passes d (Arith arith_op.Add) at = step d d _ refl refl
operator_passes d (Compare compare_op.Less) at = step d d _ refl refl
operator_passes d _ at = step d d _ refl refl

unary_passes : (d : ℕ) (op : Unary) (at : Place) → Passes d (unary_token op at ∷ []) d
unary_passes d Not at = step d d _ refl refl
unary_passes d IsVoid at = step d d _ refl refl
unary_passes d Neg at = step d d _ refl refl

variable_passes : (d : ℕ) (v : Variable) → Passes d (variable_reading v) d
variable_passes d v =
    after d d d (object v.name v.at) _ (step d d _ refl refl)
    (after d d d (symbol sign.Colon v.colon) _ (step d d _ refl refl) (step d d (type v.declared) refl refl))

-- a semicolon that ends no run
semi_passes : (d : ℕ) (at : Place) → nat_eq d 1 ≡ false → Passes d (symbol sign.Semi at ∷ []) d
semi_passes d at h = step d d (symbol sign.Semi at) h refl

mutual
  passes : (e : Concrete) (d : ℕ) → 1 ≤ d → Passes d (reading e) d
  passes (Name name at) d h = step d d (object name at) refl refl
  passes (Literal value at) d h = constant_passes d value at
  passes (New at class) d h = after d d d (word key.New at) _ (step d d _ refl refl) (step d d (type class) refl refl)
  passes (Paren lparen e rparen) d h =
      both d d d (symbol sign.LParen lparen ∷ reading e) _ (after d d d (symbol sign.LParen lparen) _ (step d d _ refl refl) (passes e d h))
      (step d d (symbol sign.RParen rparen) refl refl)
  passes (Dispatch callee lparen args rparen) d h =
      both d d d (callee_reading callee ++ symbol sign.LParen lparen ∷ args_reading args) _
      (both d d d (callee_reading callee) _ (callee_passes callee d h)
      (after d d d (symbol sign.LParen lparen) _ (step d d _ refl refl) (args_passes args d h)))
      (step d d (symbol sign.RParen rparen) refl refl)
  passes (If at test then_at met else_at unmet fi) d h =
      both d d d (word key.If at ∷ reading test ++ word key.Then then_at ∷ reading met ++ word key.Else else_at ∷ reading unmet) _
      (both d d d (word key.If at ∷ reading test ++ word key.Then then_at ∷ reading met) _
      (both d d d (word key.If at ∷ reading test) _ (after d d d (word key.If at) _ (step d d _ refl refl) (passes test d h))
      (after d d d (word key.Then then_at) _ (step d d _ refl refl) (passes met d h)))
      (after d d d (word key.Else else_at) _ (step d d _ refl refl) (passes unmet d h)))
      (step d d (word key.Fi fi) refl refl)
  passes (While at test loop body pool) d h =
      both d d d (word key.While at ∷ reading test ++ word key.Loop loop ∷ reading body) _
      (both d d d (word key.While at ∷ reading test) _ (after d d d (word key.While at) _ (step d d _ refl refl) (passes test d h))
      (after d d d (word key.Loop loop) _ (step d d _ refl refl) (passes body d h)))
      (step d d (word key.Pool pool) refl refl)
  passes (Block lbrace firsts last semi rbrace) d h =
      both d (d + 1) d (symbol sign.LBrace lbrace ∷ parts_reading sign.Semi firsts ++ reading last) _
      (both d (d + 1) (d + 1) (symbol sign.LBrace lbrace ∷ parts_reading sign.Semi firsts) _
      (after d (d + 1) (d + 1) (symbol sign.LBrace lbrace) _ (step d (d + 1) _ (not_zero d h) refl)
      (parts_passes sign.Semi firsts (d + 1) (omega (arith, h)) (λ at. semi_passes (d + 1) at (not_one d h))))
      (passes last (d + 1) (omega (arith, h))))
      (after (d + 1) (d + 1) d (symbol sign.Semi semi) _ (semi_passes (d + 1) semi (not_one d h))
      (step (d + 1) d (symbol sign.RBrace rbrace) refl (omega arith)))
  passes (Case at value of firsts last esac) d h =
      both d (d + 1) d (word key.Case at ∷ reading value ++ word key.Of of ∷ branches_reading firsts ++ branch_reading last) _
      (both d (d + 1) (d + 1) (word key.Case at ∷ reading value ++ word key.Of of ∷ branches_reading firsts) _
      (both d (d + 1) (d + 1) (word key.Case at ∷ reading value) _
      (after d (d + 1) (d + 1) (word key.Case at) _ (step d (d + 1) _ refl refl) (passes value (d + 1) (omega (arith, h))))
      (after (d + 1) (d + 1) (d + 1) (word key.Of of) _ (step (d + 1) (d + 1) _ refl refl) (branches_passes firsts d h)))
      (branch_passes last d h))
      (step (d + 1) d (word key.Esac esac) refl (omega arith))
  passes (Binary left op at right) d h =
      both d d d (reading left) _ (passes left d h) (after d d d (symbol (operator_sign op) at) _ (operator_passes d op at) (passes right d h))
  passes (Before prefix e) d h = both d d d (prefix_reading prefix) _ (prefix_passes prefix d h) (passes e d h)

  callee_passes : (c : Callee) (d : ℕ) → 1 ≤ d → Passes d (callee_reading c) d
  callee_passes (OfSelf name at) d h = step d d (object name at) refl refl
  callee_passes (Of receiver dot name at) d h =
      both d d d (reading receiver) _ (passes receiver d h)
      (after d d d (symbol sign.Dot dot) _ (step d d _ refl refl) (step d d (object name at) refl refl))
  callee_passes (OfClass receiver mark class dot name at) d h =
      both d d d (reading receiver) _ (passes receiver d h)
      (after d d d (symbol sign.At mark) _ (step d d _ refl refl)
      (after d d d (type class) _ (step d d _ refl refl)
      (after d d d (symbol sign.Dot dot) _ (step d d _ refl refl) (step d d (object name at) refl refl))))

  args_passes : (args : Args) (d : ℕ) → 1 ≤ d → Passes d (args_reading args) d
  args_passes NoArgs d h = passes_none d
  args_passes (Given firsts last) d h =
      both d d d (parts_reading sign.Comma firsts) _ (parts_passes sign.Comma firsts d h (λ at. step d d (symbol sign.Comma at) refl refl))
      (passes last d h)

  parts_passes : (s : Sign) (ps : Parts) (d : ℕ) → 1 ≤ d → ((at : Place) → Passes d (symbol s at ∷ []) d) → Passes d (parts_reading s ps) d
  parts_passes s NoPart d h separated = passes_none d
  parts_passes s (Then before e separator) d h separated =
      both d d d (parts_reading s before ++ reading e) _
      (both d d d (parts_reading s before) _ (parts_passes s before d h separated) (passes e d h)) (separated separator)

  -- the branches of a case stand one deeper than the case
  branches_passes : (bs : Branches) (d : ℕ) → 1 ≤ d → Passes (d + 1) (branches_reading bs) (d + 1)
  branches_passes NoBranch d h = passes_none (d + 1)
  branches_passes (Also before branch) d h =
      both (d + 1) (d + 1) (d + 1) (branches_reading before) _ (branches_passes before d h) (branch_passes branch d h)

  branch_passes : (b : Branch) (d : ℕ) → 1 ≤ d → Passes (d + 1) (branch_reading b) (d + 1)
  branch_passes (On v arrow body semi) d h =
      both (d + 1) (d + 1) (d + 1) (variable_reading v ++ symbol sign.FatArrow arrow ∷ reading body) _
      (both (d + 1) (d + 1) (d + 1) (variable_reading v) _ (variable_passes (d + 1) v)
      (after (d + 1) (d + 1) (d + 1) (symbol sign.FatArrow arrow) _ (step (d + 1) (d + 1) _ refl refl) (passes body (d + 1) (omega (arith, h)))))
      (semi_passes (d + 1) semi (not_one d h))

  prefix_passes : (p : Prefix) (d : ℕ) → 1 ≤ d → Passes d (prefix_reading p) d
  prefix_passes (Let at firsts last within) d h =
      both d d d (word key.Let at ∷ bindings_reading firsts ++ binding_reading last) _
      (both d d d (word key.Let at ∷ bindings_reading firsts) _
      (after d d d (word key.Let at) _ (step d d _ refl refl) (bindings_passes firsts d h)) (binding_passes last d h))
      (step d d (word key.In within) refl refl)
  prefix_passes (Assign name at arrow) d h =
      after d d d (object name at) _ (step d d _ refl refl) (step d d (symbol sign.Arrow arrow) refl refl)
  prefix_passes (Mark op at) d h = unary_passes d op at

  bindings_passes : (bs : Bindings) (d : ℕ) → 1 ≤ d → Passes d (bindings_reading bs) d
  bindings_passes NoBinding d h = passes_none d
  bindings_passes (Next before binding comma) d h =
      both d d d (bindings_reading before ++ binding_reading binding) _
      (both d d d (bindings_reading before) _ (bindings_passes before d h) (binding_passes binding d h))
      (step d d (symbol sign.Comma comma) refl refl)

  binding_passes : (b : Binding) (d : ℕ) → 1 ≤ d → Passes d (binding_reading b) d
  binding_passes (Default v) d h = variable_passes d v
  binding_passes (Init v arrow e) d h =
      both d d d (variable_reading v) _ (variable_passes d v) (after d d d (symbol sign.Arrow arrow) _ (step d d _ refl refl) (passes e d h))

-- Features

first_formals_passes : (fs : FirstFormals) (d : ℕ) → Passes d (first_formals_reading fs) d
first_formals_passes NoFormal d = passes_none d
first_formals_passes (Comma before v comma) d =
    both d d d (first_formals_reading before ++ variable_reading v) _
    (both d d d (first_formals_reading before) _ (first_formals_passes before d) (variable_passes d v))
    (step d d (symbol sign.Comma comma) refl refl)

formals_passes : (fs : Formals) (d : ℕ) → Passes d (formals_reading fs) d
formals_passes NoFormals d = passes_none d
formals_passes (Declared firsts last) d = both d d d (first_formals_reading firsts) _ (first_formals_passes firsts d) (variable_passes d last)

signature_passes : (s : Signature) → Passes 1 (signature_reading s) 2
signature_passes s =
    after 1 1 2 (object s.name s.at) _ (step 1 1 _ refl refl)
    (after 1 1 2 (symbol sign.LParen s.lparen) _ (step 1 1 _ refl refl)
    (both 1 1 2 (formals_reading s.formals) _ (formals_passes s.formals 1)
    (after 1 1 2 (symbol sign.RParen s.rparen) _ (step 1 1 _ refl refl)
    (after 1 1 2 (symbol sign.Colon s.colon) _ (step 1 1 _ refl refl)
    (after 1 1 2 (type s.result) _ (step 1 1 _ refl refl) (step 1 2 (symbol sign.LBrace s.lbrace) refl refl))))))

-- tokens of the level of a class's features, and the semicolon after them
pub record Ends (whole : List Token) : Type 0 where
  pub inner : List Token
  pub semi : Place
  pub same : inner ++ symbol sign.Semi semi ∷ [] ≡ whole
  pub passes : Passes 1 inner 1

pub feature_ends : (e : ConcreteFeature) → Ends (feature_reading e)
feature_ends (Method s body rbrace semi) =
    record {
      inner = (signature_reading s ++ reading body) ++ symbol sign.RBrace rbrace ∷ [];
      semi = semi;
      same = append_assoc (signature_reading s ++ reading body) (symbol sign.RBrace rbrace ∷ []) (symbol sign.Semi semi ∷ []);
      passes = both 1 2 1 (signature_reading s ++ reading body) _
          (both 1 2 2 (signature_reading s) _ (signature_passes s) (passes body 2 (omega arith)))
          (step 2 1 (symbol sign.RBrace rbrace) refl refl);
    }
feature_ends (Attribute v semi) = record { inner = variable_reading v; semi = semi; same = refl; passes = variable_passes 1 v }
feature_ends (Initialized v arrow e semi) =
    record {
      inner = variable_reading v ++ symbol sign.Arrow arrow ∷ reading e;
      semi = semi;
      same = refl;
      passes = both 1 1 1 (variable_reading v) _ (variable_passes 1 v)
          (after 1 1 1 (symbol sign.Arrow arrow) _ (step 1 1 _ refl refl) (passes e 1 (omega arith)));
    }

ends_lead : (whole : List Token) → Ends whole → Leads 1 [] whole 1 [] (whole ∷ [])
ends_lead whole h =
    subst (λ (us : List Token). Leads 1 [] us 1 [] (us ∷ [])) h.same
    (λ rest. ap (runs_from 1 []) (append_assoc h.inner (symbol sign.Semi h.semi ∷ []) rest)
    ∙ leads_of 1 1 h.inner h.passes [] (symbol sign.Semi h.semi ∷ rest))

feature_leads : (e : ConcreteFeature) → Leads 1 [] (feature_reading e) 1 [] (feature_reading e ∷ [])
feature_leads e = ends_lead (feature_reading e) (feature_ends e)

lead : (d e g : ℕ) (run now later a b : List Token) (found more : List (List Token))
    → Leads d run a e now found → Leads e now b g later more → Leads d run (a ++ b) g later (found ++ more)
lead d e g run now later a b found more first second rest =
    ap (runs_from d run) (append_assoc a b rest)
    ∙ (first (b ++ rest) ∙ (ap (λ (runs : List (List Token)). found ++ runs) (second rest) ∙ sym (append_assoc found more (runs_from g later rest))))

unfoldable pub feature_runs : Features → List (List Token)
feature_runs NoFeature = []
feature_runs (Another before e) = feature_runs before ++ feature_reading e ∷ []

features_lead : (fs : Features) → Leads 1 [] (features_reading fs) 1 [] (feature_runs fs)
unfolding feature_runs
features_lead NoFeature = λ rest. refl
features_lead (Another before e) =
    lead 1 1 1 [] [] [] (features_reading before) (feature_reading e) (feature_runs before) (feature_reading e ∷ []) (features_lead before)
    (feature_leads e)

-- Classes

parent_passes : (p : Parent) → Passes 0 (parent_reading p) 0
parent_passes NoParent = passes_none 0
parent_passes (Inherits at class) = after 0 0 0 (word key.Inherits at) _ (step 0 0 _ refl refl) (step 0 0 (type class) refl refl)

-- the tokens of the head of a class before its brace
abbrev pub heading_front : Heading → List Token
heading_front h = word key.Class h.mark ∷ type (record { name = h.name; at = h.at }) ∷ parent_reading h.parent

pub heading_passes : (h : Heading) → Passes 0 (heading_front h) 0
heading_passes h =
    after 0 0 0 (word key.Class h.mark) _ (step 0 0 _ refl refl)
    (after 0 0 0 (type (record { name = h.name; at = h.at })) _ (step 0 0 _ refl refl) (parent_passes h.parent))

heading_leads : (h : Heading) (run : List Token) → Leads 0 run (heading_reading h) 1 [] []
heading_leads h run =
    λ rest. ap (runs_from 0 run) (append_assoc (heading_front h) (symbol sign.LBrace h.lbrace ∷ []) rest)
    ∙ leads_of 0 0 (heading_front h) (heading_passes h) run (symbol sign.LBrace h.lbrace ∷ rest)

-- the tokens after the features of a class
abbrev pub closed : Place → Place → List Token
closed rbrace semi = symbol sign.RBrace rbrace ∷ symbol sign.Semi semi ∷ []

pub closing : (rbrace semi : Place) → Passes 1 (closed rbrace semi) 0
closing rbrace semi = after 1 0 0 (symbol sign.RBrace rbrace) _ (step 1 0 _ refl refl) (step 0 0 (symbol sign.Semi semi) refl refl)

unfoldable pub file_runs : Classes → List (List Token)
file_runs NoClass = []
file_runs (Class before h fs rbrace semi) = file_runs before ++ feature_runs fs

file_leads : (f : Classes) (run : List Token) → (now : List Token) × Leads 0 run (file_reading f) 0 now (file_runs f)
unfolding file_runs
file_leads NoClass run = (run, λ rest. refl)
file_leads (Class before h fs rbrace semi) run =
    let (now, first) = file_leads before run in
    let headed = lead 0 0 1 run now [] (file_reading before) (heading_reading h) (file_runs before) [] first (heading_leads h now) in
    let all = lead 0 1 1 run [] [] (file_reading before ++ heading_reading h) (features_reading fs) (file_runs before ++ [])
    (feature_runs fs) headed (features_lead fs) in
    let whole = lead 0 1 0 run [] (closed rbrace semi) (file_reading before ++ heading_reading h ++ features_reading fs)
    (closed rbrace semi) ((file_runs before ++ []) ++ feature_runs fs) [] all (leads_of 1 0 (closed rbrace semi) (closing rbrace semi) []) in (
      closed rbrace semi,
      subst (Leads 0 run (file_reading (Class before h fs rbrace semi)) 0 (closed rbrace semi))
          (append-nil _ ∙ ap (λ (runs : List (List Token)). runs ++ feature_runs fs) (append-nil (file_runs before))) whole,
    )

pub file_has_runs : (f : Classes) → runs_in (file_reading f) ≡ file_runs f
file_has_runs f =
    let (now, leads) = file_leads f [] in
    ap (runs_from 0 []) (sym (append-nil (file_reading f))) ∙ (leads [] ∙ append-nil (file_runs f))

-- They are the features

pub features_joined : (runs more : List (List Token)) (xs ys : List Feature) → AreFeatures runs xs → AreFeatures more ys
    → AreFeatures (runs ++ more) (xs ++ ys)
features_joined [] more [] ys h g = g
features_joined [] more (x ∷ xs) ys h g = absurd h
features_joined (run ∷ runs) more [] ys h g = absurd h
features_joined (run ∷ runs) more (x ∷ xs) ys (h, hs) g = (h, features_joined runs more xs ys hs g)

lower : (file low less : ℕ) (ts : List Token) → less ≤ low → AreRising file low ts → AreRising file less ts
lower file low less [] le h = tt
lower file low less (t ∷ ts) le (in_file, later, h) = (in_file, omega (arith, le, later), h)

-- the parts of tokens that rise do
rising_parts : (file low : ℕ) (a b : List Token) → AreRising file low (a ++ b) → AreRising file low a × AreRising file 0 b
rising_parts file low [] b h = (tt, lower file low 0 b (omega arith) h)
rising_parts file low (t ∷ a) b (in_file, later, h) =
    let (left, right) = rising_parts file (t.at.byte + 1) a b h in ((in_file, later, left), right)

pub features_are : (file : ℕ) (fs : Features) → AreShapedFeatures fs → AreRising file 0 (features_reading fs)
    → AreFeatures (feature_runs fs) (plain_features fs)
unfolding feature_runs
features_are file NoFeature shaped rising = tt
features_are file (Another before e) (shaped, here) rising =
    let (left, right) = rising_parts file 0 (features_reading before) (feature_reading e) rising in
    features_joined (feature_runs before) (feature_reading e ∷ []) (plain_features before) (plain_feature e ∷ [])
    (features_are file before shaped left)
    (record { parses = record { feature = e; shaped = here; reads = refl; plain = refl }; file = file; rising = right }, tt)

pub all_joined : (ds es : List ClassDef) → features_of_all (ds ++ es) ≡ features_of_all ds ++ features_of_all es
all_joined [] es = refl
all_joined (d ∷ ds) es =
    ap (λ (xs : List Feature). d.features ++ xs) (all_joined ds es) ∙ sym (append_assoc d.features (features_of_all ds) (features_of_all es))

file_is : (file : ℕ) (f : Classes) → IsShapedFile f → AreRising file 0 (file_reading f) → AreFeatures (file_runs f) (features_of_all (plain_file f))
unfolding file_runs
file_is file NoClass shaped rising = tt
file_is file (Class before h fs rbrace semi) (shaped, here) rising =
    let closed = symbol sign.RBrace rbrace ∷ symbol sign.Semi semi ∷ [] in
    let (inside, end) = rising_parts file 0 (file_reading before ++ heading_reading h ++ features_reading fs) closed rising in
    let (left, right) = rising_parts file 0 (file_reading before ++ heading_reading h) (features_reading fs) inside in
    let (first, head) = rising_parts file 0 (file_reading before) (heading_reading h) left in
    subst (AreFeatures (file_runs before ++ feature_runs fs))
    (ap (λ (xs : List Feature). features_of_all (plain_file before) ++ xs) (sym (append-nil (plain_features fs)))
    ∙ sym (all_joined (plain_file before) _))
    (features_joined (file_runs before) (feature_runs fs) (features_of_all (plain_file before)) (plain_features fs) (file_is file before shaped first)
    (features_are file fs here right))

-- the runs of tokens that are a file are its features
pub runs_are_features : (file : ℕ) (tokens : List Token) (classes : List ClassDef) → AreRising file 0 tokens → Parses tokens classes
    → AreFeatures (runs_in tokens) (features_of_all classes)
runs_are_features file tokens classes rising (f, shaped, reads, is) =
    subst (λ (ts : List Token). AreFeatures (runs_in ts) (features_of_all classes)) reads
    (subst (λ (runs : List (List Token)). AreFeatures runs (features_of_all classes)) (sym (file_has_runs f))
    (subst (λ (ds : List ClassDef). AreFeatures (file_runs f) (features_of_all ds)) is
    (file_is file f shaped (subst (AreRising file 0) (sym reads) rising))))
