-- If a syntax tree is written as tokens, the grammar parses these tokens as the same tree.
use Rattle.std.proofs.Common.{◌≡◌, ℕ, true, false, cond, List, [], ◌∷◌, ◌++◌, Option, Some, None, refl, ap, sym, ◌∙◌, append_assoc, append-nil}
use Rattle.std.specs.List.{AllByRecursion}
use Rattle.cool_syntax.specs.declared.place.Place.{Place}
use Rattle.cool_syntax.specs.declared.type_ref.TypeRef.{TypeRef}
use Rattle.cool_syntax.specs.declared.token.Token.{Token}
use Rattle.cool_syntax.specs.declared.token.Key.TheVariants as key
use Rattle.cool_syntax.specs.declared.token.Sign.TheVariants as sign
use Rattle.cool_syntax.specs.declared.file_tree.ClassDef.{ClassDef}
use Rattle.cool_syntax.specs.declared.file_tree.Feature.{Feature}
use Rattle.cool_syntax.specs.declared.file_tree.Feature.TheVariants as feature
use Rattle.cool_syntax.specs.declared.file_tree.Formal.{Formal}
use Rattle.cool_syntax.specs.declared.file_tree.MethodDef.{MethodDef}
use Rattle.cool_syntax.specs.declared.file_tree.AttributeDef.{AttributeDef}
use Rattle.cool_syntax.specs.Tree.{Tree, Trees, MaybeTree, Cases, Last, More, Without, With, NoCase, CaseOf, place_of}
use Rattle.cool_syntax.specs.Tree as trees
use Rattle.cool_syntax.specs.ConcreteTrees.{Arith, Compare, Not, IsVoid, Neg, Int, Str, Truth, Variable, Concrete, Name, Literal, New, Paren, Dispatch, If, While, Block, Case, Binary, Before, Of, OfClass, Args, NoArgs, Given, Parts, NoPart, Then, Branches, NoBranch, Also, Branch, On, Let, Assign, Mark, NoBinding, Binding, Default, Init, FirstFormals, NoFormal, Comma, Formals, NoFormals, Declared, ConcreteFeature, Method, Attribute, Initialized, Features, NoFeature, Another, Parent, NoParent, Inherits, Heading, Classes, NoClass, Class}
use Rattle.cool_syntax.specs.Readings.{word, symbol, object, type, operator_sign, variable_reading, first_formals_reading, formals_reading, feature_reading, features_reading, parent_reading, file_reading, reading, args_reading, parts_reading, branches_reading, branch_reading, binding_reading}
use Rattle.cool_syntax.specs.PlainTrees.{plain_formal, plain_first_formals, plain_formals, plain_feature, plain_features, plain_parent, plain_file, plain, plain_args, plain_parts, plain_branches, plain_branch, plain_binding}
use Rattle.cool_syntax.specs.Shapes.{IsShapedFeature, AreShapedFeatures, IsShapedFile, level, left_level, EndsAtLeast, BeginsAbove, IsReceiver, IsShaped, AreShapedArgs, AreShapedParts, AreShapedBranches, IsShapedBranch, IsShapedBinding}
use Rattle.cool_syntax.specs.Grammar.{Parses}
use Rattle.cool_syntax.specs.WrittenTrees.{is_atom, enclosed, written, written_args, written_more, written_items, written_init, written_cases, IsWritable, AreWritable, IsMaybeWritable, AreCasesWritable}
use Rattle.cool_syntax.specs.WrittenTrees.{written_formal, written_more_formals, written_formals, written_feature, written_features, written_parent, written_classes, IsValueWritable, IsFeatureWritable, AreClassesWritable}

-- a concrete tree that may stand as any operand
record IsTight (c : Concrete) : Type 0 where
  ends : (k : ℕ) → EndsAtLeast k c
  begins : (k : ℕ) → BeginsAbove k c
  receiver : IsReceiver c

-- a tree that is read from these tokens, by a concrete tree that is shaped
record IsRead (t : Tree) (ws : List Token) : Type 0 where
  form : Concrete
  shaped : IsShaped form
  reads : reading form ≡ ws
  plains : plain form ≡ t

-- one that may stand as any operand
record IsOperand (t : Tree) (ws : List Token) : Type 0 where
  form : Concrete
  shaped : IsShaped form
  reads : reading form ≡ ws
  plains : plain form ≡ t
  tight : IsTight form

-- a tree, and it as an operand
record Stands (t : Tree) : Type 0 where
  alone : IsRead t (written t)
  operand : IsOperand t (enclosed t (written t))

-- an atom is its own operand
atom : {t : Tree} (c : Concrete) → is_atom t ≡ true → IsShaped c → reading c ≡ written t → plain c ≡ t → IsTight c → Stands t
atom {t} c e s r p tight = record {
  alone = record { form = c; shaped = s; reads = r; plains = p };
  operand = record {
    form = c;
    shaped = s;
    reads = r ∙ ap (λ b. cond b (written t) (symbol sign.LParen (place_of t) ∷ written t ++ symbol sign.RParen (place_of t) ∷ [])) (sym e);
    plains = p;
    tight = tight;
  };
}

-- another tree stands in parentheses
compound : {t : Tree} (c : Concrete) → is_atom t ≡ false → IsShaped c → reading c ≡ written t → plain c ≡ t → Stands t
compound {t} c e s r p = record {
  alone = record { form = c; shaped = s; reads = r; plains = p };
  operand = record {
    form = Paren (place_of t) c (place_of t);
    shaped = s;
    reads = ap (λ ws. symbol sign.LParen (place_of t) ∷ ws ++ symbol sign.RParen (place_of t) ∷ []) r
        ∙ ap (λ b. cond b (written t) (symbol sign.LParen (place_of t) ∷ written t ++ symbol sign.RParen (place_of t) ∷ [])) (sym e);
    plains = p;
    tight = record { ends = λ k. tt; begins = λ k. tt; receiver = tt };
  };
}

-- arguments that are read so
record AreArgs (ts : Trees) (ws : List Token) : Type 0 where
  args : Args
  shaped : AreShapedArgs args
  reads : args_reading args ≡ ws
  plains : plain_args args ≡ ts

-- parts with semicolons, of which the last is named
record AreItems (ts : Trees) (ws : List Token) : Type 0 where
  firsts : Parts
  last : Concrete
  semi : Place
  shaped : AreShapedParts firsts
  last_shaped : IsShaped last
  reads : parts_reading sign.Semi (Then firsts last semi) ≡ ws
  plains : plain_parts firsts (More (plain last) Last) ≡ ts

record AreBranches (cs : Cases) (ws : List Token) : Type 0 where
  firsts : Branches
  last : Branch
  shaped : AreShapedBranches firsts
  last_shaped : IsShapedBranch last
  reads : branches_reading (Also firsts last) ≡ ws
  plains : plain_branches firsts (plain_branch last NoCase) ≡ cs

record IsBinding (at : Place) (name : List ℕ) (declared : TypeRef) (o : MaybeTree) : Type 0 where
  binding : Binding
  shaped : IsShapedBinding binding
  reads : binding_reading binding ≡ object name at ∷ symbol sign.Colon at ∷ type declared ∷ written_init at o
  plains : (t : Tree) → plain_binding binding t ≡ trees.Let at name declared o t

abbrev variable : Place → List ℕ → TypeRef → Variable
variable at name declared = record { name = name; at = at; colon = at; declared = declared }

-- regroups four lists
four : (a b c d : List Token) → ((a ++ b) ++ c) ++ d ≡ a ++ (b ++ (c ++ d))
four a b c d = simp append_assoc

-- regroups an inner list
inner : (a b c d : List Token) → (a ++ (b ++ c)) ++ d ≡ a ++ (b ++ (c ++ d))
inner a b c d = simp append_assoc

-- regroups five lists
five : (a b c d e : List Token) → (((a ++ b) ++ c) ++ d) ++ e ≡ a ++ (((b ++ c) ++ d) ++ e)
five a b c d e = simp append_assoc

mutual
  stands : (t : Tree) → IsWritable t → Stands t
  stands (trees.Assign at name t) w =
      let o = (stands t w).operand in
      compound (Before (Assign name at at) o.form) refl (tt, o.tight.begins 1, o.shaped) (ap (λ ws. object name at ∷ symbol sign.Arrow at ∷ ws) o.reads) (ap (trees.Assign at name) o.plains)
  stands (trees.Dispatch at t name ts) w =
      let o = (stands t w.0).operand in
      let g = args_stand at ts w.1 in
      let call = symbol sign.Dot at ∷ object name at ∷ [] in
      compound (Dispatch (Of o.form at name at) at g.args at) refl ((o.tight.receiver, o.shaped), g.shaped)
      ((λ i. ((o.reads i ++ call) ++ symbol sign.LParen at ∷ g.reads i) ++ symbol sign.RParen at ∷ [])
      ∙ ap (λ ws. ws ++ symbol sign.RParen at ∷ []) (append_assoc (enclosed t (written t)) call (symbol sign.LParen at ∷ written_args at ts)))
      (λ i. trees.Dispatch at (o.plains i) name (g.plains i))
  stands (trees.StaticDispatch at t class name ts) w =
      let o = (stands t w.0).operand in
      let g = args_stand at ts w.1 in
      let call = symbol sign.At at ∷ type class ∷ symbol sign.Dot at ∷ object name at ∷ [] in
      compound (Dispatch (OfClass o.form at class at name at) at g.args at) refl ((o.tight.receiver, o.shaped), g.shaped)
      ((λ i. ((o.reads i ++ call) ++ symbol sign.LParen at ∷ g.reads i) ++ symbol sign.RParen at ∷ [])
      ∙ ap (λ ws. ws ++ symbol sign.RParen at ∷ []) (append_assoc (enclosed t (written t)) call (symbol sign.LParen at ∷ written_args at ts)))
      (λ i. trees.StaticDispatch at (o.plains i) class name (g.plains i))
  stands (trees.If at t y n) w =
      let a = (stands t w.0).alone in
      let b = (stands y w.1).alone in
      let c = (stands n w.2).alone in
      atom (If at a.form at b.form at c.form at) refl (a.shaped, b.shaped, c.shaped)
      (λ i. word key.If at ∷ a.reads i ++ word key.Then at ∷ b.reads i ++ word key.Else at ∷ c.reads i ++ word key.Fi at ∷ [])
      (λ i. trees.If at (a.plains i) (b.plains i) (c.plains i))
      (record { ends = λ k. tt; begins = λ k. tt; receiver = tt })
  stands (trees.While at t b) w =
      let c = (stands t w.0).alone in
      let d = (stands b w.1).alone in
      atom (While at c.form at d.form at) refl (c.shaped, d.shaped)
      (λ i. word key.While at ∷ c.reads i ++ word key.Loop at ∷ d.reads i ++ word key.Pool at ∷ [])
      (λ i. trees.While at (c.plains i) (d.plains i))
      (record { ends = λ k. tt; begins = λ k. tt; receiver = tt })
  stands (trees.Block at Last) w = absurd w
  stands (trees.Block at (More t ts)) w =
      let a = (stands t w.0).alone in
      let g = items_stand at ts NoPart a.form w.1 tt a.shaped in
      let all = parts_reading sign.Semi g.firsts ++ reading g.last in
      let first : (reading a.form ++ symbol sign.Semi at ∷ []) ++ written_items at ts ≡ written_items at (More t ts) =
      ap (λ ws. (ws ++ symbol sign.Semi at ∷ []) ++ written_items at ts) a.reads ∙ append_assoc (written t) (symbol sign.Semi at ∷ []) (written_items at ts) in
      atom (Block at g.firsts g.last g.semi at) refl (g.shaped, g.last_shaped)
      (ap (λ ws. symbol sign.LBrace at ∷ ws) (sym (append_assoc all (symbol sign.Semi g.semi ∷ []) (symbol sign.RBrace at ∷ [])))
      ∙ ap (λ ws. symbol sign.LBrace at ∷ ws ++ symbol sign.RBrace at ∷ []) (g.reads ∙ first))
      (ap (trees.Block at) (g.plains ∙ ap (λ u. More u ts) a.plains))
      (record { ends = λ k. tt; begins = λ k. tt; receiver = tt })
  stands (trees.Let at name declared o t) w =
      let b = binding_stands at name declared o w.0 in
      let e = (stands t w.1).operand in
      compound (Before (Let at NoBinding b.binding at) e.form) refl ((tt, b.shaped), e.tight.begins 0, e.shaped)
      ((λ i. (word key.Let at ∷ b.reads i ++ word key.In at ∷ []) ++ e.reads i)
      ∙ append_assoc (word key.Let at ∷ object name at ∷ symbol sign.Colon at ∷ type declared ∷ written_init at o) (word key.In at ∷ []) (enclosed t (written t)))
      (b.plains (plain e.form) ∙ ap (trees.Let at name declared o) e.plains)
  stands (trees.Case at t NoCase) w = absurd w
  stands (trees.Case at t (CaseOf here name declared b cs)) w =
      let a = (stands t w.0).alone in
      let c = (stands b w.1).alone in
      let g = branches_stand cs NoBranch (On (variable here name declared) here c.form here) w.2 tt c.shaped in
      let head = object name here ∷ symbol sign.Colon here ∷ type declared ∷ symbol sign.FatArrow here ∷ [] in
      let first : (head ++ (reading c.form ++ symbol sign.Semi here ∷ [])) ++ written_cases cs ≡ written_cases (CaseOf here name declared b cs) =
      ap (λ ws. (head ++ (ws ++ symbol sign.Semi here ∷ [])) ++ written_cases cs) c.reads ∙ inner head (written b) (symbol sign.Semi here ∷ []) (written_cases cs) in
      atom (Case at a.form at g.firsts g.last at) refl (a.shaped, g.shaped, g.last_shaped)
      (ap (λ ws. ws ++ word key.Esac at ∷ []) (append_assoc (word key.Case at ∷ reading a.form) (word key.Of at ∷ branches_reading g.firsts) (branch_reading g.last))
      ∙ (λ i. word key.Case at ∷ a.reads i ++ word key.Of at ∷ (g.reads ∙ first) i ++ word key.Esac at ∷ []))
      (λ i. trees.Case at (a.plains i) ((g.plains ∙ ap (λ u. CaseOf here name declared u cs) c.plains) i))
      (record { ends = λ k. tt; begins = λ k. tt; receiver = tt })
  stands (trees.New at class) w = atom (New at class) refl tt refl refl (record { ends = λ k. tt; begins = λ k. tt; receiver = tt })
  stands (trees.IsVoid at t) w =
      let o = (stands t w).operand in
      compound (Before (Mark IsVoid at) o.form) refl (tt, o.tight.begins 6, o.shaped) (ap (λ ws. word key.IsVoid at ∷ ws) o.reads) (ap (trees.IsVoid at) o.plains)
  stands (trees.Arith at op a b) w =
      let l = (stands a w.0).operand in
      let r = (stands b w.1).operand in
      compound (Binary l.form (Arith op) at r.form) refl (l.tight.ends (left_level (Arith op)), r.tight.begins (level (Arith op)), l.shaped, r.shaped)
      (λ i. l.reads i ++ symbol (operator_sign (Arith op)) at ∷ r.reads i) (λ i. trees.Arith at op (l.plains i) (r.plains i))
  stands (trees.Neg at t) w =
      let o = (stands t w).operand in
      compound (Before (Mark Neg at) o.form) refl (tt, o.tight.begins 7, o.shaped) (ap (λ ws. symbol sign.Tilde at ∷ ws) o.reads) (ap (trees.Neg at) o.plains)
  stands (trees.Compare at op a b) w =
      let l = (stands a w.0).operand in
      let r = (stands b w.1).operand in
      compound (Binary l.form (Compare op) at r.form) refl (l.tight.ends 4, r.tight.begins 3, l.shaped, r.shaped)
      (λ i. l.reads i ++ symbol (operator_sign (Compare op)) at ∷ r.reads i) (λ i. trees.Compare at op (l.plains i) (r.plains i))
  stands (trees.Not at t) w =
      let o = (stands t w).operand in
      compound (Before (Mark Not at) o.form) refl (tt, o.tight.begins 2, o.shaped) (ap (λ ws. word key.Not at ∷ ws) o.reads) (ap (trees.Not at) o.plains)
  stands (trees.Id at name) w = atom (Name name at) refl tt refl refl (record { ends = λ k. tt; begins = λ k. tt; receiver = tt })
  stands (trees.Int at value) w = atom (Literal (Int value) at) refl tt refl refl (record { ends = λ k. tt; begins = λ k. tt; receiver = tt })
  stands (trees.Str at bytes) w = atom (Literal (Str bytes) at) refl tt refl refl (record { ends = λ k. tt; begins = λ k. tt; receiver = tt })
  stands (trees.Bool at value) w = atom (Literal (Truth value) at) refl tt refl refl (record { ends = λ k. tt; begins = λ k. tt; receiver = tt })

  args_stand : (at : Place) (ts : Trees) → AreWritable ts → AreArgs ts (written_args at ts)
  args_stand at Last w = record { args = NoArgs; shaped = tt; reads = refl; plains = refl }
  args_stand at (More t ts) w =
      let a = (stands t w.0).alone in
      let g = more_stand at ts NoPart a.form w.1 tt a.shaped in
      record { args = g.args; shaped = g.shaped; reads = g.reads ∙ ap (λ ws. ws ++ written_more at ts) a.reads; plains = g.plains ∙ ap (λ u. More u ts) a.plains }

  more_stand : (at : Place) (ts : Trees) (firsts : Parts) (last : Concrete) → AreWritable ts → AreShapedParts firsts → IsShaped last
      → AreArgs (plain_parts firsts (More (plain last) ts)) ((parts_reading sign.Comma firsts ++ reading last) ++ written_more at ts)
  more_stand at Last firsts last w s l = record { args = Given firsts last; shaped = (s, l); reads = sym (append-nil (parts_reading sign.Comma firsts ++ reading last)); plains = refl }
  more_stand at (More t ts) firsts last w s l =
      let a = (stands t w.0).alone in
      let g = more_stand at ts (Then firsts last at) a.form w.1 (s, l) a.shaped in
      let before = parts_reading sign.Comma firsts ++ reading last in
      record {
        args = g.args;
        shaped = g.shaped;
        reads = g.reads ∙ ap (λ ws. ((before ++ symbol sign.Comma at ∷ []) ++ ws) ++ written_more at ts) a.reads ∙ four before (symbol sign.Comma at ∷ []) (written t) (written_more at ts);
        plains = g.plains ∙ ap (λ u. plain_parts firsts (More (plain last) (More u ts))) a.plains;
      }

  items_stand : (at : Place) (ts : Trees) (firsts : Parts) (last : Concrete) → AreWritable ts → AreShapedParts firsts → IsShaped last
      → AreItems (plain_parts firsts (More (plain last) ts)) (parts_reading sign.Semi (Then firsts last at) ++ written_items at ts)
  items_stand at Last firsts last w s l =
      record { firsts = firsts; last = last; semi = at; shaped = s; last_shaped = l; reads = sym (append-nil (parts_reading sign.Semi (Then firsts last at))); plains = refl }
  items_stand at (More t ts) firsts last w s l =
      let a = (stands t w.0).alone in
      let g = items_stand at ts (Then firsts last at) a.form w.1 (s, l) a.shaped in
      let before = parts_reading sign.Semi (Then firsts last at) in
      record {
        firsts = g.firsts;
        last = g.last;
        semi = g.semi;
        shaped = g.shaped;
        last_shaped = g.last_shaped;
        reads = g.reads ∙ ap (λ ws. ((before ++ ws) ++ symbol sign.Semi at ∷ []) ++ written_items at ts) a.reads ∙ four before (written t) (symbol sign.Semi at ∷ []) (written_items at ts);
        plains = g.plains ∙ ap (λ u. plain_parts firsts (More (plain last) (More u ts))) a.plains;
      }

  branches_stand : (cs : Cases) (firsts : Branches) (last : Branch) → AreCasesWritable cs → AreShapedBranches firsts → IsShapedBranch last
      → AreBranches (plain_branches firsts (plain_branch last cs)) (branches_reading (Also firsts last) ++ written_cases cs)
  branches_stand NoCase firsts last w s l =
      record { firsts = firsts; last = last; shaped = s; last_shaped = l; reads = sym (append-nil (branches_reading (Also firsts last))); plains = refl }
  branches_stand (CaseOf at name declared t cs) firsts last w s l =
      let a = (stands t w.0).alone in
      let g = branches_stand cs (Also firsts last) (On (variable at name declared) at a.form at) w.1 (s, l) a.shaped in
      let before = branches_reading (Also firsts last) in
      let head = object name at ∷ symbol sign.Colon at ∷ type declared ∷ symbol sign.FatArrow at ∷ [] in
      record {
        firsts = g.firsts;
        last = g.last;
        shaped = g.shaped;
        last_shaped = g.last_shaped;
        reads = g.reads ∙ ap (λ ws. (before ++ (head ++ (ws ++ symbol sign.Semi at ∷ []))) ++ written_cases cs) a.reads
            ∙ inner before (head ++ written t) (symbol sign.Semi at ∷ []) (written_cases cs);
        plains = g.plains ∙ ap (λ u. plain_branches firsts (plain_branch last (CaseOf at name declared u cs))) a.plains;
      }

  binding_stands : (at : Place) (name : List ℕ) (declared : TypeRef) (o : MaybeTree) → IsMaybeWritable o → IsBinding at name declared o
  binding_stands at name declared Without w = record { binding = Default (variable at name declared); shaped = tt; reads = refl; plains = λ u. refl }
  binding_stands at name declared (With t) w =
      let a = (stands t w).alone in
      record {
        binding = Init (variable at name declared) at a.form;
        shaped = a.shaped;
        reads = ap (λ ws. object name at ∷ symbol sign.Colon at ∷ type declared ∷ symbol sign.Arrow at ∷ ws) a.reads;
        plains = λ u. ap (λ v. trees.Let at name declared (With v) u) a.plains;
      }

-- Files

record AreFormals (fs : List Formal) (ws : List Token) : Type 0 where
  formals : Formals
  reads : formals_reading formals ≡ ws
  plains : plain_formals formals ≡ fs

abbrev formal : Formal → Variable
formal f = variable f.at f.name f.declared

-- the formals after the first
more_formals : (fs : List Formal) (firsts : FirstFormals) (last : Variable)
    → AreFormals ((plain_first_formals firsts ++ plain_formal last ∷ []) ++ fs) ((first_formals_reading firsts ++ variable_reading last) ++ written_more_formals fs)
more_formals [] firsts last = record {
  formals = Declared firsts last;
  reads = sym (append-nil (first_formals_reading firsts ++ variable_reading last));
  plains = sym (append-nil (plain_first_formals firsts ++ plain_formal last ∷ []));
}
more_formals (f ∷ fs) firsts last =
    let g = more_formals fs (Comma firsts last f.at) (formal f) in
    record {
      formals = g.formals;
      reads = g.reads ∙ four (first_formals_reading firsts ++ variable_reading last) (symbol sign.Comma f.at ∷ []) (written_formal f) (written_more_formals fs);
      plains = g.plains ∙ append_assoc (plain_first_formals firsts ++ plain_formal last ∷ []) (f ∷ []) fs;
    }

-- formals are read from the tokens that they are written as
formals_stand : (fs : List Formal) → AreFormals fs (written_formals fs)
formals_stand [] = record { formals = NoFormals; reads = refl; plains = refl }
formals_stand (f ∷ fs) = let g = more_formals fs NoFormal (formal f) in record { formals = g.formals; reads = g.reads; plains = g.plains }

record IsFeature (f : Feature) (ws : List Token) : Type 0 where
  form : ConcreteFeature
  shaped : IsShapedFeature form
  reads : feature_reading form ≡ ws
  plains : plain_feature form ≡ f

-- so is a method
method_stands : (m : MethodDef) → IsWritable m.body → IsFeature (feature.Method m) (written_feature (feature.Method m))
method_stands m w =
    let g = formals_stand m.formals in
    let a = (stands m.body w).alone in
    record {
      form = Method (record { name = m.name; at = m.at; lparen = m.at; formals = g.formals; rparen = m.at; colon = m.at; result = m.result; lbrace = m.at }) a.form m.at m.at;
      shaped = a.shaped;
      reads = λ i.
          (object m.name m.at ∷ symbol sign.LParen m.at ∷ g.reads i ++ symbol sign.RParen m.at ∷ symbol sign.Colon m.at ∷ type m.result ∷ symbol sign.LBrace m.at ∷ [])
          ++ a.reads i ++ symbol sign.RBrace m.at ∷ symbol sign.Semi m.at ∷ [];
      plains = λ i. feature.Method (record { name = m.name; at = m.at; formals = g.plains i; result = m.result; body = a.plains i });
    }

-- so is an attribute, by its value
attribute_stands : (a : AttributeDef) (o : Option Tree) → IsValueWritable o → IsFeature (feature.Attribute (record a { init = o })) (written_feature (feature.Attribute (record a { init = o })))
attribute_stands a None w = record { form = Attribute (variable a.at a.name a.declared) a.at; shaped = tt; reads = refl; plains = refl }
attribute_stands a (Some t) w =
    let e = (stands t w).alone in
    record {
      form = Initialized (variable a.at a.name a.declared) a.at e.form a.at;
      shaped = e.shaped;
      reads = λ i. object a.name a.at ∷ symbol sign.Colon a.at ∷ type a.declared ∷ symbol sign.Arrow a.at ∷ e.reads i ++ symbol sign.Semi a.at ∷ [];
      plains = λ i. feature.Attribute (record { name = a.name; at = a.at; declared = a.declared; init = Some (e.plains i) });
    }

-- so is a feature
feature_stands : (f : Feature) → IsFeatureWritable f → IsFeature f (written_feature f)
feature_stands (feature.Method m) w = method_stands m w
feature_stands (feature.Attribute a) w = attribute_stands a a.init w

record AreFeatures (fs : List Feature) (ws : List Token) : Type 0 where
  features : Features
  shaped : AreShapedFeatures features
  reads : features_reading features ≡ ws
  plains : plain_features features ≡ fs

-- so are features in order
features_stand : (fs : List Feature) (before : Features) → AllByRecursion IsFeatureWritable fs → AreShapedFeatures before
    → AreFeatures (plain_features before ++ fs) (features_reading before ++ written_features fs)
features_stand [] before w s = record { features = before; shaped = s; reads = sym (append-nil (features_reading before)); plains = sym (append-nil (plain_features before)) }
features_stand (f ∷ fs) before w s =
    let a = feature_stands f w.0 in
    let g = features_stand fs (Another before a.form) w.1 (s, a.shaped) in
    record {
      features = g.features;
      shaped = g.shaped;
      reads = g.reads ∙ ap (λ ws. (features_reading before ++ ws) ++ written_features fs) a.reads ∙ append_assoc (features_reading before) (written_feature f) (written_features fs);
      plains = g.plains ∙ ap (λ u. (plain_features before ++ u ∷ []) ++ fs) a.plains ∙ append_assoc (plain_features before) (f ∷ []) fs;
    }

record IsParent (at : Place) (o : Option TypeRef) : Type 0 where
  parent : Parent
  reads : parent_reading parent ≡ written_parent at o
  plains : plain_parent parent ≡ o

-- so is a parent
parent_stands : (at : Place) (o : Option TypeRef) → IsParent at o
parent_stands at None = record { parent = NoParent; reads = refl; plains = refl }
parent_stands at (Some class) = record { parent = Inherits at class; reads = refl; plains = refl }

record AreClasses (cs : List ClassDef) (ws : List Token) : Type 0 where
  classes : Classes
  shaped : IsShapedFile classes
  reads : file_reading classes ≡ ws
  plains : plain_file classes ≡ cs

-- so are classes in order
classes_stand : (cs : List ClassDef) (before : Classes) → AreClassesWritable cs → IsShapedFile before → AreClasses (plain_file before ++ cs) (file_reading before ++ written_classes cs)
classes_stand [] before w s = record { classes = before; shaped = s; reads = sym (append-nil (file_reading before)); plains = sym (append-nil (plain_file before)) }
classes_stand (c ∷ cs) before w s =
    let p = parent_stands c.at c.parent in
    let f = features_stand c.features NoFeature w.0 tt in
    let heading : Heading = record { mark = c.at; name = c.name; at = c.at; parent = p.parent; lbrace = c.at } in
    let g = classes_stand cs (Class before heading f.features c.at c.at) w.1 (s, f.shaped) in
    let end = symbol sign.RBrace c.at ∷ symbol sign.Semi c.at ∷ [] in
    let head = word key.Class c.at ∷ type (record { name = c.name; at = c.at }) ∷ written_parent c.at c.parent ++ symbol sign.LBrace c.at ∷ [] in
    record {
      classes = g.classes;
      shaped = g.shaped;
      reads = g.reads
          ∙ (λ i. (file_reading before ++ (word key.Class c.at ∷ type (record { name = c.name; at = c.at }) ∷ p.reads i ++ symbol sign.LBrace c.at ∷ []) ++ f.reads i ++ end) ++ written_classes cs)
          ∙ five (file_reading before) head (written_features c.features) end (written_classes cs);
      plains = g.plains
          ∙ (λ i. (plain_file before ++ record { name = c.name; at = c.at; parent = p.plains i; features = f.plains i } ∷ []) ++ cs)
          ∙ append_assoc (plain_file before) (c ∷ []) cs;
    }

-- the classes of a file that can be written parse to themselves
pub classes_parse : (cs : List ClassDef) → AreClassesWritable cs → Parses (written_classes cs) cs
classes_parse cs w = let g = classes_stand cs NoClass w tt in (g.classes, g.shaped, g.reads, g.plains)
