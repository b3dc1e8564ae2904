-- The extents (first and last token) that `found_extents` computes are those of the subexpressions, by induction over the expression at each position in
-- the list of tokens.
use Rattle.std.proofs.Common.{◌≡◌, ℕ, ◌+◌, ◌≤◌, false, true, List, [], ◌∷◌, ◌++◌, length, Some, None, codes, refl, ap, sym, ◌∙◌, subst, append_assoc, append-nil, length-append, arith}
use Rattle.cool_syntax.specs.declared.place.Place.{Place}
use Rattle.cool_syntax.specs.declared.token.Token.{Token}
use Rattle.cool_syntax.specs.declared.token.TokenKind.TheVariants as kind
use Rattle.cool_syntax.specs.declared.token.Key.TheVariants as key
use Rattle.cool_syntax.specs.declared.token.Sign.{Sign}
use Rattle.cool_syntax.specs.declared.token.Sign.TheVariants as sign
use Rattle.cool_syntax.specs.declared.node.Node.{Node}
use Rattle.cool_syntax.specs.declared.node.Node.TheVariants as node
use Rattle.cool_syntax.specs.TokenFacts.{AreRising}
use Rattle.cool_syntax.specs.ConcreteTrees.{Not, IsVoid, Neg, Int, Str, Truth, Concrete, Name, Literal, New, Paren, Dispatch, If, While, Block, Case, Binary, Before, OfSelf, Of, OfClass, Args, NoArgs, Given, Parts, NoPart, Then, Branches, NoBranch, Also, On, Let, Assign, Mark, Bindings, NoBinding, Next, Binding, Default, Init}
use Rattle.cool_syntax.specs.PlainTrees.{plain, plain_args, plain_parts, plain_branches, plain_branch, plain_bindings, plain_binding}
use Rattle.cool_syntax.specs.Readings.{word, symbol, object, type, operator_sign, variable_reading, reading, args_reading, parts_reading, branches_reading, branch_reading, bindings_reading, binding_reading}
use Rattle.cool_syntax.specs.Tree.{Tree, Trees, Cases, Last, More, NoCase, CaseOf, tree_size, trees_size, cases_size}
use Rattle.cool_syntax.specs.Tree as trees
use Rattle.cool_syntax.specs.NodeLists.{root, roots, branch_roots, nodes, nodes_of_all, nodes_of_cases}
use Rattle.cool_extents.specs.declared.extent.Extent.{Extent}
use Rattle.cool_extents.specs.Extents.{first_place, extent, opening, extents, args_extents, parts_extents, branches_extents, binding_extents, let_extents, TellsExtents}
use Rattle.cool_extents.specs.FoundExtents.{from, is_kind_lparen, opens_before, call_last, found_after, found_extents, node_extent}
use Rattle.cool_extents.proofs.TokensAtPlaces.{Numbered, numbered, Stand, first_part, last_part, rest, stand_as, number_at, opens_none, opens_more, closes_none}
use Rattle.cool_extents.proofs.ParenthesesAround.{Ends, ends_behind, ends_around, outer_last_is}
use Rattle.cool_extents.proofs.FindingNodes.{Finds, finds_none, finds_join}
use Rattle.cool_extents.proofs.ExtentsOfNodes.{Known, IsKnown, known_node, known_leaf, from_is, operator_opens_none, operator_closes_none, known_operation, Arguments, known_call, start, comma_before, let_stands, let_begins, let_is}

-- the same extents, written in another form
finds_as : {ts : List Token} {make : ℕ → List Node} {m : ℕ} {xs ys : List Extent} → xs ≡ ys → Finds ts make m xs → Finds ts make m ys
finds_as {ts} {make} {m} e f = subst (λ (l : List Extent). Finds ts make m l) e f

-- one tree as the last of some
finds_last : {ts : List Token} {inner : List Extent} (t : Tree) → Finds ts (λ base. nodes base t) (tree_size t) inner
    → Finds ts (λ base. nodes_of_all base (More t Last)) (trees_size (More t Last)) inner
finds_last {ts} {inner} t f = finds_as (append-nil inner) (finds_join (λ base. base + tree_size t) (λ base. refl) f finds_none)

-- behind parts no opening parenthesis stands, if none stands before them
opens_behind : {ts : List Token} {a z : ℕ} (firsts : Parts) (s : Sign) → is_kind_lparen (kind.Sign s) ≡ false → Stand ts a (parts_reading s firsts) z
    → opens_before ts a ≡ 0 → opens_before ts z ≡ 0
opens_behind {ts} {a} {z} NoPart s other st none =
    let same : a ≡ z = omega (arith, st.end) in
    ap (opens_before ts) (sym same) ∙ none
opens_behind {ts} {a} {z} (Then before e separator) s other st none =
    let c = last_part (parts_reading s before ++ reading e) (symbol s separator ∷ []) st in
    opens_none z (symbol s separator) [] c other (sym c.end)

-- the trees of parts before two more are two at least
two_at_least : (firsts : Parts) (t u : Tree) (ts : Trees) → (v : Tree) × (w : Tree) × (us : Trees) × (plain_parts firsts (More t (More u ts)) ≡ More v (More w us))
two_at_least NoPart t u ts = (t, u, ts, refl)
two_at_least (Then before e separator) t u ts = two_at_least before (plain e) t (More u ts)

-- tokens with one among them are some
some_before : (xs ys : List Token) (t : Token) → 1 ≤ length (xs ++ t ∷ ys)
some_before [] ys t = omega arith
some_before (x ∷ xs) ys t = omega arith

-- four lists of tokens, joined from the left and from the right
four_parts : (xs ys zs us : List Token) → ((xs ++ ys) ++ zs) ++ us ≡ xs ++ (ys ++ (zs ++ us))
four_parts xs ys zs us = simp append_assoc

-- an expression that begins at its own place and ends with its only part
known_before : {ts : List Token} {a z b : ℕ} {inner : List Extent} (n : Numbered ts) (node : ℕ → Node) (at : Place) (t : Tree) (xs : List Token) → 1 ≤ length xs → Stand ts a xs z
    → at ≡ first_place xs → IsKnown ts b z t inner → opens_before ts b ≡ 0
    → ((base : ℕ) (es : List Extent) → node_extent ts es (node base) ≡ from ts at es 0)
    → Known ts a z (λ base. nodes base t ++ node base ∷ []) (tree_size t + 1) (inner ++ extent xs ∷ [])
known_before {ts} {a} {z} {b} {inner} n node at t xs some s first k none is =
    known_node n node xs some s k.finds refl (λ base es e. is base (es ++ inner) ∙ from_is at 0 xs es some s first k.ends none (omega arith))

-- the tokens of a call behind its receiver, joined so
call_joined : (name : List ℕ) (at lparen : Place) (front xs c : List Token)
    → object name at ∷ symbol sign.LParen lparen ∷ (front ++ xs) ++ c ≡ object name at ∷ symbol sign.LParen lparen ∷ (front ++ (xs ++ c))
call_joined name at lparen front xs c = simp append_assoc

-- a call with arguments ends behind the last: at the parenthesis around it, if it is the only one, or else at the one behind it
call_ends : {ts : List Token} {a z : ℕ} (n : Numbered ts) (firsts : Parts) (last : Concrete) (name : List ℕ) (at lparen rparen : Place) (base : ℕ) (es : List Extent)
    → Stand ts a (object name at ∷ symbol sign.LParen lparen ∷ (parts_reading sign.Comma firsts ++ (reading last ++ symbol sign.RParen rparen ∷ []))) z
    → Ends ts (a + 2 + length (parts_reading sign.Comma firsts)) (a + 2 + length (parts_reading sign.Comma firsts) + length (reading last)) (extents last)
    → call_last ts at (es ++ (parts_extents firsts ++ extents last)) (roots base (plain_args (Given firsts last))) + 1 ≡ z
call_ends {ts} {a} {z} n NoPart last name at lparen rparen base es s e =
    let behind : List Token = reading last ++ symbol sign.RParen rparen ∷ [] in
    let is = outer_last_is es e in
    let none = opens_none (a + 1) (object name at) (symbol sign.LParen lparen ∷ behind) s refl refl in
    let one = opens_more (a + 2 + 0) (symbol sign.LParen lparen) behind (rest (object name at) (symbol sign.LParen lparen ∷ behind) s) refl (omega arith) in
    omega (arith, is, none, one, s.end, length-append (reading last) (symbol sign.RParen rparen ∷ []))
call_ends {ts} {a} {z} n (Then before e separator) last name at lparen rparen base es s ends =
    let c : List Token = symbol sign.RParen rparen ∷ [] in
    let firsts : Parts = Then before e separator in
    let front : List Token = parts_reading sign.Comma firsts in
    let r = last_part (object name at ∷ symbol sign.LParen lparen ∷ []) (front ++ (reading last ++ c)) s in
    let comma = last_part (parts_reading sign.Comma before ++ reading e) (symbol sign.Comma separator ∷ []) (first_part front (reading last ++ c) r) in
    let end = last_part (reading last) c (last_part front (reading last ++ c) r) in
    let none = opens_none (a + 2 + length front) (symbol sign.Comma separator) [] comma refl (sym comma.end) in
    let is = outer_last_is es (ends_behind (parts_extents firsts) ends) in
    let (v, w, us, many) = two_at_least before (plain e) (plain last) Last in
    ap (λ (l : Trees). call_last ts at (es ++ (parts_extents firsts ++ extents last)) (roots base l) + 1) many ∙ omega (arith, is, none, end.end)

module _ {ts : List Token} (n : Numbered ts) where
  mutual
    -- the extents of an expression are found of its nodes, and the last is its own
    found : (c : Concrete) (a z : ℕ) → Stand ts a (reading c) z → IsKnown ts a z (plain c) (extents c)
    found (Name name at) a z s = known_leaf n (node.Id at name) (reading (Name name at)) (omega arith) s (λ es. refl)
    found (Literal (Int value) at) a z s = known_leaf n (node.Int at value) (reading (Literal (Int value) at)) (omega arith) s (λ es. refl)
    found (Literal (Str bytes) at) a z s = known_leaf n (node.Str at bytes) (reading (Literal (Str bytes) at)) (omega arith) s (λ es. refl)
    found (Literal (Truth true) at) a z s = known_leaf n (node.Bool at true) (reading (Literal (Truth true) at)) (omega arith) s (λ es. refl)
    found (Literal (Truth false) at) a z s = known_leaf n (node.Bool at false) (reading (Literal (Truth false) at)) (omega arith) s (λ es. refl)
    found (New at class) a z s = known_leaf n (node.New at class) (reading (New at class)) (omega arith) s (λ es. refl)
    found (Paren lparen e rparen) a z s =
        let inner = first_part (reading e) (symbol sign.RParen rparen ∷ []) (rest (symbol sign.LParen lparen) (reading e ++ symbol sign.RParen rparen ∷ []) s) in
        let k = found e (a + 1) (a + 1 + length (reading e)) inner in
        record { finds = k.finds; ends = ends_around lparen rparen (reading e) s k.ends }
    found (Dispatch (OfSelf name at) lparen args rparen) a z s =
        let whole : List Token = reading (Dispatch (OfSelf name at) lparen args rparen) in
        let behind : List Token = symbol sign.LParen lparen ∷ args_reading args ++ symbol sign.RParen rparen ∷ [] in
        let self = known_leaf n (node.Id at (codes "self")) (object name at ∷ []) (omega arith) (first_part (object name at ∷ []) behind s) (λ es. refl) in
        let closed = closes_none (symbol sign.LParen lparen) (args_reading args ++ symbol sign.RParen rparen ∷ []) (rest (object name at) behind s) refl in
        known_call n (trees.dynamic name) at (trees.Id at (codes "self")) (plain_args args) whole (omega arith) s self closed
        (arguments args name at lparen rparen a z s)
    found (Dispatch (Of receiver dot name at) lparen args rparen) a z s =
        let whole : List Token = reading (Dispatch (Of receiver dot name at) lparen args rparen) in
        let call : List Token = object name at ∷ symbol sign.LParen lparen ∷ args_reading args ++ symbol sign.RParen rparen ∷ [] in
        let joined : whole ≡ reading receiver ++ symbol sign.Dot dot ∷ call = simp append_assoc in
        let t = stand_as joined s in
        let r = last_part (reading receiver) (symbol sign.Dot dot ∷ call) t in
        let k = found receiver _ _ (first_part (reading receiver) (symbol sign.Dot dot ∷ call) t) in
        let some : 1 ≤ length whole = subst (λ (l : List Token). 1 ≤ length l) (sym joined) (some_before (reading receiver) call (symbol sign.Dot dot)) in
        known_call n (trees.dynamic name) at (plain receiver) (plain_args args) whole some s k (closes_none (symbol sign.Dot dot) call r refl)
        (arguments args name at lparen rparen _ z (rest (symbol sign.Dot dot) call r))
    found (Dispatch (OfClass receiver mark class dot name at) lparen args rparen) a z s =
        let whole : List Token = reading (Dispatch (OfClass receiver mark class dot name at) lparen args rparen) in
        let call : List Token = object name at ∷ symbol sign.LParen lparen ∷ args_reading args ++ symbol sign.RParen rparen ∷ [] in
        let behind : List Token = type class ∷ symbol sign.Dot dot ∷ call in
        let joined : whole ≡ reading receiver ++ symbol sign.At mark ∷ behind = simp append_assoc in
        let t = stand_as joined s in
        let r = last_part (reading receiver) (symbol sign.At mark ∷ behind) t in
        let k = found receiver _ _ (first_part (reading receiver) (symbol sign.At mark ∷ behind) t) in
        let some : 1 ≤ length whole = subst (λ (l : List Token). 1 ≤ length l) (sym joined) (some_before (reading receiver) behind (symbol sign.At mark)) in
        known_call n (trees.static class name) at (plain receiver) (plain_args args) whole some s k (closes_none (symbol sign.At mark) behind r refl)
        (arguments args name at lparen rparen _ z (rest (symbol sign.Dot dot) call (rest (type class) (symbol sign.Dot dot ∷ call) (rest (symbol sign.At mark) behind r))))
    found (If at test then_at met else_at unmet fi) a z s =
        let whole : List Token = reading (If at test then_at met else_at unmet fi) in
        let c : List Token = word key.Fi fi ∷ [] in
        let b : List Token = word key.Else else_at ∷ (reading unmet ++ c) in
        let d : List Token = word key.Then then_at ∷ (reading met ++ b) in
        let joined : whole ≡ word key.If at ∷ (reading test ++ d) = simp append_assoc in
        let r = rest (word key.If at) (reading test ++ d) (stand_as joined s) in
        let r1 = last_part (reading test) d r in
        let r2 = rest (word key.Then then_at) (reading met ++ b) r1 in
        let r3 = last_part (reading met) b r2 in
        let r4 = rest (word key.Else else_at) (reading unmet ++ c) r3 in
        let end = last_part (reading unmet) c r4 in
        let k = found test _ _ (first_part (reading test) d r) in
        let l = found met _ _ (first_part (reading met) b r2) in
        let m = found unmet _ _ (first_part (reading unmet) c r4) in
        let none = opens_none _ (word key.Else else_at) (reading unmet ++ c) r3 refl refl in
        let x : ℕ = tree_size (plain test) in
        let y : ℕ = tree_size (plain met) in
        known_node n (λ base. node.If at (root base (plain test)) (root (base + x) (plain met)) (root (base + x + y) (plain unmet))) whole (omega arith) s
        (finds_join (λ base. base + x + y) (λ base. omega arith) (finds_join (λ base. base + x) (λ base. refl) k.finds l.finds) m.finds) (simp append_assoc)
        (λ base es e. from_is at 1 whole es (omega arith) s refl (ends_behind (extents test ++ extents met) m.ends) none end.end)
    found (While at test loop body pool) a z s =
        let whole : List Token = reading (While at test loop body pool) in
        let c : List Token = word key.Pool pool ∷ [] in
        let b : List Token = word key.Loop loop ∷ (reading body ++ c) in
        let joined : whole ≡ word key.While at ∷ (reading test ++ b) = simp append_assoc in
        let r = rest (word key.While at) (reading test ++ b) (stand_as joined s) in
        let r1 = last_part (reading test) b r in
        let r2 = rest (word key.Loop loop) (reading body ++ c) r1 in
        let end = last_part (reading body) c r2 in
        let k = found test _ _ (first_part (reading test) b r) in
        let l = found body _ _ (first_part (reading body) c r2) in
        let none = opens_none _ (word key.Loop loop) (reading body ++ c) r1 refl refl in
        let x : ℕ = tree_size (plain test) in
        known_node n (λ base. node.While at (root base (plain test)) (root (base + x) (plain body))) whole (omega arith) s
        (finds_join (λ base. base + x) (λ base. refl) k.finds l.finds) (append_assoc (extents test) (extents body) (extent whole ∷ []))
        (λ base es e. from_is at 1 whole es (omega arith) s refl (ends_behind (extents test) l.ends) none end.end)
    found (Block lbrace firsts last semi rbrace) a z s =
        let whole : List Token = reading (Block lbrace firsts last semi rbrace) in
        let c : List Token = symbol sign.Semi semi ∷ symbol sign.RBrace rbrace ∷ [] in
        let front : List Token = parts_reading sign.Semi firsts in
        let joined : whole ≡ symbol sign.LBrace lbrace ∷ (front ++ (reading last ++ c)) = simp append_assoc in
        let t = stand_as joined s in
        let r = rest (symbol sign.LBrace lbrace) (front ++ (reading last ++ c)) t in
        let r1 = last_part front (reading last ++ c) r in
        let first = first_part front (reading last ++ c) r in
        let end = last_part (reading last) c r1 in
        let k = found last _ _ (first_part (reading last) c r1) in
        let none = opens_behind firsts sign.Semi refl first (opens_none _ (symbol sign.LBrace lbrace) (front ++ (reading last ++ c)) t refl refl) in
        let f = parts_found firsts sign.Semi (More (plain last) Last) (extents last) _ _ first (finds_last (plain last) k.finds) in
        known_node n (λ base. node.Block lbrace (roots base (plain_parts firsts (More (plain last) Last)))) whole (omega arith) s
        f (append_assoc (parts_extents firsts) (extents last) (extent whole ∷ []))
        (λ base es e. from_is lbrace 2 whole es (omega arith) s refl (ends_behind (parts_extents firsts) k.ends) none end.end)
    found (Case at value of firsts (On v arrow body semi) esac) a z s =
        let whole : List Token = reading (Case at value of firsts (On v arrow body semi) esac) in
        let c : List Token = symbol sign.Semi semi ∷ word key.Esac esac ∷ [] in
        let b : List Token = variable_reading v ++ symbol sign.FatArrow arrow ∷ (reading body ++ c) in
        let d : List Token = word key.Of of ∷ (branches_reading firsts ++ b) in
        let esac_token : List Token = word key.Esac esac ∷ [] in
        let own : branch_reading (On v arrow body semi) ++ esac_token ≡ b =
        ap (λ l. variable_reading v ++ symbol sign.FatArrow arrow ∷ l) (append_assoc (reading body) (symbol sign.Semi semi ∷ []) esac_token) in
        let joined : whole ≡ word key.Case at ∷ (reading value ++ d) =
        four_parts (word key.Case at ∷ reading value) (word key.Of of ∷ branches_reading firsts) (branch_reading (On v arrow body semi)) esac_token
        ∙ ap (λ l. word key.Case at ∷ (reading value ++ word key.Of of ∷ (branches_reading firsts ++ l))) own in
        let r = rest (word key.Case at) (reading value ++ d) (stand_as joined s) in
        let r1 = rest (word key.Of of) (branches_reading firsts ++ b) (last_part (reading value) d r) in
        let r2 = last_part (variable_reading v) (symbol sign.FatArrow arrow ∷ (reading body ++ c)) (last_part (branches_reading firsts) b r1) in
        let r3 = rest (symbol sign.FatArrow arrow) (reading body ++ c) r2 in
        let end = last_part (reading body) c r3 in
        let k = found value _ _ (first_part (reading value) d r) in
        let l = found body _ _ (first_part (reading body) c r3) in
        let none = opens_none _ (symbol sign.FatArrow arrow) (reading body ++ c) r2 refl refl in
        let cases : Cases = plain_branches firsts (plain_branch (On v arrow body semi) NoCase) in
        let one = finds_join (λ base. base + tree_size (plain body)) (λ base. refl) l.finds finds_none in
        let f = branches_found firsts (plain_branch (On v arrow body semi) NoCase) (extents body) _ _ (first_part (branches_reading firsts) b r1)
        (finds_as (append-nil (extents body)) one) in
        let x : ℕ = tree_size (plain value) in
        known_node n (λ base. node.Case at (root base (plain value)) (branch_roots (base + x) cases)) whole (omega arith) s
        (finds_join (λ base. base + x) (λ base. refl) k.finds f) (simp append_assoc)
        (λ base es e. from_is at 2 whole es (omega arith) s refl (ends_behind (extents value) (ends_behind (branches_extents firsts) l.ends)) none end.end)
    found (Binary left op at right) a z s =
        let mark : Token = symbol (operator_sign op) at in
        let r = last_part (reading left) (mark ∷ reading right) s in
        let k = found left _ _ (first_part (reading left) (mark ∷ reading right) s) in
        let l = found right _ _ (rest mark (reading right) r) in
        let closed = closes_none mark (reading right) r (operator_closes_none op) in
        let none = opens_none _ mark (reading right) r (operator_opens_none op) refl in
        known_operation n op at (plain left) (plain right) (reading (Binary left op at right)) (some_before (reading left) (reading right) mark) s k closed l none
    found (Before (Let at firsts last within) e) a z s =
        let behind : List Token = word key.In within ∷ reading e in
        let joined : reading (Before (Let at firsts last within) e) ≡ word key.Let at ∷ (bindings_reading firsts ++ (binding_reading last ++ behind)) = simp append_assoc in
        let t = stand_as joined s in
        let r = rest (word key.Let at) (bindings_reading firsts ++ (binding_reading last ++ behind)) t in
        let r1 = last_part (binding_reading last) behind (last_part (bindings_reading firsts) (binding_reading last ++ behind) r) in
        let k = found e _ _ (rest (word key.In within) (reading e) r1) in
        let none = opens_none _ (word key.In within) (reading e) r1 refl refl in
        let_found firsts at (binding_reading last ++ behind) (plain_binding last (plain e)) (binding_extents (opening at firsts) last behind (extents e)) a z t
        (binding_found last firsts at behind (plain e) (extents e) a _ z t k none)
    found (Before (Assign name at arrow) e) a z s =
        let r = rest (object name at) (symbol sign.Arrow arrow ∷ reading e) s in
        let k = found e _ _ (rest (symbol sign.Arrow arrow) (reading e) r) in
        known_before n (λ base. node.Assign at name (root base (plain e))) at (plain e) (reading (Before (Assign name at arrow) e)) (omega arith) s refl k
        (opens_none _ (symbol sign.Arrow arrow) (reading e) r refl refl) (λ base es. refl)
    found (Before (Mark Not at) e) a z s =
        known_before n (λ base. node.Not at (root base (plain e))) at (plain e) (reading (Before (Mark Not at) e)) (omega arith) s refl
        (found e _ _ (rest (word key.Not at) (reading e) s)) (opens_none _ (word key.Not at) (reading e) s refl refl) (λ base es. refl)
    found (Before (Mark IsVoid at) e) a z s =
        known_before n (λ base. node.IsVoid at (root base (plain e))) at (plain e) (reading (Before (Mark IsVoid at) e)) (omega arith) s refl
        (found e _ _ (rest (word key.IsVoid at) (reading e) s)) (opens_none _ (word key.IsVoid at) (reading e) s refl refl) (λ base es. refl)
    found (Before (Mark Neg at) e) a z s =
        known_before n (λ base. node.Neg at (root base (plain e))) at (plain e) (reading (Before (Mark Neg at) e)) (omega arith) s refl
        (found e _ _ (rest (symbol sign.Tilde at) (reading e) s)) (opens_none _ (symbol sign.Tilde at) (reading e) s refl refl) (λ base es. refl)

    -- those of parts, before those of more trees
    parts_found : (firsts : Parts) (s : Sign) (more : Trees) (inner : List Extent) (a z : ℕ) → Stand ts a (parts_reading s firsts) z
        → Finds ts (λ base. nodes_of_all base more) (trees_size more) inner
        → Finds ts (λ base. nodes_of_all base (plain_parts firsts more)) (trees_size (plain_parts firsts more)) (parts_extents firsts ++ inner)
    parts_found NoPart s more inner a z st f = f
    parts_found (Then before e separator) s more inner a z st f =
        let c : List Token = symbol s separator ∷ [] in
        let t = stand_as (append_assoc (parts_reading s before) (reading e) c) st in
        let k = found e _ _ (first_part (reading e) c (last_part (parts_reading s before) (reading e ++ c) t)) in
        finds_as (sym (append_assoc (parts_extents before) (extents e) inner))
        (parts_found before s (More (plain e) more) (extents e ++ inner) _ _ (first_part (parts_reading s before) (reading e ++ c) t)
        (finds_join (λ base. base + tree_size (plain e)) (λ base. refl) k.finds f))

    -- those of the bodies of branches, before those of more branches
    branches_found : (firsts : Branches) (more : Cases) (inner : List Extent) (a z : ℕ) → Stand ts a (branches_reading firsts) z
        → Finds ts (λ base. nodes_of_cases base more) (cases_size more) inner
        → Finds ts (λ base. nodes_of_cases base (plain_branches firsts more)) (cases_size (plain_branches firsts more)) (branches_extents firsts ++ inner)
    branches_found NoBranch more inner a z st f = f
    branches_found (Also before (On v arrow body semi)) more inner a z st f =
        let c : List Token = symbol sign.Semi semi ∷ [] in
        let front : List Token = variable_reading v ++ symbol sign.FatArrow arrow ∷ [] in
        let own : List Token = front ++ (reading body ++ c) in
        let r = last_part front (reading body ++ c) (last_part (branches_reading before) own st) in
        let k = found body _ _ (first_part (reading body) c r) in
        finds_as (sym (append_assoc (branches_extents before) (extents body) inner))
        (branches_found before (plain_branch (On v arrow body semi) more) (extents body ++ inner) _ _ (first_part (branches_reading before) own st)
        (finds_join (λ base. base + tree_size (plain body)) (λ base. refl) k.finds f))

    -- the arguments of a call, behind its method's name
    arguments : (args : Args) (name : List ℕ) (at lparen rparen : Place) (a z : ℕ)
        → Stand ts a (object name at ∷ symbol sign.LParen lparen ∷ args_reading args ++ symbol sign.RParen rparen ∷ []) z
        → Arguments ts at z (plain_args args) (args_extents args)
    arguments NoArgs name at lparen rparen a z s = record {
      finds = finds_none;
      last = λ base es.
          let number = number_at (object name at) (symbol sign.LParen lparen ∷ symbol sign.RParen rparen ∷ []) n s in
          omega (arith, number, s.end);
    }
    arguments (Given firsts last) name at lparen rparen a z s =
        let c : List Token = symbol sign.RParen rparen ∷ [] in
        let front : List Token = parts_reading sign.Comma firsts in
        let t = stand_as (call_joined name at lparen front (reading last) c) s in
        let r = last_part (object name at ∷ symbol sign.LParen lparen ∷ []) (front ++ (reading last ++ c)) t in
        let k = found last _ _ (first_part (reading last) c (last_part front (reading last ++ c) r)) in
        record {
          finds = parts_found firsts sign.Comma (More (plain last) Last) (extents last) _ _ (first_part front (reading last ++ c) r) (finds_last (plain last) k.finds);
          last = λ base es. call_ends n firsts last name at lparen rparen base es t k.ends;
        }

    -- a let of one variable, behind others
    binding_found : (b : Binding) (before : Bindings) (at : Place) (behind : List Token) (t : Tree) (inner : List Extent) (a f z : ℕ)
        → Stand ts a (word key.Let at ∷ (bindings_reading before ++ (binding_reading b ++ behind))) z → IsKnown ts f z t inner → opens_before ts f ≡ 0
        → IsKnown ts (start a before) z (plain_binding b t) (binding_extents (opening at before) b behind inner)
    binding_found (Default v) before at behind t inner a f z s k none =
        let own : List Token = binding_reading (Default v) ++ behind in
        let whole : List Token = opening at before ++ own in
        let some = some_before (opening at before) (symbol sign.Colon v.colon ∷ type v.declared ∷ behind) (object v.name v.at) in
        let stands = let_stands before at own s in
        let first = let_begins n before at v.name v.at (symbol sign.Colon v.colon ∷ type v.declared ∷ behind) s in
        known_node n (λ base. node.Let v.at v.name v.declared None (root (base + 0) t)) whole some stands
        (finds_join (λ base. base + 0) (λ base. refl) finds_none k.finds) refl
        (λ base es e. let_is v.at whole es some stands first k.ends none)
    binding_found (Init v arrow i) before at behind t inner a f z s k none =
        let value : List Token = symbol sign.Colon v.colon ∷ type v.declared ∷ symbol sign.Arrow arrow ∷ (reading i ++ behind) in
        let own : List Token = object v.name v.at ∷ value in
        let whole : List Token = opening at before ++ own in
        let some = some_before (opening at before) value (object v.name v.at) in
        let stands = let_stands before at own s in
        let first = let_begins n before at v.name v.at value s in
        let front : List Token = variable_reading v ++ symbol sign.Arrow arrow ∷ [] in
        let l = found i _ _ (first_part (reading i) behind (last_part front (reading i ++ behind) (last_part (opening at before) own stands))) in
        let x : ℕ = tree_size (plain i) in
        known_node n (λ base. node.Let v.at v.name v.declared (Some (root base (plain i))) (root (base + x) t)) whole some stands
        (finds_join (λ base. base + x) (λ base. refl) l.finds k.finds) (append_assoc (extents i) inner (extent whole ∷ []))
        (λ base es e. let_is v.at whole es some stands first (ends_behind (extents i) k.ends) none)

    -- lets one inside the other, around a tree that begins behind these variables
    let_found : (firsts : Bindings) (at : Place) (behind : List Token) (t : Tree) (inner : List Extent) (a z : ℕ)
        → Stand ts a (word key.Let at ∷ (bindings_reading firsts ++ behind)) z → IsKnown ts (start a firsts) z t inner
        → IsKnown ts a z (plain_bindings firsts t) (let_extents at firsts behind inner)
    let_found NoBinding at behind t inner a z s k = k
    let_found (Next before b comma) at behind t inner a z s k =
        let c : List Token = symbol sign.Comma comma ∷ behind in
        let joined : word key.Let at ∷ (bindings_reading (Next before b comma) ++ behind) ≡ word key.Let at ∷ (bindings_reading before ++ (binding_reading b ++ c)) = simp append_assoc in
        let there = stand_as joined s in
        let mark = comma_before at (bindings_reading before) (binding_reading b) behind comma s in
        let none = opens_none _ (symbol sign.Comma comma) [] mark refl (sym mark.end) in
        let_found before at (binding_reading b ++ c) (plain_binding b t) (binding_extents (opening at before) b c inner) a z there
        (binding_found b before at c t inner a (start a (Next before b comma)) z there k none)

-- the extents that are found are those of the expressions
pub extents_found : (file : ℕ) (tokens : List Token) → AreRising file 0 tokens → TellsExtents tokens (found_extents tokens)
extents_found file tokens rising before after e whole =
    let n = numbered file 0 tokens rising in
    let s : Stand tokens (length before) (reading e) (length before + length (reading e)) =
    record { before = before; after = after; whole = whole; begin = refl; end = refl } in
    let k = found n e (length before) (length before + length (reading e)) s in
    ap (found_after tokens []) (sym (append-nil (nodes 0 (plain e)))) ∙ k.finds.found 0 [] [] refl
