-- If the computed extents (first and last token) of the parts of a node are right, so is the computed extent of the node.
use Rattle.std.proofs.Common.{◌≡◌, ℕ, suc, ◌+◌, subst, ◌≤◌, if◌then◌else◌, false, List, [], ◌∷◌, ◌++◌, length, drop, Option, refl, ap, sym, ◌∙◌, append_assoc, arith}
use Rattle.cool_syntax.specs.declared.place.Place.{Place}
use Rattle.cool_syntax.specs.declared.operator.ArithOp.TheVariants as arith_op
use Rattle.cool_syntax.specs.declared.operator.CompareOp.TheVariants as compare_op
use Rattle.cool_syntax.specs.declared.token.Token.{Token}
use Rattle.cool_syntax.specs.declared.token.Key.TheVariants as key
use Rattle.cool_syntax.specs.declared.token.Sign.TheVariants as sign
use Rattle.cool_syntax.specs.declared.token.TokenKind.TheVariants as kind
use Rattle.cool_syntax.specs.declared.node.Node.{Node}
use Rattle.cool_syntax.specs.declared.node.Node.TheVariants as node
use Rattle.cool_syntax.specs.declared.node.NodeId.{NodeId}
use Rattle.cool_syntax.specs.ConcreteTrees.{Operator, Arith, Compare, Bindings, NoBinding, Next}
use Rattle.cool_syntax.specs.PlainTrees.{operation}
use Rattle.cool_syntax.specs.Readings.{word, symbol, object, operator_sign, bindings_reading, binding_reading}
use Rattle.cool_syntax.specs.Tree.{Call, Tree, Trees, tree_size, trees_size}
use Rattle.cool_syntax.specs.Tree as trees
use Rattle.cool_syntax.specs.NodeLists.{root, roots, nodes, nodes_of_all, call_node}
use Rattle.cool_extents.specs.declared.extent.Extent.{Extent}
use Rattle.cool_extents.specs.Extents.{first_place, last_place, extent, opening}
use Rattle.cool_extents.specs.FoundExtents.{number_of, token_place, place_or, is_token, is_kind_lparen, is_kind_rparen, is_kind_let, opens_before, closes, latest, outer_last, from, call_last, call_extent, operation_extent, let_first, let_extent, node_extent}
use Rattle.cool_extents.proofs.TokensAtPlaces.{Numbered, Stand, first_part, last_part, rest, token_at, number_at, first_token_place, last_token_place}
use Rattle.cool_extents.proofs.ParenthesesAround.{placed, Ends, ends_with, ends_behind, outer_last_is, outer_first_is}
use Rattle.cool_extents.proofs.FindingNodes.{Finds, finds_none, finds_join, finds_node}

-- nodes of which these extents are found, the last one within these tokens
pub record Known (ts : List Token) (a z : ℕ) (make : ℕ → List Node) (size : ℕ) (inner : List Extent) : Type 0 where
  pub finds : Finds ts make size inner
  pub ends : Ends ts a z inner

-- the nodes of a tree
abbrev pub IsKnown : List Token → ℕ → ℕ → Tree → List Extent → Type 0
IsKnown ts a z t inner = Known ts a z (λ base. nodes base t) (tree_size t) inner

module _ {ts : List Token} (n : Numbered ts) where
  -- a node behind nodes whose extents are found is known, if its own is that of its tokens
  pub known_node : {a z : ℕ} {make : ℕ → List Node} {m : ℕ} {inner out : List Extent} (node : ℕ → Node) (xs : List Token) → 1 ≤ length xs → Stand ts a xs z
      → Finds ts make m inner → inner ++ extent xs ∷ [] ≡ out
      → ((base : ℕ) (es : List Extent) → base ≡ length es → node_extent ts (es ++ inner) (node base) ≡ extent xs)
      → Known ts a z (λ base. make base ++ node base ∷ []) (m + 1) out
  known_node {a} {z} {make} {m} {inner} {out} node xs some s f joined is =
      let f' : Finds ts (λ base. make base ++ node base ∷ []) (m + 1) (inner ++ extent xs ∷ []) = finds_node node (extent xs) f is in
      let e' : Ends ts a z (inner ++ extent xs ∷ []) = ends_with inner (extent xs) (placed xs some n s) in
      let k : Known ts a z (λ base. make base ++ node base ∷ []) (m + 1) (inner ++ extent xs ∷ []) = record { finds = f'; ends = e' } in
      subst (λ (l : List Extent). Known ts a z (λ base. make base ++ node base ∷ []) (m + 1) l) joined k

  -- a node without parts
  pub known_leaf : {a z : ℕ} (node : Node) (xs : List Token) → 1 ≤ length xs → Stand ts a xs z → ((es : List Extent) → node_extent ts es node ≡ extent xs)
      → Known ts a z (λ base. node ∷ []) 1 (extent xs ∷ [])
  known_leaf node xs some s is = known_node {make = λ base. []} (λ base. node) xs some s finds_none refl (λ base es e. is (es ++ []))

-- the extent of tokens, by its two places
extent_is : (xs : List Token) (first last : Place) → first ≡ first_place xs → last ≡ last_place xs → record { first = first; last = last } ≡ extent xs
extent_is xs first last p q = λ i. record { first = p i; last = q i }

-- from a place to so many tokens behind the last part
pub from_is : {ts : List Token} {a z b y : ℕ} {inner : List Extent} (at : Place) (more : ℕ) (xs : List Token) (es : List Extent) → 1 ≤ length xs → Stand ts a xs z
    → at ≡ first_place xs → Ends ts b y inner → opens_before ts b ≡ 0 → y + more ≡ z → from ts at (es ++ inner) more ≡ extent xs
from_is {ts} {a} {z} {b} {y} {inner} at more xs es some s first e none behind =
    let last = outer_last_is es e in
    extent_is xs at _ first (last_token_place xs (outer_last ts (latest (es ++ inner)) + more) some s (omega (arith, last, none, behind)))

-- Operations

-- an operator is no parenthesis
pub operator_opens_none : (op : Operator) → is_kind_lparen (kind.Sign (operator_sign op)) ≡ false
operator_opens_none (Arith arith_op.Add) = refl
operator_opens_none (Arith arith_op.Sub) = refl
operator_opens_none (Arith arith_op.Mul) = refl
operator_opens_none (Arith arith_op.Div) = refl
operator_opens_none (Compare compare_op.Less) = refl
operator_opens_none (Compare compare_op.LessEqual) = refl
operator_opens_none (Compare compare_op.Equal) = refl

pub operator_closes_none : (op : Operator) → is_kind_rparen (kind.Sign (operator_sign op)) ≡ false
operator_closes_none (Arith arith_op.Add) = refl
operator_closes_none (Arith arith_op.Sub) = refl
operator_closes_none (Arith arith_op.Mul) = refl
operator_closes_none (Arith arith_op.Div) = refl
operator_closes_none (Compare compare_op.Less) = refl
operator_closes_none (Compare compare_op.LessEqual) = refl
operator_closes_none (Compare compare_op.Equal) = refl

-- from the first token of the first part to the last one of the second
operation_is : {ts : List Token} {a z b y : ℕ} {xs ys : List Extent} (t : Tree) (us : List Token) (base : ℕ) (es : List Extent) → 1 ≤ length us → Stand ts a us z
    → IsKnown ts a b t xs → closes (drop b ts) ≡ 0 → Ends ts y z ys → opens_before ts y ≡ 0 → base ≡ length es
    → operation_extent ts (es ++ (xs ++ ys)) (root base t) ≡ extent us
operation_is {ts} {a} {z} {b} {y} {xs} {ys} t us base es some s left closed right opened e =
    let first = outer_first_is es ys base (tree_size t) left.ends e left.finds.long closed in
    let last = outer_last_is es (ends_behind xs right) in
    extent_is us _ _ (ap (token_place ts) first ∙ first_token_place us some s)
    (last_token_place us (outer_last ts (latest (es ++ (xs ++ ys)))) some s (omega (arith, last, opened)))

-- an operation on known parts
pub known_operation : {ts : List Token} {a z b y : ℕ} {xs ys : List Extent} (n : Numbered ts) (op : Operator) (at : Place) (t u : Tree) (us : List Token)
    → 1 ≤ length us → Stand ts a us z → IsKnown ts a b t xs → closes (drop b ts) ≡ 0 → IsKnown ts y z u ys → opens_before ts y ≡ 0
    → IsKnown ts a z (operation op at t u) (xs ++ (ys ++ extent us ∷ []))
known_operation {xs = xs} {ys = ys} n (Arith op) at t u us some s left closed right opened =
    known_node n (λ base. node.Arith at op (root base t) (root (base + tree_size t) u)) us some s
    (finds_join (λ base. base + tree_size t) (λ base. refl) left.finds right.finds) (append_assoc xs ys (extent us ∷ []))
    (λ base es e. operation_is t us base es some s left closed right.ends opened e)
known_operation {xs = xs} {ys = ys} n (Compare op) at t u us some s left closed right opened =
    known_node n (λ base. node.Compare at op (root base t) (root (base + tree_size t) u)) us some s
    (finds_join (λ base. base + tree_size t) (λ base. refl) left.finds right.finds) (append_assoc xs ys (extent us ∷ []))
    (λ base es e. operation_is t us base es some s left closed right.ends opened e)

-- Calls

-- the arguments of a call, whose extents are found, and with them the number of the call's last token
pub record Arguments (ts : List Token) (at : Place) (z : ℕ) (args : Trees) (inner : List Extent) : Type 0 where
  pub finds : Finds ts (λ base. nodes_of_all base args) (trees_size args) inner
  pub last : (base : ℕ) (es : List Extent) → call_last ts at (es ++ inner) (roots base args) + 1 ≡ z

-- both kinds of call have one extent
call_is : (ts : List Token) (form : Call) (at : Place) (found : List Extent) (a : NodeId) (ids : List NodeId)
    → node_extent ts found (call_node at form a ids) ≡ call_extent ts at found a ids
call_is ts (trees.dynamic name) at found a ids = refl
call_is ts (trees.static class name) at found a ids = refl

-- a call of a known receiver
pub known_call : {ts : List Token} {a z r : ℕ} {inner more : List Extent} (n : Numbered ts) (form : Call) (at : Place) (t : Tree) (args : Trees) (xs : List Token)
    → 1 ≤ length xs → Stand ts a xs z → IsKnown ts a r t inner → closes (drop r ts) ≡ 0 → Arguments ts at z args more
    → IsKnown ts a z (trees.call at form t args) (inner ++ (more ++ extent xs ∷ []))
known_call {ts} {a} {z} {r} {inner} {more} n form at t args xs some s receiver closed arguments =
    let next = λ (base : ℕ). base + tree_size t in
    known_node n (λ base. call_node at form (root base t) (roots (base + tree_size t) args)) xs some s (finds_join next (λ base. refl) receiver.finds arguments.finds)
    (append_assoc inner more (extent xs ∷ [])) (λ base es e.
    let first = outer_first_is es more base (tree_size t) receiver.ends e receiver.finds.long closed in
    let ids : List NodeId = roots (base + tree_size t) args in
    let last : call_last ts at (es ++ (inner ++ more)) ids + 1 ≡ z =
    ap (λ (l : List Extent). call_last ts at l ids + 1) (sym (append_assoc es inner more)) ∙ arguments.last (base + tree_size t) (es ++ inner) in
    call_is ts form at (es ++ (inner ++ more)) (root base t) ids
    ∙ extent_is xs _ _ (ap (token_place ts) first ∙ first_token_place xs some s)
    (last_token_place xs (call_last ts at (es ++ (inner ++ more)) ids) some s last))

-- Lets

-- the number of the first token of the let of a variable behind others
abbrev pub start : ℕ → Bindings → ℕ
start a NoBinding = a
start a (Next before binding comma) = a + 1 + length (bindings_reading (Next before binding comma))

-- the comma before a further variable
abbrev pub comma_before : {ts : List Token} {a z : ℕ} (at : Place) (firsts xs behind : List Token) (comma : Place)
    → Stand ts a (word key.Let at ∷ ((firsts ++ xs) ++ symbol sign.Comma comma ∷ []) ++ behind) z
    → Stand ts (a + 1 + length (firsts ++ xs)) (symbol sign.Comma comma ∷ []) (a + 1 + length ((firsts ++ xs) ++ symbol sign.Comma comma ∷ []))
comma_before at firsts xs behind comma s =
    let all : List Token = (firsts ++ xs) ++ symbol sign.Comma comma ∷ [] in
    last_part (firsts ++ xs) (symbol sign.Comma comma ∷ []) (first_part all behind (rest (word key.Let at) (all ++ behind) s))

-- the tokens of the let of a variable
pub let_stands : {ts : List Token} {a z : ℕ} (before : Bindings) (at : Place) (xs : List Token) → Stand ts a (word key.Let at ∷ (bindings_reading before ++ xs)) z
    → Stand ts (start a before) (opening at before ++ xs) z
let_stands NoBinding at xs s = s
let_stands (Next before binding comma) at xs s =
    let all : List Token = bindings_reading (Next before binding comma) in
    last_part all xs (rest (word key.Let at) (all ++ xs) s)

-- and the place of the first
pub let_begins : {ts : List Token} {a z : ℕ} (n : Numbered ts) (before : Bindings) (at : Place) (name : List ℕ) (here : Place) (xs : List Token)
    → Stand ts a (word key.Let at ∷ (bindings_reading before ++ object name here ∷ xs)) z
    → let_first ts here (number_of ts here) ≡ first_place (opening at before ++ object name here ∷ xs)
let_begins {ts} {a} {z} n NoBinding at name here xs s =
    let number = number_at (object name here) xs n (rest (word key.Let at) (object name here ∷ xs) s) in
    let next : a + 1 ≡ suc a = omega arith in
    ap (let_first ts here) (number ∙ next)
    ∙ ap (λ (o : Option Token). if is_token is_kind_let o then place_or o else here) (token_at (word key.Let at) (object name here ∷ xs) s)
let_begins {ts} {a} {z} n (Next before binding comma) at name here xs s =
    let behind : List Token = object name here ∷ xs in
    let stands = let_stands (Next before binding comma) at behind s in
    let number = number_at (object name here) xs n stands in
    let c = comma_before at (bindings_reading before) (binding_reading binding) behind comma s in
    let k : ℕ = a + 1 + length (bindings_reading before ++ binding_reading binding) in
    let next : start a (Next before binding comma) ≡ suc k = omega (arith, c.end) in
    ap (let_first ts here) (number ∙ next)
    ∙ ap (λ (o : Option Token). if is_token is_kind_let o then token_place ts k else here) (token_at (symbol sign.Comma comma) [] c)

-- from its first token to the last one of the body
pub let_is : {ts : List Token} {f z y : ℕ} {inner : List Extent} (here : Place) (us : List Token) (es : List Extent) → 1 ≤ length us → Stand ts f us z
    → let_first ts here (number_of ts here) ≡ first_place us → Ends ts y z inner → opens_before ts y ≡ 0 → let_extent ts here (es ++ inner) ≡ extent us
let_is {ts} {f} {z} {y} {inner} here us es some s first e none =
    let last = outer_last_is es e in
    extent_is us _ _ first (last_token_place us (outer_last ts (latest (es ++ inner))) some s (omega (arith, last, none)))
