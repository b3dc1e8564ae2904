-- `found_after` computes the extents of a list of nodes: each from the node's own place, the extents of its parts, and the parentheses between the tokens.
-- `law_extents_found` says that these are the extents of Extents.antt.
use Rattle.std.specs.Prelude.{ℕ, zero, suc, ◌+◌, ◌-◌, nat_lt, Bool, true, false, if◌then◌else◌, List, [], ◌∷◌, ◌++◌, length, drop, Option, Some, None}
use Rattle.std.specs.List.{count_by, slice_get}
use Rattle.cool_syntax.specs.declared.place.Place.{Place}
use Rattle.cool_syntax.specs.declared.token.Token.{Token}
use Rattle.cool_syntax.specs.declared.token.TokenKind.{TokenKind}
use Rattle.cool_syntax.specs.declared.token.TokenKind.TheVariants as kind
use Rattle.cool_syntax.specs.declared.token.Key.TheVariants as key
use Rattle.cool_syntax.specs.declared.token.Sign.TheVariants as sign
use Rattle.cool_syntax.specs.declared.node.Node.{Node}
use Rattle.cool_syntax.specs.declared.node.Node.TheVariants as node
use Rattle.cool_syntax.specs.declared.node.NodeId.{NodeId}
use Rattle.cool_syntax.specs.Bare.{nowhere}
use Rattle.cool_syntax.specs.NodeLists.{nodes}
use Rattle.cool_syntax.specs.Tree.{Tree}
use Rattle.cool_extents.specs.declared.extent.Extent.{Extent}

-- Tokens by their numbers

-- the number of the token at a place: how many tokens stand before it
abbrev pub number_of : List Token → Place → ℕ
number_of tokens at = count_by (λ t. nat_lt t.at.byte at.byte) tokens

abbrev pub place_or : Option Token → Place
place_or None = nowhere
place_or (Some t) = t.at

abbrev pub token_place : List Token → ℕ → Place
token_place tokens number = place_or (slice_get tokens number)

abbrev pub is_kind_lparen : TokenKind → Bool
is_kind_lparen (kind.Sign sign.LParen) = true
is_kind_lparen _ = false

abbrev pub is_kind_rparen : TokenKind → Bool
is_kind_rparen (kind.Sign sign.RParen) = true
is_kind_rparen _ = false

abbrev pub is_kind_let : TokenKind → Bool
is_kind_let (kind.Key key.Let) = true
is_kind_let _ = false

-- whether there is a token, and its kind passes the test
abbrev pub is_token : (TokenKind → Bool) → Option Token → Bool
is_token test None = false
is_token test (Some t) = test t.kind

-- how many opening parentheses stand right before the token of a number
abbrev pub opens_before : List Token → ℕ → ℕ
opens_before tokens zero = 0
opens_before tokens (suc k) = if is_token is_kind_lparen (slice_get tokens k) then suc (opens_before tokens k) else 0

-- how many closing parentheses some tokens begin with
abbrev pub closes : List Token → ℕ
closes [] = 0
closes (t ∷ ts) = if is_kind_rparen t.kind then suc (closes ts) else 0

-- The extents of nodes

abbrev pub no_extent : Extent
no_extent = record { first = nowhere; last = nowhere }

abbrev pub extent_or : Option Extent → Extent
extent_or None = no_extent
extent_or (Some e) = e

abbrev pub extent_at : List Extent → ℕ → Extent
extent_at found number = extent_or (slice_get found number)

-- the extent of the last part of a node, which stands right before it
abbrev pub latest : List Extent → Extent
latest found = extent_at found (length found - 1)

-- The number of the last token of an operand with the parentheses around it, of which the opening ones stand right before it.
abbrev pub outer_last : List Token → Extent → ℕ
outer_last tokens e = number_of tokens e.last + opens_before tokens (number_of tokens e.first)

-- The number of its first token with them, of which the closing ones stand right behind it.
abbrev pub outer_first : List Token → Extent → ℕ
outer_first tokens e = number_of tokens e.first - closes (drop (number_of tokens e.last + 1) tokens)

-- An expression that begins at this place and ends so many tokens behind its last part.
abbrev pub from : List Token → Place → List Extent → ℕ → Extent
from tokens at found more = record { first = at; last = token_place tokens (outer_last tokens (latest found) + more) }

-- The number of the last token of a call: the one behind the name without arguments, the parenthesis of the call around its only argument, or the one
-- behind the last argument.
abbrev pub call_last : List Token → Place → List Extent → List NodeId → ℕ
call_last tokens at found [] = number_of tokens at + 2
call_last tokens at found (a ∷ []) = outer_last tokens (latest found)
call_last tokens at found (a ∷ b ∷ ids) = outer_last tokens (latest found) + 1

abbrev pub call_extent : List Token → Place → List Extent → NodeId → List NodeId → Extent
call_extent tokens at found receiver ids =
    record { first = token_place tokens (outer_first tokens (extent_at found receiver.0)); last = token_place tokens (call_last tokens at found ids) }

abbrev pub operation_extent : List Token → List Extent → NodeId → Extent
operation_extent tokens found left =
    record { first = token_place tokens (outer_first tokens (extent_at found left.0)); last = token_place tokens (outer_last tokens (latest found)) }

-- the place of the word `let`, if it stands right before the variable
abbrev pub let_first : List Token → Place → ℕ → Place
let_first tokens at zero = at
let_first tokens at (suc k) = if is_token is_kind_let (slice_get tokens k) then token_place tokens k else at

abbrev pub let_extent : List Token → Place → List Extent → Extent
let_extent tokens at found = record { first = let_first tokens at (number_of tokens at); last = token_place tokens (outer_last tokens (latest found)) }

-- the extent of a node, by the extents of the nodes before it
abbrev pub node_extent : List Token → List Extent → Node → Extent
node_extent tokens found (node.Assign at name a) = from tokens at found 0
node_extent tokens found (node.Dispatch at a name ids) = call_extent tokens at found a ids
node_extent tokens found (node.StaticDispatch at a class name ids) = call_extent tokens at found a ids
node_extent tokens found (node.If at a b c) = from tokens at found 1
node_extent tokens found (node.While at a b) = from tokens at found 1
node_extent tokens found (node.Block at ids) = from tokens at found 2
node_extent tokens found (node.Let at name declared o a) = let_extent tokens at found
node_extent tokens found (node.Case at a bs) = from tokens at found 2
node_extent tokens found (node.New at class) = record { first = at; last = class.at }
node_extent tokens found (node.IsVoid at a) = from tokens at found 0
node_extent tokens found (node.Arith at op a b) = operation_extent tokens found a
node_extent tokens found (node.Neg at a) = from tokens at found 0
node_extent tokens found (node.Compare at op a b) = operation_extent tokens found a
node_extent tokens found (node.Not at a) = from tokens at found 0
node_extent tokens found (node.Id at name) = record { first = at; last = at }
node_extent tokens found (node.Int at value) = record { first = at; last = at }
node_extent tokens found (node.Str at bytes) = record { first = at; last = at }
node_extent tokens found (node.Bool at value) = record { first = at; last = at }

-- the extents found so far, followed by those of these nodes
abbrev pub found_after : List Token → List Extent → List Node → List Extent
found_after tokens found [] = found
found_after tokens found (n ∷ ns) = found_after tokens (found ++ node_extent tokens found n ∷ []) ns

abbrev pub found_extents : List Token → Tree → List Extent
found_extents tokens t = found_after tokens [] (nodes 0 t)
