-- The extents (first and last token) computed for two lists of nodes, one behind the other, are those of the first list, followed by those of the second.
use Rattle.std.proofs.Common.{◌≡◌, ℕ, ◌+◌, List, [], ◌∷◌, ◌++◌, length, refl, ap, sym, ◌∙◌, append_assoc, append-nil, length-append, arith}
use Rattle.cool_syntax.specs.declared.token.Token.{Token}
use Rattle.cool_syntax.specs.declared.node.Node.{Node}
use Rattle.cool_extents.specs.declared.extent.Extent.{Extent}
use Rattle.cool_extents.specs.FoundExtents.{node_extent, found_after}

-- nodes, numbered from a base, of which these extents are found behind any others
pub record Finds (ts : List Token) (make : ℕ → List Node) (size : ℕ) (inner : List Extent) : Type 0 where
  pub long : length inner ≡ size
  pub found : (base : ℕ) (es : List Extent) (ns : List Node) → base ≡ length es → found_after ts es (make base ++ ns) ≡ found_after ts (es ++ inner) ns

-- no nodes have none
pub finds_none : {ts : List Token} → Finds ts (λ base. []) 0 []
finds_none {ts} = record { long = refl; found = λ base es ns e. ap (λ l. found_after ts l ns) (sym (append-nil es)) }

-- nodes after nodes have theirs after those
pub finds_join : {ts : List Token} {make more : ℕ → List Node} {m n : ℕ} {xs ys : List Extent} (next : ℕ → ℕ) → ((base : ℕ) → next base ≡ base + m)
    → Finds ts make m xs → Finds ts more n ys → Finds ts (λ base. make base ++ more (next base)) (m + n) (xs ++ ys)
finds_join {ts} {make} {more} {m} {n} {xs} {ys} next at f g = record {
  long = omega (arith, length-append xs ys, f.long, g.long);
  found = λ base es ns e.
      ap (found_after ts es) (append_assoc (make base) (more (next base)) ns)
      ∙ (f.found base es (more (next base) ++ ns) e
      ∙ (g.found (next base) (es ++ xs) ns (omega (arith, at base, e, f.long, length-append es xs)) ∙ ap (λ l. found_after ts l ns) (append_assoc es xs ys)));
}

-- a node behind nodes has the extent that is found by theirs
pub finds_node : {ts : List Token} {make : ℕ → List Node} {m : ℕ} {xs : List Extent} (node : ℕ → Node) (own : Extent) → Finds ts make m xs
    → ((base : ℕ) (es : List Extent) → base ≡ length es → node_extent ts (es ++ xs) (node base) ≡ own)
    → Finds ts (λ base. make base ++ node base ∷ []) (m + 1) (xs ++ own ∷ [])
finds_node {ts} {make} {m} {xs} node own f is = record {
  long = omega (arith, length-append xs (own ∷ []), f.long);
  found = λ base es ns e.
      ap (found_after ts es) (append_assoc (make base) (node base ∷ []) ns)
      ∙ (f.found base es (node base ∷ ns) e
      ∙ (ap (λ (x : Extent). found_after ts ((es ++ xs) ++ x ∷ []) ns) (is base es e) ∙ ap (λ l. found_after ts l ns) (append_assoc es xs (own ∷ []))));
}
