-- If each node of a list comes after its parts (postorder), this still holds after one more node, which comes after its own parts, is appended.
use Rattle.std.proofs.Common.{◌≡◌, ◌<◌, List, [], ◌∷◌, ◌++◌, length, sym, ap, subst, length-append, arith}
use Rattle.cool_syntax.specs.declared.node.Node.{Node}
use Rattle.cool_syntax.specs.NodeLists.{HasPartsBelow, Ordered}
use Rattle.cool_syntax.proofs.PartsStandBefore.{ordered_push}

-- the nodes that are held, as the contract shows them, with one more
pub placed : (held shown after : List Node) (node : Node) → held ≡ shown → Ordered 0 held → HasPartsBelow (length shown) node → length shown < 4294967294 → after ≡ held ++ node ∷ [] → Ordered 0 after × (length after < 4294967295)
placed held shown after node e o h few p =
    (subst (λ ns. Ordered 0 ns) (sym p) (ordered_push held node o (subst (λ k. HasPartsBelow k node) (sym (ap length e)) h)), omega (arith, ap length p, ap length e, length-append held (node ∷ [])))
