-- If an expression has a type by the typing rules in one scope, it has this type in each scope in which every name has the same type.
use Rattle.std.proofs.Common.{◌≡◌, ℕ, List, [], ◌∷◌, Option, Some, ap, sym, ◌∙◌}
use Rattle.std.specs.Prelude.{if◌then◌else◌, bytes_eq, codes}
use Rattle.cool_syntax.specs.Tree.{Tree, Trees, MaybeTree, Cases, Last, More, Without, With, NoCase, CaseOf}
use Rattle.cool_syntax.specs.Tree as trees
use Rattle.cool_classes.specs.declared.class_id.ClassId.{ClassId}
use Rattle.cool_classes.specs.declared.class_id.Ty.{Ty}
use Rattle.cool_classes.specs.declared.class_id.Ty.TheVariants.{Class as IsClass, SelfType}
use Rattle.cool_classes.specs.Chains.{Class}
use Rattle.cool_rules.specs.Scopes.{Binding, found}
use Rattle.cool_rules.specs.Typing.{HasType, HaveTypes, HaveItems, HasInit, HaveBranches, with_name}

-- each name has the same type in both
abbrev pub AreSame : List Binding → List Binding → Type 0
AreSame s t = (name : List ℕ) → found s name ≡ found t name

pub same_with : (x : List ℕ) (t : Ty) (s1 s2 : List Binding) → AreSame s1 s2 → AreSame (with_name x t s1) (with_name x t s2)
same_with x t s1 s2 h = λ name. ap (λ (o : Option Ty). if bytes_eq x name then Some t else o) (h name)

module _ (p : List Class) (c : ClassId) where
  mutual
    pub moved : (e : Tree) (s1 s2 : List Binding) (t : Ty) → AreSame s1 s2 → HasType p c s1 e t → HasType p c s2 e t
    moved (trees.Id at name) s1 s2 t h g = sym (ap (λ (o : Option Ty). if bytes_eq name (codes "self") then Some SelfType else o) (h name)) ∙ g
    moved (trees.Assign at name e) s1 s2 t h (d, other, has, there, conforms) = (d, other, moved e s1 s2 t h has, sym (h name) ∙ there, conforms)
    moved (trees.Dispatch at e name es) s1 s2 t h (r, given, has, have, call) = (r, given, moved e s1 s2 r h has, all_moved es s1 s2 given h have, call)
    moved (trees.StaticDispatch at e class name es) s1 s2 t h (r, given, k, has, have, denotes, conforms, call) = (r, given, k, moved e s1 s2 r h has, all_moved es s1 s2 given h have, denotes, conforms, call)
    moved (trees.If at test first second) s1 s2 t h (u, v, has, has1, has2, join) = (u, v, moved test s1 s2 _ h has, moved first s1 s2 u h has1, moved second s1 s2 v h has2, join)
    moved (trees.While at test body) s1 s2 t h (u, has, has1, is) = (u, moved test s1 s2 _ h has, moved body s1 s2 u h has1, is)
    moved (trees.Block at es) s1 s2 t h g = items_moved es s1 s2 _ t h g
    moved (trees.Let at name declared init e) s1 s2 t h (bound, other, denotes, fits, has) =
        (bound, other, denotes, init_moved init s1 s2 bound h fits, moved e (with_name name bound s1) (with_name name bound s2) t (same_with name bound s1 s2 h) has)
    moved (trees.Case at e cs) s1 s2 t h (u, ts, has, have, different, join) = (u, ts, moved e s1 s2 u h has, branches_moved cs s1 s2 ts h have, different, join)
    moved (trees.IsVoid at e) s1 s2 t h (u, has, is) = (u, moved e s1 s2 u h has, is)
    moved (trees.Not at e) s1 s2 t h (has, is) = (moved e s1 s2 _ h has, is)
    moved (trees.Neg at e) s1 s2 t h (has, is) = (moved e s1 s2 _ h has, is)
    moved (trees.Arith at op a b) s1 s2 t h (has, has1, is) = (moved a s1 s2 _ h has, moved b s1 s2 _ h has1, is)
    moved (trees.Compare at op a b) s1 s2 t h (u, v, has, has1, comparable, is) = (u, v, moved a s1 s2 u h has, moved b s1 s2 v h has1, comparable, is)
    moved _ s1 s2 t h g = g

    all_moved : (es : Trees) (s1 s2 : List Binding) (ts : List Ty) → AreSame s1 s2 → HaveTypes p c s1 es ts → HaveTypes p c s2 es ts
    all_moved Last s1 s2 [] h g = g
    all_moved Last s1 s2 (t ∷ ts) h g = absurd g
    all_moved (More e es) s1 s2 [] h g = absurd g
    all_moved (More e es) s1 s2 (t ∷ ts) h g = (moved e s1 s2 t h g.0, all_moved es s1 s2 ts h g.1)

    items_moved : (es : Trees) (s1 s2 : List Binding) (before t : Ty) → AreSame s1 s2 → HaveItems p c s1 before es t → HaveItems p c s2 before es t
    items_moved Last s1 s2 before t h g = g
    items_moved (More e es) s1 s2 before t h (u, has, have) = (u, moved e s1 s2 u h has, items_moved es s1 s2 u t h have)

    init_moved : (init : MaybeTree) (s1 s2 : List Binding) (bound : Ty) → AreSame s1 s2 → HasInit p c s1 bound init → HasInit p c s2 bound init
    init_moved Without s1 s2 bound h g = g
    init_moved (With e) s1 s2 bound h (t, has, conforms) = (t, moved e s1 s2 t h has, conforms)

    branches_moved : (cs : Cases) (s1 s2 : List Binding) (ts : List Ty) → AreSame s1 s2 → HaveBranches p c s1 cs ts → HaveBranches p c s2 cs ts
    branches_moved NoCase s1 s2 [] h g = g
    branches_moved NoCase s1 s2 (t ∷ ts) h g = absurd g
    branches_moved (CaseOf at name declared e cs) s1 s2 [] h g = absurd g
    branches_moved (CaseOf at name declared e cs) s1 s2 (t ∷ ts) h ((d, other, denotes, has), have) =
        ((d, other, denotes, moved e (with_name name (IsClass d) s1) (with_name name (IsClass d) s2) t (same_with name (IsClass d) s1 s2 h) has), branches_moved cs s1 s2 ts h have)
