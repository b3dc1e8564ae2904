-- The code of a subexpression lies within the code of the whole expression, and its constants are among the constants of the program.
use Rattle.std.proofs.Common.{ℕ, suc, ◌+◌, ◌≤◌, List, ◌∷◌, ◌++◌, length, refl, arith}
use Rattle.std.specs.Prelude.{Contains}
use Rattle.std.proofs.lemmas.List.Elements.{Contains-append_left, Contains-append_right}
use Rattle.mips_isa.specs.Lines.{Line}
use Rattle.cool_syntax.specs.Tree.{Tree, tree_size}
use Rattle.cool_syntax.specs.Tree as trees
use Rattle.cool_syntax.specs.TreesWithinLimits.{IsTreeWithin}
use Rattle.cool_classes.specs.declared.class_id.ClassId.{ClassId}
use Rattle.cool_runtime.specs.Standing.{HasLines, sizes}
use Rattle.cool_codegen.specs.Variables.{Named}
use Rattle.cool_codegen.specs.Code.{Context, code}
use Rattle.cool_codegen.specs.Spans.{Span, span, spans}
use Rattle.cool_consts.specs.Constants.{Constants}
use Rattle.cool_codegen.specs.Asked.{integers_in, strings_in}
use Rattle.cool_simulation.specs.Loadings.{Loading, constants, context, whole}
use Rattle.cool_simulation.specs.Simulation.{CodeAt, Placed}

-- the constants that a piece of code uses are among the constants
pub record Asks (l : Loading) (integers : List ℕ) (strings : List (List ℕ)) : Type 0 where
  pub integers_there : (n : ℕ) → Contains integers n → Contains (constants l).integers n
  pub strings_there : (bytes : List ℕ) → Contains strings bytes → Contains (constants l).strings bytes

pub asks_front : (l : Loading) (is js : List ℕ) (xs ys : List (List ℕ)) → Asks l (is ++ js) (xs ++ ys) → Asks l is xs
asks_front l is js xs ys h = record { integers_there = λ n there. h.integers_there n (Contains-append_left is js n there); strings_there = λ bytes there. h.strings_there bytes (Contains-append_left xs ys bytes there) }

pub asks_back : (l : Loading) (is js : List ℕ) (xs ys : List (List ℕ)) → Asks l (is ++ js) (xs ++ ys) → Asks l js ys
asks_back l is js xs ys h = record { integers_there = λ n there. h.integers_there n (Contains-append_right is js n there); strings_there = λ bytes there. h.strings_there bytes (Contains-append_right xs ys bytes there) }

-- strings that follow, where no integers do
pub asks_part : (l : Loading) (is : List ℕ) (xs ys : List (List ℕ)) → Asks l is (xs ++ ys) → Asks l is xs
asks_part l is xs ys h = record { integers_there = h.integers_there; strings_there = λ bytes there. h.strings_there bytes (Contains-append_left xs ys bytes there) }

pub asks_of : (l : Loading) (c : ClassId) (f : ℕ) (vs : List Named) (d first pc : ℕ) (t : Tree) → CodeAt l c f vs d first pc t → Asks l (integers_in t) (strings_in l.files t)
asks_of l c f vs d first pc t at = record { integers_there = at.integers; strings_there = at.strings }

-- the code of a part
pub part_at : (l : Loading) (c : ClassId) (f : ℕ) (vs : List Named) (d first pc : ℕ) (t : Tree) → HasLines (whole l) pc (code (context l c f) (constants l) vs d first t) → Asks l (integers_in t) (strings_in l.files t)
    → IsTreeWithin (length l.files) t → d + tree_size t ≤ 8000 → ((x : Span) → Contains (spans sizes (context l c f) (constants l) vs d first pc t) x → Placed l c f x) → CodeAt l c f vs d first pc t
part_at l c f vs d first pc t lines asks within small placed = record { lines = lines; integers = asks.integers_there; strings = asks.strings_there; within = within; small = small; spans = placed }

-- the span of a whole tree is the first of its spans
pub own_span : (size : List Line → ℕ) (s : Context) (g : Constants) (vs : List Named) (d k pc : ℕ) (t : Tree) → Contains (spans size s g vs d k pc t) (span vs d k pc t)
own_span size s g vs d k pc (trees.Id at name) = (0, omega arith, refl)
own_span size s g vs d k pc (trees.Not at t) = (0, omega arith, refl)
own_span size s g vs d k pc (trees.Compare at op t u) = (0, omega arith, refl)
own_span size s g vs d k pc (trees.Dispatch at t name ts) = (0, omega arith, refl)
own_span size s g vs d k pc t = (0, omega arith, refl)

-- it is one of the feature, whose pieces have no mark
pub own_placed : (l : Loading) (c : ClassId) (f : ℕ) (vs : List Named) (d first pc : ℕ) (t : Tree) → CodeAt l c f vs d first pc t → Placed l c f (span vs d first pc t)
own_placed l c f vs d first pc t at = at.spans (span vs d first pc t) (own_span sizes (context l c f) (constants l) vs d first pc t)

-- the spans of a part are among those behind the whole's own
pub in_rest : {A : Type 0} (own : A) (xs : List A) (x : A) → Contains xs x → Contains (own ∷ xs) x
in_rest own xs x h = let less = h.1 in (suc h.0, omega arith, h.2)
