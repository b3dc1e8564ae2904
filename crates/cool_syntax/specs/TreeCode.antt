-- `tree_code` encodes a tree as a tree of numbers, and `decode` recovers it, so that a proof can tell different trees apart.
use Rattle.std.specs.Prelude.{◌≡◌, ℕ, Bool as Truth, true, false, List, [], ◌∷◌, refl}
use Rattle.std.proofs.Common.{ap, zero, suc}
use Rattle.std.specs.Coded.{Coded, code_by}
use base.Stored.{Gv, gnil, gnum, gcons, num}
use Rattle.cool_syntax.specs.declared.place.Place.{Place}
use Rattle.cool_syntax.specs.declared.type_ref.TypeRef.{TypeRef}
use Rattle.cool_syntax.specs.declared.operator.ArithOp.{ArithOp}
use Rattle.cool_syntax.specs.declared.operator.ArithOp.TheVariants.{Add, Sub, Mul, Div}
use Rattle.cool_syntax.specs.declared.operator.CompareOp.{CompareOp}
use Rattle.cool_syntax.specs.declared.operator.CompareOp.TheVariants.{Less, LessEqual, Equal}
use Rattle.cool_syntax.specs.Tree.{Tree, Trees, MaybeTree, Cases, Twig, Last, More, Without, With, NoCase, CaseOf}
use Rattle.cool_syntax.specs.Tree.{Assign, Dispatch, StaticDispatch, If, While, Block, Let, Case, New, IsVoid, Arith, Neg, Compare, Not, Id, Int, Str, Bool}

-- places, words, types, operators and truth values
abbrev place_gv : Place → Gv
place_gv p = gcons (gnum p.file) (gcons (gnum p.line) (gnum p.byte))

abbrev place_of : Gv → Place
place_of (gcons f (gcons l b)) = record { file = num f; line = num l; byte = num b }
place_of _ = record { file = 0; line = 0; byte = 0 }

abbrev word_gv : List ℕ → Gv
word_gv [] = gnil
word_gv (b ∷ bs) = gcons (gnum b) (word_gv bs)

abbrev word_of : Gv → List ℕ
word_of (gcons b bs) = num b ∷ word_of bs
word_of _ = []

word_back : (bs : List ℕ) → word_of (word_gv bs) ≡ bs
word_back [] = refl
word_back (b ∷ bs) = ap (λ (cs : List ℕ). b ∷ cs) (word_back bs)

abbrev type_gv : TypeRef → Gv
type_gv r = gcons (word_gv r.name) (place_gv r.at)

abbrev type_of : Gv → TypeRef
type_of (gcons n p) = record { name = word_of n; at = place_of p }
type_of _ = record { name = []; at = place_of gnil }

type_back : (r : TypeRef) → type_of (type_gv r) ≡ r
type_back r = λ i. record { name = word_back r.name i; at = r.at }

abbrev arith_gv : ArithOp → Gv
arith_gv Add = gnum 0
arith_gv Sub = gnum 1
arith_gv Mul = gnum 2
arith_gv Div = gnum 3

abbrev arith_of : Gv → ArithOp
arith_of (gnum zero) = Add
arith_of (gnum (suc zero)) = Sub
arith_of (gnum (suc (suc zero))) = Mul
arith_of _ = Div

arith_back : (op : ArithOp) → arith_of (arith_gv op) ≡ op
arith_back Add = refl
arith_back Sub = refl
arith_back Mul = refl
arith_back Div = refl

abbrev compare_gv : CompareOp → Gv
compare_gv Less = gnum 0
compare_gv LessEqual = gnum 1
compare_gv Equal = gnum 2

abbrev compare_of : Gv → CompareOp
compare_of (gnum zero) = Less
compare_of (gnum (suc zero)) = LessEqual
compare_of _ = Equal

compare_back : (op : CompareOp) → compare_of (compare_gv op) ≡ op
compare_back Less = refl
compare_back LessEqual = refl
compare_back Equal = refl

abbrev truth_gv : Truth → Gv
truth_gv false = gnum 0
truth_gv true = gnum 1

abbrev truth_of : Gv → Truth
truth_of (gnum zero) = false
truth_of _ = true

truth_back : (b : Truth) → truth_of (truth_gv b) ≡ b
truth_back false = refl
truth_back true = refl

-- a tree as its number among the forms, its place and its parts
mutual
  code : Tree → Gv
  code (Assign at name t) = gcons (gnum 0) (gcons (place_gv at) (gcons (word_gv name) (code t)))
  code (Dispatch at t name ts) = gcons (gnum 1) (gcons (place_gv at) (gcons (code t) (gcons (word_gv name) (codes ts))))
  code (StaticDispatch at t class name ts) = gcons (gnum 2) (gcons (place_gv at) (gcons (code t) (gcons (type_gv class) (gcons (word_gv name) (codes ts)))))
  code (If at t y n) = gcons (gnum 3) (gcons (place_gv at) (gcons (code t) (gcons (code y) (code n))))
  code (While at t b) = gcons (gnum 4) (gcons (place_gv at) (gcons (code t) (code b)))
  code (Block at ts) = gcons (gnum 5) (gcons (place_gv at) (codes ts))
  code (Let at name declared o t) = gcons (gnum 6) (gcons (place_gv at) (gcons (word_gv name) (gcons (type_gv declared) (gcons (maybe_code o) (code t)))))
  code (Case at t cs) = gcons (gnum 7) (gcons (place_gv at) (gcons (code t) (cases_code cs)))
  code (New at class) = gcons (gnum 8) (gcons (place_gv at) (type_gv class))
  code (IsVoid at t) = gcons (gnum 9) (gcons (place_gv at) (code t))
  code (Arith at op a b) = gcons (gnum 10) (gcons (place_gv at) (gcons (arith_gv op) (gcons (code a) (code b))))
  code (Neg at t) = gcons (gnum 11) (gcons (place_gv at) (code t))
  code (Compare at op a b) = gcons (gnum 12) (gcons (place_gv at) (gcons (compare_gv op) (gcons (code a) (code b))))
  code (Not at t) = gcons (gnum 13) (gcons (place_gv at) (code t))
  code (Id at name) = gcons (gnum 14) (gcons (place_gv at) (word_gv name))
  code (Int at value) = gcons (gnum 15) (gcons (place_gv at) (gnum value))
  code (Str at bytes) = gcons (gnum 16) (gcons (place_gv at) (word_gv bytes))
  code (Bool at value) = gcons (gnum 17) (gcons (place_gv at) (truth_gv value))

  codes : Trees → Gv
  codes Last = gnil
  codes (More t ts) = gcons (code t) (codes ts)

  maybe_code : MaybeTree → Gv
  maybe_code Without = gnil
  maybe_code (With t) = gcons gnil (code t)

  cases_code : Cases → Gv
  cases_code NoCase = gnil
  cases_code (CaseOf at name declared t cs) = gcons (place_gv at) (gcons (word_gv name) (gcons (type_gv declared) (gcons (code t) (cases_code cs))))

-- the tree of a code; an arbitrary tree if the value is no code
mutual
  decode : Gv → Tree
  decode (gcons (gnum zero) (gcons p (gcons name t))) = Assign (place_of p) (word_of name) (decode t)
  decode (gcons (gnum (suc zero)) (gcons p (gcons t (gcons name ts)))) = Dispatch (place_of p) (decode t) (word_of name) (decode_list ts)
  decode (gcons (gnum (suc (suc zero))) (gcons p (gcons t (gcons class (gcons name ts))))) = StaticDispatch (place_of p) (decode t) (type_of class) (word_of name) (decode_list ts)
  decode (gcons (gnum (suc (suc (suc zero)))) (gcons p (gcons t (gcons y n)))) = If (place_of p) (decode t) (decode y) (decode n)
  decode (gcons (gnum (suc (suc (suc (suc zero))))) (gcons p (gcons t b))) = While (place_of p) (decode t) (decode b)
  decode (gcons (gnum (suc (suc (suc (suc (suc zero)))))) (gcons p ts)) = Block (place_of p) (decode_list ts)
  decode (gcons (gnum (suc (suc (suc (suc (suc (suc zero))))))) (gcons p (gcons name (gcons declared (gcons o t))))) = Let (place_of p) (word_of name) (type_of declared) (decode_maybe o) (decode t)
  decode (gcons (gnum (suc (suc (suc (suc (suc (suc (suc zero)))))))) (gcons p (gcons t cs))) = Case (place_of p) (decode t) (decode_cases cs)
  decode (gcons (gnum (suc (suc (suc (suc (suc (suc (suc (suc zero))))))))) (gcons p class)) = New (place_of p) (type_of class)
  decode (gcons (gnum (suc (suc (suc (suc (suc (suc (suc (suc (suc zero)))))))))) (gcons p t)) = IsVoid (place_of p) (decode t)
  decode (gcons (gnum (suc (suc (suc (suc (suc (suc (suc (suc (suc (suc zero))))))))))) (gcons p (gcons op (gcons a b)))) = Arith (place_of p) (arith_of op) (decode a) (decode b)
  decode (gcons (gnum (suc (suc (suc (suc (suc (suc (suc (suc (suc (suc (suc zero)))))))))))) (gcons p t)) = Neg (place_of p) (decode t)
  decode (gcons (gnum (suc (suc (suc (suc (suc (suc (suc (suc (suc (suc (suc (suc zero))))))))))))) (gcons p (gcons op (gcons a b)))) = Compare (place_of p) (compare_of op) (decode a) (decode b)
  decode (gcons (gnum (suc (suc (suc (suc (suc (suc (suc (suc (suc (suc (suc (suc (suc zero)))))))))))))) (gcons p t)) = Not (place_of p) (decode t)
  decode (gcons (gnum (suc (suc (suc (suc (suc (suc (suc (suc (suc (suc (suc (suc (suc (suc zero))))))))))))))) (gcons p name)) = Id (place_of p) (word_of name)
  decode (gcons (gnum (suc (suc (suc (suc (suc (suc (suc (suc (suc (suc (suc (suc (suc (suc (suc zero)))))))))))))))) (gcons p value)) = Int (place_of p) (num value)
  decode (gcons (gnum (suc (suc (suc (suc (suc (suc (suc (suc (suc (suc (suc (suc (suc (suc (suc (suc zero))))))))))))))))) (gcons p bytes)) = Str (place_of p) (word_of bytes)
  decode (gcons (gnum (suc (suc (suc (suc (suc (suc (suc (suc (suc (suc (suc (suc (suc (suc (suc (suc (suc zero)))))))))))))))))) (gcons p value)) = Bool (place_of p) (truth_of value)
  decode _ = Int (place_of gnil) 0

  decode_list : Gv → Trees
  decode_list (gcons t ts) = More (decode t) (decode_list ts)
  decode_list _ = Last

  decode_maybe : Gv → MaybeTree
  decode_maybe (gcons g t) = With (decode t)
  decode_maybe _ = Without

  decode_cases : Gv → Cases
  decode_cases (gcons p (gcons name (gcons declared (gcons t cs)))) = CaseOf (place_of p) (word_of name) (type_of declared) (decode t) (decode_cases cs)
  decode_cases _ = NoCase

-- the code of a tree gives the tree back
mutual
  unfolding code codes maybe_code cases_code decode decode_list decode_maybe decode_cases

  decode_code : (t : Tree) → decode (code t) ≡ t
  decode_code (Assign at name t) = λ i. Assign at (word_back name i) (decode_code t i)
  decode_code (Dispatch at t name ts) = λ i. Dispatch at (decode_code t i) (word_back name i) (decode_codes ts i)
  decode_code (StaticDispatch at t class name ts) = λ i. StaticDispatch at (decode_code t i) (type_back class i) (word_back name i) (decode_codes ts i)
  decode_code (If at t y n) = λ i. If at (decode_code t i) (decode_code y i) (decode_code n i)
  decode_code (While at t b) = λ i. While at (decode_code t i) (decode_code b i)
  decode_code (Block at ts) = λ i. Block at (decode_codes ts i)
  decode_code (Let at name declared o t) = λ i. Let at (word_back name i) (type_back declared i) (decode_maybe_code o i) (decode_code t i)
  decode_code (Case at t cs) = λ i. Case at (decode_code t i) (decode_cases_code cs i)
  decode_code (New at class) = λ i. New at (type_back class i)
  decode_code (IsVoid at t) = λ i. IsVoid at (decode_code t i)
  decode_code (Arith at op a b) = λ i. Arith at (arith_back op i) (decode_code a i) (decode_code b i)
  decode_code (Neg at t) = λ i. Neg at (decode_code t i)
  decode_code (Compare at op a b) = λ i. Compare at (compare_back op i) (decode_code a i) (decode_code b i)
  decode_code (Not at t) = λ i. Not at (decode_code t i)
  decode_code (Id at name) = λ i. Id at (word_back name i)
  decode_code (Int at value) = refl
  decode_code (Str at bytes) = λ i. Str at (word_back bytes i)
  decode_code (Bool at value) = λ i. Bool at (truth_back value i)

  decode_codes : (ts : Trees) → decode_list (codes ts) ≡ ts
  decode_codes Last = refl
  decode_codes (More t ts) = λ i. More (decode_code t i) (decode_codes ts i)

  decode_maybe_code : (o : MaybeTree) → decode_maybe (maybe_code o) ≡ o
  decode_maybe_code Without = refl
  decode_maybe_code (With t) = λ i. With (decode_code t i)

  decode_cases_code : (cs : Cases) → decode_cases (cases_code cs) ≡ cs
  decode_cases_code NoCase = refl
  decode_cases_code (CaseOf at name declared t cs) = λ i. CaseOf at (word_back name i) (type_back declared i) (decode_code t i) (decode_cases_code cs i)

pub tree_code : Coded Tree
tree_code = code_by Gv (record { code = λ g. g; inj = λ x y e. e }) code decode decode_code

-- a twig, which is a branch of a case by itself, as a `let` with its name, type and body
abbrev twig_tree : Twig → Tree
twig_tree w = Let w.at w.name w.declared Without w.body

abbrev tree_twig : Tree → Twig
tree_twig (Let at name declared o t) = record { at = at; name = name; declared = declared; body = t }
tree_twig t = record { at = place_of gnil; name = []; declared = type_of gnil; body = t }

pub twig_code : Coded Twig
twig_code = code_by Tree tree_code twig_tree tree_twig (λ w. refl)
