-- Two errors found before type checking that have the same source location and rank are the same error, because each kind of error has its own rank.
use Rattle.std.proofs.Common.{◌≡◌, ℕ, ◌+◌, ◌<◌, List, [], ◌∷◌, Some, slice_get, ap, sym, ◌∙◌, refl, arith}
use Rattle.std.proofs.lemmas.Option.{same_Some, slice_get_within}
use Rattle.cool_syntax.specs.declared.lexical.LexKind.{LexKind}
use Rattle.cool_syntax.specs.declared.lexical.LexKind.TheVariants.{L1, L2, L3, L4, L5, L6, L7, L8}
use Rattle.cool_syntax.specs.FaultOrder.{Standing}
use Rattle.cool_classes.specs.declared.fault.ClassKind.{ClassKind}
use Rattle.cool_classes.specs.declared.fault.ClassKind.TheVariants.{C1, C2, C3, C4, C5, C6, C7, F1, F2, F3, F4, F5, F6, F7, F8, F9}
use Rattle.cool_classes.specs.FaultLists.{rank as class_rank}
use Rattle.cool_faults.specs.declared.fault.Fault.{Fault}
use Rattle.cool_faults.specs.declared.fault.Fault.TheVariants.{Lex, Syntax, Class as OfClasses, Typing}
use Rattle.cool_faults.specs.Untyped.{IsEarly}
use Rattle.cool_faults.specs.Verdicts.{lex_rank, standing_of}

-- all kinds of lexical faults in their order; each stands at its rank
abbrev lex_kinds : List LexKind
lex_kinds = L1 ∷ L2 ∷ L3 ∷ L4 ∷ L5 ∷ L6 ∷ L7 ∷ L8 ∷ []

lex_kind_at : (k : LexKind) → slice_get lex_kinds (lex_rank k) ≡ Some k
lex_kind_at L1 = refl
lex_kind_at L2 = refl
lex_kind_at L3 = refl
lex_kind_at L4 = refl
lex_kind_at L5 = refl
lex_kind_at L6 = refl
lex_kind_at L7 = refl
lex_kind_at L8 = refl

-- all kinds of faults of classes and features in their order; each stands at its rank
abbrev class_kinds : List ClassKind
class_kinds = C1 ∷ C2 ∷ C3 ∷ C4 ∷ C5 ∷ C6 ∷ C7 ∷ F1 ∷ F2 ∷ F3 ∷ F4 ∷ F5 ∷ F6 ∷ F7 ∷ F8 ∷ F9 ∷ []

class_kind_at : (k : ClassKind) → slice_get class_kinds (class_rank k) ≡ Some k
class_kind_at C1 = refl
class_kind_at C2 = refl
class_kind_at C3 = refl
class_kind_at C4 = refl
class_kind_at C5 = refl
class_kind_at C6 = refl
class_kind_at C7 = refl
class_kind_at F1 = refl
class_kind_at F2 = refl
class_kind_at F3 = refl
class_kind_at F4 = refl
class_kind_at F5 = refl
class_kind_at F6 = refl
class_kind_at F7 = refl
class_kind_at F8 = refl
class_kind_at F9 = refl

-- two items at one number in a list are one
one_at : {X : Type 0} (all : List X) (m n : ℕ) (x y : X) → slice_get all m ≡ Some x → slice_get all n ≡ Some y → m ≡ n → x ≡ y
one_at all m n x y a b e = same_Some x y (sym a ∙ ap (λ (k : ℕ). slice_get all k) e ∙ b)

-- a kind is known by its rank
one_lex_kind : (k l : LexKind) → lex_rank k ≡ lex_rank l → k ≡ l
one_lex_kind k l e = one_at lex_kinds (lex_rank k) (lex_rank l) k l (lex_kind_at k) (lex_kind_at l) e

one_class_kind : (k l : ClassKind) → class_rank k ≡ class_rank l → k ≡ l
one_class_kind k l e = one_at class_kinds (class_rank k) (class_rank l) k l (class_kind_at k) (class_kind_at l) e

-- the kinds of one phase come before those of the next
few_lex_kinds : (k : LexKind) → lex_rank k < 8
few_lex_kinds k = slice_get_within lex_kinds (lex_rank k) k (lex_kind_at k)

-- faults of one standing have one place and one rank
place_same : (a b : Standing) → a ≡ b → a.at ≡ b.at
place_same a b e = ap (λ (s : Standing). s.at) e

rank_same : (a b : Standing) → a ≡ b → a.rank ≡ b.rank
rank_same a b e = ap (λ (s : Standing). s.rank) e

-- faults before typing, of one standing, are one
pub one_fault : (x y : Fault) → IsEarly x → IsEarly y → standing_of x ≡ standing_of y → x ≡ y
one_fault (Typing f) y h g e = absurd h
one_fault (Lex f) (Typing y) h g e = absurd g
one_fault (Syntax f) (Typing y) h g e = absurd g
one_fault (OfClasses f) (Typing y) h g e = absurd g
one_fault (Lex f) (Lex y) h g e =
    let at : f.at ≡ y.at = place_same _ _ e in
    let kind = one_lex_kind f.kind y.kind (rank_same _ _ e) in
    λ i. Lex (record { kind = kind i; at = at i })
one_fault (Lex f) (Syntax y) h g e =
    let rank : lex_rank f.kind ≡ 8 = rank_same _ _ e in
    absurd (omega (arith, rank, few_lex_kinds f.kind))
one_fault (Lex f) (OfClasses y) h g e =
    let rank : lex_rank f.kind ≡ 9 + class_rank y.kind = rank_same _ _ e in
    absurd (omega (arith, rank, few_lex_kinds f.kind))
one_fault (Syntax f) (Lex y) h g e =
    let rank : 8 ≡ lex_rank y.kind = rank_same _ _ e in
    absurd (omega (arith, rank, few_lex_kinds y.kind))
one_fault (Syntax f) (Syntax y) h g e =
    let at : f.at ≡ y.at = place_same _ _ e in
    λ i. Syntax (record { at = at i })
one_fault (Syntax f) (OfClasses y) h g e =
    let rank : 8 ≡ 9 + class_rank y.kind = rank_same _ _ e in
    absurd (omega (arith, rank))
one_fault (OfClasses f) (Lex y) h g e =
    let rank : 9 + class_rank f.kind ≡ lex_rank y.kind = rank_same _ _ e in
    absurd (omega (arith, rank, few_lex_kinds y.kind))
one_fault (OfClasses f) (Syntax y) h g e =
    let rank : 9 + class_rank f.kind ≡ 8 = rank_same _ _ e in
    absurd (omega (arith, rank))
one_fault (OfClasses f) (OfClasses y) h g e =
    let at : f.at ≡ y.at = place_same _ _ e in
    let rank : 9 + class_rank f.kind ≡ 9 + class_rank y.kind = rank_same _ _ e in
    let kind = one_class_kind f.kind y.kind (omega (arith, rank)) in
    λ i. OfClasses (record { kind = kind i; at = at i })
