-- A constant table gives the constants of another table the same numbers exactly if it extends that table, and adding one constant to a table extends it.
use Rattle.std.proofs.Common.{◌≡◌, ℕ, suc, ◌<◌, ◌≤◌, List, [], ◌∷◌, ◌++◌, length, refl, sym, ◌∙◌, ap, subst, arith, length-append}
use Rattle.std.specs.Prelude.{slice_get}
use Rattle.cool_consts.specs.Constants.{Constants, with_integer, with_string}
use Rattle.cool_codegen.specs.Asked.{Extends, Keeps}
use Rattle.cool_codegen.proofs.NumbersAgree.{extends_before, extends_same}
use Rattle.lists.proofs.ItemsAt.{front_get}

-- the rest of a list after one whose elements are all there
behind : {X : Type 0} (xs ys : List X) → length xs ≤ length ys → ((k : ℕ) → k < length xs → slice_get ys k ≡ slice_get xs k) → (rest : List X) × (ys ≡ xs ++ rest)
behind [] ys l h = (ys, refl)
behind (x ∷ xs) [] l h = absurd (omega arith)
behind (x ∷ xs) (y ∷ ys) l h =
    let more = behind xs ys (omega arith) (λ k less. h (suc k) (omega arith)) in
    let first = h 0 (omega arith) in
    let same : y ≡ x = cc in
    (more.0, λ i. same i ∷ more.1 i)

-- the two say the same of tables
pub kept_extended : (t u : Constants) → Extends t u → Keeps t u
kept_extended t u e = record {
  no_fewer_integers = omega (arith, ap length e.integers.1, length-append t.integers e.integers.0);
  no_fewer_strings = omega (arith, ap length e.strings.1, length-append t.strings e.strings.0);
  integers = λ k less. ap (λ (xs : List ℕ). slice_get xs k) e.integers.1 ∙ front_get t.integers e.integers.0 k less;
  strings = λ k less. ap (λ (xs : List (List ℕ)). slice_get xs k) e.strings.1 ∙ front_get t.strings e.strings.0 k less;
}

pub extended_kept : (t u : Constants) → Keeps t u → Extends t u
extended_kept t u h = record {
  integers = behind t.integers u.integers h.no_fewer_integers h.integers;
  strings = behind t.strings u.strings h.no_fewer_strings h.strings;
}

-- after nothing was asked for, one integer, one string
pub kept_same : (t u : Constants) → u ≡ t → Keeps t u
kept_same t u e = subst (λ (v : Constants). Keeps t v) (sym e) (kept_extended t t (extends_same t))

pub kept_integer : (t u : Constants) (n : ℕ) → u.integers ≡ with_integer t.integers n → u.strings ≡ t.strings → Keeps t u
kept_integer t u n e f =
    let is : record { integers = with_integer t.integers n; strings = t.strings } ≡ u = λ i. record { integers = sym e i; strings = sym f i } in
    subst (λ (v : Constants). Keeps t v) is (kept_extended t _ (extends_before t _ (n ∷ []) [] (extends_same _)))

pub kept_string : (t u : Constants) (b : List ℕ) → u.integers ≡ t.integers → u.strings ≡ with_string t.strings b → Keeps t u
kept_string t u b e f =
    let is : record { integers = t.integers; strings = with_string t.strings b } ≡ u = λ i. record { integers = sym e i; strings = sym f i } in
    subst (λ (v : Constants). Keeps t v) is (kept_extended t _ (extends_before t _ [] (b ∷ []) (extends_same _)))
