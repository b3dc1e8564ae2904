-- The labels of joined lines are those of both parts joined. Similar lemmas hold for a first line, and for the lines made for each element of a list.
use Rattle.std.proofs.Common.{◌≡◌, ℕ, zero, suc, ◌+◌, ◌<◌, ◌≤◌, List, [], ◌∷◌, ◌++◌, length, get_or, flat_map}
use Rattle.std.proofs.Common.{Contains, Bool, true, false, not, cond, sym, ap, ◌∙◌, subst, arith, inl, inr}
use Rattle.std.specs.Prelude.{nat_lt}
use Rattle.std.specs.List.{position_or_len}
use Rattle.std.proofs.lemmas.Bool.{cases_eq}
use Rattle.std.proofs.lemmas.List.Elements.{Contains-append_left, Contains-append_right}
use Rattle.std.proofs.lemmas.List.Concat.{flat_map-append}
use Rattle.mips_isa.specs.Lines.{Name, Line}
use Rattle.cool_classes.specs.declared.class_id.ClassId.{ClassId}
use Rattle.cool_classes.specs.Chains.{class_number}
use Rattle.cool_layout.specs.Preorder.{numbers_from}
use Rattle.cool_runtime.specs.Instructions.{label}
use Rattle.cool_emit.specs.SoundLines.{labels_of}
use Rattle.lists.proofs.Membership.{first_there, later_there}

-- the item at a position below the length, by computing
pub place_there : {X : Type 0} (xs : List X) (k : ℕ) (x : X) → nat_lt k (length xs) ≡ true → get_or xs k x ≡ x → Contains xs x
place_there xs k x l e = (k, grind arith, e)

-- an element has a place among the first that pass
pub first_place_less : {X : Type 0} (P : X → Bool) (xs : List X) (x : X) → P x ≡ true → Contains xs x → position_or_len P xs < length xs
first_place_less P [] x p (k, l, e) = absurd (omega arith)
first_place_less P (y ∷ ys) x p (zero, l, e) = by (P y) (ap P e ∙ p)
  where
    by : (b : Bool) → b ≡ true → cond (not b) (1 + position_or_len P ys) 0 < suc (length ys)
    by true h = omega arith
    by false h = absurd (cc)
first_place_less P (y ∷ ys) x p (suc k, l, e) = by (P y) (first_place_less P ys x p (k, omega arith, e))
  where
    by : (b : Bool) → position_or_len P ys < length ys → cond (not b) (1 + position_or_len P ys) 0 < suc (length ys)
    by true h = omega arith
    by false h = omega arith

-- a class is among the numbers up to that of the last one
pub number_there : (k n : ℕ) (c : ClassId) → k ≤ c.0 → c.0 < k + n → Contains (numbers_from k n) c
number_there k zero c low high = absurd (omega arith)
number_there k (suc n) c low high = elim (cases_eq c.0 k) [
  | inl e ↦ let same : class_number k ≡ c = (λ i. record { 0 = sym e i }) in (0, omega arith, same)
  | inr other ↦ later_there (class_number k) (numbers_from (k + 1) n) c (number_there (k + 1) n c (omega arith) (omega arith))
]

-- lines have a label
abbrev pub Has : List Line → Name → Type 0
Has lines name = Contains (labels_of lines) name

-- labels of lines joined
pub has_left : (xs ys : List Line) (n : Name) → Has xs n → Has (xs ++ ys) n
has_left xs ys n h =
    subst (λ ns. Contains ns n) (sym (flat_map-append (λ line. line.labels) xs ys)) (Contains-append_left (labels_of xs) (labels_of ys) n h)

pub has_right : (xs ys : List Line) (n : Name) → Has ys n → Has (xs ++ ys) n
has_right xs ys n h =
    subst (λ ns. Contains ns n) (sym (flat_map-append (λ line. line.labels) xs ys))
    (Contains-append_right (labels_of xs) (labels_of ys) n h)

-- the label of a first line, and the labels after a line
pub has_label : (n : Name) (rest : List Line) → Has (label n ∷ rest) n
has_label n rest = first_there n (labels_of rest)

pub has_later : (line : Line) (rest : List Line) (n : Name) → Has rest n → Has (line ∷ rest) n
has_later line rest n h = Contains-append_right line.labels (labels_of rest) n h

-- the labels of the lines that are made for an element of a list
pub has_among : {X : Type 0} (f : X → List Line) (xs : List X) (x : X) (n : Name) → Contains xs x → Has (f x) n → Has (flat_map f xs) n
has_among f [] x n (k, l, e) h = absurd (omega arith)
has_among f (y ∷ ys) x n (zero, l, e) h = has_left (f y) (flat_map f ys) n (subst (λ z. Has (f z) n) (sym e) h)
has_among f (y ∷ ys) x n (suc k, l, e) h = has_right (f y) (flat_map f ys) n (has_among f ys x n (k, omega arith, e) h)
