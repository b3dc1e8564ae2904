-- The map of names that `add_name` extends gives the first index of each name, and still does after the next name is added.
use Rattle.std.proofs.Common.{◌≡◌, ℕ, suc, ◌+◌, List, [], ◌∷◌, ◌++◌, map, length, Option, Some, None, is_some, Bool, true, false, cond, ap, sym, ◌∙◌, refl, arith, true≢false}
use Rattle.std.specs.Prelude.{bytes_eq, option_map}
use Rattle.std.specs.Map.{lookup}
use Rattle.std.specs.HashMap.{get}
use Rattle.std.specs.Global.{Vec}
use Rattle.std.proofs.lemmas.List.{map-append}
use Rattle.std.proofs.lemmas.Slice.Eq.{bytes_eq-Decides}
use denote.Ref.{Bor}
use Rattle.indexmap.specs.IndexMap.{IndexMap, insert_entry}
use Rattle.indexmap.proofs.CallerLemmas.{insert_entry-new}
use Rattle.cool_classes.specs.Chains.{class_number}
use Rattle.cool_classes.specs.FirstNames.{first_index, shown_names, FindsFirst}
use Rattle.cool_classes.specs.Names.{first_named}
use Rattle.lists.proofs.EqualBytes.{same_key}

-- the first of two answers
pub or_else : Option ℕ → Option ℕ → Option ℕ
or_else None o = o
or_else (Some c) o = Some c

-- a look-up among keys finds what it finds among the names
pub shown_lookup : (f : List ℕ) (entries : List (Vec ℕ × ℕ)) → lookup (λ key. bytes_eq f key.items) entries ≡ lookup (bytes_eq f) (shown_names entries)
shown_lookup f [] = refl
shown_lookup f (entry ∷ rest) = ap (λ (o : Option ℕ). cond (bytes_eq f entry.0.items) (Some entry.1) o) (shown_lookup f rest)

-- a new name comes after the others
pub shown_after : {S : Type 0} (m : IndexMap (Vec ℕ) ℕ S) (key : Vec ℕ) (index : ℕ)
    → get same_key m key ≡ None → shown_names (insert_entry same_key m.entries key index) ≡ shown_names m.entries ++ (key.items, index) ∷ []
shown_after m key index none =
    ap shown_names (insert_entry-new same_key m key index none) ∙ map-append (λ (entry : Vec ℕ × ℕ). (entry.0.items, entry.1)) m.entries ((key, index) ∷ [])

-- the first index of a name in a row with one more name
pub first_more : (k : ℕ) (row : List (Option (List ℕ))) (name f : List ℕ)
    → first_index k (row ++ Some name ∷ []) f ≡ or_else (first_index k row f) (cond (bytes_eq f name) (Some (k + length row)) None)
unfolding or_else
first_more k [] name f = let e : k ≡ k + 0 = omega arith in ap (λ (n : ℕ). cond (bytes_eq f name) (Some n) None) e
first_more k (None ∷ row) name f =
    let e : k + 1 + length row ≡ k + suc (length row) = omega arith in
    first_more (k + 1) row name f ∙ ap (λ (n : ℕ). or_else (first_index (k + 1) row f) (cond (bytes_eq f name) (Some n) None)) e
first_more k (Some x ∷ row) name f = by (bytes_eq f x) (first_more (k + 1) row name f)
  where
    by : (b : Bool) → first_index (k + 1) (row ++ Some name ∷ []) f ≡ or_else (first_index (k + 1) row f) (cond (bytes_eq f name) (Some (k + 1 + length row)) None)
        → cond b (Some k) (first_index (k + 1) (row ++ Some name ∷ []) f)
        ≡ or_else (cond b (Some k) (first_index (k + 1) row f)) (cond (bytes_eq f name) (Some (k + length (Some x ∷ row))) None)
    by true h = refl
    by false h =
        let e : k + 1 + length row ≡ k + length (Some x ∷ row) = omega arith in
        h ∙ ap (λ (n : ℕ). or_else (first_index (k + 1) row f) (cond (bytes_eq f name) (Some n) None)) e

-- an index with no name changes no first index
pub first_none : (k : ℕ) (row : List (Option (List ℕ))) (f : List ℕ) → first_index k (row ++ None ∷ []) f ≡ first_index k row f
first_none k [] f = refl
first_none k (None ∷ row) f = first_none (k + 1) row f
first_none k (Some x ∷ row) f = ap (cond (bytes_eq f x) (Some k)) (first_none (k + 1) row f)

-- a map finds as much after an index with no name
pub finds_none : (entries : List (List ℕ × ℕ)) (row : List (Option (List ℕ))) → FindsFirst entries row → FindsFirst entries (row ++ None ∷ [])
finds_none entries row finds f = finds f ∙ sym (first_none 0 row f)

lookup_more : (f : List ℕ) (entries : List (List ℕ × ℕ)) (name : List ℕ) (index : ℕ)
    → lookup (bytes_eq f) (entries ++ (name, index) ∷ []) ≡ or_else (lookup (bytes_eq f) entries) (cond (bytes_eq f name) (Some index) None)
unfolding or_else
lookup_more f [] name index = refl
lookup_more f (entry ∷ rest) name index = by (bytes_eq f entry.0) (lookup_more f rest name index)
  where
    by : (b : Bool) → lookup (bytes_eq f) (rest ++ (name, index) ∷ []) ≡ or_else (lookup (bytes_eq f) rest) (cond (bytes_eq f name) (Some index) None)
        → cond b (Some entry.1) (lookup (bytes_eq f) (rest ++ (name, index) ∷ [])) ≡ or_else (cond b (Some entry.1) (lookup (bytes_eq f) rest)) (cond (bytes_eq f name) (Some index) None)
    by true h = refl
    by false h = h

-- a name that stands at no earlier index
pub finds_new : (entries : List (List ℕ × ℕ)) (row : List (Option (List ℕ))) (name : List ℕ) (index : ℕ) → index ≡ length row → FindsFirst entries row
    → FindsFirst (entries ++ (name, index) ∷ []) (row ++ Some name ∷ [])
finds_new entries row name index number finds f =
    lookup_more f entries name index
    ∙ ap (λ (o : Option ℕ). or_else o (cond (bytes_eq f name) (Some index) None)) (finds f)
    ∙ ap (λ (n : ℕ). or_else (first_index 0 row f) (cond (bytes_eq f name) (Some n) None)) (number ∙ zero_plus (length row))
    ∙ sym (first_more 0 row name f)
  where
    zero_plus : (n : ℕ) → n ≡ 0 + n
    zero_plus n = omega arith

kept : (o : Option ℕ) (b : Bool) (c : ℕ) → (b ≡ true → is_some o ≡ true) → o ≡ or_else o (cond b (Some c) None)
unfolding or_else
kept (Some x) b c h = refl
kept None false c h = refl
kept None true c h = absurd (true≢false (sym (h refl)))

-- a name that stands at an earlier index
pub finds_old : (entries : List (List ℕ × ℕ)) (row : List (Option (List ℕ))) (name : List ℕ) → is_some (lookup (bytes_eq name) entries) ≡ true → FindsFirst entries row
    → FindsFirst entries (row ++ Some name ∷ [])
finds_old entries row name there finds f =
    finds f
    ∙ kept (first_index 0 row f) (bytes_eq f name) (0 + length row) (λ e.
    let same : f ≡ name = (bytes_eq-Decides f name).0 e in
    ap is_some (sym (finds f) ∙ ap (λ (g : List ℕ). lookup (bytes_eq g) entries) same) ∙ there)
    ∙ sym (first_more 0 row name f)

-- the class of a name is that at the first index of the name
pub class_at_index : (k : ℕ) (names : List (List ℕ)) (f : List ℕ) → option_map class_number (first_index k (map Some names) f) ≡ first_named k names f
class_at_index k [] f = refl
class_at_index k (name ∷ names) f = by (bytes_eq f name) (class_at_index (k + 1) names f)
  where
    by : (b : Bool) → option_map class_number (first_index (k + 1) (map Some names) f) ≡ first_named (k + 1) names f
        → option_map class_number (cond b (Some k) (first_index (k + 1) (map Some names) f)) ≡ cond b (Some (class_number k)) (first_named (k + 1) names f)
    by true h = refl
    by false h = h
