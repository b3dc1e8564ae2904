-- The dispatch-table slot that a `Layout` stores for a method name is the one that the specification defines (`slot` of `Members.antt`), and no class has more
-- methods than the compiler's limit.
use Rattle.std.proofs.Common.{◌≡◌, ◌≢◌, ◌<◌, ◌≤◌, ℕ, List, [], ◌∷◌, ◌++◌, length, get_or, Some, is_some, Bool, true, false, ◌||◌, refl, sym, ap, ◌∙◌, subst, arith, true≢false, append_assoc}
use Rattle.std.specs.Prelude.{bytes_eq, if◌then◌else◌}
use Rattle.std.specs.List.{AllByRecursion}
use Rattle.std.proofs.lemmas.List.{get_or_read}
use Rattle.std.proofs.lemmas.List.Folds.{list_any-append}
use Rattle.cool_classes.specs.declared.class_id.ClassId.{ClassId}
use Rattle.cool_classes.specs.Chains.{Class, IsChain, Below}
use Rattle.cool_classes.specs.Features.{implementation}
use Rattle.cool_classes.specs.Limits.{IsImplemented}
use Rattle.cool_classes.specs.ClimbedChains.{chain}
use Rattle.cool_layout.specs.declared.layout.Layout.{Layout}
use Rattle.cool_layout.specs.Layouts.{IsLayoutOf}
use Rattle.cool_layout.specs.Preorder.{tag}
use Rattle.cool_layout.specs.Members.{own_names, with_new, slots_of, slots, slot}
use Rattle.cool_layout.specs.SlotTables.{class_of}
use Rattle.cool_layout.proofs.ShortChains.{chain_is, chain_only}
use Rattle.cool_layout.proofs.TagRanges.{at_tag}
use Rattle.cool_layout.proofs.SlotNames.{has, place, position_is, position_some, place_here, slots_any, same_slot}
use Rattle.lists.specs.Different.{AreDifferent}
use Rattle.lists.proofs.EqualBytes.{bytes_eq-same}

pub others : (x y : List ℕ) (xs : List (List ℕ)) → AllByRecursion (λ o. o ≢ x) xs → y ≢ x → AllByRecursion (λ o. o ≢ x) (xs ++ y ∷ [])
others x y [] all new = (new, tt)
others x y (z ∷ xs) all new = (all.0, others x y xs all.1 new)

pub different_more : (xs : List (List ℕ)) (y : List ℕ) → AreDifferent xs → has y xs ≡ false → AreDifferent (xs ++ y ∷ [])
different_more [] y d new = (tt, tt)
different_more (x ∷ xs) y d new = by (bytes_eq y x) refl new (λ t. different_more xs y d.1 t)
  where
    by : (b : Bool) → bytes_eq y x ≡ b → (b || has y xs) ≡ false → (has y xs ≡ false → AreDifferent (xs ++ y ∷ [])) → AreDifferent (x ∷ (xs ++ y ∷ []))
    by true e t more = absurd (true≢false t)
    by false e t more = (others x y xs d.0 (λ same. true≢false (sym (bytes_eq-same y) ∙ ap (bytes_eq y) same ∙ e)), more t)

pub different_with_new : (xs ys : List (List ℕ)) → AreDifferent xs → AreDifferent (with_new xs ys)
different_with_new xs [] d = d
different_with_new xs (y ∷ ys) d = by (has y xs) refl (λ l o. different_with_new l ys o)
  where
    by : (b : Bool) → has y xs ≡ b → ((l : List (List ℕ)) → AreDifferent l → AreDifferent (with_new l ys)) → AreDifferent (with_new (if b then xs else xs ++ y ∷ []) ys)
    by true e more = more xs d
    by false e more = more (xs ++ y ∷ []) (different_more xs y d e)

pub different : (p : List Class) (ds : List ClassId) → AreDifferent (slots_of p ds)
different p [] = tt
different p (d ∷ ds) = different_with_new (slots_of p ds) (own_names p d) (different p ds)

pub all_there : (ys xs : List (List ℕ)) → AllByRecursion (λ f. has f (ys ++ xs) ≡ true) xs
all_there ys [] = tt
all_there ys (x ∷ xs) = (
  list_any-append (bytes_eq x) ys (x ∷ xs) ∙ ap (λ b. has x ys || (b || has x xs)) (bytes_eq-same x) ∙ or_true (has x ys),
  subst (λ (l : List (List ℕ)). AllByRecursion (λ f. has f l ≡ true) xs) (append_assoc ys (x ∷ []) xs) (all_there (ys ++ x ∷ []) xs),
)
  where
    or_true : (b : Bool) → (b || true) ≡ true
    or_true true = refl
    or_true false = refl

pub weaker : (P Q : List ℕ → Type 0) → ((f : List ℕ) → P f → Q f) → (xs : List (List ℕ)) → AllByRecursion P xs → AllByRecursion Q xs
weaker P Q h [] all = tt
weaker P Q h (x ∷ xs) all = (h x all.0, weaker P Q h xs all.1)

pub implemented : (p : List Class) (ds : List ClassId) → AllByRecursion (IsImplemented p ds) (slots_of p ds)
implemented p ds = weaker (λ f. has f (slots_of p ds) ≡ true) (IsImplemented p ds) (λ f h e. true≢false (sym h ∙ slots_any p ds f ∙ ap is_some e)) (slots_of p ds) (all_there [] (slots_of p ds))

module _ (l : Layout) (p : List Class) (is : IsLayoutOf l p) (c : ClassId) (within : c.0 < length p) where
  pub few_slots : length (slots p c) ≤ 2000
  few_slots = is.limits.methods c (chain p c) (slots p c) within (chain_is p is.rooted c within) (different p (chain p c)) (implemented p (chain p c))

  pub slot_low : (f : List ℕ) (k : ℕ) → slot p c f ≡ Some k → k < 2000
  slot_low f k e =
      let there : has f (slots p c) ≡ true = sym (position_is f (slots p c)) ∙ ap is_some e in
      let is_place : place f (slots p c) ≡ k = some_is (place f (slots p c)) k (sym (position_some f (slots p c) there) ∙ e) in
      let low : place f (slots p c) < length (slots p c) = (place_here f (slots p c) [] there).1 in
      let few = few_slots in
      omega arith
    where
      some_is : (a b : ℕ) → Some a ≡ Some b → a ≡ b
      some_is a b e = cc

  module _ (n : ℕ) (read : n ≡ get_or l.tags.items c.0 n) where
    tag_read : n ≡ tag p c
    tag_read = get_or_read l.tags.items c.0 n (let s = is.tags.same in omega arith) read 0 ∙ is.tags.tag_is c within

    pub table_kept : n < length l.tables.items
    table_kept =
        let low : tag p c < length p = (at_tag p is.rooted c within).0 in
        let t : n ≡ tag p c = tag_read in
        let s = is.tables.same in
        omega arith

    pub class_kept : class_of p n ≡ c
    class_kept = ap (class_of p) tag_read ∙ (at_tag p is.rooted c within).1

  pub implemented_same : (f : List ℕ) (ds : List ClassId) → IsChain p (Some c) ds → is_some (slot p c f) ≡ is_some (implementation p ds f)
  implemented_same f ds h = position_is f (slots p c) ∙ slots_any p (chain p c) f ∙ ap (λ (es : List ClassId). is_some (implementation p es f)) (sym (chain_only p is.rooted c within ds h))

  pub slot_below : (f : List ℕ) (d : ClassId) → d.0 < length p → Below p d c → (k : ℕ) → slot p c f ≡ Some k → slot p d f ≡ Some k
  slot_below f d d_in (ds, h, there) k e = same_slot p is.rooted f k d d_in ds h c there e
