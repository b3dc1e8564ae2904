-- `find_slot` finds the slot of a method name in the dispatch table of the class itself, or in that of the nearest ancestor which has the name.
use Rattle.std.proofs.Common.{◌≡◌, ℕ, suc, ◌+◌, ◌<◌, List, [], ◌∷◌, ◌++◌, length, get_or, map, flat_map, Option, Some, None, is_some, Bool, true, false, refl, sym, ap, ◌∙◌, subst, arith, length-append}
use Rattle.std.specs.Prelude.{bytes_eq, nat_lt, if◌then◌else◌, IfSome}
use Rattle.std.specs.Map.{lookup}
use Rattle.std.proofs.lemmas.List.{length-map, take_more, length-take-le}
use Rattle.std.specs.Prelude.{take}
use Rattle.cool_syntax.specs.declared.file_tree.MethodDef.{MethodDef}
use Rattle.cool_syntax.specs.declared.file_tree.Feature.{Feature}
use Rattle.cool_syntax.specs.declared.file_tree.Feature.TheVariants.{Method, Attribute}
use Rattle.cool_classes.specs.declared.class_id.ClassId.{ClassId}
use Rattle.cool_classes.specs.declared.method.MethodRef.{MethodRef}
use Rattle.cool_classes.specs.declared.method.MethodRef.TheVariants.{User}
use Rattle.cool_classes.specs.Chains.{Class, features_of}
use Rattle.cool_classes.specs.Features.{NamedMethod, basic_methods}
use Rattle.cool_layout.specs.declared.slots.Table.{Table}
use Rattle.cool_layout.specs.Members.{method_name, own_names, with_new, slots, slot}
use Rattle.cool_layout.specs.Roots.{IsRooted}
use Rattle.cool_layout.specs.SlotTables.{OwnMethod, names_of, basic_own, user_own, own_methods, slots_shown, IsTableFor, IsTableAt, AreTables, class_of, slots_in, IsAbove, AreLow}
use Rattle.cool_layout.proofs.TagRanges.{tag_at}
use Rattle.cool_layout.proofs.SlotNames.{has, place, position_in, position_old, position_is, position_some, place_here, with_new_front, slots_step, slots_top}

-- the names of a class's own methods

basic_named : (ms : List NamedMethod) → names_of (basic_own ms) ≡ map (λ m. m.name) ms
basic_named [] = refl
basic_named (m ∷ ms) = ap (λ (xs : List (List ℕ)). m.name ∷ xs) (basic_named ms)

user_named : (c : ClassId) (k : ℕ) (fs : List Feature) → names_of (user_own c k fs) ≡ flat_map method_name fs
user_named c k [] = refl
user_named c k (Method m ∷ fs) = ap (λ (xs : List (List ℕ)). m.name ∷ xs) (user_named c (k + 1) fs)
user_named c k (Attribute a ∷ fs) = user_named c (k + 1) fs

pub own_named : (p : List Class) (c : ClassId) → names_of (own_methods p c) ≡ own_names p c
own_named p c = by (nat_lt c.0 5)
  where
    by : (b : Bool) → names_of (if b then basic_own (basic_methods c.0) else user_own c 0 (features_of p c)) ≡ (if b then map (λ m. m.name) (basic_methods c.0) else flat_map method_name (features_of p c))
    by true = basic_named (basic_methods c.0)
    by false = user_named c 0 (features_of p c)

-- the slots of a class are those of its table
pub slots_are : (p : List Class) → IsRooted p → (k : ℕ) → k < length p → (o : Option ℕ) → IsAbove p k o → with_new (slots_in p o) (names_of (own_methods p (class_of p k))) ≡ slots p (class_of p k)
slots_are p r k low None top = ap (with_new []) (own_named p (class_of p k)) ∙ sym (slots_top p r (class_of p k) (tag_at p r k low).1 top)
slots_are p r k low (Some j) up = ap (with_new (slots p (class_of p j))) (own_named p (class_of p k)) ∙ sym (slots_step p r (class_of p k) (class_of p j) (tag_at p r k low).1 up.1)

module _ (p : List Class) (r : IsRooted p) (n : ℕ) (all : List Table) (are : AreTables p n all) (k : ℕ) (low : k < n) (t : Table) (read : t ≡ get_or all k t) where
  table_here : IsTableAt p k t
  table_here = subst (IsTableAt p k) (sym read) (are.tables k t low)

  in_table : k < length p
  in_table = let l = are.low in omega arith

  pub found_here : (f : List ℕ) (s : ℕ) → lookup (bytes_eq f) (slots_shown t.own.entries) ≡ Some s → slot p (class_of p k) f ≡ Some s
  found_here f s e = ap (position_in f) (sym (slots_are p r k in_table t.above table_here.above)) ∙ table_here.table.found f s e

  pub found_above : (f : List ℕ) (j : ℕ) → lookup (bytes_eq f) (slots_shown t.own.entries) ≡ None → t.above ≡ Some j → slot p (class_of p k) f ≡ slot p (class_of p j) f
  found_above f j none e =
      ap (position_in f) (sym (slots_are p r k in_table t.above table_here.above)) ∙ position_old f (slots_in p t.above) (names_of (own_methods p (class_of p k))) (table_here.table.missing f none)
      ∙ ap (λ o. position_in f (slots_in p o)) e

  pub found_nowhere : (f : List ℕ) → lookup (bytes_eq f) (slots_shown t.own.entries) ≡ None → t.above ≡ None → slot p (class_of p k) f ≡ None
  found_nowhere f none e =
      ap (position_in f) (sym (slots_are p r k in_table t.above table_here.above)) ∙ position_old f (slots_in p t.above) (names_of (own_methods p (class_of p k))) (table_here.table.missing f none)
      ∙ ap (λ o. position_in f (slots_in p o)) e

-- an inherited slot is one of the table
pub inherited_low : (above : List (List ℕ)) (inherited : List ℕ → Option MethodRef) (own : List OwnMethod) (t : Table) → IsTableFor above inherited own t → (f : List ℕ) (k : ℕ) → position_in f above ≡ Some k → k < length t.methods.items
inherited_low above inherited own t is f k e =
    let there : has f above ≡ true = sym (position_is f above) ∙ ap is_some e in
    let is_place : place f above ≡ k = some_is (place f above) k (sym (position_some f above there) ∙ e) in
    let front = with_new_front above (names_of own) in
    let low : place f above < length above = (place_here f above [] there).1 in
    let long : length (with_new above (names_of own)) ≡ length above + length front.0 = ap length front.1 ∙ length-append above front.0 in
    let methods : length t.methods.items ≡ length (with_new above (names_of own)) = ap length is.methods ∙ length-map (with_new above (names_of own)) _ in
    omega arith
  where
    some_is : (a b : ℕ) → Some a ≡ Some b → a ≡ b
    some_is a b e = cc

-- one feature more
pub user_more : (c : ClassId) (k : ℕ) (fs : List Feature) (f : Feature) → user_own c k (fs ++ f ∷ []) ≡ user_own c k fs ++ user_own c (k + length fs) (f ∷ [])
user_more c k [] f = let e : k ≡ k + 0 = omega arith in ap (λ n. user_own c n (f ∷ [])) e
user_more c k (Method m ∷ fs) f =
    let e : k + 1 + length fs ≡ k + suc (length fs) = omega arith in
    ap (λ (xs : List OwnMethod). record { name = m.name; method = User c k } ∷ xs) (user_more c (k + 1) fs f ∙ ap (λ n. user_own c (k + 1) fs ++ user_own c n (f ∷ [])) e)
user_more c k (Attribute a ∷ fs) f =
    let e : k + 1 + length fs ≡ k + suc (length fs) = omega arith in
    user_more c (k + 1) fs f ∙ ap (λ n. user_own c (k + 1) fs ++ user_own c n (f ∷ [])) e

-- each table stands after the one above it
pub are_low : (p : List Class) (n : ℕ) (all : List Table) → AreTables p n all → AreLow all
are_low p n all are k d low = by (get_or all k d).above (let s = are.same in (are.tables k d (omega arith)).above)
  where
    by : (o : Option ℕ) → IsAbove p k o → IfSome o (λ j. j < k)
    by None h = tt
    by (Some j) h = h.0

pub inherited_in : (above : List (List ℕ)) (inherited : List ℕ → Option MethodRef) (own : List OwnMethod) (t : Table) → IsTableFor above inherited own t → (f : List ℕ) (o : Option ℕ) → o ≡ position_in f above → IfSome o (λ k. k < length t.methods.items)
inherited_in above inherited own t is f None e = tt
inherited_in above inherited own t is f (Some k) e = inherited_low above inherited own t is f k (sym e)

-- the methods among one feature more
pub method_more : (c : ClassId) (fs : List Feature) (i : ℕ) (f : Feature) (m : MethodDef) → i < length fs → f ≡ get_or fs i f → f ≡ Method m → user_own c 0 (take (i + 1) fs) ≡ user_own c 0 (take i fs) ++ record { name = m.name; method = User c i } ∷ []
method_more c fs i f m low read is =
    let long : 0 + length (take i fs) ≡ i = (let l = length-take-le i fs (omega arith) in omega arith) in
    ap (user_own c 0) (take_more fs i f low ∙ ap (λ (x : Feature). take i fs ++ x ∷ []) (sym read ∙ is)) ∙ user_more c 0 (take i fs) (Method m)
    ∙ ap (λ n. user_own c 0 (take i fs) ++ record { name = m.name; method = User c n } ∷ []) long

pub other_more : (c : ClassId) (fs : List Feature) (i : ℕ) (f : Feature) → i < length fs → f ≡ get_or fs i f → ((m : MethodDef) → f ≡ Method m → ⊥) → user_own c 0 (take (i + 1) fs) ≡ user_own c 0 (take i fs)
other_more c fs i f low read not = ap (user_own c 0) (take_more fs i f low ∙ ap (λ (x : Feature). take i fs ++ x ∷ []) (sym read)) ∙ user_more c 0 (take i fs) f ∙ none f not
  where
    nil : (xs : List OwnMethod) → xs ++ [] ≡ xs
    nil [] = refl
    nil (x ∷ xs) = ap (λ (ys : List OwnMethod). x ∷ ys) (nil xs)

    none : (f : Feature) → ((m : MethodDef) → f ≡ Method m → ⊥) → user_own c 0 (take i fs) ++ user_own c (0 + length (take i fs)) (f ∷ []) ≡ user_own c 0 (take i fs)
    none (Method m) not = absurd (not m refl)
    none (Attribute a) not = nil (user_own c 0 (take i fs))
