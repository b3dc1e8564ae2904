-- The attributes of a class are stored in consecutive words of the object `self`. Together with the formal parameters, each name of a method's body then has an
-- address that holds its value.
use Rattle.std.proofs.Common.{◌≡◌, ◌≢◌, ℕ, suc, ◌+◌, ◌-◌, ◌*◌, ◌<◌, ◌≤◌, inr, List, [], ◌∷◌, ◌++◌, map as each, length, get_or, Bool as Truth, true, false, cond, not, refl, sym, ap, ◌∙◌, subst, arith, append_assoc}
use Rattle.std.specs.Prelude.{slice_get}
use Rattle.std.specs.List.{AllByRecursion, position_or_len}
use Rattle.cool_syntax.specs.declared.file_tree.Formal.{Formal}
use Rattle.cool_classes.specs.declared.class_id.ClassId.{ClassId}
use Rattle.cool_classes.specs.declared.method.AttributeRef.{AttributeRef}
use Rattle.cool_classes.specs.Chains.{Class, nothing}
use Rattle.cool_classes.specs.Features.{attribute_name, name_in}
use Rattle.cool_rules.specs.Typing.{formals_in_scope, attributes_in_scope}
use Rattle.cool_layout.specs.Members.{attributes, is_attribute}
use Rattle.cool_codegen.specs.Features.{with_formals, attributes_in}
use Rattle.cool_meaning.specs.Lookups.{located, attribute_names, formal_names}
use Rattle.cool_runtime.specs.Machines.{Pointers}
use Rattle.cool_simulation.specs.Pictures.{Map}
use Rattle.cool_simulation.specs.Simulation.{Variables}
use Rattle.cool_simulation.proofs.calls.Formals.{AllMatched, typed_by, homes_by, matched_both, formals_match, formals_named, attributes_named, found_in_order}
use Rattle.lists.specs.Different.{AreDifferent}
use Rattle.cool_layout.proofs.AttributePlaces.{same_attribute}
use Rattle.cool_simulation.proofs.forms.Invoking.{each_length}

-- If names differ, an attribute's position is the number of attributes before it

one_name : (p : List Class) (a x : AttributeRef) → is_attribute a x ≡ true → attribute_name p x ≡ attribute_name p a
one_name p a x e =
    let owners : x.owner.0 ≡ a.owner.0 = grind arith in
    let places : x.index ≡ a.index = grind arith in
    ap (λ (n : ℕ). name_in (slice_get (get_or p n nothing).features x.index)) owners ∙ ap (λ (i : ℕ). name_in (slice_get (get_or p a.owner.0 nothing).features i)) places

in_middle : (p : List Class) (Q : List ℕ → Type 0) (front rest : List AttributeRef) (a : AttributeRef) → AllByRecursion Q (each (attribute_name p) (front ++ a ∷ rest)) → Q (attribute_name p a)
in_middle p Q [] rest a h = h.0
in_middle p Q (x ∷ front) rest a h = in_middle p Q front rest a h.1

pub place_is : (p : List Class) (front rest : List AttributeRef) (a : AttributeRef) → AreDifferent (each (attribute_name p) (front ++ a ∷ rest)) → position_or_len (is_attribute a) (front ++ a ∷ rest) ≡ length front
place_is p [] rest a h = by (is_attribute a a) (same_attribute a)
  where
    by : (b : Truth) → b ≡ true → cond (not b) (1 + position_or_len (is_attribute a) rest) 0 ≡ 0
    by true e = refl
    by false e = absurd (cc)
place_is p (x ∷ front) rest a h = by (is_attribute a x) refl (place_is p front rest a h.1)
  where
    by : (b : Truth) → is_attribute a x ≡ b → position_or_len (is_attribute a) (front ++ a ∷ rest) ≡ length front → cond (not b) (1 + position_or_len (is_attribute a) (front ++ a ∷ rest)) 0 ≡ suc (length front)
    by true e more = absurd (in_middle p (λ (n : List ℕ). n ≢ attribute_name p x) front rest a h.0 (sym (one_name p a x e)))
    by false e more = omega arith

-- attributes from the place number k on
attributes_match : (p : List Class) (c : ClassId) (map : Map) (q : Pointers) (front rs more : List AttributeRef) (ls : List ℕ) → attributes p c ≡ front ++ rs → AreDifferent (each (attribute_name p) (attributes p c))
    → length (attributes p c) ≤ 2000 → length rs ≤ length ls → 0 < q.self → ((j : ℕ) → j < length rs → map.home (get_or ls j 0) ≡ q.self + 12 + 4 * (length front + j))
    → AllMatched map q (attributes_in_scope p rs) (attributes_named p c rs) (located (attribute_names p (rs ++ more)) ls)
attributes_match p c map q front [] more ls is differ few long self homes = tt
attributes_match p c map q front (r ∷ rs) more [] is differ few long self homes = absurd (omega arith)
attributes_match p c map q front (r ∷ rs) more (l ∷ ls) is differ few long self homes =
    let first : map.home l ≡ q.self + 12 + 4 * (length front + 0) = homes 0 (omega arith) in
    let place : position_or_len (is_attribute r) (attributes p c) ≡ length front =
    ap (λ (xs : List AttributeRef). position_or_len (is_attribute r) xs) is ∙ place_is p front rs r (subst (λ (xs : List AttributeRef). AreDifferent (each (attribute_name p) xs)) is differ) in
    let short : length front < length (attributes p c) = subst (λ (xs : List AttributeRef). length front < length xs) (sym is) (longer front rs r) in (
      refl,
      refl,
      refl,
      omega arith,
      inr (refl, (omega arith, omega arith)),
      attributes_match p c map q (front ++ r ∷ []) rs more ls (is ∙ sym (append_assoc front (r ∷ []) rs)) differ few (omega arith) self (λ j less. homes (suc j) (omega arith) ∙ one_more front r j),
    )
  where
    longer : (xs ys : List AttributeRef) (y : AttributeRef) → length xs < length (xs ++ y ∷ ys)
    longer [] ys y = omega arith
    longer (x ∷ xs) ys y = let h = longer xs ys y in omega arith

    one : (xs : List AttributeRef) (y : AttributeRef) → length (xs ++ y ∷ []) ≡ length xs + 1
    one [] y = omega arith
    one (x ∷ xs) y = let h = one xs y in omega arith

    one_more : (xs : List AttributeRef) (y : AttributeRef) (j : ℕ) → q.self + 12 + 4 * (length xs + suc j) ≡ q.self + 12 + 4 * (length (xs ++ y ∷ []) + j)
    one_more xs y j = let h = one xs y in omega arith

located_long : (xs : List (List ℕ)) (ls : List ℕ) → length xs ≡ length ls → length (located xs ls) ≡ length xs
located_long [] ls e = refl
located_long (x ∷ xs) [] e = absurd (omega arith)
located_long (x ∷ xs) (l ∷ ls) e = ap suc (located_long xs ls (omega arith))

-- all names of a body
pub variables_in : (p : List Class) (c : ClassId) (map : Map) (q : Pointers) (fs : List Formal) (more : List AttributeRef) (ls own : List ℕ)
    → AreDifferent (each (λ (f : Formal). f.name) fs) → AreDifferent (each (attribute_name p) (attributes p c)) → length ls ≡ length fs → length fs ≤ 8000 → length (attributes p c) ≤ 2000 → length (attributes p c) ≤ length own
    → 0 < q.fp → 0 < q.self → ((j : ℕ) → j < length ls → map.home (get_or ls j 0) ≡ q.fp + 12 + 4 * (length ls - (j + 1))) → ((j : ℕ) → j < length (attributes p c) → map.home (get_or own j 0) ≡ q.self + 12 + 4 * j)
    → Variables map q (formals_in_scope p fs ++ attributes_in_scope p (attributes p c)) (with_formals p fs (attributes_in p c)) (located (formal_names fs) ls ++ located (attribute_names p (attributes p c ++ more)) own)
variables_in p c map q fs more ls own differ differ' long few few' room frame self homes homes' =
    let first = formals_match p map q fs ls long few frame homes in
    let rest = attributes_match p c map q [] (attributes p c) more own refl differ' few' room self (λ j less. homes' j less ∙ omega arith) in
    let lengths : length (formals_in_scope p fs) ≡ length (located (formal_names fs) ls) =
    each_length _ fs ∙ sym (located_long (formal_names fs) ls (each_length _ fs ∙ sym long) ∙ each_length _ fs) in
    let all = matched_both map q (formals_in_scope p fs) (attributes_in_scope p (attributes p c)) (formals_named p fs) (attributes_named p c (attributes p c)) (located (formal_names fs) ls)
    (located (attribute_names p (attributes p c ++ more)) own) first lengths rest in
    record {
      typed = λ name t is.
          let (v, found, same) = typed_by map q _ _ _ all name t is in
          (v, found_in_order p c fs (attributes p c) name differ differ' ∙ found, same);
      homes = λ name v is. homes_by map q _ _ _ all name v (sym (found_in_order p c fs (attributes p c) name differ differ') ∙ is);
    }
