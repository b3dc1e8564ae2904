-- Lemmas on the methods and attributes that a class has or inherits in a class table without type errors: which class declares them, and with which types.
use Rattle.std.proofs.Common.{◌≡◌, ℕ, zero, suc, ◌+◌, ◌≤◌, List, [], ◌∷◌, ◌++◌, map, Option, Some, None, Bool, true, false, cond, ap, sym, ◌∙◌, refl, subst, arith}
use Rattle.std.specs.Prelude.{Contains, bytes_eq, codes, option_map, nat_lt, slice_get}
use Rattle.std.specs.List.{AllByRecursion}
use Rattle.cool_syntax.specs.declared.file_tree.Feature.{Feature}
use Rattle.cool_syntax.specs.declared.file_tree.Feature.TheVariants.{Method, Attribute}
use Rattle.cool_syntax.specs.declared.file_tree.Formal.{Formal}
use Rattle.cool_syntax.specs.declared.file_tree.MethodDef.{MethodDef}
use Rattle.cool_syntax.specs.declared.file_tree.AttributeDef.{AttributeDef}
use Rattle.cool_classes.specs.declared.class_id.ClassId.{ClassId}
use Rattle.cool_classes.specs.declared.method.MethodRef.{MethodRef}
use Rattle.cool_classes.specs.declared.method.MethodRef.TheVariants.{Basic, User}
use Rattle.cool_classes.specs.declared.method.AttributeRef.{AttributeRef}
use Rattle.cool_classes.specs.declared.method.BasicMethod.{BasicMethod}
use Rattle.cool_classes.specs.declared.method.BasicMethod.TheVariants.{Abort, TypeName, Copy, OutString, OutInt, InString, InInt, Length, Concat, Substr}
use Rattle.cool_classes.specs.Chains.{Class, class_number, features_of}
use Rattle.cool_classes.specs.Features.{NamedMethod, own_method, user_method, first_method, first_of, implementation, method_among, basic_methods, formals_of, HasMethod, IsMethod, IsAttribute, own_attributes, attributes_of, formals_in}
use Rattle.cool_classes.specs.Tables.{IsTyped, IsClassName}
use Rattle.cool_rules.specs.TypedTables.{IsTypedTable}
use Rattle.cool_meaning.proofs.BasicClasses.{by_number, basic_within, basic_name}
use Rattle.cool_meaning.proofs.SoundMethods.{IsOfString}
use Rattle.std.proofs.lemmas.List.Elements.{Contains-append_right}
use Rattle.lists.proofs.AllItems.{all_get, all_append, all_then}

-- a method of a name that a chain has is a class's own
pub implementation_own : (p : List Class) (ds : List ClassId) (f : List ℕ) (m : MethodRef) → implementation p ds f ≡ Some m → (d : ClassId) × Contains ds d × (own_method p d f ≡ Some m)
implementation_own p [] f m e = absurd (cc)
implementation_own p (d ∷ ds) f m e = by (own_method p d f) refl e (implementation_own p ds f m)
  where
    by : (o : Option MethodRef) → own_method p d f ≡ o → first_of o (implementation p ds f) ≡ Some m → (implementation p ds f ≡ Some m → (d : ClassId) × Contains ds d × (own_method p d f ≡ Some m))
        → (x : ClassId) × Contains (d ∷ ds) x × (own_method p x f ≡ Some m)
    by None own e more = let (x, there, is) = more e in (x, Contains-append_right (d ∷ []) ds x there, is)
    by (Some n) own e more = (d, (0, omega arith, refl), own ∙ e)

-- a method of String is String's own
abbrev IsOfOthers : NamedMethod → Type 0
IsOfOthers m = IsOfString m.method → ⊥

among_others : (ms : List NamedMethod) (f : List ℕ) (m : BasicMethod) → AllByRecursion IsOfOthers ms → method_among ms f ≡ Some m → IsOfString m → ⊥
among_others [] f m h e s = absurd (cc)
among_others (n ∷ ms) f m h e s = by (bytes_eq n.name f) e (among_others ms f m h.1)
  where
    by : (b : Bool) → cond b (Some n.method) (method_among ms f) ≡ Some m → (method_among ms f ≡ Some m → IsOfString m → ⊥) → ⊥
    by true e more = let same : m ≡ n.method = cc in h.0 (subst IsOfString same s)
    by false e more = more e s

string_four : (n : ℕ) (f : List ℕ) (m : BasicMethod) → method_among (basic_methods n) f ≡ Some m → IsOfString m → n ≡ 4
string_four zero f m e s = absurd (among_others (basic_methods 0) f m (((λ x. x), ((λ x. x), ((λ x. x), tt)))) e s)
string_four (suc zero) f m e s = absurd (among_others (basic_methods 1) f m (((λ x. x), ((λ x. x), ((λ x. x), ((λ x. x), tt))))) e s)
string_four (suc (suc zero)) f m e s = absurd (cc)
string_four (suc (suc (suc zero))) f m e s = absurd (cc)
string_four (suc (suc (suc (suc zero)))) f m e s = refl
string_four (suc (suc (suc (suc (suc n))))) f m e s = absurd (cc)

pub string_own : (p : List Class) (d : ClassId) (f : List ℕ) (m : BasicMethod) → own_method p d f ≡ Some (Basic m) → IsOfString m → d ≡ class_number 4
string_own p d f m e s = by (nat_lt d.0 5) e
  where
    known : (o : Option BasicMethod) → method_among (basic_methods d.0) f ≡ o → option_map Basic o ≡ Some (Basic m) → d ≡ class_number 4
    known None is e = absurd (cc)
    known (Some n) is e = let same : n ≡ m = cc in by_number d 4 (string_four d.0 f m (is ∙ ap Some same) s)

    user : (o : Option ℕ) → user_method d o ≡ Some (Basic m) → d ≡ class_number 4
    user None e = absurd (cc)
    user (Some k) e = absurd (cc)

    by : (b : Bool) → cond b (option_map Basic (method_among (basic_methods d.0) f)) (user_method d (first_method 0 (features_of p d) f)) ≡ Some (Basic m) → d ≡ class_number 4
    by true e = known (method_among (basic_methods d.0) f) refl e
    by false e = user (first_method 0 (features_of p d) f) e

-- a method of the program is one of a class after the basic ones, its owner
pub user_own : (p : List Class) (d owner : ClassId) (k : ℕ) (f : List ℕ) → own_method p d f ≡ Some (User owner k) → (owner ≡ d) × (5 ≤ d.0)
user_own p d owner k f e = by (nat_lt d.0 5) refl e
  where
    known : (o : Option BasicMethod) → option_map Basic o ≡ Some (User owner k) → (owner ≡ d) × (5 ≤ d.0)
    known None e = absurd (cc)
    known (Some n) e = absurd (cc)

    user : 5 ≤ d.0 → (o : Option ℕ) → user_method d o ≡ Some (User owner k) → (owner ≡ d) × (5 ≤ d.0)
    user high None e = absurd (cc)
    user high (Some j) e = (cc, high)

    by : (b : Bool) → nat_lt d.0 5 ≡ b → cond b (option_map Basic (method_among (basic_methods d.0) f)) (user_method d (first_method 0 (features_of p d) f)) ≡ Some (User owner k) → (owner ≡ d) × (5 ≤ d.0)
    by true t e = known (method_among (basic_methods d.0) f) e
    by false t e = user (not_less d.0 t) (first_method 0 (features_of p d) f) e
      where
        not_less : (n : ℕ) → nat_lt n 5 ≡ false → 5 ≤ n
        not_less n t = grind arith

-- the definition of a method that is there
pub defined : (o : Option Feature) → IsMethod o → (m : MethodDef) × (o ≡ Some (Method m))
defined None h = absurd h
defined (Some (Method m)) h = (m, refl)
defined (Some (Attribute a)) h = absurd h

pub defined_attribute : (o : Option Feature) → IsAttribute o → (a : AttributeDef) × (o ≡ Some (Attribute a))
defined_attribute None h = absurd h
defined_attribute (Some (Method m)) h = absurd h
defined_attribute (Some (Attribute a)) h = (a, refl)

-- the attributes of a chain are those of its classes
own_owned : (d : ClassId) (k : ℕ) (fs : List Feature) → AllByRecursion (λ (r : AttributeRef). r.owner ≡ d) (own_attributes d k fs)
own_owned d k [] = tt
own_owned d k (Method m ∷ fs) = own_owned d (k + 1) fs
own_owned d k (Attribute a ∷ fs) = (refl, own_owned d (k + 1) fs)

pub attributes_owned : (p : List Class) (ds : List ClassId) → AllByRecursion (λ (r : AttributeRef). Contains ds r.owner) (attributes_of p ds)
attributes_owned p [] = tt
attributes_owned p (d ∷ ds) =
    all_append (λ (r : AttributeRef). Contains (d ∷ ds) r.owner) (attributes_of p ds) (own_attributes d 0 (features_of p d))
    (all_then (λ (r : AttributeRef). Contains ds r.owner) (λ (r : AttributeRef). Contains (d ∷ ds) r.owner) (attributes_of p ds) (λ r there. Contains-append_right (d ∷ []) ds r.owner there) (attributes_owned p ds))
    (all_then (λ (r : AttributeRef). r.owner ≡ d) (λ (r : AttributeRef). Contains (d ∷ ds) r.owner) (own_attributes d 0 (features_of p d)) (λ r is. (0, omega arith, sym is)) (own_owned d 0 (features_of p d)))

module _ (p : List Class) (typed : IsTypedTable p) where
  names_of_formals : (fs : List Formal) → AllByRecursion (λ (f : Formal). IsClassName p f.declared.name) fs → AllByRecursion (IsClassName p) (map (λ (f : Formal). f.declared.name) fs)
  names_of_formals [] h = tt
  names_of_formals (f ∷ fs) h = (h.0, names_of_formals fs h.1)

  string_name : IsClassName p (codes "String")
  string_name = (class_number 4, basic_within p typed 4 (omega arith), basic_name p typed 4 (omega arith))

  int_name : IsClassName p (codes "Int")
  int_name = (class_number 2, basic_within p typed 2 (omega arith), basic_name p typed 2 (omega arith))

  -- the formals of a method have classes as types
  pub formals_are_classes : (m : MethodRef) → HasMethod p m → AllByRecursion (IsClassName p) (formals_of p m)
  formals_are_classes (Basic Abort) h = tt
  formals_are_classes (Basic TypeName) h = tt
  formals_are_classes (Basic Copy) h = tt
  formals_are_classes (Basic OutString) h = (string_name, tt)
  formals_are_classes (Basic OutInt) h = (int_name, tt)
  formals_are_classes (Basic InString) h = tt
  formals_are_classes (Basic InInt) h = tt
  formals_are_classes (Basic Length) h = tt
  formals_are_classes (Basic Concat) h = (string_name, tt)
  formals_are_classes (Basic Substr) h = (int_name, (int_name, tt))
  formals_are_classes (User c k) h =
      let (m, is) = defined (slice_get (features_of p c) k) h.1 in
      let types : IsTyped p (Method m) = all_get (IsTyped p) (features_of p c) k (Method m) (typed.whole.table.types c h.0) is in
      subst (λ (o : Option Feature). AllByRecursion (IsClassName p) (formals_in o)) (sym is) (names_of_formals m.formals types.1)
