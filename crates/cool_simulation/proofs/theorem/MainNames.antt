-- The labels of class Main and of its method `main` in the code are those of the class and method that the semantics finds under these names.
use Rattle.std.proofs.Common.{◌≡◌, ℕ, ◌≤◌, List, [], ◌∷◌, ◌++◌, Option, Some, None, Bool, true, false, cond, refl, sym, ap, ◌∙◌, subst, arith}
use Rattle.std.specs.Prelude.{codes, nat_lt, option_map, slice_get}
use Rattle.cool_classes.specs.declared.class_id.ClassId.{ClassId}
use Rattle.cool_classes.specs.declared.method.BasicMethod.{BasicMethod}
use Rattle.cool_classes.specs.declared.method.MethodRef.{MethodRef}
use Rattle.cool_classes.specs.declared.method.MethodRef.TheVariants.{Basic, User}
use Rattle.cool_classes.specs.Chains.{Class, name_of, features_of, IsChain}
use Rattle.cool_classes.specs.ClimbedChains.{chain}
use Rattle.cool_classes.specs.Features.{HasMethod, basic_methods, method_among, first_method, first_of, user_method, own_method, implementation, name_in}
use Rattle.cool_classes.specs.LawfulTables.{HasMain, MayInherit}
use Rattle.cool_classes.proofs.ChainsOfTables.{chain_is}
use Rattle.cool_classes.proofs.Methods.{found_has}
use Rattle.cool_rules.specs.TypedTables.{IsTypedTable}
use Rattle.cool_rules.proofs.ChainsOfTables.{below_itself}
use Rattle.cool_rules.proofs.NamesOfTables.{class_by_name}
use Rattle.cool_layout.specs.Labels.{prototype, initializer, method_label}
use Rattle.cool_runtime.specs.Labels.{main_prototype, main_init, main_main}
use Rattle.cool_meaning.specs.Values.{Void}
use Rattle.cool_meaning.specs.Lookups.{class_made}
use Rattle.cool_meaning.proofs.BasicClasses.{high_inherits}
use Rattle.cool_emit.proofs.FixedNamesThere.{first_is_named, no_basic_main}

-- a method main of a class's own is one of the program's, under the label of that name
pub record IsMain (p : List Class) (c : ClassId) (m : MethodRef) : Type 0 where
  pub index : ℕ
  pub is : m ≡ User c index
  pub label : method_label p (User c index) ≡ name_of p c ++ (codes "." ++ codes "main")
  pub high : 5 ≤ c.0

main_of : (p : List Class) (c : ClassId) (m : MethodRef) → own_method p c (codes "main") ≡ Some m → IsMain p c m
main_of p c m e = by (nat_lt c.0 5) refl e
  where
    user : 5 ≤ c.0 → (o : Option ℕ) → first_method 0 (features_of p c) (codes "main") ≡ o → user_method c o ≡ Some m → IsMain p c m
    user high None f g = absurd (cc)
    user high (Some k) f g =
        let first = first_is_named 0 (features_of p c) (codes "main") k f in
        let place : first.0 ≡ k = let s = first.1 in omega arith in
        let named : name_in (slice_get (features_of p c) k) ≡ codes "main" = subst (λ i. name_in (slice_get (features_of p c) i) ≡ codes "main") place first.2 in
        record { index = k; is = cc; label = ap (λ n. name_of p c ++ (codes "." ++ n)) named; high = high }

    by : (t : Bool) → nat_lt c.0 5 ≡ t
        → cond t (option_map Basic (method_among (basic_methods c.0) (codes "main"))) (user_method c (first_method 0 (features_of p c) (codes "main"))) ≡ Some m
        → IsMain p c m
    by true e g =
        let none : None ≡ Some m = ap (λ (o : Option BasicMethod). option_map Basic o) (sym (no_basic_main c.0)) ∙ g in
        absurd (cc)
    by false e g = user (grind arith) (first_method 0 (features_of p c) (codes "main")) refl g

module _ (p : List Class) (typed : IsTypedTable p) where
  abbrev main : HasMain p
  main = typed.lawful.main

  pub main_class : IsMain p typed.lawful.main.class typed.lawful.main.method
  main_class = main_of p main.class main.method main.own

  pub main_plain : MayInherit typed.lawful.main.class
  main_plain = high_inherits p typed main.class main.class (below_itself p typed.whole main.class main.within) main_class.high

  pub main_has : HasMethod p (User typed.lawful.main.class main_class.index)
  main_has = subst (HasMethod p) main_class.is (found_has p main.class (codes "main") main.method main.within main.own)

  pub main_prototype_is : prototype p typed.lawful.main.class ≡ main_prototype
  unfolding main_prototype
  main_prototype_is = ap (λ n. n ++ codes "_protObj") main.name

  pub main_init_is : initializer p typed.lawful.main.class ≡ main_init
  unfolding main_init
  main_init_is = ap (λ n. n ++ codes "_init") main.name

  pub main_main_is : method_label p (User typed.lawful.main.class main_class.index) ≡ main_main
  unfolding main_main
  main_main_is = main_class.label ∙ ap (λ n. n ++ (codes "." ++ codes "main")) main.name

  first_own : (c : ClassId) (ds : List ClassId) → IsChain p (Some c) ds → (x : MethodRef) → own_method p c (codes "main") ≡ Some x → implementation p ds (codes "main") ≡ Some x
  first_own c [] chain x e = absurd chain
  first_own c (d ∷ ds) chain x e = ap (λ (o : Option MethodRef). first_of o (implementation p ds (codes "main"))) (ap (λ (y : ClassId). own_method p y (codes "main")) chain.0 ∙ e)

  pub main_found : implementation p (chain p typed.lawful.main.class) (codes "main") ≡ Some (User typed.lawful.main.class main_class.index)
  main_found = first_own main.class (chain p main.class) (chain_is p main.class typed.whole.table main.within) main.method main.own ∙ ap Some main_class.is

  pub main_made : class_made p Void (codes "Main") ≡ Some typed.lawful.main.class
  main_made = class_by_name p typed.whole.table main.class (codes "Main") main.within main.name
