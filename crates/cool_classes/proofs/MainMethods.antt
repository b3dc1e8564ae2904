-- The first method main of a class named Main decides whether the class lacks a method main without formal parameters, as `lacks_main` tests.
use Rattle.std.proofs.Common.{◌≡◌, ℕ, List, Option, Bool, true, ◌&&◌, ap, sym, ◌∙◌}
use Rattle.std.specs.Prelude.{codes, bytes_eq}
use Rattle.cool_classes.specs.declared.class_id.ClassId.{ClassId}
use Rattle.cool_classes.specs.Chains.{Class, name_of, features_of}
use Rattle.cool_classes.specs.Features.{first_method}
use Rattle.cool_classes.specs.FeatureFaults.{lacks_main, lacks_main_at}

-- a class named Main lacks main where its first method main does
pub main_named : (p : List Class) (c : ClassId) (o : Option ℕ) → bytes_eq (name_of p c) (codes "Main") ≡ true → o ≡ first_method 0 (features_of p c) (codes "main")
    → lacks_main_at (features_of p c) o ≡ lacks_main p c
main_named p c o named first =
    ap (lacks_main_at (features_of p c)) first ∙ sym (ap (λ (b : Bool). b && lacks_main_at (features_of p c) (first_method 0 (features_of p c) (codes "main"))) named)
