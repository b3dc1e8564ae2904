-- A class number past the end of the class table has no ancestors and no attributes.
use Rattle.std.proofs.Common.{◌≡◌, ℕ, zero, suc, ◌≤◌, List, [], ◌∷◌, ◌++◌, length, get_or, Option, None, ap, sym, ◌∙◌, refl, arith}
use Rattle.cool_classes.specs.declared.class_id.ClassId.{ClassId}
use Rattle.cool_classes.specs.Chains.{Class, nothing, class_at, features_of}
use Rattle.cool_classes.specs.ClimbedChains.{climbed, above, chain}
use Rattle.cool_classes.specs.Features.{own_attributes, attributes_of}
use Rattle.cool_meaning.specs.Lookups.{attributes}

-- past the end of a table is nothing
nothing_at : (p : List Class) (k : ℕ) → length p ≤ k → get_or p k nothing ≡ nothing
nothing_at [] k past = refl
nothing_at (x ∷ p) zero past = absurd (omega arith)
nothing_at (x ∷ p) (suc k) past = nothing_at p k (omega arith)

pub nothing_past : (p : List Class) (c : ClassId) → length p ≤ c.0 → class_at p c ≡ nothing
nothing_past p c past = nothing_at p c.0 past

-- no class stands above none
pub climbed_none : (n : ℕ) (p : List Class) → climbed n p None ≡ []
unfolding climbed
climbed_none zero p = refl
climbed_none (suc n) p = refl

-- a class that is none of the table has no attributes
pub no_attributes : (p : List Class) (c : ClassId) → length p ≤ c.0 → [] ≡ attributes p c
unfolding chain above
no_attributes p c past =
    let is = nothing_past p c past in
    sym (ap (λ (o : Option ClassId). attributes_of p (climbed (length p) p o) ++ own_attributes c 0 (features_of p c)) (ap (λ (x : Class). x.parent) is)
    ∙ ap (λ (ds : List ClassId). attributes_of p ds ++ own_attributes c 0 (features_of p c)) (climbed_none (length p) p)
    ∙ ap (λ (x : Class). own_attributes c 0 x.features) is)
