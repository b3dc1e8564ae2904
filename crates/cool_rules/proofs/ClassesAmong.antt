-- The test `is_among` is true of the chain of a class (the list of the class and its ancestors) and another class exactly if the first class equals or inherits
-- from the other.
use Rattle.std.proofs.Common.{◌≡◌, zero, suc, ◌<◌, List, [], ◌∷◌, length, Bool, true, false, ap, sym, ◌∙◌, refl, arith}
use Rattle.std.specs.Prelude.{Contains, nat_eq, ◌||◌}
use Rattle.std.specs.List.{list_any}
use Rattle.std.proofs.lemmas.Bool.{eqb-true, eq-eqb}
use Rattle.cool_classes.specs.declared.class_id.ClassId.{ClassId}
use Rattle.cool_classes.specs.Chains.{Class, class_number, Below}
use Rattle.cool_classes.specs.ClimbedChains.{chain}
use Rattle.cool_classes.specs.Tables.{IsTable}
use Rattle.cool_classes.proofs.ChainsOfTables.{chain_of, chain_is}
use Rattle.cool_rules.specs.Rules.{is_among}

-- answers that hold together are one
pub same_answers : (a b : Bool) → (a ≡ true → b ≡ true) → (b ≡ true → a ≡ true) → a ≡ b
same_answers true b f g = sym (f refl)
same_answers false true f g = absurd (let e = g refl in cc)
same_answers false false f g = refl

-- a class is on a chain where it is among its classes
pub among_there : (ds : List ClassId) (c : ClassId) → is_among ds c ≡ true → Contains ds c
unfolding is_among
among_there [] c e = absurd (cc)
among_there (d ∷ ds) c e = by (nat_eq d.0 c.0) refl e (among_there ds c)
  where
    by : (b : Bool) → nat_eq d.0 c.0 ≡ b → (b || is_among ds c) ≡ true → (is_among ds c ≡ true → Contains ds c) → Contains (d ∷ ds) c
    by true same e more = (0, omega arith, ap class_number (eqb-true d.0 c.0 same))
    by false same e more = let (k, within, is) = more e in (suc k, omega arith, is)

pub there_among : (ds : List ClassId) (c : ClassId) → Contains ds c → is_among ds c ≡ true
unfolding is_among
there_among [] c (k, within, is) = absurd (omega arith)
there_among (d ∷ ds) c (zero, within, is) = ap (λ (b : Bool). b || is_among ds c) (eq-eqb d.0 c.0 (ap (λ (x : ClassId). x.0) is))
there_among (d ∷ ds) c (suc k, within, is) = later (nat_eq d.0 c.0) (there_among ds c (k, omega arith, is))
  where
    later : (b : Bool) → is_among ds c ≡ true → (b || is_among ds c) ≡ true
    later true e = refl
    later false e = e

-- a class is below those among its chain, and no others
pub below_among : (p : List Class) (a b : ClassId) → IsTable p → a.0 < length p → is_among (chain p a) b ≡ true → Below p a b
below_among p a b h within e = (chain p a, chain_is p a h within, among_there (chain p a) b e)

pub among_below : (p : List Class) (a b : ClassId) → Below p a b → is_among (chain p a) b ≡ true
among_below p a b (ds, k, there) = ap (λ (es : List ClassId). is_among es b) (chain_of p a ds k) ∙ there_among ds b there

-- a class is among others where any of them has its number
pub is_among_any : (ds : List ClassId) (c : ClassId) → list_any (λ (d : ClassId). nat_eq d.0 c.0) ds ≡ is_among ds c
unfolding is_among
is_among_any [] c = refl
is_among_any (d ∷ ds) c = ap (λ (b : Bool). nat_eq d.0 c.0 || b) (is_among_any ds c)
