-- The relation that two features, classes or definitions declare the same names and types is symmetric and transitive. Class tables that are so related have
-- the same signatures.
use Rattle.std.proofs.Common.{◌≡◌, ℕ, zero, suc, List, [], ◌∷◌, map, drop, Option, Some, None, unwrap_or, refl, sym, ap, ◌∙◌, subst}
use Rattle.std.specs.Prelude.{slice_get}
use Rattle.std.proofs.lemmas.Option.{none-some}
use Rattle.cool_syntax.specs.declared.file_tree.ClassDef.{ClassDef}
use Rattle.cool_syntax.specs.declared.file_tree.Feature.{Feature}
use Rattle.cool_syntax.specs.declared.file_tree.Feature.TheVariants.{Method, Attribute}
use Rattle.cool_classes.specs.declared.class_id.ClassId.{ClassId}
use Rattle.cool_classes.specs.Chains.{Class}
use Rattle.cool_classes.specs.Declarations.{DeclareSame, AllDeclareSame, AreAlike, AreAllAlike}
use Rattle.cool_classes.proofs.AlikeTables.{find_same}
use Rattle.cool_session.specs.Bases.{parent_in, table_signature, table_signatures}
use Rattle.cool_session.specs.FeatureTokens.{features_of_all}
use Rattle.cool_session.proofs.DefinitionsKept.{AllDefineSame, features_same}
use Rattle.cool_session.proofs.MovedFiles.{declare_both}

-- Features

pub declare_back : (x y : Feature) → DeclareSame x y → DeclareSame y x
declare_back (Method m) (Method m') h = (sym h.0, sym h.1, sym h.2, sym h.3)
declare_back (Method m) (Attribute a) h = absurd h
declare_back (Attribute a) (Method m) h = absurd h
declare_back (Attribute a) (Attribute a') h = (sym h.0, sym h.1)

pub declare_on : (x y z : Feature) → DeclareSame x y → DeclareSame y z → DeclareSame x z
declare_on (Method m) (Method n) (Method o) h g = (g.0 ∙ h.0, g.1 ∙ h.1, g.2 ∙ h.2, g.3 ∙ h.3)
declare_on (Attribute a) (Attribute b) (Attribute c) h g = (g.0 ∙ h.0, g.1 ∙ h.1)
declare_on (Method m) (Attribute b) z h g = absurd h
declare_on (Attribute a) (Method n) z h g = absurd h
declare_on (Method m) (Method n) (Attribute c) h g = absurd g
declare_on (Attribute a) (Attribute b) (Method o) h g = absurd g

all_back : (xs ys : List Feature) → AllDeclareSame xs ys → AllDeclareSame ys xs
all_back [] [] h = tt
all_back [] (y ∷ ys) h = absurd h
all_back (x ∷ xs) [] h = absurd h
all_back (x ∷ xs) (y ∷ ys) (h, hs) = (declare_back x y h, all_back xs ys hs)

all_on : (xs ys zs : List Feature) → AllDeclareSame xs ys → AllDeclareSame ys zs → AllDeclareSame xs zs
all_on [] [] [] h g = tt
all_on [] [] (z ∷ zs) h g = absurd g
all_on [] (y ∷ ys) zs h g = absurd h
all_on (x ∷ xs) [] zs h g = absurd h
all_on (x ∷ xs) (y ∷ ys) [] h g = absurd g
all_on (x ∷ xs) (y ∷ ys) (z ∷ zs) (h, hs) (g, gs) = (declare_on x y z h g, all_on xs ys zs hs gs)

-- the feature of a number is declared by the one of that number
pub declared_at : (xs ys : List Feature) (n : ℕ) (y : Feature) → AllDeclareSame xs ys → slice_get ys n ≡ Some y
    → (x : Feature) × (slice_get xs n ≡ Some x) × DeclareSame x y
declared_at [] [] n y h is = absurd (none-some y is)
declared_at [] (z ∷ ys) n y h is = absurd h
declared_at (x ∷ xs) [] n y h is = absurd h
declared_at (x ∷ xs) (z ∷ ys) zero y (h, hs) is = (x, refl, subst (DeclareSame x) (ap (λ (o : Option Feature). unwrap_or o z) is) h)
declared_at (x ∷ xs) (z ∷ ys) (suc n) y (h, hs) is = declared_at xs ys n y hs is

-- Definitions

pub all_features : (ds es : List ClassDef) → AllDefineSame ds es → AllDeclareSame (features_of_all ds) (features_of_all es)
all_features [] [] h = tt
all_features [] (e ∷ es) h = absurd h
all_features (d ∷ ds) [] h = absurd h
all_features (d ∷ ds) (e ∷ es) (h, hs) =
    declare_both d.features e.features (features_of_all ds) (features_of_all es) h.2 (all_features ds es hs)

pub define_on : (ds es fs : List ClassDef) → AllDefineSame ds es → AllDefineSame es fs → AllDefineSame ds fs
define_on [] [] [] h g = tt
define_on [] [] (f ∷ fs) h g = absurd g
define_on [] (e ∷ es) fs h g = absurd h
define_on (d ∷ ds) [] fs h g = absurd h
define_on (d ∷ ds) (e ∷ es) [] h g = absurd g
define_on (d ∷ ds) (e ∷ es) (f ∷ fs) (h, hs) (g, gs) =
    ((g.0 ∙ h.0, g.1 ∙ h.1, all_on d.features e.features f.features h.2 g.2), define_on ds es fs hs gs)

-- Tables

pub alike_back : (p q : List Class) → AreAllAlike p q → AreAllAlike q p
alike_back [] [] h = tt
alike_back [] (e ∷ q) h = absurd h
alike_back (d ∷ p) [] h = absurd h
alike_back (d ∷ p) (e ∷ q) (h, hs) = ((sym h.0, sym h.1, all_back d.features e.features h.2), alike_back p q hs)

pub alike_on : (p q r : List Class) → AreAllAlike p q → AreAllAlike q r → AreAllAlike p r
alike_on [] [] [] h g = tt
alike_on [] [] (f ∷ r) h g = absurd g
alike_on [] (e ∷ q) r h g = absurd h
alike_on (d ∷ p) [] r h g = absurd h
alike_on (d ∷ p) (e ∷ q) [] h g = absurd g
alike_on (d ∷ p) (e ∷ q) (f ∷ r) (h, hs) (g, gs) =
    ((g.0 ∙ h.0, g.1 ∙ h.1, all_on d.features e.features f.features h.2 g.2), alike_on p q r hs gs)

later_alike : (n : ℕ) (p q : List Class) → AreAllAlike p q → AreAllAlike (drop n p) (drop n q)
later_alike zero p q h = h
later_alike (suc n) [] [] h = tt
later_alike (suc n) [] (e ∷ q) h = absurd h
later_alike (suc n) (d ∷ p) [] h = absurd h
later_alike (suc n) (d ∷ p) (e ∷ q) h = later_alike n p q h.1

module _ (p q : List Class) (alike : AreAllAlike p q) where
  same_parent : (o : Option ClassId) → parent_in q o ≡ parent_in p o
  same_parent None = refl
  same_parent (Some c) = (find_same p q alike).names c

  same_signature : (d e : Class) → AreAlike d e → table_signature q e ≡ table_signature p d
  same_signature d e h =
      let parent : parent_in q e.parent ≡ parent_in p d.parent = ap (parent_in q) h.1 ∙ same_parent d.parent in
      λ i. record { name = h.0 i; parent = parent i; features = features_same d.features e.features h.2 i }

  all_signatures : (ds es : List Class) → AreAllAlike ds es → map (table_signature q) es ≡ map (table_signature p) ds
  all_signatures [] [] h = refl
  all_signatures [] (e ∷ es) h = absurd h
  all_signatures (d ∷ ds) [] h = absurd h
  all_signatures (d ∷ ds) (e ∷ es) (h, hs) = λ i. same_signature d e h i ∷ all_signatures ds es hs i

  pub same_signatures : table_signatures q ≡ table_signatures p
  same_signatures = all_signatures (drop 5 p) (drop 5 q) (later_alike 5 p q alike)
