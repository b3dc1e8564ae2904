-- The type errors of parsed files are at increasing source locations, class by class and feature by feature, because the tokens of a feature follow those
-- of the features before it. So two type errors at one location are the same error.
use Rattle.std.proofs.Common.{◌≡◌, ◌⊎◌, inl, inr, ℕ, ◌+◌, ◌<◌, ◌≤◌, suc, List, [], ◌∷◌, ◌++◌, map, length, ap, sym, ◌∙◌, refl, subst, arith, append_assoc, append-nil}
use Rattle.std.specs.Prelude.{Ok, Err, IfErr}
use Rattle.std.specs.List.{AllByRecursion}
use Rattle.cool_syntax.specs.declared.file_tree.ClassDef.{ClassDef}
use Rattle.cool_syntax.specs.declared.file_tree.Feature.{Feature}
use Rattle.cool_syntax.specs.declared.file_tree.Feature.TheVariants.{Method, Attribute}
use Rattle.cool_syntax.specs.declared.file_tree.FileTree.{FileTree}
use Rattle.cool_syntax.specs.declared.place.Place.{Place}
use Rattle.cool_syntax.specs.declared.token.Sign.TheVariants as sign
use Rattle.cool_syntax.specs.declared.token.Token.{Token}
use Rattle.cool_syntax.specs.ConcreteTrees.{Features, NoFeature, Another, Classes, NoClass, Class}
use Rattle.cool_syntax.specs.FaultOrder.{IsLessOr}
use Rattle.cool_syntax.specs.LexicalStructure.{Lexes}
use Rattle.cool_syntax.specs.PlainTrees.{plain_feature, plain_features, plain_class, plain_file}
use Rattle.cool_syntax.specs.Readings.{symbol, feature_reading, features_reading, heading_reading, file_reading}
use Rattle.cool_syntax.specs.TokenFacts.{AreRising}
use Rattle.cool_lexer.proofs.LexemesKeepLimits.{rising}
use Rattle.cool_classes.specs.declared.class_id.ClassId.{ClassId}
use Rattle.cool_classes.specs.Chains as table
use Rattle.cool_classes.specs.Chains.{class_number}
use Rattle.cool_classes.specs.ClassFaults.{class_meant, classes_meant}
use Rattle.cool_classes.specs.Definitions.{definitions}
use Rattle.cool_classes.specs.Settled.{names_with_basic}
use Rattle.cool_check.specs.declared.fault.TypeFault.{TypeFault}
use Rattle.cool_check.specs.FirstFaults.{Checked}
use Rattle.cool_check.specs.TypingFaults.{classes_faults, fault_of, feature_checked, features_faults, typing_faults}
use Rattle.cool_faults.specs.declared.fault.Fault.{Fault}
use Rattle.cool_faults.specs.declared.fault.Fault.TheVariants.{Typing}
use Rattle.cool_faults.specs.Verdicts.{AreTrees, place_of}
use Rattle.cool_faults.proofs.FaultsInPlace.{feature_placed}
use Rattle.cool_faults.proofs.PlacesOfTrees.{IsFeatureAt, feature_at}
use Rattle.lists.proofs.AllItems.{all_then}

-- a byte of a file
pub record Position : Type 0 where
  pub file : ℕ
  pub byte : ℕ

abbrev at_byte : ℕ → ℕ → Position
at_byte file byte = record { file = file; byte = byte }

abbrev position_of : Place → Position
position_of at = at_byte at.file at.byte

-- the first is not behind the second
abbrev IsUpTo : Position → Position → Type 0
IsUpTo a b = IsLessOr a.file b.file (a.byte ≤ b.byte)

up_to_then : (a b c : Position) → IsUpTo a b → IsUpTo b c → IsUpTo a c
up_to_then a b c (inl h) (inl g) = inl (omega (arith, h, g))
up_to_then a b c (inl h) (inr g) = inl (omega (arith, h, g.0))
up_to_then a b c (inr h) (inl g) = inl (omega (arith, h.0, g))
up_to_then a b c (inr h) (inr g) = inr (h.0 ∙ g.0, omega (arith, h.1, g.1))

later_byte : (file low high : ℕ) → low ≤ high → IsUpTo (at_byte file low) (at_byte file high)
later_byte file low high h = inr (refl, h)

-- a place stands from one position on, and before another
abbrev IsBetween : Position → Position → Place → Type 0
IsBetween a b at = IsUpTo a (position_of at) × IsUpTo (at_byte at.file (at.byte + 1)) b

between_up : (a b : Position) (at : Place) → IsBetween a b at → IsUpTo a b
between_up a b at h = up_to_then a (position_of at) b h.0 (up_to_then (position_of at) (at_byte at.file (at.byte + 1)) b (later_byte at.file at.byte (at.byte + 1) (omega arith)) h.1)

-- things of which each stands behind the ones before it
abbrev Rise : {X : Type 0} → (Position → X → Position → Type 0) → Position → List X → Position → Type 0
Rise Stands a [] b = IsUpTo a b
Rise Stands a (x ∷ xs) b = (m : Position) × Stands a x m × Rise Stands m xs b

module _ {X : Type 0} (Stands : Position → X → Position → Type 0) (lower : (a b c : Position) (x : X) → IsUpTo a b → Stands b x c → Stands a x c) where
  from_lower : (a b c : Position) (xs : List X) → IsUpTo a b → Rise Stands b xs c → Rise Stands a xs c
  from_lower a b c [] h g = up_to_then a b c h g
  from_lower a b c (x ∷ xs) h (m, stands, rest) = (m, lower a b m x h stands, rest)

  to_higher : (a b c : Position) (xs : List X) → Rise Stands a xs b → IsUpTo b c → Rise Stands a xs c
  to_higher a b c [] h g = up_to_then a b c h g
  to_higher a b c (x ∷ xs) (m, stands, rest) g = (m, stands, to_higher m b c xs rest g)

  join : (a b c : Position) (xs ys : List X) → Rise Stands a xs b → Rise Stands b ys c → Rise Stands a (xs ++ ys) c
  join a b c [] ys h g = from_lower a b c ys h g
  join a b c (x ∷ xs) ys (m, stands, rest) g = (m, stands, join m b c xs ys rest g)

-- a feature all of whose places stand between these
abbrev StandsAsFeature : Position → Feature → Position → Type 0
StandsAsFeature a x b = (m : Position) × IsUpTo a m × IsFeatureAt (IsBetween m b) x

lower_feature : (a b c : Position) (x : Feature) → IsUpTo a b → StandsAsFeature b x c → StandsAsFeature a x c
lower_feature a b c x h (m, up, at) = (m, up_to_then a b m h up, at)

-- a class whose features stand so
abbrev StandsAsClass : Position → ClassDef → Position → Type 0
StandsAsClass a d b = Rise StandsAsFeature a d.features b

lower_class : (a b c : Position) (d : ClassDef) → IsUpTo a b → StandsAsClass b d c → StandsAsClass a d c
lower_class a b c d h g = from_lower StandsAsFeature lower_feature a b c d.features h g

-- Tokens

-- the first of rising tokens stand before the others
first_tokens : (file : ℕ) (xs ys : List Token) (low : ℕ) → AreRising file low (xs ++ ys)
    → (mid : ℕ) × (low ≤ mid) × AllByRecursion (λ (t : Token). IsBetween (at_byte file low) (at_byte file mid) t.at) xs × AreRising file mid ys
first_tokens file [] ys low h = (low, omega arith, tt, h)
first_tokens file (t ∷ xs) ys low h =
    let (mid, more, all, rest) = first_tokens file xs ys (t.at.byte + 1) h.2 in
    let here : IsBetween (at_byte file low) (at_byte file mid) t.at = (inr (sym h.0, h.1), inr (h.0, more)) in (
      mid,
      omega (arith, h.1, more),
      (
        here,
        all_then (λ (u : Token). IsBetween (at_byte file (t.at.byte + 1)) (at_byte file mid) u.at) (λ (u : Token). IsBetween (at_byte file low) (at_byte file mid) u.at) xs
            (λ u g. (up_to_then (at_byte file low) (at_byte file (t.at.byte + 1)) (position_of u.at) (later_byte file low (t.at.byte + 1) (omega (arith, h.1))) g.0, g.1)) all,
      ),
      rest,
    )

features_rise : (file : ℕ) (fs : Features) (rest : List Token) (low : ℕ) → AreRising file low (features_reading fs ++ rest)
    → (mid : ℕ) × Rise StandsAsFeature (at_byte file low) (plain_features fs) (at_byte file mid) × AreRising file mid rest
features_rise file NoFeature rest low h = (low, later_byte file low low (omega arith), h)
features_rise file (Another before x) rest low h =
    let there = subst (AreRising file low) (append_assoc (features_reading before) (feature_reading x) rest) h in
    let (m, rise, behind) = features_rise file before (feature_reading x ++ rest) low there in
    let (n, up, all, more) = first_tokens file (feature_reading x) rest m behind in
    let one : Rise StandsAsFeature (at_byte file m) (plain_feature x ∷ []) (at_byte file n) =
    (at_byte file n, (at_byte file m, later_byte file m m (omega arith), feature_at (IsBetween (at_byte file m) (at_byte file n)) x all), later_byte file n n (omega arith)) in
    (n, join StandsAsFeature lower_feature (at_byte file low) (at_byte file m) (at_byte file n) (plain_features before) (plain_feature x ∷ []) rise one, more)

classes_rise : (file : ℕ) (cs : Classes) (rest : List Token) (low : ℕ) → AreRising file low (file_reading cs ++ rest)
    → (mid : ℕ) × Rise StandsAsClass (at_byte file low) (plain_file cs) (at_byte file mid) × AreRising file mid rest
classes_rise file NoClass rest low h = (low, later_byte file low low (omega arith), h)
classes_rise file (Class before heading features rbrace semi) rest low h =
    let ends : List Token = symbol sign.RBrace rbrace ∷ symbol sign.Semi semi ∷ [] in
    let first : List Token = file_reading before in
    let head : List Token = heading_reading heading in
    let own : List Token = features_reading features in
    let there = append_assoc (first ++ head ++ own) ends rest ∙ (append_assoc (first ++ head) own (ends ++ rest) ∙ append_assoc first head (own ++ (ends ++ rest))) in
    let (k, rise, behind) = classes_rise file before (head ++ (own ++ (ends ++ rest))) low (subst (AreRising file low) there h) in
    let (m, up, marks, more) = first_tokens file head (own ++ (ends ++ rest)) k behind in
    let (n, within, over) = features_rise file features (ends ++ rest) m more in
    let (o, past, last, left) = first_tokens file ends rest n over in
    let stands : StandsAsClass (at_byte file k) (plain_class heading features) (at_byte file o) =
    from_lower StandsAsFeature lower_feature (at_byte file k) (at_byte file m) (at_byte file o) (plain_features features) (later_byte file k m up)
    (to_higher StandsAsFeature lower_feature (at_byte file m) (at_byte file n) (at_byte file o) (plain_features features) within (later_byte file n o past)) in
    let one : Rise StandsAsClass (at_byte file k) (plain_class heading features ∷ []) (at_byte file o) = (at_byte file o, stands, later_byte file o o (omega arith)) in
    (o, join StandsAsClass lower_class (at_byte file low) (at_byte file k) (at_byte file o) (plain_file before) (plain_class heading features ∷ []) rise one, left)

lexemes_rise : (file : ℕ) (bytes : List ℕ) (tokens : List Token) → Lexes file bytes tokens → AreRising file 0 tokens
lexemes_rise file bytes tokens h = subst (AreRising file 0) (sym h.lexemes) (rising file bytes 0 0 bytes h.items (length bytes) [] (omega arith) h.leads)

definitions_rise : (file : ℕ) (files : List (List ℕ)) (ts : List FileTree) → AreTrees file files ts
    → (end : ℕ) × Rise StandsAsClass (at_byte file 0) (definitions ts) (at_byte end 0)
definitions_rise file [] [] h = (file, later_byte file 0 0 (omega arith))
definitions_rise file [] (t ∷ ts) h = absurd h
definitions_rise file (bytes ∷ files) [] h = absurd h
definitions_rise file (bytes ∷ files) (t ∷ ts) h =
    let (cs, shaped, reads, plain) = h.0.parses in
    let tokens = subst (AreRising file 0) (sym reads ∙ sym (append-nil (file_reading cs))) (lexemes_rise file bytes h.0.tokens h.0.lexes) in
    let (m, rise, none) = classes_rise file cs [] 0 tokens in
    let own : Rise StandsAsClass (at_byte file 0) t.classes (at_byte file m) = subst (λ (ds : List ClassDef). Rise StandsAsClass (at_byte file 0) ds (at_byte file m)) plain rise in
    let (end, more) = definitions_rise (file + 1) files ts h.1 in (
      end,
      join StandsAsClass lower_class (at_byte file 0) (at_byte (file + 1) 0) (at_byte end 0) t.classes (definitions ts)
          (to_higher StandsAsClass lower_class (at_byte file 0) (at_byte file m) (at_byte (file + 1) 0) t.classes own (inl (omega arith))) more,
    )

-- Faults

abbrev StandsAsFault : Position → TypeFault → Position → Type 0
StandsAsFault a f b = IsBetween a b f.at

lower_fault : (a b c : Position) (f : TypeFault) → IsUpTo a b → StandsAsFault b f c → StandsAsFault a f c
lower_fault a b c f h (up, past) = (up_to_then a b (position_of f.at) h up, past)

-- a feature stands between these, so these do not cross
feature_up : (a b : Position) (x : Feature) → IsFeatureAt (IsBetween a b) x → IsUpTo a b
feature_up a b (Method m) h = between_up a b m.at h.0
feature_up a b (Attribute x) h = between_up a b x.at h.0

fault_rises : (p : List table.Class) (c : ClassId) (x : Feature) (a b : Position) → StandsAsFeature a x b → Rise StandsAsFault a (fault_of (feature_checked p c x)) b
fault_rises p c x a b (m, up, at) = by (feature_checked p c x) (feature_placed (IsBetween m b) p c x at)
  where
    by : (r : Checked (Unit {0})) → IfErr r (λ (f : TypeFault). IsBetween m b f.at) → Rise StandsAsFault a (fault_of r) b
    by (Ok u) h = up_to_then a m b up (feature_up m b x at)
    by (Err f) h = (b, (up_to_then a m (position_of f.at) up h.0, h.1), later_byte b.file b.byte b.byte (omega arith))

features_faults_rise : (p : List table.Class) (c : ClassId) (fs : List Feature) (a b : Position) → Rise StandsAsFeature a fs b → Rise StandsAsFault a (features_faults p c fs) b
features_faults_rise p c [] a b h = h
features_faults_rise p c (x ∷ fs) a b (m, stands, rest) =
    join StandsAsFault lower_fault a m b (fault_of (feature_checked p c x)) (features_faults p c fs) (fault_rises p c x a m stands) (features_faults_rise p c fs m b rest)

classes_faults_rise : (p : List table.Class) (names : List (List ℕ)) (k : ℕ) (ds : List ClassDef) (a b : Position) → Rise StandsAsClass a ds b
    → Rise StandsAsFault a (classes_faults p k (map (class_meant names) ds)) b
classes_faults_rise p names k [] a b h = h
classes_faults_rise p names k (d ∷ ds) a b (m, stands, rest) =
    join StandsAsFault lower_fault a m b (features_faults p (class_number k) d.features) (classes_faults p (suc k) (map (class_meant names) ds))
    (features_faults_rise p (class_number k) d.features a m stands) (classes_faults_rise p names (suc k) ds m b rest)

-- one of some faults
abbrev pub IsIn : Fault → List Fault → Type 0
IsIn x [] = ⊥
IsIn x (y ∷ ys) = (x ≡ y) ⊎ IsIn x ys

pub all_in : (xs : List Fault) (P : Fault → Type 0) → ((x : Fault) → IsIn x xs → P x) → AllByRecursion P xs
all_in [] P h = tt
all_in (x ∷ xs) P h = (h x (inl refl), all_in xs P (λ y i. h y (inr i)))

-- one of rising faults is not before the first
not_before : (a b : Position) (fs : List TypeFault) → Rise StandsAsFault a fs b → (x : Fault) → IsIn x (map Typing fs) → IsUpTo a (position_of (place_of x))
not_before a b [] h x i = absurd i
not_before a b (f ∷ fs) (m, stands, rest) x (inl is) = subst (λ (y : Fault). IsUpTo a (position_of (place_of y))) (sym is) stands.0
not_before a b (f ∷ fs) (m, stands, rest) x (inr later) =
    up_to_then a m (position_of (place_of x)) (between_up a m f.at stands) (not_before m b fs rest x later)

-- no position is behind itself
not_behind : (at : Place) → IsUpTo (at_byte at.file (at.byte + 1)) (position_of at) → ⊥
not_behind at (inl h) = omega (arith, h)
not_behind at (inr h) = omega (arith, h.1)

-- the first of rising faults and a later one stand apart
first_apart : (f : TypeFault) (a m b : Position) (fs : List TypeFault) → StandsAsFault a f m → Rise StandsAsFault m fs b → (x y : Fault)
    → x ≡ Typing f → IsIn y (map Typing fs) → place_of x ≡ place_of y → ⊥
first_apart f a m b fs stands rest x y is later same =
    let here : place_of y ≡ f.at = sym same ∙ ap place_of is in
    not_behind f.at (subst (λ (at : Place). IsUpTo (at_byte f.at.file (f.at.byte + 1)) (position_of at)) here
    (up_to_then (at_byte f.at.file (f.at.byte + 1)) m (position_of (place_of y)) stands.1 (not_before m b fs rest y later)))

one_at_place : (a b : Position) (fs : List TypeFault) → Rise StandsAsFault a fs b → (x y : Fault) → IsIn x (map Typing fs) → IsIn y (map Typing fs) → place_of x ≡ place_of y → x ≡ y
one_at_place a b [] h x y i j same = absurd i
one_at_place a b (f ∷ fs) (m, stands, rest) x y (inl i) (inl j) same = i ∙ sym j
one_at_place a b (f ∷ fs) (m, stands, rest) x y (inl i) (inr j) same = absurd (first_apart f a m b fs stands rest x y i j same)
one_at_place a b (f ∷ fs) (m, stands, rest) x y (inr i) (inl j) same = absurd (first_apart f a m b fs stands rest y x j i (sym same))
one_at_place a b (f ∷ fs) (m, stands, rest) x y (inr i) (inr j) same = one_at_place m b fs rest x y i j same

-- two typing faults of files at one place are one
pub one_typing_fault : (files : List (List ℕ)) (ts : List FileTree) → AreTrees 0 files ts → (x y : Fault) → IsIn x (map Typing (typing_faults (classes_meant (definitions ts))))
    → IsIn y (map Typing (typing_faults (classes_meant (definitions ts)))) → place_of x ≡ place_of y → x ≡ y
one_typing_fault files ts trees =
    let ds : List ClassDef = definitions ts in
    let (end, rise) = definitions_rise 0 files ts trees in
    one_at_place (at_byte 0 0) (at_byte end 0) (typing_faults (classes_meant ds)) (classes_faults_rise (classes_meant ds) (names_with_basic ds) 5 ds (at_byte 0 0) (at_byte end 0) rise)
