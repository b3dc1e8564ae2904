-- If tokens between the head of a class and its end parse as a class with one feature, these tokens parse as this feature.
use Rattle.std.proofs.Common.{◌≡◌, refl, sym, ap, ◌∙◌, arith, List, [], ◌∷◌, ◌++◌, map, length, get_or, drop, Option, Some, None, IfSome}
use Rattle.std.proofs.lemmas.List.{length-append}
use Rattle.cool_syntax.specs.declared.token.Token.{Token}
use Rattle.cool_syntax.specs.declared.token.TokenKind.{TokenKind}
use Rattle.cool_syntax.specs.declared.token.TokenKind.TheVariants as kind
use Rattle.cool_syntax.specs.declared.token.Key.TheVariants as key
use Rattle.cool_syntax.specs.declared.token.Sign.TheVariants as sign
use Rattle.cool_syntax.specs.declared.file_tree.ClassDef.{ClassDef}
use Rattle.cool_syntax.specs.declared.file_tree.Feature.{Feature}
use Rattle.cool_syntax.specs.declared.place.Place.{Place}
use Rattle.cool_syntax.specs.ConcreteTrees.{Features, NoFeature, Another, Parent, NoParent, Inherits, Heading, Classes, NoClass, Class}
use Rattle.cool_syntax.specs.Grammar.{Parses}
use Rattle.cool_syntax.specs.PlainTrees.{plain_class, plain_feature, plain_features, plain_file}
use Rattle.cool_syntax.specs.Readings.{features_reading, file_reading, heading_reading, parent_reading, symbol, type, word}
use Rattle.cool_syntax.specs.Shapes.{AreShapedFeatures, IsShapedFile}
use Rattle.cool_parser.specs.declared.fault.ParseError.{ParseError}
use Rattle.cool_parser.specs.declared.fault.ParseError.TheVariants.{Fault, Memory}
use Rattle.cool_parser.specs.declared.fault.ParseFault.{ParseFault}
use Rattle.cool_session.specs.FeatureTokens.{ParsesFeature}
use Rattle.cool_session.specs.OneFeature.{class_of_one, HaveOnly}
use Rattle.cool_syntax.specs.Bare.{nowhere}

-- a list that ends with an element is only this one: nothing stands before it
alone : {X : Type 0} (xs : List X) (x y : X) → xs ++ x ∷ [] ≡ y ∷ [] → (xs ≡ []) × (x ≡ y)
alone [] x y is = (refl, ap (λ l. get_or l 0 x) is)
alone (z ∷ zs) x y is = absurd (omega (arith, ap length is, length-append zs (x ∷ [])))

-- a list with an element at its end is some
some_end : {X : Type 0} (xs : List X) (x : X) → xs ++ x ∷ [] ≡ [] → ⊥
some_end xs x is = omega (arith, ap length is, length-append xs (x ∷ []))

-- two lists with ends of two elements are the same where the whole are
without_ends : {X : Type 0} (xs ys : List X) (a b c d : X) → xs ++ a ∷ b ∷ [] ≡ ys ++ c ∷ d ∷ [] → xs ≡ ys
without_ends [] [] a b c d is = refl
without_ends [] (y ∷ ys) a b c d is = absurd (omega (arith, ap length is, length-append ys (c ∷ d ∷ [])))
without_ends (x ∷ xs) [] a b c d is = absurd (omega (arith, ap length is, length-append xs (a ∷ b ∷ [])))
without_ends (x ∷ xs) (y ∷ ys) a b c d is =
    let first : x ≡ y = ap (λ l. get_or l 0 x) is in
    let rest = without_ends xs ys a b c d (ap (drop 1) is) in λ i. first i ∷ rest i

-- A single feature

module _ (tokens : List Token) (x : Feature) where
  -- tokens of features that are one feature
  of_feature : (fs : Features) → AreShapedFeatures fs → features_reading fs ≡ tokens → plain_features fs ≡ x ∷ [] → ParsesFeature tokens x
  of_feature NoFeature shaped reads plain = absurd (omega (arith, ap length plain))
  of_feature (Another NoFeature f) shaped reads plain = record {
    feature = f;
    shaped = shaped.1;
    reads = reads;
    plain = (alone [] (plain_feature f) x plain).1;
  }
  of_feature (Another (Another before g) f) shaped reads plain =
      absurd (some_end (plain_features before) (plain_feature g) (alone (plain_features (Another before g)) (plain_feature f) x plain).0)

  -- a class whose tokens begin and end so: it names no parent
  of_heading : (h : Heading) (parent : Parent) → h.parent ≡ parent → (fs : Features) (rbrace semi : Place) → AreShapedFeatures fs
      → heading_reading h ++ features_reading fs ++ symbol sign.RBrace rbrace ∷ symbol sign.Semi semi ∷ [] ≡ class_of_one tokens
      → plain_features fs ≡ x ∷ [] → ParsesFeature tokens x
  of_heading h NoParent none fs rbrace semi shaped reads plain =
      let end = symbol sign.RBrace rbrace ∷ symbol sign.Semi semi ∷ [] in
      let body : parent_reading h.parent ≡ [] = ap parent_reading none in
      let same : features_reading fs ++ end ≡ tokens ++ symbol sign.RBrace nowhere ∷ symbol sign.Semi nowhere ∷ [] =
      sym (ap (λ (ts : List Token). drop 1 ((ts ++ symbol sign.LBrace h.lbrace ∷ []) ++ features_reading fs ++ end)) body) ∙ ap (drop 3) reads in
      of_feature fs shaped (without_ends (features_reading fs) tokens _ _ _ _ same) plain
  of_heading h (Inherits at class) some fs rbrace semi shaped reads plain =
      let third : List TokenKind → TokenKind = λ ks. get_or ks 2 (kind.Sign sign.Semi) in
      let kinds : List Token → List TokenKind = map (λ (t : Token). t.kind) in
      let same : kind.Key key.Inherits ≡ kind.Sign sign.LBrace =
      sym
      (ap (λ (p : Parent). third (kinds
      ((word key.Class h.mark ∷ type (record { name = h.name; at = h.at }) ∷ parent_reading p ++ symbol sign.LBrace h.lbrace ∷ [])
      ++ features_reading fs ++ symbol sign.RBrace rbrace ∷ symbol sign.Semi semi ∷ []))) some)
      ∙ ap (λ (ts : List Token). third (kinds ts)) reads in
      cc

  -- files of such tokens are one class
  of_file : (d : ClassDef) (file : Classes) → IsShapedFile file → file_reading file ≡ class_of_one tokens → plain_file file ≡ d ∷ []
      → d.features ≡ x ∷ [] → ParsesFeature tokens x
  of_file d NoClass shaped reads plain only = absurd (omega (arith, ap length plain))
  of_file d (Class NoClass h fs rbrace semi) shaped reads plain only =
      let class : plain_class h fs ≡ d = (alone [] (plain_class h fs) d plain).1 in
      of_heading h h.parent refl fs rbrace semi shaped.1 reads (ap (λ (e : ClassDef). e.features) class ∙ only)
  of_file d (Class (Class before g gs r s) h fs rbrace semi) shaped reads plain only =
      absurd (some_end (plain_file before) (plain_class g gs) (alone (plain_file (Class before g gs r s)) (plain_class h fs) d plain).0)

  only_feature : (classes : List ClassDef) → Parses (class_of_one tokens) classes → HaveOnly classes x → ParsesFeature tokens x
  only_feature [] parses only = absurd only
  only_feature (d ∷ []) (file, shaped, reads, plain) only = of_file d file shaped reads plain only
  only_feature (d ∷ e ∷ ds) parses only = absurd only

-- the one feature that is found in such a class is the feature
pub only_found : (tokens : List Token) (classes : List ClassDef) (o : Option Feature) → Parses (class_of_one tokens) classes
    → IfSome o (HaveOnly classes)
    → IfSome o (ParsesFeature tokens)
only_found tokens classes None parses only = tt
only_found tokens classes (Some x) parses only = only_feature tokens x classes parses only

-- the tokens of a feature, between the head of a class and its end, are a class of this feature
class_read : (tokens : List Token) (x : Feature) → ParsesFeature tokens x
    → (d : ClassDef) × Parses (class_of_one tokens) (d ∷ []) × (d.features ≡ x ∷ [])
class_read tokens x p =
    let heading : Heading = record { mark = nowhere; name = []; at = nowhere; parent = NoParent; lbrace = nowhere } in
    let fs : Features = Another NoFeature p.feature in (
      plain_class heading fs,
      (Class NoClass heading fs nowhere nowhere, (tt, (tt, p.shaped)), ap class_of_one p.reads, refl),
      ap (λ (y : Feature). y ∷ []) p.plain,
    )

-- so it is found among the classes that are the one reading of such tokens
pub feature_found : (tokens : List Token) (x : Feature) (classes : List ClassDef) (o : Option Feature) → ParsesFeature tokens x
    → ((ds : List ClassDef) → Parses (class_of_one tokens) ds → classes ≡ ds)
    → ((d : ClassDef) (y : Feature) → classes ≡ d ∷ [] → d.features ≡ y ∷ [] → o ≡ Some y) → o ≡ Some x
feature_found tokens x classes o p one finds =
    let (d, parses, features) = class_read tokens x p in
    finds d x (one (d ∷ []) parses) features

-- and tokens of no class are no feature
pub no_feature : (tokens : List Token) (x : Feature) → ParsesFeature tokens x → ((ds : List ClassDef) → Parses (class_of_one tokens) ds → ⊥) → ⊥
no_feature tokens x p never =
    let (d, parses, features) = class_read tokens x p in
    never (d ∷ []) parses

-- a fault is not the same as running out of memory
pub fault_or_memory : (e : ParseError) (f : ParseFault) → e ≡ Fault f → e ≡ Memory → ⊥
fault_or_memory e f is memory = let both : Fault f ≡ Memory = sym is ∙ memory in absurd cc
