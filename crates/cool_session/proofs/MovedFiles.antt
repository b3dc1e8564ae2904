-- If the tokens of a file get other source locations, they still parse as a file of the same classes, except for source locations.
use Rattle.std.proofs.Common.{◌≡◌, ℕ, List, [], ◌∷◌, ◌++◌, map, refl, sym, ap, ◌∙◌, subst}
use Rattle.std.specs.Prelude.{option_map}
use Rattle.std.proofs.lemmas.List.{map-append}
use Rattle.cool_syntax.specs.declared.place.Place.{Place}
use Rattle.cool_syntax.specs.declared.type_ref.TypeRef.{TypeRef}
use Rattle.cool_syntax.specs.declared.token.Token.{Token}
use Rattle.cool_syntax.specs.declared.token.Sign.TheVariants as sign
use Rattle.cool_syntax.specs.declared.file_tree.ClassDef.{ClassDef}
use Rattle.cool_syntax.specs.declared.file_tree.Feature.{Feature}
use Rattle.cool_syntax.specs.declared.file_tree.Feature.TheVariants.{Method, Attribute}
use Rattle.cool_syntax.specs.declared.file_tree.Formal.{Formal}
use Rattle.cool_syntax.specs.ConcreteTrees.{Features, NoFeature, Another, Parent, NoParent, Inherits, Heading, Classes, NoClass, Class}
use Rattle.cool_syntax.specs.Grammar.{Parses}
use Rattle.cool_syntax.specs.PlainTrees.{plain_feature, plain_features, plain_parent, plain_class, plain_file}
use Rattle.cool_syntax.specs.Readings.{symbol, feature_reading, features_reading, parent_reading, heading_reading, file_reading}
use Rattle.cool_syntax.specs.Shapes.{AreShapedFeatures, IsShapedFile}
use Rattle.cool_syntax.specs.TokenFacts.{AreRising}
use Rattle.cool_classes.specs.Declarations.{formal_names, formal_types, DeclareSame, AllDeclareSame}
use Rattle.cool_session.specs.FeatureTokens.{kinds}
use Rattle.cool_session.proofs.DefinitionsKept.{AllDefineSame}
use Rattle.cool_session.proofs.FaultsAfterEdits.{renames, renaming}
use Rattle.cool_session.proofs.RenamedTrees.{renamed_token, renamed_type, renamed_formal, renamed_feature, feature_renamed}

-- Lists that follow each other

pub declare_both : (xs xs' ys ys' : List Feature) → AllDeclareSame xs xs' → AllDeclareSame ys ys' → AllDeclareSame (xs ++ ys) (xs' ++ ys')
declare_both [] [] ys ys' h g = g
declare_both [] (x' ∷ xs') ys ys' h g = absurd h
declare_both (x ∷ xs) [] ys ys' h g = absurd h
declare_both (x ∷ xs) (x' ∷ xs') ys ys' (h, hs) g = (h, declare_both xs xs' ys ys' hs g)

pub define_both : (ds ds' es es' : List ClassDef) → AllDefineSame ds ds' → AllDefineSame es es' → AllDefineSame (ds ++ es) (ds' ++ es')
define_both [] [] es es' h g = g
define_both [] (d' ∷ ds') es es' h g = absurd h
define_both (d ∷ ds) [] es es' h g = absurd h
define_both (d ∷ ds) (d' ∷ ds') es es' (h, hs) g = (h, define_both ds ds' es es' hs g)

module _ (f : Place → Place) where
  -- Features

  names_renamed : (fs : List Formal) → formal_names (map (renamed_formal f) fs) ≡ formal_names fs
  names_renamed [] = refl
  names_renamed (a ∷ fs) = λ i. a.name ∷ names_renamed fs i

  types_renamed : (fs : List Formal) → formal_types (map (renamed_formal f) fs) ≡ formal_types fs
  types_renamed [] = refl
  types_renamed (a ∷ fs) = λ i. a.declared.name ∷ types_renamed fs i

  declares_renamed : (x : Feature) → DeclareSame x (renamed_feature f x)
  declares_renamed (Method m) = (refl, types_renamed m.formals, refl, names_renamed m.formals)
  declares_renamed (Attribute a) = (refl, refl)

  -- the renamed tokens of features are features that declare the same
  record MovedFeatures (fs : Features) : Type 0 where
    pub now : Features
    pub shaped : AreShapedFeatures now
    pub reads : features_reading now ≡ map (renamed_token f) (features_reading fs)
    pub same : AllDeclareSame (plain_features fs) (plain_features now)

  features_moved : (fs : Features) → AreShapedFeatures fs → MovedFeatures fs
  features_moved NoFeature shaped = record { now = NoFeature; shaped = tt; reads = refl; same = tt }
  features_moved (Another before e) (shaped, here) =
      let first = features_moved before shaped in
      let last = feature_renamed f (feature_reading e) (plain_feature e)
      (record { feature = e; shaped = here; reads = refl; plain = refl }) in
      record {
        now = Another first.now last.feature;
        shaped = (first.shaped, last.shaped);
        reads = (λ i. first.reads i ++ last.reads i)
            ∙ sym (map-append (renamed_token f) (features_reading before) (feature_reading e));
        same = declare_both (plain_features before) (plain_features first.now) (plain_feature e ∷ []) (plain_feature last.feature ∷ [])
            first.same
            (subst (DeclareSame (plain_feature e)) (sym last.plain) (declares_renamed (plain_feature e)), tt);
      }

  -- Headings

  abbrev renamed_parent : Parent → Parent
  renamed_parent NoParent = NoParent
  renamed_parent (Inherits at class) = Inherits (f at) (renamed_type f class)

  abbrev renamed_heading : Heading → Heading
  renamed_heading h = record { mark = f h.mark; name = h.name; at = f h.at; parent = renamed_parent h.parent; lbrace = f h.lbrace }

  parent_renamed : (p : Parent) → parent_reading (renamed_parent p) ≡ map (renamed_token f) (parent_reading p)
  parent_renamed NoParent = refl
  parent_renamed (Inherits at class) = refl

  heading_renamed : (h : Heading) → heading_reading (renamed_heading h) ≡ map (renamed_token f) (heading_reading h)
  heading_renamed h = simp (map-append, parent_renamed h.parent) refl

  parent_named : (p : Parent)
      → option_map (λ (r : TypeRef). r.name) (plain_parent (renamed_parent p)) ≡ option_map (λ (r : TypeRef). r.name) (plain_parent p)
  parent_named NoParent = refl
  parent_named (Inherits at class) = refl

  -- Files

  -- the renamed tokens of a file are a file that defines the same
  record MovedFile (file : Classes) : Type 0 where
    pub now : Classes
    pub shaped : IsShapedFile now
    pub reads : file_reading now ≡ map (renamed_token f) (file_reading file)
    pub same : AllDefineSame (plain_file file) (plain_file now)

  four : (a b c d : List Token)
      → map (renamed_token f) (a ++ b ++ c ++ d)
      ≡ map (renamed_token f) a ++ map (renamed_token f) b ++ map (renamed_token f) c ++ map (renamed_token f) d
  four a b c d = simp (map-append) refl

  file_renamed : (file : Classes) → IsShapedFile file → MovedFile file
  file_renamed NoClass shaped = record { now = NoClass; shaped = tt; reads = refl; same = tt }
  file_renamed (Class before h fs rbrace semi) (shaped, here) =
      let first = file_renamed before shaped in
      let last = features_moved fs here in
      let closed = symbol sign.RBrace rbrace ∷ symbol sign.Semi semi ∷ [] in
      record {
        now = Class first.now (renamed_heading h) last.now (f rbrace) (f semi);
        shaped = (first.shaped, last.shaped);
        reads = (λ i. first.reads i ++ heading_renamed h i ++ last.reads i
            ++ symbol sign.RBrace (f rbrace) ∷ symbol sign.Semi (f semi) ∷ [])
            ∙ sym (four (file_reading before) (heading_reading h) (features_reading fs) closed);
        same = define_both (plain_file before) (plain_file first.now) (plain_class h fs ∷ [])
            (plain_class (renamed_heading h) last.now ∷ [])
            first.same
            ((refl, parent_named h.parent, last.same), tt);
      }

pub file_moved : (file low : ℕ) (before now : List Token) (ds : List ClassDef) → Parses before ds → AreRising file low before
    → kinds now ≡ kinds before → (ds' : List ClassDef) × Parses now ds' × AllDefineSame ds ds'
file_moved file low before now ds parses rising same =
    let d : Place = record { file = 0; line = 0; byte = 0 } in
    let f = renaming d before now in
    let moved = file_renamed f parses.0 parses.1 in
    let reads : file_reading moved.now ≡ now =
    moved.reads ∙ (ap (map (renamed_token f)) parses.2 ∙ renames d file low before now rising same) in (
      plain_file moved.now,
      (moved.now, moved.shaped, reads, refl),
      subst (λ (es : List ClassDef). AllDefineSame es (plain_file moved.now)) parses.3 moved.same,
    )
