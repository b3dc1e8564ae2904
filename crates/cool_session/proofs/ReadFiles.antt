-- Files that reach type checking have tokens, syntax trees, and a class table that is theirs except for source locations, bodies and initial values. The stored
-- results of the features of their table are those of the exact table.
use Rattle.std.proofs.Common.{◌≡◌, ℕ, List, [], ◌∷◌, map, drop, Option, Some, None, refl, sym, ap, ◌∙◌, subst, codes}
use Rattle.cool_syntax.specs.declared.type_ref.TypeRef.{TypeRef}
use Rattle.cool_syntax.specs.declared.file_tree.ClassDef.{ClassDef}
use Rattle.cool_lexer.specs.declared.lexer.Lexed.{Lexed}
use Rattle.cool_classes.specs.declared.class_id.ClassId.{ClassId}
use Rattle.cool_classes.specs.Chains.{Class, name_of}
use Rattle.cool_classes.specs.ClassFaults.{classes_meant}
use Rattle.cool_classes.specs.Declarations.{AreAllAlike}
use Rattle.cool_classes.specs.Definitions.{definitions, InheritsAs, AreDefinedBy}
use Rattle.cool_faults.specs.declared.fault.Untyped.{Untyped}
use Rattle.cool_faults.specs.Untyped.{IsUntyped}
use Rattle.cool_faults.proofs.SyntaxFaults.{are_trees}
use Rattle.cool_faults.proofs.VerdictsOfPhases.{files_whole}
use Rattle.cool_session.specs.declared.base.KeptFault.{KeptFault}
use Rattle.cool_session.specs.Bases.{views, parent_in, table_signature, table_signatures}
use Rattle.cool_session.specs.FeatureTokens.{AreFeatures}
use Rattle.cool_session.specs.KeptChecks.{IsRead, results_of, AreKept, IsBaseOf}
use Rattle.cool_session.specs.KeptFaults.{members, results, AreKeptOf}
use Rattle.cool_session.specs.NewFeatures.{runs_seen}
use Rattle.cool_session.specs.Signatures.{feature_signature, parent_name, signatures}
use Rattle.cool_session.proofs.ChecksAfterEdits.{member_features}
use Rattle.cool_session.proofs.TypedFiles.{are_features}
use Rattle.cool_classes.proofs.SwappedBodies.{all_alike_self}
use Rattle.cool_session.proofs.DefinitionsKept.{features_same}

-- The signatures of a table

parent_seen : (p : List Class) (o : Option TypeRef) (q : Option ClassId) → name_of p (record { 0 = 0 }) ≡ codes "Object" → InheritsAs p o q
    → parent_name o ≡ parent_in p q
parent_seen p None q object is = sym (ap (parent_in p) is ∙ object)
parent_seen p (Some r) None object is = absurd is
parent_seen p (Some r) (Some q) object (within, named) = sym named

signatures_seen : (p : List Class) (ds : List ClassDef) (cs : List Class) → name_of p (record { 0 = 0 }) ≡ codes "Object" → AreDefinedBy p ds cs
    → signatures ds ≡ map (table_signature p) cs
signatures_seen p [] [] object h = refl
signatures_seen p [] (c ∷ cs) object h = absurd h
signatures_seen p (d ∷ ds) [] object h = absurd h
signatures_seen p (d ∷ ds) (c ∷ cs) object ((named, features, parent), hs) =
    λ i.
    record { name = sym named i; parent = parent_seen p d.parent c.parent object parent i; features = map feature_signature (sym features i) }
    ∷ signatures_seen p ds cs object hs i

-- Alike classes

-- they are seen to be the same
pub views_alike : (q p : List Class) → AreAllAlike q p → views p ≡ views q
views_alike [] [] h = refl
views_alike [] (e ∷ p) h = absurd h
views_alike (d ∷ q) [] h = absurd h
views_alike (d ∷ q) (e ∷ p) ((name, parent, features), hs) =
    λ i. record { name = name i; parent = parent i; features = features_same d.features e.features features i } ∷ views_alike q p hs i

pub views_read : (files : List (List ℕ)) (ls : List Lexed) (p : List Class) (h : IsRead files ls p)
    → views p ≡ views (classes_meant (definitions h.trees))
views_read files ls p h = views_alike (classes_meant (definitions h.trees)) p h.alike

-- Files before typing are read

module _ (files : List (List ℕ)) (u : Untyped) (h : IsUntyped files u) where
  signed : table_signatures u.classes ≡ signatures (definitions h.trees)
  signed =
      sym (signatures_seen u.classes (definitions h.trees) (drop 5 u.classes) (ap (λ (p : List Class). name_of p (record { 0 = 0 })) h.meant) h.of)

  pub read_of : IsRead files u.lexed.items u.classes
  read_of = record {
    lexed = h.lexed;
    trees = h.trees;
    are_trees = are_trees 0 files h.trees (files_whole files u.lexed.items h.trees h.lexed h.parsed);
    classes = h.classes;
    features = h.features;
    alike = subst (AreAllAlike (classes_meant (definitions h.trees))) (sym h.meant) (all_alike_self (classes_meant (definitions h.trees)));
    signed = signed;
  }

  -- their table is the exact one
  pub meant_of : u.classes ≡ classes_meant (definitions read_of.trees)
  unfolding read_of
  meant_of = h.meant

  -- the runs of their tokens are the features of their table
  pub own_features : AreFeatures (runs_seen u) (member_features (members u.classes))
  own_features =
      subst (λ (p : List Class). AreFeatures (runs_seen u) (member_features (members p))) (sym meant_of)
      (are_features files u.lexed.items u.classes read_of)

  -- the results stored for them
  pub kept_of : (kept : List (Option KeptFault)) → AreKept u kept → AreKeptOf (runs_seen u) (results_of read_of.trees) kept
  kept_of kept are = subst (λ (p : List Class). AreKeptOf (runs_seen u) (results p) kept) meant_of are

  pub base_of : (kept : List (Option KeptFault)) → AreKept u kept → IsBaseOf files u kept
  base_of kept are = record { read = read_of; kept = kept_of kept are }
