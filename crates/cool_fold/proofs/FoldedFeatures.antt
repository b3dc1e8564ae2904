-- The expression of each folded feature of a class table without type errors conforms to the declared type, and nothing is left to fold in it.
use Rattle.std.proofs.Common.{◌≡◌, ◌++◌, ℕ, ◌<◌, List, [], length, Option, Some, None, ap, sym, subst}
use Rattle.std.specs.Prelude.{slice_get}
use Rattle.cool_syntax.specs.declared.file_tree.Feature.{Feature}
use Rattle.cool_syntax.specs.declared.file_tree.Feature.TheVariants.{Attribute}
use Rattle.cool_syntax.specs.declared.file_tree.Feature.TheVariants.{Method}
use Rattle.cool_classes.specs.declared.class_id.ClassId.{ClassId}
use Rattle.cool_classes.specs.Chains.{Class, features_of}
use Rattle.cool_rules.specs.Scopes.{AreTypes, Binding}
use Rattle.cool_rules.specs.Typing.{HasType}
use Rattle.cool_rules.specs.Typing.{FitsDeclared, IsTypedInit, formals_in_scope, attributes_in_scope}
use Rattle.cool_rules.specs.TypedTables.{IsTypedTable}
use Rattle.cool_classes.specs.ClimbedChains.{chain as chain_of}
use Rattle.cool_syntax.specs.Tree.{Tree}
use Rattle.cool_classes.specs.Features.{attributes_of}
use Rattle.cool_classes.proofs.ChainsOfTables.{chain_of as chain_by}
use Rattle.cool_rules.specs.NodeTypes.{own_scope}
use Rattle.cool_fold.specs.Folding.{fold}
use Rattle.cool_fold.specs.Foldable.{IsDone}
use Rattle.cool_fold.proofs.FoldedTypes.{still_typed}
use Rattle.cool_fold.specs.Shrinking.{shrunk}
use Rattle.cool_fold.proofs.NothingLeft.{is_done}
use Rattle.cool_fold.proofs.ShrinkingFolds.{shrunk_is}
use Rattle.cool_fold.proofs.TypesInScope.{scope_typed}
use Rattle.cool_rules.proofs.TypesAreTypes.{formals_are_types}

-- a declared expression, folded in its scope, still fits, and nothing is left to fold; the code folds it to the same
pub record FoldsDeclared (p : List Class) (c : ClassId) (inner : List Binding) (e : Tree) (declared : List ℕ) : Type 0 where
  pub fits : FitsDeclared p c inner (fold p c (inner ++ own_scope p c) e) declared
  pub done : IsDone p c (inner ++ own_scope p c) (fold p c (inner ++ own_scope p c) e)
  pub same : shrunk p c (inner ++ own_scope p c) e ≡ fold p c (inner ++ own_scope p c) e

abbrev pub FoldsInit : List Class → ClassId → List ℕ → Option Tree → Type 0
FoldsInit p c declared None = Unit {0}
FoldsInit p c declared (Some e) = FoldsDeclared p c [] e declared

abbrev pub FoldsFeature : List Class → ClassId → Feature → Type 0
FoldsFeature p c (Method m) = FoldsDeclared p c (formals_in_scope p m.formals) m.body m.result.name
FoldsFeature p c (Attribute a) = FoldsInit p c a.declared.name a.init

module _ (p : List Class) (typed : IsTypedTable p) where
  declared_folds : (c : ClassId) → c.0 < length p → (inner : List Binding) → AreTypes p inner → (e : Tree) (declared : List ℕ) → FitsDeclared p c inner e declared → FoldsDeclared p c inner e declared
  declared_folds c within inner inner_types e declared f =
      let same : chain_of p c ≡ f.chain = chain_by p c f.chain f.is_chain in
      let scope_same : inner ++ attributes_in_scope p (attributes_of p f.chain) ≡ inner ++ own_scope p c = ap (λ (ds : List ClassId). inner ++ attributes_in_scope p (attributes_of p ds)) (sym same) in
      let types = scope_typed p typed.whole c inner inner_types in
      let has : HasType p c (inner ++ own_scope p c) e f.type = subst (λ (s : List Binding). HasType p c s e f.type) scope_same f.has in
      record {
        fits = record {
          chain = f.chain;
          is_chain = f.is_chain;
          type = f.type;
          result = f.result;
          has = subst (λ (s : List Binding). HasType p c s (fold p c (inner ++ own_scope p c) e) f.type) (sym scope_same) (still_typed p typed.whole c within e (inner ++ own_scope p c) f.type types has);
          denotes = f.denotes;
          conforms = f.conforms;
        };
        done = is_done p typed.whole c within e (inner ++ own_scope p c) f.type types has;
        same = shrunk_is p typed.whole c within e (inner ++ own_scope p c) f.type types has;
      }

  -- every feature of a typed table
  pub feature_folds : (c : ClassId) (i : ℕ) (x : Feature) → c.0 < length p → slice_get (features_of p c) i ≡ Some x → FoldsFeature p c x
  feature_folds c i (Method m) within there =
      declared_folds c within (formals_in_scope p m.formals) (formals_are_types p typed.whole m.formals) m.body m.result.name (typed.features c i (Method m) within there)
  feature_folds c i (Attribute a) within there = by a.init (typed.features c i (Attribute a) within there)
    where
      by : (o : Option Tree) → IsTypedInit p c a.declared.name o → FoldsInit p c a.declared.name o
      by None h = tt
      by (Some e) h = declared_folds c within [] tt e a.declared.name h
