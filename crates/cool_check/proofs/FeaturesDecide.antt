-- If the names that a feature declares are different, the typing rules accept the feature exactly if the type checker finds no fault (type error) in it.
use Rattle.std.proofs.Common.{◌≡◌, ◌<◌, ℕ, List, [], ◌∷◌, ◌++◌, map, length, Option, Some, None, sym, refl, subst}
use Rattle.std.specs.Prelude.{Ok}
use Rattle.cool_syntax.specs.declared.file_tree.Feature.{Feature}
use Rattle.cool_syntax.specs.declared.file_tree.Feature.TheVariants.{Method, Attribute}
use Rattle.cool_syntax.specs.declared.file_tree.AttributeDef.{AttributeDef}
use Rattle.cool_syntax.specs.declared.place.Place.{Place}
use Rattle.cool_syntax.specs.Tree.{Tree}
use Rattle.cool_classes.specs.declared.class_id.ClassId.{ClassId}
use Rattle.cool_classes.specs.declared.class_id.Ty.{Ty}
use Rattle.cool_classes.specs.Chains.{Class}
use Rattle.cool_classes.specs.ClimbedChains as climbed
use Rattle.cool_classes.specs.Features.{Denotes, attributes_of}
use Rattle.cool_classes.specs.LawfulTables.{HasDifferentFormals}
use Rattle.cool_classes.specs.Tables.{IsTypeName, IsTyped, IsWholeTable}
use Rattle.cool_classes.proofs.Climbs.{chain_unique}
use Rattle.cool_classes.proofs.ChainsOfTables.{chain_is}
use Rattle.cool_rules.specs.Conformance.{IsType, Conforms}
use Rattle.cool_rules.specs.NodeTypes.{own_scope}
use Rattle.cool_rules.specs.Rules.{formal_binding, type_meant}
use Rattle.cool_rules.specs.Scopes.{AreTypes, Binding, entered}
use Rattle.cool_rules.specs.Typing.{HasType, attributes_in_scope, FitsDeclared, IsTypedInit, IsTypedFeature}
use Rattle.cool_rules.proofs.EnteredScopes.{NamesDiffer, entered_types, entered_beside, formals_differ}
use Rattle.cool_rules.proofs.RulesOfTables.{type_meant_is}
use Rattle.cool_rules.proofs.ScopesMoved.{AreSame, moved}
use Rattle.cool_rules.proofs.TypesAreTypes.{attributes_are_types, formals_are_types}
use Rattle.cool_rules.proofs.TypesOfMethods.{expression_type}
use Rattle.cool_check.specs.declared.fault.TypingRule.{TypingRule}
use Rattle.cool_check.specs.declared.fault.TypingRule.TheVariants as typing
use Rattle.cool_check.specs.declared.fault.TypeKind.{TypeKind}
use Rattle.cool_check.specs.declared.fault.TypeKind.TheVariants.{E17, E18}
use Rattle.cool_check.specs.Contexts.{attribute_bindings}
use Rattle.cool_check.specs.FirstFaults.{and_then, fits, checked}
use Rattle.cool_check.specs.TypingFaults.{class_context, initial_checked, feature_checked}
use Rattle.cool_check.proofs.CheckedDecides.{IsDecided, decided_as, bind_decided, ok_decided, conform_decided, checked_decides}

module _ (p : List Class) (whole : IsWholeTable p) (c : ClassId) (within : c.0 < length p) where
  -- the type that a name of the table means is the one that it denotes
  meant_denotes : (name : List ℕ) → IsTypeName p name → Denotes p name (type_meant p name)
  meant_denotes name (t, denotes) = subst (λ (x : Ty). Denotes p name x) (type_meant_is p name t whole.table denotes) denotes

  pub own_types : AreTypes p (attribute_bindings p c)
  own_types = entered_types (IsType p) (own_scope p c) [] (attributes_are_types p whole (attributes_of p (climbed.chain p c))) tt

  back : (s t : List Binding) → AreSame s t → AreSame t s
  back s t h = λ name. sym (h name)

  -- an expression conforms to what a feature declares
  declared_decided : (bs : List Binding) (rule : TypingRule) (kind : TypeKind) (at : Place) (e : Tree) (name : List ℕ) → NamesDiffer (own_scope p c) → NamesDiffer bs → AreTypes p bs → IsTypeName p name
      → IsDecided {A = Unit {0}} (and_then (checked (class_context p c) (entered bs []) e) (λ t. fits (class_context p c) t (type_meant p name) rule kind at (Ok tt))) (λ u. FitsDeclared p c bs e name)
  declared_decided bs rule kind at e name differ different types named = decided_as
      (λ u w. let (t, has, (conforms, unit)) = w in record {
        chain = climbed.chain p c;
        is_chain = chain_is p c whole.table within;
        type = t;
        result = type_meant p name;
        has = moved p c e (entered bs [] ++ attribute_bindings p c) (bs ++ attributes_in_scope p (attributes_of p (climbed.chain p c))) t (entered_beside bs (own_scope p c) different differ) has;
        denotes = meant_denotes name named;
        conforms = conforms;
      })
      (λ u f.
      let same : f.chain ≡ climbed.chain p c = chain_unique p (Some c) f.chain (climbed.chain p c) f.is_chain (chain_is p c whole.table within) in
      let has : HasType p c (bs ++ attributes_in_scope p (attributes_of p (climbed.chain p c))) e f.type = subst (λ (ds : List ClassId). HasType p c (bs ++ attributes_in_scope p (attributes_of p ds)) e f.type) same f.has in (
        f.type,
        moved p c e (bs ++ attributes_in_scope p (attributes_of p (climbed.chain p c))) (entered bs [] ++ attribute_bindings p c) f.type
            (back (entered bs [] ++ attribute_bindings p c) (bs ++ attributes_in_scope p (attributes_of p (climbed.chain p c))) (entered_beside bs (own_scope p c) different differ)) has,
        (subst (λ (t : Ty). Conforms p c f.type t) (type_meant_is p name f.result whole.table f.denotes) f.conforms, refl),
      ))
      (bind_decided (checked_decides (class_context p c) whole within own_types e (entered bs []) (entered_types (IsType p) bs [] types tt)) (λ t has.
      conform_decided (class_context p c) whole within own_types rule kind at t (type_meant p name)
      (expression_type p whole c within e (entered bs [] ++ attribute_bindings p c) t (both (entered bs []) (entered_types (IsType p) bs [] types tt)) has) (λ k. ok_decided (tt {0}))))
    where
      both : (o : List Binding) → AreTypes p o → AreTypes p (o ++ attribute_bindings p c)
      both [] h = own_types
      both (b ∷ o) h = (h.0, both o h.1)

  init_decided : (a : AttributeDef) (o : Option Tree) → NamesDiffer (own_scope p c) → IsTypeName p a.declared.name → IsDecided (initial_checked (class_context p c) a o) (λ u. IsTypedInit p c a.declared.name o)
  init_decided a None differ named = decided_as (λ u e. tt) (λ u h. refl) (ok_decided (tt {0}))
  init_decided a (Some e) differ named = declared_decided [] typing.Attribute E17 a.at e a.declared.name differ tt tt named

  pub feature_decided : (x : Feature) → NamesDiffer (own_scope p c) → HasDifferentFormals x → IsTyped p x → IsDecided (feature_checked p c x) (λ u. IsTypedFeature p c x)
  feature_decided (Method m) differ names typed =
      declared_decided (map (formal_binding p) m.formals) typing.Method E18 m.at m.body m.result.name differ (formals_differ p m.formals names) (formals_are_types p whole m.formals) typed.2
  feature_decided (Attribute a) differ names typed = init_decided a a.init differ typed
