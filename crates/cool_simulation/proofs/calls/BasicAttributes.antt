-- The basic classes have no attributes.
use Rattle.std.proofs.Common.{◌≡◌, ◌⊎◌, inl, inr, ℕ, zero, suc, ◌<◌, List, [], ◌++◌, length, get_or, Some, None, ap, sym, ◌∙◌, refl, arith}
use Rattle.std.proofs.lemmas.List.{get_or-take}
use Rattle.cool_classes.specs.declared.class_id.ClassId.{ClassId}
use Rattle.cool_classes.specs.declared.method.AttributeRef.{AttributeRef}
use Rattle.cool_classes.specs.Chains.{Class, class_number, nothing, parent_of, features_of}
use Rattle.cool_classes.specs.Features.{own_attributes}
use Rattle.cool_classes.specs.Tables.{basic_classes}
use Rattle.cool_rules.specs.TypedTables.{IsTypedTable}
use Rattle.cool_layout.proofs.AttributePlaces.{attributes_step, attributes_top}
use Rattle.cool_emit.proofs.RootedTables.{rooted}
use Rattle.cool_meaning.specs.Lookups.{attributes}
use Rattle.cool_simulation.proofs.calls.FeaturesHere.{no_features}

basic_above : (n : ℕ) → n < 5 → ((get_or basic_classes n nothing).parent ≡ None) ⊎ ((get_or basic_classes n nothing).parent ≡ Some (class_number 0))
basic_above zero less = inl refl
basic_above (suc zero) less = inr refl
basic_above (suc (suc zero)) less = inr refl
basic_above (suc (suc (suc zero))) less = inr refl
basic_above (suc (suc (suc (suc zero)))) less = inr refl
basic_above (suc (suc (suc (suc (suc n))))) less = absurd (omega arith)

module _ (p : List Class) (typed : IsTypedTable p) where
  parent_is : (c : ClassId) → c.0 < 5 → parent_of p c ≡ (get_or basic_classes c.0 nothing).parent
  parent_is c less = ap (λ (x : Class). x.parent) (sym (get_or-take 5 p c.0 nothing less) ∙ ap (λ (cs : List Class). get_or cs c.0 nothing) typed.whole.table.basic)

  top_empty : (c : ClassId) → c.0 < length p → c.0 < 5 → parent_of p c ≡ None → attributes p c ≡ []
  top_empty c within less e = attributes_top p (rooted p typed.whole) c within e ∙ ap (own_attributes c 0) (no_features p typed c less)

  pub no_attributes : (c : ClassId) → c.0 < length p → c.0 < 5 → attributes p c ≡ []
  no_attributes c within less = by (basic_above c.0 less)
    where
      by : ((get_or basic_classes c.0 nothing).parent ≡ None) ⊎ ((get_or basic_classes c.0 nothing).parent ≡ Some (class_number 0)) → attributes p c ≡ []
      by (inl e) = top_empty c within less (parent_is c less ∙ e)
      by (inr e) =
          let above = parent_is c less ∙ e in
          let some : (class_number 0).0 < length p = (typed.whole.grounded.above c (class_number 0) within above).0 in
          attributes_step p (rooted p typed.whole) c (class_number 0) within above
          ∙ ap (λ (rs : List AttributeRef). rs ++ own_attributes c 0 (features_of p c)) (top_empty (class_number 0) some (omega arith) (parent_is (class_number 0) (omega arith)))
          ∙ ap (own_attributes c 0) (no_features p typed c less)
