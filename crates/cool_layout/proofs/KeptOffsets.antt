-- The offset that a `Layout` stores for an attribute is the one that the specification defines (`offset` of `Members.antt`).
use Rattle.std.proofs.Common.{◌≡◌, ◌+◌, ◌*◌, ◌<◌, ℕ, suc, List, [], ◌∷◌, length, refl, get_or, sym, ap, ◌∙◌, arith, Contains}
use Rattle.std.specs.Global.{Vec}
use Rattle.cool_syntax.specs.declared.file_tree.Feature.{Feature}
use Rattle.cool_syntax.specs.declared.file_tree.Feature.TheVariants.{Method, Attribute}
use Rattle.cool_classes.specs.declared.class_id.ClassId.{ClassId}
use Rattle.cool_classes.specs.declared.method.AttributeRef.{AttributeRef}
use Rattle.cool_classes.specs.Chains.{Class, features_of, Below}
use Rattle.cool_classes.specs.ClimbedChains.{chain}
use Rattle.cool_layout.specs.declared.layout.Layout.{Layout}
use Rattle.cool_layout.specs.Layouts.{IsLayoutOf}
use Rattle.cool_layout.specs.Members.{attributes, offset}
use Rattle.cool_layout.specs.Offsets.{offsets_among, above_count}
use Rattle.cool_layout.proofs.ShortChains.{chain_is}
use Rattle.cool_layout.proofs.AttributePlaces.{of_owner, owner_in, owner_offset, same_place, any_contains, own_among}

offsets_long : (above : ℕ) (fs : List Feature) → length (offsets_among above fs) ≡ length fs
offsets_long above [] = refl
offsets_long above (Method m ∷ fs) = ap suc (offsets_long above fs)
offsets_long above (Attribute a ∷ fs) = ap suc (offsets_long (above + 1) fs)

module _ (l : Layout) (p : List Class) (is : IsLayoutOf l p) (c : ClassId) (a : AttributeRef) (within : c.0 < length p) (there : Contains (attributes p c) a) where
  owner_within : a.owner.0 < length p
  owner_within = owner_in p is.rooted a c within there

  pub owner_kept : a.owner.0 < length l.offsets.items
  owner_kept = let s = is.offsets.same in let w = owner_within in omega arith

  module _ (v : Vec ℕ) (read : v ≡ get_or l.offsets.items a.owner.0 v) where
    kept : v.items ≡ offsets_among (above_count p a.owner) (features_of p a.owner)
    kept = ap (λ (x : Vec ℕ). x.items) read ∙ is.offsets.offsets a.owner.0 v owner_within

    pub index_kept : a.index < length v.items
    index_kept =
        let low = (owner_offset p is.rooted a owner_within (of_owner p is.rooted a c within there).1).0 in
        let long : length v.items ≡ length (features_of p a.owner) = ap length kept ∙ offsets_long (above_count p a.owner) (features_of p a.owner) in
        omega arith

    pub offset_kept : get_or v.items a.index 0 ≡ offset p c a
    offset_kept =
        let owned = of_owner p is.rooted a c within there in
        let here : get_or v.items a.index 0 ≡ offset p a.owner a = ap (λ (xs : List ℕ). get_or xs a.index 0) kept ∙ (owner_offset p is.rooted a owner_within owned.1).1 in
        here ∙ ap (λ n. 12 + 4 * n) (sym (same_place p is.rooted a c within (chain p c) (chain_is p is.rooted c within) a.owner owned.0 (own_among p is.rooted a owner_within owned.1)).0)

  pub same_offset : (d : ClassId) → d.0 < length p → Below p d c → offset p c a ≡ offset p d a
  same_offset d d_in (ds, h, on) = ap (λ n. 12 + 4 * n) (sym (same_place p is.rooted a d d_in ds h c on (any_contains a (attributes p c) there)).0)
