-- A class is an ancestor of another class, or the same, exactly if the tag of the other class is in the first class's range of tags.
use Rattle.std.proofs.Common.{◌≡◌, ℕ, zero, suc, ◌+◌, ◌<◌, ◌≤◌, List, [], ◌∷◌, ◌++◌, length, Some, Bool, true, false, ap, sym, ◌∙◌, refl, subst, arith, length-append, Contains}
use Rattle.std.specs.Prelude.{nat_eq, if◌then◌else◌}
use Rattle.std.specs.List.{AllByRecursion}
use Rattle.std.proofs.lemmas.Bool.{eqb-true, eqb-false}
use Rattle.cool_classes.specs.declared.class_id.ClassId.{ClassId}
use Rattle.cool_classes.specs.Chains.{Class}
use Rattle.cool_classes.specs.ClimbedChains.{chain}
use Rattle.cool_classes.specs.Tables.{IsWholeTable}
use Rattle.cool_classes.proofs.ChainsOfTables.{chain_is}
use Rattle.cool_classes.proofs.Climbs.{chain_unique}
use Rattle.cool_layout.specs.Preorder.{tag, last_tag, family, preorder}
use Rattle.cool_layout.specs.Tags.{AreTags}
use Rattle.cool_layout.proofs.ShortChains.{chain_in}
use Rattle.cool_layout.proofs.TagRanges.{are_tags, tag_cut, preorder_long, head_first}
use Rattle.cool_simulation.proofs.forms.BranchOrder.{among}
use Rattle.std.proofs.lemmas.List.Elements.{Contains-append_right}
use Rattle.cool_emit.proofs.RootedTables.{rooted}

pub among_there : (ds : List ClassId) (c : ClassId) → among ds c ≡ true → Contains ds c
among_there [] c e = absurd (cc)
among_there (d ∷ ds) c e = by (nat_eq c.0 d.0) refl e (λ f. Contains-append_right (d ∷ []) ds c (among_there ds c f))
  where
    by : (b : Bool) → nat_eq c.0 d.0 ≡ b → (if b then true else among ds c) ≡ true → (among ds c ≡ true → Contains (d ∷ ds) c) → Contains (d ∷ ds) c
    by true t e more = let n : c.0 ≡ d.0 = eqb-true c.0 d.0 t in (0, omega arith, ap (λ (k : ℕ). record { 0 = k }) (sym n))
    by false t e more = more e

there_among : (ds : List ClassId) (c : ClassId) → Contains ds c → among ds c ≡ false → ⊥
there_among [] c (k, l, e) f = absurd (omega arith)
there_among (d ∷ ds) c (zero, l, e) f = by (nat_eq c.0 d.0) refl f
  where
    by : (b : Bool) → nat_eq c.0 d.0 ≡ b → (if b then true else among ds c) ≡ false → ⊥
    by true t f = absurd (cc)
    by false t f = let n : d.0 ≡ c.0 = ap (λ (x : ClassId). x.0) e in eqb-false c.0 d.0 t (sym n)
there_among (d ∷ ds) c (suc k, l, e) f = by (nat_eq c.0 d.0) f (λ g. there_among ds c (k, omega arith, e) g)
  where
    by : (b : Bool) → (if b then true else among ds c) ≡ false → (among ds c ≡ false → ⊥) → ⊥
    by true f more = absurd (cc)
    by false f more = more f

module _ (p : List Class) (whole : IsWholeTable p) where
  tags : AreTags p
  tags = are_tags p (rooted p whole)

  pub fits_tag : (c j : ClassId) → c.0 < length p → j.0 < length p → among (chain p j) c ≡ true → (tag p c ≤ tag p j) × (tag p j ≤ last_tag p c)
  fits_tag c j c_in j_in e = tags.below c j c_in j_in (chain p j, chain_is p j whole.table j_in, among_there (chain p j) c e)

  pub other_tag : (c j : ClassId) → c.0 < length p → j.0 < length p → among (chain p j) c ≡ false → tag p c ≤ tag p j → tag p j ≤ last_tag p c → ⊥
  other_tag c j c_in j_in e low high =
      let (ds, is, there) = tags.only_below c j c_in j_in low high in
      there_among (chain p j) c (subst (λ (xs : List ClassId). Contains xs c) (chain_unique p (Some j) ds (chain p j) is (chain_is p j whole.table j_in)) there) e

  pub tag_low : (c : ClassId) → c.0 < length p → tag p c < length p
  tag_low c within = tags.low c within

  pub last_low : (c : ClassId) → c.0 < length p → (tag p c ≤ last_tag p c) × (last_tag p c < length p)
  last_low c within =
      let r = rooted p whole in
      let cut = tag_cut p r c within in
      let front = cut.0 in
      let back = cut.1 in
      let all : length (preorder p) ≡ length front + (length (family p c) + length back) =
      ap length cut.2 ∙ length-append front (family p c ++ back) ∙ ap (λ n. length front + n) (length-append (family p c) back) in
      let first : tag p c ≡ length front = cut.3 in
      let long : length (preorder p) ≡ length p = preorder_long p r in
      let some : 1 ≤ length (family p c) = (head_first p r c within).2 in
      (omega arith, omega arith)

  pub chain_all : (j : ClassId) → j.0 < length p → AllByRecursion (λ (d : ClassId). d.0 < length p) (chain p j)
  chain_all j within = chain_in p (rooted p whole) (Some j) within (chain p j) (chain_is p j whole.table within)
