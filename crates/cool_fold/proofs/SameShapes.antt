-- If look-ups in two class tables have the same results (`FindSame`), the tables agree on ancestors of classes, names in scope, types of names, least common
-- ancestors and methods.
use Rattle.std.proofs.Common.{◌≡◌, ℕ, zero, suc, List, [], ◌∷◌, map, length, Option, Some, None, Bool as Truth, refl, ap, ◌∙◌, arith}
use Rattle.std.specs.Prelude.{bytes_eq, unwrap_or, option_map, is_some, if◌then◌else◌, ◌&&◌, ◌||◌}
use Rattle.std.specs.List.{list_any}
use Rattle.cool_syntax.specs.declared.file_tree.Formal.{Formal}
use Rattle.cool_classes.specs.declared.class_id.ClassId.{ClassId}
use Rattle.cool_classes.specs.declared.class_id.Ty.{Ty}
use Rattle.cool_classes.specs.declared.class_id.Ty.TheVariants.{Class as IsClass, SelfType}
use Rattle.cool_classes.specs.declared.method.BasicMethod.TheVariants.{Abort}
use Rattle.cool_classes.specs.declared.method.MethodRef.{MethodRef}
use Rattle.cool_classes.specs.declared.method.MethodRef.TheVariants.{Basic, User}
use Rattle.cool_classes.specs.declared.method.AttributeRef.{AttributeRef}
use Rattle.cool_classes.specs.Chains.{Class, class_number, name_of, parent_of}
use Rattle.cool_classes.specs.ClimbedChains.{climbed, above, chain}
use Rattle.cool_classes.specs.Features.{own_method, implementation, attributes_of, attribute_name, result_of}
use Rattle.cool_classes.specs.Names.{self_type, first_named}
use Rattle.cool_classes.proofs.AlikeTables.{FindSame}
use Rattle.cool_classes.proofs.AlikeTablesKept.{implementation_same, attributes_same}
use Rattle.cool_rules.specs.Rules.{is_among, first_among, join_in, class_named, type_of_name, type_meant, method_of, attribute_binding, formal_binding}
use Rattle.cool_rules.specs.Scopes.{Binding}
use Rattle.cool_rules.specs.Typing.{formals_in_scope, attributes_in_scope, result_on}
use Rattle.cool_rules.specs.Meant.{method_in, type_of_call}
use Rattle.cool_rules.specs.NodeTypes.{own_scope}
use Rattle.cool_fold.specs.Folding.{classes_from, defines_below, is_redefined}

-- tables of as many classes, each with the name that it has in the other, have the same names
names_same : (p p' : List Class) → length p' ≡ length p → ((n : ℕ) → name_of p' (record { 0 = n }) ≡ name_of p (record { 0 = n }))
    → map (λ (d : Class). d.name) p' ≡ map (λ (d : Class). d.name) p
names_same [] [] many same = refl
names_same [] (d' ∷ ds') many same = absurd (omega arith)
names_same (d ∷ ds) [] many same = absurd (omega arith)
names_same (d ∷ ds) (d' ∷ ds') many same =
    let rest : length ds' ≡ length ds = omega arith in
    λ i. same zero i ∷ names_same ds ds' rest (λ n. same (suc n)) i

-- two functions that agree everywhere find the same in a list
any_same : {A : Type 0} (f g : A → Truth) (xs : List A) → ((x : A) → f x ≡ g x) → list_any f xs ≡ list_any g xs
any_same f g [] same = refl
any_same f g (x ∷ xs) same = ap (λ (t : Truth). t || list_any f xs) (same x) ∙ ap (λ (t : Truth). g x || t) (any_same f g xs same)

module _ (p p' : List Class) (s : FindSame p p') where
  -- Chains and what stands on them

  climbed_same : (n : ℕ) (o : Option ClassId) → climbed n p' o ≡ climbed n p o
  unfolding climbed
  climbed_same zero o = refl
  climbed_same (suc n) None = refl
  climbed_same (suc n) (Some c) = ap (λ (ds : List ClassId). c ∷ ds) (ap (climbed n p') (s.parents c) ∙ climbed_same n (parent_of p c))

  pub above_same : (c : ClassId) → above p' c ≡ above p c
  unfolding above
  above_same c =
      ap (λ (n : ℕ). climbed n p' (parent_of p' c)) s.count ∙ (ap (climbed (length p) p') (s.parents c) ∙ climbed_same (length p) (parent_of p c))

  pub chain_same : (c : ClassId) → chain p' c ≡ chain p c
  unfolding chain
  chain_same c = ap (λ (ds : List ClassId). c ∷ ds) (above_same c)

  -- Types that names mean

  pub classes_same : (name : List ℕ) → class_named p' name ≡ class_named p name
  classes_same name =
      ap (λ (names : List (List ℕ)). first_named 0 names name) (names_same p p' s.count (λ n. s.names (record { 0 = n })))

  pub meant_same : (name : List ℕ) → type_meant p' name ≡ type_meant p name
  unfolding type_meant type_of_name
  meant_same name =
      ap (λ (o : Option ClassId). unwrap_or (if bytes_eq name self_type then Some SelfType else option_map IsClass o) (IsClass (class_number 0)))
      (classes_same name)

  pub formal_scope_same : (fs : List Formal) → formals_in_scope p' fs ≡ formals_in_scope p fs
  formal_scope_same [] = refl
  formal_scope_same (f ∷ fs) =
      ap (λ (t : Ty). record { name = f.name; value = t } ∷ formals_in_scope p' fs) (meant_same f.declared.name)
      ∙ ap (λ (bs : List Binding). formal_binding p f ∷ bs) (formal_scope_same fs)

  attribute_same : (r : AttributeRef) → attribute_binding p' r ≡ attribute_binding p r
  attribute_same r =
      ap (λ (n : List ℕ). record { name = n; value = type_meant p' (result_of p' (User r.owner r.index)) }) (s.attribute_names r)
      ∙ ap (λ (t : Ty). record { name = attribute_name p r; value = t })
      (ap (type_meant p') (s.results (User r.owner r.index)) ∙ meant_same (result_of p (User r.owner r.index)))

  attributes_scope_same : (rs : List AttributeRef) → attributes_in_scope p' rs ≡ attributes_in_scope p rs
  attributes_scope_same [] = refl
  attributes_scope_same (r ∷ rs) =
      ap (λ (b : Binding). b ∷ attributes_in_scope p' rs) (attribute_same r)
      ∙ ap (λ (bs : List Binding). attribute_binding p r ∷ bs) (attributes_scope_same rs)

  -- the attributes of the classes of a chain, in scope
  pub chain_scope_same : (ds : List ClassId) → attributes_in_scope p' (attributes_of p' ds) ≡ attributes_in_scope p (attributes_of p ds)
  chain_scope_same ds = ap (attributes_in_scope p') (attributes_same p p' s ds) ∙ attributes_scope_same (attributes_of p ds)

  pub own_scope_same : (c : ClassId) → own_scope p' c ≡ own_scope p c
  own_scope_same c = ap (λ (ds : List ClassId). attributes_in_scope p' (attributes_of p' ds)) (chain_same c) ∙ chain_scope_same (chain p c)

  pub join_same : (c : ClassId) (a b : Ty) → join_in p' c a b ≡ join_in p c a b
  unfolding join_in
  join_same c SelfType SelfType = refl
  join_same c SelfType (IsClass b) = λ i. IsClass (first_among (chain_same c i) (chain_same b i))
  join_same c (IsClass a) SelfType = λ i. IsClass (first_among (chain_same a i) (chain_same c i))
  join_same c (IsClass a) (IsClass b) = λ i. IsClass (first_among (chain_same a i) (chain_same b i))

  -- Methods

  method_in_same : (c : ClassId) (name : List ℕ) → method_in p' c name ≡ method_in p c name
  unfolding method_of
  method_in_same c name =
      ap (λ (o : Option MethodRef). unwrap_or o (Basic Abort))
      (ap (λ (ds : List ClassId). implementation p' ds name) (chain_same c) ∙ implementation_same p p' s (chain p c) name)

  pub call_same : (c : ClassId) (receiver : Ty) (name : List ℕ) → type_of_call p' c receiver name ≡ type_of_call p c receiver name
  call_same c receiver name =
      ap (λ (m : MethodRef). result_on receiver (type_meant p' (result_of p' m))) (method_in_same c name)
      ∙ (ap (λ (n : List ℕ). result_on receiver (type_meant p' n)) (s.results (method_in p c name))
      ∙ ap (result_on receiver) (meant_same (result_of p (method_in p c name))))

  defines_same : (k : ClassId) (name : List ℕ) (d : ClassId) → defines_below p' k name d ≡ defines_below p k name d
  defines_same k name d =
      ap (λ (ds : List ClassId). is_among ds k && is_some (own_method p' d name)) (above_same d)
      ∙ ap (λ (o : Option MethodRef). is_among (above p d) k && is_some o) (s.methods d name)

  pub redefined_same : (k : ClassId) (name : List ℕ) → is_redefined p' k name ≡ is_redefined p k name
  redefined_same k name =
      ap (λ (n : ℕ). list_any (defines_below p' k name) (classes_from 0 n)) s.count
      ∙ any_same (defines_below p' k name) (defines_below p k name) (classes_from 0 (length p)) (defines_same k name)
