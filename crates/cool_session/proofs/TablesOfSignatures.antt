-- Class tables with the same signatures give each class the same context for type checking, and class definitions with the same signatures have such tables.
use Rattle.std.proofs.Common.{◌≡◌, ℕ, zero, suc, ◌+◌, List, [], ◌∷◌, ◌++◌, map, length, get_or, Option, Some, None, Bool, false, refl, sym, ap, ◌∙◌}
use Rattle.std.proofs.lemmas.List.{length-map}
use Rattle.std.specs.Prelude.{bytes_eq, nat_lt, slice_get, option_map, unwrap_or, if◌then◌else◌}
use Rattle.std.proofs.lemmas.Option.{slice_get-map}
use Rattle.cool_syntax.specs.declared.type_ref.TypeRef.{TypeRef}
use Rattle.cool_syntax.specs.declared.file_tree.ClassDef.{ClassDef}
use Rattle.cool_syntax.specs.declared.file_tree.Feature.{Feature}
use Rattle.cool_syntax.specs.declared.file_tree.Feature.TheVariants.{Method, Attribute}
use Rattle.cool_classes.specs.declared.class_id.ClassId.{ClassId}
use Rattle.cool_classes.specs.declared.class_id.Ty.{Ty}
use Rattle.cool_classes.specs.declared.class_id.Ty.TheVariants.{Class as IsClass, SelfType}
use Rattle.cool_classes.specs.declared.method.AttributeRef.{AttributeRef}
use Rattle.cool_classes.specs.declared.method.MethodRef.{MethodRef}
use Rattle.cool_classes.specs.declared.method.MethodRef.TheVariants.{Basic, User}
use Rattle.cool_classes.specs.Chains.{Class, class_number, nothing, class_at, parent_of, features_of}
use Rattle.cool_classes.specs.ClassFaults.{class_meant, classes_meant}
use Rattle.cool_classes.specs.ClimbedChains.{climbed, above, chain}
use Rattle.cool_classes.specs.Features.{method_among, basic_methods, is_method_named, first_method, user_method, own_method, first_of, implementation, own_attributes, attributes_of, formals_in, result_in, formals_of, result_of, name_in, attribute_name}
use Rattle.cool_classes.specs.FirstNames.{first_with}
use Rattle.cool_classes.specs.Names.{first_named, self_type}
use Rattle.cool_classes.specs.Settled.{basic_names, names_in, or_object, parent_meant}
use Rattle.cool_classes.specs.Tables.{basic_classes}
use Rattle.cool_rules.specs.Rules.{is_among, first_among, do_conform, join_in, type_of_name, type_meant, method_of, attribute_binding}
use Rattle.cool_rules.specs.Scopes.{Binding, entered}
use Rattle.cool_check.specs.Contexts.{attribute_bindings}
use Rattle.cool_check.specs.TypingFaults.{class_context}
use Rattle.cool_session.specs.Signatures.{FeatureSignature, OfMethod, OfAttribute, ClassSignature, feature_signature, parent_name, signatures}
use Rattle.cool_session.specs.Bases.{View, view}
use Rattle.cool_session.proofs.RenamedChecks.{Agree}

-- Features by their signatures

is_signed : List ℕ → FeatureSignature → Bool
is_signed f (OfMethod name formals result) = bytes_eq name f
is_signed f (OfAttribute name declared) = false

named_signed : (f : List ℕ) (x : Feature) → is_method_named f x ≡ is_signed f (feature_signature x)
unfolding is_signed
named_signed f (Method m) = refl
named_signed f (Attribute a) = refl

first_signed : (f : List ℕ) (k : ℕ) (xs : List Feature) → first_method k xs f ≡ first_with (is_signed f) (λ (n : ℕ). n) k (map feature_signature xs)
first_signed f k [] = refl
first_signed f k (x ∷ xs) = λ i. if named_signed f x i then Some k else first_signed f (k + 1) xs i

signed_attributes : ClassId → ℕ → List FeatureSignature → List AttributeRef
signed_attributes c k [] = []
signed_attributes c k (OfMethod name formals result ∷ xs) = signed_attributes c (k + 1) xs
signed_attributes c k (OfAttribute name declared ∷ xs) = record { owner = c; index = k } ∷ signed_attributes c (k + 1) xs

own_signed : (c : ClassId) (k : ℕ) (xs : List Feature) → own_attributes c k xs ≡ signed_attributes c k (map feature_signature xs)
unfolding signed_attributes
own_signed c k [] = refl
own_signed c k (Method m ∷ xs) = own_signed c (k + 1) xs
own_signed c k (Attribute a ∷ xs) = ap (λ (rs : List AttributeRef). record { owner = c; index = k } ∷ rs) (own_signed c (k + 1) xs)

abbrev signed_name : Option FeatureSignature → List ℕ
signed_name None = []
signed_name (Some (OfMethod name formals result)) = name
signed_name (Some (OfAttribute name declared)) = name

abbrev signed_formals : Option FeatureSignature → List (List ℕ)
signed_formals None = []
signed_formals (Some (OfMethod name formals result)) = formals
signed_formals (Some (OfAttribute name declared)) = []

abbrev signed_result : Option FeatureSignature → List ℕ
signed_result None = []
signed_result (Some (OfMethod name formals result)) = result
signed_result (Some (OfAttribute name declared)) = declared

name_signed : (o : Option Feature) → name_in o ≡ signed_name (option_map feature_signature o)
name_signed None = refl
name_signed (Some (Method m)) = refl
name_signed (Some (Attribute a)) = refl

formals_signed : (o : Option Feature) → formals_in o ≡ signed_formals (option_map feature_signature o)
formals_signed None = refl
formals_signed (Some (Method m)) = refl
formals_signed (Some (Attribute a)) = refl

result_signed : (o : Option Feature) → result_in o ≡ signed_result (option_map feature_signature o)
result_signed None = refl
result_signed (Some (Method m)) = refl
result_signed (Some (Attribute a)) = refl

at_viewed : (p : List Class) (n : ℕ) → view (get_or p n nothing) ≡ get_or (map view p) n (view nothing)
at_viewed [] n = refl
at_viewed (d ∷ ds) zero = refl
at_viewed (d ∷ ds) (suc n) = at_viewed ds n

names_viewed : (p : List Class) → map (λ (d : Class). d.name) p ≡ map (λ (v : View). v.name) (map view p)
names_viewed [] = refl
names_viewed (d ∷ ds) = ap (λ (ns : List (List ℕ)). d.name ∷ ns) (names_viewed ds)

-- Tables of the same classes, seen so

module _ (p p' : List Class) (same : map view p' ≡ map view p) where
  count : length p' ≡ length p
  count = sym (length-map p' view) ∙ (ap length same ∙ length-map p view)

  pub class_same : (c : ClassId) → view (class_at p' c) ≡ view (class_at p c)
  class_same c = at_viewed p' c.0 ∙ (ap (λ (vs : List View). get_or vs c.0 (view nothing)) same ∙ sym (at_viewed p c.0))

  parents_same : (c : ClassId) → parent_of p' c ≡ parent_of p c
  parents_same c = ap (λ (v : View). v.parent) (class_same c)

  features_same : (c : ClassId) → map feature_signature (features_of p' c) ≡ map feature_signature (features_of p c)
  features_same c = ap (λ (v : View). v.features) (class_same c)

  feature_same : (c : ClassId) (k : ℕ)
      → option_map feature_signature (slice_get (features_of p' c) k) ≡ option_map feature_signature (slice_get (features_of p c) k)
  feature_same c k =
      sym (slice_get-map feature_signature (features_of p' c) k)
      ∙ (ap (λ (xs : List FeatureSignature). slice_get xs k) (features_same c) ∙ slice_get-map feature_signature (features_of p c) k)

  own_method_same : (c : ClassId) (f : List ℕ) → own_method p' c f ≡ own_method p c f
  own_method_same c f =
      ap (λ (o : Option ℕ). if nat_lt c.0 5 then option_map Basic (method_among (basic_methods c.0) f) else user_method c o)
      (first_signed f 0 (features_of p' c)
      ∙ (ap (first_with (is_signed f) (λ (n : ℕ). n) 0) (features_same c) ∙ sym (first_signed f 0 (features_of p c))))

  own_attributes_same : (c : ClassId) → own_attributes c 0 (features_of p' c) ≡ own_attributes c 0 (features_of p c)
  own_attributes_same c = own_signed c 0 (features_of p' c) ∙ (ap (signed_attributes c 0) (features_same c) ∙ sym (own_signed c 0 (features_of p c)))

  formals_same : (m : MethodRef) → formals_of p' m ≡ formals_of p m
  formals_same (Basic b) = refl
  formals_same (User c k) =
      formals_signed (slice_get (features_of p' c) k) ∙ (ap signed_formals (feature_same c k) ∙ sym (formals_signed (slice_get (features_of p c) k)))

  results_same : (m : MethodRef) → result_of p' m ≡ result_of p m
  results_same (Basic b) = refl
  results_same (User c k) =
      result_signed (slice_get (features_of p' c) k) ∙ (ap signed_result (feature_same c k) ∙ sym (result_signed (slice_get (features_of p c) k)))

  attribute_name_same : (r : AttributeRef) → attribute_name p' r ≡ attribute_name p r
  attribute_name_same r =
      name_signed (slice_get (features_of p' r.owner) r.index)
      ∙ (ap signed_name (feature_same r.owner r.index) ∙ sym (name_signed (slice_get (features_of p r.owner) r.index)))

  -- Chains and what stands on them

  climbed_same : (n : ℕ) (o : Option ClassId) → climbed n p' o ≡ climbed n p o
  unfolding climbed
  climbed_same zero o = refl
  climbed_same (suc n) None = refl
  climbed_same (suc n) (Some c) = ap (λ (ds : List ClassId). c ∷ ds) (ap (climbed n p') (parents_same c) ∙ climbed_same n (parent_of p c))

  chain_same : (c : ClassId) → chain p' c ≡ chain p c
  unfolding chain above
  chain_same c =
      ap (λ (ds : List ClassId). c ∷ ds)
      (ap (λ (n : ℕ). climbed n p' (parent_of p' c)) count
      ∙ (ap (climbed (length p) p') (parents_same c) ∙ climbed_same (length p) (parent_of p c)))

  implementation_same : (ds : List ClassId) (f : List ℕ) → implementation p' ds f ≡ implementation p ds f
  implementation_same [] f = refl
  implementation_same (d ∷ ds) f = λ i. first_of (own_method_same d f i) (implementation_same ds f i)

  attributes_same : (ds : List ClassId) → attributes_of p' ds ≡ attributes_of p ds
  attributes_same [] = refl
  attributes_same (d ∷ ds) = λ i. attributes_same ds i ++ own_attributes_same d i

  method_same : (c : ClassId) (name : List ℕ) → method_of p' c name ≡ method_of p c name
  unfolding method_of
  method_same c name = ap (λ (ds : List ClassId). implementation p' ds name) (chain_same c) ∙ implementation_same (chain p c) name

  -- Types

  type_same : (name : List ℕ) → type_of_name p' name ≡ type_of_name p name
  unfolding type_of_name
  type_same name =
      ap (λ (ns : List (List ℕ)). if bytes_eq name self_type then Some SelfType else option_map IsClass (first_named 0 ns name))
      (names_viewed p' ∙ (ap (map (λ (v : View). v.name)) same ∙ sym (names_viewed p)))

  pub meant_same : (name : List ℕ) → type_meant p' name ≡ type_meant p name
  unfolding type_meant
  meant_same name = ap (λ (o : Option Ty). unwrap_or o (IsClass (class_number 0))) (type_same name)

  conform_same : (c : ClassId) (a b : Ty) → do_conform p' c a b ≡ do_conform p c a b
  unfolding do_conform
  conform_same c SelfType SelfType = refl
  conform_same c SelfType (IsClass b) = ap (λ (ds : List ClassId). is_among ds b) (chain_same c)
  conform_same c (IsClass a) SelfType = refl
  conform_same c (IsClass a) (IsClass b) = ap (λ (ds : List ClassId). is_among ds b) (chain_same a)

  join_same : (c : ClassId) (a b : Ty) → join_in p' c a b ≡ join_in p c a b
  unfolding join_in
  join_same c SelfType SelfType = refl
  join_same c SelfType (IsClass b) = λ i. IsClass (first_among (chain_same c i) (chain_same b i))
  join_same c (IsClass a) SelfType = λ i. IsClass (first_among (chain_same a i) (chain_same c i))
  join_same c (IsClass a) (IsClass b) = λ i. IsClass (first_among (chain_same a i) (chain_same b i))

  -- Attributes in scope

  attribute_same : (r : AttributeRef) → attribute_binding p' r ≡ attribute_binding p r
  attribute_same r =
      (λ i. record { name = attribute_name_same r i; value = type_meant p' (results_same (User r.owner r.index) i) })
      ∙ ap (λ (t : Ty). record { name = attribute_name p r; value = t }) (meant_same (result_of p (User r.owner r.index)))

  bindings_same : (rs : List AttributeRef) → map (attribute_binding p') rs ≡ map (attribute_binding p) rs
  bindings_same [] = refl
  bindings_same (r ∷ rs) = λ i. attribute_same r i ∷ bindings_same rs i

  scope_same : (c : ClassId) → attribute_bindings p' c ≡ attribute_bindings p c
  scope_same c =
      ap (λ (bs : List Binding). entered bs [])
      (ap (λ (ds : List ClassId). map (attribute_binding p') (attributes_of p' ds)) (chain_same c)
      ∙ (ap (map (attribute_binding p')) (attributes_same (chain p c)) ∙ bindings_same (attributes_of p (chain p c))))

  -- the contexts of a class in both
  pub contexts_agree : (c : ClassId) → Agree (class_context p c) (class_context p' c)
  contexts_agree c = record {
    class = refl;
    attributes = scope_same c;
    conforms = conform_same c;
    joins = join_same c;
    types = type_same;
    meant = meant_same;
    methods = method_same;
    formals = formals_same;
    results = results_same;
  }

-- The table of definitions, by their signatures

abbrev view_of : List (List ℕ) → ClassSignature → View
view_of names s = record { name = s.name; parent = Some (or_object (first_named 0 names s.parent)); features = s.features }

names_signed : (ds : List ClassDef) → names_in ds ≡ map (λ (s : ClassSignature). s.name) (signatures ds)
names_signed [] = refl
names_signed (d ∷ ds) = ap (λ (ns : List (List ℕ)). d.name ∷ ns) (names_signed ds)

parent_signed : (rest : List (List ℕ)) (o : Option TypeRef)
    → parent_meant (basic_names ++ rest) o ≡ or_object (first_named 0 (basic_names ++ rest) (parent_name o))
parent_signed rest None = refl
parent_signed rest (Some r) = refl

classes_viewed : (rest : List (List ℕ)) (ds : List ClassDef)
    → map view (map (class_meant (basic_names ++ rest)) ds) ≡ map (view_of (basic_names ++ rest)) (signatures ds)
classes_viewed rest [] = refl
classes_viewed rest (d ∷ ds) = λ i.
    record { name = d.name; parent = Some (parent_signed rest d.parent i); features = map feature_signature d.features } ∷ classes_viewed rest ds i

abbrev views_of : List (List ℕ) → List ClassSignature → List View
views_of names ss = map view basic_classes ++ map (view_of (basic_names ++ names)) ss

views_signed : (ds : List ClassDef)
    → map view (classes_meant ds) ≡ views_of (map (λ (s : ClassSignature). s.name) (signatures ds)) (signatures ds)
views_signed ds =
    ap (λ (vs : List View). map view basic_classes ++ vs) (classes_viewed (names_in ds) ds)
    ∙ ap (λ (names : List (List ℕ)). views_of names (signatures ds)) (names_signed ds)

-- definitions of the same signatures make tables of the same classes, seen so
pub views_same : (ds ds' : List ClassDef) → signatures ds' ≡ signatures ds → map view (classes_meant ds') ≡ map view (classes_meant ds)
views_same ds ds' same =
    views_signed ds'
    ∙ (ap (λ (ss : List ClassSignature). views_of (map (λ (s : ClassSignature). s.name) ss) ss) same ∙ sym (views_signed ds))
