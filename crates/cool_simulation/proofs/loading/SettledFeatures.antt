-- In a typed program without empty blocks, the code of each subexpression begins within its body or initial value. If only beginnings of expressions are marked
-- addresses, no other instruction there has one.
use Rattle.std.proofs.Common.{◌≡◌, ℕ, ◌+◌, ◌<◌, List, [], ◌∷◌, ◌++◌, Some, Bool as Truth, true, false, refl, ap, subst, length}
use Rattle.std.specs.Prelude.{bytes_eq, slice_get, if◌then◌else◌}
use Rattle.std.proofs.lemmas.List.Elements.{All-contains, All-from_recursion}
use Rattle.cool_syntax.specs.declared.file_tree.AttributeDef.{AttributeDef}
use Rattle.cool_syntax.specs.declared.file_tree.Feature.TheVariants.{Method, Attribute}
use Rattle.cool_syntax.specs.declared.file_tree.Formal.{Formal}
use Rattle.cool_syntax.specs.declared.file_tree.MethodDef.{MethodDef}
use Rattle.cool_syntax.specs.Tree.{Tree}
use Rattle.cool_classes.specs.declared.class_id.ClassId.{ClassId}
use Rattle.cool_classes.specs.declared.class_id.Ty.{Ty}
use Rattle.cool_classes.specs.declared.method.AttributeRef.{AttributeRef}
use Rattle.cool_classes.specs.Chains.{Class, features_of}
use Rattle.cool_classes.specs.ClimbedChains.{chain}
use Rattle.cool_rules.specs.Scopes.{Binding, found}
use Rattle.cool_rules.specs.Scopes as scopes
use Rattle.cool_rules.specs.Typing.{FitsDeclared, IsTypedInit, attributes_in_scope, formals_in_scope}
use Rattle.cool_runtime.specs.Standing.{sizes}
use Rattle.cool_codegen.specs.declared.variables.Variable.{Variable}
use Rattle.cool_codegen.specs.Code.{code}
use Rattle.cool_codegen.specs.Features.{attributes_in, with_attributes, with_formals}
use Rattle.cool_codegen.specs.Spans.{spans}
use Rattle.cool_codegen.specs.Variables.{Named}
use Rattle.cool_emit.specs.Programs.{IsBuildable, program_constants}
use Rattle.cool_emit.specs.SpansOfPrograms.{context_of}
use Rattle.cool_simulation.specs.WrittenPrograms.{IsWritten}
use Rattle.cool_simulation.proofs.ground.CodeHasWords.{Covered, IsNamed, named}
use Rattle.cool_simulation.proofs.ground.QuietSpans.{quiet_spans}
use Rattle.cool_simulation.proofs.ground.SpansWithin.{IsBetween, within}
use Rattle.cool_simulation.proofs.loading.QuietFeatures.{IsSettled}
use Rattle.cool_classes.proofs.ChainsOfTables.{chain_of}
use Rattle.cool_rules.specs.Rules.{type_meant}
use Rattle.cool_syntax.specs.WrittenTrees.{IsValueWritable, IsWritable}
use Rattle.cool_classes.specs.Features.{attribute_name, attribute_type, attributes_of}

-- a name has a variable
abbrev HasName : List Named → List ℕ → Type 0
HasName vs name = (v : Variable) × (found vs name ≡ Some v)

kept : (v : Named) (vs : List Named) (name : List ℕ) → HasName vs name → HasName (v ∷ vs) name
kept v vs name (w, is) = by (bytes_eq v.name name)
  where
    by : (b : Truth) → (u : Variable) × ((if b then Some v.value else found vs name) ≡ Some u)
    by true = (v.value, refl)
    by false = (w, is)

entered_first : (v : Named) (vs : List Named) (name : List ℕ) → bytes_eq v.name name ≡ true → HasName (v ∷ vs) name
entered_first v vs name e = (v.value, ap (λ (b : Truth). if b then Some v.value else found vs name) e)

module _ (p : List Class) where
  formals_keep : (fs : List Formal) (vs : List Named) (name : List ℕ) → HasName vs name → HasName (with_formals p fs vs) name
  formals_keep [] vs name h = h
  formals_keep (f ∷ fs) vs name h = formals_keep fs _ name (kept _ vs name h)

  formals_covered : (fs : List Formal) (vs : List Named) (scope : List Binding) → Covered scope vs → Covered (formals_in_scope p fs ++ scope) (with_formals p fs vs)
  formals_covered [] vs scope h = h
  formals_covered (f ∷ fs) vs scope h = λ name t is. by name t (bytes_eq f.name name) refl is (formals_covered fs _ scope (λ name' t' is'. kept _ vs name' (h name' t' is')) name t)
    where
      by : (name : List ℕ) (t : Ty) (b : Truth) → bytes_eq f.name name ≡ b → (if b then Some (type_meant p f.declared.name) else scopes.found (formals_in_scope p fs ++ scope) name) ≡ Some t
          → (scopes.found (formals_in_scope p fs ++ scope) name ≡ Some t → HasName (with_formals p (f ∷ fs) vs) name) → HasName (with_formals p (f ∷ fs) vs) name
      by name t true e is later = formals_keep fs _ name (entered_first _ vs name e)
      by name t false e is later = later is

  module _ (c : ClassId) where
    attributes_keep : (rs : List AttributeRef) (vs : List Named) (name : List ℕ) → HasName vs name → HasName (with_attributes p c rs vs) name
    attributes_keep [] vs name h = h
    attributes_keep (r ∷ rs) vs name h = attributes_keep rs _ name (kept _ vs name h)

    attributes_covered : (rs : List AttributeRef) (vs : List Named) → Covered (attributes_in_scope p rs) (with_attributes p c rs vs)
    attributes_covered [] vs = λ name t is. absurd cc
    attributes_covered (r ∷ rs) vs = λ name t is. by name t (bytes_eq (attribute_name p r) name) refl is (attributes_covered rs _ name t)
      where
        by : (name : List ℕ) (t : Ty) (b : Truth) → bytes_eq (attribute_name p r) name ≡ b → (if b then Some (type_meant p (attribute_type p r)) else scopes.found (attributes_in_scope p rs) name) ≡ Some t
            → (scopes.found (attributes_in_scope p rs) name ≡ Some t → HasName (with_attributes p c (r ∷ rs) vs) name) → HasName (with_attributes p c (r ∷ rs) vs) name
        by name t true e is later = attributes_keep rs _ name (entered_first _ vs name e)
        by name t false e is later = later is

module _ (p : List Class) (files : List (List ℕ)) (buildable : IsBuildable p files) (written : IsWritten p) (marked : ℕ → Truth) where
  settled : (c : ClassId) (k : ℕ) (fs : List Formal) (t : Tree) (declared : List ℕ) → c.0 < length p → FitsDeclared p c (formals_in_scope p fs) t declared → IsWritable t
      → IsSettled marked (context_of p files c k) (program_constants p files) (with_formals p fs (attributes_in p c)) t
  settled c k fs t declared c_within typed writable =
      let s = context_of p files c k in
      let g = program_constants p files in
      let vs = with_formals p fs (attributes_in p c) in
      let same : chain p c ≡ typed.chain = chain_of p c typed.chain typed.is_chain in
      let covered : Covered (formals_in_scope p fs ++ attributes_in_scope p (attributes_of p typed.chain)) vs =
      formals_covered p fs (attributes_in p c) (attributes_in_scope p (attributes_of p typed.chain))
      (subst (λ (ds : List ClassId). Covered (attributes_in_scope p (attributes_of p ds)) (attributes_in p c)) same (attributes_covered p c (attributes_of p (chain p c)) [])) in
      let names : IsNamed p vs 0 t = named p c (formals_in_scope p fs ++ attributes_in_scope p (attributes_of p typed.chain)) vs 0 t typed.type typed.has covered writable in
      record {
        within = λ pc x h. All-contains (IsBetween pc (pc + sizes (code s g vs 0 0 t))) (spans sizes s g vs 0 0 pc t) x (All-from_recursion _ (spans sizes s g vs 0 0 pc t) (within s g vs 0 0 pc t names)) h;
        quiet = λ pc marks x h. quiet_spans marked s g vs 0 0 pc t names marks x h;
      }

  pub settled_method : (c : ClassId) (k : ℕ) (m : MethodDef) → c.0 < length p → slice_get (features_of p c) k ≡ Some (Method m)
      → IsSettled marked (context_of p files c k) (program_constants p files) (with_formals p m.formals (attributes_in p c)) m.body
  settled_method c k m c_within there = settled c k m.formals m.body m.result.name c_within (buildable.typed.features c k (Method m) c_within there) (written c k (Method m) c_within there)

  pub settled_value : (c : ClassId) (k : ℕ) (a : AttributeDef) (t : Tree) → c.0 < length p → slice_get (features_of p c) k ≡ Some (Attribute a) → a.init ≡ Some t
      → IsSettled marked (context_of p files c k) (program_constants p files) (attributes_in p c) t
  settled_value c k a t c_within there init =
      settled c k [] t a.declared.name c_within (subst (IsTypedInit p c a.declared.name) init (buildable.typed.features c k (Attribute a) c_within there)) (subst IsValueWritable init (written c k (Attribute a) c_within there))
