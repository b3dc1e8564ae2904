-- `counts_of` counts a method of a class exactly if it is the first of its name there and no ancestor has a method of this name, as `is_new` tests.
use Rattle.std.proofs.Common.{◌≡◌, ℕ, ◌+◌, ◌<◌, ◌≤◌, List, [], ◌∷◌, ◌++◌, length, get_or, Bool, true, false, not, ◌&&◌, cond, is_none, ap, sym, ◌∙◌, refl, arith}
use Rattle.std.proofs.lemmas.List.{length-append, get_or_append_left, get_or_push}
use Rattle.cool_syntax.specs.declared.file_tree.Feature.{Feature}
use Rattle.cool_syntax.specs.declared.file_tree.Feature.TheVariants.{Method}
use Rattle.cool_syntax.specs.declared.file_tree.MethodDef.{MethodDef}
use Rattle.cool_classes.specs.declared.class_id.ClassId.{ClassId}
use Rattle.cool_classes.specs.Chains.{Class, class_number, parent_of, features_of, IsChain}
use Rattle.cool_classes.specs.Features.{first_method, implementation, own_attributes}
use Rattle.cool_classes.specs.FirstNames.{is_index}
use Rattle.cool_classes.specs.Lineages.{AreCounted}
use Rattle.cool_classes.specs.MethodNames.{new_name, new_methods}
use Rattle.lists.proofs.Numbers.{below_next}

-- a test that fails where another holds
pub turned : (s r : Bool) → s ≡ not r → r ≡ not s
turned s true e = sym (ap not e)
turned s false e = sym (ap not e)

-- a method is new where both tests hold
pub new_counts : (p : List Class) (above : List ClassId) (own : List Feature) (k : ℕ) (x : Feature) (m : MethodDef) (a b : Bool) → x ≡ Method m
    → a ≡ is_index k (first_method 0 own m.name) → b ≡ is_none (implementation p above m.name) → cond (a && b) 1 0 ≡ length (new_name p above own k x)
new_counts p above own k x m a b is here there =
    ap (λ (t : Bool). cond (t && b) 1 0) here ∙ ap (λ (t : Bool). cond (is_index k (first_method 0 own m.name) && t) 1 0) there
    ∙ by (is_index k (first_method 0 own m.name) && is_none (implementation p above m.name))
    ∙ sym (ap (λ (y : Feature). length (new_name p above own k y)) is)
  where
    by : (t : Bool) → cond t 1 0 ≡ length (cond t (m.name ∷ []) [])
    by true = refl
    by false = refl

-- the numbers that one more class adds
pub counted_next : (k : ℕ) (p : List Class) (gs ms : List ℕ) (a m : ℕ) → AreCounted k p gs ms
    → a ≡ length (own_attributes (class_number k) 0 (features_of p (class_number k)))
    → ((ds : List ClassId) → IsChain p (parent_of p (class_number k)) ds → m ≡ length (new_methods p ds (class_number k)))
    → AreCounted (k + 1) p (gs ++ a ∷ []) (ms ++ m ∷ [])
counted_next k p gs ms a m are attributes methods = record {
  same_attributes = let s = are.same_attributes in simp length-append (omega arith);
  same_methods = let s = are.same_methods in simp length-append (omega arith);
  attributes = λ c less. below_next (λ (j : ℕ). get_or (gs ++ a ∷ []) j 0 ≡ length (own_attributes (class_number j) 0 (features_of p (class_number j)))) k c.0 less
      (λ j below. get_or_append_left gs (a ∷ []) 0 j (let s = are.same_attributes in omega arith) ∙ are.attributes (class_number j) below)
      (get_or_push gs a 0 k are.same_attributes ∙ attributes);
  methods = λ c ds less chain. below_next (λ (j : ℕ). IsChain p (parent_of p (class_number j)) ds → get_or (ms ++ m ∷ []) j 0 ≡ length (new_methods p ds (class_number j))) k c.0 less
      (λ j below h. get_or_append_left ms (m ∷ []) 0 j (let s = are.same_methods in omega arith) ∙ are.methods (class_number j) ds below h)
      (λ h. get_or_push ms m 0 k are.same_methods ∙ methods ds h) chain;
}
