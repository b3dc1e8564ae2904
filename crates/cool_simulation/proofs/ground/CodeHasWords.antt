-- The code of an expression has at least one word if each name in it is in scope and no block in it is empty.
use Rattle.std.proofs.Common.{◌≡◌, ℕ, ◌+◌, ◌≤◌, List, [], ◌∷◌, ◌++◌, Bool as Truth, true, false, Option, Some, refl, sym, subst, arith}
use Rattle.std.specs.Prelude.{bytes_eq, codes, if◌then◌else◌}
use Rattle.mips_isa.specs.Lines.{Line}
use Rattle.cool_syntax.specs.Tree.{Leaf, Tree, Trees, MaybeTree, Cases, Last, More, Without, With, NoCase, CaseOf, tree_size, maybe_size}
use Rattle.cool_syntax.specs.Tree as trees
use Rattle.cool_syntax.specs.WrittenTrees.{IsWritable, AreWritable, IsMaybeWritable, AreCasesWritable}
use Rattle.cool_classes.specs.declared.class_id.ClassId.{ClassId}
use Rattle.cool_classes.specs.declared.class_id.Ty.{Ty}
use Rattle.cool_classes.specs.declared.class_id.Ty.TheVariants.{Class as IsClass, SelfType}
use Rattle.cool_classes.specs.Chains.{Class}
use Rattle.cool_rules.specs.Rules.{type_meant}
use Rattle.cool_rules.specs.Scopes.{Binding, found}
use Rattle.cool_rules.specs.Scopes as scopes
use Rattle.cool_rules.specs.Typing.{HasType, HaveTypes, HaveItems, HasInit, HaveBranches, type_in_scope, with_name}
use Rattle.cool_runtime.specs.Routines.{push_lines}
use Rattle.cool_runtime.specs.Standing.{sizes}
use Rattle.cool_consts.specs.Constants.{Constants}
use Rattle.cool_codegen.specs.declared.variables.Variable.{Variable}
use Rattle.cool_codegen.specs.Code.{Context, code, arguments_code, initial_code, load_of, name_code, new_code}
use Rattle.cool_codegen.specs.Pieces.{create_lines, create_self_lines, load_lines, take_lines, take_self_lines, pop_lines}
use Rattle.cool_codegen.specs.Types.{trees_count}
use Rattle.cool_codegen.specs.Variables.{Named, bind, pushed}

-- Expressions whose names are found among those in scope, and whose blocks have an item

abbrev pub HasWord : List Named → List ℕ → Type 0
HasWord vs name = 4 ≤ sizes (name_code vs name)

abbrev LeafNamed : List Named → Leaf → Type 0
LeafNamed vs (trees.new class) = Unit {0}
LeafNamed vs (trees.id name) = HasWord vs name
LeafNamed vs (trees.int value) = Unit {0}
LeafNamed vs (trees.str bytes) = Unit {0}
LeafNamed vs (trees.truth value) = Unit {0}

abbrev mutual
  pub IsNamed : List Class → List Named → ℕ → Tree → Type 0
  IsNamed p vs d (trees.leaf at form) = LeafNamed vs form
  IsNamed p vs d (trees.unary at form t) = IsNamed p vs d t
  IsNamed p vs d (trees.Arith at op a b) = IsNamed p vs d a × IsNamed p vs (d + 1) b
  IsNamed p vs d (trees.Compare at op a b) = IsNamed p vs d a × IsNamed p vs (d + 1) b
  IsNamed p vs d (trees.While at t b) = IsNamed p vs d t × IsNamed p vs d b
  IsNamed p vs d (trees.call at form t ts) = ArgumentsNamed p vs d ts × IsNamed p vs (d + trees_count ts) t
  IsNamed p vs d (trees.If at t y n) = IsNamed p vs d t × IsNamed p vs d y × IsNamed p vs d n
  IsNamed p vs d (trees.Block at Last) = ⊥
  IsNamed p vs d (trees.Block at (More t ts)) = IsNamed p vs d t × ItemsNamed p vs d ts
  IsNamed p vs d (trees.Let at name declared o t) = MaybeNamed p vs d o × IsNamed p (bind d name (type_meant p declared.name) vs) (d + 1) t
  IsNamed p vs d (trees.Case at t cs) = IsNamed p vs d t × CasesNamed p vs d cs

  pub ArgumentsNamed : List Class → List Named → ℕ → Trees → Type 0
  ArgumentsNamed p vs d Last = Unit {0}
  ArgumentsNamed p vs d (More t ts) = IsNamed p vs d t × ArgumentsNamed p vs (d + 1) ts

  pub ItemsNamed : List Class → List Named → ℕ → Trees → Type 0
  ItemsNamed p vs d Last = Unit {0}
  ItemsNamed p vs d (More t ts) = IsNamed p vs d t × ItemsNamed p vs d ts

  pub MaybeNamed : List Class → List Named → ℕ → MaybeTree → Type 0
  MaybeNamed p vs d Without = Unit {0}
  MaybeNamed p vs d (With t) = IsNamed p vs d t

  pub CasesNamed : List Class → List Named → ℕ → Cases → Type 0
  CasesNamed p vs d NoCase = Unit {0}
  CasesNamed p vs d (CaseOf at name declared t cs) = IsNamed p (bind d name (type_meant p declared.name) vs) (d + 1) t × CasesNamed p vs d cs

-- So are typed ones, where each name of the scope has a variable.

abbrev pub Covered : List Binding → List Named → Type 0
Covered scope vs = (name : List ℕ) (t : Ty) → scopes.found scope name ≡ Some t → (v : Variable) × (found vs name ≡ Some v)

covered_with : (scope : List Binding) (vs : List Named) (d : ℕ) (name : List ℕ) (t u : Ty) → Covered scope vs → Covered (with_name name t scope) (bind d name u vs)
covered_with scope vs d name t u h = λ other type is. by other type (bytes_eq name other) is
  where
    by : (other : List ℕ) (type : Ty) (b : Truth) → (if b then Some t else scopes.found scope other) ≡ Some type → (v : Variable) × ((if b then Some (pushed d u) else found vs other) ≡ Some v)
    by other type true is = (pushed d u, refl)
    by other type false is = h other type is

load_long : (v : Variable) → 4 ≤ sizes (load_of (Some v))
unfolding load_lines
load_long v = omega arith

self_long : 4 ≤ sizes take_self_lines
unfolding take_self_lines
self_long = omega arith

word_of : (scope : List Binding) (vs : List Named) (name : List ℕ) (type : Ty) → Covered scope vs → type_in_scope scope name ≡ Some type → HasWord vs name
word_of scope vs name type h is = by (bytes_eq name (codes "self")) is
  where
    by : (b : Truth) → (if b then Some SelfType else scopes.found scope name) ≡ Some type → 4 ≤ sizes (if b then take_self_lines else load_of (found vs name))
    by true is = self_long
    by false is = let (v, there) = h name type is in subst (λ (o : Option Variable). 4 ≤ sizes (load_of o)) (sym there) (load_long v)

module _ (p : List Class) (c : ClassId) where
  mutual
    pub named : (scope : List Binding) (vs : List Named) (d : ℕ) (t : Tree) (type : Ty) → HasType p c scope t type → Covered scope vs → IsWritable t → IsNamed p vs d t
    named scope vs d (trees.Id at name) type has h w = word_of scope vs name type h has
    named scope vs d (trees.leaf at form) type has h w = tt
    named scope vs d (trees.Assign at name t) type (declared, other, has, there, conforms) h w = named scope vs d t type has h w
    named scope vs d (trees.IsVoid at t) type (u, has, is) h w = named scope vs d t u has h w
    named scope vs d (trees.Not at t) type (has, is) h w = named scope vs d t _ has h w
    named scope vs d (trees.Neg at t) type (has, is) h w = named scope vs d t _ has h w
    named scope vs d (trees.Arith at op a b) type (has, has', is) h w = (named scope vs d a _ has h w.0, named scope vs (d + 1) b _ has' h w.1)
    named scope vs d (trees.Compare at op a b) type (t, u, has, has', comparable, is) h w = (named scope vs d a t has h w.0, named scope vs (d + 1) b u has' h w.1)
    named scope vs d (trees.If at t y n) type (u, v, has, has1, has2, join) h w = (named scope vs d t _ has h w.0, named scope vs d y u has1 h w.1, named scope vs d n v has2 h w.2)
    named scope vs d (trees.While at t b) type (u, has, has1, is) h w = (named scope vs d t _ has h w.0, named scope vs d b u has1 h w.1)
    named scope vs d (trees.Block at Last) type has h w = absurd w
    named scope vs d (trees.Block at (More t ts)) type (u, has, have) h w = (named scope vs d t u has h w.0, named_items scope vs d ts u type have h w.1)
    named scope vs d (trees.Let at name declared o t) type (bound, other, denotes, init, has) h w =
        (named_init scope vs d o bound init h w.0, named (with_name name bound scope) (bind d name (type_meant p declared.name) vs) (d + 1) t type has (covered_with scope vs d name bound (type_meant p declared.name) h) w.1)
    named scope vs d (trees.Case at t NoCase) type has h w = absurd w
    named scope vs d (trees.Case at t (CaseOf here name declared b cs)) type (u, ts, has, have, different, join) h (w, w1, w2) = (named scope vs d t u has h w, named_cases scope vs d (CaseOf here name declared b cs) ts have h (w1, w2))
    named scope vs d (trees.Dispatch at t name ts) type (receiver, given, has, have, call) h w = (named_arguments scope vs d ts given have h w.1, named scope vs (d + trees_count ts) t receiver has h w.0)
    named scope vs d (trees.StaticDispatch at t class name ts) type (receiver, given, k, has, have, denotes, conforms, call) h w =
        (named_arguments scope vs d ts given have h w.1, named scope vs (d + trees_count ts) t receiver has h w.0)

    named_arguments : (scope : List Binding) (vs : List Named) (d : ℕ) (ts : Trees) (types : List Ty) → HaveTypes p c scope ts types → Covered scope vs → AreWritable ts → ArgumentsNamed p vs d ts
    named_arguments scope vs d Last types have h w = tt
    named_arguments scope vs d (More t ts) [] have h w = absurd have
    named_arguments scope vs d (More t ts) (u ∷ types) (has, have) h w = (named scope vs d t u has h w.0, named_arguments scope vs (d + 1) ts types have h w.1)

    named_items : (scope : List Binding) (vs : List Named) (d : ℕ) (ts : Trees) (before type : Ty) → HaveItems p c scope before ts type → Covered scope vs → AreWritable ts → ItemsNamed p vs d ts
    named_items scope vs d Last before type have h w = tt
    named_items scope vs d (More t ts) before type (u, has, have) h w = (named scope vs d t u has h w.0, named_items scope vs d ts u type have h w.1)

    named_init : (scope : List Binding) (vs : List Named) (d : ℕ) (o : MaybeTree) (bound : Ty) → HasInit p c scope bound o → Covered scope vs → IsMaybeWritable o → MaybeNamed p vs d o
    named_init scope vs d Without bound init h w = tt
    named_init scope vs d (With t) bound (u, has, conforms) h w = named scope vs d t u has h w

    named_cases : (scope : List Binding) (vs : List Named) (d : ℕ) (cs : Cases) (types : List Ty) → HaveBranches p c scope cs types → Covered scope vs → AreCasesWritable cs → CasesNamed p vs d cs
    named_cases scope vs d NoCase types have h w = tt
    named_cases scope vs d (CaseOf at name declared t cs) [] have h w = absurd have
    named_cases scope vs d (CaseOf at name declared t cs) (u ∷ types) ((x, other, denotes, has), have) h w =
        (named (with_name name (IsClass x) scope) (bind d name (type_meant p declared.name) vs) (d + 1) t u has (covered_with scope vs d name (IsClass x) (type_meant p declared.name) h) w.0, named_cases scope vs d cs types have h w.1)

-- Their code has a word.

pub sizes_append : (xs ys : List Line) → sizes (xs ++ ys) ≡ sizes xs + sizes ys
sizes_append [] ys = omega arith
sizes_append (x ∷ xs) ys = let h = sizes_append xs ys in omega arith

new_long : (p : List Class) (t : Ty) → 4 ≤ sizes (new_code p t)
unfolding create_lines create_self_lines
new_long p SelfType = omega arith
new_long p (IsClass c) = omega arith

first_long : (xs ys : List Line) → 4 ≤ sizes xs → 4 ≤ sizes (xs ++ ys)
first_long xs ys h = let e = sizes_append xs ys in omega arith

second_long : (xs ys : List Line) → 4 ≤ sizes ys → 4 ≤ sizes (xs ++ ys)
second_long xs ys h = let e = sizes_append xs ys in omega arith

module _ (s : Context) (g : Constants) where
  pub has_word : (vs : List Named) (d k : ℕ) (t : Tree) → IsNamed s.table vs d t → 4 ≤ sizes (code s g vs d k t)
  unfolding take_lines
  has_word vs d k (trees.Id at name) h = h
  has_word vs d k (trees.New at class) h = new_long s.table (type_meant s.table class.name)
  has_word vs d k (trees.leaf at form) h = omega arith
  has_word vs d k (trees.Not at t) h = first_long (code s g vs d k t) _ (has_word vs d k t h)
  has_word vs d k (trees.unary at form t) h = first_long (code s g vs d k t) _ (has_word vs d k t h)
  has_word vs d k (trees.While at t b) h = second_long _ _ (first_long (code s g vs d k t) _ (has_word vs d k t h.0))
  has_word vs d k (trees.binary at form a b) h = first_long (code s g vs d k a) _ (has_word vs d k a h.0)
  has_word vs d k (trees.If at t y n) h = first_long (code s g vs d k t) _ (has_word vs d k t h.0)
  has_word vs d k (trees.Block at Last) h = absurd h
  has_word vs d k (trees.Block at (More t ts)) h = first_long (code s g vs d k t) _ (has_word vs d k t h.0)
  has_word vs d k (trees.Let at name declared o t) h =
      let type = type_meant s.table declared.name in
      let rest = code s g (bind d name type vs) (d + 1) (k + maybe_size o) t ++ pop_lines in
      second_long (initial_code s g vs d k type o) (push_lines ++ rest) (first_long push_lines rest (omega arith))
  has_word vs d k (trees.Case at t cs) h = first_long (code s g vs d k t) _ (has_word vs d k t h.0)
  has_word vs d k (trees.Dispatch at t name ts) h = second_long (arguments_code s g vs d (k + tree_size t) ts) _ (first_long (code s g vs (d + trees_count ts) k t) _ (has_word vs (d + trees_count ts) k t h.1))
  has_word vs d k (trees.call at form t ts) h = second_long (arguments_code s g vs d (k + tree_size t) ts) _ (first_long (code s g vs (d + trees_count ts) k t) _ (has_word vs (d + trees_count ts) k t h.1))
