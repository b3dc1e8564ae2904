-- If the proof watches no run, no code address is marked as the beginning of an expression, and the conditions on marked addresses hold for all code of a
-- loaded program.
use Rattle.std.proofs.Common.{◌≡◌, ℕ, ◌+◌, ◌<◌, ◌≤◌, List, [], ◌∷◌, length, Option, None, Some, Bool as Truth, false, refl, ap, subst, sym}
use Rattle.std.specs.Prelude.{IfSome, slice_get}
use Rattle.cool_syntax.specs.declared.file_tree.Feature.{Feature}
use Rattle.cool_syntax.specs.declared.file_tree.Feature.TheVariants.{Method, Attribute}
use Rattle.cool_syntax.specs.declared.file_tree.MethodDef.{MethodDef}
use Rattle.cool_syntax.specs.Tree.{Tree, Trees, Last, More, Without, With, tree_size}
use Rattle.cool_syntax.specs.Tree as trees
use Rattle.cool_classes.specs.declared.class_id.ClassId.{ClassId}
use Rattle.cool_classes.specs.declared.method.MethodRef.TheVariants.{User}
use Rattle.cool_classes.specs.Chains.{Class, features_of}
use Rattle.cool_consts.specs.Constants.{Constants}
use Rattle.cool_codegen.specs.Arms.{Arm}
use Rattle.cool_codegen.specs.Code.{Context, code}
use Rattle.cool_codegen.specs.Features.{attributes_in, initial_value_code}
use Rattle.cool_codegen.specs.Variables.{Named}
use Rattle.cool_layout.specs.Labels.{initializer, method_label}
use Rattle.cool_emit.specs.Programs.{Placed as PlacedFeature, placed_code, program_constants}
use Rattle.cool_emit.specs.SpansOfPrograms.{context_of}
use Rattle.cool_runtime.specs.Reaches.{World}
use Rattle.cool_runtime.specs.Routines.{push_lines}
use Rattle.cool_runtime.specs.Standing.{sizes}
use Rattle.cool_simulation.specs.Loadings.{Loading, Watch, constants, context, marks}
use Rattle.cool_simulation.specs.Quiet.{ArePushesFree, AreArmsFree, AreStoresFree, IsFree, IsQuietAt, IsQuietInitializer, IsQuietMethod, IsStoreFree, IsQuiet}
use Rattle.cool_simulation.specs.Simulation.{IsSpan, Placed}
use Rattle.cool_codegen.specs.Spans.{Span}

abbrev never : ℕ → Truth
never a = false

free : (from to : ℕ) → IsFree never from to
free from to i even a b = refl

pushes_free : (s : Context) (g : Constants) (vs : List Named) (d k pc : ℕ) (ts : Trees) → ArePushesFree never s g vs d k pc ts
pushes_free s g vs d k pc Last = tt
pushes_free s g vs d k pc (More t ts) =
    let push = pc + sizes (code s g vs d k t) in (free push (push + sizes push_lines), pushes_free s g vs (d + 1) (k + tree_size t) (push + sizes push_lines) ts)

arms_free : (pc : ℕ) (as' : List Arm) → AreArmsFree never pc as'
arms_free pc [] = tt
arms_free pc (a ∷ as') = (free _ _, free _ _, arms_free (pc + sizes a.lines) as')

quiet_at : (s : Context) (g : Constants) (vs : List Named) (d k pc : ℕ) (t : Tree) → IsQuietAt never s g vs d k pc t
quiet_at s g vs d k pc (trees.Id at name) = free _ _
quiet_at s g vs d k pc (trees.leaf at form) = free _ _
quiet_at s g vs d k pc (trees.Not at t) = free _ _
quiet_at s g vs d k pc (trees.unary at form t) = free _ _
quiet_at s g vs d k pc (trees.Arith at op a b) = (free _ _, free _ _)
quiet_at s g vs d k pc (trees.binary at form a b) = (free _ _, free _ _)
quiet_at s g vs d k pc (trees.If at t y n) = (free _ _, free _ _)
quiet_at s g vs d k pc (trees.Block at ts) = tt
quiet_at s g vs d k pc (trees.Let at name declared Without t) = (free _ _, free _ _)
quiet_at s g vs d k pc (trees.Let at name declared (With u) t) = (free _ _, free _ _)
quiet_at s g vs d k pc (trees.Case at t cs) = (free _ _, arms_free _ _, free _ _)
quiet_at s g vs d k pc (trees.Dispatch at t name ts) = (pushes_free s g vs d (k + tree_size t) pc ts, free _ _)
quiet_at s g vs d k pc (trees.call at form t ts) = (pushes_free s g vs d (k + tree_size t) pc ts, free _ _)

value_free : (s : Context) (g : Constants) (pc : ℕ) (o : Option Tree) → IfSome o (λ t. IsFree never (pc + sizes (code s g (attributes_in s.table s.class) 0 0 t)) (pc + sizes (initial_value_code s g (Some t))))
value_free s g pc None = tt
value_free s g pc (Some t) = free _ _

store_free : (s : Context) (g : Constants) (pc : ℕ) (x : Feature) → IsStoreFree never s g pc x
store_free s g pc (Method m) = tt
store_free s g pc (Attribute a) = value_free s g pc a.init

stores_free : (p : List Class) (files : List (List ℕ)) (g : Constants) (c : ClassId) (pc : ℕ) (fs : List PlacedFeature) → AreStoresFree never p files g c pc fs
stores_free p files g c pc [] = tt
stores_free p files g c pc (f ∷ fs) = (store_free (context_of p files c f.place) g pc f.feature, stores_free p files g c (pc + sizes (placed_code p files g c f)) fs)

module _ {table : List Class} {files : List (List ℕ)} {world : World} where
  pub quiet_method : (h : Option (Watch table files world)) (c : ClassId) (k : ℕ) (m : MethodDef) → 5 ≤ c.0 → c.0 < length table → slice_get (features_of table c) k ≡ Some (Method m)
      → IsQuietMethod (marks h) (context_of table files c k) (program_constants table files) m.formals (world.place (method_label table (User c k))) m.body
  quiet_method None c k m high within there = record { enter = free _ _; leave = free _ _; spans = λ x among. quiet_at (context_of table files c k) (program_constants table files) x.scope x.depth x.first x.from x.tree }
  quiet_method (Some h) c k m high within there = h.methods c k m high within there

  pub quiet_initializer : (h : Option (Watch table files world)) (c : ClassId) → c.0 < length table → IsQuietInitializer (marks h) table files (program_constants table files) c (world.place (initializer table c))
  quiet_initializer None c within = record {
    basic = λ low. free _ _;
    begin = λ high. free _ _;
    stores = λ high. stores_free table files (program_constants table files) c _ _;
    end = λ high. free _ _;
    spans = λ x among. quiet_at (context_of table files x.class x.feature) (program_constants table files) x.span.scope x.span.depth x.span.first x.span.from x.span.tree;
  }
  quiet_initializer (Some h) c within = h.initializers c within

module _ (l : Loading) (none : l.watch ≡ None) where
  no_marks : marks l.watch ≡ never
  no_marks = ap marks none

  pub plain_free : (from to : ℕ) → IsFree (marks l.watch) from to
  plain_free from to = subst (λ (h : ℕ → Truth). IsFree h from to) (sym no_marks) (free from to)

  -- so a span of a feature has no mark in its pieces
  pub plain_placed : (c : ClassId) (f : ℕ) (x : Span) → IsSpan l c f x → Placed l c f x
  plain_placed c f x there = record {
    there = there;
    quiet = subst (λ (h : ℕ → Truth). IsQuiet h (context l c f) (constants l) x) (sym no_marks) (quiet_at (context l c f) (constants l) x.scope x.depth x.first x.from x.tree);
  }
