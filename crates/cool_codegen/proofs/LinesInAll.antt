-- The number of lines of assembly of an expression does not depend on the constant table.
use Rattle.std.proofs.Common.{◌≡◌, ℕ, ◌+◌, List, [], ◌∷◌, ◌++◌, length, Bool as Truth, true, false, refl, ap₂, arith}
use Rattle.std.specs.Prelude.{if◌then◌else◌, nat_lt, codes}
use Rattle.std.proofs.lemmas.List.{length-append}
use Rattle.cool_syntax.specs.declared.place.Place.{Place}
use Rattle.cool_syntax.specs.declared.operator.ArithOp.{ArithOp}
use Rattle.cool_syntax.specs.declared.operator.ArithOp.TheVariants as arith_op
use Rattle.cool_syntax.specs.declared.node.NodeId.{NodeId}
use Rattle.cool_syntax.specs.Tree.{Tree, Trees, MaybeTree, Cases, Last, More, Without, With, NoCase, CaseOf, tree_size, maybe_size}
use Rattle.cool_syntax.specs.Tree as trees
use Rattle.cool_syntax.specs.NodeLists.{root}
use Rattle.mips_isa.specs.Lines.{Name, Line}
use Rattle.cool_classes.specs.declared.class_id.ClassId.{ClassId}
use Rattle.cool_classes.specs.declared.class_id.Ty.{Ty}
use Rattle.cool_rules.specs.Rules.{type_meant}
use Rattle.cool_runtime.specs.Routines.{push_lines}
use Rattle.cool_consts.specs.Constants.{Constants}
use Rattle.cool_codegen.specs.Arms.{Arm, with_arm, arms_lines}
use Rattle.cool_codegen.specs.Code.{Context, code, arguments_code, items_code, initial_code, arms_code, file_label, label_at, range_code, int_code, operation_code, slot_code, static_code}
use Rattle.cool_codegen.specs.Pieces.{pop_lines, case_begin_lines, take_lines, ends_where_lines, is_zero_lines, call_lines, call_static_lines, values_lines, divide_lines}
use Rattle.cool_codegen.specs.Types.{trees_count, class_meant}
use Rattle.cool_codegen.specs.Variables.{Named, bind}

pub joined : (xs ys xs' ys' : List Line) → length xs ≡ length xs' → length ys ≡ length ys' → length (xs ++ ys) ≡ length (xs' ++ ys')
joined xs ys xs' ys' h k = let l = length-append xs ys in let r = length-append xs' ys' in omega arith

pub behind : (xs ys ys' : List Line) → length ys ≡ length ys' → length (xs ++ ys) ≡ length (xs ++ ys')
behind xs ys ys' h = joined xs ys xs ys' refl h

pub before : (xs xs' ys : List Line) → length xs ≡ length xs' → length (xs ++ ys) ≡ length (xs' ++ ys)
before xs xs' ys h = joined xs ys xs' ys h refl

-- branches of the same depths and as many lines
abbrev AreSame : List Arm → List Arm → Type 0
AreSame [] [] = Unit {0}
AreSame [] (b ∷ bs) = ⊥
AreSame (a ∷ as') [] = ⊥
AreSame (a ∷ as') (b ∷ bs) = (a.depth ≡ b.depth) × (length a.lines ≡ length b.lines) × AreSame as' bs

same_put : (xs ys : List Arm) (x y : Arm) → AreSame xs ys → x.depth ≡ y.depth → length x.lines ≡ length y.lines → AreSame (with_arm xs x) (with_arm ys y)
same_put [] [] x y h e l = (e, l, tt)
same_put [] (b ∷ bs) x y h e l = absurd h
same_put (a ∷ as') [] x y h e l = absurd h
same_put (a ∷ as') (b ∷ bs) x y h e l = by (nat_lt a.depth x.depth) (nat_lt b.depth y.depth) (ap₂ nat_lt h.0 e) (same_put as' bs x y h.2 e l)
  where
    by : (t u : Truth) → t ≡ u → AreSame (with_arm as' x) (with_arm bs y) → AreSame (if t then x ∷ a ∷ as' else a ∷ with_arm as' x) (if u then y ∷ b ∷ bs else b ∷ with_arm bs y)
    by true true q more = (e, l, h)
    by false false q more = (h.0, h.1, more)
    by true false q more = absurd (cc)
    by false true q more = absurd (cc)

same_lines : (xs ys : List Arm) → AreSame xs ys → length (arms_lines xs) ≡ length (arms_lines ys)
same_lines [] [] h = refl
same_lines [] (b ∷ bs) h = absurd h
same_lines (a ∷ as') [] h = absurd h
same_lines (a ∷ as') (b ∷ bs) h = joined a.lines (arms_lines as') b.lines (arms_lines bs) h.1 (same_lines as' bs h.2)

module _ (s : Context) (g g' : Constants) where
  same_int : (at : Place) (id : NodeId) → length (int_code s g at id) ≡ length (int_code s g' at id)
  unfolding ends_where_lines
  same_int at id = refl

  same_operation : (op : ArithOp) (at : Place) (id : NodeId) → length (operation_code s g op at id) ≡ length (operation_code s g' op at id)
  unfolding ends_where_lines is_zero_lines divide_lines
  same_operation arith_op.Add at id = refl
  same_operation arith_op.Sub at id = refl
  same_operation arith_op.Mul at id = refl
  same_operation arith_op.Div at id = refl

  same_slot : (at : Place) (c : ClassId) (name : List ℕ) → length (slot_code s g at c name) ≡ length (slot_code s g' at c name)
  unfolding call_lines
  same_slot at c name = refl

  same_static : (at : Place) (c : ClassId) (name : List ℕ) → length (static_code s g at c name) ≡ length (static_code s g' at c name)
  unfolding call_static_lines
  same_static at c name = refl

  pub same_begin : (at : Place) → length (case_begin_lines (file_label s g at) at.line) ≡ length (case_begin_lines (file_label s g' at) at.line)
  unfolding case_begin_lines
  same_begin at = refl

  same_take : (x y : Name) → length (take_lines x) ≡ length (take_lines y)
  unfolding take_lines
  same_take x y = refl

  mutual
    pub as_many_lines : (vs : List Named) (d k : ℕ) (t : Tree) → length (code s g vs d k t) ≡ length (code s g' vs d k t)
    as_many_lines vs d k (trees.Int at value) = same_take _ _
    as_many_lines vs d k (trees.Str at bytes) = same_take _ _
    as_many_lines vs d k (trees.leaf at form) = refl
    as_many_lines vs d k (trees.Neg at t) = joined (code s g vs d k t) _ (code s g' vs d k t) _ (as_many_lines vs d k t) (behind _ _ _ (same_int at _))
    as_many_lines vs d k (trees.unary at form t) = before _ _ _ (as_many_lines vs d k t)
    as_many_lines vs d k (trees.Dispatch at t name ts) =
        joined (arguments_code s g vs d (k + tree_size t) ts) _ (arguments_code s g' vs d (k + tree_size t) ts) _ (many_arguments vs d (k + tree_size t) ts)
        (joined (code s g vs (d + trees_count ts) k t) _ (code s g' vs (d + trees_count ts) k t) _ (as_many_lines vs (d + trees_count ts) k t) (same_slot at _ name))
    as_many_lines vs d k (trees.StaticDispatch at t class name ts) =
        joined (arguments_code s g vs d (k + tree_size t) ts) _ (arguments_code s g' vs d (k + tree_size t) ts) _ (many_arguments vs d (k + tree_size t) ts)
        (joined (code s g vs (d + trees_count ts) k t) _ (code s g' vs (d + trees_count ts) k t) _ (as_many_lines vs (d + trees_count ts) k t) (same_static at _ name))
    as_many_lines vs d k (trees.If at t y n) =
        joined (code s g vs d k t) _ (code s g' vs d k t) _ (as_many_lines vs d k t)
        (behind _ _ _ (joined (code s g vs d (k + tree_size t) y) _ (code s g' vs d (k + tree_size t) y) _ (as_many_lines vs d (k + tree_size t) y)
        (behind _ _ _ (before _ _ _ (as_many_lines vs d (k + tree_size t + tree_size y) n)))))
    as_many_lines vs d k (trees.While at t b) =
        behind _ _ _ (joined (code s g vs d k t) _ (code s g' vs d k t) _ (as_many_lines vs d k t) (behind _ _ _ (before _ _ _ (as_many_lines vs d (k + tree_size t) b))))
    as_many_lines vs d k (trees.Block at ts) = many_items vs d k ts
    as_many_lines vs d k (trees.Let at name declared o t) =
        joined (initial_code s g vs d k (type_meant s.table declared.name) o) _ (initial_code s g' vs d k (type_meant s.table declared.name) o) _ (many_initial vs d k (type_meant s.table declared.name) o)
        (behind push_lines _ _ (before _ _ pop_lines (as_many_lines (bind d name (type_meant s.table declared.name) vs) (d + 1) (k + maybe_size o) t)))
    as_many_lines vs d k (trees.Case at t cs) =
        joined (code s g vs d k t) _ (code s g' vs d k t) _ (as_many_lines vs d k t)
        (joined (case_begin_lines (file_label s g at) at.line) _ (case_begin_lines (file_label s g' at) at.line) _ (same_begin at)
        (behind push_lines _ _ (before _ _ _ (same_lines _ _ (many_arms vs d (k + tree_size t) (label_at s (codes "end") (root k (trees.Case at t cs))) [] [] cs tt)))))
    as_many_lines vs d k (trees.Arith at op a b) =
        joined (code s g vs d k a) _ (code s g' vs d k a) _ (as_many_lines vs d k a)
        (behind push_lines _ _ (joined (code s g vs (d + 1) (k + tree_size a) b) _ (code s g' vs (d + 1) (k + tree_size a) b) _ (as_many_lines vs (d + 1) (k + tree_size a) b)
        (behind values_lines _ _ (joined (operation_code s g op at _) _ (operation_code s g' op at _) _ (same_operation op at _) (same_int at _)))))
    as_many_lines vs d k (trees.Compare at op a b) =
        joined (code s g vs d k a) _ (code s g' vs d k a) _ (as_many_lines vs d k a)
        (behind push_lines _ _ (before _ _ _ (as_many_lines vs (d + 1) (k + tree_size a) b)))

    pub many_arguments : (vs : List Named) (d k : ℕ) (ts : Trees) → length (arguments_code s g vs d k ts) ≡ length (arguments_code s g' vs d k ts)
    many_arguments vs d k Last = refl
    many_arguments vs d k (More t ts) =
        joined (code s g vs d k t) _ (code s g' vs d k t) _ (as_many_lines vs d k t) (behind push_lines _ _ (many_arguments vs (d + 1) (k + tree_size t) ts))

    many_items : (vs : List Named) (d k : ℕ) (ts : Trees) → length (items_code s g vs d k ts) ≡ length (items_code s g' vs d k ts)
    many_items vs d k Last = refl
    many_items vs d k (More t ts) = joined (code s g vs d k t) _ (code s g' vs d k t) _ (as_many_lines vs d k t) (many_items vs d (k + tree_size t) ts)

    pub many_initial : (vs : List Named) (d k : ℕ) (type : Ty) (o : MaybeTree) → length (initial_code s g vs d k type o) ≡ length (initial_code s g' vs d k type o)
    many_initial vs d k type Without = refl
    many_initial vs d k type (With t) = as_many_lines vs d k t

    many_arms : (vs : List Named) (d k : ℕ) (end : Name) (xs ys : List Arm) (cs : Cases) → AreSame xs ys → AreSame (arms_code s g vs d k end xs cs) (arms_code s g' vs d k end ys cs)
    many_arms vs d k end xs ys NoCase h = h
    many_arms vs d k end xs ys (CaseOf at name declared t cs) h =
        many_arms vs d (k + tree_size t) end (with_arm xs _) (with_arm ys _) cs
        (same_put xs ys _ _ h refl (behind (range_code s (class_meant s.table s.class declared.name) (label_at s (codes "next") (root k t))) _ _
        (before _ _ _ (as_many_lines (bind d name (type_meant s.table declared.name) vs) (d + 1) k t))))
