-- The text of a program fits into its segment: the code of an expression takes at most 55 words for each of its nodes and branches, less 19.
use Rattle.std.proofs.Common.{◌≡◌, ℕ, zero, suc, pos, ◌+◌, ◌*◌, ◌≤◌, List, [], ◌∷◌, ◌++◌, length}
use Rattle.std.proofs.Common.{flat_map, Option, Some, None, Bool as Truth, true, false, refl, arith}
use Rattle.std.specs.Prelude.{if◌then◌else◌, nat_lt, codes}
use Rattle.cool_syntax.specs.Tree.{Tree, Trees, MaybeTree, Cases, Last, More, Without, With}
use Rattle.cool_syntax.specs.Tree.{NoCase, CaseOf, tree_size, trees_size, maybe_size, cases_size}
use Rattle.cool_syntax.specs.Tree as trees
use Rattle.cool_syntax.specs.FeatureSizes.{value_size, branches_in, branches_in_all, branches_in_maybe, branches_of}
use Rattle.cool_syntax.specs.NodeLists.{root}
use Rattle.cool_syntax.specs.Weights.{feature_weight}
use Rattle.cool_syntax.specs.declared.file_tree.Feature.{Feature}
use Rattle.cool_syntax.specs.declared.file_tree.Feature.TheVariants.{Method, Attribute}
use Rattle.cool_syntax.specs.declared.file_tree.Formal.{Formal}
use Rattle.mips_isa.specs.Lines.{Name, Line}
use Rattle.cool_classes.specs.declared.class_id.ClassId.{ClassId}
use Rattle.cool_classes.specs.declared.class_id.Ty.{Ty}
use Rattle.cool_classes.specs.declared.method.MethodRef.TheVariants.{User}
use Rattle.cool_classes.specs.declared.TheConstants.{MOST_CLASSES}
use Rattle.cool_classes.specs.Chains.{Class, class_at, parent_of, features_of}
use Rattle.cool_classes.specs.ClimbedChains.{above}
use Rattle.cool_rules.specs.Rules.{type_meant}
use Rattle.cool_rules.specs.Fits.{weight_of}
use Rattle.cool_layout.specs.Preorder.{numbers_from}
use Rattle.cool_layout.specs.Members.{offset}
use Rattle.cool_layout.specs.Labels.{initializer, method_label}
use Rattle.cool_runtime.specs.CodeOfCalls.{enter_lines}
use Rattle.cool_runtime.specs.RoutineLines.{routine_lines, all_routine_lines}
use Rattle.cool_runtime.specs.Routines.{push_lines}
use Rattle.cool_consts.specs.Constants.{Constants}
use Rattle.cool_codegen.specs.Pieces.{turn_lines, negate_lines, store_lines, take_self_lines}
use Rattle.cool_codegen.specs.Pieces.{leave_lines, begin_init_lines, return_basic_lines}
use Rattle.cool_codegen.specs.Variables.{Named, bind}
use Rattle.cool_codegen.specs.Types.{trees_count, class_meant}
use Rattle.cool_codegen.specs.Arms.{Arm, with_arm, arms_lines}
use Rattle.cool_codegen.specs.Code.{Context, code, arguments_code, items_code, initial_code}
use Rattle.cool_codegen.specs.Code.{arms_code, label_at, int_code, arith_code, compare_code}
use Rattle.cool_codegen.specs.Code.{range_code, integer_label, string_label, truth_label}
use Rattle.cool_codegen.specs.Features.{feature_code, method_code, initial_value_code, with_formals, attributes_in}
use Rattle.cool_emit.specs.SoundLines.{MOST_TEXT_WORDS, text_room}
use Rattle.cool_emit.specs.Programs.{Placed, placed_code, parent_code, initializer_code, class_code}
use Rattle.cool_emit.specs.Programs.{classes_code, methods_in, program_text, program_constants, IsBuildable}
use Rattle.cool_emit.specs.Programs.{attributes_in as class_attributes}
use Rattle.cool_emit.proofs.Totals.{total}
use Rattle.cool_emit.proofs.ClassesInTurn.{placed_weight, class_weight, by_number, weight_is_total, parts_weigh, table_weight}
use Rattle.cool_emit.proofs.RoomOfPieces.{text_room-append, room_store, room_take_self, room_leave, room_begin_init}
use Rattle.cool_emit.proofs.RoomOfPieces.{room_call_init, room_return_basic, room_pop, room_take, room_test}
use Rattle.cool_emit.proofs.RoomOfPieces.{room_mark, room_turn, room_repeat, room_is_void, room_complement}
use Rattle.cool_emit.proofs.RoomOfPieces.{room_negate, room_call, room_call_static, room_case_begin, room_try_tags}
use Rattle.cool_emit.proofs.RoomOfPieces.{room_case_end, room_name, room_assign, room_new, room_default, room_bool}
use Rattle.cool_emit.proofs.RoomOfPieces.{room_int, room_arith, room_compare, room_with_arm}

-- the push of a value
room_push : text_room push_lines ≡ 5
room_push = refl

-- lines in three parts
room_three : (a b c : List Line) → text_room (a ++ (b ++ c)) ≡ text_room a + text_room b + text_room c
room_three a b c = omega (arith, text_room-append a (b ++ c), text_room-append b c)

-- two operands, and what is done with them
room_operands : (a b c : List Line) → text_room (a ++ (push_lines ++ (b ++ c))) ≡ text_room a + text_room b + text_room c + 5
room_operands a b c = omega (arith, text_room-append a (push_lines ++ (b ++ c)), text_room-append push_lines (b ++ c), text_room-append b c)

-- An expression: whatever pieces it has of its own, they take no more than 36 words, and 19 for each of its parts.
mutual
  pub room_of_code : (s : Context) (g : Constants) (vs : List Named) (d k : ℕ) (t : Tree)
      → text_room (code s g vs d k t) + 19 ≤ 55 * (tree_size t + branches_in t)
  room_of_code s g vs d k (trees.Id at name) = omega (arith, room_name vs name)
  room_of_code s g vs d k (trees.Assign at name t) = simp text_room-append (omega (arith, room_of_code s g vs d k t, room_assign vs name))
  room_of_code s g vs d k (trees.Dispatch at t name ts) =
      simp (text_room-append, room_call) (omega (
        arith,
        room_of_arguments s g vs d (k + tree_size t) ts,
        room_of_code s g vs (d + trees_count ts) k t,
      ))
  room_of_code s g vs d k (trees.StaticDispatch at t class name ts) =
      simp (text_room-append, room_call_static) (omega (
        arith,
        room_of_arguments s g vs d (k + tree_size t) ts,
        room_of_code s g vs (d + trees_count ts) k t,
      ))
  room_of_code s g vs d k (trees.If at t y n) =
      simp (text_room-append, room_test, room_turn, room_mark)
      (omega (
        arith,
        room_of_code s g vs d k t,
        room_of_code s g vs d (k + tree_size t) y,
        room_of_code s g vs d (k + tree_size t + tree_size y) n,
      ))
  room_of_code s g vs d k (trees.While at t b) =
      simp (text_room-append, room_test, room_mark, room_repeat) (omega (
        arith,
        room_of_code s g vs d k t,
        room_of_code s g vs d (k + tree_size t) b,
      ))
  room_of_code s g vs d k (trees.Block at ts) = omega (arith, room_of_items s g vs d k ts)
  room_of_code s g vs d k (trees.Let at name declared o t) =
      simp (text_room-append, room_pop)
      (omega (
        arith,
        room_of_initial s g vs d k (type_meant s.table declared.name) o,
        room_of_code s g (bind d name (type_meant s.table declared.name) vs) (d + 1) (k + maybe_size o) t,
      ))
  room_of_code s g vs d k (trees.Case at t cs) =
      simp (text_room-append, room_case_begin, room_case_end)
      (omega (
        arith,
        room_of_code s g vs d k t,
        room_of_arms s g vs d (k + tree_size t) (label_at s (codes "end") (root k (trees.Case at t cs))) [] cs,
      ))
  room_of_code s g vs d k (trees.New at class) = omega (arith, room_new s.table (type_meant s.table class.name))
  room_of_code s g vs d k (trees.IsVoid at t) = simp (text_room-append, room_is_void, room_bool) (omega (arith, room_of_code s g vs d k t))
  room_of_code s g vs d k (trees.Arith at op a b) =
      omega (
        arith,
        room_operands (code s g vs d k a) (code s g vs (d + 1) (k + tree_size a) b) (arith_code s g op at (root k (trees.Arith at op a b))),
        room_of_code s g vs d k a,
        room_of_code s g vs (d + 1) (k + tree_size a) b,
        room_arith s g op at (root k (trees.Arith at op a b)),
      )
  room_of_code s g vs d k (trees.Neg at t) =
      omega (
        arith,
        room_three (code s g vs d k t) negate_lines (int_code s g at (root k (trees.Neg at t))),
        room_negate,
        room_int s g at (root k (trees.Neg at t)),
        room_of_code s g vs d k t,
      )
  room_of_code s g vs d k (trees.Compare at op a b) =
      omega (
        arith,
        room_operands (code s g vs d k a) (code s g vs (d + 1) (k + tree_size a) b) (compare_code s op (root k (trees.Compare at op a b))),
        room_of_code s g vs d k a,
        room_of_code s g vs (d + 1) (k + tree_size a) b,
        room_compare s op (root k (trees.Compare at op a b)),
      )
  room_of_code s g vs d k (trees.Not at t) = simp (text_room-append, room_complement, room_bool) (omega (arith, room_of_code s g vs d k t))
  room_of_code s g vs d k (trees.Int at value) = omega (arith, room_take (integer_label g value))
  room_of_code s g vs d k (trees.Str at bytes) = omega (arith, room_take (string_label g bytes))
  room_of_code s g vs d k (trees.Bool at value) = omega (arith, room_take (truth_label value))

  -- each argument leaves 19 words, of which its push takes 5
  room_of_arguments : (s : Context) (g : Constants) (vs : List Named) (d k : ℕ) (ts : Trees)
      → text_room (arguments_code s g vs d k ts) ≤ 55 * (trees_size ts + branches_in_all ts)
  room_of_arguments s g vs d k Last = omega arith
  room_of_arguments s g vs d k (More t ts) =
      simp text_room-append (omega (arith, room_of_code s g vs d k t, room_of_arguments s g vs (d + 1) (k + tree_size t) ts))

  -- the items of a block
  room_of_items : (s : Context) (g : Constants) (vs : List Named) (d k : ℕ) (ts : Trees)
      → text_room (items_code s g vs d k ts) ≤ 55 * (trees_size ts + branches_in_all ts)
  room_of_items s g vs d k Last = omega arith
  room_of_items s g vs d k (More t ts) =
      simp text_room-append (omega (arith, room_of_code s g vs d k t, room_of_items s g vs d (k + tree_size t) ts))

  -- an initial value, or what stands for one
  room_of_initial : (s : Context) (g : Constants) (vs : List Named) (d k : ℕ) (type : Ty) (o : MaybeTree)
      → text_room (initial_code s g vs d k type o) ≤ 55 * (maybe_size o + branches_in_maybe o) + 2
  room_of_initial s g vs d k type Without = omega (arith, room_default type)
  room_of_initial s g vs d k type (With t) = omega (arith, room_of_code s g vs d k t)

  -- branches, of which each counts as one more node
  room_of_arms : (s : Context) (g : Constants) (vs : List Named) (d k : ℕ) (end : Name) (before : List Arm) (cs : Cases)
      → text_room (arms_lines (arms_code s g vs d k end before cs)) ≤ text_room (arms_lines before) + 55 * (cases_size cs + branches_of cs)
  room_of_arms s g vs d k end before NoCase = omega arith
  room_of_arms s g vs d k end before (CaseOf at name declared t cs) =
      let c : ClassId = class_meant s.table s.class declared.name in
      let next : Name = label_at s (codes "next") (root k t) in
      let lines : List Line = range_code s c next ++ (code s g (bind d name (type_meant s.table declared.name) vs) (d + 1) k t ++ turn_lines end next) in
      let arm : Arm = record { depth = length (above s.table c); lines = lines } in
      let more : text_room (arms_lines (with_arm before arm)) ≡ text_room (arms_lines before) + text_room lines =
      room_with_arm before arm in
      let own : text_room lines ≤ 55 * (tree_size t + branches_in t) + 6 =
      simp (text_room-append, room_try_tags, room_turn) (omega (arith, room_of_code s g (bind d name (type_meant s.table declared.name) vs) (d + 1) k t)) in
      omega (arith, room_of_arms s g vs d (k + tree_size t) end (with_arm before arm) cs)

-- The code of a feature takes at most 55 words for each unit of its weight. An initial value is stored by one word.
room_of_value : (s : Context) (g : Constants) (o : Option Tree) → text_room (initial_value_code s g o) ≤ 55 * value_size o
room_of_value s g None = omega arith
room_of_value s g (Some t) =
    omega (
      arith,
      text_room-append (code s g (attributes_in s.table s.class) 0 0 t)
          (store_lines (pos (offset s.table s.class (record { owner = s.class; index = s.feature }))) 16),
      room_store (pos (offset s.table s.class (record { owner = s.class; index = s.feature }))) 16,
      room_of_code s g (attributes_in s.table s.class) 0 0 t,
    )

-- a method has 15 words besides its body
room_of_method : (s : Context) (g : Constants) (formals : List Formal) (t : Tree)
    → text_room (method_code s g formals t) ≤ 55 * (tree_size t + branches_in t)
room_of_method s g formals t =
    let vs : List Named = with_formals s.table formals (attributes_in s.table s.class) in
    simp text_room-append (omega (
      arith,
      room_mark (method_label s.table (User s.class s.feature)),
      room_leave (pos (12 + 4 * length formals)),
      room_of_code s g vs 0 0 t,
    ))

-- a feature of either kind
pub room_of_feature : (s : Context) (g : Constants) (f : Feature) → text_room (feature_code s g f) ≤ 55 * feature_weight f
room_of_feature s g (Method m) = omega (arith, room_of_method s g m.formals m.body)
room_of_feature s g (Attribute a) = omega (arith, room_of_value s g a.init)

-- So does that of features; the initializer of a class has at most 17 words besides.
module _ (p : List Class) (files : List (List ℕ)) (g : Constants) (c : ClassId) where
  room_of_features : (fs : List Placed) → text_room (flat_map (placed_code p files g c) fs) ≤ 55 * total placed_weight fs
  room_of_features [] = omega arith
  room_of_features (f ∷ fs) =
      simp text_room-append (omega (
        arith,
        room_of_feature (record { table = p; class = c; feature = f.place; files = files }) g f.feature,
        room_of_features fs,
      ))

  -- the call of the initializer of the parent
  room_of_parent : (o : Option ClassId) → text_room (parent_code p o) ≤ 1
  room_of_parent None = omega arith
  room_of_parent (Some q) = omega (arith, room_call_init (initializer p q))

  -- the initializer
  room_of_initializer : text_room (initializer_code p files g c) ≤ 55 * total placed_weight (class_attributes p c) + 17
  room_of_initializer = by (nat_lt c.0 5)
    where
      attributes_code : List Line
      attributes_code = flat_map (placed_code p files g c) (class_attributes p c)

      by : (b : Truth)
          → text_room (if b then return_basic_lines (initializer p c) else begin_init_lines (initializer p c)
          ++ (enter_lines ++ (parent_code p (parent_of p c) ++ (attributes_code ++ (take_self_lines ++ leave_lines (pos 12))))))
          ≤ 55 * total placed_weight (class_attributes p c) + 17
      by true = omega (arith, room_return_basic (initializer p c))
      by false =
          omega (
            arith,
            text_room-append (begin_init_lines (initializer p c))
                (enter_lines ++ (parent_code p (parent_of p c) ++ (attributes_code ++ (take_self_lines ++ leave_lines (pos 12))))),
            room_three enter_lines (parent_code p (parent_of p c)) (attributes_code ++ (take_self_lines ++ leave_lines (pos 12))),
            room_three attributes_code take_self_lines (leave_lines (pos 12)),
            room_begin_init (initializer p c),
            room_of_parent (parent_of p c),
            room_of_features (class_attributes p c),
            room_take_self,
            room_leave (pos 12),
          )

  -- the initializer and the methods
  room_of_class : text_room (class_code p files g c) ≤ 55 * class_weight (class_at p c) + 17
  room_of_class =
      simp text_room-append (omega (arith, room_of_initializer, room_of_features (methods_in p c), parts_weigh 0 (features_of p c)))

-- so many numbers are so many
numbers_long : (k n : ℕ) → length (numbers_from k n) ≡ n
numbers_long k zero = refl
numbers_long k (suc n) = omega (arith, numbers_long (k + 1) n)

-- the code of classes, by what they weigh
room_of_numbers : (p : List Class) (files : List (List ℕ)) (g : Constants) (cs : List ClassId)
    → text_room (flat_map (class_code p files g) cs) ≤ 55 * total (λ c. class_weight (class_at p c)) cs + 17 * length cs
room_of_numbers p files g [] = omega arith
room_of_numbers p files g (c ∷ cs) =
    omega (
      arith,
      text_room-append (class_code p files g c) (flat_map (class_code p files g) cs),
      room_of_class p files g c,
      room_of_numbers p files g cs,
    )

-- the code of all classes, by what the table weighs
pub room_of_classes : (p : List Class) (files : List (List ℕ)) (g : Constants)
    → text_room (classes_code p files g) ≤ 55 * weight_of p + 17 * length p
room_of_classes p files g =
    omega (
      arith,
      room_of_numbers p files g (numbers_from 0 (length p)),
      numbers_long 0 (length p),
      by_number class_weight p,
      weight_is_total p,
    )

-- the routines
room_of_routines : text_room all_routine_lines ≤ 600
unfolding routine_lines
room_of_routines = omega arith

-- the whole text
pub text_fits : (p : List Class) (files : List (List ℕ)) → IsBuildable p files → text_room (program_text p files) ≤ MOST_TEXT_WORDS
text_fits p files b =
    let few : length p ≤ 5 + MOST_CLASSES = b.fits.table.classes in
    omega (
      arith,
      text_room-append all_routine_lines (classes_code p files (program_constants p files)),
      room_of_routines,
      room_of_classes p files (program_constants p files),
      table_weight p files b,
    )
