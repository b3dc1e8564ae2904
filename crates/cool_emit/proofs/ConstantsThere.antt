-- The data of a program has a label for each integer and string constant, for both Bools, and for the beginning of the heap.
use Rattle.std.proofs.Common.{◌≡◌, ℕ, zero, suc, ◌+◌, ◌<◌, List, [], ◌∷◌, ◌++◌, length, Contains, true, subst, arith}
use Rattle.std.specs.Prelude.{pos, nat_eq, bytes_eq}
use Rattle.mips_isa.specs.Lines.{Name, Line, Number}
use Rattle.cool_classes.specs.Chains.{Class, class_number}
use Rattle.cool_runtime.specs.Labels.{int_table, bool_table, true_constant, false_constant}
use Rattle.cool_runtime.specs.LinesOfData.{words, int_lines, bool_lines, string_lines}
use Rattle.cool_layout.specs.Preorder.{tag}
use Rattle.cool_layout.specs.LinesOfLayout.{layout_lines}
use Rattle.cool_consts.specs.Constants.{integer_number, string_number}
use Rattle.cool_consts.specs.Labels.{int_constant, string_constant, string_length}
use Rattle.cool_consts.specs.LinesOfConstants.{integers_lines, strings_lines}
use Rattle.cool_codegen.specs.Code.{integer_label, string_label}
use Rattle.cool_emit.specs.Programs.{program_constants, heap_start, heap_lines, program_lines}
use Rattle.cool_emit.proofs.LabelsOfParts.{Has, first_place_less, has_left, has_right, has_label}
use Rattle.cool_emit.proofs.LabelsThere.{has_object, has_string, has_string_length, lines_of_constants, data_there}
use Rattle.lists.proofs.EqualBytes.{bytes_eq-same}

-- the label of the integer of a number
int_at : (tag j : ℕ) (ns : List ℕ) (k : ℕ) → k < length ns → Has (integers_lines tag j ns) (int_constant (j + k))
int_at tag j [] k less = absurd (omega arith)
int_at tag j (n ∷ ns) zero less =
    let e : j ≡ j + 0 = omega arith in
    subst (λ i. Has (integers_lines tag j (n ∷ ns)) (int_constant i)) e
    (has_left (int_lines (int_constant j) tag n) (integers_lines tag (j + 1) ns) (int_constant j)
    (has_object (int_constant j) tag 4 int_table (Number (pos n) ∷ [])))
int_at tag j (n ∷ ns) (suc k) less =
    let e : j + 1 + k ≡ j + suc k = omega arith in
    subst (λ i. Has (integers_lines tag j (n ∷ ns)) (int_constant i)) e
    (has_right (int_lines (int_constant j) tag n) (integers_lines tag (j + 1) ns) (int_constant (j + 1 + k))
    (int_at tag (j + 1) ns k (omega arith)))

-- a label that the lines of each string have by its number
string_at : (label_of : ℕ → Name) (int_tag string_tag : ℕ)
    → ((k : ℕ) (bytes : List ℕ) → Has (string_lines (string_constant k) (string_length k) int_tag string_tag bytes) (label_of k))
    → (j : ℕ) (all : List (List ℕ)) (k : ℕ) → k < length all → Has (strings_lines int_tag string_tag j all) (label_of (j + k))
string_at label_of int_tag string_tag each j [] k less = absurd (omega arith)
string_at label_of int_tag string_tag each j (bytes ∷ all) zero less =
    let e : j ≡ j + 0 = omega arith in
    subst (λ i. Has (strings_lines int_tag string_tag j (bytes ∷ all)) (label_of i)) e
    (has_left (string_lines (string_constant j) (string_length j) int_tag string_tag bytes) (strings_lines int_tag string_tag (j + 1) all)
    (label_of j) (each j bytes))
string_at label_of int_tag string_tag each j (bytes ∷ all) (suc k) less =
    let e : j + 1 + k ≡ j + suc k = omega arith in
    subst (λ i. Has (strings_lines int_tag string_tag j (bytes ∷ all)) (label_of i)) e
    (has_right (string_lines (string_constant j) (string_length j) int_tag string_tag bytes) (strings_lines int_tag string_tag (j + 1) all)
    (label_of (j + 1 + k))
    (string_at label_of int_tag string_tag each (j + 1) all k (omega arith)))

module _ (p : List Class) (files : List (List ℕ)) where
  integers : List Line
  integers = integers_lines (tag p (class_number 2)) 0 (program_constants p files).integers

  strings : List Line
  strings = strings_lines (tag p (class_number 2)) (tag p (class_number 4)) 0 (program_constants p files).strings

  -- a label of the constants is one of the program
  constants_there : (n : Name) → Has (lines_of_constants p files) n → Has (program_lines p files) n
  constants_there n h =
      data_there p files n (has_right (layout_lines p) (lines_of_constants p files ++ heap_lines) n
      (has_left (lines_of_constants p files) heap_lines n h))

  -- the two Bools
  pub false_constant_there : Has (program_lines p files) false_constant
  unfolding integers strings
  false_constant_there =
      constants_there false_constant (has_left (bool_lines false_constant (tag p (class_number 3)) 0)
      (bool_lines true_constant (tag p (class_number 3)) 1 ++ (integers ++ strings)) false_constant
      (has_object false_constant (tag p (class_number 3)) 4 bool_table (Number (pos 0) ∷ [])))

  pub true_constant_there : Has (program_lines p files) true_constant
  unfolding integers strings
  true_constant_there =
      constants_there true_constant (has_right (bool_lines false_constant (tag p (class_number 3)) 0)
      (bool_lines true_constant (tag p (class_number 3)) 1 ++ (integers ++ strings)) true_constant
      (has_left (bool_lines true_constant (tag p (class_number 3)) 1) (integers ++ strings) true_constant
      (has_object true_constant (tag p (class_number 3)) 4 bool_table (Number (pos 1) ∷ []))))

  -- the integers and the strings stand after them
  after_bools : (n : Name) → Has (integers ++ strings) n → Has (program_lines p files) n
  unfolding integers strings
  after_bools n h =
      constants_there n (has_right (bool_lines false_constant (tag p (class_number 3)) 0)
      (bool_lines true_constant (tag p (class_number 3)) 1 ++ (integers ++ strings)) n
      (has_right (bool_lines true_constant (tag p (class_number 3)) 1) (integers ++ strings) n h))

  -- labels of constants, by their numbers
  pub int_constant_there : (k : ℕ) → k < length (program_constants p files).integers → Has (program_lines p files) (int_constant k)
  unfolding integers
  int_constant_there k less =
      let e : 0 + k ≡ k = omega arith in
      after_bools (int_constant k) (has_left integers strings (int_constant k)
      (subst (λ i. Has integers (int_constant i)) e (int_at (tag p (class_number 2)) 0 (program_constants p files).integers k less)))

  pub string_constant_there : (k : ℕ) → k < length (program_constants p files).strings → Has (program_lines p files) (string_constant k)
  unfolding strings
  string_constant_there k less =
      let e : 0 + k ≡ k = omega arith in
      after_bools (string_constant k) (has_right integers strings (string_constant k)
      (subst (λ i. Has strings (string_constant i)) e
      (string_at string_constant (tag p (class_number 2)) (tag p (class_number 4))
      (λ j bytes. has_string (string_constant j) (string_length j) (tag p (class_number 2)) (tag p (class_number 4)) bytes) 0
      (program_constants p files).strings k less)))

  pub string_length_there : (k : ℕ) → k < length (program_constants p files).strings → Has (program_lines p files) (string_length k)
  unfolding strings
  string_length_there k less =
      let e : 0 + k ≡ k = omega arith in
      after_bools (string_length k) (has_right integers strings (string_length k)
      (subst (λ i. Has strings (string_length i)) e
      (string_at string_length (tag p (class_number 2)) (tag p (class_number 4))
      (λ j bytes. has_string_length (string_constant j) (string_length j) (tag p (class_number 2)) (tag p (class_number 4)) bytes) 0
      (program_constants p files).strings k less)))

  -- labels of constants, by their values
  pub integer_there : (n : ℕ) → Contains (program_constants p files).integers n
      → Has (program_lines p files) (integer_label (program_constants p files) n)
  integer_there n h =
      int_constant_there (integer_number (program_constants p files).integers n)
      (first_place_less (nat_eq n) (program_constants p files).integers n self h)
    where
      self : nat_eq n n ≡ true
      self = grind arith

  pub string_there : (bytes : List ℕ) → Contains (program_constants p files).strings bytes
      → Has (program_lines p files) (string_label (program_constants p files) bytes)
  string_there bytes h =
      string_constant_there (string_number (program_constants p files).strings bytes)
      (first_place_less (bytes_eq bytes) (program_constants p files).strings bytes (bytes_eq-same bytes) h)

  -- the label of the heap's begin
  pub heap_start_there : Has (program_lines p files) heap_start
  heap_start_there =
      data_there p files heap_start (has_right (layout_lines p) (lines_of_constants p files ++ heap_lines) heap_start
      (has_right (lines_of_constants p files) heap_lines heap_start (has_label heap_start (words (Number (pos 0) ∷ []) ∷ []))))
