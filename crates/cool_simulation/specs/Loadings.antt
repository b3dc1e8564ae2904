-- `IsLoaded` says that a program is in a machine: the contents of text and data once its image is loaded.
use Rattle.std.specs.Prelude.{◌≡◌, ℕ, ◌+◌, ◌*◌, ◌^◌, ◌%◌, ◌<◌, ◌≤◌, List, [], length, map, codes, slice_get, Option, Some, None, Contains, Bool as Truth, true, false}
use Rattle.mips_isa.specs.declared.address_map.TheConstants.{DATA_START, HEAP_START, TEXT_START}
use Rattle.mips_isa.specs.Assembly.{start_name}
use Rattle.mips_isa.specs.Bytes.{Bytes, word}
use Rattle.mips_isa.specs.Decoding.{decoded}
use Rattle.mips_isa.specs.Machine.{word_of_text}
use Rattle.mips_isa.specs.Lines.{Name, WordItem, Number, Address}
use Rattle.cool_syntax.specs.declared.file_tree.Feature.TheVariants.{Method}
use Rattle.cool_syntax.specs.declared.file_tree.MethodDef.{MethodDef}
use Rattle.cool_classes.specs.declared.class_id.ClassId.{ClassId}
use Rattle.cool_classes.specs.declared.method.MethodRef.TheVariants.{User}
use Rattle.cool_classes.specs.Chains.{Class, class_number, name_of, features_of}
use Rattle.cool_runtime.specs.Reaches.{World}
use Rattle.cool_runtime.specs.Standing.{HasLines}
use Rattle.cool_runtime.specs.Contents.{IntAt, BoolAt, StringAt, ObjectAt, NameAt, TextAt}
use Rattle.cool_runtime.specs.Labels.{copy, abort, type_name, out_string, out_int, in_string, in_int, string_length, string_concat, string_substr, equality, dispatch_abort, case_abort, div_abort, substr_abort, heap_limit, stack_limit, end_text, abort_text, newline_text, colon_text, no_branch_text, stop_text}
use Rattle.cool_runtime.specs.RoutineLabels.{class_objects, case_void, overflow_abort, dispatch_text, case_text, division_text, substring_text, overflow_text, default_int, default_string}
use Rattle.cool_runtime.specs.RoutineLines.{routine_lines}
use Rattle.cool_runtime.specs.declared.catalogue.Routine.{Routine}
use Rattle.cool_runtime.specs.declared.catalogue.Routine.TheVariants as routines
use Rattle.cool_layout.specs.Preorder.{tag}
use Rattle.cool_layout.specs.Members.{slot, method}
use Rattle.cool_layout.specs.LinesOfLayout.{new_fields}
use Rattle.cool_layout.specs.Labels.{prototype, initializer, dispatch_table, method_label}
use Rattle.cool_consts.specs.Constants.{Constants, integer_number, string_number}
use Rattle.cool_consts.specs.Labels.{int_constant, string_constant}
use Rattle.cool_codegen.specs.Code.{Context, truth_label}
use Rattle.cool_codegen.specs.Features.{method_code}
use Rattle.cool_emit.specs.Programs.{IsBuildable, initializer_code, program_constants}
use Rattle.cool_emit.specs.SpansOfPrograms.{context_of}
use Rattle.cool_meaning.specs.Numbers.{word_of as number_word}
use Rattle.cool_simulation.specs.Pictures.{bit}
use Rattle.cool_simulation.specs.Quiet.{IsQuietInitializer, IsQuietMethod}
use Rattle.cool_simulation.specs.Visits.{Visit, program_begun}

-- A run of the source that is watched, by its input and its steps. The world's text is the quiet one: where a span of the program begins, it has a word
-- that is no instruction, so that a run over it which does not trap passes no such place. Beside it stands the whole text, which has the same
-- words elsewhere, and in which the pieces of code between parts have no mark.
pub record Watch (table : List Class) (files : List (List ℕ)) (world : World) : Type 0 where
  pub text : List ℕ
  pub marked : ℕ → Truth
  pub same : (a : ℕ) → a % 4 ≡ 0 → TEXT_START ≤ a → marked a ≡ false → word_of_text world.text a ≡ word_of_text text a
  pub traps : (a : ℕ) → a % 4 ≡ 0 → TEXT_START ≤ a → marked a ≡ true → decoded (word_of_text world.text a) ≡ None
  pub methods : (c : ClassId) (k : ℕ) (m : MethodDef) → 5 ≤ c.0 → c.0 < length table → slice_get (features_of table c) k ≡ Some (Method m)
      → IsQuietMethod marked (context_of table files c k) (program_constants table files) m.formals (world.place (method_label table (User c k))) m.body
  pub initializers : (c : ClassId) → c.0 < length table → IsQuietInitializer marked table files (program_constants table files) c (world.place (initializer table c))
  pub input : List ℕ
  pub steps : ℕ

-- a program, the names of its files, the world of its machine, and memory as it was loaded; and what is watched of its runs, if anything
pub record Loading : Type 0 where
  pub table : List Class
  pub files : List (List ℕ)
  pub world : World
  pub memory : Bytes
  pub watch : Option (Watch table files world)

-- the whole text, which is the world's where nothing is watched
abbrev pub watched_text : {table : List Class} {files : List (List ℕ)} {world : World} → Option (Watch table files world) → List ℕ
watched_text {world = w} None = w.text
watched_text (Some h) = h.text

abbrev pub whole_text : Loading → List ℕ
whole_text l = watched_text l.watch

-- the world with the whole text
abbrev pub whole : Loading → World
whole l = record l.world { text = whole_text l }

-- the addresses at which a watched span begins
abbrev pub marks : {table : List Class} {files : List (List ℕ)} {world : World} → Option (Watch table files world) → ℕ → Truth
marks None = λ a. false
marks (Some h) = h.marked

-- the visits of the watched run; anything, if none is watched
abbrev pub Watched : {table : List Class} {files : List (List ℕ)} {world : World} → Option (Watch table files world) → Visit → Type 0
Watched None x = Unit {0}
Watched {table = p} (Some h) x = program_begun p h.input h.steps x

abbrev pub constants : Loading → Constants
constants l = program_constants l.table l.files

-- the context of a feature
abbrev pub context : Loading → ClassId → ℕ → Context
context l c k = record { table = l.table; class = c; feature = k; files = l.files }

-- the label under which a routine's lines stand
abbrev pub routine_label : Routine → Name
routine_label routines.Start = start_name
routine_label routines.Copy = copy
routine_label routines.Abort = abort
routine_label routines.TypeName = type_name
routine_label routines.OutString = out_string
routine_label routines.OutInt = out_int
routine_label routines.InString = in_string
routine_label routines.InInt = in_int
routine_label routines.Length = string_length
routine_label routines.Concat = string_concat
routine_label routines.Substr = string_substr
routine_label routines.Equal = equality
routine_label routines.DispatchVoid = dispatch_abort
routine_label routines.CaseVoid = case_void
routine_label routines.NoBranch = case_abort
routine_label routines.DivZero = div_abort
routine_label routines.SubstrRange = substr_abort
routine_label routines.Overflow = overflow_abort
routine_label routines.HeapLimit = heap_limit
routine_label routines.StackLimit = stack_limit

-- a word of a new object
abbrev pub item_word : World → WordItem → ℕ
item_word w (Number n) = number_word n
item_word w (Address name) = w.place name

-- so many words stand in the data from an address on
pub record InData (w : World) (a size : ℕ) : Type 0 where
  pub even : a % 4 ≡ 0
  pub from : DATA_START ≤ a
  pub to : a + 4 * size ≤ w.segments.data_end

-- The code of the program stands under its labels, that of methods and initializers in the whole text; and its data are as the layout and the constants say.
pub record IsLoaded (l : Loading) : Type 0 where
  pub buildable : IsBuildable l.table l.files
  pub tags : l.world.tags ≡ record { int = tag l.table (class_number 2); bool = tag l.table (class_number 3); string = tag l.table (class_number 4) }
  -- text
  pub routines : (r : Routine) → HasLines l.world (l.world.place (routine_label r)) (routine_lines r)
  pub methods : (c : ClassId) (k : ℕ) (m : MethodDef) → 5 ≤ c.0 → c.0 < length l.table → slice_get (features_of l.table c) k ≡ Some (Method m)
      → HasLines (whole l) (l.world.place (method_label l.table (User c k))) (method_code (context l c k) (constants l) m.formals m.body)
  pub initializers : (c : ClassId) → c.0 < length l.table → HasLines (whole l) (l.world.place (initializer l.table c)) (initializer_code l.table l.files (constants l) c)
  -- data
  pub integers : (n : ℕ) → Contains (constants l).integers n → IntAt l.world l.memory HEAP_START (l.world.place (int_constant (integer_number (constants l).integers n))) n
  pub strings : (bytes : List ℕ) → Contains (constants l).strings bytes
      → StringAt l.world l.memory HEAP_START (l.world.place (string_constant (string_number (constants l).strings bytes))) bytes
  pub truths : (b : Truth) → BoolAt l.world l.memory HEAP_START (l.world.place (truth_label b)) (bit b)
  pub default_int : IntAt l.world l.memory HEAP_START (l.world.place default_int) 0
  pub default_string : StringAt l.world l.memory HEAP_START (l.world.place default_string) []
  pub prototypes : (c : ClassId) → c.0 < length l.table
      → ObjectAt l.world l.memory HEAP_START (l.world.place (prototype l.table c)) (tag l.table c) (3 + length (new_fields l.table c)) (l.world.place (dispatch_table l.table c))
      (map (item_word l.world) (new_fields l.table c))
  pub names : (c : ClassId) → c.0 < length l.table → NameAt l.world l.memory HEAP_START (tag l.table c) (name_of l.table c)
  pub class_objects_in : (c : ClassId) → c.0 < length l.table → InData l.world (l.world.place class_objects + 8 * tag l.table c) 2
  pub class_objects : (c : ClassId) → c.0 < length l.table
      → (word l.memory (l.world.place class_objects + 8 * tag l.table c) ≡ l.world.place (prototype l.table c))
      × (word l.memory (l.world.place class_objects + 8 * tag l.table c + 4) ≡ l.world.place (initializer l.table c))
  pub slots_in : (c : ClassId) (name : List ℕ) (k : ℕ) → c.0 < length l.table → slot l.table c name ≡ Some k → InData l.world (l.world.place (dispatch_table l.table c) + 4 * k) 1
  pub slots : (c : ClassId) (name : List ℕ) (k : ℕ) → c.0 < length l.table → slot l.table c name ≡ Some k
      → word l.memory (l.world.place (dispatch_table l.table c) + 4 * k) ≡ l.world.place (method_label l.table (method l.table c name))
  pub tables_fit : (c : ClassId) → c.0 < length l.table → (l.world.place (dispatch_table l.table c) % 4 ≡ 0) × (l.world.place (dispatch_table l.table c) < 2 ^ 32)
  pub end_text : TextAt l.world l.memory (l.world.place end_text) (codes "COOL program successfully executed\n")
  pub abort_text : TextAt l.world l.memory (l.world.place abort_text) (codes "Abort called from class ")
  pub newline_text : TextAt l.world l.memory (l.world.place newline_text) (codes "\n")
  pub colon_text : TextAt l.world l.memory (l.world.place colon_text) (codes ":")
  pub no_branch_text : TextAt l.world l.memory (l.world.place no_branch_text) (codes ": No matching branch for class ")
  pub stop_text : TextAt l.world l.memory (l.world.place stop_text) (codes ".\n")
  pub dispatch_text : TextAt l.world l.memory (l.world.place dispatch_text) (codes ": Dispatch to void.\n")
  pub case_text : TextAt l.world l.memory (l.world.place case_text) (codes ": Case on void.\n")
  pub division_text : TextAt l.world l.memory (l.world.place division_text) (codes ": Division by zero.\n")
  pub substring_text : TextAt l.world l.memory (l.world.place substring_text) (codes ": Substring out of range.\n")
  pub overflow_text : TextAt l.world l.memory (l.world.place overflow_text) (codes ": Arithmetic overflow.\n")
