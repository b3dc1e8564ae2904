-- A loaded program also satisfies `IsLoaded` if the proof watches a run: then the text has no instruction where an expression begins, and is that of the
-- program's image elsewhere.
use Rattle.std.proofs.Common.{◌≡◌, ℕ, ◌+◌, ◌<◌, List, ◌∷◌, ◌++◌, drop, length, map as each, None, Some, Bool as Truth, refl, sym, subst, arith}
use Rattle.std.specs.Prelude.{slice_get}
use Rattle.mips_isa.specs.declared.address_map.TheConstants.{HEAP_START, TEXT_START}
use Rattle.mips_isa.specs.Bytes.{Bytes}
use Rattle.cool_syntax.specs.declared.file_tree.AttributeDef.{AttributeDef}
use Rattle.cool_syntax.specs.declared.file_tree.Feature.TheVariants.{Method, Attribute}
use Rattle.cool_syntax.specs.declared.file_tree.MethodDef.{MethodDef}
use Rattle.cool_syntax.specs.Tree.{Tree}
use Rattle.cool_classes.specs.declared.class_id.ClassId.{ClassId}
use Rattle.cool_classes.specs.Chains.{Class, features_of}
use Rattle.cool_runtime.specs.Reaches.{World}
use Rattle.cool_runtime.specs.RoutineLines.{all_routine_lines, routine_lines}
use Rattle.cool_runtime.specs.Standing.{HasLines, sizes}
use Rattle.cool_runtime.specs.declared.catalogue.Routine.{Routine}
use Rattle.cool_runtime.proofs.Pieces.{has_front, has_back}
use Rattle.cool_codegen.specs.Features.{attributes_in, with_formals}
use Rattle.cool_emit.specs.Programs.{classes_code, program_constants, program_text}
use Rattle.cool_emit.specs.SpansOfPrograms.{SpanOf, context_of, program_spans}
use Rattle.cool_simulation.specs.Loadings.{IsLoaded, Loading, Watch, routine_label}
use Rattle.cool_simulation.proofs.ground.OtherTexts.{bool_over, data_over, int_over, name_over, object_over, string_over, text_over}
use Rattle.cool_simulation.proofs.ground.QuietTexts.{lines_quiet, over}
use Rattle.cool_simulation.proofs.loading.LoadedText.{among_routines, routine_begins}
use Rattle.cool_simulation.proofs.loading.MarkedTexts.{among_of, is_among, without, without_same, without_traps}
use Rattle.cool_simulation.proofs.loading.PartsOfLines.{Among}
use Rattle.cool_simulation.proofs.loading.PartsOfMarks.{AreMarks}
use Rattle.cool_simulation.proofs.loading.QuietFeatures.{IsSettled, out_of_image}
use Rattle.cool_simulation.proofs.loading.QuietPrograms.{initializer_quiet, method_quiet, routines_free}
use Rattle.cool_runtime.specs.Instructions.{label}

-- the addresses at which the spans of the program begin
abbrev pub froms : List Class → List (List ℕ) → List ℕ
froms p files = each (λ (x : SpanOf). x.span.from) (program_spans sizes p files TEXT_START)

abbrev pub marked : List Class → List (List ℕ) → ℕ → Truth
marked p files = is_among (froms p files)

-- each mark is where a span of the table begins, and the other way round

pub are_marks : (p : List Class) (files : List (List ℕ)) (from to : ℕ) → AreMarks (marked p files) from to (program_spans sizes p files TEXT_START)
are_marks p files from to i even low high mark = out_of_image (λ (x : SpanOf). x.span.from) (program_spans sizes p files TEXT_START) i (among_of (froms p files) i mark)

-- a routine in the lines of all
routine_in : (w : World) (pc : ℕ) → HasLines w pc all_routine_lines → (r : Routine) → HasLines w (w.place (routine_label r)) (routine_lines r)
routine_in w pc has r =
    let h : Among all_routine_lines (routine_lines r) = among_routines r in
    let at = pc + sizes h.front in
    let there : HasLines w at (routine_lines r) = has_front w (routine_lines r) h.back at (has_back w h.front (routine_lines r ++ h.back) pc at refl (subst (HasLines w pc) h.split has)) in
    let first : HasLines w at (label (routine_label r) ∷ drop 1 (routine_lines r)) = subst (HasLines w at) (routine_begins r) there in
    subst (λ a. HasLines w a (routine_lines r)) (sym first.0.labels.0) there

module _ (p : List Class) (files : List (List ℕ)) (w : World) (memory : Bytes)
    (methods : (c : ClassId) (k : ℕ) (m : MethodDef) → c.0 < length p → slice_get (features_of p c) k ≡ Some (Method m)
    → IsSettled (marked p files) (context_of p files c k) (program_constants p files) (with_formals p m.formals (attributes_in p c)) m.body)
    (values : (c : ClassId) (k : ℕ) (a : AttributeDef) (t : Tree) → c.0 < length p → slice_get (features_of p c) k ≡ Some (Attribute a) → a.init ≡ Some t
    → IsSettled (marked p files) (context_of p files c k) (program_constants p files) (attributes_in p c) t)
    (text : HasLines w TEXT_START (program_text p files)) (loaded : IsLoaded (record { table = p; files = files; world = w; memory = memory; watch = None })) (input : List ℕ) (steps : ℕ) where
  -- the text with no instruction where a span begins
  abbrev quiet_text : List ℕ
  quiet_text = without w.text (froms p files)

  abbrev pub quiet_world : World
  quiet_world = over w quiet_text

  pub marks : AreMarks (marked p files) TEXT_START (TEXT_START + sizes (program_text p files)) (program_spans sizes p files TEXT_START)
  marks = are_marks p files TEXT_START (TEXT_START + sizes (program_text p files))

  abbrev pub watch : Watch p files quiet_world
  watch = record {
    text = w.text;
    marked = marked p files;
    same = without_same w.text (froms p files);
    traps = without_traps w.text (froms p files);
    methods = λ c k m high within there. method_quiet p files w (marked p files) methods values text marks c k m within there;
    initializers = λ c within. initializer_quiet p files w (marked p files) methods values text marks c within;
    input = input;
    steps = steps;
  }

  abbrev pub watched : Loading
  watched = record { table = p; files = files; world = quiet_world; memory = memory; watch = Some watch }

  routines_there : HasLines quiet_world TEXT_START all_routine_lines
  routines_there =
      lines_quiet quiet_world w.text (marked p files) (without_same w.text (froms p files)) (without_traps w.text (froms p files)) all_routine_lines TEXT_START (TEXT_START + sizes all_routine_lines) (omega arith)
      (routines_free p files w (marked p files) methods values text marks)
      (has_front w all_routine_lines (classes_code p files (program_constants p files)) TEXT_START text)

  pub is_watched : IsLoaded watched
  is_watched = record {
    buildable = loaded.buildable;
    tags = loaded.tags;
    routines = routine_in quiet_world TEXT_START routines_there;
    methods = loaded.methods;
    initializers = loaded.initializers;
    integers = λ n h. int_over w quiet_text memory HEAP_START _ n (loaded.integers n h);
    strings = λ bytes h. string_over w quiet_text memory HEAP_START _ bytes (loaded.strings bytes h);
    truths = λ b. bool_over w quiet_text memory HEAP_START _ _ (loaded.truths b);
    default_int = int_over w quiet_text memory HEAP_START _ 0 loaded.default_int;
    default_string = string_over w quiet_text memory HEAP_START _ _ loaded.default_string;
    prototypes = λ c within. object_over w quiet_text memory HEAP_START _ _ _ _ _ (loaded.prototypes c within);
    names = λ c within. name_over w quiet_text memory HEAP_START _ _ (loaded.names c within);
    class_objects_in = λ c within. data_over w quiet_text _ 2 (loaded.class_objects_in c within);
    class_objects = loaded.class_objects;
    slots_in = λ c name k within is. data_over w quiet_text _ 1 (loaded.slots_in c name k within is);
    slots = loaded.slots;
    tables_fit = loaded.tables_fit;
    end_text = text_over w quiet_text memory _ _ loaded.end_text;
    abort_text = text_over w quiet_text memory _ _ loaded.abort_text;
    newline_text = text_over w quiet_text memory _ _ loaded.newline_text;
    colon_text = text_over w quiet_text memory _ _ loaded.colon_text;
    no_branch_text = text_over w quiet_text memory _ _ loaded.no_branch_text;
    stop_text = text_over w quiet_text memory _ _ loaded.stop_text;
    dispatch_text = text_over w quiet_text memory _ _ loaded.dispatch_text;
    case_text = text_over w quiet_text memory _ _ loaded.case_text;
    division_text = text_over w quiet_text memory _ _ loaded.division_text;
    substring_text = text_over w quiet_text memory _ _ loaded.substring_text;
    overflow_text = text_over w quiet_text memory _ _ loaded.overflow_text;
  }
