-- `program_spans` lists the spans (address ranges of expressions) of a whole program: those of the attributes of each class and of its methods, each with its
-- class and its feature.
use Rattle.std.specs.Prelude.{ℕ, ◌+◌, List, [], ◌++◌, length, map, nat_lt, if◌then◌else◌}
use Rattle.mips_isa.specs.Lines.{Line}
use Rattle.cool_classes.specs.declared.class_id.ClassId.{ClassId}
use Rattle.cool_classes.specs.Chains.{Class, parent_of}
use Rattle.cool_runtime.specs.CodeOfCalls.{enter_lines}
use Rattle.cool_runtime.specs.RoutineLines.{all_routine_lines}
use Rattle.cool_layout.specs.Preorder.{numbers_from}
use Rattle.cool_layout.specs.Labels.{initializer}
use Rattle.cool_consts.specs.Constants.{Constants}
use Rattle.cool_codegen.specs.Code.{Context}
use Rattle.cool_codegen.specs.Pieces.{begin_init_lines}
use Rattle.cool_emit.specs.Programs.{Placed, attributes_in, methods_in, placed_code, parent_code, initializer_code, class_code, program_constants}
use Rattle.cool_codegen.specs.Spans.{Span, code_of, along, feature_spans}

-- a span in a feature of a class
pub record SpanOf : Type 0 where
  pub class : ClassId
  pub feature : ℕ
  pub span : Span

module _ (p : List Class) (files : List (List ℕ)) where
  abbrev pub context_of : ClassId → ℕ → Context
  context_of c feature = record { table = p; class = c; feature = feature; files = files }

  -- the lines of a span of the program
  abbrev pub lines_of_span : Constants → SpanOf → List Line
  lines_of_span g x = code_of (context_of x.class x.feature) g x.span

-- The output for each feature, given the address at which its code begins, in the order of the text: the attributes of each class, and then its methods.
module _ {X : Type 0} (size : List Line → ℕ) (p : List Class) (files : List (List ℕ)) (g : Constants) (told : ClassId → ℕ → Placed → List X) where
  abbrev pub told_in_initializer : ℕ → ClassId → List X
  told_in_initializer pc c =
      if nat_lt c.0 5 then []
      else along size (placed_code p files g c) (told c)
      (pc + size (begin_init_lines (initializer p c)) + size enter_lines + size (parent_code p (parent_of p c))) (attributes_in p c)

  abbrev pub told_in_class : ℕ → ClassId → List X
  told_in_class pc c = told_in_initializer pc c ++ along size (placed_code p files g c) (told c) (pc + size (initializer_code p files g c)) (methods_in p c)

  -- the output for a text that begins at an address
  abbrev pub told_in_text : ℕ → List X
  told_in_text pc = along size (class_code p files g) told_in_class (pc + size all_routine_lines) (numbers_from 0 (length p))

module _ (size : List Line → ℕ) (p : List Class) (files : List (List ℕ)) (g : Constants) where
  abbrev pub placed_spans : ClassId → ℕ → Placed → List SpanOf
  placed_spans c pc f = map (λ (x : Span). record { class = c; feature = f.place; span = x }) (feature_spans size (context_of p files c f.place) g pc f.feature)

  abbrev pub initializer_spans : ℕ → ClassId → List SpanOf
  initializer_spans = told_in_initializer size p files g placed_spans

  abbrev pub text_spans : ℕ → List SpanOf
  text_spans = told_in_text size p files g placed_spans

abbrev pub program_spans : (List Line → ℕ) → List Class → List (List ℕ) → ℕ → List SpanOf
program_spans size p files = text_spans size p files (program_constants p files)
