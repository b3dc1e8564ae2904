-- `feature_code` is the code of a feature: a method under its label, or the part of a class's initializer that computes and stores an initial value.
use Rattle.std.specs.Prelude.{ℕ, pos, ◌+◌, ◌*◌, List, [], ◌∷◌, ◌++◌, length, Option, Some, None}
use Rattle.cool_syntax.specs.declared.file_tree.Feature.{Feature}
use Rattle.cool_syntax.specs.declared.file_tree.Feature.TheVariants.{Method, Attribute}
use Rattle.cool_syntax.specs.declared.file_tree.Formal.{Formal}
use Rattle.cool_syntax.specs.Tree.{Tree}
use Rattle.mips_isa.specs.Lines.{Line}
use Rattle.mips_isa.specs.declared.register.TheConstants.{S0}
use Rattle.cool_classes.specs.declared.class_id.ClassId.{ClassId}
use Rattle.cool_classes.specs.declared.method.AttributeRef.{AttributeRef}
use Rattle.cool_classes.specs.declared.method.MethodRef.TheVariants.{User}
use Rattle.cool_classes.specs.Chains.{Class}
use Rattle.cool_classes.specs.ClimbedChains.{chain}
use Rattle.cool_classes.specs.Features.{attributes_of, attribute_name, attribute_type}
use Rattle.cool_rules.specs.Rules.{type_meant}
use Rattle.cool_runtime.specs.CodeOfCalls.{enter_lines}
use Rattle.cool_layout.specs.Members.{offset}
use Rattle.cool_layout.specs.Labels.{method_label}
use Rattle.cool_consts.specs.Constants.{Constants}
use Rattle.cool_codegen.specs.Pieces.{mark_lines, leave_lines, store_lines}
use Rattle.cool_codegen.specs.declared.variables.Base.TheVariants.{Frame, Object}
use Rattle.cool_codegen.specs.Variables.{Named}
use Rattle.cool_codegen.specs.Code.{Context, code}
use Rattle.cool_codegen.specs.Asked.{integers_in, strings_in}

-- attributes of a class, entered after names
abbrev pub with_attributes : List Class → ClassId → List AttributeRef → List Named → List Named
with_attributes p c [] vs = vs
with_attributes p c (a ∷ as') vs =
    with_attributes p c as' (record {
      name = attribute_name p a;
      value = record { base = Object; offset = pos (offset p c a); ty = type_meant p (attribute_type p a) };
    } ∷ vs)

-- formals, entered after names: the last one is nearest to the frame
abbrev pub with_formals : List Class → List Formal → List Named → List Named
with_formals p [] vs = vs
with_formals p (f ∷ fs) vs =
    with_formals p fs (record {
      name = f.name;
      value = record { base = Frame; offset = pos (12 + 4 * length fs); ty = type_meant p f.declared.name };
    } ∷ vs)

-- the attributes of a class in scope
abbrev pub attributes_in : List Class → ClassId → List Named
attributes_in p c = with_attributes p c (attributes_of p (chain p c)) []

-- the names in scope in all of a feature
abbrev pub feature_names : Context → Feature → List Named
feature_names s (Method m) = with_formals s.table m.formals (attributes_in s.table s.class)
feature_names s (Attribute a) = attributes_in s.table s.class

abbrev pub method_code : Context → Constants → List Formal → Tree → List Line
method_code s g formals body =
    mark_lines (method_label s.table (User s.class s.feature))
    ++ (enter_lines
    ++ (code s g (with_formals s.table formals (attributes_in s.table s.class)) 0 0 body
    ++ leave_lines (pos (12 + 4 * length formals))))

abbrev pub initial_value_code : Context → Constants → Option Tree → List Line
initial_value_code s g None = []
initial_value_code s g (Some t) =
    code s g (attributes_in s.table s.class) 0 0 t
    ++ store_lines (pos (offset s.table s.class (record { owner = s.class; index = s.feature }))) S0

abbrev pub feature_code : Context → Constants → Feature → List Line
feature_code s g (Method m) = method_code s g m.formals m.body
feature_code s g (Attribute a) = initial_value_code s g a.init

-- the constants that a feature asks for

abbrev pub initial_integers : Option Tree → List ℕ
initial_integers None = []
initial_integers (Some t) = integers_in t

abbrev pub feature_integers : Feature → List ℕ
feature_integers (Method m) = integers_in m.body
feature_integers (Attribute a) = initial_integers a.init

abbrev pub initial_strings : List (List ℕ) → Option Tree → List (List ℕ)
initial_strings files None = []
initial_strings files (Some t) = strings_in files t

abbrev pub feature_strings : List (List ℕ) → Feature → List (List ℕ)
feature_strings files (Method m) = strings_in files m.body
feature_strings files (Attribute a) = initial_strings files a.init
