-- Worked examples of the semantics: the runs of whole programs, each given by its class table.
use Rattle.std.specs.Prelude.{◌≡◌, refl, ℕ, List, [], ◌∷◌, ◌++◌, Some, codes}
use Rattle.cool_syntax.specs.declared.type_ref.TypeRef.{TypeRef}
use Rattle.cool_syntax.specs.declared.file_tree.Feature.TheVariants.{Method}
use Rattle.cool_syntax.specs.Bare.{nowhere}
use Rattle.cool_syntax.specs.Tree.{Tree, Dispatch, Id, Int, Str, Block, Last, More}
use Rattle.cool_classes.specs.Chains.{Class, class_number}
use Rattle.cool_classes.specs.ClimbedChains.{climbed, above, chain}
use Rattle.cool_classes.specs.Tables.{basic_classes}
use Rattle.cool_meaning.specs.SourceRun.{run, Done, GoesOn, done_text}

abbrev type : List ℕ → TypeRef
type name = record { name = name; at = nowhere }

-- a class Main whose only feature is a method main
abbrev main_alone : List ℕ → ℕ → Tree → List Class
main_alone result parent body = basic_classes ++ record { name = codes "Main"; parent = Some (class_number parent); features = Method (record { name = codes "main"; at = nowhere; formals = []; result = type result; body = body }) ∷ [] } ∷ []

-- class Main { main() : Object { 0 }; };
abbrev zero_program : List Class
zero_program = main_alone (codes "Object") 0 (Int nowhere 0)

-- class Main inherits IO { main() : Object { { out_string("Hello\n"); } }; };
abbrev hello : List Class
hello = main_alone (codes "Object") 1 (Block nowhere (More (Dispatch nowhere (Id nowhere (codes "self")) (codes "out_string") (More (Str nowhere (codes "Hello" ++ 10 ∷ [])) Last)) Last))

zero_run : run zero_program [] [] 2 ≡ record { end = Done; output = done_text; left = []; work = 6; words = 4; peak = 3 }
unfolding run chain above climbed
zero_run = refl

zero_at_once : run zero_program [] [] 0 ≡ record { end = GoesOn; output = []; left = []; work = 3; words = 0; peak = 3 }
unfolding run chain above climbed
zero_at_once = refl

hello_run : run hello [] [] 3 ≡ record { end = Done; output = codes "Hello" ++ 10 ∷ done_text; left = []; work = 17; words = 4; peak = 5 }
unfolding run chain above climbed
hello_run = refl

hello_goes_on : run hello [] [] 2 ≡ record { end = GoesOn; output = []; left = []; work = 10; words = 4; peak = 5 }
unfolding run chain above climbed
hello_goes_on = refl
