-- Worked examples of folding: the result for each kind of expression that folding changes, and expressions that are left as they are.
use Rattle.std.specs.Prelude.{◌≡◌, refl, ℕ, true, false, List, [], ◌∷◌, ◌++◌, Some, codes}
use Rattle.cool_syntax.specs.declared.type_ref.TypeRef.{TypeRef}
use Rattle.cool_syntax.specs.declared.file_tree.Feature.{Feature}
use Rattle.cool_syntax.specs.declared.file_tree.Feature.TheVariants.{Method}
use Rattle.cool_syntax.specs.declared.operator.ArithOp.{ArithOp}
use Rattle.cool_syntax.specs.declared.operator.ArithOp.TheVariants.{Add, Sub, Mul, Div}
use Rattle.cool_syntax.specs.declared.operator.CompareOp.{CompareOp}
use Rattle.cool_syntax.specs.declared.operator.CompareOp.TheVariants.{Less, LessEqual, Equal}
use Rattle.cool_syntax.specs.Bare.{nowhere}
use Rattle.cool_syntax.specs.Tree.{Tree, Id, Int, Str, Bool, Dispatch, StaticDispatch, If, IsVoid, Not, Neg, Arith, Compare, Last}
use Rattle.cool_classes.specs.declared.class_id.Ty.TheVariants.{Class as IsClass}
use Rattle.cool_classes.specs.Chains.{Class, class_number}
use Rattle.cool_classes.specs.ClimbedChains.{climbed, above, chain}
use Rattle.cool_classes.specs.Tables.{basic_classes}
use Rattle.cool_rules.specs.Rules.{is_among, first_among, join_in, type_of_name, type_meant}
use Rattle.cool_fold.specs.Folding.{fold}

abbrev named : List ℕ → TypeRef
named name = record { name = name; at = nowhere }

abbrev number_method : List ℕ → ℕ → Feature
number_method name n = Method (record { name = name; at = nowhere; formals = []; result = named (codes "Int"); body = Int nowhere n })

-- class Shape { area() : Int { 0 }; sides() : Int { 4 }; }; class Square inherits Shape { area() : Int { 1 }; };
abbrev shapes : List Class
shapes =
    basic_classes
    ++ record {
      name = codes "Shape";
      parent = Some (class_number 0);
      features = number_method (codes "area") 0 ∷ number_method (codes "sides") 4 ∷ [];
    }
    ∷ record { name = codes "Square"; parent = Some (class_number 5); features = number_method (codes "area") 1 ∷ [] }
    ∷ []

-- an expression of Shape folded, where `s` is a Shape and `q` a Square
abbrev folded : Tree → Tree
folded t =
    fold shapes (class_number 5)
    (record { name = codes "s"; value = IsClass (class_number 5) } ∷ record { name = codes "q"; value = IsClass (class_number 6) } ∷ []) t

abbrev s : Tree
s = Id nowhere (codes "s")

abbrev q : Tree
q = Id nowhere (codes "q")

abbrev computed : ArithOp → ℕ → ℕ → Tree
computed op m n = Arith nowhere op (Int nowhere m) (Int nowhere n)

abbrev compared : CompareOp → Tree → Tree → Tree
compared op a b = Compare nowhere op a b

-- Numbers: -1 is the word 4294967295, and the smallest number is the word 2147483648.

sum : folded (computed Add 1 2) ≡ Int nowhere 3
sum = refl

difference : folded (computed Sub 2 3) ≡ Int nowhere 4294967295
difference = refl

product : folded (computed Mul 4294967295 5) ≡ Int nowhere 4294967291
product = refl

quotient : folded (computed Div 4294967289 2) ≡ Int nowhere 4294967293
quotient = refl

inner : folded (Arith nowhere Mul (computed Add 1 2) (Neg nowhere (Int nowhere 4))) ≡ Int nowhere 4294967284
inner = refl

smallest : folded (computed Sub 2147483649 1) ≡ Int nowhere 2147483648
smallest = refl

by_zero : folded (computed Div 1 0) ≡ computed Div 1 0
by_zero = refl

too_large : folded (computed Add 2147483647 1) ≡ computed Add 2147483647 1
too_large = refl

smallest_by : folded (computed Div 2147483648 4294967295) ≡ computed Div 2147483648 4294967295
smallest_by = refl

smallest_negated : folded (Neg nowhere (Int nowhere 2147483648)) ≡ Neg nowhere (Int nowhere 2147483648)
smallest_negated = refl

of_a_name : folded (Arith nowhere Add s (computed Add 1 2)) ≡ Arith nowhere Add s (Int nowhere 3)
of_a_name = refl

-- Truths: comparisons, `not` and `isvoid` of constants.

less : folded (compared Less (Int nowhere 4294967295) (Int nowhere 1)) ≡ Bool nowhere true
less = refl

less_equal : folded (compared LessEqual (Int nowhere 2) (Int nowhere 1)) ≡ Bool nowhere false
less_equal = refl

equal_texts : folded (compared Equal (Str nowhere (codes "ab")) (Str nowhere (codes "ab"))) ≡ Bool nowhere true
equal_texts = refl

equal_truths : folded (compared Equal (Bool nowhere true) (Bool nowhere false)) ≡ Bool nowhere false
equal_truths = refl

equal_names : folded (compared Equal s s) ≡ compared Equal s s
equal_names = refl

inverted : folded (Not nowhere (compared Less (Int nowhere 1) (Int nowhere 2))) ≡ Bool nowhere false
inverted = refl

no_void : folded (IsVoid nowhere (Str nowhere [])) ≡ Bool nowhere false
no_void = refl

maybe_void : folded (IsVoid nowhere s) ≡ IsVoid nowhere s
maybe_void = refl

-- Tests: the part that is taken stands for the whole if it has its type. A Square is no Shape for code that finds methods by the type.

taken : folded (If nowhere (compared Less (Int nowhere 1) (Int nowhere 2)) (computed Add 3 4) (Int nowhere 0)) ≡ Int nowhere 7
unfolding chain above climbed is_among first_among join_in type_of_name type_meant
taken = refl

other_taken : folded (If nowhere (Bool nowhere false) q s) ≡ s
unfolding chain above climbed is_among first_among join_in type_of_name type_meant
other_taken = refl

of_another_type : folded (If nowhere (Bool nowhere true) q s) ≡ If nowhere (Bool nowhere true) q s
unfolding chain above climbed is_among first_among join_in type_of_name type_meant
of_another_type = refl

-- Dispatches: the only method of Shape's `sides` is called directly; `area` is redefined below Shape, and below Square no more.

only_method : folded (Dispatch nowhere s (codes "sides") Last) ≡ StaticDispatch nowhere s (named (codes "Shape")) (codes "sides") Last
unfolding chain above climbed is_among
only_method = refl

redefined : folded (Dispatch nowhere s (codes "area") Last) ≡ Dispatch nowhere s (codes "area") Last
unfolding chain above climbed is_among
redefined = refl

redefined_no_more : folded (Dispatch nowhere q (codes "area") Last) ≡ StaticDispatch nowhere q (named (codes "Square")) (codes "area") Last
unfolding chain above climbed is_among
redefined_no_more = refl
