-- `big_text` defines the text of a large valid Cool program, from a number n (syntax: Cool manual, section 11). It has a chain of n + 1 classes, of which all
-- but the first redefine a method, and a class Main, which calls each of these methods once. When run, the program writes 2001 + 2 * i and a newline for each i
-- from 1 to n.
use Rattle.std.specs.Prelude.{◌≡◌, ℕ, ◌+◌, ◌-◌, ◌/◌, ◌%◌, List, [], ◌∷◌, ◌++◌, length, flat_map, codes, refl}
use Rattle.std.specs.List.{range_with_len}
use Rattle.cool_big.specs.declared.line.Line.{Line}
use Rattle.cool_big.specs.declared.line.Line.TheVariants.{Class, Method, Call}

-- a number below 10000 in four decimal digits
abbrev pub four_digits : ℕ → List ℕ
four_digits i = (48 + i / 1000) ∷ (48 + i / 100 % 10) ∷ (48 + i / 10 % 10) ∷ (48 + i % 10) ∷ []

-- words with a number after them
abbrev pub numbered : List ℕ → ℕ → List ℕ
numbered words i = words ++ four_digits i

-- the first class of the chain, with an attribute, a method, and a method that gives the object itself
abbrev pub root_text : List ℕ
root_text = codes "class K0000 inherits IO { a : Int <- 1; f(x : Int) : Int { x + a }; g() : SELF_TYPE { self }; };\n"

-- the class of i, which inherits from the one before it
abbrev pub class_text : ℕ → List ℕ
class_text i = numbered (codes "class K") i ++ (numbered (codes " inherits K") (i - 1) ++ codes " { f(x : Int) : Int { x * 2 + a }; };\n")

-- the method of Main that calls the method f of the class of i with 1000 + i, and writes the result
abbrev pub method_text : ℕ → List ℕ
method_text i =
    numbered (codes "  m") i ++ (numbered (codes "() : Object { out_int((new K") i
    ++ (numbered (codes ").g().f(") (1000 + i) ++ codes ")).out_string(\"\\n\") };\n"))

-- the call of that method
abbrev pub call_text : ℕ → List ℕ
call_text i = numbered (codes "    m") i ++ codes "();\n"

abbrev pub line_text : Line → ℕ → List ℕ
line_text Class = class_text
line_text Method = method_text
line_text Call = call_text

-- a line for each number from 1 to n, in order
abbrev pub line_texts : Line → ℕ → List ℕ
line_texts line n = flat_map (line_text line) (range_with_len 1 n)

-- the method main, which makes the calls
abbrev pub body_text : ℕ → List ℕ
body_text n = codes "  main() : Object { {\n" ++ (line_texts Call n ++ codes "  } };\n")

abbrev pub main_text : ℕ → List ℕ
main_text n = codes "class Main inherits IO {\n" ++ (line_texts Method n ++ (body_text n ++ codes "};\n"))

abbrev pub big_text : ℕ → List ℕ
big_text n = root_text ++ (line_texts Class n ++ main_text n)

-- worked examples: numbers in digits, the text for 1, and how long it and the one for 2 are
digits_of_1042 : four_digits 1042 ≡ codes "1042"
digits_of_1042 = refl

digits_of_7 : four_digits 7 ≡ codes "0007"
digits_of_7 = refl

text_of_one : big_text 1
    ≡ codes "class K0000 inherits IO { a : Int <- 1; f(x : Int) : Int { x + a }; g() : SELF_TYPE { self }; };\n"
    ++ (codes "class K0001 inherits K0000 { f(x : Int) : Int { x * 2 + a }; };\n"
    ++ (codes "class Main inherits IO {\n"
    ++ (codes "  m0001() : Object { out_int((new K0001).g().f(1001)).out_string(\"\\n\") };\n"
    ++ (codes "  main() : Object { {\n"
    ++ (codes "    m0001();\n"
    ++ codes "  } };\n};\n")))))
text_of_one = refl

bytes_for_one : length (big_text 1) ≡ 305
bytes_for_one = refl

bytes_for_two : length (big_text 2) ≡ 456
bytes_for_two = refl
