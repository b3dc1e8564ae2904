-- `basic` is the result of a method of a basic class (the Cool manual, section 8). The file also defines the computations that make new values and count the
-- words of memory that they take.
use Rattle.std.specs.Prelude.{◌≡◌, refl, ℕ, ◌+◌, ◌-◌, ◌/◌, ℤ, pos, negsuc, Bool as Truth, ◌==◌, nat_le, if◌then◌else◌, List, [], ◌∷◌, ◌++◌, length, take, drop, Option, Some, None, codes}
use Rattle.std.specs.Fmt.{signed_decimal}
use Rattle.cool_syntax.specs.declared.place.Place.{Place}
use Rattle.cool_classes.specs.declared.method.BasicMethod.{BasicMethod}
use Rattle.cool_classes.specs.declared.method.BasicMethod.TheVariants.{Abort, TypeName, Copy, OutString, OutInt, InString, InInt, Length, Concat, Substr}
use Rattle.cool_classes.specs.Chains.{Class, name_of}
use Rattle.cool_meaning.specs.Values.{Value, Void, Int, Bool, Str, Obj, class_of}
use Rattle.cool_meaning.specs.Meters.{Computation, Substring, Aborted, ◌>>=◌, ◌>>◌, give, stop, stuck, working, giving, reading, changing, given, locate, load}
use Rattle.cool_meaning.specs.Numbers.{signed, number_of}
use Rattle.cool_classes.specs.ClimbedChains.{chain}

-- the number, truth or string that a value is

abbrev pub as_number : Value → Computation ℤ
as_number (Int n) = give n
as_number Void = stuck
as_number (Bool b) = stuck
as_number (Str bytes) = stuck
as_number (Obj c i ls) = stuck

abbrev pub as_truth : Value → Computation Truth
as_truth (Bool b) = give b
as_truth Void = stuck
as_truth (Int n) = stuck
as_truth (Str bytes) = stuck
as_truth (Obj c i ls) = stuck

abbrev pub as_string : Value → Computation (List ℕ)
as_string (Str bytes) = give bytes
as_string Void = stuck
as_string (Int n) = stuck
as_string (Bool b) = stuck
as_string (Obj c i ls) = stuck

-- the one argument of a call, or its two

abbrev pub one : List Value → Computation Value
one [] = stuck
one (v ∷ []) = give v
one (v ∷ w ∷ vs) = stuck

abbrev pub two : List Value → Computation (Value × Value)
two [] = stuck
two (v ∷ []) = stuck
two (v ∷ w ∷ []) = give (v, w)
two (v ∷ w ∷ x ∷ vs) = stuck

-- a new number, a new truth, and a new string: they take words, and a string the work of its bytes
abbrev pub new_number : ℤ → Computation Value
new_number n = giving 5 (give (Int n))

abbrev pub new_truth : Truth → Computation Value
new_truth b = giving 5 (give (Bool b))

abbrev pub new_string : List ℕ → Computation Value
new_string bytes = working (length bytes) (giving (17 + (length bytes + 3) / 4) (give (Str bytes)))

-- a new identity
abbrev pub draw : Computation ℕ
draw = reading (λ s. changing (λ t. record t { drawn = s.drawn + 1 }) s.drawn)

-- values at new locations, and the values at locations
abbrev pub locate_all : List Value → Computation (List ℕ)
locate_all [] = give []
locate_all (v ∷ vs) = do
  l ← locate v
  ls ← locate_all vs
  give (l ∷ ls)

abbrev pub load_all : List ℕ → Computation (List Value)
load_all [] = give []
load_all (l ∷ ls) = do
  v ← load l
  vs ← load_all ls
  give (v ∷ vs)

-- an equal value, or an object of the same class with locations of its own
abbrev pub copy : List Class → Value → Computation Value
copy p Void = stuck
copy p (Int n) = new_number n
copy p (Bool b) = new_truth b
copy p (Str bytes) = new_string bytes
copy p (Obj c i ls) = working (length ls + length (chain p c)) (giving (4 + length ls) (do
  vs ← load_all ls
  ls' ← locate_all vs
  i' ← draw
  give (Obj c i' ls')))

-- printing a text
abbrev pub print : List ℕ → Computation (Unit {0})
print bytes = changing (λ s. record s { output = s.output ++ bytes }) tt

-- a line of the input without its newline and without bytes 0, and the rest of the input
pub record Line : Type 0 where
  pub bytes : List ℕ
  pub rest : List ℕ

abbrev pub line_of : List ℕ → Line
line_of [] = record { bytes = []; rest = [] }
line_of (b ∷ rest) =
    if b == 0 then line_of rest
    else (if b == 10 then record { bytes = []; rest = rest }
    else record { bytes = b ∷ (line_of rest).bytes; rest = (line_of rest).rest })

-- a line is taken from the input, with the work of all bytes that this takes
abbrev pub take_line : Computation (List ℕ)
take_line = reading (λ s. working (length s.input - length (line_of s.input).rest) (changing (λ t. record t { input = (line_of s.input).rest }) (line_of s.input).bytes))

-- so many bytes from a position, where the string has them
abbrev pub part : List ℕ → ℤ → ℤ → Option (List ℕ)
part bytes (pos i) (pos l) = if nat_le (i + l) (length bytes) then Some (take l (drop i bytes)) else None
part bytes (pos i) (negsuc l) = None
part bytes (negsuc i) l = None

abbrev pub substring : Place → Option (List ℕ) → Computation Value
substring at None = stop (Substring at)
substring at (Some bytes) = new_string bytes

-- a method of a basic class, called at a place on a receiver with these arguments
abbrev pub basic : List Class → BasicMethod → Place → Value → List Value → Computation Value
basic p Abort at v vs = do
  c ← given (class_of v)
  stop (Aborted c)
basic p TypeName at v vs = do
  c ← given (class_of v)
  give (Str (name_of p c))
basic p Copy at v vs = copy p v
basic p OutString at v vs = do
  w ← one vs
  bytes ← as_string w
  working (length bytes) (print bytes)
  give v
basic p OutInt at v vs = do
  w ← one vs
  n ← as_number w
  print (signed_decimal n)
  give v
basic p InString at v vs = do
  bytes ← take_line
  new_string bytes
basic p InInt at v vs = do
  bytes ← take_line
  new_number (number_of bytes)
basic p Length at v vs = do
  bytes ← as_string v
  new_number (signed (length bytes))
basic p Concat at v vs = do
  bytes ← as_string v
  w ← one vs
  more ← as_string w
  new_string (bytes ++ more)
basic p Substr at v vs = do
  bytes ← as_string v
  ws ← two vs
  i ← as_number ws.0
  l ← as_number ws.1
  substring at (part bytes i l)

-- Worked examples: a line ends at a newline and loses bytes 0; a part of "abc".
line_with_zero : line_of (120 ∷ 0 ∷ 121 ∷ 10 ∷ 122 ∷ []) ≡ record { bytes = 120 ∷ 121 ∷ []; rest = 122 ∷ [] }
line_with_zero = refl

part_at_end : part (codes "abc") (pos 3) (pos 0) ≡ Some []
part_at_end = refl

part_past_end : part (codes "abc") (pos 1) (pos 3) ≡ None
part_past_end = refl
