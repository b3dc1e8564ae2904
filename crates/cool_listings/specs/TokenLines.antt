-- The lines of tokens: each file has a line for each token up to its first fault, and then one for its end or for the fault. One blank separates the
-- words of a line, and a newline ends it.
--
--     keyword PLACE WORD
--     sign PLACE SIGNS
--     type PLACE NAME
--     object PLACE NAME
--     integer PLACE NUMBER
--     string PLACE "BYTES"
--     end PLACE
--     fault PLACE KIND
--
-- PLACE is FILE:LINE:BYTE, where FILE is the number of the file in the order of the words, from 0. BYTES are those that the string denotes, written
-- as Cool writes them: what is no printable character of ASCII stands as an escape, by three octal digits where it has none of its own.
use Rattle.std.specs.Prelude.{◌≡◌, refl, ℕ, ◌+◌, Bool, ◌==◌, if◌then◌else◌, List, [], ◌∷◌, ◌++◌, codes, decimal, ◌/◌, ◌%◌, Option, Some, None, flat_map, length}
use Rattle.std.specs.Fmt as decimals
use Rattle.cool_syntax.specs.declared.place.Place.{Place}
use Rattle.cool_syntax.specs.declared.token.Token.{Token}
use Rattle.cool_syntax.specs.declared.token.TokenKind.{TokenKind}
use Rattle.cool_syntax.specs.declared.token.TokenKind.TheVariants as kind
use Rattle.cool_syntax.specs.declared.token.Key.{Key}
use Rattle.cool_syntax.specs.declared.token.Key.TheVariants as key
use Rattle.cool_syntax.specs.declared.token.Sign.{Sign}
use Rattle.cool_syntax.specs.declared.token.Sign.TheVariants as sign
use Rattle.cool_syntax.specs.declared.lexical.LexKind.{LexKind}
use Rattle.cool_syntax.specs.declared.lexical.LexKind.TheVariants.{L1, L2, L3, L4, L5, L6, L7, L8}
use Rattle.cool_syntax.specs.Lexemes.{is_between}
use Rattle.cool_syntax.specs.LexicalStructure.{Lexes, place_at}
use Rattle.cool_lexer.specs.declared.error.LexFault.{LexFault}
use Rattle.cool_lexer.specs.Beginnings.{AreUpTo}
use Rattle.cool_emit.specs.TableLines.{place_text}

abbrev pub key_word : Key → List ℕ
key_word key.Class = codes "class"
key_word key.Else = codes "else"
key_word key.False = codes "false"
key_word key.Fi = codes "fi"
key_word key.If = codes "if"
key_word key.In = codes "in"
key_word key.Inherits = codes "inherits"
key_word key.IsVoid = codes "isvoid"
key_word key.Let = codes "let"
key_word key.Loop = codes "loop"
key_word key.Pool = codes "pool"
key_word key.Then = codes "then"
key_word key.While = codes "while"
key_word key.Case = codes "case"
key_word key.Esac = codes "esac"
key_word key.New = codes "new"
key_word key.Of = codes "of"
key_word key.Not = codes "not"
key_word key.True = codes "true"

abbrev pub sign_word : Sign → List ℕ
sign_word sign.LBrace = codes "{"
sign_word sign.RBrace = codes "}"
sign_word sign.LParen = codes "("
sign_word sign.RParen = codes ")"
sign_word sign.Colon = codes ":"
sign_word sign.Semi = codes ";"
sign_word sign.Comma = codes ","
sign_word sign.Dot = codes "."
sign_word sign.At = codes "@"
sign_word sign.Tilde = codes "~"
sign_word sign.Star = codes "*"
sign_word sign.Slash = codes "/"
sign_word sign.Plus = codes "+"
sign_word sign.Minus = codes "-"
sign_word sign.LessEqual = codes "<="
sign_word sign.Less = codes "<"
sign_word sign.Equal = codes "="
sign_word sign.Arrow = codes "<-"
sign_word sign.FatArrow = codes "=>"

-- a byte of a string
abbrev pub octal : ℕ → List ℕ
octal b = 92 ∷ (48 + b / 64) ∷ (48 + (b / 8) % 8) ∷ (48 + b % 8) ∷ []

abbrev pub byte_text : ℕ → List ℕ
byte_text b =
    if b == 92 then codes "\\\\"
    else (if b == 34 then codes "\\\""
    else (if b == 10 then codes "\\n"
    else (if b == 9 then codes "\\t"
    else (if b == 8 then codes "\\b"
    else (if b == 12 then codes "\\f"
    else (if is_between 32 126 b then b ∷ []
    else octal b))))))

abbrev pub string_text : List ℕ → List ℕ
string_text bytes = codes "\"" ++ (flat_map byte_text bytes ++ codes "\"")

-- the kind of a token, the first word of its line, and its value, the last
abbrev pub kind_word : TokenKind → List ℕ
kind_word (kind.Key k) = codes "keyword"
kind_word (kind.TypeId name) = codes "type"
kind_word (kind.ObjectId name) = codes "object"
kind_word (kind.Int value) = codes "integer"
kind_word (kind.Str bytes) = codes "string"
kind_word (kind.Sign s) = codes "sign"

abbrev pub value_text : TokenKind → List ℕ
value_text (kind.Key k) = key_word k
value_text (kind.TypeId name) = name
value_text (kind.ObjectId name) = name
value_text (kind.Int value) = decimal value
value_text (kind.Str bytes) = string_text bytes
value_text (kind.Sign s) = sign_word s

abbrev pub token_line : Token → List ℕ
token_line t = kind_word t.kind ++ (codes " " ++ (place_text t.at ++ (codes " " ++ (value_text t.kind ++ codes "\n"))))

abbrev pub lex_word : LexKind → List ℕ
lex_word L1 = codes "L1"
lex_word L2 = codes "L2"
lex_word L3 = codes "L3"
lex_word L4 = codes "L4"
lex_word L5 = codes "L5"
lex_word L6 = codes "L6"
lex_word L7 = codes "L7"
lex_word L8 = codes "L8"

-- a fault of this kind
abbrev pub fault_line : Place → List ℕ → List ℕ
fault_line at word = codes "fault " ++ (place_text at ++ (codes " " ++ (word ++ codes "\n")))

abbrev pub end_line : Place → List ℕ
end_line at = codes "end " ++ (place_text at ++ codes "\n")

-- the line of the end of a file, or of its first fault
abbrev pub last_line : Place → Option LexFault → List ℕ
last_line end None = end_line end
last_line end (Some fault) = fault_line fault.at (lex_word fault.kind)

abbrev pub tokens_text : List Token → Place → Option LexFault → List ℕ
tokens_text tokens end fault = flat_map token_line tokens ++ last_line end fault

-- the text tells of the file of this number, up to its first fault
pub record AreTokensOf (file : ℕ) (bytes : List ℕ) (text : List ℕ) : Type 0 where
  pub tokens : List Token
  pub fault : Option LexFault
  pub are : AreUpTo file bytes tokens fault
  pub is : text ≡ tokens_text tokens (place_at file bytes (length bytes)) fault

-- Worked examples
line_of_type : token_line (record { kind = kind.TypeId (codes "Main"); at = record { file = 0; line = 1; byte = 6 } }) ≡ codes "type 0:1:6 Main\n"
unfolding decimals.digits
line_of_type = refl

line_of_string : token_line (record { kind = kind.Str (72 ∷ 105 ∷ 10 ∷ 34 ∷ 1 ∷ 200 ∷ []); at = record { file = 0; line = 3; byte = 40 } })
    ≡ codes "string 0:3:40 \"Hi\\n\\\"\\001\\310\"\n"
unfolding decimals.digits
line_of_string = refl
