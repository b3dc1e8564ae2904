-- Conversions from the small types of the lexer's code, such as classes of bytes and the delimiters of comments, to the types of the same names in Lexemes.antt
-- and LexicalStructure.antt.
use Rattle.cool_syntax.specs.Lexemes as lexemes
use Rattle.cool_lexer.specs.declared.class.Class.{Class}
use Rattle.cool_lexer.specs.declared.class.Class.TheVariants as class
use Rattle.cool_lexer.specs.declared.piece.Piece.{Piece}
use Rattle.cool_lexer.specs.declared.piece.Piece.TheVariants as piece
use Rattle.cool_lexer.specs.declared.comment.Mark.{Mark}
use Rattle.cool_lexer.specs.declared.comment.Mark.TheVariants as mark
use Rattle.cool_lexer.specs.declared.front.Scan.{Scan}
use Rattle.cool_lexer.specs.declared.front.Scan.TheVariants as scan
use Rattle.cool_syntax.specs.LexicalStructure as lexical
use Rattle.cool_lexer.specs.declared.run.Run.{Run}

abbrev pub class_seen : Class → lexemes.Class
class_seen class.Capital = lexemes.Capital
class_seen class.Small = lexemes.Small
class_seen class.Digit = lexemes.Digit
class_seen class.Quote = lexemes.Quote
class_seen class.White = lexemes.White
class_seen class.Dash = lexemes.Dash
class_seen class.Star = lexemes.Star
class_seen class.Open = lexemes.Open
class_seen class.Angle = lexemes.Angle
class_seen class.Equals = lexemes.Equals
class_seen (class.Single s) = lexemes.Single s
class_seen class.Stray = lexemes.Stray

abbrev pub piece_seen : Piece → lexemes.Piece
piece_seen piece.Ends = lexemes.Ends
piece_seen piece.Newline = lexemes.Newline
piece_seen piece.Null = lexemes.Null
piece_seen piece.Backslash = lexemes.Backslash
piece_seen (piece.Means b) = lexemes.Means b

abbrev pub mark_seen : Mark → lexemes.Mark
mark_seen mark.Opens = lexemes.Opens
mark_seen mark.Closes = lexemes.Closes
mark_seen mark.Plain = lexemes.Plain

abbrev pub form_seen : Scan → lexemes.Form
form_seen scan.Space = lexemes.Space
form_seen scan.Comment = lexemes.Comment
form_seen (scan.Lexeme k) = lexemes.Lexeme k

abbrev pub run_seen : Run → lexical.Run
run_seen r = record { depth = r.depth; length = r.length }
