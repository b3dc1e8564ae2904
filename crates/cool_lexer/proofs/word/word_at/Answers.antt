use Rattle.std.proofs.Common.{◌≡◌, ◌+◌, map, take}
use Rattle.cool_syntax.specs.Lexemes.{named, key_among, keywords, lower}
use Rattle.cool_lexer.proofs.Words.{word_text, word_found}
use Rattle.cool_lexer.proofs.word.word_at.Goals as goal

pub returns : goal.returns
returns c =
    let after = c.span_len-after.result in
    let text = take (after + 1) c.args.text.now in
    let is : c.in_ok-kind.kind ≡ named c.is_ascii_uppercase.result text (key_among keywords (map lower text)) = c.in_ok-kind.ensures in
    word_found c.args.first after c.args.tail.now text c.in_ok-kind.kind c.is_ascii_uppercase.result c.is_ascii_uppercase.ensures.value
    (word_text c.args.first after c.args.tail.now c.args.text.now c.requires.whole) is c.span_len-after.ensures.len
