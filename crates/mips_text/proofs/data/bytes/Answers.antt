-- `bytes` returns the operands of `.byte`, because each iteration of its loop appends the number of one token.
use Rattle.std.proofs.Common.{rules, ◌≡◌, ◌++◌, ◌∷◌, [], map, take, get_or, ap, sym, ◌∙◌}
use Rattle.std.proofs.lemmas.List.{map-append, take_more}
use Rattle.mips_text.specs.Statements.{byte_made}
use Rattle.mips_text.specs.Views.{word_seen}
use Rattle.mips_text.proofs.data.bytes.Goals as goal

pub loop-word-preserved : goal.loop-word-preserved
loop-word-preserved c =
    let next : c.push.new.self.items ≡ c.loop-word.bytes.items ++ c.byte.result ∷ [] = search (rules, c.in_ok-push.ensures.items) in
    let i = c.loop-word.word-index in
    let ws = c.args.words.now in
    let before = take i ws in
    next
    ∙ (λ k. c.loop-word.invariant k ++ c.byte.ensures k ∷ [])
    ∙ sym
    (ap (λ xs. map byte_made (map word_seen xs)) (take_more ws i _ c.loop-word-test.true)
    ∙ ap (map byte_made) (map-append word_seen before (get_or ws i _ ∷ []))
    ∙ map-append byte_made (map word_seen before) (word_seen (get_or ws i _) ∷ []))
