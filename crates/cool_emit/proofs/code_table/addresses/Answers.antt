-- `addresses` returns the address of each line and the address after the last one; each step of its loop adds the size of one line.
use Rattle.std.proofs.Common.{◌≡◌, ◌∙◌, ◌+◌, ◌++◌, ◌∷◌, ℕ, List, [], take, drop, ap, ap₂, sym, arith}
use Rattle.std.proofs.lemmas.List.{map-append, take-append-drop}
use Rattle.mips_isa.specs.Lines.{Line, line_of, lines_of}
use Rattle.cool_runtime.specs.Standing.{sizes}
use Rattle.cool_emit.specs.Tellings.{addresses}
use Rattle.cool_emit.proofs.AddingParts.{take_more}
use Rattle.cool_emit.proofs.TellingParts.{addresses_more, sizes_append}
use Rattle.cool_emit.proofs.code_table.addresses.Goals as goal

pub behind-address-requires : goal.behind-address-requires
behind-address-requires c =
    let lines = c.args.lines.now in
    let i = c.loop-line.line-index in
    let x = c.line-item.result in
    let before = lines_of (take i lines) in
    let rest = lines_of (drop (i + 1) lines) in
    let next : lines_of (take (i + 1) lines) ≡ before ++ line_of x ∷ [] = ap lines_of (take_more lines i x c.loop-line-test.true c.line-item.is) ∙ map-append line_of (take i lines) (x ∷ []) in
    let whole : lines_of (take (i + 1) lines) ++ rest ≡ lines_of lines = sym (map-append line_of (take (i + 1) lines) (drop (i + 1) lines)) ∙ ap lines_of (take-append-drop (i + 1) lines) in
    let all : sizes ((before ++ line_of x ∷ []) ++ rest) ≡ sizes (lines_of lines) = ap sizes (ap (λ (ls : List Line). ls ++ rest) (sym next) ∙ whole) in
    let one = sizes_append (before ++ line_of x ∷ []) rest in
    let two = sizes_append before (line_of x ∷ []) in
    let address = c.loop-line.invariant.address in
    let room = c.requires.room in
    record { room = omega arith }

pub loop-line-preserved : goal.loop-line-preserved
loop-line-preserved c =
    let lines = c.args.lines.now in
    let i = c.loop-line.line-index in
    let x = c.line-item.result in
    let before = lines_of (take i lines) in
    let next : lines_of (take (i + 1) lines) ≡ before ++ line_of x ∷ [] = ap lines_of (take_more lines i x c.loop-line-test.true c.line-item.is) ∙ map-append line_of (take i lines) (x ∷ []) in
    let here : c.behind-address.result ≡ c.args.first + sizes (before ++ line_of x ∷ []) =
    (let k = c.behind-address.ensures in let h = c.loop-line.invariant.address in let l = sizes_append before (line_of x ∷ []) in omega arith) in
    record {
      address = here ∙ ap (λ (ls : List Line). c.args.first + sizes ls) (sym next);
      all =
          c.in_ok-push.ensures.items
          ∙ ap₂ (λ (as' : List ℕ) (a : ℕ). as' ++ a ∷ []) c.loop-line.invariant.all here
          ∙ sym (addresses_more c.args.first before (line_of x))
          ∙ ap (addresses c.args.first) (sym next);
    }
