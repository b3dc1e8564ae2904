use Rattle.std.proofs.Common.{◌≡◌, ℕ, ◌-◌, List, ap, sym, subst, arith, length, take, drop, length-drop}
use Rattle.std.specs.Prelude.{Some}
use Rattle.std.proofs.lemmas.List.{take_all}
use Rattle.cool_syntax.specs.declared.token.Token.{Token}
use Rattle.cool_lexer.specs.declared.error.LexError.TheVariants as error
use Rattle.cool_lexer.specs.declared.error.LexFault.{LexFault as Found}
use Rattle.cool_lexer.specs.Beginnings.{AreUpTo}
use Rattle.cool_lexer.specs.Readings.{Passes, Stays, Stops}
use Rattle.cool_lexer.specs.Views.{run_seen}
use Rattle.cool_lexer.proofs.ReadSoFar.{goes_on, bounds, up_to_fault}
use Rattle.cool_lexer.proofs.lexer.lex_to_fault.Goals as goal

pub read_item-requires-clause-deep : goal.read_item-requires-clause-deep
read_item-requires-clause-deep c =
    let r = c.loop-at.reading in
    let b = bounds c.args.file c.args.bytes.now c.loop-at.at r.tokens.items (run_seen r.run) r.place c.loop-at.invariant in
    omega (arith, b.0)

pub read_item-requires-clause-long : goal.read_item-requires-clause-long
read_item-requires-clause-long c =
    let r = c.loop-at.reading in
    (bounds c.args.file c.args.bytes.now c.loop-at.at r.tokens.items (run_seen r.run) r.place c.loop-at.invariant).1

pub loop-at-preserved : goal.loop-at-preserved
loop-at-preserved c =
    let r = c.loop-at.reading in
    let n = c.read_item.new.reading in
    let whole : take (length c.args.bytes.now - c.loop-at.at) (drop c.loop-at.at c.args.bytes.now) ≡ drop c.loop-at.at c.args.bytes.now = take_all _ _ (omega (arith, length-drop c.loop-at.at c.args.bytes.now)) in
    let p : Passes (drop c.loop-at.at c.args.bytes.now) r n c.in-Ok.size = subst (λ (rest : List ℕ). Passes rest r n c.in-Ok.size) whole c.in-Ok.ensures.passes in
    goes_on c.args.file c.args.bytes.now c.loop-at.at r.tokens.items n.tokens.items (run_seen r.run) (run_seen n.run) r.place n.place p.form c.in-Ok.size c.loop-at.invariant p.item p.fits p.tokens p.run p.place

-- The tokens are those of the items so far, and the fault is the first.
pub returns-in-Err-Fault-clause-tokens : goal.returns-in-Err-Fault-clause-tokens
returns-in-Err-Fault-clause-tokens c =
    let file = c.args.file in
    let bytes = c.args.bytes.now in
    let r = c.loop-at.reading in
    let n = c.read_item.new.reading in
    let whole : take (length bytes - c.loop-at.at) (drop c.loop-at.at bytes) ≡ drop c.loop-at.at bytes = take_all _ _ (omega (arith, length-drop c.loop-at.at bytes)) in
    let stops = subst (λ (rest : List ℕ). Stops rest r c.in-Err-Fault.field-0) whole c.in-Err-Fault.ensures.stops in
    let stays = subst (Stays r n) c.in-Err-Fault.field-0-is c.in-Err-Fault.ensures.stays in
    let first = up_to_fault file bytes c.loop-at.at r c.in-Err-Fault.fault c.loop-at.invariant (subst (Stops (drop c.loop-at.at bytes) r) c.in-Err-Fault.field-0-is stops) in
    let same : n.tokens.items ≡ r.tokens.items = ap (λ tokens. tokens.items) stays in
    subst (λ (fault : Found). AreUpTo file bytes n.tokens.items (Some fault)) (sym c.in-Err-Fault.fault-is)
    (subst (λ (tokens : List Token). AreUpTo file bytes tokens (Some c.in-Err-Fault.fault)) (sym same) first)
