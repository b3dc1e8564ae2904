-- `Scope::find` returns the value of the latest entry of a name, or none: its loop goes through the entries from the last to the first.
use Rattle.std.proofs.Common.{◌≡◌, ℕ, suc, ◌-◌, ◌<◌, length, take, ap, sym, ◌∙◌, arith, true, false}
use Rattle.std.proofs.Math.Seq.{take-length}
use Rattle.std.specs.Prelude.{bytes_eq}
use Rattle.cool_rules.specs.Scopes.{found, latest_first}
use Rattle.cool_rules.proofs.ScopesInOrder.{found_here, found_there}
use Rattle.cool_rules.proofs.scope.Scope.find.Goals as goal

pub loop-index-init : goal.loop-index-init
loop-index-init g c =
    let es = c.self.inside.entries.items in
    ap (λ bs. found bs c.args.name.now) (sym c.self.view_is ∙ ap latest_first (sym (take-length es) ∙ ap (λ (k : ℕ). take k es) (sym (c.len-index.ensures ∙ c.self.inside.entries.ok.0))))

pub returns-then-eq : goal.returns-then-eq
returns-then-eq g c =
    let es = c.self.inside.entries.items in
    let t = c.loop-index-test.true in
    let b = c.loop-index.auto.index in
    let n = c.len-index.ensures ∙ c.self.inside.entries.ok.0 in
    let within : c.loop-index.index - 1 < length es = omega arith in
    let next : suc (c.loop-index.index - 1) ≡ c.loop-index.index = omega arith in
    let same : bytes_eq c.index-entry.result.now.name.now c.args.name.now ≡ true =
    ap (bytes_eq c.index-entry.result.now.name.now) (sym c.as_slice.ensures) ∙ sym c.eq.ensures ∙ c.if-eq.true in
    sym (c.loop-index.invariant ∙ ap (λ (k : ℕ). found (latest_first (take k es)) c.args.name.now) (sym next)
    ∙ found_here es (c.loop-index.index - 1) c.index-entry.result.now c.args.name.now within c.index-entry.ensures same)

pub loop-index-preserved : goal.loop-index-preserved
loop-index-preserved g c =
    let es = c.self.inside.entries.items in
    let t = c.loop-index-test.true in
    let b = c.loop-index.auto.index in
    let n = c.len-index.ensures ∙ c.self.inside.entries.ok.0 in
    let within : c.loop-index.index - 1 < length es = omega arith in
    let next : suc (c.loop-index.index - 1) ≡ c.loop-index.index = omega arith in
    let other : bytes_eq c.index-entry.result.now.name.now c.args.name.now ≡ false =
    ap (bytes_eq c.index-entry.result.now.name.now) (sym c.as_slice.ensures) ∙ sym c.eq.ensures ∙ c.if-eq.false in
    c.loop-index.invariant ∙ ap (λ (k : ℕ). found (latest_first (take k es)) c.args.name.now) (sym next)
    ∙ found_there es (c.loop-index.index - 1) c.index-entry.result.now c.args.name.now within c.index-entry.ensures other

pub returns : goal.returns
returns g c =
    let es = c.self.inside.entries.items in
    let zero_there : c.loop-index.index ≡ 0 = let t = c.loop-index-test.false in omega arith in
    sym (c.loop-index.invariant ∙ ap (λ (k : ℕ). found (latest_first (take k es)) c.args.name.now) zero_there)
