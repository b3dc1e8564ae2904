use Rattle.std.proofs.Common.{◌≡◌, ◌≤◌, ◌+◌, length, drop, get_or, Some, None, IfSome, if◌then◌else◌, sym, subst, ◌∙◌, ap, arith}
use Rattle.std.proofs.lemmas.List.{drop_all}
use Rattle.cool_parser.specs.ParsingMachine.{State, step, outcome, start, Unexpected}
use Rattle.cool_parser.specs.Waiting.{Good}
use Rattle.cool_parser.proofs.GoodNodes.{good_step, good_start}
use Rattle.cool_parser.proofs.RoomForNodes.{weight, IsLight, step_light}
use Rattle.cool_parser.proofs.ParsingAFile.{any_place, more}
use Rattle.cool_parser.proofs.reading.Reading.read.Goals as goal

pub loop-i-init : goal.loop-i-init
loop-i-init c =
    let new = c.requires.started in
    record {
      same = λ at. ap (λ s. outcome at (Some s) c.args.tokens.now c.args.end) new ∙ any_place at c.args.end start c.args.tokens.now c.args.end;
      good = subst (λ s. Good s.context s.mode) (sym new) good_start;
      light = omega (arith, ap (λ s. length s.context.nodes) new, ap (λ s. length s.context.stack) new);
    }

-- the place of the token is where the machine stops
pub returns-then-not-branch-clause-stops : goal.returns-then-not-branch-clause-stops
returns-then-not-branch-clause-stops c =
    let t = c.index-tokens-i.result in
    let before = c.loop-i.self in
    let stepped : step before.context before.mode t.kind t.at ≡ None =
    ap (λ s. step s.context s.mode t.kind t.at) (sym c.in_ok-make_room.ensures.same)
    ∙ sym c.in_ok-advance.ensures.same
    ∙ ap (λ b. if b then Some c.advance.new.self else None) c.if-not-branch.true in
    sym (c.loop-i.invariant.same t.at)
    ∙ more c.args.tokens.now c.loop-i.i t before.context before.mode None t.at c.args.end c.loop-i-test.true
    (ap (λ x. step before.context before.mode x.kind x.at) (sym c.index-tokens-i.is) ∙ stepped)
    ∙ ap (λ x. Unexpected x.at) (sym c.index-tokens-i.is)

pub loop-i-preserved : goal.loop-i-preserved
loop-i-preserved c =
    let t = c.index-tokens-i.result in
    let before = c.loop-i.self in
    let next : State = c.advance.new.self in
    let stepped : step before.context before.mode t.kind t.at ≡ Some next =
    ap (λ s. step s.context s.mode t.kind t.at) (sym c.in_ok-make_room.ensures.same)
    ∙ sym c.in_ok-advance.ensures.same
    ∙ ap (λ b. if b then Some next else None) c.if-not-branch.false in
    let light : weight next.context ≤ weight before.context + 2 =
    subst (λ o. IfSome o (IsLight (weight before.context + 2))) stepped (step_light before.context before.mode t.kind t.at) in
    record {
      same = λ at.
          any_place at (get_or c.args.tokens.now c.loop-i.i t).at next (drop (c.loop-i.i + 1) c.args.tokens.now) c.args.end
          ∙ sym (more c.args.tokens.now c.loop-i.i t before.context before.mode (Some next) t.at c.args.end c.loop-i-test.true
          (ap (λ x. step before.context before.mode x.kind x.at) (sym c.index-tokens-i.is) ∙ stepped))
          ∙ c.loop-i.invariant.same t.at;
      good = subst (λ o. IfSome o (λ s. Good s.context s.mode)) stepped (good_step before.context before.mode t.kind t.at c.loop-i.invariant.good);
      light = omega (arith, light, c.loop-i.invariant.light);
    }

pub returns-then-not-may_end-clause-stops : goal.returns-then-not-may_end-clause-stops
returns-then-not-may_end-clause-stops c =
    sym (c.loop-i.invariant.same c.args.end)
    ∙ ap (λ xs. outcome c.args.end (Some c.loop-i.self) xs c.args.end) (drop_all c.loop-i.i c.args.tokens.now c.loop-i-test.false)
    ∙ c.if-not-may_end.ensures c.args.end

pub returns-clause-whole : goal.returns-clause-whole
returns-clause-whole c =
    sym (c.loop-i.invariant.same c.args.end)
    ∙ ap (λ xs. outcome c.args.end (Some c.loop-i.self) xs c.args.end) (drop_all c.loop-i.i c.args.tokens.now c.loop-i-test.false)
    ∙ c.if-not-may_end.ensures c.args.end
