-- `renew` stores one result for each feature in turn: the result in the stored check (base) or, if there is none, the result of the type checker.
use Rattle.std.proofs.Common.{rules, ◌≡◌, ◌+◌, ◌<◌, ◌≤◌, ◌++◌, ◌∷◌, [], ℕ, List, length, take, Option, IfSome, refl, sym, ap, ◌∙◌, subst, arith}
use Rattle.std.specs.Borrow.{Bor}
use Rattle.std.proofs.lemmas.Option.{slice_get_within}
use Rattle.cool_classes.specs.Chains.{features_of}
use Rattle.cool_session.specs.declared.base.Base.{Base}
use Rattle.cool_session.specs.declared.base.KeptFault.{KeptFault}
use Rattle.cool_session.specs.declared.runs.Run.{Run}
use Rattle.cool_session.specs.KeptFaults.{results, AreKeptOf}
use Rattle.cool_session.specs.NewFeatures.{kinds_seen, runs_seen, AreNew, calls_after}
use Rattle.cool_session.specs.Runs.{bounds_of}
use Rattle.cool_session.proofs.FeaturesKept.{as_many_runs, many_kinds, all_kept}
use Rattle.cool_session.proofs.NewFeaturesCounted.{new_start}
use Rattle.cool_session.proofs.OneFeatureMore.{run_stands, tokens_here, tokens_few, before_there, member_here, new_where_kept, kept_where_kept, new_where_asked, kept_where_asked, asked_here}
use Rattle.cool_session.proofs.TyperAsked.{on_error, next_call, asked_at_most}
use Rattle.cool_session.proofs.renewal.renew.Goals.{in-Some, in-None+in_ok-kept-in-None}
use Rattle.cool_session.proofs.renewal.renew.Goals as goal

pub returns-in_err-before-clause-most : goal.returns-in_err-before-clause-most
returns-in_err-before-clause-most g c =
    let calls = g.K.Typer.calls c.args.typer.now in
    on_error c.from_residual.result (asked_at_most c.args.base (kinds_seen c.args.now.now) calls calls 0 0 refl (omega arith) (new_start
    (kinds_seen c.args.now.now) c.args.base))

pub returns-in_err-runs-clause-most : goal.returns-in_err-runs-clause-most
returns-in_err-runs-clause-most g c =
    let calls = g.K.Typer.calls c.args.typer.now in
    on_error c.from_residual-in_err-runs.result (asked_at_most c.args.base (kinds_seen c.args.now.now) calls calls 0 0 refl (omega arith)
    (new_start (kinds_seen c.args.now.now) c.args.base))

pub returns-in_err-ids-clause-most : goal.returns-in_err-ids-clause-most
returns-in_err-ids-clause-most g c =
    let calls = g.K.Typer.calls c.args.typer.now in
    on_error c.from_residual-in_err-ids.result (asked_at_most c.args.base (kinds_seen c.args.now.now) calls calls 0 0 refl (omega arith)
    (new_start (kinds_seen c.args.now.now) c.args.base))

pub loop-i-init : goal.loop-i-init
loop-i-init g c = record {
  kept = subst (AreKeptOf [] []) (sym c.new-faults.ensures.items) tt;
  new = new_start (kinds_seen c.args.now.now) c.args.base;
  calls = refl;
  few = omega arith;
}

pub returns-in_err-reserve-clause-most : goal.returns-in_err-reserve-clause-most
returns-in_err-reserve-clause-most g c =
    let h = c.requires.classified in
    let less : c.loop-i.i < length c.in_ok-ids.ids.items = omega (arith, c.in_ok-ids.ids.ok.0, c.len-i-end.ensures, c.loop-i-test.true) in
    let within : c.loop-i.i ≤ length (kinds_seen c.args.now.now) =
    omega (arith, less, many_kinds h.files c.args.now.now h.untyped c.in_ok-ids.ids.items c.in_ok-ids.ensures) in
    on_error c.from_residual-in_err-reserve.result
    (asked_at_most c.args.base (kinds_seen c.args.now.now) (g.K.Typer.calls c.args.typer.now) (g.K.Typer.calls c.loop-i.typer) c.loop-i.i
    c.loop-i.asked c.loop-i.invariant.calls within c.loop-i.invariant.new)

pub index-requires : goal.index-requires
index-requires g c =
    let h = c.requires.classified in
    let many =
    as_many_runs h.files c.args.now.now h.untyped c.as_slice.result.now c.in_ok-runs.runs.items c.in_ok-runs.ensures c.as_slice.ensures.value
    c.in_ok-ids.ids.items c.in_ok-ids.ensures in
    omega (arith, many, c.in_ok-runs.runs.ok.0, c.in_ok-ids.ids.ok.0, c.len-i-end.ensures, c.loop-i-test.true)

pub tokens_in-tokens-requires : goal.tokens_in-tokens-requires
tokens_in-tokens-requires g c =
    let h = c.requires.classified in
    let less : c.loop-i.i < length c.in_ok-ids.ids.items = omega (arith, c.in_ok-ids.ids.ok.0, c.len-i-end.ensures, c.loop-i-test.true) in
    run_stands h.files c.args.now.now h.untyped c.args.base c.requires.classes c.as_slice.result.now c.as_slice.ensures.value
    c.in_ok-runs.runs.items c.in_ok-runs.ensures c.in_ok-ids.ids.items c.in_ok-ids.ensures c.loop-i.i less
    c.as_slice-in-loop-i.result.now c.as_slice-in-loop-i.ensures.value c.index.result.now c.index.ensures

pub kept_at-requires-clause-within : goal.kept_at-requires-clause-within
kept_at-requires-clause-within g c =
    let h = c.requires.classified in
    let less : c.loop-i.i < length c.in_ok-ids.ids.items = omega (arith, c.in_ok-ids.ids.ok.0, c.len-i-end.ensures, c.loop-i-test.true) in
    before_there h.files c.args.now.now h.untyped c.args.base c.requires.classes c.as_slice.result.now c.as_slice.ensures.value
    c.in_ok-runs.runs.items c.in_ok-runs.ensures c.in_ok-ids.ids.items c.in_ok-ids.ensures c.loop-i.i less
    c.as_slice-in-loop-i-2.result.now
    (subst (λ (rs : List Run). IfSome c.args.base (λ (b : Bor Base). rs ≡ bounds_of 0 b.now.untyped.lexed.items))
    (sym c.as_slice-in-loop-i-2.ensures.value) c.in_ok-before.ensures)

pub typed-requires-clause-class : goal.typed-requires-clause-class
typed-requires-clause-class g c =
    let h = c.requires.classified in
    let less : c.loop-i.i < length c.in_ok-ids.ids.items = omega (arith, c.in_ok-ids.ids.ok.0, c.len-i-end.ensures, c.loop-i-test.true) in
    let m =
    member_here h.files c.args.now.now h.untyped c.args.base c.requires.classes c.as_slice.result.now c.as_slice.ensures.value
    c.in_ok-runs.runs.items c.in_ok-runs.ensures c.in_ok-ids.ids.items c.in_ok-ids.ensures c.loop-i.i less c.index-in-None.result.now
    c.index-in-None.ensures in
    m.class

pub typed-requires-clause-feature : goal.typed-requires-clause-feature
typed-requires-clause-feature g c =
    let h = c.requires.classified in
    let less : c.loop-i.i < length c.in_ok-ids.ids.items = omega (arith, c.in_ok-ids.ids.ok.0, c.len-i-end.ensures, c.loop-i-test.true) in
    let id = c.index-in-None.result.now in
    let m =
    member_here h.files c.args.now.now h.untyped c.args.base c.requires.classes c.as_slice.result.now c.as_slice.ensures.value
    c.in_ok-runs.runs.items c.in_ok-runs.ensures c.in_ok-ids.ids.items c.in_ok-ids.ensures c.loop-i.i less id c.index-in-None.ensures in
    slice_get_within (features_of c.args.now.now.classes id.class) id.index m.feature m.there

pub typed-requires-clause-few : goal.typed-requires-clause-few
typed-requires-clause-few g c =
    let h = c.requires.classified in
    let less : c.loop-i.i < length c.in_ok-ids.ids.items = omega (arith, c.in_ok-ids.ids.ok.0, c.len-i-end.ensures, c.loop-i-test.true) in
    tokens_few h.files c.args.now.now h.untyped c.args.base c.requires.classes c.as_slice.result.now c.as_slice.ensures.value
    c.in_ok-runs.runs.items c.in_ok-runs.ensures c.in_ok-ids.ids.items c.in_ok-ids.ensures c.loop-i.i less
    c.as_slice-in-loop-i.result.now c.as_slice-in-loop-i.ensures.value c.index.result.now c.index.ensures c.tokens_in-tokens.result.now
    c.tokens_in-tokens.ensures c.requires.short

pub returns-in_err-kept-in-None-clause-most : goal.returns-in_err-kept-in-None-clause-most
returns-in_err-kept-in-None-clause-most g c =
    let h = c.requires.classified in
    let less : c.loop-i.i < length c.in_ok-ids.ids.items = omega (arith, c.in_ok-ids.ids.ok.0, c.len-i-end.ensures, c.loop-i-test.true) in
    let here =
    tokens_here h.files c.args.now.now h.untyped c.args.base c.requires.classes c.as_slice.result.now c.as_slice.ensures.value
    c.in_ok-runs.runs.items c.in_ok-runs.ensures c.in_ok-ids.ids.items c.in_ok-ids.ensures c.loop-i.i less
    c.as_slice-in-loop-i.result.now c.as_slice-in-loop-i.ensures.value c.index.result.now c.index.ensures c.tokens_in-tokens.result.now
    c.tokens_in-tokens.ensures in
    on_error c.from_residual-in_err-kept-in-None.result
    (asked_here h.files c.args.now.now h.untyped c.args.base c.requires.classes c.as_slice.result.now c.as_slice.ensures.value
    c.in_ok-runs.runs.items c.in_ok-runs.ensures c.in_ok-ids.ids.items c.in_ok-ids.ensures c.loop-i.i less c.tokens_in-tokens.result.now here
    c.loop-i.asked (g.K.Typer.calls c.args.typer.now) (g.K.Typer.calls c.loop-i.typer) (g.K.Typer.calls c.typed.new.typer) c.in-None.ensures.new
    c.loop-i.invariant.new c.loop-i.invariant.calls c.typed.ensures.counted)

pub loop-i-preserved : goal.loop-i-preserved
loop-i-preserved g c =
    let h = c.requires.classified in
    let now = c.args.now.now in
    let i = c.loop-i.i in
    let less : c.loop-i.i < length c.in_ok-ids.ids.items = omega (arith, c.in_ok-ids.ids.ok.0, c.len-i-end.ensures, c.loop-i-test.true) in
    let here =
    tokens_here h.files now h.untyped c.args.base c.requires.classes c.as_slice.result.now c.as_slice.ensures.value c.in_ok-runs.runs.items
    c.in_ok-runs.ensures c.in_ok-ids.ids.items c.in_ok-ids.ensures i less c.as_slice-in-loop-i.result.now c.as_slice-in-loop-i.ensures.value
    c.index.result.now c.index.ensures c.tokens_in-tokens.result.now c.tokens_in-tokens.ensures in
    let pushed : c.push.new.self.items ≡ c.loop-i.faults.items ++ c.match-kept_at.kept ∷ [] = search rules in
    elim c.match-kept_at.branch [
      | in-Some w ↦ record {
        kept = subst (AreKeptOf (take (i + 1) (runs_seen now)) (take (i + 1) (results now.classes)))
            (sym (pushed ∙ ap (λ (k : Option KeptFault). c.loop-i.faults.items ++ k ∷ []) w.kept-is))
            (kept_where_kept h.files now h.untyped c.args.base c.requires.classes c.as_slice.result.now c.as_slice.ensures.value
            c.in_ok-runs.runs.items
            c.in_ok-runs.ensures c.in_ok-ids.ids.items c.in_ok-ids.ensures i less c.tokens_in-tokens.result.now here c.loop-i.faults.items
            w.in-Some.kept
            w.in-Some.ensures.kept c.loop-i.invariant.kept);
        new = subst (AreNew c.args.base (kinds_seen now) (i + 1)) (sym w.asked-is)
            (new_where_kept h.files now h.untyped c.args.base c.requires.classes c.as_slice.result.now c.as_slice.ensures.value
            c.in_ok-runs.runs.items
            c.in_ok-runs.ensures c.in_ok-ids.ids.items c.in_ok-ids.ensures i less c.tokens_in-tokens.result.now here c.loop-i.asked w.in-Some.kept
            w.in-Some.ensures.kept c.loop-i.invariant.new);
        calls = ap g.K.Typer.calls w.typer-is
            ∙ (c.loop-i.invariant.calls ∙ ap (λ (n : ℕ). calls_after n (g.K.Typer.calls c.args.typer.now)) (sym w.asked-is));
        few = omega (arith, w.asked-is, c.loop-i.invariant.few);
      }
      | in-None+in_ok-kept-in-None w ↦ record {
        kept = subst (AreKeptOf (take (i + 1) (runs_seen now)) (take (i + 1) (results now.classes)))
            (sym (pushed ∙ ap (λ (k : Option KeptFault). c.loop-i.faults.items ++ k ∷ []) w.kept-is))
            (kept_where_asked h.files now h.untyped c.args.base c.requires.classes c.as_slice.result.now c.as_slice.ensures.value
            c.in_ok-runs.runs.items
            c.in_ok-runs.ensures c.in_ok-ids.ids.items c.in_ok-ids.ensures i less c.tokens_in-tokens.result.now here w.index-in-None.result.now
            c.loop-i.faults.items w.in_ok-kept-in-None.kept w.index-in-None.ensures w.in_ok-kept-in-None.ensures.kept c.loop-i.invariant.kept);
        new = subst (AreNew c.args.base (kinds_seen now) (i + 1)) (sym w.asked-is)
            (new_where_asked h.files now h.untyped c.args.base c.requires.classes c.as_slice.result.now c.as_slice.ensures.value
            c.in_ok-runs.runs.items
            c.in_ok-runs.ensures c.in_ok-ids.ids.items c.in_ok-ids.ensures i less c.tokens_in-tokens.result.now here c.loop-i.asked
            w.in-None.ensures.new
            c.loop-i.invariant.new);
        calls = ap g.K.Typer.calls w.typer-is
            ∙ (w.typed.ensures.counted
            ∙ (next_call c.loop-i.asked (g.K.Typer.calls c.args.typer.now) (g.K.Typer.calls c.loop-i.typer) c.loop-i.invariant.calls
            ∙ ap (λ (n : ℕ). calls_after n (g.K.Typer.calls c.args.typer.now)) (sym w.asked-is)));
        few = omega (arith, w.asked-is, c.loop-i.invariant.few);
      }
    ]

pub returns-clause-kept : goal.returns-clause-kept
returns-clause-kept g c =
    let h = c.requires.classified in
    let past : length c.in_ok-ids.ids.items ≤ c.loop-i.i = omega (arith, c.in_ok-ids.ids.ok.0, c.len-i-end.ensures, c.loop-i-test.false) in
    all_kept h.files c.args.now.now h.untyped c.in_ok-ids.ids.items c.in_ok-ids.ensures c.loop-i.i c.loop-i.faults.items past c.loop-i.invariant.kept

pub returns-clause-new : goal.returns-clause-new
returns-clause-new g c =
    let h = c.requires.classified in
    let many = many_kinds h.files c.args.now.now h.untyped c.in_ok-ids.ids.items c.in_ok-ids.ensures in
    let end : c.loop-i.i ≡ length (kinds_seen c.args.now.now) =
    omega (arith, many, c.in_ok-ids.ids.ok.0, c.len-i-end.ensures, c.loop-i-test.false, c.loop-i.auto.i-end) in
    subst (λ (n : ℕ). AreNew c.args.base (kinds_seen c.args.now.now) n c.loop-i.asked) end c.loop-i.invariant.new
