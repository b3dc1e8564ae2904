-- `kept_at` compares the given tokens with those of the feature at the same position in the stored check (base). It returns the result stored at this position
-- if the tokens have the same kinds.
use Rattle.std.proofs.Common.{◌≡◌, ◌<◌, List, [], length, get_or, Option, None, true≢false, false, true, refl, sym, ap, ◌∙◌, subst, arith}
use Rattle.std.specs.Borrow.{Bor}
use Rattle.cool_session.specs.declared.base.Base.{Base}
use Rattle.cool_lexer.specs.declared.lexer.Lexed.{Lexed}
use Rattle.cool_session.specs.Bases.{tokens_of}
use Rattle.cool_session.specs.FeatureTokens.{kinds, runs_of}
use Rattle.cool_session.specs.NewFeatures.{IsKeptAt, IsNewAt}
use Rattle.cool_session.specs.Runs.{bounds_of}
use Rattle.cool_session.proofs.FeaturesKept.{run_within, run_seen, many_bounds, base_many, of_some}
use Rattle.cool_session.proofs.renewal.kept_at.Goals as goal
use Rattle.std.proofs.lemmas.List.{get_or_default}

pub tokens_in-requires : goal.tokens_in-requires
tokens_in-requires c =
    let b = c.in_ok-base.base in
    let before = c.args.before.now in
    let runs : before ≡ bounds_of 0 b.now.untyped.lexed.items =
    of_some (λ (b : Bor Base). before ≡ bounds_of 0 b.now.untyped.lexed.items) c.args.base b c.in_ok-base.was c.requires.runs in
    let less = of_some (λ (b : Bor Base). c.args.i < length before) c.args.base b c.in_ok-base.was c.requires.within in
    run_within c.as_slice.result.now before c.args.i _ (runs ∙ ap (bounds_of 0) (sym c.as_slice.ensures.value)) less

pub index-requires : goal.index-requires
index-requires c =
    let b = c.in_ok-base.base in
    let before = c.args.before.now in
    let runs : before ≡ bounds_of 0 b.now.untyped.lexed.items =
    of_some (λ (b : Bor Base). before ≡ bounds_of 0 b.now.untyped.lexed.items) c.args.base b c.in_ok-base.was c.requires.runs in
    let less : c.args.i < length before = of_some (λ (b : Bor Base). c.args.i < length before) c.args.base b c.in_ok-base.was c.requires.within in
    omega (arith, less, many_bounds b.now.untyped.lexed.items before runs, base_many b.now.untyped b.now.faults.items b.now.kept, b.now.faults.ok.0)

pub returns-then-same_tokens-clause-kept : goal.returns-then-same_tokens-clause-kept
returns-then-same_tokens-clause-kept c =
    let b = c.in_ok-base.base in
    let before = c.args.before.now in
    let runs : before ≡ bounds_of 0 b.now.untyped.lexed.items =
    of_some (λ (b : Bor Base). before ≡ bounds_of 0 b.now.untyped.lexed.items) c.args.base b c.in_ok-base.was c.requires.runs in
    let less : c.args.i < length before = of_some (λ (b : Bor Base). c.args.i < length before) c.args.base b c.in_ok-base.was c.requires.within in
    let few : c.args.i < length b.now.faults.items =
    omega (arith, less, many_bounds b.now.untyped.lexed.items before runs, base_many b.now.untyped b.now.faults.items b.now.kept) in
    let there = run_seen c.as_slice.result.now before c.args.i _ (runs ∙ ap (bounds_of 0) (sym c.as_slice.ensures.value)) less in
    let seen = ap (λ (ls : List Lexed). get_or (runs_of (tokens_of ls)) c.args.i []) c.as_slice.ensures.value in
    subst (λ (o : Option (Bor Base)). IsKeptAt o c.args.i c.args.tokens.now c.index.result.now) (sym c.in_ok-base.was) (
      c.if-same_tokens.ensures.same.0 refl ∙ ap kinds (c.tokens_in.ensures ∙ (there ∙ seen)),
      c.index.ensures ∙ get_or_default b.now.faults.items c.args.i c.index.result.now None few,
    )

pub returns-else-same_tokens-clause-new : goal.returns-else-same_tokens-clause-new
returns-else-same_tokens-clause-new c =
    let b = c.in_ok-base.base in
    let before = c.args.before.now in
    let runs : before ≡ bounds_of 0 b.now.untyped.lexed.items =
    of_some (λ (b : Bor Base). before ≡ bounds_of 0 b.now.untyped.lexed.items) c.args.base b c.in_ok-base.was c.requires.runs in
    let less : c.args.i < length before = of_some (λ (b : Bor Base). c.args.i < length before) c.args.base b c.in_ok-base.was c.requires.within in
    let there = run_seen c.as_slice.result.now before c.args.i _ (runs ∙ ap (bounds_of 0) (sym c.as_slice.ensures.value)) less in
    let seen = ap (λ (ls : List Lexed). get_or (runs_of (tokens_of ls)) c.args.i []) c.as_slice.ensures.value in
    subst (λ (o : Option (Bor Base)). IsNewAt o c.args.i c.args.tokens.now) (sym c.in_ok-base.was)
    (λ e. let same : false ≡ true = c.if-same_tokens.ensures.same.1 (e ∙ ap kinds (sym (c.tokens_in.ensures ∙ (there
    ∙ seen)))) in true≢false (sym same))
