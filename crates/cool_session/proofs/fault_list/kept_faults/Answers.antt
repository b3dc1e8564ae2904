-- `kept_faults` returns the stored type errors (faults) with the source locations of their present tokens. Each step of its loop adds the error of one feature,
-- if one is stored for it.
use Rattle.std.proofs.Common.{◌≡◌, ◌++◌, ◌<◌, ◌≤◌, [], List, length, get_or, None, sym, ap, ◌∙◌, subst, arith, append-nil}
use Rattle.cool_syntax.specs.declared.token.Token.{Token}
use Rattle.cool_check.specs.declared.fault.TypeFault.{TypeFault}
use Rattle.cool_session.specs.Bases.{tokens_of}
use Rattle.cool_session.specs.FeatureTokens.{runs_of}
use Rattle.cool_session.specs.KeptFaults.{faults_kept}
use Rattle.cool_session.specs.Runs.{IsWithin, run_tokens}
use Rattle.cool_session.proofs.ChecksAfterEdits.{place_here}
use Rattle.cool_session.proofs.FeaturesKept.{many_bounds, run_within, run_seen, fault_next, none_next, no_faults_left}
use Rattle.cool_session.proofs.KeptAmong.{many_among, within_among}
use Rattle.cool_session.proofs.fault_list.kept_faults.Goals.{in-Some+in_ok-push-in-Some, in-None}
use Rattle.cool_session.proofs.fault_list.kept_faults.Goals as goal

pub index-requires : goal.index-requires
index-requires c =
    let lexed = c.args.lexed.now in
    omega (
      arith,
      many_bounds lexed c.in_ok-runs.runs.items c.in_ok-runs.ensures,
      many_among lexed c.args.kept.now c.requires.kept,
      c.in_ok-runs.runs.ok.0,
      c.loop-i-test.true,
    )

pub tokens_in-tokens-requires : goal.tokens_in-tokens-requires
tokens_in-tokens-requires c =
    let lexed = c.args.lexed.now in
    let less : c.loop-i.i < length c.in_ok-runs.runs.items =
    omega (
      arith,
      many_bounds lexed c.in_ok-runs.runs.items c.in_ok-runs.ensures,
      many_among lexed c.args.kept.now c.requires.kept,
      c.loop-i-test.true,
    ) in
    subst (IsWithin lexed) (sym c.index.ensures)
    (run_within lexed c.in_ok-runs.runs.items c.loop-i.i c.index.result.now c.in_ok-runs.ensures less)

pub bounds-tokens-fault : goal.bounds-tokens-fault
bounds-tokens-fault c =
    let lexed = c.args.lexed.now in
    let less : c.loop-i.i < length c.in_ok-runs.runs.items =
    omega (
      arith,
      many_bounds lexed c.in_ok-runs.runs.items c.in_ok-runs.ensures,
      many_among lexed c.args.kept.now c.requires.kept,
      c.loop-i-test.true,
    ) in
    let here : c.tokens_in-tokens.result.now ≡ get_or (runs_of (tokens_of lexed)) c.loop-i.i [] =
    c.tokens_in-tokens.ensures
    ∙ (ap (run_tokens lexed) c.index.ensures
    ∙ run_seen lexed c.in_ok-runs.runs.items c.loop-i.i c.index.result.now c.in_ok-runs.ensures less) in
    subst (λ (ts : List Token). c.in-Some.fault.token < length ts) (sym here)
    (within_among lexed c.args.kept.now c.requires.kept c.loop-i.i None c.in-Some.fault c.loop-i-test.true c.in-Some.is)

pub bounds-tokens-fault-in-Some : goal.bounds-tokens-fault-in-Some
bounds-tokens-fault-in-Some c = bounds-tokens-fault c

pub loop-i-preserved : goal.loop-i-preserved
loop-i-preserved c =
    let lexed = c.args.lexed.now in
    let runs = runs_of (tokens_of lexed) in
    let i = c.loop-i.i in
    let kept = many_among lexed c.args.kept.now c.requires.kept in
    let within : c.loop-i.i < length (runs_of (tokens_of lexed)) = omega (arith, kept, c.loop-i-test.true) in
    elim c.match-kept-i.branch [
      | in-Some+in_ok-push-in-Some w ↦
          let less : c.loop-i.i < length c.in_ok-runs.runs.items =
          omega (arith, many_bounds lexed c.in_ok-runs.runs.items c.in_ok-runs.ensures, within) in
          let here : w.tokens_in-tokens.result.now ≡ get_or (runs_of (tokens_of lexed)) c.loop-i.i [] =
          w.tokens_in-tokens.ensures
          ∙ (ap (run_tokens lexed) w.index.ensures
          ∙ run_seen lexed c.in_ok-runs.runs.items i w.index.result.now c.in_ok-runs.ensures less) in
          let short : w.in-Some.fault.token < length w.tokens_in-tokens.result.now =
          subst (λ (ts : List Token). w.in-Some.fault.token < length ts) (sym here)
          (within_among lexed c.args.kept.now c.requires.kept i None w.in-Some.fault c.loop-i-test.true w.in-Some.is) in
          let place =
          place_here w.tokens_in-tokens.result.now w.in-Some.fault.token w.index-tokens-fault.result short w.index-tokens-fault.is in
          record {
            left = rw w.faults-is
                (fault_next runs c.args.kept.now i within c.loop-i-test.true c.loop-i.faults.items (faults_kept runs c.args.kept.now)
                c.loop-i.invariant.left w.push.new.self.items w.in-Some.fault w.tokens_in-tokens.result.now
                (get_or w.tokens_in-tokens.result.now w.in-Some.fault.token w.index-tokens-fault.result).at w.in-Some.is here
                (ap (λ (t : Token). t.at) (sym w.index-tokens-fault.is) ∙ sym place) w.in_ok-push-in-Some.ensures.items);
          }
      | in-None w ↦
          record {
            left = rw w.faults-is
                (none_next runs c.args.kept.now i within c.loop-i-test.true c.loop-i.faults.items (faults_kept runs c.args.kept.now)
                c.loop-i.invariant.left w.in-None.is);
          }
    ]

pub returns : goal.returns
returns c =
    let lexed = c.args.lexed.now in
    let runs = runs_of (tokens_of lexed) in
    let kept = many_among lexed c.args.kept.now c.requires.kept in
    let past : length (runs_of (tokens_of lexed)) ≤ c.loop-i.i = omega (arith, kept, c.loop-i-test.false) in
    sym (append-nil c.loop-i.faults.items)
    ∙ (ap (λ (fs : List TypeFault). c.loop-i.faults.items ++ fs) (sym (no_faults_left runs c.args.kept.now c.loop-i.i past))
    ∙ c.loop-i.invariant.left)
