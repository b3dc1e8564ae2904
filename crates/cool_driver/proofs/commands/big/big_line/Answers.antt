use Rattle.std.proofs.Common.{◌≡◌, ◌∷◌, [], ◌+◌, ℕ, List, length, sym, ◌∙◌, ap, subst}
use Rattle.std.specs.List.{AllByRecursion}
use Rattle.cool_big.specs.BigPrograms.{big_text}
use Rattle.cool_driver.specs.{commands.Big.{big_files, ComesOut, summary}, Contents.{texts}, Statuses.{code_of}}
use Rattle.cool_driver.proofs.commands.big.big_line.Goals as goal
use Rattle.lists.specs.Bytes.{AreBytes}
use Rattle.lists.proofs.Results.{for_ok}

-- the line has what the program and its run are
pub returns : goal.returns
returns c =
    let outcome = c.in_ok-outcome.outcome in
    let files : texts c.deref-2.result.now ≡ big_files c.args.n =
    ap texts (c.deref-2.ensures.value ∙ c.in_ok-files.ensures.items) ∙ ap (λ (text : List ℕ). text ∷ []) c.in_ok-text.ensures.text in
    let comes = subst (λ (fs : List (List ℕ)). ComesOut fs outcome.output (code_of outcome.status)) files c.in_ok-outcome.ensures in
    let source : c.byte_count-source.result ≡ length (big_text c.args.n) = c.byte_count-source.ensures.count ∙ ap length (c.deref.ensures.value ∙ c.in_ok-text.ensures.text) in
    for_ok _ _ c.format.result
    (λ line made. (
      outcome.output,
      code_of outcome.status,
      comes,
      made ∙ ap (λ (k : ℕ). summary c.args.n k (c.args.n + 2) outcome.output c.code-status.result) source
          ∙ ap (summary c.args.n _ (c.args.n + 2) outcome.output) c.code-status.ensures,
    ))
    c.format.ensures.ok

-- the text is bytes
pub run_files-requires-clause-bytes : goal.run_files-requires-clause-bytes
run_files-requires-clause-bytes c =
    let is : texts c.deref-2.result.now ≡ c.deref.result.now ∷ [] =
    ap texts (c.deref-2.ensures.value ∙ c.in_ok-files.ensures.items) ∙ ap (λ (text : List ℕ). text ∷ []) (sym c.deref.ensures.value) in
    subst (AllByRecursion AreBytes) (sym is) (c.byte_count-source.ensures.bytes, tt)
