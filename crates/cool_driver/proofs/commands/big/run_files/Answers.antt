use Rattle.std.proofs.{Common.{◌≡◌, refl, ◌∷◌, [], ℕ, List, ◌∙◌, ap, subst}, lemmas.List.{length-map}}
use Rattle.std.specs.Prelude.{map, string_bytes}
use Rattle.cool_faults.specs.Verdicts.{IsAccepted, IsRefused}
use Rattle.mips_isa.specs.{Assembly.{image_of}, ImageBounds.{ImageParts}}
use Rattle.cool_emit.specs.Programs.{program_lines}
use Rattle.cool_words.specs.Plans.{usual_limits}
use Rattle.cool_driver.specs.{commands.Big.{big_names, RunsTo}, commands.Big.ComesOut.{refused, ran}, Execution.{run_of}, Contents.{texts}, Statuses.{code_of}}
use Rattle.cool_driver.proofs.ProgramsMeant.{big_accords}
use Rattle.cool_driver.proofs.commands.big.run_files.Goals as goal
use Rattle.lists.proofs.Results.{for_ok}

-- the program's run comes out so
pub returns-in-Accepted : goal.returns-in-Accepted
returns-in-Accepted c =
    let p = c.in-Accepted.program in
    let accepted : IsAccepted (texts c.args.files.now) p = rw c.in-Accepted.is at c.in_ok-program.ensures.verdict in
    let names : map string_bytes c.deref.result.now ≡ big_names =
    ap (map string_bytes) (c.deref.ensures.value ∙ c.in_ok-names-in-Accepted.ensures.items) ∙ ap (λ (name : List ℕ). name ∷ []) c.in_ok-from_str-in-Accepted.ensures.ok in
    let image = c.in_ok-build-in-Accepted.ensures.image ∙ ap (λ (ns : List (List ℕ)). image_of (program_lines p ns)) names in
    for_ok _ _ c.run_to_end-in-Accepted.result
    (λ outcome h. ran p accepted (big_accords (texts c.args.files.now) p c.requires.bytes (length-map c.args.files.now (λ file. file.items) ∙ c.requires.one) accepted) (subst (λ (i : ImageParts). RunsTo (run_of usual_limits i []) outcome.output (code_of outcome.status)) image h))
    c.run_to_end-in-Accepted.ensures

-- files with faults
pub returns : goal.returns
returns c =
    let is : IsRefused (texts c.args.files.now) c.in-Refused.field-0 = rw c.in-Refused.is at c.in_ok-program.ensures.verdict in
    refused c.in-Refused.field-0 is refl refl
