-- If the lexer returns tokens, `lex_file` adds them to the results and adds no error, as `Adds` of `Phases.antt` defines.
use Rattle.std.proofs.Common.{inl, refl, ◌∷◌, []}
use Rattle.std.proofs.lemmas.Slice.{pushed}
use Rattle.cool_faults.proofs.lexing.lex_file.Goals as goal

pub returns-in_ok-push-in-Ok : goal.returns-in_ok-push-in-Ok
returns-in_ok-push-in-Ok c =
    let e = c.in-Ok.ensures in
    inl (
      c.in-Ok.lexed,
      record { lexes = e.lexes; end = e.end; limits = e.limits; rising = e.rising; few = e.few; weight = e.weight },
      pushed (c.in-Ok.lexed ∷ []) refl c.in_ok-push-in-Ok.was c.push.ensures,
      refl,
    )
