-- `short` returns a short name in an array that is zero after the bytes of the name, as `IsSpelled` of `Spellings.antt` demands.
use Rattle.std.proofs.Common.{subst, ◌≡◌, ◌∙◌, ◌++◌, sym, ap, ℕ, List, length, drop, replicate, arith, refl}
use Rattle.std.proofs.lemmas.List.{length-append, length-drop, drop_at, drop-replicate}
use Rattle.cool_syntax.specs.declared.text.TheConstants.{MOST_SHORT_NAME}
use Rattle.cool_syntax.proofs.text.short.Goals as goal

pub returns-clause-held : goal.returns-clause-held
returns-clause-held c =
    let bytes = c.args.bytes.now in
    let n = length bytes in
    let zeros = replicate MOST_SHORT_NAME 0 in
    let same : c.copy_from_slice.new.self ≡ bytes = c.copy_from_slice.ensures.after in
    record {
      0 = c.requires;
      1 = subst (λ (front : List ℕ). length (front ++ drop n zeros) ≡ MOST_SHORT_NAME) (sym same) (omega (arith, c.requires, length-append bytes (drop n zeros), length-drop n zeros));
      2 = ap (λ (front : List ℕ). drop n (front ++ drop n zeros)) same ∙ drop_at bytes (drop n zeros) n refl ∙ drop-replicate n MOST_SHORT_NAME 0;
    }
