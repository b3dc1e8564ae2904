-- `all_but_last` returns the lines that `all_but_last` of `Changes.antt` defines: all except the last one.
use Rattle.std.proofs.Common.{◌≡◌, ◌-◌, ◌∙◌, ℕ, List, ap, arith, length, sym, take}
use Rattle.std.specs.Global.{Vec}
use Rattle.std.proofs.lemmas.List.{length-map, take-map}
use Rattle.cool_faults.specs.Files.{bytes_of}
use Rattle.cool_explanations.proofs.changes.all_but_last.Goals as goal

pub returns : goal.returns
returns c =
    let lines = c.args.lines.now in
    let items : Vec ℕ → List ℕ = λ v. v.items in
    let count : c.saturating_sub.result ≡ length (bytes_of lines) - 1 = omega (arith, c.saturating_sub.ensures, length-map lines items) in
    sym (take-map items c.saturating_sub.result lines) ∙ ap (λ (n : ℕ). take n (bytes_of lines)) count
