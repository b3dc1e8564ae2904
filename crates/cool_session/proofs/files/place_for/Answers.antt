-- `place_for` returns `Ok` if a file of this size fits into the session. Otherwise it returns the limit that the file would exceed, as `set_room` of
-- `Files.antt` defines.
use Rattle.std.proofs.Common.{◌≡◌, ◌≤◌, ◌<◌, ℕ, IfSome, subst, map, length, string_bytes, replicate, None, sym, ◌∙◌, arith}
use Rattle.std.proofs.lemmas.List.{length-map, length-replicate}
use Rattle.cool_syntax.specs.declared.TheConstants.{MOST_FILES}
use Rattle.cool_faults.specs.Files.{bytes_of}
use Rattle.cool_session.proofs.FilesSet.{is_held, not_held, too_many, too_large, enough, length_within}
use Rattle.cool_session.proofs.files.place_for.Goals.{else-is_none-via-then-is_none+else-names-eq-MOST_FILES, else-is_none-via-else-is_none}
use Rattle.cool_session.proofs.files.place_for.Goals as goal

pub returns-then-names-eq-MOST_FILES-clause-refused : goal.returns-then-names-eq-MOST_FILES-clause-refused
returns-then-names-eq-MOST_FILES-clause-refused c =
    too_many (map string_bytes c.args.names.now) (bytes_of c.args.files.now) c.args.name.now (replicate c.args.size 0)
    c.position-place.result c.position-place.ensures.first
    (not_held c.position-place.result c.is_none.result c.is_none.ensures c.if-is_none.true)
    (length-map c.args.names.now string_bytes ∙ c.if-names-eq-MOST_FILES.true)

pub overflow_sub-others : goal.overflow_sub-others
overflow_sub-others c = omega (arith, length_within c.position-place.result (bytes_of c.args.files.now), c.total.ensures, c.length_at.ensures)

pub returns-then-size-others-clause-refused : goal.returns-then-size-others-clause-refused
returns-then-size-others-clause-refused c =
    let place = c.position-place.result in
    let names = map string_bytes c.args.names.now in
    let files = bytes_of c.args.files.now in
    let named : length names ≡ length c.args.names.now = length-map c.args.names.now string_bytes in
    let few : length names ≤ MOST_FILES = omega (arith, named, c.requires.few) in
    let more : place ≡ None → length names ≡ MOST_FILES → ⊥ = elim c.else-is_none.branch [
      | else-is_none-via-then-is_none+else-names-eq-MOST_FILES w ↦ (λ e h. w.if-names-eq-MOST_FILES.false (sym named ∙ h))
      | else-is_none-via-else-is_none w ↦ (λ e h. is_held place c.is_none.result c.is_none.ensures w.if-is_none.false e)
    ] in
    let within : IfSome place (λ k. k < length files) =
    subst (λ (n : ℕ). IfSome place (λ k. k < n))
    (c.requires.paired ∙ sym (length-map c.args.files.now (λ file. file.items))) c.position-place.ensures.within in
    too_large names files c.args.name.now (replicate c.args.size 0) place c.position-place.ensures.first few more within
    (omega (
      arith,
      length-replicate {A = ℕ} c.args.size 0,
      length_within place
          files,
      c.total.ensures,
      c.length_at.ensures,
      c.requires.small,
      c.if-size-others.true,
    ))

pub returns-clause-fits : goal.returns-clause-fits
returns-clause-fits c =
    let place = c.position-place.result in
    let names = map string_bytes c.args.names.now in
    let files = bytes_of c.args.files.now in
    let named : length names ≡ length c.args.names.now = length-map c.args.names.now string_bytes in
    let few : length names ≤ MOST_FILES = omega (arith, named, c.requires.few) in
    let more : place ≡ None → length names ≡ MOST_FILES → ⊥ = elim c.else-is_none.branch [
      | else-is_none-via-then-is_none+else-names-eq-MOST_FILES w ↦ (λ e h. w.if-names-eq-MOST_FILES.false (sym named ∙ h))
      | else-is_none-via-else-is_none w ↦ (λ e h. is_held place c.is_none.result c.is_none.ensures w.if-is_none.false e)
    ] in
    let within : IfSome place (λ k. k < length files) =
    subst (λ (n : ℕ). IfSome place (λ k. k < n))
    (c.requires.paired ∙ sym (length-map c.args.files.now (λ file. file.items))) c.position-place.ensures.within in
    enough names files c.args.name.now (replicate c.args.size 0) place c.position-place.ensures.first few more within
    (omega (
      arith,
      length-replicate {A = ℕ} c.args.size 0,
      length_within place
          files,
      c.total.ensures,
      c.length_at.ensures,
      c.requires.small,
      c.if-size-others.false,
    ))
