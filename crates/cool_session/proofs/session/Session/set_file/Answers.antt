-- `Session::set_file` replaces the file of a name that is held, or appends a new name and its file. `position_to_set` has shown that the file fits.
use Rattle.std.proofs.Common.{rules, ◌≡◌, ◌+◌, ◌++◌, [], ◌∷◌, map, length, string_bytes, Some, None, ap, sym, ◌∙◌, arith}
use Rattle.std.specs.Prelude.{slice_set}
use Rattle.std.proofs.lemmas.List.{length-map, length-set, map-append, map-set, length_push}
use Rattle.std.proofs.lemmas.Grind.{merely}
use Rattle.cool_faults.specs.Files.{bytes_of}
use Rattle.cool_session.specs.Files.{position}
use Rattle.cool_session.proofs.FilesSet.{fits, held}
use Rattle.cool_session.proofs.session.Session.set_file.Goals as goal

pub invariant_of-self-in-Some : goal.invariant_of-self-in-Some
invariant_of-self-in-Some c =
    let names = c.args.self.now.names.items in
    let files = c.args.self.now.files.items in
    let p : Some c.in-Some.k ≡ position (map string_bytes names) c.args.name.now =
    rw (sym c.as_slice.ensures.value) (sym c.in-Some.is ∙ c.in_ok-place.ensures.place) in
    let room =
    fits (map string_bytes names) (bytes_of files) c.args.name.now c.args.bytes.now (Some c.in-Some.k) p
    (rw (sym c.as_slice.ensures.value, sym c.as_slice-2.ensures.value) c.in_ok-place.ensures.fits) in
    let bytes : bytes_of (slice_set files c.in-Some.k c.in_ok-file.file) ≡ slice_set (bytes_of files) c.in-Some.k c.args.bytes.now =
    map-set (λ file. file.items) files c.in-Some.k c.in_ok-file.file ∙ ap (slice_set (bytes_of files) c.in-Some.k) c.in_ok-file.ensures.items in
    record {
      paired = omega (arith, length-set files c.in-Some.k c.in_ok-file.file, c.args.self.now.paired);
      few = omega (arith, length-set files c.in-Some.k c.in_ok-file.file, c.args.self.now.few);
      small = rw bytes room.1;
      current = merely tt;
    }

pub invariant_of-self-in-None : goal.invariant_of-self-in-None
invariant_of-self-in-None c =
    let names = c.args.self.now.names.items in
    let files = c.args.self.now.files.items in
    let p : None ≡ position (map string_bytes names) c.args.name.now =
    rw (sym c.as_slice.ensures.value) (sym c.in-None.is ∙ c.in_ok-place.ensures.place) in
    let room =
    fits (map string_bytes names) (bytes_of files) c.args.name.now c.args.bytes.now None p
    (rw (sym c.as_slice.ensures.value, sym c.as_slice-2.ensures.value) c.in_ok-place.ensures.fits) in
    let named : c.push.new.self.items ≡ names ++ c.in_ok-name-in-None.name ∷ [] = search rules in
    let filed : c.push-in-None.new.self.items ≡ files ++ c.in_ok-file.file ∷ [] = search rules in
    let bytes : bytes_of c.push-in-None.new.self.items ≡ bytes_of files ++ c.args.bytes.now ∷ [] =
    ap bytes_of filed ∙ map-append (λ file. file.items) files (c.in_ok-file.file ∷ [])
    ∙ ap (λ b. bytes_of files ++ b ∷ []) c.in_ok-file.ensures.items in
    let names_long : length c.push.new.self.items ≡ length names + 1 = ap length named ∙ length_push names c.in_ok-name-in-None.name in
    let files_long : length c.push-in-None.new.self.items ≡ length files + 1 = ap length filed ∙ length_push files c.in_ok-file.file in
    record {
      paired = omega (arith, names_long, files_long, c.args.self.now.paired);
      few = omega (arith, files_long, length_push (map string_bytes names) c.args.name.now, length-map names string_bytes, c.args.self.now.paired, room.0);
      small = rw bytes room.1;
      current = merely tt;
    }

pub returns-in-Some-clause-names : goal.returns-in-Some-clause-names
returns-in-Some-clause-names c =
    let names = c.args.self.now.names.items in
    let p : position (map string_bytes names) c.args.name.now ≡ Some c.in-Some.k =
    rw (sym c.as_slice.ensures.value) (sym c.in_ok-place.ensures.place ∙ c.in-Some.is) in
    rw p (sym (held (map string_bytes names) c.args.name.now c.in-Some.k p))

pub returns-in-Some-clause-files : goal.returns-in-Some-clause-files
returns-in-Some-clause-files c =
    let names = c.args.self.now.names.items in
    let files = c.args.self.now.files.items in
    let p : position (map string_bytes names) c.args.name.now ≡ Some c.in-Some.k =
    rw (sym c.as_slice.ensures.value) (sym c.in_ok-place.ensures.place ∙ c.in-Some.is) in
    rw p (map-set (λ file. file.items) files c.in-Some.k c.in_ok-file.file ∙ ap (slice_set (bytes_of files) c.in-Some.k) c.in_ok-file.ensures.items)
