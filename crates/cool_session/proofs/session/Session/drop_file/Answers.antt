-- `Session::drop_file` removes a name and the file at its position. As many names as files are left, and the files have no more bytes than before.
use Rattle.std.proofs.Common.{◌≡◌, ◌<◌, map, length, string_bytes, Some, ap, sym, ◌∙◌, arith}
use Rattle.std.specs.Prelude.{remove}
use Rattle.std.proofs.lemmas.Grind.{merely}
use Rattle.cool_faults.specs.Files.{bytes_of}
use Rattle.cool_session.specs.Files.{position}
use Rattle.cool_session.proofs.FilesSet.{removed_less, removed_map}
use Rattle.cool_session.proofs.session.Session.drop_file.Goals as goal
use Rattle.std.proofs.lemmas.List.Edits.{length-remove}

pub invariant_of-self : goal.invariant_of-self
invariant_of-self c =
    let k = c.in-Some.k in
    let names = c.args.self.now.names.items in
    let files = c.args.self.now.files.items in
    let named : k < length names = omega (arith, ap length c.as_slice.ensures.value, c.in-Some.ensures.within) in
    let filed : k < length files = omega (arith, named, c.args.self.now.paired) in
    let bytes : bytes_of c.remove-in-Some.new.self.items ≡ remove (bytes_of files) k =
    ap bytes_of c.remove-in-Some.ensures.items ∙ removed_map (λ file. file.items) files k in
    let names_left = ap length c.remove.ensures.items in
    let files_left = ap length c.remove-in-Some.ensures.items in
    record {
      paired = omega (arith, names_left, files_left, length-remove names k named, length-remove files k filed, c.args.self.now.paired);
      few = omega (arith, files_left, length-remove files k filed, c.args.self.now.few);
      small = rw bytes (omega (arith, removed_less (bytes_of files) k, c.args.self.now.small));
      current = merely tt;
    }

pub returns-in-Some-clause-names : goal.returns-in-Some-clause-names
returns-in-Some-clause-names c =
    let names = c.args.self.now.names.items in
    let p : position (map string_bytes names) c.args.name.now ≡ Some c.in-Some.k =
    rw (sym c.as_slice.ensures.value) (sym c.position.ensures.first ∙ c.in-Some.is) in
    rw p (ap (map string_bytes) c.remove.ensures.items ∙ removed_map string_bytes names c.in-Some.k)

pub returns-in-Some-clause-files : goal.returns-in-Some-clause-files
returns-in-Some-clause-files c =
    let names = c.args.self.now.names.items in
    let p : position (map string_bytes names) c.args.name.now ≡ Some c.in-Some.k =
    rw (sym c.as_slice.ensures.value) (sym c.position.ensures.first ∙ c.in-Some.is) in
    rw p (ap bytes_of c.remove-in-Some.ensures.items ∙ removed_map (λ file. file.items) c.args.self.now.files.items c.in-Some.k)
