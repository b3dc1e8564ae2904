-- The files after an edit are copies of the files before the edited one, the edited file, and copies of the files behind it.
use Rattle.std.proofs.Common.{◌≡◌, ℕ, ◌+◌, ◌<◌, List, [], ◌∷◌, ◌++◌, length, get_or, take, drop, sym, ◌∙◌, ap, append_assoc}
use Rattle.std.specs.Global.{Vec}
use Rattle.std.proofs.lemmas.List.{drop-map, get_or-map, map_push, take-map}
use Rattle.cool_faults.specs.Files.{bytes_of, total}
use Rattle.cool_mend.specs.declared.edit.Edit.{Edit}
use Rattle.cool_mend.specs.Edits.{edited, replaced}
use Rattle.lists.proofs.ItemsLeft.{drop_one}

-- one more file was copied
pub copy_turn : (files all more : List (Vec ℕ)) (start : List (List ℕ)) (i : ℕ) (file copy : Vec ℕ) → i < length files → file ≡ get_or files i file → copy.items ≡ file.items → more ≡ all ++ copy ∷ []
    → bytes_of all ++ bytes_of (drop i files) ≡ start → bytes_of more ++ bytes_of (drop (i + 1) files) ≡ start
copy_turn files all more start i file copy within is same pushed e =
    let rest = bytes_of (drop (i + 1) files) in
    ap (λ (v : List (Vec ℕ)). bytes_of v ++ rest) pushed ∙ ap (λ (l : List (List ℕ)). l ++ rest) (map_push _ _ _)
    ∙ append_assoc (bytes_of all) (copy.items ∷ []) rest ∙ ap (λ (b : List ℕ). bytes_of all ++ b ∷ rest) same
    ∙ ap (λ (l : List (Vec ℕ)). bytes_of all ++ bytes_of l) (sym (drop_one files i file within is)) ∙ e

-- the bytes of the files that are left are those of one and of the rest
pub total_turn : (files : List (Vec ℕ)) (i : ℕ) (file : Vec ℕ) → i < length files → file ≡ get_or files i file → total (bytes_of (drop i files)) ≡ length file.items + total (bytes_of (drop (i + 1) files))
total_turn files i file within is = ap (λ (l : List (Vec ℕ)). total (bytes_of l)) (drop_one files i file within is)

-- the bytes of a file stand at its number
pub bytes_at : (files : List (Vec ℕ)) (k : ℕ) (file : Vec ℕ) → k < length files → file ≡ get_or files k file → get_or (bytes_of files) k [] ≡ file.items
bytes_at files k file within is = get_or-map _ files k file [] within ∙ ap (λ (f : Vec ℕ). f.items) (sym is)

-- the files in front of one, that one edited, and those behind it
pub edited_all : (files first second all : List (Vec ℕ)) (e : Edit) (file new : Vec ℕ) (text bytes : List ℕ) → e.file < length files → file ≡ get_or files e.file file → text ≡ e.text.items → bytes ≡ file.items
    → new.items ≡ replaced e.start e.end text bytes → bytes_of first ≡ bytes_of (take e.file files) → second ≡ first ++ new ∷ [] → bytes_of all ≡ bytes_of second ++ bytes_of (drop (e.file + 1) files) → bytes_of all ≡ edited e (bytes_of files)
edited_all files first second all e file new text bytes within is same of made front pushed back =
    let k = e.file in
    let rest = bytes_of (drop (k + 1) files) in
    let bytes_there : new.items ≡ replaced e.start e.end e.text.items (get_or (bytes_of files) k []) =
    made ∙ ap (λ (t : List ℕ). replaced e.start e.end t bytes) same ∙ ap (replaced e.start e.end e.text.items) (of ∙ sym (bytes_at files k file within is)) in
    back ∙ ap (λ (v : List (Vec ℕ)). bytes_of v ++ rest) pushed ∙ ap (λ (l : List (List ℕ)). l ++ rest) (map_push _ _ _)
    ∙ append_assoc (bytes_of first) (new.items ∷ []) rest ∙ ap (λ (l : List (List ℕ)). l ++ new.items ∷ rest) (front ∙ sym (take-map _ k files))
    ∙ ap (λ (l : List (List ℕ)). take k (bytes_of files) ++ new.items ∷ l) (sym (drop-map _ (k + 1) files)) ∙ ap (λ (b : List ℕ). take k (bytes_of files) ++ b ∷ drop (k + 1) (bytes_of files)) bytes_there
