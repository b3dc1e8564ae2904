-- Each step of the loop of `entries_of` adds the class-table entry of the next class definition, whose depth (number of ancestors) is known.
use Rattle.std.proofs.Common.{◌≡◌, ◌≢◌, ℕ, suc, ◌+◌, ◌<◌, List, [], ◌∷◌, ◌++◌, length, drop, get_or, Option, Some, None, sym, ap, ◌∙◌, append_assoc, arith, drop-cons}
use Rattle.std.proofs.lemmas.List.{get_or-map}
use Rattle.cool_syntax.specs.declared.file_tree.ClassDef.{ClassDef}
use Rattle.cool_classes.specs.declared.class_id.ClassId.{ClassId}
use Rattle.cool_classes.specs.declared.entry.Entry.{Entry}
use Rattle.cool_classes.specs.Settled.{parent_meant, parents_meant, entries_meant, or_zero}

-- a depth that is known is there
pub not_none : (os : List (Option ℕ)) (k d : ℕ) (o : Option ℕ) → get_or os k None ≡ Some d → o ≡ get_or os k o → o ≢ None
not_none os k d o known is none =
    let at : get_or os k o ≡ get_or os k None = ap (get_or os k) none in
    absurd (cc)

-- the first of the definitions that are left
pub first_left : (ds rest : List ClassDef) (k : ℕ) (d : ClassDef) → k < length ds → d ∷ rest ≡ drop k ds → (d ≡ get_or ds k d) × (rest ≡ drop (k + 1) ds)
first_left ds rest k d within is =
    let up : suc k ≡ k + 1 = omega arith in
    let cut : drop k ds ≡ get_or ds k d ∷ drop (k + 1) ds = drop-cons ds k d within ∙ ap (λ (n : ℕ). get_or ds k d ∷ drop n ds) up in
    let both : d ∷ rest ≡ get_or ds k d ∷ drop (k + 1) ds = is ∙ cut in
    (cc, cc)

-- the entry of a definition
abbrev made : ClassDef → ClassId → ℕ → Entry
made d q n = record { name = d.name; parent = Some q; depth = n; features = d.features }

-- one entry more
pub entry_more : (names : List (List ℕ)) (ds rest next : List ClassDef) (es all : List Entry) (k : ℕ) (ps : List ClassId) (os : List (Option ℕ)) (d : ClassDef) (q : ClassId) (o : Option ℕ) (n : ℕ)
    → k < length ds → length os ≡ length ds → rest ≡ drop k ds → rest ≡ d ∷ next → ps ≡ parents_meant names ds → q ≡ get_or ps k q → o ≡ get_or os k o → o ≡ Some n
    → es ++ entries_meant names rest (drop k os) ≡ all → (es ++ record { name = d.name; parent = Some q; depth = n; features = d.features } ∷ []) ++ entries_meant names next (drop (k + 1) os) ≡ all
entry_more names ds rest next es all k ps os d q o n within long left is parents parent depth known so_far =
    let first = first_left ds next k d within (sym is ∙ left) in
    let meant : q ≡ parent_meant names d.parent =
    parent ∙ ap (λ (xs : List ClassId). get_or xs k q) parents ∙ get_or-map (λ (x : ClassDef). parent_meant names x.parent) ds k d q within ∙ ap (λ (x : ClassDef). parent_meant names x.parent) (sym first.0) in
    let deep : n ≡ or_zero o = sym (ap or_zero known) in
    let up : suc k ≡ k + 1 = omega arith in
    let cut : drop k os ≡ o ∷ drop (k + 1) os =
    drop-cons os k o (omega arith) ∙ ap (λ (m : ℕ). get_or os k o ∷ drop m os) up ∙ ap (λ (x : Option ℕ). x ∷ drop (k + 1) os) (sym depth) in
    let rest_meant : entries_meant names rest (drop k os) ≡ entries_meant names (d ∷ next) (o ∷ drop (k + 1) os) =
    ap (λ (xs : List ClassDef). entries_meant names xs (drop k os)) is ∙ ap (entries_meant names (d ∷ next)) cut in
    let same : made d q n ≡ made d (parent_meant names d.parent) (or_zero o) = λ i. made d (meant i) (deep i) in
    append_assoc es (made d q n ∷ []) (entries_meant names next (drop (k + 1) os))
    ∙ ap (λ (e : Entry). es ++ (e ∷ entries_meant names next (drop (k + 1) os))) same
    ∙ ap (λ (xs : List Entry). es ++ xs) (sym rest_meant)
    ∙ so_far
