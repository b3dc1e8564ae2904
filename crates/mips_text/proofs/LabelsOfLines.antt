-- The parser reads a line of assembly as labels, each with a colon, and then a statement. Each lemma is for one step: another label, or no more.
use Rattle.std.proofs.Common.{◌≡◌, ◌∙◌, sym, ap, refl, arith, ℕ, zero, suc, ◌+◌, ◌-◌, Bool, true, false, List, [], ◌∷◌, ◌++◌, length, map, take, drop, length-drop, Result, Ok, Err}
use Rattle.std.proofs.lemmas.List.{drop-map, take_all}
use Rattle.std.specs.List.{slice_get}
use Rattle.std.specs.Prelude.{◌&&◌}
use Rattle.mips_isa.specs.declared.asm_fault.AsmKind.{AsmKind}
use Rattle.mips_isa.specs.Lines.{Line, Statement, line_of, statement_of}
use Rattle.mips_text.specs.declared.flaw.Flaw.{Flaw}
use Rattle.mips_text.specs.declared.flaw.Flaw.TheVariants as flaw
use Rattle.mips_text.specs.declared.words.Word as declared_word
use Rattle.mips_text.specs.Answers.{Meets, labelled}
use Rattle.mips_text.specs.Reading.{has_label, line_read, rest_read, with_label, without_label}
use Rattle.mips_text.specs.Statements.{has_name, is_colon, label_at}
use Rattle.mips_text.specs.Views.{word_seen}
use Rattle.mips_text.specs.Words.{Word, Name, Colon}

-- words that begin with no label are the rest of a line
pub no_label : (words : List Word) → has_label words 0 ≡ false → line_read words ≡ without_label (rest_read words)
no_label [] h = refl
no_label (Name name ∷ []) h = refl
no_label (Name name ∷ Colon ∷ words) h = absurd (let e : true ≡ false = h in cc)
no_label (Name name ∷ _ ∷ words) h = refl
no_label (_ ∷ words) h = refl

-- a label, and the line behind it
pub one_label : (words : List Word) → has_label words 0 ≡ true → line_read words ≡ with_label (label_at words 0) (line_read (drop 2 words))
one_label (Name name ∷ Colon ∷ words) h = refl
one_label [] h = absurd (let e : false ≡ true = h in cc)
one_label (Name name ∷ []) h = absurd (let e : false ≡ true = h in cc)
one_label (Name name ∷ _ ∷ words) h = absurd (let e : false ≡ true = h in cc)
one_label (_ ∷ words) h = absurd (let e : false ≡ true = h in cc)

-- the same at a place
next_place : (k : ℕ) → suc k + 1 ≡ suc (k + 1)
next_place k = omega arith

place_behind : (w : Word) (words : List Word) (k : ℕ) (t : Bool) → has_label (w ∷ words) (suc k) ≡ t → has_label words k ≡ t
place_behind w words k t h = ap (λ n. has_name words k && is_colon (slice_get (w ∷ words) n)) (sym (next_place k)) ∙ h

nothing_there : (k : ℕ) → has_label [] k ≡ false
nothing_there k = refl

pub label_here : (words : List Word) (k : ℕ) → has_label words k ≡ true → line_read (drop k words) ≡ with_label (label_at words k) (line_read (drop (k + 2) words))
label_here words zero h = one_label words h
label_here [] (suc k) h = absurd (let e : false ≡ true = h in cc)
label_here (w ∷ words) (suc k) h =
    let next : suc k + 2 ≡ suc (k + 2) = omega arith in
    label_here words k (place_behind w words k true h) ∙ ap (λ n. with_label (label_at words k) (line_read (drop n (w ∷ words)))) (sym next)

nothing_left : (k : ℕ) → line_read (drop k []) ≡ without_label (rest_read (drop k []))
nothing_left zero = refl
nothing_left (suc k) = refl

pub rest_here : (words : List Word) (k : ℕ) → has_label words k ≡ false → line_read (drop k words) ≡ without_label (rest_read (drop k words))
rest_here words zero h = no_label words h
rest_here [] (suc k) h = nothing_left (suc k)
rest_here (w ∷ words) (suc k) h = rest_here words k (place_behind w words k false h)

-- labels that were read before another
pub labelled_more : (names : List (List ℕ)) (name : List ℕ) (read : Result Line AsmKind) → labelled (names ++ name ∷ []) read ≡ labelled names (with_label name read)
labelled_more [] name read = refl
labelled_more (n ∷ names) name read = ap (with_label n) (labelled_more names name read)

-- labels before a statement, and before a fault
pub labelled_statement : (names : List (List ℕ)) (statement : Statement) → labelled names (without_label (Ok statement)) ≡ Ok (record { labels = names; statement = statement })
labelled_statement [] statement = refl
labelled_statement (n ∷ names) statement = ap (with_label n) (labelled_statement names statement)

pub labelled_fault : (names : List (List ℕ)) (kind : AsmKind) → labelled names (Err kind) ≡ Err kind
labelled_fault [] kind = refl
labelled_fault (n ∷ names) kind = ap (with_label n) (labelled_fault names kind)

-- the words behind a place, as the code takes them
pub words_taken : (words : List declared_word.Word) (k : ℕ) → map word_seen (take (length words - k) (drop k words)) ≡ drop k (map word_seen words)
words_taken words k = ap (map word_seen) (take_all _ (drop k words) (omega (arith, length-drop k words))) ∙ sym (drop-map word_seen k words)

-- one more label was read
pub label_read : (names : List (List ℕ)) (words : List Word) (k : ℕ) (total : Result Line AsmKind) → has_label words k ≡ true → labelled names (line_read (drop k words)) ≡ total → labelled (names ++ label_at words k ∷ []) (line_read (drop (k + 2) words)) ≡ total
label_read names words k total h inv =
    labelled_more names (label_at words k) (line_read (drop (k + 2) words)) ∙ (sym (ap (labelled names) (label_here words k h)) ∙ inv)

-- the rest was read
pub rest_met : (names : List (List ℕ)) (words : List Word) (k : ℕ) (total : Result Line AsmKind) (statement : Statement) → has_label words k ≡ false → labelled names (line_read (drop k words)) ≡ total → rest_read (drop k words) ≡ Ok statement → total ≡ Ok (record { labels = names; statement = statement })
rest_met names words k total statement h inv e =
    sym inv ∙ (ap (labelled names) (rest_here words k h) ∙ (ap (λ r. labelled names (without_label r)) e ∙ labelled_statement names statement))

pub rest_faulty : (names : List (List ℕ)) (words : List Word) (k : ℕ) (total : Result Line AsmKind) (f : Flaw) → has_label words k ≡ false → labelled names (line_read (drop k words)) ≡ total → Meets statement_of (Err f) (rest_read (drop k words)) → Meets line_of (Err f) total
rest_faulty names words k total flaw.Memory h inv e = tt
rest_faulty names words k total (flaw.Fault kind) h inv e =
    sym inv ∙ (ap (labelled names) (rest_here words k h) ∙ (ap (λ r. labelled names (without_label r)) e ∙ labelled_fault names kind))
