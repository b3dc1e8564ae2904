-- Lemmas on the first pass of the assembler over lines in two parts: their positions, data items, symbol table (of labels), and first error.
use Rattle.std.specs.Prelude.{◌≡◌, ℕ, suc, ◌+◌, List, [], ◌∷◌, ◌++◌, length, Option, Some, None, is_some, true, false, refl}
use Rattle.std.proofs.Common.{ap, sym, ◌∙◌, append_assoc, append-nil, arith, length-append, flat_map, subst}
use Rattle.mips_isa.specs.declared.asm_fault.AsmKind.{AsmKind}
use Rattle.mips_isa.specs.declared.asm_fault.AsmFault.{AsmFault}
use Rattle.mips_isa.specs.Lines.{Name, Line}
use Rattle.mips_isa.specs.Assembly.{Position, need, start_position, after_line, defining_fault, first_pass, fault_or}
use Rattle.mips_asm.specs.declared.mark.Mark.{Mark}
use Rattle.mips_asm.specs.declared.first_pass.FirstPass.{FirstPass}
use Rattle.mips_asm.specs.Passes.{names_of, marked, mark_in, item_in, items_from, table_from, after_lines, position_of, shown, Fits}
use Rattle.mips_asm.specs.FirstPasses.{Passed, IsPassed, HasTaken}
use Rattle.mips_asm.proofs.LinePlaces.{fine_here, fits_after}
use Rattle.std.proofs.lemmas.List.{map-append}
use Rattle.lists.proofs.Options.{none_is}

-- the labels of lines, one after another
abbrev pub labels_of : List Line → List Name
labels_of = flat_map (λ line. line.labels)

-- the names of labels with a mark are the labels
names_of_marked : (mark : Mark) (labels : List Name) → names_of (marked mark labels) ≡ labels
names_of_marked mark [] = refl
names_of_marked mark (label ∷ rest) = ap (λ (more : List Name). label ∷ more) (names_of_marked mark rest)

-- the names of a table are the labels of its lines
names_of_table : (p : Position) (items : ℕ) (lines : List Line) → names_of (table_from p items lines) ≡ labels_of lines
names_of_table p items [] = refl
names_of_table p items (line ∷ rest) =
    let mark = mark_in p.segment p.words items in
    let more = table_from (after_line line p) (items + length (item_in (need line.statement) p.bytes)) rest in
    map-append (λ (entry : Name × Mark). entry.0) (marked mark line.labels) more
    ∙ ap (λ (names : List Name). names ++ names_of more) (names_of_marked mark line.labels)
    ∙ ap (λ (names : List Name). line.labels ++ names) (names_of_table (after_line line p) (items + length (item_in (need line.statement) p.bytes)) rest)

-- The first pass over lines without a fault goes on with those behind them.
pass_on : (seen : List Name) (p : Position) (number : ℕ) (lines more : List Line) → first_pass seen p number lines ≡ None
    → first_pass seen p number (lines ++ more) ≡ first_pass (seen ++ labels_of lines) (after_lines p lines) (number + length lines) more
pass_on seen p number [] more fine =
    let same : number ≡ number + 0 = omega arith in
    ap (λ (names : List Name). first_pass names p number more) (sym (append-nil seen))
    ∙ ap (λ (n : ℕ). first_pass (seen ++ []) p n more) same
pass_on seen p number (line ∷ rest) more fine =
    let q : Position = after_line line p in
    let both = fine_here number (defining_fault seen p line) (first_pass (seen ++ line.labels) q (suc number) rest) fine in
    let count : suc number + length rest ≡ number + suc (length rest) = omega arith in
    ap (λ (o : Option AsmKind). fault_or number o (first_pass (seen ++ line.labels) q (suc number) (rest ++ more))) both.0
    ∙ pass_on (seen ++ line.labels) q (suc number) rest more both.1
    ∙ ap (λ (names : List Name). first_pass names (after_lines q rest) (suc number + length rest) more) (append_assoc seen line.labels (labels_of rest))
    ∙ ap (λ (n : ℕ). first_pass (seen ++ (line.labels ++ labels_of rest)) (after_lines q rest) n more) count

-- positions, items and tables of lines in two parts

pub after_both : (p : Position) (lines more : List Line) → after_lines p (lines ++ more) ≡ after_lines (after_lines p lines) more
after_both p [] more = refl
after_both p (line ∷ rest) more = after_both (after_line line p) rest more

items_both : (p : Position) (lines more : List Line) → items_from p (lines ++ more) ≡ items_from p lines ++ items_from (after_lines p lines) more
items_both p [] more = refl
items_both p (line ∷ rest) more =
    let here = item_in (need line.statement) p.bytes in
    ap (λ (items : List ℕ). here ++ items) (items_both (after_line line p) rest more)
    ∙ sym (append_assoc here (items_from (after_line line p) rest) (items_from (after_lines (after_line line p) rest) more))

table_both : (p : Position) (items : ℕ) (lines more : List Line)
    → table_from p items (lines ++ more) ≡ table_from p items lines ++ table_from (after_lines p lines) (items + length (items_from p lines)) more
table_both p items [] more = let same : items ≡ items + 0 = omega arith in ap (λ (n : ℕ). table_from p n more) same
table_both p items (line ∷ rest) more =
    let q : Position = after_line line p in
    let here = item_in (need line.statement) p.bytes in
    let own = marked (mark_in p.segment p.words items) line.labels in
    let count : items + length here + length (items_from q rest) ≡ items + length (here ++ items_from q rest) =
    omega (arith, length-append here (items_from q rest)) in
    ap (λ (table : List (Name × Mark)). own ++ table) (table_both q (items + length here) rest more)
    ∙ ap (λ (n : ℕ). own ++ (table_from q (items + length here) rest ++ table_from (after_lines q rest) n more)) count
    ∙ sym (append_assoc own (table_from q (items + length here) rest) (table_from (after_lines q rest) (items + length (here ++ items_from q rest)) more))

-- the fault of a line is found by the table and the position after the lines before it
fault_here : (pass : FirstPass) (taken : List Line) (line : Line) → Passed pass taken
    → defining_fault (labels_of taken) (after_lines start_position taken) line ≡ defining_fault (names_of (shown pass.table.entries)) (position_of pass.position) line
fault_here pass taken line d =
    ap (λ (names : List Name). defining_fault names (after_lines start_position taken) line)
    (sym (ap names_of d.table ∙ names_of_table start_position 0 taken))
    ∙ ap (λ (p : Position). defining_fault (names_of (shown pass.table.entries)) p line) (sym d.position)

-- One line more without a fault.
pub passed_more : (old new : FirstPass) (taken : List Line) (line : Line) → Passed old taken
    → defining_fault (names_of (shown old.table.entries)) (position_of old.position) line ≡ None
    → shown new.table.entries ≡ shown old.table.entries ++ marked (mark_in old.position.segment old.position.words (length old.items.items)) line.labels
    → new.items.items ≡ old.items.items ++ item_in (need line.statement) old.position.bytes
    → position_of new.position ≡ after_line line (position_of old.position) → new.lines ≡ old.lines + 1 → Passed new (taken ++ line ∷ [])
passed_more old new taken line d none table items position number =
    let P : Position = after_lines start_position taken in
    let T = table_from start_position 0 taken in
    let I = items_from start_position taken in
    let own : Position → ℕ → List (Name × Mark) = λ p n. marked (mark_in p.segment p.words n) line.labels in
    let count : length old.items.items ≡ 0 + length I = let e = ap length d.items in omega arith in
    record {
      fine =
          pass_on [] start_position 1 taken (line ∷ []) d.fine
          ∙ ap (λ (o : Option AsmKind). fault_or (1 + length taken) o None) (fault_here old taken line d ∙ none);
      table =
          table
          ∙ ap (λ (t : List (Name × Mark)). t ++ own (position_of old.position) (length old.items.items)) d.table
          ∙ ap (λ (p : Position). T ++ own p (length old.items.items)) d.position
          ∙ ap (λ (n : ℕ). T ++ own P n) count
          ∙ ap (λ (t : List (Name × Mark)). T ++ t) (sym (append-nil (own P (0 + length I))))
          ∙ sym (table_both start_position 0 taken (line ∷ []));
      items =
          items
          ∙ ap (λ (xs : List ℕ). xs ++ item_in (need line.statement) old.position.bytes) d.items
          ∙ ap (λ (p : Position). I ++ item_in (need line.statement) p.bytes) d.position
          ∙ ap (λ (xs : List ℕ). I ++ xs) (sym (append-nil (item_in (need line.statement) P.bytes)))
          ∙ sym (items_both start_position taken (line ∷ []));
      position = position ∙ ap (after_line line) d.position ∙ sym (after_both start_position taken (line ∷ []));
      number = omega (arith, number, d.number, length-append taken (line ∷ []));
    }

-- The first line with a fault.
pub passed_fault : (old : FirstPass) (taken : List Line) (line : Line) (fault : AsmFault) → Passed old taken
    → defining_fault (names_of (shown old.table.entries)) (position_of old.position) line ≡ Some fault.kind → fault.line ≡ old.lines + 1
    → (rest : List Line) → first_pass [] start_position 1 ((taken ++ line ∷ []) ++ rest) ≡ Some fault
passed_fault old taken line fault d some number rest =
    let count : 1 + length taken ≡ fault.line = omega (arith, number, d.number) in
    let P : Position = after_lines start_position taken in
    ap (first_pass [] start_position 1) (append_assoc taken (line ∷ []) rest)
    ∙ pass_on [] start_position 1 taken (line ∷ rest) d.fine
    ∙ ap (λ (o : Option AsmKind). fault_or (1 + length taken) o (first_pass (labels_of taken ++ line.labels) (after_line line P) (suc (1 + length taken)) rest))
    (fault_here old taken line d ∙ some)
    ∙ ap (λ (k : ℕ). Some (let f : AsmFault = record { kind = fault.kind; line = k } in f)) count

-- a fault stays the first, whatever follows
pub fault_stays : (fault : AsmFault) (taken : List Line) (line : Line) → ((rest : List Line) → first_pass [] start_position 1 (taken ++ rest) ≡ Some fault)
    → (rest : List Line) → first_pass [] start_position 1 ((taken ++ line ∷ []) ++ rest) ≡ Some fault
fault_stays fault taken line h rest = ap (first_pass [] start_position 1) (append_assoc taken (line ∷ []) rest) ∙ h (line ∷ rest)

-- after lines without a fault no segment is too large
pub passed_fits : (pass : FirstPass) (taken : List Line) → Passed pass taken → Fits pass.position.words pass.position.bytes
passed_fits pass taken d =
    let fits : Fits (after_lines start_position taken).words (after_lines start_position taken).bytes =
    fits_after [] start_position 1 taken (record { words_fit = omega arith; bytes_fit = omega arith }) d.fine in
    let words = ap (λ (p : Position). p.words) d.position in
    let bytes = ap (λ (p : Position). p.bytes) d.position in
    let most_words = fits.words_fit in
    let most_bytes = fits.bytes_fit in
    record { words_fit = omega arith; bytes_fit = omega arith }

-- Lines are taken one by one, and those from an index on are left.
abbrev pub Taking : FirstPass → List Line → List Line → List Line → Type 0
Taking pass taken lines rest = (so_far : List Line) × (HasTaken pass so_far × (so_far ++ rest ≡ taken ++ lines))

-- none is taken yet
pub taking_start : (pass : FirstPass) (taken lines : List Line) → HasTaken pass taken → Taking pass taken lines lines
taking_start pass taken lines h = (taken, (h, refl))

-- one line more
pub taking_more : (old new : FirstPass) (taken lines rest : List Line) (line : Line)
    → Taking old taken lines (line ∷ rest) → ((so_far : List Line) → HasTaken old so_far → HasTaken new (so_far ++ line ∷ []))
    → Taking new taken lines rest
taking_more old new taken lines rest line t step =
    (t.0 ++ line ∷ [], (step t.0 t.1.0, append_assoc t.0 (line ∷ []) rest ∙ t.1.1))

-- all are taken
pub taking_end : (pass : FirstPass) (taken lines : List Line) → Taking pass taken lines [] → HasTaken pass (taken ++ lines)
taking_end pass taken lines t = subst (HasTaken pass) (sym (append-nil t.0) ∙ t.1.1) t.1.0

-- The first pass after one more line

-- lines without a fault were passed
pub passed : (pass : FirstPass) (taken : List Line) → pass.fault ≡ None → HasTaken pass taken → Passed pass taken
passed pass taken none h = subst (λ (fault : Option AsmFault). IsPassed fault pass taken) none h

-- no segment is too large where there is no fault
pub taken_fits : (pass : FirstPass) (taken : List Line) → pass.fault ≡ None → HasTaken pass taken → Fits pass.position.words pass.position.bytes
taken_fits pass taken none h = passed_fits pass taken (passed pass taken none h)

-- a line after a fault
pub taken_at_fault : (pass : FirstPass) (taken : List Line) (line : Line) → is_some pass.fault ≡ true → HasTaken pass taken → HasTaken pass (taken ++ line ∷ [])
taken_at_fault pass taken line some h = by pass.fault some h
  where
    by : (fault : Option AsmFault) → is_some fault ≡ true → IsPassed fault pass taken → IsPassed fault pass (taken ++ line ∷ [])
    by None e d = cc
    by (Some fault) e d = fault_stays fault taken line d

-- a line without a fault
pub taken_more : (old new : FirstPass) (taken : List Line) (line : Line) → is_some old.fault ≡ false → new.fault ≡ old.fault
    → defining_fault (names_of (shown old.table.entries)) (position_of old.position) line ≡ None
    → shown new.table.entries ≡ shown old.table.entries ++ marked (mark_in old.position.segment old.position.words (length old.items.items)) line.labels
    → new.items.items ≡ old.items.items ++ item_in (need line.statement) old.position.bytes
    → position_of new.position ≡ after_line line (position_of old.position) → new.lines ≡ old.lines + 1
    → HasTaken old taken → HasTaken new (taken ++ line ∷ [])
taken_more old new taken line none same fine table items position number h =
    subst (λ (fault : Option AsmFault). IsPassed fault new (taken ++ line ∷ [])) (sym (same ∙ none_is old.fault none))
    (passed_more old new taken line (passed old taken (none_is old.fault none) h) fine table items position number)

-- the fault of lines
pub fault_of_taken : (pass : FirstPass) (taken : List Line) (fault : AsmFault) → pass.fault ≡ Some fault → HasTaken pass taken
    → first_pass [] start_position 1 taken ≡ Some fault
fault_of_taken pass taken fault some h =
    ap (first_pass [] start_position 1) (sym (append-nil taken)) ∙ subst (λ (found : Option AsmFault). IsPassed found pass taken) some h []
