-- Lemmas on the debug information: sizes and addresses of lines, and the rows of two consecutive parts of the code.
use Rattle.std.proofs.Common.{◌≡◌, ◌∙◌, ℕ, zero, suc, ◌+◌, ◌*◌, ◌≤◌, ◌<◌, List, [], ◌∷◌, ◌++◌, length, flat_map, take, get_or, Bool, true, false, refl, sym, ap, ap₂, subst, append_assoc, append-nil, arith}
use native.Mathlib.Numerals.{add-one}
use Rattle.std.proofs.lemmas.Grind.{flat_map-append}
use Rattle.mips_isa.specs.Assembly.{Need, need}
use Rattle.mips_isa.specs.Lines.{Line}
use Rattle.mips_asm.specs.TextWords.{words_needed}
use Rattle.cool_syntax.specs.declared.file_tree.Feature.{Feature}
use Rattle.cool_classes.specs.declared.class_id.ClassId.{ClassId}
use Rattle.cool_classes.specs.Chains.{Class}
use Rattle.cool_runtime.specs.Standing.{size, sizes}
use Rattle.cool_codegen.specs.Spans.{along}
use Rattle.cool_emit.proofs.KindsInAll.{kinds}
use Rattle.cool_emit.specs.CodeTables.{Row}
use Rattle.cool_emit.specs.TableLines.{row_line}
use Rattle.cool_emit.specs.Additions.{belongs, files_of}
use Rattle.cool_emit.specs.Programs.{Placed, placed_code}
use Rattle.cool_emit.specs.Tellings.{Tells, TellsFeatures, addresses, constants, rows_of}
use Rattle.cool_emit.specs.declared.emission.Emission.{Emission}
use Rattle.cool_emit.specs.declared.emission.Part.{Part}
use Rattle.cool_emit.proofs.AddingParts.{one_more, part_from, part_more}
use Rattle.cool_emit.specs.declared.code_table.Told.{Told}

-- Lines

pub sizes_append : (xs ys : List Line) → sizes (xs ++ ys) ≡ sizes xs + sizes ys
sizes_append [] ys = omega arith
sizes_append (x ∷ xs) ys = let h = sizes_append xs ys in omega arith

pub take_front : {X : Type 0} (xs ys : List X) → take (length xs) (xs ++ ys) ≡ xs
take_front [] ys = refl
take_front (x ∷ xs) ys = ap (λ zs. x ∷ zs) (take_front xs ys)

-- lines of the same kinds take as many bytes, up to each of them
pub same_sizes : (xs ys : List Line) → kinds xs ≡ kinds ys → (n : ℕ) → sizes (take n xs) ≡ sizes (take n ys)
same_sizes [] [] h n = refl
same_sizes [] (y ∷ ys) h n = absurd (let l = ap (λ (ks : List Need). length ks) h in omega arith)
same_sizes (x ∷ xs) [] h n = absurd (let l = ap (λ (ks : List Need). length ks) h in omega arith)
same_sizes (x ∷ xs) (y ∷ ys) h zero = refl
same_sizes (x ∷ xs) (y ∷ ys) h (suc n) =
    let head : need x.statement ≡ need y.statement = ap first h in
    let here : size x ≡ size y = ap (λ (k : Need). 4 * words_needed k) head in
    let rest = same_sizes xs ys (ap tail h) n in
    omega arith
  where
    first : List Need → Need
    first [] = need x.statement
    first (k ∷ ks) = k

    tail : List Need → List Need
    tail [] = []
    tail (k ∷ ks) = ks

pub all_sizes : (xs ys : List Line) → kinds xs ≡ kinds ys → sizes xs ≡ sizes ys
all_sizes [] [] h = refl
all_sizes [] (y ∷ ys) h = absurd (let l = ap (λ (ks : List Need). length ks) h in omega arith)
all_sizes (x ∷ xs) [] h = absurd (let l = ap (λ (ks : List Need). length ks) h in omega arith)
all_sizes (x ∷ xs) (y ∷ ys) h =
    let head : need x.statement ≡ need y.statement = ap first h in
    let here : size x ≡ size y = ap (λ (k : Need). 4 * words_needed k) head in
    let rest = all_sizes xs ys (ap tail h) in
    omega arith
  where
    first : List Need → Need
    first [] = need x.statement
    first (k ∷ ks) = k

    tail : List Need → List Need
    tail [] = []
    tail (k ∷ ks) = ks

-- Addresses

pub length_addresses : (pc : ℕ) (lines : List Line) → length (addresses pc lines) ≡ length lines + 1
length_addresses pc [] = refl
length_addresses pc (line ∷ lines) = let h = length_addresses (pc + size line) lines in omega arith

pub address_at : (pc : ℕ) (lines : List Line) (n : ℕ) → n ≤ length lines → get_or (addresses pc lines) n 0 ≡ pc + sizes (take n lines)
address_at pc [] zero less = omega arith
address_at pc [] (suc n) less = absurd (omega arith)
address_at pc (line ∷ lines) zero less = omega arith
address_at pc (line ∷ lines) (suc n) less = let h = address_at (pc + size line) lines n (omega arith) in h ∙ omega arith

-- one more line
pub addresses_more : (pc : ℕ) (lines : List Line) (line : Line) → addresses pc (lines ++ line ∷ []) ≡ addresses pc lines ++ (pc + sizes (lines ++ line ∷ [])) ∷ []
addresses_more pc [] line = ap (λ (a : ℕ). pc ∷ a ∷ []) (omega arith)
addresses_more pc (x ∷ lines) line =
    ap (λ (as' : List ℕ). pc ∷ as') (addresses_more (pc + size x) lines line)
    ∙ ap (λ (a : ℕ). pc ∷ addresses (pc + size x) lines ++ a ∷ []) (omega arith)

-- Output for lists that are joined

pub along_append : {X Y : Type 0} (code_of : X → List Line) (inside : ℕ → X → List Y) (pc : ℕ) (xs ys : List X)
    → along sizes code_of inside pc (xs ++ ys) ≡ along sizes code_of inside pc xs ++ along sizes code_of inside (pc + sizes (flat_map code_of xs)) ys
along_append code_of inside pc [] ys = ap (λ (a : ℕ). along sizes code_of inside a ys) (omega arith)
along_append code_of inside pc (x ∷ xs) ys =
    ap (λ zs. inside pc x ++ zs) (along_append code_of inside (pc + sizes (code_of x)) xs ys)
    ∙ sym (append_assoc (inside pc x) (along sizes code_of inside (pc + sizes (code_of x)) xs) _)
    ∙ ap (λ (a : ℕ). (inside pc x ++ along sizes code_of inside (pc + sizes (code_of x)) xs) ++ along sizes code_of inside a ys)
    (let h = sizes_append (code_of x) (flat_map code_of xs) in omega arith)

module _ (p : List Class) where
  pub tells_both : (code more : List Line) (rows others : ℕ → List Row) (a b c : Told) → Tells p code rows a b → Tells p more others b c
      → Tells p (code ++ more) (λ pc. rows pc ++ others (pc + sizes code)) a c
  tells_both code more rows others a b c h k = record {
    address = (let l = sizes_append code more in let x = h.address in let y = k.address in omega arith);
    text =
        k.text
        ∙ ap₂ (λ (t : List ℕ) (rs : List Row). t ++ flat_map (row_line p) rs) h.text (ap others h.address)
        ∙ append_assoc a.text.items _ _
        ∙ ap (λ (t : List ℕ). a.text.items ++ t) (sym (flat_map-append (row_line p) (rows a.address) (others (a.address + sizes code))));
  }

  pub tells_same : (code other : List Line) (rows others : ℕ → List Row) (a b : Told) → code ≡ other → ((pc : ℕ) → rows pc ≡ others pc) → Tells p code rows a b → Tells p other others a b
  tells_same code other rows others a b e f h = record {
    address = h.address ∙ ap (λ (ls : List Line). a.address + sizes ls) e;
    text = h.text ∙ ap (λ (rs : List Row). a.text.items ++ flat_map (row_line p) rs) (f a.address);
  }

  -- code of which nothing is told
  pub tells_nothing : (code : List Line) (a b : Told) → b.address ≡ a.address + sizes code → b.text ≡ a.text → Tells p code (λ pc. []) a b
  tells_nothing code a b address text = record { address = address; text = ap (λ t. t.items) text ∙ sym (append-nil a.text.items) }

-- Features

module _ (e : Emission) (c : ClassId) (part : Part) (fs : List Feature) (n : ℕ) (x : Feature) where
  abbrev before : List Placed
  before = part_from part 0 fs

  abbrev whole : List Placed
  whole = part_from part 0 (fs ++ x ∷ [])

  -- one more of the part was told
  pub one_told : (a b d : Told) → belongs part x ≡ true → n ≡ length fs → TellsFeatures e c before a b → TellsFeatures e c (record { place = n; feature = x } ∷ []) b d → TellsFeatures e c whole a d
  one_told a b d here last h k =
      let p = e.program.now in
      let one : List Placed = record { place = n; feature = x } ∷ [] in
      let code = placed_code p (files_of e) (constants e) c in
      let more : whole ≡ before ++ one = part_more part 0 fs n x (omega arith) ∙ ap (λ (t : Bool). before ++ one_more t n x) here in
      tells_same p (flat_map code before ++ flat_map code one) (flat_map code whole)
      (λ pc. along sizes code (rows_of e c) pc before ++ along sizes code (rows_of e c) (pc + sizes (flat_map code before)) one) (λ pc. along sizes code (rows_of e c) pc whole) a d
      (sym (flat_map-append code before one) ∙ ap (flat_map code) (sym more))
      (λ pc. sym (along_append code (rows_of e c) pc before one) ∙ ap (along sizes code (rows_of e c) pc) (sym more))
      (tells_both p (flat_map code before) (flat_map code one) (λ pc. along sizes code (rows_of e c) pc before) (λ pc. along sizes code (rows_of e c) pc one) a b d h k)

  -- any other is passed over
  pub one_passed : (a b : Told) → belongs part x ≡ false → n ≡ length fs → TellsFeatures e c before a b → TellsFeatures e c whole a b
  one_passed a b here last h =
      let same : before ≡ whole = sym (part_more part 0 fs n x (omega arith) ∙ (ap (λ (t : Bool). before ++ one_more t n x) here ∙ append-nil before)) in
      subst (λ (ps : List Placed). TellsFeatures e c ps a b) same h
