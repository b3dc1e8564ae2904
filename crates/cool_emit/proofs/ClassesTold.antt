-- The debug information of an initializer, of a class, or of the classes so far is that of their features, joined in order.
use Rattle.std.proofs.Common.{◌≡◌, ◌∙◌, ℕ, ◌+◌, List, [], ◌∷◌, ◌++◌, flat_map, Bool, true, false, sym, ap, ap₂, append_assoc, append-nil, arith}
use Rattle.std.specs.Prelude.{nat_lt, if◌then◌else◌}
use Rattle.std.proofs.lemmas.Grind.{flat_map-append}
use Rattle.mips_isa.specs.Lines.{Line}
use Rattle.cool_classes.specs.declared.class_id.ClassId.{ClassId}
use Rattle.cool_classes.specs.Chains.{Class, class_number, parent_of}
use Rattle.cool_runtime.specs.CodeOfCalls.{enter_lines}
use Rattle.cool_runtime.specs.Standing.{sizes}
use Rattle.cool_layout.specs.Labels.{initializer}
use Rattle.cool_layout.specs.Preorder.{numbers_from}
use Rattle.cool_codegen.specs.Pieces.{begin_init_lines, return_basic_lines}
use Rattle.cool_codegen.specs.Spans.{along}
use Rattle.cool_emit.specs.Additions.{files_of}
use Rattle.cool_emit.specs.CodeTables.{Row}
use Rattle.cool_emit.specs.Programs.{attributes_in, begin_code, class_code, end_code, initializer_code, methods_in, parent_code, placed_code}
use Rattle.cool_emit.specs.SpansOfPrograms.{told_in_class, told_in_initializer}
use Rattle.cool_emit.specs.TableLines.{row_line}
use Rattle.cool_emit.specs.Tellings.{TellsClass, TellsFeatures, TellsInitializer, constants, rows_of}
use Rattle.cool_emit.specs.declared.code_table.Told.{Told}
use Rattle.cool_emit.specs.declared.emission.Emission.{Emission}
use Rattle.cool_emit.proofs.PartsAreLight.{numbers_parts}
use Rattle.cool_emit.proofs.TellingParts.{along_append, sizes_append, tells_both, tells_nothing, tells_same}

module _ (e : Emission) (c : ClassId) where
  abbrev p : List Class
  p = e.program.now

  abbrev own : List Line
  own = flat_map (placed_code p (files_of e) (constants e) c) (attributes_in p c)

  abbrev told : ℕ → List Row
  told pc = along sizes (placed_code p (files_of e) (constants e) c) (rows_of e c) pc (attributes_in p c)

  abbrev full : List Line
  full = begin_init_lines (initializer p c) ++ (enter_lines ++ (parent_code p (parent_of p c) ++ (own ++ end_code)))

  abbrev place : ℕ → ℕ
  place pc = pc + sizes (begin_init_lines (initializer p c)) + sizes enter_lines + sizes (parent_code p (parent_of p c))

  -- a basic class has no rows
  pub basic_told : (a b : Told) → nat_lt c.0 5 ≡ true → b.address ≡ a.address + sizes (return_basic_lines (initializer p c)) → b.text ≡ a.text → TellsInitializer e c a b
  basic_told a b basic address text =
      tells_same p (return_basic_lines (initializer p c)) (initializer_code p (files_of e) (constants e) c) (λ pc. []) (λ pc. told_in_initializer sizes p (files_of e) (constants e) (rows_of e) pc c) a b
      (sym (ap (λ (t : Bool). if t then return_basic_lines (initializer p c) else full) basic))
      (λ pc. sym (ap (λ (t : Bool). if t then [] else told (place pc)) basic))
      (tells_nothing p (return_basic_lines (initializer p c)) a b address text)

  -- another class has those of its attributes
  pub full_told : (a b d f : Told) → nat_lt c.0 5 ≡ false → b.address ≡ a.address + sizes (begin_code p c) → b.text ≡ a.text → TellsFeatures e c (attributes_in p c) b d
      → f.address ≡ d.address + sizes end_code → f.text ≡ d.text → TellsInitializer e c a f
  full_told a b d f other address text h end_address end_text =
      let rest = own ++ end_code in
      tells_same p (begin_code p c ++ rest) (initializer_code p (files_of e) (constants e) c) (λ pc. [] ++ (told (pc + sizes (begin_code p c)) ++ [])) (λ pc. told_in_initializer sizes p (files_of e) (constants e) (rows_of e) pc c) a f
      (append_assoc (begin_init_lines (initializer p c)) (enter_lines ++ parent_code p (parent_of p c)) rest
      ∙ ap (λ (ls : List Line). begin_init_lines (initializer p c) ++ ls) (append_assoc enter_lines (parent_code p (parent_of p c)) rest)
      ∙ sym (ap (λ (t : Bool). if t then return_basic_lines (initializer p c) else full) other))
      (λ pc. append-nil (told (pc + sizes (begin_code p c)))
      ∙ ap told (let l = sizes_append (begin_init_lines (initializer p c)) (enter_lines ++ parent_code p (parent_of p c)) in let m = sizes_append enter_lines (parent_code p (parent_of p c)) in omega arith)
      ∙ sym (ap (λ (t : Bool). if t then [] else told (place pc)) other))
      (tells_both p (begin_code p c) rest (λ pc. []) (λ pc. told pc ++ []) a b f (tells_nothing p (begin_code p c) a b address text)
      (tells_both p own end_code told (λ pc. []) b d f h (tells_nothing p end_code d f end_address end_text)))

  pub class_told : (a b d : Told) → TellsInitializer e c a b → TellsFeatures e c (methods_in p c) b d → TellsClass e c a d
  class_told a b d h k =
      tells_both p (initializer_code p (files_of e) (constants e) c) (flat_map (placed_code p (files_of e) (constants e) c) (methods_in p c))
      (λ pc. told_in_initializer sizes p (files_of e) (constants e) (rows_of e) pc c) (λ pc. along sizes (placed_code p (files_of e) (constants e) c) (rows_of e c) pc (methods_in p c)) a b d h k

module _ (e : Emission) (n : ℕ) where
  abbrev code : ClassId → List Line
  code = class_code e.program.now (files_of e) (constants e)

  abbrev inside : ℕ → ClassId → List Row
  inside = told_in_class sizes e.program.now (files_of e) (constants e) (rows_of e)

  next : numbers_from 0 (n + 1) ≡ numbers_from 0 n ++ class_number n ∷ []
  next = numbers_parts 0 n 1 (n + 1) n (omega arith) (omega arith)

  -- one more class
  pub address_more : (pc : ℕ) (a b : Told) → a.address ≡ pc + sizes (flat_map code (numbers_from 0 n)) → TellsClass e (class_number n) a b → b.address ≡ pc + sizes (flat_map code (numbers_from 0 (n + 1)))
  address_more pc a b is h =
      let all = ap sizes (ap (flat_map code) next ∙ flat_map-append code (numbers_from 0 n) (class_number n ∷ []) ∙ ap (λ (ls : List Line). flat_map code (numbers_from 0 n) ++ ls) (append-nil (code (class_number n)))) in
      let l = sizes_append (flat_map code (numbers_from 0 n)) (code (class_number n)) in
      let k = h.address in
      omega arith

  pub text_more : (pc : ℕ) (before : List Row) (a b : Told) → a.address ≡ pc + sizes (flat_map code (numbers_from 0 n))
      → a.text.items ≡ flat_map (row_line e.program.now) (before ++ along sizes code inside pc (numbers_from 0 n)) → TellsClass e (class_number n) a b
      → b.text.items ≡ flat_map (row_line e.program.now) (before ++ along sizes code inside pc (numbers_from 0 (n + 1)))
  text_more pc before a b at is h =
      let rows = along sizes code inside pc (numbers_from 0 n) in
      let own = inside (pc + sizes (flat_map code (numbers_from 0 n))) (class_number n) in
      let all : along sizes code inside pc (numbers_from 0 (n + 1)) ≡ rows ++ own =
      ap (along sizes code inside pc) next ∙ along_append code inside pc (numbers_from 0 n) (class_number n ∷ []) ∙ ap (λ (rs : List Row). rows ++ rs) (append-nil own) in
      h.text
      ∙ ap₂ (λ (t : List ℕ) (a : ℕ). t ++ flat_map (row_line e.program.now) (inside a (class_number n))) is at
      ∙ sym (flat_map-append (row_line e.program.now) (before ++ rows) own)
      ∙ ap (flat_map (row_line e.program.now)) (append_assoc before rows own ∙ ap (λ (rs : List Row). before ++ rs) (sym all))
