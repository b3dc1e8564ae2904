-- If each marked address of a text is the beginning of an expression, each marked address in a part of the text is the beginning of an expression of this part.
use Rattle.std.proofs.Common.{◌≡◌, ℕ, zero, suc, ◌+◌, ◌%◌, ◌<◌, ◌≤◌, ◌⊎◌, inl, inr, List, [], ◌∷◌, ◌++◌, Bool as Truth, true, false, refl, subst, arith}
use Rattle.std.specs.Prelude.{Contains, flat_map}
use Rattle.std.proofs.lemmas.List.Elements.{Contains-append_cases}
use Rattle.mips_isa.specs.Lines.{Line}
use Rattle.cool_runtime.specs.Reaches.{World}
use Rattle.cool_runtime.specs.Standing.{HasLines, sizes}
use Rattle.cool_runtime.proofs.Pieces.{has_front, has_back, sizes_append}
use Rattle.cool_codegen.specs.Spans.{along}
use Rattle.cool_emit.specs.SpansOfPrograms.{SpanOf}
use Rattle.cool_simulation.specs.Quiet.{IsFree}

-- each mark from an address up to another one is where one of these spans begins
abbrev pub AreMarks : (ℕ → Truth) → ℕ → ℕ → List SpanOf → Type 0
AreMarks marked from to ys = (i : ℕ) → i % 4 ≡ 0 → from ≤ i → i < to → marked i ≡ true → (y : SpanOf) × Contains ys y × (y.span.from ≡ i)

-- these spans begin from an address up to another one
abbrev pub AreWithin : ℕ → ℕ → List SpanOf → Type 0
AreWithin from to ys = (y : SpanOf) → Contains ys y → (from ≤ y.span.from) × (y.span.from < to)

-- no mark, where no span begins
pub free_of : (marked : ℕ → Truth) (from to : ℕ) (ys : List SpanOf) → AreMarks marked from to ys → ((y : SpanOf) → Contains ys y → (y.span.from < from) ⊎ (to ≤ y.span.from)) → IsFree marked from to
free_of marked from to ys marks apart i even low high = by (marked i) refl
  where
    by : (t : Truth) → marked i ≡ t → marked i ≡ false
    by false e = e
    by true e = let (y, among, is) = marks i even low high e in absurd (never y (apart y among) is)
      where
        never : (y : SpanOf) → (y.span.from < from) ⊎ (to ≤ y.span.from) → y.span.from ≡ i → ⊥
        never y (inl less) is = absurd (omega arith)
        never y (inr more) is = absurd (omega arith)

-- the marks of a part of the addresses
pub marks_part : (marked : ℕ → Truth) (from to from' to' : ℕ) (ys : List SpanOf) → from ≤ from' → to' ≤ to → AreMarks marked from to ys → AreMarks marked from' to' ys
marks_part marked from to from' to' ys a b h i even low high mark = h i even (omega arith) (omega arith) mark

-- two parts: where the spans of the one begin below an address, and those of the other from it on

pub marks_front : (marked : ℕ → Truth) (from middle to : ℕ) (xs ys : List SpanOf) → middle ≤ to → AreMarks marked from to (xs ++ ys) → ((y : SpanOf) → Contains ys y → middle ≤ y.span.from) → AreMarks marked from middle xs
marks_front marked from middle to xs ys le h above i even low high mark =
    let (y, among, is) = h i even low (omega arith) mark in by y is (Contains-append_cases xs ys y among)
  where
    by : (y : SpanOf) → y.span.from ≡ i → Contains xs y ⊎ Contains ys y → (y : SpanOf) × Contains xs y × (y.span.from ≡ i)
    by y is (inl k) = (y, k, is)
    by y is (inr k) = let more = above y k in absurd (omega arith)

pub marks_back : (marked : ℕ → Truth) (from middle to : ℕ) (xs ys : List SpanOf) → from ≤ middle → AreMarks marked from to (xs ++ ys) → ((x : SpanOf) → Contains xs x → x.span.from < middle) → AreMarks marked middle to ys
marks_back marked from middle to xs ys le h below i even low high mark =
    let (y, among, is) = h i even (omega arith) high mark in by y is (Contains-append_cases xs ys y among)
  where
    by : (y : SpanOf) → y.span.from ≡ i → Contains xs y ⊎ Contains ys y → (y : SpanOf) × Contains ys y × (y.span.from ≡ i)
    by y is (inl k) = let less = below y k in absurd (omega arith)
    by y is (inr k) = (y, k, is)

module _ {X : Type 0} (code : X → List Line) (inside : ℕ → X → List SpanOf) where
  -- the spans of each part begin within its code
  abbrev pub EachWithin : List X → Type 0
  EachWithin xs = (x : X) → Contains xs x → (pc : ℕ) → AreWithin pc (pc + sizes (code x)) (inside pc x)

  abbrev pub later_within : (x : X) (xs : List X) → EachWithin (x ∷ xs) → EachWithin xs
  later_within x xs h = λ y k pc. let less = k.1 in h y (suc k.0, omega arith, k.2) pc

  pub along_within : (w : World) (xs : List X) (pc : ℕ) → EachWithin xs → AreWithin pc (pc + sizes (flat_map code xs)) (along sizes code inside pc xs)
  along_within w [] pc each y (k, less, e) = absurd (omega arith)
  along_within w (x ∷ xs) pc each y h =
      let total = sizes_append w (code x) (flat_map code xs) in
      by (Contains-append_cases (inside pc x) (along sizes code inside (pc + sizes (code x)) xs) y h) (each x (0, omega arith, refl) pc y) (along_within w xs (pc + sizes (code x)) (later_within x xs each) y)
    where
      by : Contains (inside pc x) y ⊎ Contains (along sizes code inside (pc + sizes (code x)) xs) y → (Contains (inside pc x) y → (pc ≤ y.span.from) × (y.span.from < pc + sizes (code x)))
          → (Contains (along sizes code inside (pc + sizes (code x)) xs) y → (pc + sizes (code x) ≤ y.span.from) × (y.span.from < pc + sizes (code x) + sizes (flat_map code xs)))
          → (pc ≤ y.span.from) × (y.span.from < pc + sizes (flat_map code (x ∷ xs)))
      by (inl k) f g = let r = f k in let total = sizes_append w (code x) (flat_map code xs) in (omega arith, omega arith)
      by (inr k) f g = let r = g k in let total = sizes_append w (code x) (flat_map code xs) in (omega arith, omega arith)

  -- one of the parts, with the marks in it
  pub part_marks : (w : World) (marked : ℕ → Truth) (xs : List X) (x : X) (pc : ℕ) → HasLines w pc (flat_map code xs) → EachWithin xs → AreMarks marked pc (pc + sizes (flat_map code xs)) (along sizes code inside pc xs) → Contains xs x
      → (pc' : ℕ) × HasLines w pc' (code x) × AreMarks marked pc' (pc' + sizes (code x)) (inside pc' x)
  part_marks w marked [] x pc has each marks (k, less, is) = absurd (omega arith)
  part_marks w marked (z ∷ xs) x pc has each marks (zero, less, is) =
      let total = sizes_append w (code z) (flat_map code xs) in
      let middle = pc + sizes (code z) in
      let rest = along sizes code inside middle xs in
      let later = along_within w xs middle (later_within z xs each) in
      subst (λ (u : X). (pc' : ℕ) × HasLines w pc' (code u) × AreMarks marked pc' (pc' + sizes (code u)) (inside pc' u)) is
      (pc, has_front w (code z) (flat_map code xs) pc has, marks_front marked pc middle (pc + sizes (flat_map code (z ∷ xs))) (inside pc z) rest (omega arith) marks (λ y k. (later y k).0))
  part_marks w marked (z ∷ xs) x pc has each marks (suc k, less, is) =
      let total = sizes_append w (code z) (flat_map code xs) in
      let middle = pc + sizes (code z) in
      let rest = along sizes code inside middle xs in
      let first = each z (0, omega arith, refl) pc in
      part_marks w marked xs x middle (has_back w (code z) (flat_map code xs) pc middle refl has) (later_within z xs each)
      (marks_part marked middle (pc + sizes (flat_map code (z ∷ xs))) middle (middle + sizes (flat_map code xs)) rest (omega arith) (omega arith)
      (marks_back marked pc middle (pc + sizes (flat_map code (z ∷ xs))) (inside pc z) rest (omega arith) marks (λ y k. (first y k).1))) (k, omega arith, is)
