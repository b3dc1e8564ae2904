-- The system call that prints a String prints the bytes of the String in memory, up to its terminating zero byte.
use Rattle.std.proofs.Common.{◌≡◌, ℕ, zero, suc, ◌+◌, ◌-◌, ◌*◌, ◌<◌, ◌≤◌, ◌⊎◌, inl, inr, List, [], ◌∷◌, length, get_or, refl, sym, ap, ◌∙◌, arith, true, false, Some}
use Rattle.std.specs.Prelude.{◌==◌, option_map}
use Rattle.mips_isa.specs.declared.address_map.TheConstants.{TEXT_START, DATA_START, HEAP_START}
use Rattle.mips_isa.specs.Bytes.{Bytes, Segments, lies}
use Rattle.mips_isa.specs.Calls.{up_to_zero, string_at, string_in, segment_end}
use Rattle.cool_runtime.specs.Reaches.{World, AreLaid}
use Rattle.cool_runtime.specs.Contents.{StringAt, TextAt, IsText, words_of_bytes}

pub up_to : (m : Bytes) (a : ℕ) (bytes : List ℕ) (n : ℕ) → ((i : ℕ) → i < length bytes → m (a + i) ≡ get_or bytes i 0) → m (a + length bytes) ≡ 0 → IsText bytes
    → length bytes < n → up_to_zero m a n ≡ Some bytes
up_to m a bytes zero holds zeroed text room = absurd (omega arith)
up_to m a [] (suc n) holds zeroed text room =
    let here : (m a == 0) ≡ true = (let at : a + 0 ≡ a = omega arith in let z : m a ≡ 0 = ap m (sym at) ∙ zeroed in grind arith) in
    rw here refl
up_to m a (b ∷ rest) (suc n) holds zeroed text room =
    let at : a + 0 ≡ a = omega arith in
    let is : m a ≡ b = ap m (sym at) ∙ holds 0 (omega arith) in
    let here : (m a == 0) ≡ false = grind (arith, text.0.0, is) in
    let more : up_to_zero m (a + 1) n ≡ Some rest = up_to m (a + 1) rest n
    (λ i h. let on : a + 1 + i ≡ a + suc i = omega arith in ap m on ∙ holds (suc i) (omega arith))
    (let on : a + 1 + length rest ≡ a + suc (length rest) = omega arith in ap m on ∙ zeroed) text.1 (omega arith) in
    rw here (ap (option_map (λ xs. m a ∷ xs)) more ∙ ap (λ x. Some (x ∷ rest)) is)

-- the end of the segment of a place
in_data : (b : Segments) (a : ℕ) → AreLaid b → 268435456 ≤ a → a < b.data_end → segment_end b a ≡ Some b.data_end
in_data b a laid from to =
    let text : lies TEXT_START b.text_end a 1 ≡ false = grind (arith, laid.text) in
    let data' : lies DATA_START b.data_end a 1 ≡ true = grind arith in
    rw (text, data') refl

in_heap : (b : Segments) (a : ℕ) → AreLaid b → 536870912 ≤ a → a < b.heap_end → segment_end b a ≡ Some b.heap_end
in_heap b a laid from to =
    let text : lies TEXT_START b.text_end a 1 ≡ false = grind (arith, laid.text) in
    let data' : lies DATA_START b.data_end a 1 ≡ false = grind (arith, laid.data_to) in
    let heap : lies HEAP_START b.heap_end a 1 ≡ true = grind arith in
    rw (text, data', heap) refl

module _ (w : World) where
  pub text_printable : (m : Bytes) (a : ℕ) (bytes : List ℕ) → TextAt w m a bytes → string_at w.segments m a ≡ Some bytes
  text_printable m a bytes at =
      ap (string_in m a) (in_data w.segments a w.laid at.from (omega (arith, at.to))) ∙ up_to m a bytes (w.segments.data_end - a) at.holds at.ends at.text (omega (arith, at.to))

  pub printable : (m : Bytes) (gp a : ℕ) (bytes : List ℕ) → gp ≤ w.segments.heap_end → StringAt w m gp a bytes → string_at w.segments m (a + 16) ≡ Some bytes
  printable m gp a bytes below at = by (nat_le_or a)
    where
      laid : AreLaid w.segments
      laid = w.laid

      whole : length bytes < 4 * words_of_bytes (length bytes)
      whole = omega arith

      up : (end : ℕ) → a + 16 + length bytes < end → up_to_zero m (a + 16) (end - (a + 16)) ≡ Some bytes
      up end room = up_to m (a + 16) bytes (end - (a + 16)) (λ i h. at.holds i (omega (arith, whole)))
          (at.holds (length bytes) whole ∙ past bytes) at.text (omega arith)
        where
          past : (xs : List ℕ) → get_or xs (length xs) 0 ≡ 0
          past [] = refl
          past (x ∷ xs) = past xs

      nat_le_or : (a : ℕ) → (a < 536870912) ⊎ (536870912 ≤ a)
      nat_le_or a = grind arith

      by : (a < 536870912) ⊎ (536870912 ≤ a) → string_at w.segments m (a + 16) ≡ Some bytes
      by (inl low) =
          let end = at.lies.in_data low in
          ap (string_in m (a + 16)) (in_data w.segments (a + 16) laid (omega (arith, at.lies.from)) (omega (arith, end))) ∙ up w.segments.data_end (omega (arith, end))
      by (inr high) =
          let from = at.lies.in_heap high in
          ap (string_in m (a + 16)) (in_heap w.segments (a + 16) laid (omega arith) (omega (arith, at.lies.to))) ∙ up w.segments.heap_end (omega (arith, at.lies.to))
