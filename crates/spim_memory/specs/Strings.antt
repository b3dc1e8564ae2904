-- Strings in memory, as SPIM's system call print_string takes them: the bytes from an address on (`bytes_from`), and those that may be loaded (`MayLoad`).
use Rattle.std.specs.Prelude.{◌≡◌, refl, ℕ, zero, suc, ◌+◌, ◌%◌, ◌<◌, true, if◌then◌else◌, Option, Some, None, List, [], ◌∷◌}
use Rattle.mips_isa.specs.declared.address_map.TheConstants.{DATA_START, HEAP_START, STACK_END}
use Rattle.mips_isa.specs.Bytes.{Bytes, Segments, lies, readable}

-- so many bytes from an address on
abbrev pub bytes_from : Bytes → ℕ → ℕ → List ℕ
bytes_from m a zero = []
bytes_from m a (suc n) = m a ∷ bytes_from m (a + 1) n

-- each of so many bytes from an address on may be loaded
abbrev pub MayLoad : Segments → ℕ → ℕ → Type 0
MayLoad s a n = (k : ℕ) → k < n → readable s (a + k) 1 ≡ true

-- the end of the segment of data, heap or stack in which an address lies
abbrev pub storable_end : Segments → ℕ → Option ℕ
storable_end s a =
    if lies DATA_START s.data_end a 1 then Some s.data_end
    else (if lies HEAP_START s.heap_end a 1 then Some s.heap_end
    else (if lies s.stack_low STACK_END a 1 then Some STACK_END else None))

-- Worked examples, where each byte is the last digit of its address.
three_bytes : bytes_from (λ a. a % 10) 1028 3 ≡ 8 ∷ 9 ∷ 0 ∷ []
three_bytes = refl

no_bytes : bytes_from (λ a. a % 10) 1028 0 ≡ []
no_bytes = refl
