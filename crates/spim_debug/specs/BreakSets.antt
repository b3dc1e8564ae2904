-- `in_set` says whether an address is a breakpoint, given a Boolean for each machine word of the text segment.
use Rattle.std.specs.Prelude.{ℕ, ◌^◌, Bool, ◌&&◌, nat_lt, List}
use Rattle.spim_cpu.specs.Advancing.{is_marked}

-- an address, which has 32 bits, of a word with a mark
abbrev pub in_set : List Bool → ℕ → Bool
in_set marks a = nat_lt a (2 ^ 32) && is_marked marks a
