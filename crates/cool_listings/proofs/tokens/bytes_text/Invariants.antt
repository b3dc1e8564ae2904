-- In the loop of `bytes_text`, the text so far, followed by that of the bytes that are left, is the text of all bytes.
use Rattle.std.proofs.Common.{◌≡◌, ◌++◌, drop, flat_map}
use Rattle.cool_listings.specs.TokenLines.{byte_text}
use Rattle.cool_listings.proofs.tokens.bytes_text.Given as goal

abbrev pub invariant-loop-byte : goal.invariant-loop-byte
invariant-loop-byte l = l.text.items ++ flat_map byte_text (drop l.byte-index l.bytes) ≡ flat_map byte_text l.bytes
