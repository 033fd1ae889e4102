use Rattle.std.proofs.Common.{◌≡◌, length, vec_items}
use Rattle.numerals.specs.Hexadecimal.{bytes_of}
use Rattle.numerals.proofs.Decoded.{after}
use Rattle.numerals.proofs.hex.decode.Given as goal

abbrev pub invariant-loop-rest : goal.invariant-loop-rest
invariant-loop-rest l = after (vec_items l.bytes) (bytes_of l.rest) ≡ bytes_of l.digits

abbrev pub decreases-loop-rest : goal.decreases-loop-rest
decreases-loop-rest l = length l.rest
