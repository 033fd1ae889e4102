-- How often each node is a part, as the program counts it: a byte stops at 255.
use Rattle.std.specs.Prelude.{◌≡◌, ℕ, ◌<◌, ◌==◌, Bool, true, min, List, length, slice_index}
use Rattle.tosca.specs.Opens.{Sort, is_decl, is_expr, is_cmd, is_program, is_none}

-- the byte at k is the number of uses of k, or 255 where there are more
abbrev pub Counts : List ℕ → (ℕ → ℕ) → Type 0
Counts bytes uses = (k : ℕ) → k < length bytes → slice_index bytes k ≡ min (uses k) 255

-- by the number of a node's uses: an expression or a command has just one
abbrev pub used_once : ℕ → Sort → Bool
used_once n is_expr = n == 1
used_once n is_cmd = n == 1
used_once n is_decl = true
used_once n is_program = true
used_once n is_none = true
