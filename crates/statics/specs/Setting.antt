-- Which variables are set, whatever way a routine goes.
use Rattle.std.specs.Prelude.{ℕ, Bool, false, not, ◌&&◌, ◌||◌, List, [], ◌++◌, ◌==◌}
use Rattle.tosca.specs.Trees.{Expr, const, var, uny, bin, Cmd, skip, assign, seq, choice, loop, input, output}
use Rattle.statics.specs.Choosing.{chosen_in}

-- a set of variables
abbrev pub Vars : Type 0
Vars = ℕ → Bool

abbrev pub no_vars : Vars
no_vars x = false

abbrev pub with : ℕ → Vars → Vars
with x s = λ y. (x == y) || s y

abbrev pub in_both : Vars → Vars → Vars
in_both s t = λ y. s y && t y

-- what is set after a command that begins with s: a choice leaves what both branches set, a loop what was set before it
unfoldable pub after : Cmd ℕ → Vars → Vars
after (skip n) s = s
after (assign n x e) s = with x s
after (seq n a b) s = after b (after a s)
after (choice n e a b) s = in_both (after a s) (after b s)
after (loop n e b) s = s
after (input n x) s = with x s
after (output n e) s = s

abbrev pub is_unset : Vars → Expr ℕ → Bool
is_unset s (const n v) = false
is_unset s (var n x) = not (s x)
is_unset s (uny n o e) = false
is_unset s (bin n a o b) = false

-- the var nodes of an expression that stand outside the set
abbrev pub unset_in : Vars → Expr ℕ → List ℕ
unset_in s e = chosen_in (is_unset s) e

-- the var nodes at fault in a command that begins with s
unfoldable pub unset : Vars → Cmd ℕ → List ℕ
unset s (skip n) = []
unset s (assign n x e) = unset_in s e
unset s (seq n a b) = unset s a ++ unset (after a s) b
unset s (choice n e a b) = unset_in s e ++ (unset s a ++ unset s b)
unset s (loop n e b) = unset_in s e ++ unset s b
unset s (input n x) = []
unset s (output n e) = unset_in s e
