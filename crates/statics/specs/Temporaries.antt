-- How many temporaries an expression needs: the right operand is worked out first and kept in one while the left is.
use Rattle.std.specs.Prelude.{ℕ, suc, max}
use Rattle.tosca.specs.Trees.{Expr, const, var, uny, bin}

unfoldable pub need : Expr ℕ → ℕ
need (const n v) = 0
need (var n x) = 0
need (uny n o e) = need e
need (bin n a o b) = max (need b) (suc (need a))
