-- How many temporaries the parts of an expression need. Assumes nothing.
use Rattle.std.proofs.Common.{ℕ, ◌≤◌, ap, inl, inr, arith}
use Rattle.tosca.specs.Trees.{Expr, const, var, uny, bin}
use Rattle.draft.specs.Subtrees.{InExpr}
use Rattle.statics.specs.Temporaries.{need}

pub need_part : (e s : Expr ℕ) → InExpr s e → need s ≤ need e
unfolding need
need_part (const n v) s q = omega (arith, ap need q)
need_part (var n x) s q = omega (arith, ap need q)
need_part (uny n o e) s (inl q) = omega (arith, ap need q)
need_part (uny n o e) s (inr i) = need_part e s i
need_part (bin n a o b) s (inl q) = omega (arith, ap need q)
need_part (bin n a o b) s (inr (inl i)) = omega (arith, need_part a s i)
need_part (bin n a o b) s (inr (inr i)) = omega (arith, need_part b s i)
