-- Readings of an expression: an answer for each kind of node, from the answers of its operands.
use Rattle.std.specs.Prelude.{ℕ}
use Rattle.tosca.specs.declared.operators.Value.{Value}
use Rattle.tosca.specs.declared.operators.Unary.{Unary}
use Rattle.tosca.specs.declared.operators.Binary.{Binary}
use Rattle.tosca.specs.Trees.{Expr, const, var, uny, bin}

pub record Algebra (A : Type 0) : Type 0 where
  pub constant : Value → A
  pub variable : ℕ → A
  pub unary : Unary → A → A
  pub binary : Binary → A → A → A

-- what a reading comes to at an expression
unfoldable pub fold : {A : Type 0} → Algebra A → Expr ℕ → A
fold g (const n v) = g.constant v
fold g (var n x) = g.variable x
fold g (uny n o e) = g.unary o (fold g e)
fold g (bin n a o b) = g.binary o (fold g a) (fold g b)
