-- Trees of routines. Each node carries a label: its place in the text, or its number in the node table.
use Rattle.std.specs.Prelude.{ℕ, List}
use Rattle.tosca.specs.declared.operators.SimpleType.{SimpleType}
use Rattle.tosca.specs.declared.operators.Value.{Value}
use Rattle.tosca.specs.declared.operators.Unary.{Unary}
use Rattle.tosca.specs.declared.operators.Binary.{Binary}

-- expressions; variables are name numbers
pub data Expr (L : Type 0) : Type 0 where
  const : L → Value → Expr L
  var : L → ℕ → Expr L
  uny : L → Unary → Expr L → Expr L
  bin : L → Expr L → Binary → Expr L → Expr L

-- commands; a choice without `else` has a skip there
pub data Cmd (L : Type 0) : Type 0 where
  skip : L → Cmd L
  assign : L → ℕ → Expr L → Cmd L
  seq : L → Cmd L → Cmd L → Cmd L
  choice : L → Expr L → Cmd L → Cmd L → Cmd L
  loop : L → Expr L → Cmd L → Cmd L
  input : L → ℕ → Cmd L
  output : L → Expr L → Cmd L

pub record Decl (L : Type 0) : Type 0 where
  pub label : L
  pub name : ℕ
  pub type : SimpleType

-- a routine: its declarations in the order of the text, and its command
pub record Program (L : Type 0) : Type 0 where
  pub label : L
  pub decls : List (Decl L)
  pub body : Cmd L
