-- What is done, part by part, to build something of a tree: each part before the whole, left first.
use Rattle.std.specs.Prelude.{ℕ, List, [], ◌∷◌}
use Rattle.tosca.specs.declared.operators.SimpleType.{SimpleType}
use Rattle.tosca.specs.declared.operators.Value.{Value}
use Rattle.tosca.specs.declared.operators.Unary.{Unary}
use Rattle.tosca.specs.declared.operators.Binary.{Binary}
use Rattle.tosca.specs.Trees.{Expr, const, var, uny, bin, Cmd, skip, assign, seq, choice, loop, input, output, Decl, Program}
use Rattle.grammar.specs.declared.symbols.Multiplying.{Multiplying}
use Rattle.grammar.specs.declared.symbols.Multiplying.TheVariants as mul
use Rattle.grammar.specs.declared.symbols.Adding.{Adding}
use Rattle.grammar.specs.declared.symbols.Adding.TheVariants as add
use Rattle.grammar.specs.declared.symbols.Relation.{Relation}
use Rattle.grammar.specs.declared.symbols.Relation.TheVariants as rel
use Rattle.tosca.specs.declared.operators.Binary.TheVariants as binary

-- the operator that a symbol stands for
abbrev pub mul_op : Multiplying → Binary
mul_op mul.Times = binary.Multiply
mul_op mul.Div = binary.Divide
mul_op mul.And = binary.And

abbrev pub add_op : Adding → Binary
add_op add.Plus = binary.Add
add_op add.Minus = binary.Subtract
add_op add.Or = binary.Or

abbrev pub rel_op : Relation → Binary
rel_op rel.Equal = binary.Equal
rel_op rel.Less = binary.Less
rel_op rel.Greater = binary.Greater

-- a declared name, with its place
pub record Named : Type 0 where
  pub name : ℕ
  pub place : ℕ

abbrev pub decl_of : SimpleType → Named → Decl ℕ
decl_of y n = record { label = n.place; name = n.name; type = y }

-- the declarations of names of one type
abbrev pub typed : SimpleType → List Named → List (Decl ℕ)
typed y [] = []
typed y (n ∷ ns) = decl_of y n ∷ typed y ns

-- one thing done, with the place of its node
pub data Act : Type 0 where
  a_const : ℕ → Value → Act
  a_var : ℕ → ℕ → Act
  a_uny : ℕ → Unary → Act
  a_bin : ℕ → Binary → Act
  a_skip : ℕ → Act
  a_assign : ℕ → ℕ → Act
  a_seq : ℕ → Act
  a_choice : ℕ → Act
  a_loop : ℕ → Act
  a_input : ℕ → ℕ → Act
  a_output : ℕ → Act
  a_decl : Decl ℕ → Act
  a_program : ℕ → Act

module _ {S : Type 0} (act : Act → S → S) where
  abbrev pub declares : List (Decl ℕ) → S → S
  declares [] s = s
  declares (d ∷ ds) s = declares ds (act (a_decl d) s)

  abbrev pub build_e : Expr ℕ → S → S
  build_e (const p v) s = act (a_const p v) s
  build_e (var p n) s = act (a_var p n) s
  build_e (uny p u a) s = act (a_uny p u) (build_e a s)
  build_e (bin p a o b) s = act (a_bin p o) (build_e b (build_e a s))

  abbrev pub build_c : Cmd ℕ → S → S
  build_c (skip p) s = act (a_skip p) s
  build_c (assign p n a) s = act (a_assign p n) (build_e a s)
  build_c (seq p a b) s = act (a_seq p) (build_c b (build_c a s))
  build_c (choice p a b d) s = act (a_choice p) (build_c d (build_c b (build_e a s)))
  build_c (loop p a b) s = act (a_loop p) (build_c b (build_e a s))
  build_c (input p n) s = act (a_input p n) s
  build_c (output p a) s = act (a_output p) (build_e a s)

  abbrev pub builds : Program ℕ → S → S
  builds t s = act (a_program t.label) (build_c t.body (declares t.decls s))
