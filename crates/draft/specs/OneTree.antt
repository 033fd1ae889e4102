-- A table and the tree that it lists: each node of the tree is the entry of its number, and each entry stands in the tree.
use Rattle.std.specs.Prelude.{◌≡◌, ℕ, suc, ◌<◌, List, length, Some, Option, slice_index_or}
use Rattle.tosca.specs.declared.table.Entry.{Entry}
use Rattle.tosca.specs.declared.table.Node.{Node}
use Rattle.tosca.specs.declared.table.Node.TheVariants.{Const, Var, Uny, Bin, Skip, Assign, Seq, Choice, Loop, Input, Output, Program}
use Rattle.tosca.specs.Table.{blank, node}
use Rattle.tosca.specs.Trees.{Expr, const, var, uny, bin, Cmd, skip, assign, seq, choice, loop, input, output}
use Rattle.tosca.specs.Trees as tree
use Rattle.tosca.specs.Decode.{decls_from}
use Rattle.tosca.specs.Opens.{sort, is_expr, is_cmd}
use Rattle.draft.specs.Subtrees.{expr_label, cmd_label, ExprIn, CmdIn}

module _ (t : List Entry) where
  -- what the entry of a number says
  abbrev pub at : ℕ → Option Node
  at n = node (slice_index_or t n blank)

  abbrev pub ListsExpr : Expr ℕ → Type 0
  ListsExpr (const n v) = at n ≡ Some (Const v)
  ListsExpr (var n x) = at n ≡ Some (Var x)
  ListsExpr (uny n o e) = (at n ≡ Some (Uny o (expr_label e))) × ListsExpr e
  ListsExpr (bin n a o b) = (at n ≡ Some (Bin (expr_label a) o (expr_label b))) × ListsExpr a × ListsExpr b

  abbrev pub ListsCmd : Cmd ℕ → Type 0
  ListsCmd (skip n) = at n ≡ Some Skip
  ListsCmd (assign n x e) = (at n ≡ Some (Assign x (expr_label e))) × ListsExpr e
  ListsCmd (seq n a b) = (at n ≡ Some (Seq (cmd_label a) (cmd_label b))) × ListsCmd a × ListsCmd b
  ListsCmd (choice n e a b) = (at n ≡ Some (Choice (expr_label e) (cmd_label a) (cmd_label b))) × ListsExpr e × ListsCmd a × ListsCmd b
  ListsCmd (loop n e b) = (at n ≡ Some (Loop (expr_label e) (cmd_label b))) × ListsExpr e × ListsCmd b
  ListsCmd (input n x) = at n ≡ Some (Input x)
  ListsCmd (output n e) = (at n ≡ Some (Output (expr_label e))) × ListsExpr e

  pub record Lists (p : tree.Program ℕ) : Type 0 where
    pub last : suc p.label ≡ length t
    pub program : at p.label ≡ Some (Program (cmd_label p.body))
    pub decls : p.decls ≡ decls_from 0 t
    pub body : ListsCmd p.body
    pub exprs : (n : ℕ) → n < length t → sort (at n) ≡ is_expr → (e : Expr ℕ) × (expr_label e ≡ n) × ExprIn e p.body
    pub cmds : (n : ℕ) → n < length t → sort (at n) ≡ is_cmd → (c : Cmd ℕ) × (cmd_label c ≡ n) × CmdIn c p.body

-- the table lists the tree, and no other
abbrev pub OneTree : List Entry → tree.Program ℕ → Type 0
OneTree t p = Lists t p × ((q : tree.Program ℕ) → Lists t q → q ≡ p)
