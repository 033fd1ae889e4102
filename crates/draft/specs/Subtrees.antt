-- What stands in a tree.
use Rattle.std.specs.Prelude.{◌≡◌, ℕ, ◌⊎◌}
use Rattle.tosca.specs.Trees.{Expr, const, var, uny, bin, Cmd, skip, assign, seq, choice, loop, input, output}

abbrev pub expr_label : {L : Type 0} → Expr L → L
expr_label (const n v) = n
expr_label (var n x) = n
expr_label (uny n o e) = n
expr_label (bin n a o b) = n

abbrev pub cmd_label : {L : Type 0} → Cmd L → L
cmd_label (skip n) = n
cmd_label (assign n x e) = n
cmd_label (seq n a b) = n
cmd_label (choice n e a b) = n
cmd_label (loop n e b) = n
cmd_label (input n x) = n
cmd_label (output n e) = n

-- s is the expression or stands in it
abbrev pub InExpr : Expr ℕ → Expr ℕ → Type 0
InExpr s (const n v) = s ≡ const n v
InExpr s (var n x) = s ≡ var n x
InExpr s (uny n o e) = (s ≡ uny n o e) ⊎ InExpr s e
InExpr s (bin n a o b) = (s ≡ bin n a o b) ⊎ (InExpr s a ⊎ InExpr s b)

-- the expression s stands in the command
abbrev pub ExprIn : Expr ℕ → Cmd ℕ → Type 0
ExprIn s (skip n) = ⊥
ExprIn s (assign n x e) = InExpr s e
ExprIn s (seq n a b) = ExprIn s a ⊎ ExprIn s b
ExprIn s (choice n e a b) = InExpr s e ⊎ (ExprIn s a ⊎ ExprIn s b)
ExprIn s (loop n e b) = InExpr s e ⊎ ExprIn s b
ExprIn s (input n x) = ⊥
ExprIn s (output n e) = InExpr s e

-- s is the command or stands in it
abbrev pub CmdIn : Cmd ℕ → Cmd ℕ → Type 0
CmdIn s (skip n) = s ≡ skip n
CmdIn s (assign n x e) = s ≡ assign n x e
CmdIn s (seq n a b) = (s ≡ seq n a b) ⊎ (CmdIn s a ⊎ CmdIn s b)
CmdIn s (choice n e a b) = (s ≡ choice n e a b) ⊎ (CmdIn s a ⊎ CmdIn s b)
CmdIn s (loop n e b) = (s ≡ loop n e b) ⊎ CmdIn s b
CmdIn s (input n x) = s ≡ input n x
CmdIn s (output n e) = s ≡ output n e
