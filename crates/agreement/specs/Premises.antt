-- What a routine that may be translated satisfies: declarations, types, the variables set before each is read, names and temporaries.
use Rattle.std.specs.Prelude.{◌≡◌, ℕ, ◌<◌, ◌≤◌, true}
use Rattle.tosca.specs.Trees.{Expr, const, var, uny, bin, Cmd, skip, assign, seq, choice, loop, input, output, Program}
use Rattle.statics.specs.Typing.{WellTyped}
use Rattle.statics.specs.Setting.{Vars, no_vars, after}
use Rattle.statics.specs.Temporaries.{need}
use Rattle.statics.specs.StaticLaws.{Declares, Names}

-- every variable of the expression is set
abbrev pub ExprSet : Vars → Expr ℕ → Type 0
ExprSet s (const n v) = Unit {0}
ExprSet s (var n x) = s x ≡ true
ExprSet s (uny n o e) = ExprSet s e
ExprSet s (bin n a o b) = ExprSet s a × ExprSet s b

-- every variable that the command reads is set, where it begins with s
abbrev pub CmdSet : Vars → Cmd ℕ → Type 0
CmdSet s (skip n) = Unit {0}
CmdSet s (assign n x e) = ExprSet s e
CmdSet s (seq n a b) = CmdSet s a × CmdSet (after a s) b
CmdSet s (choice n e a b) = ExprSet s e × CmdSet s a × CmdSet s b
CmdSet s (loop n e b) = ExprSet s e × CmdSet s b
CmdSet s (input n x) = Unit {0}
CmdSet s (output n e) = ExprSet s e

-- every name is below 64
abbrev pub ExprNames : Expr ℕ → Type 0
ExprNames (const n v) = Unit {0}
ExprNames (var n x) = x < 64
ExprNames (uny n o e) = ExprNames e
ExprNames (bin n a o b) = ExprNames a × ExprNames b

-- names below 64, and at most 32 temporaries
abbrev pub ExprFits : Expr ℕ → Type 0
ExprFits e = ExprNames e × (need e ≤ 32)

abbrev pub CmdFits : Cmd ℕ → Type 0
CmdFits (skip n) = Unit {0}
CmdFits (assign n x e) = (x < 64) × ExprFits e
CmdFits (seq n a b) = CmdFits a × CmdFits b
CmdFits (choice n e a b) = ExprFits e × CmdFits a × CmdFits b
CmdFits (loop n e b) = ExprFits e × CmdFits b
CmdFits (input n x) = x < 64
CmdFits (output n e) = ExprFits e

pub record Checked (p : Program ℕ) : Type 0 where
  pub declared : (x : ℕ) → Names x p.body → Declares p.decls x
  pub typed : WellTyped p.decls p.body
  pub set : CmdSet no_vars p.body
  pub fits : CmdFits p.body
