-- The code of a routine: the code of a node is its parts' code set between its own instructions, each with the node's number.
use Rattle.std.specs.Prelude.{ℕ, suc, ◌+◌, List, [], ◌∷◌, ◌++◌, Some, None, Option}
use Rattle.tosca.specs.declared.operators.SimpleType.{SimpleType}
use Rattle.tosca.specs.declared.operators.SimpleType.TheVariants.{Integer, Boolean}
use Rattle.tosca.specs.Trees.{Expr, const, var, uny, bin, Cmd, skip, assign, seq, choice, loop, input, output, Program}
use Rattle.aida.specs.declared.instructions.Instruction.{Instruction}
use Rattle.aida.specs.declared.instructions.Instruction.TheVariants.{LoadConst, LoadVar, Store, UnaryOp, BinaryOp, Input, InputBit, Output, Jump, Goto}
use Rattle.aida.specs.declared.instructions.Coded.{Coded}
use Rattle.tosca.specs.Types.{Types, type_in}
use Rattle.aida.specs.Values.{number}

abbrev pub coded : ℕ → Instruction → Coded
coded n i = record { instruction = i; node = n }

-- how many instructions the code of an expression has
unfoldable pub expr_length : Expr ℕ → ℕ
expr_length (const n v) = 1
expr_length (var n x) = 1
expr_length (uny n o e) = expr_length e + 1
expr_length (bin n l o r) = expr_length r + suc (expr_length l + 1)

-- with temporaries from the cell c on; a variable's cell is its name number
unfoldable pub expr_code : ℕ → Expr ℕ → List Coded
expr_code c (const n v) = coded n (LoadConst (number v)) ∷ []
expr_code c (var n x) = coded n (LoadVar x) ∷ []
expr_code c (uny n o e) = expr_code c e ++ coded n (UnaryOp o) ∷ []
expr_code c (bin n l o r) = expr_code c r ++ coded n (Store c) ∷ (expr_code (suc c) l ++ coded n (BinaryOp o c) ∷ [])

-- the first cell of the temporaries
abbrev pub temporaries : ℕ
temporaries = 64

unfoldable pub cmd_length : Cmd ℕ → ℕ
cmd_length (skip n) = 0
cmd_length (assign n x e) = expr_length e + 1
cmd_length (seq n a b) = cmd_length a + cmd_length b
cmd_length (choice n e a b) = expr_length e + suc (cmd_length a + suc (cmd_length b))
cmd_length (loop n e a) = expr_length e + suc (cmd_length a + 1)
cmd_length (input n x) = 2
cmd_length (output n e) = expr_length e + 1

-- an undeclared name has no type; no checked routine has one
abbrev pub input_by : Option SimpleType → Instruction
input_by (Some Integer) = Input
input_by (Some Boolean) = InputBit
input_by None = Input

-- the code of a command whose first instruction has the number p
unfoldable pub cmd_code : Types → ℕ → Cmd ℕ → List Coded
cmd_code ty p (skip n) = []
cmd_code ty p (assign n x e) = expr_code temporaries e ++ coded n (Store x) ∷ []
cmd_code ty p (seq n a b) = cmd_code ty p a ++ cmd_code ty (p + cmd_length a) b
cmd_code ty p (choice n e a b) =
    let then : ℕ = suc (p + expr_length e) in
    let else : ℕ = suc (then + cmd_length a) in
    expr_code temporaries e ++ coded n (Jump else) ∷ (cmd_code ty then a ++ coded n (Goto (else + cmd_length b)) ∷ cmd_code ty else b)
cmd_code ty p (loop n e a) =
    let body : ℕ = suc (p + expr_length e) in
    expr_code temporaries e ++ coded n (Jump (suc (body + cmd_length a))) ∷ (cmd_code ty body a ++ coded n (Goto p) ∷ [])
cmd_code ty p (input n x) = coded n (input_by (ty x)) ∷ coded n (Store x) ∷ []
cmd_code ty p (output n e) = expr_code temporaries e ++ coded n Output ∷ []

abbrev pub code : Program ℕ → List Coded
code p = cmd_code (type_in p.decls) 0 p.body
