-- The sentence of each broken rule.
use Rattle.std.specs.Prelude.{ℕ, List, ◌++◌, map, Some, None, codes, Option}
use Rattle.tosca.specs.declared.operators.Unary.{Unary}
use Rattle.tosca.specs.declared.operators.Unary.TheVariants.{Negate, Not}
use Rattle.tosca.specs.declared.operators.Binary.{Binary}
use Rattle.tosca.specs.declared.table.Node.{Node}
use Rattle.tosca.specs.declared.table.Node.TheVariants.{Decl, Const, Var, Uny, Bin, Skip, Assign, Seq, Choice, Loop, Input, Output, Program}
use Rattle.tosca.specs.Text.{type_text, binary_text}
use Rattle.excerpts.specs.Shown.{printed}
use Rattle.statics.specs.Typing.{binary_takes}
use Rattle.statics.specs.declared.rules.Rule.{Rule}
use Rattle.statics.specs.declared.rules.Rule.TheVariants as rule
use Rattle.diagnostics.specs.declared.complaint.Complaint.{Complaint}
use Rattle.diagnostics.specs.declared.complaint.Complaint.TheVariants as c

-- a sentence about a name of the text, as the name is shown
abbrev pub about : List ℕ → List ℕ → List ℕ
about w rest = codes "'" ++ (map printed w ++ rest)

-- an operator of one operand, and what it takes
abbrev pub operand_text : Unary → List ℕ
operand_text Negate = codes "'-' takes an integer"
operand_text Not = codes "'not' takes a boolean"

-- an operator of two operands, and what it takes
abbrev pub operands_text : Binary → List ℕ
operands_text o = codes "'" ++ (binary_text o ++ (codes "' takes two " ++ (type_text (binary_takes o) ++ codes "s")))

abbrev pub declared_twice : List ℕ → List ℕ
declared_twice w = about w (codes "' is declared a second time")

abbrev pub not_declared : List ℕ → List ℕ
not_declared w = about w (codes "' is not declared")

abbrev pub assigned : List ℕ → List ℕ
assigned w = about w (codes "' and what is assigned to it have two types")

abbrev pub not_set : List ℕ → List ℕ
not_set w = about w (codes "' may be read here before it is set")

abbrev pub test : List ℕ
test = codes "this test is an integer; a boolean is wanted"

abbrev pub temporaries : List ℕ
temporaries = codes "this expression needs more than 32 temporaries"

-- the sentence of a complaint
abbrev pub complaint_text : Complaint → List ℕ
complaint_text (c.DeclaredTwice w) = declared_twice w.now
complaint_text (c.NotDeclared w) = not_declared w.now
complaint_text (c.Operand o) = operand_text o
complaint_text (c.Operands o) = operands_text o
complaint_text (c.Assigned w) = assigned w.now
complaint_text c.Test = test
complaint_text (c.NotSet w) = not_set w.now
complaint_text c.Temporaries = temporaries

-- the sentence of a node whose types do not fit; w is the spelling of its name
abbrev pub mistyped : Option Node → List ℕ → List ℕ
mistyped (Some (Uny o a)) w = operand_text o
mistyped (Some (Bin a o b)) w = operands_text o
mistyped (Some (Assign x a)) w = assigned w
mistyped (Some (Decl x y)) w = test
mistyped (Some (Const v)) w = test
mistyped (Some (Var x)) w = test
mistyped (Some Skip) w = test
mistyped (Some (Seq a b)) w = test
mistyped (Some (Choice a b d)) w = test
mistyped (Some (Loop a b)) w = test
mistyped (Some (Input x)) w = test
mistyped (Some (Output a)) w = test
mistyped (Some (Program a)) w = test
mistyped None w = test

-- the sentence of a broken rule, by the node at fault and the spelling of its name
abbrev pub sentence : Rule → Option Node → List ℕ → List ℕ
sentence rule.DeclaredOnce n w = declared_twice w
sentence rule.Declared n w = not_declared w
sentence rule.Typed n w = mistyped n w
sentence rule.Set n w = not_set w
sentence rule.Temporaries n w = temporaries
