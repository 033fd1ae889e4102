-- What a pass asks of one entry, from answers that were worked out before it.
use Rattle.std.specs.Prelude.{ℕ, Bool, true, false, not, Some, None, Ok, Err, Option}
use Rattle.tosca.specs.declared.table.Node.{Node}
use Rattle.tosca.specs.declared.table.Node.TheVariants.{Decl, Const, Var, Uny, Bin, Skip, Assign, Seq, Choice, Loop, Input, Output, Program}
use Rattle.statics.specs.declared.verdict.TypeError.TheVariants.{Wrong, AtFault}
use Rattle.statics.specs.Typing.{Verdict, same_type, is_at_fault, is_no_test}

-- the verdict on a variable without a declaration
abbrev pub is_wrong : Verdict → Bool
is_wrong (Ok y) = false
is_wrong (Err Wrong) = true
is_wrong (Err AtFault) = false

-- both are right, and of two types
abbrev pub differ : Verdict → Verdict → Bool
differ (Ok y) (Ok z) = not (same_type y z)
differ (Ok y) (Err w) = false
differ (Err w) v = false

-- the node has a name without a declaration
abbrev pub names_undeclared : (ℕ → Verdict) → Node → Bool
names_undeclared variable (Var x) = is_wrong (variable x)
names_undeclared variable (Assign x a) = is_wrong (variable x)
names_undeclared variable (Input x) = is_wrong (variable x)
names_undeclared variable (Decl x y) = false
names_undeclared variable (Const v) = false
names_undeclared variable (Uny o a) = false
names_undeclared variable (Bin a o b) = false
names_undeclared variable Skip = false
names_undeclared variable (Seq a b) = false
names_undeclared variable (Choice a b c) = false
names_undeclared variable (Loop a b) = false
names_undeclared variable (Output a) = false
names_undeclared variable (Program a) = false

-- the node n is wrongly typed, by the verdicts on variables and on nodes
abbrev pub is_ill_typed : (ℕ → Verdict) → (ℕ → Verdict) → ℕ → Node → Bool
is_ill_typed variable on n (Const v) = is_at_fault (on n)
is_ill_typed variable on n (Var x) = is_at_fault (on n)
is_ill_typed variable on n (Uny o a) = is_at_fault (on n)
is_ill_typed variable on n (Bin a o b) = is_at_fault (on n)
is_ill_typed variable on n (Assign x a) = differ (variable x) (on a)
is_ill_typed variable on n (Choice a b c) = is_no_test (on a)
is_ill_typed variable on n (Loop a b) = is_no_test (on a)
is_ill_typed variable on n (Decl x y) = false
is_ill_typed variable on n Skip = false
is_ill_typed variable on n (Seq a b) = false
is_ill_typed variable on n (Input x) = false
is_ill_typed variable on n (Output a) = false
is_ill_typed variable on n (Program a) = false

-- the same of an entry, which may be no node
abbrev pub of_node : (Node → Bool) → Option Node → Bool
of_node asks (Some m) = asks m
of_node asks None = false
