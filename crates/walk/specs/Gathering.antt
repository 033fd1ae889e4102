-- How the types of names are gathered from declarations.
use Rattle.std.specs.Prelude.{ℕ, Some, None, Option}
use Rattle.tosca.specs.declared.operators.SimpleType.{SimpleType}
use Rattle.tosca.specs.declared.table.Node.{Node}
use Rattle.tosca.specs.declared.table.Node.TheVariants.{Decl, Const, Var, Uny, Bin, Skip, Assign, Seq, Choice, Loop, Input, Output, Program}

-- the name and the type of a declaration
abbrev pub declaration : Option Node → Option (ℕ × SimpleType)
declaration (Some (Decl x y)) = Some (x, y)
declaration (Some (Const v)) = None
declaration (Some (Var x)) = None
declaration (Some (Uny o a)) = None
declaration (Some (Bin a o b)) = None
declaration (Some Skip) = None
declaration (Some (Assign x a)) = None
declaration (Some (Seq a b)) = None
declaration (Some (Choice a b c)) = None
declaration (Some (Loop a b)) = None
declaration (Some (Input x)) = None
declaration (Some (Output a)) = None
declaration (Some (Program a)) = None
declaration None = None
