-- What the answers of the check amount to, in the words of the language. The laws hold of every tree, whatever its
-- numbers: a node is known by its number alone, so in a tree that gives two nodes one number they are at fault together.
use Rattle.std.specs.Prelude.{◌≡◌, ℕ, ◌<◌, ◌≤◌, true, ◌⊎◌, List, [], ◌∷◌, ◌++◌, Some, Ok, Err, Result, ◌≢◌}
use Rattle.tosca.specs.declared.operators.SimpleType.{SimpleType}
use Rattle.tosca.specs.declared.operators.SimpleType.TheVariants.{Integer}
use Rattle.tosca.specs.Trees.{Expr, const, var, uny, bin, Cmd, skip, assign, seq, choice, loop, input, output, Decl, Program}
use Rattle.statics.specs.declared.rules.Rule.{Rule}
use Rattle.statics.specs.declared.rules.Rule.TheVariants.{DeclaredOnce, Declared, Typed, Set, Temporaries}
use Rattle.statics.specs.declared.rules.Violation.{Violation}
use Rattle.statics.specs.declared.verdict.TypeError.TheVariants.{AtFault}
use Rattle.draft.specs.Subtrees.{expr_label, cmd_label, ExprIn, CmdIn}
use Rattle.statics.specs.Choosing.{Exactly, Among, Least}
use Rattle.statics.specs.Typing.{type_in, unary_type, binary_takes, HasType, WellTyped, verdict, ill_typed}
use Rattle.statics.specs.Temporaries.{need}
use Rattle.statics.specs.Paths.{UnsetOn}
use Rattle.statics.specs.Checking.{faults, violation, checking}

-- no two declarations have one name
abbrev pub Distinct : List (Decl ℕ) → Type 0
Distinct [] = Unit {0}
Distinct (d ∷ ds) = ((e : Decl ℕ) → Among e ds → e.name ≢ d.name) × Distinct ds

-- some declaration has the name x
abbrev pub Declares : List (Decl ℕ) → ℕ → Type 0
Declares ds x = (d : Decl ℕ) × Among d ds × (d.name ≡ x)

-- the node k of the command reads or sets the variable x
abbrev pub NamesAt : ℕ → ℕ → Cmd ℕ → Type 0
NamesAt k x c = ExprIn (var k x) c ⊎ (((e : Expr ℕ) × CmdIn (assign k x e) c) ⊎ CmdIn (input k x) c)

-- the command reads or sets the variable x somewhere
abbrev pub Names : ℕ → Cmd ℕ → Type 0
Names x c = (k : ℕ) × NamesAt k x c

-- a routine that may be translated; the paths of `set` heed no test, so both branches of `if true` count
pub record Sound (p : Program ℕ) : Type 0 where
  pub once : Distinct p.decls
  pub declared : (x : ℕ) → Names x p.body → Declares p.decls x
  pub typed : WellTyped p.decls p.body
  pub set : (k : ℕ) → UnsetOn p.body k → ⊥
  pub few : (e : Expr ℕ) → ExprIn e p.body → need e ≤ 32

-- exactly the sound routines pass
abbrev pub Passing : Program ℕ → Result (Unit {0}) Violation → Type 0
Passing p r = Exactly (r ≡ Ok tt) (Sound p)

-- no node is at fault for any of the rules
abbrev pub Clear : List Rule → Program ℕ → Type 0
Clear [] p = Unit {0}
Clear (q ∷ qs) p = (faults q p ≡ []) × Clear qs p

abbrev pub earlier_rules : Rule → List Rule
earlier_rules DeclaredOnce = []
earlier_rules Declared = DeclaredOnce ∷ []
earlier_rules Typed = DeclaredOnce ∷ Declared ∷ []
earlier_rules Set = DeclaredOnce ∷ Declared ∷ Typed ∷ []
earlier_rules Temporaries = DeclaredOnce ∷ Declared ∷ Typed ∷ Set ∷ []

-- a refusal names the first rule that has a node at fault, and the lowest node at fault for it
abbrev pub First : Program ℕ → Result (Unit {0}) Violation → Type 0
First p r = (q : Rule) (k : ℕ) → r ≡ Err (violation q k) → Clear (earlier_rules q) p × Least k (faults q p)

-- of a routine whose declarations and types are right: it is refused as unset exactly if some path reads a variable
-- before setting it, and the node is the lowest that some path reads so
pub record PathRule (p : Program ℕ) (r : Result (Unit {0}) Violation) : Type 0 where
  pub refused : Exactly ((k : ℕ) × (r ≡ Err (violation Set k))) ((k : ℕ) × UnsetOn p.body k)
  pub lowest : (k : ℕ) → r ≡ Err (violation Set k) → UnsetOn p.body k × ((j : ℕ) → UnsetOn p.body j → k ≤ j)

-- what every answer of the check satisfies
pub record Judged (p : Program ℕ) (r : Result (Unit {0}) Violation) : Type 0 where
  pub passing : Passing p r
  pub first : First p r
  pub paths : Clear (earlier_rules Set) p → PathRule p r

abbrev pub StaticLaws : Type 0
StaticLaws = (p : Program ℕ) → Judged p (checking p)

-- the operands have types, and the operator does not take them
abbrev pub Misapplied : List (Decl ℕ) → Expr ℕ → Type 0
Misapplied ds (const n v) = ⊥
Misapplied ds (var n x) = ⊥
Misapplied ds (uny n o e) = (y : SimpleType) × HasType ds e y × (y ≢ unary_type o)
Misapplied ds (bin n a o b) =
    (y : SimpleType) × (z : SimpleType) × HasType ds a y × HasType ds b z × ((y ≡ binary_takes o) × (z ≡ binary_takes o) → ⊥)

-- the parts of the command have types, and those are not the ones it takes
abbrev pub Mistyped : List (Decl ℕ) → Cmd ℕ → Type 0
Mistyped ds (skip n) = ⊥
Mistyped ds (assign n x e) = (y : SimpleType) × (z : SimpleType) × (type_in ds x ≡ Some y) × HasType ds e z × (y ≢ z)
Mistyped ds (seq n a b) = ⊥
Mistyped ds (choice n e a b) = HasType ds e Integer
Mistyped ds (loop n e b) = HasType ds e Integer
Mistyped ds (input n x) = ⊥
Mistyped ds (output n e) = ⊥

-- what the reading of types and the test of commands say
pub record VerdictMeans : Type 0 where
  pub typed : (ds : List (Decl ℕ)) (e : Expr ℕ) (y : SimpleType) → Exactly (verdict ds e ≡ Ok y) (HasType ds e y)
  pub at_fault : (ds : List (Decl ℕ)) (e : Expr ℕ) → Exactly (verdict ds e ≡ Err AtFault) (Misapplied ds e)
  pub command : (ds : List (Decl ℕ)) (c : Cmd ℕ) → Exactly (ill_typed ds c ≡ true) (Mistyped ds c)

-- a declaration whose name an earlier one has, and its node
pub record Repeated (ds : List (Decl ℕ)) (k : ℕ) : Type 0 where
  pub before : List (Decl ℕ)
  pub decl : Decl ℕ
  pub rest : List (Decl ℕ)
  pub splits : ds ≡ before ++ (decl ∷ rest)
  pub earlier : Declares before decl.name
  pub node : decl.label ≡ k

-- the node k breaks the rule. A node breaks Typed only where its parts have types: above a broken node, or a name
-- that is not declared, none is at fault
abbrev pub Breaks : Rule → Program ℕ → ℕ → Type 0
Breaks DeclaredOnce p k = Repeated p.decls k
Breaks Declared p k = (x : ℕ) × NamesAt k x p.body × (Declares p.decls x → ⊥)
Breaks Typed p k =
    ((s : Expr ℕ) × ExprIn s p.body × Misapplied p.decls s × (expr_label s ≡ k))
    ⊎ ((s : Cmd ℕ) × CmdIn s p.body × Mistyped p.decls s × (cmd_label s ≡ k))
Breaks Set p k = UnsetOn p.body k
Breaks Temporaries p k = (s : Expr ℕ) × ExprIn s p.body × (32 < need s) × (expr_label s ≡ k)

-- the nodes at fault for a rule are exactly those that break it
abbrev pub FaultsMean : Type 0
FaultsMean = (q : Rule) (p : Program ℕ) (k : ℕ) → Exactly (Among k (faults q p)) (Breaks q p k)
