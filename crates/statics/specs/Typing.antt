-- Declarations and types: what is right, and which node is at fault.
use Rattle.std.specs.Prelude.{◌≡◌, ℕ, Bool, true, false, cond, not, ◌&&◌, List, Some, None, Ok, Err, Option, Result}
use Rattle.tosca.specs.declared.operators.SimpleType.{SimpleType}
use Rattle.tosca.specs.declared.operators.SimpleType.TheVariants.{Integer, Boolean}
use Rattle.tosca.specs.declared.operators.Unary.{Unary}
use Rattle.tosca.specs.declared.operators.Binary.{Binary}
use Rattle.tosca.specs.Trees.{Expr, const, var, uny, bin, Cmd, skip, assign, seq, choice, loop, input, output, Decl}
pub use Rattle.tosca.specs.Types.{decl_of, declared_type, type_in, value_type, unary_type, binary_takes, binary_gives, same_type}
use Rattle.statics.specs.declared.verdict.TypeError.{TypeError}
use Rattle.statics.specs.declared.verdict.TypeError.TheVariants.{Wrong, AtFault}
use Rattle.statics.specs.Folding.{Algebra, fold}

abbrev pub is_declared : Option (Decl ℕ) → Bool
is_declared (Some d) = true
is_declared None = false

-- the expression has the type
unfoldable pub HasType : List (Decl ℕ) → Expr ℕ → SimpleType → Type 0
HasType ds (const n v) y = value_type v ≡ y
HasType ds (var n x) y = type_in ds x ≡ Some y
HasType ds (uny n o e) y = (unary_type o ≡ y) × HasType ds e (unary_type o)
HasType ds (bin n a o b) y = (binary_gives o ≡ y) × HasType ds a (binary_takes o) × HasType ds b (binary_takes o)

-- both sides of an assignment have one type, a test is boolean, and what is sent has some type
unfoldable pub WellTyped : List (Decl ℕ) → Cmd ℕ → Type 0
WellTyped ds (skip n) = Unit {0}
WellTyped ds (assign n x e) = (y : SimpleType) × (type_in ds x ≡ Some y) × HasType ds e y
WellTyped ds (seq n a b) = WellTyped ds a × WellTyped ds b
WellTyped ds (choice n e a b) = HasType ds e Boolean × WellTyped ds a × WellTyped ds b
WellTyped ds (loop n e b) = HasType ds e Boolean × WellTyped ds b
WellTyped ds (input n x) = Unit {0}
WellTyped ds (output n e) = (y : SimpleType) × HasType ds e y

-- the type of an expression that is right, or else what is wrong with it
abbrev pub Verdict : Type 0
Verdict = Result SimpleType TypeError

abbrev pub variable_verdict : Option SimpleType → Verdict
variable_verdict (Some y) = Ok y
variable_verdict None = Err Wrong

abbrev pub unary_verdict : Unary → Verdict → Verdict
unary_verdict o (Ok y) = cond (same_type y (unary_type o)) (Ok (unary_type o)) (Err AtFault)
unary_verdict o (Err w) = Err Wrong

abbrev pub binary_verdict : Binary → Verdict → Verdict → Verdict
binary_verdict o (Ok y) (Ok z) = cond (same_type y (binary_takes o) && same_type z (binary_takes o)) (Ok (binary_gives o)) (Err AtFault)
binary_verdict o (Ok y) (Err w) = Err Wrong
binary_verdict o (Err w) v = Err Wrong

-- the reading of types, where the variables have the types ty; a name without a type is wrong, and at fault for another rule
abbrev pub typing : (ℕ → Option SimpleType) → Algebra Verdict
typing ty = record { constant = λ v. Ok (value_type v); variable = λ x. variable_verdict (ty x); unary = unary_verdict; binary = binary_verdict }

abbrev pub verdict : List (Decl ℕ) → Expr ℕ → Verdict
verdict ds e = fold (typing (type_in ds)) e

abbrev pub is_at_fault : Verdict → Bool
is_at_fault (Ok y) = false
is_at_fault (Err Wrong) = false
is_at_fault (Err AtFault) = true

-- the two sides of an assignment are right and of two types
abbrev pub mismatched : Option SimpleType → Verdict → Bool
mismatched (Some y) (Ok z) = not (same_type y z)
mismatched (Some y) (Err w) = false
mismatched None v = false

-- a test that is right, and no boolean
abbrev pub is_no_test : Verdict → Bool
is_no_test (Ok y) = same_type y Integer
is_no_test (Err w) = false

-- the command itself is at fault
abbrev pub ill_typed : List (Decl ℕ) → Cmd ℕ → Bool
ill_typed ds (skip n) = false
ill_typed ds (assign n x e) = mismatched (type_in ds x) (verdict ds e)
ill_typed ds (seq n a b) = false
ill_typed ds (choice n e a b) = is_no_test (verdict ds e)
ill_typed ds (loop n e b) = is_no_test (verdict ds e)
ill_typed ds (input n x) = false
ill_typed ds (output n e) = false

-- a variable without a declaration
abbrev pub undeclared_var : List (Decl ℕ) → Expr ℕ → Bool
undeclared_var ds (const n v) = false
undeclared_var ds (var n x) = not (is_declared (decl_of ds x))
undeclared_var ds (uny n o e) = false
undeclared_var ds (bin n a o b) = false

-- a command that sets a name without a declaration
abbrev pub undeclared_target : List (Decl ℕ) → Cmd ℕ → Bool
undeclared_target ds (skip n) = false
undeclared_target ds (assign n x e) = not (is_declared (decl_of ds x))
undeclared_target ds (seq n a b) = false
undeclared_target ds (choice n e a b) = false
undeclared_target ds (loop n e b) = false
undeclared_target ds (input n x) = not (is_declared (decl_of ds x))
undeclared_target ds (output n e) = false
