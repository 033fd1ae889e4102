-- The questions that a routine is asked before it is translated, in their order, and the nodes at fault for each.
use Rattle.std.specs.Prelude.{ℕ, Bool, false, cond, ◌||◌, List, [], ◌∷◌, Some, None, Ok, Err, Option, Result, ◌==◌, nat_lt}
use Rattle.tosca.specs.Trees.{Expr, Cmd, Decl, Program}
use Rattle.statics.specs.declared.rules.Rule.{Rule}
use Rattle.statics.specs.declared.rules.Rule.TheVariants.{DeclaredOnce, Declared, Typed, Set, Temporaries}
use Rattle.statics.specs.declared.rules.Violation.{Violation}
use Rattle.statics.specs.Choosing.{lowest, chosen}
use Rattle.statics.specs.Typing.{verdict, is_at_fault, ill_typed, undeclared_var, undeclared_target}
use Rattle.statics.specs.Temporaries.{need}
use Rattle.statics.specs.Setting.{no_vars, unset}

-- a rule's number, as users see it
abbrev pub rule_number : Rule → ℕ
rule_number DeclaredOnce = 21
rule_number Declared = 22
rule_number Typed = 23
rule_number Set = 24
rule_number Temporaries = 25

abbrev pub is_name : ℕ → List ℕ → Bool
is_name x [] = false
is_name x (y ∷ ys) = x == y || is_name x ys

-- the declarations of a name that an earlier one has, where xs are the names before them
abbrev pub again : List ℕ → List (Decl ℕ) → List ℕ
again xs [] = []
again xs (d ∷ ds) = cond (is_name d.name xs) (d.label ∷ again (d.name ∷ xs) ds) (again (d.name ∷ xs) ds)

abbrev pub is_too_large : Expr ℕ → Bool
is_too_large e = nat_lt 32 (need e)

abbrev pub no_cmd : Cmd ℕ → Bool
no_cmd c = false

-- the nodes at fault for a rule
abbrev pub faults : Rule → Program ℕ → List ℕ
faults DeclaredOnce p = again [] p.decls
faults Declared p = chosen (undeclared_var p.decls) (undeclared_target p.decls) p.body
faults Typed p = chosen (λ e. is_at_fault (verdict p.decls e)) (ill_typed p.decls) p.body
faults Set p = unset no_vars p.body
faults Temporaries p = chosen is_too_large no_cmd p.body

abbrev pub violation : Rule → ℕ → Violation
violation q k = record { rule = q; node = k }

-- the answer to one question, where r is the answer to those after it
abbrev pub asked : Rule → Option ℕ → Result (Unit {0}) Violation → Result (Unit {0}) Violation
asked q None r = r
asked q (Some k) r = Err (violation q k)

abbrev pub first_no : List Rule → Program ℕ → Result (Unit {0}) Violation
first_no [] p = Ok tt
first_no (q ∷ qs) p = asked q (lowest (faults q p)) (first_no qs p)

-- yes, or the first question with a no and the lowest node at fault for it
unfoldable pub checking : Program ℕ → Result (Unit {0}) Violation
checking p = first_no (DeclaredOnce ∷ Declared ∷ Typed ∷ Set ∷ Temporaries ∷ []) p
