-- Worked examples of what reading is defined to give.
use Rattle.std.specs.Prelude.{◌≡◌, [], ◌∷◌, pos, codes}
use Rattle.tosca.specs.declared.operators.Value.TheVariants.{Number}
use Rattle.tosca.specs.declared.table.Node.TheVariants.{Const, Output, Program}
use Rattle.tosca.specs.Table.{entry, blank}
use Rattle.grammar.specs.Limits.{refused}
use Rattle.reader.specs.Reading.{outcome, answer, count, no, table_after}

-- the empty text lacks its first token
abbrev pub Empty : Type 0
Empty = outcome 1024 [] ≡ refused 5 0

-- a constant, the command that writes it, and the program
pub record Writes : Type 0 where
  pub nodes : answer (outcome 1024 (codes "program p; begin write(1) end.")) ≡ count 3
  pub table : table_after 4 (outcome 4 (codes "program p; begin write(1) end.")) ≡ entry (Const (Number (pos 1))) 23 ∷ entry (Output 0) 17 ∷ entry (Program 1) 0 ∷ blank ∷ []
  pub short : answer (outcome 2 (codes "program p; begin write(1) end.")) ≡ no 8 30

-- texts that just pass a limit, or are no routine
pub record Refusals : Type 0 where
  pub token : answer (outcome 1024 (codes "program p; { begin end.")) ≡ no 2 11
  pub name : answer (outcome 1024 (codes "program a2345678901234567; begin end.")) ≡ no 3 8
  pub number : answer (outcome 1024 (codes "program p; begin write(2147483648) end.")) ≡ no 4 23
  pub missing : answer (outcome 1024 (codes "program p; begin end")) ≡ no 5 20
  pub depth : answer (outcome 1024 (codes "program p; begin write((((((((((((((((((((((((((((((((((1")) ≡ no 6 54
