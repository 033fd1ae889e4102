-- The node table as what is built: decls first, then each node after its parts, left first, program last.
use Rattle.std.specs.Prelude.{ℕ, List, [], ◌∷◌, ◌++◌, length}
use Rattle.tosca.specs.declared.table.Entry.{Entry}
use Rattle.tosca.specs.declared.table.Node.{Node}
use Rattle.tosca.specs.declared.table.Node.TheVariants.{Decl, Const, Var, Uny, Bin, Skip, Assign, Seq, Choice, Loop, Input, Output, Program}
use Rattle.tosca.specs.Table.{entry}
use Rattle.tosca.specs.Trees as tree
use Rattle.grammar.specs.Building.{Act, a_const, a_var, a_uny, a_bin, a_skip, a_assign, a_seq, a_choice, a_loop, a_input, a_output, a_decl, a_program, builds}

-- the entries so far, and the numbers of those that are no part yet, the last first
pub record Listing : Type 0 where
  pub entries : List Entry
  pub loose : List ℕ

abbrev pub listing : List ℕ → List Entry → Listing
listing V es = record { entries = es; loose = V }

-- one more entry, which is loose
abbrev pub adds : Node → ℕ → List ℕ → List Entry → Listing
adds n p V es = listing (length es ∷ V) (es ++ (entry n p ∷ []))

-- with fewer loose entries than it wants, which never happens, an act changes nothing
abbrev pub one : List Entry → List ℕ → ℕ → (ℕ → Node) → Listing
one es [] p f = listing [] es
one es (a ∷ V) p f = adds (f a) p V es

abbrev pub two : List Entry → List ℕ → ℕ → (ℕ → ℕ → Node) → Listing
two es [] p f = listing [] es
two es (b ∷ []) p f = listing (b ∷ []) es
two es (b ∷ a ∷ V) p f = adds (f a b) p V es

abbrev pub three : List Entry → List ℕ → ℕ → (ℕ → ℕ → ℕ → Node) → Listing
three es [] p f = listing [] es
three es (c ∷ []) p f = listing (c ∷ []) es
three es (c ∷ b ∷ []) p f = listing (c ∷ b ∷ []) es
three es (c ∷ b ∷ a ∷ V) p f = adds (f a b c) p V es

abbrev pub lists : Act → List ℕ → List Entry → Listing
lists (a_const p v) V es = adds (Const v) p V es
lists (a_var p x) V es = adds (Var x) p V es
lists (a_uny p o) V es = one es V p (λ a. Uny o a)
lists (a_bin p o) V es = two es V p (λ a b. Bin a o b)
lists (a_skip p) V es = adds Skip p V es
lists (a_assign p x) V es = one es V p (λ a. Assign x a)
lists (a_seq p) V es = two es V p (λ a b. Seq a b)
lists (a_choice p) V es = three es V p (λ a b c. Choice a b c)
lists (a_loop p) V es = two es V p (λ a b. Loop a b)
lists (a_input p x) V es = adds (Input x) p V es
lists (a_output p) V es = one es V p (λ a. Output a)
lists (a_decl d) V es = listing V (es ++ (entry (Decl d.name d.type) d.label ∷ []))
lists (a_program p) V es = one es V p (λ a. Program a)

abbrev pub list : Act → Listing → Listing
list a s = lists a s.loose s.entries

-- the entries of a tree labelled with places
abbrev pub entries_of : tree.Program ℕ → List Entry
entries_of t = (builds list t (listing [] [])).entries

-- entries over the front of a table
abbrev pub laid : List Entry → List Entry → List Entry
laid [] t = t
laid (n ∷ ns) [] = []
laid (n ∷ ns) (x ∷ t) = n ∷ laid ns t
