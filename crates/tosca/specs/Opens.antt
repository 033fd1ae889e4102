-- The questions that a node table is asked before it counts as a routine: 11, 12, 13 and 14, in this order.
use Rattle.std.specs.Prelude.{ℕ, suc, ◌+◌, Bool, true, false, cond, not, ◌&&◌, List, [], ◌∷◌, length, take, Some, None, Option, ◌==◌, nat_le, nat_lt, slice_index_or}
use Rattle.std.specs.List.{list_all}
use Rattle.tosca.specs.declared.table.Entry.{Entry}
use Rattle.tosca.specs.declared.table.Node.{Node}
use Rattle.tosca.specs.declared.table.Node.TheVariants.{Decl, Const, Var, Uny, Bin, Skip, Assign, Seq, Choice, Loop, Input, Output, Program}
use Rattle.tosca.specs.Table.{blank, node}

-- what a node may be a part of
pub data Sort : Type 0 where
  is_decl : Sort
  is_expr : Sort
  is_cmd : Sort
  is_program : Sort
  is_none : Sort

abbrev pub sort : Option Node → Sort
sort (Some (Decl x y)) = is_decl
sort (Some (Const v)) = is_expr
sort (Some (Var x)) = is_expr
sort (Some (Uny o a)) = is_expr
sort (Some (Bin a o b)) = is_expr
sort (Some Skip) = is_cmd
sort (Some (Assign x a)) = is_cmd
sort (Some (Seq a b)) = is_cmd
sort (Some (Choice a b c)) = is_cmd
sort (Some (Loop a b)) = is_cmd
sort (Some (Input x)) = is_cmd
sort (Some (Output a)) = is_cmd
sort (Some (Program a)) = is_program
sort None = is_none

abbrev pub sort_code : Sort → ℕ
sort_code is_none = 0
sort_code is_decl = 1
sort_code is_expr = 2
sort_code is_cmd = 3
sort_code is_program = 4

abbrev pub same_sort : Sort → Sort → Bool
same_sort a b = sort_code a == sort_code b

-- a part's number, and the sort that it must have
pub record Part : Type 0 where
  pub at : ℕ
  pub wants : Sort

abbrev pub expr_part : ℕ → Part
expr_part a = record { at = a; wants = is_expr }

abbrev pub cmd_part : ℕ → Part
cmd_part a = record { at = a; wants = is_cmd }

abbrev pub parts : Option Node → List Part
parts (Some (Decl x y)) = []
parts (Some (Const v)) = []
parts (Some (Var x)) = []
parts (Some (Uny o a)) = expr_part a ∷ []
parts (Some (Bin a o b)) = expr_part a ∷ expr_part b ∷ []
parts (Some Skip) = []
parts (Some (Assign x a)) = expr_part a ∷ []
parts (Some (Seq a b)) = cmd_part a ∷ cmd_part b ∷ []
parts (Some (Choice a b c)) = expr_part a ∷ cmd_part b ∷ cmd_part c ∷ []
parts (Some (Loop a b)) = expr_part a ∷ cmd_part b ∷ []
parts (Some (Input x)) = []
parts (Some (Output a)) = expr_part a ∷ []
parts (Some (Program a)) = cmd_part a ∷ []
parts None = []

-- the name is below 64, where the kind has one
abbrev pub few_names : Node → Bool
few_names (Decl x y) = nat_lt x 64
few_names (Var x) = nat_lt x 64
few_names (Assign x a) = nat_lt x 64
few_names (Input x) = nat_lt x 64
few_names (Const v) = true
few_names (Uny o a) = true
few_names (Bin a o b) = true
few_names Skip = true
few_names (Seq a b) = true
few_names (Choice a b c) = true
few_names (Loop a b) = true
few_names (Output a) = true
few_names (Program a) = true

abbrev pub known_node : Option Node → Bool
known_node (Some n) = few_names n
known_node None = false

-- 12, of one entry: kind, operator, type and value are known, the name is below 64 and the place at most 16,384
abbrev pub known : Entry → Bool
known e = known_node (node e) && nat_le e.place 16384

abbrev pub are_known : List Entry → Bool
are_known = list_all known

-- 13, of the parts of entry k: each stands earlier and has its sort
abbrev pub placed : List Entry → ℕ → List Part → Bool
placed t k [] = true
placed t k (p ∷ ps) = (nat_lt p.at k && same_sort (sort (node (slice_index_or t p.at blank))) p.wants) && placed t k ps

abbrev pub are_placed : List Entry → ℕ → List Entry → Bool
are_placed t k [] = true
are_placed t k (e ∷ es) = placed t k (parts (node e)) && are_placed t (suc k) es

-- how often i is one of the parts
abbrev pub uses : ℕ → List Part → ℕ
uses i [] = 0
uses i (p ∷ ps) = cond (p.at == i) 1 0 + uses i ps

abbrev pub all_uses : ℕ → List Entry → ℕ
all_uses i [] = 0
all_uses i (e ∷ es) = uses i (parts (node e)) + all_uses i es

-- an expression or a command is a part just once
abbrev pub once : List Entry → ℕ → Sort → Bool
once t k is_expr = all_uses k t == 1
once t k is_cmd = all_uses k t == 1
once t k is_decl = true
once t k is_program = true
once t k is_none = true

abbrev pub are_once : List Entry → ℕ → List Entry → Bool
are_once t k [] = true
are_once t k (e ∷ es) = once t k (sort (node e)) && are_once t (suc k) es

abbrev pub no_decl : List Entry → Bool
no_decl = list_all (λ e. not (same_sort (sort (node e)) is_decl))

abbrev pub decls_first : List Entry → Bool
decls_first [] = true
decls_first (e ∷ es) = cond (same_sort (sort (node e)) is_decl) (decls_first es) (no_decl es)

abbrev pub program_last : List Entry → Bool
program_last [] = false
program_last (e ∷ []) = same_sort (sort (node e)) is_program
program_last (e ∷ d ∷ es) = not (same_sort (sort (node e)) is_program) && program_last (d ∷ es)

-- 14: declarations first, the only program last, every other entry a part just once
abbrev pub arranged : List Entry → Bool
arranged t = decls_first t && (program_last t && are_once t 0 t)

-- 11, of a table with room for cap entries: the count is 1 to 1,024 and within the table
abbrev pub counted : ℕ → ℕ → Bool
counted cap n = nat_le 1 n && (nat_le n 1024 && nat_le n cap)

pub data Opening : Type 0 where
  opened : Opening
  refused : ℕ → Opening

-- the questions of the entries that count
abbrev pub entries_open : List Entry → Opening
entries_open t = cond (are_known t) (cond (are_placed t 0 t) (cond (arranged t) opened (refused 14)) (refused 13)) (refused 12)

-- what opening a table with its count gives: yes, or the first question with a no
abbrev pub opening : List Entry → ℕ → Opening
opening t n = cond (counted (length t) n) (entries_open (take n t)) (refused 11)
