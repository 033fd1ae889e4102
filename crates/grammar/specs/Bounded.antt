-- Trees whose places and names a node table can hold, and the tokens that such trees come from.
use Rattle.std.specs.Prelude.{◌≡◌, ℕ, ◌<◌, ◌≤◌, true, List, [], ◌∷◌}
use Rattle.tosca.specs.Trees.{Expr, const, var, uny, bin, Cmd, skip, assign, seq, choice, loop, input, output, Decl, Program}
use Rattle.grammar.specs.Tokens.{Item, at}
use Rattle.grammar.specs.Limits.{few}

-- every label is at most 16,384 and every name below 64
abbrev pub BoundedE : Expr ℕ → Type 0
BoundedE (const p v) = p ≤ 16384
BoundedE (var p x) = (p ≤ 16384) × (x < 64)
BoundedE (uny p o a) = (p ≤ 16384) × BoundedE a
BoundedE (bin p a o b) = (p ≤ 16384) × BoundedE a × BoundedE b

abbrev pub BoundedC : Cmd ℕ → Type 0
BoundedC (skip p) = p ≤ 16384
BoundedC (assign p x a) = (p ≤ 16384) × (x < 64) × BoundedE a
BoundedC (seq p a b) = (p ≤ 16384) × BoundedC a × BoundedC b
BoundedC (choice p a b d) = (p ≤ 16384) × BoundedE a × BoundedC b × BoundedC d
BoundedC (loop p a b) = (p ≤ 16384) × BoundedE a × BoundedC b
BoundedC (input p x) = (p ≤ 16384) × (x < 64)
BoundedC (output p a) = (p ≤ 16384) × BoundedE a

abbrev pub BoundedDs : List (Decl ℕ) → Type 0
BoundedDs [] = Unit {0}
BoundedDs (d ∷ ds) = (d.label ≤ 16384) × (d.name < 64) × BoundedDs ds

abbrev pub Bounded : Program ℕ → Type 0
Bounded t = (t.label ≤ 16384) × BoundedDs t.decls × BoundedC t.body

-- every place is at most 16,384 and every name below 64
abbrev pub Fit : List Item → Type 0
Fit [] = Unit {0}
Fit (at t p ∷ ts) = (p ≤ 16384) × (few t ≡ true) × Fit ts
