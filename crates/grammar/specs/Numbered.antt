-- Trees labelled with the numbers that their nodes have in the node table: decls first, then each node after its parts, left first, program last.
use Rattle.std.specs.Prelude.{ℕ, suc, List, [], ◌∷◌, length}
use Rattle.tosca.specs.Trees.{Expr, const, var, uny, bin, Cmd, skip, assign, seq, choice, loop, input, output, Decl, Program}

-- the number of a tree's root, where its first entry has the number b
abbrev pub last_e : ℕ → Expr ℕ → ℕ
last_e b (const p v) = b
last_e b (var p x) = b
last_e b (uny p o a) = suc (last_e b a)
last_e b (bin p a o c) = suc (last_e (suc (last_e b a)) c)

abbrev pub last_c : ℕ → Cmd ℕ → ℕ
last_c b (skip p) = b
last_c b (assign p x a) = suc (last_e b a)
last_c b (seq p a c) = suc (last_c (suc (last_c b a)) c)
last_c b (choice p a c d) = suc (last_c (suc (last_c (suc (last_e b a)) c)) d)
last_c b (loop p a c) = suc (last_c (suc (last_e b a)) c)
last_c b (input p x) = b
last_c b (output p a) = suc (last_e b a)

-- the tree with these numbers
abbrev pub number_e : ℕ → Expr ℕ → Expr ℕ
number_e b (const p v) = const b v
number_e b (var p x) = var b x
number_e b (uny p o a) = uny (last_e b (uny p o a)) o (number_e b a)
number_e b (bin p a o c) = bin (last_e b (bin p a o c)) (number_e b a) o (number_e (suc (last_e b a)) c)

abbrev pub number_c : ℕ → Cmd ℕ → Cmd ℕ
number_c b (skip p) = skip b
number_c b (assign p x a) = assign (last_c b (assign p x a)) x (number_e b a)
number_c b (seq p a c) = seq (last_c b (seq p a c)) (number_c b a) (number_c (suc (last_c b a)) c)
number_c b (choice p a c d) = choice (last_c b (choice p a c d)) (number_e b a) (number_c (suc (last_e b a)) c) (number_c (suc (last_c (suc (last_e b a)) c)) d)
number_c b (loop p a c) = loop (last_c b (loop p a c)) (number_e b a) (number_c (suc (last_e b a)) c)
number_c b (input p x) = input b x
number_c b (output p a) = output (last_c b (output p a)) (number_e b a)

abbrev pub number_ds : ℕ → List (Decl ℕ) → List (Decl ℕ)
number_ds n [] = []
number_ds n (d ∷ ds) = record { label = n; name = d.name; type = d.type } ∷ number_ds (suc n) ds

abbrev pub numbered : Program ℕ → Program ℕ
numbered t =
    record {
      label = suc (last_c (length t.decls) t.body);
      decls = number_ds 0 t.decls;
      body = number_c (length t.decls) t.body;
    }
