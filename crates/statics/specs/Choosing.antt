-- Nodes of a tree chosen by a test, and the lowest of them.
use Rattle.std.specs.Prelude.{◌≡◌, ℕ, ◌≤◌, min, Bool, cond, ◌⊎◌, List, [], ◌∷◌, ◌++◌, Some, None, Option}
use Rattle.tosca.specs.Trees.{Expr, const, var, uny, bin, Cmd, skip, assign, seq, choice, loop, input, output}

-- each of two statements follows from the other
pub record Exactly (A B : Type 0) : Type 0 where
  pub to : A → B
  pub from : B → A

abbrev pub Among : {A : Type 0} → A → List A → Type 0
Among a [] = ⊥
Among a (b ∷ bs) = (b ≡ a) ⊎ Among a bs

abbrev pub least : ℕ → Option ℕ → ℕ
least k None = k
least k (Some m) = min k m

abbrev pub lowest : List ℕ → Option ℕ
lowest [] = None
lowest (k ∷ ks) = Some (least k (lowest ks))

-- m is in the list, and nothing in it is lower
abbrev pub Least : ℕ → List ℕ → Type 0
Least m ks = Among m ks × ((k : ℕ) → Among k ks → m ≤ k)

abbrev pub picked : ℕ → Bool → List ℕ
picked n b = cond b (n ∷ []) []

-- the nodes of an expression that the test chooses
unfoldable pub chosen_in : (Expr ℕ → Bool) → Expr ℕ → List ℕ
chosen_in f (const n v) = picked n (f (const n v))
chosen_in f (var n x) = picked n (f (var n x))
chosen_in f (uny n o e) = chosen_in f e ++ picked n (f (uny n o e))
chosen_in f (bin n a o b) = chosen_in f a ++ (chosen_in f b ++ picked n (f (bin n a o b)))

-- the nodes of a command that the two tests choose, f among its expressions and g among its commands
unfoldable pub chosen : (Expr ℕ → Bool) → (Cmd ℕ → Bool) → Cmd ℕ → List ℕ
chosen f g (skip n) = picked n (g (skip n))
chosen f g (assign n x e) = chosen_in f e ++ picked n (g (assign n x e))
chosen f g (seq n a b) = chosen f g a ++ (chosen f g b ++ picked n (g (seq n a b)))
chosen f g (choice n e a b) = chosen_in f e ++ (chosen f g a ++ (chosen f g b ++ picked n (g (choice n e a b))))
chosen f g (loop n e b) = chosen_in f e ++ (chosen f g b ++ picked n (g (loop n e b)))
chosen f g (input n x) = picked n (g (input n x))
chosen f g (output n e) = chosen_in f e ++ picked n (g (output n e))
