-- The lowest of two lists. Assumes nothing.
use Rattle.std.proofs.Common.{◌≡◌, ℕ, List, [], ◌∷◌, ◌++◌, Some, None, Option, refl, ap, ◌∙◌, arith}
use Rattle.statics.specs.Choosing.{least, lowest}
use Rattle.checks.specs.Lowering.{lower_of}

least_lower : (k : ℕ) (a b : Option ℕ) → least k (lower_of a b) ≡ least (least k a) b
least_lower k None b = refl
least_lower k (Some m) None = refl
least_lower k (Some m) (Some j) = omega arith

pub lowest_append : (xs ys : List ℕ) → lowest (xs ++ ys) ≡ lower_of (lowest xs) (lowest ys)
lowest_append [] ys = refl
lowest_append (k ∷ xs) ys = ap (λ (o : Option ℕ). Some (least k o)) (lowest_append xs ys) ∙ ap (λ (m : ℕ). Some m) (least_lower k (lowest xs) (lowest ys))
