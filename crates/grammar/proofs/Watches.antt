-- What a watch makes of tokens with their depths, and the two watches that the proofs use.
use Rattle.std.proofs.Common.{◌≡◌, List, [], ◌∷◌, refl, ap}
use Rattle.grammar.specs.Tokens.{Seen, no}
use Rattle.grammar.specs.Grammar.{Deep, deep}
use Rattle.grammar.specs.Automaton.{Watch}

abbrev pub folds : {S A : Type 0} → Watch S A → List Deep → A → A
folds w [] z = z
folds w (deep x n ∷ r) z = w.reads x n (folds w r z)

-- what is built, if the tokens are accepted
abbrev pub plain : {S : Type 0} → Watch S (Seen S)
plain = record { ends = λ v. v; stops = λ x ts. no; reads = λ x n a. a }

-- each token with its depth
abbrev pub tracer : {S : Type 0} → Watch S (List Deep)
tracer = record { ends = λ v. []; stops = λ x ts. []; reads = λ x n a. deep x n ∷ a }

pub folds_plain : {S : Type 0} (r : List Deep) (z : Seen S) → folds plain r z ≡ z
folds_plain [] z = refl
folds_plain (deep x n ∷ r) z = folds_plain r z

pub folds_tracer : (S : Type 0) (r : List Deep) → folds {S = S} tracer r [] ≡ r
folds_tracer S [] = refl
folds_tracer S (deep x n ∷ r) = ap (λ v. deep x n ∷ v) (folds_tracer S r)
