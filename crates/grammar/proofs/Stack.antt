-- Two facts of the stack: it ends with the end of the text, which stands nowhere else in it, and a token opens at most one part more.
use Rattle.std.proofs.Common.{◌≡◌, ℕ, suc, ◌≤◌, Bool, true, false, List, [], ◌∷◌, ◌++◌, arith}
use Rattle.grammar.specs.declared.symbols.Mark.{Mark}
use Rattle.grammar.specs.declared.symbols.Mark.TheVariants.{Program, Var, Semicolon, Comma, Colon, Becomes, Close, Slash, Then, Do, End, Period, Stop}
use Rattle.grammar.specs.Tokens.{Tok, same}
use Rattle.grammar.specs.Building.{mul_op, add_op, rel_op, typed, declares, Act, a_bin, a_skip, a_assign, a_seq, a_input, a_program}
use Rattle.grammar.specs.Automaton.{Sym, expr, rels, simple, simples, term, terms, factor, cmd, elses, cmds, is, is_open, is_assigned, is_input, text, title, vars, decls, a_name, names, type, does, leave}
use Rattle.grammar.specs.Automaton.{Move, stuck, go, step, body, marks, at_factor, at_simple, at_mark, at_begin}
use Rattle.grammar.specs.Limits.{is_stop}
use Rattle.grammar.proofs.Cases.{named, by_mark, by_open, by_begin, by_type, by_name, by_mul, by_add, by_rel, by_else, by_factor, by_simple, by_cmd}

abbrev pub Closing : List Sym → Type 0
Closing [] = ⊥
Closing (text ∷ K) = K ≡ []
Closing (is Stop ∷ K) = K ≡ []
Closing (is Program ∷ K) = Closing K
Closing (is Var ∷ K) = Closing K
Closing (is Semicolon ∷ K) = Closing K
Closing (is Comma ∷ K) = Closing K
Closing (is Colon ∷ K) = Closing K
Closing (is Becomes ∷ K) = Closing K
Closing (is Close ∷ K) = Closing K
Closing (is Slash ∷ K) = Closing K
Closing (is Then ∷ K) = Closing K
Closing (is Do ∷ K) = Closing K
Closing (is End ∷ K) = Closing K
Closing (is Period ∷ K) = Closing K
Closing (expr ∷ K) = Closing K
Closing (rels ∷ K) = Closing K
Closing (simple ∷ K) = Closing K
Closing (simples ∷ K) = Closing K
Closing (term ∷ K) = Closing K
Closing (terms ∷ K) = Closing K
Closing (factor ∷ K) = Closing K
Closing (cmd ∷ K) = Closing K
Closing (elses ∷ K) = Closing K
Closing (cmds ∷ K) = Closing K
Closing (is_open ∷ K) = Closing K
Closing (is_assigned m ∷ K) = Closing K
Closing (is_input m ∷ K) = Closing K
Closing (title ∷ K) = Closing K
Closing (vars ∷ K) = Closing K
Closing (decls ∷ K) = Closing K
Closing (a_name ns ∷ K) = Closing K
Closing (names ns ∷ K) = Closing K
Closing (type ns ∷ K) = Closing K
Closing (does a ∷ K) = Closing K
Closing (leave ∷ K) = Closing K

-- what is left after a token that is the end or is not
abbrev pub Leaves : Bool → List Sym → Type 0
Leaves true K = K ≡ []
Leaves false K = Closing K

abbrev pub Stays : {S : Type 0} → Bool → Move S → Type 0
Stays b stuck = Unit {0}
Stays b (go K s) = Leaves b K

closing_mark : (m : Mark) (K : List Sym) → Closing (is m ∷ K) → Leaves (same m Stop) K
closing_mark Program K h = h
closing_mark Var K h = h
closing_mark Semicolon K h = h
closing_mark Comma K h = h
closing_mark Colon K h = h
closing_mark Becomes K h = h
closing_mark Close K h = h
closing_mark Slash K h = h
closing_mark Then K h = h
closing_mark Do K h = h
closing_mark End K h = h
closing_mark Period K h = h
closing_mark Stop K h = h

-- at most k are open after a move
abbrev pub Rise : {S : Type 0} → ℕ → Move S → Type 0
Rise k stuck = Unit {0}
Rise k (go K s) = marks K ≤ k

module _ {S : Type 0} (act : Act → S → S) (p : ℕ) where
  abbrev StaysAt : Tok → Move S → Type 0
  StaysAt t m = Stays (is_stop t) m

  closing_factor : (K : List Sym) (s : S) (t : Tok) → Closing K → StaysAt t (at_factor act K s t p)
  closing_factor K s t h = by_factor act StaysAt K s t p (λ n. h) (λ v. h) h h h (λ u. tt)

  closing_simple : (K : List Sym) (s : S) (t : Tok) → Closing K → StaysAt t (at_simple act K s t p)
  closing_simple K s t h = by_simple act StaysAt K s t p h (λ u. closing_factor (terms ∷ simples ∷ K) s u h) (λ u. tt)

  -- a token that is read keeps it so, and the end empties the stack
  pub closing : (K : List Sym) (s : S) (t : Tok) → Closing K → Stays (is_stop t) (step act K s t p)
  closing [] s t h = absurd h
  closing (factor ∷ K) s t h = closing_factor K s t h
  closing (term ∷ K) s t h = closing_factor (terms ∷ K) s t h
  closing (simple ∷ K) s t h = closing_simple K s t h
  closing (expr ∷ K) s t h = closing_simple (rels ∷ K) s t h
  closing (terms ∷ K) s t h = by_mul act StaysAt t (step act K s t p) (λ o. go (factor ∷ does (a_bin p (mul_op o)) ∷ terms ∷ K) s) (closing K s t h) (λ o. h)
  closing (simples ∷ K) s t h = by_add act StaysAt t (step act K s t p) (λ o. go (term ∷ does (a_bin p (add_op o)) ∷ simples ∷ K) s) (closing K s t h) (λ o. h)
  closing (rels ∷ K) s t h = by_rel act StaysAt t (step act K s t p) (λ o. go (simple ∷ does (a_bin p (rel_op o)) ∷ K) s) (closing K s t h) (λ o. h)
  closing (cmd ∷ K) s t h = by_cmd act StaysAt K s t p (step act K (act (a_skip p) s) t p) (λ n. h) h h h h h (closing K (act (a_skip p) s) t h)
  closing (elses ∷ K) s t h = by_else act StaysAt t (go (cmd ∷ K) s) (step act K (act (a_skip p) s) t p) h (λ e. closing K (act (a_skip p) s) t h)
  closing (cmds ∷ K) s t h = by_mark act StaysAt Semicolon t (go (cmd ∷ does (a_seq p) ∷ cmds ∷ K) s) (at_mark act End t (go K s) stuck) h (by_mark act StaysAt End t (go K s) stuck h tt)
  closing (is m ∷ K) s t h = by_mark act StaysAt m t (go K s) stuck (closing_mark m K h) tt
  closing (is_open ∷ K) s t h = by_open act StaysAt t (go K s) h (λ u. tt)
  closing (is_assigned n ∷ K) s t h = by_mark act StaysAt Becomes t (go (expr ∷ does (a_assign p n) ∷ K) s) stuck h tt
  closing (is_input q ∷ K) s t h = by_name act StaysAt t (λ n. go K (act (a_input q n) s)) stuck (λ n. h) tt
  closing (text ∷ K) s t h = by_mark act StaysAt Program t (go (title ∷ is Semicolon ∷ vars ∷ does (a_program p) ∷ is Stop ∷ K) s) stuck h tt
  closing (title ∷ K) s t h = by_name act StaysAt t (λ n. go K s) stuck (λ n. h) tt
  closing (vars ∷ K) s t h = by_mark act StaysAt Var t (go (a_name [] ∷ K) s) (at_begin act t (go (body K) s)) h (by_begin act StaysAt t (go (body K) s) h (λ u. tt))
  closing (decls ∷ K) s t h = by_name act StaysAt t (λ n. go (names (named n p ∷ []) ∷ K) s) (at_begin act t (go (body K) s)) (λ n. h) (by_begin act StaysAt t (go (body K) s) h (λ u. tt))
  closing (a_name ns ∷ K) s t h = by_name act StaysAt t (λ n. go (names (ns ++ (named n p ∷ [])) ∷ K) s) stuck (λ n. h) tt
  closing (names ns ∷ K) s t h = by_mark act StaysAt Comma t (go (a_name ns ∷ K) s) (at_mark act Colon t (go (type ns ∷ K) s) stuck) h (by_mark act StaysAt Colon t (go (type ns ∷ K) s) stuck h tt)
  closing (type ns ∷ K) s t h = by_type act StaysAt t (λ y. go (is Semicolon ∷ decls ∷ K) (declares act (typed y ns) s)) (λ y. h) (λ u. tt)
  closing (does a ∷ K) s t h = closing K (act a s) t h
  closing (leave ∷ K) s t h = closing K s t h

  abbrev RisesTo : ℕ → Tok → Move S → Type 0
  RisesTo k t m = Rise k m

  rise_more : (k : ℕ) (m : Move S) → Rise k m → Rise (suc k) m
  rise_more k stuck h = tt
  rise_more k (go K s) h = omega arith

  rises_factor : (K : List Sym) (s : S) (t : Tok) → Rise (suc (marks K)) (at_factor act K s t p)
  rises_factor K s t = by_factor act (RisesTo (suc (marks K))) K s t p (λ n. omega arith) (λ v. omega arith) (omega arith) (omega arith) (omega arith) (λ u. tt)

  rises_simple : (K : List Sym) (s : S) (t : Tok) → Rise (suc (marks K)) (at_simple act K s t p)
  rises_simple K s t = by_simple act (RisesTo (suc (marks K))) K s t p (omega arith) (λ u. rises_factor (terms ∷ simples ∷ K) s u) (λ u. tt)

  -- a token opens at most one more
  pub rises : (K : List Sym) (s : S) (t : Tok) → Rise (suc (marks K)) (step act K s t p)
  rises [] s t = tt
  rises (factor ∷ K) s t = rises_factor K s t
  rises (term ∷ K) s t = rises_factor (terms ∷ K) s t
  rises (simple ∷ K) s t = rises_simple K s t
  rises (expr ∷ K) s t = rises_simple (rels ∷ K) s t
  rises (terms ∷ K) s t = by_mul act (RisesTo (suc (marks K))) t (step act K s t p) (λ o. go (factor ∷ does (a_bin p (mul_op o)) ∷ terms ∷ K) s) (rises K s t) (λ o. (omega arith))
  rises (simples ∷ K) s t = by_add act (RisesTo (suc (marks K))) t (step act K s t p) (λ o. go (term ∷ does (a_bin p (add_op o)) ∷ simples ∷ K) s) (rises K s t) (λ o. (omega arith))
  rises (rels ∷ K) s t = by_rel act (RisesTo (suc (marks K))) t (step act K s t p) (λ o. go (simple ∷ does (a_bin p (rel_op o)) ∷ K) s) (rises K s t) (λ o. (omega arith))
  rises (cmd ∷ K) s t = by_cmd act (RisesTo (suc (marks K))) K s t p (step act K (act (a_skip p) s) t p) (λ n. (omega arith)) (omega arith) (omega arith) (omega arith) (omega arith) (omega arith) (rises K (act (a_skip p) s) t)
  rises (elses ∷ K) s t = by_else act (RisesTo (suc (marks K))) t (go (cmd ∷ K) s) (step act K (act (a_skip p) s) t p) (omega arith) (λ e. rises K (act (a_skip p) s) t)
  rises (cmds ∷ K) s t = by_mark act (RisesTo (suc (marks K))) Semicolon t (go (cmd ∷ does (a_seq p) ∷ cmds ∷ K) s) (at_mark act End t (go K s) stuck) (omega arith) (by_mark act (RisesTo (suc (marks K))) End t (go K s) stuck (omega arith) tt)
  rises (is m ∷ K) s t = by_mark act (RisesTo (suc (marks K))) m t (go K s) stuck (omega arith) tt
  rises (is_open ∷ K) s t = by_open act (RisesTo (suc (marks K))) t (go K s) (omega arith) (λ u. tt)
  rises (is_assigned n ∷ K) s t = by_mark act (RisesTo (suc (marks K))) Becomes t (go (expr ∷ does (a_assign p n) ∷ K) s) stuck (omega arith) tt
  rises (is_input q ∷ K) s t = by_name act (RisesTo (suc (marks K))) t (λ n. go K (act (a_input q n) s)) stuck (λ n. (omega arith)) tt
  rises (text ∷ K) s t = by_mark act (RisesTo (suc (marks K))) Program t (go (title ∷ is Semicolon ∷ vars ∷ does (a_program p) ∷ is Stop ∷ K) s) stuck (omega arith) tt
  rises (title ∷ K) s t = by_name act (RisesTo (suc (marks K))) t (λ n. go K s) stuck (λ n. (omega arith)) tt
  rises (vars ∷ K) s t = by_mark act (RisesTo (suc (marks K))) Var t (go (a_name [] ∷ K) s) (at_begin act t (go (body K) s)) (omega arith) (by_begin act (RisesTo (suc (marks K))) t (go (body K) s) (omega arith) (λ u. tt))
  rises (decls ∷ K) s t = by_name act (RisesTo (suc (marks K))) t (λ n. go (names (named n p ∷ []) ∷ K) s) (at_begin act t (go (body K) s)) (λ n. (omega arith)) (by_begin act (RisesTo (suc (marks K))) t (go (body K) s) (omega arith) (λ u. tt))
  rises (a_name ns ∷ K) s t = by_name act (RisesTo (suc (marks K))) t (λ n. go (names (ns ++ (named n p ∷ [])) ∷ K) s) stuck (λ n. (omega arith)) tt
  rises (names ns ∷ K) s t = by_mark act (RisesTo (suc (marks K))) Comma t (go (a_name ns ∷ K) s) (at_mark act Colon t (go (type ns ∷ K) s) stuck) (omega arith) (by_mark act (RisesTo (suc (marks K))) Colon t (go (type ns ∷ K) s) stuck (omega arith) tt)
  rises (type ns ∷ K) s t = by_type act (RisesTo (suc (marks K))) t (λ y. go (is Semicolon ∷ decls ∷ K) (declares act (typed y ns) s)) (λ y. (omega arith)) (λ u. tt)
  rises (does a ∷ K) s t = rises K (act a s) t
  rises (leave ∷ K) s t = rise_more (suc (marks K)) (step act K s t p) (rises K s t)
