-- What is expected can always be given, in simple tokens at any places.
use Rattle.std.proofs.Common.{◌≡◌, ℕ, suc, false, List, [], ◌∷◌, ◌++◌, pos, sym, refl, ◌∙◌, subst}
use Rattle.tosca.specs.declared.operators.SimpleType.TheVariants.{Integer}
use Rattle.tosca.specs.declared.operators.Value.TheVariants.{Number}
use Rattle.grammar.specs.declared.symbols.Prefix.TheVariants.{Open}
use Rattle.grammar.specs.declared.symbols.Start.TheVariants.{Begin}
use Rattle.grammar.specs.declared.symbols.Mark.TheVariants.{Program, Var, Semicolon, Comma, Colon, Becomes, Close, Slash, Then, Do, End, Period, Stop}
use Rattle.grammar.specs.Tokens.{Tok, name, lit, pre, start, ty, mark, Item, no, yes, next_mul, next_add, next_rel, next_else, next_place}
use Rattle.grammar.specs.Building.{Act, a_const, a_skip, a_assign}
use Rattle.grammar.specs.Automaton.{Sym, expr, rels, simple, simples, term, terms, factor, cmd, elses, cmds, is, is_open, is_assigned, is_input, text, title, vars, decls, a_name, names, type, does, leave, run}
use Rattle.grammar.specs.Limits.{placed_from, AllSimple}
use Rattle.grammar.proofs.Watches.{plain}
use Rattle.grammar.proofs.Follow.{run_does, run_leave, no_mul, no_add, no_rel, no_else_lem}
use Rattle.grammar.proofs.Stack.{Closing}

-- tokens for what the stack expects before the end of the text, with the name n
abbrev pub finish : ℕ → List Sym → List Tok
finish n [] = []
finish n (expr ∷ K) = lit (Number (pos 0)) ∷ finish n K
finish n (rels ∷ K) = finish n K
finish n (simple ∷ K) = lit (Number (pos 0)) ∷ finish n K
finish n (simples ∷ K) = finish n K
finish n (term ∷ K) = lit (Number (pos 0)) ∷ finish n K
finish n (terms ∷ K) = finish n K
finish n (factor ∷ K) = lit (Number (pos 0)) ∷ finish n K
finish n (cmd ∷ K) = start Begin ∷ mark End ∷ finish n K
finish n (elses ∷ K) = finish n K
finish n (cmds ∷ K) = mark End ∷ finish n K
finish n (is_open ∷ K) = pre Open ∷ finish n K
finish n (is_assigned m ∷ K) = mark Becomes ∷ lit (Number (pos 0)) ∷ finish n K
finish n (is_input m ∷ K) = name n ∷ finish n K
finish n (text ∷ K) = mark Program ∷ name n ∷ mark Semicolon ∷ start Begin ∷ mark End ∷ mark Period ∷ finish n K
finish n (title ∷ K) = name n ∷ finish n K
finish n (vars ∷ K) = start Begin ∷ mark End ∷ mark Period ∷ finish n K
finish n (decls ∷ K) = start Begin ∷ mark End ∷ mark Period ∷ finish n K
finish n (a_name ns ∷ K) = name n ∷ mark Colon ∷ ty Integer ∷ mark Semicolon ∷ start Begin ∷ mark End ∷ mark Period ∷ finish n K
finish n (names ns ∷ K) = mark Colon ∷ ty Integer ∷ mark Semicolon ∷ start Begin ∷ mark End ∷ mark Period ∷ finish n K
finish n (type ns ∷ K) = ty Integer ∷ mark Semicolon ∷ start Begin ∷ mark End ∷ mark Period ∷ finish n K
finish n (does a ∷ K) = finish n K
finish n (leave ∷ K) = finish n K
finish n (is Stop ∷ K) = finish n K
finish n (is Program ∷ K) = mark Program ∷ finish n K
finish n (is Var ∷ K) = mark Var ∷ finish n K
finish n (is Semicolon ∷ K) = mark Semicolon ∷ finish n K
finish n (is Comma ∷ K) = mark Comma ∷ finish n K
finish n (is Colon ∷ K) = mark Colon ∷ finish n K
finish n (is Becomes ∷ K) = mark Becomes ∷ finish n K
finish n (is Close ∷ K) = mark Close ∷ finish n K
finish n (is Slash ∷ K) = mark Slash ∷ finish n K
finish n (is Then ∷ K) = mark Then ∷ finish n K
finish n (is Do ∷ K) = mark Do ∷ finish n K
finish n (is End ∷ K) = mark End ∷ finish n K
finish n (is Period ∷ K) = mark Period ∷ finish n K

pub finish_simple : (n : ℕ) (K : List Sym) → AllSimple n (finish n K)
finish_simple n [] = tt
finish_simple n (expr ∷ K) = (refl, finish_simple n K)
finish_simple n (rels ∷ K) = finish_simple n K
finish_simple n (simple ∷ K) = (refl, finish_simple n K)
finish_simple n (simples ∷ K) = finish_simple n K
finish_simple n (term ∷ K) = (refl, finish_simple n K)
finish_simple n (terms ∷ K) = finish_simple n K
finish_simple n (factor ∷ K) = (refl, finish_simple n K)
finish_simple n (cmd ∷ K) = (tt, (refl, finish_simple n K))
finish_simple n (elses ∷ K) = finish_simple n K
finish_simple n (cmds ∷ K) = (refl, finish_simple n K)
finish_simple n (is_open ∷ K) = (tt, finish_simple n K)
finish_simple n (is_assigned m ∷ K) = (refl, (refl, finish_simple n K))
finish_simple n (is_input m ∷ K) = (refl, finish_simple n K)
finish_simple n (text ∷ K) = (refl, (refl, (refl, (tt, (refl, (refl, finish_simple n K))))))
finish_simple n (title ∷ K) = (refl, finish_simple n K)
finish_simple n (vars ∷ K) = (tt, (refl, (refl, finish_simple n K)))
finish_simple n (decls ∷ K) = (tt, (refl, (refl, finish_simple n K)))
finish_simple n (a_name ns ∷ K) = (refl, (refl, (tt, (refl, (tt, (refl, (refl, finish_simple n K)))))))
finish_simple n (names ns ∷ K) = (refl, (tt, (refl, (tt, (refl, (refl, finish_simple n K))))))
finish_simple n (type ns ∷ K) = (tt, (refl, (tt, (refl, (refl, finish_simple n K)))))
finish_simple n (does a ∷ K) = finish_simple n K
finish_simple n (leave ∷ K) = finish_simple n K
finish_simple n (is Stop ∷ K) = finish_simple n K
finish_simple n (is Program ∷ K) = (refl, finish_simple n K)
finish_simple n (is Var ∷ K) = (refl, finish_simple n K)
finish_simple n (is Semicolon ∷ K) = (refl, finish_simple n K)
finish_simple n (is Comma ∷ K) = (refl, finish_simple n K)
finish_simple n (is Colon ∷ K) = (refl, finish_simple n K)
finish_simple n (is Becomes ∷ K) = (refl, finish_simple n K)
finish_simple n (is Close ∷ K) = (refl, finish_simple n K)
finish_simple n (is Slash ∷ K) = (refl, finish_simple n K)
finish_simple n (is Then ∷ K) = (refl, finish_simple n K)
finish_simple n (is Do ∷ K) = (refl, finish_simple n K)
finish_simple n (is End ∷ K) = (refl, finish_simple n K)
finish_simple n (is Period ∷ K) = (refl, finish_simple n K)

module _ (n : ℕ) (f : ℕ → ℕ) where
  -- the same, and the end, placed from the k-th place on
  abbrev pub rest : ℕ → List Sym → List Item
  rest k K = placed_from f k (finish n K ++ (mark Stop ∷ []))

  abbrev Quiet : List Item → Type 0
  Quiet o = (next_mul o ≡ no) × (next_add o ≡ no) × (next_rel o ≡ no) × (next_else o ≡ false)

  quiet : (k : ℕ) (K : List Sym) → Quiet (rest k K)
  quiet k [] = (refl, refl, refl, refl)
  quiet k (expr ∷ K) = (refl, refl, refl, refl)
  quiet k (rels ∷ K) = quiet k K
  quiet k (simple ∷ K) = (refl, refl, refl, refl)
  quiet k (simples ∷ K) = quiet k K
  quiet k (term ∷ K) = (refl, refl, refl, refl)
  quiet k (terms ∷ K) = quiet k K
  quiet k (factor ∷ K) = (refl, refl, refl, refl)
  quiet k (cmd ∷ K) = (refl, refl, refl, refl)
  quiet k (elses ∷ K) = quiet k K
  quiet k (cmds ∷ K) = (refl, refl, refl, refl)
  quiet k (is_open ∷ K) = (refl, refl, refl, refl)
  quiet k (is_assigned m ∷ K) = (refl, refl, refl, refl)
  quiet k (is_input m ∷ K) = (refl, refl, refl, refl)
  quiet k (text ∷ K) = (refl, refl, refl, refl)
  quiet k (title ∷ K) = (refl, refl, refl, refl)
  quiet k (vars ∷ K) = (refl, refl, refl, refl)
  quiet k (decls ∷ K) = (refl, refl, refl, refl)
  quiet k (a_name ns ∷ K) = (refl, refl, refl, refl)
  quiet k (names ns ∷ K) = (refl, refl, refl, refl)
  quiet k (type ns ∷ K) = (refl, refl, refl, refl)
  quiet k (does a ∷ K) = quiet k K
  quiet k (leave ∷ K) = quiet k K
  quiet k (is Stop ∷ K) = quiet k K
  quiet k (is Program ∷ K) = (refl, refl, refl, refl)
  quiet k (is Var ∷ K) = (refl, refl, refl, refl)
  quiet k (is Semicolon ∷ K) = (refl, refl, refl, refl)
  quiet k (is Comma ∷ K) = (refl, refl, refl, refl)
  quiet k (is Colon ∷ K) = (refl, refl, refl, refl)
  quiet k (is Becomes ∷ K) = (refl, refl, refl, refl)
  quiet k (is Close ∷ K) = (refl, refl, refl, refl)
  quiet k (is Slash ∷ K) = (refl, refl, refl, refl)
  quiet k (is Then ∷ K) = (refl, refl, refl, refl)
  quiet k (is Do ∷ K) = (refl, refl, refl, refl)
  quiet k (is End ∷ K) = (refl, refl, refl, refl)
  quiet k (is Period ∷ K) = (refl, refl, refl, refl)

module _ {S : Type 0} (act : Act → S → S) (n : ℕ) (f : ℕ → ℕ) where
  pub finishes : (k : ℕ) (K : List Sym) (s : S) → Closing K → (r : S) × (run act plain K s (rest n f k K) ≡ yes r)
  finishes k [] s h = absurd h
  finishes k (expr ∷ K) s h = let c = act (a_const (f k) (Number (pos 0))) s in let r = finishes (suc k) K c h in (r.0, no_mul act plain (simples ∷ rels ∷ K) c (rest n f (suc k) K) (quiet n f (suc k) K).0 ∙ no_add act plain (rels ∷ K) c (rest n f (suc k) K) (quiet n f (suc k) K).1 ∙ no_rel act plain (K) c (rest n f (suc k) K) (quiet n f (suc k) K).2 ∙ r.1)
  finishes k (rels ∷ K) s h = let r = finishes k K s h in (r.0, no_rel act plain K s (rest n f k K) (quiet n f k K).2 ∙ r.1)
  finishes k (simple ∷ K) s h = let c = act (a_const (f k) (Number (pos 0))) s in let r = finishes (suc k) K c h in (r.0, no_mul act plain (simples ∷ K) c (rest n f (suc k) K) (quiet n f (suc k) K).0 ∙ no_add act plain (K) c (rest n f (suc k) K) (quiet n f (suc k) K).1 ∙ r.1)
  finishes k (simples ∷ K) s h = let r = finishes k K s h in (r.0, no_add act plain K s (rest n f k K) (quiet n f k K).1 ∙ r.1)
  finishes k (term ∷ K) s h = let c = act (a_const (f k) (Number (pos 0))) s in let r = finishes (suc k) K c h in (r.0, no_mul act plain (K) c (rest n f (suc k) K) (quiet n f (suc k) K).0 ∙ r.1)
  finishes k (terms ∷ K) s h = let r = finishes k K s h in (r.0, no_mul act plain K s (rest n f k K) (quiet n f k K).0 ∙ r.1)
  finishes k (factor ∷ K) s h = finishes (suc k) K _ h
  finishes k (cmd ∷ K) s h = let c = act (a_skip (f (suc k))) s in let r = finishes (suc (suc k)) K c h in (r.0, run_leave act plain K c (rest n f (suc (suc k)) K) ∙ r.1)
  finishes k (elses ∷ K) s h = let c = act (a_skip (next_place (rest n f k K))) s in let r = finishes k K c h in (r.0, no_else_lem act plain K s (rest n f k K) (quiet n f k K).3 ∙ r.1)
  finishes k (cmds ∷ K) s h = finishes (suc k) K _ h
  finishes k (is_open ∷ K) s h = finishes (suc k) K _ h
  finishes k (is_assigned m ∷ K) s h =
      let a = a_assign (f k) m in
      let J = does a ∷ K in
      let c = act (a_const (f (suc k)) (Number (pos 0))) s in
      let r = finishes (suc (suc k)) K (act a c) h in
      let o = rest n f (suc (suc k)) K in
      let q = quiet n f (suc (suc k)) K in
      (r.0, no_mul act plain (simples ∷ rels ∷ J) c o q.0 ∙ no_add act plain (rels ∷ J) c o q.1 ∙ no_rel act plain J c o q.2 ∙ run_does act plain a K c o ∙ r.1)
  finishes k (is_input m ∷ K) s h = finishes (suc k) K _ h
  finishes k (text ∷ K) s h = subst (λ L. (r : S) × (run act plain (text ∷ L) s (rest n f k (text ∷ L)) ≡ yes r)) (sym h) (_, refl)
  finishes k (title ∷ K) s h = finishes (suc k) K _ h
  finishes k (vars ∷ K) s h = finishes (suc (suc (suc k))) K _ h
  finishes k (decls ∷ K) s h = finishes (suc (suc (suc k))) K _ h
  finishes k (a_name ns ∷ K) s h = finishes (suc (suc (suc (suc (suc (suc (suc k))))))) K _ h
  finishes k (names ns ∷ K) s h = finishes (suc (suc (suc (suc (suc (suc k)))))) K _ h
  finishes k (type ns ∷ K) s h = finishes (suc (suc (suc (suc (suc k))))) K _ h
  finishes k (does a ∷ K) s h = let r = finishes k K (act a s) h in (r.0, run_does act plain a K s (rest n f k K) ∙ r.1)
  finishes k (leave ∷ K) s h = let r = finishes k K s h in (r.0, run_leave act plain K s (rest n f k K) ∙ r.1)
  finishes k (is Stop ∷ K) s h = subst (λ L. (r : S) × (run act plain (is Stop ∷ L) s (rest n f k (is Stop ∷ L)) ≡ yes r)) (sym h) (_, refl)
  finishes k (is Program ∷ K) s h = finishes (suc k) K _ h
  finishes k (is Var ∷ K) s h = finishes (suc k) K _ h
  finishes k (is Semicolon ∷ K) s h = finishes (suc k) K _ h
  finishes k (is Comma ∷ K) s h = finishes (suc k) K _ h
  finishes k (is Colon ∷ K) s h = finishes (suc k) K _ h
  finishes k (is Becomes ∷ K) s h = finishes (suc k) K _ h
  finishes k (is Close ∷ K) s h = finishes (suc k) K _ h
  finishes k (is Slash ∷ K) s h = finishes (suc k) K _ h
  finishes k (is Then ∷ K) s h = finishes (suc k) K _ h
  finishes k (is Do ∷ K) s h = finishes (suc k) K _ h
  finishes k (is End ∷ K) s h = finishes (suc k) K _ h
  finishes k (is Period ∷ K) s h = finishes (suc k) K _ h
