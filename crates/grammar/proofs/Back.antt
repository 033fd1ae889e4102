-- What the automaton accepts is derived: the stack as a list of derivations, found token by token from the end.
use Rattle.std.proofs.Common.{◌≡◌, ℕ, List, [], ◌∷◌, ◌++◌, sym, refl, ap, ◌∙◌, subst}
use Rattle.tosca.specs.declared.operators.SimpleType.{SimpleType}
use Rattle.tosca.specs.declared.operators.Unary.TheVariants as unary
use Rattle.tosca.specs.declared.operators.Binary.TheVariants as binary
use Rattle.tosca.specs.Trees.{Expr, const, var, uny, bin, Cmd, skip, assign, seq, choice, loop, input, output, Decl}
use Rattle.tosca.specs.Trees as tree
use Rattle.grammar.specs.declared.symbols.Prefix.TheVariants.{Open, Round}
use Rattle.grammar.specs.declared.symbols.Start.TheVariants.{Begin, Read, Write}
use Rattle.grammar.specs.declared.symbols.Mark.TheVariants.{Program, Var, Semicolon, Comma, Colon, Becomes, Close, End, Period, Stop}
use Rattle.grammar.specs.Tokens.{Tok, name, pre, start, ty, mark, Item, at, Seen, no, yes}
use Rattle.grammar.specs.Building.{mul_op, add_op, rel_op, Named, typed, declares, Act, a_bin, a_skip, a_assign, a_seq, a_input, a_program}
use Rattle.grammar.specs.Grammar as g
use Rattle.grammar.specs.Grammar.{ExprDer, CmdDer, NamesDer, DeclsDer, VarsDer, ProgramDer, Text}
use Rattle.grammar.specs.Grammar.{is_lit, is_var, is_bracket, is_not, is_round, is_term, multiplies_none, a_mul, is_simple, is_minus, adds_none, a_add, is_expr, relates_none, a_rel, is_skip, is_assign, is_block, is_if, is_while, is_read, is_write, no_else, an_else, is_end, a_semi}
use Rattle.grammar.specs.Grammar.{no_name, a_comma, no_decl, a_decl, no_vars, some_vars, is_program}
use Rattle.grammar.specs.Automaton.{Sym, expr, rels, simple, simples, term, terms, factor, cmd, elses, cmds, is, is_open, is_assigned, is_input, text, title, vars, decls, a_name, names, type, does, leave}
use Rattle.grammar.specs.Automaton.{Move, stuck, go, step, settle, after, run, body, at_factor, at_simple, at_mark, at_begin, at_cmd}
use Rattle.grammar.proofs.Watches.{plain}
use Rattle.grammar.proofs.Cases.{named, by_mark, by_open, by_begin, by_type, by_name, by_mul, by_add, by_rel, by_else, by_factor, by_simple, by_cmd}

abbrev Block : List Item → List Item → Type 0
Block j o = (m : List Item) × (q : ℕ) × (a : Cmd ℕ) × (d : Cmd ℕ) × CmdDer g.cmd j m a × CmdDer (g.cmds a) m (at (mark Period) q ∷ o) d

abbrev AfterDecls : List (Decl ℕ) → List Item → List Item → Type 0
AfterDecls ds i o = (es : List (Decl ℕ)) × (b : ℕ) × (j : List Item) × DeclsDer ds i (at (start Begin) b ∷ j) es × Block j o

abbrev AfterColon : List Named → List (Decl ℕ) → List Item → List Item → Type 0
AfterColon ns ds i o = (y : SimpleType) × (r : ℕ) × (z : ℕ) × (m : List Item) × (i ≡ at (ty y) r ∷ at (mark Semicolon) z ∷ m) × AfterDecls (ds ++ typed y ns) m o

abbrev AfterName : List Named → List (Decl ℕ) → List Item → List Item → Type 0
AfterName ns ds i o = (ms : List Named) × (q : ℕ) × (j : List Item) × NamesDer ns i (at (mark Colon) q ∷ j) ms × AfterColon ms ds j o

-- the tokens are what the symbols stand for, one after another
abbrev pub Ders : List Sym → List Item → Type 0
Ders [] i = i ≡ []
Ders (expr ∷ K) i = (o : List Item) × ((t : Expr ℕ) × ExprDer g.expr i o t) × Ders K o
Ders (rels ∷ K) i = (o : List Item) × ((a : Expr ℕ) → (t : Expr ℕ) × ExprDer (g.rels a) i o t) × Ders K o
Ders (simple ∷ K) i = (o : List Item) × ((t : Expr ℕ) × ExprDer g.simple i o t) × Ders K o
Ders (simples ∷ K) i = (o : List Item) × ((a : Expr ℕ) → (t : Expr ℕ) × ExprDer (g.simples a) i o t) × Ders K o
Ders (term ∷ K) i = (o : List Item) × ((t : Expr ℕ) × ExprDer g.term i o t) × Ders K o
Ders (terms ∷ K) i = (o : List Item) × ((a : Expr ℕ) → (t : Expr ℕ) × ExprDer (g.terms a) i o t) × Ders K o
Ders (factor ∷ K) i = (o : List Item) × ((t : Expr ℕ) × ExprDer g.factor i o t) × Ders K o
Ders (cmd ∷ K) i = (o : List Item) × ((t : Cmd ℕ) × CmdDer g.cmd i o t) × Ders K o
Ders (elses ∷ K) i = (o : List Item) × ((t : Cmd ℕ) × CmdDer g.elses i o t) × Ders K o
Ders (cmds ∷ K) i = (o : List Item) × ((a : Cmd ℕ) → (t : Cmd ℕ) × CmdDer (g.cmds a) i o t) × Ders K o
Ders (is m ∷ K) i = (o : List Item) × ((p : ℕ) × (i ≡ at (mark m) p ∷ o)) × Ders K o
Ders (is_open ∷ K) i = (o : List Item) × ((p : ℕ) × (i ≡ at (pre Open) p ∷ o)) × Ders K o
Ders (is_assigned n ∷ K) i = (o : List Item) × ((a : Expr ℕ) × (q : ℕ) × (j : List Item) × (i ≡ at (mark Becomes) q ∷ j) × ExprDer g.expr j o a) × Ders K o
Ders (is_input q ∷ K) i = (o : List Item) × ((n : ℕ) × (p : ℕ) × (i ≡ at (name n) p ∷ o)) × Ders K o
Ders (text ∷ K) i = (o : List Item) × ((t : tree.Program ℕ) × ProgramDer i o t) × Ders K o
Ders (title ∷ K) i = (o : List Item) × ((n : ℕ) × (p : ℕ) × (i ≡ at (name n) p ∷ o)) × Ders K o
Ders (vars ∷ K) i = (o : List Item) × ((ds : List (Decl ℕ)) × (b : ℕ) × (j : List Item) × VarsDer i (at (start Begin) b ∷ j) ds × Block j o) × Ders K o
Ders (decls ∷ K) i = (o : List Item) × ((ds : List (Decl ℕ)) → AfterDecls ds i o) × Ders K o
Ders (a_name ns ∷ K) i = (o : List Item) × ((n : ℕ) × (p : ℕ) × (j : List Item) × (i ≡ at (name n) p ∷ j) × ((ds : List (Decl ℕ)) → AfterName (ns ++ (named n p ∷ [])) ds j o)) × Ders K o
Ders (names ns ∷ K) i = (o : List Item) × ((ds : List (Decl ℕ)) → AfterName ns ds i o) × Ders K o
Ders (type ns ∷ K) i = (o : List Item) × ((ds : List (Decl ℕ)) → AfterColon ns ds i o) × Ders K o
Ders (does a ∷ K) i = Ders K i
Ders (leave ∷ K) i = Ders K i

-- where a move leads, the rest is derived
abbrev pub Leads : {S : Type 0} → Move S → List Item → Type 0
Leads stuck ts = ⊥
Leads (go K s) ts = Ders K ts

join_term : (K : List Sym) (i : List Item) → Ders (factor ∷ terms ∷ K) i → Ders (term ∷ K) i
join_term K i l = let r = l.2 in let x = r.1 l.1.0 in (r.0, (x.0, is_term l.1.1 x.1), r.2)

join_simple : (K : List Sym) (i : List Item) → Ders (term ∷ simples ∷ K) i → Ders (simple ∷ K) i
join_simple K i l = let r = l.2 in let x = r.1 l.1.0 in (r.0, (x.0, is_simple l.1.1 x.1), r.2)

join_expr : (K : List Sym) (i : List Item) → Ders (simple ∷ rels ∷ K) i → Ders (expr ∷ K) i
join_expr K i l = let r = l.2 in let x = r.1 l.1.0 in (r.0, (x.0, is_expr l.1.1 x.1), r.2)

block_of : (K : List Sym) (ts : List Item) → Ders (body K) ts → (o : List Item) × Block ts o × Ders K o
block_of K ts l =
    let a = l.1.0 in
    let x = l.2.1 a in
    let f = l.2.2 in
    (f.0, (l.0, f.1.0, a, x.0, l.1.1, subst (λ v. CmdDer (g.cmds a) l.0 v x.0) f.1.1 x.1), f.2)

module _ {S : Type 0} (act : Act → S → S) (ts : List Item) (p : ℕ) where
  -- from where the token led, back to before it
  abbrev Back : List Sym → Tok → Move S → Type 0
  Back K t m = Leads m ts → Ders K (at t p ∷ ts)

  none : (K : List Sym) (t : Tok) → Back K t stuck
  none K t l = absurd l

  back_round : (K : List Sym) (s : S) → Back (factor ∷ K) (pre Round) (at_factor act K s (pre Round) p)
  back_round K s l =
      let f = l.2 in
      let c = f.2 in
      let h = c.2 in
      let k = h.2 in
      let a = f.1.0 in
      let b = h.1.0 in
      let d = is_round {p = p} {q = l.1.0} (subst (λ x. ExprDer g.factor l.0 x a) c.1.1 f.1.1) (subst (λ x. ExprDer g.factor c.0 x b) k.1.1 h.1.1) in
      (k.0, (bin p a binary.Round b, subst (λ x. ExprDer g.factor (at (pre Round) p ∷ x) k.0 (bin p a binary.Round b)) (sym l.1.1) d), k.2)

  back_factor : (K : List Sym) (s : S) (t : Tok) → Back (factor ∷ K) t (at_factor act K s t p)
  back_factor K s t = by_factor act (Back (factor ∷ K)) K s t p
      (λ n l. (ts, (var p n, is_var), l))
      (λ v l. (ts, (const p v, is_lit), l))
      (λ l. let r = l.2 in (r.0, (l.1.0, is_bracket (subst (λ x. ExprDer g.expr ts x l.1.0) r.1.1 l.1.1)), r.2))
      (λ l. (l.0, (uny p unary.Not l.1.0, is_not l.1.1), l.2))
      (back_round K s)
      (none (factor ∷ K))

  back_simple : (K : List Sym) (s : S) (t : Tok) → Back (simple ∷ K) t (at_simple act K s t p)
  back_simple K s t = by_simple act (Back (simple ∷ K)) K s t p
      (λ l. let r = l.2 in let x = r.1 (uny p unary.Negate l.1.0) in (r.0, (x.0, is_minus l.1.1 x.1), r.2))
      (λ u l. join_simple K (at u p ∷ ts) (join_term (simples ∷ K) (at u p ∷ ts) (back_factor (terms ∷ simples ∷ K) s u l)))
      (none (simple ∷ K))

  back_read : (K : List Sym) → Ders (is_open ∷ is_input p ∷ is Close ∷ K) ts → Ders (cmd ∷ K) (at (start Read) p ∷ ts)
  back_read K l =
      let m = l.2 in
      let z = m.2 in
      let n = m.1.0 in
      let e : ts ≡ at (pre Open) l.1.0 ∷ at (name n) m.1.1 ∷ at (mark Close) z.1.0 ∷ z.0 = l.1.1 ∙ ap (λ v. at (pre Open) l.1.0 ∷ v) (m.1.2 ∙ ap (λ v. at (name n) m.1.1 ∷ v) z.1.1) in
      (z.0, (input p n, subst (λ x. CmdDer g.cmd (at (start Read) p ∷ x) z.0 (input p n)) (sym e) is_read), z.2)

  back_write : (K : List Sym) → Ders (is_open ∷ expr ∷ is Close ∷ K) ts → Ders (cmd ∷ K) (at (start Write) p ∷ ts)
  back_write K l =
      let m = l.2 in
      let z = m.2 in
      let a = m.1.0 in
      (z.0, (output p a, subst (λ x. CmdDer g.cmd (at (start Write) p ∷ x) z.0 (output p a)) (sym l.1.1) (is_write (subst (λ j. ExprDer g.expr l.0 j a) z.1.1 m.1.1))), z.2)

  back_cmd : (K : List Sym) (s : S) (t : Tok) (b : Move S) → Back K t b → Back (cmd ∷ K) t (at_cmd act K s t p b)
  back_cmd K s t b h = by_cmd act (λ v m. Leads m ts → Ders (cmd ∷ K) (at v p ∷ ts)) K s t p b
      (λ n l. let y = l.1 in (l.0, (assign y.1 n y.0, subst (λ x. CmdDer g.cmd (at (name n) p ∷ x) l.0 (assign y.1 n y.0)) (sym y.3) (is_assign y.4)), l.2))
      (λ l. let x = l.2.1 l.1.0 in (l.2.0, (x.0, is_block l.1.1 x.1), l.2.2))
      (λ l.
      let x = l.1 in
      let m = l.2 in
      let y = m.2 in
      let z = y.2 in
      (z.0, (choice p x.0 y.1.0 z.1.0, is_if (subst (λ j. ExprDer g.expr ts j x.0) m.1.1 x.1) y.1.1 z.1.1), z.2))
      (λ l.
      let x = l.1 in
      let m = l.2 in
      let y = m.2 in
      (y.0, (loop p x.0 y.1.0, is_while (subst (λ j. ExprDer g.expr ts j x.0) m.1.1 x.1) y.1.1), y.2))
      (back_read K)
      (back_write K)
      (λ l. (at t p ∷ ts, (skip p, is_skip), h l))

  back_text : (K : List Sym) → Ders (title ∷ is Semicolon ∷ vars ∷ is Stop ∷ K) ts → Ders (text ∷ K) (at (mark Program) p ∷ ts)
  back_text K d =
      let u = d.2 in
      let v = u.2 in
      let f = v.2 in
      let c = v.1 in
      let k = c.4 in
      let t : tree.Program ℕ = record { label = p; decls = c.0; body = k.3 } in
      let e : ts ≡ at (name d.1.0) d.1.1 ∷ at (mark Semicolon) u.1.0 ∷ u.0 = d.1.2 ∙ ap (λ x. at (name d.1.0) d.1.1 ∷ x) u.1.1 in
      let r = is_program {p = p} c.3 k.4 (subst (λ x. CmdDer (g.cmds k.2) k.0 (at (mark Period) k.1 ∷ x) k.3) f.1.1 k.5) in
      (f.0, (t, subst (λ x. ProgramDer (at (mark Program) p ∷ x) f.0 t) (sym e) r), f.2)

  back_vars : (K : List Sym) → Ders (a_name [] ∷ K) ts → Ders (vars ∷ K) (at (mark Var) p ∷ ts)
  back_vars K d =
      let c = d.1 in
      let h = c.4 [] in
      let y = h.4 in
      let f = y.5 in
      let v = some_vars (subst (λ x. NamesDer (named c.0 c.1 ∷ []) c.2 (at (mark Colon) h.1 ∷ x) h.0) y.4 h.3) f.3 in
      (d.0, (f.0, f.1, f.2, subst (λ x. VarsDer (at (mark Var) p ∷ x) (at (start Begin) f.1 ∷ f.2) f.0) (sym c.3) v, f.4), d.2)

  back_decls : (K : List Sym) (n : ℕ) → Ders (names (named n p ∷ []) ∷ K) ts → Ders (decls ∷ K) (at (name n) p ∷ ts)
  back_decls K n d = (
    d.0,
    (λ ds.
        let h = d.1 ds in
        let y = h.4 in
        let f = y.5 in
        (f.0, f.1, f.2, a_decl (subst (λ x. NamesDer (named n p ∷ []) ts (at (mark Colon) h.1 ∷ x) h.0) y.4 h.3) f.3, f.4)),
    d.2,
  )

  back_comma : (K : List Sym) (ns : List Named) → Ders (a_name ns ∷ K) ts → Ders (names ns ∷ K) (at (mark Comma) p ∷ ts)
  back_comma K ns d = (
    d.0,
    (λ ds.
        let c = d.1 in
        let h = c.4 ds in
        (h.0, h.1, h.2, subst (λ x. NamesDer ns (at (mark Comma) p ∷ x) (at (mark Colon) h.1 ∷ h.2) h.0) (sym c.3) (a_comma h.3), h.4)),
    d.2,
  )

  -- one token back
  pub back : (K : List Sym) (s : S) (t : Tok) → Back K t (step act K s t p)
  back [] s t = none [] t
  back (factor ∷ K) s t = back_factor K s t
  back (term ∷ K) s t = λ l. join_term K (at t p ∷ ts) (back_factor (terms ∷ K) s t l)
  back (simple ∷ K) s t = back_simple K s t
  back (expr ∷ K) s t = λ l. join_expr K (at t p ∷ ts) (back_simple (rels ∷ K) s t l)
  back (terms ∷ K) s t = by_mul act (Back (terms ∷ K)) t (step act K s t p) (λ o. go (factor ∷ does (a_bin p (mul_op o)) ∷ terms ∷ K) s)
      (λ d. (at t p ∷ ts, (λ a. (a, multiplies_none)), back K s t d))
      (λ o d. (d.2.0, (λ a. let x = d.2.1 (bin p a (mul_op o) d.1.0) in (x.0, a_mul d.1.1 x.1)), d.2.2))
  back (simples ∷ K) s t = by_add act (Back (simples ∷ K)) t (step act K s t p) (λ o. go (term ∷ does (a_bin p (add_op o)) ∷ simples ∷ K) s)
      (λ d. (at t p ∷ ts, (λ a. (a, adds_none)), back K s t d))
      (λ o d. (d.2.0, (λ a. let x = d.2.1 (bin p a (add_op o) d.1.0) in (x.0, a_add d.1.1 x.1)), d.2.2))
  back (rels ∷ K) s t = by_rel act (Back (rels ∷ K)) t (step act K s t p) (λ o. go (simple ∷ does (a_bin p (rel_op o)) ∷ K) s)
      (λ d. (at t p ∷ ts, (λ a. (a, relates_none)), back K s t d))
      (λ o d. (d.0, (λ a. (bin p a (rel_op o) d.1.0, a_rel d.1.1)), d.2))
  back (cmd ∷ K) s t = back_cmd K s t (step act K (act (a_skip p) s) t p) (back K (act (a_skip p) s) t)
  back (elses ∷ K) s t = by_else act (Back (elses ∷ K)) t (go (cmd ∷ K) s) (step act K (act (a_skip p) s) t p)
      (λ d. (d.0, (d.1.0, an_else d.1.1), d.2))
      (λ e d. (at t p ∷ ts, (skip p, no_else e), back K (act (a_skip p) s) t d))
  back (cmds ∷ K) s t = by_mark act (Back (cmds ∷ K)) Semicolon t (go (cmd ∷ does (a_seq p) ∷ cmds ∷ K) s) (at_mark act End t (go K s) stuck)
      (λ d. (d.2.0, (λ a. let x = d.2.1 (seq p a d.1.0) in (x.0, a_semi d.1.1 x.1)), d.2.2))
      (by_mark act (Back (cmds ∷ K)) End t (go K s) stuck (λ d. (ts, (λ a. (a, is_end)), d)) (none (cmds ∷ K) t))
  back (is m ∷ K) s t = by_mark act (Back (is m ∷ K)) m t (go K s) stuck (λ d. (ts, (p, refl), d)) (none (is m ∷ K) t)
  back (is_open ∷ K) s t = by_open act (Back (is_open ∷ K)) t (go K s) (λ d. (ts, (p, refl), d)) (none (is_open ∷ K))
  back (is_assigned n ∷ K) s t = by_mark act (Back (is_assigned n ∷ K)) Becomes t (go (expr ∷ does (a_assign p n) ∷ K) s) stuck (λ d. (d.0, (d.1.0, p, ts, refl, d.1.1), d.2)) (none (is_assigned n ∷ K) t)
  back (is_input q ∷ K) s t = by_name act (Back (is_input q ∷ K)) t (λ n. go K (act (a_input q n) s)) stuck (λ n d. (ts, (n, p, refl), d)) (none (is_input q ∷ K) t)
  back (title ∷ K) s t = by_name act (Back (title ∷ K)) t (λ n. go K s) stuck (λ n d. (ts, (n, p, refl), d)) (none (title ∷ K) t)
  back (text ∷ K) s t = by_mark act (Back (text ∷ K)) Program t (go (title ∷ is Semicolon ∷ vars ∷ does (a_program p) ∷ is Stop ∷ K) s) stuck (back_text K) (none (text ∷ K) t)
  back (vars ∷ K) s t = by_mark act (Back (vars ∷ K)) Var t (go (a_name [] ∷ K) s) (at_begin act t (go (body K) s)) (back_vars K)
      (by_begin act (Back (vars ∷ K)) t (go (body K) s) (λ d. let b = block_of K ts d in (b.0, ([], p, ts, no_vars, b.1), b.2)) (none (vars ∷ K)))
  back (decls ∷ K) s t = by_name act (Back (decls ∷ K)) t (λ n. go (names (named n p ∷ []) ∷ K) s) (at_begin act t (go (body K) s)) (back_decls K)
      (by_begin act (Back (decls ∷ K)) t (go (body K) s) (λ d. let b = block_of K ts d in (b.0, (λ ds. (ds, p, ts, no_decl, b.1)), b.2)) (none (decls ∷ K)))
  back (a_name ns ∷ K) s t = by_name act (Back (a_name ns ∷ K)) t (λ n. go (names (ns ++ (named n p ∷ [])) ∷ K) s) stuck (λ n d. (d.0, (n, p, ts, refl, d.1), d.2)) (none (a_name ns ∷ K) t)
  back (names ns ∷ K) s t = by_mark act (Back (names ns ∷ K)) Comma t (go (a_name ns ∷ K) s) (at_mark act Colon t (go (type ns ∷ K) s) stuck) (back_comma K ns)
      (by_mark act (Back (names ns ∷ K)) Colon t (go (type ns ∷ K) s) stuck (λ d. (d.0, (λ ds. (ns, p, ts, no_name, d.1 ds)), d.2)) (none (names ns ∷ K) t))
  back (type ns ∷ K) s t = by_type act (Back (type ns ∷ K)) t (λ y. go (is Semicolon ∷ decls ∷ K) (declares act (typed y ns) s))
      (λ y d. let r = d.2 in (r.0, (λ ds. (y, p, d.1.0, d.0, ap (λ x. at (ty y) p ∷ x) d.1.1, r.1 (ds ++ typed y ns))), r.2)) (none (type ns ∷ K))
  back (does a ∷ K) s t = back K (act a s) t
  back (leave ∷ K) s t = back K s t

abbrev pub Settled : {S : Type 0} → Seen S → Type 0
Settled no = ⊥
Settled (yes s) = Unit {0}

-- at the end of the tokens
pub settled : {S : Type 0} (act : Act → S → S) (K : List Sym) (s : S) → Settled (settle act K s) → Ders K []
settled act [] s l = refl
settled act (leave ∷ K) s l = settled act K s l
settled act (does a ∷ K) s l = settled act K (act a s) l
settled act (rels ∷ K) s l = ([], (λ a. (a, relates_none)), settled act K s l)
settled act (simples ∷ K) s l = ([], (λ a. (a, adds_none)), settled act K s l)
settled act (terms ∷ K) s l = ([], (λ a. (a, multiplies_none)), settled act K s l)
settled act (cmd ∷ K) s l = ([], (skip 0, is_skip), settled act K (act (a_skip 0) s) l)
settled act (elses ∷ K) s l = ([], (skip 0, no_else refl), settled act K (act (a_skip 0) s) l)
settled act (expr ∷ K) s l = absurd l
settled act (simple ∷ K) s l = absurd l
settled act (term ∷ K) s l = absurd l
settled act (factor ∷ K) s l = absurd l
settled act (cmds ∷ K) s l = absurd l
settled act (is m ∷ K) s l = absurd l
settled act (is_open ∷ K) s l = absurd l
settled act (is_assigned n ∷ K) s l = absurd l
settled act (is_input n ∷ K) s l = absurd l
settled act (text ∷ K) s l = absurd l
settled act (title ∷ K) s l = absurd l
settled act (vars ∷ K) s l = absurd l
settled act (decls ∷ K) s l = absurd l
settled act (a_name ns ∷ K) s l = absurd l
settled act (names ns ∷ K) s l = absurd l
settled act (type ns ∷ K) s l = absurd l

module _ {S : Type 0} (act : Act → S → S) where
  leads : (x : Item) (ts : List Item) (r : S) (on : List Sym → S → Seen S) → ((K : List Sym) (s : S) → on K s ≡ yes r → Ders K ts) → (m : Move S) → after act plain x ts m on ≡ yes r → Leads m ts
  leads x ts r on h stuck e = absurd (cc)
  leads x ts r on h (go K s) e = h K s e

  accepted_ders : (ts : List Item) (K : List Sym) (s r : S) → run act plain K s ts ≡ yes r → Ders K ts
  accepted_ders [] K s r e = settled act K s (subst Settled (sym e) tt)
  accepted_ders (at t p ∷ ts) K s r e = back act ts p K s t (leads (at t p) ts r (λ K' s'. run act plain K' s' ts) (λ K' s' e'. accepted_ders ts K' s' r e') (step act K s t p) e)

  -- tokens that are accepted are a text of the grammar
  pub accepted_text : (ts : List Item) (s r : S) → run act plain (text ∷ []) s ts ≡ yes r → (t : tree.Program ℕ) × Text ts t
  accepted_text ts s r e = let l = accepted_ders ts (text ∷ []) s r e in (l.1.0, subst (λ o. ProgramDer ts o l.1.0) l.2 l.1.1)
