-- The automaton follows a derivation, in every context, whatever it builds and whoever watches.
use Rattle.std.proofs.Common.{◌≡◌, ℕ, suc, false, List, [], ◌∷◌, ◌++◌, refl, ap, ◌∙◌}
use Rattle.tosca.specs.declared.operators.Unary.TheVariants as unary
use Rattle.tosca.specs.declared.operators.Binary.TheVariants as binary
use Rattle.tosca.specs.Trees.{Expr, Cmd, Decl}
use Rattle.tosca.specs.Trees as tree
use Rattle.grammar.specs.declared.symbols.Adding.TheVariants.{Minus}
use Rattle.grammar.specs.declared.symbols.Operator.TheVariants.{Mul, Add, Rel}
use Rattle.grammar.specs.declared.symbols.Prefix.TheVariants.{Open, Not, Round}
use Rattle.grammar.specs.declared.symbols.Start.TheVariants.{Begin, If, While, Read, Write}
use Rattle.grammar.specs.declared.symbols.Mark.TheVariants.{Program, Var, Semicolon, Comma, Colon, Becomes, Close, Slash, Then, Do, End, Period, Stop}
use Rattle.grammar.specs.Tokens.{name, lit, op, pre, start, else', unused, ty, mark, Item, at, no, yes, next_mul, next_add, next_rel, next_else, next_cmd, next_place}
use Rattle.grammar.specs.Building.{mul_op, add_op, rel_op, Named, typed, Act, a_uny, a_bin, a_skip, a_assign, a_seq, a_choice, a_loop, a_output, a_program, declares, build_e, build_c, builds}
use Rattle.grammar.specs.Building as building
use Rattle.grammar.specs.Grammar.{ExprPart, expr, rels, simple, simples, term, terms, factor, ExprDer, CmdPart, cmd, elses, cmds, CmdDer, NamesDer, DeclsDer, VarsDer, ProgramDer, Text}
use Rattle.grammar.specs.Grammar.{is_lit, is_var, is_bracket, is_not, is_round, is_term, multiplies_none, a_mul, is_simple, is_minus, adds_none, a_add, is_expr, relates_none, a_rel, is_skip, is_assign, is_block, is_if, is_while, is_read, is_write, no_else, an_else, is_end, a_semi}
use Rattle.grammar.specs.Grammar.{no_name, a_comma, no_decl, a_decl, no_vars, some_vars, is_program, Deep, deep, expr_depths, cmd_depths, names_depths, decls_depths, vars_depths, program_depths, text_depths}
use Rattle.grammar.specs.Automaton.{Sym, does, leave, is, marks, run, Watch}
use Rattle.grammar.specs.Automaton as auto
use Rattle.grammar.proofs.Watches.{folds, plain, folds_plain}

abbrev pub sym_e : ExprPart → Sym
sym_e expr = auto.expr
sym_e (rels a) = auto.rels
sym_e simple = auto.simple
sym_e (simples a) = auto.simples
sym_e term = auto.term
sym_e (terms a) = auto.terms
sym_e factor = auto.factor

abbrev pub sym_c : CmdPart → Sym
sym_c cmd = auto.cmd
sym_c elses = auto.elses
sym_c (cmds a) = auto.cmds

-- what may stand after a part
abbrev pub AfterE : ExprPart → List Item → Type 0
AfterE factor o = Unit {0}
AfterE term o = next_mul o ≡ no
AfterE (terms a) o = next_mul o ≡ no
AfterE simple o = (next_mul o ≡ no) × (next_add o ≡ no)
AfterE (simples a) o = (next_mul o ≡ no) × (next_add o ≡ no)
AfterE expr o = (next_mul o ≡ no) × (next_add o ≡ no) × (next_rel o ≡ no)
AfterE (rels a) o = (next_mul o ≡ no) × (next_add o ≡ no) × (next_rel o ≡ no)

abbrev pub AfterC : CmdPart → List Item → Type 0
AfterC cmd o = (next_mul o ≡ no) × (next_add o ≡ no) × (next_rel o ≡ no) × (next_cmd o ≡ false)
AfterC elses o = (next_mul o ≡ no) × (next_add o ≡ no) × (next_rel o ≡ no) × (next_cmd o ≡ false)
AfterC (cmds a) o = Unit {0}

at_simples : {a t : Expr ℕ} {m o : List Item} → ExprDer (simples a) m o t → next_mul o ≡ no → next_mul m ≡ no
at_simples adds_none h = h
at_simples (a_add d e) h = refl

at_rels : {a t : Expr ℕ} {m o : List Item} → ExprDer (rels a) m o t → AfterE simple o → AfterE simple m
at_rels relates_none h = h
at_rels (a_rel d) h = (refl, refl)

at_elses : {t : Cmd ℕ} {m o : List Item} → CmdDer elses m o t → AfterC cmd o → AfterC cmd m
at_elses (no_else n) h = h
at_elses (an_else d) h = (refl, refl, refl, refl)

at_cmds : {a t : Cmd ℕ} {m o : List Item} → CmdDer (cmds a) m o t → AfterC cmd m
at_cmds is_end = (refl, refl, refl, refl)
at_cmds (a_semi d e) = (refl, refl, refl, refl)

pub declares_append : {S : Type 0} (act : Act → S → S) (ds es : List (Decl ℕ)) (s : S) → declares act es (declares act ds s) ≡ declares act (ds ++ es) s
declares_append act [] es s = refl
declares_append act (d ∷ ds) es s = declares_append act ds es (act (building.a_decl d) s)

module _ {S A : Type 0} (act : Act → S → S) (w : Watch S A) where
  -- what is built before a part
  abbrev pub before_e : ExprPart → S → S
  before_e expr s = s
  before_e (rels a) s = build_e act a s
  before_e simple s = s
  before_e (simples a) s = build_e act a s
  before_e term s = s
  before_e (terms a) s = build_e act a s
  before_e factor s = s

  abbrev pub before_c : CmdPart → S → S
  before_c cmd s = s
  before_c elses s = s
  before_c (cmds a) s = build_c act a s

  pub run_does : (a : Act) (K : List Sym) (s : S) (o : List Item) → run act w (does a ∷ K) s o ≡ run act w K (act a s) o
  run_does a K s [] = refl
  run_does a K s (at t p ∷ ts) = refl

  pub run_leave : (K : List Sym) (s : S) (o : List Item) → run act w (leave ∷ K) s o ≡ run act w K s o
  run_leave K s [] = refl
  run_leave K s (at t p ∷ ts) = refl

  pub run_term : (K : List Sym) (s : S) (o : List Item) → run act w (auto.term ∷ K) s o ≡ run act w (auto.factor ∷ auto.terms ∷ K) s o
  run_term K s [] = refl
  run_term K s (at t p ∷ ts) = refl

  pub run_expr : (K : List Sym) (s : S) (o : List Item) → run act w (auto.expr ∷ K) s o ≡ run act w (auto.simple ∷ auto.rels ∷ K) s o
  run_expr K s [] = refl
  run_expr K s (at t p ∷ ts) = refl

  -- a factor begins with no minus
  simple_factor : {i m : List Item} {a : Expr ℕ} → ExprDer factor i m a → (K : List Sym) (s : S) → run act w (auto.simple ∷ K) s i ≡ run act w (auto.term ∷ auto.simples ∷ K) s i
  simple_factor is_lit K s = refl
  simple_factor is_var K s = refl
  simple_factor (is_bracket d) K s = refl
  simple_factor (is_not d) K s = refl
  simple_factor (is_round d e) K s = refl

  simple_term : {i m : List Item} {a : Expr ℕ} → ExprDer term i m a → (K : List Sym) (s : S) → run act w (auto.simple ∷ K) s i ≡ run act w (auto.term ∷ auto.simples ∷ K) s i
  simple_term (is_term d e) K s = simple_factor d K s

  pub no_mul : (K : List Sym) (s : S) (o : List Item) → next_mul o ≡ no → run act w (auto.terms ∷ K) s o ≡ run act w K s o
  no_mul K s [] h = refl
  no_mul K s (at t p ∷ ts) h = rw h

  pub no_add : (K : List Sym) (s : S) (o : List Item) → next_add o ≡ no → run act w (auto.simples ∷ K) s o ≡ run act w K s o
  no_add K s [] h = refl
  no_add K s (at t p ∷ ts) h = rw h

  pub no_rel : (K : List Sym) (s : S) (o : List Item) → next_rel o ≡ no → run act w (auto.rels ∷ K) s o ≡ run act w K s o
  no_rel K s [] h = refl
  no_rel K s (at t p ∷ ts) h = rw h

  pub no_else_lem : (K : List Sym) (s : S) (o : List Item) → next_else o ≡ false → run act w (auto.elses ∷ K) s o ≡ run act w K (act (a_skip (next_place o)) s) o
  no_else_lem K s [] h = refl
  no_else_lem K s (at t p ∷ ts) h = rw h

  pub no_cmd : (K : List Sym) (s : S) (o : List Item) → next_cmd o ≡ false → run act w (auto.cmd ∷ K) s o ≡ run act w K (act (a_skip (next_place o)) s) o
  no_cmd K s [] h = refl
  no_cmd K s (at (name n) p ∷ ts) h = absurd (cc)
  no_cmd K s (at (start x) p ∷ ts) h = absurd (cc)
  no_cmd K s (at (lit x) p ∷ ts) h = refl
  no_cmd K s (at (op x) p ∷ ts) h = refl
  no_cmd K s (at (pre x) p ∷ ts) h = refl
  no_cmd K s (at else' p ∷ ts) h = refl
  no_cmd K s (at unused p ∷ ts) h = refl
  no_cmd K s (at (ty x) p ∷ ts) h = refl
  no_cmd K s (at (mark x) p ∷ ts) h = refl

  abbrev R : Item → ℕ → A → A
  R x n a = w.reads x n a

  -- a derivation, and then what its continuation gives
  pub follow_expr : {X : ExprPart} {i o : List Item} {t : Expr ℕ} (d : ExprDer X i o t) → AfterE X o → (K : List Sym) (s : S) (r : List Deep) (z : A) → run act w K (build_e act t s) o ≡ folds w r z → run act w (sym_e X ∷ K) (before_e X s) i ≡ folds w (expr_depths d (marks K) r) z
  follow_expr (is_lit {p} {v}) f K s r z h = ap (R (at (lit v) p) (marks K)) h
  follow_expr (is_var {p} {n}) f K s r z h = ap (R (at (name n) p) (marks K)) h
  follow_expr (is_bracket {p} {q} {o} {a} d) f K s r z h =
      ap (R (at (pre Open) p) (suc (marks K))) (follow_expr d (refl, refl, refl) (is Close ∷ leave ∷ K) s (deep (at (mark Close) q) (suc (marks K)) ∷ r) z
      (ap (R (at (mark Close) q) (suc (marks K))) (run_leave K (build_e act a s) o ∙ h)))
  follow_expr (is_not {p} {o} {a} d) f K s r z h =
      ap (R (at (pre Not) p) (suc (marks K))) (follow_expr d tt (does (a_uny p unary.Not) ∷ leave ∷ K) s r z (run_does (a_uny p unary.Not) (leave ∷ K) (build_e act a s) o ∙ run_leave K (act (a_uny p unary.Not) (build_e act a s)) o ∙ h))
  follow_expr (is_round {p} {q} {r = u} {z = v} {o} {a} {b} d e) f K s r z h =
      let n = suc (marks K) in
      ap (λ x. R (at (pre Round) p) n (R (at (pre Open) q) n x)) (follow_expr d tt (is Slash ∷ auto.factor ∷ is Close ∷ does (a_bin p binary.Round) ∷ leave ∷ K) s (deep (at (mark Slash) u) n ∷ expr_depths e n (deep (at (mark Close) v) n ∷ r)) z
      (ap (R (at (mark Slash) u) n) (follow_expr e tt (is Close ∷ does (a_bin p binary.Round) ∷ leave ∷ K) (build_e act a s) (deep (at (mark Close) v) n ∷ r) z
      (ap (R (at (mark Close) v) n) (run_does (a_bin p binary.Round) (leave ∷ K) (build_e act b (build_e act a s)) o ∙ run_leave K (act (a_bin p binary.Round) (build_e act b (build_e act a s))) o ∙ h)))))
  follow_expr (is_term {i} d e) f K s r z h = run_term K s i ∙ follow_expr d tt (auto.terms ∷ K) s (expr_depths e (marks K) r) z (follow_expr e f K s r z h)
  follow_expr (multiplies_none {o} {a}) f K s r z h = no_mul K (build_e act a s) o f ∙ h
  follow_expr (a_mul {p} {x} {m} {a} {b} d e) f K s r z h =
      ap (R (at (op (Mul x)) p) (marks K)) (follow_expr d tt (does (a_bin p (mul_op x)) ∷ auto.terms ∷ K) (build_e act a s) (expr_depths e (marks K) r) z (run_does (a_bin p (mul_op x)) (auto.terms ∷ K) (build_e act b (build_e act a s)) m ∙ follow_expr e f K s r z h))
  follow_expr (is_simple d e) f K s r z h = simple_term d K s ∙ follow_expr d (at_simples e f.0) (auto.simples ∷ K) s (expr_depths e (marks K) r) z (follow_expr e f K s r z h)
  follow_expr (is_minus {p} {m} {a} d e) f K s r z h =
      ap (R (at (op (Add Minus)) p) (marks K)) (follow_expr d (at_simples e f.0) (does (a_uny p unary.Negate) ∷ auto.simples ∷ K) s (expr_depths e (marks K) r) z (run_does (a_uny p unary.Negate) (auto.simples ∷ K) (build_e act a s) m ∙ follow_expr e f K s r z h))
  follow_expr (adds_none {o} {a}) f K s r z h = no_add K (build_e act a s) o f.1 ∙ h
  follow_expr (a_add {p} {x} {m} {a} {b} d e) f K s r z h =
      ap (R (at (op (Add x)) p) (marks K)) (follow_expr d (at_simples e f.0) (does (a_bin p (add_op x)) ∷ auto.simples ∷ K) (build_e act a s) (expr_depths e (marks K) r) z (run_does (a_bin p (add_op x)) (auto.simples ∷ K) (build_e act b (build_e act a s)) m ∙ follow_expr e f K s r z h))
  follow_expr (is_expr {i} d e) f K s r z h = run_expr K s i ∙ follow_expr d (at_rels e (f.0, f.1)) (auto.rels ∷ K) s (expr_depths e (marks K) r) z (follow_expr e f K s r z h)
  follow_expr (relates_none {o} {a}) f K s r z h = no_rel K (build_e act a s) o f.2 ∙ h
  follow_expr (a_rel {p} {x} {o} {a} {b} d) f K s r z h =
      ap (R (at (op (Rel x)) p) (marks K)) (follow_expr d (f.0, f.1) (does (a_bin p (rel_op x)) ∷ K) (build_e act a s) r z (run_does (a_bin p (rel_op x)) K (build_e act b (build_e act a s)) o ∙ h))

  pub follow_cmd : {X : CmdPart} {i o : List Item} {t : Cmd ℕ} (d : CmdDer X i o t) → AfterC X o → (K : List Sym) (s : S) (r : List Deep) (z : A) → run act w K (build_c act t s) o ≡ folds w r z → run act w (sym_c X ∷ K) (before_c X s) i ≡ folds w (cmd_depths d (marks K) r) z
  follow_cmd (is_skip {o}) f K s r z h = no_cmd K s o f.3 ∙ h
  follow_cmd (is_assign {p} {n} {q} {o} {a} d) f K s r z h =
      ap (λ x. R (at (name n) q) (marks K) (R (at (mark Becomes) p) (marks K) x)) (follow_expr d (f.0, f.1, f.2) (does (a_assign p n) ∷ K) s r z (run_does (a_assign p n) K (build_e act a s) o ∙ h))
  follow_cmd (is_block {p} {o} {b} d e) f K s r z h =
      ap (R (at (start Begin) p) (suc (marks K))) (follow_cmd d (at_cmds e) (auto.cmds ∷ leave ∷ K) s (cmd_depths e (suc (marks K)) r) z (follow_cmd e tt (leave ∷ K) s r z (run_leave K (build_c act b s) o ∙ h)))
  follow_cmd (is_if {p} {q} {o} {a} {b} {d} x y v) f K s r z h =
      let n = suc (marks K) in
      ap (R (at (start If) p) n) (follow_expr x (refl, refl, refl) (is Then ∷ auto.cmd ∷ auto.elses ∷ does (a_choice p) ∷ leave ∷ K) s (deep (at (mark Then) q) n ∷ cmd_depths y n (cmd_depths v n r)) z
      (ap (R (at (mark Then) q) n) (follow_cmd y (at_elses v f) (auto.elses ∷ does (a_choice p) ∷ leave ∷ K) (build_e act a s) (cmd_depths v n r) z
      (follow_cmd v f (does (a_choice p) ∷ leave ∷ K) (build_c act b (build_e act a s)) r z
      (run_does (a_choice p) (leave ∷ K) (build_c act d (build_c act b (build_e act a s))) o ∙ run_leave K (act (a_choice p) (build_c act d (build_c act b (build_e act a s)))) o ∙ h)))))
  follow_cmd (is_while {p} {q} {o} {a} {b} x y) f K s r z h =
      let n = suc (marks K) in
      ap (R (at (start While) p) n) (follow_expr x (refl, refl, refl) (is Do ∷ auto.cmd ∷ does (a_loop p) ∷ leave ∷ K) s (deep (at (mark Do) q) n ∷ cmd_depths y n r) z
      (ap (R (at (mark Do) q) n) (follow_cmd y f (does (a_loop p) ∷ leave ∷ K) (build_e act a s) r z
      (run_does (a_loop p) (leave ∷ K) (build_c act b (build_e act a s)) o ∙ run_leave K (act (a_loop p) (build_c act b (build_e act a s))) o ∙ h))))
  follow_cmd (is_read {p} {n} {q} {r = u} {z = v}) f K s r z h =
      ap (λ x. R (at (start Read) p) (marks K) (R (at (pre Open) q) (marks K) (R (at (name n) u) (marks K) (R (at (mark Close) v) (marks K) x)))) h
  follow_cmd (is_write {p} {q} {z = v} {o} {a} d) f K s r z h =
      ap (λ x. R (at (start Write) p) (marks K) (R (at (pre Open) q) (marks K) x)) (follow_expr d (refl, refl, refl) (is Close ∷ does (a_output p) ∷ K) s (deep (at (mark Close) v) (marks K) ∷ r) z
      (ap (R (at (mark Close) v) (marks K)) (run_does (a_output p) K (build_e act a s) o ∙ h)))
  follow_cmd (no_else {o} n) f K s r z h = no_else_lem K s o n ∙ h
  follow_cmd (an_else {q} d) f K s r z h = ap (R (at else' q) (marks K)) (follow_cmd d f K s r z h)
  follow_cmd (is_end {q}) f K s r z h = ap (R (at (mark End) q) (marks K)) h
  follow_cmd (a_semi {p} {m} {a} {b} d e) f K s r z h =
      ap (R (at (mark Semicolon) p) (marks K)) (follow_cmd d (at_cmds e) (does (a_seq p) ∷ auto.cmds ∷ K) (build_c act a s) (cmd_depths e (marks K) r) z (run_does (a_seq p) (auto.cmds ∷ K) (build_c act b (build_c act a s)) m ∙ follow_cmd e tt K s r z h))

  pub follow_names : {ns ms : List Named} {i o : List Item} (d : NamesDer ns i o ms) (K : List Sym) (s : S) (r : List Deep) (z : A) → run act w (auto.names ms ∷ K) s o ≡ folds w r z → run act w (auto.names ns ∷ K) s i ≡ folds w (names_depths d (marks K) r) z
  follow_names no_name K s r z h = h
  follow_names (a_comma {n} {p} {q} d) K s r z h = ap (λ x. R (at (mark Comma) q) (marks K) (R (at (name n) p) (marks K) x)) (follow_names d K s r z h)

  pub follow_decls : {ds es : List (Decl ℕ)} {i o : List Item} (d : DeclsDer ds i o es) (K : List Sym) (s : S) (r : List Deep) (z : A) → run act w (auto.decls ∷ K) (declares act es s) o ≡ folds w r z → run act w (auto.decls ∷ K) (declares act ds s) i ≡ folds w (decls_depths d (marks K) r) z
  follow_decls no_decl K s r z h = h
  follow_decls (a_decl {ds} {ns} {n} {p} {q} {r = u} {z = v} {y} {m} a b) K s r z h =
      let k = marks K in
      ap (R (at (name n) p) k) (follow_names a K (declares act ds s) (deep (at (mark Colon) q) k ∷ deep (at (ty y) u) k ∷ deep (at (mark Semicolon) v) k ∷ decls_depths b k r) z
      (ap (λ x. R (at (mark Colon) q) k (R (at (ty y) u) k (R (at (mark Semicolon) v) k x))) (ap (λ x. run act w (auto.decls ∷ K) x m) (declares_append act ds (typed y ns) s) ∙ follow_decls b K s r z h)))

  pub follow_vars : {ds : List (Decl ℕ)} {i o : List Item} (d : VarsDer i o ds) (K : List Sym) (s : S) (r : List Deep) (z : A) → ((s' : S) → run act w (auto.vars ∷ K) s' o ≡ run act w (auto.decls ∷ K) s' o) → run act w (auto.decls ∷ K) (declares act ds s) o ≡ folds w r z → run act w (auto.vars ∷ K) s i ≡ folds w (vars_depths d (marks K) r) z
  follow_vars no_vars K s r z e h = e s ∙ h
  follow_vars (some_vars {n} {p} {v} {q} {r = u} {z = g} {y} a b) K s r z e h =
      let k = marks K in
      ap (λ x. R (at (mark Var) v) k (R (at (name n) p) k x)) (follow_names a K s (deep (at (mark Colon) q) k ∷ deep (at (ty y) u) k ∷ deep (at (mark Semicolon) g) k ∷ decls_depths b k r) z
      (ap (λ x. R (at (mark Colon) q) k (R (at (ty y) u) k (R (at (mark Semicolon) g) k x))) (follow_decls b K s r z h)))

  pub follow_program : {i o : List Item} {t : tree.Program ℕ} (d : ProgramDer i o t) (K : List Sym) (s : S) (r : List Deep) (z : A) → run act w K (builds act t s) o ≡ folds w r z → run act w (auto.text ∷ K) s i ≡ folds w (program_depths d (marks K) r) z
  follow_program (is_program {p} {n} {x} {y} {b} {q} {z = g} {ds} v c e) K s r z h =
      let k = marks K in
      let J = does (a_program p) ∷ is Stop ∷ K in
      let l = deep (at (mark Period) q) k ∷ deep (at (mark Stop) g) k ∷ r in
      ap (λ u. R (at (mark Program) p) k (R (at (name n) x) k (R (at (mark Semicolon) y) k u))) (follow_vars v J s (deep (at (start Begin) b) (suc k) ∷ cmd_depths c (suc k) (cmd_depths e (suc k) l)) z (λ s'. refl)
      (ap (R (at (start Begin) b) (suc k)) (follow_cmd c (at_cmds e) (auto.cmds ∷ leave ∷ is Period ∷ J) (declares act ds s) (cmd_depths e (suc k) l) z
      (follow_cmd e tt (leave ∷ is Period ∷ J) (declares act ds s) l z
      (ap (λ u. R (at (mark Period) q) k (R (at (mark Stop) g) k u)) h)))))

  -- a text of the grammar is read to its end
  pub follow_text : (s : S) (ts : List Item) (t : tree.Program ℕ) (d : Text ts t) → run act w (auto.text ∷ []) s ts ≡ folds w (text_depths d) (w.ends (yes (builds act t s)))
  follow_text s ts t d = follow_program d [] s [] (w.ends (yes (builds act t s))) refl

pub text_accepted : {S : Type 0} (act : Act → S → S) (s : S) (ts : List Item) (t : tree.Program ℕ) → Text ts t → run act plain (auto.text ∷ []) s ts ≡ yes (builds act t s)
text_accepted act s ts t d = follow_text act plain s ts t d ∙ folds_plain (text_depths d) (yes (builds act t s))
