-- The tree of a text whose tokens fit is bounded.
use Rattle.std.proofs.Common.{ℕ, ◌<◌, ◌≤◌, List, [], ◌∷◌, ◌++◌, arith}
use Rattle.std.proofs.lemmas.Bool.{ltb-true}
use Rattle.tosca.specs.declared.operators.SimpleType.{SimpleType}
use Rattle.tosca.specs.Trees.{Expr, Cmd, Decl}
use Rattle.tosca.specs.Trees as tree
use Rattle.grammar.specs.Tokens.{Item, at, next_place}
use Rattle.grammar.specs.Building.{Named, typed}
use Rattle.grammar.specs.Grammar.{ExprPart, expr, rels, simple, simples, term, terms, factor, ExprDer, CmdPart, cmd, elses, cmds, CmdDer, NamesDer, DeclsDer, VarsDer, ProgramDer, Text}
use Rattle.grammar.specs.Grammar.{is_lit, is_var, is_bracket, is_not, is_round, is_term, multiplies_none, a_mul, is_simple, is_minus, adds_none, a_add, is_expr, relates_none, a_rel}
use Rattle.grammar.specs.Grammar.{is_skip, is_assign, is_block, is_if, is_while, is_read, is_write, no_else, an_else, is_end, a_semi}
use Rattle.grammar.specs.Grammar.{no_name, a_comma, no_decl, a_decl, no_vars, some_vars, is_program}
use Rattle.grammar.specs.Bounded.{BoundedE, BoundedC, BoundedDs, Bounded, Fit}

-- the tree that a part has on its left
abbrev LeftE : ExprPart → Type 0
LeftE expr = Unit {0}
LeftE (rels a) = BoundedE a
LeftE simple = Unit {0}
LeftE (simples a) = BoundedE a
LeftE term = Unit {0}
LeftE (terms a) = BoundedE a
LeftE factor = Unit {0}

-- a part is bounded, and the tokens after it fit
fits_expr : {X : ExprPart} {i o : List Item} {a : Expr ℕ} → ExprDer X i o a → Fit i → LeftE X → BoundedE a × Fit o
fits_expr is_lit f l = (f.0, f.2)
fits_expr (is_var {n = x}) f l = ((f.0, ltb-true x 64 f.1), f.2)
fits_expr (is_bracket d) f l =
    let r = fits_expr d f.2 tt in
    (r.0, r.1.2)
fits_expr (is_not d) f l =
    let r = fits_expr d f.2 tt in
    ((f.0, r.0), r.1)
fits_expr (is_round d e) f l =
    let r = fits_expr d f.2.2 tt in
    let s = fits_expr e r.1.2 tt in
    ((f.0, r.0, s.0), s.1.2)
fits_expr (is_term d e) f l =
    let r = fits_expr d f tt in
    fits_expr e r.1 r.0
fits_expr multiplies_none f l = (l, f)
fits_expr (a_mul d e) f l =
    let r = fits_expr d f.2 tt in
    fits_expr e r.1 (f.0, l, r.0)
fits_expr (is_simple d e) f l =
    let r = fits_expr d f tt in
    fits_expr e r.1 r.0
fits_expr (is_minus d e) f l =
    let r = fits_expr d f.2 tt in
    fits_expr e r.1 (f.0, r.0)
fits_expr adds_none f l = (l, f)
fits_expr (a_add d e) f l =
    let r = fits_expr d f.2 tt in
    fits_expr e r.1 (f.0, l, r.0)
fits_expr (is_expr d e) f l =
    let r = fits_expr d f tt in
    fits_expr e r.1 r.0
fits_expr relates_none f l = (l, f)
fits_expr (a_rel d) f l =
    let r = fits_expr d f.2 tt in
    ((f.0, l, r.0), r.1)

abbrev LeftC : CmdPart → Type 0
LeftC cmd = Unit {0}
LeftC elses = Unit {0}
LeftC (cmds a) = BoundedC a

next_fits : (o : List Item) → Fit o → next_place o ≤ 16384
next_fits [] f = omega arith
next_fits (at t p ∷ o) f = f.0

fits_cmd : {X : CmdPart} {i o : List Item} {a : Cmd ℕ} → CmdDer X i o a → Fit i → LeftC X → BoundedC a × Fit o
fits_cmd (is_skip {o}) f l = (next_fits o f, f)
fits_cmd (is_assign {n = x} d) f l =
    let r = fits_expr d f.2.2 tt in
    ((f.2.0, ltb-true x 64 f.1, r.0), r.1)
fits_cmd (is_block d e) f l =
    let r = fits_cmd d f.2 tt in
    fits_cmd e r.1 r.0
fits_cmd (is_if x y z) f l =
    let r = fits_expr x f.2 tt in
    let s = fits_cmd y r.1.2 tt in
    let u = fits_cmd z s.1 tt in
    ((f.0, r.0, s.0, u.0), u.1)
fits_cmd (is_while x y) f l =
    let r = fits_expr x f.2 tt in
    let s = fits_cmd y r.1.2 tt in
    ((f.0, r.0, s.0), s.1)
fits_cmd (is_read {n = x}) f l = ((f.0, ltb-true x 64 f.2.2.1), f.2.2.2.2)
fits_cmd (is_write d) f l =
    let r = fits_expr d f.2.2 tt in
    ((f.0, r.0), r.1.2)
fits_cmd (no_else {o} h) f l = (next_fits o f, f)
fits_cmd (an_else d) f l = fits_cmd d f.2 tt
fits_cmd is_end f l = (l, f.2)
fits_cmd (a_semi d e) f l =
    let r = fits_cmd d f.2 tt in
    fits_cmd e r.1 (f.0, l, r.0)

abbrev BoundedNs : List Named → Type 0
BoundedNs [] = Unit {0}
BoundedNs (n ∷ ns) = (n.place ≤ 16384) × (n.name < 64) × BoundedNs ns

bounded_names : (ns ms : List Named) → BoundedNs ns → BoundedNs ms → BoundedNs (ns ++ ms)
bounded_names [] ms h k = k
bounded_names (n ∷ ns) ms h k = (h.0, h.1, bounded_names ns ms h.2 k)

bounded_typed : (y : SimpleType) (ns : List Named) → BoundedNs ns → BoundedDs (typed y ns)
bounded_typed y [] h = tt
bounded_typed y (n ∷ ns) h = (h.0, h.1, bounded_typed y ns h.2)

bounded_decls : (ds es : List (Decl ℕ)) → BoundedDs ds → BoundedDs es → BoundedDs (ds ++ es)
bounded_decls [] es h k = k
bounded_decls (d ∷ ds) es h k = (h.0, h.1, bounded_decls ds es h.2 k)

fits_names : {ns ms : List Named} {i o : List Item} → NamesDer ns i o ms → Fit i → BoundedNs ns → BoundedNs ms × Fit o
fits_names no_name f l = (l, f)
fits_names (a_comma {ns} {n = x} {p} d) f l = fits_names d f.2.2 (bounded_names ns (record { name = x; place = p } ∷ []) l (f.2.0, ltb-true x 64 f.2.1, tt))

fits_decls : {ds es : List (Decl ℕ)} {i o : List Item} → DeclsDer ds i o es → Fit i → BoundedDs ds → BoundedDs es × Fit o
fits_decls no_decl f l = (l, f)
fits_decls (a_decl {ds} {ns} {n = x} {y} a b) f l =
    let r = fits_names a f.2 (f.0, ltb-true x 64 f.1, tt) in
    fits_decls b r.1.2.2.2 (bounded_decls ds (typed y ns) l (bounded_typed y ns r.0))

fits_vars : {ds : List (Decl ℕ)} {i o : List Item} → VarsDer i o ds → Fit i → BoundedDs ds × Fit o
fits_vars no_vars f = (tt, f)
fits_vars (some_vars {ns} {n = x} {y} a b) f =
    let r = fits_names a f.2.2 (f.2.0, ltb-true x 64 f.2.1, tt) in
    fits_decls b r.1.2.2.2 (bounded_typed y ns r.0)

fits_program : {i o : List Item} {t : tree.Program ℕ} → ProgramDer i o t → Fit i → Bounded t
fits_program (is_program v c e) f =
    let r = fits_vars v f.2.2.2 in
    let s = fits_cmd c r.1.2 tt in
    let u = fits_cmd e s.1 s.0 in
    (f.0, r.0, u.0)

pub bounded : (ts : List Item) (t : tree.Program ℕ) → Text ts t → Fit ts → Bounded t
bounded ts t d f = fits_program d f
