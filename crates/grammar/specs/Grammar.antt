-- The grammar. A derivation of a part takes it from the front of the tokens i, leaves the tokens o, and fixes its tree, each node labelled with its place.
--
--   text    program name ; [var decl {decl}] begin cmds end .
--   decl    name {, name} : (integer | boolean) ;
--   cmds    cmd {; cmd}
--   cmd     nothing | name := expr | begin cmds end | if expr then cmd [else cmd] | while expr do cmd | read ( name ) | write ( expr )
--   expr    simple [(= | < | >) simple]
--   simple  [-] term {(+ | - | or) term}
--   term    factor {(* | div | and) factor}
--   factor  number | true | false | name | ( expr ) | not factor | round ( factor / factor )
use Rattle.std.specs.Prelude.{◌≡◌, ℕ, suc, false, List, [], ◌∷◌, ◌++◌}
use Rattle.tosca.specs.declared.operators.SimpleType.{SimpleType}
use Rattle.tosca.specs.declared.operators.Value.{Value}
use Rattle.tosca.specs.declared.operators.Unary.TheVariants as unary
use Rattle.tosca.specs.declared.operators.Binary.TheVariants as binary
use Rattle.tosca.specs.Trees.{Expr, const, var, uny, bin, Cmd, skip, assign, seq, choice, loop, input, output, Decl}
use Rattle.tosca.specs.Trees as tree
use Rattle.grammar.specs.declared.symbols.Multiplying.{Multiplying}
use Rattle.grammar.specs.declared.symbols.Adding.{Adding}
use Rattle.grammar.specs.declared.symbols.Adding.TheVariants.{Minus}
use Rattle.grammar.specs.declared.symbols.Relation.{Relation}
use Rattle.grammar.specs.declared.symbols.Operator.TheVariants.{Mul, Add, Rel}
use Rattle.grammar.specs.declared.symbols.Prefix.TheVariants.{Open, Not, Round}
use Rattle.grammar.specs.declared.symbols.Start.TheVariants.{Begin, If, While, Read, Write}
use Rattle.grammar.specs.declared.symbols.Mark.TheVariants.{Program, Var, Semicolon, Comma, Colon, Becomes, Close, Slash, Then, Do, End, Period, Stop}
use Rattle.grammar.specs.Tokens.{name, lit, op, pre, start, else', ty, mark, Item, at, next_else, next_place}
use Rattle.grammar.specs.Building.{mul_op, add_op, rel_op, Named, typed}

-- the parts of an expression; the rest of a list of operands knows the tree on its left, so operators group to the left
pub data ExprPart : Type 0 where
  expr : ExprPart
  rels : Expr ℕ → ExprPart  -- [(= | < | >) simple]
  simple : ExprPart
  simples : Expr ℕ → ExprPart  -- {(+ | - | or) term}
  term : ExprPart
  terms : Expr ℕ → ExprPart  -- {(* | div | and) factor}
  factor : ExprPart

pub data ExprDer : ExprPart → List Item → List Item → Expr ℕ → Type 0 where
  is_lit : {p : ℕ} {v : Value} {o : List Item} → ExprDer factor (at (lit v) p ∷ o) o (const p v)
  is_var : {p n : ℕ} {o : List Item} → ExprDer factor (at (name n) p ∷ o) o (var p n)
  is_bracket : {p q : ℕ} {i o : List Item} {a : Expr ℕ} → ExprDer expr i (at (mark Close) q ∷ o) a → ExprDer factor (at (pre Open) p ∷ i) o a
  is_not : {p : ℕ} {i o : List Item} {a : Expr ℕ} → ExprDer factor i o a → ExprDer factor (at (pre Not) p ∷ i) o (uny p unary.Not a)
  is_round : {p q r z : ℕ} {i m o : List Item} {a b : Expr ℕ} → ExprDer factor i (at (mark Slash) r ∷ m) a → ExprDer factor m (at (mark Close) z ∷ o) b → ExprDer factor (at (pre Round) p ∷ at (pre Open) q ∷ i) o (bin p a binary.Round b)
  is_term : {i m o : List Item} {a b : Expr ℕ} → ExprDer factor i m a → ExprDer (terms a) m o b → ExprDer term i o b
  multiplies_none : {o : List Item} {a : Expr ℕ} → ExprDer (terms a) o o a
  a_mul : {p : ℕ} {x : Multiplying} {i m o : List Item} {a b d : Expr ℕ} → ExprDer factor i m b → ExprDer (terms (bin p a (mul_op x) b)) m o d → ExprDer (terms a) (at (op (Mul x)) p ∷ i) o d
  is_simple : {i m o : List Item} {a b : Expr ℕ} → ExprDer term i m a → ExprDer (simples a) m o b → ExprDer simple i o b
  -- a leading minus takes the whole first term
  is_minus : {p : ℕ} {i m o : List Item} {a b : Expr ℕ} → ExprDer term i m a → ExprDer (simples (uny p unary.Negate a)) m o b → ExprDer simple (at (op (Add Minus)) p ∷ i) o b
  adds_none : {o : List Item} {a : Expr ℕ} → ExprDer (simples a) o o a
  a_add : {p : ℕ} {x : Adding} {i m o : List Item} {a b d : Expr ℕ} → ExprDer term i m b → ExprDer (simples (bin p a (add_op x) b)) m o d → ExprDer (simples a) (at (op (Add x)) p ∷ i) o d
  is_expr : {i m o : List Item} {a b : Expr ℕ} → ExprDer simple i m a → ExprDer (rels a) m o b → ExprDer expr i o b
  relates_none : {o : List Item} {a : Expr ℕ} → ExprDer (rels a) o o a
  a_rel : {p : ℕ} {x : Relation} {i o : List Item} {a b : Expr ℕ} → ExprDer simple i o b → ExprDer (rels a) (at (op (Rel x)) p ∷ i) o (bin p a (rel_op x) b)

-- the parts of a command; a list of commands is a seq of all before its last `;` and the last
pub data CmdPart : Type 0 where
  cmd : CmdPart
  elses : CmdPart  -- [else cmd]
  cmds : Cmd ℕ → CmdPart  -- {; cmd} end

-- a skip's place is that of the token that follows it
pub data CmdDer : CmdPart → List Item → List Item → Cmd ℕ → Type 0 where
  is_skip : {o : List Item} → CmdDer cmd o o (skip (next_place o))
  is_assign : {p n q : ℕ} {i o : List Item} {a : Expr ℕ} → ExprDer expr i o a → CmdDer cmd (at (name n) q ∷ at (mark Becomes) p ∷ i) o (assign p n a)
  is_block : {p : ℕ} {i m o : List Item} {a b : Cmd ℕ} → CmdDer cmd i m a → CmdDer (cmds a) m o b → CmdDer cmd (at (start Begin) p ∷ i) o b
  is_if : {p q : ℕ} {i m k o : List Item} {a : Expr ℕ} {b d : Cmd ℕ} → ExprDer expr i (at (mark Then) q ∷ m) a → CmdDer cmd m k b → CmdDer elses k o d → CmdDer cmd (at (start If) p ∷ i) o (choice p a b d)
  is_while : {p q : ℕ} {i m o : List Item} {a : Expr ℕ} {b : Cmd ℕ} → ExprDer expr i (at (mark Do) q ∷ m) a → CmdDer cmd m o b → CmdDer cmd (at (start While) p ∷ i) o (loop p a b)
  is_read : {p n q r z : ℕ} {o : List Item} → CmdDer cmd (at (start Read) p ∷ at (pre Open) q ∷ at (name n) r ∷ at (mark Close) z ∷ o) o (input p n)
  is_write : {p q z : ℕ} {i o : List Item} {a : Expr ℕ} → ExprDer expr i (at (mark Close) z ∷ o) a → CmdDer cmd (at (start Write) p ∷ at (pre Open) q ∷ i) o (output p a)
  -- where an else follows, it belongs to the nearest if that has none
  no_else : {o : List Item} → next_else o ≡ false → CmdDer elses o o (skip (next_place o))
  an_else : {q : ℕ} {i o : List Item} {a : Cmd ℕ} → CmdDer cmd i o a → CmdDer elses (at else' q ∷ i) o a
  is_end : {q : ℕ} {o : List Item} {a : Cmd ℕ} → CmdDer (cmds a) (at (mark End) q ∷ o) o a
  a_semi : {p : ℕ} {i m o : List Item} {a b d : Cmd ℕ} → CmdDer cmd i m b → CmdDer (cmds (seq p a b)) m o d → CmdDer (cmds a) (at (mark Semicolon) p ∷ i) o d

-- {, name}, after the names ns
pub data NamesDer : List Named → List Item → List Item → List Named → Type 0 where
  no_name : {ns : List Named} {o : List Item} → NamesDer ns o o ns
  a_comma : {ns ms : List Named} {n p q : ℕ} {i o : List Item} → NamesDer (ns ++ (record { name = n; place = p } ∷ [])) i o ms → NamesDer ns (at (mark Comma) q ∷ at (name n) p ∷ i) o ms

-- {decl}, after the declarations ds
pub data DeclsDer : List (Decl ℕ) → List Item → List Item → List (Decl ℕ) → Type 0 where
  no_decl : {ds : List (Decl ℕ)} {o : List Item} → DeclsDer ds o o ds
  a_decl : {ds es : List (Decl ℕ)} {ns : List Named} {n p q r z : ℕ} {y : SimpleType} {i m o : List Item} → NamesDer (record { name = n; place = p } ∷ []) i (at (mark Colon) q ∷ at (ty y) r ∷ at (mark Semicolon) z ∷ m) ns → DeclsDer (ds ++ typed y ns) m o es → DeclsDer ds (at (name n) p ∷ i) o es

-- [var decl {decl}]
pub data VarsDer : List Item → List Item → List (Decl ℕ) → Type 0 where
  no_vars : {o : List Item} → VarsDer o o []
  some_vars : {es : List (Decl ℕ)} {ns : List Named} {n p v q r z : ℕ} {y : SimpleType} {i m o : List Item} → NamesDer (record { name = n; place = p } ∷ []) i (at (mark Colon) q ∷ at (ty y) r ∷ at (mark Semicolon) z ∷ m) ns → DeclsDer (typed y ns) m o es → VarsDer (at (mark Var) v ∷ at (name n) p ∷ i) o es

-- a program, and the end of the text
pub data ProgramDer : List Item → List Item → tree.Program ℕ → Type 0 where
  is_program : {p n x y b q z : ℕ} {i j m o : List Item} {ds : List (Decl ℕ)} {a d : Cmd ℕ} →
      VarsDer i (at (start Begin) b ∷ j) ds → CmdDer cmd j m a → CmdDer (cmds a) m (at (mark Period) q ∷ at (mark Stop) z ∷ o) d →
      ProgramDer (at (mark Program) p ∷ at (name n) x ∷ at (mark Semicolon) y ∷ i) o (record { label = p; decls = ds; body = d })

-- the tokens are a whole text of the grammar: nothing stands after its end
abbrev pub Text : List Item → tree.Program ℕ → Type 0
Text ts t = ProgramDer ts [] t

-- a token and its depth: the begin, if, while, not, round and bracketed factors around it, and one that it opens
pub data Deep : Type 0 where
  deep : Item → ℕ → Deep

-- the tokens of a derivation with their depths, where n are open around it, before those in r
abbrev pub expr_depths : {X : ExprPart} {i o : List Item} {t : Expr ℕ} → ExprDer X i o t → ℕ → List Deep → List Deep
expr_depths (is_lit {p} {v}) n r = deep (at (lit v) p) n ∷ r
expr_depths (is_var {p} {n = v}) n r = deep (at (name v) p) n ∷ r
expr_depths (is_bracket {p} {q} d) n r = deep (at (pre Open) p) (suc n) ∷ expr_depths d (suc n) (deep (at (mark Close) q) (suc n) ∷ r)
expr_depths (is_not {p} d) n r = deep (at (pre Not) p) (suc n) ∷ expr_depths d (suc n) r
expr_depths (is_round {p} {q} {r = u} {z} d e) n r = deep (at (pre Round) p) (suc n) ∷ deep (at (pre Open) q) (suc n) ∷ expr_depths d (suc n) (deep (at (mark Slash) u) (suc n) ∷ expr_depths e (suc n) (deep (at (mark Close) z) (suc n) ∷ r))
expr_depths (is_term d e) n r = expr_depths d n (expr_depths e n r)
expr_depths multiplies_none n r = r
expr_depths (a_mul {p} {x} d e) n r = deep (at (op (Mul x)) p) n ∷ expr_depths d n (expr_depths e n r)
expr_depths (is_simple d e) n r = expr_depths d n (expr_depths e n r)
expr_depths (is_minus {p} d e) n r = deep (at (op (Add Minus)) p) n ∷ expr_depths d n (expr_depths e n r)
expr_depths adds_none n r = r
expr_depths (a_add {p} {x} d e) n r = deep (at (op (Add x)) p) n ∷ expr_depths d n (expr_depths e n r)
expr_depths (is_expr d e) n r = expr_depths d n (expr_depths e n r)
expr_depths relates_none n r = r
expr_depths (a_rel {p} {x} d) n r = deep (at (op (Rel x)) p) n ∷ expr_depths d n r

abbrev pub cmd_depths : {X : CmdPart} {i o : List Item} {t : Cmd ℕ} → CmdDer X i o t → ℕ → List Deep → List Deep
cmd_depths is_skip n r = r
cmd_depths (is_assign {p} {n = v} {q} d) n r = deep (at (name v) q) n ∷ deep (at (mark Becomes) p) n ∷ expr_depths d n r
cmd_depths (is_block {p} d e) n r = deep (at (start Begin) p) (suc n) ∷ cmd_depths d (suc n) (cmd_depths e (suc n) r)
cmd_depths (is_if {p} {q} x y z) n r = deep (at (start If) p) (suc n) ∷ expr_depths x (suc n) (deep (at (mark Then) q) (suc n) ∷ cmd_depths y (suc n) (cmd_depths z (suc n) r))
cmd_depths (is_while {p} {q} x y) n r = deep (at (start While) p) (suc n) ∷ expr_depths x (suc n) (deep (at (mark Do) q) (suc n) ∷ cmd_depths y (suc n) r)
cmd_depths (is_read {p} {n = v} {q} {r = u} {z}) n r = deep (at (start Read) p) n ∷ deep (at (pre Open) q) n ∷ deep (at (name v) u) n ∷ deep (at (mark Close) z) n ∷ r
cmd_depths (is_write {p} {q} {z} d) n r = deep (at (start Write) p) n ∷ deep (at (pre Open) q) n ∷ expr_depths d n (deep (at (mark Close) z) n ∷ r)
cmd_depths (no_else h) n r = r
cmd_depths (an_else {q} d) n r = deep (at else' q) n ∷ cmd_depths d n r
cmd_depths (is_end {q}) n r = deep (at (mark End) q) n ∷ r
cmd_depths (a_semi {p} d e) n r = deep (at (mark Semicolon) p) n ∷ cmd_depths d n (cmd_depths e n r)

abbrev pub names_depths : {ns ms : List Named} {i o : List Item} → NamesDer ns i o ms → ℕ → List Deep → List Deep
names_depths no_name d r = r
names_depths (a_comma {n} {p} {q} e) d r = deep (at (mark Comma) q) d ∷ deep (at (name n) p) d ∷ names_depths e d r

abbrev pub decls_depths : {ds es : List (Decl ℕ)} {i o : List Item} → DeclsDer ds i o es → ℕ → List Deep → List Deep
decls_depths no_decl d l = l
decls_depths (a_decl {n} {p} {q} {r} {z} {y} a b) d l = deep (at (name n) p) d ∷ names_depths a d (deep (at (mark Colon) q) d ∷ deep (at (ty y) r) d ∷ deep (at (mark Semicolon) z) d ∷ decls_depths b d l)

abbrev pub vars_depths : {ds : List (Decl ℕ)} {i o : List Item} → VarsDer i o ds → ℕ → List Deep → List Deep
vars_depths no_vars d l = l
vars_depths (some_vars {n} {p} {v} {q} {r} {z} {y} a b) d l = deep (at (mark Var) v) d ∷ deep (at (name n) p) d ∷ names_depths a d (deep (at (mark Colon) q) d ∷ deep (at (ty y) r) d ∷ deep (at (mark Semicolon) z) d ∷ decls_depths b d l)

abbrev pub program_depths : {i o : List Item} {t : tree.Program ℕ} → ProgramDer i o t → ℕ → List Deep → List Deep
program_depths (is_program {p} {n} {x} {y} {b} {q} {z} v c e) d l =
    deep (at (mark Program) p) d ∷ deep (at (name n) x) d ∷ deep (at (mark Semicolon) y) d ∷ vars_depths v d (deep (at (start Begin) b) (suc d) ∷ cmd_depths c (suc d) (cmd_depths e (suc d) (deep (at (mark Period) q) d ∷ deep (at (mark Stop) z) d ∷ l)))

-- each token of a text with its depth; the program's own begin counts
abbrev pub text_depths : {ts : List Item} {t : tree.Program ℕ} → Text ts t → List Deep
text_depths d = program_depths d 0 []
