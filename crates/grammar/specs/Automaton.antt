-- The automaton that reads a text token by token: what it still expects is a list of symbols, its stack.
-- It is generic in what it builds, and in a watch that is told of each token with its depth.
use Rattle.std.specs.Prelude.{ℕ, suc, cond, List, [], ◌∷◌, ◌++◌}
use Rattle.tosca.specs.declared.operators.SimpleType.{SimpleType}
use Rattle.tosca.specs.declared.operators.Unary.TheVariants as unary
use Rattle.tosca.specs.declared.operators.Binary.TheVariants as binary
use Rattle.grammar.specs.declared.symbols.Adding.TheVariants.{Plus, Minus, Or}
use Rattle.grammar.specs.declared.symbols.Operator.TheVariants.{Mul, Add, Rel}
use Rattle.grammar.specs.declared.symbols.Prefix.TheVariants.{Open, Not, Round}
use Rattle.grammar.specs.declared.symbols.Start.TheVariants.{Begin, If, While, Read, Write}
use Rattle.grammar.specs.declared.symbols.Mark.{Mark}
use Rattle.grammar.specs.declared.symbols.Mark.TheVariants.{Program, Var, Semicolon, Comma, Colon, Becomes, Close, Slash, Then, Do, End, Period, Stop}
use Rattle.grammar.specs.Tokens.{Tok, name, lit, op, pre, start, else', unused, ty, mark, Item, at, Seen, no, yes, pick, as_mul, as_add, as_rel, is_else, same}
use Rattle.grammar.specs.Building.{mul_op, add_op, rel_op, Named, typed, declares}
use Rattle.grammar.specs.Building.{Act, a_const, a_var, a_uny, a_bin, a_skip, a_assign, a_seq, a_choice, a_loop, a_input, a_output, a_program}

pub data Sym : Type 0 where
  expr : Sym
  rels : Sym  -- [relop simple]
  simple : Sym
  simples : Sym  -- {addop term}
  term : Sym
  terms : Sym  -- {mulop factor}
  factor : Sym
  cmd : Sym
  elses : Sym  -- [else cmd]
  cmds : Sym  -- {; cmd} end
  is : Mark → Sym
  is_open : Sym
  is_assigned : ℕ → Sym  -- := expr, after a name
  is_input : ℕ → Sym  -- name, after read
  text : Sym
  title : Sym
  vars : Sym  -- [var decl {decl}] begin cmds end .
  decls : Sym  -- {decl} begin cmds end .
  a_name : List Named → Sym  -- name {, name} : type ; {decl} begin cmds end .
  names : List Named → Sym  -- {, name} : type ; ..
  type : List Named → Sym  -- type ; ..
  does : Act → Sym
  leave : Sym

pub data Move (S : Type 0) : Type 0 where
  stuck : Move S
  go : List Sym → S → Move S

-- how many openers are open
abbrev pub marks : List Sym → ℕ
marks [] = 0
marks (leave ∷ K) = suc (marks K)
marks (expr ∷ K) = marks K
marks (rels ∷ K) = marks K
marks (simple ∷ K) = marks K
marks (simples ∷ K) = marks K
marks (term ∷ K) = marks K
marks (terms ∷ K) = marks K
marks (factor ∷ K) = marks K
marks (cmd ∷ K) = marks K
marks (elses ∷ K) = marks K
marks (cmds ∷ K) = marks K
marks (is m ∷ K) = marks K
marks (is_open ∷ K) = marks K
marks (is_assigned n ∷ K) = marks K
marks (is_input n ∷ K) = marks K
marks (text ∷ K) = marks K
marks (title ∷ K) = marks K
marks (vars ∷ K) = marks K
marks (decls ∷ K) = marks K
marks (a_name ns ∷ K) = marks K
marks (names ns ∷ K) = marks K
marks (type ns ∷ K) = marks K
marks (does a ∷ K) = marks K

abbrev pub body : List Sym → List Sym
body K = cmd ∷ cmds ∷ leave ∷ is Period ∷ K

module _ {S : Type 0} (act : Act → S → S) where
  abbrev pub at_factor : List Sym → S → Tok → ℕ → Move S
  at_factor K s (name n) p = go K (act (a_var p n) s)
  at_factor K s (lit l) p = go K (act (a_const p l) s)
  at_factor K s (pre Open) p = go (expr ∷ is Close ∷ leave ∷ K) s
  at_factor K s (pre Not) p = go (factor ∷ does (a_uny p unary.Not) ∷ leave ∷ K) s
  at_factor K s (pre Round) p = go (is_open ∷ factor ∷ is Slash ∷ factor ∷ is Close ∷ does (a_bin p binary.Round) ∷ leave ∷ K) s
  at_factor K s (op o) p = stuck
  at_factor K s (start x) p = stuck
  at_factor K s else' p = stuck
  at_factor K s unused p = stuck
  at_factor K s (ty x) p = stuck
  at_factor K s (mark m) p = stuck

  -- a term, or one after a minus
  abbrev pub at_simple : List Sym → S → Tok → ℕ → Move S
  at_simple K s (op (Add Minus)) p = go (term ∷ does (a_uny p unary.Negate) ∷ simples ∷ K) s
  at_simple K s (op (Add Plus)) p = stuck
  at_simple K s (op (Add Or)) p = stuck
  at_simple K s (op (Mul o)) p = stuck
  at_simple K s (op (Rel o)) p = stuck
  at_simple K s (name n) p = at_factor (terms ∷ simples ∷ K) s (name n) p
  at_simple K s (lit l) p = at_factor (terms ∷ simples ∷ K) s (lit l) p
  at_simple K s (pre x) p = at_factor (terms ∷ simples ∷ K) s (pre x) p
  at_simple K s (start x) p = stuck
  at_simple K s else' p = stuck
  at_simple K s unused p = stuck
  at_simple K s (ty x) p = stuck
  at_simple K s (mark m) p = stuck

  abbrev pub at_mark : Mark → Tok → Move S → Move S → Move S
  at_mark n (mark m) a b = cond (same m n) a b
  at_mark n (op o) a b = b
  at_mark n (name x) a b = b
  at_mark n (lit x) a b = b
  at_mark n (pre x) a b = b
  at_mark n (start x) a b = b
  at_mark n else' a b = b
  at_mark n unused a b = b
  at_mark n (ty x) a b = b

  abbrev pub at_open : Tok → Move S → Move S
  at_open (pre Open) a = a
  at_open (pre Not) a = stuck
  at_open (pre Round) a = stuck
  at_open (mark m) a = stuck
  at_open (op o) a = stuck
  at_open (name x) a = stuck
  at_open (lit x) a = stuck
  at_open (start x) a = stuck
  at_open else' a = stuck
  at_open unused a = stuck
  at_open (ty x) a = stuck

  abbrev pub at_name : Tok → (ℕ → Move S) → Move S → Move S
  at_name (name n) f b = f n
  at_name (pre x) f b = b
  at_name (mark m) f b = b
  at_name (op o) f b = b
  at_name (lit x) f b = b
  at_name (start x) f b = b
  at_name else' f b = b
  at_name unused f b = b
  at_name (ty x) f b = b

  abbrev pub at_begin : Tok → Move S → Move S
  at_begin (start Begin) a = a
  at_begin (start If) a = stuck
  at_begin (start While) a = stuck
  at_begin (start Read) a = stuck
  at_begin (start Write) a = stuck
  at_begin (name n) a = stuck
  at_begin (pre x) a = stuck
  at_begin (mark m) a = stuck
  at_begin (op o) a = stuck
  at_begin (lit x) a = stuck
  at_begin else' a = stuck
  at_begin unused a = stuck
  at_begin (ty x) a = stuck

  abbrev pub at_type : Tok → (SimpleType → Move S) → Move S
  at_type (ty y) f = f y
  at_type (name n) f = stuck
  at_type (pre x) f = stuck
  at_type (mark m) f = stuck
  at_type (op o) f = stuck
  at_type (lit x) f = stuck
  at_type (start x) f = stuck
  at_type else' f = stuck
  at_type unused f = stuck

  -- a command, or what comes of none
  abbrev pub at_cmd : List Sym → S → Tok → ℕ → Move S → Move S
  at_cmd K s (name n) p b = go (is_assigned n ∷ K) s
  at_cmd K s (start Begin) p b = go (cmd ∷ cmds ∷ leave ∷ K) s
  at_cmd K s (start If) p b = go (expr ∷ is Then ∷ cmd ∷ elses ∷ does (a_choice p) ∷ leave ∷ K) s
  at_cmd K s (start While) p b = go (expr ∷ is Do ∷ cmd ∷ does (a_loop p) ∷ leave ∷ K) s
  at_cmd K s (start Read) p b = go (is_open ∷ is_input p ∷ is Close ∷ K) s
  at_cmd K s (start Write) p b = go (is_open ∷ expr ∷ is Close ∷ does (a_output p) ∷ K) s
  at_cmd K s (lit l) p b = b
  at_cmd K s (op o) p b = b
  at_cmd K s (pre x) p b = b
  at_cmd K s else' p b = b
  at_cmd K s unused p b = b
  at_cmd K s (ty x) p b = b
  at_cmd K s (mark m) p b = b

  -- one token read: what is expected then
  abbrev pub step : List Sym → S → Tok → ℕ → Move S
  step [] s t p = stuck
  step (factor ∷ K) s t p = at_factor K s t p
  step (term ∷ K) s t p = at_factor (terms ∷ K) s t p
  step (simple ∷ K) s t p = at_simple K s t p
  step (expr ∷ K) s t p = at_simple (rels ∷ K) s t p
  step (terms ∷ K) s t p = pick (as_mul t) (step K s t p) (λ o. go (factor ∷ does (a_bin p (mul_op o)) ∷ terms ∷ K) s)
  step (simples ∷ K) s t p = pick (as_add t) (step K s t p) (λ o. go (term ∷ does (a_bin p (add_op o)) ∷ simples ∷ K) s)
  step (rels ∷ K) s t p = pick (as_rel t) (step K s t p) (λ o. go (simple ∷ does (a_bin p (rel_op o)) ∷ K) s)
  step (cmd ∷ K) s t p = at_cmd K s t p (step K (act (a_skip p) s) t p)
  step (elses ∷ K) s t p = cond (is_else t) (go (cmd ∷ K) s) (step K (act (a_skip p) s) t p)
  step (cmds ∷ K) s t p = at_mark Semicolon t (go (cmd ∷ does (a_seq p) ∷ cmds ∷ K) s) (at_mark End t (go K s) stuck)
  step (is m ∷ K) s t p = at_mark m t (go K s) stuck
  step (is_open ∷ K) s t p = at_open t (go K s)
  step (is_assigned n ∷ K) s t p = at_mark Becomes t (go (expr ∷ does (a_assign p n) ∷ K) s) stuck
  step (is_input q ∷ K) s t p = at_name t (λ n. go K (act (a_input q n) s)) stuck
  step (text ∷ K) s t p = at_mark Program t (go (title ∷ is Semicolon ∷ vars ∷ does (a_program p) ∷ is Stop ∷ K) s) stuck
  step (title ∷ K) s t p = at_name t (λ n. go K s) stuck
  step (vars ∷ K) s t p = at_mark Var t (go (a_name [] ∷ K) s) (at_begin t (go (body K) s))
  step (decls ∷ K) s t p = at_name t (λ n. go (names (record { name = n; place = p } ∷ []) ∷ K) s) (at_begin t (go (body K) s))
  step (a_name ns ∷ K) s t p = at_name t (λ n. go (names (ns ++ (record { name = n; place = p } ∷ [])) ∷ K) s) stuck
  step (names ns ∷ K) s t p = at_mark Comma t (go (a_name ns ∷ K) s) (at_mark Colon t (go (type ns ∷ K) s) stuck)
  step (type ns ∷ K) s t p = at_type t (λ y. go (is Semicolon ∷ decls ∷ K) (declares act (typed y ns) s))
  step (does a ∷ K) s t p = step K (act a s) t p
  step (leave ∷ K) s t p = step K s t p

  -- where no token is left: what is built, if nothing more is expected
  abbrev pub settle : List Sym → S → Seen S
  settle [] s = yes s
  settle (leave ∷ K) s = settle K s
  settle (does a ∷ K) s = settle K (act a s)
  settle (rels ∷ K) s = settle K s
  settle (simples ∷ K) s = settle K s
  settle (terms ∷ K) s = settle K s
  settle (cmd ∷ K) s = settle K (act (a_skip 0) s)
  settle (elses ∷ K) s = settle K (act (a_skip 0) s)
  settle (expr ∷ K) s = no
  settle (simple ∷ K) s = no
  settle (term ∷ K) s = no
  settle (factor ∷ K) s = no
  settle (cmds ∷ K) s = no
  settle (is m ∷ K) s = no
  settle (is_open ∷ K) s = no
  settle (is_assigned n ∷ K) s = no
  settle (is_input n ∷ K) s = no
  settle (text ∷ K) s = no
  settle (title ∷ K) s = no
  settle (vars ∷ K) s = no
  settle (decls ∷ K) s = no
  settle (a_name ns ∷ K) s = no
  settle (names ns ∷ K) s = no
  settle (type ns ∷ K) s = no

-- what becomes of a run: at its end, at a refused token, and at each token that is read, with its depth
pub record Watch (S A : Type 0) : Type 0 where
  pub ends : Seen S → A
  pub stops : Item → List Item → A
  pub reads : Item → ℕ → A → A

module _ {S A : Type 0} (act : Act → S → S) (w : Watch S A) where
  abbrev pub after : Item → List Item → Move S → (List Sym → S → A) → A
  after x ts stuck on = w.stops x ts
  after x ts (go K s) on = w.reads x (marks K) (on K s)

  abbrev pub run : List Sym → S → List Item → A
  run K s [] = w.ends (settle act K s)
  run K s (at t p ∷ ts) = after (at t p) ts (step act K s t p) (λ K' s'. run K' s' ts)
