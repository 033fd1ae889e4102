-- The cases of a step: a fact of a token and what is made of it holds if it holds in each case that the automaton tells apart.
use Rattle.std.proofs.Common.{◌≡◌, ℕ, Bool, true, false, cond, eqb, List, ◌∷◌, sym, refl, ap, ◌∙◌, subst, eqb-true}
use Rattle.tosca.specs.declared.operators.SimpleType.{SimpleType}
use Rattle.tosca.specs.declared.operators.Value.{Value}
use Rattle.tosca.specs.declared.operators.Unary.TheVariants as unary
use Rattle.tosca.specs.declared.operators.Binary.TheVariants as binary
use Rattle.grammar.specs.declared.symbols.Multiplying.{Multiplying}
use Rattle.grammar.specs.declared.symbols.Adding.{Adding}
use Rattle.grammar.specs.declared.symbols.Adding.TheVariants.{Plus, Minus, Or}
use Rattle.grammar.specs.declared.symbols.Relation.{Relation}
use Rattle.grammar.specs.declared.symbols.Operator.TheVariants.{Mul, Add, Rel}
use Rattle.grammar.specs.declared.symbols.Prefix.TheVariants.{Open, Not, Round}
use Rattle.grammar.specs.declared.symbols.Start.TheVariants.{Begin, If, While, Read, Write}
use Rattle.grammar.specs.declared.symbols.Mark.{Mark}
use Rattle.grammar.specs.declared.symbols.Mark.TheVariants.{Program, Var, Semicolon, Comma, Colon, Becomes, Close, Slash, Then, Do, End, Period, Stop}
use Rattle.grammar.specs.Tokens.{Tok, name, lit, op, pre, start, else', unused, ty, mark, pick, as_mul, as_add, as_rel, is_else, code, same}
use Rattle.grammar.specs.Building.{Named, Act, a_const, a_var, a_uny, a_bin, a_choice, a_loop, a_output}
use Rattle.grammar.specs.Automaton.{Sym, expr, simples, term, terms, factor, cmd, elses, cmds, is, is_open, is_assigned, is_input, does, leave}
use Rattle.grammar.specs.Automaton.{Move, stuck, go, at_factor, at_simple, at_mark, at_open, at_name, at_begin, at_type, at_cmd}

abbrev pub named : ℕ → ℕ → Named
named n p = record { name = n; place = p }

abbrev uncode : ℕ → Mark
uncode k = cond (eqb k 0) Program (cond (eqb k 1) Var (cond (eqb k 2) Semicolon (cond (eqb k 3) Comma (cond (eqb k 4) Colon (cond (eqb k 5) Becomes (cond (eqb k 6) Close (cond (eqb k 7) Slash (cond (eqb k 8) Then (cond (eqb k 9) Do (cond (eqb k 10) End (cond (eqb k 11) Period Stop)))))))))))

uncoded : (m : Mark) → uncode (code m) ≡ m
uncoded Program = refl
uncoded Var = refl
uncoded Semicolon = refl
uncoded Comma = refl
uncoded Colon = refl
uncoded Becomes = refl
uncoded Close = refl
uncoded Slash = refl
uncoded Then = refl
uncoded Do = refl
uncoded End = refl
uncoded Period = refl
uncoded Stop = refl

pub same_mark : (m n : Mark) → same m n ≡ true → m ≡ n
same_mark m n e = sym (uncoded m) ∙ ap uncode (eqb-true (code m) (code n) e) ∙ uncoded n

module _ {S : Type 0} (act : Act → S → S) (P : Tok → Move S → Type 0) where
  by_cond : (m n : Mark) (b : Bool) (x y : Move S) → same m n ≡ b → P (mark n) x → P (mark m) y → P (mark m) (cond b x y)
  by_cond m n true x y e h k = subst (λ v. P (mark v) x) (sym (same_mark m n e)) h
  by_cond m n false x y e h k = k

  pub by_mark : (n : Mark) (t : Tok) (x y : Move S) → P (mark n) x → P t y → P t (at_mark act n t x y)
  by_mark n (name x') x y h k = k
  by_mark n (lit x') x y h k = k
  by_mark n (op x') x y h k = k
  by_mark n (pre x') x y h k = k
  by_mark n (start x') x y h k = k
  by_mark n else' x y h k = k
  by_mark n unused x y h k = k
  by_mark n (ty x') x y h k = k
  by_mark n (mark m) x y h k = by_cond m n (same m n) x y refl h k

  pub by_open : (t : Tok) (x : Move S) → P (pre Open) x → ((u : Tok) → P u stuck) → P t (at_open act t x)
  by_open (pre Open) x h k = h
  by_open (pre Not) x h k = k (pre Not)
  by_open (pre Round) x h k = k (pre Round)
  by_open (name x') x h k = k (name x')
  by_open (lit x') x h k = k (lit x')
  by_open (op x') x h k = k (op x')
  by_open (start x') x h k = k (start x')
  by_open else' x h k = k else'
  by_open unused x h k = k unused
  by_open (ty x') x h k = k (ty x')
  by_open (mark x') x h k = k (mark x')

  pub by_begin : (t : Tok) (x : Move S) → P (start Begin) x → ((u : Tok) → P u stuck) → P t (at_begin act t x)
  by_begin (start Begin) x h k = h
  by_begin (start If) x h k = k (start If)
  by_begin (start While) x h k = k (start While)
  by_begin (start Read) x h k = k (start Read)
  by_begin (start Write) x h k = k (start Write)
  by_begin (name x') x h k = k (name x')
  by_begin (lit x') x h k = k (lit x')
  by_begin (op x') x h k = k (op x')
  by_begin (pre x') x h k = k (pre x')
  by_begin else' x h k = k else'
  by_begin unused x h k = k unused
  by_begin (ty x') x h k = k (ty x')
  by_begin (mark x') x h k = k (mark x')

  pub by_type : (t : Tok) (f : SimpleType → Move S) → ((y : SimpleType) → P (ty y) (f y)) → ((u : Tok) → P u stuck) → P t (at_type act t f)
  by_type (ty y) f h k = h y
  by_type (name x') f h k = k (name x')
  by_type (lit x') f h k = k (lit x')
  by_type (op x') f h k = k (op x')
  by_type (pre x') f h k = k (pre x')
  by_type (start x') f h k = k (start x')
  by_type else' f h k = k else'
  by_type unused f h k = k unused
  by_type (mark x') f h k = k (mark x')

  pub by_name : (t : Tok) (f : ℕ → Move S) (y : Move S) → ((n : ℕ) → P (name n) (f n)) → P t y → P t (at_name act t f y)
  by_name (name n) f y h k = h n
  by_name (lit x') f y h k = k
  by_name (op x') f y h k = k
  by_name (pre x') f y h k = k
  by_name (start x') f y h k = k
  by_name else' f y h k = k
  by_name unused f y h k = k
  by_name (ty x') f y h k = k
  by_name (mark x') f y h k = k

  pub by_mul : (t : Tok) (x : Move S) (f : Multiplying → Move S) → P t x → ((o : Multiplying) → P (op (Mul o)) (f o)) → P t (pick (as_mul t) x f)
  by_mul (op (Mul o)) x f h k = k o
  by_mul (op (Add o)) x f h k = h
  by_mul (op (Rel o)) x f h k = h
  by_mul (name x') x f h k = h
  by_mul (lit x') x f h k = h
  by_mul (pre x') x f h k = h
  by_mul (start x') x f h k = h
  by_mul else' x f h k = h
  by_mul unused x f h k = h
  by_mul (ty x') x f h k = h
  by_mul (mark x') x f h k = h

  pub by_add : (t : Tok) (x : Move S) (f : Adding → Move S) → P t x → ((o : Adding) → P (op (Add o)) (f o)) → P t (pick (as_add t) x f)
  by_add (op (Mul o)) x f h k = h
  by_add (op (Add o)) x f h k = k o
  by_add (op (Rel o)) x f h k = h
  by_add (name x') x f h k = h
  by_add (lit x') x f h k = h
  by_add (pre x') x f h k = h
  by_add (start x') x f h k = h
  by_add else' x f h k = h
  by_add unused x f h k = h
  by_add (ty x') x f h k = h
  by_add (mark x') x f h k = h

  pub by_rel : (t : Tok) (x : Move S) (f : Relation → Move S) → P t x → ((o : Relation) → P (op (Rel o)) (f o)) → P t (pick (as_rel t) x f)
  by_rel (op (Mul o)) x f h k = h
  by_rel (op (Add o)) x f h k = h
  by_rel (op (Rel o)) x f h k = k o
  by_rel (name x') x f h k = h
  by_rel (lit x') x f h k = h
  by_rel (pre x') x f h k = h
  by_rel (start x') x f h k = h
  by_rel else' x f h k = h
  by_rel unused x f h k = h
  by_rel (ty x') x f h k = h
  by_rel (mark x') x f h k = h

  pub by_else : (t : Tok) (x y : Move S) → P else' x → (is_else t ≡ false → P t y) → P t (cond (is_else t) x y)
  by_else (name x') x y h k = k refl
  by_else (lit x') x y h k = k refl
  by_else (op x') x y h k = k refl
  by_else (pre x') x y h k = k refl
  by_else (start x') x y h k = k refl
  by_else else' x y h k = h
  by_else unused x y h k = k refl
  by_else (ty x') x y h k = k refl
  by_else (mark x') x y h k = k refl

  pub by_factor : (K : List Sym) (s : S) (t : Tok) (p : ℕ) →
      ((n : ℕ) → P (name n) (go K (act (a_var p n) s))) →
      ((v : Value) → P (lit v) (go K (act (a_const p v) s))) →
      P (pre Open) (go (expr ∷ is Close ∷ leave ∷ K) s) →
      P (pre Not) (go (factor ∷ does (a_uny p unary.Not) ∷ leave ∷ K) s) →
      P (pre Round) (go (is_open ∷ factor ∷ is Slash ∷ factor ∷ is Close ∷ does (a_bin p binary.Round) ∷ leave ∷ K) s) →
      ((u : Tok) → P u stuck) → P t (at_factor act K s t p)
  by_factor K s (name n) p a b c d e k = a n
  by_factor K s (lit v) p a b c d e k = b v
  by_factor K s (pre Open) p a b c d e k = c
  by_factor K s (pre Not) p a b c d e k = d
  by_factor K s (pre Round) p a b c d e k = e
  by_factor K s (op x') p a b c d e k = k (op x')
  by_factor K s (start x') p a b c d e k = k (start x')
  by_factor K s else' p a b c d e k = k else'
  by_factor K s unused p a b c d e k = k unused
  by_factor K s (ty x') p a b c d e k = k (ty x')
  by_factor K s (mark x') p a b c d e k = k (mark x')

  pub by_simple : (K : List Sym) (s : S) (t : Tok) (p : ℕ) →
      P (op (Add Minus)) (go (term ∷ does (a_uny p unary.Negate) ∷ simples ∷ K) s) →
      ((u : Tok) → P u (at_factor act (terms ∷ simples ∷ K) s u p)) →
      ((u : Tok) → P u stuck) → P t (at_simple act K s t p)
  by_simple K s (op (Add Minus)) p a b k = a
  by_simple K s (op (Add Plus)) p a b k = k (op (Add Plus))
  by_simple K s (op (Add Or)) p a b k = k (op (Add Or))
  by_simple K s (op (Mul o)) p a b k = k (op (Mul o))
  by_simple K s (op (Rel o)) p a b k = k (op (Rel o))
  by_simple K s (start x') p a b k = k (start x')
  by_simple K s else' p a b k = k else'
  by_simple K s unused p a b k = k unused
  by_simple K s (ty x') p a b k = k (ty x')
  by_simple K s (mark x') p a b k = k (mark x')
  by_simple K s (name x') p a b k = b (name x')
  by_simple K s (lit x') p a b k = b (lit x')
  by_simple K s (pre x') p a b k = b (pre x')

  pub by_cmd : (K : List Sym) (s : S) (t : Tok) (p : ℕ) (y : Move S) →
      ((n : ℕ) → P (name n) (go (is_assigned n ∷ K) s)) →
      P (start Begin) (go (cmd ∷ cmds ∷ leave ∷ K) s) →
      P (start If) (go (expr ∷ is Then ∷ cmd ∷ elses ∷ does (a_choice p) ∷ leave ∷ K) s) →
      P (start While) (go (expr ∷ is Do ∷ cmd ∷ does (a_loop p) ∷ leave ∷ K) s) →
      P (start Read) (go (is_open ∷ is_input p ∷ is Close ∷ K) s) →
      P (start Write) (go (is_open ∷ expr ∷ is Close ∷ does (a_output p) ∷ K) s) →
      P t y → P t (at_cmd act K s t p y)
  by_cmd K s (name n) p y a b c d e f k = a n
  by_cmd K s (start Begin) p y a b c d e f k = b
  by_cmd K s (start If) p y a b c d e f k = c
  by_cmd K s (start While) p y a b c d e f k = d
  by_cmd K s (start Read) p y a b c d e f k = e
  by_cmd K s (start Write) p y a b c d e f k = f
  by_cmd K s (lit x') p y a b c d e f k = k
  by_cmd K s (op x') p y a b c d e f k = k
  by_cmd K s (pre x') p y a b c d e f k = k
  by_cmd K s else' p y a b c d e f k = k
  by_cmd K s unused p y a b c d e f k = k
  by_cmd K s (ty x') p y a b c d e f k = k
  by_cmd K s (mark x') p y a b c d e f k = k
