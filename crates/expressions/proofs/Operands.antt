-- Each way through the functions of expressions.
use Rattle.std.proofs.Common.{◌≡◌, ℕ, suc, ◌+◌, ◌<◌, ◌≤◌, true, false, cond, List, [], ◌∷◌, Ok, Err, Result, sym, refl, ap, ◌∙◌, subst, arith, lt-ltb}
use Rattle.tosca.specs.declared.operators.Value.{Value}
use Rattle.tosca.specs.declared.operators.Unary.TheVariants as unary
use Rattle.tosca.specs.declared.operators.Binary.{Binary}
use Rattle.tosca.specs.declared.operators.Binary.TheVariants as binary
use Rattle.tosca.specs.declared.table.Entry.{Entry}
use Rattle.tosca.specs.declared.table.Node.TheVariants.{Bin, Uny, Const, Var}
use Rattle.grammar.specs.declared.symbols.Adding.TheVariants.{Plus, Minus, Or}
use Rattle.grammar.specs.declared.symbols.Operator.TheVariants.{Mul, Add, Rel}
use Rattle.grammar.specs.declared.symbols.Prefix.{Prefix}
use Rattle.grammar.specs.declared.symbols.Prefix.TheVariants.{Open, Not, Round}
use Rattle.grammar.specs.declared.symbols.Mark.{Mark}
use Rattle.grammar.specs.declared.symbols.Mark.TheVariants.{Close, Slash}
use Rattle.grammar.specs.Tokens.{Tok, name, lit, op, pre, start, else', unused, ty, mark, Item, at, Seen, no, yes, as_add}
use Rattle.grammar.specs.Building.{Act, a_bin, a_uny, a_const, a_var}
use Rattle.grammar.specs.Automaton.{Sym, expr, rels, simple, simples, term, terms, factor, does, leave, is, is_open, marks, step, go, stuck}
use Rattle.grammar.specs.Listing.{Listing, list}
use Rattle.grammar.specs.Limits.{few}
use Rattle.lexer.specs.declared.token.Refusal.{Refusal}
use Rattle.lexer.specs.Lexemes.{meant, other}
use Rattle.lexer.specs.Names.{tok}
use Rattle.parser.specs.declared.parser.Parser.{Parser}
use Rattle.parser.specs.Feeds.{Feed, more, known_of, ahead, next, Ready}
use Rattle.parser.specs.Advancing.{Read, Broken, Listed, Missed, another, cut, Closed, Nameless, many, refuses, is_mark, is_name, is_minus}
use Rattle.parser.specs.Advancing as adv
use Rattle.parser.specs.Parsing.{Goes, Stops, Takes, Parsed}
use Rattle.parser.proofs.Chains.{chain, chain_stop, above, above_stop, moves, from_feed, from_count, stop_feed, takes, stucks, too_many, breaks, leaves, lists, doing}
use Rattle.parser.proofs.Loops.{Looped}
use Rattle.parser.proofs.CommandSteps.{reads_on, turns}
use Rattle.expressions.proofs.Levels.{Level, read_broken, operated, operator_broken, operand_refused, passed, relations}

-- from the symbol S to the rest X of its operands, one of which is listed
abbrev pub Opens : Sym → Sym → ℕ → Parser → List Entry → ℕ → Parser → List Entry → Type 0
Opens S X d p T a q T' = (L : List Sym) → marks L ≡ d → Goes (S ∷ L) [] p.count T (ahead p) (X ∷ L) (a ∷ []) q.count T' (ahead q)

pub term_opens : (d a : ℕ) (p q : Parser) (T T' : List Entry) → Parsed factor d p T q T' (Ok a) → Opens term terms d p T a q T'
term_opens d a p q T T' f = λ L mk. chain (turns p (λ s. refl)) (f (terms ∷ L) mk)

pub expr_opens : (d a : ℕ) (p q : Parser) (T T' : List Entry) → Parsed simple d p T q T' (Ok a) → Opens expr rels d p T a q T'
expr_opens d a p q T T' f = λ L mk. chain (turns p (λ s. refl)) (f (rels ∷ L) mk)

pub term_refused : (d : ℕ) (p q : Parser) (T T' : List Entry) (e : Refusal) → Parsed factor d p T q T' (Err e) → Parsed term d p T q T' (Err e)
term_refused d p q T T' e f = λ L mk. chain_stop (turns p (λ s. refl)) (f (terms ∷ L) mk)

pub expr_refused : (d : ℕ) (p q : Parser) (T T' : List Entry) (e : Refusal) → Parsed simple d p T q T' (Err e) → Parsed expr d p T q T' (Err e)
expr_refused d p q T T' e f = λ L mk. chain_stop (turns p (λ s. refl)) (f (rels ∷ L) mk)

-- the loop of a level begins
pub begun : (X : Sym) (d a : ℕ) (p : Parser) (T : List Entry) → Ready p → Looped X d a p T a p T
begun X d a p T r = record { ready = r; fewer = omega arith; room = omega arith; is = λ L mk. moves (λ s. refl) }

module _ {S X Y : Sym} {O : Type 0} {view : Tok → Seen O} {means : O → Binary} (v : Level X Y O view means (λ L. X ∷ L)) (d : ℕ) (le : d ≤ 32) (a0 a : ℕ) (p p0 q : Parser) (T T0 T1 : List Entry) (o : Opens S X d p T a0 p0 T0) (k : Looped X d a0 p0 T0 a q T1) where
  pub loop_ends : view (next q) ≡ no → Parsed S d p T q T1 (Ok a)
  loop_ends unseen = λ L mk. chain (o L mk) (chain (k.is L mk) (passed v q L unseen))

  pub loop_broken : (x : O) (z : Parser) (T2 : List Entry) (r : Refusal) → view (next q) ≡ yes x → Broken q (next q) r → Parsed S d p T z T2 (Err r)
  loop_broken x z T2 r seen b = λ L mk. chain_stop (o L mk) (chain_stop (k.is L mk) (operator_broken v d le a q T1 x seen L mk b))

  pub loop_refused : (x : O) (z y : Parser) (T2 : List Entry) (r : Refusal) → view (next q) ≡ yes x → Read q (next q) z → Parsed Y d z T1 y T2 (Err r) → Parsed S d p T y T2 (Err r)
  loop_refused x z y T2 r seen rd f = λ L mk. chain_stop (o L mk) (chain_stop (k.is L mk) (operand_refused v d le a q T1 x seen L mk rd f))

pub loop_again : {X Y : Sym} {O : Type 0} {view : Tok → Seen O} {means : O → Binary} (v : Level X Y O view means (λ L. X ∷ L)) (d : ℕ) → d ≤ 32 → (a0 a b r : ℕ) (p0 p q e z : Parser) (T0 T T' T'' : List Entry) (x : O) → Looped X d a0 p0 T0 a p T → view (next p) ≡ yes x → Read p (next p) q → Parsed Y d q T e T' (Ok b) → Listed e T' (Bin a (means x) b) p.lookahead.place r z T'' →
    (L : List Sym) → marks L ≡ d → Goes (X ∷ L) (a0 ∷ []) p0.count T0 (ahead p0) (X ∷ L) (r ∷ []) z.count T'' (ahead z)
loop_again v d le a0 a b r p0 p q e z T0 T T' T'' x k seen rd f l L mk = chain (k.is L mk) (operated v d le a p T x seen L mk rd f l)

-- an expression with a relation, or without
pub expr_alone : (d a : ℕ) (p q : Parser) (T T' : List Entry) → Parsed simple d p T q T' (Ok a) → Rattle.grammar.specs.Tokens.as_rel (next q) ≡ no → Parsed expr d p T q T' (Ok a)
expr_alone d a p q T T' f unseen = λ L mk. chain (expr_opens d a p q T T' f L mk) (passed relations q L unseen)

-- a leading minus
minus_next : (t : Tok) → is_minus t ≡ true → t ≡ op (Add Minus)
minus_next (op (Add Minus)) e = refl
minus_next (op (Add Plus)) e = absurd (cc)
minus_next (op (Add Or)) e = absurd (cc)
minus_next (op (Mul x)) e = absurd (cc)
minus_next (op (Rel x)) e = absurd (cc)
minus_next (name x) e = absurd (cc)
minus_next (lit x) e = absurd (cc)
minus_next (pre x) e = absurd (cc)
minus_next (start x) e = absurd (cc)
minus_next (ty x) e = absurd (cc)
minus_next (mark x) e = absurd (cc)
minus_next else' e = absurd (cc)
minus_next unused e = absurd (cc)

pub minus_ok : (d n r : ℕ) → d ≤ 32 → (p q e z : Parser) (T T' T'' : List Entry) → is_minus (next p) ≡ true → Read p (next p) q → Parsed term d q T e T' (Ok n) → Listed e T' (Uny unary.Negate n) p.lookahead.place r z T'' → Takes (λ L. simple ∷ L) (λ L. simples ∷ L) d p T z T'' (Ok r)
minus_ok d n r le p q e z T T' T'' m rd f l = λ L mk.
    chain (reads_on (subst (λ t. Read p t q) (minus_next (next p) m) rd) (λ s. refl) (subst (λ k. k ≤ 32) (sym mk) le) refl)
    (chain (f (does (a_uny p.lookahead.place unary.Negate) ∷ simples ∷ L) mk) (lists (a_uny p.lookahead.place unary.Negate) (λ V es. refl) l))

pub minus_refused : (d : ℕ) → d ≤ 32 → (p q z : Parser) (T T'' : List Entry) (r : Refusal) → is_minus (next p) ≡ true → Read p (next p) q → Parsed term d q T z T'' (Err r) → Takes (λ L. simple ∷ L) (λ L. simples ∷ L) d p T z T'' (Err r)
minus_refused d le p q z T T'' r m rd f = λ L mk.
    chain_stop (reads_on (subst (λ t. Read p t q) (minus_next (next p) m) rd) (λ s. refl) (subst (λ k. k ≤ 32) (sym mk) le) refl)
    (f (does (a_uny p.lookahead.place unary.Negate) ∷ simples ∷ L) mk)

-- without a minus, a simple expression begins with a term
no_minus : (t : Tok) → is_minus t ≡ false → (L : List Sym) (s : Listing) (p : ℕ) → step list (simple ∷ L) s t p ≡ step list (term ∷ simples ∷ L) s t p
no_minus (op (Add Minus)) h L s p = absurd (cc)
no_minus (op (Add Plus)) h L s p = refl
no_minus (op (Add Or)) h L s p = refl
no_minus (op (Mul x)) h L s p = refl
no_minus (op (Rel x)) h L s p = refl
no_minus (name x) h L s p = refl
no_minus (lit x) h L s p = refl
no_minus (pre x) h L s p = refl
no_minus (start x) h L s p = refl
no_minus (ty x) h L s p = refl
no_minus (mark x) h L s p = refl
no_minus else' h L s p = refl
no_minus unused h L s p = refl

no_minus_ok : (d n : ℕ) (p z : Parser) (T T'' : List Entry) → is_minus (next p) ≡ false → Parsed term d p T z T'' (Ok n) → Takes (λ L. simple ∷ L) (λ L. simples ∷ L) d p T z T'' (Ok n)
no_minus_ok d n p z T T'' h f = λ L mk. chain (turns p (λ s. no_minus (next p) h L s p.lookahead.place)) (f (simples ∷ L) mk)

no_minus_refused : (d : ℕ) (p z : Parser) (T T'' : List Entry) (r : Refusal) → is_minus (next p) ≡ false → Parsed term d p T z T'' (Err r) → Takes (λ L. simple ∷ L) (λ L. simples ∷ L) d p T z T'' (Err r)
no_minus_refused d p z T T'' r h f = λ L mk. chain_stop (turns p (λ s. no_minus (next p) h L s p.lookahead.place)) (f (simples ∷ L) mk)

-- the next token, where it is known as it is written
pub next_is : (p : Parser) (t : Tok) → meant p.lookahead.token ≡ other t → next p ≡ t
next_is p t e = ap (tok (known_of p.names)) e

-- a mark that was expected is missing
pub mark_missed : (m : Mark) (t : Tok) → is_mark m t ≡ false → (L : List Sym) (s : Listing) (p : ℕ) → step list (is m ∷ L) s t p ≡ stuck
mark_missed m (mark x) h L s p = ap (λ b. cond b (go L s) stuck) h
mark_missed m (op x) h L s p = refl
mark_missed m (name x) h L s p = refl
mark_missed m (lit x) h L s p = refl
mark_missed m (pre x) h L s p = refl
mark_missed m (start x) h L s p = refl
mark_missed m (ty x) h L s p = refl
mark_missed m else' h L s p = refl
mark_missed m unused h L s p = refl

pub missed : {U : List ℕ} {T : List Entry} (m : Mark) (p : Parser) (e : Refusal) (L : List Sym) → marks L ≤ 32 → ((s : Listing) → step list (is m ∷ L) s (mark m) p.lookahead.place ≡ go L s) → Missed m p e → Stops (is m ∷ L) U p.count T (ahead p) e
missed {U} {T} m p e L le st (another h q) = subst (λ r. Stops (is m ∷ L) U p.count T (ahead p) r) (sym q) (stucks (λ s. mark_missed m (next p) h L s p.lookahead.place))
missed m p e L le st (cut b) = read_broken p b st le refl

-- an opened factor: after the opener the stack K is expected, one deeper
module _ (x : Prefix) (K : ℕ → List Sym → List Sym) (st : (L : List Sym) (s : Listing) (p : ℕ) → step list (factor ∷ L) s (pre x) p ≡ go (K p L) s) (deep : (L : List Sym) (p : ℕ) → marks (K p L) ≡ suc (marks L)) (d : ℕ) (p : Parser) (h : meant p.lookahead.token ≡ other (pre x)) where
  pub opener : {q : Parser} {T : List Entry} → d < 32 → Read p (next p) q → (L : List Sym) → marks L ≡ d → Goes (factor ∷ L) [] p.count T (ahead p) (K p.lookahead.place L) [] q.count T (ahead q)
  opener {q} lt rd L mk = reads_on (subst (λ t. Read p t q) (next_is p (pre x) h) rd) (λ s. st L s p.lookahead.place) (omega (arith, deep L p.lookahead.place, mk)) refl

-- what the three openers expect
abbrev pub in_bracket : ℕ → List Sym → List Sym
in_bracket p L = expr ∷ is Close ∷ leave ∷ L

abbrev pub in_not : ℕ → List Sym → List Sym
in_not p L = factor ∷ does (a_uny p unary.Not) ∷ leave ∷ L

abbrev pub in_round : ℕ → List Sym → List Sym
in_round p L = is_open ∷ factor ∷ is Slash ∷ factor ∷ is Close ∷ does (a_bin p binary.Round) ∷ leave ∷ L

inner : (d i : ℕ) (L : List Sym) → i ≡ d + 1 → marks L ≡ d → suc (marks L) ≡ i
inner d i L e mk = omega (arith, e, mk)

module _ (d i : ℕ) (p q : Parser) (T : List Entry) (deeper : i ≡ d + 1) (lt : d < 32) (rd : Read p (next p) q) where
  module _ (h : meant p.lookahead.token ≡ other (pre Open)) where
    bracket_opens : (L : List Sym) → marks L ≡ d → Goes (factor ∷ L) [] p.count T (ahead p) (in_bracket p.lookahead.place L) [] q.count T (ahead q)
    bracket_opens = opener Open in_bracket (λ L s n. refl) (λ L n. refl) d p h lt rd

    pub bracket_refused : (z : Parser) (T' : List Entry) (e : Refusal) → Parsed expr i q T z T' (Err e) → Parsed factor d p T z T' (Err e)
    bracket_refused z T' e f = λ L mk. chain_stop (bracket_opens L mk) (f (is Close ∷ leave ∷ L) (inner d i L deeper mk))

    pub bracket_missed : (n : ℕ) (y z : Parser) (T' : List Entry) (e : Refusal) → Parsed expr i q T y T' (Ok n) → Missed Close y e → Parsed factor d p T z T' (Err e)
    bracket_missed n y z T' e f m = λ L mk. chain_stop (bracket_opens L mk) (chain_stop (f (is Close ∷ leave ∷ L) (inner d i L deeper mk)) (missed Close y e (leave ∷ L) (omega (arith, mk)) (λ s. refl) m))

    pub bracket_ok : (n : ℕ) (y z : Parser) (T' : List Entry) → Parsed expr i q T y T' (Ok n) → Read y (mark Close) z → Parsed factor d p T z T' (Ok n)
    bracket_ok n y z T' f c = λ L mk. chain (bracket_opens L mk) (chain (f (is Close ∷ leave ∷ L) (inner d i L deeper mk)) (chain (reads_on c (λ s. refl) (omega (arith, mk)) refl) leaves))

  module _ (h : meant p.lookahead.token ≡ other (pre Not)) where
    not_opens : (L : List Sym) → marks L ≡ d → Goes (factor ∷ L) [] p.count T (ahead p) (in_not p.lookahead.place L) [] q.count T (ahead q)
    not_opens = opener Not in_not (λ L s n. refl) (λ L n. refl) d p h lt rd

    pub not_refused : (z : Parser) (T' : List Entry) (e : Refusal) → Parsed factor i q T z T' (Err e) → Parsed factor d p T z T' (Err e)
    not_refused z T' e f = λ L mk. chain_stop (not_opens L mk) (f (does (a_uny p.lookahead.place unary.Not) ∷ leave ∷ L) (inner d i L deeper mk))

    pub not_ok : (n r : ℕ) (y z : Parser) (T' T'' : List Entry) → Parsed factor i q T y T' (Ok n) → Listed y T' (Uny unary.Not n) p.lookahead.place r z T'' → Parsed factor d p T z T'' (Ok r)
    not_ok n r y z T' T'' f l = λ L mk. chain (not_opens L mk) (chain (f (does (a_uny p.lookahead.place unary.Not) ∷ leave ∷ L) (inner d i L deeper mk)) (chain (lists (a_uny p.lookahead.place unary.Not) (λ V es. refl) l) leaves))

-- round ( factor / factor )
module _ (d i : ℕ) (p q : Parser) (T : List Entry) (deeper : i ≡ d + 1) (lt : d < 32) (rd : Read p (next p) q) (h : meant p.lookahead.token ≡ other (pre Round)) where
  abbrev rest4 : List Sym → List Sym
  rest4 L = does (a_bin p.lookahead.place binary.Round) ∷ leave ∷ L

  abbrev rest3 : List Sym → List Sym
  rest3 L = is Close ∷ rest4 L

  abbrev rest2 : List Sym → List Sym
  rest2 L = is Slash ∷ factor ∷ rest3 L

  round_opens : (L : List Sym) → marks L ≡ d → Goes (factor ∷ L) [] p.count T (ahead p) (is_open ∷ factor ∷ rest2 L) [] q.count T (ahead q)
  round_opens = opener Round in_round (λ L s n. refl) (λ L n. refl) d p h lt rd

  module _ (o : Parser) (opened : Read q (pre Open) o) where
    round_left : (L : List Sym) → marks L ≡ d → Goes (factor ∷ L) [] p.count T (ahead p) (factor ∷ rest2 L) [] o.count T (ahead o)
    round_left L mk = chain (round_opens L mk) (reads_on opened (λ s. refl) (omega (arith, mk)) refl)

    pub left_refused : (z : Parser) (T' : List Entry) (e : Refusal) → Parsed factor i o T z T' (Err e) → Parsed factor d p T z T' (Err e)
    left_refused z T' e f = λ L mk. chain_stop (round_left L mk) (f (rest2 L) (inner d i L deeper mk))

    module _ (a : ℕ) (y : Parser) (T1 : List Entry) (f : Parsed factor i o T y T1 (Ok a)) where
      round_slash : (L : List Sym) → marks L ≡ d → Goes (factor ∷ L) [] p.count T (ahead p) (rest2 L) (a ∷ []) y.count T1 (ahead y)
      round_slash L mk = chain (round_left L mk) (f (rest2 L) (inner d i L deeper mk))

      pub slash_missed : (z : Parser) (T' : List Entry) (e : Refusal) → Missed Slash y e → Parsed factor d p T z T' (Err e)
      slash_missed z T' e m = λ L mk. chain_stop (round_slash L mk) (missed Slash y e (factor ∷ rest3 L) (omega (arith, mk)) (λ s. refl) m)

      module _ (w : Parser) (slash : Read y (mark Slash) w) where
        round_right : (L : List Sym) → marks L ≡ d → Goes (factor ∷ L) [] p.count T (ahead p) (factor ∷ rest3 L) (a ∷ []) w.count T1 (ahead w)
        round_right L mk = chain (round_slash L mk) (reads_on slash (λ s. refl) (omega (arith, mk)) refl)

        pub right_refused : (z : Parser) (T' : List Entry) (e : Refusal) → Parsed factor i w T1 z T' (Err e) → Parsed factor d p T z T' (Err e)
        right_refused z T' e g = λ L mk. chain_stop (round_right L mk) (above_stop (a ∷ []) (g (rest3 L) (inner d i L deeper mk)))

        module _ (b : ℕ) (x : Parser) (T2 : List Entry) (g : Parsed factor i w T1 x T2 (Ok b)) where
          round_close : (L : List Sym) → marks L ≡ d → Goes (factor ∷ L) [] p.count T (ahead p) (rest3 L) (b ∷ a ∷ []) x.count T2 (ahead x)
          round_close L mk = chain (round_right L mk) (above (a ∷ []) (g (rest3 L) (inner d i L deeper mk)))

          pub close_missed : (z : Parser) (T' : List Entry) (e : Refusal) → Missed Close x e → Parsed factor d p T z T' (Err e)
          close_missed z T' e m = λ L mk. chain_stop (round_close L mk) (missed Close x e (rest4 L) (omega (arith, mk)) (λ s. refl) m)

          pub round_ok : (r : ℕ) (c z : Parser) (T' : List Entry) → Read x (mark Close) c → Listed c T2 (Bin a binary.Round b) p.lookahead.place r z T' → Parsed factor d p T z T' (Ok r)
          round_ok r c z T' closed l = λ L mk. chain (round_close L mk) (chain (reads_on closed (λ s. refl) (omega (arith, mk)) refl) (chain (lists (a_bin p.lookahead.place binary.Round) (λ V es. refl) l) leaves))

-- either way, without a minus
pub no_minus_either : (d : ℕ) (p z : Parser) (T T'' : List Entry) (r : Result ℕ Refusal) → is_minus (next p) ≡ false → Parsed term d p T z T'' r → Takes (λ L. simple ∷ L) (λ L. simples ∷ L) d p T z T'' r
no_minus_either d p z T T'' (Ok n) h f = no_minus_ok d n p z T T'' h f
no_minus_either d p z T T'' (Err e) h f = no_minus_refused d p z T T'' e h f

-- a token that is a factor by itself is listed once it is read
leaf : {U : List ℕ} {c : ℕ} {T : List Entry} (L : List Sym) (t : Tok) (p : ℕ) (a : Act) (g : Feed) → ((s : Listing) → step list (factor ∷ L) s t p ≡ go L (list a s)) → marks L ≤ 32 → few t ≡ true → Goes (factor ∷ L) U c T (more (at t p) g) (does a ∷ L) U c T g
leaf L t p a g e m k = moves (λ s. takes (factor ∷ L) L s (list a s) t p g (e s) m k ∙ sym (doing a L s g.tokens g.ending))

-- a constant, or a variable
pub constant_ok : (v : Value) (d r : ℕ) → d ≤ 32 → (p q z : Parser) (T T' : List Entry) → next p ≡ lit v → Read p (next p) q → Listed q T (Const v) p.lookahead.place r z T' → Parsed factor d p T z T' (Ok r)
constant_ok v d r le p q z T T' h rd l = λ L mk.
    chain (from_feed (rd.token ∙ ap (λ t. more (at t p.lookahead.place) (ahead q)) h) (from_count (sym rd.count) (leaf L (lit v) p.lookahead.place (a_const p.lookahead.place v) (ahead q) (λ s. refl) (subst (λ k. k ≤ 32) (sym mk) le) refl)))
    (lists (a_const p.lookahead.place v) (λ V es. refl) l)

pub constant_broken : (v : Value) (d : ℕ) → d ≤ 32 → (p z : Parser) (T T' : List Entry) (e : Refusal) → next p ≡ lit v → Broken p (next p) e → Parsed factor d p T z T' (Err e)
constant_broken v d le p z T T' e h b = λ L mk.
    stop_feed (b ∙ ap (λ t. more (at t p.lookahead.place) (adv.broken e)) h) (chain_stop (leaf L (lit v) p.lookahead.place (a_const p.lookahead.place v) (adv.broken e) (λ s. refl) (subst (λ k. k ≤ 32) (sym mk) le) refl) (breaks e))

pub variable_ok : (n d r : ℕ) → d ≤ 32 → n < 64 → (p q z : Parser) (T T' : List Entry) → Read p (name n) q → Listed q T (Var n) p.lookahead.place r z T' → Parsed factor d p T z T' (Ok r)
variable_ok n d r le lt p q z T T' rd l = λ L mk.
    chain (from_feed rd.token (from_count (sym rd.count) (leaf L (name n) p.lookahead.place (a_var p.lookahead.place n) (ahead q) (λ s. refl) (subst (λ k. k ≤ 32) (sym mk) le) (lt-ltb n 64 lt))))
    (lists (a_var p.lookahead.place n) (λ V es. refl) l)

pub variable_refused : (d : ℕ) → d ≤ 32 → (p z : Parser) (T T' : List Entry) (e : Refusal) → is_name (next p) ≡ true → Nameless p e → Parsed factor d p T z T' (Err e)
variable_refused d le p z T T' e h (adv.Nameless.another k q) = absurd (let z : true ≡ false = sym h ∙ k in let y : ◌≡◌ {A = ℕ} 0 1 = cc in omega arith)
variable_refused d le p z T T' e h (adv.Nameless.many m k f a q) = λ L mk.
    subst (λ r. Stops (factor ∷ L) [] p.count T (ahead p) r) (sym q) (stop_feed a (too_many L (λ s. list (a_var p.lookahead.place m) s) (λ s. refl) (subst (λ k. k ≤ 32) (sym mk) le) k))
variable_refused d le p z T T' e h (adv.Nameless.cut m lt b) = λ L mk.
    stop_feed b (chain_stop (leaf L (name m) p.lookahead.place (a_var p.lookahead.place m) (adv.broken e) (λ s. refl) (subst (λ k. k ≤ 32) (sym mk) le) (lt-ltb m 64 lt)) (breaks e))
