-- Operands of one precedence: what the loops of term and simple, and expr, do.
use Rattle.std.proofs.Common.{◌≡◌, ℕ, ◌≤◌, true, List, [], ◌∷◌, Ok, sym, refl, ap, ◌∙◌, subst}
use Rattle.tosca.specs.declared.operators.Binary.{Binary}
use Rattle.tosca.specs.declared.table.Entry.{Entry}
use Rattle.tosca.specs.declared.table.Node.TheVariants.{Bin}
use Rattle.grammar.specs.declared.symbols.Multiplying.{Multiplying}
use Rattle.grammar.specs.declared.symbols.Adding.{Adding}
use Rattle.grammar.specs.declared.symbols.Relation.{Relation}
use Rattle.grammar.specs.Tokens.{Tok, name, lit, op, pre, start, else', unused, ty, mark, Seen, no, yes, pick, as_mul, as_add, as_rel}
use Rattle.grammar.specs.Building.{Act, a_bin, mul_op, add_op, rel_op}
use Rattle.grammar.specs.Automaton.{Sym, rels, simple, simples, term, terms, factor, does, marks, step, go}
use Rattle.grammar.specs.Listing.{Listing, list}
use Rattle.grammar.specs.Limits.{few}
use Rattle.lexer.specs.declared.token.Refusal.{Refusal}
use Rattle.parser.specs.declared.parser.Parser.{Parser}
use Rattle.parser.specs.Feeds.{ahead, next}
use Rattle.parser.specs.Advancing.{Read, Broken, Listed}
use Rattle.parser.specs.Parsing.{Goes, Stops, Parsed}
use Rattle.parser.proofs.CommandSteps.{reads_on, turns}
use Rattle.parser.proofs.Chains.{chain, chain_stop, above, above_stop, stop_feed, reads, breaks, lists}

-- the next token is read, and what follows it is refused
pub read_broken : {J K : List Sym} {U : List ℕ} {T : List Entry} {t : Tok} {r : Refusal} (p : Parser) → Broken p t r → ((s : Listing) → step list J s t p.lookahead.place ≡ go K s) → marks K ≤ 32 → few t ≡ true → Stops J U p.count T (ahead p) r
read_broken {r} p b e m k = stop_feed b (chain_stop (reads e m k) (breaks r))

-- the rest X of a list of operands Y, whose operators are those that view sees
pub record Level (X Y : Sym) (O : Type 0) (view : Tok → Seen O) (means : O → Binary) (then : List Sym → List Sym) : Type 0 where
  pub enters : (L : List Sym) (s : Listing) (t : Tok) (p : ℕ) (o : O) → view t ≡ yes o → step list (X ∷ L) s t p ≡ go (Y ∷ does (a_bin p (means o)) ∷ then L) s
  pub passes : (L : List Sym) (s : Listing) (t : Tok) (p : ℕ) → view t ≡ no → step list (X ∷ L) s t p ≡ step list L s t p
  pub small : (t : Tok) (o : O) → view t ≡ yes o → few t ≡ true
  pub flat : (L : List Sym) (a : Act) → marks (Y ∷ does a ∷ then L) ≡ marks L
  pub rest : (L : List Sym) (a : Act) → marks (does a ∷ then L) ≡ marks L

mul_few : (t : Tok) (o : Multiplying) → as_mul t ≡ yes o → few t ≡ true
mul_few (name n) o e = absurd (cc)
mul_few (lit x) o e = refl
mul_few (op x) o e = refl
mul_few (pre x) o e = refl
mul_few (start x) o e = refl
mul_few else' o e = refl
mul_few unused o e = refl
mul_few (ty x) o e = refl
mul_few (mark x) o e = refl

add_few : (t : Tok) (o : Adding) → as_add t ≡ yes o → few t ≡ true
add_few (name n) o e = absurd (cc)
add_few (lit x) o e = refl
add_few (op x) o e = refl
add_few (pre x) o e = refl
add_few (start x) o e = refl
add_few else' o e = refl
add_few unused o e = refl
add_few (ty x) o e = refl
add_few (mark x) o e = refl

rel_few : (t : Tok) (o : Relation) → as_rel t ≡ yes o → few t ≡ true
rel_few (name n) o e = absurd (cc)
rel_few (lit x) o e = refl
rel_few (op x) o e = refl
rel_few (pre x) o e = refl
rel_few (start x) o e = refl
rel_few else' o e = refl
rel_few unused o e = refl
rel_few (ty x) o e = refl
rel_few (mark x) o e = refl

pub products : Level terms factor Multiplying as_mul mul_op (λ L. terms ∷ L)
products = record {
  enters = λ L s t p o e. ap (λ v. pick v (step list L s t p) (λ x. go (factor ∷ does (a_bin p (mul_op x)) ∷ terms ∷ L) s)) e;
  passes = λ L s t p e. ap (λ v. pick v (step list L s t p) (λ x. go (factor ∷ does (a_bin p (mul_op x)) ∷ terms ∷ L) s)) e;
  small = mul_few;
  flat = λ L a. refl;
  rest = λ L a. refl;
}

pub sums : Level simples term Adding as_add add_op (λ L. simples ∷ L)
sums = record {
  enters = λ L s t p o e. ap (λ v. pick v (step list L s t p) (λ x. go (term ∷ does (a_bin p (add_op x)) ∷ simples ∷ L) s)) e;
  passes = λ L s t p e. ap (λ v. pick v (step list L s t p) (λ x. go (term ∷ does (a_bin p (add_op x)) ∷ simples ∷ L) s)) e;
  small = add_few;
  flat = λ L a. refl;
  rest = λ L a. refl;
}

pub relations : Level rels simple Relation as_rel rel_op (λ L. L)
relations = record {
  enters = λ L s t p o e. ap (λ v. pick v (step list L s t p) (λ x. go (simple ∷ does (a_bin p (rel_op x)) ∷ L) s)) e;
  passes = λ L s t p e. ap (λ v. pick v (step list L s t p) (λ x. go (simple ∷ does (a_bin p (rel_op x)) ∷ L) s)) e;
  small = rel_few;
  flat = λ L a. refl;
  rest = λ L a. refl;
}

module _ {X Y : Sym} {O : Type 0} {view : Tok → Seen O} {means : O → Binary} {then : List Sym → List Sym} (v : Level X Y O view means then) where
  module _ (d : ℕ) (le : d ≤ 32) (a : ℕ) (p : Parser) (T : List Entry) (o : O) (seen : view (next p) ≡ yes o) (L : List Sym) (mk : marks L ≡ d) where
    abbrev act : Act
    act = a_bin p.lookahead.place (means o)

    low : marks (Y ∷ does act ∷ then L) ≤ 32
    low = subst (λ n. n ≤ 32) (sym (v.flat L act ∙ mk)) le

    -- an operator, its right operand, and the node of both
    pub operated : {b r : ℕ} {q e z : Parser} {T' T'' : List Entry} → Read p (next p) q → Parsed Y d q T e T' (Ok b) → Listed e T' (Bin a (means o) b) p.lookahead.place r z T'' →
        Goes (X ∷ L) (a ∷ []) p.count T (ahead p) (then L) (r ∷ []) z.count T'' (ahead z)
    operated rd f l =
        chain (reads_on rd (λ s. v.enters L s (next p) p.lookahead.place o seen) low (v.small (next p) o seen))
        (chain (above (a ∷ []) (f (does act ∷ then L) (v.rest L act ∙ mk)))
        (lists act (λ V es. refl) l))

    -- the operator is read, and what follows is refused
    pub operator_broken : {r : Refusal} → Broken p (next p) r → Stops (X ∷ L) (a ∷ []) p.count T (ahead p) r
    operator_broken b = read_broken p b (λ s. v.enters L s (next p) p.lookahead.place o seen) low (v.small (next p) o seen)

    -- the right operand is refused
    pub operand_refused : {r : Refusal} {q : Parser} → Read p (next p) q → ((J : List Sym) → marks J ≡ d → Stops (Y ∷ J) [] q.count T (ahead q) r) → Stops (X ∷ L) (a ∷ []) p.count T (ahead p) r
    operand_refused rd f =
        chain_stop (reads_on rd (λ s. v.enters L s (next p) p.lookahead.place o seen) low (v.small (next p) o seen))
        (above_stop (a ∷ []) (f (does act ∷ then L) (v.rest L act ∙ mk)))

  -- no operator follows
  pub passed : {U : List ℕ} {c : ℕ} {T : List Entry} (p : Parser) (L : List Sym) → view (next p) ≡ no → Goes (X ∷ L) U c T (ahead p) L U c T (ahead p)
  passed p L unseen = turns p (λ s. v.passes L s (next p) p.lookahead.place unseen)
