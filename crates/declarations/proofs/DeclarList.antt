-- Declarations and the whole text, exit by exit.
use Rattle.std.proofs.Common.{◌≡◌, ℕ, suc, ◌+◌, ◌-◌, ◌*◌, ◌≤◌, true, false, List, [], ◌∷◌, ◌++◌, Ok, Err, Result, sym, refl, ap, ◌∙◌, subst, arith}
use Rattle.tosca.specs.declared.operators.SimpleType.{SimpleType}
use Rattle.tosca.specs.declared.operators.SimpleType.TheVariants.{Integer}
use Rattle.tosca.specs.declared.table.Entry.{Entry}
use Rattle.grammar.specs.declared.symbols.Mark.TheVariants.{Var, Semicolon}
use Rattle.grammar.specs.declared.symbols.Start.TheVariants as begins
use Rattle.grammar.specs.declared.symbols.Start.TheVariants.{Begin}
use Rattle.grammar.specs.Tokens.{Tok, name, lit, op, pre, start, else', unused, ty, mark}
use Rattle.grammar.specs.Building.{Named, typed, declares}
use Rattle.grammar.specs.Automaton.{Sym, is, vars, decls, a_name, names, type, body, marks, step, at_begin, Move, stuck, go}
use Rattle.grammar.specs.Listing.{Listing, listing, list}
use Rattle.lexer.specs.declared.token.Refusal.{Refusal}
use Rattle.parser.specs.declared.parser.Parser.{Parser}
use Rattle.parser.specs.Feeds.{ahead, next, unread, Ready}
use Rattle.parser.specs.Advancing.{is_mark, is_name, Read, Expected}
use Rattle.parser.specs.Parsing.{Holds, reading, Goes, Stops}
use Rattle.declarations.specs.Declaring.{Used, Passes, Drafted, drafts, retyped, is_begin, Unbegun, Begun, another, cut}
use Rattle.parser.proofs.Chains.{chain, chain_stop, takes}
use Rattle.parser.proofs.CommandSteps.{clash, reads_on, turns, refused_here, cuts_off, misses_mark, not_mark, is_mark_lem, mark_few, not_name}
use Rattle.declarations.proofs.DeclarNames.{shallow, retype_holds, declares_drafts}

-- the type of drafted names is read, and they are listed
module _ (P A : Parser) (T T₁ : List Entry) (ns : List Named) (f : Drafted a_name type P T ns A T₁) where
  typing : (B : Parser) (T₂ : List Entry) (y : SimpleType) → Read A (ty y) B → T₂ ≡ retyped y P.count (B.count - P.count) T₁ → (L : List Sym) → marks L ≡ 0 → Goes (a_name [] ∷ L) [] P.count T (ahead P) (is Semicolon ∷ decls ∷ L) [] B.count T₂ (ahead B)
  typing B T₂ y a e L m = record {
    goes = λ V was es h. (
      es ++ drafts y ns,
      retype_holds y P.count B.count T₁ T₂ was es ns h.0 (subst (λ c. Holds was (es ++ drafts Integer ns) c T₁) (sym a.count) (f.holds was es h)) e,
      f.reads [] L m (listing V es)
          ∙ ap (reading (type ns ∷ L) (listing V es)) a.token
          ∙ takes (type ns ∷ L) (is Semicolon ∷ decls ∷ L) (listing V es) (declares list (typed y ns) (listing V es)) (ty y) A.lookahead.place (ahead B) refl (shallow m) refl
          ∙ ap (λ s. reading (is Semicolon ∷ decls ∷ L) s (ahead B)) (declares_drafts y ns V es),
    );
  }

  pub declared : {X : Type 0} (B C : Parser) (T₂ : List Entry) (y : SimpleType) (r : Result X Refusal) → Read A (ty y) B → T₂ ≡ retyped y P.count (B.count - P.count) T₁ → Expected Semicolon B C r → Passes (λ L. a_name [] ∷ L) (λ L. decls ∷ L) P T C T₂ r
  declared B C T₂ y (Ok u) a e x = λ L m. chain (typing B T₂ y a e L m) (reads_on x (λ s. refl) (shallow m) refl)
  declared B C T₂ y (Err w) a e x = λ L m. chain_stop (typing B T₂ y a e L m) (misses_mark Semicolon B x (λ s. refl) (shallow m))

-- begin, where nothing else that may stand there does
not_begin : (t : Tok) (a : Move Listing) → is_begin t ≡ false → at_begin list t a ≡ stuck
not_begin (start begins.Begin) a h = clash h
not_begin (start begins.If) a h = refl
not_begin (start begins.While) a h = refl
not_begin (start begins.Read) a h = refl
not_begin (start begins.Write) a h = refl
not_begin (name n) a h = refl
not_begin (mark x) a h = refl
not_begin (lit l) a h = refl
not_begin (op o) a h = refl
not_begin (pre x) a h = refl
not_begin else' a h = refl
not_begin unused a h = refl
not_begin (ty y) a h = refl

deep : {n : ℕ} → n ≡ 0 → suc n ≤ 32
deep m = omega (arith, m)

no_begin : {J L : List Sym} {T : List Entry} (Q : Parser) (e : Refusal) → Unbegun Q e → (is_begin (next Q) ≡ false → (s : Listing) → step list J s (next Q) Q.lookahead.place ≡ stuck) → ((s : Listing) → step list J s (start Begin) Q.lookahead.place ≡ go (body L) s) → marks L ≡ 0 → Stops J [] Q.count T (ahead Q) e
no_begin {L} Q e (another h i) n g m = refused_here Q (n h) i
no_begin {L} Q e (cut b) n g m = cuts_off Q (start Begin) e (body L) (λ s. s) b g (deep m) refl

pub no_vars : {X : Type 0} (P Q : Parser) (T : List Entry) (r : Result X Refusal) → is_mark Var (next P) ≡ false → Begun P Q r → Passes (λ L. vars ∷ L) body P T Q T r
no_vars P Q T (Ok u) h x = λ L m. reads_on x (λ s. refl) (deep m) refl
no_vars P Q T (Err w) h x = λ L m. no_begin P w x (λ i s. not_mark Var (next P) (go (a_name [] ∷ L) s) (at_begin list (next P) (go (body L) s)) h ∙ not_begin (next P) (go (body L) s) i) (λ s. refl) m

var : (P : Parser) (L : List Sym) (s : Listing) → is_mark Var (next P) ≡ true → step list (vars ∷ L) s (next P) P.lookahead.place ≡ go (a_name [] ∷ L) s
var P L s h = is_mark_lem Var (next P) (go (a_name [] ∷ L) s) (at_begin list (next P) (go (body L) s)) h

pub some_vars : {X : Type 0} (P A Q : Parser) (T T' : List Entry) (r : Result X Refusal) → is_mark Var (next P) ≡ true → Read P (next P) A → Passes (λ L. a_name [] ∷ L) body A T Q T' r → Passes (λ L. vars ∷ L) body P T Q T' r
some_vars P A Q T T' (Ok u) h a x = λ L m. chain (reads_on a (λ s. var P L s h) (shallow m) (mark_few Var (next P) h)) (x L m)
some_vars P A Q T T' (Err w) h a x = λ L m. chain_stop (reads_on a (λ s. var P L s h) (shallow m) (mark_few Var (next P) h)) (x L m)

-- {declaration}: what the loop keeps
pub record Declaring (P : Parser) (T : List Entry) (Q : Parser) (T' : List Entry) : Type 0 where
  pub ready : Ready Q
  pub fewer : unread Q ≤ unread P
  pub room : Q.count + 2 * unread Q ≤ P.count + 2 * unread P
  pub is : (L : List Sym) → marks L ≡ 0 → Goes (decls ∷ L) [] P.count T (ahead P) (decls ∷ L) [] Q.count T' (ahead Q)

one_more : (L : List Sym) (s : Listing) (t : Tok) (p : ℕ) → is_name t ≡ true → step list (decls ∷ L) s t p ≡ step list (a_name [] ∷ L) s t p
one_more L s (name n) p h = refl
one_more L s (mark x) p h = clash (sym h)
one_more L s (lit l) p h = clash (sym h)
one_more L s (op o) p h = clash (sym h)
one_more L s (pre x) p h = clash (sym h)
one_more L s (start x) p h = clash (sym h)
one_more L s else' p h = clash (sym h)
one_more L s unused p h = clash (sym h)
one_more L s (ty y) p h = clash (sym h)

pub next_declared : {X : Type 0} (P Q R : Parser) (T T₁ T₂ : List Entry) (u : X) → Declaring P T Q T₁ → is_name (next Q) ≡ true → Used {A = X} Q R (Ok u) → Passes {A = X} (λ L. a_name [] ∷ L) (λ L. decls ∷ L) Q T₁ R T₂ (Ok u) → Declaring P T R T₂
next_declared P Q R T T₁ T₂ u k h l x = record {
  ready = l.0;
  fewer = omega (arith, l.1, k.fewer);
  room = omega (arith, l.2, k.room);
  is = λ L m. chain (k.is L m) (chain (turns Q (λ s. one_more L s (next Q) Q.lookahead.place h)) (x L m));
}

module _ {X : Type 0} (O P Q : Parser) (S T T₁ : List Entry) (u : X) (f : Passes {A = X} (λ L. a_name [] ∷ L) (λ L. decls ∷ L) O S P T (Ok u)) (k : Declaring P T Q T₁) where
  pub next_wrong : (R R' : Parser) (T₂ T' : List Entry) (w : Refusal) → is_name (next Q) ≡ true → Passes {A = X} (λ L. a_name [] ∷ L) (λ L. decls ∷ L) Q T₁ R T₂ (Err w) → Passes {A = X} (λ L. a_name [] ∷ L) body O S R' T' (Err w)
  next_wrong R R' T₂ T' w h x = λ L m. chain_stop (f L m) (chain_stop (k.is L m) (chain_stop (turns Q (λ s. one_more L s (next Q) Q.lookahead.place h)) (x L m)))

  pub list_end : (R : Parser) (r : Result X Refusal) → is_name (next Q) ≡ false → Begun Q R r → Passes (λ L. a_name [] ∷ L) body O S R T₁ r
  list_end R (Ok v) h x = λ L m. chain (f L m) (chain (k.is L m) (reads_on x (λ s. refl) (deep m) refl))
  list_end R (Err w) h x = λ L m. chain_stop (f L m) (chain_stop (k.is L m) (no_begin Q w x (λ i s. not_name (next Q) (λ n. go (names (record { name = n; place = Q.lookahead.place } ∷ []) ∷ L) s) (at_begin list (next Q) (go (body L) s)) h ∙ not_begin (next Q) (go (body L) s) i) (λ s. refl) m))
