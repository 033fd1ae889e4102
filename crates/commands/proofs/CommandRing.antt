-- Commands that hold others, exit by exit.
use Rattle.std.proofs.Common.{◌≡◌, ℕ, suc, ◌+◌, ◌<◌, ◌≤◌, true, false, cond, List, [], ◌∷◌, length, Ok, Err, Result, sym, refl, ap, ◌∙◌, add-one, arith}
use Rattle.tosca.specs.declared.table.Entry.{Entry}
use Rattle.tosca.specs.declared.table.Node.{Node}
use Rattle.tosca.specs.declared.table.Node.TheVariants.{Choice, Loop, Seq, Skip}
use Rattle.grammar.specs.declared.symbols.Mark.{Mark}
use Rattle.grammar.specs.declared.symbols.Mark.TheVariants.{Then, Do, Semicolon, End}
use Rattle.grammar.specs.declared.symbols.Start.TheVariants.{Begin, If, While}
use Rattle.grammar.specs.Tokens.{Tok, name, lit, op, pre, start, else', unused, ty, mark, is_else, is_cmd}
use Rattle.grammar.specs.Building.{a_choice, a_loop, a_seq, a_skip}
use Rattle.grammar.specs.Automaton.{Sym, expr, cmd, cmds, elses, is, does, leave, marks, step, at_mark, at_cmd, Move, stuck, go}
use Rattle.grammar.specs.Listing.{Listing, list}
use Rattle.grammar.specs.Limits.{few}
use Rattle.lexer.specs.declared.token.Refusal.{Refusal}
use Rattle.parser.specs.declared.parser.Parser.{Parser}
use Rattle.parser.specs.Feeds.{ahead, next, unread, Ready}
use Rattle.parser.specs.Advancing.{is_mark, Missed, Broken, Listed}
use Rattle.parser.specs.Advancing as tokens
use Rattle.parser.specs.Parsing.{Goes, Takes, Parsed, Less}
use Rattle.parser.specs.Parsing.{Roomy}
use Rattle.parser.proofs.Chains.{chain, chain_stop, above, above_stop, lists, leaves}
use Rattle.parser.proofs.CommandSteps.{clash, reads_on, cuts_off, misses, misses_mark, not_mark, is_mark_lem, mark_few, turns}
use Rattle.commands.proofs.CommandSimple.{within_limit, listed_less}
use Rattle.parser.proofs.Loops.{Looped}

-- one level more
pub deeper_marks : {n d e : ℕ} → n ≡ d → e ≡ d + 1 → suc n ≡ e
deeper_marks {d} m i = ap suc m ∙ sym (add-one d) ∙ sym i

pub deeper_limit : {d e : ℕ} → e ≡ d + 1 → d < 32 → e ≤ 32
deeper_limit i h = omega (arith, i, h)

-- an opener, which the token t of a command is
opens : {d e : ℕ} {P A : Parser} {T : List Entry} {t : Tok} {L : List Sym} (K : List Sym) → marks L ≡ d → e ≡ d + 1 → d < 32 → tokens.Read P t A → ((s : Listing) → step list (cmd ∷ L) s t P.lookahead.place ≡ go K s) → marks K ≡ suc (marks L) → few t ≡ true → Goes (cmd ∷ L) [] P.count T (ahead P) K [] A.count T (ahead A)
opens K m i h r g k f = reads_on r g (within_limit (k ∙ deeper_marks m i) (deeper_limit i h)) f

-- begin cmd {; cmd} end
pub blocks : (d e : ℕ) (P A Q : Parser) (T T' : List Entry) (r : Result ℕ Refusal) → e ≡ d + 1 → d < 32 → tokens.Read P (start Begin) A → Takes (λ L. cmd ∷ cmds ∷ L) (λ L. L) e A T Q T' r → Parsed cmd d P T Q T' r
blocks d e P A Q T T' (Ok n) i h a x = λ L m. chain (opens (cmd ∷ cmds ∷ leave ∷ L) m i h a (λ s. refl) refl refl) (chain (x (leave ∷ L) (deeper_marks m i)) leaves)
blocks d e P A Q T T' (Err w) i h a x = λ L m. chain_stop (opens (cmd ∷ cmds ∷ leave ∷ L) m i h a (λ s. refl) refl refl) (x (leave ∷ L) (deeper_marks m i))

-- what is read after one token
pub less_after : (a b : ℕ) (P A Q : Parser) (t : Tok) (r : Result ℕ Refusal) → a ≤ b + 1 → tokens.Read P t A → Less a A Q r → Less b P Q r
less_after a b P A Q t (Ok n) h x l = (l.0, omega (arith, x.one, l.1, h), omega (arith, x.one, x.count, l.2, h))
less_after a b P A Q t (Err w) h x l = tt

pub less_slack : (P Q : Parser) (r : Result ℕ Refusal) → Less 0 P Q r → Less 1 P Q r
less_slack P Q (Ok n) l = (l.0, omega (arith, l.1), omega (arith, l.2))
less_slack P Q (Err w) l = tt

pub less_looped : (P A B C D E : Parser) (t u : Tok) (T T' : List Entry) (n : Node) (place v w r : ℕ) → Ready P → tokens.Read P t A → Less 0 A B (Ok v) → tokens.Read B u C → Less 1 C D (Ok w) → Listed D T n place r E T' → Less 0 P E (Ok r)
less_looped P A B C D E t u T T' n place v w r h a x b y l = listed_less 0 P D E T T' n place r (omega (arith, h.room)) y.0 l (omega (arith, a.one, x.1, b.one, y.1)) (omega (arith, a.one, a.count, x.2, b.one, b.count, y.2))

pub less_chosen : (P A B C D E F : Parser) (t u : Tok) (T T' : List Entry) (n : Node) (place v w z r : ℕ) → Ready P → tokens.Read P t A → Less 0 A B (Ok v) → tokens.Read B u C → Less 1 C D (Ok w) → Less 1 D E (Ok z) → Listed E T n place r F T' → Less 0 P F (Ok r)
less_chosen P A B C D E F t u T T' n place v w z r h a x b y o l = listed_less 0 P E F T T' n place r (omega (arith, h.room)) o.0 l (omega (arith, a.one, x.1, b.one, y.1, o.1)) (omega (arith, a.one, a.count, x.2, b.one, b.count, y.2, o.2))

pub less_skipped : (P Q : Parser) (T T' : List Entry) (n : Node) (place r : ℕ) → Ready P → Roomy P → Listed P T n place r Q T' → Less 1 P Q (Ok r)
less_skipped P Q T T' n place r h k l = listed_less 1 P P Q T T' n place r (omega (arith, k)) h l (omega arith) (omega arith)

pub less_ended : (O P Q A : Parser) (t : Tok) (T T₁ : List Entry) (d n m : ℕ) → Less 1 O P (Ok n) → Looped cmds d n P T m Q T₁ → tokens.Read Q t A → Less 0 O A (Ok m)
less_ended O P Q A t T T₁ d n m l k a = (a.ready, omega (arith, l.1, k.fewer, a.one), omega (arith, l.2, k.room, a.one, a.count))

-- an opener with a test, a mark and a command, and then R
pub record Guard (R : List Sym → List Sym) (m : Mark) (d e : ℕ) (P A : Parser) (T : List Entry) : Type 0 where
  pub inside : e ≤ 32
  pub deep : (L : List Sym) → marks L ≡ d → marks (R L) ≡ e
  pub opened : (L : List Sym) → marks L ≡ d → Goes (cmd ∷ L) [] P.count T (ahead P) (expr ∷ is m ∷ cmd ∷ R L) [] A.count T (ahead A)
  pub expects : (K : List Sym) (s : Listing) (p : ℕ) → step list (is m ∷ K) s (mark m) p ≡ go K s

abbrev pub chosen_by : ℕ → List Sym → List Sym
chosen_by p L = elses ∷ does (a_choice p) ∷ leave ∷ L

abbrev pub looped_by : ℕ → List Sym → List Sym
looped_by p L = does (a_loop p) ∷ leave ∷ L

pub choosing : (d e : ℕ) (P A : Parser) (T : List Entry) → e ≡ d + 1 → d < 32 → tokens.Read P (start If) A → Guard (chosen_by P.lookahead.place) Then d e P A T
choosing d e P A T i h a = record { inside = deeper_limit i h; deep = λ L m. deeper_marks m i; opened = λ L m. opens (expr ∷ is Then ∷ cmd ∷ chosen_by P.lookahead.place L) m i h a (λ s. refl) refl refl; expects = λ K s p. refl }

pub looping : (d e : ℕ) (P A : Parser) (T : List Entry) → e ≡ d + 1 → d < 32 → tokens.Read P (start While) A → Guard (looped_by P.lookahead.place) Do d e P A T
looping d e P A T i h a = record { inside = deeper_limit i h; deep = λ L m. deeper_marks m i; opened = λ L m. opens (expr ∷ is Do ∷ cmd ∷ looped_by P.lookahead.place L) m i h a (λ s. refl) refl refl; expects = λ K s p. refl }

module _ {R : List Sym → List Sym} {m : Mark} {d e : ℕ} {P A : Parser} {T : List Entry} (g : Guard R m d e P A T) where
  pub test_wrong : (B Q : Parser) (T₁ T' : List Entry) (w : Refusal) → Parsed expr e A T B T₁ (Err w) → Parsed cmd d P T Q T' (Err w)
  test_wrong B Q T₁ T' w x = λ L k. chain_stop (g.opened L k) (x (is m ∷ cmd ∷ R L) (g.deep L k))

  pub test_alone : (B Q : Parser) (T₁ T' : List Entry) (u : ℕ) (w : Refusal) → Parsed expr e A T B T₁ (Ok u) → Missed m B w → Parsed cmd d P T Q T' (Err w)
  test_alone B Q T₁ T' u w x y = λ L k. chain_stop (g.opened L k) (chain_stop (x (is m ∷ cmd ∷ R L) (g.deep L k)) (misses_mark m B y (λ s. g.expects (cmd ∷ R L) s B.lookahead.place) (within_limit (g.deep L k) g.inside)))

  tested : (B C : Parser) (T₁ : List Entry) (u : ℕ) → Parsed expr e A T B T₁ (Ok u) → tokens.Read B (mark m) C → (L : List Sym) → marks L ≡ d → Goes (cmd ∷ L) [] P.count T (ahead P) (cmd ∷ R L) (u ∷ []) C.count T₁ (ahead C)
  tested B C T₁ u x y L k = chain (g.opened L k) (chain (x (is m ∷ cmd ∷ R L) (g.deep L k)) (reads_on y (λ s. g.expects (cmd ∷ R L) s B.lookahead.place) (within_limit (g.deep L k) g.inside) refl))

  pub body_wrong : (B C D Q : Parser) (T₁ T₂ T' : List Entry) (u : ℕ) (w : Refusal) → Parsed expr e A T B T₁ (Ok u) → tokens.Read B (mark m) C → Parsed cmd e C T₁ D T₂ (Err w) → Parsed cmd d P T Q T' (Err w)
  body_wrong B C D Q T₁ T₂ T' u w x y z = λ L k. chain_stop (tested B C T₁ u x y L k) (above_stop (u ∷ []) (z (R L) (g.deep L k)))

  pub embodied : (B C D : Parser) (T₁ T₂ : List Entry) (u v : ℕ) → Parsed expr e A T B T₁ (Ok u) → tokens.Read B (mark m) C → Parsed cmd e C T₁ D T₂ (Ok v) → (L : List Sym) → marks L ≡ d → Goes (cmd ∷ L) [] P.count T (ahead P) (R L) (v ∷ u ∷ []) D.count T₂ (ahead D)
  embodied B C D T₁ T₂ u v x y z L k = chain (tested B C T₁ u x y L k) (above (u ∷ []) (z (R L) (g.deep L k)))

-- while expr do cmd
pub looped : (d e : ℕ) (P A B C D Q : Parser) (T T₁ T₂ T' : List Entry) (u v r : ℕ) → Guard (looped_by P.lookahead.place) Do d e P A T → Parsed expr e A T B T₁ (Ok u) → tokens.Read B (mark Do) C → Parsed cmd e C T₁ D T₂ (Ok v) → Listed D T₂ (Loop u v) P.lookahead.place r Q T' → Parsed cmd d P T Q T' (Ok r)
looped d e P A B C D Q T T₁ T₂ T' u v r g x y z l = λ L k. chain (embodied g B C D T₁ T₂ u v x y z L k) (chain (lists (a_loop P.lookahead.place) (λ V es. refl) l) leaves)

-- if expr then cmd [else cmd]
pub else_wrong : (d e : ℕ) (P A B C D E Q : Parser) (T T₁ T₂ T₃ T' : List Entry) (u v : ℕ) (w : Refusal) → Guard (chosen_by P.lookahead.place) Then d e P A T → Parsed expr e A T B T₁ (Ok u) → tokens.Read B (mark Then) C → Parsed cmd e C T₁ D T₂ (Ok v) → Parsed elses e D T₂ E T₃ (Err w) → Parsed cmd d P T Q T' (Err w)
else_wrong d e P A B C D E Q T T₁ T₂ T₃ T' u v w g x y z o = λ L k. chain_stop (embodied g B C D T₁ T₂ u v x y z L k) (above_stop (v ∷ u ∷ []) (o (does (a_choice P.lookahead.place) ∷ leave ∷ L) (g.deep L k)))

pub chosen : (d e : ℕ) (P A B C D E Q : Parser) (T T₁ T₂ T₃ T' : List Entry) (u v n r : ℕ) → Guard (chosen_by P.lookahead.place) Then d e P A T → Parsed expr e A T B T₁ (Ok u) → tokens.Read B (mark Then) C → Parsed cmd e C T₁ D T₂ (Ok v) → Parsed elses e D T₂ E T₃ (Ok n) → Listed E T₃ (Choice u v n) P.lookahead.place r Q T' → Parsed cmd d P T Q T' (Ok r)
chosen d e P A B C D E Q T T₁ T₂ T₃ T' u v n r g x y z o l = λ L k. chain (embodied g B C D T₁ T₂ u v x y z L k) (chain (above (v ∷ u ∷ []) (o (does (a_choice P.lookahead.place) ∷ leave ∷ L) (g.deep L k))) (chain (lists (a_choice P.lookahead.place) (λ V es. refl) l) leaves))

-- no command begins
not_cmd : (K : List Sym) (s : Listing) (t : Tok) (p : ℕ) (b : Move Listing) → is_cmd t ≡ false → at_cmd list K s t p b ≡ b
not_cmd K s (name n) p b h = clash h
not_cmd K s (start x) p b h = clash h
not_cmd K s (lit l) p b h = refl
not_cmd K s (op o) p b h = refl
not_cmd K s (pre x) p b h = refl
not_cmd K s else' p b h = refl
not_cmd K s unused p b h = refl
not_cmd K s (ty y) p b h = refl
not_cmd K s (mark m) p b h = refl

pub skipped : (d : ℕ) (P Q : Parser) (T T' : List Entry) (r : ℕ) → is_cmd (next P) ≡ false → Listed P T Skip P.lookahead.place r Q T' → Parsed cmd d P T Q T' (Ok r)
skipped d P Q T T' r h l = λ L m. chain (turns P (λ s. not_cmd L s (next P) P.lookahead.place (step list L (list (a_skip P.lookahead.place) s) (next P) P.lookahead.place) h)) (lists (a_skip P.lookahead.place) (λ V es. refl) l)

-- [else cmd]
pub no_else_lem : (d : ℕ) (P Q : Parser) (T T' : List Entry) (r : ℕ) → is_else (next P) ≡ false → Listed P T Skip P.lookahead.place r Q T' → Parsed elses d P T Q T' (Ok r)
no_else_lem d P Q T T' r h l = λ L m. chain (turns P (λ s. ap (λ b. cond b (go (cmd ∷ L) s) (step list L (list (a_skip P.lookahead.place) s) (next P) P.lookahead.place)) h)) (lists (a_skip P.lookahead.place) (λ V es. refl) l)

pub with_else : (d : ℕ) (P A Q : Parser) (T T' : List Entry) (r : Result ℕ Refusal) → d ≤ 32 → tokens.Read P else' A → Parsed cmd d A T Q T' r → Parsed elses d P T Q T' r
with_else d P A Q T T' (Ok n) h a x = λ L m. chain (reads_on a (λ s. refl) (within_limit m h) refl) (x L m)
with_else d P A Q T T' (Err w) h a x = λ L m. chain_stop (reads_on a (λ s. refl) (within_limit m h) refl) (x L m)

-- {; cmd} end
another_cmd : (L : List Sym) (s : Listing) (P : Parser) → is_mark Semicolon (next P) ≡ true → step list (cmds ∷ L) s (next P) P.lookahead.place ≡ go (cmd ∷ does (a_seq P.lookahead.place) ∷ cmds ∷ L) s
another_cmd L s P h = is_mark_lem Semicolon (next P) (go (cmd ∷ does (a_seq P.lookahead.place) ∷ cmds ∷ L) s) (at_mark list End (next P) (go L s) stuck) h

-- one more command
goes_on : (d n m : ℕ) (P Q A : Parser) (T T₁ : List Entry) → d ≤ 32 → Looped cmds d n P T m Q T₁ → is_mark Semicolon (next Q) ≡ true → tokens.Read Q (next Q) A → (L : List Sym) → marks L ≡ d → Goes (cmds ∷ L) (n ∷ []) P.count T (ahead P) (cmd ∷ does (a_seq Q.lookahead.place) ∷ cmds ∷ L) (m ∷ []) A.count T₁ (ahead A)
goes_on d n m P Q A T T₁ h k i a L e = chain (k.is L e) (reads_on a (λ s. another_cmd L s Q i) (within_limit e h) (mark_few Semicolon (next Q) i))

pub one_more : (d n m v r : ℕ) (P Q A B C : Parser) (T T₁ T₂ T₃ : List Entry) → d ≤ 32 → Looped cmds d n P T m Q T₁ → is_mark Semicolon (next Q) ≡ true → tokens.Read Q (next Q) A → Less 1 A B (Ok v) → Parsed cmd d A T₁ B T₂ (Ok v) → Listed B T₂ (Seq m v) Q.lookahead.place r C T₃ → Looped cmds d n P T r C T₃
one_more d n m v r P Q A B C T T₁ T₂ T₃ h k i a l x y =
    let same : unread C ≡ unread B = ap (λ f. length f.tokens) y.same in
    record {
      ready = y.ready l.0 (omega (arith, same, y.count, l.2, a.one, a.count, a.ready.room));
      fewer = omega (arith, same, l.1, a.one, k.fewer);
      room = omega (arith, same, y.count, l.2, a.one, a.count, k.room);
      is = λ L e. chain (goes_on d n m P Q A T T₁ h k i a L e) (chain (above (m ∷ []) (x (does (a_seq Q.lookahead.place) ∷ cmds ∷ L) e)) (lists (a_seq Q.lookahead.place) (λ V es. refl) y));
    }

pub next_wrong : (d n m : ℕ) (O P Q A B C : Parser) (S T T₁ T₂ T' : List Entry) (w : Refusal) → d ≤ 32 → Parsed cmd d O S P T (Ok n) → Looped cmds d n P T m Q T₁ → is_mark Semicolon (next Q) ≡ true → tokens.Read Q (next Q) A → Parsed cmd d A T₁ B T₂ (Err w) → Takes (λ L. cmd ∷ cmds ∷ L) (λ L. L) d O S C T' (Err w)
next_wrong d n m O P Q A B C S T T₁ T₂ T' w h f k i a x = λ L e. chain_stop (f (cmds ∷ L) e) (chain_stop (goes_on d n m P Q A T T₁ h k i a L e) (above_stop (m ∷ []) (x (does (a_seq Q.lookahead.place) ∷ cmds ∷ L) e)))

pub next_broken : (d n m : ℕ) (O P Q C : Parser) (S T T₁ T' : List Entry) (w : Refusal) → d ≤ 32 → Parsed cmd d O S P T (Ok n) → Looped cmds d n P T m Q T₁ → is_mark Semicolon (next Q) ≡ true → Broken Q (next Q) w → Takes (λ L. cmd ∷ cmds ∷ L) (λ L. L) d O S C T' (Err w)
next_broken d n m O P Q C S T T₁ T' w h f k i x = λ L e. chain_stop (f (cmds ∷ L) e) (chain_stop (k.is L e) (cuts_off Q (next Q) w (cmd ∷ does (a_seq Q.lookahead.place) ∷ cmds ∷ L) (λ s. s) x (λ s. another_cmd L s Q i) (within_limit e h) (mark_few Semicolon (next Q) i)))

pub ended : (d n m : ℕ) (O P Q A : Parser) (S T T₁ : List Entry) → d ≤ 32 → Parsed cmd d O S P T (Ok n) → Looped cmds d n P T m Q T₁ → tokens.Read Q (mark End) A → Takes (λ L. cmd ∷ cmds ∷ L) (λ L. L) d O S A T₁ (Ok m)
ended d n m O P Q A S T T₁ h f k a = λ L e. chain (f (cmds ∷ L) e) (chain (k.is L e) (reads_on a (λ s. refl) (within_limit e h) refl))

pub unended : (d n m : ℕ) (O P Q A : Parser) (S T T₁ T' : List Entry) (w : Refusal) → d ≤ 32 → Parsed cmd d O S P T (Ok n) → Looped cmds d n P T m Q T₁ → is_mark Semicolon (next Q) ≡ false → Missed End Q w → Takes (λ L. cmd ∷ cmds ∷ L) (λ L. L) d O S A T' (Err w)
unended d n m O P Q A S T T₁ T' w h f k i x = λ L e. chain_stop (f (cmds ∷ L) e) (chain_stop (k.is L e) (misses Q L x (λ j s. not_mark Semicolon (next Q) (go (cmd ∷ does (a_seq Q.lookahead.place) ∷ cmds ∷ L) s) (at_mark list End (next Q) (go L s) stuck) i ∙ not_mark End (next Q) (go L s) stuck j) (λ s. refl) (within_limit e h)))
