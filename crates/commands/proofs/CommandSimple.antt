-- Commands that hold no other, exit by exit.
use Rattle.std.proofs.Common.{◌≡◌, ℕ, ◌+◌, ◌*◌, ◌<◌, ◌≤◌, List, [], ◌∷◌, length, Ok, Err, sym, refl, ap, subst, arith, lt-ltb}
use Rattle.tosca.specs.declared.table.Entry.{Entry}
use Rattle.tosca.specs.declared.table.Node.{Node}
use Rattle.tosca.specs.declared.table.Node.TheVariants.{Assign, Input, Output}
use Rattle.grammar.specs.declared.symbols.Mark.TheVariants.{Becomes, Close}
use Rattle.grammar.specs.declared.symbols.Prefix.TheVariants.{Open}
use Rattle.grammar.specs.declared.symbols.Start.TheVariants as begins
use Rattle.grammar.specs.Tokens.{name, pre, start, mark}
use Rattle.grammar.specs.Building.{a_assign, a_input, a_output}
use Rattle.grammar.specs.Automaton.{Sym, expr, cmd, is, does, marks}
use Rattle.lexer.specs.declared.token.Refusal.{Refusal}
use Rattle.parser.specs.declared.parser.Parser.{Parser}
use Rattle.parser.specs.Feeds.{ahead, unread, Ready}
use Rattle.parser.specs.Advancing.{Read, Missed, Listed}
use Rattle.parser.specs.Parsing.{Goes, Parsed, Less}
use Rattle.parser.proofs.Chains.{chain, chain_stop, lists}
use Rattle.parser.proofs.CommandSteps.{reads_on, reads_act, misses_mark}

pub within_limit : {n d : ℕ} → n ≡ d → d ≤ 32 → n ≤ 32
within_limit m h = subst (λ x. x ≤ 32) (sym m) h

-- a node is listed last
pub listed_less : (slack : ℕ) (P C D : Parser) (T T' : List Entry) (n : Node) (place r : ℕ) → P.count + 2 * unread P + slack ≤ 40000 → Ready C → Listed C T n place r D T' → unread C + 1 ≤ unread P + slack → C.count + 2 * unread C + 1 ≤ P.count + 2 * unread P + slack → Less slack P D (Ok r)
listed_less slack P C D T T' n place r h k l a b =
    let same : unread D ≡ unread C = ap (λ f. length f.tokens) l.same in
    (l.ready k (omega (arith, same, l.count, h, b)), omega (arith, same, a), omega (arith, same, l.count, b))

-- name := expr
assigning : (d : ℕ) (P A B : Parser) (T : List Entry) (x : ℕ) (L : List Sym) → marks L ≡ d → d ≤ 32 → x < 64 → Read P (name x) A → Read A (mark Becomes) B → Goes (cmd ∷ L) [] P.count T (ahead P) (expr ∷ does (a_assign A.lookahead.place x) ∷ L) [] B.count T (ahead B)
assigning d P A B T x L m h few a b = chain (reads_on a (λ s. refl) (within_limit m h) (lt-ltb x 64 few)) (reads_on b (λ s. refl) (within_limit m h) refl)

pub assigned : (d : ℕ) (P A B C D : Parser) (T T₁ T₂ : List Entry) (x v r : ℕ) → d ≤ 32 → x < 64 → Read P (name x) A → Read A (mark Becomes) B → Parsed expr d B T C T₁ (Ok v) → Listed C T₁ (Assign x v) A.lookahead.place r D T₂ → Parsed cmd d P T D T₂ (Ok r)
assigned d P A B C D T T₁ T₂ x v r h few a b e l = λ L m. chain (assigning d P A B T x L m h few a b) (chain (e (does (a_assign A.lookahead.place x) ∷ L) m) (lists (a_assign A.lookahead.place x) (λ V es. refl) l))

pub assigned_wrong : (d : ℕ) (P A B C D : Parser) (T T₁ T₂ : List Entry) (x : ℕ) (r : Refusal) → d ≤ 32 → x < 64 → Read P (name x) A → Read A (mark Becomes) B → Parsed expr d B T C T₁ (Err r) → Parsed cmd d P T D T₂ (Err r)
assigned_wrong d P A B C D T T₁ T₂ x r h few a b e = λ L m. chain_stop (assigning d P A B T x L m h few a b) (e (does (a_assign A.lookahead.place x) ∷ L) m)

-- read ( name )
inputting : (d : ℕ) (P A B C D : Parser) (T T₁ : List Entry) (x r : ℕ) (L : List Sym) → marks L ≡ d → d ≤ 32 → x < 64 → Read P (start begins.Read) A → Read A (pre Open) B → Read B (name x) C → Listed C T (Input x) P.lookahead.place r D T₁ → Goes (cmd ∷ L) [] P.count T (ahead P) (is Close ∷ L) (r ∷ []) D.count T₁ (ahead D)
inputting d P A B C D T T₁ x r L m h few a b n l = chain (reads_on a (λ s. refl) (within_limit m h) refl) (chain (reads_on b (λ s. refl) (within_limit m h) refl) (chain (reads_act (a_input P.lookahead.place x) n (λ s. refl) (within_limit m h) (lt-ltb x 64 few)) (lists (a_input P.lookahead.place x) (λ V es. refl) l)))

pub inputs : (d : ℕ) (P A B C D E : Parser) (T T₁ : List Entry) (x r : ℕ) → d ≤ 32 → x < 64 → Read P (start begins.Read) A → Read A (pre Open) B → Read B (name x) C → Listed C T (Input x) P.lookahead.place r D T₁ → Read D (mark Close) E → Parsed cmd d P T E T₁ (Ok r)
inputs d P A B C D E T T₁ x r h few a b n l e = λ L m. chain (inputting d P A B C D T T₁ x r L m h few a b n l) (reads_on e (λ s. refl) (within_limit m h) refl)

-- write ( expr )
outputting : (d : ℕ) (P A B : Parser) (T : List Entry) (L : List Sym) → marks L ≡ d → d ≤ 32 → Read P (start begins.Write) A → Read A (pre Open) B → Goes (cmd ∷ L) [] P.count T (ahead P) (expr ∷ is Close ∷ does (a_output P.lookahead.place) ∷ L) [] B.count T (ahead B)
outputting d P A B T L m h a b = chain (reads_on a (λ s. refl) (within_limit m h) refl) (reads_on b (λ s. refl) (within_limit m h) refl)

pub outputs : (d : ℕ) (P A B C D E : Parser) (T T₁ T₂ : List Entry) (v r : ℕ) → d ≤ 32 → Read P (start begins.Write) A → Read A (pre Open) B → Parsed expr d B T C T₁ (Ok v) → Read C (mark Close) D → Listed D T₁ (Output v) P.lookahead.place r E T₂ → Parsed cmd d P T E T₂ (Ok r)
outputs d P A B C D E T T₁ T₂ v r h a b e c l = λ L m. chain (outputting d P A B T L m h a b) (chain (e (is Close ∷ does (a_output P.lookahead.place) ∷ L) m) (chain (reads_on c (λ s. refl) (within_limit m h) refl) (lists (a_output P.lookahead.place) (λ V es. refl) l)))

pub outputs_wrong : (d : ℕ) (P A B C D : Parser) (T T₁ T₂ : List Entry) (w : Refusal) → d ≤ 32 → Read P (start begins.Write) A → Read A (pre Open) B → Parsed expr d B T C T₁ (Err w) → Parsed cmd d P T D T₂ (Err w)
outputs_wrong d P A B C D T T₁ T₂ w h a b e = λ L m. chain_stop (outputting d P A B T L m h a b) (e (is Close ∷ does (a_output P.lookahead.place) ∷ L) m)

pub outputs_open : (d : ℕ) (P A B C D : Parser) (T T₁ T₂ : List Entry) (v : ℕ) (w : Refusal) → d ≤ 32 → Read P (start begins.Write) A → Read A (pre Open) B → Parsed expr d B T C T₁ (Ok v) → Missed Close C w → Parsed cmd d P T D T₂ (Err w)
outputs_open d P A B C D T T₁ T₂ v w h a b e c = λ L m. chain_stop (outputting d P A B T L m h a b) (chain_stop (e (is Close ∷ does (a_output P.lookahead.place) ∷ L) m) (misses_mark Close C c (λ s. refl) (within_limit m h)))
