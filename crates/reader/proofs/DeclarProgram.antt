-- The whole text, exit by exit.
use Rattle.std.proofs.Common.{◌≡◌, ℕ, ◌<◌, true, false, cond, List, [], ◌∷◌, Ok, Err, sym, refl, ap, ◌∙◌, arith, lt-ltb}
use Rattle.tosca.specs.declared.table.Entry.{Entry}
use Rattle.tosca.specs.declared.table.Node.TheVariants as node
use Rattle.grammar.specs.declared.symbols.Mark.TheVariants.{Semicolon, Period, Stop, Program}
use Rattle.grammar.specs.Tokens.{name, lit, op, pre, start, else', unused, ty, mark}
use Rattle.grammar.specs.Building.{a_program}
use Rattle.grammar.specs.Automaton.{Sym, cmd, cmds, leave, is, does, text, vars, body, stuck, go}
use Rattle.grammar.specs.Listing.{Listing, listing}
use Rattle.grammar.specs.Limits.{accepted}
use Rattle.lexer.specs.declared.token.Refusal.{Refusal}
use Rattle.lexer.specs.declared.token.Question.TheVariants.{Grammar}
use Rattle.lexer.specs.Lexemes.{Raw, meant}
use Rattle.lexer.specs.Lexemes as raw
use Rattle.lexer.specs.Scan.{Scan, follow, scan, limited}
use Rattle.lexer.specs.Scan as scans
use Rattle.lexer.specs.Names.{Known, tok}
use Rattle.parser.specs.declared.parser.Parser.{Parser}
use Rattle.parser.specs.Feeds.{feed, known_of, ahead, next}
use Rattle.parser.specs.Advancing.{is_mark, refuses, Read, Missed, Listed}
use Rattle.parser.specs.Parsing.{reading, refusal, Goes, Stops, Takes}
use Rattle.declarations.specs.Declaring.{Passes}
use Rattle.reader.specs.Program.{Whole}
use Rattle.parser.proofs.Chains.{chain, chain_stop, takes, lists, leaves}
use Rattle.parser.proofs.CommandSteps.{clash, reads_on, refused_here, misses_mark, not_mark}

-- nothing follows the end of the text
at_stop : (k : Known) (r : Raw) (p : ℕ) (c : Scan) (s : Listing) → is_mark Stop (tok k r) ≡ true → reading (is Stop ∷ []) s (feed k (follow r p c)) ≡ accepted s
at_stop k (raw.name w) p c s h = clash (sym h)
at_stop k (raw.number w) p c s h = clash (sym h)
at_stop k (raw.other (mark x)) p c s h =
    ap (λ b. reading (is Stop ∷ []) s (feed k (scans.more (raw.other (mark x)) p (cond b scans.over c)))) h
    ∙ takes (is Stop ∷ []) [] s s (mark x) p (feed k scans.over) (ap (λ b. cond b (go [] s) stuck) h) (omega arith) refl
at_stop k (raw.other (name n)) p c s h = clash (sym h)
at_stop k (raw.other (lit l)) p c s h = clash (sym h)
at_stop k (raw.other (op o)) p c s h = clash (sym h)
at_stop k (raw.other (pre x)) p c s h = clash (sym h)
at_stop k (raw.other (start x)) p c s h = clash (sym h)
at_stop k (raw.other else') p c s h = clash (sym h)
at_stop k (raw.other unused) p c s h = clash (sym h)
at_stop k (raw.other (ty y)) p c s h = clash (sym h)

pub whole_stops : (P : Parser) (T : List Entry) (w : Refusal) → P.count ≡ 0 → Stops (text ∷ []) [] P.count T (ahead P) w → reading (text ∷ []) (listing [] []) (ahead P) ≡ refusal w
whole_stops P T w z x = x.stops [] T [] (sym z, refl)

abbrev last : ℕ → List Sym
last p = does (a_program p) ∷ is Stop ∷ []

-- program name ;
module _ (P A B C : Parser) (T : List Entry) (x : ℕ) (z : P.count ≡ 0) (few : x < 64) (a : Read P (mark Program) A) (b : Read A (name x) B) (c : Read B (mark Semicolon) C) where
  heading : Goes (text ∷ []) [] P.count T (ahead P) (vars ∷ last P.lookahead.place) [] C.count T (ahead C)
  heading = chain (reads_on a (λ s. refl) (omega arith) refl) (chain (reads_on b (λ s. refl) (omega arith) (lt-ltb x 64 few)) (reads_on c (λ s. refl) (omega arith) refl))

  pub decls_wrong : (D : Parser) (T₁ : List Entry) (w : Refusal) → Passes {A = Unit {0}} (λ L. vars ∷ L) body C T D T₁ (Err w) → reading (text ∷ []) (listing [] []) (ahead P) ≡ refusal w
  decls_wrong D T₁ w d = whole_stops P T w z (chain_stop heading (d (last P.lookahead.place) refl))

  module _ (D : Parser) (T₁ : List Entry) (u : Unit {0}) (d : Passes {A = Unit {0}} (λ L. vars ∷ L) body C T D T₁ (Ok u)) where
    pub body_wrong : (E : Parser) (T₂ : List Entry) (w : Refusal) → Takes (λ L. cmd ∷ cmds ∷ L) (λ L. L) 1 D T₁ E T₂ (Err w) → reading (text ∷ []) (listing [] []) (ahead P) ≡ refusal w
    body_wrong E T₂ w e = whole_stops P T w z (chain_stop heading (chain_stop (d (last P.lookahead.place) refl) (e (leave ∷ is Period ∷ last P.lookahead.place) refl)))

    module _ (E : Parser) (T₂ : List Entry) (n : ℕ) (e : Takes (λ L. cmd ∷ cmds ∷ L) (λ L. L) 1 D T₁ E T₂ (Ok n)) where
      ending : Goes (text ∷ []) [] P.count T (ahead P) (is Period ∷ last P.lookahead.place) (n ∷ []) E.count T₂ (ahead E)
      ending = chain heading (chain (d (last P.lookahead.place) refl) (chain (e (leave ∷ is Period ∷ last P.lookahead.place) refl) leaves))

      pub no_period : (w : Refusal) → Missed Period E w → reading (text ∷ []) (listing [] []) (ahead P) ≡ refusal w
      no_period w m = whole_stops P T w z (chain_stop ending (misses_mark Period E m (λ s. refl) (omega arith)))

      module _ (F G : Parser) (T₃ : List Entry) (r : ℕ) (f : Read E (mark Period) F) (l : Listed F T₂ (node.Program n) P.lookahead.place r G T₃) where
        built : Goes (text ∷ []) [] P.count T (ahead P) (is Stop ∷ []) (r ∷ []) G.count T₃ (ahead G)
        built = chain ending (chain (reads_on f (λ s. refl) (omega arith) refl) (lists (a_program P.lookahead.place) (λ V es. refl) l))

        pub no_stop : (w : Refusal) → is_mark Stop (next G) ≡ false → w ≡ refuses Grammar G.lookahead.place → reading (text ∷ []) (listing [] []) (ahead P) ≡ refusal w
        no_stop w h i = whole_stops P T w z (chain_stop built (refused_here G (λ s. not_mark Stop (next G) (go [] s) stuck h) i))

        pub whole : (v : Unit {0}) → is_mark Stop (next G) ≡ true → Whole {A = Unit {0}} P T G T₃ (Ok v)
        whole v h =
            let x = built.goes [] T [] (sym z, refl) in
            let s = listing (r ∷ []) x.0 in
            (s, x.1, x.2 ∙ at_stop (known_of G.names) (meant G.lookahead.token) G.lookahead.place (limited (scan G.lookahead.end.place G.lookahead.end.rest.now)) s h)
