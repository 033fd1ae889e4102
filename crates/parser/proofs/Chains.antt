-- How what the parser's functions do joins up.
use Rattle.std.proofs.Common.{◌≡◌, ℕ, ◌+◌, ◌<◌, ◌≤◌, Bool, true, false, cond, ltb, leb, List, [], ◌∷◌, ◌++◌, length, set, sym, refl, ap, ◌∙◌, subst, arith, length-append, le-ltb, le-leb, leb-true}
use Rattle.tosca.specs.declared.table.Entry.{Entry}
use Rattle.tosca.specs.declared.table.Node.{Node}
use Rattle.tosca.specs.Table.{entry}
use Rattle.grammar.specs.Tokens.{Tok, name, Item, at}
use Rattle.grammar.specs.Building.{Act}
use Rattle.grammar.specs.Automaton.{Sym, does, leave, marks, run, step, stuck, go, after}
use Rattle.grammar.specs.Listing.{Listing, listing, list, laid}
use Rattle.grammar.specs.Limits.{refused, limits, few, Ending}
use Rattle.lexer.specs.declared.token.Refusal.{Refusal}
use Rattle.lexer.specs.declared.token.Question.TheVariants.{Grammar, Depth, NameCount}
use Rattle.parser.specs.declared.parser.Parser.{Parser}
use Rattle.parser.specs.Feeds.{Feed, more, ahead}
use Rattle.parser.specs.Advancing.{refuses, broken, Listed}
use Rattle.parser.specs.Parsing.{Holds, reading, Goes, Stops}

-- one after the other
pub chain : {J K L : List Sym} {U W X : List ℕ} {c d e : ℕ} {T T' T'' : List Entry} {f g h : Feed} → Goes J U c T f K W d T' g → Goes K W d T' g L X e T'' h → Goes J U c T f L X e T'' h
chain a b = record { goes = λ V was es h. let x = a.goes V was es h in let y = b.goes V was x.0 x.1 in (y.0, y.1, x.2 ∙ y.2) }

pub chain_stop : {J K : List Sym} {U W : List ℕ} {c d : ℕ} {T T' : List Entry} {f g : Feed} {r : Refusal} → Goes J U c T f K W d T' g → Stops K W d T' g r → Stops J U c T f r
chain_stop a b = record { stops = λ V was es h. let x = a.goes V was es h in x.2 ∙ b.stops V was x.0 x.1 }

-- above other loose entries
pub above : {J K : List Sym} {n c d : ℕ} {T T' : List Entry} {f g : Feed} (U : List ℕ) → Goes J [] c T f K (n ∷ []) d T' g → Goes J U c T f K (n ∷ U) d T' g
above U a = record { goes = λ V was es h. a.goes (U ++ V) was es h }

pub above_stop : {J : List Sym} {c : ℕ} {T : List Entry} {f : Feed} {r : Refusal} (U : List ℕ) → Stops J [] c T f r → Stops J U c T f r
above_stop U a = record { stops = λ V was es h. a.stops (U ++ V) was es h }

-- nothing is listed, and the automaton comes from J to K
pub moves : {J K : List Sym} {U : List ℕ} {c : ℕ} {T : List Entry} {f g : Feed} → ((s : Listing) → reading J s f ≡ reading K s g) → Goes J U c T f K U c T g
moves {U} m = record { goes = λ V was es h. (es, h, m (listing (U ++ V) es)) }

-- the same feed under another name, and the same count
pub from_feed : {J K : List Sym} {U W : List ℕ} {c d : ℕ} {T T' : List Entry} {f f' g : Feed} → f ≡ f' → Goes J U c T f' K W d T' g → Goes J U c T f K W d T' g
from_feed {J} {K} {U} {W} {c} {d} {T} {T'} {g} e a = subst (λ x. Goes J U c T x K W d T' g) (sym e) a

pub from_count : {J K : List Sym} {U W : List ℕ} {c c' d : ℕ} {T T' : List Entry} {f g : Feed} → c' ≡ c → Goes J U c T f K W d T' g → Goes J U c' T f K W d T' g
from_count {J} {K} {U} {W} {d} {T} {T'} {f} {g} e a = subst (λ x. Goes J U x T f K W d T' g) (sym e) a

pub stop_feed : {J : List Sym} {U : List ℕ} {c : ℕ} {T : List Entry} {f f' : Feed} {r : Refusal} → f ≡ f' → Stops J U c T f' r → Stops J U c T f r
stop_feed {J} {U} {c} {T} {r} e a = subst (λ x. Stops J U c T x r) (sym e) a

-- a token that is read, within the limits
pub takes : (J K : List Sym) (s s' : Listing) (t : Tok) (p : ℕ) (g : Feed) → step list J s t p ≡ go K s' → marks K ≤ 32 → few t ≡ true → reading J s (more (at t p) g) ≡ reading K s' g
takes J K s s' t p g e m k =
    ap (λ v. after list (limits g.ending) (at t p) g.tokens v (λ K'' s''. reading K'' s'' g)) e
    ∙ ap (λ b. cond b (cond (few t) (reading K s' g) (refused 7 p)) (refused 6 p)) (le-leb (marks K) 32 m)
    ∙ ap (λ b. cond b (reading K s' g) (refused 7 p)) k

pub reads : {J K : List Sym} {U : List ℕ} {c : ℕ} {T : List Entry} {t : Tok} {p : ℕ} {g : Feed} → ((s : Listing) → step list J s t p ≡ go K s) → marks K ≤ 32 → few t ≡ true → Goes J U c T (more (at t p) g) K U c T g
reads {J} {K} {t} {p} {g} e m k = moves (λ s. takes J K s s t p g (e s) m k)

-- a token that no text has there
pub stucks : {J : List Sym} {U : List ℕ} {c : ℕ} {T : List Entry} {t : Tok} {p : ℕ} {g : Feed} → ((s : Listing) → step list J s t p ≡ stuck) → Stops J U c T (more (at t p) g) (refuses Grammar p)
stucks {J} {U} {t} {p} {g} e = record { stops = λ V was es h. ap (λ v. after list (limits g.ending) (at t p) g.tokens v (λ K'' s''. reading K'' s'' g)) (e (listing (U ++ V) es)) }

-- an opener that is too deep
pub too_deep : {J : List Sym} {U : List ℕ} {c : ℕ} {T : List Entry} {t : Tok} {p : ℕ} {g : Feed} (K : List Sym) → ((s : Listing) → step list J s t p ≡ go K s) → 32 < marks K → Stops J U c T (more (at t p) g) (refuses Depth p)
too_deep {J} {U} {t} {p} {g} K e m = record {
  stops = λ V was es h.
      let s = listing (U ++ V) es in
      ap (λ v. after list (limits g.ending) (at t p) g.tokens v (λ K'' s''. reading K'' s'' g)) (e s)
      ∙ ap (λ b. cond b (cond (few t) (reading K s g) (refused 7 p)) (refused 6 p)) (over (leb (marks K) 32) refl);
}
  where
    over : (b : Bool) → leb (marks K) 32 ≡ b → leb (marks K) 32 ≡ false
    over true x = absurd (omega (arith, leb-true (marks K) 32 x))
    over false x = x

-- a name that is one too many
pub too_many : {J : List Sym} {U : List ℕ} {c : ℕ} {T : List Entry} {n p : ℕ} {g : Feed} (K : List Sym) (s' : Listing → Listing) → ((s : Listing) → step list J s (name n) p ≡ go K (s' s)) → marks K ≤ 32 → 64 ≤ n → Stops J U c T (more (at (name n) p) g) (refuses NameCount p)
too_many {J} {U} {n} {p} {g} K s' e m k = record {
  stops = λ V was es h.
      let s = listing (U ++ V) es in
      ap (λ v. after list (limits g.ending) (at (name n) p) g.tokens v (λ K'' s''. reading K'' s'' g)) (e s)
      ∙ ap (λ b. cond b (cond (ltb n 64) (reading K (s' s) g) (refused 7 p)) (refused 6 p)) (le-leb (marks K) 32 m)
      ∙ ap (λ b. cond b (reading K (s' s) g) (refused 7 p)) (le-ltb n 64 k);
}

-- bytes that are refused
pub breaks : {J : List Sym} {U : List ℕ} {c : ℕ} {T : List Entry} (r : Refusal) → Stops J U c T (broken r) r
breaks r = record { stops = λ V was es h. refl }

-- what is done before the next token
pub doing : (a : Act) (K : List Sym) (s : Listing) (x : List Item) (e : Ending) → run list (limits e) (does a ∷ K) s x ≡ run list (limits e) K (list a s) x
doing a K s [] e = refl
doing a K s (at t p ∷ ts) e = refl

leaving : (K : List Sym) (s : Listing) (x : List Item) (e : Ending) → run list (limits e) (leave ∷ K) s x ≡ run list (limits e) K s x
leaving K s [] e = refl
leaving K s (at t p ∷ ts) e = refl

pub leaves : {K : List Sym} {U : List ℕ} {c : ℕ} {T : List Entry} {f : Feed} → Goes (leave ∷ K) U c T f K U c T f
leaves {K} {f} = moves (λ s. leaving K s f.tokens f.ending)

pub lay_more : (es t : List Entry) (n : Entry) → set (laid es t) (length es) n ≡ laid (es ++ (n ∷ [])) t
lay_more [] [] n = refl
lay_more [] (x ∷ t) n = refl
lay_more (m ∷ es) [] n = refl
lay_more (m ∷ es) (x ∷ t) n = ap (λ l. m ∷ l) (lay_more es t n)

pub holds_more : (was es : List Entry) (c : ℕ) (T : List Entry) (n : Entry) → Holds was es c T → Holds was (es ++ (n ∷ [])) (c + 1) (set T c n)
holds_more was es c T n h = (omega (arith, length-append es (n ∷ []), h.0), ap (λ t. set t c n) h.1 ∙ ap (λ k. set (laid es was) k n) (sym h.0) ∙ lay_more es was n)

-- a node is listed
pub lists : {K : List Sym} {U W : List ℕ} {p q : Parser} {T T' : List Entry} {n : Node} {place r : ℕ} (a : Act) → ((V : List ℕ) (es : List Entry) → list a (listing (U ++ V) es) ≡ listing (length es ∷ (W ++ V)) (es ++ (entry n place ∷ []))) → Listed p T n place r q T' → Goes (does a ∷ K) U p.count T (ahead p) K (r ∷ W) q.count T' (ahead q)
lists {K} {U} {W} {p} {q} {T} {T'} {n} {place} {r} a e l = record {
  goes = λ V was es h.
      let more' = holds_more was es p.count T (entry n place) h in
      let counted = subst (λ k. Holds was (es ++ (entry n place ∷ [])) k (set T p.count (entry n place))) (sym l.count) more' in (
        es ++ (entry n place ∷ []),
        subst (λ x. Holds was (es ++ (entry n place ∷ [])) q.count x) (sym l.wrote) counted,
        doing a K (listing (U ++ V) es) (ahead p).tokens (ahead p).ending
            ∙ ap (λ s. reading K s (ahead p)) (e V es)
            ∙ ap (λ m. reading K (listing (m ∷ (W ++ V)) (es ++ (entry n place ∷ []))) (ahead p)) (h.0 ∙ sym l.number)
            ∙ ap (reading K (listing (r ∷ (W ++ V)) (es ++ (entry n place ∷ [])))) (sym l.same),
      );
}
