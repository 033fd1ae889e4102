-- Declared names, which the table has before the automaton lists them.
use Rattle.std.proofs.Common.{◌≡◌, ℕ, zero, suc, ◌+◌, ◌-◌, ◌*◌, ◌<◌, ◌≤◌, Bool, true, false, leb, List, [], ◌∷◌, ◌++◌, length, get_or, set, take, drop, min, Ok, Err, Result, sym, refl, ap, ◌∙◌, subst, arith, length-append, lt-ltb, leb-false, leb-true}
use Rattle.std.proofs.lemmas.List.{append-nil, append_assoc, length-take}
use Rattle.tosca.specs.declared.operators.SimpleType.{SimpleType}
use Rattle.tosca.specs.declared.operators.SimpleType.TheVariants.{Integer}
use Rattle.tosca.specs.declared.table.Entry.{Entry}
use Rattle.tosca.specs.declared.table.Node.TheVariants.{Decl}
use Rattle.tosca.specs.Table.{entry}
use Rattle.grammar.specs.declared.symbols.Mark.TheVariants.{Comma, Colon}
use Rattle.grammar.specs.Tokens.{Tok, name, mark}
use Rattle.grammar.specs.Building.{Named, typed, declares}
use Rattle.grammar.specs.Automaton.{Sym, a_name, names, type, marks, step, at_mark, stuck, go}
use Rattle.grammar.specs.Listing.{Listing, listing, list, laid}
use Rattle.grammar.specs.Limits.{few}
use Rattle.lexer.specs.declared.token.Refusal.{Refusal}
use Rattle.parser.specs.declared.parser.Parser.{Parser}
use Rattle.parser.specs.Feeds.{Feed, ahead, next, unread, Ready}
use Rattle.parser.specs.Advancing.{is_mark, Read, Expected, Listed}
use Rattle.parser.specs.Parsing.{Holds, reading, refusal, Stops}
use Rattle.declarations.specs.Declaring.{Used, Begun, Drafted, Drafts, drafts, retyped, retyped_entry}
use Rattle.parser.proofs.Chains.{takes, holds_more}
use Rattle.parser.proofs.CommandSteps.{is_mark_lem, mark_few, not_mark, misses}

drafts_append : (y : SimpleType) (ns ms : List Named) → drafts y (ns ++ ms) ≡ drafts y ns ++ drafts y ms
drafts_append y [] ms = refl
drafts_append y (n ∷ ns) ms = ap (λ t. entry (Decl n.name y) n.place ∷ t) (drafts_append y ns ms)

drafts_length : (y : SimpleType) (ns : List Named) → length (drafts y ns) ≡ length ns
drafts_length y [] = refl
drafts_length y (n ∷ ns) = ap suc (drafts_length y ns)

-- within any limit
pub shallow : {n : ℕ} → n ≡ 0 → n ≤ 32
shallow m = omega (arith, m)

-- whatever is listed
pub stops_any : {f : Feed} {w : Refusal} (J : List Sym) → ((c : ℕ) (T : List Entry) → Stops J [] c T f w) → (s : Listing) → reading J s f ≡ refusal w
stops_any J x s = (x (length s.entries) (laid s.entries [])).stops s.loose [] s.entries (refl, refl)

-- one token, and no name
pub no_names : {J K : List Named → Sym} {P A : Parser} {T : List Entry} (t : Tok) → Read P t A → ((ms : List Named) (L : List Sym) (s : Listing) → step list (J ms ∷ L) s t P.lookahead.place ≡ go (K ms ∷ L) s) → ((ms : List Named) (L : List Sym) → marks (K ms ∷ L) ≡ marks L) → few t ≡ true → Drafted J K P T [] A T
no_names {J} {K} {P} {A} {T} t r e k f = record {
  reads = λ ms L m s.
      ap (reading (J ms ∷ L) s) r.token
      ∙ takes (J ms ∷ L) (K ms ∷ L) s s t P.lookahead.place (ahead A) (e ms L s) (shallow (k ms L ∙ m)) f
      ∙ ap (λ x. reading (K x ∷ L) s (ahead A)) (sym (append-nil ms));
  holds = λ was es h. subst (λ x. Holds was x A.count T) (sym (append-nil es)) (subst (λ c. Holds was es c T) (sym r.count) h);
}

pub nothing_drafted : {J : List Named → Sym} (P : Parser) (T : List Entry) → Drafted J J P T [] P T
nothing_drafted {J} P T = record {
  reads = λ ms L m s. ap (λ x. reading (J x ∷ L) s (ahead P)) (sym (append-nil ms));
  holds = λ was es h. subst (λ x. Holds was x P.count T) (sym (append-nil es)) h;
}

pub drafted_both : {J K M : List Named → Sym} {P Q R : Parser} {T T₁ T₂ : List Entry} {ns ms : List Named} → Drafted J K P T ns Q T₁ → Drafted K M Q T₁ ms R T₂ → Drafted J M P T (ns ++ ms) R T₂
drafted_both {J} {K} {M} {P} {Q} {R} {T} {T₁} {T₂} {ns} {ms} a b = record {
  reads = λ ks L m s. a.reads ks L m s ∙ b.reads (ks ++ ns) L m s ∙ ap (λ x. reading (M x ∷ L) s (ahead R)) (append_assoc ks ns ms);
  holds = λ was es h. subst (λ x. Holds was x R.count T₂) (append_assoc es (drafts Integer ns) (drafts Integer ms) ∙ ap (λ x. es ++ x) (sym (drafts_append Integer ns ms))) (b.holds was (es ++ drafts Integer ns) (a.holds was es h));
}

pub drafted_stop : {J K : List Named → Sym} {P Q : Parser} {T T₁ : List Entry} {ns : List Named} (w : Refusal) → Drafted J K P T ns Q T₁ → ((ms : List Named) (L : List Sym) → marks L ≡ 0 → (s : Listing) → reading (K ms ∷ L) s (ahead Q) ≡ refusal w) → (ms : List Named) (L : List Sym) → marks L ≡ 0 → (s : Listing) → reading (J ms ∷ L) s (ahead P) ≡ refusal w
drafted_stop {ns} w a b ms L m s = a.reads ms L m s ∙ b (ms ++ ns) L m s

-- a name is listed
pub one_name : {A : Type 0} (P B Q : Parser) (T T' : List Entry) (x r : ℕ) (u : A) → x < 64 → Read P (name x) B → Listed B T (Decl x Integer) P.lookahead.place r Q T' → Drafts a_name names P T Q T' (Ok u)
one_name P B Q T T' x r u h a l =
    let n : Named = record { name = x; place = P.lookahead.place } in (
      n ∷ [],
      record {
        reads = λ ms L m s.
            ap (reading (a_name ms ∷ L) s) a.token
            ∙ takes (a_name ms ∷ L) (names (ms ++ (n ∷ [])) ∷ L) s s (name x) P.lookahead.place (ahead B) refl (shallow m) (lt-ltb x 64 h)
            ∙ ap (reading (names (ms ++ (n ∷ [])) ∷ L) s) (sym l.same);
        holds = λ was es h.
            let old = subst (λ c. Holds was es c T) (sym a.count) h in
            let new = holds_more was es B.count T (entry (Decl x Integer) P.lookahead.place) old in
            let counted = subst (λ c. Holds was (es ++ (entry (Decl x Integer) P.lookahead.place ∷ [])) c (set T B.count (entry (Decl x Integer) P.lookahead.place))) (sym l.count) new in
            subst (λ t. Holds was (es ++ (entry (Decl x Integer) P.lookahead.place ∷ [])) Q.count t) (sym l.wrote) counted;
      },
    )

pub used_begin : {X : Type 0} (P Q : Parser) (r : Result X Refusal) → Begun P Q r → Used P Q r
used_begin P Q (Ok u) a = (a.ready, omega (arith, a.one), omega (arith, a.one, a.count))
used_begin P Q (Err w) a = tt

pub used_both : {X Y : Type 0} (O P Q R : Parser) (u : Y) (r : Result X Refusal) → Used {A = Y} O P (Ok u) → unread Q ≤ unread P → Q.count + 2 * unread Q ≤ P.count + 2 * unread P → Used Q R r → Used O R r
used_both O P Q R u (Ok v) k a b l = (l.0, omega (arith, k.1, a, l.1), omega (arith, k.2, b, l.2))
used_both O P Q R u (Err w) k a b l = tt

-- {, name}: what the loop keeps
pub record Naming (P : Parser) (T : List Entry) (Q : Parser) (T' : List Entry) : Type 0 where
  pub ready : Ready Q
  pub fewer : unread Q ≤ unread P
  pub room : Q.count + 2 * unread Q ≤ P.count + 2 * unread P
  pub is : (ns : List Named) × Drafted names names P T ns Q T'

pub naming : (P : Parser) (T : List Entry) → Ready P → Naming P T P T
naming P T h = record { ready = h; fewer = omega arith; room = omega arith; is = ([], nothing_drafted P T) }

comma : (P : Parser) → is_mark Comma (next P) ≡ true → (ms : List Named) (L : List Sym) (s : Listing) → step list (names ms ∷ L) s (next P) P.lookahead.place ≡ go (a_name ms ∷ L) s
comma P h ms L s = is_mark_lem Comma (next P) (go (a_name ms ∷ L) s) (at_mark list Colon (next P) (go (type ms ∷ L) s) stuck) h

pub next_name : {A : Type 0} (P Q B C : Parser) (T T₁ T₂ : List Entry) (u : A) → Naming P T Q T₁ → is_mark Comma (next Q) ≡ true → Read Q (next Q) B → Used {A = A} B C (Ok u) → Drafts a_name names B T₁ C T₂ (Ok u) → Naming P T C T₂
next_name P Q B C T T₁ T₂ u k h a l x = record {
  ready = l.0;
  fewer = omega (arith, a.one, l.1, k.fewer);
  room = omega (arith, a.one, a.count, l.2, k.room);
  is = ((k.is.0 ++ []) ++ x.0, drafted_both (drafted_both k.is.1 (no_names (next Q) a (comma Q h) (λ ms L. refl) (mark_few Comma (next Q) h))) x.1);
}

module _ {A : Type 0} (O P Q : Parser) (S T T₁ : List Entry) (u : A) (f : Drafts a_name names O S P T (Ok u)) (k : Naming P T Q T₁) where
  so_far : Drafted a_name names O S (f.0 ++ k.is.0) Q T₁
  so_far = drafted_both f.1 k.is.1

  pub name_wrong : (B R : Parser) (T₂ T' : List Entry) (w : Refusal) → is_mark Comma (next Q) ≡ true → Read Q (next Q) B → Drafts {A = A} a_name names B T₁ R T₂ (Err w) → Drafts {A = A} a_name type O S R T' (Err w)
  name_wrong B R T₂ T' w h a x = drafted_stop w so_far (drafted_stop w (no_names {J = names} {K = a_name} {T = T₁} (next Q) a (comma Q h) (λ ms L. refl) (mark_few Comma (next Q) h)) x)

  pub names_end : (R : Parser) (r : Result A Refusal) → is_mark Comma (next Q) ≡ false → Expected Colon Q R r → Drafts a_name type O S R T₁ r
  names_end R (Ok v) h x = ((f.0 ++ k.is.0) ++ [], drafted_both so_far (no_names (mark Colon) x (λ ms L s. refl) (λ ms L. refl) refl))
  names_end R (Err w) h x = drafted_stop w so_far (λ ms L m. stops_any (names ms ∷ L) (λ c T. misses Q (type ms ∷ L) x (λ i s. not_mark Comma (next Q) (go (a_name ms ∷ L) s) (at_mark list Colon (next Q) (go (type ms ∷ L) s) stuck) h ∙ not_mark Colon (next Q) (go (type ms ∷ L) s) stuck i) (λ s. refl) (shallow m)))

-- the entries get their type
retyped_none : (y : SimpleType) (T : List Entry) → retyped y zero zero T ≡ T
retyped_none y [] = refl
retyped_none y (e ∷ t) = refl

pub retype_next : (y : SimpleType) (a k j : ℕ) (T : List Entry) (z : Entry) → j ≡ a + k → set (retyped y a k T) j (retyped_entry y (get_or (retyped y a k T) j z)) ≡ retyped y a (suc k) T
retype_next y a k j [] z h = refl
retype_next y zero zero zero (e ∷ t) z h = ap (λ x. retyped_entry y e ∷ x) (sym (retyped_none y t))
retype_next y zero zero (suc j) (e ∷ t) z h = absurd (omega (arith, h))
retype_next y zero (suc k) zero (e ∷ t) z h = absurd (omega (arith, h))
retype_next y zero (suc k) (suc j) (e ∷ t) z h = ap (λ x. retyped_entry y e ∷ x) (retype_next y zero k j t z (omega (arith, h)))
retype_next y (suc a) k zero (e ∷ t) z h = absurd (omega (arith, h))
retype_next y (suc a) k (suc j) (e ∷ t) z h = ap (λ x. e ∷ x) (retype_next y a k j t z (omega (arith, h)))

pub retyped_zero : (y : SimpleType) (a : ℕ) (T : List Entry) → retyped y a zero T ≡ T
retyped_zero y a [] = refl
retyped_zero y zero (e ∷ t) = refl
retyped_zero y (suc a) (e ∷ t) = ap (λ x. e ∷ x) (retyped_zero y a t)

pub retype_one : (y : SimpleType) (n : ℕ) (S T X : List Entry) (z : Entry) → T ≡ retyped y zero n S → X ≡ set T n (retyped_entry y (get_or T n z)) → X ≡ retyped y zero (n + 1) S
retype_one y n S T X z e i = i ∙ ap (λ t. set t n (retyped_entry y (get_or t n z))) e ∙ retype_next y zero n n S z (omega arith) ∙ ap (λ m. retyped y zero m S) (omega arith)

-- past the end of the table the count makes no difference
retyped_past : (y : SimpleType) (a n m : ℕ) (T : List Entry) → length T ≤ a + n → length T ≤ a + m → retyped y a n T ≡ retyped y a m T
retyped_past y a n m [] h k = refl
retyped_past y zero zero zero (e ∷ t) h k = refl
retyped_past y zero zero (suc m) (e ∷ t) h k = absurd (omega (arith, h))
retyped_past y zero (suc n) zero (e ∷ t) h k = absurd (omega (arith, k))
retyped_past y zero (suc n) (suc m) (e ∷ t) h k = ap (λ x. retyped_entry y e ∷ x) (retyped_past y zero n m t (omega (arith, h)) (omega (arith, k)))
retyped_past y (suc a) n m (e ∷ t) h k = ap (λ x. e ∷ x) (retyped_past y a n m t (omega (arith, h)) (omega (arith, k)))

-- a part of the table
retyped_front : (y : SimpleType) (n : ℕ) (T : List Entry) → retyped y zero n (take n T) ++ drop n T ≡ retyped y zero n T
retyped_front y zero [] = refl
retyped_front y zero (e ∷ t) = refl
retyped_front y (suc n) [] = refl
retyped_front y (suc n) (e ∷ t) = ap (λ x. retyped_entry y e ∷ x) (retyped_front y n t)

retyped_part : (y : SimpleType) (a n : ℕ) (T : List Entry) → take a T ++ (retyped y zero n (take n (drop a T)) ++ drop n (drop a T)) ≡ retyped y a n T
retyped_part y zero n T = retyped_front y n T
retyped_part y (suc a) zero [] = refl
retyped_part y (suc a) (suc n) [] = refl
retyped_part y (suc a) n (e ∷ t) = ap (λ x. e ∷ x) (retyped_part y a n t)

-- the part that is in the table
retyped_within : (y : SimpleType) (a b f l : ℕ) (T : List Entry) → l ≡ min b (length T) → f ≡ min a l → retyped y f (l - f) T ≡ retyped y a (b - a) T
retyped_within y a b f l T h k = before (leb l a) refl
  where
    none : (n m : ℕ) → m ≡ 0 → retyped y n m T ≡ T
    none n m z = ap (λ i. retyped y n i T) z ∙ retyped_zero y n T

    behind : (c : Bool) → leb b a ≡ c → l ≤ a → retyped y a (b - a) T ≡ T
    behind true x g = none a (b - a) (let z = leb-true b a x in omega arith)
    behind false x g = let z = leb-false b a x in retyped_past y a (b - a) 0 T (omega (arith, z, g, h)) (omega (arith, z, g, h)) ∙ retyped_zero y a T

    ahead' : (c : Bool) → leb b (length T) ≡ c → a < l → retyped y a (l - a) T ≡ retyped y a (b - a) T
    ahead' true x g = let z = leb-true b (length T) x in ap (λ i. retyped y a (i - a) T) (omega (arith, h, z))
    ahead' false x g = let z = leb-false b (length T) x in retyped_past y a (l - a) (b - a) T (omega (arith, h, g, z)) (omega (arith, h, g, z))

    before : (c : Bool) → leb l a ≡ c → retyped y f (l - f) T ≡ retyped y a (b - a) T
    before true x = let z = leb-true l a x in none f (l - f) (omega (arith, k, z)) ∙ sym (behind (leb b a) refl z)
    before false x = let z = leb-false l a x in ap (λ i. retyped y i (l - i) T) (omega (arith, k, z)) ∙ ahead' (leb b (length T)) refl (omega (arith, z))

pub retype_ends : (y : SimpleType) (a b f l i : ℕ) (T D : List Entry) → l ≡ min b (length T) → f ≡ min a l → length (take (l - f) (drop f T)) ≤ i → D ≡ retyped y zero i (take (l - f) (drop f T)) → take f T ++ (D ++ drop (l - f) (drop f T)) ≡ retyped y a (b - a) T
retype_ends y a b f l i T D h k p e =
    let part = take (l - f) (drop f T) in
    let n = length-take (l - f) (drop f T) in
    let m : length part ≤ l - f = omega arith in
    ap (λ d. take f T ++ (d ++ drop (l - f) (drop f T))) (e ∙ retyped_past y zero i (l - f) part (omega arith) (omega arith)) ∙ retyped_part y f (l - f) T ∙ retyped_within y a b f l T h k

pub retype_laid : (y : SimpleType) (es was : List Entry) (ns : List Named) → retyped y (length es) (length ns) (laid (es ++ drafts Integer ns) was) ≡ laid (es ++ drafts y ns) was
retype_laid y [] [] [] = refl
retype_laid y [] [] (n ∷ ns) = refl
retype_laid y [] (e ∷ was) [] = refl
retype_laid y [] (e ∷ was) (n ∷ ns) = ap (λ t. entry (Decl n.name y) n.place ∷ t) (retype_laid y [] was ns)
retype_laid y (x ∷ es) [] ns = refl
retype_laid y (x ∷ es) (e ∷ was) ns = ap (λ t. x ∷ t) (retype_laid y es was ns)

pub retype_holds : (y : SimpleType) (P A : ℕ) (T T' was es : List Entry) (ns : List Named) → length es ≡ P → Holds was (es ++ drafts Integer ns) A T → T' ≡ retyped y P (A - P) T → Holds was (es ++ drafts y ns) A T'
retype_holds y P A T T' was es ns h k e =
    let one = length-append es (drafts Integer ns) in
    let two = length-append es (drafts y ns) in
    let i = drafts_length Integer ns in
    let j = drafts_length y ns in
    let rest : A - P ≡ length ns = omega (arith, one, i, h, k.0) in
    (omega (arith, one, two, i, j, k.0), e ∙ ap (λ n. retyped y P n T) rest ∙ ap (λ n. retyped y n (length ns) T) (sym h) ∙ ap (retyped y (length es) (length ns)) k.1 ∙ retype_laid y es was ns)

-- and the automaton lists them
pub declares_drafts : (y : SimpleType) (ns : List Named) (V : List ℕ) (es : List Entry) → declares list (typed y ns) (listing V es) ≡ listing V (es ++ drafts y ns)
declares_drafts y [] V es = ap (listing V) (sym (append-nil es))
declares_drafts y (n ∷ ns) V es = declares_drafts y ns V (es ++ (entry (Decl n.name y) n.place ∷ [])) ∙ ap (listing V) (append_assoc es (entry (Decl n.name y) n.place ∷ []) (drafts y ns))
