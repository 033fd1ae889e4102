-- The laws of reading follow from those of the grammar, of tokens and of the listing.
use Rattle.std.proofs.Common.{◌≡◌, ℕ, suc, ◌+◌, ◌<◌, ◌≤◌, Bool, true, false, cond, ◌&&◌, eqb, leb, ◌⊎◌, List, [], ◌∷◌, ◌++◌, length, take, replicate, sym, refl, ap, ◌∙◌, subst, inl, inr, append_assoc, arith, le-leb, leb-false, leb-true}
use lib.ListN.{length-replicate}
use Rattle.tosca.specs.declared.table.Entry.{Entry}
use Rattle.tosca.specs.Table.{blank}
use Rattle.tosca.specs.Decode.{program_of}
use Rattle.tosca.specs.Trees as tree
use Rattle.grammar.specs.Tokens.{Tok, name, mark, Item, at}
use Rattle.grammar.specs.declared.symbols.Mark.TheVariants.{Stop}
use Rattle.grammar.specs.Building.{builds}
use Rattle.grammar.specs.Grammar.{Deep, deep, Text, text_depths}
use Rattle.grammar.specs.Automaton.{Sym, Move, stuck, go, step, marks, after, run, text}
use Rattle.grammar.specs.Listing.{Listing, listing, list, laid, entries_of}
use Rattle.grammar.specs.Bounded.{Fit}
use Rattle.grammar.specs.Limits.{Ending, over, bad, Outcome, accepted, refused, unended, ending, few, asking, limits, reads, Within, Then, Completable, placed_from, Refused, five, six, seven, broken}
use Rattle.grammar.proofs.Laws as law
use Rattle.grammar.proofs.Asking.{Asked, passes, too_deep, too_many, asked}
use Rattle.grammar.proofs.Bounded.{bounded}
use Rattle.grammar.proofs.Opened.{listed_opens}
use Rattle.grammar.proofs.OpenNumbered.{reads_listed}
use Rattle.lexer.specs.declared.token.Question.{Question}
use Rattle.lexer.specs.declared.token.Question.TheVariants.{TextLength, NameLength, NumberSize, Grammar, Depth, NameCount, NodeCount}
use Rattle.lexer.specs.declared.token.Question.TheVariants as q
use Rattle.lexer.specs.Lexemes.{number_of}
use Rattle.lexer.specs.Scan.{Scan, more, scan, limited, Moderate, Fails}
use Rattle.lexer.specs.Names.{Known, nothing, learns, items, ends}
use Rattle.lexer.specs.NameLaws.{Few}
use Rattle.lexer.specs.Completion.{Completed}
use Rattle.lexer.proofs.Scanning.{Places, places, ends_limited, moderate_limited, limited_over, limited_fails, fails_which}
use Rattle.lexer.proofs.Numbering.{name_law}
use Rattle.lexer.proofs.Spelled.{completed, completed_end, completed_after}
use Rattle.reader.specs.Reading.{reading, holding, outcome, count, answer, Derived, Limited, Held}
use Rattle.reader.specs.Reasons.{tokens, Begins, Before, With, Reason, text_length, no_token, name_length, number_size, grammar, depth, name_count, node_count, Accepted}

-- a completion in tokens is one in bytes
begins : (bs : List ℕ) (c : ℕ) (front : List Item) (can : Completable front) → Completed bs c front (λ n. ((can n).0, (can n).1)) → Begins (take c bs) front
begins bs c front can x =
    let d = (can x.0).2 x.2 in
    record {
      more = x.1;
      tree = d.0;
      derived = record { whole = x.4; derivation = subst (λ v. Text v d.0) (sym x.3) d.1 };
      rest = placed_from x.2 0 ((can x.0).0 ++ (mark Stop ∷ []));
      tokens = x.3;
    }

-- questions are known by their numbers
abbrev question_of : ℕ → Question
question_of n = cond (eqb n 1) TextLength (cond (eqb n 2) q.Token (cond (eqb n 3) NameLength (cond (eqb n 4) NumberSize (cond (eqb n 5) Grammar (cond (eqb n 6) Depth (cond (eqb n 7) NameCount NodeCount))))))

question_back : (x : Question) → question_of (number_of x) ≡ x
question_back TextLength = refl
question_back q.Token = refl
question_back NameLength = refl
question_back NumberSize = refl
question_back Grammar = refl
question_back Depth = refl
question_back NameCount = refl
question_back NodeCount = refl

pub same_question : (x y : Question) → number_of x ≡ number_of y → x ≡ y
same_question x y e = sym (question_back x) ∙ ap question_of e ∙ question_back y

-- the tokens before the one in question are names of the first 64, if names
then_few : (front : List Item) (x : Item) (n : ℕ) (ds : List Deep) → Then front x n ds → Few front
then_few [] x n ds h = tt
then_few (at t p ∷ fs) x n [] h = absurd h
then_few (at t p ∷ fs) x n (deep (at u q) m ∷ ds) h = (subst (λ v. few v ≡ true) (same_tok u t q p h.0) h.2, then_few fs x n ds h.3)
  where
    same_tok : (u t : Tok) (q p : ℕ) → at u q ≡ at t p → u ≡ t
    same_tok u t q p e = cc

module _ (cap : ℕ) (bs : List ℕ) (short : length bs ≤ 16384) where
  -- bytes that are refused
  broken_reason : (p n : ℕ) → Fails (scan 0 bs) n p → Before bs (tokens bs) p → (x : Question) → number_of x ≡ n → Reason cap bs x p
  broken_reason p n f b q.Token e = no_token short (subst (λ k. Fails (scan 0 bs) k p) (sym e) f) b
  broken_reason p n f b NameLength e = name_length short (subst (λ k. Fails (scan 0 bs) k p) (sym e) f) b
  broken_reason p n f b NumberSize e = number_size short (subst (λ k. Fails (scan 0 bs) k p) (sym e) f) b
  broken_reason p n f b TextLength e = let w = fails_which 0 (0 + length bs) (places 0 bs) f in absurd (omega (arith, w.0, w.1, e))
  broken_reason p n f b Grammar e = let w = fails_which 0 (0 + length bs) (places 0 bs) f in absurd (omega (arith, w.0, w.1, e))
  broken_reason p n f b Depth e = let w = fails_which 0 (0 + length bs) (places 0 bs) f in absurd (omega (arith, w.0, w.1, e))
  broken_reason p n f b NameCount e = let w = fails_which 0 (0 + length bs) (places 0 bs) f in absurd (omega (arith, w.0, w.1, e))
  broken_reason p n f b NodeCount e = let w = fails_which 0 (0 + length bs) (places 0 bs) f in absurd (omega (arith, w.0, w.1, e))

  with_token : (front rest : List Item) (t : Tok) (p : ℕ) → tokens bs ≡ front ++ (at t p ∷ rest) → Rattle.grammar.specs.Limits.is_stop t ≡ false → Completable (front ++ (at t p ∷ [])) → With bs front t p
  with_token front rest t p h s can =
      let x = completed_after bs front rest t p h s (λ n. ((can n).0, (can n).1)) in
      record { after = x.0; within = (x.1, x.2); begins = begins bs x.0 (front ++ (at t p ∷ [])) can x.3 }

  -- in a text that begins with front and then t, the tokens of front are few
  front_few : (front : List Item) (t : Tok) (p : ℕ) → Completable (front ++ (at t p ∷ [])) → ((us : List Item) (u : tree.Program ℕ) (d : Text (front ++ (at t p ∷ us)) u) → (n : ℕ) × (n ≤ 32) × Then front (at t p) n (text_depths d)) → Few front
  front_few front t p can f =
      let us = placed_from (λ k. k) 0 ((can 0).0 ++ (mark Stop ∷ [])) in
      let x = (can 0).2 (λ k. k) in
      let d : Text (front ++ (at t p ∷ us)) x.0 = subst (λ v. Text v x.0) (append_assoc front (at t p ∷ []) us) x.1 in
      let y = f us x.0 d in
      then_few front (at t p) y.0 (text_depths d) y.2

  -- a reason in tokens is one in bytes
  reason : (n p : ℕ) → Refused (tokens bs) (ends (limited (scan 0 bs))) n p → (x : Question) → number_of x ≡ n → Reason cap bs x p
  reason n p (five t front rest h k can none) x e =
      subst (λ y. Reason cap bs y p) (sym (same_question x Grammar e))
      (grammar t front rest short h (record { begins = begins bs p front can (completed bs front rest t p h (λ m. ((can m).0, (can m).1))); kept = k }) none)
  reason n p (six t front rest h s can deep33) x e =
      subst (λ y. Reason cap bs y p) (sym (same_question x Depth e)) (depth t front rest short h (with_token front rest t p h s can) deep33)
  reason n p (seven m front rest h big can low) x e =
      subst (λ y. Reason cap bs y p) (sym (same_question x NameCount e))
      (name_count m front rest short h (name_law bs front rest m p h (front_few front (name m) p can low) big) (with_token front rest (name m) p h refl can) low)
  reason n p (broken b k can) x e =
      broken_reason p n (limited_fails (scan 0 bs) b) (record { begins = begins bs p (tokens bs) can (completed_end bs (tokens bs) n p refl b (λ m. ((can m).0, (can m).1))); kept = k }) x e

-- what is read of a text, all its tokens being read
module _ (bs : List ℕ) (short : length bs ≤ 16384) where
  pub reads_short : reading bs ≡ reads list (listing [] []) (tokens bs) (ends (limited (scan 0 bs)))
  reads_short = ap (λ b. cond b (reads list (listing [] []) (tokens bs) (ends (limited (scan 0 bs)))) (refused 1 0)) (le-leb (length bs) 16384 short)

  -- a text that is read has a derivation within the limits
  abbrev Read : Scan → Listing → Type 0
  Read s r = (t : tree.Program ℕ) × (d : Text (items nothing s) t) × Within (text_depths d) × (r ≡ builds list t (listing [] []))

  derived : (r : Listing) → reading bs ≡ accepted r → (t : tree.Program ℕ) × Limited bs t × (r ≡ builds list t (listing [] []))
  derived r e =
      let x = law.sound list (listing [] []) r (tokens bs) (ends (limited (scan 0 bs))) (sym reads_short ∙ e) in
      let l = limited_over (scan 0 bs) x.0 in
      let y = subst (λ s. Read s r) l.0 x.1 in
      (y.0, record { short = short; derived = record { whole = ap ends (sym l.0) ∙ x.0; derivation = y.1 }; moderate = l.1; within = y.2 }, y.3)

  -- every derivation within the limits is read
  complete : (t : tree.Program ℕ) → Limited bs t → reading bs ≡ accepted (builds list t (listing [] []))
  complete t l =
      let e = moderate_limited (scan 0 bs) l.moderate in
      let d = l.derived in
      reads_short ∙ ap (λ s. reads list (listing [] []) (items nothing s) (ends s)) e ∙ ap (reads list (listing [] []) (items nothing (scan 0 bs))) d.whole ∙ law.complete list (listing [] []) (items nothing (scan 0 bs)) t d.derivation l.within

-- tokens of an accepted run are few
module _ (e : Ending) (r : Listing) (t : Tok) (p : ℕ) (ts : List Item) where
  let_through : (K : List Sym) (s : Listing) (o : Outcome Listing) → Asked t (marks K) p (run list (limits e) K s ts) o → o ≡ accepted r → (run list (limits e) K s ts ≡ accepted r) × (few t ≡ true)
  let_through K s o (passes x y) h = (h, y)
  let_through K s o (too_deep x) h = absurd (cc)
  let_through K s o (too_many x y) h = absurd (cc)

  few_first : ((K : List Sym) (s : Listing) → run list (limits e) K s ts ≡ accepted r → Few ts) → (m : Move Listing) → after list (limits e) (at t p) ts m (λ K s. run list (limits e) K s ts) ≡ accepted r → Few (at t p ∷ ts)
  few_first f stuck h = absurd (cc)
  few_first f (go K s) h = let x = let_through K s (asking (at t p) (marks K) (run list (limits e) K s ts)) (asked t (marks K) p (run list (limits e) K s ts)) h in (x.1, f K s x.0)

all_few : (e : Ending) (r : Listing) (ts : List Item) (K : List Sym) (s : Listing) → run list (limits e) K s ts ≡ accepted r → Few ts
all_few e r [] K s h = tt
all_few e r (at t p ∷ ts) K s h = few_first e r t p ts (λ K' s' h'. all_few e r ts K' s' h') (step list K s t p) h

fit : (k : Known) (s : Scan) (p e : ℕ) → Places p e s → e ≤ 16384 → Few (items k s) → Fit (items k s)
fit k (more r q s) p e x le f = (omega (arith, x.1), f.0, fit (learns k r) s (suc q) e x.2 le f.1)
fit k (Rattle.lexer.specs.Scan.broken n q) p e x le f = tt
fit k (Rattle.lexer.specs.Scan.over) p e x le f = tt

-- question 8
both : (a b : Bool) → a && b ≡ true → (a ≡ true) × (b ≡ true)
both true b h = (refl, h)
both false b h = absurd (cc)

module _ (cap len : ℕ) where
  held : (o : Outcome Listing) (r : Listing) → holding cap len o ≡ accepted r → (o ≡ accepted r) × (length r.entries ≤ 1024) × (length r.entries ≤ cap)
  held (accepted s) r h = tested (leb (length s.entries) 1024 && leb (length s.entries) cap) refl h
    where
      tested : (b : Bool) → leb (length s.entries) 1024 && leb (length s.entries) cap ≡ b → cond b (accepted s) (refused 8 len) ≡ accepted r → (accepted s ≡ accepted r) × (length r.entries ≤ 1024) × (length r.entries ≤ cap)
      tested true e x =
          let y : s ≡ r = cc in
          let z = both (leb (length s.entries) 1024) (leb (length s.entries) cap) e in
          (x, subst (λ (v : Listing). length v.entries ≤ 1024) y (leb-true (length s.entries) 1024 z.0), subst (λ (v : Listing). length v.entries ≤ cap) y (leb-true (length s.entries) cap z.1))
      tested false e x = absurd (cc)
  held (refused n p) r h = absurd (cc)
  held unended r h = absurd (cc)

  holds : (s : Listing) → length s.entries ≤ 1024 → length s.entries ≤ cap → holding cap len (accepted s) ≡ accepted s
  holds s a b = ap (λ x. cond (x && leb (length s.entries) cap) (accepted s) (refused 8 len)) (le-leb (length s.entries) 1024 a) ∙ ap (λ x. cond x (accepted s) (refused 8 len)) (le-leb (length s.entries) cap b)

  -- a refusal is that of reading, or there are too many nodes
  abbrev TooMany : Outcome Listing → ℕ → ℕ → Type 0
  TooMany o n p = (s : Listing) × (o ≡ accepted s) × (n ≡ 8) × (p ≡ len) × ((1024 < length s.entries) ⊎ (cap < length s.entries))

  over_one : (a b : ℕ) → (x y : Bool) → leb a 1024 ≡ x → leb a b ≡ y → x && y ≡ false → (1024 < a) ⊎ (b < a)
  over_one a b true y e f h = inr (leb-false a b (f ∙ h))
  over_one a b false y e f h = inl (leb-false a 1024 e)

  refusing : (o : Outcome Listing) (n p : ℕ) → holding cap len o ≡ refused n p → (o ≡ refused n p) ⊎ TooMany o n p
  refusing (accepted s) n p h = tested (leb (length s.entries) 1024 && leb (length s.entries) cap) refl h
    where
      tested : (b : Bool) → leb (length s.entries) 1024 && leb (length s.entries) cap ≡ b → cond b (accepted s) (refused 8 len) ≡ refused n p → (accepted s ≡ refused n p) ⊎ TooMany (accepted s) n p
      tested true e x = inl x
      tested false e x = inr (s, refl, cc, cc, over_one (length s.entries) cap (leb (length s.entries) 1024) (leb (length s.entries) cap) refl refl e)
  refusing (refused m q) n p h = inl h
  refusing unended n p h = absurd (cc)

-- question 1
length_asked : (bs : List ℕ) → (length bs ≤ 16384) ⊎ ((16384 < length bs) × (reading bs ≡ refused 1 0))
length_asked bs = tested (leb (length bs) 16384) refl
  where
    tested : (b : Bool) → leb (length bs) 16384 ≡ b → (length bs ≤ 16384) ⊎ ((16384 < length bs) × (reading bs ≡ refused 1 0))
    tested true e = inl (leb-true (length bs) 16384 e)
    tested false e = inr (leb-false (length bs) 16384 e, ap (λ b. cond b (reads list (listing [] []) (tokens bs) (ends (limited (scan 0 bs)))) (refused 1 0)) e)

pub take_laid : (es t : List Entry) → length es ≤ length t → take (length es) (laid es t) ≡ es
take_laid [] t h = refl
take_laid (x ∷ es) [] h = absurd (omega arith)
take_laid (x ∷ es) (y ∷ t) h = ap (λ l. x ∷ l) (take_laid es t (omega arith))

-- an accepted text
pub accepts : (cap : ℕ) (bs : List ℕ) (r : Listing) → outcome cap bs ≡ accepted r → Accepted cap bs (length r.entries) (laid r.entries (replicate cap blank))
accepts cap bs r h =
    let x = held cap (length bs) (reading bs) r h in
    elim (length_asked bs) [
      | inr y ↦ absurd (let e : refused 1 0 ≡ accepted r = sym y.1 ∙ x.0 in let z : ◌≡◌ {A = ℕ} 0 1 = cc in omega arith)
      | inl short ↦
          let d = derived bs short r x.0 in
          let t = d.0 in
          let l = d.1 in
          let es : r.entries ≡ entries_of t = ap (λ (v : Listing). v.entries) d.2 in
          let n : length r.entries ≡ length (entries_of t) = ap length es in
          let few_all = subst (λ s. Few (items nothing s)) (moderate_limited (scan 0 bs) l.moderate) (all_few (ends (limited (scan 0 bs))) r (tokens bs) (text ∷ []) (listing [] []) (sym (reads_short bs short) ∙ x.0)) in
          let b = bounded (items nothing (scan 0 bs)) t l.derived.derivation (fit nothing (scan 0 bs) 0 (0 + length bs) (places 0 bs) (omega arith) few_all) in
          let few_nodes : length (entries_of t) ≤ 1024 = omega (arith, x.1, n) in
          let room : length (entries_of t) ≤ cap = omega (arith, x.2, n) in
          record {
            t = t;
            limited = l;
            held = (few_nodes, room);
            counted = n;
            table = ap (λ v. laid v (replicate cap blank)) es;
            opens = ap (λ v. Rattle.tosca.specs.Opens.opening (laid v (replicate cap blank)) (length v)) es ∙ listed_opens t b cap few_nodes room;
            decodes = ap program_of (take_laid r.entries (replicate cap blank) (omega (arith, x.2, length-replicate cap blank)) ∙ es) ∙ reads_listed t;
          }
    ]

-- a refused text
pub refuses : (cap : ℕ) (bs : List ℕ) (x : Question) (p : ℕ) → outcome cap bs ≡ refused (number_of x) p → Reason cap bs x p
refuses cap bs x p h =
    elim (refusing cap (length bs) (reading bs) (number_of x) p h) [
      | inl e ↦ elim (length_asked bs) [
        | inr y ↦
            let a : ◌≡◌ {A = Outcome Listing} (refused 1 0) (refused (number_of x) p) = sym y.1 ∙ e in
            let n : number_of x ≡ 1 = cc in
            let z : p ≡ 0 = cc in
            subst (λ v. Reason cap bs x v) (sym z) (subst (λ v. Reason cap bs v 0) (sym (same_question x TextLength n)) (text_length y.0))
        | inl short ↦ reason cap bs short (number_of x) p (law.reasoned list (listing [] []) (tokens bs) (ends (limited (scan 0 bs))) (ends_limited nothing 0 bs) (number_of x) p (sym (reads_short bs short) ∙ e)) x refl
      ]
      | inr y ↦ elim (length_asked bs) [
        | inr z ↦ absurd (let e : refused 1 0 ≡ accepted y.0 = sym z.1 ∙ y.1 in let w : ◌≡◌ {A = ℕ} 0 1 = cc in omega arith)
        | inl short ↦
            let d = derived bs short y.0 y.1 in
            let es : y.0.entries ≡ entries_of d.0 = ap (λ (v : Listing). v.entries) d.2 in
            subst (λ v. Reason cap bs x v) (sym y.3) (subst (λ v. Reason cap bs v (length bs)) (sym (same_question x NodeCount y.2)) (node_count d.0 d.1 (subst (λ v. (1024 < length v) ⊎ (cap < length v)) es y.4)))
      ]
    ]

-- every text within the limits is accepted
pub completes : (cap : ℕ) (bs : List ℕ) (t : tree.Program ℕ) → Limited bs t → Held cap t → answer (outcome cap bs) ≡ count (length (entries_of t))
completes cap bs t l h = ap answer (ap (holding cap (length bs)) (complete bs l.short t l) ∙ holds cap (length bs) (builds list t (listing [] [])) h.0 h.1)

pub one_tree : (bs : List ℕ) (t u : tree.Program ℕ) → Derived bs t → Derived bs u → t ≡ u
one_tree bs t u d e = law.one_tree (items nothing (scan 0 bs)) t u d.derivation e.derivation
