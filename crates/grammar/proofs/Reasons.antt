-- A refusal has its reason: the tokens are read up to one that halts the run.
use Rattle.std.proofs.Common.{◌≡◌, ℕ, suc, ◌≤◌, Bool, true, false, List, [], ◌∷◌, ◌++◌, sym, refl, ap, ◌∙◌, subst, append_assoc, append-nil, arith, ltb-false}
use Rattle.tosca.specs.Trees as tree
use Rattle.grammar.specs.declared.symbols.Mark.TheVariants.{Stop}
use Rattle.grammar.specs.Tokens.{Tok, name, lit, op, pre, start, else', unused, ty, mark, Item, at, Seen, no, yes}
use Rattle.grammar.specs.Building.{Act}
use Rattle.grammar.specs.Grammar.{Text, text_depths}
use Rattle.grammar.specs.Automaton.{Sym, Move, stuck, go, text, step, settle, marks, after, run}
use Rattle.grammar.specs.Limits.{Ending, over, bad, Outcome, refused, ending, few, asking, limits, Front, Then, placed_from, Completable, is_stop, Ends, Kept, Refused, five, six, seven, broken, Reasoned}
use Rattle.grammar.proofs.Watches.{plain, tracer, folds_tracer}
use Rattle.grammar.proofs.Follow.{follow_text, text_accepted}
use Rattle.grammar.proofs.Back.{accepted_text}
use Rattle.grammar.proofs.Stack.{Closing, Leaves, Stays, closing, Rise, rises}
use Rattle.grammar.proofs.Finish.{finish, finish_simple, finishes}
use Rattle.grammar.proofs.Asking.{Asked, passes, too_deep, too_many, asked}

-- the tokens are read within the limits, and lead from one stack to another
data Passed {S : Type 0} (act : Act → S → S) : List Sym → S → List Item → List Sym → S → Type 0 where
  none : {K : List Sym} {s : S} → Passed act K s [] K s
  more : {K K' J : List Sym} {s s' r : S} {t : Tok} {p : ℕ} {ts : List Item} → step act K s t p ≡ go K' s' → marks K' ≤ 32 → few t ≡ true → Passed act K' s' ts J r → Passed act K s (at t p ∷ ts) J r

-- what halts a run there, with its number and place
data Halt {S : Type 0} (act : Act → S → S) (e : Ending) (J : List Sym) (r : S) : List Item → ℕ → ℕ → Type 0 where
  at_end : {n p : ℕ} → e ≡ bad n p → Halt act e J r [] n p
  at_token : {t : Tok} {p : ℕ} {ts : List Item} → step act J r t p ≡ stuck → Halt act e J r (at t p ∷ ts) 5 p
  at_depth : {J' : List Sym} {r' : S} {t : Tok} {p : ℕ} {ts : List Item} → step act J r t p ≡ go J' r' → Closing J' → is_stop t ≡ false → marks J' ≡ 33 → Halt act e J r (at t p ∷ ts) 6 p
  at_name : {J' : List Sym} {r' : S} {m p : ℕ} {ts : List Item} → step act J r (name m) p ≡ go J' r' → Closing J' → marks J' ≤ 32 → 64 ≤ m → Halt act e J r (at (name m) p ∷ ts) 7 p

pub stop_few : (t : Tok) → is_stop t ≡ true → few t ≡ true
stop_few (mark m) h = refl
stop_few (name n) h = absurd (cc)
stop_few (lit x) h = refl
stop_few (op x) h = refl
stop_few (pre x) h = refl
stop_few (start x) h = refl
stop_few else' h = refl
stop_few unused h = refl
stop_few (ty x) h = refl

many : (P : Tok → Type 0) (t : Tok) → few t ≡ false → ((m : ℕ) → 64 ≤ m → P (name m)) → P t
many P (name m) h f = f m (ltb-false m 64 h)
many P (mark x) h f = absurd (cc)
many P (lit x) h f = absurd (cc)
many P (op x) h f = absurd (cc)
many P (pre x) h f = absurd (cc)
many P (start x) h f = absurd (cc)
many P else' h f = absurd (cc)
many P unused h f = absurd (cc)
many P (ty x) h f = absurd (cc)

module _ {S : Type 0} (act : Act → S → S) where
  -- a front that is read: the plain run goes on from where it led
  goes_on : {K J : List Sym} {s r : S} {front : List Item} → Passed act K s front J r → (us : List Item) → run act plain K s (front ++ us) ≡ run act plain J r us
  goes_on none us = refl
  goes_on (more {K} {s} {t} {p} {ts} e h k d) us = ap (λ m. after act plain (at t p) (ts ++ us) m (λ K' s'. run act plain K' s' (ts ++ us))) e ∙ goes_on d us

  -- .. its tokens keep the limits
  traces : {K J : List Sym} {s r : S} {front : List Item} → Passed act K s front J r → (us : List Item) → Front front (run act tracer K s (front ++ us))
  traces none us = tt
  traces (more {K} {s} {t} {p} {ts} e h k d) us = subst (λ m. Front (at t p ∷ ts) (after act tracer (at t p) (ts ++ us) m (λ K' s'. run act tracer K' s' (ts ++ us)))) (sym e) (refl, h, k, traces d us)

  -- .. and then comes the next with its depth
  traces_then : {K J J' : List Sym} {s r r' : S} {front : List Item} (t : Tok) (p : ℕ) → Passed act K s front J r → step act J r t p ≡ go J' r' → (us : List Item) → Then front (at t p) (marks J') (run act tracer K s (front ++ (at t p ∷ us)))
  traces_then {J'} t p (none {K} {s}) st us = subst (λ m. Then [] (at t p) (marks J') (after act tracer (at t p) us m (λ K' s'. run act tracer K' s' us))) (sym st) (refl, refl)
  traces_then {J'} u q (more {K} {s} {t} {p} {ts} e h k d) st us =
      subst (λ m. Then (at t p ∷ ts) (at u q) (marks J') (after act tracer (at t p) (ts ++ (at u q ∷ us)) m (λ K' s'. run act tracer K' s' (ts ++ (at u q ∷ us))))) (sym e) (refl, h, k, traces_then u q d st us)

  -- the depths of a text are what the tracer writes
  depths_traced : (s : S) (ts : List Item) (t : tree.Program ℕ) (d : Text ts t) → run act tracer (text ∷ []) s ts ≡ text_depths d
  depths_traced s ts t d = follow_text act tracer s ts t d ∙ folds_tracer S (text_depths d)

  kept : {s r : S} {J : List Sym} {front : List Item} → Passed act (text ∷ []) s front J r → Kept front
  kept {s} {front} d us t x = subst (Front front) (depths_traced s (front ++ us) t x) (traces d us)

  -- what leads to a closing stack can be completed
  completes : {J : List Sym} {r : S} (s : S) (front : List Item) → ((us : List Item) → run act plain (text ∷ []) s (front ++ us) ≡ run act plain J r us) → Closing J → Completable front
  completes {J} {r} s front g c n = (
    finish n J,
    finish_simple n J,
    (λ f.
        let q = finishes act n f 0 J r c in
        accepted_text act (front ++ placed_from f 0 (finish n J ++ (mark Stop ∷ []))) s q.0 (g (placed_from f 0 (finish n J ++ (mark Stop ∷ []))) ∙ q.1)),
  )

  -- the front and a token that is read after it
  goes_further : {K J J' : List Sym} {s r r' : S} {front : List Item} (t : Tok) (p : ℕ) → Passed act K s front J r → step act J r t p ≡ go J' r' → (us : List Item) → run act plain K s ((front ++ (at t p ∷ [])) ++ us) ≡ run act plain J' r' us
  goes_further {K} {s} {front} t p d st us =
      ap (run act plain K s) (append_assoc front (at t p ∷ []) us) ∙ goes_on d (at t p ∷ us) ∙ ap (λ m. after act plain (at t p) us m (λ K' s'. run act plain K' s' us)) st

  -- no text goes on with a token that is not read
  ends_there : {J : List Sym} {s r : S} {front : List Item} (t : Tok) (p : ℕ) → Passed act (text ∷ []) s front J r → step act J r t p ≡ stuck → (us : List Item) (u : tree.Program ℕ) → Text (front ++ (at t p ∷ us)) u → ⊥
  ends_there {s} {front} t p d st us u x =
      let y = goes_on d (at t p ∷ us) in let z = text_accepted act s (front ++ (at t p ∷ us)) u x in cc

  -- the depths of the front, and of the token after it, in every text that begins so
  depth_there : {J J' : List Sym} {s r r' : S} {front : List Item} (t : Tok) (p : ℕ) → Passed act (text ∷ []) s front J r → step act J r t p ≡ go J' r' → (us : List Item) (u : tree.Program ℕ) (x : Text (front ++ (at t p ∷ us)) u) → Then front (at t p) (marks J') (text_depths x)
  depth_there {J'} {s} {front} t p d st us u x = subst (Then front (at t p) (marks J')) (depths_traced s (front ++ (at t p ∷ us)) u x) (traces_then t p d st us)

  reason : {e : Ending} {J : List Sym} {s r : S} {front rest : List Item} {n p : ℕ} → Passed act (text ∷ []) s front J r → Closing J → Halt act e J r rest n p → Refused (front ++ rest) e n p
  reason {e} {s} {front} {n} {p} d c (at_end h) = subst (λ v. Refused v e n p) (sym (append-nil front)) (broken h (kept d) (completes s front (goes_on d) c))
  reason {s} {front} d c (at_token {t} {p} {ts} h) = five t front ts refl (kept d) (completes s front (goes_on d) c) (ends_there t p d h)
  reason {s} {front} d c (at_depth {t} {p} {ts} h k z m) = six t front ts refl z (completes s (front ++ (at t p ∷ [])) (goes_further t p d h) k) (λ us u x. subst (λ w. Then front (at t p) w (text_depths x)) m (depth_there t p d h us u x))
  reason {s} {front} d c (at_name {J'} {m} {p} {ts} h k b l) = seven m front ts refl l (completes s (front ++ (at (name m) p ∷ [])) (goes_further (name m) p d h) k) (λ us u x. (marks J', b, depth_there (name m) p d h us u x))

  -- a token after which something is expected is not the end
  goes_past : (b : Bool) (K : List Sym) → (b ≡ true → K ≡ [] → ⊥) → Leaves b K → b ≡ false
  goes_past true K f h = absurd (f refl h)
  goes_past false K f h = refl

  closes : (b : Bool) (K : List Sym) → (b ≡ true → K ≡ [] → ⊥) → Leaves b K → Closing K
  closes true K f h = absurd (f refl h)
  closes false K f h = h

  -- where a refused run halts
  abbrev Halted : Ending → ℕ → ℕ → List Sym → S → List Item → Type 0
  Halted e n p K s ts = (front : List Item) × (rest : List Item) × (J : List Sym) × (r : S) × (ts ≡ front ++ rest) × Passed act K s front J r × Closing J × Halt act e J r rest n p

module _ {S : Type 0} (act : Act → S → S) (e : Ending) (n p : ℕ) where
  at_end_lem : (f : Ending) (v : Seen S) → ending f v ≡ refused n p → f ≡ bad n p
  at_end_lem over no h = absurd (cc)
  at_end_lem over (yes s) h = absurd (cc)
  at_end_lem (bad m q) v h = let a : m ≡ n = cc in let b : q ≡ p = cc in ap (λ x. bad x q) a ∙ ap (bad n) b

  -- a halt with the number and place of the refusal
  numbered : {J : List Sym} {r : S} {ts : List Item} {m q : ℕ} → Halt act e J r ts m q → ◌≡◌ {A = Outcome S} (refused m q) (refused n p) → Halt act e J r ts n p
  numbered {J} {r} {ts} {m} {q} k h = let a : m ≡ n = cc in let b : q ≡ p = cc in subst (λ x. Halt act e J r ts n x) b (subst (λ x. Halt act e J r ts x q) a k)

  -- nothing is refused after the end of the text
  not_after : (K : List Sym) (s : S) (ts : List Item) → K ≡ [] → (ts ≡ []) × (e ≡ over) → run act (limits e) K s ts ≡ refused n p → ⊥
  not_after K s ts k l h = cc

  module _ (t : Tok) (q : ℕ) (ts : List Item) (K : List Sym) (s : S) (c : Closing K) where
    here : Halt act e K s (at t q ∷ ts) n p → Halted act e n p K s (at t q ∷ ts)
    here h = ([], at t q ∷ ts, K, s, refl, none, c, h)

    -- one more token before a halt
    later : (K' : List Sym) (s' : S) → step act K s t q ≡ go K' s' → marks K' ≤ 32 → few t ≡ true → Halted act e n p K' s' ts → Halted act e n p K s (at t q ∷ ts)
    later K' s' st d f h = (at t q ∷ h.0, h.1, h.2, h.3, ap (λ v. at t q ∷ v) h.4, more st d f h.5, h.6, h.7)

    asks : (K' : List Sym) (s' : S) → step act K s t q ≡ go K' s' → Leaves (is_stop t) K' → marks K' ≤ 33 → (is_stop t ≡ true → (ts ≡ []) × (e ≡ over)) →
        (Closing K' → marks K' ≤ 32 → run act (limits e) K' s' ts ≡ refused n p → Halted act e n p K' s' ts) → (o : Outcome S) → Asked t (marks K') q (run act (limits e) K' s' ts) o → o ≡ refused n p → Halted act e n p K s (at t q ∷ ts)
    asks K' s' st l d x h o (passes u v) k = later K' s' st u v (h (closes act (is_stop t) K' (λ b z. not_after K' s' ts z (x b) k) l) u k)
    asks K' s' st l d x h o (too_deep u) k =
        let deep : is_stop t ≡ true → K' ≡ [] → ⊥ = λ b z. let m : marks K' ≡ 0 = ap marks z in omega arith in
        here (numbered (at_depth st (closes act (is_stop t) K' deep l) (goes_past act (is_stop t) K' deep l) (omega arith)) k)
    asks K' s' st l d x h o (too_many u v) k =
        let c' = closes act (is_stop t) K' (λ b z. let w = stop_few t b in cc) l in
        here (numbered (many (λ w. step act K s w q ≡ go K' s' → Halt act e K s (at w q ∷ ts) 7 q) t v (λ m y st'. at_name st' c' u y) st) k)

    moves : marks K ≤ 32 → (is_stop t ≡ true → (ts ≡ []) × (e ≡ over)) → ((K' : List Sym) (s' : S) → Closing K' → marks K' ≤ 32 → run act (limits e) K' s' ts ≡ refused n p → Halted act e n p K' s' ts) →
        (m : Move S) → step act K s t q ≡ m → Stays (is_stop t) m → Rise (suc (marks K)) m → after act (limits e) (at t q) ts m (λ K' s'. run act (limits e) K' s' ts) ≡ refused n p → Halted act e n p K s (at t q ∷ ts)
    moves b x h stuck st l d k = here (numbered (at_token st) k)
    moves b x h (go K' s') st l d k = let a = run act (limits e) K' s' ts in asks K' s' st l (omega arith) x (h K' s') (asking (at t q) (marks K') a) (asked t (marks K') q a) k

  halts : (ts : List Item) (K : List Sym) (s : S) → Closing K → marks K ≤ 32 → Ends ts e → run act (limits e) K s ts ≡ refused n p → Halted act e n p K s ts
  halts [] K s c b x h = ([], [], K, s, refl, none, c, at_end (at_end_lem e (settle act K s) h))
  halts (at t q ∷ ts) K s c b x h = moves t q ts K s c b x.0 (λ K' s' c' b'. halts ts K' s' c' b' x.1) (step act K s t q) refl (closing act q K s t c) (rises act q K s t) h

pub reasoned : {S : Type 0} (act : Act → S → S) → Reasoned S act
reasoned act s ts e x n p h =
    let l = halts act e n p ts (text ∷ []) s refl (omega arith) x h in
    subst (λ v. Refused v e n p) (sym l.4) (reason act l.5 l.6 l.7)
