-- What the limits let through, and a text within them.
use Rattle.std.proofs.Common.{◌≡◌, ℕ, ◌≤◌, Bool, true, false, cond, leb, List, [], ◌∷◌, sym, refl, ap, ◌∙◌, arith, le-leb, leb-false, leb-true}
use Rattle.grammar.specs.Tokens.{Tok, Item, at, Seen, no, yes}
use Rattle.grammar.specs.Building.{Act, builds}
use Rattle.grammar.specs.Grammar.{Deep, deep, text_depths}
use Rattle.grammar.specs.Automaton.{Sym, Move, stuck, go, text, step, settle, marks, after, run}
use Rattle.grammar.specs.Limits.{Ending, over, bad, Outcome, accepted, refused, ending, few, asking, limits, Within, Complete, Sound}
use Rattle.grammar.proofs.Watches.{folds, plain}
use Rattle.grammar.proofs.Follow.{follow_text}
use Rattle.grammar.proofs.Back.{accepted_text}

-- what a token gives that is asked both questions
pub data Asked {S : Type 0} (t : Tok) (n : ℕ) (p : ℕ) (a : Outcome S) : Outcome S → Type 0 where
  passes : n ≤ 32 → few t ≡ true → Asked t n p a a
  too_deep : 33 ≤ n → Asked t n p a (refused 6 p)
  too_many : n ≤ 32 → few t ≡ false → Asked t n p a (refused 7 p)

ask_few : {S : Type 0} (t : Tok) (n p : ℕ) (a : Outcome S) → n ≤ 32 → (c : Bool) → few t ≡ c → Asked t n p a (cond c a (refused 7 p))
ask_few t n p a h true e = passes h e
ask_few t n p a h false e = too_many h e

ask_deep : {S : Type 0} (t : Tok) (n p : ℕ) (a : Outcome S) → (b : Bool) → leb n 32 ≡ b → Asked t n p a (cond b (cond (few t) a (refused 7 p)) (refused 6 p))
ask_deep t n p a true e = ask_few t n p a (leb-true n 32 e) (few t) refl
ask_deep t n p a false e = let h = leb-false n 32 e in too_deep (omega (arith, h))

pub asked : {S : Type 0} (t : Tok) (n p : ℕ) (a : Outcome S) → Asked t n p a (asking (at t p) n a)
asked t n p a = ask_deep t n p a (leb n 32) refl

-- a token that is let through
let_through : {S : Type 0} (t : Tok) (n p : ℕ) (a o : Outcome S) (r : S) → Asked t n p a o → o ≡ accepted r → (n ≤ 32) × (few t ≡ true) × (a ≡ accepted r)
let_through t n p a o r (passes h k) e = (h, k, e)
let_through t n p a o r (too_deep h) e = absurd (cc)
let_through t n p a o r (too_many h k) e = absurd (cc)

folds_within : {S : Type 0} (e : Ending) (r : List Deep) (z : Outcome S) → Within r → folds (limits e) r z ≡ z
folds_within e [] z l = refl
folds_within e (deep (at t p) n ∷ r) z l =
    let a = folds (limits e) r z in
    ap (λ b. cond b (cond (few t) a (refused 7 p)) (refused 6 p)) (le-leb n 32 l.0) ∙ ap (λ b. cond b a (refused 7 p)) l.1 ∙ folds_within e r z l.2

within_folds : {S : Type 0} (e : Ending) (r : List Deep) (z : Outcome S) (s : S) → folds (limits e) r z ≡ accepted s → Within r × (z ≡ accepted s)
within_folds e [] z s h = (tt, h)
within_folds e (deep (at t p) n ∷ r) z s h =
    let a = folds (limits e) r z in
    let l = let_through t n p a (asking (at t p) n a) s (asked t n p a) h in
    let k = within_folds e r z s l.2 in
    ((l.0, l.1, k.0), k.1)

module _ {S : Type 0} (act : Act → S → S) where
  settles : (e : Ending) (v : Seen S) (r : S) → ending e v ≡ accepted r → (e ≡ over) × (v ≡ yes r)
  settles over no r h = absurd (cc)
  settles over (yes s) r h = (refl, (let k : s ≡ r = cc in ap yes k))
  settles (bad n p) v r h = absurd (cc)

  moves : (e : Ending) (t : Tok) (p : ℕ) (ts : List Item) (r : S) (on : List Sym → S → Outcome S) (on' : List Sym → S → Seen S) → ((K : List Sym) (s : S) → on K s ≡ accepted r → on' K s ≡ yes r) →
      (m : Move S) → after act (limits e) (at t p) ts m on ≡ accepted r → after act plain (at t p) ts m on' ≡ yes r
  moves e t p ts r on on' h stuck k = absurd (cc)
  moves e t p ts r on on' h (go K s) k = h K s (let_through t (marks K) p (on K s) (asking (at t p) (marks K) (on K s)) r (asked t (marks K) p (on K s)) k).2

  -- what is read within the limits is accepted without them
  plainly : (e : Ending) (ts : List Item) (K : List Sym) (s r : S) → run act (limits e) K s ts ≡ accepted r → run act plain K s ts ≡ yes r
  plainly e [] K s r h = (settles e (settle act K s) r h).1
  plainly e (at t p ∷ ts) K s r h = moves e t p ts r (λ K' s'. run act (limits e) K' s' ts) (λ K' s'. run act plain K' s' ts) (λ K' s'. plainly e ts K' s' r) (step act K s t p) h

  pub complete : Complete S act
  complete s ts t d l = follow_text act (limits over) s ts t d ∙ folds_within over (text_depths d) (accepted (builds act t s)) l

  pub sound : Sound S act
  sound s r ts e h =
      let x = accepted_text act ts s r (plainly e ts (text ∷ []) s r h) in
      let t = x.0 in
      let d = x.1 in
      let w = within_folds e (text_depths d) (ending e (yes (builds act t s))) r (sym (follow_text act (limits e) s ts t d) ∙ h) in
      let k = settles e (yes (builds act t s)) r w.1 in
      (k.0, (t, d, w.0, (let q = k.1 in cc)))
