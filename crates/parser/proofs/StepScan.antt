-- The token that the lexer gives is the first of the scan.
use Rattle.std.proofs.Common.{◌≡◌, ℕ, zero, suc, ◌+◌, ◌≤◌, Bool, true, false, cond, List, length, refl, ap, ◌∙◌, arith}
use Rattle.lexer.specs.Lexemes.{Raw, Lexed, lexeme, none, lex}
use Rattle.lexer.specs.Scan.{Scan, more, over, is_stop, follow, onward, scan, limit, keeps, limited}
use Rattle.lexer.specs.Limited.{asked_by, asked}
use Rattle.lexer.proofs.Scanning.{Bounded, shorter, unfolds}

limited_follow : (b : Bool) (r : Raw) (q : ℕ) (s : Scan) → limited (more r q (cond b over s)) ≡ keeps (limit r) q (more r q (cond b over (limited s)))
limited_follow true r q s = refl
limited_follow false r q s = refl

onward_asked : (n : ℕ) (r : Raw) (q a : ℕ) (cs : List ℕ) (f : ℕ → List ℕ → Scan) → keeps n q (follow r q (f a cs)) ≡ onward (asked_by n (lexeme r q a cs) q) f
onward_asked zero r q a cs f = refl
onward_asked (suc n) r q a cs f = refl

limited_onward : (x : Lexed) (f : ℕ → List ℕ → Scan) → limited (onward x f) ≡ onward (asked x) (λ a cs. limited (f a cs))
limited_onward (lexeme r q a cs) f = limited_follow (is_stop r) r q (f a cs) ∙ onward_asked (limit r) r q a cs (λ a cs. limited (f a cs))
limited_onward (none n q) f = refl

-- the first token, if it keeps its limits, and then those of what stands after it
pub limited_scan : (p : ℕ) (bs : List ℕ) → limited (scan p bs) ≡ onward (asked (lex p bs)) (λ a cs. limited (scan a cs))
limited_scan p bs = ap limited (unfolds p bs) ∙ limited_onward (lex p bs) (λ a cs. scan a cs)

-- a token that has kept its limits, with places up to e
abbrev pub Near : ℕ → Lexed → Type 0
Near e (lexeme r q a cs) = (q ≤ e) × (a + length cs ≤ e) × (limit r ≡ 0)
Near e (none n q) = Unit {0}

near_asked : (e n : ℕ) (r : Raw) (q a : ℕ) (cs : List ℕ) → limit r ≡ n → q ≤ e → a + length cs ≤ e → Near e (asked_by n (lexeme r q a cs) q)
near_asked e zero r q a cs k h g = (h, g, k)
near_asked e (suc n) r q a cs k h g = tt

near : (p e : ℕ) (x : Lexed) → Bounded p e x → Near e (asked x)
near p e (lexeme r q a cs) t = near_asked e (limit r) r q a cs refl (let f = t.forward in let g = t.rest in omega arith) (let g = t.rest in omega arith)
near p e (none n q) t = tt

pub near_lex : (p : ℕ) (bs : List ℕ) → Near (p + length bs) (asked (lex p bs))
near_lex p bs = near p (p + length bs) (lex p bs) (shorter p bs)
