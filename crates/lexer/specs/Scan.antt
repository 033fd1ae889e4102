-- The tokens of a text, one after another.
use Rattle.std.specs.Prelude.{◌≡◌, ℕ, zero, suc, ◌<◌, Bool, false, cond, List, length, nat_le}
use Rattle.grammar.specs.Limits.{is_stop as is_stop_tok}
use Rattle.lexer.specs.Spelling.{value}
use Rattle.lexer.specs.Lexemes.{Raw, name, number, other, Lexed, lexeme, none, lex}

-- tokens with their places, up to the end of the text or to a refusal
pub data Scan : Type 0 where
  more : Raw → ℕ → Scan → Scan
  broken : ℕ → ℕ → Scan
  over : Scan

abbrev pub is_stop : Raw → Bool
is_stop (name w) = false
is_stop (number w) = false
is_stop (other t) = is_stop_tok t

-- nothing stands after the end of the text
abbrev pub follow : Raw → ℕ → Scan → Scan
follow r p s = more r p (cond (is_stop r) over s)

abbrev pub onward : Lexed → (ℕ → List ℕ → Scan) → Scan
onward (lexeme r p a cs) on = follow r p (on a cs)
onward (none n p) on = broken n p

-- with a number that bounds how many tokens there are
abbrev pub scan_by : ℕ → ℕ → List ℕ → Scan
scan_by zero p bs = over
scan_by (suc f) p bs = onward (lex p bs) (λ a cs. scan_by f a cs)

-- the tokens of the bytes bs, which begin at place p
abbrev pub scan : ℕ → List ℕ → Scan
scan p bs = scan_by (suc (length bs)) p bs

-- how many tokens there are
abbrev pub size : Scan → ℕ
size (more r p s) = suc (size s)
size (broken n p) = 0
size over = 0

-- questions 3 and 4: a name has at most 16 bytes, a number is at most 2,147,483,647
abbrev pub limit : Raw → ℕ
limit (name w) = cond (nat_le (length w) 16) 0 3
limit (number ds) = cond (nat_le (value ds) 2147483647) 0 4
limit (other t) = 0

abbrev pub keeps : ℕ → ℕ → Scan → Scan
keeps zero p s = s
keeps (suc n) p s = broken (suc n) p

-- the tokens up to the first that passes a limit
abbrev pub limited : Scan → Scan
limited (more r p s) = keeps (limit r) p (more r p (limited s))
limited (broken n p) = broken n p
limited over = over

-- every token keeps both limits
abbrev pub Moderate : Scan → Type 0
Moderate (more r p s) = (limit r ≡ 0) × Moderate s
Moderate (broken n p) = Unit {0}
Moderate over = Unit {0}

-- the first question of 2, 3 and 4 with a no
pub data Fails : Scan → ℕ → ℕ → Type 0 where
  no_token : {n p : ℕ} → Fails (broken n p) n p
  long_name : {w : List ℕ} {p : ℕ} {s : Scan} → 16 < length w → Fails (more (name w) p s) 3 p
  large_number : {ds : List ℕ} {p : ℕ} {s : Scan} → 2147483647 < value ds → Fails (more (number ds) p s) 4 p
  later : {r : Raw} {q n p : ℕ} {s : Scan} → limit r ≡ 0 → Fails s n p → Fails (more r q s) n p
