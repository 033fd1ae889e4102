-- The sentence of each refusal.
use Rattle.std.specs.Prelude.{ℕ, max, cond, ◌&&◌, List, [], ◌∷◌, ◌++◌, map, take, codes, ◌==◌}
use Rattle.std.specs.Char.{is_ascii_alphanumeric, is_ascii_digit}
use Rattle.std.specs.List.{prefix_len}
use Rattle.lexer.specs.declared.token.Question.{Question}
use Rattle.lexer.specs.declared.token.Question.TheVariants as q
use Rattle.console.specs.declared.reason.Reason.{Reason}
use Rattle.console.specs.declared.reason.Reason.TheVariants as r
use Rattle.excerpts.specs.Shown.{printed}

-- what is shown of a token that cannot come next
abbrev pub quoted : List ℕ → List ℕ
quoted w = codes "no routine can go on with this: '" ++ (w ++ codes "'")

-- the sentence of a reason
abbrev pub reason_text : Reason → List ℕ
reason_text r.TextLength = codes "the text has more than 16,384 bytes"
reason_text r.NoToken = codes "no token can begin here"
reason_text r.OpenComment = codes "this comment is never closed"
reason_text r.TouchedNumber = codes "a letter touches this number"
reason_text r.NameLength = codes "this name has more than 16 letters and digits"
reason_text r.NumberSize = codes "this number is above 2,147,483,647"
reason_text (r.Token w) = quoted (map printed w.now)
reason_text r.End = codes "no routine can go on with this: the end of the text"
reason_text r.Depth = codes "more than 32 openers are nested here"
reason_text r.NameCount = codes "this is the 65th different name; at most 64 may be used"
reason_text r.NodeCount = codes "the routine has more than 1,024 nodes"

-- where no token can begin: a comment that is not closed, a number with a letter behind it, or any other byte
abbrev pub no_token : List ℕ → List ℕ
no_token [] = codes "no token can begin here"
no_token (b ∷ bs) = cond (b == 123) (codes "this comment is never closed") (cond (is_ascii_digit b) (codes "a letter touches this number") (codes "no token can begin here"))

-- the length of the token in front: `:=`, a word or a number, or one byte
abbrev pub token_length : List ℕ → ℕ
token_length [] = 0
token_length (b ∷ []) = 1
token_length (b ∷ d ∷ bs) = cond (b == 58 && d == 61) 2 (max 1 (prefix_len is_ascii_alphanumeric (b ∷ d ∷ bs)))

-- the token in front, which cannot come next
abbrev pub not_next : List ℕ → List ℕ
not_next [] = codes "no routine can go on with this: the end of the text"
not_next (b ∷ bs) = quoted (map printed (take (token_length (b ∷ bs)) (b ∷ bs)))

-- the sentence of a question with a no, by what stands at the place
abbrev pub sentence : Question → List ℕ → List ℕ
sentence q.TextLength rest = codes "the text has more than 16,384 bytes"
sentence q.Token rest = no_token rest
sentence q.NameLength rest = codes "this name has more than 16 letters and digits"
sentence q.NumberSize rest = codes "this number is above 2,147,483,647"
sentence q.Grammar rest = not_next rest
sentence q.Depth rest = codes "more than 32 openers are nested here"
sentence q.NameCount rest = codes "this is the 65th different name; at most 64 may be used"
sentence q.NodeCount rest = codes "the routine has more than 1,024 nodes"
