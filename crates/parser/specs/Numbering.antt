-- What the list of names gives: the number of a name, and the name of a number.
use Rattle.std.specs.Prelude.{◌≡◌, ℕ, ◌<◌, ◌≤◌, Bool, List, Some, None, Option}
use Rattle.std.specs.Borrow.{Bor}
use Rattle.std.specs.Option.{option_map}
use Rattle.lexer.specs.Spelling.{lowered, same}
use Rattle.lexer.specs.Names.{numbered, after}
use Rattle.parser.specs.declared.names.Names.{Names}
use Rattle.parser.specs.Feeds.{known_of}

-- the word w gets a number below 64 and is known from then on; or its number would be above, and nothing changes
abbrev pub Numbered : Names → List ℕ → Names → Option ℕ → Type 0
Numbered m w n (Some i) = (i ≡ numbered (known_of m) w) × (i < 64) × (known_of n ≡ after (known_of m) w) × (n.count ≤ 64)
Numbered m w n None = (64 ≤ numbered (known_of m) w) × (n ≡ m)

-- a name is this word, whatever the size of its letters
abbrev pub is_word : List ℕ → Bor (List ℕ) → Bool
is_word w name = same (lowered w) (lowered name.now)

-- a word in small letters
abbrev pub spelled : Option (Bor (List ℕ)) → Option (List ℕ)
spelled o = option_map (λ w. lowered w.now) o
