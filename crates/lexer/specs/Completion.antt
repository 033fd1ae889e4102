-- What it means that the front of a text can be completed in bytes.
use Rattle.std.specs.Prelude.{◌≡◌, ℕ, List, [], ◌∷◌, ◌++◌, take}
use Rattle.grammar.specs.declared.symbols.Mark.TheVariants.{Stop}
use Rattle.grammar.specs.Tokens.{Tok, mark, Item}
use Rattle.grammar.specs.Limits.{AllSimple, placed_from}
use Rattle.grammar.specs.Limits as limits
use Rattle.lexer.specs.Scan.{scan}
use Rattle.lexer.specs.Names.{nothing, items, ends}

-- the bytes up to c can go on so that the tokens are those of front, then the simple ones that are given, and the end
abbrev pub Completed : List ℕ → ℕ → List Item → ((n : ℕ) → (us : List Tok) × AllSimple n us) → Type 0
Completed bs c front give =
    (n : ℕ) × (cs : List ℕ) × (f : ℕ → ℕ) × (items nothing (scan 0 (take c bs ++ cs)) ≡ front ++ placed_from f 0 ((give n).0 ++ (mark Stop ∷ []))) × (ends (scan 0 (take c bs ++ cs)) ≡ limits.over)
