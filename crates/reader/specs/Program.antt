-- What reading a whole text does.
use Rattle.std.specs.Prelude.{◌≡◌, List, [], ◌∷◌, Ok, Err, Result}
use Rattle.tosca.specs.declared.table.Entry.{Entry}
use Rattle.grammar.specs.Automaton.{text}
use Rattle.grammar.specs.Listing.{Listing, listing}
use Rattle.grammar.specs.Limits.{accepted}
use Rattle.lexer.specs.declared.token.Refusal.{Refusal}
use Rattle.parser.specs.declared.parser.Parser.{Parser}
use Rattle.parser.specs.Feeds.{ahead}
use Rattle.parser.specs.Parsing.{Holds, reading, refusal}

-- a text is accepted with the entries that are listed, over the table as it was; or the refusal is the automaton's
abbrev pub Whole : {A : Type 0} → Parser → List Entry → Parser → List Entry → Result A Refusal → Type 0
Whole p T q T' (Ok u) = (s : Listing) × Holds T s.entries q.count T' × (reading (text ∷ []) (listing [] []) (ahead p) ≡ accepted s)
Whole p T q T' (Err e) = reading (text ∷ []) (listing [] []) (ahead p) ≡ refusal e
