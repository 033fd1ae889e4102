-- What a loop of the parser keeps: one symbol stays expected, and one node stays loose.
use Rattle.std.proofs.Common.{◌≡◌, ℕ, ◌+◌, ◌*◌, ◌≤◌, List, [], ◌∷◌}
use Rattle.tosca.specs.declared.table.Entry.{Entry}
use Rattle.grammar.specs.Automaton.{Sym, marks}
use Rattle.parser.specs.declared.parser.Parser.{Parser}
use Rattle.parser.specs.Feeds.{ahead, unread, Ready}
use Rattle.parser.specs.Parsing.{Goes}

pub record Looped (X : Sym) (d n : ℕ) (p : Parser) (T : List Entry) (m : ℕ) (q : Parser) (T' : List Entry) : Type 0 where
  pub ready : Ready q
  pub fewer : unread q ≤ unread p
  pub room : q.count + 2 * unread q ≤ p.count + 2 * unread p
  pub is : (L : List Sym) → marks L ≡ d → Goes (X ∷ L) (n ∷ []) p.count T (ahead p) (X ∷ L) (m ∷ []) q.count T' (ahead q)
