-- What reading a text gives, by its questions in their order, and the table afterwards.
use Rattle.std.specs.Prelude.{◌≡◌, ℕ, ◌≤◌, cond, ◌&&◌, List, [], length, replicate, Ok, Err, Result, nat_le}
use Rattle.tosca.specs.declared.table.Entry.{Entry}
use Rattle.tosca.specs.Table.{blank}
use Rattle.tosca.specs.Trees as tree
use Rattle.grammar.specs.Grammar.{Text, text_depths}
use Rattle.grammar.specs.Listing.{Listing, listing, list, laid, entries_of}
use Rattle.grammar.specs.Limits.{Outcome, accepted, refused, unended, reads, over, Within}
use Rattle.lexer.specs.declared.token.Refusal.{Refusal}
use Rattle.lexer.specs.Lexemes.{number_of}
use Rattle.lexer.specs.Scan.{scan, limited, Moderate}
use Rattle.lexer.specs.Names.{nothing, items, ends}

-- question 1, then token by token 2 to 7
abbrev pub reading : List ℕ → Outcome Listing
reading bs = cond (nat_le (length bs) 16384) (reads list (listing [] []) (items nothing (limited (scan 0 bs))) (ends (limited (scan 0 bs)))) (refused 1 0)

-- question 8, after the end: room for cap entries in the table
abbrev pub holding : ℕ → ℕ → Outcome Listing → Outcome Listing
holding cap len (accepted s) = cond (nat_le (length s.entries) 1024 && nat_le (length s.entries) cap) (accepted s) (refused 8 len)
holding cap len (refused n p) = refused n p
holding cap len unended = unended

abbrev pub outcome : ℕ → List ℕ → Outcome Listing
outcome cap bs = holding cap (length bs) (reading bs)

-- a count of nodes, or a number and a place
pub data Answer : Type 0 where
  count : ℕ → Answer
  no : ℕ → ℕ → Answer

abbrev pub answer : Outcome Listing → Answer
answer (accepted s) = count (length s.entries)
answer (refused n p) = no n p
answer unended = no 0 0

-- the program's answer in these words
abbrev pub answered : Result ℕ Refusal → Answer
answered (Ok n) = count n
answered (Err e) = no (number_of e.question) e.place

-- the entries and then zeros, or zeros alone
abbrev pub table_after : ℕ → Outcome Listing → List Entry
table_after cap (accepted s) = laid s.entries (replicate cap blank)
table_after cap (refused n p) = replicate cap blank
table_after cap unended = replicate cap blank

-- a text of the grammar, of whatever size: its bytes form tokens up to its end, and these have a derivation with the tree t
pub record Derived (bs : List ℕ) (t : tree.Program ℕ) : Type 0 where
  pub whole : ends (scan 0 bs) ≡ over
  pub derivation : Text (items nothing (scan 0 bs)) t

-- a derivation within the limits of length, names, numbers, depth and count of names
pub record Limited (bs : List ℕ) (t : tree.Program ℕ) : Type 0 where
  pub short : length bs ≤ 16384
  pub derived : Derived bs t
  pub moderate : Moderate (scan 0 bs)
  pub within : Within (text_depths derived.derivation)

-- its nodes are at most 1,024, and a table with room for cap entries holds them
abbrev pub Held : ℕ → tree.Program ℕ → Type 0
Held cap t = (length (entries_of t) ≤ 1024) × (length (entries_of t) ≤ cap)

-- the nodes stand over the front of the table as it was, or the refusal is the outcome's
abbrev pub Nodes : List ℕ → List Entry → List Entry → Result ℕ Refusal → Type 0
Nodes bs T T' (Ok n) = (s : Listing) × (outcome (length T) bs ≡ accepted s) × (length s.entries ≡ n) × (T' ≡ laid s.entries T)
Nodes bs T T' (Err e) = outcome (length T) bs ≡ refused (number_of e.question) e.place
